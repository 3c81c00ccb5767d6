-- Numbers that transactions have had.
use Rattle.std.proofs.Common.{◌≡◌, ℕ, ◌==◌, ◌||◌, List, [], ◌∷◌, ◌++◌, Bool, true, false, cond, nat_lt, Option, Some, None, is_some, refl, sym, ◌∙◌, ap}
use Rattle.meaning_areas.specs.Commits.{Commit, commit_of}
use Rattle.meaning_settling.proofs.KeyedLaws.{false_true}
use Rattle.meaning_merge.specs.History.{is_used}

commit-more : (q : ℕ) (d : Commit) (cs : List Commit) → is_some (commit_of q cs) ≡ true → is_some (commit_of q (cs ++ d ∷ [])) ≡ true
commit-more q d [] some = absurd (false_true some)
commit-more q d (c ∷ cs) some = by (c.tx == q) some (λ h. commit-more q d cs h)
  where
    by : (b : Bool) → is_some (cond b (Some c) (commit_of q cs)) ≡ true → (is_some (commit_of q cs) ≡ true → is_some (commit_of q (cs ++ d ∷ [])) ≡ true) → is_some (cond b (Some c) (commit_of q (cs ++ d ∷ []))) ≡ true
    by true e go = refl
    by false e go = go e

either : (a b : Bool) → (a || b) ≡ false → (a ≡ false) × (b ≡ false)
either true b e = absurd cc
either false b e = (refl, e)

pub used-more : (first q : ℕ) (d : Commit) (cs : List Commit) → is_used first cs q ≡ true → is_used first (cs ++ d ∷ []) q ≡ true
used-more first q d cs used = by (nat_lt q first) used
  where
    by : (b : Bool) → (b || is_some (commit_of q cs)) ≡ true → (b || is_some (commit_of q (cs ++ d ∷ []))) ≡ true
    by true e = refl
    by false e = commit-more q d cs e

pub unused-none : (first : ℕ) (cs : List Commit) (q : ℕ) → is_used first cs q ≡ false → commit_of q cs ≡ None
unused-none first cs q e = none (commit_of q cs) (either (nat_lt q first) (is_some (commit_of q cs)) e).1
  where
    none : (o : Option Commit) → is_some o ≡ false → o ≡ None
    none None e = refl
    none (Some c) e = absurd cc

pub used-own : (first q : ℕ) (d : Commit) (cs : List Commit) → is_some (commit_of q (cs ++ d ∷ [])) ≡ true → is_used first (cs ++ d ∷ []) q ≡ true
used-own first q d cs some = ap (λ b. nat_lt q first || b) some ∙ or_true (nat_lt q first)
  where
    or_true : (b : Bool) → (b || true) ≡ true
    or_true true = refl
    or_true false = refl

pub not-used : (first : ℕ) (cs : List Commit) (q tx : ℕ) → is_used first cs q ≡ true → q ≡ tx → is_used first cs tx ≡ false → ⊥
not-used first cs q tx used is unused = false_true (sym unused ∙ ap (is_used first cs) (sym is) ∙ used)
