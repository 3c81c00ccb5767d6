-- Branches that have not ended, and room for their ends.
use Rattle.std.proofs.Common.{◌≡◌, ℕ, ◌+◌, ◌<◌, ◌≤◌, ◌==◌, ◌&&◌, Bool, true, false, not, cond, List, [], ◌∷◌, ◌++◌, length, Some, None, refl, sym, ap, subst, ◌∙◌, arith}
use Rattle.std.proofs.lemmas.Bool.{eq-eqb}
use Rattle.std.proofs.lemmas.Bool.Decides.{nat_tests}
use Rattle.meaning_areas.specs.Commits.{Commit, Commits, commit_of, has_number, with_ended}
use Rattle.db_store.proofs.HistoryLaws.{ends-by}
use Rattle.db_store.proofs.LogLaws.{length-commits}
use Rattle.db_store.specs.Log.{commits_from, has_branch, is_open, open_branches}
use Rattle.db_store.specs.Store.{CanEnd}
use Rattle.db_store.specs.declared.log.Entry.{Entry}

none-some : {A : Type 0} (t : A) → None ≡ Some t → ⊥
none-some t e = cc

same : (a b : ℕ) → (a == b) ≡ true → a ≡ b
same a b e = grind (arith, nat_tests)

false_true : false ≡ true → ⊥
false_true e = cc

-- numbers with one more behind them

more-ended : (x tx : ℕ) (ended : List ℕ) → has_number x ended ≡ true → has_number x (ended ++ tx ∷ []) ≡ true
more-ended x tx [] e = absurd (false_true e)
more-ended x tx (y ∷ ys) e = by (y == x) e (more-ended x tx ys)
  where
    by : (b : Bool) → cond b true (has_number x ys) ≡ true → (has_number x ys ≡ true → has_number x (ys ++ tx ∷ []) ≡ true) → cond b true (has_number x (ys ++ tx ∷ [])) ≡ true
    by true is go = refl
    by false is go = go is

last-ended : (tx : ℕ) (ended : List ℕ) → has_number tx (ended ++ tx ∷ []) ≡ true
last-ended tx [] = ap (λ b. cond b true false) (eq-eqb tx tx refl)
last-ended tx (y ∷ ys) = by (y == tx) (last-ended tx ys)
  where
    by : (b : Bool) → has_number tx (ys ++ tx ∷ []) ≡ true → cond b true (has_number tx (ys ++ tx ∷ [])) ≡ true
    by true go = refl
    by false go = go

-- how many branches have not ended

abbrev one : Bool → ℕ
one b = cond b 1 0

no_more : (x y : Bool) (m n : ℕ) → (x ≡ true → y ≡ true) → m ≤ n → one x + m ≤ one y + n
no_more true true m n of le = omega (arith, le)
no_more true false m n of le = absurd (false_true (of refl))
no_more false true m n of le = omega (arith, le)
no_more false false m n of le = omega (arith, le)

still-open : (ended : List ℕ) (tx : ℕ) (c : Commit) → is_open (ended ++ tx ∷ []) c ≡ true → is_open ended c ≡ true
still-open ended tx c e = by c.branch (has_number c.tx ended) (has_number c.tx (ended ++ tx ∷ [])) (more-ended c.tx tx ended) e
  where
    by : (b x y : Bool) → (x ≡ true → y ≡ true) → (b && not y) ≡ true → (b && not x) ≡ true
    by true true true of is = is
    by true true false of is = absurd (false_true (of refl))
    by true false y of is = refl
    by false x y of is = absurd (false_true is)

fewer : (ended : List ℕ) (tx : ℕ) (cs : List Commit) → open_branches (ended ++ tx ∷ []) cs ≤ open_branches ended cs
fewer ended tx [] = omega arith
fewer ended tx (c ∷ cs) = no_more (is_open (ended ++ tx ∷ []) c) (is_open ended c) (open_branches (ended ++ tx ∷ []) cs) (open_branches ended cs) (still-open ended tx c) (fewer ended tx cs)

-- a branch ends
one-fewer : (ended : List ℕ) (tx : ℕ) (cs : List Commit) → has_branch (commit_of tx cs) ≡ true → has_number tx ended ≡ false → open_branches (ended ++ tx ∷ []) cs + 1 ≤ open_branches ended cs
one-fewer ended tx [] has none = absurd (false_true has)
one-fewer ended tx (c ∷ cs) has none = by (c.tx == tx) refl has (λ e. one-fewer ended tx cs e none)
  where
    now : (c.tx == tx) ≡ true → c.branch ≡ true → is_open ended c ≡ true
    now at branch = ap (λ b. b && not (has_number c.tx ended)) branch ∙ ap (λ (x : ℕ). not (has_number x ended)) (same c.tx tx at) ∙ ap not none

    later : (c.tx == tx) ≡ true → c.branch ≡ true → is_open (ended ++ tx ∷ []) c ≡ false
    later at branch =
        ap (λ b. b && not (has_number c.tx (ended ++ tx ∷ []))) branch
        ∙ ap (λ (x : ℕ). not (has_number x (ended ++ tx ∷ []))) (same c.tx tx at) ∙ ap not (last-ended tx ended)

    by : (b : Bool) → (c.tx == tx) ≡ b → has_branch (cond b (Some c) (commit_of tx cs)) ≡ true → (has_branch (commit_of tx cs) ≡ true → open_branches (ended ++ tx ∷ []) cs + 1 ≤ open_branches ended cs)
        → open_branches (ended ++ tx ∷ []) (c ∷ cs) + 1 ≤ open_branches ended (c ∷ cs)
    by true at branch go = let less = fewer ended tx cs in let was = ap one (now at branch) in let is = ap one (later at branch) in omega (arith, less, was, is)
    by false at branch go =
        let rest = go branch in
        let more = no_more (is_open (ended ++ tx ∷ []) c) (is_open ended c) (open_branches (ended ++ tx ∷ []) cs + 1) (open_branches ended cs) (still-open ended tx c) rest in
        omega (arith, more)

-- one commit more, and at most all
open-push : (ended : List ℕ) (cs : List Commit) (c : Commit) → open_branches ended (cs ++ c ∷ []) ≤ open_branches ended cs + 1
open-push ended [] c = by (is_open ended c)
  where
    by : (b : Bool) → one b + 0 ≤ 1
    by true = omega arith
    by false = omega arith
open-push ended (d ∷ ds) c = omega (arith, open-push ended ds c)

pub open-few : (ended : List ℕ) (cs : List Commit) → open_branches ended cs ≤ length cs
open-few ended [] = omega arith
open-few ended (c ∷ cs) = by (is_open ended c) (open-few ended cs)
  where
    by : (b : Bool) → open_branches ended cs ≤ length cs → one b + open_branches ended cs ≤ length (c ∷ cs)
    by true le = omega (arith, le)
    by false le = omega (arith, le)

-- what is asked of a branch that ends

only : (a b : Bool) → (a && not b) ≡ true → (a ≡ true) × (b ≡ false)
only true false e = (refl, refl)
only true true e = absurd (false_true e)
only false b e = absurd (false_true e)

-- an end takes the place that was kept for it, by what is open of the fold

module _ (r : Commits) (opening : ℕ) (cs : List Commit) (ended : List ℕ) (is : record { opening = opening; commits = cs; ended = ended } ≡ r) (tx : ℕ)
    (can : (has_branch (commit_of tx r.commits) && not (has_number tx r.ended)) ≡ true) where
  parts : (has_branch (commit_of tx cs) ≡ true) × (has_number tx ended ≡ false)
  parts = subst (λ (x : Commits). (has_branch (commit_of tx x.commits) ≡ true) × (has_number tx x.ended ≡ false)) (sym is) (only (has_branch (commit_of tx r.commits)) (has_number tx r.ended) can)

  pub end_new : has_number tx ended ≡ false
  end_new = parts.1

  pub end_room : (spare : ℕ) → open_branches ended cs ≤ spare → 0 < spare
  end_room spare le = let less = one-fewer ended tx cs parts.0 parts.1 in omega (arith, less, le)

  pub end_less : (more : List ℕ) → more ≡ ended ++ tx ∷ [] → open_branches more cs + 1 ≤ open_branches ended cs
  end_less more grown = subst (λ (l : List ℕ). open_branches l cs + 1 ≤ open_branches ended cs) (sym grown) (one-fewer ended tx cs parts.0 parts.1)

  pub end_keeps : (more : List ℕ) (spare left : ℕ) → more ≡ ended ++ tx ∷ [] → open_branches ended cs ≤ spare → spare ≤ left + 1 → open_branches more cs ≤ left
  end_keeps more spare left grown le used = let less = end_less more grown in omega (arith, less, le, used)

pub can_end : (r : Commits) (tx : ℕ) → CanEnd r tx → (has_branch (commit_of tx r.commits) && not (has_number tx r.ended)) ≡ true
can_end r tx taken = by (has_branch (commit_of tx r.commits) && not (has_number tx r.ended)) (sym (ends-by r tx (commit_of tx r.commits)) ∙ taken)
  where
    by : (b : Bool) → cond b (Some (with_ended r tx)) None ≡ Some (with_ended r tx) → b ≡ true
    by true e = refl
    by false e = absurd (none-some (with_ended r tx) e)

-- a commit

pub commit_more : (es all : List (ℕ × Entry)) (ended : List ℕ) (commit : Commit) → commits_from 1 [] all ≡ commits_from 1 [] es ++ commit ∷ [] → open_branches ended (commits_from 1 [] all) ≤ open_branches ended (commits_from 1 [] es) + 1
commit_more es all ended commit grown = subst (λ (cs : List Commit). open_branches ended cs ≤ open_branches ended (commits_from 1 [] es) + 1) (sym grown) (open-push ended (commits_from 1 [] es) commit)

pub log_few : (es : List (ℕ × Entry)) (ended : List ℕ) → open_branches ended (commits_from 1 [] es) ≤ length es
log_few es ended = let few = open-few ended (commits_from 1 [] es) in omega (arith, few, length-commits 1 [] es)

length-more : {A : Type 0} (xs : List A) (x : A) → length (xs ++ x ∷ []) ≡ length xs + 1
length-more [] x = refl
length-more (y ∷ ys) x = omega (arith, length-more ys x)

pub log_more : (es all : List (ℕ × Entry)) (e : ℕ × Entry) (ended : List ℕ) (spare : ℕ) → all ≡ es ++ e ∷ [] → length es + 1 ≤ spare → open_branches ended (commits_from 1 [] all) ≤ spare
log_more es all e ended spare grown room = let few = log_few all ended in omega (arith, few, room, ap length grown, length-more es e)

pub room_same : (es fs : List (ℕ × Entry)) (ns ms : List ℕ) (spare more : ℕ) → fs ≡ es → ms ≡ ns → spare ≤ more → open_branches ns (commits_from 1 [] es) ≤ spare → open_branches ms (commits_from 1 [] fs) ≤ more
room_same es fs ns ms spare more same others le held =
    subst (λ (l : List (ℕ × Entry)). open_branches ms (commits_from 1 [] l) ≤ more) (sym same)
    (subst (λ (l : List ℕ). open_branches l (commits_from 1 [] es) ≤ more) (sym others) (omega (arith, le, held)))
