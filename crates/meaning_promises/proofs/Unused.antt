-- The number that is drawn next is new.
use Rattle.std.proofs.Common.{◌≡◌, ◌⊎◌, inl, inr, ⊎_elim, ℕ, ◌<◌, ◌≤◌, ◌||◌, nat_lt, List, [], ◌∷◌, Bool, true, false, Option, Some, None, is_some, refl, sym, ap, subst, arith}
use Rattle.std.proofs.lemmas.Bool.{cases_lt}
use Rattle.std.proofs.lemmas.Bool.Decides.{nat_tests}
use Rattle.std.specs.FinMap as maps
use Rattle.dl_base.specs.declared.answer.Answer.{Answer}
use Rattle.dl_base.specs.declared.answer.Answer.TheVariants as answers
use Rattle.dl_base.specs.declared.answer.Refusal.{Refusal}
use Rattle.dl_base.specs.declared.answer.Refusal.TheVariants as reasons
use Rattle.dl_base.specs.declared.step.Step.TheVariants as steps
use Rattle.dl_base.specs.declared.value.LinkRow.{LinkRow}
use Rattle.meaning_areas.proofs.Tables.{in-commit, not_none, some_none}
use Rattle.meaning_areas.specs.Branches.{Branch}
use Rattle.meaning_areas.specs.Commits.{Commit, commit_of}
use Rattle.meaning_areas.specs.Lists.{Folds}
use Rattle.meaning_areas.specs.Stands.{IsCommit, past, txs_of}
use Rattle.meaning_history.specs.Reached.{HasHistory}
use Rattle.meaning_history.specs.Sound.{AreSound}
use Rattle.meaning_merge.proofs.Numbers.{each-in}
use Rattle.meaning_merge.specs.History.{is_used}
use Rattle.meaning_merge.specs.Touching.{In}
use Rattle.meaning_settling.specs.Settled.{IsIn}
use Rattle.meaning_tables.specs.Links.{links}
use Rattle.meaning_tables.specs.Tables.{Tables}
use Rattle.meaning_system.proofs.Stepping.{next-number}
use Rattle.meaning_system.specs.Machine.{begin, drawing, step}
use Rattle.meaning_system.specs.State.{State, Txn, is_decided, number_of, txn_of}
use Rattle.meaning_promises.specs.Promises.{IsNew}

-- the next number lies behind the last one
below : (s : State) (tx : ℕ) → tx ≤ number_of s → tx < number_of (drawing s)
below s tx le = let next = next-number s.rows_opening s.drawn in omega (arith, le, next)

-- commits

its-number : (c : Commit) (cs : List Commit) → IsCommit c cs → IsIn c.tx (txs_of cs)
its-number c [] is = absurd is
its-number c (d ∷ ds) is = ⊎_elim (λ (e : c ≡ d). inl (ap (λ (x : Commit). x.tx) e)) (λ (later : IsCommit c ds). inr (its-number c ds later)) is

module _ (first : ℕ) (s : State) (has : HasHistory first s) where
  committed : (tx : ℕ) → is_some (commit_of tx s.commits) ≡ true → tx ≤ number_of s
  committed tx some = ⊎_elim
      (λ (lt : number_of s < tx). absurd (some_none (commit_of tx s.commits) some (has.commits tx lt)))
      (λ (le : tx ≤ number_of s). le)
      (cases_lt (number_of s) tx)

  -- links

  under : (tx n : ℕ) → nat_lt tx first ≡ true → first ≤ n → tx ≤ n
  under tx n lt le = grind (arith, nat_tests)

  used : (tx : ℕ) → is_used first s.commits tx ≡ true → tx ≤ number_of s
  used tx is = by (nat_lt tx first) refl is
    where
      by : (b : Bool) → nat_lt tx first ≡ b → (b || is_some (commit_of tx s.commits)) ≡ true → tx ≤ number_of s
      by true lt e = under tx (number_of s) lt has.drawn
      by false lt e = committed tx e

  of-past : (k : ℕ) (tables : Tables) (l : LinkRow) → past [] s.commits k ≡ Some tables → In l (links tables) → l.link.tx ≤ number_of s
  of-past k tables l at among = used l.link.tx (each-in (λ x. is_used first s.commits x.link.tx ≡ true) (links tables) l (has.history.drawn k tables at) among)

  of-copy : (tx : ℕ) (t : Txn) (l : LinkRow) → maps.get s.txs tx ≡ Some t → is_decided t.phase ≡ false → In l (links t.copy) → l.link.tx ≤ number_of s
  of-copy tx t l at live among =
      let base = has.bases tx t at in
      ⊎_elim
      (λ (old : In l (links t.base)). of-past base.0 t.base l base.1 old)
      (λ (own : l.link.tx ≡ tx). subst (λ (n : ℕ). n ≤ number_of s) (sym own) (has.numbers tx t at))
      (each-in (λ x. In x (links t.base) ⊎ (x.link.tx ≡ tx)) (links t.copy) l (has.transactions tx t at live).drawn among)

-- branches
branched : (first : ℕ) (f : Folds) (s : State) → AreSound first f s → (tx : ℕ) (b : Branch) → maps.get f.links.table tx ≡ Some b → tx ≤ number_of s
branched first f s sound tx b at = ⊎_elim
    (λ (lt : number_of s < tx). absurd (not_none b (maps.get f.links.table tx) at (sound.follows.joint.numbers tx lt).2))
    (λ (le : tx ≤ number_of s). le)
    (cases_lt (number_of s) tx)

-- NUMBERS ARE NEW
pub all-new : (first : ℕ) (f : Folds) (s : State) → AreSound first f s → IsNew (number_of (drawing s)) f s
all-new first f s sound = record {
  commits = λ c among. below s c.tx (committed first s sound.history c.tx (in-commit c.tx s.commits (its-number c s.commits among)));
  transactions = λ tx t at. below s tx (sound.history.numbers tx t at);
  branches = λ tx b at. below s tx (branched first f s sound tx b at);
  links_of_commits = λ k tables l at among. below s l.link.tx (of-past first s sound.history k tables l at among);
  links_of_copies = λ tx t l at live among. below s l.link.tx (of-copy first s sound.history tx t l at live among);
}

-- a Begin answers it

abbrev IsBegun : Answer → Type 0
IsBegun (answers.Begun n) = Unit {0}
IsBegun _ = ⊥

abbrev pub number_in : Answer → ℕ
number_in (answers.Begun n) = n
number_in _ = 0

pub refused-begun : (why : Refusal) (n : ℕ) → answers.Refused why ≡ answers.Begun n → ⊥
refused-begun why n e = subst IsBegun (sym e) tt

pub begun : (s : State) (session n : ℕ) → (step s (steps.Begin session)).0 ≡ answers.Begun n → n ≡ number_of (drawing s)
unfolding step
begun s session n e = by (txn_of s session) e
  where
    by : (o : Option (ℕ × Txn)) → (begin s session o).0 ≡ answers.Begun n → n ≡ number_of (drawing s)
    by (Some x) e = absurd (refused-begun (reasons.InTransaction x.0) n e)
    by None e = sym (ap number_in e)
