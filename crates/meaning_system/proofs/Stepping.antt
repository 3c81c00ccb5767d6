-- Steps of the machine keep the joint invariant, with the lists behind what they write.
use Rattle.std.proofs.Common.{◌≡◌, ℕ, ◌+◌, ◌*◌, ◌^◌, ◌<◌, ◌==◌, List, [], ◌∷◌, ◌++◌, Bool, true, false, not, cond, ◌&&◌, ◌||◌, Some, None, refl, sym, ◌∙◌, ap, subst, arith}
use Rattle.std.proofs.lemmas.Bool.Decides.{nat_tests}
use Rattle.std.specs.FinMap as maps
use Rattle.std.specs.List.{list_any}
use Rattle.dl_base.specs.declared.step.Phase.TheVariants as phases
use Rattle.dl_base.specs.declared.value.LinkNo.{LinkNo}
use Rattle.dl_base.specs.declared.value.LinkRow.{LinkRow}
use Rattle.dl_codec.specs.declared.links.BranchPhase.TheVariants as branch_phases
use Rattle.meaning_areas.specs.Branches.{branch}
use Rattle.meaning_areas.specs.Commits.{tables_after}
use Rattle.meaning_areas.specs.Core.{active, Work, core_stored, no_moved, with_work}
use Rattle.meaning_areas.specs.Lists.{Folds}
use Rattle.meaning_areas.specs.Joint.{Joint}
use Rattle.meaning_areas.specs.Stands.{kept_of, AreDrawn, IsWhole}
use Rattle.meaning_areas.proofs.Steps.{joint-begun, joint-prepared, joint-voted, joint-aborted}
use Rattle.meaning_areas.proofs.Deciding.{joint-decided, joint-finished}
use Rattle.meaning_settling.specs.Apart.{IsReady}
use Rattle.meaning_settling.specs.Settling.{on, held_after, settle_one}
use Rattle.meaning_tables.specs.Links.{links, lacking, same_number}
use Rattle.meaning_tables.specs.Tables.{Tables}
use Rattle.meaning_system.specs.CoreOf.{work_by, work_of, work_at, core_of}
use Rattle.meaning_system.specs.Machine.{new_txn, drawing, with_phase, begun, commit_by, committed, settled_by}
use Rattle.meaning_system.specs.State.{Txn, State, tables_of, number_of, moved_of, has_links, kept_in, with_txn, without_txn}
use Rattle.meaning_system.proofs.Cores.{works-insert, works-remove}
use Rattle.meaning_areas.specs.Moving.{with_table, with_decision, with_finish, core_with, core_decided, core_finished}

-- what differs in nothing gives and takes nothing

pub same-self : (n : LinkNo) → same_number n n ≡ true
same-self n = both (n.tx == n.tx) (n.k == n.k) (test n.tx) (test n.k)
  where
    test : (x : ℕ) → (x == x) ≡ true
    test x = grind (arith, nat_tests)

    both : (a b : Bool) → a ≡ true → b ≡ true → (a && b) ≡ true
    both true b e f = f
    both false b e f = absurd cc

lacking-within : (xs ys : List LinkRow) → ((x : LinkRow) → list_any (λ y. same_number x.link y.link) xs ≡ true → list_any (λ y. same_number x.link y.link) ys ≡ true) → lacking xs ys ≡ []
lacking-within [] ys within = refl
lacking-within (x ∷ xs) ys within =
    ap (λ b. cond (not b) (x ∷ lacking xs ys) (lacking xs ys)) (within x (ap (λ b. b || list_any (λ (y : LinkRow). same_number x.link y.link) xs) (same-self x.link)))
    ∙ lacking-within xs ys (λ z e. within z (right (same_number z.link x.link) e))
  where
    right : (a : Bool) {b : Bool} → b ≡ true → (a || b) ≡ true
    right true e = refl
    right false e = e

pub nothing : (t : Tables) → lacking (links t) (links t) ≡ []
nothing t = lacking-within (links t) (links t) (λ x e. e)

-- BEGIN
pub begun-moved : (t : Tables) → moved_of (new_txn t) ≡ no_moved
begun-moved t = λ i. record { gives = nothing t i; takes = nothing t i; fill = false }

begun-work : (s : State) (t : Tables) → work_of s (new_txn t) ≡ record { stage = active; branch = false; moved = no_moved }
begun-work s t = ap (work_by phases.Active) (begun-moved t)

pub next-number : (o d : ℕ) → o * 2 ^ 32 + (d + 1) ≡ o * 2 ^ 32 + d + 1
next-number o d = omega arith

begun-core : (s : State) (session : ℕ) → core_of (begun s session).1 ≡ core_with (core_of s) (with_work (core_of s).works (number_of s + 1) (Some (record { stage = active; branch = false; moved = no_moved }))) (number_of s + 1)
begun-core s session =
    let n : number_of (drawing s) ≡ number_of s + 1 = next-number s.rows_opening s.drawn in
    (λ i. core_with (core_of s) (works-insert (drawing s) (number_of (drawing s)) (new_txn (tables_of s)) i) (number_of (drawing s)))
    ∙ (λ i. core_with (core_of s) (with_work (core_of s).works (n i) (Some (begun-work s (tables_of s) i))) (n i))

pub state-begun : (f : Folds) (s : State) (session : ℕ) → Joint f (core_of s) → number_of s + 1 < (s.rows_opening + 1) * 2 ^ 32 → Joint f (core_of (begun s session).1)
state-begun f s session joint small = subst (Joint f) (sym (begun-core s session)) (joint-begun f (core_of s) joint small)

-- one transaction in another phase
pub phase-core : (s : State) (tx : ℕ) (t : Txn) → core_of (with_txn s tx t) ≡ core_with (core_of s) (with_work (core_of s).works tx (Some (work_of s t))) (number_of s)
phase-core s tx t = λ i. core_with (core_of s) (works-insert s tx t i) (number_of s)

pub gone-core : (s : State) (tx : ℕ) → core_of (without_txn s tx) ≡ core_with (core_of s) (with_work (core_of s).works tx None) (number_of s)
gone-core s tx = λ i. core_with (core_of s) (works-remove s tx i) (number_of s)

module _ (f : Folds) (s : State) (joint : Joint f (core_of s)) (tx : ℕ) (t : Txn) where
  work-is : maps.get s.txs tx ≡ Some t → (core_of s).works tx ≡ Some (work_of s t)
  work-is is = ap (work_at s) is

  -- PREPARE of a transaction that is not doomed: with a branch, Links has its Prepared
  pub state-prepared : maps.get s.txs tx ≡ Some t → work_of s t ≡ work_by phases.Active (moved_of t) → has_links (moved_of t) ≡ true → AreDrawn f.rows.opening (moved_of t).gives → AreDrawn f.rows.opening (moved_of t).takes
      → Joint (with_table f (maps.insert f.links.table tx (branch (moved_of t) branch_phases.Prepared))) (core_of (with_txn s tx (with_phase t phases.Prepared)))
  state-prepared is live has given taken =
      subst (Joint (with_table f (maps.insert f.links.table tx (branch (moved_of t) branch_phases.Prepared)))) (sym (phase-core s tx (with_phase t phases.Prepared)))
      (joint-prepared f (core_of s) joint tx (work_by phases.Active (moved_of t)) (work-is is ∙ ap (λ (w : Work). Some w) live) refl has given taken)

  -- and without one nothing is written
  pub state-voted : maps.get s.txs tx ≡ Some t → work_of s t ≡ work_by phases.Active (moved_of t) → has_links (moved_of t) ≡ false → Joint f (core_of (with_txn s tx (with_phase t phases.Prepared)))
  state-voted is live none =
      subst (Joint f) (sym (phase-core s tx (with_phase t phases.Prepared))) (joint-voted f (core_of s) joint tx (work_by phases.Active (moved_of t)) (work-is is ∙ ap (λ (w : Work). Some w) live) refl none)

  -- ROLLBACK of a prepared transaction with a branch, or a Conflict at Decide: Links has its Aborted
  pub state-aborted : maps.get s.txs tx ≡ Some t → work_of s t ≡ work_by phases.Prepared (moved_of t) → has_links (moved_of t) ≡ true
      → Joint (with_table f (maps.insert f.links.table tx (branch (moved_of t) branch_phases.Aborted))) (core_of (without_txn s tx))
  state-aborted is waits has =
      subst (Joint (with_table f (maps.insert f.links.table tx (branch (moved_of t) branch_phases.Aborted)))) (sym (gone-core s tx))
      (joint-aborted f (core_of s) joint tx (work_by phases.Prepared (moved_of t)) (work-is is ∙ ap (λ (w : Work). Some w) waits) refl has)

  -- DECIDE: Rows has its Commit
  decided-core : core_of (committed s tx t) ≡ core_decided (core_of s) (commit_by s tx t) (work_by phases.Prepared (moved_of t))
  decided-core = λ i. record {
    commits = s.commits ++ commit_by s tx t ∷ [];
    files = s.files;
    copies = s.copies;
    backups = s.backups;
    rows_opening = s.rows_opening;
    links_opening = s.links_opening;
    works = works-insert s tx (with_phase t phases.Decided) i;
    drawn = number_of s;
  }

  pub state-decided : maps.get s.txs tx ≡ Some t → work_of s t ≡ work_by phases.Prepared (moved_of t)
      → (commit_by s tx t).gives ≡ (moved_of t).gives → (commit_by s tx t).takes ≡ (moved_of t).takes
      → ((p : List ℕ) → on (links (commit_by s tx t).tables) p ≡ held_after (moved_of t) p (on (links (tables_after [] f.rows.commits)) p))
      → IsReady (moved_of t) (kept_of f) → AreDrawn f.rows.opening (links (commit_by s tx t).tables) → IsWhole (core_stored (core_decided (core_of s) (commit_by s tx t) (work_by phases.Prepared (moved_of t))))
      → Joint (with_decision f (commit_by s tx t)) (core_of (committed s tx t))
  state-decided is waits given taken moved ready drawn whole =
      subst (Joint (with_decision f (commit_by s tx t))) (sym decided-core)
      (joint-decided f (core_of s) joint (commit_by s tx t) (work_by phases.Prepared (moved_of t)) (work-is is ∙ ap (λ (w : Work). Some w) waits) refl refl given taken refl refl moved ready drawn whole)

  -- FINISH of a commit with a branch
  finished-core : core_of (without_txn (settled_by s t) tx) ≡ core_finished (core_of s) tx (moved_of t)
  finished-core = λ i. record {
    commits = s.commits;
    files = (settle_one (moved_of t) (kept_in s)).files;
    copies = (settle_one (moved_of t) (kept_in s)).copies;
    backups = s.backups;
    rows_opening = s.rows_opening;
    links_opening = s.links_opening;
    works = works-remove s tx i;
    drawn = number_of s;
  }

  pub state-finished : maps.get s.txs tx ≡ Some t → work_of s t ≡ work_by phases.Decided (moved_of t) → has_links (moved_of t) ≡ true → Joint (with_finish f tx (moved_of t)) (core_of (without_txn (settled_by s t) tx))
  state-finished is waits has =
      subst (Joint (with_finish f tx (moved_of t))) (sym finished-core)
      (joint-finished f (core_of s) joint tx (work_by phases.Decided (moved_of t)) (work-is is ∙ ap (λ (w : Work). Some w) waits) refl has)
