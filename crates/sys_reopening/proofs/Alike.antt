-- WHAT A STOPPED OPENING LEAVES stands for the same but for the numbers of openings.
use Rattle.std.proofs.Common.{◌≡◌, inl, inr, ℕ, List, ◌++◌, Ok, Some, ◌∙◌, ap}
use Rattle.dl_areas.specs.Lists.{HasLists, Lists, puts}
use Rattle.dl_areas.specs.Opening.{IsInOpening}
use Rattle.dl_base.specs.Outside.{CrashState, IsLawful, Outside}
use Rattle.dl_base.specs.declared.area.Area.{Area}
use Rattle.dl_base.specs.declared.area.Area.TheVariants as areas
use Rattle.dl_journal.specs.Records.{records}
use Rattle.fm_manager.specs.Managed.{AreSpelled, as_writes}
use Rattle.meaning_areas.specs.Areas.{Areas, AreasStand, rows_of}
use Rattle.meaning_areas.specs.Lists.{Folds, Written, folds_on}
use Rattle.meaning_areas.specs.Stands.{IsStand, Stored, stored_of}
use Rattle.meaning_history.specs.Reached.{HasPast}
use Rattle.meaning_opening.specs.Fronts.{opened_by, without_openings}
use Rattle.meaning_system.specs.Writes.{opening}
use Rattle.sys_opening.specs.Begun.{AreFound, IsOfOpening, LeavesSpelled}
use Rattle.sys_owners.specs.Owned.{AreFolded}
use Rattle.sys_recovery.proofs.Reading.{same-lists-stand}
use Rattle.sys_recovery.specs.Left.{areas_by, areas_of}
use Rattle.sys_reopening.proofs.Finding.{found-are-told, found-stand, found_bytes}
use Rattle.sys_reopening.specs.Again.{EveryImageStandsAlike, StandAlike}

-- the laws that it rests on
pub record Laws : Type 0 where
  pub past : (bodies : List (List ℕ)) (f : Folds) (s : Stored) → rows_of bodies ≡ Ok f.rows → IsStand f s → HasPast s
  pub fronts : (f : Folds) (x : Stored) → IsStand f x → HasPast x → (front rest : List Written) → front ++ rest ≡ opening f → (later : Folds) × (folds_on (Some f) front ≡ Some later) × IsStand later (opened_by x front)
  pub same : (x : Stored) (front : List Written) → without_openings (opened_by x front) ≡ without_openings x
  pub one : (x : Areas) (s t : Stored) → AreasStand x s → AreasStand x t → s ≡ t
  pub folded : (lists : Lists) (f later : Folds) (xs : List Written) → AreFolded lists f → folds_on (Some f) xs ≡ Some later → AreSpelled xs → AreFolded (puts (as_writes xs) lists) later
  pub stand : (lists : Lists) (f : Folds) (x : Stored) (p : CrashState) → AreFolded lists f → IsStand f x → HasLists lists p → AreasStand (areas_of p) x

module _ (laws : Laws) (lists : Lists) (f : Folds) (o : Outside) where
  -- with some of its records
  pub left-alike : (p : CrashState) → AreFolded lists f → IsStand f (stored_of f) → LeavesSpelled lists (opening f) o p → StandAlike (areas_of p) (stored_of f)
  left-alike p folded stand left =
      let x : Stored = stored_of f in
      let (later, leads, stands) = laws.fronts f x stand (laws.past (lists areas.Rows) f x folded.rows stand) left.front left.rest left.parts in
      record {
        part = opened_by x left.front;
        stand = laws.stand (puts (as_writes left.front) lists) later (opened_by x left.front) p (laws.folded lists f later left.front folded leads left.spelled) stands left.has;
        alike = laws.same x left.front;
      }

  module _ (lawful : IsLawful o) (s : Stored) (found : AreFound lists f o) (every : EveryImageStandsAlike o s) where
    -- the lists that were found stand for what every image does
    lists-alike : without_openings (stored_of f) ≡ without_openings s
    lists-alike =
        let y = every (found_bytes lists f o found) (λ a. lawful.as_it_reads a (found.read a).0 (found.read a).1) in
        ap without_openings (laws.one (areas_by (found_bytes lists f o found)) (stored_of f) y.part (found-stand lists f o found (areas_by (found_bytes lists f o found)) (found-are-told lists f o found)) y.stand) ∙ y.alike

    -- at any moment
    pub moment-alike : ((p : CrashState) → IsInOpening o p → (q : Area → List ℕ) × ((a : Area) → o.image a (q a)) × ((a : Area) → records (q a) ≡ records (p.areas a)))
        → (p : CrashState) → IsOfOpening lists (opening f) o p → StandAlike (areas_of p) s
    moment-alike begin p (inl before) =
        let q = begin p before in
        let y = every q.0 q.1 in
        record { part = y.part; stand = same-lists-stand q.0 p.areas q.2 y.part y.stand; alike = y.alike }
    moment-alike begin p (inr left) =
        let y = left-alike p found.folded found.stand left in
        record { part = y.part; stand = y.stand; alike = y.alike ∙ lists-alike }
