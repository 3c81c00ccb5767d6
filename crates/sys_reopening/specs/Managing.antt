-- The file manager over the lists of the five areas, and what a crash leaves of a call of it.
use Rattle.std.specs.Prelude.{◌≡◌, List, ◌++◌, Some, Ok}
use Rattle.dl_areas.specs.Lists.{AreKept, AreReady, HasLists, Journals, Lists, puts}
use Rattle.dl_base.specs.Outside.{AtEveryMoment, CrashState, Outside}
use Rattle.fm_manager.specs.Managed.{Managed, as_writes, folds_with, with_managed}
use Rattle.meaning_areas.specs.Areas.{folds_of}
use Rattle.meaning_areas.specs.Commits.{Commits}
use Rattle.meaning_areas.specs.Copies.{Backup}
use Rattle.meaning_areas.specs.Lists.{Folds, Written, folds_on}
use Rattle.sys_owners.specs.Owned.{AreFolded}
use Rattle.sys_recovery.specs.Left.{areas_of}

-- THE MANAGER STANDS OVER THESE LISTS, beside these commits and backups: they stand for what it has in memory, its journals are among the
-- five, whose closing gates are there, and each area has its list, whatever a crash leaves of it
pub record StandsOver (lists : Lists) (rows : Commits) (backups : List Backup) (js : Journals) (m : Managed) (o : Outside) : Type 0 where
  pub folded : AreFolded lists (folds_with rows backups m)
  pub its : with_managed m js ≡ js
  pub ready : AreReady js o
  pub kept : AreKept js lists o

-- A MOMENT OF A CALL that writes these records over lists that stand for this: the areas have the lists with the first of the records, and
-- read as what these lead to; and nothing more was told
pub record LeavesLed (lists : Lists) (f : Folds) (xs : List Written) (o : Outside) (p : CrashState) : Type 0 where
  pub told : o.told ≡ Some p.told
  pub front : List Written
  pub rest : List Written
  pub parts : front ++ rest ≡ xs
  pub has : HasLists (puts (as_writes front) lists) p
  pub later : Folds
  pub leads : folds_on (Some f) front ≡ Some later
  pub folded : AreFolded (puts (as_writes front) lists) later
  pub reads : folds_of (areas_of p) ≡ Ok later

-- A CALL OF THE MANAGER LEADS ON: each of its moments is such a one; and where it ends with no fault, all of its records are there and the
-- manager behind it stands over the lists with them
pub record LeadsOn (lists : Lists) (rows : Commits) (backups : List Backup) (js : Journals) (m n : Managed) (xs : List Written) (NoFault : Type 0) (o e : Outside) : Type 0 where
  pub moments : AtEveryMoment (LeavesLed lists (folds_with rows backups m) xs o) o e
  pub done : NoFault → StandsOver (puts (as_writes xs) lists) rows backups (with_managed n js) n e
