-- What a run of a script does, at each moment, and what it leaves.
use Rattle.std.specs.Prelude.{◌≡◌, ◌⊎◌, ℕ, List, ◌++◌, Option, Some, None}
use Rattle.std.specs.Str.Lines.{lines}
use Rattle.dl_areas.specs.Lists.{HasLists, Journals, Lists, all_grown, puts}
use Rattle.dl_areas.specs.Opening.{IsInOpening, journals_with}
use Rattle.dl_areas.specs.Writing.{fitting, full_in}
use Rattle.dl_base.specs.Outside.{AtEveryMoment, CrashState, FaultCounted, Now, Outside, extended}
use Rattle.dl_base.specs.declared.area.Area.{Area}
use Rattle.dl_base.specs.declared.fault.Full.{Full}
use Rattle.dl_base.specs.declared.step.Settings.{Settings}
use Rattle.fm_manager.specs.Managed.{as_writes}
use Rattle.meaning_areas.specs.Areas.{Areas, StandForNothing}
use Rattle.meaning_areas.specs.Lists.{Folds}
use Rattle.meaning_areas.specs.Stands.{stored_of}
use Rattle.meaning_run.specs.Running.{AreRead, IsAtEnd, Read, Run, after, first_run, written}
use Rattle.meaning_system.specs.Machine.{start}
use Rattle.meaning_system.specs.Recovering.{Recovers}
use Rattle.meaning_system.specs.Writes.{opening}
use Rattle.run_args.specs.Words.{settings}
use Rattle.sys_opening.specs.Begun.{AreFound, IsOfOpening}
use Rattle.sys_owners.specs.Owned.{AreTold}
use Rattle.sys_recovery.specs.Left.{areas_of}
use Rattle.sys_run.specs.Running.{IsFullIn, IsInRun}

-- A run: the settings that its words tell, its script, what the lines of that are read as, and the lists that the five areas have when it
-- begins, with what these stand for.
pub record Begun : Type 0 where
  pub given : Settings
  pub script : List ℕ
  pub read : List Read
  pub lists : Lists
  pub folds : Folds

-- this is the run of these settings, of a source that has these bytes, and of what stands outside
pub record BeginsWith (given : Settings) (rest : Option (List ℕ)) (o : Outside) (run : Begun) : Type 0 where
  pub given_is : run.given ≡ given
  pub source_has : rest ≡ Some run.script
  pub lines_are : AreRead (lines run.script) run.read
  pub areas_have : AreFound run.lists run.folds o

-- this is the run of these words, of a source that has these bytes, and of what stands outside
pub record Begins (words : List (List ℕ)) (rest : Option (List ℕ)) (o : Outside) (run : Begun) : Type 0 where
  pub words_tell : settings words ≡ Some run.given
  pub source_has : rest ≡ Some run.script
  pub lines_are : AreRead (lines run.script) run.read
  pub areas_have : AreFound run.lists run.folds o

-- THE RUN OF THE MACHINE, from the state with which it begins over what the areas stand for
abbrev pub run_of : Begun → Run
run_of run = first_run run.read (start run.given (stored_of run.folds))

-- the journals and the lists behind the opening, all of whose records fit
abbrev pub journals_behind : Begun → Journals
journals_behind run = all_grown (as_writes (opening run.folds)) (journals_with run.given.limit run.lists)

abbrev pub lists_behind : Begun → Lists
lists_behind run = puts (as_writes (opening run.folds)) run.lists

abbrev pub OpeningFits : Begun → Type 0
OpeningFits run = full_in (journals_with run.given.limit run.lists) (as_writes (opening run.folds)) ≡ None

-- A MOMENT: one of the opening, or one of the run behind it, which recovers to the state behind some turns: those whose records are all there,
-- and the next one too once the commit of its restore is
abbrev pub IsInside : Begun → Outside → CrashState → Type 0
IsInside run o p = IsOfOpening run.lists (opening run.folds) o p ⊎ (OpeningFits run × IsInRun (journals_behind run) (lists_behind run) (run_of run) o.told p)

-- A WHOLE RUN: behind some turns each line is told; all that was told then is what the run tells; each area has what it had, and the
-- records of the opening and of those turns, all of which fit; and whatever a crash leaves recovers to the state behind them
pub record IsWholeRun (run : Begun) (o n : Outside) : Type 0 where
  pub count : ℕ
  pub ended : IsAtEnd (after count (run_of run))
  pub told : n.told ≡ extended (after count (run_of run)).told o.told
  pub lists : (p : CrashState) → Now n p → HasLists (puts (as_writes (opening run.folds ++ written count (run_of run))) run.lists) p
  pub recovers : (p : CrashState) → Now n p → Recovers (areas_of p) (after count (run_of run)).state
  pub fits : full_in (journals_with run.given.limit run.lists) (as_writes (opening run.folds ++ written count (run_of run))) ≡ None

-- what is full: a record of the opening: nothing is told, and a crash leaves those records of the opening that fit; or, where all of these do,
-- one of the step in progress
pub record IsFullOpening (run : Begun) (full : Full) (o n : Outside) : Type 0 where
  pub full_is : full_in (journals_with run.given.limit run.lists) (as_writes (opening run.folds)) ≡ Some full
  pub told : n.told ≡ o.told
  pub has : (p : CrashState) → Now n p → HasLists (puts (fitting (journals_with run.given.limit run.lists) (as_writes (opening run.folds))) run.lists) p

abbrev pub IsFullAt : Begun → Full → Outside → Outside → Type 0
IsFullAt run full o n = IsFullOpening run full o n ⊎ (OpeningFits run × IsFullIn (journals_behind run) (lists_behind run) (run_of run) o.told full n)

-- an area is no list of records, or the areas stand for nothing: nothing was written, and nothing told
pub record IsNoStore (area : Area) (place : ℕ) (o n : Outside) : Type 0 where
  pub nothing : (x : Areas) → AreTold x o → StandForNothing x (area, place)
  pub unwritten : AtEveryMoment (IsInOpening o) o n
  pub told : n.told ≡ o.told

-- no call on the bench failed, and no record of the opening or of a step passes the limit or a number
pub record HasRoom (run : Begun) (o n : Outside) : Type 0 where
  pub calm : FaultCounted o n → ⊥
  pub room : (full : Full) → IsFullAt run full o n → ⊥
