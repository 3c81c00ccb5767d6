-- How an engine, its sessions and five areas go with a run, and what a crash leaves of it.
use Rattle.std.specs.Prelude.{◌≡◌, ℕ, suc, ◌+◌, if◌then◌else◌, List, [], ◌∷◌, ◌++◌, length, Option, Some, None}
use Rattle.dl_areas.specs.Lists.{AreKept, AreReady, HasLists, Journals, Lists, all_grown, puts}
use Rattle.dl_areas.specs.Writing.{fitting, full_in}
use Rattle.dl_base.specs.Outside.{CrashState, Now, Outside, extended}
use Rattle.dl_base.specs.declared.fault.Full.{Full}
use Rattle.dl_base.specs.declared.step.Step.{Step}
use Rattle.fm_manager.specs.Managed.{as_writes}
use Rattle.meaning_areas.specs.Lists.{Folds, Written}
use Rattle.meaning_history.specs.Sound.{AreSound}
use Rattle.meaning_run.specs.Running.{IsRead, Read, Run, after, next_step, step_writes, turn, written}
use Rattle.meaning_script.specs.Actors.{sessions}
use Rattle.meaning_system.specs.Recovering.{Recovers}
use Rattle.meaning_system.specs.State.{State}
use Rattle.meaning_system.specs.Writes.{writes}
use Rattle.sys_core.specs.Standing.{IsOf}
use Rattle.sys_core.specs.Steps.{records_of}
use Rattle.sys_core.specs.declared.engine.Engine.{Engine}
use Rattle.sys_owners.specs.Owned.{AreFolded, journals_of}
use Rattle.sys_recovery.specs.Left.{areas_of, has_commit}
use Rattle.sys_run.specs.Sessions.{AreShown}
use Rattle.sys_run.specs.declared.sessions.Sessions.{Sessions}

-- what is kept of sessions is that of a run
pub record AreOf (r : Run) (v : Sessions) : Type 0 where
  pub shown : AreShown r.state v.txns
  pub actors : v.actors ≡ r.actors
  pub names : v.names ≡ sessions r.actors
  pub count : length v.txns ≡ length v.names
  pub grids : v.grids ≡ r.grids

-- THE ENGINE STANDS AT A RUN: it is in the run's state, the areas have these lists, which stand for what goes with that state, and all that
-- the run told was told, behind what was told before it
pub record Stands (first : ℕ) (lists : Lists) (before : Option (List ℕ)) (r : Run) (w : Engine) (v : Sessions) (o : Outside) : Type 0 where
  pub is : IsOf first w r.state
  pub sessions : AreOf r v
  pub ready : AreReady (journals_of w.owners) o
  pub kept : AreKept (journals_of w.owners) lists o
  pub folds : Folds
  pub folded : AreFolded lists folds
  pub sound : AreSound first folds r.state
  pub told : o.told ≡ extended r.told before

-- a run at the begin of a line, which is its first
pub record IsAtLine (number : ℕ) (bytes : List ℕ) (r : Run) (l : Read) (more : List Read) : Type 0 where
  pub lines : r.lines ≡ l ∷ more
  pub is : IsRead bytes l
  pub number_is : r.number ≡ number
  pub answers : r.answers ≡ []

-- and behind it, after so many turns
pub record IsPastLine (count number : ℕ) (r : Run) (more : List Read) : Type 0 where
  pub lines : (after count r).lines ≡ more
  pub number_is : (after count r).number ≡ number + 1
  pub answers : (after count r).answers ≡ []

abbrev pub IsPrefix : List ℕ → List ℕ → Type 0
IsPrefix front text = (rest : List ℕ) × (text ≡ front ++ rest)

-- The state of a run where the first of the records of its next turn are there: that behind the turn once the commit of a restore is among
-- them, else that of the run. No other step has records behind its commit.
abbrev pub resting : Run → List Written → State
resting r front = if has_commit front then (turn r).state else r.state

-- A MOMENT OF A RUN, before which the areas had these journals and lists: behind these they have the records of some turns and the first of
-- those of the next turn, all of which fit, and nothing else; they recover to the state behind those turns, or, once the commit of a restore
-- is among the records of the next, to the state behind that one; and what was told is not behind what was told by then, nor ahead of the
-- next turn
pub record IsInRun (js : Journals) (lists : Lists) (r : Run) (before : Option (List ℕ)) (p : CrashState) : Type 0 where
  pub count : ℕ
  pub front : List Written
  pub recovers : Recovers (areas_of p) (resting (after count r) front)
  pub rest : List Written
  pub parts : front ++ rest ≡ step_writes (after count r).state (next_step (after count r))
  pub has : HasLists (puts (as_writes (written count r ++ front)) lists) p
  pub fits : full_in js (as_writes (written count r ++ front)) ≡ None
  pub said : List ℕ
  pub told : extended said before ≡ Some p.told
  pub not_behind : IsPrefix (after count r).told said
  pub not_ahead : IsPrefix said (after (suc count) r).told

-- FULL: a record of the step in progress has no room, where the areas had these journals and lists before the run; and it is the first that
-- has none. What was told is what was told before that step; and a crash leaves the records of the turns before it and those of its own
-- that fit, which recover to the state before it, or, once the commit of a restore is among them, to the state behind it.
pub record IsFullIn (js : Journals) (lists : Lists) (r : Run) (before : Option (List ℕ)) (full : Full) (n : Outside) : Type 0 where
  pub count : ℕ
  pub step : Step
  pub next : next_step (after count r) ≡ Some step
  pub fits : full_in js (as_writes (written count r)) ≡ None
  pub full_is : full_in (all_grown (as_writes (written count r)) js) (records_of (after count r).state step) ≡ Some full
  pub told : n.told ≡ extended (after count r).told before
  pub front : List Written
  pub rest : List Written
  pub parts : front ++ rest ≡ writes (after count r).state step
  pub front_is : as_writes front ≡ fitting (all_grown (as_writes (written count r)) js) (records_of (after count r).state step)
  pub has : (p : CrashState) → Now n p → HasLists (puts (as_writes front) (puts (as_writes (written count r)) lists)) p
  pub recovers : (p : CrashState) → Now n p → Recovers (areas_of p) (resting (after count r) front)

-- the same engine after some turns of a run, behind their records
abbrev pub StandsAfter : ℕ → ℕ → Lists → Option (List ℕ) → Run → Engine → Sessions → Outside → Type 0
StandsAfter count first lists before r w v o = Stands first (puts (as_writes (written count r)) lists) before (after count r) w v o

-- and its journals have grown by these, all of which fit
pub record HasGrown (count : ℕ) (r : Run) (js : Journals) (w : Engine) : Type 0 where
  pub grew : journals_of w.owners ≡ all_grown (as_writes (written count r)) js
  pub fits : full_in js (as_writes (written count r)) ≡ None
