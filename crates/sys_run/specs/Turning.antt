-- One turn of a line, and what a crash leaves of it.
use Rattle.std.specs.Prelude.{◌≡◌, ℕ, Bool, true, false, not, List, [], ◌∷◌, ◌++◌, length, Option, Some, None}
use Rattle.dl_areas.specs.Lists.{HasLists, Journals, Lists, puts}
use Rattle.dl_areas.specs.Writing.{full_in}
use Rattle.dl_base.specs.Outside.{CrashState, Outside, extended}
use Rattle.dl_base.specs.declared.answer.Answer.{Answer}
use Rattle.dl_base.specs.declared.step.Step.{Step}
use Rattle.dl_base.specs.declared.value.LinkNo.{LinkNo}
use Rattle.fm_manager.specs.Managed.{as_writes}
use Rattle.meaning_areas.specs.Lists.{Written}
use Rattle.meaning_run.specs.Built.{is_built}
use Rattle.meaning_run.specs.Running.{IsRead, Read, Run, actor_state, after, next_step, number_of, pending_links}
use Rattle.meaning_script.specs.Actors.{is_extra, sessions, with_actor}
use Rattle.meaning_script.specs.Expansion.{expansion}
use Rattle.meaning_script.specs.declared.kind.Line.{Line}
use Rattle.meaning_script.specs.declared.kind.Line.TheVariants as lines
use Rattle.meaning_system.specs.Recovering.{Recovers}
use Rattle.sys_recovery.specs.Left.{areas_of}
use Rattle.sys_run.specs.Running.{IsPastLine, IsPrefix}
use Rattle.sys_run.specs.Sessions.{IsSession}

-- A run at the begin of a line as it is read; whether its actor is none too many
pub record IsAtRead (number : ℕ) (line : Line) (counted : Bool) (r : Run) (l : Read) (more : List Read) : Type 0 where
  pub lines : r.lines ≡ l ∷ more
  pub bytes : List ℕ
  pub is : IsRead bytes l
  pub line_is : l.line ≡ line
  pub number_is : r.number ≡ number
  pub answers : r.answers ≡ []
  pub counted_is : counted ≡ not (is_extra r.actors l.actor)

-- its session, if it has one, has a number
abbrev pub IsNamed : Run → Line → Type 0
IsNamed r (lines.Session name s) = IsSession (length (sessions r.actors)) (number_of r name)
IsNamed r _ = Unit {0}

-- A RUN IN A LINE that is built: its actor has acted, and is none too many; its steps so far were answered so
pub record IsInLine (number : ℕ) (line : Line) (done : List Answer) (r : Run) (l : Read) (more : List Read) : Type 0 where
  pub lines : r.lines ≡ l ∷ more
  pub line_is : l.line ≡ line
  pub number_is : r.number ≡ number
  pub answers : r.answers ≡ done
  pub acted : with_actor r.actors l.actor ≡ r.actors
  pub right : is_extra r.actors l.actor ≡ false
  pub built : is_built line ≡ true
  pub named : IsNamed r line

-- THE LINE SEES these links for those whose copies are pending: with them it comes to the same
abbrev pub Sees : Run → Line → List Answer → List LinkNo → Type 0
Sees r line done waiting = expansion line (actor_state r line) done waiting ≡ expansion line (actor_state r line) done (pending_links r.state)

-- a turn that takes a step for the line
pub record GoesOn (number : ℕ) (line : Line) (done : List Answer) (r : Run) (l : Read) (more : List Read) : Type 0 where
  pub is : IsInLine number line done (after 1 r) l more
  pub step : Step
  pub next : next_step r ≡ Some step

-- a turn, and whether it tells the line
abbrev pub Goes : Bool → ℕ → Line → List Answer → Run → Read → List Read → Type 0
Goes true number line done r l more = IsPastLine 1 number r more
Goes false number line done r l more = GoesOn number line done r l more

-- A moment between a run and the same behind its next turn: the areas have these lists and recover to this state, and what was told is not
-- behind what the run told, nor ahead of what it will have told
pub record IsBetween (lists : Lists) (r next : Run) (before : Option (List ℕ)) (p : CrashState) : Type 0 where
  pub has : HasLists lists p
  pub recovers : Recovers (areas_of p) r.state
  pub said : List ℕ
  pub told : extended said before ≡ Some p.told
  pub not_behind : IsPrefix r.told said
  pub not_ahead : IsPrefix said next.told

-- A crash left the lists with the first of these records, which fit, and nothing more was told.
pub record LeavesSome (js : Journals) (lists : Lists) (xs : List Written) (o : Outside) (p : CrashState) : Type 0 where
  pub told : o.told ≡ Some p.told
  pub front : List Written
  pub rest : List Written
  pub parts : front ++ rest ≡ xs
  pub fits : full_in js (as_writes front) ≡ None
  pub has : HasLists (puts (as_writes front) lists) p
