-- THE RUN OF A SCRIPT over the machine, turn by turn: in each turn the machine takes one step for the first line that is not told yet,
-- or that line is told.
use Rattle.std.specs.Prelude.{◌≡◌, ℕ, zero, suc, ◌+◌, Bool, true, false, List, [], ◌∷◌, ◌++◌, map, slice_get, Option, Some, None}
use Rattle.std.specs.FinMap as maps
use Rattle.std.specs.Option.{unwrap_or}
use Rattle.std.specs.Ordering.{nat_cmp}
use Rattle.dl_base.specs.declared.answer.Answer.{Answer}
use Rattle.dl_base.specs.declared.answer.Answer.TheVariants as answers
use Rattle.dl_base.specs.declared.answer.Limit.TheVariants as limits
use Rattle.dl_base.specs.declared.answer.Refusal.TheVariants as reasons
use Rattle.dl_base.specs.declared.step.Phase.{Phase}
use Rattle.dl_base.specs.declared.step.Step.{Step}
use Rattle.dl_base.specs.declared.value.LinkNo.{LinkNo}
use Rattle.dl_base.specs.declared.value.Row.{Row}
use Rattle.dl_base.specs.declared.value.Value.{Value}
use Rattle.dl_base.specs.declared.value.Value.TheVariants as values
use Rattle.fs_command.specs.declared.line.FileLine.TheVariants as files
use Rattle.meaning_areas.specs.Lists.{Written}
use Rattle.meaning_run.specs.Built.{is_built}
use Rattle.meaning_script.specs.Actors.{actor_of, is_extra, session_number, sessions, with_actor}
use Rattle.meaning_script.specs.Expansion.{Then, answered, does, expansion, given, silent}
use Rattle.meaning_script.specs.Printed.{line_text}
use Rattle.meaning_script.specs.declared.kind.Line.{Line}
use Rattle.meaning_script.specs.declared.kind.Line.TheVariants as lines
use Rattle.meaning_script.specs.declared.kind.Order.TheVariants as orders
use Rattle.meaning_script.specs.declared.next.ActorState.{ActorState}
use Rattle.meaning_system.specs.Machine.{pending, step}
use Rattle.meaning_system.specs.State.{State, Txn, txn_of}
use Rattle.meaning_system.specs.Writes.{writes}
use Rattle.run_lines.specs.Reading.{Reads}

-- A line: who acts in it, if somebody does, and what it is read as.
pub record Read : Type 0 where
  pub actor : Option (List ℕ)
  pub line : Line

pub record IsRead (bytes : List ℕ) (l : Read) : Type 0 where
  pub actor : l.actor ≡ actor_of bytes
  pub line : Reads bytes l.line

-- the lines of a script are read so
abbrev pub AreRead : List (List ℕ) → List Read → Type 0
AreRead [] [] = Unit {0}
AreRead [] (l ∷ more) = ⊥
AreRead (bytes ∷ others) [] = ⊥
AreRead (bytes ∷ others) (l ∷ more) = IsRead bytes l × AreRead others more

-- what `$NAME` stands for, by the number of its session
abbrev pub Grids : Type 0
Grids = maps.FinMap nat_cmp (List ℕ)

-- BETWEEN TWO TURNS
pub record Run : Type 0 where
  -- the lines that are not told yet, and the number of the first, from 1
  pub lines : List Read
  pub number : ℕ
  -- what the steps of that one were answered
  pub answers : List Answer
  -- who has acted
  pub actors : List (List ℕ)
  pub grids : Grids
  pub state : State
  -- all that was told
  pub told : List ℕ

-- before the first turn
abbrev pub first_run : List Read → State → Run
first_run read s = record { lines = read; number = 1; answers = []; actors = []; grids = maps.empty; state = s; told = [] }

-- ---- the first line

-- its actor has acted
abbrev pub met : Run → Option (List ℕ) → Run
met r actor = record r { actors = with_actor r.actors actor }

abbrev pub number_of : Run → List ℕ → ℕ
number_of r name = unwrap_or (session_number r.actors name) 0

abbrev pub phase_in : Option (ℕ × Txn) → Option Phase
phase_in None = None
phase_in (Some e) = Some e.1.phase

-- how its actor is: a session by its number and its phase, and a read of `$NAME` by what that stands for
abbrev pub actor_state : Run → Line → ActorState
actor_state r (lines.Session name s) = record { session = number_of r name; phase = phase_in (txn_of r.state (number_of r name)); last = None }
actor_state r (lines.File (files.ReadOf user name)) = record { session = 0; phase = None; last = maps.get r.grids (number_of r name) }
actor_state r _ = record { session = 0; phase = None; last = None }

-- the links whose copies are pending
abbrev pub pending_links : State → List LinkNo
pending_links s = map (λ l. l.link) (pending s)

-- what it comes to: an actor too many, what is not built, or what its kind says
abbrev pub by_kind : Run → Line → Bool → Then
by_kind r line true = expansion line (actor_state r line) r.answers (pending_links r.state)
by_kind r line false = answered (answers.Refused reasons.NotBuilt)

abbrev pub by_right : Run → Line → Bool → Then
by_right r line true = answered (answers.Refused (reasons.Limit limits.Actors))
by_right r line false = by_kind r line (is_built line)

unfoldable pub comes_to : Run → Read → Then
comes_to r l = by_right (met r l.actor) l.line (is_extra r.actors l.actor)

-- ---- telling

abbrev pub text_of : Run → Option Answer → List ℕ
text_of r None = []
text_of r (Some a) = line_text (sessions r.actors) r.number a

-- the first cell of the first row, where it is a text
abbrev pub text_in : Option Value → Option (List ℕ)
text_in (Some (values.Text text)) = Some text
text_in _ = None

abbrev pub first_cell : Option Row → Option (List ℕ)
first_cell None = None
first_cell (Some row) = text_in (slice_get row.values 0)

abbrev pub with_text : Grids → ℕ → Option (List ℕ) → Grids
with_text grids session None = maps.remove grids session
with_text grids session (Some text) = maps.insert grids session text

-- a grid that a session is answered is its last, also where `$NAME` then stands for nothing
abbrev pub grids_behind : Run → Line → Option Answer → Grids
grids_behind r (lines.Session name s) (Some (answers.Rows grid)) = with_text r.grids (number_of r name) (first_cell (slice_get grid.rows 0))
grids_behind r _ _ = r.grids

abbrev pub told_by : Run → Read → List Read → Option Answer → Run
told_by r l more a = record {
  lines = more;
  number = r.number + 1;
  answers = [];
  actors = r.actors;
  grids = grids_behind r l.line a;
  state = r.state;
  told = r.told ++ text_of r a;
}

-- ---- turns

abbrev pub stepped : Run → Step → Run
stepped r x = record r { answers = r.answers ++ (step r.state x).0 ∷ []; state = (step r.state x).1 }

abbrev pub turned : Run → Read → List Read → Then → Run
turned r l more (does x) = stepped r x
turned r l more (given k) = told_by r l more (slice_get r.answers k)
turned r l more (answered a) = told_by r l more (Some a)
turned r l more silent = told_by r l more None

abbrev pub turn_on : Run → List Read → Run
turn_on r [] = r
turn_on r (l ∷ more) = turned (met r l.actor) l more (comes_to r l)

-- ONE TURN; behind the last line nothing changes
unfoldable pub turn : Run → Run
turn r = turn_on r r.lines

-- AFTER SOME TURNS
abbrev pub after : ℕ → Run → Run
after zero r = r
after (suc n) r = after n (turn r)

-- the step that the next turn takes, if it takes one
abbrev pub step_in : Then → Option Step
step_in (does x) = Some x
step_in _ = None

abbrev pub step_on : Run → List Read → Option Step
step_on r [] = None
step_on r (l ∷ more) = step_in (comes_to r l)

abbrev pub next_step : Run → Option Step
next_step r = step_on r r.lines

-- the records of some turns
abbrev pub step_writes : State → Option Step → List Written
step_writes s None = []
step_writes s (Some x) = writes s x

abbrev pub written : ℕ → Run → List Written
written zero r = []
written (suc n) r = step_writes r.state (next_step r) ++ written n (turn r)

-- a line that takes a step for each link whose copy is pending
abbrev pub stores_copies : Line → Bool
stores_copies (lines.System orders.Archive) = true
stores_copies (lines.System orders.Backup) = true
stores_copies _ = false

-- the first line, if there is one, is none of these
abbrev pub StoresNone : List Read → Type 0
StoresNone [] = Unit {0}
StoresNone (l ∷ more) = stores_copies l.line ≡ false

-- EACH LINE IS TOLD
abbrev pub IsAtEnd : Run → Type 0
IsAtEnd r = r.lines ≡ []
