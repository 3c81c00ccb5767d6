-- The reader: the code's values as the machine's. Read Machine of sql_grammar first.
use Rattle.std.specs.Prelude.{ℕ, Bool, true, false, List, [], ◌∷◌}
use Rattle.dl_base.specs.declared.statement.Expr.{Expr}
use Rattle.sql_grammar.specs.declared.symbol.Symbol.{Symbol}
use Rattle.sql_grammar.specs.declared.terminal.Terminal.TheVariants.{Fixed}
use Rattle.sql_grammar.specs.declared.frame.Frame.{Frame}
use Rattle.sql_grammar.specs.Cues.{Cue, an_operator, a_not, an_is, a_null, an_open, a_close, a_comma, a_dot, another}
use Rattle.sql_grammar.specs.Machine as m
use Rattle.sql_precedence.specs.declared.role.Role.{Role}
use Rattle.sql_precedence.specs.declared.role.Role.TheVariants as role
use Rattle.sql_precedence.specs.declared.machine.Reading.{Reading}
use Rattle.sql_precedence.specs.declared.machine.Reading.TheVariants as r
use Rattle.sql_precedence.specs.declared.machine.Step.{Step}
use Rattle.sql_precedence.specs.declared.machine.Step.TheVariants as s

abbrev pub cue_in : Symbol → Role → Cue
cue_in m (role.Operator o) = an_operator o
cue_in m role.Not = a_not
cue_in m role.Is = an_is
cue_in m role.Null = a_null
cue_in m role.Open = an_open
cue_in m role.Close = a_close
cue_in m role.Comma = a_comma
cue_in m role.Dot = a_dot
cue_in m role.Other = another (Fixed m)

-- the last item is on top
abbrev pub stack_onto : List Frame → List Frame → List Frame
stack_onto below [] = below
stack_onto below (x ∷ xs) = stack_onto (x ∷ below) xs

abbrev pub stack_of : List Frame → List Frame
stack_of xs = stack_onto [] xs

abbrev pub state_of : Reading → m.State
state_of (r.Due s) = m.due (stack_of s.frames.items) s.operators s.parentheses
state_of (r.After s a l) = m.after (stack_of s.frames.items) a l s.operators s.parentheses
state_of (r.Named s x) = m.named (stack_of s.frames.items) x s.operators s.parentheses
state_of (r.Dotted s x) = m.dotted (stack_of s.frames.items) x s.operators s.parentheses
state_of (r.IsDue s a) = m.is_due (stack_of s.frames.items) a s.operators s.parentheses
state_of (r.NotDue s a) = m.not_due (stack_of s.frames.items) a s.operators s.parentheses
state_of (r.StarDue s) = m.star_due (stack_of s.frames.items) s.operators s.parentheses
state_of (r.StarRead s) = m.star_read (stack_of s.frames.items) s.operators s.parentheses

abbrev pub move_of : Step → m.Move
move_of (s.Go r) = m.Go (state_of r)
move_of (s.Stop a) = m.Stop a
move_of s.Refuse = m.Refuse

-- behind IS where `holds` is true, and behind IS NOT where it is false
abbrev pub asked : Bool → List Frame → Expr → ℕ → ℕ → m.State
asked true = m.is_due
asked false = m.not_due

-- behind COUNT and its parenthesis, or behind its `*`
abbrev pub counting : Bool → List Frame → ℕ → ℕ → m.State
counting false = m.star_due
counting true = m.star_read
