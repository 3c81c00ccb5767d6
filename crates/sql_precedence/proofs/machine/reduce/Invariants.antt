use Rattle.std.proofs.Common.{◌≡◌, length}
use Rattle.sql_grammar.specs.Machine.{reduced}
use Rattle.sql_precedence.specs.Views.{stack_of}
use Rattle.sql_precedence.proofs.machine.reduce.Given as goal

-- what is left to apply gives what there was to apply
abbrev pub invariant-loop-frame : goal.invariant-loop-frame
invariant-loop-frame l = reduced l.low (stack_of l.frames.items) l.value ≡ reduced l.low (stack_of l.fn.frames.items) l.fn.last

abbrev pub decreases-loop-frame : goal.decreases-loop-frame
decreases-loop-frame l = length l.frames.items
