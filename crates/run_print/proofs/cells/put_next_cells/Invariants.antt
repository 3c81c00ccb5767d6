use Rattle.std.proofs.Common.{◌≡◌, ◌++◌, drop}
use Rattle.std.specs.List.{flat_map}
use Rattle.meaning_script.specs.Printed.{next_cell}
use Rattle.run_print.proofs.cells.put_next_cells.Given as goal

abbrev pub invariant-loop-value : goal.invariant-loop-value
invariant-loop-value l = l.into ++ flat_map next_cell (drop l.value-index l.values) ≡ l.fn.into ++ flat_map next_cell l.values
