use Rattle.std.proofs.Common.{◌≡◌, ◌++◌, drop}
use Rattle.std.specs.List.{flat_map}
use Rattle.meaning_script.specs.Printed.{quoted_byte}
use Rattle.run_print.proofs.cells.put_doubled.Given as goal

abbrev pub invariant-loop-byte : goal.invariant-loop-byte
invariant-loop-byte l = l.into ++ flat_map quoted_byte (drop l.byte-index l.text) ≡ l.fn.into ++ flat_map quoted_byte l.text
