use Rattle.std.proofs.Common.{◌≡◌, ◌++◌, drop}
use Rattle.std.specs.List.{flat_map}
use Rattle.meaning_script.specs.Printed.{further_line, row_text}
use Rattle.run_print.proofs.answers.put_rows.Given as goal

abbrev pub invariant-loop-row : goal.invariant-loop-row
invariant-loop-row l = l.into ++ flat_map (λ row. further_line l.number (row_text row.values)) (drop l.row-index l.rows) ≡ l.fn.into ++ flat_map (λ row. further_line l.number (row_text row.values)) l.rows
