use Rattle.std.proofs.Common.{◌≡◌, ◌++◌, drop}
use Rattle.std.specs.List.{flat_map}
use Rattle.meaning_script.specs.Printed.{further_line, file_text}
use Rattle.run_print.proofs.answers.put_files.Given as goal

abbrev pub invariant-loop-row : goal.invariant-loop-row
invariant-loop-row l = l.into ++ flat_map (λ row. further_line l.number (file_text row)) (drop l.row-index l.files) ≡ l.fn.into ++ flat_map (λ row. further_line l.number (file_text row)) l.files
