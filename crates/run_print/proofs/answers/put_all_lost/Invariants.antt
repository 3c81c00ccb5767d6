use Rattle.std.proofs.Common.{◌≡◌, ◌++◌, drop}
use Rattle.std.specs.List.{flat_map}
use Rattle.meaning_script.specs.Printed.{further_line, lost_text}
use Rattle.run_print.proofs.answers.put_all_lost.Given as goal

abbrev pub invariant-loop-one : goal.invariant-loop-one
invariant-loop-one l = l.into ++ flat_map (λ one. further_line l.number (lost_text one)) (drop l.one-index l.lost) ≡ l.fn.into ++ flat_map (λ one. further_line l.number (lost_text one)) l.lost
