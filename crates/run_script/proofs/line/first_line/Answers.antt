use Rattle.std.proofs.Common.{◌+◌, List, ℕ, ◌∷◌, drop, sym, ap, ◌∙◌}
use Rattle.std.proofs.lemmas.List.{take_rest}
use Rattle.std.specs.Str.Lines.{lines}
use Rattle.run_script.proofs.FirstLine.{lines_first, lines_last}
use Rattle.run_script.proofs.line.first_line.Goals as goal

pub returns-in-Some-clause-first : goal.returns-in-Some-clause-first
returns-in-Some-clause-first c =
    lines_first c.args.script.now c.in-Some.at (sym c.in-Some.ensures)
    ∙ ap (λ (line : List ℕ). line ∷ lines (drop (c.in-Some.at + 1) c.args.script.now)) (sym c.without_return.ensures)
    ∙ ap (λ (rest : List ℕ). c.without_return.result.now ∷ lines rest) (sym (take_rest c.args.script.now (c.in-Some.at + 1)))

pub returns-in-None-clause-first : goal.returns-in-None-clause-first
returns-in-None-clause-first c = lines_last c.args.script.now (sym c.in-None.ensures) c.requires
