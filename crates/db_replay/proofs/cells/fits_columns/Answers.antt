use Rattle.std.proofs.Common.{sym, ◌∙◌, arith}
use Rattle.db_replay.proofs.CellLaws.{other_length}
use Rattle.std.proofs.lemmas.Grind.{common_steps}
use Rattle.db_replay.proofs.cells.fits_columns.Goals as goal

pub returns-then-len : goal.returns-then-len
returns-then-len c = sym (other_length c.args.columns.now c.args.row.now.values (λ e. c.if-len.true (c.len.ensures ∙ e ∙ sym c.len-2.ensures)))

pub returns : goal.returns
returns c = grind (arith, common_steps)

pub returns-then-not-fits_column : goal.returns-then-not-fits_column
returns-then-not-fits_column c = grind (arith, common_steps)

pub loop-i-preserved : goal.loop-i-preserved
loop-i-preserved c = grind (arith, common_steps)
