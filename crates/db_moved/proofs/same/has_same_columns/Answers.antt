use Rattle.std.proofs.Common.{◌∙◌, sym}
use Rattle.db_changes.proofs.Deciding.{columns-test}
use Rattle.db_moved.proofs.same.has_same_columns.Goals as goal

pub returns : goal.returns
returns c = columns-test c.same.result c.args.was.now.columns c.args.now.now.columns
    (λ e. sym c.columns.ensures ∙ c.same.ensures.0 e ∙ c.columns-2.ensures)
    (λ e. c.same.ensures.1 (c.columns.ensures ∙ e ∙ sym c.columns-2.ensures))
