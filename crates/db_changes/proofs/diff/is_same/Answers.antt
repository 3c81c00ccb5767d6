use Rattle.std.proofs.Common.{◌∙◌, sym}
use Rattle.db_changes.proofs.Fates.{heads-decide, rows-differ}
use Rattle.db_changes.proofs.diff.is_same.Goals as goal

pub returns-then-len-ne0 : goal.returns-then-len-ne0
returns-then-len-ne0 c = rows-differ c.args.was.now c.args.now.now c.args.rows.now c.len.ensures.numbered c.len-2.ensures.numbered c.requires (λ none. c.if-len-ne0.true (c.len-3.ensures ∙ none))

pub returns : goal.returns
returns c = c.heads_are_same.ensures ∙ heads-decide c.args.was.now c.args.now.now c.args.rows.now c.len.ensures.numbered c.len-2.ensures.numbered c.requires (sym c.len-3.ensures ∙ c.if-len-ne0.false)
