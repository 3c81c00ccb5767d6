use Rattle.std.proofs.Common.{◌≡◌, true, rules}
use Rattle.bk_restore.proofs.Differing.{added-if}
use Rattle.bk_restore.proofs.rows.add_if.Goals as goal

pub returns-clause-added : goal.returns-clause-added
returns-clause-added c =
    let on : c.args.is ≡ true = search rules in
    added-if c.args.is c.args.numbers.now c.in_ok-numbers.field-0 c.args.number on (c.in_ok-numbers.ensures c.requires)
