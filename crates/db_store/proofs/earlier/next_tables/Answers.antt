use Rattle.std.proofs.Common.{◌≤◌, length, arith}
use Rattle.db_store.proofs.LogLaws.{next_past, past_none}
use Rattle.db_store.proofs.earlier.next_tables.Goals as goal

pub returns : goal.returns
returns c =
    let es = c.args.log.now.entries in
    let last : c.args.commit ≤ length es = omega (arith, c.if-commit-len.false, c.len.ensures.value) in
    next_past c.args.before.now c.in_ok-tables.tables es c.args.commit c.requires.first last c.requires.before c.in_ok-tables.ensures

pub returns-then-commit-len : goal.returns-then-commit-len
returns-then-commit-len c = grind (arith, past_none)
