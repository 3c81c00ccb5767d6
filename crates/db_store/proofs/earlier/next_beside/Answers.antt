use Rattle.std.proofs.Common.{◌≤◌, length, arith}
use Rattle.db_store.proofs.LogLaws.{next_past, past_none}
use Rattle.db_store.proofs.earlier.next_beside.Goals as goal

pub returns-clause-tables : goal.returns-clause-tables
returns-clause-tables c =
    let es = c.args.log.now.entries in
    let last : c.args.commit ≤ length es = omega (arith, c.if-commit-len.false, c.len.ensures.value) in
    next_past c.args.before.now c.in_ok-made.made.0 es c.args.commit c.requires.first last c.requires.before c.in_ok-made.ensures.tables

pub returns-then-commit-len-clause-tables : goal.returns-then-commit-len-clause-tables
returns-then-commit-len-clause-tables c = grind (arith, past_none)
