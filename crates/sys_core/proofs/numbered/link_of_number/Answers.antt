use Rattle.std.proofs.Common.{◌+◌, drop, sym, ◌∙◌, arith}
use Rattle.sys_core.proofs.Finding.{tables-found, tables-more}
use Rattle.std.proofs.lemmas.Grind.{common_steps}
use Rattle.sys_core.proofs.numbered.link_of_number.Goals as goal

pub returns-in-Some-2 : goal.returns-in-Some-2
returns-in-Some-2 c =
    let ts = c.args.tables.now.tables in
    let i = c.loop-i.i in
    tables-found c.args.link (c.in-Some.field-0-0.now, c.in-Some.table.now) (drop (i + 1) ts) ts (drop i ts) c.in-Some-2.row c.in-Some.ensures.left c.loop-i.invariant (sym c.in_ok-row-in-Some.ensures ∙ c.in-Some-2.is)

pub loop-i-preserved : goal.loop-i-preserved
loop-i-preserved c =
    let ts = c.args.tables.now.tables in
    let i = c.loop-i.i in
    tables-more c.args.link (c.in-Some.field-0-0.now, c.in-Some.table.now) (drop (i + 1) ts) ts (drop i ts) c.in-Some.ensures.left c.loop-i.invariant (sym c.in_ok-row-in-Some.ensures ∙ c.in_default.is)

pub returns : goal.returns
returns c = grind (arith, common_steps)
