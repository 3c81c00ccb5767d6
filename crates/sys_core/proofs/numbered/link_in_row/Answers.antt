use Rattle.std.proofs.Common.{◌+◌, drop, sym, ◌∙◌, rules, ◌≡◌, arith}
use Rattle.meaning_tables.specs.Links.{cell_links, row_links}
use Rattle.sys_core.proofs.Finding.{cells-found, cells-more, no_values}
use Rattle.sys_core.proofs.Refusals.{item-here}
use Rattle.std.proofs.lemmas.Grind.{common_steps}
use Rattle.sys_core.proofs.numbered.link_in_row.Goals as goal

pub returns-in-Some : goal.returns-in-Some
returns-in-Some c =
    let cs = c.args.columns.now in
    let vs = c.args.row.now.values in
    let i = c.loop-i.i in
    let x = c.column-item.result in
    let v = c.index-values-i.result in
    let items : c.as_slice-column-items.result.now ≡ cs = search rules in
    let columns = item-here c.as_slice-column-items.result.now cs i x items c.loop-i-test.true c.column-item.is in
    let values = item-here c.as_slice-values.result.now vs i v c.as_slice-values.ensures c.if-values-i.false c.index-values-i.is in
    cells-found c.args.link (cell_links x.kind v) (row_links (drop (i + 1) cs) (drop (i + 1) vs)) (row_links cs vs) (row_links (drop i cs) (drop i vs)) c.in-Some.found
    (λ j. row_links (columns j) (values j)) c.loop-i.invariant (sym c.in_ok-found.ensures ∙ c.in-Some.is)

pub loop-i-preserved : goal.loop-i-preserved
loop-i-preserved c =
    let cs = c.args.columns.now in
    let vs = c.args.row.now.values in
    let i = c.loop-i.i in
    let x = c.column-item.result in
    let v = c.index-values-i.result in
    let items : c.as_slice-column-items.result.now ≡ cs = search rules in
    let columns = item-here c.as_slice-column-items.result.now cs i x items c.loop-i-test.true c.column-item.is in
    let values = item-here c.as_slice-values.result.now vs i v c.as_slice-values.ensures c.if-values-i.false c.index-values-i.is in
    cells-more c.args.link (cell_links x.kind v) (row_links (drop (i + 1) cs) (drop (i + 1) vs)) (row_links cs vs) (row_links (drop i cs) (drop i vs))
    (λ j. row_links (columns j) (values j)) c.loop-i.invariant (sym c.in_ok-found.ensures ∙ c.in_default.is)

pub returns : goal.returns
returns c = grind (arith, common_steps, no_values)

pub returns-then-values-i : goal.returns-then-values-i
returns-then-values-i c = grind (arith, common_steps, no_values)
