use Rattle.std.proofs.Common.{sym, ◌∙◌, arith}
use Rattle.sql_grammar.specs.Readers.{many_at}
use Rattle.sql_syntax.proofs.Loops.{at_first, goes_on, within_by}
use Rattle.sql_syntax.proofs.part.many.Goals as goal

pub parts-init : goal.parts-init
parts-init g c = rw c.empty-list.ensures (at_first g.T.Repeated.begins g.T.Repeated.reader c.args.terminals.now c.args.from)

pub parts-smaller : goal.parts-smaller
parts-smaller g c =
    let rise = g.met.T.Repeated.climbs c.args.terminals.now c.parts.at c.in-Ok.read.0 c.in-Ok.read.1 c.in-Ok.ensures in
    let within = within_by g.T.Repeated.begins c.args.terminals.now c.parts.at g.met.T.Repeated.nothing (sym c.begins.ensures ∙ c.parts-test.true) in
    omega arith

pub parts-preserved : goal.parts-preserved
parts-preserved g c =
    let b = g.T.Repeated.begins in
    let R = g.T.Repeated.reader in
    let ws = c.args.terminals.now in
    let at = c.parts.at in
    let test = sym c.begins.ensures ∙ c.parts-test.true in
    let rise = g.met.T.Repeated.climbs ws at c.in-Ok.read.0 c.in-Ok.read.1 c.in-Ok.ensures in
    let within = within_by b ws at g.met.T.Repeated.nothing test in
    rw c.in_ok-push.ensures.ok (goes_on b R c.parts.list ws at (many_at b R ws c.args.from) c.in-Ok.read.0 c.in-Ok.read.1 rise within test c.in-Ok.ensures c.parts.invariant)
