use Rattle.std.proofs.Common.{◌≡◌, ◌+◌, sym, ap, subst, ◌∙◌, arith, add-one}
use Rattle.sql_grammar.specs.Readers.{listed_at}
use Rattle.sql_precedence.specs.Results.{FailsReading}
use Rattle.sql_syntax.proofs.Loops.{comma, led, led_at, begins_list, no_list, goes_on, fails}
use Rattle.sql_syntax.proofs.part.commas.Goals as goal

pub returns-in-Err : goal.returns-in-Err
returns-in-Err g c = no_list g.T.Part.reader c.args.terminals.now c.args.from c.in-Err.refused c.in-Err.ensures

pub commas-init : goal.commas-init
commas-init g c =
    rw (c.in_ok-push.ensures.ok, c.empty-list.ensures) (begins_list g.T.Part.reader c.args.terminals.now c.args.from c.in-Ok.read.0 c.in-Ok.read.1 c.in-Ok.ensures)

pub returns-in-Err-read : goal.returns-in-Err-read
returns-in-Err-read g c =
    let R = g.T.Part.reader in
    let ws = c.args.terminals.now in
    let at = c.commas.at in
    let test = sym c.stands.ensures.stands ∙ c.commas-test.true in
    let e : led R ws at ≡ R ws (at + 1) = led_at R ws at test ∙ ap (R ws) (sym (add-one at)) in
    fails comma (led R) c.commas.list ws at (listed_at R ws c.args.from) c.in-Err-read.refused test (subst (FailsReading c.in-Err-read.refused) (sym e) c.in-Err-read.ensures) c.commas.invariant

pub commas-smaller : goal.commas-smaller
commas-smaller g c =
    let rise = g.met.T.Part.rises c.args.terminals.now (c.commas.at + 1) c.in-Ok-read.read.0 c.in-Ok-read.read.1 c.in-Ok-read.ensures in
    omega (arith, c.stands.ensures.within c.commas-test.true)

pub commas-preserved : goal.commas-preserved
commas-preserved g c =
    let R = g.T.Part.reader in
    let ws = c.args.terminals.now in
    let at = c.commas.at in
    let test = sym c.stands.ensures.stands ∙ c.commas-test.true in
    let e : led R ws at ≡ R ws (at + 1) = led_at R ws at test ∙ ap (R ws) (sym (add-one at)) in
    let rise = g.met.T.Part.rises ws (at + 1) c.in-Ok-read.read.0 c.in-Ok-read.read.1 c.in-Ok-read.ensures in
    rw c.in_ok-push-2.ensures.ok (goes_on comma (led R) c.commas.list ws at (listed_at R ws c.args.from) c.in-Ok-read.read.0 c.in-Ok-read.read.1 (omega arith) (c.stands.ensures.within c.commas-test.true) test (e ∙ c.in-Ok-read.ensures) c.commas.invariant)
