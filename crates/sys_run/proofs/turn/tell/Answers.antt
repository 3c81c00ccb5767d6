use Rattle.std.proofs.Common.{◌∙◌, arith}
use Rattle.sys_owners.specs.Owned.{journals_of}
use Rattle.sys_run.proofs.Taking.{say-history, say-stands}
use Rattle.std.proofs.lemmas.Grind.{common_steps}
use Rattle.sys_run.proofs.turn.tell.Goals as goal

pub returns-clause-told : goal.returns-clause-told
returns-clause-told g c first lists before r w l more stands line_is number_is =
    let O = g.B.Bench.outside in
    let js = journals_of w.owners in
    let text = c.bytes.result.now in
    let a = c.args in
    say-stands first lists before r w l more a.line.now a.number a.sessions.now (O a.bench.now) stands line_is number_is a.answer.now text (c.bytes.ensures ∙ c.in_ok-text.ensures) c.keep_grid.new.self (O c.say.new.self)
    c.in_ok-keep_grid.ensures.grids c.keep_grid.ensures.txns c.keep_grid.ensures.names c.keep_grid.ensures.actors
    (c.telling_leaves_the_areas.ensures.ready js text a.bench.now c.say.new.self c.say.ensures.crash) (c.telling_leaves_the_areas.ensures.kept js text a.bench.now c.say.new.self c.say.ensures.crash) c.in_ok-say.ensures.told

pub returns-clause-history : goal.returns-clause-history
returns-clause-history g c first lists before r w l more stands line_is number_is =
    let O = g.B.Bench.outside in
    let js = journals_of w.owners in
    let text = c.bytes.result.now in
    let a = c.args in
    let w1 = c.what_is_written_is_read.ensures in
    let s1 = c.stopped_steps_stand.ensures in
    say-history first lists before r w l more a.line.now a.number a.sessions.now (O a.bench.now) stands line_is number_is a.answer.now text (c.bytes.ensures ∙ c.in_ok-text.ensures)
    (record { folded = w1.folded; stand = w1.stand; before = s1.before; stopped = s1.stopped; whole = s1.whole }) (O c.say.new.self)
    (c.telling_leaves_the_areas.ensures.images js text a.bench.now c.say.new.self c.say.ensures.crash lists stands.ready stands.kept)

pub returns-in_err-say-clause-history : goal.returns-in_err-say-clause-history
returns-in_err-say-clause-history g c first lists before r w l more stands line_is number_is =
    let O = g.B.Bench.outside in
    let js = journals_of w.owners in
    let text = c.bytes.result.now in
    let a = c.args in
    let w1 = c.what_is_written_is_read.ensures in
    let s1 = c.stopped_steps_stand.ensures in
    say-history first lists before r w l more a.line.now a.number a.sessions.now (O a.bench.now) stands line_is number_is a.answer.now text (c.bytes.ensures ∙ c.in_ok-text.ensures)
    (record { folded = w1.folded; stand = w1.stand; before = s1.before; stopped = s1.stopped; whole = s1.whole }) (O c.say.new.self)
    (c.telling_leaves_the_areas.ensures.images js text a.bench.now c.say.new.self c.say.ensures.crash lists stands.ready stands.kept)

pub returns-clause-not_full : goal.returns-clause-not_full
returns-clause-not_full g c = grind (arith, common_steps)

pub returns-clause-device : goal.returns-clause-device
returns-clause-device g c = grind (arith, common_steps)
