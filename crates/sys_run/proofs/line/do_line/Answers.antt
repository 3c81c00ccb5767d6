use Rattle.std.proofs.lemmas.Result.{on_ok_weaker}
use Rattle.sys_run.proofs.Lines.{meets, reads}
use Rattle.std.proofs.Common.{arith}
use Rattle.std.proofs.lemmas.Grind.{common_steps}
use Rattle.sys_run.proofs.line.do_line.Goals as goal

pub do_read-done-requires-clause-stands : goal.do_read-done-requires-clause-stands
do_read-done-requires-clause-stands g c =
    let a = c.args in
    let (first, lists, before, r, l, more, stands, at) = c.requires.stands in (
      first,
      lists,
      before,
      r,
      l,
      more,
      meets a.number a.line.now r l more at first lists before a.engine.now a.sessions.now c.meet.new.self (g.B.Bench.outside a.bench.now) stands (c.in_ok-counted.ensures.met r stands.sessions),
      reads a.number a.line.now r l more at a.sessions.now c.in_ok-line.line c.in_ok-counted.counted stands.sessions c.in_ok-line.ensures.only c.in_ok-counted.ensures.counted,
    )

pub returns-clause-done : goal.returns-clause-done
returns-clause-done g c =
    let a = c.args in
    on_ok_weaker c.do_read-done.result (λ done first lists before r l more stands at.
    done first lists before r l more
    (meets a.number a.line.now r l more at first lists before a.engine.now a.sessions.now c.meet.new.self (g.B.Bench.outside a.bench.now) stands (c.in_ok-counted.ensures.met r stands.sessions))
    (reads a.number a.line.now r l more at a.sessions.now c.in_ok-line.line c.in_ok-counted.counted stands.sessions c.in_ok-line.ensures.only c.in_ok-counted.ensures.counted)) c.do_read-done.ensures.done

pub returns-clause-history : goal.returns-clause-history
returns-clause-history g c first lists before r l more stands at =
    let a = c.args in
    c.do_read-done.ensures.history first lists before r l more
    (meets a.number a.line.now r l more at first lists before a.engine.now a.sessions.now c.meet.new.self (g.B.Bench.outside a.bench.now) stands (c.in_ok-counted.ensures.met r stands.sessions))
    (reads a.number a.line.now r l more at a.sessions.now c.in_ok-line.line c.in_ok-counted.counted stands.sessions c.in_ok-line.ensures.only c.in_ok-counted.ensures.counted)

pub returns-clause-full : goal.returns-clause-full
returns-clause-full g c full which first lists before r l more stands at =
    let a = c.args in
    c.do_read-done.ensures.full full which first lists before r l more
    (meets a.number a.line.now r l more at first lists before a.engine.now a.sessions.now c.meet.new.self (g.B.Bench.outside a.bench.now) stands (c.in_ok-counted.ensures.met r stands.sessions))
    (reads a.number a.line.now r l more at a.sessions.now c.in_ok-line.line c.in_ok-counted.counted stands.sessions c.in_ok-line.ensures.only c.in_ok-counted.ensures.counted)

pub do_read-done-requires-clause-read : goal.do_read-done-requires-clause-read
do_read-done-requires-clause-read g c = grind (arith, common_steps)

pub meet-requires-clause-count : goal.meet-requires-clause-count
meet-requires-clause-count g c = grind (arith, common_steps)

pub meet-requires-clause-names : goal.meet-requires-clause-names
meet-requires-clause-names g c = grind (arith, common_steps)
