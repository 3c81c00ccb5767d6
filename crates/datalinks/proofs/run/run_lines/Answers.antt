use Rattle.std.proofs.Common.{refl, ◌∙◌, arith}
use Rattle.std.specs.Str.Lines.{lines}
use Rattle.sys_owners.specs.Owned.{journals_of}
use Rattle.sys_run.proofs.Lines.{Follow}
use Rattle.sys_run.proofs.Reached.{rose-later}
use Rattle.datalinks.proofs.Passing.{empty-is, onward, passed-all, passed-first}
use Rattle.datalinks.proofs.run.run_lines.Goals as goal

pub loop-rest-init : goal.loop-rest-init
loop-rest-init g c = record {
  numbered = omega arith;
  passed = λ first lists before r stands at. passed-first c.args.script.now first lists before r c.args.engine.now c.args.sessions.now (g.B.Bench.outside c.args.bench.now) stands at;
  clean = refl;
}

pub do_line-requires : goal.do_line-requires
do_line-requires g c =
    let O = g.B.Bench.outside in
    let follow : Follow = record { runs = c.turns_follow_one_another.ensures.after; records = c.turns_follow_one_another.ensures.written; put = c.records_in_parts.ensures.puts; grown = c.records_in_parts.ensures.grown; full = c.records_in_parts.ensures.full } in
    let (first, lists, before, r, stands, at) = c.requires.stands in
    let on = onward follow first lists before r (journals_of c.args.engine.now.owners) c.loop-rest.rest.now c.loop-rest.number c.loop-rest.engine c.loop-rest.sessions (O c.args.bench.now) (O c.loop-rest.bench)
    (c.loop-rest.invariant.passed first lists before r stands at) c.first_line.result.0.now (lines c.first_line.result.1.now) c.first_line.ensures.first in
    record { stands = (first, on.lists_there, before, on.run, on.l, on.more, on.stands, on.at) }

pub returns-in-Err-clause-history : goal.returns-in-Err-clause-history
returns-in-Err-clause-history g c first lists before r stands at =
    let O = g.B.Bench.outside in
    let follow : Follow = record { runs = c.turns_follow_one_another.ensures.after; records = c.turns_follow_one_another.ensures.written; put = c.records_in_parts.ensures.puts; grown = c.records_in_parts.ensures.grown; full = c.records_in_parts.ensures.full } in
    let on = onward follow first lists before r (journals_of c.args.engine.now.owners) c.loop-rest.rest.now c.loop-rest.number c.loop-rest.engine c.loop-rest.sessions (O c.args.bench.now) (O c.loop-rest.bench)
    (c.loop-rest.invariant.passed first lists before r stands at) c.first_line.result.0.now (lines c.first_line.result.1.now) c.first_line.ensures.first in
    on.moments (O c.do_line.new.bench) (c.do_line.ensures.history first on.lists_there before on.run on.l on.more on.stands on.at)

pub returns-in-Err-clause-full : goal.returns-in-Err-clause-full
returns-in-Err-clause-full g c full which first lists before r stands at =
    let O = g.B.Bench.outside in
    let follow : Follow = record { runs = c.turns_follow_one_another.ensures.after; records = c.turns_follow_one_another.ensures.written; put = c.records_in_parts.ensures.puts; grown = c.records_in_parts.ensures.grown; full = c.records_in_parts.ensures.full } in
    let on = onward follow first lists before r (journals_of c.args.engine.now.owners) c.loop-rest.rest.now c.loop-rest.number c.loop-rest.engine c.loop-rest.sessions (O c.args.bench.now) (O c.loop-rest.bench)
    (c.loop-rest.invariant.passed first lists before r stands at) c.first_line.result.0.now (lines c.first_line.result.1.now) c.first_line.ensures.first in
    on.full full (O c.do_line.new.bench) (c.do_line.ensures.full full (c.in-Err.is ∙ which) first on.lists_there before on.run on.l on.more on.stands on.at)

pub returns-in-Err-clause-device : goal.returns-in-Err-clause-device
returns-in-Err-clause-device g c which =
    let (first, lists, before, r, stands, at) = c.requires.stands in
    rose-later (g.B.Bench.outside c.args.bench.now) (g.B.Bench.outside c.loop-rest.bench) (g.B.Bench.outside c.do_line.new.bench)
    (c.loop-rest.invariant.passed first lists before r stands at).moments.faults (c.do_line.ensures.device (c.in-Err.is ∙ which))

pub loop-rest-preserved : goal.loop-rest-preserved
loop-rest-preserved g c =
    let O = g.B.Bench.outside in
    let follow : Follow = record { runs = c.turns_follow_one_another.ensures.after; records = c.turns_follow_one_another.ensures.written; put = c.records_in_parts.ensures.puts; grown = c.records_in_parts.ensures.grown; full = c.records_in_parts.ensures.full } in
    record {
      numbered = omega (arith, c.loop-rest.invariant.numbered, c.first_line.ensures.shorter);
      passed = λ first lists before r stands at.
          let on = onward follow first lists before r (journals_of c.args.engine.now.owners) c.loop-rest.rest.now c.loop-rest.number c.loop-rest.engine c.loop-rest.sessions (O c.args.bench.now) (O c.loop-rest.bench)
          (c.loop-rest.invariant.passed first lists before r stands at) c.first_line.result.0.now (lines c.first_line.result.1.now) c.first_line.ensures.first in
          on.passed c.first_line.result.1.now c.do_line.new.engine c.do_line.new.sessions (O c.do_line.new.bench) refl
          (c.in-Ok.ensures.done first on.lists_there before on.run on.l on.more on.stands on.at)
          (c.do_line.ensures.history first on.lists_there before on.run on.l on.more on.stands on.at);
      clean = c.in-Ok.ensures.clean ∙ c.loop-rest.invariant.clean;
    }

pub returns-clause-done : goal.returns-clause-done
returns-clause-done g c first lists before r stands at =
    passed-all first lists before r (journals_of c.args.engine.now.owners) c.loop-rest.rest.now c.loop-rest.number c.loop-rest.engine c.loop-rest.sessions (g.B.Bench.outside c.args.bench.now) (g.B.Bench.outside c.loop-rest.bench)
    (c.loop-rest.invariant.passed first lists before r stands at) (empty-is c.loop-rest.rest.now c.loop-rest-test.ensures)

pub returns-clause-history : goal.returns-clause-history
returns-clause-history g c first lists before r stands at = (c.loop-rest.invariant.passed first lists before r stands at).moments
