use Rattle.std.proofs.Common.{Bool, List, length, Err, refl, sym, subst, ap, ◌∙◌, arith}
use Rattle.dl_areas.specs.Lists.{puts}
use Rattle.dl_base.proofs.Moments.{moments_none}
use Rattle.dl_base.specs.declared.answer.Answer.{Answer}
use Rattle.dl_base.specs.declared.fault.StepFault.TheVariants as faults
use Rattle.fm_manager.specs.Managed.{as_writes}
use Rattle.meaning_run.specs.Running.{after, written}
use Rattle.sys_owners.specs.Owned.{journals_of}
use Rattle.sys_run.specs.Turning.{Goes}
use Rattle.sys_run.proofs.Lines.{Follow}
use Rattle.sys_run.proofs.Pacing.{StoresEach, pace-first}
use Rattle.sys_run.proofs.Reached.{Reached, nearer, one-more, reached-first, reached-full, reached-moments, reached-next, reached-sees, reached-told, rose-later}
use Rattle.sys_run.proofs.Taking.{handed, no-device, no-fault, no-full, on-err, same-fault}
use Rattle.sys_run.proofs.line.take_turns.Goals as goal

-- want of memory before the first turn
pub returns-in_err-pending : goal.returns-in_err-pending
returns-in_err-pending g c =
    let result = c.from_residual.result in
    let fails = handed result faults.Memory c.from_residual.ensures in
    record {
      done = on-err result faults.Memory _ fails;
      history = λ first lists before r l more stands is. moments_none _ _;
      full = λ full full_is. no-full result full fails full_is;
      device = no-device result fails;
      clean = on-err result faults.Memory _ fails;
    }

pub loop-answers-init : goal.loop-answers-init
loop-answers-init g c =
    let O = g.B.Bench.outside in
    let js = journals_of c.args.engine.now.owners in
    let none = c.empty-answers.ensures in
    let waiting = c.as_slice-waiting.result.now in
    record {
      few = omega (arith, ap length none);
      reached = λ first lists before r l more stands is.
          subst (λ (done : List Answer). Reached c.args.number c.args.line.now waiting done first lists before r l more js c.args.engine.now c.args.sessions.now (O c.args.bench.now) (O c.args.bench.now)) (sym none)
          (reached-first c.args.number c.args.line.now waiting first lists before r l more c.args.engine.now c.args.sessions.now (O c.args.bench.now) stands is (pace-first c.args.line.now waiting r.state (λ copies. c.as_slice-waiting.ensures ∙ c.in_ok-pending.ensures first r.state stands.is copies)));
    }

pub take_turn-requires : goal.take_turn-requires
take_turn-requires g c =
    let follow : Follow = record { runs = c.turns_follow_one_another.ensures.after; records = c.turns_follow_one_another.ensures.written; put = c.records_in_parts.ensures.puts; grown = c.records_in_parts.ensures.grown; full = c.records_in_parts.ensures.full } in
    let (first, lists, before, r, l, more, stands, is) = c.requires.stands in
    let reached = c.loop-answers.invariant.reached first lists before r l more stands is in
    let at = after reached.count r in
    let there = puts (as_writes (written reached.count r)) lists in
    let sees = reached-sees reached follow c.behind.result.now c.len.result c.behind.ensures c.len.ensures in
    record { read = c.requires.read; stands = (first, there, before, at, l, more, reached.stands, reached.is, sees) }

pub returns-in-Ok-true : goal.returns-in-Ok-true
returns-in-Ok-true g c =
    let O = g.B.Bench.outside in
    let follow : Follow = record { runs = c.turns_follow_one_another.ensures.after; records = c.turns_follow_one_another.ensures.written; put = c.records_in_parts.ensures.puts; grown = c.records_in_parts.ensures.grown; full = c.records_in_parts.ensures.full } in
    record {
      done = λ first lists before r l more stands is.
          let reached = c.loop-answers.invariant.reached first lists before r l more stands is in
          let at = after reached.count r in
          let there = puts (as_writes (written reached.count r)) lists in
          let sees = reached-sees reached follow c.behind.result.now c.len.result c.behind.ensures c.len.ensures in
          let (s, grown, went) = c.in-Ok-true.ensures.turned first there before at l more reached.stands reached.is sees in
          let goes = subst (λ (b : Bool). Goes b c.args.number c.args.line.now c.take_turn.new.answers at l more) c.in-Ok-true.field-0-test went in
          reached-told reached follow c.take_turn.new.engine c.take_turn.new.sessions (O c.take_turn.new.bench) s grown goes;
      history = λ first lists before r l more stands is.
          let reached = c.loop-answers.invariant.reached first lists before r l more stands is in
          let at = after reached.count r in
          let there = puts (as_writes (written reached.count r)) lists in
          let sees = reached-sees reached follow c.behind.result.now c.len.result c.behind.ensures c.len.ensures in
          reached-moments reached follow (O c.take_turn.new.bench) (c.take_turn.ensures.history first there before at l more reached.stands reached.is sees);
      full = λ full full_is. no-fault tt (faults.Full full) full_is;
      device = no-fault tt faults.Device;
      clean =
          let (first, lists, before, r, l, more, stands, is) = c.requires.stands in
          c.in-Ok-true.ensures.clean ∙ (c.loop-answers.invariant.reached first lists before r l more stands is).clean;
    }

pub loop-answers-smaller : goal.loop-answers-smaller
loop-answers-smaller g c =
    let follow : Follow = record { runs = c.turns_follow_one_another.ensures.after; records = c.turns_follow_one_another.ensures.written; put = c.records_in_parts.ensures.puts; grown = c.records_in_parts.ensures.grown; full = c.records_in_parts.ensures.full } in
    let (first, lists, before, r, l, more, stands, is) = c.requires.stands in
    let reached = c.loop-answers.invariant.reached first lists before r l more stands is in
    let at = after reached.count r in
    let there = puts (as_writes (written reached.count r)) lists in
    let sees = reached-sees reached follow c.behind.result.now c.len.result c.behind.ensures c.len.ensures in
    let (s, grown, went) = c.in-Ok-false.ensures.turned first there before at l more reached.stands reached.is sees in
    let goes = subst (λ (b : Bool). Goes b c.args.number c.args.line.now c.take_turn.new.answers at l more) c.in-Ok-false.field-0-test went in
    let each : StoresEach = record { archived = c.an_archive_leaves_the_others_pending.ensures.archived; left = c.an_archive_leaves_the_others_pending.ensures.left } in
    let (longer, most) = one-more reached follow each c.lines_take_few_steps.ensures is.answers c.take_turn.new.answers goes in
    nearer _ _ _ longer most

pub loop-answers-preserved : goal.loop-answers-preserved
loop-answers-preserved g c =
    let O = g.B.Bench.outside in
    let follow : Follow = record { runs = c.turns_follow_one_another.ensures.after; records = c.turns_follow_one_another.ensures.written; put = c.records_in_parts.ensures.puts; grown = c.records_in_parts.ensures.grown; full = c.records_in_parts.ensures.full } in
    let each : StoresEach = record { archived = c.an_archive_leaves_the_others_pending.ensures.archived; left = c.an_archive_leaves_the_others_pending.ensures.left } in
    record {
      few =
          let (first, lists, before, r, l, more, stands, is) = c.requires.stands in
          let reached = c.loop-answers.invariant.reached first lists before r l more stands is in
          let at = after reached.count r in
          let there = puts (as_writes (written reached.count r)) lists in
          let sees = reached-sees reached follow c.behind.result.now c.len.result c.behind.ensures c.len.ensures in
          let (s, grown, went) = c.in-Ok-false.ensures.turned first there before at l more reached.stands reached.is sees in
          let goes = subst (λ (b : Bool). Goes b c.args.number c.args.line.now c.take_turn.new.answers at l more) c.in-Ok-false.field-0-test went in
          (one-more reached follow each c.lines_take_few_steps.ensures is.answers c.take_turn.new.answers goes).1;
      reached = λ first lists before r l more stands is.
          let reached = c.loop-answers.invariant.reached first lists before r l more stands is in
          let at = after reached.count r in
          let there = puts (as_writes (written reached.count r)) lists in
          let sees = reached-sees reached follow c.behind.result.now c.len.result c.behind.ensures c.len.ensures in
          let (s, grown, went) = c.in-Ok-false.ensures.turned first there before at l more reached.stands reached.is sees in
          let goes = subst (λ (b : Bool). Goes b c.args.number c.args.line.now c.take_turn.new.answers at l more) c.in-Ok-false.field-0-test went in
          reached-next reached follow each c.lines_take_few_steps.ensures is.answers c.take_turn.new.engine c.take_turn.new.sessions (O c.take_turn.new.bench) c.take_turn.new.answers s grown goes (c.take_turn.ensures.history first there before at l more reached.stands reached.is sees) c.in-Ok-false.ensures.clean;
    }

pub returns-in-Err : goal.returns-in-Err
returns-in-Err g c =
    let O = g.B.Bench.outside in
    let follow : Follow = record { runs = c.turns_follow_one_another.ensures.after; records = c.turns_follow_one_another.ensures.written; put = c.records_in_parts.ensures.puts; grown = c.records_in_parts.ensures.grown; full = c.records_in_parts.ensures.full } in
    let fault = c.in-Err.fault in
    record {
      done = tt;
      history = λ first lists before r l more stands is.
          let reached = c.loop-answers.invariant.reached first lists before r l more stands is in
          let at = after reached.count r in
          let there = puts (as_writes (written reached.count r)) lists in
          let sees = reached-sees reached follow c.behind.result.now c.len.result c.behind.ensures c.len.ensures in
          reached-moments reached follow (O c.take_turn.new.bench) (c.take_turn.ensures.history first there before at l more reached.stands reached.is sees);
      full = λ full full_is first lists before r l more stands is.
          let reached = c.loop-answers.invariant.reached first lists before r l more stands is in
          let at = after reached.count r in
          let there = puts (as_writes (written reached.count r)) lists in
          let sees = reached-sees reached follow c.behind.result.now c.len.result c.behind.ensures c.len.ensures in
          reached-full reached follow full (O c.take_turn.new.bench) (c.take_turn.ensures.full full (same-fault c.take_turn.result (Err fault) fault (faults.Full full) c.in-Err.is refl full_is) first there before at l more reached.stands reached.is sees);
      device = λ device_is.
          let (first, lists, before, r, l, more, stands, is) = c.requires.stands in
          rose-later (O c.args.bench.now) (O c.loop-answers.bench) (O c.take_turn.new.bench) (c.loop-answers.invariant.reached first lists before r l more stands is).moments.faults
          (c.take_turn.ensures.device (same-fault c.take_turn.result (Err fault) fault faults.Device c.in-Err.is refl device_is));
      clean = tt;
    }
