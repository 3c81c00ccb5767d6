use Rattle.std.proofs.Common.{Bool, sym, ap, ◌∙◌, subst, arith}
use Rattle.std.proofs.lemmas.Result.{on_ok_weaker}
use Rattle.dl_base.specs.declared.answer.Answer.TheVariants as answers
use Rattle.dl_base.specs.declared.answer.Limit.TheVariants as limits
use Rattle.dl_base.specs.declared.answer.Refusal.TheVariants as reasons
use Rattle.meaning_run.specs.Built.{is_built}
use Rattle.meaning_run.specs.Running.{met}
use Rattle.sys_owners.specs.Owned.{journals_of}
use Rattle.sys_run.proofs.Lines.{extra-comes, in-line, met-done, met-is-full, met-moments, told-line, told-moments, unbuilt-comes}
use Rattle.sys_run.specs.Turning.{IsAtRead}
use Rattle.std.proofs.lemmas.Grind.{common_steps}
use Rattle.sys_run.proofs.line.do_read.Goals as goal

-- an actor too many
pub returns-then-not-counted-clause-done : goal.returns-then-not-counted-clause-done
returns-then-not-counted-clause-done g c =
    let a = c.args in
    on_ok_weaker c.refuse.result (λ told first lists before r l more stands at.
    told-line a.number a.line.now a.counted r l more at (answers.Refused (reasons.Limit limits.Actors)) (extra-comes r l (sym c.if-not-counted.true ∙ at.counted_is)) first lists before a.engine.now c.refuse.new.sessions (g.B.Bench.outside c.refuse.new.bench)
    (told first lists before (met r l.actor) a.engine.now l more stands at.line_is at.number_is)) c.refuse.ensures.told

pub returns-then-not-counted-clause-history : goal.returns-then-not-counted-clause-history
returns-then-not-counted-clause-history g c first lists before r l more stands at =
    let a = c.args in
    told-moments a.number a.line.now a.counted r l more at (answers.Refused (reasons.Limit limits.Actors)) (extra-comes r l (sym c.if-not-counted.true ∙ at.counted_is)) (journals_of a.engine.now.owners) lists before (g.B.Bench.outside a.bench.now) (g.B.Bench.outside c.refuse.new.bench)
    (c.refuse.ensures.history first lists before (met r l.actor) a.engine.now l more stands at.line_is at.number_is)

-- a line that is not built
pub returns-then-not-is_built-clause-done : goal.returns-then-not-is_built-clause-done
returns-then-not-is_built-clause-done g c =
    let a = c.args in
    on_ok_weaker c.refuse-then-not-is_built.result (λ told first lists before r l more stands at.
    told-line a.number a.line.now a.counted r l more at (answers.Refused reasons.NotBuilt) (unbuilt-comes r l (sym c.if-not-counted.false ∙ at.counted_is) (ap is_built at.line_is ∙ sym c.is_built.ensures ∙ c.if-not-is_built.true)) first lists before a.engine.now
    c.refuse-then-not-is_built.new.sessions (g.B.Bench.outside c.refuse-then-not-is_built.new.bench) (told first lists before (met r l.actor) a.engine.now l more stands at.line_is at.number_is)) c.refuse-then-not-is_built.ensures.told

pub returns-then-not-is_built-clause-history : goal.returns-then-not-is_built-clause-history
returns-then-not-is_built-clause-history g c first lists before r l more stands at =
    let a = c.args in
    told-moments a.number a.line.now a.counted r l more at (answers.Refused reasons.NotBuilt) (unbuilt-comes r l (sym c.if-not-counted.false ∙ at.counted_is) (ap is_built at.line_is ∙ sym c.is_built.ensures ∙ c.if-not-is_built.true)) (journals_of a.engine.now.owners) lists before
    (g.B.Bench.outside a.bench.now) (g.B.Bench.outside c.refuse-then-not-is_built.new.bench) (c.refuse-then-not-is_built.ensures.history first lists before (met r l.actor) a.engine.now l more stands at.line_is at.number_is)

-- the line takes its turns
pub take_turns-requires-clause-stands : goal.take_turns-requires-clause-stands
take_turns-requires-clause-stands g c =
    let a = c.args in
    let (first, lists, before, r, l, more, stands, at) = c.requires.stands in
    (first, lists, before, met r l.actor, l, more, stands, in-line a.number a.line.now r l more (subst (λ (b : Bool). IsAtRead a.number a.line.now b r l more) c.if-not-counted.false at) (sym c.is_built.ensures ∙ c.if-not-is_built.false))

pub returns-clause-done : goal.returns-clause-done
returns-clause-done g c =
    let a = c.args in
    on_ok_weaker c.take_turns.result (λ done first lists before r l more stands was.
    let at = subst (λ (b : Bool). IsAtRead a.number a.line.now b r l more) c.if-not-counted.false was in
    met-done a.number a.line.now r l more at first lists before (journals_of a.engine.now.owners) c.take_turns.new.engine c.take_turns.new.sessions (g.B.Bench.outside c.take_turns.new.bench)
    (done first lists before (met r l.actor) l more stands (in-line a.number a.line.now r l more at (sym c.is_built.ensures ∙ c.if-not-is_built.false)))) c.take_turns.ensures.done

pub returns-clause-history : goal.returns-clause-history
returns-clause-history g c first lists before r l more stands was =
    let a = c.args in
    let at = subst (λ (b : Bool). IsAtRead a.number a.line.now b r l more) c.if-not-counted.false was in
    met-moments a.number a.line.now r l more at (journals_of a.engine.now.owners) lists before (g.B.Bench.outside a.bench.now) (g.B.Bench.outside c.take_turns.new.bench)
    (c.take_turns.ensures.history first lists before (met r l.actor) l more stands (in-line a.number a.line.now r l more at (sym c.is_built.ensures ∙ c.if-not-is_built.false)))

pub returns-clause-full : goal.returns-clause-full
returns-clause-full g c full which first lists before r l more stands was =
    let a = c.args in
    let at = subst (λ (b : Bool). IsAtRead a.number a.line.now b r l more) c.if-not-counted.false was in
    met-is-full a.number a.line.now r l more at (journals_of a.engine.now.owners) lists before full (g.B.Bench.outside c.take_turns.new.bench)
    (c.take_turns.ensures.full full which first lists before (met r l.actor) l more stands (in-line a.number a.line.now r l more at (sym c.is_built.ensures ∙ c.if-not-is_built.false)))

pub returns-then-not-counted-clause-full : goal.returns-then-not-counted-clause-full
returns-then-not-counted-clause-full g c = grind (arith, common_steps)

pub returns-then-not-is_built-clause-full : goal.returns-then-not-is_built-clause-full
returns-then-not-is_built-clause-full g c = grind (arith, common_steps)
