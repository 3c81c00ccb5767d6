use Rattle.dl_base.specs.declared.step.Step.TheVariants as steps
use Rattle.sys_run.proofs.InMemory.{in-memory, statement-spelled}
use Rattle.sys_run.proofs.step.do_statement.Goals as goal

pub returns-clause-steps : goal.returns-clause-steps
returns-clause-steps g c first s is shown =
    in-memory first (steps.Statement c.args.session c.args.stmt.now) s c.args.engine.now c.state.new.engine c.state.result (g.B.Bench.outside c.args.bench.now) (c.state.ensures.steps first s is shown)

pub returns-clause-spelled : goal.returns-clause-spelled
returns-clause-spelled g c first s is shown = statement-spelled s c.args.session c.args.stmt.now
