use Rattle.std.proofs.Common.{Err, refl, ap, ◌∙◌}
use Rattle.dl_base.specs.declared.fault.StepFault.TheVariants as faults
use Rattle.dl_base.specs.declared.step.Step.TheVariants as steps
use Rattle.fs_files.specs.Store.{Catalog}
use Rattle.meaning_files.specs.Commands.{refusal_of}
use Rattle.sys_core.proofs.Commanding.{failed, refusal-found, refused}
use Rattle.sys_core.proofs.Spelled.{refused-spelled}
use Rattle.sys_owners.specs.Owned.{journals_of}
use Rattle.sys_core.proofs.engine.Engine.command.Goals as goal

pub returns-in-Err : goal.returns-in-Err
returns-in-Err g c = record {
  steps = λ first s is.
      let O = g.B.Bench.outside in
      let w = c.args.self.now in
      failed first w s (steps.File c.args.cmd) (O c.args.bench.now) is (c.calls_follow_one_another.ensures.none (journals_of w.owners) c.args.bench.now) (Err faults.Memory) refl;
  spelled = λ kept first s is. absurd (kept refl);
}

pub returns-in-Ok-Some : goal.returns-in-Ok-Some
returns-in-Ok-Some g c = record {
  steps = λ first s is.
      let O = g.B.Bench.outside in
      let w = c.args.self.now in
      refused first w s is c.args.cmd (O c.args.bench.now) (c.calls_follow_one_another.ensures.none (journals_of w.owners) c.args.bench.now) c.in-Ok-Some.refusal
      (refusal-found first w s is c.args.cmd c.forbids-forbidden.result c.in-Ok-Some.field-0 (c.forbids-forbidden.ensures first s is) (c.in-Ok-Some.ensures.value ∙ ap (λ (k : Catalog). refusal_of k.files c.forbids-forbidden.result c.args.cmd.user c.args.cmd.what) c.files.ensures) ∙ c.in-Ok-Some.field-0-is);
  spelled = λ kept first s is.
      let w = c.args.self.now in
      refused-spelled s c.args.cmd c.in-Ok-Some.refusal
      (refusal-found first w s is c.args.cmd c.forbids-forbidden.result c.in-Ok-Some.field-0 (c.forbids-forbidden.ensures first s is) (c.in-Ok-Some.ensures.value ∙ ap (λ (k : Catalog). refusal_of k.files c.forbids-forbidden.result c.args.cmd.user c.args.cmd.what) c.files.ensures) ∙ c.in-Ok-Some.field-0-is);
}

pub obey-requires-clause-accepted : goal.obey-requires-clause-accepted
obey-requires-clause-accepted g c =
    let w = c.args.self.now in
    let a = c.requires.stands in
    (a.0, a.1, a.2, refusal-found a.0 w a.1 a.2 c.args.cmd c.forbids-forbidden.result c.in-Ok-None.field-0 (c.forbids-forbidden.ensures a.0 a.1 a.2) (c.in-Ok-None.ensures.value ∙ ap (λ (k : Catalog). refusal_of k.files c.forbids-forbidden.result c.args.cmd.user c.args.cmd.what) c.files.ensures) ∙ c.in-Ok-None.field-0-is)

pub returns-in-Ok-None : goal.returns-in-Ok-None
returns-in-Ok-None g c = record {
  steps = λ first s is.
      let w = c.args.self.now in
      c.obey.ensures.steps first s is (refusal-found first w s is c.args.cmd c.forbids-forbidden.result c.in-Ok-None.field-0 (c.forbids-forbidden.ensures first s is) (c.in-Ok-None.ensures.value ∙ ap (λ (k : Catalog). refusal_of k.files c.forbids-forbidden.result c.args.cmd.user c.args.cmd.what) c.files.ensures) ∙ c.in-Ok-None.field-0-is);
  spelled = λ kept first s is.
      let w = c.args.self.now in
      c.obey.ensures.spelled kept first s is (refusal-found first w s is c.args.cmd c.forbids-forbidden.result c.in-Ok-None.field-0 (c.forbids-forbidden.ensures first s is) (c.in-Ok-None.ensures.value ∙ ap (λ (k : Catalog). refusal_of k.files c.forbids-forbidden.result c.args.cmd.user c.args.cmd.what) c.files.ensures) ∙ c.in-Ok-None.field-0-is);
}
