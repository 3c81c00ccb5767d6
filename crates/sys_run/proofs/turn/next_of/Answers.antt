use Rattle.std.proofs.Common.{ap, ◌∙◌}
use Rattle.std.proofs.lemmas.Result.{IfOk-weaker}
use Rattle.meaning_script.specs.Expansion.{expansion}
use Rattle.meaning_script.specs.declared.next.ActorState.{ActorState}
use Rattle.sys_run.proofs.turn.next_of.Goals as goal

pub returns : goal.returns
returns c = IfOk-weaker c.expand.result _ _
    (λ next h first r of are. h ∙ ap (λ (a : ActorState). expansion c.args.line.now a c.args.answers.now c.args.waiting.now) (c.in_ok-actor.ensures first r of are))
    c.expand.ensures.exact
