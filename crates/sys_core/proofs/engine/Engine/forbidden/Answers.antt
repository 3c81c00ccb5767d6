use Rattle.std.proofs.Common.{◌≡◌, Option, Some, None, sym, ◌∙◌, ap}
use Rattle.std.specs.Option.{option_or}
use Rattle.dl_base.specs.declared.answer.Why.{Why}
use Rattle.dl_base.specs.declared.value.LinkNo.{LinkNo}
use Rattle.dl_base.specs.declared.value.LinkRow.{LinkRow}
use Rattle.sys_core.specs.Guarded.{committed_in, forbidding_by, waiting_in}
use Rattle.sys_core.proofs.engine.Engine.forbidden.Goals as goal

pub returns-in-Some : goal.returns-in-Some
returns-in-Some c =
    let w = c.args.self.now in
    let p = c.args.path.now in
    let by : Option LinkRow → Option (LinkNo × Why) = λ o. forbidding_by o c.args.kind c.args.why in
    let first : by (committed_in w p) ≡ Some c.in-Some.found = sym (c.forbidden_by.ensures p ∙ ap by c.committed_on.ensures) ∙ c.in-Some.is in
    sym (ap (λ (o : Option (LinkNo × Why)). option_or o (by (waiting_in w p))) first)

pub returns-in-None : goal.returns-in-None
returns-in-None c =
    let w = c.args.self.now in
    let p = c.args.path.now in
    let by : Option LinkRow → Option (LinkNo × Why) = λ o. forbidding_by o c.args.kind c.args.why in
    let first : by (committed_in w p) ≡ None = sym (c.forbidden_by.ensures p ∙ ap by c.committed_on.ensures) ∙ c.in-None.is in
    c.forbidden_by-in-None.ensures p ∙ ap by c.waiting_on.ensures ∙ sym (ap (λ (o : Option (LinkNo × Why)). option_or o (by (waiting_in w p))) first)
