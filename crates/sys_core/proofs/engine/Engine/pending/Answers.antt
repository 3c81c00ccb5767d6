use Rattle.std.proofs.Common.{◌≡◌, List, filter, map, ◌∙◌, ap}
use Rattle.std.proofs.lemmas.Result.{IfOk-weaker}
use Rattle.dl_base.specs.declared.value.LinkNo.{LinkNo}
use Rattle.dl_base.specs.declared.value.LinkRow.{LinkRow}
use Rattle.meaning_system.specs.Machine.{pending}
use Rattle.sys_core.proofs.Waiting.{pending-is}
use Rattle.sys_core.specs.Archiving.{waits_in}
use Rattle.sys_core.proofs.engine.Engine.pending.Goals as goal

pub returns : goal.returns
returns c first s is =
    let w = c.args.self.now in
    let numbers : List LinkRow → List LinkNo = λ ls. map (λ (l : LinkRow). l.link) ls in
    IfOk-weaker c.waiting.result (λ (made : List LinkNo). made ≡ numbers (filter (waits_in w) c.in_ok-rows.rows)) (λ (made : List LinkNo). made ≡ numbers (pending s))
    (λ made e. e ∙ ap (λ (rows : List LinkRow). numbers (filter (waits_in w) rows)) c.in_ok-rows.ensures ∙ ap numbers (pending-is first w s is)) c.waiting.ensures
