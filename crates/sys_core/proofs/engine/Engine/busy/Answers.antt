use Rattle.std.proofs.Common.{◌≡◌, ◌∙◌, ap, Option}
use Rattle.std.proofs.lemmas.Result.{IfOk-weaker}
use Rattle.dl_base.specs.declared.answer.Refusal.{Refusal}
use Rattle.fm_links.specs.Claims.{PathClaim, claim_on}
use Rattle.fm_links.specs.Searching.{busy_by}
use Rattle.std.proofs.Common.{Some}
use Rattle.sys_core.specs.Claiming.{busy_in}
use Rattle.sys_core.proofs.engine.Engine.busy.Goals as goal

pub returns-in-Some : goal.returns-in-Some
returns-in-Some c =
    let path = c.args.path.now in
    IfOk-weaker c.holder_refusal.result (λ (why : Option Refusal). why ≡ busy_by c.args.tx path (Some (claim_on path c.in-Some.claim))) (λ (why : Option Refusal). why ≡ busy_in c.args.self.now c.args.tx path)
    (λ why is. is ∙ ap (λ (o : Option PathClaim). busy_by c.args.tx path o) c.in-Some.ensures) c.holder_refusal.ensures
