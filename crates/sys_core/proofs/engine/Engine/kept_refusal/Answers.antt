use Rattle.std.proofs.Common.{◌≡◌, Option, sym, ◌∙◌, ap}
use Rattle.std.proofs.lemmas.Result.{IfOk-weaker}
use Rattle.dl_base.specs.declared.answer.Refusal.{Refusal}
use Rattle.meaning_system.specs.Claims.{or_else}
use Rattle.meaning_tables.specs.Links.{gives}
use Rattle.sys_core.proofs.Refusals.{first-is, second-is}
use Rattle.sys_core.specs.Claiming.{busy_in, kept_on, linked_by}
use Rattle.sys_core.proofs.engine.Engine.kept_refusal.Goals as goal

pub returns-in-Some : goal.returns-in-Some
returns-in-Some c =
    let w = c.args.self.now in
    let path = c.args.path.now in
    let given = gives c.args.txn.now.base c.args.txn.now.copy in
    first-is c.in-Some.refusal (linked_by path (kept_on w given path)) (busy_in w c.args.tx path) (sym c.in-Some.is ∙ c.in_ok-held.ensures ∙ ap (linked_by path) c.kept_on.ensures)

pub returns-in-None : goal.returns-in-None
returns-in-None c =
    let w = c.args.self.now in
    let path = c.args.path.now in
    let given = gives c.args.txn.now.base c.args.txn.now.copy in
    IfOk-weaker c.busy.result (λ (why : Option Refusal). why ≡ busy_in w c.args.tx path) (λ (why : Option Refusal). why ≡ or_else (linked_by path (kept_on w given path)) (busy_in w c.args.tx path))
    (λ why is. second-is why (linked_by path (kept_on w given path)) (busy_in w c.args.tx path) (sym c.in-None.is ∙ c.in_ok-held.ensures ∙ ap (linked_by path) c.kept_on.ensures) is) c.busy.ensures
