use Rattle.std.proofs.Common.{◌≡◌, Option, sym, ◌∙◌, ap}
use Rattle.std.proofs.lemmas.Result.{IfOk-weaker}
use Rattle.dl_base.specs.declared.answer.Refusal.{Refusal}
use Rattle.meaning_system.specs.Claims.{or_else}
use Rattle.meaning_tables.specs.Links.{gives}
use Rattle.sys_core.proofs.Refusals.{first-is, second-is}
use Rattle.sys_core.specs.Claiming.{kept_refusal_in, linked_by, number_on}
use Rattle.sys_core.proofs.engine.Engine.path_refusal.Goals as goal

pub returns-in-Some : goal.returns-in-Some
returns-in-Some c =
    let w = c.args.self.now in
    let path = c.args.path.now in
    let given = gives c.args.txn.now.base c.args.txn.now.copy in
    first-is c.in-Some.refusal (linked_by path (number_on c.args.earlier.now.entries path)) (kept_refusal_in w c.args.tx given path) (sym c.in-Some.is ∙ c.in_ok-before.ensures ∙ ap (linked_by path) c.number_on.ensures)

pub returns-in-None : goal.returns-in-None
returns-in-None c =
    let w = c.args.self.now in
    let path = c.args.path.now in
    let given = gives c.args.txn.now.base c.args.txn.now.copy in
    IfOk-weaker c.kept_refusal.result (λ (why : Option Refusal). why ≡ kept_refusal_in w c.args.tx given path) (λ (why : Option Refusal). why ≡ or_else (linked_by path (number_on c.args.earlier.now.entries path)) (kept_refusal_in w c.args.tx given path))
    (λ why is. second-is why (linked_by path (number_on c.args.earlier.now.entries path)) (kept_refusal_in w c.args.tx given path) (sym c.in-None.is ∙ c.in_ok-before.ensures ∙ ap (linked_by path) c.number_on.ensures) is) c.kept_refusal.ensures
