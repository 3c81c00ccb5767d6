use Rattle.std.proofs.Common.{◌≡◌, Option, sym, ◌∙◌}
use Rattle.std.proofs.lemmas.Result.{IfOk-weaker}
use Rattle.dl_base.specs.declared.answer.Refusal.{Refusal}
use Rattle.meaning_system.specs.Claims.{or_else}
use Rattle.meaning_tables.specs.Links.{gives}
use Rattle.sys_core.proofs.Refusals.{first-is, second-is}
use Rattle.sys_core.specs.Claiming.{file_refusal_in, number_on, path_refusal_in}
use Rattle.sys_core.proofs.engine.Engine.take_refusal.Goals as goal

pub returns-in-Some : goal.returns-in-Some
returns-in-Some c =
    let w = c.args.self.now in
    let t = c.args.take.now in
    let given = gives c.args.txn.now.base c.args.txn.now.copy in
    first-is c.in-Some.refusal (file_refusal_in w t.path) (path_refusal_in w c.args.tx given (number_on c.args.earlier.now.entries t.path) t.path) (sym c.in-Some.is ∙ c.in_ok-gone.ensures)

pub returns-in-None : goal.returns-in-None
returns-in-None c =
    let w = c.args.self.now in
    let t = c.args.take.now in
    let given = gives c.args.txn.now.base c.args.txn.now.copy in
    IfOk-weaker c.path_refusal.result (λ (why : Option Refusal). why ≡ path_refusal_in w c.args.tx given (number_on c.args.earlier.now.entries t.path) t.path) (λ (why : Option Refusal). why ≡ or_else (file_refusal_in w t.path) (path_refusal_in w c.args.tx given (number_on c.args.earlier.now.entries t.path) t.path))
    (λ why is. second-is why (file_refusal_in w t.path) (path_refusal_in w c.args.tx given (number_on c.args.earlier.now.entries t.path) t.path) (sym c.in-None.is ∙ c.in_ok-gone.ensures) is) c.path_refusal.ensures
