use Rattle.std.proofs.Common.{◌≡◌, Option, sym, ◌∙◌}
use Rattle.std.proofs.lemmas.Result.{IfOk-weaker}
use Rattle.dl_base.specs.declared.answer.Refusal.{Refusal}
use Rattle.meaning_system.specs.Claims.{conflict, or_else}
use Rattle.sys_core.proofs.Refusals.{first-is, second-is}
use Rattle.sys_core.specs.Claiming.{links_refusal_in, tables_in}
use Rattle.sys_core.proofs.engine.Engine.named_refusal.Goals as goal

pub returns-in-Some : goal.returns-in-Some
returns-in-Some c =
    let w = c.args.self.now in
    let v = c.args.txn.now in
    let found = λ (o : Option Refusal) (is : o ≡ conflict c.base.result.now c.committed-committed.result.now.tables c.touched.result.now). is ∙ (λ i. conflict (c.base.ensures.value i) (c.committed-committed.ensures.tables i) (c.touched.ensures i)) in
    first-is c.in-Some.refusal (conflict v.base (tables_in w) v.named) (links_refusal_in w c.args.tx v) (sym c.in-Some.is ∙ found c.in_ok-changed.changed c.in_ok-changed.ensures)

pub returns-in-None : goal.returns-in-None
returns-in-None c =
    let w = c.args.self.now in
    let v = c.args.txn.now in
    let found = λ (o : Option Refusal) (is : o ≡ conflict c.base.result.now c.committed-committed.result.now.tables c.touched.result.now). is ∙ (λ i. conflict (c.base.ensures.value i) (c.committed-committed.ensures.tables i) (c.touched.ensures i)) in
    IfOk-weaker c.links_refusal.result (λ (why : Option Refusal). why ≡ links_refusal_in w c.args.tx v) (λ (why : Option Refusal). why ≡ or_else (conflict v.base (tables_in w) v.named) (links_refusal_in w c.args.tx v))
    (λ why is. second-is why (conflict v.base (tables_in w) v.named) (links_refusal_in w c.args.tx v) (sym c.in-None.is ∙ found c.in_ok-changed.changed c.in_ok-changed.ensures) is) c.links_refusal.ensures
