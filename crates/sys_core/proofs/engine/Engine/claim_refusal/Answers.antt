use Rattle.std.proofs.Common.{◌≡◌, Option}
use Rattle.std.proofs.lemmas.Result.{IfOk-weaker}
use Rattle.dl_base.specs.declared.answer.Refusal.{Refusal}
use Rattle.std.specs.FinMap as maps
use Rattle.meaning_system.specs.Claims.{or_else}
use Rattle.sys_core.proofs.Refusals.{first-is, second-is}
use Rattle.sys_core.specs.Claiming.{doomed_at, named_refusal_in, opening_in}
use Rattle.sys_core.proofs.engine.Engine.claim_refusal.Goals as goal

pub returns-in-Some : goal.returns-in-Some
returns-in-Some c =
    let w = c.args.self.now in
    let v = c.args.txn.now in
    first-is c.in-Some.refusal (doomed_at (opening_in w) (maps.get w.seats c.args.tx)) (named_refusal_in w c.args.tx v) (c.in-Some.ensures)

pub returns-in-None : goal.returns-in-None
returns-in-None c =
    let w = c.args.self.now in
    let v = c.args.txn.now in
    IfOk-weaker c.named_refusal.result (λ (why : Option Refusal). why ≡ named_refusal_in w c.args.tx v) (λ (why : Option Refusal). why ≡ or_else (doomed_at (opening_in w) (maps.get w.seats c.args.tx)) (named_refusal_in w c.args.tx v))
    (λ why is. second-is why (doomed_at (opening_in w) (maps.get w.seats c.args.tx)) (named_refusal_in w c.args.tx v) (c.in-None.ensures) is) c.named_refusal.ensures
