use Rattle.std.proofs.Common.{◌≡◌, Option, sym, ◌∙◌, ap, []}
use Rattle.std.proofs.lemmas.Result.{IfOk-weaker}
use Rattle.dl_base.specs.declared.answer.Refusal.{Refusal}
use Rattle.meaning_system.specs.Claims.{or_else}
use Rattle.meaning_tables.specs.Links.{gives, takes}
use Rattle.sys_core.proofs.Refusals.{first-is, second-is}
use Rattle.sys_core.specs.Claiming.{gives_refusal_in, takes_refusal_in}
use Rattle.sys_core.proofs.engine.Engine.links_refusal.Goals as goal

pub returns-in-Some : goal.returns-in-Some
returns-in-Some c =
    let w = c.args.self.now in
    let v = c.args.txn.now in
    let given = gives v.base v.copy in
    first-is c.in-Some.refusal (takes_refusal_in w c.args.tx given [] (takes v.base v.copy)) (gives_refusal_in w c.args.tx given) (sym c.in-Some.is ∙ c.in_ok-taking.ensures ∙ ap (takes_refusal_in w c.args.tx given []) c.requires.takes)

pub returns-in-None : goal.returns-in-None
returns-in-None c =
    let w = c.args.self.now in
    let v = c.args.txn.now in
    let given = gives v.base v.copy in
    IfOk-weaker c.gives_refusal.result (λ (why : Option Refusal). why ≡ gives_refusal_in w c.args.tx c.args.gives.now) (λ (why : Option Refusal). why ≡ or_else (takes_refusal_in w c.args.tx given [] (takes v.base v.copy)) (gives_refusal_in w c.args.tx given))
    (λ why is. second-is why (takes_refusal_in w c.args.tx given [] (takes v.base v.copy)) (gives_refusal_in w c.args.tx given) (sym c.in-None.is ∙ c.in_ok-taking.ensures ∙ ap (takes_refusal_in w c.args.tx given []) c.requires.takes) (is ∙ ap (gives_refusal_in w c.args.tx) c.requires.gives)) c.gives_refusal.ensures
