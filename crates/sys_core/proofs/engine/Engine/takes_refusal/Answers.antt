use Rattle.std.proofs.Common.{ℕ, ◌+◌, List, [], ◌∷◌, ◌++◌, drop, refl, sym, ◌∙◌, ap}
use Rattle.dl_base.specs.declared.value.LinkNo.{LinkNo}
use Rattle.meaning_tables.specs.Links.{gives}
use Rattle.sys_core.proofs.Refusals.{item-here, numbers-push, take-free, takes-here, takes-more}
use Rattle.sys_core.specs.Claiming.{number_on}
use Rattle.sys_core.proofs.engine.Engine.takes_refusal.Goals as goal

pub loop-take-init : goal.loop-take-init
loop-take-init c = ([], λ path. ap (λ (es : List (List ℕ × LinkNo)). number_on es path) c.new-earlier.ensures.empty, refl)

pub returns-in-Some : goal.returns-in-Some
returns-in-Some c =
    let given = gives c.args.txn.now.base c.args.txn.now.copy in
    let t = c.take-item.result in
    takes-here c.args.self.now c.args.tx given c.args.takes.now c.loop-take.invariant.0 (drop c.loop-take.take-index c.args.takes.now) (drop (c.loop-take.take-index + 1) c.args.takes.now) t (number_on c.loop-take.earlier.entries t.path)
    (item-here c.as_slice-take-items.result.now c.args.takes.now c.loop-take.take-index t c.as_slice-take-items.ensures c.loop-take-test.true c.take-item.is)
    (c.loop-take.invariant.1 t.path) c.loop-take.invariant.2 c.in-Some.refusal (sym c.in-Some.is ∙ c.in_ok-refusal.ensures)

pub loop-take-preserved : goal.loop-take-preserved
loop-take-preserved c =
    let given = gives c.args.txn.now.base c.args.txn.now.copy in
    let t = c.take-item.result in
    let number = number_on c.loop-take.earlier.entries t.path in (
      c.loop-take.invariant.0 ++ t ∷ [],
      numbers-push c.loop-take.invariant.0 c.loop-take.earlier.entries c.put_number.new.numbers.entries t c.loop-take.invariant.1
          (take-free c.args.self.now c.args.tx given number t (sym c.in_default.is ∙ c.in_ok-refusal.ensures)) c.in_ok-put_number.ensures,
      takes-more c.args.self.now c.args.tx given c.args.takes.now c.loop-take.invariant.0 (drop c.loop-take.take-index c.args.takes.now) (drop (c.loop-take.take-index + 1) c.args.takes.now) t number
          (item-here c.as_slice-take-items.result.now c.args.takes.now c.loop-take.take-index t c.as_slice-take-items.ensures c.loop-take-test.true c.take-item.is)
          (c.loop-take.invariant.1 t.path) c.loop-take.invariant.2 (sym c.in_default.is ∙ c.in_ok-refusal.ensures),
    )
