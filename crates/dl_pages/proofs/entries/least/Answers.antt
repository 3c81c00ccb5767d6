use Rattle.std.proofs.Common.{◌≡◌, ℕ, Some, None, sym, ◌∙◌, ap}
use Rattle.std.specs.Option.{option_copied}
use Rattle.std.specs.Ordering.{is_eq}
use Rattle.dl_pages.proofs.Finding.{falls_by_key, least_found, least_missed}
use Rattle.dl_pages.proofs.entries.least.Goals as goal

pub returns-then-is_same : goal.returns-then-is_same
returns-then-is_same g c s =
    let R = g.K.Ordered.order in
    let o = g.met.K.Ordered.total in
    let k = g.P.Probe.key c.args.probe.now in
    let p = c.first_failing.ensures.point (falls_by_key R o k c.args.entries.now s) in
    least_found R o k c.args.entries.now c.first_failing.result.0 c.in-Some.entry.now s p (sym c.first_failing.ensures.item ∙ ap option_copied c.in-Some.is) (sym c.is_same.ensures ∙ c.if-is_same.true)

pub returns-else-is_same : goal.returns-else-is_same
returns-else-is_same g c s =
    let R = g.K.Ordered.order in
    let o = g.met.K.Ordered.total in
    let k = g.P.Probe.key c.args.probe.now in
    let p = c.first_failing.ensures.point (falls_by_key R o k c.args.entries.now s) in
    least_missed R o k c.args.entries.now c.first_failing.result.0 s p (λ e is. ap (λ (x : g.row.K.Denot × ℕ). is_eq (R x.0 k)) (sym (one c.in-Some.entry.now e (sym (ap option_copied c.in-Some.is) ∙ c.first_failing.ensures.item ∙ is))) ∙ sym c.is_same.ensures ∙ c.if-is_same.false)
  where
    one : {A : Type 0} (a b : A) → Some a ≡ Some b → a ≡ b
    one a b e = cc e

pub returns-in-None : goal.returns-in-None
returns-in-None g c s =
    let R = g.K.Ordered.order in
    let o = g.met.K.Ordered.total in
    let k = g.P.Probe.key c.args.probe.now in
    let p = c.first_failing.ensures.point (falls_by_key R o k c.args.entries.now s) in
    least_missed R o k c.args.entries.now c.first_failing.result.0 s p (λ e is. absurd (clash e (sym (ap option_copied c.in-None.is) ∙ c.first_failing.ensures.item ∙ is)))
  where
    clash : {A : Type 0} (a : A) → None ≡ Some a → ⊥
    clash a e = cc e
