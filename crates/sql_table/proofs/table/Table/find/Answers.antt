use Rattle.std.proofs.Common.{◌≡◌, ℕ, None, Some, subst, ap, sym, ◌∙◌}
use Rattle.std.specs.List.{slice_get}
use Rattle.std.specs.Option.{option_copied, option_map}
use Rattle.dl_base.specs.declared.value.Row.{Row}
use Rattle.meaning_tables.specs.Tables.{Rows, row_of}
use Rattle.sql_table.specs.Places.{IsPlace}
use Rattle.sql_table.proofs.Numbers.{falls, hit, miss}
use Rattle.sql_table.proofs.table.Table.find.Goals as goal

pub returns-then-number : goal.returns-then-number
returns-then-number c =
    let same : c.self.inside.rows ≡ c.args.self.now.rows = ap (λ (t : Rows). t.rows) c.self.view_is in
    let is : slice_get c.self.inside.rows c.first_failing-place.result.0 ≡ Some c.in-Some.row.now = sym c.first_failing-place.ensures.item ∙ ap option_copied c.in-Some.is in
    let at = hit c.self.inside.next c.args.number c.first_failing-place.result.0 c.self.inside.rows c.in-Some.row.now c.self.invariant.rise is (sym c.number.ensures ∙ c.if-number.true) in
    subst (λ rows. IsPlace rows c.args.number c.first_failing-place.result.0 × (row_of rows c.args.number ≡ Some c.row.result.now)) same (at, at.found ∙ ap (option_map (λ (r : ℕ × Row). r.1)) is ∙ ap (λ (r : Row). Some r) (sym c.row.ensures))

pub returns-else-number : goal.returns-else-number
returns-else-number c =
    let same : c.self.inside.rows ≡ c.args.self.now.rows = ap (λ (t : Rows). t.rows) c.self.view_is in
    let point = c.first_failing-place.ensures.point (falls 0 c.self.inside.next c.args.number c.self.inside.rows c.self.invariant.rise) in
    let is : slice_get c.self.inside.rows c.first_failing-place.result.0 ≡ Some c.in-Some.row.now = sym c.first_failing-place.ensures.item ∙ ap option_copied c.in-Some.is in
    let other : (item : ℕ × Row) → slice_get c.self.inside.rows c.first_failing-place.result.0 ≡ Some item → item.0 ≡ c.args.number → ⊥ = λ item at e. c.if-number.false (c.number.ensures ∙ ap (λ (r : ℕ × Row). r.0) (one _ _ (sym is ∙ at)) ∙ e) in
    subst (λ rows. row_of rows c.args.number ≡ None) same (miss 0 c.self.inside.next c.args.number c.first_failing-place.result.0 c.self.inside.rows c.self.invariant.rise point other)
  where
    one : (a b : ℕ × Row) → Some a ≡ Some b → a ≡ b
    one a b e = cc e

pub returns-in-None : goal.returns-in-None
returns-in-None c =
    let same : c.self.inside.rows ≡ c.args.self.now.rows = ap (λ (t : Rows). t.rows) c.self.view_is in
    let point = c.first_failing-place.ensures.point (falls 0 c.self.inside.next c.args.number c.self.inside.rows c.self.invariant.rise) in
    let is : slice_get c.self.inside.rows c.first_failing-place.result.0 ≡ None = sym c.first_failing-place.ensures.item ∙ ap option_copied c.in-None.is in
    let other : (item : ℕ × Row) → slice_get c.self.inside.rows c.first_failing-place.result.0 ≡ Some item → item.0 ≡ c.args.number → ⊥ = λ item at e. clash item (sym is ∙ at) in
    subst (λ rows. row_of rows c.args.number ≡ None) same (miss 0 c.self.inside.next c.args.number c.first_failing-place.result.0 c.self.inside.rows c.self.invariant.rise point other)
  where
    clash : (a : ℕ × Row) → None ≡ Some a → ⊥
    clash a e = cc e
