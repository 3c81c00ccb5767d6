-- Tests of equality that decide it are the tests of the definitions.
use Rattle.std.proofs.Common.{◌≡◌, ℕ, ◌&&◌, Bool, true, false, List, [], refl, sym, ◌∙◌, ap}
use Rattle.std.specs.Bool.{Decides}
use Rattle.std.specs.Cmp.Lexicographic.{pointwise}
use Rattle.dl_base.specs.declared.column.Column.{Column}
use Rattle.dl_base.specs.declared.value.Row.{Row}
use Rattle.meaning_areas.specs.Same.{same_column, same_row}
use Rattle.meaning_areas.proofs.Equal.{row-decides, rows-decide}
use Rattle.meaning_tables.specs.Tables.{Rows}

one-test : (a b : Bool) → (a ≡ true → b ≡ true) → (b ≡ true → a ≡ true) → a ≡ b
one-test true b to back = sym (to refl)
one-test false true to back = back refl
one-test false false to back = refl

pub row-test : (b : Bool) (w r : Row) (n : ℕ) → (b ≡ true → w ≡ r) → (w ≡ r → b ≡ true) → b ≡ same_row (n, w) (n, r)
row-test b w r n to back = one-test b (same_row (n, w) (n, r)) (λ e. (row-decides (n, w) (n, r)).1 (ap (λ (x : Row). (n, x)) (to e))) (λ e. back (ap (λ (x : ℕ × Row). x.1) ((row-decides (n, w) (n, r)).0 e)))

on : (b : Bool) → ((b && true) && true) ≡ b
on true = refl
on false = refl

abbrev table : List Column → Rows
table cs = record { version = 0; columns = cs; next = 0; rows = [] }

decides : (cs ds : List Column) → Decides ((pointwise same_column cs ds && true) && true) (table cs ≡ table ds)
decides cs ds = rows-decide (table cs) (table ds)

pub columns-test : (b : Bool) (xs ys : List Column) → (b ≡ true → xs ≡ ys) → (xs ≡ ys → b ≡ true) → b ≡ pointwise same_column xs ys
columns-test b xs ys to back = one-test b (pointwise same_column xs ys)
    (λ e. sym (on (pointwise same_column xs ys)) ∙ (decides xs ys).1 (ap table (to e)))
    (λ e. back (ap (λ (t : Rows). t.columns) ((decides xs ys).0 (on (pointwise same_column xs ys) ∙ e))))
