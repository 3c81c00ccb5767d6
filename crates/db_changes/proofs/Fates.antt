-- What becomes of a table, by steps.
use Rattle.std.proofs.Common.{◌≡◌, ℕ, zero, suc, ◌==◌, ◌&&◌, Bool, true, false, cond, List, [], ◌∷◌, drop, length, Option, Some, None, refl, sym, ◌∙◌, ap, subst}
use Rattle.std.specs.Cmp.Lexicographic.{pointwise}
use Rattle.std.specs.List.Sorted.{IsStrictlySortedBy}
use Rattle.std.specs.Map.{lookup}
use Rattle.std.specs.Ordering.{nat_cmp}
use Rattle.dl_codec.specs.declared.rows.RowChange.{RowChange}
use Rattle.meaning_areas.specs.Same.{same_columns, same_rows}
use Rattle.meaning_merge.specs.Merging.{AreNamed, fate_of, goes, row_changes}
use Rattle.meaning_merge.proofs.Keeping.{at-head, in-tail}
use Rattle.meaning_tables.specs.Tables.{Rise, Rows, Tables, table_of}
use Rattle.db_changes.specs.Handles.{fate_between, kept_in}
use Rattle.db_changes.specs.Made.{changes_at}
use Rattle.db_changes.specs.Touched.{Agree, Touched, numbers_of}
use Rattle.db_changes.proofs.Numbers.{listed-none, listed-some}
use Rattle.db_changes.proofs.RowsTouched.{changes-touched, no_changes, rows-same}

none_some : (t : Rows) → None ≡ Some t → ⊥
none_some t e = cc

some_same : (x y : Rows) → Some x ≡ Some y → x ≡ y
some_same x y e = cc

pub none-goes : (b : Rows) (o : Option Rows) → None ≡ kept_in o → fate_of (Some b) o ≡ goes
none-goes b None e = refl
none-goes b (Some t) e = by (t.version == 0) e
  where
    by : (v : Bool) → None ≡ cond v None (Some t) → cond v goes (fate_between b t) ≡ goes
    by true e = refl
    by false e = absurd (none_some t e)

-- a table that both have
pub record Has (o : Option Rows) (t : Rows) : Type 0 where
  pub found : o ≡ Some t
  pub old : (t.version == 0) ≡ false
  pub fate : (b : Rows) → fate_of (Some b) o ≡ fate_between b t

pub some-has : (o : Option Rows) (t : Rows) → Some t ≡ kept_in o → Has o t
some-has None t e = absurd (none_some t (sym e))
some-has (Some u) t e = by (u.version == 0) refl e
  where
    by : (v : Bool) → (u.version == 0) ≡ v → Some t ≡ cond v None (Some u) → Has (Some u) t
    by true at e = absurd (none_some t (sym e))
    by false at e = record {
      found = sym e;
      old = ap (λ (x : Rows). x.version == 0) (some_same t u e) ∙ at;
      fate = λ b. ap (λ v. cond v goes (fate_between b u)) at ∙ ap (fate_between b) (sym (some_same t u e));
    }

-- the table at a place is that of its name
pub found-at : (ts : Tables) (i : ℕ) (t : List ℕ × Rows) (rest : Tables) → AreNamed ts → drop i ts ≡ t ∷ rest → table_of ts t.0 ≡ Some t.1
found-at [] zero t rest named e = absurd cc
found-at [] (suc i) t rest named e = absurd cc
found-at (u ∷ us) zero t rest named e = subst (λ (x : List ℕ × Rows). table_of (u ∷ us) x.0 ≡ Some x.1) (first e) (at-head u us)
  where
    first : u ∷ us ≡ t ∷ rest → u ≡ t
    first e = cc
found-at (u ∷ us) (suc i) t rest named e = in-tail u us t.0 t.1 named.0 (found-at us i t rest named.1 e)

-- the test of equality, from the changes of rows

abbrev heads : Rows → Rows → Bool
heads a b = (a.version == b.version) && same_columns a b && (a.next == b.next)

off : (b : Bool) → (b && false) ≡ false
off true = refl
off false = refl

on : (b : Bool) → (b && true) ≡ b
on true = refl
on false = refl

pub rows-differ : (a b : Rows) (made : List RowChange) → Rise 0 a.next a.rows → Rise 0 b.next b.rows → made ≡ row_changes a.rows b.rows → (length made ≡ 0 → ⊥) → false ≡ same_rows a b
rows-differ a b made rise rise_b is some = sym (ap (λ x. heads a b && x) (rows-same a.next b.next a.rows b.rows rise rise_b ∙ ap no_changes (sym is) ∙ by made some) ∙ off (heads a b))
  where
    by : (cs : List RowChange) → (length cs ≡ 0 → ⊥) → no_changes cs ≡ false
    by [] never = absurd (never refl)
    by (c ∷ cs) never = refl

pub heads-decide : (a b : Rows) (made : List RowChange) → Rise 0 a.next a.rows → Rise 0 b.next b.rows → made ≡ row_changes a.rows b.rows → length made ≡ 0 → heads a b ≡ same_rows a b
heads-decide a b made rise rise_b is none = sym (ap (λ x. heads a b && x) (rows-same a.next b.next a.rows b.rows rise rise_b ∙ ap no_changes (sym is) ∙ by made none) ∙ on (heads a b))
  where
    by : (cs : List RowChange) → length cs ≡ 0 → no_changes cs ≡ true
    by [] e = refl
    by (c ∷ cs) e = absurd cc

-- the changes of rows, where a name is found among touched ones, or not

pub changes-some : (a b : Rows) (touched : Touched) (name numbers : List ℕ) → Rise 0 a.next a.rows → Rise 0 b.next b.rows → Some numbers ≡ lookup (pointwise ◌==◌ name) touched → IsStrictlySortedBy nat_cmp (numbers_of touched name) → Agree (numbers_of touched name) a.rows b.rows → changes_at a.rows b.rows numbers ≡ row_changes a.rows b.rows
changes-some a b touched name numbers rise rise_b found sorted agree =
    let is = listed-some touched name numbers found in
    sym (changes-touched a.next b.next a.rows b.rows numbers rise rise_b (subst (λ ns. IsStrictlySortedBy nat_cmp ns) is sorted) (subst (λ ns. Agree ns a.rows b.rows) is agree))

pub changes-none : (a b : Rows) (touched : Touched) (name : List ℕ) → Rise 0 a.next a.rows → Rise 0 b.next b.rows → None ≡ lookup (pointwise ◌==◌ name) touched → IsStrictlySortedBy nat_cmp (numbers_of touched name) → Agree (numbers_of touched name) a.rows b.rows → [] ≡ row_changes a.rows b.rows
changes-none a b touched name rise rise_b found sorted agree =
    let is = listed-none touched name found in
    sym (changes-touched a.next b.next a.rows b.rows [] rise rise_b (subst (λ ns. IsStrictlySortedBy nat_cmp ns) is sorted) (subst (λ ns. Agree ns a.rows b.rows) is agree))
