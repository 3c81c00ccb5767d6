-- Tables whose names differ: one in the middle of others, and that they still differ without their lost cells.
use Rattle.std.proofs.Common.{◌≡◌, ℕ, ◌==◌, Bool, true, false, cond, bytes_eq, List, [], ◌∷◌, ◌++◌, map, Option, Some, None, refl, sym, ◌∙◌, ap}
use Rattle.std.specs.Cmp.Lexicographic.{pointwise, nat_list_eq_equiv}
use Rattle.std.specs.List.{AllByRecursion, IsDistinct}
use Rattle.std.specs.Option.{option_or}
use Rattle.dl_base.specs.declared.value.LinkRow.{LinkRow}
use Rattle.meaning_merge.specs.Merging.{AreNamed}
use Rattle.meaning_merge.specs.Restoring.{without_lost}
use Rattle.meaning_merge.proofs.Keeping.{name-self, past-head}
use Rattle.meaning_merge.proofs.TableByTable.{table_of-append}
use Rattle.meaning_tables.specs.Tables.{Rows, Tables, table_of, with_table}
use Rattle.bk_losing.specs.Losing.{table_without}

none_some : (t : Rows) → Some t ≡ None → ⊥
none_some t e = cc

pub other_way : (m n : List ℕ) → bytes_eq m n ≡ false → bytes_eq n m ≡ false
other_way m n e = nat_list_eq_equiv.symm n m ∙ e

-- a name that no table has
pub absent : (t : List ℕ × Rows) (ts : Tables) (name : List ℕ) → table_of (t ∷ ts) name ≡ None → (bytes_eq name t.0 ≡ false) × (table_of ts name ≡ None)
absent t ts name e = by (bytes_eq name t.0) e
  where
    by : (b : Bool) → cond b (Some t.1) (table_of ts name) ≡ None → (b ≡ false) × (table_of ts name ≡ None)
    by true x = absurd (none_some t.1 x)
    by false x = (refl, x)

absent-more : (t : List ℕ × Rows) (ts : Tables) (name : List ℕ) → bytes_eq name t.0 ≡ false → table_of ts name ≡ None → table_of (t ∷ ts) name ≡ None
absent-more t ts name other none = past-head t ts name other ∙ none

-- the table in the middle
pub with-middle : (done ts : Tables) (t : List ℕ × Rows) (x : Rows) → table_of done t.0 ≡ None → with_table (done ++ t ∷ ts) t.0 x ≡ done ++ (t.0, x) ∷ ts
with-middle [] ts t x none = ap (λ b. cond b ((t.0, x) ∷ ts) (t ∷ with_table ts t.0 x)) (name-self t.0)
with-middle (d ∷ ds) ts t x none =
    let two = absent d ds t.0 none in
    ap (λ b. cond b ((d.0, x) ∷ ds ++ t ∷ ts) (d ∷ with_table (ds ++ t ∷ ts) t.0 x)) two.0 ∙ ap (λ (us : Tables). d ∷ us) (with-middle ds ts t x two.1)

-- its name is not before it
pub named-out : (done more : Tables) (u : List ℕ × Rows) → AreNamed (done ++ u ∷ more) → table_of done u.0 ≡ None
named-out [] more u named = refl
named-out (d ∷ ds) more u named =
    let later : table_of (u ∷ more) d.0 ≡ None = or-none (table_of ds d.0) (table_of (u ∷ more) d.0) (sym (table_of-append ds (u ∷ more) d.0) ∙ named.0) in
    absent-more d ds u.0 (other_way d.0 u.0 (absent u more d.0 later).0) (named-out ds more u named.1)
  where
    or-none : (a b : Option Rows) → option_or a b ≡ None → b ≡ None
    or-none None b e = e
    or-none (Some x) b e = absurd (none_some x e)

-- lost cells are no matter to names
pub named-without : (lost : LinkRow → Bool) (ts : Tables) → IsDistinct (pointwise ◌==◌) (map (λ t. t.0) ts) → AreNamed (without_lost lost ts)
unfolding IsDistinct
named-without lost [] distinct = tt
named-without lost (t ∷ ts) distinct = (none ts distinct.0, named-without lost ts distinct.1)
  where
    none : (us : Tables) → AllByRecursion (λ y. pointwise ◌==◌ t.0 y ≡ false) (map (λ u. u.0) us) → table_of (without_lost lost us) t.0 ≡ None
    none [] all = refl
    none (u ∷ us) all = absent-more (u.0, table_without lost u.1) (without_lost lost us) t.0 all.0 (none us all.1)
