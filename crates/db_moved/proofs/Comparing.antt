-- Tables and rows that are compared place by place, of rows only the touched ones.
use Rattle.std.proofs.Common.{◌≡◌, ℕ, zero, suc, ◌+◌, ◌==◌, ◌&&◌, Bool, true, false, not, List, [], ◌∷◌, ◌++◌, drop, bytes_eq, Some, None, refl, sym, ◌∙◌, ap, subst, add-one}
use Rattle.std.specs.Cmp.Lexicographic.{pointwise}
use Rattle.std.specs.List.{list_all, slice_get}
use Rattle.std.specs.List.Sorted.{IsStrictlySortedBy}
use Rattle.std.specs.Map.{lookup}
use Rattle.std.specs.Ordering.{nat_cmp}
use Rattle.std.proofs.lemmas.Bool.{not-true}
use Rattle.dl_base.specs.declared.value.Row.{Row}
use Rattle.dl_codec.specs.declared.rows.RowChange.{RowChange}
use Rattle.db_changes.specs.Made.{change_at, changes_at}
use Rattle.db_changes.specs.Touched.{Agree, AreCommitted, Covers, Touched, numbers_of}
use Rattle.db_changes.proofs.Fates.{changes-none, changes-some, found-at}
use Rattle.db_changes.proofs.RowsTouched.{no_changes, rows-same}
use Rattle.meaning_areas.specs.Same.{same_row, same_tables}
use Rattle.meaning_merge.proofs.Keeping.{name-same}
use Rattle.meaning_merge.proofs.Numbers.{both}
use Rattle.meaning_merge.specs.Merging.{AreNamed, row_changes}
use Rattle.meaning_system.specs.State.{is_empty}
use Rattle.meaning_tables.specs.Tables.{Rise, Rows, Tables, row_of, table_of}
use Rattle.db_moved.specs.Comparing.{same_at}

-- TABLES, place by place

nil-step : (ys : Tables) (i : ℕ) → same_tables [] (drop i ys) ≡ (same_at None (slice_get ys i) && same_tables [] (drop (suc i) ys))
nil-step [] zero = refl
nil-step [] (suc i) = refl
nil-step (y ∷ ys) zero = refl
nil-step (y ∷ ys) (suc i) = nil-step ys i

step-nil : (xs : Tables) (i : ℕ) → same_tables (drop i xs) [] ≡ (same_at (slice_get xs i) None && same_tables (drop (suc i) xs) [])
step-nil [] zero = refl
step-nil [] (suc i) = refl
step-nil (x ∷ xs) zero = refl
step-nil (x ∷ xs) (suc i) = step-nil xs i

step : (xs ys : Tables) (i : ℕ) → same_tables (drop i xs) (drop i ys) ≡ (same_at (slice_get xs i) (slice_get ys i) && same_tables (drop (suc i) xs) (drop (suc i) ys))
step [] ys zero = nil-step ys zero
step [] ys (suc i) = nil-step ys (suc i)
step (x ∷ xs) [] zero = refl
step (x ∷ xs) [] (suc i) = step-nil xs i
step (x ∷ xs) (y ∷ ys) zero = refl
step (x ∷ xs) (y ∷ ys) (suc i) = step xs ys i

same-step : (xs ys : Tables) (i : ℕ) → same_tables (drop i xs) (drop i ys) ≡ (same_at (slice_get xs i) (slice_get ys i) && same_tables (drop (i + 1) xs) (drop (i + 1) ys))
same-step xs ys i = step xs ys i ∙ ap (λ j. same_at (slice_get xs i) (slice_get ys i) && same_tables (drop j xs) (drop j ys)) (sym (add-one i))

pub same_here : (xs ys : Tables) (i : ℕ) (b : Bool) → b ≡ same_at (slice_get xs i) (slice_get ys i) → b ≡ true → same_tables (drop i xs) (drop i ys) ≡ same_tables xs ys → same_tables (drop (i + 1) xs) (drop (i + 1) ys) ≡ same_tables xs ys
same_here xs ys i b is passes so_far = sym (ap (λ c. c && same_tables (drop (i + 1) xs) (drop (i + 1) ys)) (sym is ∙ passes)) ∙ sym (same-step xs ys i) ∙ so_far

pub differs_here : (xs ys : Tables) (i : ℕ) (b : Bool) → b ≡ same_at (slice_get xs i) (slice_get ys i) → b ≡ false → same_tables (drop i xs) (drop i ys) ≡ same_tables xs ys → false ≡ same_tables xs ys
differs_here xs ys i b is fails so_far = sym (ap (λ c. c && same_tables (drop (i + 1) xs) (drop (i + 1) ys)) (sym is ∙ fails)) ∙ sym (same-step xs ys i) ∙ so_far

-- what is known of the tables at a place

pub old_at : (ts : Tables) (i : ℕ) (t : List ℕ × Rows) (rest : Tables) → AreCommitted ts → drop i ts ≡ t ∷ rest → (t.1.version == 0) ≡ false
old_at [] zero t rest all e = absurd cc
old_at [] (suc i) t rest all e = absurd cc
old_at (u ∷ us) zero t rest all e = subst (λ (x : List ℕ × Rows). (x.1.version == 0) ≡ false) (first e) (not-true (u.1.version == 0) (both (not (u.1.version == 0)) (list_all (λ w. not (w.1.version == 0)) us) all).0)
  where
    first : u ∷ us ≡ t ∷ rest → u ≡ t
    first e = cc
old_at (u ∷ us) (suc i) t rest all e = old_at us i t rest (both (not (u.1.version == 0)) (list_all (λ w. not (w.1.version == 0)) us) all).1 e

pub agree_at : (touched : Touched) (base copy : Tables) (i : ℕ) (name other : List ℕ) (was now : Rows) (rest left : Tables) → Covers touched base copy → AreNamed base → AreNamed copy
    → drop i base ≡ (name, was) ∷ rest → drop i copy ≡ (other, now) ∷ left → bytes_eq name other ≡ true → (now.version == 0) ≡ false → Agree (numbers_of touched name) was.rows now.rows
agree_at touched base copy i name other was now rest left covers named named_copy at at_copy same old =
    covers.rows name was now (found-at base i (name, was) rest named at)
    (subst (λ (n : List ℕ). table_of copy n ≡ Some now) (sym (name-same name other same)) (found-at copy i (other, now) left named_copy at_copy)) old

pub same_names : (r : Bool) (a b x y : List ℕ) → r ≡ bytes_eq a b → r ≡ true → a ≡ x → b ≡ y → bytes_eq x y ≡ true
same_names r a b x y is passes one two = sym (ap (λ (n : List ℕ). bytes_eq n b) one ∙ ap (λ (n : List ℕ). bytes_eq x n) two) ∙ sym is ∙ passes

-- ROWS, number by number

abbrev At : List (ℕ × Row) → List (ℕ × Row) → ℕ → List RowChange
At was now n = change_at (row_of was n) (row_of now n) n

behind : (cs ds : List RowChange) → is_empty (cs ++ ds) ≡ (is_empty cs && is_empty ds)
behind [] ds = refl
behind (c ∷ cs) ds = refl

pub same_row_here : (was now : List (ℕ × Row)) (numbers : List ℕ) (i n : ℕ) (b : Bool) → drop i numbers ≡ n ∷ drop (i + 1) numbers → b ≡ is_empty (At was now n) → b ≡ true
    → is_empty (changes_at was now (drop i numbers)) ≡ is_empty (changes_at was now numbers) → is_empty (changes_at was now (drop (i + 1) numbers)) ≡ is_empty (changes_at was now numbers)
same_row_here was now numbers i n b left is passes so_far =
    sym (ap (λ c. c && is_empty (changes_at was now (drop (i + 1) numbers))) (sym is ∙ passes)) ∙ sym (behind (At was now n) (changes_at was now (drop (i + 1) numbers)))
    ∙ sym (ap (λ (ns : List ℕ). is_empty (changes_at was now ns)) left) ∙ so_far

pub row_differs_here : (was now : List (ℕ × Row)) (numbers : List ℕ) (i n : ℕ) (b : Bool) → drop i numbers ≡ n ∷ drop (i + 1) numbers → b ≡ is_empty (At was now n) → b ≡ false
    → is_empty (changes_at was now (drop i numbers)) ≡ is_empty (changes_at was now numbers) → false ≡ is_empty (changes_at was now numbers)
row_differs_here was now numbers i n b left is fails so_far =
    sym (ap (λ c. c && is_empty (changes_at was now (drop (i + 1) numbers))) (sym is ∙ fails)) ∙ sym (behind (At was now n) (changes_at was now (drop (i + 1) numbers)))
    ∙ sym (ap (λ (ns : List ℕ). is_empty (changes_at was now ns)) left) ∙ so_far

none_is_empty : (cs : List RowChange) → is_empty cs ≡ no_changes cs
none_is_empty [] = refl
none_is_empty (c ∷ cs) = refl

pub same_touched : (a b : Rows) (touched : Touched) (name numbers : List ℕ) (r : Bool) → Rise 0 a.next a.rows → Rise 0 b.next b.rows → Some numbers ≡ lookup (pointwise ◌==◌ name) touched
    → IsStrictlySortedBy nat_cmp (numbers_of touched name) → Agree (numbers_of touched name) a.rows b.rows → r ≡ is_empty (changes_at a.rows b.rows numbers) → r ≡ pointwise same_row a.rows b.rows
same_touched a b touched name numbers r rise rise_b found sorted agree is =
    is ∙ ap (λ (cs : List RowChange). is_empty cs) (changes-some a b touched name numbers rise rise_b found sorted agree) ∙ none_is_empty (row_changes a.rows b.rows) ∙ sym (rows-same a.next b.next a.rows b.rows rise rise_b)

pub same_untouched : (a b : Rows) (touched : Touched) (name : List ℕ) → Rise 0 a.next a.rows → Rise 0 b.next b.rows → None ≡ lookup (pointwise ◌==◌ name) touched
    → IsStrictlySortedBy nat_cmp (numbers_of touched name) → Agree (numbers_of touched name) a.rows b.rows → true ≡ pointwise same_row a.rows b.rows
same_untouched a b touched name rise rise_b found sorted agree =
    ap (λ (cs : List RowChange). no_changes cs) (changes-none a b touched name rise rise_b found sorted agree) ∙ sym (rows-same a.next b.next a.rows b.rows rise rise_b)
