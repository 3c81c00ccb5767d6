-- What a table keeps of its rows, as one is taken out where it stands.
use Rattle.std.proofs.Common.{◌≡◌, ℕ, ◌<◌, ◌==◌, ◌&&◌, ◌||◌, Bool, true, false, not, Option, Some, None, List, [], ◌∷◌, ◌++◌, length, Result, Ok, Err, OnOk, OnErr, refl, sym, ap, ◌∙◌, arith, subst}
use Rattle.std.specs.List.{remove}
use Rattle.std.specs.List.Sorted.{IsStrictlySortedBy}
use Rattle.std.specs.Ordering.{is_eq}
use Rattle.std.specs.declared.cmp.Ordering.{Ordering}
use Rattle.dl_base.specs.declared.column.Column.{Column}
use Rattle.dl_base.specs.declared.value.LinkNo.{LinkNo}
use Rattle.dl_base.specs.declared.value.Row.{Row}
use Rattle.dl_pages.specs.Entries.{entry_order}
use Rattle.dl_pages.specs.Orders.{link_order}
use Rattle.dl_pages.specs.Sets.{has, WithoutMember}
use Rattle.meaning_tables.specs.Tables.{row_of}
use Rattle.sql_table.specs.Entries.{AreEntries, AreEntriesOf}
use Rattle.sql_table.specs.KeySeen.{Key}
use Rattle.sql_table.specs.Keys.{key_order, key_marks}
use Rattle.sql_table.specs.Marks.{IsKept, WithoutMarks, link_marks}
use Rattle.sql_table.specs.Places.{IsPlace}
use Rattle.sql_table.specs.declared.index.Entries.{Entries}
use Rattle.sql_table.specs.declared.index.Entries.TheVariants as entries
use Rattle.sql_table.proofs.Kept.{kept_removed}
use Rattle.sql_table.proofs.Marking.{entry-eq}
use Rattle.sql_table.proofs.Numbers.{present}

-- a list of no length, and one of no greater length than 1
pub none_of_length : {A : Type 0} (xs : List A) → (0 < length xs → ⊥) → xs ≡ []
none_of_length [] none = refl
none_of_length (x ∷ xs) none = absurd (none (omega arith))

pub alone : {A : Type 0} (all left : List A) (last : A) → (1 < length all → ⊥) → all ≡ left ++ last ∷ [] → all ≡ last ∷ []
alone all [] last few is = is
alone {A = A} all (x ∷ left) last few is = absurd (few (subst (λ (l : List A). 1 < length l) (sym is) (longer left)))
  where
    longer : (ys : List A) → 1 < length (x ∷ ys ++ last ∷ [])
    longer [] = omega arith
    longer (y ∷ ys) = omega arith

or-false : (b : Bool) → b ≡ (b || false)
or-false true = refl
or-false false = refl

module _ {K : Type 0} (order : K → K → Ordering) where
  none-less : (b h : Bool) → h ≡ (not (b && false) && h)
  none-less true h = refl
  none-less false h = refl

  -- an index without no marks, and without one
  without_none : (number : ℕ) (index : List (K × ℕ)) → IsStrictlySortedBy (entry_order order) index → WithoutMarks order [] number index index
  without_none number index sorted = record { sorted = sorted; each = λ k n. none-less (number == n) (has (entry_order order) index (k, n)) }

  without_one : (mark : K) (number : ℕ) (index new : List (K × ℕ)) → WithoutMember (entry_order order) index new (mark, number) → WithoutMarks order (mark ∷ []) number index new
  without_one mark number index new less = record {
    sorted = less.sorted;
    each = λ k n. less.each (k, n) ∙ ap (λ b. not b && has (entry_order order) index (k, n)) (entry-eq order k mark n number ∙ ap (λ b. (number == n) && b) (or-false (is_eq (order k mark))));
  }

-- the row that stands at the place of a number
row-of : (rows : List (ℕ × Row)) (number place : ℕ) → IsPlace rows number place → (row : Row) × (row_of rows number ≡ Some row)
row-of rows number place at = by (row_of rows number) refl
  where
    by : (found : Option Row) → row_of rows number ≡ found → (row : Row) × (row_of rows number ≡ Some row)
    by None is = absurd (present rows number place at is)
    by (Some row) is = (row, is)

-- what has been told of a row that was met is told of the row of the number
pub entries_met : (columns seen : List Column) (rows : List (ℕ × Row)) (number : ℕ) (row : Row) (made : Entries) → row_of rows number ≡ Some row → seen ≡ columns → AreEntries made (link_marks seen row) (key_marks seen row) → AreEntriesOf columns rows number made
entries_met columns seen rows number row made is same are other there =
    subst (λ r. AreEntries made (link_marks columns r) (key_marks columns r)) (one row other (sym is ∙ there)) (subst (λ cs. AreEntries made (link_marks cs row) (key_marks cs row)) same are)
  where
    one : (a b : Row) → Some a ≡ Some b → a ≡ b
    one a b e = cc e

-- a row of which no index has anything
pub kept_plain : {V E : Type 0} (result : Result V E) (columns : List Column) (next number place : ℕ) (rows after : List (ℕ × Row)) (links : List (LinkNo × ℕ)) (keys : List (Key × ℕ)) → IsKept columns next rows links keys → IsPlace rows number place → AreEntriesOf columns rows number entries.Nothing
    → OnOk result (after ≡ remove rows place) → OnErr result (after ≡ rows) → IsKept columns next after links keys
kept_plain (Ok v) columns next number place rows after links keys kept at told e same =
    let row = row-of rows number place at in
    let are = told row.0 row.1 in
    kept_removed columns next number rows after links links keys keys row.0 [] [] kept row.1 (sym are.0) (without_none link_order number links kept.links.sorted) (sym are.1) (without_none key_order number keys kept.keys.sorted) (e ∙ sym at.removed)
kept_plain (Err fault) columns next number place rows after links keys kept at told e same = subst (λ rs. IsKept columns next rs links keys) (sym same) kept

-- a row with one key alone
pub kept_keyed : {V E : Type 0} (result : Result V E) (columns : List Column) (next number place : ℕ) (rows after : List (ℕ × Row)) (links : List (LinkNo × ℕ)) (keys left : List (Key × ℕ)) (key : Key) → IsKept columns next rows links keys → IsPlace rows number place → AreEntriesOf columns rows number (entries.Key key)
    → OnOk result (after ≡ remove rows place) → OnOk result (WithoutMember (entry_order key_order) keys left (key, number)) → OnErr result ((after ≡ rows) × (left ≡ keys)) → IsKept columns next after links left
kept_keyed (Ok v) columns next number place rows after links keys left key kept at told e less same =
    let row = row-of rows number place at in
    let are = told row.0 row.1 in
    kept_removed columns next number rows after links links keys left row.0 [] (key ∷ []) kept row.1 (sym are.0) (without_none link_order number links kept.links.sorted) (sym are.1) (without_one key_order key number keys left less) (e ∙ sym at.removed)
kept_keyed (Err fault) columns next number place rows after links keys left key kept at told e less same =
    subst (λ rs. IsKept columns next rs links left) (sym same.0) (subst (λ ks. IsKept columns next rows links ks) (sym same.1) kept)
