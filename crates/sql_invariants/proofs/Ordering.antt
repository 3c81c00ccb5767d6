-- Lists of tables of which one is made, changed or removed: names stay different, and row numbers rise.
use Rattle.std.proofs.Common.{◌≡◌, ◌++◌, ◌==◌, ℕ, Bool, true, false, cond, List, [], ◌∷◌, map, Option, Some, is_none, refl, sym, ap, ◌∙◌, subst}
use Rattle.std.specs.Cmp.Lexicographic.{pointwise, nat_list_eq_equiv}
use Rattle.std.specs.List.{IsDistinct, AllByRecursion}
use Rattle.std.proofs.lemmas.List.Elements.{recursion_from_All, All-from_recursion}
use Rattle.meaning_tables.specs.Tables.{Rows, Tables, IsNumbered, table_of, with_table, without_table}
use Rattle.sql_invariants.specs.Ordered.{AreOrdered}
use Rattle.sql_invariants.proofs.Left.{Left, none, leaves, stays}

abbrev names_of : Tables → List (List ℕ)
names_of tables = map (λ t. t.0) tables

abbrev same : List ℕ → List ℕ → Bool
same a b = pointwise ◌==◌ a b

-- tables by recursion, whose row numbers rise
abbrev AllNumbered : Tables → Type 0
AllNumbered tables = AllByRecursion (λ t. IsNumbered t.1) tables

names_by : (b : Bool) (e : List ℕ × Rows) (es rest : Tables) (t : Rows) → names_of rest ≡ names_of es → names_of (cond b ((e.0, t) ∷ es) (e ∷ rest)) ≡ e.0 ∷ names_of es
names_by true e es rest t is = refl
names_by false e es rest t is = ap (λ ns. e.0 ∷ ns) is

-- another table under a name
names_put : (tables : Tables) (name : List ℕ) (t : Rows) → names_of (with_table tables name t) ≡ names_of tables
names_put [] name t = refl
names_put (e ∷ es) name t = names_by (same name e.0) e es (with_table es name t) t (names_put es name t)

found_by : (b : Bool) (here t : Rows) (later : Option Rows) → IsNumbered here → cond b (Some here) later ≡ Some t → (later ≡ Some t → IsNumbered t) → IsNumbered t
found_by true here t later numbered is others = let e : here ≡ t = cc in subst (λ x. IsNumbered x) e numbered
found_by false here t later numbered is others = others is

found_numbered : (tables : Tables) (name : List ℕ) (t : Rows) → AllNumbered tables → table_of tables name ≡ Some t → IsNumbered t
found_numbered [] name t all is = absurd (cc)
found_numbered (e ∷ es) name t all is = found_by (same name e.0) e.1 t (table_of es name) all.0 is (λ later. found_numbered es name t all.1 later)

put_by : (b : Bool) (e : List ℕ × Rows) (es rest : Tables) (t : Rows) → AllNumbered (e ∷ es) → IsNumbered t → AllNumbered rest → AllNumbered (cond b ((e.0, t) ∷ es) (e ∷ rest))
put_by true e es rest t all numbered later = (numbered, all.1)
put_by false e es rest t all numbered later = (all.0, later)

put_numbered : (tables : Tables) (name : List ℕ) (t : Rows) → AllNumbered tables → IsNumbered t → AllNumbered (with_table tables name t)
put_numbered [] name t all numbered = tt
put_numbered (e ∷ es) name t all numbered = put_by (same name e.0) e es (with_table es name t) t all numbered (put_numbered es name t all.1 numbered)

all_left : (tables : Tables) → Left tables tables
all_left [] = none
all_left (e ∷ es) = stays e (all_left es)

left_by : (b : Bool) (e : List ℕ × Rows) (es rest : Tables) → Left es rest → Left (e ∷ es) (cond b es (e ∷ rest))
left_by true e es rest left = leaves e (all_left es)
left_by false e es rest left = stays e left

removed_left : (tables : Tables) (name : List ℕ) → Left tables (without_table tables name)
removed_left [] name = none
removed_left (e ∷ es) name = left_by (same name e.0) e es (without_table es name) (removed_left es name)

left_all : (P : List ℕ × Rows → Type 0) {olds news : Tables} → Left olds news → AllByRecursion P olds → AllByRecursion P news
left_all P none all = tt
left_all P (leaves e left) all = left_all P left all.1
left_all P (stays e left) all = (all.0, left_all P left all.1)

left_apart : (P : List ℕ → Type 0) {olds news : Tables} → Left olds news → AllByRecursion P (names_of olds) → AllByRecursion P (names_of news)
left_apart P none all = tt
left_apart P (leaves e left) all = left_apart P left all.1
left_apart P (stays e left) all = (all.0, left_apart P left all.1)

left_distinct : {olds news : Tables} → Left olds news → IsDistinct same (names_of olds) → IsDistinct same (names_of news)
unfolding IsDistinct
left_distinct none distinct = tt
left_distinct (leaves e left) distinct = left_distinct left distinct.1
left_distinct (stays e left) distinct = (left_apart (λ n. same e.0 n ≡ false) left distinct.0, left_distinct left distinct.1)

-- a new name is none of those that are there
absent_by : (b : Bool) (here : Rows) (later : Option Rows) → is_none (cond b (Some here) later) ≡ true → (b ≡ false) × (is_none later ≡ true)
absent_by true here later is = absurd (cc)
absent_by false here later is = (refl, is)

apart_last : (e : List ℕ) (es : Tables) (name : List ℕ) (t : Rows) → same e name ≡ false → AllByRecursion (λ n. same e n ≡ false) (names_of es) → AllByRecursion (λ n. same e n ≡ false) (names_of (es ++ (name, t) ∷ []))
apart_last e [] name t other all = (other, tt)
apart_last e (f ∷ fs) name t other all = (all.0, apart_last e fs name t other all.1)

distinct_last : (tables : Tables) (name : List ℕ) (t : Rows) → is_none (table_of tables name) ≡ true → IsDistinct same (names_of tables) → IsDistinct same (names_of (tables ++ (name, t) ∷ []))
unfolding IsDistinct
distinct_last [] name t absent distinct = (tt, tt)
distinct_last (e ∷ es) name t absent distinct =
    let other = absent_by (same name e.0) e.1 (table_of es name) absent in
    (apart_last e.0 es name t (nat_list_eq_equiv.symm e.0 name ∙ other.0) distinct.0, distinct_last es name t other.1 distinct.1)

numbered_last : (tables : Tables) (name : List ℕ) (t : Rows) → AllNumbered tables → IsNumbered t → AllNumbered (tables ++ (name, t) ∷ [])
numbered_last [] name t all numbered = (numbered, tt)
numbered_last (e ∷ es) name t all numbered = (all.0, numbered_last es name t all.1 numbered)

-- the list as a whole

all_numbered : (tables : Tables) → AreOrdered tables → AllNumbered tables
all_numbered tables ordered = recursion_from_All (λ (t : List ℕ × Rows). IsNumbered t.1) tables ordered.numbers

pub found_ordered : (tables : Tables) (name : List ℕ) (t : Rows) → AreOrdered tables → table_of tables name ≡ Some t → IsNumbered t
found_ordered tables name t ordered is = found_numbered tables name t (all_numbered tables ordered) is

pub put_ordered : (tables : Tables) (name : List ℕ) (t : Rows) → AreOrdered tables → IsNumbered t → AreOrdered (with_table tables name t)
put_ordered tables name t ordered numbered = record {
  names = subst (λ ns. IsDistinct same ns) (sym (names_put tables name t)) ordered.names;
  numbers = All-from_recursion (λ (e : List ℕ × Rows). IsNumbered e.1) (with_table tables name t) (put_numbered tables name t (all_numbered tables ordered) numbered);
}

pub removed_ordered : (tables : Tables) (name : List ℕ) → AreOrdered tables → AreOrdered (without_table tables name)
removed_ordered tables name ordered = record {
  names = left_distinct (removed_left tables name) ordered.names;
  numbers = All-from_recursion (λ (e : List ℕ × Rows). IsNumbered e.1) (without_table tables name) (left_all (λ e. IsNumbered e.1) (removed_left tables name) (all_numbered tables ordered));
}

pub added_ordered : (tables : Tables) (name : List ℕ) (t : Rows) → AreOrdered tables → is_none (table_of tables name) ≡ true → IsNumbered t → AreOrdered (tables ++ (name, t) ∷ [])
added_ordered tables name t ordered absent numbered = record {
  names = distinct_last tables name t absent ordered.names;
  numbers = All-from_recursion (λ (e : List ℕ × Rows). IsNumbered e.1) (tables ++ (name, t) ∷ []) (numbered_last tables name t (all_numbered tables ordered) numbered);
}

pub none_ordered : AreOrdered []
unfolding IsDistinct
none_ordered = record { names = tt; numbers = All-from_recursion (λ (t : List ℕ × Rows). IsNumbered t.1) [] tt }
