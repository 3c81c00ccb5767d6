-- The rows that a DELETE leaves: they fit, their keys differ, and the links of the others are dropped.
use Rattle.std.proofs.Common.{◌≡◌, ℕ, Bool, true, false, List, [], ◌∷◌, Option, Some, None, is_none, Result, Ok, if◌then◌else◌, refl, ap, ◌∙◌, subst}
use Rattle.std.specs.Cmp.Lexicographic.{pointwise}
use Rattle.std.specs.List.{list_any, list_all}
use Rattle.std.proofs.lemmas.Bool.{and_parts, and_from, or_parts, cond-false}
use Rattle.dl_base.specs.declared.column.Column.{Column}
use Rattle.dl_base.specs.declared.sql_fault.SqlFault.{SqlFault}
use Rattle.dl_base.specs.declared.value.Row.{Row}
use Rattle.dl_base.specs.declared.value.Value.{Value}
use Rattle.meaning_sql.specs.Faults.{try_filter}
use Rattle.meaning_tables.specs.Fits.{key_of, same_key, repeated}
use Rattle.meaning_tables.specs.Links.{row_links}
use Rattle.sql_invariants.proofs.Made.{rows_links}
use Rattle.sql_invariants.proofs.Steps.{go_on, given}
use Rattle.sql_invariants.proofs.Walks.{Walk, ends, after, all_kept, all_dropped}

-- a list of which some items are left, in order
pub data Left {A : Type 0} : List A → List A → Type 0 where
  none : Left [] []
  leaves : {xs ys : List A} (x : A) → Left xs ys → Left (x ∷ xs) ys
  stays : {xs ys : List A} (x : A) → Left xs ys → Left (x ∷ xs) (x ∷ ys)

one_left : {A : Type 0} (b : Bool) (x : A) (xs ys : List A) → Left xs ys → Left (x ∷ xs) (if b then x ∷ ys else ys)
one_left true x xs ys left = stays x left
one_left false x xs ys left = leaves x left

pub kept_left : {A : Type 0} (passes : A → Result Bool SqlFault) (xs ys : List A) → try_filter passes xs ≡ Ok ys → Left xs ys
kept_left passes [] ys is = subst (λ zs. Left [] zs) (given _ ys is) none
kept_left passes (x ∷ xs) ys is =
    go_on (passes x) is λ b _ is.
    go_on (try_filter passes xs) is λ rest others is.
    subst (λ zs. Left (x ∷ xs) zs) (given _ ys is) (one_left b x xs rest (kept_left passes xs rest others))

pub left_pass : {A : Type 0} (p : A → Bool) {xs ys : List A} → Left xs ys → list_all p xs ≡ true → list_all p ys ≡ true
left_pass p none all = refl
left_pass p (leaves {xs = xs} x left) all = left_pass p left (and_parts (p x) (list_all p xs) all).1
left_pass p (stays {xs = xs} {ys = ys} x left) all =
    let both = and_parts (p x) (list_all p xs) all in
    and_from (p x) (list_all p ys) both.0 (left_pass p left both.1)

pub left_walk : (tx k : ℕ) (columns : List Column) {olds news : List (ℕ × Row)} → Left olds news → Walk tx k k (rows_links columns olds) (rows_links columns news)
left_walk tx k columns none = ends
left_walk tx k columns (leaves r left) = after (all_dropped tx k (row_links columns r.1.values)) (left_walk tx k columns left)
left_walk tx k columns (stays r left) = after (all_kept tx k (row_links columns r.1.values)) (left_walk tx k columns left)

-- keys

not_repeated : (b : Bool) (n : ℕ) (o : Option ℕ) → (if b then Some n else o) ≡ None → (b ≡ false) × (o ≡ None)
not_repeated true n o is = absurd (cc)
not_repeated false n o is = (refl, is)

-- where no test that fails of all of these keys passes one of those
abbrev Among : List (List Value) → List (List Value) → Type 0
Among keys some = (test : List Value → Bool) → list_any test keys ≡ false → list_any test some ≡ false

left_differ : (columns : List Column) {olds news : List (ℕ × Row)} (keys some : List (List Value)) → Left olds news → Among keys some → repeated columns keys olds ≡ None → repeated columns some news ≡ None
left_differ columns keys some none among is = refl
left_differ columns keys some (leaves {xs = xs} r left) among is =
    let key = key_of columns r.1.values in
    let new = not_repeated (list_any (pointwise same_key key) keys) r.0 (repeated columns (key ∷ keys) xs) is in
    left_differ columns (key ∷ keys) some left (λ test fails. among test (or_parts (test key) (list_any test keys) fails).1) new.1
left_differ columns keys some (stays {xs = xs} {ys = ys} r left) among is =
    let key = key_of columns r.1.values in
    let new = not_repeated (list_any (pointwise same_key key) keys) r.0 (repeated columns (key ∷ keys) xs) is in
    cond-false (list_any (pointwise same_key key) some) (Some r.0) (repeated columns (key ∷ some) ys) (among (pointwise same_key key) new.0)
    ∙ left_differ columns (key ∷ keys) (key ∷ some) left
    (λ test fails. let both = or_parts (test key) (list_any test keys) fails in rw both.0 (among test both.1)) new.1

is_nothing : {A : Type 0} (o : Option A) → is_none o ≡ true → o ≡ None
is_nothing None is = refl
is_nothing (Some x) is = absurd (cc)

pub still_differ : (columns : List Column) {olds news : List (ℕ × Row)} (keyed : Bool) → Left olds news
    → is_none (if keyed then repeated columns [] olds else None) ≡ true → is_none (if keyed then repeated columns [] news else None) ≡ true
still_differ columns {olds} {news} true left is = ap (λ (o : Option ℕ). is_none o) (left_differ columns [] [] left (λ test fails. fails) (is_nothing (repeated columns [] olds) is))
still_differ columns false left is = refl
