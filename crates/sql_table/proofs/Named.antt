-- Names beside tables, as two lists of one length.
use Rattle.std.proofs.Common.{◌≡◌, ◌||◌, ℕ, zero, suc, ◌+◌, ◌<◌, ◌≤◌, ◌==◌, Bool, true, false, not, cond, Option, Some, None, List, [], ◌∷◌, ◌++◌, length, is_some, get_or, option_map, refl, sym, ap, ◌∙◌, subst, arith}
use Rattle.std.specs.Prelude.{slice_set}
use Rattle.std.specs.Cmp.Lexicographic.{pointwise, nat_list_eq_equiv}
use Rattle.std.specs.List.{AllByRecursion, IsDistinct, ItemBy, list_any, position_or_len, remove, slice_get, zip}
use Rattle.std.specs.Map.{lookup, set_value, remove_entry, keys_of}
use Rattle.std.proofs.lemmas.Map.Keys.{IsDistinct-push}
use Rattle.meaning_tables.specs.Tables.{Rows}
use Rattle.sql_table.specs.Roomy.{ArePaired}

step : (p : ℕ) → 1 + p ≡ suc p
step p = omega arith

module _ {K X : Type 0} where
  less : (k : K) (ks : List K) (x : X) (xs : List X) → length (x ∷ xs) ≡ length (k ∷ ks) → length xs ≡ length ks
  less k ks x xs same = cc same

  pub keys-zip : (ks : List K) (xs : List X) → length xs ≡ length ks → keys_of (zip ks xs) ≡ ks
  keys-zip [] xs same = refl
  keys-zip (k ∷ ks) [] same = cc same
  keys-zip (k ∷ ks) (x ∷ xs) same = ap (λ l. k ∷ l) (keys-zip ks xs (less k ks x xs same))

  pub length-zip : (ks : List K) (xs : List X) → length xs ≡ length ks → length (zip ks xs) ≡ length ks
  length-zip [] xs same = refl
  length-zip (k ∷ ks) [] same = cc same
  length-zip (k ∷ ks) (x ∷ xs) same = ap suc (length-zip ks xs (less k ks x xs same))

  pub zip-push : (ks : List K) (xs : List X) (k : K) (x : X) → length xs ≡ length ks → zip (ks ++ k ∷ []) (xs ++ x ∷ []) ≡ zip ks xs ++ (k, x) ∷ []
  zip-push [] [] k x same = refl
  zip-push [] (y ∷ xs) k x same = cc same
  zip-push (l ∷ ks) [] k x same = cc same
  zip-push (l ∷ ks) (y ∷ xs) k x same = ap (λ es. (l, y) ∷ es) (zip-push ks xs k x (less l ks y xs same))

  -- the pair at a place
  pub zip_at : (ks : List K) (xs : List X) (i : ℕ) (k : K) (x : X) → slice_get ks i ≡ Some k → slice_get xs i ≡ Some x → slice_get (zip ks xs) i ≡ Some (k, x)
  zip_at [] xs i k x name is = cc name
  zip_at (l ∷ ks) [] i k x name is = cc is
  zip_at (l ∷ ks) (y ∷ xs) zero k x name is = cc (name, is)
  zip_at (l ∷ ks) (y ∷ xs) (suc i) k x name is = zip_at ks xs i k x name is

  pub zip_past : (ks : List K) (xs : List X) (i : ℕ) → slice_get ks i ≡ None → slice_get (zip ks xs) i ≡ None
  zip_past [] xs i none = refl
  zip_past (k ∷ ks) [] i none = refl
  zip_past (k ∷ ks) (x ∷ xs) zero none = cc none
  zip_past (k ∷ ks) (x ∷ xs) (suc i) none = zip_past ks xs i none

module _ {K X : Type 0} (test : K → Bool) where
  looked_up-by : (b : Bool) (x : X) (xs : List X) (p : ℕ) (found : Option X) → found ≡ slice_get xs p → cond b (Some x) found ≡ slice_get (x ∷ xs) (cond (not b) (1 + p) 0)
  looked_up-by true x xs p found is = refl
  looked_up-by false x xs p found is = rw (step p) is

  -- what a name has stands at the name's place
  pub looked_up : (ks : List K) (xs : List X) → length xs ≡ length ks → lookup test (zip ks xs) ≡ slice_get xs (position_or_len test ks)
  looked_up [] [] same = refl
  looked_up [] (x ∷ xs) same = cc same
  looked_up (k ∷ ks) [] same = refl
  looked_up (k ∷ ks) (x ∷ xs) same = looked_up-by (test k) x xs (position_or_len test ks) (lookup test (zip ks xs)) (looked_up ks xs (less k ks x xs same))

  set-by : (b : Bool) (k : K) (ks : List K) (x : X) (xs : List X) (p : ℕ) (w : X) (es : List (K × X)) → zip ks (slice_set xs p w) ≡ es → zip (k ∷ ks) (slice_set (x ∷ xs) (cond (not b) (1 + p) 0) w) ≡ cond b ((k, w) ∷ zip ks xs) ((k, x) ∷ es)
  set-by true k ks x xs p w es is = refl
  set-by false k ks x xs p w es is = rw (step p) (ap (λ l. (k, x) ∷ l) is)

  -- it changes there
  pub set_there : (ks : List K) (xs : List X) (w : X) → length xs ≡ length ks → zip ks (slice_set xs (position_or_len test ks) w) ≡ set_value test (zip ks xs) w
  set_there [] xs w same = refl
  set_there (k ∷ ks) [] w same = refl
  set_there (k ∷ ks) (x ∷ xs) w same = set-by (test k) k ks x xs (position_or_len test ks) w (set_value test (zip ks xs) w) (set_there ks xs w (less k ks x xs same))

  removed-by : (b : Bool) (k : K) (ks : List K) (x : X) (xs : List X) (p : ℕ) (es : List (K × X)) → zip (remove ks p) (remove xs p) ≡ es
      → zip (remove (k ∷ ks) (cond (not b) (1 + p) 0)) (remove (x ∷ xs) (cond (not b) (1 + p) 0)) ≡ cond b (zip ks xs) ((k, x) ∷ es)
  removed-by true k ks x xs p es is = refl
  removed-by false k ks x xs p es is = rw (step p) (ap (λ l. (k, x) ∷ l) is)

  -- it goes from there
  pub removed_there : (ks : List K) (xs : List X) → length xs ≡ length ks → zip (remove ks (position_or_len test ks)) (remove xs (position_or_len test ks)) ≡ remove_entry test (zip ks xs)
  removed_there [] [] same = refl
  removed_there [] (x ∷ xs) same = cc same
  removed_there (k ∷ ks) [] same = cc same
  removed_there (k ∷ ks) (x ∷ xs) same = removed-by (test k) k ks x xs (position_or_len test ks) (remove_entry test (zip ks xs)) (removed_there ks xs (less k ks x xs same))

  none_removed-by : (b : Bool) (e : K × X) (es left : List (K × X)) (found : Option X) → (found ≡ None → left ≡ es) → cond b (Some e.1) found ≡ None → cond b es (e ∷ left) ≡ e ∷ es
  none_removed-by true e es left found rest none = cc none
  none_removed-by false e es left found rest none = ap (λ l. e ∷ l) (rest none)

  -- where no entry has a key, none goes
  pub none_removed : (es : List (K × X)) → lookup test es ≡ None → remove_entry test es ≡ es
  none_removed [] none = refl
  none_removed (e ∷ es) none = none_removed-by (test e.0) e es (remove_entry test es) (lookup test es) (none_removed es) none

past : {X : Type 0} (xs : List X) (i : ℕ) → length xs ≤ i → slice_get xs i ≡ None
past [] i le = refl
past (x ∷ xs) zero le = absurd (omega (arith, le))
past (x ∷ xs) (suc i) le = past xs i (omega (arith, le))

here : {X : Type 0} (xs : List X) (i : ℕ) (d : X) → i < length xs → Some (get_or xs i d) ≡ slice_get xs i
here [] i d lt = absurd (omega (arith, lt))
here (x ∷ xs) zero d lt = refl
here (x ∷ xs) (suc i) d lt = here xs i d (omega (arith, lt))

-- what a look at a place gives
pub item_seen : {R X : Type 0} (now : R → X) (xs : List X) (i : ℕ) (r : Option R) → ItemBy now xs i i r → option_map now r ≡ slice_get xs i
item_seen now xs i None item = sym (past xs i item.3)
item_seen now xs i (Some x) item = ap Some item.1 ∙ here xs i (now x) item.3.0

within : {X : Type 0} (xs : List X) (i : ℕ) → i < length xs → is_some (slice_get xs i) ≡ true
within [] i lt = absurd (omega (arith, lt))
within (x ∷ xs) zero lt = refl
within (x ∷ xs) (suc i) lt = within xs i (omega (arith, lt))

module _ {K X : Type 0} (test : K → Bool) (ks : List K) (xs : List X) (same : length xs ≡ length ks) where
  -- none has the name, where the name's place is the end
  pub none_there : position_or_len test ks ≡ length ks → lookup test (zip ks xs) ≡ None
  none_there end = looked_up test ks xs same ∙ ap (λ i. slice_get xs i) (end ∙ sym same) ∙ past xs (length xs) (omega arith)

  pub one_there : position_or_len test ks < length ks → is_some (lookup test (zip ks xs)) ≡ true
  one_there lt = ap is_some (looked_up test ks xs same) ∙ within xs (position_or_len test ks) (subst (λ n. position_or_len test ks < n) (sym same) lt)

all-removed : {K : Type 0} (P : K → Type 0) (ks : List K) (i : ℕ) → AllByRecursion P ks → AllByRecursion P (remove ks i)
all-removed P [] zero all = tt
all-removed P [] (suc i) all = tt
all-removed P (k ∷ ks) zero all = all.1
all-removed P (k ∷ ks) (suc i) all = (all.0, all-removed P ks i all.1)

distinct-removed : {K : Type 0} (e : K → K → Bool) (ks : List K) (i : ℕ) → IsDistinct e ks → IsDistinct e (remove ks i)
unfolding IsDistinct
distinct-removed e [] zero distinct = tt
distinct-removed e [] (suc i) distinct = tt
distinct-removed e (k ∷ ks) zero distinct = distinct.1
distinct-removed e (k ∷ ks) (suc i) distinct = (all-removed (λ y. e k y ≡ false) ks i distinct.0, distinct-removed e ks i distinct.1)

length-removed : {K X : Type 0} (ks : List K) (xs : List X) (i : ℕ) → length xs ≡ length ks → length (remove xs i) ≡ length (remove ks i)
length-removed [] [] zero same = refl
length-removed [] [] (suc i) same = refl
length-removed [] (x ∷ xs) i same = cc same
length-removed (k ∷ ks) [] i same = cc same
length-removed (k ∷ ks) (x ∷ xs) zero same = less k ks x xs same
length-removed (k ∷ ks) (x ∷ xs) (suc i) same = ap suc (length-removed ks xs i (less k ks x xs same))

none-any-by : {X : Type 0} (b : Bool) (x : X) (found : Option X) (any : Bool) → (found ≡ None → any ≡ false) → cond b (Some x) found ≡ None → (b || any) ≡ false
none-any-by true x found any rest none = cc none
none-any-by false x found any rest none = rest none

none-any : {K X : Type 0} (test : K → Bool) (ks : List K) (xs : List X) → length xs ≡ length ks → lookup test (zip ks xs) ≡ None → list_any test ks ≡ false
none-any test [] xs same none = refl
none-any test (k ∷ ks) [] same none = cc same
none-any test (k ∷ ks) (x ∷ xs) same none = none-any-by (test k) x (lookup test (zip ks xs)) (list_any test ks) (none-any test ks xs (less k ks x xs same)) none

length-push : {K X : Type 0} (ks : List K) (xs : List X) (k : K) (x : X) → length xs ≡ length ks → length (xs ++ x ∷ []) ≡ length (ks ++ k ∷ [])
length-push [] [] k x same = refl
length-push [] (y ∷ xs) k x same = cc same
length-push (l ∷ ks) [] k x same = cc same
length-push (l ∷ ks) (y ∷ xs) k x same = ap suc (length-push ks xs k x (less l ks y xs same))

pub named_none : (names : List (List ℕ)) (tables : List Rows) → names ≡ [] → tables ≡ [] → ArePaired names tables
unfolding IsDistinct
named_none names tables nameless none = subst (λ ns. ArePaired ns tables) (sym nameless) (subst (λ ts. ArePaired [] ts) (sym none) (record { each = refl; distinct = tt }))

pub named_pushed : (names : List (List ℕ)) (tables : List Rows) (name : List ℕ) (t : Rows) → ArePaired names tables → lookup (pointwise ◌==◌ name) (zip names tables) ≡ None → ArePaired (names ++ name ∷ []) (tables ++ t ∷ [])
named_pushed names tables name t named none =
    record { each = length-push names tables name t named.each; distinct = IsDistinct-push nat_list_eq_equiv names name named.distinct (none-any (pointwise ◌==◌ name) names tables named.each none) }

pub named_removed : (names : List (List ℕ)) (tables : List Rows) (i : ℕ) → ArePaired names tables → ArePaired (remove names i) (remove tables i)
named_removed names tables i named = record { each = length-removed names tables i named.each; distinct = distinct-removed (pointwise ◌==◌) names i named.distinct }
