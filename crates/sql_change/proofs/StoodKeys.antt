-- One key more that has stood.
use Rattle.std.proofs.Common.{◌≡◌, ◌||◌, ◌&&◌, ◌==◌, ℕ, ℤ, Bool, true, false, not, List, [], ◌∷◌, map, Result, Ok, Err, IfOk, refl, sym, ap, ◌∙◌}
use Rattle.std.specs.Bool.{MatchBool, OnTrue}
use Rattle.std.specs.Prelude.{IsPermutation}
use Rattle.std.specs.Cmp.Lexicographic.{pointwise}
use Rattle.std.specs.List.{list_any}
use Rattle.std.specs.Ordering.{int_eq}
use Rattle.std.proofs.lemmas.List.Sorted.{list_any-IsPermutation, IsPermutation-map}
use Rattle.dl_base.specs.declared.value.Dl.{Dl}
use Rattle.dl_base.specs.declared.value.Value.{Value}
use Rattle.dl_base.specs.declared.value.Value.TheVariants as values
use Rattle.meaning_tables.specs.Fits.{same_key}
use Rattle.sql_change.specs.Keys.{HaveStood, StoodKeys}

-- what a set has after a key was put into it
pub put : {K X : Type 0} (see : K → X) (test : X → Bool) (x : K) (old new : List K) (added : Bool) → MatchBool added (IsPermutation (x ∷ old) new) (new ≡ old)
    → OnTrue added (list_any test (map see new) ≡ (test (see x) || list_any test (map see old)))
put see test x old new true moved = sym (list_any-IsPermutation test (map see (x ∷ old)) (map see new) (IsPermutation-map see (x ∷ old) new moved))
put see test x old new false moved = tt

plain : (b : Bool) → (b && true) ≡ b
plain true = refl
plain false = refl

-- a number
number_more : (z : ℤ) (numbers after : List ℤ) (texts : List (List ℕ)) (stood : StoodKeys) → HaveStood numbers texts stood
    → ((q : ℤ) → list_any (int_eq q) after ≡ (int_eq q z || list_any (int_eq q) numbers))
    → HaveStood after texts ((values.Int z ∷ []) ∷ stood)
number_more z numbers after texts stood have more = (
  (λ q. more q ∙ rw (have.0 q, plain) refl),
  (λ t. have.1 t),
)

-- a text
text_more : (x : List ℕ) (numbers : List ℤ) (texts after : List (List ℕ)) (stood : StoodKeys) → HaveStood numbers texts stood
    → ((q : List ℕ) → list_any (pointwise ◌==◌ q) after ≡ (pointwise ◌==◌ q x || list_any (pointwise ◌==◌ q) texts))
    → HaveStood numbers after ((values.Text x ∷ []) ∷ stood)
text_more x numbers texts after stood have more = (
  (λ z. have.0 z),
  (λ q. more q ∙ rw (have.1 q, plain) refl),
)

-- whether a number or a text is new
number_known : {E : Type 0} (r : Result Bool E) (z : ℤ) (numbers after : List ℤ) (texts : List (List ℕ)) (stood : StoodKeys) → HaveStood numbers texts stood
    → IfOk r (λ new. new ≡ not (list_any (int_eq z) numbers))
    → ((q : ℤ) → IfOk r (λ new. OnTrue new (list_any (int_eq q) after ≡ (int_eq q z || list_any (int_eq q) numbers))))
    → IfOk r (λ new. (new ≡ not (list_any (pointwise same_key (values.Int z ∷ [])) stood)) × OnTrue new (HaveStood after texts ((values.Int z ∷ []) ∷ stood)))
number_known (Ok true) z numbers after texts stood have new more = (new ∙ ap (λ (b : Bool). not b) (have.0 z), number_more z numbers after texts stood have more)
number_known (Ok false) z numbers after texts stood have new more = (new ∙ ap (λ (b : Bool). not b) (have.0 z), tt)
number_known (Err e) z numbers after texts stood have new more = tt

text_known : {E : Type 0} (r : Result Bool E) (x : List ℕ) (numbers : List ℤ) (texts after : List (List ℕ)) (stood : StoodKeys) → HaveStood numbers texts stood
    → IfOk r (λ new. new ≡ not (list_any (pointwise ◌==◌ x) texts))
    → ((q : List ℕ) → IfOk r (λ new. OnTrue new (list_any (pointwise ◌==◌ q) after ≡ (pointwise ◌==◌ q x || list_any (pointwise ◌==◌ q) texts))))
    → IfOk r (λ new. (new ≡ not (list_any (pointwise same_key (values.Text x ∷ [])) stood)) × OnTrue new (HaveStood numbers after ((values.Text x ∷ []) ∷ stood)))
text_known (Ok true) x numbers texts after stood have new more = (new ∙ ap (λ (b : Bool). not b) (have.1 x), text_more x numbers texts after stood have more)
text_known (Ok false) x numbers texts after stood have new more = (new ∙ ap (λ (b : Bool). not b) (have.1 x), tt)
text_known (Err e) x numbers texts after stood have new more = tt

-- a value that is the same as no key
none_stands : (v : Value) → ((x : Value) → same_key v x ≡ false) → (stood : StoodKeys) → list_any (pointwise same_key (v ∷ [])) stood ≡ false
none_stands v none [] = refl
none_stands v none ([] ∷ ks) = none_stands v none ks
none_stands v none ((x ∷ xs) ∷ ks) = rw (none x) (none_stands v none ks)

none_known : (v : Value) → ((x : Value) → same_key v x ≡ false) → ((x : Value) → same_key x v ≡ false)
    → (numbers : List ℤ) (texts : List (List ℕ)) (stood : StoodKeys) → HaveStood numbers texts stood
    → (true ≡ not (list_any (pointwise same_key (v ∷ [])) stood)) × HaveStood numbers texts ((v ∷ []) ∷ stood)
none_known v none other numbers texts stood have = (
  ap (λ (b : Bool). not b) (sym (none_stands v none stood)),
  (
    (λ z. have.0 z ∙ rw (other (values.Int z)) refl),
    (λ t. have.1 t ∙ rw (other (values.Text t)) refl),
  ),
)

other_than_null : (x : Value) → same_key x values.Null ≡ false
other_than_null values.Null = refl
other_than_null (values.Int z) = refl
other_than_null (values.Text t) = refl
other_than_null (values.Link d) = refl

other_than_link : (d : Dl) (x : Value) → same_key x (values.Link d) ≡ false
other_than_link d values.Null = refl
other_than_link d (values.Int z) = refl
other_than_link d (values.Text t) = refl
other_than_link d (values.Link e) = refl

-- what is known of a key once it was put in
abbrev Known : {E : Type 0} → Result Bool E → Value → List ℤ → List (List ℕ) → StoodKeys → Type 0
Known r key numbers texts stood = IfOk r (λ new. (new ≡ not (list_any (pointwise same_key (key ∷ [])) stood)) × OnTrue new (HaveStood numbers texts ((key ∷ []) ∷ stood)))

pub number_put : {E : Type 0} (r : Result Bool E) (key : Value) (z : ℤ) (numbers after : List ℤ) (texts : List (List ℕ)) (stood : StoodKeys) → key ≡ values.Int z → HaveStood numbers texts stood
    → IfOk r (λ new. new ≡ not (list_any (int_eq z) numbers))
    → ((q : ℤ) → IfOk r (λ new. OnTrue new (list_any (int_eq q) after ≡ (int_eq q z || list_any (int_eq q) numbers))))
    → Known r key after texts stood
number_put r key z numbers after texts stood is have new more = rw is (number_known r z numbers after texts stood have new more)

pub text_put : {E : Type 0} (r : Result Bool E) (key : Value) (x : List ℕ) (numbers : List ℤ) (texts after : List (List ℕ)) (stood : StoodKeys) → key ≡ values.Text x → HaveStood numbers texts stood
    → IfOk r (λ new. new ≡ not (list_any (pointwise ◌==◌ x) texts))
    → ((q : List ℕ) → IfOk r (λ new. OnTrue new (list_any (pointwise ◌==◌ q) after ≡ (pointwise ◌==◌ q x || list_any (pointwise ◌==◌ q) texts))))
    → Known r key numbers after stood
text_put r key x numbers texts after stood is have new more = rw is (text_known r x numbers texts after stood have new more)

pub null_put : (key : Value) (numbers : List ℤ) (texts : List (List ℕ)) (stood : StoodKeys) → key ≡ values.Null → HaveStood numbers texts stood → (true ≡ not (list_any (pointwise same_key (key ∷ [])) stood)) × HaveStood numbers texts ((key ∷ []) ∷ stood)
null_put key numbers texts stood is have = rw is (none_known values.Null (λ x. refl) other_than_null numbers texts stood have)

pub link_put : (key : Value) (d : Dl) (numbers : List ℤ) (texts : List (List ℕ)) (stood : StoodKeys) → key ≡ values.Link d → HaveStood numbers texts stood → (true ≡ not (list_any (pointwise same_key (key ∷ [])) stood)) × HaveStood numbers texts ((key ∷ []) ∷ stood)
link_put key d numbers texts stood is have = rw is (none_known (values.Link d) (λ x. refl) (other_than_link d) numbers texts stood have)
