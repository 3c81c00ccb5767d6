-- REFUSALS IN ORDER, of what a transaction gives and takes.
use Rattle.std.proofs.Common.{◌≡◌, ℕ, ◌+◌, ◌<◌, ◌==◌, ◌&&◌, ◌||◌, Bool, true, false, not, cond, List, [], ◌∷◌, ◌++◌, length, get_or, drop, Option, Some, None, refl, sym, ◌∙◌, ap, arith}
use Rattle.std.proofs.lemmas.Bool.{and_parts, eqb-true}
use Rattle.std.proofs.lemmas.Bool.Decides.{nat_tests}
use Rattle.std.proofs.lemmas.List.{drop_more}
use Rattle.std.specs.BTreeMap.{is_at as at_query}
use Rattle.std.specs.Cmp.Lexicographic.{slice_cmp}
use Rattle.std.specs.List.{list_any}
use Rattle.std.specs.Ordering.{nat_cmp}
use Rattle.dl_base.specs.declared.answer.Refusal.{Refusal}
use Rattle.dl_base.specs.declared.value.LinkNo.{LinkNo}
use Rattle.dl_base.specs.declared.value.LinkRow.{LinkRow}
use Rattle.fm_links.proofs.Entries.{turned}
use Rattle.fm_links.specs.Guarding.{unless_among}
use Rattle.meaning_settling.proofs.KeyedLaws.{is_at-same}
use Rattle.meaning_settling.specs.Keyed.{is_at}
use Rattle.meaning_settling.specs.Settling.{on}
use Rattle.meaning_system.proofs.Claiming.{or-none}
use Rattle.meaning_system.specs.Claims.{or_else}
use Rattle.meaning_tables.specs.Links.{lacking, same_number}
use Rattle.sys_core.specs.Claiming.{AreNumbersOf, PutsNumber, busy_in, file_refusal_in, gives_refusal_in, linked_by, number_of, number_on, take_refusal_in, takes_refusal_in}
use Rattle.sys_core.specs.declared.engine.Engine.{Engine}

-- THE FIRST OF TWO
pub first-is : (why : Refusal) (a b : Option Refusal) → Some why ≡ a → Some why ≡ or_else a b
first-is why a b is = ap (λ (o : Option Refusal). or_else o b) is

pub second-is : (o a b : Option Refusal) → None ≡ a → o ≡ b → o ≡ or_else a b
second-is o a b none is = is ∙ ap (λ (x : Option Refusal). or_else x b) none

-- ONE ITEM MORE of a list
pub item-here : {A : Type 0} (xs all : List A) (i : ℕ) (d : A) → xs ≡ all → i < length xs → d ≡ get_or xs i d → drop i all ≡ d ∷ drop (i + 1) all
item-here {A} xs all i d same within is =
    ap (λ (l : List A). drop i l) (sym same) ∙ drop_more xs i d within ∙ ap (λ (x : A). x ∷ drop (i + 1) xs) (sym is)
    ∙ ap (λ (l : List A). d ∷ drop (i + 1) l) same

-- LINKS THAT ARE GIVEN, by their numbers

eq-sym : (a b : ℕ) → (a == b) ≡ (b == a)
eq-sym a b = grind (arith, nat_tests)

number-sym : (a b : LinkNo) → same_number a b ≡ same_number b a
number-sym a b = λ i. eq-sym a.tx b.tx i && eq-sym a.k b.k i

number-same : (a b : LinkNo) → same_number a b ≡ true → a ≡ b
number-same a b e =
    let two = and_parts (a.tx == b.tx) (a.k == b.k) e in
    λ i. record { tx = eqb-true a.tx b.tx two.0 i; k = eqb-true a.k b.k two.1 i }

and-none : (b : Bool) → (b && false) ≡ false
and-none true = refl
and-none false = refl

-- some links have a number, and others have not
pub given-by : (n : LinkNo) (xs ys : List LinkRow) → list_any (λ g. same_number g.link n) (lacking xs ys) ≡ (list_any (λ l. same_number n l.link) xs && not (list_any (λ l. same_number n l.link) ys))
given-by n [] ys = refl
given-by n (x ∷ xs) ys = by (same_number n x.link) refl (list_any (λ y. same_number x.link y.link) ys) refl (given-by n xs ys)
  where
    by : (b : Bool) → same_number n x.link ≡ b → (d : Bool) → list_any (λ y. same_number x.link y.link) ys ≡ d
        → list_any (λ g. same_number g.link n) (lacking xs ys) ≡ (list_any (λ l. same_number n l.link) xs && not (list_any (λ l. same_number n l.link) ys))
        → list_any (λ g. same_number g.link n) (cond (not d) (x ∷ lacking xs ys) (lacking xs ys)) ≡ ((b || list_any (λ l. same_number n l.link) xs) && not (list_any (λ l. same_number n l.link) ys))
    by true is true has more =
        let there : list_any (λ l. same_number n l.link) ys ≡ true = ap (λ (m : LinkNo). list_any (λ l. same_number m l.link) ys) (number-same n x.link is) ∙ has in
        more ∙ ap (λ b. list_any (λ l. same_number n l.link) xs && not b) there ∙ and-none (list_any (λ l. same_number n l.link) xs) ∙ sym (ap not there)
    by true is false lacks more =
        let nowhere : list_any (λ l. same_number n l.link) ys ≡ false = ap (λ (m : LinkNo). list_any (λ l. same_number m l.link) ys) (number-same n x.link is) ∙ lacks in
        ap (λ b. b || list_any (λ g. same_number g.link n) (lacking xs ys)) (number-sym x.link n ∙ is) ∙ sym (ap not nowhere)
    by false is true has more = more
    by false is false lacks more = ap (λ b. b || list_any (λ g. same_number g.link n) (lacking xs ys)) (number-sym x.link n ∙ is) ∙ more

-- where the first have it, by the others; else none is given

pub given-then : (n : LinkNo) (xs ys : List LinkRow) (a b : Bool) → a ≡ list_any (λ l. same_number n l.link) xs → b ≡ list_any (λ l. same_number n l.link) ys → a ≡ true → not b ≡ list_any (λ g. same_number g.link n) (lacking xs ys)
given-then n xs ys a b one two is = (λ i. sym is i && not b) ∙ (λ i. one i && not (two i)) ∙ sym (given-by n xs ys)

pub given-else : (n : LinkNo) (xs ys : List LinkRow) (a : Bool) → a ≡ list_any (λ l. same_number n l.link) xs → a ≡ false → false ≡ list_any (λ g. same_number g.link n) (lacking xs ys)
given-else n xs ys a one is = (λ i. sym is i && not (list_any (λ l. same_number n l.link) ys)) ∙ (λ i. one i && not (list_any (λ l. same_number n l.link) ys)) ∙ sym (given-by n xs ys)

-- the number of a link that is there, unless it is given
pub kept-number : (given : List LinkRow) (o : Option LinkRow) (l : LinkRow) (r : Option LinkNo) → Some l ≡ o → r ≡ cond (list_any (λ g. same_number g.link l.link) given) None (Some l.link) → r ≡ number_of (unless_among given o)
kept-number given o l r at is = is ∙ by (list_any (λ g. same_number g.link l.link) given) ∙ ap (λ (x : Option LinkRow). number_of (unless_among given x)) at
  where
    by : (b : Bool) → cond b None (Some l.link) ≡ number_of (cond b None (Some l))
    by true = refl
    by false = refl

-- NUMBERS BY PATHS

on-past : (path : List ℕ) (t : LinkRow) → is_at path t.path ≡ false → (before : List LinkRow) → on (before ++ t ∷ []) path ≡ on before path
on-past path t there [] = ap (λ b. cond b (Some t) None) there
on-past path t there (x ∷ xs) = ap (λ (o : Option LinkRow). cond (is_at path x.path) (Some x) o) (on-past path t there xs)

on-last : (path : List ℕ) (t : LinkRow) → is_at path t.path ≡ true → (before : List LinkRow) → on before path ≡ None → on (before ++ t ∷ []) path ≡ Some t
on-last path t here [] none = ap (λ b. cond b (Some t) None) here
on-last path t here (x ∷ xs) none = by (is_at path x.path) none (λ rest. on-last path t here xs rest)
  where
    by : (b : Bool) → cond b (Some x) (on xs path) ≡ None → (on xs path ≡ None → on (xs ++ t ∷ []) path ≡ Some t) → cond b (Some x) (on (xs ++ t ∷ []) path) ≡ Some t
    by true e more = absurd cc
    by false e more = more e

no-link : (o : Option LinkRow) → number_of o ≡ None → o ≡ None
no-link None e = refl
no-link (Some l) e = absurd cc

-- one link more, the first on its path
pub numbers-push : (before : List LinkRow) (old new : List (List ℕ × LinkNo)) (t : LinkRow) → AreNumbersOf before old → number_on old t.path ≡ None → PutsNumber old new t → AreNumbersOf (before ++ t ∷ []) new
numbers-push before old new t are none puts path = puts path ∙ by (at_query (slice_cmp nat_cmp t.path) path) refl
  where
    by : (b : Bool) → at_query (slice_cmp nat_cmp t.path) path ≡ b → cond b (Some t.link) (number_on old path) ≡ number_of (on (before ++ t ∷ []) path)
    by true here =
        let at : is_at path t.path ≡ true = sym (turned t.path path) ∙ here in
        let free : on before path ≡ None = no-link (on before path) (sym (are path) ∙ ap (number_on old) (is_at-same path t.path at) ∙ none) in
        sym (ap number_of (on-last path t at before free))
    by false there = are path ∙ sym (ap number_of (on-past path t (sym (turned t.path path) ∙ there) before))

-- TAKES

no-number : (path : List ℕ) (n : Option LinkNo) → linked_by path n ≡ None → n ≡ None
no-number path None e = refl
no-number path (Some n) e = absurd cc

module _ (w : Engine) (tx : ℕ) (given : List LinkRow) where
  -- one that is not refused has no earlier one on its path
  pub take-free : (number : Option LinkNo) (t : LinkRow) → None ≡ take_refusal_in w tx given number t → number ≡ None
  take-free number t none =
      let one = or-none (file_refusal_in w t.path) _ (sym none) in
      no-number t.path number (or-none (linked_by t.path number) _ one.1).0

  module _ (all before rest later : List LinkRow) (t : LinkRow) (number : Option LinkNo) (split : rest ≡ t ∷ later) (is : number ≡ number_of (on before t.path)) (so_far : takes_refusal_in w tx given before rest ≡ takes_refusal_in w tx given [] all) where
    whole : or_else (take_refusal_in w tx given number t) (takes_refusal_in w tx given (before ++ t ∷ []) later) ≡ takes_refusal_in w tx given [] all
    whole =
        ap (λ (n : Option LinkNo). or_else (take_refusal_in w tx given n t) (takes_refusal_in w tx given (before ++ t ∷ []) later)) is
        ∙ ap (takes_refusal_in w tx given before) (sym split) ∙ so_far

    pub takes-here : (why : Refusal) → Some why ≡ take_refusal_in w tx given number t → Some why ≡ takes_refusal_in w tx given [] all
    takes-here why here = first-is why (take_refusal_in w tx given number t) (takes_refusal_in w tx given (before ++ t ∷ []) later) here ∙ whole

    pub takes-more : None ≡ take_refusal_in w tx given number t → takes_refusal_in w tx given (before ++ t ∷ []) later ≡ takes_refusal_in w tx given [] all
    takes-more none =
        second-is (takes_refusal_in w tx given (before ++ t ∷ []) later) (take_refusal_in w tx given number t) (takes_refusal_in w tx given (before ++ t ∷ []) later) none refl ∙ whole

  pub takes-end : (all before rest : List LinkRow) → rest ≡ [] → takes_refusal_in w tx given before rest ≡ takes_refusal_in w tx given [] all → None ≡ takes_refusal_in w tx given [] all
  takes-end all before rest none so_far = sym (ap (takes_refusal_in w tx given before) none) ∙ so_far

-- GIVES
module _ (w : Engine) (tx : ℕ) (all rest later : List LinkRow) (g : LinkRow) (split : rest ≡ g ∷ later) (so_far : gives_refusal_in w tx rest ≡ gives_refusal_in w tx all) where
  all-is : or_else (busy_in w tx g.path) (gives_refusal_in w tx later) ≡ gives_refusal_in w tx all
  all-is = ap (gives_refusal_in w tx) (sym split) ∙ so_far

  pub gives-here : (why : Refusal) → Some why ≡ busy_in w tx g.path → Some why ≡ gives_refusal_in w tx all
  gives-here why here = first-is why (busy_in w tx g.path) (gives_refusal_in w tx later) here ∙ all-is

  pub gives-more : None ≡ busy_in w tx g.path → gives_refusal_in w tx later ≡ gives_refusal_in w tx all
  gives-more none = second-is (gives_refusal_in w tx later) (busy_in w tx g.path) (gives_refusal_in w tx later) none refl ∙ all-is
