-- Path by path: the links after a commit, from those before and what it gives and takes.
use Rattle.std.proofs.Common.{◌≡◌, ◌⊎◌, inl, inr, ⊎_elim, ℕ, ◌==◌, List, [], ◌∷◌, Bool, true, false, not, cond, ◌&&◌, ◌||◌, Option, Some, None, refl, sym, ◌∙◌, ap, subst, arith}
use Rattle.std.proofs.lemmas.Bool.Decides.{nat_tests}
use Rattle.dl_base.specs.declared.value.LinkRow.{LinkRow}
use Rattle.meaning_settling.specs.Keyed.{is_at}
use Rattle.meaning_settling.specs.Settling.{on, held_by}
use Rattle.meaning_settling.proofs.KeyedLaws.{either, false_true, is_at-same, is_at-self, or-left, or-right}
use Rattle.meaning_tables.specs.Links.{same_number, lacking}
use Rattle.meaning_merge.specs.Touching.{In, is_in, OnePath}

pub some_same : (x y : LinkRow) → Some x ≡ Some y → x ≡ y
some_same x y e = cc

pub none_some : (x : LinkRow) → None ≡ Some x → ⊥
none_some x e = cc

pub number-self : (x : LinkRow) → same_number x.link x.link ≡ true
number-self x = both (x.link.tx == x.link.tx) (x.link.k == x.link.k) (test x.link.tx) (test x.link.k)
  where
    test : (n : ℕ) → (n == n) ≡ true
    test n = grind (arith, nat_tests)

    both : (a b : Bool) → a ≡ true → b ≡ true → (a && b) ≡ true
    both true b e f = f
    both false b e f = absurd (false_true e)

pub on-in : (ls : List LinkRow) (p : List ℕ) (l : LinkRow) → on ls p ≡ Some l → In l ls × (l.path ≡ p)
on-in [] p l e = absurd (none_some l e)
on-in (x ∷ xs) p l e = ⊎_elim
    (λ (here : is_at p x.path ≡ true).
    let is : x ≡ l = some_same x l (sym (ap (λ b. cond b (Some x) (on xs p)) here) ∙ e) in
    (inl (sym is), ap (λ (y : LinkRow). y.path) (sym is) ∙ sym (is_at-same p x.path here)))
    (λ (there : is_at p x.path ≡ false). let more = on-in xs p l (sym (ap (λ b. cond b (Some x) (on xs p)) there) ∙ e) in (inr more.0, more.1))
    (either (is_at p x.path))

pub in-on : (ls : List LinkRow) (l : LinkRow) → OnePath ls → In l ls → on ls l.path ≡ Some l
in-on [] l one is = absurd is
in-on (x ∷ xs) l one is = ⊎_elim
    (λ (e : l ≡ x). ap (λ b. cond b (Some x) (on xs l.path)) (ap (λ (y : LinkRow). is_at y.path x.path) e ∙ is_at-self x.path) ∙ ap (λ (y : LinkRow). Some y) (sym e))
    (λ (later : In l xs). ap (λ b. cond b (Some x) (on xs l.path)) (one.0 l later) ∙ in-on xs l one.1 later)
    is

pub none-in : (ls : List LinkRow) (l : LinkRow) → on ls l.path ≡ None → In l ls → ⊥
none-in [] l e is = is
none-in (x ∷ xs) l e is = ⊎_elim
    (λ (here : is_at l.path x.path ≡ true). none_some x (sym (sym (ap (λ b. cond b (Some x) (on xs l.path)) here) ∙ e)))
    (λ (there : is_at l.path x.path ≡ false). ⊎_elim
    (λ (same : l ≡ x). false_true (sym there ∙ ap (λ (y : LinkRow). is_at y.path x.path) same ∙ is_at-self x.path))
    (λ (later : In l xs). none-in xs l (sym (ap (λ b. cond b (Some x) (on xs l.path)) there) ∙ e) later)
    is)
    (either (is_at l.path x.path))

-- a link of a list whose number the other has, or has not
pub in-lacking : (xs ys : List LinkRow) (l : LinkRow) → In l xs → is_in ys l ≡ false → In l (lacking xs ys)
in-lacking [] ys l is e = is
in-lacking (x ∷ xs) ys l is e = ⊎_elim
    (λ (same : l ≡ x). here (not (is_in ys x)) (ap (λ b. not b) (ap (is_in ys) (sym same) ∙ e)) same)
    (λ (later : In l xs). there (not (is_in ys x)) (in-lacking xs ys l later e))
    is
  where
    here : (b : Bool) → b ≡ true → l ≡ x → In l (cond b (x ∷ lacking xs ys) (lacking xs ys))
    here true e same = inl same
    here false e same = absurd (false_true e)

    there : (b : Bool) → In l (lacking xs ys) → In l (cond b (x ∷ lacking xs ys) (lacking xs ys))
    there true h = inr h
    there false h = h

pub lacking-in : (xs ys : List LinkRow) (l : LinkRow) → In l (lacking xs ys) → In l xs × (is_in ys l ≡ false)
lacking-in [] ys l is = absurd is
lacking-in (x ∷ xs) ys l is = by (is_in ys x) refl is (λ h. lacking-in xs ys l h)
  where
    by : (b : Bool) → is_in ys x ≡ b → In l (cond (not b) (x ∷ lacking xs ys) (lacking xs ys)) → (In l (lacking xs ys) → In l xs × (is_in ys l ≡ false)) → ((l ≡ x) ⊎ In l xs) × (is_in ys l ≡ false)
    by true e h go = let more = go h in (inr more.0, more.1)
    by false e h go = ⊎_elim (λ (same : l ≡ x). (inl same, ap (is_in ys) same ∙ e)) (λ later. (let more = go later in (inr more.0, more.1))) h

pub has-number : (ys : List LinkRow) (l : LinkRow) → is_in ys l ≡ true → (y : LinkRow) × In y ys × (same_number l.link y.link ≡ true)
has-number [] l e = absurd (false_true e)
has-number (y ∷ ys) l e = ⊎_elim
    (λ (here : same_number l.link y.link ≡ true). (y, inl refl, here))
    (λ (there : same_number l.link y.link ≡ false). (let more = has-number ys l (sym (ap (λ b. b || is_in ys l) there) ∙ e) in (more.0, inr more.1, more.2)))
    (either (same_number l.link y.link))

pub in-number : (ys : List LinkRow) (l : LinkRow) → In l ys → is_in ys l ≡ true
in-number [] l is = absurd is
in-number (y ∷ ys) l is = ⊎_elim
    (λ (same : l ≡ y). or-left (same_number l.link y.link) (is_in ys l) (ap (λ (z : LinkRow). same_number l.link z.link) (sym same) ∙ number-self l))
    (λ later. or-right (same_number l.link y.link) (is_in ys l) (in-number ys l later))
    is

-- THE LAW: one link per path on both sides, and a number is one link on both
module _ (before after : List LinkRow) (one : OnePath before) (one_after : OnePath after)
    (same : (x y : LinkRow) → In x before → In y after → same_number x.link y.link ≡ true → x ≡ y) (back : (x y : LinkRow) → In x before → In y after → same_number y.link x.link ≡ true → x ≡ y) where
  -- a link of one side that the other has too
  stays-after : (l : LinkRow) → In l before → is_in after l ≡ true → In l after
  stays-after l is e = let y = has-number after l e in subst (λ (z : LinkRow). In z after) (sym (same l y.0 is y.1 y.2)) y.1

  was-before : (l : LinkRow) → In l after → is_in before l ≡ true → In l before
  was-before l is e = let y = has-number before l e in subst (λ (z : LinkRow). In z before) (back y.0 l y.1 is y.2) y.1

  at-path : (ls : List LinkRow) (l : LinkRow) (p : List ℕ) → l.path ≡ p → OnePath ls → In l ls → on ls p ≡ Some l
  at-path ls l p e one_ls is = ap (on ls) (sym e) ∙ in-on ls l one_ls is

  no-path : (ls : List LinkRow) (l : LinkRow) (p : List ℕ) → l.path ≡ p → on ls p ≡ None → In l ls → ⊥
  no-path ls l p e none is = none-in ls l (ap (on ls) e ∙ none) is

  pub moved-paths : (p : List ℕ) → on after p ≡ held_by (on (lacking before after) p) (on (lacking after before) p) (on before p)
  moved-paths p = by (on (lacking before after) p) (on (lacking after before) p) (on before p) refl refl refl
    where
      is_none : (o : Option LinkRow) → ((l : LinkRow) → o ≡ Some l → ⊥) → o ≡ None
      is_none None never = refl
      is_none (Some l) never = absurd (never l refl)

      -- what is there and was not taken was there before
      old : on (lacking after before) p ≡ None → (l : LinkRow) → on after p ≡ Some l → In l before × (l.path ≡ p)
      old none l e =
          let is = on-in after p l e in
          (was-before l is.0 (⊎_elim (λ (h : is_in before l ≡ true). h) (λ (h : is_in before l ≡ false). absurd (no-path (lacking after before) l p is.1 none (in-lacking after before l is.0 h))) (either (is_in before l))), is.1)

      by : (g t b : Option LinkRow) → on (lacking before after) p ≡ g → on (lacking after before) p ≡ t → on before p ≡ b → on after p ≡ held_by g t b
      by g (Some t) b at_g at_t at_b = let is = on-in (lacking after before) p t at_t in at-path after t p is.1 one_after (lacking-in after before t is.0).0
      by (Some g) None b at_g at_t at_b = is_none (on after p) (λ l e.
          let was = old at_t l e in
          let gone = on-in (lacking before after) p g at_g in
          let given = lacking-in before after g gone.0 in
          let is : l ≡ g = some_same l g (sym (at-path before l p was.1 one was.0) ∙ at-path before g p gone.1 one given.0) in
          false_true (sym given.1 ∙ in-number after g (subst (λ (z : LinkRow). In z after) is (on-in after p l e).0)))
      by None None (Some l) at_g at_t at_b =
          let is = on-in before p l at_b in
          at-path after l p is.1 one_after (stays-after l is.0 (⊎_elim (λ (h : is_in after l ≡ true). h) (λ (h : is_in after l ≡ false). absurd (no-path (lacking before after) l p is.1 at_g (in-lacking before after l is.0 h))) (either (is_in after l))))
      by None None None at_g at_t at_b = is_none (on after p) (λ l e. (let was = old at_t l e in no-path before l p was.1 at_b was.0))
