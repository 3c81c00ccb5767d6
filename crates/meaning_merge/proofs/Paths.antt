-- Links by number and by path.
use Rattle.std.proofs.Common.{◌≡◌, inl, inr, ⊎_elim, ℕ, List, [], ◌∷◌, ◌||◌, Bool, true, false, not, cond, map, Some, None, refl, sym, ◌∙◌, ap}
use Rattle.std.specs.List.{filter, list_any}
use Rattle.dl_base.specs.declared.value.LinkNo.{LinkNo}
use Rattle.dl_base.specs.declared.value.LinkRow.{LinkRow}
use Rattle.meaning_settling.specs.Keyed.{is_at}
use Rattle.meaning_settling.specs.Settling.{on, numbered, link_key}
use Rattle.meaning_settling.proofs.KeyedLaws.{either, false_true, is_at-same, is_at-self}
use Rattle.meaning_tables.specs.Fits.{differ}
use Rattle.meaning_tables.specs.Links.{same_number}
use Rattle.meaning_merge.specs.Touching.{In, is_in, OnePath}
use Rattle.meaning_merge.proofs.MovedLaws.{some_same, none_some, in-on, in-number, has-number}
use Rattle.meaning_merge.proofs.Numbers.{both, two, none, not_it, never, number-same, is_in-number, Distinct}

-- numbers as keys

pub key-same : (a b : LinkNo) → link_key a ≡ link_key b → a ≡ b
key-same a b e = λ i. record { tx = first i; k = second i }
  where
    first : a.tx ≡ b.tx
    first = cc

    second : a.k ≡ b.k
    second = cc

pub numbered-in : (ls : List LinkRow) (n : List ℕ) (l : LinkRow) → numbered ls n ≡ Some l → In l ls × (n ≡ link_key l.link)
numbered-in [] n l e = absurd (none_some l e)
numbered-in (x ∷ xs) n l e = ⊎_elim
    (λ (here : is_at n (link_key x.link) ≡ true).
    let is : x ≡ l = some_same x l (sym (ap (λ b. cond b (Some x) (numbered xs n)) here) ∙ e) in
    (inl (sym is), is_at-same n (link_key x.link) here ∙ ap (λ (y : LinkRow). link_key y.link) is))
    (λ (there : is_at n (link_key x.link) ≡ false). let more = numbered-in xs n l (sym (ap (λ b. cond b (Some x) (numbered xs n)) there) ∙ e) in (inr more.0, more.1))
    (either (is_at n (link_key x.link)))

pub in-numbered : (ls : List LinkRow) (l : LinkRow) → Distinct ls → In l ls → numbered ls (link_key l.link) ≡ Some l
in-numbered [] l each is = absurd is
in-numbered (x ∷ xs) l each is = ⊎_elim
    (λ (e : l ≡ x). ap (λ b. cond b (Some x) (numbered xs (link_key l.link))) (ap (λ (y : LinkRow). is_at (link_key y.link) (link_key x.link)) e ∙ is_at-self (link_key x.link)) ∙ ap (λ (y : LinkRow). Some y) (sym e))
    (λ (later : In l xs). ap (λ b. cond b (Some x) (numbered xs (link_key l.link))) (other later) ∙ in-numbered xs l each.1 later)
    is
  where
    other : In l xs → is_at (link_key l.link) (link_key x.link) ≡ false
    other later = never (is_at (link_key l.link) (link_key x.link)) (λ here.
        false_true (sym each.0 ∙ is_in-number xs x l (sym (key-same l.link x.link (is_at-same (link_key l.link) (link_key x.link) here))) ∙ in-number xs l later))

pub none-numbered : (ls : List LinkRow) (l : LinkRow) → Distinct ls → numbered ls (link_key l.link) ≡ None → is_in ls l ≡ false
none-numbered ls l each e = never (is_in ls l) (λ there.
    let y = has-number ls l there in
    none_some y.0 (sym e ∙ ap (λ (n : LinkNo). numbered ls (link_key n)) (number-same l.link y.0.link y.2) ∙ in-numbered ls y.0 each y.1))

-- links that another list lacks

pub distinct-filter : (p : LinkRow → Bool) (ls : List LinkRow) → Distinct ls → Distinct (filter p ls)
distinct-filter p [] each = tt
distinct-filter p (x ∷ xs) each = by (p x) (fewer xs x each.0) (distinct-filter p xs each.1)
  where
    fewer : (ys : List LinkRow) (l : LinkRow) → is_in ys l ≡ false → is_in (filter p ys) l ≡ false
    fewer [] l e = refl
    fewer (y ∷ ys) l e = let one = none (same_number l.link y.link) (is_in ys l) e in of (p y) one.0 (fewer ys l one.1)
      where
        of : (b : Bool) → same_number l.link y.link ≡ false → is_in (filter p ys) l ≡ false → is_in (cond b (y ∷ filter p ys) (filter p ys)) l ≡ false
        of true e go = ap (λ b. b || is_in (filter p ys) l) e ∙ go
        of false e go = go

    by : (b : Bool) → is_in (filter p xs) x ≡ false → Distinct (filter p xs) → Distinct (cond b (x ∷ filter p xs) (filter p xs))
    by true e go = (e, go)
    by false e go = go

-- paths

pub one-same : (ls : List LinkRow) (k l : LinkRow) → OnePath ls → In k ls → In l ls → is_at l.path k.path ≡ true → k ≡ l
one-same ls k l one a b e = some_same k l (sym (in-on ls k one a) ∙ ap (on ls) (sym (is_at-same l.path k.path e)) ∙ in-on ls l one b)

pub same-one : (ls : List LinkRow) → Distinct ls → ((k l : LinkRow) → In k ls → In l ls → is_at l.path k.path ≡ true → k ≡ l) → OnePath ls
same-one [] each same = tt
same-one (x ∷ xs) each same = (
  (λ y later. never (is_at y.path x.path) (λ e. false_true (sym each.0 ∙ is_in-number xs x y (ap (λ (z : LinkRow). z.link) (same x y (inl refl) (inr later) e)) ∙ in-number xs y later))),
  same-one xs each.1 (λ k l a b e. same k l (inr a) (inr b) e),
)

-- the same said by tests

not_one : (a : Bool) → not a ≡ true → a ≡ false
not_one true e = absurd (false_true e)
not_one false e = refl

pub differ-one : (ls : List LinkRow) → differ is_at (map (λ (l : LinkRow). l.path) ls) ≡ true → OnePath ls
differ-one [] e = tt
differ-one (x ∷ xs) e =
    let one = both (not (list_any (is_at x.path) (map (λ (l : LinkRow). l.path) xs))) (differ is_at (map (λ (l : LinkRow). l.path) xs)) e in
    ((λ y later. each xs (not_one (list_any (is_at x.path) (map (λ (l : LinkRow). l.path) xs)) one.0) y later), differ-one xs one.1)
  where
    each : (ys : List LinkRow) → list_any (is_at x.path) (map (λ (l : LinkRow). l.path) ys) ≡ false → (y : LinkRow) → In y ys → is_at y.path x.path ≡ false
    each [] e y is = absurd is
    each (z ∷ zs) e y is =
        let one = none (is_at x.path z.path) (list_any (is_at x.path) (map (λ (l : LinkRow). l.path) zs)) e in
        ⊎_elim
        (λ (here : y ≡ z). ap (λ (w : LinkRow). is_at w.path x.path) here ∙ never (is_at z.path x.path) (λ at. false_true (sym one.0 ∙ ap (λ (p : List ℕ). is_at x.path p) (is_at-same z.path x.path at) ∙ is_at-self x.path)))
        (λ (later : In y zs). each zs one.1 y later)
        is

pub one-differ : (ls : List LinkRow) → OnePath ls → differ is_at (map (λ (l : LinkRow). l.path) ls) ≡ true
one-differ [] one = refl
one-differ (x ∷ xs) one =
    two (not (list_any (is_at x.path) (map (λ (l : LinkRow). l.path) xs))) (differ is_at (map (λ (l : LinkRow). l.path) xs))
    (not_it (list_any (is_at x.path) (map (λ (l : LinkRow). l.path) xs)) (each xs (λ y later. one.0 y later))) (one-differ xs one.1)
  where
    each : (ys : List LinkRow) → ((y : LinkRow) → In y ys → is_at y.path x.path ≡ false) → list_any (is_at x.path) (map (λ (l : LinkRow). l.path) ys) ≡ false
    each [] of = refl
    each (z ∷ zs) of =
        ap (λ b. b || list_any (is_at x.path) (map (λ (l : LinkRow). l.path) zs)) (never (is_at x.path z.path) (λ at. false_true (sym (of z (inl refl)) ∙ ap (λ (p : List ℕ). is_at z.path p) (is_at-same x.path z.path at) ∙ is_at-self z.path)))
        ∙ each zs (λ y later. of y (inr later))
