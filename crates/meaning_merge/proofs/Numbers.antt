-- Links whose numbers differ, and how those of some tables lie among those of all.
use Rattle.std.proofs.Common.{◌≡◌, ◌⊎◌, inl, inr, ⊎_elim, ℕ, ◌==◌, ◌&&◌, ◌||◌, List, [], ◌∷◌, ◌++◌, Bool, true, false, not, cond, map, refl, sym, ◌∙◌, ap, subst}
use Rattle.std.specs.List.{filter, list_any}
use Rattle.std.proofs.lemmas.Bool.Decides.{Decides-eqb}
use Rattle.dl_base.specs.declared.value.LinkNo.{LinkNo}
use Rattle.dl_base.specs.declared.value.LinkRow.{LinkRow}
use Rattle.meaning_settling.proofs.KeyedLaws.{false_true}
use Rattle.meaning_tables.specs.Fits.{differ}
use Rattle.meaning_tables.specs.Links.{table_links, links, same_number}
use Rattle.meaning_tables.specs.Tables.{Rows, Tables}
use Rattle.meaning_merge.specs.Touching.{In, is_in, EachLink}
use Rattle.meaning_merge.proofs.MovedLaws.{has-number, in-number}

pub both : (a b : Bool) → (a && b) ≡ true → (a ≡ true) × (b ≡ true)
both true b e = (refl, e)
both false b e = absurd (false_true e)

pub two : (a b : Bool) → a ≡ true → b ≡ true → (a && b) ≡ true
two true b e f = f
two false b e f = absurd (false_true e)

pub none : (a b : Bool) → (a || b) ≡ false → (a ≡ false) × (b ≡ false)
none true b e = absurd (false_true (sym e))
none false b e = (refl, e)

not_one : (a : Bool) → not a ≡ true → a ≡ false
not_one true e = absurd (false_true e)
not_one false e = refl

pub not_it : (a : Bool) → a ≡ false → not a ≡ true
not_it true e = absurd (false_true (sym e))
not_it false e = refl

-- it fails if it can't hold
pub never : (b : Bool) → (b ≡ true → ⊥) → b ≡ false
never true never_so = absurd (never_so refl)
never false never_so = refl

pub number-same : (a b : LinkNo) → same_number a b ≡ true → a ≡ b
number-same a b e =
    let one = both (a.tx == b.tx) (a.k == b.k) e in
    λ i. record { tx = (Decides-eqb a.tx b.tx).0 one.0 i; k = (Decides-eqb a.k b.k).0 one.1 i }

-- members

pub in-left : (xs ys : List LinkRow) (l : LinkRow) → In l xs → In l (xs ++ ys)
in-left [] ys l is = absurd is
in-left (x ∷ xs) ys l is = ⊎_elim (λ (e : l ≡ x). inl e) (λ (later : In l xs). inr (in-left xs ys l later)) is

pub in-right : (xs ys : List LinkRow) (l : LinkRow) → In l ys → In l (xs ++ ys)
in-right [] ys l is = is
in-right (x ∷ xs) ys l is = inr (in-right xs ys l is)

pub in-append : (xs ys : List LinkRow) (l : LinkRow) → In l (xs ++ ys) → In l xs ⊎ In l ys
in-append [] ys l is = inr is
in-append (x ∷ xs) ys l is = ⊎_elim
    (λ (e : l ≡ x). inl (inl e))
    (λ (later : In l (xs ++ ys)). ⊎_elim (λ (a : In l xs). inl (inr a)) (λ (b : In l ys). inr b) (in-append xs ys l later))
    is

pub each-in : (P : LinkRow → Type 0) (xs : List LinkRow) (l : LinkRow) → EachLink xs P → In l xs → P l
each-in P [] l each is = absurd is
each-in P (x ∷ xs) l each is = ⊎_elim (λ (e : l ≡ x). subst P (sym e) each.0) (λ (later : In l xs). each-in P xs l each.1 later) is

pub in-each : (P : LinkRow → Type 0) (xs : List LinkRow) → ((l : LinkRow) → In l xs → P l) → EachLink xs P
in-each P [] of = tt
in-each P (x ∷ xs) of = (of x (inl refl), in-each P xs (λ l is. of l (inr is)))

-- numbers

pub is_in-append : (xs ys : List LinkRow) (l : LinkRow) → is_in (xs ++ ys) l ≡ (is_in xs l || is_in ys l)
is_in-append [] ys l = refl
is_in-append (x ∷ xs) ys l = by (same_number l.link x.link) (is_in-append xs ys l)
  where
    by : (b : Bool) → is_in (xs ++ ys) l ≡ (is_in xs l || is_in ys l) → (b || is_in (xs ++ ys) l) ≡ ((b || is_in xs l) || is_in ys l)
    by true e = refl
    by false e = e

pub is_in-number : (xs : List LinkRow) (k l : LinkRow) → k.link ≡ l.link → is_in xs k ≡ is_in xs l
is_in-number xs k l e = ap (λ (n : LinkNo). list_any (λ (y : LinkRow). same_number n y.link) xs) e

-- no number of these is one of those
abbrev pub Apart : List LinkRow → List LinkRow → Type 0
Apart xs ys = (l : LinkRow) → In l xs → is_in ys l ≡ false

pub apart-sym : (xs ys : List LinkRow) → Apart xs ys → Apart ys xs
apart-sym xs ys apart l is = never (is_in xs l) (λ there.
    let x = has-number xs l there in
    false_true (sym (apart x.0 x.1) ∙ is_in-number ys x.0 l (sym (number-same l.link x.0.link x.2)) ∙ in-number ys l is))

-- all numbers differ
abbrev pub Distinct : List LinkRow → Type 0
Distinct [] = Unit {0}
Distinct (x ∷ xs) = (is_in xs x ≡ false) × Distinct xs

any-number : (l : LinkNo) (xs : List LinkRow) → list_any (same_number l) (map (λ (x : LinkRow). x.link) xs) ≡ list_any (λ (y : LinkRow). same_number l y.link) xs
any-number l [] = refl
any-number l (x ∷ xs) = ap (λ b. same_number l x.link || b) (any-number l xs)

pub differ-distinct : (xs : List LinkRow) → differ same_number (map (λ (l : LinkRow). l.link) xs) ≡ true → Distinct xs
differ-distinct [] e = tt
differ-distinct (x ∷ xs) e =
    let one = both (not (list_any (same_number x.link) (map (λ (l : LinkRow). l.link) xs))) (differ same_number (map (λ (l : LinkRow). l.link) xs)) e in
    (sym (any-number x.link xs) ∙ not_one (list_any (same_number x.link) (map (λ (l : LinkRow). l.link) xs)) one.0, differ-distinct xs one.1)

pub distinct-differ : (xs : List LinkRow) → Distinct xs → differ same_number (map (λ (l : LinkRow). l.link) xs) ≡ true
distinct-differ [] each = refl
distinct-differ (x ∷ xs) each =
    two (not (list_any (same_number x.link) (map (λ (l : LinkRow). l.link) xs))) (differ same_number (map (λ (l : LinkRow). l.link) xs))
    (not_it (list_any (same_number x.link) (map (λ (l : LinkRow). l.link) xs)) (any-number x.link xs ∙ each.0)) (distinct-differ xs each.1)

pub distinct-left : (xs ys : List LinkRow) → Distinct (xs ++ ys) → Distinct xs
distinct-left [] ys each = tt
distinct-left (x ∷ xs) ys each = ((none (is_in xs x) (is_in ys x) (sym (is_in-append xs ys x) ∙ each.0)).0, distinct-left xs ys each.1)

pub distinct-right : (xs ys : List LinkRow) → Distinct (xs ++ ys) → Distinct ys
distinct-right [] ys each = each
distinct-right (x ∷ xs) ys each = distinct-right xs ys each.1

pub distinct-apart : (xs ys : List LinkRow) → Distinct (xs ++ ys) → Apart xs ys
distinct-apart [] ys each l is = absurd is
distinct-apart (x ∷ xs) ys each l is = ⊎_elim
    (λ (e : l ≡ x). ap (is_in ys) e ∙ (none (is_in xs x) (is_in ys x) (sym (is_in-append xs ys x) ∙ each.0)).1)
    (λ (later : In l xs). distinct-apart xs ys each.1 l later)
    is

pub distinct-append : (xs ys : List LinkRow) → Distinct xs → Distinct ys → Apart xs ys → Distinct (xs ++ ys)
distinct-append [] ys one other apart = other
distinct-append (x ∷ xs) ys one other apart =
    (is_in-append xs ys x ∙ ap (λ b. b || is_in ys x) one.0 ∙ apart x (inl refl), distinct-append xs ys one.1 other (λ l is. apart l (inr is)))

-- one number is one link
pub distinct-same : (xs : List LinkRow) (k l : LinkRow) → Distinct xs → In k xs → In l xs → k.link ≡ l.link → k ≡ l
distinct-same [] k l each a b e = absurd a
distinct-same (x ∷ xs) k l each a b e = ⊎_elim
    (λ (k_here : k ≡ x). ⊎_elim
    (λ (l_here : l ≡ x). k_here ∙ sym l_here)
    (λ (l_later : In l xs). absurd (false_true (sym each.0 ∙ is_in-number xs x l (ap (λ (y : LinkRow). y.link) (sym k_here) ∙ e) ∙ in-number xs l l_later)))
    b)
    (λ (k_later : In k xs). ⊎_elim
    (λ (l_here : l ≡ x). absurd (false_true (sym each.0 ∙ is_in-number xs x k (ap (λ (y : LinkRow). y.link) (sym l_here) ∙ sym e) ∙ in-number xs k k_later)))
    (λ (l_later : In l xs). distinct-same xs k l each.1 k_later l_later e)
    b)
    a

-- the links of tables that pass a test, and of those that do not
module _ (p : List ℕ × Rows → Bool) where
  abbrev pub picked : Tables → List LinkRow
  picked ts = links (filter p ts)

  abbrev pub passed : Tables → List LinkRow
  passed ts = links (filter (λ t. not (p t)) ts)

  pub split-any : (ts : Tables) (l : LinkRow) → is_in (links ts) l ≡ (is_in (picked ts) l || is_in (passed ts) l)
  split-any [] l = refl
  split-any (t ∷ ts) l = is_in-append (table_links t.1) (links ts) l ∙ ap (λ b. is_in (table_links t.1) l || b) (split-any ts l) ∙ by (p t)
    where
      front : (a b c : Bool) → (a || (b || c)) ≡ ((a || b) || c)
      front true b c = refl
      front false b c = refl

      behind : (a b c : Bool) → (a || (b || c)) ≡ (b || (a || c))
      behind true true c = refl
      behind true false c = refl
      behind false b c = refl

      by : (b : Bool) → (is_in (table_links t.1) l || (is_in (picked ts) l || is_in (passed ts) l)) ≡ (is_in (links (cond b (t ∷ filter p ts) (filter p ts))) l || is_in (links (cond (not b) (t ∷ filter (λ u. not (p u)) ts) (filter (λ u. not (p u)) ts))) l)
      by true = front (is_in (table_links t.1) l) (is_in (picked ts) l) (is_in (passed ts) l) ∙ ap (λ b. b || is_in (passed ts) l) (sym (is_in-append (table_links t.1) (picked ts) l))
      by false = behind (is_in (table_links t.1) l) (is_in (picked ts) l) (is_in (passed ts) l) ∙ ap (λ b. is_in (picked ts) l || b) (sym (is_in-append (table_links t.1) (passed ts) l))

  pub split-in : (ts : Tables) (l : LinkRow) → In l (links ts) → In l (picked ts) ⊎ In l (passed ts)
  split-in [] l is = absurd is
  split-in (t ∷ ts) l is = by (p t) (⊎_elim (λ (here : In l (table_links t.1)). inl here) (λ (later : In l (links ts)). inr (split-in ts l later)) (in-append (table_links t.1) (links ts) l is))
    where
      by : (b : Bool) → In l (table_links t.1) ⊎ (In l (picked ts) ⊎ In l (passed ts)) → In l (links (cond b (t ∷ filter p ts) (filter p ts))) ⊎ In l (links (cond (not b) (t ∷ filter (λ u. not (p u)) ts) (filter (λ u. not (p u)) ts)))
      by true h = ⊎_elim (λ (a : In l (table_links t.1)). inl (in-left (table_links t.1) (picked ts) l a)) (λ (r : In l (picked ts) ⊎ In l (passed ts)). ⊎_elim (λ (a : In l (picked ts)). inl (in-right (table_links t.1) (picked ts) l a)) (λ (b : In l (passed ts)). inr b) r) h
      by false h = ⊎_elim (λ (a : In l (table_links t.1)). inr (in-left (table_links t.1) (passed ts) l a)) (λ (r : In l (picked ts) ⊎ In l (passed ts)). ⊎_elim (λ (a : In l (picked ts)). inl a) (λ (b : In l (passed ts)). inr (in-right (table_links t.1) (passed ts) l b)) r) h

  pub picked-in : (ts : Tables) (l : LinkRow) → In l (picked ts) → In l (links ts)
  picked-in [] l is = absurd is
  picked-in (t ∷ ts) l is = by (p t) is (λ b. picked-in ts l b)
    where
      by : (b : Bool) → In l (links (cond b (t ∷ filter p ts) (filter p ts))) → (In l (picked ts) → In l (links ts)) → In l (table_links t.1 ++ links ts)
      by true h go = ⊎_elim (λ (a : In l (table_links t.1)). in-left (table_links t.1) (links ts) l a) (λ (b : In l (picked ts)). in-right (table_links t.1) (links ts) l (go b)) (in-append (table_links t.1) (picked ts) l h)
      by false h go = in-right (table_links t.1) (links ts) l (go h)

  pub split-distinct : (ts : Tables) → Distinct (links ts) → Distinct (picked ts) × Distinct (passed ts) × Apart (picked ts) (passed ts)
  split-distinct [] each = (tt, tt, (λ l is. absurd is))
  split-distinct (t ∷ ts) each = by (p t) (split-distinct ts (distinct-right (table_links t.1) (links ts) each))
    where
      here : Distinct (table_links t.1)
      here = distinct-left (table_links t.1) (links ts) each

      from_picked : Apart (table_links t.1) (picked ts)
      from_picked l is = (none (is_in (picked ts) l) (is_in (passed ts) l) (sym (split-any ts l) ∙ distinct-apart (table_links t.1) (links ts) each l is)).0

      from_passed : Apart (table_links t.1) (passed ts)
      from_passed l is = (none (is_in (picked ts) l) (is_in (passed ts) l) (sym (split-any ts l) ∙ distinct-apart (table_links t.1) (links ts) each l is)).1

      by : (b : Bool) → Distinct (picked ts) × Distinct (passed ts) × Apart (picked ts) (passed ts)
          → Distinct (links (cond b (t ∷ filter p ts) (filter p ts))) × Distinct (links (cond (not b) (t ∷ filter (λ u. not (p u)) ts) (filter (λ u. not (p u)) ts)))
          × Apart (links (cond b (t ∷ filter p ts) (filter p ts))) (links (cond (not b) (t ∷ filter (λ u. not (p u)) ts) (filter (λ u. not (p u)) ts)))
      by true h = (
        distinct-append (table_links t.1) (picked ts) here h.0 from_picked,
        h.1,
        (λ l is. ⊎_elim (λ (a : In l (table_links t.1)). from_passed l a) (λ (b : In l (picked ts)). h.2 l b) (in-append (table_links t.1) (picked ts) l is)),
      )
      by false h = (
        h.0,
        distinct-append (table_links t.1) (passed ts) here h.1 from_passed,
        (λ l is. is_in-append (table_links t.1) (passed ts) l ∙ ap (λ b. b || is_in (passed ts) l) (apart-sym (table_links t.1) (picked ts) from_picked l is) ∙ h.2 l is),
      )

  pub join-distinct : (ts : Tables) → Distinct (picked ts) → Distinct (passed ts) → Apart (picked ts) (passed ts) → Distinct (links ts)
  join-distinct [] a b apart = tt
  join-distinct (t ∷ ts) a b apart = by (p t) a b apart (λ x y z. join-distinct ts x y z)
    where
      cross : Apart (table_links t.1) (picked ts) → Apart (table_links t.1) (passed ts) → Apart (table_links t.1) (links ts)
      cross one other l is = split-any ts l ∙ ap (λ x. x || is_in (passed ts) l) (one l is) ∙ other l is

      by : (b : Bool) → Distinct (links (cond b (t ∷ filter p ts) (filter p ts))) → Distinct (links (cond (not b) (t ∷ filter (λ u. not (p u)) ts) (filter (λ u. not (p u)) ts)))
          → Apart (links (cond b (t ∷ filter p ts) (filter p ts))) (links (cond (not b) (t ∷ filter (λ u. not (p u)) ts) (filter (λ u. not (p u)) ts)))
          → (Distinct (picked ts) → Distinct (passed ts) → Apart (picked ts) (passed ts) → Distinct (links ts)) → Distinct (table_links t.1 ++ links ts)
      by true x y z go = distinct-append (table_links t.1) (links ts) (distinct-left (table_links t.1) (picked ts) x)
          (go (distinct-right (table_links t.1) (picked ts) x) y (λ l is. z l (in-right (table_links t.1) (picked ts) l is)))
          (cross (distinct-apart (table_links t.1) (picked ts) x) (λ l is. z l (in-left (table_links t.1) (picked ts) l is)))
      by false x y z go = distinct-append (table_links t.1) (links ts) (distinct-left (table_links t.1) (passed ts) y)
          (go x (distinct-right (table_links t.1) (passed ts) y) (λ l is. (none (is_in (table_links t.1) l) (is_in (passed ts) l) (sym (is_in-append (table_links t.1) (passed ts) l) ∙ z l is)).1))
          (cross
          (apart-sym (picked ts) (table_links t.1) (λ l is. (none (is_in (table_links t.1) l) (is_in (passed ts) l) (sym (is_in-append (table_links t.1) (passed ts) l) ∙ z l is)).0))
          (distinct-apart (table_links t.1) (passed ts) y))
