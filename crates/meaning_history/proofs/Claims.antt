-- A claim that is accepted stands until its transaction is decided, whatever others commit.
use Rattle.std.proofs.Common.{◌≡◌, inl, inr, ⊎_elim, ℕ, ◌==◌, List, [], ◌∷◌, ◌++◌, filter, map, Bool, true, false, not, cond, ◌&&◌, ◌||◌, Option, Some, None, refl, sym, ◌∙◌, ap, subst, arith}
use Rattle.std.proofs.lemmas.Bool.Decides.{nat_tests}
use Rattle.std.specs.FinMap as maps
use Rattle.std.specs.List.{find, list_any}
use Rattle.dl_base.specs.declared.value.LinkNo.{LinkNo}
use Rattle.dl_base.specs.declared.value.LinkRow.{LinkRow}
use Rattle.meaning_areas.proofs.Tables.{some_same}
use Rattle.meaning_merge.specs.History.{IsHistory, IsTransaction}
use Rattle.meaning_merge.specs.Touching.{In, OnePath, is_in}
use Rattle.meaning_merge.proofs.MergeLaws.{merged-moves}
use Rattle.meaning_merge.proofs.Touched.{merge-touches}
use Rattle.meaning_settling.specs.Apart.{ShareNoPath, has_path}
use Rattle.meaning_settling.specs.Keyed.{is_at}
use Rattle.meaning_settling.specs.Settling.{Moved, held_after, held_by, on}
use Rattle.meaning_settling.proofs.KeyedLaws.{any-append, is_at-same, is_at-self, is_at-sym, or-left, or-right}
use Rattle.meaning_tables.specs.Links.{links, same_number}
use Rattle.meaning_system.specs.Claims.{claim_refusal, conflict, doomed, gives_refusal, linked, no_file, not_among, busy_on, takes_refusal}
use Rattle.meaning_system.specs.Machine.{merged_by}
use Rattle.meaning_system.specs.State.{State, Txn, moved_of, tables_of}
use Rattle.meaning_system.proofs.Claiming.{or-none}
use Rattle.meaning_history.specs.Standing.{ClaimStands}
use Rattle.meaning_history.proofs.Naming.{current}

false_true : false ≡ true → ⊥
false_true e = cc

none_some : {A : Type 0} (x : A) → None ≡ Some x → ⊥
none_some x e = cc

-- links in lists

pub in-filter : (p : LinkRow → Bool) (ls : List LinkRow) (l : LinkRow) → In l (filter p ls) → In l ls × (p l ≡ true)
in-filter p [] l is = absurd is
in-filter p (x ∷ xs) l is = by (p x) refl is (λ h. in-filter p xs l h)
  where
    by : (b : Bool) → p x ≡ b → In l (cond b (x ∷ filter p xs) (filter p xs)) → (In l (filter p xs) → In l xs × (p l ≡ true)) → In l (x ∷ xs) × (p l ≡ true)
    by true e h rest = ⊎_elim (λ (here : l ≡ x). (inl here, ap p here ∙ e)) (λ (later : In l (filter p xs)). (inr (rest later).0, (rest later).1)) h
    by false e h rest = (inr (rest h).0, (rest h).1)

pub filter-in : (p : LinkRow → Bool) (ls : List LinkRow) (l : LinkRow) → In l ls → p l ≡ true → In l (filter p ls)
filter-in p [] l is e = absurd is
filter-in p (x ∷ xs) l is e = by (p x) refl (λ h. filter-in p xs l h e)
  where
    by : (b : Bool) → p x ≡ b → (In l xs → In l (filter p xs)) → In l (cond b (x ∷ filter p xs) (filter p xs))
    by true test rest = ⊎_elim (λ (here : l ≡ x). inl here) (λ (later : In l xs). inr (rest later)) is
    by false test rest = ⊎_elim (λ (here : l ≡ x). absurd (false_true (sym test ∙ ap p (sym here) ∙ e))) (λ (later : In l xs). rest later) is

pub find-none : (p : LinkRow → Bool) (ls : List LinkRow) → find p ls ≡ None → (l : LinkRow) → In l ls → p l ≡ false
find-none p [] none l is = absurd is
find-none p (x ∷ xs) none l is = by (p x) refl none (λ rest h. find-none p xs rest l h)
  where
    by : (b : Bool) → p x ≡ b → cond b (Some x) (find p xs) ≡ None → (find p xs ≡ None → In l xs → p l ≡ false) → p l ≡ false
    by true e n rest = absurd (none_some x (sym n))
    by false e n rest = ⊎_elim (λ (here : l ≡ x). ap p here ∙ e) (λ (later : In l xs). rest n later) is

pub on-in : (ls : List LinkRow) (p : List ℕ) (l : LinkRow) → on ls p ≡ Some l → In l ls × (p ≡ l.path)
on-in [] p l e = absurd (none_some l e)
on-in (x ∷ xs) p l e = by (is_at p x.path) refl e (λ h. on-in xs p l h)
  where
    by : (b : Bool) → is_at p x.path ≡ b → cond b (Some x) (on xs p) ≡ Some l → (on xs p ≡ Some l → In l xs × (p ≡ l.path)) → In l (x ∷ xs) × (p ≡ l.path)
    by true at h rest = let same : x ≡ l = some_same x l h in (inl (sym same), is_at-same p x.path at ∙ ap (λ (y : LinkRow). y.path) same)
    by false at h rest = (inr (rest h).0, (rest h).1)

-- on a path of its own a link is the one that is found there
pub in-on : (ls : List LinkRow) (l : LinkRow) → OnePath ls → In l ls → on ls l.path ≡ Some l
in-on [] l one is = absurd is
in-on (x ∷ xs) l one is = ⊎_elim
    (λ (here : l ≡ x). ap (λ b. cond b (Some x) (on xs l.path)) (ap (λ (y : LinkRow). is_at l.path y.path) (sym here) ∙ is_at-self l.path) ∙ ap (λ (y : LinkRow). Some y) (sym here))
    (λ (later : In l xs). ap (λ b. cond b (Some x) (on xs l.path)) (one.0 l later) ∙ in-on xs l one.1 later)
    is

pub path-in : (l : LinkRow) (ls : List LinkRow) → In l ls → list_any (is_at l.path) (map (λ x. x.path) ls) ≡ true
path-in l [] is = absurd is
path-in l (x ∷ xs) is = ⊎_elim
    (λ (e : l ≡ x). or-left (is_at l.path x.path) (list_any (is_at l.path) (map (λ (y : LinkRow). y.path) xs)) (ap (λ (y : LinkRow). is_at l.path y.path) (sym e) ∙ is_at-self l.path))
    (λ (later : In l xs). or-right (is_at l.path x.path) (list_any (is_at l.path) (map (λ (y : LinkRow). y.path) xs)) (path-in l xs later)) is

pub gives-has : (m : Moved) (l : LinkRow) → In l m.gives → has_path m l.path ≡ true
gives-has m l is = any-append (is_at l.path) (map (λ x. x.path) m.gives) (map (λ x. x.path) m.takes) ∙ or-left (list_any (is_at l.path) (map (λ x. x.path) m.gives)) (list_any (is_at l.path) (map (λ x. x.path) m.takes)) (path-in l m.gives is)

pub takes-has : (m : Moved) (l : LinkRow) → In l m.takes → has_path m l.path ≡ true
takes-has m l is = any-append (is_at l.path) (map (λ x. x.path) m.gives) (map (λ x. x.path) m.takes) ∙ or-right (list_any (is_at l.path) (map (λ x. x.path) m.gives)) (list_any (is_at l.path) (map (λ x. x.path) m.takes)) (path-in l m.takes is)

-- what is not on a path of a list is not found there
none-on : (ls : List LinkRow) (p : List ℕ) → list_any (is_at p) (map (λ l. l.path) ls) ≡ false → on ls p ≡ None
none-on [] p e = refl
none-on (x ∷ xs) p e = by (is_at p x.path) e (λ h. none-on xs p h)
  where
    by : (b : Bool) → (b || list_any (is_at p) (map (λ (l : LinkRow). l.path) xs)) ≡ false → (list_any (is_at p) (map (λ (l : LinkRow). l.path) xs) ≡ false → on xs p ≡ None) → cond b (Some x) (on xs p) ≡ None
    by true h rest = absurd (false_true (sym h))
    by false h rest = rest h

pub held-off : (m : Moved) (p : List ℕ) (o : Option LinkRow) → has_path m p ≡ false → held_after m p o ≡ o
held-off m p o off =
    let two = either (list_any (is_at p) (map (λ (l : LinkRow). l.path) m.gives)) (list_any (is_at p) (map (λ (l : LinkRow). l.path) m.takes))
    (sym (any-append (is_at p) (map (λ (l : LinkRow). l.path) m.gives) (map (λ (l : LinkRow). l.path) m.takes)) ∙ off) in
    ap (λ (g : Option LinkRow). held_by g (on m.takes p) o) (none-on m.gives p two.0) ∙ ap (λ (t : Option LinkRow). held_by None t o) (none-on m.takes p two.1)
  where
    either : (a b : Bool) → (a || b) ≡ false → (a ≡ false) × (b ≡ false)
    either true b e = absurd (false_true (sym e))
    either false b e = (refl, e)

-- AN ACCEPTED CLAIM

linked-none : (p : List ℕ) (o : Option LinkRow) → linked p o ≡ None → o ≡ None
linked-none p None e = refl
linked-none p (Some l) e = absurd cc

test-turned : (x y : ℕ) → (x == y) ≡ (y == x)
test-turned x y = grind (arith, nat_tests)

number-turned : (a b : LinkNo) → same_number a b ≡ same_number b a
number-turned a b = ap (λ x. x && (a.k == b.k)) (test-turned a.tx b.tx) ∙ ap (λ x. (b.tx == a.tx) && x) (test-turned a.k b.k)

among-turned : (gs : List LinkRow) (l : LinkRow) → list_any (λ g. same_number g.link l.link) gs ≡ is_in gs l
among-turned [] l = refl
among-turned (g ∷ gs) l = ap (λ x. x || list_any (λ (y : LinkRow). same_number y.link l.link) gs) (number-turned g.link l.link) ∙ ap (λ x. same_number l.link g.link || x) (among-turned gs l)

in-last : (t : LinkRow) (earlier : List LinkRow) → In t (earlier ++ t ∷ [])
in-last t [] = inl refl
in-last t (x ∷ xs) = inr (in-last t xs)

in-more : (x t : LinkRow) (earlier : List LinkRow) → In x earlier → In x (earlier ++ t ∷ [])
in-more x t [] is = absurd is
in-more x t (y ∷ ys) is = ⊎_elim (λ (e : x ≡ y). inl e) (λ (later : In x ys). inr (in-more x t ys later)) is

-- no take is on the path of an earlier one
takes-apart : (s : State) (tx : ℕ) (gs earlier ts : List LinkRow) → takes_refusal s tx gs earlier ts ≡ None → ((x y : LinkRow) → In x earlier → In y ts → is_at y.path x.path ≡ false) × OnePath ts
takes-apart s tx gs earlier [] none = ((λ x y is there. absurd there), tt)
takes-apart s tx gs earlier (t ∷ ts) none =
    let one = or-none (no_file t.path (maps.get s.files t.path)) _ none in
    let two = or-none (linked t.path (on earlier t.path)) _ one.1 in
    let three = or-none (linked t.path (on (not_among gs (links (tables_of s))) t.path)) _ two.1 in
    let four = or-none (busy_on s tx t.path) _ three.1 in
    let rest = takes-apart s tx gs (earlier ++ t ∷ []) ts four.1 in (
      (λ x y is there. ⊎_elim
          (λ (e : y ≡ t). ap (λ (z : LinkRow). is_at z.path x.path) e ∙ find-none (λ l. is_at t.path l.path) earlier (linked-none t.path (on earlier t.path) two.0) x is)
          (λ (later : In y ts). rest.0 x y (in-more x t earlier is) later) there),
      ((λ y there. rest.0 t y (in-last t earlier) there), rest.1),
    )

-- and none on that of a committed link that is not given
takes-free : (s : State) (tx : ℕ) (gs earlier ts : List LinkRow) → takes_refusal s tx gs earlier ts ≡ None → (x l : LinkRow) → In x ts → In l (links (tables_of s)) → is_in gs l ≡ false → is_at l.path x.path ≡ false
takes-free s tx gs earlier [] none x l is there lacks = absurd is
takes-free s tx gs earlier (t ∷ ts) none x l is there lacks =
    let one = or-none (no_file t.path (maps.get s.files t.path)) _ none in
    let two = or-none (linked t.path (on earlier t.path)) _ one.1 in
    let three = or-none (linked t.path (on (not_among gs (links (tables_of s))) t.path)) _ two.1 in
    let four = or-none (busy_on s tx t.path) _ three.1 in
    ⊎_elim
    (λ (e : x ≡ t).
    let among : In l (not_among gs (links (tables_of s))) = filter-in (λ y. not (list_any (λ g. same_number g.link y.link) gs)) (links (tables_of s)) l there (ap not (among-turned gs l ∙ lacks)) in
    is_at-sym x.path l.path (ap (λ (y : LinkRow). is_at y.path l.path) e ∙ find-none (λ y. is_at t.path y.path) (not_among gs (links (tables_of s))) (linked-none t.path (on (not_among gs (links (tables_of s))) t.path) three.0) l among))
    (λ (later : In x ts). takes-free s tx gs (earlier ++ t ∷ []) ts four.1 x l later there lacks) is

pub accepted-stands : (first : ℕ) (s : State) (tx : ℕ) (t : Txn) → IsHistory first s.commits → IsTransaction first s.commits tx t.base t.copy t.named t.next → claim_refusal s tx t ≡ None → ClaimStands s t
accepted-stands first s tx t history txn none =
    let one = or-none (doomed s t) _ none in
    let two = or-none (conflict t.base (tables_of s) t.named) _ one.1 in
    let three = or-none (takes_refusal s tx (moved_of t).gives [] (moved_of t).takes) (gives_refusal s tx (moved_of t).gives) two.1 in
    let moves = merged-moves t.base t.copy (tables_of s) (merged_by s t) (merge-touches first s.commits tx t.base t.copy t.named t.next history txn (current t.base (tables_of s) t.named two.0)) in
    record {
      given = λ g is. (in-filter (λ x. not (list_any (λ y. same_number x.link y.link) (links (merged_by s t)))) (links (tables_of s)) g (subst (λ ls. In g ls) (sym moves.0) is)).0;
      apart = (takes-apart s tx (moved_of t).gives [] (moved_of t).takes three.0).1;
      free = takes-free s tx (moved_of t).gives [] (moved_of t).takes three.0;
    }

-- WHAT ANOTHER COMMITS

off-path : (a b : Moved) (p : List ℕ) → ShareNoPath a b → has_path b p ≡ true → has_path a p ≡ false
off-path a b p apart has = ⊎_elim (λ (lacks : has_path a p ≡ false). lacks) (λ (lacks : has_path b p ≡ false). absurd (false_true (sym lacks ∙ has))) (apart p)

pub stands-beside : (s later : State) (m : Moved) (t : Txn) → ClaimStands s t → ShareNoPath m (moved_of t) → OnePath (links (tables_of s)) → OnePath (links (tables_of later))
    → ((p : List ℕ) → on (links (tables_of later)) p ≡ held_after m p (on (links (tables_of s)) p)) → ClaimStands later t
stands-beside s later m t stands apart one one_later moved = record {
  given = λ g is.
      (let off : has_path m g.path ≡ false = off-path m (moved_of t) g.path apart (gives-has (moved_of t) g is) in
      (on-in (links (tables_of later)) g.path g (moved g.path ∙ held-off m g.path (on (links (tables_of s)) g.path) off ∙ in-on (links (tables_of s)) g one (stands.given g is))).0);
  apart = stands.apart;
  free = λ x l is there lacks. by x l is there lacks (is_at l.path x.path) refl;
}
  where
    by : (x l : LinkRow) → In x (moved_of t).takes → In l (links (tables_of later)) → is_in (moved_of t).gives l ≡ false → (b : Bool) → is_at l.path x.path ≡ b → b ≡ false
    by x l is there lacks false at = refl
    by x l is there lacks true at =
        let path : l.path ≡ x.path = is_at-same l.path x.path at in
        let off : has_path m l.path ≡ false = off-path m (moved_of t) l.path apart (ap (has_path (moved_of t)) path ∙ takes-has (moved_of t) x is) in
        let was : In l (links (tables_of s)) = (on-in (links (tables_of s)) l.path l (sym (held-off m l.path (on (links (tables_of s)) l.path) off) ∙ sym (moved l.path) ∙ in-on (links (tables_of later)) l one_later there)).0 in
        absurd (false_true (sym (stands.free x l is was lacks) ∙ at))
