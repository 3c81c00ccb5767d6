-- The links after a commit, from those before it and what it gives and takes: the paths that they are on, and what is known of them.
use Rattle.std.proofs.Common.{◌≡◌, ◌⊎◌, inl, inr, ⊎_elim, ℕ, ◌||◌, Bool, true, false, not, List, [], ◌∷◌, Option, Some, None, refl, sym, ap, subst, ◌∙◌}
use Rattle.std.proofs.lemmas.Bool.{and_from, and_parts}
use Rattle.std.proofs.lemmas.List.Elements.{All-cons, All-head, All-nil, All-tail}
use Rattle.std.specs.List.{All, list_all}
use Rattle.dl_base.specs.declared.value.LinkNo.{LinkNo}
use Rattle.dl_base.specs.declared.value.LinkRow.{LinkRow}
use Rattle.meaning_areas.proofs.Equal.{row-link-decides}
use Rattle.meaning_areas.specs.Branches.{given_on}
use Rattle.meaning_merge.proofs.MovedLaws.{has-number, in-lacking, in-number, lacking-in}
use Rattle.meaning_merge.proofs.Numbers.{Distinct, never, none, not_it, number-same}
use Rattle.meaning_merge.proofs.Paths.{distinct-filter, in-numbered, one-same, same-one}
use Rattle.meaning_merge.specs.Touching.{In, OnePath, is_in}
use Rattle.meaning_settling.proofs.KeyedLaws.{either, is_at-same, is_at-self, or-left, or-right}
use Rattle.meaning_settling.specs.Keyed.{is_at}
use Rattle.meaning_settling.specs.Settling.{link_key, numbered}
use Rattle.meaning_tables.specs.Links.{lacking}
use Rattle.compare_every.proofs.Deciding.{false_true}
use Rattle.compare_every.proofs.Rows.{Found}
use Rattle.compare_every.specs.Every.{agrees, first_row}
use Rattle.compare_links.specs.Moving.{agrees_in, are_free, with_path, with_paths, without_paths}

abbrev pub Linked : Type 0
Linked = List ℕ → Bool

off : (b : Bool) → not b ≡ true → b ≡ false
off true e = absurd (false_true e)
off false e = refl

off-both : (a b : Bool) → a ≡ false → b ≡ false → (a || b) ≡ false
off-both true b e f = absurd (false_true (sym e))
off-both false b e f = f

one-of : (a b : Bool) → (a || b) ≡ true → (a ≡ true) ⊎ (b ≡ true)
one-of true b e = inl refl
one-of false b e = inr e

pub same-tests : (a b : Bool) → (a ≡ true → b ≡ true) → (b ≡ true → a ≡ true) → a ≡ b
same-tests true b to from = sym (to refl)
same-tests false true to from = from refl
same-tests false false to from = refl

-- LINKS OF A LIST

pub each-in : (p : LinkRow → Bool) (ls : List LinkRow) (l : LinkRow) → list_all p ls ≡ true → In l ls → p l ≡ true
each-in p [] l all is = absurd is
each-in p (x ∷ xs) l all is =
    let two = and_parts (p x) (list_all p xs) all in
    ⊎_elim (λ (here : l ≡ x). ap p here ∙ two.0) (λ (later : In l xs). each-in p xs l two.1 later) is

pub in-each : (p : LinkRow → Bool) (ls : List LinkRow) → ((l : LinkRow) → In l ls → p l ≡ true) → list_all p ls ≡ true
in-each p [] each = refl
in-each p (x ∷ xs) each = and_from (p x) (list_all p xs) (each x (inl refl)) (in-each p xs (λ l later. each l (inr later)))

pub all-in : (P : LinkRow → Type 0) (ls : List LinkRow) (l : LinkRow) → All P ls → In l ls → P l
all-in P [] l all is = absurd is
all-in P (x ∷ xs) l all is = ⊎_elim (λ (here : l ≡ x). subst P (sym here) (All-head P x xs all)) (λ (later : In l xs). all-in P xs l (All-tail P x xs all) later) is

pub in-all : (P : LinkRow → Type 0) (ls : List LinkRow) → ((l : LinkRow) → In l ls → P l) → All P ls
in-all P [] each = All-nil P
in-all P (x ∷ xs) each = All-cons P x xs (each x (inl refl)) (in-all P xs (λ l later. each l (inr later)))

given-in : (ls : List LinkRow) (q : List ℕ) → given_on ls q ≡ true → (l : LinkRow) × In l ls × (q ≡ l.path)
given-in [] q e = absurd (false_true e)
given-in (x ∷ xs) q e = ⊎_elim
    (λ (here : is_at q x.path ≡ true). (x, inl refl, is_at-same q x.path here))
    (λ (there : is_at q x.path ≡ false). (let more = given-in xs q (sym (ap (λ b. b || given_on xs q) there) ∙ e) in (more.0, inr more.1, more.2)))
    (either (is_at q x.path))

in-given : (ls : List LinkRow) (l : LinkRow) → In l ls → given_on ls l.path ≡ true
in-given [] l is = absurd is
in-given (x ∷ xs) l is = ⊎_elim
    (λ (here : l ≡ x). or-left (is_at l.path x.path) (given_on xs l.path) (ap (λ (y : LinkRow). is_at l.path y.path) (sym here) ∙ is_at-self l.path))
    (λ (later : In l xs). or-right (is_at l.path x.path) (given_on xs l.path) (in-given xs l later))
    is

-- FREE PATHS

free-apart : (paths : Linked) (ls : List LinkRow) → are_free paths ls ≡ true → (l : LinkRow) → In l ls → paths l.path ≡ false
free-apart paths [] free l is = absurd is
free-apart paths (x ∷ xs) free l is =
    let two = and_parts (not (paths x.path)) (are_free (with_path x.path paths) xs) free in
    ⊎_elim
    (λ (here : l ≡ x). ap (λ (y : LinkRow). paths y.path) here ∙ off (paths x.path) two.0)
    (λ (later : In l xs). (none (is_at l.path x.path) (paths l.path) (free-apart (with_path x.path paths) xs two.1 l later)).1)
    is

free-one : (paths : Linked) (ls : List LinkRow) → are_free paths ls ≡ true → OnePath ls
free-one paths [] free = tt
free-one paths (x ∷ xs) free =
    let two = and_parts (not (paths x.path)) (are_free (with_path x.path paths) xs) free in
    ((λ y later. (none (is_at y.path x.path) (paths y.path) (free-apart (with_path x.path paths) xs two.1 y later)).0), free-one (with_path x.path paths) xs two.1)

one-free : (paths : Linked) (ls : List LinkRow) → ((l : LinkRow) → In l ls → paths l.path ≡ false) → OnePath ls → are_free paths ls ≡ true
one-free paths [] apart one = refl
one-free paths (x ∷ xs) apart one =
    and_from (not (paths x.path)) (are_free (with_path x.path paths) xs) (not_it (paths x.path) (apart x (inl refl)))
    (one-free (with_path x.path paths) xs (λ y later. off-both (is_at y.path x.path) (paths y.path) (one.0 y later) (apart y (inr later))) one.1)

-- A COMMIT between links of different numbers
module _ (before after : List LinkRow) (of_before : Distinct before) (of_after : Distinct after) where
  abbrev gone : List LinkRow
  gone = lacking before after

  abbrev new : List LinkRow
  new = lacking after before

  new-distinct : Distinct new
  new-distinct = distinct-filter (λ x. not (is_in before x)) after of_after

  -- of links that are known, those before it are, and those after it agree with what is known
  module _ (known : Found) (has : (l : LinkRow) → In l before → known (link_key l.link) ≡ Some l) (agree : (l : LinkRow) → In l after → agrees_in known l ≡ true) where
    one-link : (x y : LinkRow) → In x before → In y after → x.link ≡ y.link → x ≡ y
    one-link x y in_before in_after e =
        let there : known (link_key y.link) ≡ Some x = ap (λ (n : LinkNo). known (link_key n)) (sym e) ∙ has x in_before in
        (row-link-decides x y).0 (sym (ap (λ (o : Option LinkRow). agrees o y) there) ∙ agree y in_after)

    was-before : (l : LinkRow) → In l after → is_in before l ≡ true → In l before
    was-before l is e = let y = has-number before l e in subst (λ (z : LinkRow). In z before) (one-link y.0 l y.1 is (sym (number-same l.link y.0.link y.2))) y.1

    stays-after : (l : LinkRow) → In l before → is_in after l ≡ true → In l after
    stays-after l is e = let y = has-number after l e in subst (λ (z : LinkRow). In z after) (sym (one-link l y.0 is y.1 (number-same l.link y.0.link y.2))) y.1

    -- each link after it stood before, or is taken
    old-or-new : (l : LinkRow) → In l after → In l before ⊎ In l new
    old-or-new l is = ⊎_elim (λ (h : is_in before l ≡ true). inl (was-before l is h)) (λ (h : is_in before l ≡ false). inr (in-lacking after before l is h)) (either (is_in before l))

    -- with those that are taken, all after it are known
    pub known-after : (l : LinkRow) → In l after → first_row (known (link_key l.link)) (numbered new (link_key l.link)) ≡ Some l
    known-after l is = ⊎_elim
        (λ (old : In l before). ap (λ (o : Option LinkRow). first_row o (numbered new (link_key l.link))) (has l old))
        (λ (taken : In l new). by (known (link_key l.link)) refl taken)
        (old-or-new l is)
      where
        by : (o : Option LinkRow) → known (link_key l.link) ≡ o → In l new → first_row o (numbered new (link_key l.link)) ≡ Some l
        by None at taken = in-numbered new l new-distinct taken
        by (Some x) at taken = ap (λ (y : LinkRow). Some y) ((row-link-decides x l).0 (sym (ap (λ (o : Option LinkRow). agrees o l) at) ∙ agree l is))

    pub holds-after : (P : LinkRow → Type 0) → ((l : LinkRow) → In l before → P l) → All P new → (l : LinkRow) → In l after → P l
    holds-after P each all l is = ⊎_elim (λ (old : In l before). each l old) (λ (taken : In l new). all-in P new l all taken) (old-or-new l is)

    -- of paths that are linked, no two before it are one
    module _ (paths : Linked) (linked : (q : List ℕ) → paths q ≡ given_on before q) (one : OnePath before) where
      abbrev left : Linked
      left = without_paths gone paths

      -- what is left are the paths of those that stay
      left-old : (q : List ℕ) → left q ≡ true → (l : LinkRow) × In l before × (is_in after l ≡ true) × (q ≡ l.path)
      left-old q e =
          let two = and_parts (paths q) (not (given_on gone q)) e in
          let l = given-in before q (sym (linked q) ∙ two.0) in
          (l.0, l.1, stays l.0 l.1 l.2 (off (given_on gone q) two.1), l.2)
        where
          stays : (l : LinkRow) → In l before → q ≡ l.path → given_on gone q ≡ false → is_in after l ≡ true
          stays l is at free = ⊎_elim
              (λ (h : is_in after l ≡ true). h)
              (λ (h : is_in after l ≡ false). absurd (false_true (sym free ∙ ap (λ (p : List ℕ). given_on gone p) at ∙ in-given gone l (in-lacking before after l is h))))
              (either (is_in after l))

      old-left : (l : LinkRow) → In l before → is_in after l ≡ true → left l.path ≡ true
      old-left l is there =
          and_from (paths l.path) (not (given_on gone l.path)) (linked l.path ∙ in-given before l is)
          (not_it (given_on gone l.path) (never (given_on gone l.path) (λ (h : given_on gone l.path ≡ true). clash (given-in gone l.path h))))
        where
          clash : (g : LinkRow) × In g gone × (l.path ≡ g.path) → ⊥
          clash g =
              let of = lacking-in before after g.0 g.1 in
              let same : g.0 ≡ l = one-same before g.0 l one of.0 is (ap (λ (p : List ℕ). is_at l.path p) (sym g.2) ∙ is_at-self l.path) in
              false_true (sym of.1 ∙ ap (λ (x : LinkRow). is_in after x) same ∙ there)

      -- one that stays is not on the path of one that is taken, if that is free
      apart : are_free left new ≡ true → (k l : LinkRow) → In k after → In k before → In l new → l.path ≡ k.path → ⊥
      apart free k l in_k old taken e =
          false_true (sym (free-apart left new free l taken) ∙ ap (λ (p : List ℕ). left p) e ∙ old-left k old (in-number after k in_k))

      pub one-after : are_free left new ≡ true → OnePath after
      one-after free = same-one after of_after (λ k l in_k in_l e. ⊎_elim
          (λ (old_k : In k before). ⊎_elim
          (λ (old_l : In l before). one-same before k l one old_k old_l e)
          (λ (new_l : In l new). absurd (apart free k l in_k old_k new_l (is_at-same l.path k.path e)))
          (old-or-new l in_l))
          (λ (new_k : In k new). ⊎_elim
          (λ (old_l : In l before). absurd (apart free l k in_l old_l new_k (sym (is_at-same l.path k.path e))))
          (λ (new_l : In l new). one-same new k l (free-one left new free) new_k new_l e)
          (old-or-new l in_l))
          (old-or-new k in_k))

      pub after-free : OnePath after → are_free left new ≡ true
      after-free one_after = one-free left new
          (λ l taken. never (left l.path) (λ (h : left l.path ≡ true). clash l taken (left-old l.path h)))
          (same-one new new-distinct (λ k l in_k in_l e. one-same after k l one_after (lacking-in after before k in_k).0 (lacking-in after before l in_l).0 e))
        where
          clash : (l : LinkRow) → In l new → (k : LinkRow) × In k before × (is_in after k ≡ true) × (l.path ≡ k.path) → ⊥
          clash l taken k =
              let of = lacking-in after before l taken in
              let same : k.0 ≡ l = one-same after k.0 l one_after (stays-after k.0 k.1 k.2) of.0 (ap (λ (p : List ℕ). is_at l.path p) (sym k.3) ∙ is_at-self l.path) in
              false_true (sym of.1 ∙ ap (λ (x : LinkRow). is_in before x) (sym same) ∙ in-number before k.0 k.1)

      pub linked-after : (q : List ℕ) → with_paths new left q ≡ given_on after q
      linked-after q = same-tests (given_on new q || left q) (given_on after q)
          (λ e. ⊎_elim
          (λ (taken : given_on new q ≡ true). from-new (given-in new q taken))
          (λ (old : left q ≡ true). from-old (left-old q old))
          (one-of (given_on new q) (left q) e))
          (λ e. to (given-in after q e))
        where
          on-path : (l : LinkRow) → In l after → q ≡ l.path → given_on after q ≡ true
          on-path l is at = ap (λ (p : List ℕ). given_on after p) at ∙ in-given after l is

          from-new : (l : LinkRow) × In l new × (q ≡ l.path) → given_on after q ≡ true
          from-new l = on-path l.0 (lacking-in after before l.0 l.1).0 l.2

          from-old : (l : LinkRow) × In l before × (is_in after l ≡ true) × (q ≡ l.path) → given_on after q ≡ true
          from-old l = on-path l.0 (stays-after l.0 l.1 l.2) l.3

          to : (l : LinkRow) × In l after × (q ≡ l.path) → (given_on new q || left q) ≡ true
          to l = ⊎_elim
              (λ (old : In l.0 before). or-right (given_on new q) (left q) (ap (λ (p : List ℕ). left p) l.2 ∙ old-left l.0 old (in-number after l.0 l.1)))
              (λ (taken : In l.0 new). or-left (given_on new q) (left q) (ap (λ (p : List ℕ). given_on new p) l.2 ∙ in-given new l.0 taken))
              (old-or-new l.0 l.1)
