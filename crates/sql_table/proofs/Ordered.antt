-- Places of names in the order of their bytes.
use Rattle.std.proofs.Common.{◌≡◌, ℕ, zero, suc, ◌+◌, ◌-◌, ◌<◌, ◌≤◌, ◌==◌, Bool, true, false, List, [], ◌∷◌, ◌++◌, length, take, get_or, cond, Option, Some, None, Result, Ok, Err, OnErr, is_ok, nat_lt, refl, sym, ap, ◌∙◌, subst, arith}
use Rattle.std.specs.Cmp.Lexicographic.{pointwise, slice_cmp, nat_list_cmp_total, bytes_decides, texts_ties}
use Rattle.std.specs.List.{insert, position_or_len, remove, zip}
use Rattle.std.specs.Map.{lookup}
use Rattle.std.specs.Ordering.{is_eq, is_lt, nat_cmp, ordering_reverse}
use Rattle.std.specs.declared.cmp.Ordering.{Ordering}
use Rattle.std.specs.declared.cmp.Ordering.TheVariants.{Less, Equal, Greater}
use Rattle.std.proofs.lemmas.Cmp.{by_ranked, ranked, tied_itself}
use Rattle.std.proofs.lemmas.List.{length-append, get_or_append_left, get_or_at}
use Rattle.std.proofs.lemmas.List.Edits.{length-insert, get_or-insert_below, get_or-insert_at, get_or-insert_above, length-remove, get_or-remove_below, get_or-remove_above}
use Rattle.std.proofs.lemmas.List.Sums.{passes_at_first, position_or_len_is}
use borrow.Author.Tests.{ltb-true, lt-ltb}
use Rattle.sql_table.specs.Roomy.{AreOrdered, IsRank, less, named, lowered}

is-less : (r : Ordering) → is_lt r ≡ true → r ≡ Less
is-less Less e = refl
is-less Equal e = cc e
is-less Greater e = cc e

less-chain : (a b c : List ℕ) → less a b ≡ true → less b c ≡ true → less a c ≡ true
less-chain a b c ab bc = ap is_lt (nat_list_cmp_total.trans a b c (is-less (slice_cmp nat_cmp a b) ab) (is-less (slice_cmp nat_cmp b c) bc))

less-self : (a : List ℕ) → less a a ≡ false
less-self a = ap is_lt (tied_itself nat_list_cmp_total a)

not-true : (b : Bool) → (b ≡ true → ⊥) → b ≡ false
not-true true never = absurd (never refl)
not-true false never = refl

clash : (b : Bool) → b ≡ true → b ≡ false → ⊥
clash b is not = cc (sym is ∙ not)

other-by : (a b : List ℕ) (r : Ordering) → slice_cmp nat_cmp a b ≡ r → is_lt r ≡ false → (a ≡ b → ⊥) → less b a ≡ true
other-by a b Less is not apart = cc not
other-by a b Equal is not apart = absurd (apart ((bytes_decides a b).0 (texts_ties a b ∙ ap is_eq is)))
other-by a b Greater is not apart = ap is_lt (nat_list_cmp_total.antisymm b a ∙ ap ordering_reverse is)

-- of two names that differ, one is the less
other : (a b : List ℕ) → less a b ≡ false → (a ≡ b → ⊥) → less b a ≡ true
other a b = other-by a b (slice_cmp nat_cmp a b) refl

split : {P : Type 0} (i j : ℕ) → (i < j → P) → (i ≡ j → P) → (j < i → P) → P
split i j less same more = by_ranked (i < j) (i ≡ j) (j < i) (nat_cmp i j) (ranked i j (nat_cmp i j) refl) (λ r h. less h) (λ r h. same h) (λ r h. more h)

module _ (names : List (List ℕ)) (order : List ℕ) (o : AreOrdered names order) where
  pub upto : (name : List ℕ) (i m : ℕ) → less (named names order m) name ≡ true → i ≤ m → m < length order → less (named names order i) name ≡ true
  upto name i m is le lt =
      split i m (λ l. less-chain (named names order i) (named names order m) name (o.rising i m l lt) is)
      (λ e. subst (λ k. less (named names order k) name ≡ true) (sym e) is)
      (λ g. absurd (omega (arith, le, g)))

  pub down : (name : List ℕ) (i m : ℕ) → less (named names order m) name ≡ false → m ≤ i → i < length order → less (named names order i) name ≡ false
  down name i m not le lt = not-true (less (named names order i) name) (λ is. clash (less (named names order m) name) (upto name m i is le lt) not)

  -- a place in the order is the only one of its name
  apart_at : (i j : ℕ) → i < j → j < length order → get_or order i 0 ≡ get_or order j 0 → ⊥
  apart_at i j l lt same = clash (less (named names order i) (named names order j)) (o.rising i j l lt) (ap (λ p. less (get_or names p []) (named names order j)) same ∙ less-self (named names order j))

  only : (name : List ℕ) (rank : ℕ) → IsRank names order name rank → (k : ℕ) → k < length names → get_or names k [] ≡ name → (rank < length order) × (get_or order rank 0 ≡ k)
  only name rank r k within is =
      let w = o.all k within in
      let its : named names order w.0 ≡ name = ap (λ p. get_or names p []) w.2 ∙ is in
      split w.0 rank
      (λ l. absurd (clash (less (named names order w.0) name) (r.before w.0 l) (ap (λ n. less n name) its ∙ less-self name)))
      (λ e. (subst (λ n. n < length order) e w.1, ap (λ n. get_or order n 0) (sym e) ∙ w.2))
      (λ g. absurd (clash (less (named names order rank) name) (ap (λ n. less (named names order rank) n) (sym its) ∙ o.rising rank w.0 g w.1) (r.behind rank (omega arith) (omega (arith, g, w.1)))))

  module _ (name : List ℕ) (rank : ℕ) (r : IsRank names order name rank) where
    abbrev pub test : List ℕ → Bool
    test = pointwise ◌==◌ name

    same : (found : List ℕ) → test found ≡ true → found ≡ name
    same found is = sym ((bytes_decides name found).0 is)

    pub place_found : rank < length order → test (named names order rank) ≡ true → get_or order rank 0 ≡ position_or_len test names
    place_found lt is =
        let p = get_or order rank 0 in
        let within = o.within rank lt in
        sym (position_or_len_is test names p [] (omega (arith, within))
        (λ k before. not-true (test (get_or names k [])) (λ also. let w = only name rank r k (omega (arith, before, within)) (same (get_or names k []) also) in let e = w.1 in absurd (omega (arith, e, before))))
        (λ past. is))

    none-is : (rank < length order → test (named names order rank) ≡ false) → (k : ℕ) → k < length names → test (get_or names k []) ≡ false
    none-is none k within = not-true (test (get_or names k [])) (λ also.
        let w = only name rank r k within (same (get_or names k []) also) in
        clash (test (get_or names k [])) also (ap (λ p. test (get_or names p [])) (sym w.1) ∙ none w.0))

    pub place_none : (rank < length order → test (named names order rank) ≡ false) → length names ≡ position_or_len test names
    place_none none = sym (position_or_len_is test names (length names) [] (omega arith) (λ k before. none-is none k before) (λ past. absurd (omega (arith, past))))

pub ordered_none : (names : List (List ℕ)) (order : List ℕ) → names ≡ [] → order ≡ [] → AreOrdered names order
ordered_none names order nameless none =
    subst (λ ns. AreOrdered ns order) (sym nameless) (subst (λ is. AreOrdered [] is) (sym none)
    (record { each = refl; within = λ i lt. absurd (omega (arith, lt)); rising = λ i j l lt. absurd (omega (arith, lt)); all = λ k lt. absurd (omega (arith, lt)) }))

-- a name and its place come in
module _ (names : List (List ℕ)) (order : List ℕ) (o : AreOrdered names order) (name : List ℕ) (rank : ℕ) (r : IsRank names order name rank) (new : (k : ℕ) → k < length names → get_or names k [] ≡ name → ⊥) where
  more : length (names ++ name ∷ []) ≡ length names + 1
  more = length-append names (name ∷ [])

  old : (k : ℕ) → k < length names → get_or (names ++ name ∷ []) k [] ≡ get_or names k []
  old k lt = get_or_append_left names (name ∷ []) [] k lt

  newest : get_or (names ++ name ∷ []) (length names) [] ≡ name
  newest = get_or_at names name [] [] (length names) refl

  at-below : (i : ℕ) → i < rank → get_or (insert order rank (length names)) i 0 ≡ get_or order i 0
  at-below i lt = get_or-insert_below order rank (length names) 0 i lt r.least

  at-rank : get_or (insert order rank (length names)) rank 0 ≡ length names
  at-rank = get_or-insert_at order rank (length names) 0 r.least

  at-above : (i : ℕ) → rank ≤ i → get_or (insert order rank (length names)) (i + 1) 0 ≡ get_or order i 0
  at-above i le = get_or-insert_above order rank (length names) 0 i le r.least

  abbrev New : ℕ → List ℕ
  New i = named (names ++ name ∷ []) (insert order rank (length names)) i

  new-below : (i : ℕ) → i < rank → New i ≡ named names order i
  new-below i lt = ap (λ p. get_or (names ++ name ∷ []) p []) (at-below i lt) ∙ old (get_or order i 0) (o.within i (omega (arith, lt, r.least)))

  new-rank : New rank ≡ name
  new-rank = ap (λ p. get_or (names ++ name ∷ []) p []) at-rank ∙ newest

  new-above : (i : ℕ) → rank ≤ i → i < length order → New (i + 1) ≡ named names order i
  new-above i le lt = ap (λ p. get_or (names ++ name ∷ []) p []) (at-above i le) ∙ old (get_or order i 0) (o.within i lt)

  long : length (insert order rank (length names)) ≡ length order + 1
  long = length-insert order rank (length names) r.least

  both : (a b c d : List ℕ) → a ≡ c → b ≡ d → less c d ≡ true → less a b ≡ true
  both a b c d p q is = ap (λ n. less n b) p ∙ ap (λ n. less c n) q ∙ is

  -- the name is less than those from its place on
  under : (i : ℕ) → rank ≤ i → i < length order → less name (named names order i) ≡ true
  under i le lt = other (named names order i) name (r.behind i le lt) (λ is. new (get_or order i 0) (o.within i lt) is)

  rises : (i j : ℕ) → i < j → j < length (insert order rank (length names)) → less (New i) (New j) ≡ true
  rises i j l lt =
      split j rank
      (λ jb. both (New i) (New j) (named names order i) (named names order j) (new-below i (omega (arith, l, jb))) (new-below j jb) (o.rising i j l (omega (arith, jb, r.least))))
      (λ je. both (New i) (New j) (named names order i) name (new-below i (omega (arith, l, je))) (ap New je ∙ new-rank) (r.before i (omega (arith, l, je))))
      (λ ja.
      let back : (j - 1) + 1 ≡ j = omega (arith, ja) in
      let from : rank ≤ j - 1 = omega (arith, ja) in
      let within : j - 1 < length order = omega (arith, ja, lt, long) in
      let it : New j ≡ named names order (j - 1) = ap New (sym back) ∙ new-above (j - 1) from within in
      split i rank
      (λ ib. both (New i) (New j) (named names order i) (named names order (j - 1)) (new-below i ib) it (o.rising i (j - 1) (omega (arith, ib, ja)) within))
      (λ ie. both (New i) (New j) name (named names order (j - 1)) (ap New ie ∙ new-rank) it (under (j - 1) from within))
      (λ ia.
      let own : (i - 1) + 1 ≡ i = omega (arith, ia) in
      both (New i) (New j) (named names order (i - 1)) (named names order (j - 1)) (ap New (sym own) ∙ new-above (i - 1) (omega (arith, ia)) (omega (arith, ia, l, within))) it (o.rising (i - 1) (j - 1) (omega (arith, ia, l)) within)))

  stays : (i : ℕ) → i < length (insert order rank (length names)) → get_or (insert order rank (length names)) i 0 < length (names ++ name ∷ [])
  stays i lt =
      split i rank
      (λ b. let w = o.within i (omega (arith, b, r.least)) in omega (arith, at-below i b, w, more))
      (λ e. let is : get_or (insert order rank (length names)) i 0 ≡ length names = ap (λ k. get_or (insert order rank (length names)) k 0) e ∙ at-rank in omega (arith, is, more))
      (λ a.
      let own : (i - 1) + 1 ≡ i = omega (arith, a) in
      let is : get_or (insert order rank (length names)) i 0 ≡ get_or order (i - 1) 0 = ap (λ k. get_or (insert order rank (length names)) k 0) (sym own) ∙ at-above (i - 1) (omega (arith, a)) in
      let w = o.within (i - 1) (omega (arith, a, lt, long)) in
      omega (arith, is, w, more))

  among : (k : ℕ) → k < length (names ++ name ∷ []) → (i : ℕ) × (i < length (insert order rank (length names))) × (get_or (insert order rank (length names)) i 0 ≡ k)
  among k lt =
      split k (length names)
      (λ b.
      let w = o.all k b in
      split w.0 rank
      (λ l. (w.0, omega (arith, w.1, long), at-below w.0 l ∙ w.2))
      (λ e. (w.0 + 1, omega (arith, w.1, long), at-above w.0 (omega (arith, e)) ∙ w.2))
      (λ g. (w.0 + 1, omega (arith, w.1, long), at-above w.0 (omega (arith, g)) ∙ w.2)))
      (λ e. (rank, omega (arith, r.least, long), at-rank ∙ sym e))
      (λ a. absurd (omega (arith, a, lt, more)))

  pub ordered_added : AreOrdered (names ++ name ∷ []) (insert order rank (length names))
  ordered_added = record { each = omega (arith, long, more, o.each); within = stays; rising = rises; all = among }

any_else : {X : Type 0} (xs : List X) (i : ℕ) (d e : X) → i < length xs → get_or xs i d ≡ get_or xs i e
any_else [] i d e lt = absurd (omega (arith, lt))
any_else (x ∷ xs) zero d e lt = refl
any_else (x ∷ xs) (suc i) d e lt = any_else xs i d e (omega (arith, lt))

-- what a comparison of the bytes of two names tells
pub tells : (names : List (List ℕ)) (k : ℕ) (found b x y : List ℕ) (r : Ordering) (t : Bool) → k < length names → found ≡ get_or names k found → x ≡ found → y ≡ b → r ≡ slice_cmp nat_cmp x y → t ≡ is_lt r → less (get_or names k []) b ≡ t
tells names k found b x y r t lt at p q is e = ap (λ n. less n b) (any_else names k [] found lt ∙ sym at ∙ sym p) ∙ ap (λ n. less x n) (sym q) ∙ ap is_lt (sym is) ∙ sym e

low-above : (p k : ℕ) → p < k → lowered p k ≡ k - 1
low-above p k lt = rw (lt-ltb p k lt) refl

low-below : (p k : ℕ) → k ≤ p → lowered p k ≡ k
low-below p k le = low-below-by (nat_lt p k) refl
  where
    low-below-by : (b : Bool) → nat_lt p k ≡ b → lowered p k ≡ k
    low-below-by true is = let lt : p < k = ltb-true p k is in absurd (omega (arith, lt, le))
    low-below-by false is = rw is refl

-- a name and its place go
module _ (names : List (List ℕ)) (order : List ℕ) (o : AreOrdered names order) (rank : ℕ) (within : rank < length order) (p : ℕ) (at : get_or order rank 0 ≡ p)
    (left : List ℕ) (as_long : length left ≡ length (remove order rank)) (lower : (i : ℕ) → i < length (remove order rank) → get_or left i 0 ≡ lowered p (get_or (remove order rank) i 0)) where
  p-in : p < length names
  p-in = subst (λ k. k < length names) at (o.within rank within)

  long-names : length (remove names p) + 1 ≡ length names
  long-names = length-remove names p p-in

  long-order : length (remove order rank) + 1 ≡ length order
  long-order = length-remove order rank within

  not-p : (i : ℕ) → i < length order → (i ≡ rank → ⊥) → get_or order i 0 ≡ p → ⊥
  not-p i lt apart is =
      split i rank
      (λ l. apart_at names order o i rank l within (is ∙ sym at))
      (λ e. apart e)
      (λ g. apart_at names order o rank i g lt (at ∙ sym is))

  -- the names at the lowered places are those that were there
  same-name : (k : ℕ) → (k ≡ p → ⊥) → get_or (remove names p) (lowered p k) [] ≡ get_or names k []
  same-name k apart =
      split k p
      (λ l. ap (λ n. get_or (remove names p) n []) (low-below p k (omega (arith, l))) ∙ get_or-remove_below names p [] k l p-in)
      (λ e. absurd (apart e))
      (λ g.
      let back : (k - 1) + 1 ≡ k = omega (arith, g) in
      ap (λ n. get_or (remove names p) n []) (low-above p k g) ∙ get_or-remove_above names p [] (k - 1) (omega (arith, g)) p-in ∙ ap (λ n. get_or names n []) back)

  left-below : (i : ℕ) → i < rank → get_or left i 0 ≡ lowered p (get_or order i 0)
  left-below i lt = lower i (omega (arith, lt, within, long-order)) ∙ ap (lowered p) (get_or-remove_below order rank 0 i lt within)

  left-above : (i : ℕ) → rank ≤ i → i + 1 < length order → get_or left i 0 ≡ lowered p (get_or order (i + 1) 0)
  left-above i le lt = lower i (omega (arith, lt, long-order)) ∙ ap (lowered p) (get_or-remove_above order rank 0 i le within)

  name-below : (i : ℕ) → i < rank → named (remove names p) left i ≡ named names order i
  name-below i lt = ap (λ n. get_or (remove names p) n []) (left-below i lt) ∙ same-name (get_or order i 0) (λ is. not-p i (omega (arith, lt, within)) (λ e. omega (arith, e, lt)) is)

  name-above : (i : ℕ) → rank ≤ i → i + 1 < length order → named (remove names p) left i ≡ named names order (i + 1)
  name-above i le lt = ap (λ n. get_or (remove names p) n []) (left-above i le lt) ∙ same-name (get_or order (i + 1) 0) (λ is. not-p (i + 1) lt (λ e. omega (arith, e, le)) is)

  pair : (a b c d : List ℕ) → a ≡ c → b ≡ d → less c d ≡ true → less a b ≡ true
  pair a b c d q r is = ap (λ n. less n b) q ∙ ap (λ n. less c n) r ∙ is

  or-not : {P : Type 0} (i j : ℕ) → (i < j → P) → (j ≤ i → P) → P
  or-not i j l g = split i j l (λ e. g (omega (arith, e))) (λ h. g (omega (arith, h)))

  still-rising : (i j : ℕ) → i < j → j < length left → less (named (remove names p) left i) (named (remove names p) left j) ≡ true
  still-rising i j l lt =
      let far : j + 1 < length order = omega (arith, lt, as_long, long-order) in
      or-not j rank
      (λ jb. pair (named (remove names p) left i) (named (remove names p) left j) (named names order i) (named names order j) (name-below i (omega (arith, l, jb))) (name-below j jb) (o.rising i j l (omega (arith, far))))
      (λ ja.
      or-not i rank
      (λ ib. pair (named (remove names p) left i) (named (remove names p) left j) (named names order i) (named names order (j + 1)) (name-below i ib) (name-above j ja far) (o.rising i (j + 1) (omega (arith, l)) far))
      (λ ia. pair (named (remove names p) left i) (named (remove names p) left j) (named names order (i + 1)) (named names order (j + 1)) (name-above i ia (omega (arith, l, far))) (name-above j ja far) (o.rising (i + 1) (j + 1) (omega (arith, l)) far)))

  less-by-one : (k : ℕ) → (k ≡ p → ⊥) → k < length names → lowered p k < length (remove names p)
  less-by-one k apart lt =
      split k p
      (λ l. let is = low-below p k (omega (arith, l)) in let n = p-in in let m = long-names in omega (arith, is, l, n, m))
      (λ e. absurd (apart e))
      (λ g. let is = low-above p k g in let m = long-names in omega (arith, is, g, lt, m))

  still-within : (i : ℕ) → i < length left → get_or left i 0 < length (remove names p)
  still-within i lt =
      let far : i + 1 < length order = omega (arith, lt, as_long, long-order) in
      or-not i rank
      (λ b. let w = less-by-one (get_or order i 0) (λ is. not-p i (omega (arith, far)) (λ e. omega (arith, e, b)) is) (o.within i (omega (arith, far))) in let is = left-below i b in omega (arith, w, is))
      (λ a. let w = less-by-one (get_or order (i + 1) 0) (λ is. not-p (i + 1) far (λ e. omega (arith, e, a)) is) (o.within (i + 1) far) in let is = left-above i a far in omega (arith, w, is))

  -- each other place is among those left, lowered
  kept : (k : ℕ) → k < length names → (k ≡ p → ⊥) → (i : ℕ) × (i < length left) × (get_or left i 0 ≡ lowered p k)
  kept k lt apart =
      let w = o.all k lt in
      let shorter : length left + 1 ≡ length order = omega (arith, as_long, long-order) in
      split w.0 rank
      (λ l. (w.0, omega (arith, l, within, shorter), left-below w.0 l ∙ ap (lowered p) w.2))
      (λ e. absurd (apart (sym w.2 ∙ ap (λ i. get_or order i 0) e ∙ at)))
      (λ g.
      let back : (w.0 - 1) + 1 ≡ w.0 = omega (arith, g) in
      let far : (w.0 - 1) + 1 < length order = omega (arith, back, w.1) in
      (w.0 - 1, omega (arith, far, shorter), left-above (w.0 - 1) (omega (arith, g)) far ∙ ap (λ i. lowered p (get_or order i 0)) back ∙ ap (lowered p) w.2))

  still-all : (k : ℕ) → k < length (remove names p) → (i : ℕ) × (i < length left) × (get_or left i 0 ≡ k)
  still-all k lt =
      or-not k p
      (λ b. let w = kept k (omega (arith, lt, long-names)) (λ e. omega (arith, e, b)) in (w.0, w.1, w.2 ∙ low-below p k (omega (arith, b))))
      (λ a. let w = kept (k + 1) (omega (arith, lt, long-names)) (λ e. omega (arith, e, a)) in let is = low-above p (k + 1) (omega (arith, a)) in (w.0, w.1, w.2 ∙ is ∙ omega arith))

  pub ordered_removed : AreOrdered (remove names p) left
  ordered_removed = record { each = omega (arith, as_long, long-order, long-names, o.each); within = still-within; rising = still-rising; all = still-all }

-- the place of a name in the order has the name's place
pub rank_at : (names : List (List ℕ)) (order : List ℕ) → AreOrdered names order → (name : List ℕ) (rank : ℕ) → IsRank names order name rank → (k : ℕ) → k ≡ position_or_len (pointwise ◌==◌ name) names → k < length names → (rank < length order) × (get_or order rank 0 ≡ k)
rank_at names order o name rank r k is lt =
    only names order o name rank r k lt
    (sym ((bytes_decides name (get_or names k [])).0 (ap (λ i. pointwise ◌==◌ name (get_or names i [])) is ∙ passes_at_first (pointwise ◌==◌ name) names [] (omega (arith, is, lt)))))

pub inserted_by : {X U W : Type 0} (r : Result U W) (n a b : List X) (len cap : ℕ) → n ≡ cond (is_ok r) a b → OnErr r (cap ≤ len) → len < cap → n ≡ a
inserted_by (Ok u) n a b len cap is full room = is
inserted_by (Err w) n a b len cap is full room = absurd (omega (arith, full, room))

take_own : (xs ys : List ℕ) → take (length xs) (xs ++ ys) ≡ xs
take_own [] ys = refl
take_own (x ∷ xs) ys = ap (λ l. x ∷ l) (take_own xs ys)

-- a vector of which each item was written
pub taken : (n : ℕ) (xs ys : List ℕ) → n ≡ length xs → take n (xs ++ ys) ≡ xs
taken n xs ys is = ap (λ m. take m (xs ++ ys)) is ∙ take_own xs ys

first-by : {X : Type 0} (b : Bool) (x : X) (found : Option X) → cond b (Some x) found ≡ None → b ≡ false
first-by true x found none = cc none
first-by false x found none = refl

rest-by : {X : Type 0} (b : Bool) (x : X) (found : Option X) → cond b (Some x) found ≡ None → found ≡ None
rest-by true x found none = cc none
rest-by false x found none = none

none-at : {K X : Type 0} (check : K → Bool) (ks : List K) (xs : List X) (d : K) → length xs ≡ length ks → lookup check (zip ks xs) ≡ None → (k : ℕ) → k < length ks → check (get_or ks k d) ≡ false
none-at check [] xs d same none k lt = absurd (omega (arith, lt))
none-at check (l ∷ ks) [] d same none k lt = cc same
none-at check (l ∷ ks) (x ∷ xs) d same none zero lt = first-by (check l) x (lookup check (zip ks xs)) none
none-at check (l ∷ ks) (x ∷ xs) d same none (suc k) lt = none-at check ks xs d (cc same) (rest-by (check l) x (lookup check (zip ks xs)) none) k (omega (arith, lt))

pub name_new : {X : Type 0} (names : List (List ℕ)) (tables : List X) (name : List ℕ) → length tables ≡ length names → lookup (pointwise ◌==◌ name) (zip names tables) ≡ None → (k : ℕ) → k < length names → get_or names k [] ≡ name → ⊥
name_new names tables name same none k lt is = clash (pointwise ◌==◌ name (get_or names k [])) ((bytes_decides name (get_or names k [])).1 (sym is)) (none-at (pointwise ◌==◌ name) names tables [] same none k lt)
