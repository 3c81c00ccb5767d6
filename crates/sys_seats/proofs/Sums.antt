-- What seats count together.
use Rattle.std.proofs.Common.{◌≡◌, ℕ, ◌+◌, Bool, true, false, cond, List, [], ◌∷◌, Option, Some, None, T, refl, sym, ap, ◌∙◌, arith}
use Rattle.std.proofs.lemmas.Bool.{and_from, and_parts}
use Rattle.std.specs.Cmp.{nat_cmp_total, tied_itself}
use Rattle.std.specs.FinMap as maps
use Rattle.std.specs.FinMap.{nat_cmp-IsAntisymmetric}
use Rattle.std.specs.FinMap.Entries.{below_all, by_order, put}
use Rattle.std.specs.List.Sorted.{IsStrictlySortedBy}
use Rattle.std.specs.Map.{keys_of}
use Rattle.std.specs.Option.{IfSome}
use Rattle.std.specs.Ordering.{eq_by_cmp, is_eq, is_lt, nat_cmp}
use Rattle.std.specs.declared.cmp.Ordering.{Ordering}
use Rattle.std.specs.declared.cmp.Ordering.TheVariants.{Less, Equal, Greater}
use Rattle.fm_branch.proofs.Maps.{entries-empty, entries-of, missed, same-tied}
use Rattle.sys_seats.specs.Seats.{Seated, all_of, count_at, first_bound, phases_in, sum_of, unfinished_of}
use Rattle.sys_seats.specs.declared.seat.Seat.{Seat}

pub if_some : {A : Type 0} {P Q : A → Type 0} (o : Option A) → IfSome o P → ((x : A) → P x → Q x) → IfSome o Q
if_some None p f = p
if_some (Some x) p f = f x p

truth : (b : Bool) → T b → b ≡ true
truth true t = refl
truth false t = absurd t

is-less : (r : Ordering) → is_lt r ≡ true → r ≡ Less
is-less Less e = refl
is-less Equal e = absurd cc
is-less Greater e = absurd cc

-- a key below that of the first of some entries in order is below all
below : (k x : ℕ) (es : List (ℕ × Seat)) → nat_cmp k x ≡ Less → below_all nat_cmp x es ≡ true → below_all nat_cmp k es ≡ true
below k x [] under all = refl
below k x (e ∷ es) under all =
    let parts = and_parts (is_lt (nat_cmp x e.0)) (below_all nat_cmp x es) all in
    and_from (is_lt (nat_cmp k e.0)) (below_all nat_cmp k es) (ap is_lt (nat_cmp_total.trans k x e.0 under (is-less (nat_cmp x e.0) parts.0))) (below k x es under parts.1)

alone : (n : ℕ) → (n + 0) + 0 ≡ 0 + n
alone n = omega arith

in-front : (v e s : ℕ) → (v + (e + s)) + 0 ≡ (e + s) + v
in-front v e s = omega arith

in-place : (v e s : ℕ) → (v + s) + e ≡ (e + s) + v
in-place v e s = omega arith

behind : (e p o s v : ℕ) → p + o ≡ s + v → (e + p) + o ≡ (e + s) + v
behind e p o s v rest = omega arith

nothing : (n : ℕ) → n + 0 ≡ n
nothing n = omega arith

module _ (count : Seat → ℕ) where
  sum-put : (k : ℕ) (v : Seat) (es : List (ℕ × Seat)) → maps.is_sorted nat_cmp es ≡ true
      → sum_of count (put nat_cmp k v es) + count_at count (maps.find nat_cmp k es) ≡ sum_of count es + count v
  sum-put k v [] sorted = alone (count v)
  sum-put k v (e ∷ es) sorted =
      let parts = and_parts (below_all nat_cmp e.0 es) (maps.is_sorted nat_cmp es) sorted in
      by parts.0 (sum-put k v es parts.1) (nat_cmp k e.0) refl
    where
      by : below_all nat_cmp e.0 es ≡ true → sum_of count (put nat_cmp k v es) + count_at count (maps.find nat_cmp k es) ≡ sum_of count es + count v
          → (r : Ordering) → nat_cmp k e.0 ≡ r
          → sum_of count (by_order r ((k, v) ∷ e ∷ es) ((e.0, v) ∷ es) (e ∷ put nat_cmp k v es)) + count_at count (cond (is_eq r) (Some e.1) (maps.find nat_cmp k es)) ≡ (count e.1 + sum_of count es) + count v
      by least rest Less is =
          ap (λ (o : Option Seat). (count v + (count e.1 + sum_of count es)) + count_at count o) (missed nat_cmp k es (below k e.0 es is least))
          ∙ in-front (count v) (count e.1) (sum_of count es)
      by least rest Equal is = in-place (count v) (count e.1) (sum_of count es)
      by least rest Greater is = behind (count e.1) (sum_of count (put nat_cmp k v es)) (count_at count (maps.find nat_cmp k es)) (sum_of count es) (count v) rest

  pub none-counted : all_of count maps.empty ≡ 0
  unfolding all_of
  none-counted = ap (sum_of count) (entries-empty nat_cmp)

  pub put-counted : (seats : Seated) (tx : ℕ) (seat : Seat) → all_of count (maps.insert seats tx seat) + count_at count (maps.get seats tx) ≡ all_of count seats + count seat
  unfolding all_of
  put-counted seats tx seat =
      (λ i. sum_of count (maps.entries-insert nat_cmp_total seats tx seat i) + count_at count (maps.get-entries seats tx i))
      ∙ sum-put tx seat (maps.entries seats) (truth (maps.is_sorted nat_cmp (maps.entries seats)) (maps.entries_sorted seats))

  -- entries in order
  pub all-entries : (es : List (ℕ × Seat)) → IsStrictlySortedBy nat_cmp (keys_of es) → sum_of count es ≡ all_of count (maps.from_entries es)
  unfolding all_of
  all-entries es asc = ap (sum_of count) (sym (entries-of nat_cmp_total es asc))

-- what was taken out, put in again
back : (seats : Seated) (tx : ℕ) (seat : Seat) → maps.get seats tx ≡ Some seat → maps.insert (maps.remove seats tx) tx seat ≡ seats
back seats tx seat at = maps.same_map nat_cmp_total nat_cmp-IsAntisymmetric _ _ (λ q.
    maps.get-insert nat_cmp_total (maps.remove seats tx) tx seat q
    ∙ ap (λ (o : Option Seat). cond (eq_by_cmp nat_cmp q tx) (Some seat) o) (maps.get-remove nat_cmp_total seats tx q)
    ∙ by q (eq_by_cmp nat_cmp q tx) refl)
  where
    by : (q : ℕ) (b : Bool) → eq_by_cmp nat_cmp q tx ≡ b → cond b (Some seat) (cond b None (maps.get seats q)) ≡ maps.get seats q
    by q true same = sym (ap (λ (x : ℕ). maps.get seats x) (same-tied q tx same) ∙ at)
    by q false other = refl

-- what is not there, taken out
unchanged : (seats : Seated) (tx : ℕ) → maps.get seats tx ≡ None → maps.remove seats tx ≡ seats
unchanged seats tx at = maps.same_map nat_cmp_total nat_cmp-IsAntisymmetric _ _ (λ q. maps.get-remove nat_cmp_total seats tx q ∙ by q (eq_by_cmp nat_cmp q tx) refl)
  where
    by : (q : ℕ) (b : Bool) → eq_by_cmp nat_cmp q tx ≡ b → cond b None (maps.get seats q) ≡ maps.get seats q
    by q true same = sym (ap (λ (x : ℕ). maps.get seats x) (same-tied q tx same) ∙ at)
    by q false other = refl

taken : (seats : Seated) (tx : ℕ) → maps.get (maps.remove seats tx) tx ≡ None
taken seats tx = maps.get-remove nat_cmp_total seats tx tx ∙ ap (λ r. cond (is_eq r) None (maps.get seats tx)) (tied_itself nat_cmp_total tx)

pub taken-counted : (count : Seat → ℕ) (seats : Seated) (tx : ℕ) → all_of count (maps.remove seats tx) + count_at count (maps.get seats tx) ≡ all_of count seats
taken-counted count seats tx = by (maps.get seats tx) refl
  where
    by : (o : Option Seat) → maps.get seats tx ≡ o → all_of count (maps.remove seats tx) + count_at count o ≡ all_of count seats
    by None at = ap (λ (m : Seated). all_of count m + 0) (unchanged seats tx at) ∙ nothing (all_of count seats)
    by (Some seat) at =
        sym (put-counted count (maps.remove seats tx) tx seat)
        ∙ (λ i. all_of count (back seats tx seat at i) + count_at count (taken seats tx i))
        ∙ nothing (all_of count seats)

-- entries in order: the first that is prepared or decided
pub unfinished-entries : (es : List (ℕ × Seat)) → IsStrictlySortedBy nat_cmp (keys_of es) → first_bound (phases_in es) ≡ unfinished_of (maps.from_entries es)
unfolding unfinished_of
unfinished-entries es asc = ap (λ (xs : List (ℕ × Seat)). first_bound (phases_in xs)) (sym (entries-of nat_cmp_total es asc))
