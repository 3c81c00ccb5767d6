-- Orders that begin with a rank.
use Rattle.std.proofs.Common.{◌≡◌, ℕ, ◌+◌, ◌*◌, ◌%◌, ◌^◌, true, refl, sym, ap}
use Rattle.std.proofs.lemmas.Map.Lookups.{exact_pairs, exact_unsigned}
use Rattle.std.specs.Cmp.{Equal-is, nat_cmp_is}
use Rattle.std.specs.Ordering.{is_eq, nat_cmp, ordering_then}
use Rattle.std.specs.declared.cmp.Ordering.{Ordering}
use Rattle.std.specs.declared.cmp.Ordering.TheVariants.{Less, Equal, Greater}
use Rattle.dl_base.specs.declared.value.LinkNo.{LinkNo}
use Rattle.dl_pages.specs.Orders.{link_order, link_rank, plain_link_order, ranked}

-- what is equal stays so, where equal ones have the same rank
pub ranked_eq : {K : Type 0} (rank : K → ℕ) (order : K → K → Ordering) (a b : K) → (is_eq (order a b) ≡ true → rank a ≡ rank b) → is_eq (ranked rank order a b) ≡ is_eq (order a b)
ranked_eq rank order a b same = by (nat_cmp (rank a) (rank b)) (order a b) (λ e. sym (nat_cmp_is (rank a) (rank b) Equal (same e)))
  where
    by : (r o : Ordering) → (is_eq o ≡ true → r ≡ Equal) → is_eq (ordering_then r o) ≡ is_eq o
    by r Equal tied = rw (tied refl) refl
    by Less Less tied = refl
    by Equal Less tied = refl
    by Greater Less tied = refl
    by Less Greater tied = refl
    by Equal Greater tied = refl
    by Greater Greater tied = refl

pub link_eq : (a b : LinkNo) → is_eq (link_order a b) ≡ is_eq (plain_link_order a b)
link_eq a b = ranked_eq link_rank plain_link_order a b (λ tied. ap (λ t. (t.0 * 2 ^ 20 + t.1) % 2 ^ 64) (exact_pairs nat_cmp nat_cmp exact_unsigned exact_unsigned (a.tx, a.k) (b.tx, b.k) ((Equal-is (plain_link_order a b)).0 tied)))
