use Rattle.std.proofs.Common.{◌≡◌, ℕ, ◌||◌, drop}
use Rattle.std.specs.List.Sorted.{IsStrictlySortedBy}
use Rattle.std.specs.Ordering.{nat_cmp}
use Rattle.db_changes.specs.Touched.{among}
use Rattle.db_changes.proofs.touched.added.Given as goal

abbrev pub invariant-loop-number : goal.invariant-loop-number
invariant-loop-number l = record {
  rise : IsStrictlySortedBy nat_cmp l.made;
  added : (n : ℕ) → (among (drop l.number-index l.numbers) n || among l.made n) ≡ (among l.numbers n || among l.fn.set n);
}
