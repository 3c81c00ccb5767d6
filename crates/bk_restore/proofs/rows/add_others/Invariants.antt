use Rattle.std.proofs.Common.{◌≡◌, ◌||◌, ℕ, drop}
use Rattle.std.specs.List.Sorted.{IsStrictlySortedBy}
use Rattle.std.specs.Ordering.{nat_cmp}
use Rattle.db_changes.specs.Touched.{among}
use Rattle.bk_restore.specs.Differing.{other_numbers}
use Rattle.bk_restore.proofs.rows.add_others.Given as goal

-- the numbers so far, and those of the rows that are left, are all
abbrev pub invariant-loop-i : goal.invariant-loop-i
invariant-loop-i l = record {
  rise : IsStrictlySortedBy nat_cmp l.numbers;
  added : (n : ℕ) → (among (other_numbers l.first.rows (drop l.i l.second.rows)) n || among l.numbers n) ≡ (among (other_numbers l.first.rows l.second.rows) n || among l.fn.numbers n);
}
