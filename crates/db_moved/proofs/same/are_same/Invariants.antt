use Rattle.std.proofs.Common.{◌≡◌, drop}
use Rattle.meaning_areas.specs.Same.{same_tables}
use Rattle.db_moved.proofs.same.are_same.Given as goal

abbrev pub invariant-loop-i : goal.invariant-loop-i
invariant-loop-i l = same_tables (drop l.i l.base) (drop l.i l.copy) ≡ same_tables l.base l.copy
