use Rattle.std.proofs.Common.{◌≡◌, [], Some}
use Rattle.compare_files.proofs.backups.advance.Given as goal
use Rattle.meaning_areas.specs.Stands.{past}

-- the tables so far are those after the commit that was reached
abbrev pub invariant-loop-n : goal.invariant-loop-n
invariant-loop-n l = past [] l.store.rows.commits l.n ≡ Some l.tables
