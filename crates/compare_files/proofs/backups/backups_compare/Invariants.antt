use Rattle.std.proofs.Common.{◌≡◌, [], Some}
use Rattle.compare_files.proofs.OfPast.{SoFar}
use Rattle.compare_files.proofs.backups.backups_compare.Given as goal
use Rattle.meaning_areas.specs.Stands.{past}

-- the tables that were reached are those after their commit, and each backup so far has those after its own
abbrev pub invariant-loop-n : goal.invariant-loop-n
invariant-loop-n l = record {
  reached : past [] l.store.rows.commits l.reached.commit ≡ Some l.reached.tables;
  so_far : SoFar (λ b. past [] l.store.rows.commits b.commit ≡ Some b.tables) l.backups.backups l.n;
}
