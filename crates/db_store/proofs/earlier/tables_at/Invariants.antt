use Rattle.std.proofs.Common.{◌≡◌, ◌+◌, ◌≤◌, ◌-◌, [], drop}
use Rattle.meaning_areas.specs.Stands.{past}
use Rattle.db_store.specs.Log.{commits_from}
use Rattle.db_store.proofs.earlier.tables_at.Given as goal

-- the commits that are left lead from the tables so far where all lead
abbrev pub invariant-loop-i : goal.invariant-loop-i
invariant-loop-i l = record {
  same : past l.tables (commits_from (l.i + 1) l.tables (drop l.i l.log.entries)) (l.count - l.i) ≡ past [] (commits_from 1 [] l.log.entries) l.count;
  within : l.i ≤ l.count;
}
