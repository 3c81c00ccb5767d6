use Rattle.std.proofs.Common.{◌≡◌, drop}
use Rattle.meaning_areas.specs.Commits.{with_table_changes}
use Rattle.db_replay.proofs.replaying.change_all.Given as goal

-- what is left leads from the tables so far where all leads from the first
abbrev pub invariant-loop-change : goal.invariant-loop-change
invariant-loop-change l = with_table_changes l.version l.tables (drop l.change-index l.changes) ≡ with_table_changes l.version l.fn.tables l.changes
