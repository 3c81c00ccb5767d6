use Rattle.std.proofs.Common.{◌≡◌, ℕ, Some, drop}
use Rattle.meaning_areas.specs.Commits.{with_table_changes}
use Rattle.meaning_tables.specs.Tables.{Tables}
use Rattle.db_changes.proofs.NamedRows.{Reached}
use Rattle.db_changes.proofs.named.named_rows.Given as goal

-- wherever all changes lead, those so far reach tables with the rows of those before, beside the numbers so far
abbrev pub invariant-loop-change : goal.invariant-loop-change
invariant-loop-change l = (version : ℕ) (after : Tables) → with_table_changes version l.before l.changes ≡ Some after → Reached version l.touched l.before (drop l.change-index l.changes) after
