use Rattle.std.proofs.Common.{◌≡◌, drop}
use Rattle.compare_links.specs.Moving.{are_unlinked}
use Rattle.compare_links.proofs.agree.are_unlinked.Given as goal

-- all columns are unlinked if those that are left are
abbrev pub invariant-loop-column : goal.invariant-loop-column
invariant-loop-column l = are_unlinked (drop l.column-index l.columns) ≡ are_unlinked l.columns
