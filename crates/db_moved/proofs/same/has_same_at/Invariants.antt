use Rattle.std.proofs.Common.{◌≡◌, drop}
use Rattle.db_changes.specs.Made.{changes_at}
use Rattle.meaning_system.specs.State.{is_empty}
use Rattle.db_moved.proofs.same.has_same_at.Given as goal

abbrev pub invariant-loop-i : goal.invariant-loop-i
invariant-loop-i l = is_empty (changes_at l.was.rows l.now.rows (drop l.i l.numbers)) ≡ is_empty (changes_at l.was.rows l.now.rows l.numbers)
