use Rattle.std.proofs.Common.{◌≡◌, drop}
use Rattle.bk_backup.proofs.Images.{numbers_stand}
use Rattle.bk_backup.proofs.tables.rows_stand.Given as goal

-- the rows that are left stand from the least number on, exactly where all do
abbrev pub invariant-loop-row : goal.invariant-loop-row
invariant-loop-row l = numbers_stand l.least l.next (drop l.row-index l.rows) ≡ numbers_stand 0 l.next l.rows
