use Rattle.std.proofs.Common.{◌≡◌, drop, is_none}
use Rattle.std.specs.List.{list_all}
use Rattle.meaning_tables.specs.First.{first_number, has_key}
use Rattle.meaning_tables.specs.Fits.{key_of}
use Rattle.db_replay.specs.Standing.{key_is_new}
use Rattle.db_replay.proofs.cells.key_is_new.Given as goal

abbrev pub invariant-loop-i : goal.invariant-loop-i
invariant-loop-i l =
    list_all (λ v. is_none (first_number (has_key l.table.columns v) l.table.rows)) (key_of (drop l.i l.table.columns) (drop l.i l.row.values)) ≡ key_is_new l.table.columns l.table.rows l.row.values
