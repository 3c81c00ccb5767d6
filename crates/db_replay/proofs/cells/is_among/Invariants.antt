use Rattle.std.proofs.Common.{◌≡◌, drop}
use Rattle.std.specs.List.{list_any}
use Rattle.meaning_tables.specs.Links.{same_number}
use Rattle.db_replay.proofs.cells.is_among.Given as goal

abbrev pub invariant-loop-other : goal.invariant-loop-other
invariant-loop-other l = list_any (same_number l.link) (drop l.other-index l.others) ≡ list_any (same_number l.link) l.others
