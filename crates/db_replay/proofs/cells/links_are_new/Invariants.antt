use Rattle.std.proofs.Common.{◌≡◌, drop}
use Rattle.db_replay.specs.Standing.{links_are_new}
use Rattle.db_replay.proofs.cells.links_are_new.Given as goal

abbrev pub invariant-loop-i : goal.invariant-loop-i
invariant-loop-i l = links_are_new l.tables (drop l.i l.links) ≡ links_are_new l.tables l.links
