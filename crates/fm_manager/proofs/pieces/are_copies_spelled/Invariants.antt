use Rattle.std.proofs.Common.{drop}
use Rattle.fm_manager.specs.Managed.{AreSpelled}
use Rattle.fm_manager.specs.Pieces.{copies_written}
use Rattle.fm_manager.proofs.pieces.are_copies_spelled.Given as goal

-- all have spellings, where those have that are left
abbrev pub invariant-loop-copy : goal.invariant-loop-copy
invariant-loop-copy l = AreSpelled (copies_written (drop l.copy-index l.copies)) → AreSpelled (copies_written l.copies)
