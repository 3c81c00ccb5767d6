-- A branch as it is handed out.
use Rattle.fm_branch.specs.declared.entry.Branch.{Branch as Lent}
use Rattle.meaning_areas.specs.Branches.{Branch}

abbrev pub shown : Lent → Branch
shown b = record { moved = record { gives = b.gives.now; takes = b.takes.now; fill = b.fill }; phase = b.phase }
