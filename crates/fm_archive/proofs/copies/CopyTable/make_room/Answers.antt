use Rattle.std.proofs.Common.{ap, ◌∙◌}
use Rattle.fm_archive.specs.Copies.{Shelf}
use Rattle.fm_archive.proofs.Entries.{copies_reordered, filed_reordered}
use Rattle.fm_archive.proofs.copies.CopyTable.make_room.Goals as goal

pub returns-clause-copies : goal.returns-clause-copies
returns-clause-copies c =
    copies_reordered c.self.inside.entries.entries c.reserve.new.self.entries c.reserve.ensures.entries.2
    ∙ ap (λ (s : Shelf). s.copies) c.self.view_is

pub invariant_of-self-2 : goal.invariant_of-self-2
invariant_of-self-2 c = filed_reordered c.self.inside.entries.entries c.reserve.new.self.entries c.reserve.ensures.entries.2 c.self.invariant
