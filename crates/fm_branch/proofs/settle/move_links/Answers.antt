use Rattle.std.proofs.Common.{ap, ◌∙◌}
use Rattle.dl_base.specs.declared.value.LinkRow.{LinkRow}
use Rattle.fm_branch.proofs.HeldLaws.{have-kept, keeps-same}
use Rattle.fm_branch.proofs.Settled.{moved-held}
use Rattle.fm_branch.specs.Held.{have_places, held_in, with_links}
use Rattle.meaning_areas.specs.Branches.{Branch}
use Rattle.meaning_settling.specs.Keyed.{Keyed, over}
use Rattle.meaning_settling.specs.Settling.{Moved, held_after, paths_of}
use Rattle.fm_branch.proofs.settle.move_links.Goals as goal

pub take_all-requires : goal.take_all-requires
take_all-requires c =
    have-kept c.args.held.now c.give_all.new.held c.entry.inside.takes (keeps-same c.args.held.now c.give_all.new.held c.give_all.ensures.places)
    (ap (λ (b : Branch). have_places c.args.held.now b.moved.takes) c.entry.view_is ∙ c.requires)

pub returns-clause-held : goal.returns-clause-held
returns-clause-held c =
    let m : Moved = record { gives = c.entry.inside.gives; takes = c.entry.inside.takes; fill = c.entry.inside.fill } in
    c.take_all.ensures.held ∙ ap (λ (h : Keyed LinkRow). with_links m.takes h) c.give_all.ensures.held ∙ moved-held m (held_in c.args.held.now)
    ∙ ap (λ (b : Branch). over (paths_of b.moved) (held_after b.moved) (held_in c.args.held.now)) c.entry.view_is
