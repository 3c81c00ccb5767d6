use Rattle.std.proofs.Common.{◌≡◌, drop}
use Rattle.fm_branch.specs.Held.{HasPlacesOf, held_in, without_links}
use Rattle.fm_branch.proofs.settle.give_all.Given as goal

abbrev pub invariant-loop-link : goal.invariant-loop-link
invariant-loop-link l = record {
  held : without_links (drop l.link-index l.gives) (held_in l.held) ≡ without_links l.gives (held_in l.initial.held);
  places : HasPlacesOf l.held l.initial.held;
}
