use Rattle.std.proofs.Common.{◌≡◌, take, true}
use Rattle.fm_branch.specs.Held.{KeepsPlaces, have_places, held_in}
use Rattle.fm_branch.proofs.settle.make_places.Given as goal

abbrev pub invariant-loop-link : goal.invariant-loop-link
invariant-loop-link l = record {
  made : have_places l.held (take l.link-index l.entry.moved.takes) ≡ true;
  held : held_in l.held ≡ held_in l.initial.held;
  places : KeepsPlaces l.initial.held l.held;
}
