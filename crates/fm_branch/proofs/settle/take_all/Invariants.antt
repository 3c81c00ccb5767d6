use Rattle.std.proofs.Common.{◌≡◌, ◌-◌, drop, length}
use Rattle.fm_branch.specs.Held.{HasPlacesOf, held_in, with_links}
use Rattle.fm_branch.proofs.settle.take_all.Given as goal

-- the last ones are taken
abbrev pub invariant-loop-i : goal.invariant-loop-i
invariant-loop-i l = record {
  held : held_in l.held ≡ with_links (drop (length l.takes - l.i) l.takes) (held_in l.initial.held);
  places : HasPlacesOf l.held l.initial.held;
}
