use Rattle.std.proofs.Common.{◌≡◌, ◌-◌, drop, length}
use Rattle.fm_links.specs.Claims.{claims_in, giving}
use Rattle.fm_links.proofs.made.give_all.Given as goal

-- the last ones are claimed
abbrev pub invariant-loop-i : goal.invariant-loop-i
invariant-loop-i l = claims_in l.made.entries ≡ giving l.tx (drop (length l.gives - l.i) l.gives) (claims_in l.initial.made.entries)
