use Rattle.std.proofs.Common.{◌≡◌, ◌-◌, drop, length}
use Rattle.fm_links.specs.Claims.{claims_in, taking}
use Rattle.fm_links.proofs.made.take_all.Given as goal

-- the last ones are claimed
abbrev pub invariant-loop-i : goal.invariant-loop-i
invariant-loop-i l = claims_in l.made.entries ≡ taking l.tx (drop (length l.takes - l.i) l.takes) (claims_in l.initial.made.entries)
