use Rattle.std.proofs.Common.{◌≡◌, ◌≤◌, drop}
use Rattle.fm_links.specs.Claims.{unclaimed}
use Rattle.fm_links.proofs.claims.Claims.drop_all.Given as goal

-- without those that are left it is without all
abbrev pub invariant-loop-link : goal.invariant-loop-link
invariant-loop-link l = record {
  claims : unclaimed (drop l.link-index l.links) l.self.claims ≡ unclaimed l.links l.initial.self.claims;
  spare : l.initial.self.spare ≤ l.self.spare;
}
