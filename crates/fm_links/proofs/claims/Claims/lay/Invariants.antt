use Rattle.std.proofs.Common.{◌≡◌, ◌≤◌, length}
use Rattle.fm_links.specs.Claims.{laid}
use Rattle.fm_links.proofs.claims.Claims.lay.Given as goal

-- with those that are left it is with all, and there is room for them
abbrev pub invariant-loop-path : goal.invariant-loop-path
invariant-loop-path l = record {
  claims : laid l.path-iterator l.self.claims ≡ laid l.fn.made.entries l.initial.self.claims;
  room : length l.path-iterator ≤ l.self.spare;
}
