use Rattle.std.proofs.Common.{◌≡◌, drop}
use Rattle.compare_links.specs.Fitting.{are_drawn}
use Rattle.compare_links.proofs.rows.are_drawn.Given as goal

-- all links are drawn if those that are left are
abbrev pub invariant-loop-link : goal.invariant-loop-link
invariant-loop-link l = are_drawn l.opening (drop l.link-index l.links) ≡ are_drawn l.opening l.links
