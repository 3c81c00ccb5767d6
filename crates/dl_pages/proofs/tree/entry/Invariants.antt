use Rattle.std.proofs.Common.{true, ◌<◌, ◌-◌, drop}
use Rattle.dl_pages.specs.Listing.{flatten, FirstTests}
use Rattle.dl_pages.proofs.tree.entry.Given as goal

abbrev pub invariant-loop-next : goal.invariant-loop-next
invariant-loop-next g l = 1 < l.next → FirstTests (g.F.Predicate.test l.predicate) true (flatten (drop (l.next - 1) l.parts))
