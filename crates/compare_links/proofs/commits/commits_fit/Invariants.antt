use Rattle.std.proofs.Common.{◌≡◌, [], Some}
use Rattle.std.specs.BTreeMap.{get}
use Rattle.std.specs.BTreeSet.{contains}
use Rattle.std.specs.Cmp.Lexicographic.{slice_cmp}
use Rattle.std.specs.Ordering.{nat_cmp}
use Rattle.meaning_areas.specs.Stands.{past}
use Rattle.compare_links.proofs.Going.{IsWalked}
use Rattle.compare_links.proofs.commits.commits_fit.Given as goal

-- the commits so far fit, and the tables are those after them
abbrev pub invariant-loop-index : goal.invariant-loop-index
invariant-loop-index l = record {
  before : past [] l.store.rows.commits l.index ≡ Some l.before;
  walked : IsWalked l.store.rows l.branches.links.table l.index l.before (contains (slice_cmp nat_cmp) l.known.paths) (get (slice_cmp nat_cmp) l.known.rows);
}
