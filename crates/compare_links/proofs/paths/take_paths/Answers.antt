use Rattle.std.proofs.Common.{◌≡◌, true, false, sym, ◌∙◌, rules, arith}
use Rattle.std.specs.BTreeSet.{contains}
use Rattle.std.specs.Cmp.Lexicographic.{slice_cmp}
use Rattle.std.specs.Ordering.{nat_cmp}
use Rattle.compare_links.proofs.PathSets.{free-not, free-turn, take-turn}
use Rattle.compare_links.specs.Moving.{are_free, with_paths}
use Rattle.std.proofs.lemmas.Grind.{common_steps}
use Rattle.compare_links.proofs.paths.take_paths.Goals as goal

pub returns-then-not-branch-clause-free : goal.returns-then-not-branch-clause-free
returns-then-not-branch-clause-free c =
    let off : c.in_ok-take_path.field-0 ≡ false = search rules in
    free-not c.as_slice-link-items.result.now c.args.takes.now c.loop-link.link-index c.link-item.result c.as_slice-link-items.ensures c.loop-link-test.true c.link-item.is
    (contains (slice_cmp nat_cmp) c.loop-link.paths) (contains (slice_cmp nat_cmp) c.take_path.new.paths) (are_free (contains (slice_cmp nat_cmp) c.args.paths.now) c.args.takes.now)
    (sym c.in_ok-take_path.ensures.new ∙ off) c.loop-link.invariant.free

pub loop-link-preserved : goal.loop-link-preserved
loop-link-preserved c =
    let on : c.in_ok-take_path.field-0 ≡ true = search rules in
    record {
      free = free-turn c.as_slice-link-items.result.now c.args.takes.now c.loop-link.link-index c.link-item.result c.as_slice-link-items.ensures c.loop-link-test.true c.link-item.is
          (contains (slice_cmp nat_cmp) c.loop-link.paths) (contains (slice_cmp nat_cmp) c.take_path.new.paths) (are_free (contains (slice_cmp nat_cmp) c.args.paths.now) c.args.takes.now)
          (sym c.in_ok-take_path.ensures.new ∙ on) c.in_ok-take_path.ensures.paths c.loop-link.invariant.free;
      paths = λ q.
          take-turn c.as_slice-link-items.result.now c.args.takes.now c.loop-link.link-index c.link-item.result c.as_slice-link-items.ensures c.loop-link-test.true c.link-item.is
          (contains (slice_cmp nat_cmp) c.loop-link.paths) (contains (slice_cmp nat_cmp) c.take_path.new.paths) q (with_paths c.args.takes.now (contains (slice_cmp nat_cmp) c.args.paths.now) q)
          (c.in_ok-take_path.ensures.paths q) (c.loop-link.invariant.paths q);
    }

pub returns-clause-paths : goal.returns-clause-paths
returns-clause-paths c = grind (arith, common_steps)

pub returns-clause-free : goal.returns-clause-free
returns-clause-free c = grind (arith, common_steps)
