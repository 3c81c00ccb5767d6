use Rattle.std.proofs.Common.{◌≡◌, ◌≤◌, ℕ, List, length, Some, true, false, sym, ap, subst, rules}
use Rattle.std.specs.BTreeMap.{get, is_at as at_query}
use Rattle.std.specs.BTreeSet.{contains}
use Rattle.std.specs.Cmp.Lexicographic.{nat_list_cmp_total, slice_cmp}
use Rattle.std.specs.FinMap as maps
use Rattle.std.specs.List.{list_any}
use Rattle.std.specs.Map.{lookup}
use Rattle.std.specs.Ordering.{nat_cmp}
use Rattle.db_store.specs.Log.{commit_between}
use Rattle.dl_base.specs.declared.value.LinkRow.{LinkRow}
use Rattle.fm_branch.proofs.Maps.{get-of}
use Rattle.meaning_settling.specs.Keyed.{Keyed}
use Rattle.meaning_tables.specs.Tables.{Tables}
use Rattle.compare_links.proofs.Going.{walked-all, walked-more, walked-none, walked-not}
use Rattle.compare_links.proofs.Walks.{commit-at}
use Rattle.compare_links.specs.Fitting.{CommitsFit}
use Rattle.compare_links.proofs.commits.commits_fit.Goals as goal

pub loop-index-init : goal.loop-index-init
loop-index-init c = record {
  before = ap (λ (ts : Tables). Some ts) (sym c.empty-before.ensures);
  walked = walked-none c.args.store.now.rows c.args.branches.now.links.table c.empty-before.result (contains (slice_cmp nat_cmp) c.new.result) (get (slice_cmp nat_cmp) c.new-2.result) c.empty-before.ensures
      (λ q. ap (λ (ks : List (List ℕ)). list_any (at_query (slice_cmp nat_cmp q)) ks) c.new.ensures.empty)
      (λ n. ap (λ (es : List (List ℕ × LinkRow)). lookup (at_query (slice_cmp nat_cmp n)) es) c.new-2.ensures.empty);
}

pub commit_fits-requires-clause-has : goal.commit_fits-requires-clause-has
commit_fits-requires-clause-has c = c.loop-index.invariant.walked.has

pub returns-then-not-branch : goal.returns-then-not-branch
returns-then-not-branch c =
    let p = c.in_ok-passed.passed in
    let i = c.loop-index.index in
    let off : c.in_ok-commit_fits.field-0 ≡ false = search rules in
    walked-not c.args.store.now.rows c.args.branches.now.links.table i c.loop-index.before p.tables p.tx p.branch (contains (slice_cmp nat_cmp) c.loop-index.known.paths) (get (slice_cmp nat_cmp) c.loop-index.known.rows)
    c.in_ok-passed.ensures.commit (c.requires.fit (commit_between c.loop-index.before p.tx p.branch p.tables) (commit-at (commit_between c.loop-index.before p.tx p.branch p.tables) c.args.store.now.rows.commits i c.in_ok-passed.ensures.commit))
    c.loop-index.invariant.walked c.in_ok-commit_fits.field-0 c.in_ok-commit_fits.ensures.fits off

pub loop-index-preserved : goal.loop-index-preserved
loop-index-preserved c =
    let p = c.in_ok-passed.passed in
    let i = c.loop-index.index in
    let on : c.in_ok-commit_fits.field-0 ≡ true = search rules in
    record {
      before = c.in_ok-passed.ensures.past;
      walked = walked-more c.args.store.now.rows c.args.branches.now.links.table i c.loop-index.before p.tables p.tx p.branch (contains (slice_cmp nat_cmp) c.loop-index.known.paths) (get (slice_cmp nat_cmp) c.loop-index.known.rows)
          c.in_ok-passed.ensures.commit (c.requires.fit (commit_between c.loop-index.before p.tx p.branch p.tables) (commit-at (commit_between c.loop-index.before p.tx p.branch p.tables) c.args.store.now.rows.commits i c.in_ok-passed.ensures.commit))
          c.loop-index.invariant.walked (c.in_ok-commit_fits.ensures.fits.0 on) (contains (slice_cmp nat_cmp) c.commit_fits.new.known.paths) (get (slice_cmp nat_cmp) c.commit_fits.new.known.rows)
          (c.in_ok-commit_fits.ensures.paths on) (c.in_ok-commit_fits.ensures.rows on);
    }

pub returns : goal.returns
returns c =
    let past : length c.args.store.now.rows.commits ≤ c.loop-index.index = subst (λ (n : ℕ). n ≤ c.loop-index.index) c.commits-index-end.ensures c.loop-index-test.false in
    subst (λ (m : Keyed LinkRow). CommitsFit c.args.store.now.rows c.args.branches.now.links.table (Some m)) (sym c.in_ok-listed.ensures)
    (walked-all c.args.store.now.rows c.args.branches.now.links.table c.loop-index.index c.loop-index.before (contains (slice_cmp nat_cmp) c.loop-index.known.paths) (get (slice_cmp nat_cmp) c.loop-index.known.rows)
    (maps.from_entries c.loop-index.known.rows.entries) past (λ k. get-of nat_list_cmp_total c.loop-index.known.rows.entries k) c.loop-index.invariant.walked)
