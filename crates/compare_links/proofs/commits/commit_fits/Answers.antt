use Rattle.std.proofs.Common.{◌≡◌, ◌/◌, ◌^◌, ◌&&◌, true, nat_le, sym, ◌∙◌, rules, arith}
use Rattle.std.specs.BTreeMap.{get}
use Rattle.std.specs.BTreeSet.{contains}
use Rattle.std.specs.Cmp.Lexicographic.{slice_cmp}
use Rattle.std.specs.FinMap as maps
use Rattle.std.specs.Ordering.{nat_cmp}
use Rattle.db_store.specs.Log.{commit_between}
use Rattle.fm_branch.proofs.Results.{if_ok}
use Rattle.meaning_areas.specs.Commits.{has_number}
use Rattle.meaning_areas.specs.Stands.{IsBranch}
use Rattle.meaning_settling.specs.Settling.{numbered}
use Rattle.meaning_tables.specs.Links.{gives, links, takes}
use Rattle.compare_links.proofs.Going.{branch-same, step-decides}
use Rattle.compare_every.specs.Every.{first_row}
use Rattle.compare_links.specs.Fitting.{are_drawn, is_done_at}
use Rattle.compare_links.specs.Moving.{all_agree, are_free, with_paths, without_paths}
use Rattle.std.proofs.lemmas.Grind.{common_steps}
use Rattle.compare_links.proofs.commits.commit_fits.Goals as goal

pub returns-clause-fits : goal.returns-clause-fits
returns-clause-fits c =
    let r = c.args.store.now.rows in
    let p = c.args.passed.now in
    let table = c.args.branches.now.links.table in
    let paths = contains (slice_cmp nat_cmp) c.args.known.now.paths in
    let known = get (slice_cmp nat_cmp) c.args.known.now.rows in
    let gave : c.in_ok-gives.gives ≡ gives c.args.before.now p.tables = c.in_ok-gives.ensures.0 in
    let took : c.in_ok-gives.takes ≡ takes c.args.before.now p.tables = c.in_ok-gives.ensures.1 in
    let on_drawn : c.is_drawn.result ≡ true = search rules in
    let drawn : nat_le (p.tx / 2 ^ 32) r.opening ≡ true = sym c.is_drawn.ensures ∙ on_drawn in
    let on_done : c.is_done_at.result ≡ true = search rules in
    let done : is_done_at (has_number p.tx r.ended) (maps.get table p.tx) ≡ true = (λ i. is_done_at (sym c.is_ended.ensures i) (sym c.branch-branch.ensures i)) ∙ sym c.is_done_at.ensures ∙ on_done in
    let on_has : c.is_branch.result ≡ true = search rules in
    let has : IsBranch p.branch (gives c.args.before.now p.tables) (takes c.args.before.now p.tables) (maps.get table p.tx) =
    branch-same p.branch c.in_ok-gives.gives (gives c.args.before.now p.tables) c.in_ok-gives.takes (takes c.args.before.now p.tables) _ (maps.get table p.tx) gave took c.branch-branch.ensures (c.is_branch.ensures.0 on_has) in
    if_ok c.links_fit-fits.result c.links_fit-fits.ensures.fit (λ b e. step-decides r table paths known (commit_between c.args.before.now p.tx p.branch p.tables) b has done drawn
    (e ∙ (λ i. are_drawn (c.opening.ensures i) (took i) && all_agree known (links p.tables) && are_free (without_paths (gave i) paths) (took i))))

pub returns-clause-paths : goal.returns-clause-paths
returns-clause-paths c =
    let paths = contains (slice_cmp nat_cmp) c.args.known.now.paths in
    if_ok c.links_fit-fits.result c.links_fit-fits.ensures.paths (λ b e on q. e on q ∙ (λ i. with_paths (c.in_ok-gives.ensures.1 i) (without_paths (c.in_ok-gives.ensures.0 i) paths) q))

pub returns-clause-rows : goal.returns-clause-rows
returns-clause-rows c =
    let known = get (slice_cmp nat_cmp) c.args.known.now.rows in
    if_ok c.links_fit-fits.result c.links_fit-fits.ensures.rows (λ b e on n. e on n ∙ (λ i. first_row (known n) (numbered (c.in_ok-gives.ensures.1 i) n)))

pub returns-then-not-is_done_at-clause-fits : goal.returns-then-not-is_done_at-clause-fits
returns-then-not-is_done_at-clause-fits c = grind (arith, common_steps)

pub returns-then-not-is_drawn-clause-fits : goal.returns-then-not-is_drawn-clause-fits
returns-then-not-is_drawn-clause-fits c = grind (arith, common_steps)

pub returns-then-not-is_branch-clause-fits : goal.returns-then-not-is_branch-clause-fits
returns-then-not-is_branch-clause-fits c = grind (arith, common_steps)

pub returns-then-not-is_branch-clause-paths : goal.returns-then-not-is_branch-clause-paths
returns-then-not-is_branch-clause-paths c = grind (arith, common_steps)

pub returns-then-not-is_branch-clause-rows : goal.returns-then-not-is_branch-clause-rows
returns-then-not-is_branch-clause-rows c = grind (arith, common_steps)
