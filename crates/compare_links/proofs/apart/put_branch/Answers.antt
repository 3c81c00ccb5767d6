use Rattle.std.proofs.Common.{◌≡◌, Option, Some, cond, true, sym, ap, ◌∙◌, rules}
use Rattle.std.specs.BTreeMap.{get}
use Rattle.std.specs.Cmp.Lexicographic.{slice_cmp}
use Rattle.std.specs.FinMap as maps
use Rattle.std.specs.Ordering.{nat_cmp}
use Rattle.fm_branch.specs.Shown.{shown}
use Rattle.meaning_areas.specs.Stands.{is_open}
use Rattle.meaning_settling.specs.Settling.{Moved}
use Rattle.compare_links.proofs.Owning.{both-put, open-is}
use Rattle.compare_links.specs.Fitting.{has_in_doubt}
use Rattle.compare_links.proofs.apart.put_branch.Goals as goal

pub returns-in_ok-put_paths-in_Some-branch-2-clause-owners : goal.returns-in_ok-put_paths-in_Some-branch-2-clause-owners
returns-in_ok-put_paths-in_Some-branch-2-clause-owners c clear q =
    let b = shown c.in_Some-branch.branch in
    let doubt : is_open b.phase ≡ true = search rules in
    both-put b.moved c.args.tx (get (slice_cmp nat_cmp) c.args.owners.now q) (get (slice_cmp nat_cmp) c.put_paths.new.owners q) (get (slice_cmp nat_cmp) c.put_paths-in_Some-branch.new.owners q) q
    (c.in_ok-put_paths-in_Some-branch.ensures q) (c.in_ok-put_paths-in_Some-branch-2.ensures q)
    ∙ ap (λ (o : Option Moved). cond (has_in_doubt o q) (Some c.args.tx) (get (slice_cmp nat_cmp) c.args.owners.now q)) (sym (open-is (maps.get c.args.branches.now.links.table c.args.tx) b (sym c.in_Some-branch.ensures) doubt))
