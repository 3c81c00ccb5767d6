use Rattle.std.proofs.Common.{◌≡◌, true, sym, ap, ◌∙◌, rules, arith}
use Rattle.std.specs.Cmp.Lexicographic.{slice_cmp}
use Rattle.std.specs.FinMap as maps
use Rattle.std.specs.Ordering.{nat_cmp}
use Rattle.dl_base.specs.declared.value.LinkRow.{LinkRow}
use Rattle.fm_branch.specs.Held.{with_links}
use Rattle.fm_branch.specs.Shown.{shown}
use Rattle.meaning_areas.specs.Stands.{is_open}
use Rattle.meaning_settling.specs.Keyed.{Keyed}
use Rattle.compare_links.proofs.Holding.{settled-open}
use Rattle.std.proofs.lemmas.Grind.{common_steps}
use Rattle.compare_links.proofs.held.settle.Goals as goal

pub returns-in_ok-take_all-in_Some-branch : goal.returns-in_ok-take_all-in_Some-branch
returns-in_ok-take_all-in_Some-branch c =
    let b = shown c.in_Some-branch.branch in
    let doubt : is_open b.phase ≡ true = search rules in
    c.in_ok-take_all-in_Some-branch.ensures ∙ ap (λ (h : Keyed LinkRow). with_links b.moved.takes h) c.give_all.ensures
    ∙ settled-open (maps.get c.args.branches.now.links.table c.args.tx) b (maps.from_entries {R = slice_cmp nat_cmp} c.args.held.now.entries) (sym c.in_Some-branch.ensures) doubt

pub returns-else-is_in_doubt : goal.returns-else-is_in_doubt
returns-else-is_in_doubt c = grind (arith, common_steps)
