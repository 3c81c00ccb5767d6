use Rattle.std.proofs.Common.{ℕ, List, is_some, ap, sym, ◌∙◌}
use Rattle.std.specs.FinMap as maps
use Rattle.std.specs.Ordering.{nat_cmp}
use Rattle.fm_branch.proofs.TableLaws.{none-named}
use Rattle.fm_branch.specs.Table.{are_once}
use Rattle.meaning_areas.specs.Branches.{Branch}
use Rattle.meaning_areas.specs.Commits.{has_number}
use Rattle.fm_branch.proofs.table.BranchTable.empty.Goals as goal

pub invariant_of-result : goal.invariant_of-result
invariant_of-result c = (
  λ q.
      ap (λ (l : List ℕ). has_number q l) c.new-2.ensures.items ∙ none-named q
      ∙ ap (λ (es : List (ℕ × Branch)). is_some (maps.get (maps.from_entries {R = nat_cmp} es) q)) (sym c.new.ensures.empty),
  ap (λ (l : List ℕ). are_once l) c.new-2.ensures.items,
)
