use Rattle.db_changes.proofs.Numbers.{no-numbers}
use Rattle.std.proofs.Common.{subst, sym, List, ℕ}
use Rattle.std.specs.List.Sorted.{IsStrictlySortedBy}
use Rattle.std.specs.Ordering.{nat_cmp}
use Rattle.bk_restore.proofs.Differing.{agrees}
use Rattle.bk_restore.proofs.rows.differing.Goals as goal

pub add_others-requires : goal.add_others-requires
add_others-requires c = subst (λ (ns : List ℕ). IsStrictlySortedBy nat_cmp ns) (sym c.empty-numbers.ensures) no-numbers

pub returns-clause-agree : goal.returns-clause-agree
returns-clause-agree c =
    agrees c.args.was.now.rows c.args.now.now.rows c.empty-numbers.result c.add_others.new.numbers c.add_others-2.new.numbers c.empty-numbers.ensures c.in_ok-add_others.ensures.added c.in_ok-add_others-2.ensures.added
