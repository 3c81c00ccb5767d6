use Rattle.std.proofs.Common.{subst}
use Rattle.std.specs.List.Sorted.{IsStrictlySortedBy}
use Rattle.std.specs.Ordering.{nat_cmp}
use Rattle.db_changes.specs.Touched.{Touched, numbers_of}
use Rattle.db_changes.proofs.Numbers.{lookup-here, lookup-none_at, numbers-rise}
use Rattle.db_changes.proofs.touched.TouchedRows.of.Goals as goal

pub returns-in-Ok-clause-value : goal.returns-in-Ok-clause-value
returns-in-Ok-clause-value c = lookup-here c.self.inside.entries.items c.args.self.now c.self.view_is c.self.invariant c.args.name.now c.in-Ok.index c.index.result.now c.index.ensures c.in-Ok.ensures

pub returns-in-Err-clause-value : goal.returns-in-Err-clause-value
returns-in-Err-clause-value c = lookup-none_at c.args.self.now c.args.name.now c.in-Err.field-0 c.in-Err.ensures.1

pub returns-in-Ok-clause-rise : goal.returns-in-Ok-clause-rise
returns-in-Ok-clause-rise c = subst (λ (ts : Touched). IsStrictlySortedBy nat_cmp (numbers_of ts c.args.name.now)) c.self.view_is (numbers-rise c.self.inside.entries.items c.args.name.now c.self.invariant.0)

pub returns-in-Err-clause-rise : goal.returns-in-Err-clause-rise
returns-in-Err-clause-rise c = subst (λ (ts : Touched). IsStrictlySortedBy nat_cmp (numbers_of ts c.args.name.now)) c.self.view_is (numbers-rise c.self.inside.entries.items c.args.name.now c.self.invariant.0)
