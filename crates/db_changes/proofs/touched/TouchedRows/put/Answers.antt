use Rattle.db_changes.proofs.Numbers.{held-at, lookup-at, lookup-inserted}
use Rattle.db_changes.proofs.touched.TouchedRows.put.Goals as goal

pub invariant_of-self : goal.invariant_of-self
invariant_of-self c =
    held-at c.self.inside.entries.items c.args.self.now c.self.view_is c.self.invariant c.args.name.now c.in-Ok.index c.index_mut.result.now c.index_mut.ensures.value c.in-Ok.ensures c.args.numbers c.requires

pub returns-in-Ok-clause-ok : goal.returns-in-Ok-clause-ok
returns-in-Ok-clause-ok c =
    lookup-at c.self.inside.entries.items c.args.self.now c.self.view_is c.self.invariant c.args.name.now c.in-Ok.index c.index_mut.result.now c.index_mut.ensures.value c.in-Ok.ensures c.args.numbers

pub returns-in-Err-clause-ok : goal.returns-in-Err-clause-ok
returns-in-Err-clause-ok c = lookup-inserted c.insert.result c.args.self.now c.insert.new.self c.args.name.now c.args.numbers c.in-Err.index c.in-Err.ensures.1 c.insert.ensures.ok
