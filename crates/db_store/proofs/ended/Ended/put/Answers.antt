use Rattle.db_store.proofs.Known.{more_numbers}
use Rattle.db_store.proofs.ended.Ended.put.Goals as goal

pub invariant_of-self : goal.invariant_of-self
invariant_of-self c =
    more_numbers c.self.inside.known c.know.new.known c.self.inside.numbers.items c.push_reserved.new.self.items c.args.tx c.self.invariant c.know.ensures.known c.push_reserved.ensures.items
