use Rattle.std.proofs.Common.{◌≡◌, None, nat_eq, rules}
use Rattle.std.specs.Map.{lookup}
use Rattle.db_store.proofs.Known.{more_branches}
use Rattle.db_store.proofs.log.Log.push.Goals as goal

pub invariant_of-self : goal.invariant_of-self
invariant_of-self c =
    let new : lookup (λ k. nat_eq c.args.tx k) c.self.inside.entries.items ≡ None = search rules in
    more_branches c.self.inside.branches c.know.new.branches c.self.inside.entries.items c.push_reserved.new.self.items c.args.tx c.args.entry c.self.invariant new c.know.ensures.branches c.push_reserved.ensures.items
