use Rattle.std.proofs.Common.{◌<◌, ◌∙◌, arith, rules}
use Rattle.db_store.proofs.LogLaws.{past-turn, past_done}
use Rattle.db_store.proofs.earlier.tables_at.Goals as goal

pub loop-i-preserved : goal.loop-i-preserved
loop-i-preserved c =
    let lt : c.loop-i.i < c.args.count = search rules in
    record {
      same = past-turn c.loop-i.tables c.in-Ok.later c.args.log.now.entries c.loop-i.i c.args.count lt c.requires c.in-Ok.ensures ∙ c.loop-i.invariant.same;
      within = omega (arith, lt);
    }

pub returns : goal.returns
returns c = grind (arith, past_done)
