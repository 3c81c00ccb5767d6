use Rattle.std.proofs.Common.{◌+◌, sym, ap, ◌∙◌, arith}
use Rattle.dl_base.specs.declared.fault.Full.TheVariants as fulls
use Rattle.db_store.proofs.Numbers.{opening_ends}
use Rattle.db_store.specs.Store.{Database, extent, opening_write}
use Rattle.meaning_areas.specs.Full.{opening_full}
use Rattle.std.proofs.lemmas.Grind.{common_steps}
use Rattle.db_store.proofs.store.Store.announce.Goals as goal

pub returns-then-self-ge-MOST_NUMBERS-clause-does : goal.returns-then-self-ge-MOST_NUMBERS-clause-does
returns-then-self-ge-MOST_NUMBERS-clause-does g c =
    c.an_append_writes_one_record.ensures.exhausted (extent c.args.self.now) (opening_write c.args.self.now.rows) (fulls.Openings c.self.inside.opening) c.args.bench.now
    (ap (λ (d : Database). opening_full (d.rows.opening + 1)) (sym c.self.view_is) ∙ opening_ends c.self.inside.opening (omega (arith, c.if-self-ge-MOST_NUMBERS.true)))

pub returns-in-Err-clause-does : goal.returns-in-Err-clause-does
returns-in-Err-clause-does g c = grind (arith, common_steps)

pub write-requires : goal.write-requires
write-requires g c = grind (arith, common_steps)

pub returns-in-Err-clause-err : goal.returns-in-Err-clause-err
returns-in-Err-clause-err g c = grind (arith, common_steps)

pub returns-in-Ok-clause-does : goal.returns-in-Ok-clause-does
returns-in-Ok-clause-does g c = grind (arith, common_steps)

pub returns-in-Ok-clause-ok : goal.returns-in-Ok-clause-ok
returns-in-Ok-clause-ok g c = grind (arith, common_steps)
