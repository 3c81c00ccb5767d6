use Rattle.std.proofs.Common.{◌≡◌, ℕ, List, rules, subst, sym, arith}
use Rattle.sql_rows.specs.Beside.{AgreeBeside}
use Rattle.sql_change.proofs.Whole.{update_is}
use Rattle.sql_change.proofs.changing.update.Goals as goal

pub returns-clause-beside : goal.returns-clause-beside
returns-clause-beside c =
    let told : c.put_in_place.result.touched ≡ c.in_ok-made.made.touched = search rules in
    subst (λ (ns : List ℕ). AgreeBeside ns c.args.tables.now c.put_in_place.new.tables) (sym told)
    (c.put_in_place.ensures.beside c.in_ok-found.field-0.now c.in_ok-found.ensures.there c.in_ok-made.ensures.beside)

pub returns-clause-told : goal.returns-clause-told
returns-clause-told c = grind (arith, update_is)

pub returns-clause-ok : goal.returns-clause-ok
returns-clause-ok c = grind (arith, update_is)

pub returns-clause-few : goal.returns-clause-few
returns-clause-few c = grind (arith, update_is)

pub returns-in_err-made-clause-refused : goal.returns-in_err-made-clause-refused
returns-in_err-made-clause-refused c = grind (arith, update_is)

pub returns-in_err-found-clause-refused : goal.returns-in_err-found-clause-refused
returns-in_err-found-clause-refused c = grind (arith, update_is)

pub updated-requires-clause-fits : goal.updated-requires-clause-fits
updated-requires-clause-fits c = grind (arith, update_is)
