use Rattle.std.proofs.Common.{◌≡◌, ◌++◌, ◌∷◌, [], sym, subst, rules, arith}
use Rattle.meaning_tables.specs.Tables.{Tables, new_table}
use Rattle.sql_rows.specs.Beside.{AgreeBeside}
use Rattle.sql_change.proofs.Touched.{added_beside}
use Rattle.std.proofs.lemmas.Grind.{common_steps}
use Rattle.meaning_statements.specs.Changing.{create}
use Rattle.sql_change.proofs.changing.create.Goals as goal

pub returns-clause-beside : goal.returns-clause-beside
returns-clause-beside c =
    let tables = c.args.tables.now in
    let made = new_table c.in_ok-made.made in
    let added : c.add.new.self ≡ tables ++ (c.args.name.now, made) ∷ [] = search rules in
    subst (λ (after : Tables). AgreeBeside [] tables after) (sym added) (added_beside tables c.args.name.now made)

pub returns-clause-ok : goal.returns-clause-ok
unfolding create
returns-clause-ok c = grind (arith, common_steps)

pub returns-then-len-ge-MOST_TABLES-clause-refused : goal.returns-then-len-ge-MOST_TABLES-clause-refused
unfolding create
returns-then-len-ge-MOST_TABLES-clause-refused c = grind (arith, common_steps)

pub returns-then-len-gt-MOST_COLUMNS-clause-refused : goal.returns-then-len-gt-MOST_COLUMNS-clause-refused
unfolding create
returns-then-len-gt-MOST_COLUMNS-clause-refused c = grind (arith, common_steps)
