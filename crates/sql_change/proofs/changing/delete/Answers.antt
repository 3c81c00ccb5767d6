use Rattle.std.proofs.Common.{◌≡◌, ℕ, List, rules, subst, sym, arith}
use Rattle.meaning_tables.specs.Tables.{Tables, with_table}
use Rattle.sql_rows.specs.Beside.{AgreeBeside}
use Rattle.sql_rows.specs.Remaining.{remainder_of}
use Rattle.sql_change.proofs.Touched.{put_beside}
use Rattle.sql_change.proofs.Whole.{delete_is}
use Rattle.sql_change.proofs.changing.delete.Goals as goal

pub returns-clause-beside : goal.returns-clause-beside
returns-clause-beside c =
    let tables = c.args.tables.now in
    let name = c.args.name.now in
    let t = c.in_ok-found.field-0.now in
    let d = c.in_ok-made.made in
    let after = c.left_in_place.new.tables in
    let there = c.in_ok-found.ensures.there in
    let told : c.in_ok-left_in_place.field-0.touched ≡ d.removed = search rules in
    let put : after ≡ with_table tables name (remainder_of t d.left) = search rules in
    subst (λ (ns : List ℕ). AgreeBeside ns tables after) (sym told)
    (subst (λ (ts : Tables). AgreeBeside d.removed tables ts) (sym put) (put_beside d.removed name (remainder_of t d.left) t tables there c.in_ok-made.ensures.beside))

pub returns-in_err-made-clause-refused : goal.returns-in_err-made-clause-refused
returns-in_err-made-clause-refused c = grind (arith, delete_is)

pub returns-in_err-found-clause-refused : goal.returns-in_err-found-clause-refused
returns-in_err-found-clause-refused c = grind (arith, delete_is)
