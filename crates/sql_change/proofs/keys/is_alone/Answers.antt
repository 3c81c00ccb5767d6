use Rattle.std.proofs.Common.{◌≡◌, Some, sym, ◌∙◌, rules}
use Rattle.std.specs.Prelude.{slice_get}
use Rattle.meaning_tables.specs.Tables.{row_of}
use Rattle.sql_change.proofs.OneSet.{alone_holds}
use Rattle.sql_change.proofs.keys.is_alone.Goals as goal

pub returns-in-Some-at : goal.returns-in-Some-at
returns-in-Some-at c =
    let row = c.in-Some.row.now in
    let key = c.in-Some-at.key.now in
    let there : row_of c.args.after.now.rows c.args.number ≡ Some row = search rules in
    let is : slice_get row.values c.args.place ≡ Some key = search rules in
    λ most. alone_holds c.args.before.now c.args.after.now c.args.place c.args.number row key c.rows_with_key.result
    c.requires.fits c.requires.others c.requires.one c.requires.rise c.requires.at there is c.rows_with_key.ensures.passed (sym c.is_at_most.ensures ∙ most)
