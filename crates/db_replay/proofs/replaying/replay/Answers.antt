use Rattle.std.proofs.Common.{Bool, cond, Option, Some, None, sym, ap, ◌∙◌}
use Rattle.meaning_tables.specs.Tables.{Tables}
use Rattle.db_replay.specs.Replaying.{fitted}
use Rattle.db_replay.proofs.Changing.{columns_kept, fits_where_rows_stand}
use Rattle.db_replay.proofs.replaying.replay.Goals as goal

pub put_rows_stand-requires : goal.put_rows_stand-requires
put_rows_stand-requires c = columns_kept c.args.version c.args.tables.now c.in-Some.later c.args.changes.now c.requires.columns (sym c.in_ok-later.ensures ∙ c.in-Some.is)

pub returns-in-Ok-true-clause-exact : goal.returns-in-Ok-true-clause-exact
returns-in-Ok-true-clause-exact c =
    let later = c.in-Some.later in
    let is = sym c.in_ok-later.ensures ∙ c.in-Some.is in
    let fit = fits_where_rows_stand c.args.version c.args.tables.now later c.args.changes.now c.in-Ok-true.field-0 is c.requires.fit c.in-Ok-true.ensures ∙ c.in-Ok-true.field-0-test in
    sym (ap (λ (o : Option Tables). fitted o) is ∙ ap (λ (b : Bool). cond b (Some later) None) fit)

pub returns-in-Ok-true-clause-fit : goal.returns-in-Ok-true-clause-fit
returns-in-Ok-true-clause-fit c =
    fits_where_rows_stand c.args.version c.args.tables.now c.in-Some.later c.args.changes.now c.in-Ok-true.field-0 (sym c.in_ok-later.ensures ∙ c.in-Some.is) c.requires.fit c.in-Ok-true.ensures
    ∙ c.in-Ok-true.field-0-test

pub returns-in-Ok-true-clause-columns : goal.returns-in-Ok-true-clause-columns
returns-in-Ok-true-clause-columns c = columns_kept c.args.version c.args.tables.now c.in-Some.later c.args.changes.now c.requires.columns (sym c.in_ok-later.ensures ∙ c.in-Some.is)
