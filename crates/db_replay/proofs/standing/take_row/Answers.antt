use Rattle.std.proofs.Common.{◌≡◌, ◌&&◌, Bool, sym, ◌∙◌, arith}
use Rattle.meaning_tables.specs.Fits.{fits}
use Rattle.meaning_tables.specs.Tables.{table_of}
use Rattle.db_replay.specs.Standing.{row_stands_in}
use Rattle.db_replay.proofs.Taking.{if_ok, not_taken, taken}
use Rattle.std.proofs.lemmas.Grind.{common_steps}
use Rattle.db_replay.proofs.standing.take_row.Goals as goal

pub returns-in-Some-clause-stand : goal.returns-in-Some-clause-stand
returns-in-Some-clause-stand c =
    let was = c.args.left.now in
    let after = c.removed.new.left in
    if_ok c.stands.result (λ (b : Bool). b ≡ row_stands_in after c.in-Some.row (table_of after c.args.name.now)) (λ (b : Bool). fits was ≡ (b && fits after))
    (λ b e. taken was after c.args.name.now c.args.number c.in-Some.row b c.requires (sym c.in-Some.is ∙ c.in_ok-row.ensures.row) c.in_ok-row.ensures.taken e) c.stands.ensures

pub returns-in-None-clause-stand : goal.returns-in-None-clause-stand
returns-in-None-clause-stand c = not_taken c.args.left.now c.removed.new.left c.args.name.now c.args.number (sym c.in-None.is ∙ c.in_ok-row.ensures.row) c.in_ok-row.ensures.taken

pub returns-in-Some-clause-taken : goal.returns-in-Some-clause-taken
returns-in-Some-clause-taken c = grind (arith, common_steps)
