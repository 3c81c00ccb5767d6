use Rattle.meaning_opening.proofs.Numbering.{past-numbers}
use Rattle.meaning_opening.proofs.Opening.{Parts, drops-present, settles-present}
use Rattle.meaning_opening.proofs.laws.an_opening_goes_by_its_present_lists.Goals as goal

parts : goal.After-steps_keep_tables_fitting → Parts
parts c = record {
  leads = c.a_finish_goes_on.ensures.leads;
  stands = c.a_finish_goes_on.ensures.fronts;
  aborted = c.one_more_record_changes_nothing.ensures.aborted;
  rows = c.openings_ends_and_copies_are_taken.ensures.rows;
  links = c.openings_ends_and_copies_are_taken.ensures.links;
  joint = c.lists_stand_for_their_core.ensures.opened;
}

pub returns-clause-settles : goal.returns-clause-settles
returns-clause-settles c f x stand has = settles-present (parts c) f x stand (past-numbers c.steps_keep_tables_fitting.ensures.numbers f x stand has)

pub returns-clause-drops : goal.returns-clause-drops
returns-clause-drops c f later x stand has = drops-present (parts c) f x stand (past-numbers c.steps_keep_tables_fitting.ensures.numbers f x stand has) later
