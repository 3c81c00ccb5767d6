use Rattle.meaning_areas.specs.Lists.{Folds}
use Rattle.meaning_opening.proofs.Numbering.{past-numbers}
use Rattle.meaning_opening.proofs.Opening.{Parts, behind, opening-follows, opening-fronts, opening-stand, opening-taken}
use Rattle.meaning_opening.proofs.laws.an_opening_leads_to_the_start.Goals as goal

parts : goal.After-each_step_leads_on → Parts
parts c = record {
  leads = c.a_finish_goes_on.ensures.leads;
  stands = c.a_finish_goes_on.ensures.fronts;
  aborted = c.one_more_record_changes_nothing.ensures.aborted;
  rows = c.openings_ends_and_copies_are_taken.ensures.rows;
  links = c.openings_ends_and_copies_are_taken.ensures.links;
  joint = c.lists_stand_for_their_core.ensures.opened;
}

pub returns-clause-leads : goal.returns-clause-leads
returns-clause-leads c f x stand has =
    let give = past-numbers c.steps_keep_tables_fitting.ensures.numbers f x stand has in
    let later : Folds = behind (parts c) f x stand give in (
      later,
      opening-taken (parts c) f x stand give,
      opening-stand (parts c) f x stand give,
      (λ given. c.each_step_leads_on.ensures.begin given later x has (opening-follows (parts c) f x stand give given)),
    )

pub returns-clause-fronts : goal.returns-clause-fronts
returns-clause-fronts c f x stand has = opening-fronts (parts c) f x stand (past-numbers c.steps_keep_tables_fitting.ensures.numbers f x stand has)
