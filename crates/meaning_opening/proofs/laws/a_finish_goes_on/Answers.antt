use Rattle.meaning_areas.specs.Finishing.{finish_records}
use Rattle.meaning_areas.specs.Moving.{with_finish}
use Rattle.meaning_areas.specs.Stands.{kept_of}
use Rattle.meaning_opening.proofs.Finishing.{Below, finish-walk}
use Rattle.meaning_opening.proofs.Walks.{walk-fronts, walk-last, walk-taken}
use Rattle.meaning_opening.proofs.laws.a_finish_goes_on.Goals as goal

below : goal.After-settling_path_by_path → Below
below c = record {
  committed = c.one_more_record_changes_nothing.ensures.committed;
  next = c.one_more_record_changes_nothing.ensures.next;
  ended = c.one_more_record_changes_nothing.ensures.ended;
  copied = c.openings_ends_and_copies_are_taken.ensures.copied;
  taken = c.openings_ends_and_copies_are_taken.ensures.ended;
  finish = c.records_of_a_finish_settle.ensures;
  opened = c.lists_stand_for_their_core.ensures.opened;
  parts = c.a_part_and_then_all_is_all.ensures;
  copies = c.settling_path_by_path.ensures.copies;
  files = c.settling_path_by_path.ensures.files;
}

pub returns-clause-leads : goal.returns-clause-leads
returns-clause-leads c f x tx m p stand some at still numbers =
    let walk = finish-walk (below c) f x tx m stand some numbers p at still in
    (walk-taken (finish_records tx p m (kept_of f)) f (with_finish f tx m) x walk, walk-last (finish_records tx p m (kept_of f)) f (with_finish f tx m) x walk)

pub returns-clause-fronts : goal.returns-clause-fronts
returns-clause-fronts c f x tx m p stand some at still numbers =
    walk-fronts (finish_records tx p m (kept_of f)) f (with_finish f tx m) x (finish-walk (below c) f x tx m stand some numbers p at still)
