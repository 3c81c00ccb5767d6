use Rattle.meaning_opening.proofs.Finishing.{Below}
use Rattle.meaning_opening.proofs.Stepping.{finish-step, step-stands}
use Rattle.meaning_opening.proofs.laws.a_finish_writes_its_next_records.Goals as goal

below : goal.After-settling_path_by_path → Below
below c = record {
  committed = c.one_more_record_changes_nothing.ensures.committed;
  next = c.one_more_record_changes_nothing.ensures.next;
  ended = c.one_more_record_changes_nothing.ensures.ended;
  copied = c.openings_ends_and_copies_are_taken.ensures.copied;
  taken = c.openings_ends_and_copies_are_taken.ensures.ended;
  finish = c.records_of_a_finish_settle.ensures;
  opened = c.lists_stand_for_their_core.ensures.opened;
  parts = c.a_part_and_then_all_is_all.ensures;
  copies = c.settling_path_by_path.ensures.copies;
  files = c.settling_path_by_path.ensures.files;
}

pub returns : goal.returns
returns c f x tx m p stand some at still numbers =
    let one = finish-step (below c) f x tx m stand some numbers p at still in
    (one.later, one.phase, one.taken, one.at, one.left, step-stands (below c) f x tx m stand some numbers p at still one)
