use Rattle.std.proofs.Common.{◌≡◌, drop, take, Ok}
use Rattle.dl_journal.specs.Records.{size}
use Rattle.meaning_areas.specs.Areas.{copies_body, copies_of}
use Rattle.meaning_areas.specs.Folds.{folded}
use Rattle.fm_archive.proofs.fold.fold.Given as goal

-- what is left gives of the copies so far what all records give; the place is that of the next gate
abbrev pub invariant-loop-body : goal.invariant-loop-body
invariant-loop-body l = record {
  copies : folded copies_body l.place (Ok l.table.copies) (drop l.body-index l.body-items) ≡ copies_of l.body-items;
  place : l.place ≡ size (take l.body-index l.body-items);
}
