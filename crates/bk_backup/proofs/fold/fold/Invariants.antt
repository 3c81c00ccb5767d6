use Rattle.std.proofs.Common.{◌≡◌, drop, take, Ok}
use Rattle.dl_journal.specs.Records.{size}
use Rattle.meaning_areas.specs.Areas.{backups_body, backups_of}
use Rattle.meaning_areas.specs.Folds.{folded}
use Rattle.bk_backup.proofs.fold.fold.Given as goal

-- what is left gives of the backups so far what all records give; the place is that of the next gate
abbrev pub invariant-loop-body : goal.invariant-loop-body
invariant-loop-body l = record {
  backups : folded backups_body l.place (Ok l.backups) (drop l.body-index l.body-items) ≡ backups_of l.body-items;
  place : l.place ≡ size (take l.body-index l.body-items);
}
