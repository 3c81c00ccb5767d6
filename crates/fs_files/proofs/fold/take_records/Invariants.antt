use Rattle.std.proofs.Common.{◌≡◌, drop, take, Ok}
use Rattle.dl_journal.specs.Records.{size}
use Rattle.meaning_areas.specs.FilesArea.{files_step, files_of}
use Rattle.meaning_areas.specs.Folds.{folded}
use Rattle.fs_files.proofs.fold.take_records.Given as goal

-- what is left gives of the files so far what all records give; the place is that of the next gate
abbrev pub invariant-loop-body : goal.invariant-loop-body
invariant-loop-body l = record {
  files : folded files_step l.place (Ok l.table.files) (drop l.body-index l.body-items) ≡ files_of l.body-items;
  place : l.place ≡ size (take l.body-index l.body-items);
}
