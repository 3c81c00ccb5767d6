-- What the area Files stands for, and what file commands write into it.
use Rattle.std.specs.Prelude.{ℕ, List, [], ◌∷◌, Option, Some, None, Result, Ok, Err}
use Rattle.std.specs.FinMap as map
use Rattle.dl_base.specs.declared.answer.FileRefusal.{FileRefusal}
use Rattle.dl_base.specs.declared.file.FileChange.{FileChange}
use Rattle.dl_base.specs.declared.file.FileCmd.{FileCmd}
use Rattle.dl_codec.specs.Files.{files_record}
use Rattle.dl_codec.specs.Layout.{whole}
use Rattle.dl_codec.specs.declared.files.FilesRecord.{FilesRecord}
use Rattle.dl_codec.specs.declared.files.FilesRecord.TheVariants as records
use Rattle.dl_journal.specs.Records as journal
use Rattle.meaning_areas.specs.Folds.{folded}
use Rattle.meaning_files.specs.Commands.{refusal, command_changes}
use Rattle.meaning_files.specs.Files.{Files, with_changes}

abbrev pub with_record : Files → Option FilesRecord → Option Files
with_record files None = None
with_record files (Some (records.Batch tx made)) = with_changes files made

-- the files after one more record of the area; none where the fold refuses it
abbrev pub files_step : Files → List ℕ → Option Files
files_step files body = with_record files (whole files_record body)

-- the files that a list of bodies stands for, or the place of the first record that the fold refuses
abbrev pub files_of : List (List ℕ) → Result Files ℕ
files_of bodies = folded files_step 0 (Ok map.empty) bodies

-- the files that an area's bytes stand for, or the place of the first bad record's gate
abbrev pub files_of_list : Result (List (List ℕ)) ℕ → Result Files ℕ
files_of_list (Ok bodies) = files_of bodies
files_of_list (Err place) = Err place

abbrev pub files_in : List ℕ → Result Files ℕ
files_in bytes = files_of_list (journal.records bytes)

-- the record of a user's changes
abbrev pub user_record : List FileChange → List ℕ
user_record made = files_record.spelling (records.Batch 0 made)

abbrev pub user_records : List FileChange → List (List ℕ)
user_records [] = []
user_records (c ∷ cs) = user_record (c ∷ cs) ∷ []

abbrev pub accepted_writes : Option FileRefusal → List (List ℕ) → List (List ℕ)
accepted_writes (Some why) bodies = []
accepted_writes None bodies = bodies

-- the bodies that a command writes which no link forbids
abbrev pub writes : Files → FileCmd → List (List ℕ)
writes files cmd = accepted_writes (refusal files cmd) (user_records (command_changes files cmd.user cmd.what))
