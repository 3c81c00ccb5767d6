-- A batch: changes of files that one record has, and how much room they take.
use Rattle.std.specs.Prelude.{ℕ, ◌+◌, List, [], ◌∷◌, None}
use Rattle.dl_areas.specs.Lists.{Write, write_of}
use Rattle.dl_base.specs.declared.area.Area.TheVariants as areas
use Rattle.dl_base.specs.declared.file.FileChange.{FileChange}
use Rattle.dl_base.specs.declared.file.FileChange.TheVariants as changes
use Rattle.dl_codec.specs.Files.{files_record}
use Rattle.dl_codec.specs.declared.files.FilesRecord.TheVariants as records

-- The number of the transaction, 0 for a user's command, and the changes, in order.
pub record Batch : Type 0 where
  pub tx : ℕ
  pub changes : List FileChange

-- how many files a change puts: only a file that is put may need room for one more
abbrev pub put_count : FileChange → ℕ
put_count (changes.Removed path) = 0
put_count (changes.Put row) = 1
put_count (changes.Kept path owner before) = 0

-- how many files some changes put
abbrev pub puts : List FileChange → ℕ
puts [] = 0
puts (c ∷ cs) = put_count c + puts cs

-- the body of the batch's record
abbrev pub batch_record : Batch → List ℕ
batch_record b = files_record.spelling (records.Batch b.tx b.changes)

-- that record, as it is written
abbrev pub batch_write : Batch → Write
batch_write b = write_of areas.Files (batch_record b) None
