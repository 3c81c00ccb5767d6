-- What contracts see of the files that are open on a bench.
use Rattle.std.specs.Prelude.{◌≡◌, ◌⊎◌, ◌++◌, ℕ, ◌+◌, ◌-◌, ◌<◌, ◌^◌, min, List, [], ◌∷◌, length, Some, Ok, refl}
use Rattle.std.specs.Coded.{Coded, code_by, coded×, coded_ℕ}
use Rattle.dl_base.specs.Outside.{Outside}
use Rattle.dl_base.specs.declared.area.Area.TheVariants as areas
use Rattle.dl_base.specs.declared.fault.Full.{Full}
use Rattle.dl_base.specs.declared.fault.Full.TheVariants as fulls
use Rattle.dl_base.specs.declared.file.FileCmd.{FileCmd}
use Rattle.dl_base.specs.declared.file.FileWhat.{FileWhat}
use Rattle.dl_base.specs.declared.file.FileWhat.TheVariants as whats
use Rattle.dl_journal.specs.Extent.{Extent}
use Rattle.dl_journal.specs.Open.{Keeps, IsOpen}
use Rattle.dl_journal.specs.Records.{IsAtRest}
use Rattle.fs_files.specs.Batch.{Batch, batch_record}
use Rattle.meaning_areas.specs.FilesArea.{files_of, user_record, writes}
use Rattle.meaning_files.specs.Commands.{changed, command_changes}
use Rattle.meaning_files.specs.Files.{Files, files_code, with_changes}

-- The files, for how many more there is room, how many bytes their area has up to behind the closing gate, and how many it may have.
pub record Catalog : Type 0 where
  pub files : Files
  pub spare : ℕ
  pub length : ℕ
  pub limit : ℕ

abbrev pub catalog_code : Coded Catalog
catalog_code =
    code_by (Files × (ℕ × (ℕ × ℕ))) (coded× files_code (coded× coded_ℕ (coded× coded_ℕ coded_ℕ)))
    (λ c. (c.files, (c.spare, (c.length, c.limit)))) (λ p. record { files = p.0; spare = p.1.0; length = p.1.1.0; limit = p.1.1.1 }) (λ _. refl)

-- the journal of the area Files
abbrev pub extent : Catalog → Extent
extent c = record { area = areas.Files; length = c.length; limit = c.limit }

-- the area has these bodies, whatever a crash leaves of it, and the files are what they stand for
pub record Holds (c : Catalog) (bodies : List (List ℕ)) (o : Outside) : Type 0 where
  pub keeps : Keeps (extent c) bodies o
  pub stands : files_of bodies ≡ Ok c.files

-- an area with these bodies, which stand for these files
pub record HoldsFiles (bodies : List (List ℕ)) (files : Files) (c : List ℕ) : Type 0 where
  pub at_rest : IsAtRest bodies c
  pub stands : files_of bodies ≡ Ok files

-- of each list that the area holds it has that list, without a batch or with its record
abbrev pub StandsWithout : Catalog → Batch → Outside → List ℕ → Type 0
StandsWithout old made o c = (bodies : List (List ℕ)) (later : Files) → with_changes old.files made.changes ≡ Some later → Holds old bodies o
    → HoldsFiles bodies old.files c ⊎ HoldsFiles (bodies ++ batch_record made ∷ []) later c

-- the same of a command that is accepted
abbrev pub StandsAround : Catalog → FileCmd → Outside → List ℕ → Type 0
StandsAround old cmd o c = (bodies : List (List ℕ)) → Holds old bodies o
    → HoldsFiles bodies old.files c ⊎ HoldsFiles (bodies ++ writes old.files cmd) (changed old.files cmd) c

-- the closing gate is there
abbrev pub IsReady : Catalog → Outside → Type 0
IsReady c o = IsOpen (extent c) o

-- a command that writes into the area
abbrev pub IsWriting : FileWhat → Type 0
IsWriting (whats.Create path bytes) = Unit {0}
IsWriting (whats.Write path bytes) = Unit {0}
IsWriting (whats.Delete path) = Unit {0}
IsWriting (whats.Rename path to) = Unit {0}
IsWriting (whats.Chmod path on) = Unit {0}
IsWriting (whats.Read path token) = ⊥
IsWriting whats.List = ⊥

-- the record of a command on these files
abbrev pub record_of : Files → FileCmd → List ℕ
record_of files cmd = user_record (command_changes files cmd.user cmd.what)

-- the area as it would be with one more body, and that it passes the limit
abbrev pub full_with : Catalog → List ℕ → Full
full_with c body = fulls.Area areas.Files (min (c.length + 9 + length body) (2 ^ 64 - 1))

abbrev pub IsFullWith : Catalog → List ℕ → Type 0
IsFullWith c body = c.limit < c.length + 9 + length body
