-- The layouts of the area Files: owners, files under their paths, changes of one path, and records.
use Rattle.std.specs.Prelude.{ℕ, zero, suc, List, [], ◌∷◌, Option, None, Bool}
use Rattle.dl_base.specs.declared.file.Owner.{Owner}
use Rattle.dl_base.specs.declared.file.FileRow.{FileRow}
use Rattle.dl_base.specs.declared.file.FileChange.{FileChange}
use Rattle.dl_base.specs.declared.file.FileChange.TheVariants as changes
use Rattle.dl_codec.specs.declared.files.FilesRecord.{FilesRecord}
use Rattle.dl_codec.specs.declared.files.FilesRecord.TheVariants as files
use Rattle.dl_codec.specs.Layout.{Layout, behind, u64, bool, text, path, name, option, pair, along, list}

-- an owner: the name, and whether the file may be written
abbrev pub owner_of : List ℕ × Bool → Owner
owner_of p = record { name = p.0; writable = p.1 }

abbrev pub fields_of_owner : Owner → List ℕ × Bool
fields_of_owner o = (o.name, o.writable)

unfoldable pub owner : Layout Owner
owner = along owner_of fields_of_owner (pair name bool)

-- a file under its path: path, owner, saved owner, content
abbrev pub file_row_of : List ℕ × (Owner × (Option Owner × List ℕ)) → FileRow
file_row_of p = record { path = p.0; file = record { owner = p.1.0; before = p.1.1.0; bytes = p.1.1.1 } }

abbrev pub fields_of_file_row : FileRow → List ℕ × (Owner × (Option Owner × List ℕ))
fields_of_file_row r = (r.path, (r.file.owner, (r.file.before, r.file.bytes)))

unfoldable pub file_row : Layout FileRow
file_row = along file_row_of fields_of_file_row (pair path (pair owner (pair (option owner) text)))

-- a change of one path: 0 and the path, 1 and the file, or 2, the path, the owner and the saved owner
abbrev pub owner_change : Layout (List ℕ × (Owner × Option Owner))
owner_change = pair path (pair owner (option owner))

abbrev pub file_change_spelling : FileChange → List ℕ
file_change_spelling (changes.Removed at) = 0 ∷ path.spelling at
file_change_spelling (changes.Put row) = 1 ∷ file_row.spelling row
file_change_spelling (changes.Kept at new before) = 2 ∷ owner_change.spelling (at, (new, before))

abbrev pub file_change_fits : FileChange → Type 0
file_change_fits (changes.Removed at) = path.fits at
file_change_fits (changes.Put row) = file_row.fits row
file_change_fits (changes.Kept at new before) = owner_change.fits (at, (new, before))

abbrev pub file_change_reading : List ℕ → Option (FileChange × List ℕ)
file_change_reading [] = None
file_change_reading (zero ∷ rest) = behind (λ at. changes.Removed at) path rest
file_change_reading (suc zero ∷ rest) = behind (λ row. changes.Put row) file_row rest
file_change_reading (suc (suc zero) ∷ rest) = behind (λ p. changes.Kept p.0 p.1.0 p.1.1) owner_change rest
file_change_reading (suc (suc (suc b)) ∷ rest) = None

unfoldable pub file_change : Layout FileChange
file_change = record { spelling = file_change_spelling; fits = file_change_fits; reading = file_change_reading }

-- a record: 1, the number of the transaction, and the changes
abbrev pub batch : Layout (ℕ × List FileChange)
batch = pair u64 (list file_change)

abbrev pub files_record_spelling : FilesRecord → List ℕ
files_record_spelling (files.Batch tx made) = 1 ∷ batch.spelling (tx, made)

abbrev pub files_record_fits : FilesRecord → Type 0
files_record_fits (files.Batch tx made) = batch.fits (tx, made)

abbrev pub files_record_reading : List ℕ → Option (FilesRecord × List ℕ)
files_record_reading [] = None
files_record_reading (zero ∷ rest) = None
files_record_reading (suc zero ∷ rest) = behind (λ p. files.Batch p.0 p.1) batch rest
files_record_reading (suc (suc b) ∷ rest) = None

unfoldable pub files_record : Layout FilesRecord
files_record = record { spelling = files_record_spelling; fits = files_record_fits; reading = files_record_reading }
