-- The layouts of the area Files are sound.
use Rattle.std.specs.Prelude.{◌≡◌, ℕ, zero, suc, List, [], ◌∷◌, ◌++◌, Option, Some, refl}
use Rattle.dl_base.specs.declared.file.FileChange.{FileChange}
use Rattle.dl_base.specs.declared.file.FileChange.TheVariants as changes
use Rattle.dl_codec.specs.declared.files.FilesRecord.{FilesRecord}
use Rattle.dl_codec.specs.declared.files.FilesRecord.TheVariants as files
use Rattle.dl_codec.specs.Layout.{IsBytes, Takes, IsSound, whole, Decodes, u64, bool, text, path, name, option, pair, list}
use Rattle.dl_codec.proofs.Sound.{tag_takes, u64_sound, bool_sound, text_sound, path_sound, name_sound, option_sound, pair_sound, along_sound, list_sound, whole-spelling, is_whole, whole_decodes}
use Rattle.dl_codec.specs.Files.{owner_of, fields_of_owner, owner, file_row_of, fields_of_file_row, file_row, owner_change, file_change, batch, files_record}

pub owner_sound : IsSound owner
unfolding owner
owner_sound = along_sound owner_of fields_of_owner _ (λ _. refl) (λ _. refl) (pair_sound name bool name_sound bool_sound)

pub file_row_sound : IsSound file_row
unfolding file_row
file_row_sound = along_sound file_row_of fields_of_file_row _ (λ _. refl) (λ _. refl) (pair_sound path (pair owner (pair (option owner) text)) path_sound (pair_sound owner (pair (option owner) text) owner_sound (pair_sound (option owner) text (option_sound owner owner_sound) text_sound)))

owner_change_sound : IsSound owner_change
owner_change_sound = pair_sound path (pair owner (option owner)) path_sound (pair_sound owner (option owner) owner_sound (option_sound owner owner_sound))

file_change_takes : (bytes : List ℕ) (x : FileChange) (rest : List ℕ) → IsBytes bytes → file_change.reading bytes ≡ Some (x, rest) → Takes file_change bytes x rest
unfolding file_change
file_change_takes [] x rest fits e = absurd cc
file_change_takes (zero ∷ bytes) x rest fits e = tag_takes (λ at. changes.Removed at) path file_change 0 path_sound (λ at. refl) (λ at h. h) bytes x rest fits e
file_change_takes (suc zero ∷ bytes) x rest fits e = tag_takes (λ row. changes.Put row) file_row file_change 1 file_row_sound (λ row. refl) (λ row h. h) bytes x rest fits e
file_change_takes (suc (suc zero) ∷ bytes) x rest fits e = tag_takes (λ p. changes.Kept p.0 p.1.0 p.1.1) owner_change file_change 2 owner_change_sound (λ p. refl) (λ p h. h) bytes x rest fits e
file_change_takes (suc (suc (suc b)) ∷ bytes) x rest fits e = absurd cc

file_change_again : (x : FileChange) (rest : List ℕ) → file_change.fits x → file_change.reading (file_change.spelling x ++ rest) ≡ Some (x, rest)
unfolding file_change
file_change_again (changes.Removed at) rest fits = rw (path_sound.again at rest fits) refl
file_change_again (changes.Put row) rest fits = rw (file_row_sound.again row rest fits) refl
file_change_again (changes.Kept at new before) rest fits = rw (owner_change_sound.again (at, (new, before)) rest fits) refl

pub file_change_sound : IsSound file_change
file_change_sound = record { takes = file_change_takes; again = file_change_again }

batch_sound : IsSound batch
batch_sound = pair_sound u64 (list file_change) u64_sound (list_sound file_change file_change_sound)

files_record_takes : (bytes : List ℕ) (x : FilesRecord) (rest : List ℕ) → IsBytes bytes → files_record.reading bytes ≡ Some (x, rest) → Takes files_record bytes x rest
unfolding files_record
files_record_takes [] x rest fits e = absurd cc
files_record_takes (zero ∷ bytes) x rest fits e = absurd cc
files_record_takes (suc zero ∷ bytes) x rest fits e = tag_takes (λ p. files.Batch p.0 p.1) batch files_record 1 batch_sound (λ p. refl) (λ p h. h) bytes x rest fits e
files_record_takes (suc (suc b) ∷ bytes) x rest fits e = absurd cc

files_record_again : (x : FilesRecord) (rest : List ℕ) → files_record.fits x → files_record.reading (files_record.spelling x ++ rest) ≡ Some (x, rest)
unfolding files_record
files_record_again (files.Batch tx made) rest fits = rw (batch_sound.again (tx, made) rest fits) refl

pub files_record_sound : IsSound files_record
files_record_sound = record { takes = files_record_takes; again = files_record_again }

-- ---- whole records

-- a record that fits is read from its spelling
pub whole_files_record : (x : FilesRecord) → files_record.fits x → whole files_record (files_record.spelling x) ≡ Some x
whole_files_record = whole-spelling files_record files_record_sound

-- bytes that are read as a record are its spelling
pub is_files_record : (bytes : List ℕ) (x : FilesRecord) → IsBytes bytes → whole files_record bytes ≡ Some x → files_record.fits x × (bytes ≡ files_record.spelling x)
is_files_record = is_whole files_record files_record_sound

pub files_record_decodes : (bytes : List ℕ) (o : Option FilesRecord) → IsBytes bytes → o ≡ whole files_record bytes → Decodes files_record bytes o
files_record_decodes = whole_decodes files_record files_record_sound
