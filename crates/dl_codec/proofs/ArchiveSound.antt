-- The layouts of the area Archive are sound.
use Rattle.std.specs.Prelude.{◌≡◌, ℕ, zero, suc, List, [], ◌∷◌, ◌++◌, Option, Some, refl}
use Rattle.dl_codec.specs.declared.archive.ArchiveRecord.{ArchiveRecord}
use Rattle.dl_codec.specs.declared.archive.ArchiveRecord.TheVariants as records
use Rattle.dl_codec.specs.Archive.{file_copy_of, fields_of_file_copy, file_copy, archive_record}
use Rattle.dl_codec.proofs.FilesSound.{owner_sound}
use Rattle.dl_codec.specs.Layout.{IsBytes, Takes, IsSound, whole, Decodes}
use Rattle.dl_codec.proofs.Sound.{tag_takes, text_sound, pair_sound, along_sound, whole-spelling, whole_decodes}
use Rattle.dl_codec.proofs.ValuesSound.{link_number_sound, exactly_sound}

pub file_copy_sound : IsSound file_copy
unfolding file_copy
file_copy_sound = along_sound file_copy_of fields_of_file_copy _ (λ _. refl) (λ _. refl) (pair_sound _ _ link_number_sound (pair_sound _ _ owner_sound (pair_sound _ _ (exactly_sound 32) text_sound)))

archive_record_takes : (bytes : List ℕ) (x : ArchiveRecord) (rest : List ℕ) → IsBytes bytes → archive_record.reading bytes ≡ Some (x, rest) → Takes archive_record bytes x rest
unfolding archive_record
archive_record_takes [] x rest fits e = absurd cc
archive_record_takes (zero ∷ bytes) x rest fits e = absurd cc
archive_record_takes (suc zero ∷ bytes) x rest fits e = tag_takes (λ c. records.Copy c) file_copy archive_record 1 file_copy_sound (λ a. refl) (λ a h. h) bytes x rest fits e
archive_record_takes (suc (suc b) ∷ bytes) x rest fits e = absurd cc

archive_record_again : (x : ArchiveRecord) (rest : List ℕ) → archive_record.fits x → archive_record.reading (archive_record.spelling x ++ rest) ≡ Some (x, rest)
unfolding archive_record
archive_record_again (records.Copy c) rest fits = rw (file_copy_sound.again c rest fits) refl

pub archive_record_sound : IsSound archive_record
archive_record_sound = record { takes = archive_record_takes; again = archive_record_again }

-- a record that fits is read from its spelling
pub whole_archive_record : (x : ArchiveRecord) → archive_record.fits x → whole archive_record (archive_record.spelling x) ≡ Some x
whole_archive_record = whole-spelling archive_record archive_record_sound

-- what is found in bytes is the one record that has them, if there is one
pub archive_record_decodes : (bytes : List ℕ) (o : Option ArchiveRecord) → IsBytes bytes → o ≡ whole archive_record bytes → Decodes archive_record bytes o
archive_record_decodes = whole_decodes archive_record archive_record_sound
