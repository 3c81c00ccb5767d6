-- The layouts of the area Backups are sound.
use Rattle.std.specs.Prelude.{◌≡◌, ℕ, zero, suc, List, [], ◌∷◌, ◌++◌, Option, Some, refl}
use Rattle.dl_codec.specs.declared.backups.BackupRecord.{BackupRecord}
use Rattle.dl_codec.specs.declared.backups.BackupRecord.TheVariants as records
use Rattle.dl_codec.specs.Backups.{table_image_of, fields_of_table_image, table_image, backup, backup_record}
use Rattle.dl_codec.specs.Layout.{IsBytes, Takes, IsSound, u64, pair, list, whole, Decodes}
use Rattle.dl_codec.proofs.Sound.{tag_takes, u64_sound, name_sound, pair_sound, along_sound, list_sound, whole-spelling, whole_decodes}
use Rattle.dl_codec.specs.Values.{column, value}
use Rattle.dl_codec.proofs.ValuesSound.{column_sound, value_sound}

pub table_image_sound : IsSound table_image
unfolding table_image
table_image_sound = along_sound table_image_of fields_of_table_image _ (λ _. refl) (λ _. refl)
    (pair_sound _ _ name_sound (pair_sound _ _ u64_sound (pair_sound _ _ (list_sound column column_sound) (pair_sound _ _ u64_sound (list_sound (pair u64 (list value)) (pair_sound _ _ u64_sound (list_sound value value_sound)))))))

backup_sound : IsSound backup
backup_sound = pair_sound _ _ u64_sound (pair_sound _ _ u64_sound (list_sound table_image table_image_sound))

backup_record_takes : (bytes : List ℕ) (x : BackupRecord) (rest : List ℕ) → IsBytes bytes → backup_record.reading bytes ≡ Some (x, rest) → Takes backup_record bytes x rest
unfolding backup_record
backup_record_takes [] x rest fits e = absurd cc
backup_record_takes (zero ∷ bytes) x rest fits e = absurd cc
backup_record_takes (suc zero ∷ bytes) x rest fits e = tag_takes (λ p. records.Backup p.0 p.1.0 p.1.1) backup backup_record 1 backup_sound (λ a. refl) (λ a h. h) bytes x rest fits e
backup_record_takes (suc (suc b) ∷ bytes) x rest fits e = absurd cc

backup_record_again : (x : BackupRecord) (rest : List ℕ) → backup_record.fits x → backup_record.reading (backup_record.spelling x ++ rest) ≡ Some (x, rest)
unfolding backup_record
backup_record_again (records.Backup number commit tables) rest fits = rw (backup_sound.again (number, (commit, tables)) rest fits) refl

pub backup_record_sound : IsSound backup_record
backup_record_sound = record { takes = backup_record_takes; again = backup_record_again }

-- a record that fits is read from its spelling
pub whole_backup_record : (x : BackupRecord) → backup_record.fits x → whole backup_record (backup_record.spelling x) ≡ Some x
whole_backup_record = whole-spelling backup_record backup_record_sound

-- what is found in bytes is the one record that has them, if there is one
pub backup_record_decodes : (bytes : List ℕ) (o : Option BackupRecord) → IsBytes bytes → o ≡ whole backup_record bytes → Decodes backup_record bytes o
backup_record_decodes = whole_decodes backup_record backup_record_sound
