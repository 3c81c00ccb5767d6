-- The layouts of the area Rows are sound.
use Rattle.std.specs.Prelude.{◌≡◌, ℕ, zero, suc, List, [], ◌∷◌, ◌++◌, Option, Some, refl}
use Rattle.dl_codec.specs.declared.rows.RowsRecord.{RowsRecord}
use Rattle.dl_codec.specs.declared.rows.RowsRecord.TheVariants as records
use Rattle.dl_codec.specs.declared.rows.TableChange.{TableChange}
use Rattle.dl_codec.specs.declared.rows.TableChange.TheVariants as changes
use Rattle.dl_codec.specs.Layout.{IsBytes, Takes, IsSound, u32, u64, list, whole, Decodes}
use Rattle.dl_codec.specs.Rows.{row_change_of, fields_of_row_change, row_change, Done, dropped, new, kept, new_fields, kept_fields, done, change_by, fields_of_table_change, table_change, commit, rows_record}
use Rattle.dl_codec.proofs.Sound.{tag_takes, bare_takes, u32_sound, u64_sound, bool_sound, name_sound, option_sound, pair_sound, along_sound, list_sound, whole-spelling, whole_decodes}
use Rattle.dl_codec.specs.Values.{column, value}
use Rattle.dl_codec.proofs.ValuesSound.{column_sound, value_sound}

pub row_change_sound : IsSound row_change
unfolding row_change
row_change_sound = along_sound row_change_of fields_of_row_change _ (λ _. refl) (λ _. refl) (pair_sound _ _ u64_sound (option_sound (list value) (list_sound value value_sound)))

new_fields_sound : IsSound new_fields
new_fields_sound = pair_sound _ _ (list_sound column column_sound) (pair_sound _ _ u64_sound (list_sound row_change row_change_sound))

kept_fields_sound : IsSound kept_fields
kept_fields_sound = pair_sound _ _ u64_sound (list_sound row_change row_change_sound)

done_takes : (bytes : List ℕ) (x : Done) (rest : List ℕ) → IsBytes bytes → done.reading bytes ≡ Some (x, rest) → Takes done bytes x rest
unfolding done
done_takes [] x rest fits e = absurd cc
done_takes (zero ∷ bytes) x rest fits e = bare_takes dropped done 0 refl tt bytes x rest e
done_takes (suc zero ∷ bytes) x rest fits e = tag_takes (λ p. new p.0 p.1.0 p.1.1) new_fields done 1 new_fields_sound (λ a. refl) (λ a h. h) bytes x rest fits e
done_takes (suc (suc zero) ∷ bytes) x rest fits e = tag_takes (λ p. kept p.0 p.1) kept_fields done 2 kept_fields_sound (λ a. refl) (λ a h. h) bytes x rest fits e
done_takes (suc (suc (suc b)) ∷ bytes) x rest fits e = absurd cc

done_again : (x : Done) (rest : List ℕ) → done.fits x → done.reading (done.spelling x ++ rest) ≡ Some (x, rest)
unfolding done
done_again dropped rest fits = refl
done_again (new columns next rows) rest fits = rw (new_fields_sound.again (columns, (next, rows)) rest fits) refl
done_again (kept next rows) rest fits = rw (kept_fields_sound.again (next, rows) rest fits) refl

pub done_sound : IsSound done
done_sound = record { takes = done_takes; again = done_again }

there : (p : List ℕ × Done) → fields_of_table_change (change_by p.0 p.1) ≡ p
there p = by p.1 p.0
  where
    by : (d : Done) (table : List ℕ) → fields_of_table_change (change_by table d) ≡ (table, d)
    by dropped table = refl
    by (new columns next rows) table = refl
    by (kept next rows) table = refl

back : (c : TableChange) → (let p = fields_of_table_change c in change_by p.0 p.1) ≡ c
back (changes.Dropped table) = refl
back (changes.New table columns next rows) = refl
back (changes.Kept table next rows) = refl

pub table_change_sound : IsSound table_change
unfolding table_change
table_change_sound = along_sound (λ p. change_by p.0 p.1) fields_of_table_change _ there back (pair_sound _ _ name_sound done_sound)

commit_sound : IsSound commit
commit_sound = pair_sound _ _ u64_sound (pair_sound _ _ u64_sound (pair_sound _ _ bool_sound (list_sound table_change table_change_sound)))

rows_record_takes : (bytes : List ℕ) (x : RowsRecord) (rest : List ℕ) → IsBytes bytes → rows_record.reading bytes ≡ Some (x, rest) → Takes rows_record bytes x rest
unfolding rows_record
rows_record_takes [] x rest fits e = absurd cc
rows_record_takes (zero ∷ bytes) x rest fits e = absurd cc
rows_record_takes (suc zero ∷ bytes) x rest fits e = tag_takes (λ number. records.Opening number) u32 rows_record 1 u32_sound (λ a. refl) (λ a h. h) bytes x rest fits e
rows_record_takes (suc (suc zero) ∷ bytes) x rest fits e = tag_takes (λ p. records.Commit p.0 p.1.0 p.1.1.0 p.1.1.1) commit rows_record 2 commit_sound (λ a. refl) (λ a h. h) bytes x rest fits e
rows_record_takes (suc (suc (suc zero)) ∷ bytes) x rest fits e = tag_takes (λ tx. records.Ended tx) u64 rows_record 3 u64_sound (λ a. refl) (λ a h. h) bytes x rest fits e
rows_record_takes (suc (suc (suc (suc b))) ∷ bytes) x rest fits e = absurd cc

rows_record_again : (x : RowsRecord) (rest : List ℕ) → rows_record.fits x → rows_record.reading (rows_record.spelling x ++ rest) ≡ Some (x, rest)
unfolding rows_record
rows_record_again (records.Opening number) rest fits = rw (u32_sound.again number rest fits) refl
rows_record_again (records.Commit tx number branch tables) rest fits = rw (commit_sound.again (tx, (number, (branch, tables))) rest fits) refl
rows_record_again (records.Ended tx) rest fits = rw (u64_sound.again tx rest fits) refl

pub rows_record_sound : IsSound rows_record
rows_record_sound = record { takes = rows_record_takes; again = rows_record_again }

-- a record that fits is read from its spelling
pub whole_rows_record : (x : RowsRecord) → rows_record.fits x → whole rows_record (rows_record.spelling x) ≡ Some x
whole_rows_record = whole-spelling rows_record rows_record_sound

-- what is found in bytes is the one record that has them, if there is one
pub rows_record_decodes : (bytes : List ℕ) (o : Option RowsRecord) → IsBytes bytes → o ≡ whole rows_record bytes → Decodes rows_record bytes o
rows_record_decodes = whole_decodes rows_record rows_record_sound
