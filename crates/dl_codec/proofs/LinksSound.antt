-- The layouts of the area Links are sound.
use Rattle.std.specs.Prelude.{◌≡◌, ℕ, zero, suc, List, [], ◌∷◌, ◌++◌, Option, Some, refl}
use Rattle.dl_codec.specs.declared.links.LinksRecord.{LinksRecord}
use Rattle.dl_codec.specs.declared.links.LinksRecord.TheVariants as records
use Rattle.dl_codec.specs.Layout.{IsBytes, Takes, IsSound, u32, u64, whole, Decodes}
use Rattle.dl_codec.specs.Links.{taken_of, fields_of_taken, taken, prepared, links_record}
use Rattle.dl_codec.proofs.Sound.{tag_takes, u32_sound, u64_sound, bool_sound, pair_sound, along_sound, list_sound, whole-spelling, whole_decodes}
use Rattle.dl_codec.specs.Values.{link_row}
use Rattle.dl_codec.proofs.ValuesSound.{link_row_sound}

pub taken_sound : IsSound taken
unfolding taken
taken_sound = along_sound taken_of fields_of_taken _ (λ _. refl) (λ _. refl) (pair_sound _ _ link_row_sound bool_sound)

prepared_sound : IsSound prepared
prepared_sound = pair_sound _ _ u64_sound (pair_sound _ _ (list_sound link_row link_row_sound) (list_sound taken taken_sound))

links_record_takes : (bytes : List ℕ) (x : LinksRecord) (rest : List ℕ) → IsBytes bytes → links_record.reading bytes ≡ Some (x, rest) → Takes links_record bytes x rest
unfolding links_record
links_record_takes [] x rest fits e = absurd cc
links_record_takes (zero ∷ bytes) x rest fits e = absurd cc
links_record_takes (suc zero ∷ bytes) x rest fits e = tag_takes (λ number. records.Opening number) u32 links_record 1 u32_sound (λ a. refl) (λ a h. h) bytes x rest fits e
links_record_takes (suc (suc zero) ∷ bytes) x rest fits e = tag_takes (λ p. records.Prepared p.0 p.1.0 p.1.1) prepared links_record 2 prepared_sound (λ a. refl) (λ a h. h) bytes x rest fits e
links_record_takes (suc (suc (suc zero)) ∷ bytes) x rest fits e = tag_takes (λ tx. records.Committed tx) u64 links_record 3 u64_sound (λ a. refl) (λ a h. h) bytes x rest fits e
links_record_takes (suc (suc (suc (suc zero))) ∷ bytes) x rest fits e = tag_takes (λ tx. records.Done tx) u64 links_record 4 u64_sound (λ a. refl) (λ a h. h) bytes x rest fits e
links_record_takes (suc (suc (suc (suc (suc zero)))) ∷ bytes) x rest fits e = tag_takes (λ tx. records.Aborted tx) u64 links_record 5 u64_sound (λ a. refl) (λ a h. h) bytes x rest fits e
links_record_takes (suc (suc (suc (suc (suc (suc b))))) ∷ bytes) x rest fits e = absurd cc

links_record_again : (x : LinksRecord) (rest : List ℕ) → links_record.fits x → links_record.reading (links_record.spelling x ++ rest) ≡ Some (x, rest)
unfolding links_record
links_record_again (records.Opening number) rest fits = rw (u32_sound.again number rest fits) refl
links_record_again (records.Prepared tx gives takes) rest fits = rw (prepared_sound.again (tx, (gives, takes)) rest fits) refl
links_record_again (records.Committed tx) rest fits = rw (u64_sound.again tx rest fits) refl
links_record_again (records.Done tx) rest fits = rw (u64_sound.again tx rest fits) refl
links_record_again (records.Aborted tx) rest fits = rw (u64_sound.again tx rest fits) refl

pub links_record_sound : IsSound links_record
links_record_sound = record { takes = links_record_takes; again = links_record_again }

-- a record that fits is read from its spelling
pub whole_links_record : (x : LinksRecord) → links_record.fits x → whole links_record (links_record.spelling x) ≡ Some x
whole_links_record = whole-spelling links_record links_record_sound

-- what is found in bytes is the one record that has them, if there is one
pub links_record_decodes : (bytes : List ℕ) (o : Option LinksRecord) → IsBytes bytes → o ≡ whole links_record bytes → Decodes links_record bytes o
links_record_decodes = whole_decodes links_record links_record_sound
