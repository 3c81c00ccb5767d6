-- The bytes of the record of a commit: where its number stands, behind a byte and the eight of the transaction, and which changes they are.
use Rattle.std.proofs.Common.{◌≡◌, ℕ, ◌<◌, ◌≤◌, ◌^◌, [], ◌++◌, Bool, List, Some, drop, length, take, refl, ap, subst, ◌∙◌, arith}
use Rattle.std.specs.Int.{to_be_bytes, w64}
use Rattle.std.proofs.lemmas.List.{append-nil}
use Rattle.dl_codec.specs.Layout.{IsSound, u64, whole}
use Rattle.dl_codec.specs.Rows.{rows_record}
use Rattle.dl_codec.specs.declared.rows.RowsRecord.{RowsRecord}
use Rattle.dl_codec.specs.declared.rows.RowsRecord.TheVariants as records
use Rattle.dl_codec.specs.declared.rows.TableChange.{TableChange}
use Rattle.db_changes.specs.Made.{changes_in, changes_of}

pub is_long : (tx number : ℕ) (branch : Bool) (changes : List TableChange) → 17 ≤ length (rows_record.spelling (records.Commit tx number branch changes))
unfolding rows_record u64
is_long tx number branch changes = omega arith

pub other_number : (tx number other : ℕ) (branch : Bool) (changes : List TableChange)
    → take 9 (rows_record.spelling (records.Commit tx number branch changes)) ++ to_be_bytes w64 other ++ drop 17 (rows_record.spelling (records.Commit tx number branch changes)) ≡ rows_record.spelling (records.Commit tx other branch changes)
unfolding rows_record u64
other_number tx number other branch changes = refl

pub other_fits : (tx number other : ℕ) (branch : Bool) (changes : List TableChange) → other < 2 ^ 64 → rows_record.fits (records.Commit tx number branch changes) → rows_record.fits (records.Commit tx other branch changes)
unfolding rows_record u64
other_fits tx number other branch changes lt fit = (fit.0, (lt, fit.1.1))

whole_of : IsSound rows_record → (x : RowsRecord) → rows_record.fits x → whole rows_record (rows_record.spelling x) ≡ Some x
whole_of sound x fit =
    let read : rows_record.reading (rows_record.spelling x) ≡ Some (x, []) =
    subst (λ (bytes : List ℕ). rows_record.reading bytes ≡ Some (x, [])) (append-nil (rows_record.spelling x)) (sound.again x [] fit) in
    rw read refl

pub changes_read : IsSound rows_record → (tx number : ℕ) (branch : Bool) (changes : List TableChange) (bytes : List ℕ)
    → bytes ≡ rows_record.spelling (records.Commit tx number branch changes) → rows_record.fits (records.Commit tx number branch changes) → changes_in bytes ≡ changes
changes_read sound tx number branch changes bytes is fit =
    ap changes_in is ∙ ap changes_of (whole_of sound (records.Commit tx number branch changes) fit)
