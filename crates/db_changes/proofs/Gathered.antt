-- What Made keeps is what its commit asks for.
use Rattle.std.proofs.Common.{◌≡◌, ℕ, ◌*◌, ◌≤◌, ◌++◌, Bool, List, [], Result, IfOk, sym, ◌∙◌, ap, subst}
use Rattle.dl_base.specs.Limits.{most_tables}
use Rattle.dl_codec.specs.Rows.{rows_record}
use Rattle.dl_codec.specs.declared.rows.RowsRecord.TheVariants as records
use Rattle.dl_codec.specs.declared.rows.TableChange.{TableChange}
use Rattle.db_replay.specs.Applying.{new_in}
use Rattle.db_replay.specs.declared.changes.Change.{Change}
use Rattle.db_changes.specs.Handles.{NewLast}
use Rattle.db_changes.specs.Made.{IsMade, Making, changes_in}

-- three lists one behind another
pub gathered : {A : Type 0} (start one two three d k n : List A) → start ≡ [] → one ≡ start ++ d → two ≡ one ++ k → three ≡ two ++ n → three ≡ d ++ k ++ n
gathered start one two three d k n none a b c = c ∙ ap (λ xs. xs ++ n) (b ∙ ap (λ xs. xs ++ k) (a ∙ ap (λ xs. xs ++ d) none))

-- a commit by equal lists
abbrev making : ℕ → Bool → List TableChange → List Change → ℕ → Making
making tx branch changes handles rooms = record { tx = tx; branch = branch; changes = changes; handles = handles; rooms = rooms }

pub made_as : {E : Type 0} (r : Result Making E) (tx : ℕ) (branch : Bool) (changes told : List TableChange) (handles kept : List Change) (rooms : ℕ) → changes ≡ told → handles ≡ kept
    → IfOk r (λ made. made ≡ making tx branch changes handles rooms) → IfOk r (λ made. made ≡ making tx branch told kept rooms)
made_as {E} r tx branch changes told handles kept rooms same other of =
    subst (λ (cs : List TableChange). IfOk r (λ made. made ≡ making tx branch cs kept rooms)) same
    (subst (λ (hs : List Change). IfOk r (λ made. made ≡ making tx branch changes hs rooms)) other of)

pub is-made : (tx : ℕ) (branch : Bool) (changes : List TableChange) (handles : List Change) (rooms : ℕ) (bytes : List ℕ)
    → bytes ≡ rows_record.spelling (records.Commit tx 0 branch changes) → rows_record.fits (records.Commit tx 0 branch changes) → changes_in bytes ≡ changes
    → new_in handles ≤ rooms * most_tables → 1 ≤ rooms → NewLast handles → IsMade (making tx branch (changes_in bytes) handles rooms) bytes
is-made tx branch changes handles rooms bytes spelled fit read few some last = record {
  body = spelled ∙ ap (λ (cs : List TableChange). rows_record.spelling (records.Commit tx 0 branch cs)) (sym read);
  fits = subst (λ (cs : List TableChange). rows_record.fits (records.Commit tx 0 branch cs)) (sym read) fit;
  few = few;
  some = some;
  order = last;
}

pub seen-as : (tx : ℕ) (branch : Bool) (changes : List TableChange) (handles : List Change) (rooms : ℕ) (bytes : List ℕ) → changes_in bytes ≡ changes → making tx branch (changes_in bytes) handles rooms ≡ making tx branch changes handles rooms
seen-as tx branch changes handles rooms bytes read = ap (λ (cs : List TableChange). making tx branch cs handles rooms) read
