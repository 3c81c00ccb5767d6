-- What an append leaves of the files.
use Rattle.std.proofs.Common.{◌≡◌, inl, inr, ⊎_elim, ℕ, List, [], ◌∷◌, ◌++◌, refl, sym, ap, subst, ◌∙◌, Option, Some, None}
use Rattle.std.specs.FinMap as map
use Rattle.dl_base.proofs.Moments.{touches_more}
use Rattle.dl_base.specs.Outside.{Outside, ChangesOnly}
use Rattle.dl_base.specs.declared.answer.FileRefusal.{FileRefusal}
use Rattle.dl_base.specs.declared.area.Area.{Area}
use Rattle.dl_base.specs.declared.area.Area.TheVariants as areas
use Rattle.dl_base.specs.declared.file.File.{File}
use Rattle.dl_base.specs.declared.file.FileChange.{FileChange}
use Rattle.dl_base.specs.declared.file.FileChange.TheVariants as changes
use Rattle.dl_base.specs.declared.file.FileCmd.{FileCmd}
use Rattle.dl_base.specs.declared.file.FileWhat.{FileWhat}
use Rattle.dl_base.specs.declared.file.FileWhat.TheVariants as whats
use Rattle.dl_codec.proofs.FilesSound.{whole_files_record}
use Rattle.dl_codec.specs.Files.{files_record}
use Rattle.dl_codec.specs.declared.files.FilesRecord.{FilesRecord}
use Rattle.dl_codec.specs.declared.files.FilesRecord.TheVariants as records
use Rattle.dl_journal.specs.Extent.{Extent}
use Rattle.dl_journal.specs.Open.{Keeps, AddsOne, grown}
use Rattle.dl_journal.specs.Records.{IsAtRest}
use Rattle.dl_areas.specs.Batch.{writes_in}
use Rattle.fs_files.specs.Batch.{Batch, batch_record, batch_write}
use Rattle.fs_files.specs.Store.{Catalog, extent, Holds, HoldsFiles, StandsWithout, StandsAround, IsWriting, record_of}
use Rattle.meaning_areas.proofs.FilesLaws.{files_of-push, file-there, command-does}
use Rattle.meaning_areas.specs.FilesArea.{accepted_writes, files_step, user_record, user_records, with_record, writes}
use Rattle.meaning_files.specs.Commands.{refusal_of, refusal, with_file, put, command_changes, changed}
use Rattle.meaning_files.specs.Files.{Files, with_changes}

abbrev pub batch : ℕ → List FileChange → Batch
batch tx made = record { tx = tx; changes = made }

-- the fold of a batch's record
pub step-batch : (files : Files) (made : Batch) → files_record.fits (records.Batch made.tx made.changes) → files_step files (batch_record made) ≡ with_changes files made.changes
step-batch files made fits = ap (λ (o : Option FilesRecord). with_record files o) (whole_files_record (records.Batch made.tx made.changes) fits)

-- what a journal of the area Files, some files and room for more are seen as
abbrev pub seen : Extent → Files → ℕ → Catalog
seen journal files spare = record { files = files; spare = spare; length = journal.length; limit = journal.limit }

pub extent-seen : (journal : Extent) (files : Files) (spare : ℕ) → journal.area ≡ areas.Files → extent (seen journal files spare) ≡ journal
extent-seen journal files spare at = ap (λ (a : Area). record { area = a; length = journal.length; limit = journal.limit }) (sym at)

-- a batch's record more
pub holds_after : (now : Catalog) (j k : Extent) (files later : Files) (spare left : ℕ) (made : Batch) (body : List ℕ) (count : ℕ) (o n : Outside)
    → seen j files spare ≡ now → j.area ≡ areas.Files → k ≡ grown j count → files_record.fits (records.Batch made.tx made.changes) → body ≡ batch_record made
    → ((bodies : List (List ℕ)) → Keeps j bodies o → Keeps k (bodies ++ body ∷ []) n)
    → with_changes files made.changes ≡ Some later
    → (bodies : List (List ℕ)) → Holds now bodies o → Holds (seen k later left) (bodies ++ batch_record made ∷ []) n
holds_after now j k files later spare left made body count o n view at grew fits is kept changed bodies held =
    let was : Holds (seen j files spare) bodies o = subst (λ (c : Catalog). Holds c bodies o) (sym view) held in
    let before : Keeps j bodies o = subst (λ (e : Extent). Keeps e bodies o) (extent-seen j files spare at) was.keeps in
    let after : Keeps k (bodies ++ batch_record made ∷ []) n = subst (λ (b : List ℕ). Keeps k (bodies ++ b ∷ []) n) is (kept bodies before) in
    record {
      keeps = subst (λ (e : Extent). Keeps e (bodies ++ batch_record made ∷ []) n) (sym (extent-seen k later left (ap (λ (e : Extent). e.area) grew ∙ at))) after;
      stands = files_of-push bodies files later (batch_record made) was.stands (step-batch files made fits ∙ changed);
    }

-- each image of an area that holds a list has it
pub holds_image : (now : Catalog) (bodies : List (List ℕ)) (o : Outside) → Holds now bodies o → (c : List ℕ) → o.image areas.Files c → HoldsFiles bodies now.files c
holds_image now bodies o held c left = record { at_rest = held.keeps.images c left; stands = held.stands }

-- a record is appended
pub writes_record : (now : Catalog) (j : Extent) (files : Files) (spare : ℕ) (made : Batch) (body : List ℕ) (o n : Outside)
    → seen j files spare ≡ now → j.area ≡ areas.Files → files_record.fits (records.Batch made.tx made.changes) → body ≡ batch_record made
    → ChangesOnly j.area (AddsOne j body o) o n → ChangesOnly areas.Files (StandsWithout now made o) o n
writes_record now j files spare made body o n view at fits is t =
    touches_more areas.Files (AddsOne j body o) (StandsWithout now made o) o n wider (subst (λ (a : Area). ChangesOnly a (AddsOne j body o) o n) at t)
  where
    wider : (c : List ℕ) → AddsOne j body o c → StandsWithout now made o c
    wider c adds bodies later changed held =
        let was : Holds (seen j files spare) bodies o = subst (λ (k : Catalog). Holds k bodies o) (sym view) held in
        let before : Keeps j bodies o = subst (λ (e : Extent). Keeps e bodies o) (extent-seen j files spare at) was.keeps in
        ⊎_elim
        (λ old. inl (record { at_rest = old; stands = held.stands }))
        (λ new. inr (record {
          at_rest = subst (λ (b : List ℕ). IsAtRest (bodies ++ b ∷ []) c) is new;
          stands = files_of-push bodies now.files later (batch_record made) held.stands (step-batch now.files made fits ∙ changed);
        }))
        (adds bodies before)

-- a command that writes is one record
recorded : (o : Option File) (f : File) → o ≡ Some f → (c : File → FileChange) (cs : File → List FileChange) → user_records (with_file o (λ g. c g ∷ cs g)) ≡ user_record (with_file o (λ g. c g ∷ cs g)) ∷ []
recorded None f at c cs = absurd cc
recorded (Some g) f at c cs = refl

one-record : (files : Files) (user : List ℕ) (what : FileWhat) → refusal_of files None user what ≡ None → IsWriting what → user_records (command_changes files user what) ≡ user_record (command_changes files user what) ∷ []
one-record files user (whats.Create path bytes) e w = refl
one-record files user (whats.Write path bytes) e w =
    let f = file-there path (map.get files path) _ e in
    recorded (map.get files path) f.0 f.1 (λ g. put path (record { owner = g.owner; bytes = bytes; before = g.before })) (λ g. [])
one-record files user (whats.Delete path) e w = refl
one-record files user (whats.Rename path to) e w =
    let f = file-there path (map.get files path) _ e in
    recorded (map.get files path) f.0 f.1 (λ g. changes.Removed path) (λ g. put to g ∷ [])
one-record files user (whats.Chmod path on) e w =
    let f = file-there path (map.get files path) _ e in
    recorded (map.get files path) f.0 f.1 (λ g. changes.Kept path (record { name = g.owner.name; writable = on }) g.before) (λ g. [])
one-record files user (whats.Read path token) e w = absurd w
one-record files user whats.List e w = absurd w

pub writes-one : (files : Files) (cmd : FileCmd) → refusal files cmd ≡ None → IsWriting cmd.what → writes files cmd ≡ record_of files cmd ∷ []
writes-one files cmd accepted writing =
    ap (λ (o : Option FileRefusal). accepted_writes o (user_records (command_changes files cmd.user cmd.what))) accepted
    ∙ one-record files cmd.user cmd.what accepted writing

-- A COMMAND'S BATCH, made in files that got room for it
pub record Asked (was now : Catalog) (cmd : FileCmd) (made : Batch) : Type 0 where
  pub accepted : refusal was.files cmd ≡ None
  pub writing : IsWriting cmd.what
  pub same : now ≡ record { files = was.files; spare = now.spare; length = was.length; limit = was.limit }
  pub is : made ≡ record { tx = 0; changes = command_changes was.files cmd.user cmd.what }

pub ask : (was now : Catalog) (cmd : FileCmd) (made : Batch) (some : List FileChange) → refusal was.files cmd ≡ None → IsWriting cmd.what
    → now ≡ record { files = was.files; spare = now.spare; length = was.length; limit = was.limit } → made ≡ record { tx = 0; changes = some } → some ≡ command_changes was.files cmd.user cmd.what → Asked was now cmd made
ask was now cmd made some accepted writing same value are = record {
  accepted = accepted;
  writing = writing;
  same = same;
  is = value ∙ ap (batch 0) are;
}

module _ (was now : Catalog) (cmd : FileCmd) (made : Batch) (a : Asked was now cmd made) where
  files-same : now.files ≡ was.files
  files-same = ap (λ (c : Catalog). c.files) a.same

  pub extent-same : extent now ≡ extent was
  extent-same = ap extent a.same

  holds-same : (bodies : List (List ℕ)) (o : Outside) → Holds was bodies o → Holds now bodies o
  holds-same bodies o held = subst (λ (c : Catalog). Holds c bodies o) (sym a.same) (record { keeps = held.keeps; stands = held.stands })

  -- its record, which is all that the command writes
  pub asked-record : batch_record made ≡ record_of was.files cmd
  asked-record = ap batch_record a.is

  writes-made : batch_record made ∷ [] ≡ writes was.files cmd
  writes-made = ap (λ (b : List ℕ). b ∷ []) asked-record ∙ sym (writes-one was.files cmd a.accepted a.writing)

  pub asked-writes : batch_write made ∷ [] ≡ writes_in areas.Files (writes was.files cmd)
  asked-writes = ap (writes_in areas.Files) writes-made

  -- its changes are taken
  pub asked-taken : with_changes now.files made.changes ≡ Some (changed was.files cmd)
  asked-taken =
      ap (λ (f : Files). with_changes f made.changes) files-same ∙ ap (λ (b : Batch). with_changes was.files b.changes) a.is
      ∙ command-does was.files None cmd a.accepted

  pub asked-kept : (later : Catalog) (o n : Outside) → ((bodies : List (List ℕ)) → Holds now bodies o → Holds later (bodies ++ batch_record made ∷ []) n)
      → (bodies : List (List ℕ)) → Holds was bodies o → Holds later (bodies ++ writes was.files cmd) n
  asked-kept later o n kept bodies held = subst (λ (more : List (List ℕ)). Holds later (bodies ++ more) n) writes-made (kept bodies (holds-same bodies o held))

  pub asked-images : (o n : Outside) → ChangesOnly areas.Files (StandsWithout now made o) o n → ChangesOnly areas.Files (StandsAround was cmd o) o n
  asked-images o n t = touches_more areas.Files (StandsWithout now made o) (StandsAround was cmd o) o n wider t
    where
      wider : (c : List ℕ) → StandsWithout now made o c → StandsAround was cmd o c
      wider c stands bodies held = ⊎_elim
          (λ old. inl (subst (λ (f : Files). HoldsFiles bodies f c) files-same old))
          (λ new. inr (subst (λ (more : List (List ℕ)). HoldsFiles (bodies ++ more) (changed was.files cmd) c) writes-made new))
          (stands bodies (changed was.files cmd) asked-taken (holds-same bodies o held))
