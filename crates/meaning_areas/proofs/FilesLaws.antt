-- Laws of the area Files.
use Rattle.std.proofs.Common.{◌≡◌, ℕ, Bool, true, List, [], ◌∷◌, ◌++◌, refl, ap, ◌∙◌, Option, Some, None, is_some, Ok}
use Rattle.std.specs.FinMap as map
use Rattle.std.specs.Option.{option_and_then, unwrap_or}
use Rattle.dl_base.specs.declared.answer.FileRefusal.{FileRefusal}
use Rattle.dl_base.specs.declared.answer.Why.{Why}
use Rattle.dl_base.specs.declared.file.File.{File}
use Rattle.dl_base.specs.declared.file.FileChange.{FileChange}
use Rattle.dl_base.specs.declared.file.FileChange.TheVariants as changes
use Rattle.dl_base.specs.declared.file.FileCmd.{FileCmd}
use Rattle.dl_base.specs.declared.file.FileWhat.{FileWhat}
use Rattle.dl_base.specs.declared.file.FileWhat.TheVariants as whats
use Rattle.dl_base.specs.declared.value.LinkNo.{LinkNo}
use Rattle.dl_codec.specs.Files.{files_record}
use Rattle.dl_codec.proofs.FilesSound.{whole_files_record}
use Rattle.dl_codec.specs.declared.files.FilesRecord.{FilesRecord}
use Rattle.dl_codec.specs.declared.files.FilesRecord.TheVariants as records
use Rattle.meaning_areas.specs.FilesArea.{with_record, files_step, files_of, user_record}
use Rattle.meaning_areas.proofs.FoldLaws.{folded-accepted}
use Rattle.meaning_files.specs.Commands.{needs_file, refusal_of, with_file, put, command_changes, changed}
use Rattle.meaning_files.specs.Files.{Files, with_owner, if_there, with_changes}

-- the fold of a user's record
pub files_step-user_record : (files : Files) (made : List FileChange) → files_record.fits (records.Batch 0 made) → files_step files (user_record made) ≡ with_changes files made
files_step-user_record files made fits = ap (λ (o : Option FilesRecord). with_record files o) (whole_files_record (records.Batch 0 made) fits)

-- FILE COMMANDS, by the file that a command asks for

pub file-there : (path : List ℕ) (o : Option File) (later : File → Option FileRefusal) → needs_file path o later ≡ None → (f : File) × (o ≡ Some f)
file-there path None later e = absurd cc
file-there path (Some f) later e = (f, refl)

module _ (files : Files) (user path : List ℕ) (f : File) (at : map.get files path ≡ Some f) where
  pub file-written : (bytes : List ℕ) → with_changes files (command_changes files user (whats.Write path bytes)) ≡ Some (map.insert files path (record { owner = f.owner; bytes = bytes; before = f.before }))
  file-written bytes = ap (λ (o : Option File). with_changes files (with_file o (λ g. put path (record { owner = g.owner; bytes = bytes; before = g.before }) ∷ []))) at

  pub file-deleted : with_changes files (command_changes files user (whats.Delete path)) ≡ Some (map.remove files path)
  file-deleted = ap (λ (o : Option File). option_and_then (λ (later : Files). Some later) (if_there o (map.remove files path))) at

  pub file-renamed : (to : List ℕ) → with_changes files (command_changes files user (whats.Rename path to)) ≡ Some (map.insert (map.remove files path) to f)
  file-renamed to =
      ap (λ (o : Option File). with_changes files (with_file o (λ g. changes.Removed path ∷ put to g ∷ []))) at
      ∙ ap (λ (o : Option File). option_and_then (λ (later : Files). Some (map.insert later to f)) (if_there o (map.remove files path))) at

  pub file-owned : (on : Bool) → with_changes files (command_changes files user (whats.Chmod path on)) ≡ Some (map.insert files path (record { owner = record { name = f.owner.name; writable = on }; bytes = f.bytes; before = f.before }))
  file-owned on =
      ap (λ (o : Option File). with_changes files (with_file o (λ g. changes.Kept path (record { name = g.owner.name; writable = on }) g.before ∷ []))) at
      ∙ ap (λ (o : Option File). option_and_then (λ (later : Files). Some later) (if_there o (with_owner files path (record { name = f.owner.name; writable = on }) f.before o))) at

-- the changes of a command that is not refused are taken
module _ (files : Files) (forbidden : Option (LinkNo × Why)) (user : List ℕ) where
  taken : (what : FileWhat) (later : Files) → with_changes files (command_changes files user what) ≡ Some later → is_some (with_changes files (command_changes files user what)) ≡ true
  taken what later e = ap is_some e

  command-there : (what : FileWhat) → refusal_of files forbidden user what ≡ None → is_some (with_changes files (command_changes files user what)) ≡ true
  command-there (whats.Create path bytes) e = refl
  command-there (whats.Write path bytes) e = let f = file-there path (map.get files path) _ e in taken (whats.Write path bytes) _ (file-written files user path f.0 f.1 bytes)
  command-there (whats.Delete path) e = let f = file-there path (map.get files path) _ e in taken (whats.Delete path) _ (file-deleted files user path f.0 f.1)
  command-there (whats.Rename path to) e = let f = file-there path (map.get files path) _ e in taken (whats.Rename path to) _ (file-renamed files user path f.0 f.1 to)
  command-there (whats.Chmod path on) e = let f = file-there path (map.get files path) _ e in taken (whats.Chmod path on) _ (file-owned files user path f.0 f.1 on)
  command-there (whats.Read path token) e = refl
  command-there whats.List e = refl

unwrapped : {A : Type 0} (o : Option A) (other : A) → is_some o ≡ true → o ≡ Some (unwrap_or o other)
unwrapped (Some x) other e = refl
unwrapped None other e = absurd cc

-- they are what the command does
pub command-does : (files : Files) (forbidden : Option (LinkNo × Why)) (cmd : FileCmd) → refusal_of files forbidden cmd.user cmd.what ≡ None
    → with_changes files (command_changes files cmd.user cmd.what) ≡ Some (changed files cmd)
command-does files forbidden cmd e = unwrapped (with_changes files (command_changes files cmd.user cmd.what)) files (command-there files forbidden cmd.user cmd.what e)

-- a list with one more record
pub files_of-push : (xs : List (List ℕ)) (files later : Files) (body : List ℕ) → files_of xs ≡ Ok files → files_step files body ≡ Some later → files_of (xs ++ body ∷ []) ≡ Ok later
files_of-push xs files later body so_far accepted = folded-accepted files_step xs map.empty files later body so_far accepted
