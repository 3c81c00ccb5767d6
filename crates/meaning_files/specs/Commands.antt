-- What a user's command does to the files, and what it is answered.
use Rattle.std.specs.Prelude.{ℕ, true, if◌then◌else◌, List, [], ◌∷◌, map, Option, Some, None, nat_lt, bytes_eq}
use Rattle.std.specs.FinMap as maps
use Rattle.std.specs.Option.{unwrap_or}
use Rattle.dl_base.specs.Limits.{most_files}
use Rattle.dl_base.specs.declared.answer.Answer.{Answer}
use Rattle.dl_base.specs.declared.answer.Answer.TheVariants as answers
use Rattle.dl_base.specs.declared.answer.FileRefusal.{FileRefusal}
use Rattle.dl_base.specs.declared.answer.FileRefusal.TheVariants as refusals
use Rattle.dl_base.specs.declared.answer.Limit.TheVariants as limits
use Rattle.dl_base.specs.declared.answer.Why.{Why}
use Rattle.dl_base.specs.declared.file.File.{File}
use Rattle.dl_base.specs.declared.file.FileChange.{FileChange}
use Rattle.dl_base.specs.declared.file.FileChange.TheVariants as changes
use Rattle.dl_base.specs.declared.file.FileCmd.{FileCmd}
use Rattle.dl_base.specs.declared.file.FileRow.{FileRow}
use Rattle.dl_base.specs.declared.file.FileWhat.{FileWhat}
use Rattle.dl_base.specs.declared.file.FileWhat.TheVariants as whats
use Rattle.dl_base.specs.declared.value.LinkNo.{LinkNo}
use Rattle.meaning_files.specs.Files.{Files, with_changes}

-- WHY A COMMAND IS REFUSED, if it is: the first cause that applies, or what comes later

-- a command on a path asks for its file
abbrev pub needs_file : List ℕ → Option File → (File → Option FileRefusal) → Option FileRefusal
needs_file path None later = Some (refusals.NoFile path)
needs_file path (Some file) later = later file

-- a link of the path may forbid it
abbrev pub if_forbidden : List ℕ → Option (LinkNo × Why) → Option FileRefusal → Option FileRefusal
if_forbidden path (Some f) later = Some (refusals.Forbidden path f.0 f.1)
if_forbidden path None later = later

-- who changes a file must own it
abbrev pub not_owner : List ℕ → List ℕ → File → Option FileRefusal → Option FileRefusal
not_owner user path file later = if bytes_eq file.owner.name user then later else Some (refusals.NotOwner path file.owner.name)

abbrev pub read_only : List ℕ → File → Option FileRefusal
read_only path file = if file.owner.writable then None else Some (refusals.ReadOnly path)

-- a new path must be free
abbrev pub if_exists : List ℕ → Option File → Option FileRefusal → Option FileRefusal
if_exists path (Some file) later = Some (refusals.Exists path)
if_exists path None later = later

abbrev pub too_many : ℕ → Option FileRefusal
too_many count = if nat_lt count most_files then None else Some (refusals.Limit limits.Files)

-- of a user's command on these files, where this link of its path forbids it, if one does
abbrev pub refusal_of : Files → Option (LinkNo × Why) → List ℕ → FileWhat → Option FileRefusal
refusal_of files forbidden user (whats.Create path bytes) = if_exists path (maps.get files path) (too_many (maps.len files))
refusal_of files forbidden user (whats.Write path bytes) = needs_file path (maps.get files path) (λ file. if_forbidden path forbidden (not_owner user path file (read_only path file)))
refusal_of files forbidden user (whats.Delete path) = needs_file path (maps.get files path) (λ file. if_forbidden path forbidden (not_owner user path file None))
refusal_of files forbidden user (whats.Rename path to) = needs_file path (maps.get files path) (λ file. if_forbidden path forbidden (not_owner user path file (if_exists to (maps.get files to) None)))
refusal_of files forbidden user (whats.Chmod path on) = needs_file path (maps.get files path) (λ file. if_forbidden path forbidden (not_owner user path file None))
refusal_of files forbidden user (whats.Read path token) = needs_file path (maps.get files path) (λ file. if_forbidden path forbidden None)
refusal_of files forbidden user whats.List = None

-- of a command that no link forbids
abbrev pub refusal : Files → FileCmd → Option FileRefusal
refusal files cmd = refusal_of files None cmd.user cmd.what

-- THE CHANGES of an accepted command, in order: the record that it writes has them, and they are its effect

-- a user's new file: its owner may write it, and no owner is saved
abbrev pub new_file : List ℕ → List ℕ → File
new_file user bytes = record { owner = record { name = user; writable = true }; bytes = bytes; before = None }

abbrev pub with_file : Option File → (File → List FileChange) → List FileChange
with_file None made = []
with_file (Some file) made = made file

abbrev pub put : List ℕ → File → FileChange
put path file = changes.Put (record { path = path; file = file })

abbrev pub command_changes : Files → List ℕ → FileWhat → List FileChange
command_changes files user (whats.Create path bytes) = put path (new_file user bytes) ∷ []
command_changes files user (whats.Write path bytes) = with_file (maps.get files path) (λ file. put path (record file { bytes = bytes }) ∷ [])
command_changes files user (whats.Delete path) = changes.Removed path ∷ []
command_changes files user (whats.Rename path to) = with_file (maps.get files path) (λ file. changes.Removed path ∷ put to file ∷ [])
command_changes files user (whats.Chmod path on) = with_file (maps.get files path) (λ file. changes.Kept path (record { name = file.owner.name; writable = on }) file.before ∷ [])
command_changes files user (whats.Read path token) = []
command_changes files user whats.List = []

-- the files after a command that is not refused
abbrev pub changed : Files → FileCmd → Files
changed files cmd = unwrap_or (with_changes files (command_changes files cmd.user cmd.what)) files

-- THE ANSWER of a command that is not refused

abbrev pub bytes_of : Option File → Answer
bytes_of None = answers.Done
bytes_of (Some file) = answers.Bytes file.bytes

-- all files, in the order of the paths' bytes
abbrev pub rows_of : Files → List FileRow
rows_of files = map (λ e. record { path = e.0; file = e.1 }) (maps.entries files)

abbrev pub command_answer : Files → FileWhat → Answer
command_answer files (whats.Create path bytes) = answers.Done
command_answer files (whats.Write path bytes) = answers.Done
command_answer files (whats.Delete path) = answers.Done
command_answer files (whats.Rename path to) = answers.Done
command_answer files (whats.Chmod path on) = answers.Done
command_answer files (whats.Read path token) = bytes_of (maps.get files path)
command_answer files whats.List = answers.Files (rows_of files)
