-- The records of a Finish.
use Rattle.std.specs.Prelude.{◌≡◌, ℕ, ◌&&◌, Bool, true, false, if◌then◌else◌, List, [], ◌∷◌, ◌++◌, map, bytes_eq, is_some, is_none, Option, Some, None}
use Rattle.std.specs.FinMap as maps
use Rattle.std.specs.List.{filter_map, find, list_any}
use Rattle.sha2.specs.Sha256.{sha256}
use Rattle.dl_base.specs.declared.file.File.{File}
use Rattle.dl_base.specs.declared.file.FileChange.{FileChange}
use Rattle.dl_base.specs.declared.file.FileChange.TheVariants as changes
use Rattle.dl_base.specs.declared.value.LinkNo.{LinkNo}
use Rattle.dl_base.specs.declared.value.LinkRow.{LinkRow}
use Rattle.dl_codec.specs.declared.files.FilesRecord.TheVariants as files_records
use Rattle.dl_codec.specs.declared.archive.ArchiveRecord.TheVariants as archive_records
use Rattle.dl_codec.specs.declared.links.BranchPhase.{BranchPhase}
use Rattle.dl_codec.specs.declared.links.BranchPhase.TheVariants as branch_phases
use Rattle.dl_codec.specs.declared.archive.FileCopy.{FileCopy}
use Rattle.dl_codec.specs.declared.links.LinksRecord.TheVariants as links_records
use Rattle.dl_codec.specs.declared.rows.RowsRecord.TheVariants as rows_records
use Rattle.meaning_files.specs.Files.{Files}
use Rattle.meaning_settling.specs.Keyed.{Keyed, is_at}
use Rattle.meaning_settling.specs.Settling.{Copy, Copies, Moved, Kept, original, link_key, copy_after, paths_of, file_after, copies_after}
use Rattle.meaning_areas.specs.Same.{same_file}
use Rattle.meaning_areas.specs.Lists.{Written, in_rows, in_links, in_files, in_archive}

-- copies that are still to be made

abbrev pub made_copy : LinkNo → Copy → FileCopy
made_copy n c = record { link = n; owner = c.owner; digest = sha256 c.bytes; bytes = c.bytes }

abbrev pub is_missing : Moved → Files → Copies → LinkRow → Bool
is_missing m files copies g = is_none (maps.get copies (link_key g.link)) && is_some (copy_after m files (link_key g.link) None)

abbrev pub missing : Moved → Kept → Option LinkRow
missing m k = find (is_missing m k.files k.copies) m.gives

-- the change of one path
abbrev pub change_to : List ℕ → Option File → Option File → Option FileChange
change_to path None None = None
change_to path None (Some after) = Some (changes.Put (record { path = path; file = after }))
change_to path (Some before) None = Some (changes.Removed path)
change_to path (Some before) (Some after) =
    if same_file before after then None
    else (if bytes_eq before.bytes after.bytes then Some (changes.Kept path after.owner after.before)
    else Some (changes.Put (record { path = path; file = after })))

-- the paths of a transaction once each, in the order of their bytes
abbrev pub path_set : List (List ℕ) → Keyed (Unit {0})
path_set [] = maps.empty
path_set (p ∷ ps) = maps.insert (path_set ps) p tt

abbrev pub sorted_paths : Moved → List (List ℕ)
sorted_paths m = map (λ e. e.0) (maps.entries (path_set (paths_of m)))

abbrev pub changes_on : List (List ℕ) → (List ℕ → Option File → Option File) → Files → List FileChange
changes_on ps change files = filter_map (λ p. change_to p (maps.get files p) (change p (maps.get files p))) ps

abbrev pub batch_changes : Moved → Kept → List FileChange
batch_changes m k = changes_on (sorted_paths m) (file_after m (copies_after m k)) k.files

-- THE NEXT RECORD of a Finish whose Committed is there: a copy, or else the files, or else Done
abbrev pub after_copies : ℕ → List FileChange → Written
after_copies tx [] = in_links (links_records.Done tx)
after_copies tx (c ∷ cs) = in_files (files_records.Batch tx (c ∷ cs))

abbrev pub or_copy : Moved → Files → Written → LinkRow → Option Copy → Written
or_copy m files later g None = later
or_copy m files later g (Some c) = in_archive (archive_records.Copy (made_copy g.link c))

abbrev pub by_missing : ℕ → Moved → Kept → Option LinkRow → Written
by_missing tx m k None = after_copies tx (batch_changes m k)
by_missing tx m k (Some g) = or_copy m k.files (after_copies tx (batch_changes m k)) g (copy_after m k.files (link_key g.link) None)

abbrev pub next_record : ℕ → Moved → Kept → Written
next_record tx m k = by_missing tx m k (missing m k)

-- THE RECORDS OF A FINISH, those that are not there yet

abbrev pub file_copy : LinkRow → File → FileCopy
file_copy g f = record { link = g.link; owner = original f; digest = sha256 f.bytes; bytes = f.bytes }

abbrev pub copy_by : LinkRow → Option Copy → Option File → Option Written
copy_by g (Some c) f = None
copy_by g None None = None
copy_by g None (Some f) = if g.options.recovery then Some (in_archive (archive_records.Copy (file_copy g f))) else None

abbrev pub copy_records : Moved → Kept → List Written
copy_records m k = filter_map (λ g. copy_by g (maps.get k.copies (link_key g.link)) (maps.get k.files g.path)) m.gives

abbrev pub batch_of : ℕ → List FileChange → List Written
batch_of tx [] = []
batch_of tx (c ∷ cs) = in_files (files_records.Batch tx (c ∷ cs)) ∷ []

abbrev pub committed_record : ℕ → BranchPhase → List Written
committed_record tx branch_phases.Prepared = in_links (links_records.Committed tx) ∷ []
committed_record tx p = []

abbrev pub finish_records : ℕ → BranchPhase → Moved → Kept → List Written
finish_records tx p m k = committed_record tx p ++ copy_records m k ++ batch_of tx (batch_changes m k) ++ in_links (links_records.Done tx) ∷ in_rows (rows_records.Ended tx) ∷ []

-- links of different numbers
abbrev pub AreNumbered : List LinkRow → Type 0
AreNumbered [] = Unit {0}
AreNumbered (g ∷ gs) = ((x : LinkRow) → list_any (λ y. is_at (link_key x.link) (link_key y.link)) gs ≡ true → is_at (link_key x.link) (link_key g.link) ≡ false) × AreNumbered gs
