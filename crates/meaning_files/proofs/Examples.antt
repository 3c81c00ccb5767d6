-- Small files and commands on them: what the definitions make of them.
use Rattle.std.proofs.Common.{◌≡◌, ℕ, true, false, Bool, List, [], ◌∷◌, length, codes, Option, Some, None, refl, sym, ◌∙◌}
use Rattle.std.specs.Cmp.Lexicographic.{slice_cmp, nat_list_cmp_total}
use Rattle.std.specs.FinMap as map
use Rattle.std.specs.Ordering.{nat_cmp}
use Rattle.dl_base.specs.declared.answer.Answer.{Answer}
use Rattle.dl_base.specs.declared.answer.Answer.TheVariants as answers
use Rattle.dl_base.specs.declared.answer.FileRefusal.{FileRefusal}
use Rattle.dl_base.specs.declared.answer.FileRefusal.TheVariants as refusals
use Rattle.dl_base.specs.declared.answer.Limit.TheVariants as limits
use Rattle.dl_base.specs.declared.answer.Refusal.TheVariants as reasons
use Rattle.dl_base.specs.declared.answer.Why.TheVariants as whys
use Rattle.dl_base.specs.declared.file.File.{File}
use Rattle.dl_base.specs.declared.file.FileCmd.{FileCmd}
use Rattle.dl_base.specs.declared.file.FileRow.{FileRow}
use Rattle.dl_base.specs.declared.file.FileWhat.{FileWhat}
use Rattle.dl_base.specs.declared.file.FileWhat.TheVariants as whats
use Rattle.dl_base.specs.declared.value.LinkNo.{LinkNo}
use Rattle.meaning_files.specs.Commands.{if_exists, too_many, refusal_of, refusal, command_answer, changed}
use Rattle.meaning_files.specs.Files.{Files, with_owner}

abbrev pub ann : List ℕ
ann = codes "ann"

abbrev pub bob : List ℕ
bob = codes "bob"

-- a file of three bytes that its user may write
abbrev pub file_of : List ℕ → File
file_of user = record { owner = record { name = user; writable = true }; bytes = codes "one"; before = None }

abbrev asks : List ℕ → FileWhat → FileCmd
asks user what = record { user = user; what = what }

abbrev refused : FileRefusal → Answer
refused why = answers.Refused (reasons.File why)

-- a command that no link forbids: its answer, and the files after it

abbrev judged : Option FileRefusal → Answer × Files → Files → Answer × Files
judged (Some why) done files = (refused why, files)
judged None done files = done

abbrev file_command : Files → FileCmd → Answer × Files
file_command files cmd = judged (refusal files cmd) (command_answer files cmd.what, changed files cmd) files

abbrev no_files : Files
no_files = map.empty

-- one file, /a, of ann
abbrev one_file : Files
one_file = map.insert map.empty (codes "/a") (file_of ann)

there : map.get one_file (codes "/a") ≡ Some (file_of ann)
there = map.get-insert nat_list_cmp_total map.empty (codes "/a") (file_of ann) (codes "/a")

none : (path : List ℕ) → map.get no_files path ≡ None
none path = map.get-empty (slice_cmp nat_cmp) path

not_there : map.get one_file (codes "/b") ≡ None
not_there = map.get-insert nat_list_cmp_total map.empty (codes "/a") (file_of ann) (codes "/b") ∙ none (codes "/b")

-- the same with the flag off, and an owner that is saved
abbrev kept_file : Bool → File
kept_file on = record { owner = record { name = ann; writable = on }; bytes = codes "one"; before = Some (record { name = ann; writable = true }) }

abbrev one_kept : Files
one_kept = map.insert map.empty (codes "/a") (kept_file false)

kept_there : map.get one_kept (codes "/a") ≡ Some (kept_file false)
kept_there = map.get-insert nat_list_cmp_total map.empty (codes "/a") (kept_file false) (codes "/a")

-- create

created : file_command no_files (asks ann (whats.Create (codes "/a") (codes "one"))) ≡ (answers.Done, one_file)
created = rw (none (codes "/a"), map.len-empty (slice_cmp nat_cmp) File) refl

created_where_a_file_is : file_command one_file (asks bob (whats.Create (codes "/a") (codes "two"))) ≡ (refused (refusals.Exists (codes "/a")), one_file)
created_where_a_file_is = rw there refl

last_file : if_exists (codes "/a") None (too_many 65535) ≡ None
last_file = refl

one_file_too_many : if_exists (codes "/a") None (too_many 65536) ≡ Some (refusals.Limit limits.Files)
one_file_too_many = refl

exists_comes_before_the_limit : if_exists (codes "/a") (Some (file_of ann)) (too_many 65536) ≡ Some (refusals.Exists (codes "/a"))
exists_comes_before_the_limit = refl

-- write: the owner stays, and the saved one

written : file_command one_file (asks ann (whats.Write (codes "/a") (codes "two"))) ≡ (answers.Done, map.insert one_file (codes "/a") (record { owner = record { name = ann; writable = true }; bytes = codes "two"; before = None }))
written = rw there refl

written_by_another : file_command one_file (asks bob (whats.Write (codes "/a") (codes "two"))) ≡ (refused (refusals.NotOwner (codes "/a") ann), one_file)
written_by_another = rw there refl

written_where_none_is : file_command one_file (asks ann (whats.Write (codes "/b") (codes "two"))) ≡ (refused (refusals.NoFile (codes "/b")), one_file)
written_where_none_is = rw not_there refl

written_with_the_flag_off : file_command one_kept (asks ann (whats.Write (codes "/a") (codes "two"))) ≡ (refused (refusals.ReadOnly (codes "/a")), one_kept)
written_with_the_flag_off = rw kept_there refl

not_owner_comes_before_the_flag : file_command one_kept (asks bob (whats.Write (codes "/a") (codes "two"))) ≡ (refused (refusals.NotOwner (codes "/a") ann), one_kept)
not_owner_comes_before_the_flag = rw kept_there refl

-- delete

deleted : file_command one_file (asks ann (whats.Delete (codes "/a"))) ≡ (answers.Done, map.remove one_file (codes "/a"))
deleted = rw there refl

deleted_is_gone : map.get (map.remove one_file (codes "/a")) (codes "/a") ≡ None
deleted_is_gone = map.get-remove nat_list_cmp_total one_file (codes "/a") (codes "/a")

deleted_by_another : file_command one_file (asks bob (whats.Delete (codes "/a"))) ≡ (refused (refusals.NotOwner (codes "/a") ann), one_file)
deleted_by_another = rw there refl

deleted_where_none_is : file_command one_file (asks ann (whats.Delete (codes "/b"))) ≡ (refused (refusals.NoFile (codes "/b")), one_file)
deleted_where_none_is = rw not_there refl

-- rename: the file goes whole to its new path

renamed : file_command one_file (asks ann (whats.Rename (codes "/a") (codes "/b"))) ≡ (answers.Done, map.insert (map.remove one_file (codes "/a")) (codes "/b") (file_of ann))
renamed = rw (there, not_there, there) refl

renamed_by_another : file_command one_file (asks bob (whats.Rename (codes "/a") (codes "/a"))) ≡ (refused (refusals.NotOwner (codes "/a") ann), one_file)
renamed_by_another = rw there refl

renamed_onto_itself : file_command one_file (asks ann (whats.Rename (codes "/a") (codes "/a"))) ≡ (refused (refusals.Exists (codes "/a")), one_file)
renamed_onto_itself = rw there refl

renamed_where_none_is : file_command one_file (asks ann (whats.Rename (codes "/b") (codes "/a"))) ≡ (refused (refusals.NoFile (codes "/b")), one_file)
renamed_where_none_is = rw not_there refl

-- chmod: the bytes stay, and the saved owner

flag_put_on : file_command one_kept (asks ann (whats.Chmod (codes "/a") true)) ≡ (answers.Done, map.insert one_kept (codes "/a") (kept_file true))
flag_put_on = rw (kept_there, kept_there) refl

flag_put_on_by_another : file_command one_kept (asks bob (whats.Chmod (codes "/a") true)) ≡ (refused (refusals.NotOwner (codes "/a") ann), one_kept)
flag_put_on_by_another = rw kept_there refl

-- read

read_by_another : file_command one_file (asks bob (whats.Read (codes "/a") None)) ≡ (answers.Bytes (codes "one"), one_file)
read_by_another = rw there refl

read_where_none_is : file_command one_file (asks ann (whats.Read (codes "/b") None)) ≡ (refused (refusals.NoFile (codes "/b")), one_file)
read_where_none_is = rw not_there refl

-- list: in the order of the paths, not of their creation

empty_list : (es : List (List ℕ × File)) → length es ≡ 0 → es ≡ []
empty_list [] e = refl
empty_list (x ∷ es) e = absurd cc

entries_of_none : map.entries no_files ≡ []
entries_of_none = empty_list (map.entries no_files) (sym (map.len-entries no_files) ∙ map.len-empty (slice_cmp nat_cmp) File)

abbrev b_and_then_a : Files
b_and_then_a = map.insert (map.insert no_files (codes "/b") (file_of bob)) (codes "/a") (file_of ann)

abbrev row : List ℕ → File → FileRow
row path file = record { path = path; file = file }

listed : file_command b_and_then_a (asks bob whats.List) ≡ (answers.Files (row (codes "/a") (file_of ann) ∷ row (codes "/b") (file_of bob) ∷ []), b_and_then_a)
listed = rw (map.entries-insert nat_list_cmp_total (map.insert no_files (codes "/b") (file_of bob)) (codes "/a") (file_of ann), map.entries-insert nat_list_cmp_total no_files (codes "/b") (file_of bob), entries_of_none) refl

-- a link that forbids: behind the missing file, before another owner

abbrev link : LinkNo
link = record { tx = 4294967298; k = 1 }

linked : refusal_of one_file (Some (link, whys.Rename)) bob (whats.Rename (codes "/a") (codes "/a")) ≡ Some (refusals.Forbidden (codes "/a") link whys.Rename)
linked = rw there refl

linked_without_a_file : refusal_of one_file (Some (link, whys.Write)) ann (whats.Write (codes "/b") []) ≡ Some (refusals.NoFile (codes "/b"))
linked_without_a_file = rw not_there refl

linked_read : refusal_of one_file (Some (link, whys.NoToken)) ann (whats.Read (codes "/a") None) ≡ Some (refusals.Forbidden (codes "/a") link whys.NoToken)
linked_read = rw there refl

-- the file manager takes a file over: the bytes stay, and the first owner is saved
taken_over : with_owner one_file (codes "/a") (record { name = codes "dlfm"; writable = false }) (Some (record { name = ann; writable = true })) (Some (file_of ann))
    ≡ map.insert one_file (codes "/a") (record { owner = record { name = codes "dlfm"; writable = false }; bytes = codes "one"; before = Some (record { name = ann; writable = true }) })
taken_over = refl

taken_over_where_none_is : with_owner no_files (codes "/a") (record { name = codes "dlfm"; writable = false }) None None ≡ no_files
taken_over_where_none_is = refl
