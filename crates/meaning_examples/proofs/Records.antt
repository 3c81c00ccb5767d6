-- Records of the five areas as bytes, both ways: each record is spelled so, and these bytes are read as it.
use Rattle.std.proofs.Common.{◌≡◌, ℕ, true, false, Bool, List, [], ◌∷◌, ◌++◌, map, codes, length, Option, Some, None, refl, pos, negsuc}
use Rattle.dl_base.specs.Name.{name_test}
use Rattle.dl_base.specs.Path.{path_test}
use Rattle.dl_base.specs.declared.column.Column.{Column}
use Rattle.dl_base.specs.declared.column.ColumnRule.TheVariants as rules
use Rattle.dl_base.specs.declared.column.Kind.TheVariants as kinds
use Rattle.dl_base.specs.declared.column.OnUnlink.{OnUnlink}
use Rattle.dl_base.specs.declared.column.OnUnlink.TheVariants as unlink
use Rattle.dl_base.specs.declared.column.Options.{Options}
use Rattle.dl_base.specs.declared.column.ReadBy.{ReadBy}
use Rattle.dl_base.specs.declared.column.ReadBy.TheVariants as read
use Rattle.dl_base.specs.declared.column.WriteBy.{WriteBy}
use Rattle.dl_base.specs.declared.column.WriteBy.TheVariants as write
use Rattle.dl_base.specs.declared.file.FileChange.TheVariants as changes
use Rattle.dl_base.specs.declared.file.Owner.{Owner}
use Rattle.dl_base.specs.declared.value.LinkNo.{LinkNo}
use Rattle.dl_base.specs.declared.value.Value.{Value}
use Rattle.dl_base.specs.declared.value.Value.TheVariants as values
use Rattle.dl_codec.specs.Archive.{archive_record, file_copy}
use Rattle.dl_codec.specs.Backups.{backup_record, table_image}
use Rattle.dl_codec.specs.Files.{owner, file_row, file_change, files_record}
use Rattle.dl_codec.specs.Layout.{u32, u64, i64, bool, text, path, name, whole}
use Rattle.dl_codec.specs.Links.{links_record, taken}
use Rattle.dl_codec.specs.Rows.{rows_record, row_change, table_change, done}
use Rattle.dl_codec.specs.Values.{link_number, options, kind, column, datalink, value, link_row}
use Rattle.dl_codec.specs.declared.archive.ArchiveRecord.{ArchiveRecord}
use Rattle.dl_codec.specs.declared.archive.ArchiveRecord.TheVariants as archives
use Rattle.dl_codec.specs.declared.backups.BackupRecord.{BackupRecord}
use Rattle.dl_codec.specs.declared.backups.BackupRecord.TheVariants as backups
use Rattle.dl_codec.specs.declared.files.FilesRecord.{FilesRecord}
use Rattle.dl_codec.specs.declared.files.FilesRecord.TheVariants as files
use Rattle.dl_codec.specs.declared.links.LinksRecord.{LinksRecord}
use Rattle.dl_codec.specs.declared.links.LinksRecord.TheVariants as links
use Rattle.dl_codec.specs.declared.rows.RowsRecord.{RowsRecord}
use Rattle.dl_codec.specs.declared.rows.RowsRecord.TheVariants as rows
use Rattle.dl_codec.specs.declared.rows.TableChange.TheVariants as tables

-- a number below 256 in four bytes, and in eight
abbrev pub four : ℕ → List ℕ
four n = 0 ∷ 0 ∷ 0 ∷ n ∷ []

abbrev pub eight : ℕ → List ℕ
eight n = 0 ∷ 0 ∷ 0 ∷ 0 ∷ 0 ∷ 0 ∷ 0 ∷ n ∷ []

abbrev named : List ℕ → Bool → Owner
named name writable = record { name = name; writable = writable }

-- FILES. `@ann create /a one`: a batch of transaction 0 with one change, which puts a file at /a that ann may write
abbrev created : FilesRecord
created = files.Batch 0 (changes.Put (record { path = codes "/a"; file = record { owner = named (codes "ann") true; bytes = codes "one"; before = None } }) ∷ [])

abbrev pub created_bytes : List ℕ
created_bytes = 1 ∷ eight 0 ++ four 1 ++ 1 ∷ four 2 ++ codes "/a" ++ four 3 ++ codes "ann" ++ 1 ∷ 0 ∷ four 3 ++ codes "one"

created_spelled : files_record.spelling created ≡ created_bytes
unfolding files_record file_change file_row owner path name text bool u64 u32
created_spelled = refl

created_read : whole files_record created_bytes ≡ Some created
unfolding files_record file_change file_row owner path name text bool u64 u32 path_test name_test
created_read = refl

-- a batch of transaction 0x0102030405060708 with three changes: /b is removed; at /a is put a file of dlfm that was ann's; at /c the
-- content stays, bob owns it, and eve did
abbrev three_changes : FilesRecord
three_changes = files.Batch 0x0102030405060708 (
    changes.Removed (codes "/b")
    ∷ changes.Put (record { path = codes "/a"; file = record { owner = named (codes "dlfm") false; bytes = 0 ∷ 255 ∷ []; before = Some (named (codes "ann") true) } })
    ∷ changes.Kept (codes "/c") (named (codes "bob") true) (Some (named (codes "eve") false))
    ∷ []
    )

abbrev pub three_changes_bytes : List ℕ
three_changes_bytes =
    1 ∷ 1 ∷ 2 ∷ 3 ∷ 4 ∷ 5 ∷ 6 ∷ 7 ∷ 8 ∷ four 3
    ++ 0 ∷ four 2 ++ codes "/b"
    ++ 1 ∷ four 2 ++ codes "/a" ++ four 4 ++ codes "dlfm" ++ 0 ∷ 1 ∷ four 3 ++ codes "ann" ++ 1 ∷ four 2 ++ 0 ∷ 255 ∷ []
    ++ 2 ∷ four 2 ++ codes "/c" ++ four 3 ++ codes "bob" ++ 1 ∷ 1 ∷ four 3 ++ codes "eve" ++ 0 ∷ []

three_changes_spelled : files_record.spelling three_changes ≡ three_changes_bytes
unfolding files_record file_change file_row owner path name text bool u64 u32
three_changes_spelled = refl

three_changes_read : whole files_record three_changes_bytes ≡ Some three_changes
unfolding files_record file_change file_row owner path name text bool u64 u32 path_test name_test
three_changes_read = refl

-- ROWS. An opening, and the end of a transaction
opening_of_rows_spelled : rows_record.spelling (rows.Opening 0x01020304) ≡ 1 ∷ 1 ∷ 2 ∷ 3 ∷ 4 ∷ []
unfolding rows_record u32
opening_of_rows_spelled = refl

opening_of_rows_read : whole rows_record (1 ∷ 1 ∷ 2 ∷ 3 ∷ 4 ∷ []) ≡ Some (rows.Opening 0x01020304)
unfolding rows_record u32
opening_of_rows_read = refl

ended_spelled : rows_record.spelling (rows.Ended 258) ≡ 3 ∷ 0 ∷ 0 ∷ 0 ∷ 0 ∷ 0 ∷ 0 ∷ 1 ∷ 2 ∷ []
unfolding rows_record u64
ended_spelled = refl

ended_read : whole rows_record (3 ∷ 0 ∷ 0 ∷ 0 ∷ 0 ∷ 0 ∷ 0 ∷ 1 ∷ 2 ∷ []) ≡ Some (rows.Ended 258)
unfolding rows_record u64
ended_read = refl

-- The commit of transaction 5, number 2, with a branch. Table t is dropped. Of u, whose next row number is 8, row 3 is removed and row 7
-- has -2 and NULL. Table v is new with a column of each type: k INTEGER PRIMARY KEY, t VARCHAR(300) NOT NULL, f without link control, d of
-- READ PERMISSION DB, WRITE PERMISSION BLOCKED, RECOVERY YES, ON UNLINK DELETE; its next row number is 2, and row 1 has 1, 'hi', a
-- datalink with a comment, and one under the number 5-1.
abbrev deleting : Options
deleting = record { read = read.Db; write = write.Blocked; recovery = true; unlink = unlink.Delete }

abbrev key_column : Column
key_column = record { name = codes "k"; kind = kinds.Int; rule = rules.Key }

abbrev columns_of_v : List Column
columns_of_v = key_column
    ∷ record { name = codes "t"; kind = kinds.Text 300; rule = rules.NotNull }
    ∷ record { name = codes "f"; kind = kinds.Free; rule = rules.Plain }
    ∷ record { name = codes "d"; kind = kinds.Linked deleting; rule = rules.Plain }
    ∷ []

abbrev to_a : List ℕ → Option LinkNo → Value
to_a comment link = values.Link (record { location = codes "http://fs1/a"; path = codes "/a"; comment = comment; link = link })

abbrev a_commit : RowsRecord
a_commit = rows.Commit 5 2 true (
    tables.Dropped (codes "t")
    ∷ tables.Kept (codes "u") 8 (record { number = 3; values = None } ∷ record { number = 7; values = Some (values.Int (negsuc 1) ∷ values.Null ∷ []) } ∷ [])
    ∷ tables.New (codes "v") columns_of_v 2 (record { number = 1; values = Some (values.Int (pos 1) ∷ values.Text (codes "hi") ∷ to_a (codes "c") None ∷ to_a [] (Some (record { tx = 5; k = 1 })) ∷ []) } ∷ [])
    ∷ []
    )

abbrev pub commit_bytes : List ℕ
commit_bytes =
    2 ∷ eight 5 ++ eight 2 ++ 1 ∷ four 3
    ++ four 1 ++ codes "t" ++ 0 ∷ []
    ++ four 1 ++ codes "u" ++ 2 ∷ eight 8 ++ four 2
    ++ eight 3 ++ 0 ∷ []
    ++ eight 7 ++ 1 ∷ four 2 ++ 1 ∷ 255 ∷ 255 ∷ 255 ∷ 255 ∷ 255 ∷ 255 ∷ 255 ∷ 254 ∷ 0 ∷ []
    ++ four 1 ++ codes "v" ++ 1 ∷ four 4
    ++ four 1 ++ codes "k" ++ 1 ∷ 2 ∷ []
    ++ four 1 ++ codes "t" ++ 2 ∷ 0 ∷ 0 ∷ 1 ∷ 44 ∷ 1 ∷ []
    ++ four 1 ++ codes "f" ++ 3 ∷ 0 ∷ []
    ++ four 1 ++ codes "d" ++ 4 ∷ 1 ∷ 1 ∷ 1 ∷ 2 ∷ 0 ∷ []
    ++ eight 2 ++ four 1
    ++ eight 1 ++ 1 ∷ four 4
    ++ 1 ∷ eight 1
    ++ 2 ∷ four 2 ++ codes "hi"
    ++ 3 ∷ four 12 ++ codes "http://fs1/a" ++ four 2 ++ codes "/a" ++ four 1 ++ codes "c" ++ 0 ∷ []
    ++ 3 ∷ four 12 ++ codes "http://fs1/a" ++ four 2 ++ codes "/a" ++ four 0 ++ 1 ∷ eight 5 ++ four 1

commit_spelled : rows_record.spelling a_commit ≡ commit_bytes
unfolding rows_record table_change done row_change column kind options value datalink link_number path name text bool u64 u32 i64
commit_spelled = refl

commit_read : whole rows_record commit_bytes ≡ Some a_commit
unfolding rows_record table_change done row_change column kind options value datalink link_number path name text bool u64 u32 i64 path_test name_test
commit_read = refl

-- LINKS. An opening, and what becomes of a branch
opening_of_links_spelled : links_record.spelling (links.Opening 1) ≡ 1 ∷ four 1
unfolding links_record u32
opening_of_links_spelled = refl

opening_of_links_read : whole links_record (1 ∷ four 1) ≡ Some (links.Opening 1)
unfolding links_record u32
opening_of_links_read = refl

outcomes_spelled : map links_record.spelling (links.Committed 7 ∷ links.Done 7 ∷ links.Aborted 7 ∷ []) ≡ (3 ∷ eight 7) ∷ (4 ∷ eight 7) ∷ (5 ∷ eight 7) ∷ []
unfolding links_record u64
outcomes_spelled = refl

outcomes_read : map (whole links_record) ((3 ∷ eight 7) ∷ (4 ∷ eight 7) ∷ (5 ∷ eight 7) ∷ []) ≡ Some (links.Committed 7) ∷ Some (links.Done 7) ∷ Some (links.Aborted 7) ∷ []
unfolding links_record u64
outcomes_read = refl

-- A branch of transaction 0x0102030405060708. It gives the link 1-1 on /a, of READ PERMISSION FS, WRITE PERMISSION BLOCKED, RECOVERY NO,
-- ON UNLINK RESTORE. It takes 258-3 on /b, of DB, BLOCKED, YES, DELETE, whose file is put back.
abbrev a_branch : LinksRecord
a_branch = links.Prepared 0x0102030405060708
    (record { link = record { tx = 1; k = 1 }; path = codes "/a"; options = record { read = read.Fs; write = write.Blocked; recovery = false; unlink = unlink.Restore } } ∷ [])
    (record { link = record { link = record { tx = 258; k = 3 }; path = codes "/b"; options = deleting }; fill = true } ∷ [])

abbrev pub branch_bytes : List ℕ
branch_bytes =
    2 ∷ 1 ∷ 2 ∷ 3 ∷ 4 ∷ 5 ∷ 6 ∷ 7 ∷ 8 ∷ []
    ++ four 1 ++ eight 1 ++ four 1 ++ four 2 ++ codes "/a" ++ 0 ∷ 1 ∷ 0 ∷ 1 ∷ []
    ++ four 1 ++ 0 ∷ 0 ∷ 0 ∷ 0 ∷ 0 ∷ 0 ∷ 1 ∷ 2 ∷ four 3 ++ four 2 ++ codes "/b" ++ 1 ∷ 1 ∷ 1 ∷ 2 ∷ 1 ∷ []

branch_spelled : links_record.spelling a_branch ≡ branch_bytes
unfolding links_record taken link_row link_number options path text bool u64 u32
branch_spelled = refl

branch_read : whole links_record branch_bytes ≡ Some a_branch
unfolding links_record taken link_row link_number options path text bool u64 u32 path_test
branch_read = refl

-- THE SEVEN ROWS OF OPTIONS. A branch of transaction 1 that takes the link 1-1 on /a under some options, which are a byte each: READ
-- PERMISSION, WRITE PERMISSION, RECOVERY, ON UNLINK
abbrev pub taking_bytes : List ℕ → List ℕ
taking_bytes options = 2 ∷ eight 1 ++ four 0 ++ four 1 ++ eight 1 ++ four 1 ++ four 2 ++ codes "/a" ++ options ++ 0 ∷ []

abbrev taking : ReadBy → WriteBy → Bool → OnUnlink → LinksRecord
taking r w recovery u = links.Prepared 1 [] (record { link = record { link = record { tx = 1; k = 1 }; path = codes "/a"; options = record { read = r; write = w; recovery = recovery; unlink = u } }; fill = false } ∷ [])

abbrev seven : List LinksRecord
seven =
    taking read.Fs write.Fs false unlink.Nothing
    ∷ taking read.Fs write.Blocked false unlink.Restore
    ∷ taking read.Fs write.Blocked true unlink.Restore
    ∷ taking read.Db write.Blocked false unlink.Restore
    ∷ taking read.Db write.Blocked false unlink.Delete
    ∷ taking read.Db write.Blocked true unlink.Restore
    ∷ taking read.Db write.Blocked true unlink.Delete
    ∷ []

abbrev seven_bytes : List (List ℕ)
seven_bytes = map taking_bytes (
    (0 ∷ 0 ∷ 0 ∷ 0 ∷ [])
    ∷ (0 ∷ 1 ∷ 0 ∷ 1 ∷ [])
    ∷ (0 ∷ 1 ∷ 1 ∷ 1 ∷ [])
    ∷ (1 ∷ 1 ∷ 0 ∷ 1 ∷ [])
    ∷ (1 ∷ 1 ∷ 0 ∷ 2 ∷ [])
    ∷ (1 ∷ 1 ∷ 1 ∷ 1 ∷ [])
    ∷ (1 ∷ 1 ∷ 1 ∷ 2 ∷ [])
    ∷ []
    )

seven_spelled : map links_record.spelling seven ≡ seven_bytes
unfolding links_record taken link_row link_number options path text bool u64 u32
seven_spelled = refl

seven_read : map (whole links_record) seven_bytes ≡ map (λ record_of. Some record_of) seven
unfolding links_record taken link_row link_number options path text bool u64 u32 path_test
seven_read = refl

-- ARCHIVE. A copy under the link 5-1, whose owner was ann, who could write it; 32 bytes of digest, and the content
abbrev a_copy : ArchiveRecord
a_copy = archives.Copy (record { link = record { tx = 5; k = 1 }; owner = named (codes "ann") true; digest = codes "0123456789abcdef0123456789ABCDEF"; bytes = codes "one" })

abbrev pub copy_bytes : List ℕ
copy_bytes = 1 ∷ eight 5 ++ four 1 ++ four 3 ++ codes "ann" ++ 1 ∷ codes "0123456789abcdef0123456789ABCDEF" ++ four 3 ++ codes "one"

copy_spelled : archive_record.spelling a_copy ≡ copy_bytes
unfolding archive_record file_copy link_number owner name text bool u64 u32
copy_spelled = refl

copy_read : whole archive_record copy_bytes ≡ Some a_copy
unfolding archive_record file_copy link_number owner name text bool u64 u32 name_test
copy_read = refl

-- BACKUPS. Backup 1 behind commit 4 of the table t: version 3, the column k INTEGER PRIMARY KEY, next row number 6, row 2 with 1 and row 5
-- with NULL
abbrev a_backup : BackupRecord
a_backup = backups.Backup 1 4 (record { name = codes "t"; version = 3; columns = key_column ∷ []; next = 6; rows = (2, values.Int (pos 1) ∷ []) ∷ (5, values.Null ∷ []) ∷ [] } ∷ [])

abbrev pub backup_bytes : List ℕ
backup_bytes =
    1 ∷ eight 1 ++ eight 4 ++ four 1
    ++ four 1 ++ codes "t" ++ eight 3 ++ four 1 ++ four 1 ++ codes "k" ++ 1 ∷ 2 ∷ eight 6 ++ four 2
    ++ eight 2 ++ four 1 ++ 1 ∷ eight 1
    ++ eight 5 ++ four 1 ++ 0 ∷ []

backup_spelled : backup_record.spelling a_backup ≡ backup_bytes
unfolding backup_record table_image column kind value name text u64 u32 i64
backup_spelled = refl

backup_read : whole backup_record backup_bytes ≡ Some a_backup
unfolding backup_record table_image column kind value name text u64 u32 i64 name_test
backup_read = refl

-- how many bytes each has
lengths : map length (created_bytes ∷ three_changes_bytes ∷ commit_bytes ∷ branch_bytes ∷ copy_bytes ∷ backup_bytes ∷ []) ≡ 36 ∷ 75 ∷ 234 ∷ 62 ∷ 60 ∷ 91 ∷ []
lengths = refl
