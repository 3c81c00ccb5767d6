-- Bytes that are no record of their area: a front of one, one with a byte more, and one with another byte at some place.
use Rattle.std.proofs.Common.{◌≡◌, ◌+◌, ℕ, zero, suc, true, Bool, List, [], ◌∷◌, ◌++◌, take, drop, length, is_none, refl}
use Rattle.std.specs.List.{list_all}
use Rattle.dl_base.specs.Name.{name_test}
use Rattle.dl_base.specs.Path.{path_test}
use Rattle.dl_codec.specs.Archive.{archive_record, file_copy}
use Rattle.dl_codec.specs.Backups.{backup_record, table_image}
use Rattle.dl_codec.specs.Files.{owner, file_row, file_change, files_record}
use Rattle.dl_codec.specs.Layout.{Layout, u32, u64, i64, bool, text, path, name, whole}
use Rattle.dl_codec.specs.Links.{links_record, taken}
use Rattle.dl_codec.specs.Rows.{rows_record, row_change, table_change, done}
use Rattle.dl_codec.specs.Values.{link_number, options, kind, column, datalink, value, link_row}
use Rattle.meaning_examples.proofs.Records.{taking_bytes, created_bytes, three_changes_bytes, commit_bytes, branch_bytes, copy_bytes, backup_bytes}

-- ---- fronts, and a byte more

-- the numbers below one, the greatest first
abbrev below : ℕ → List ℕ
below zero = []
below (suc n) = n ∷ below n

-- no front of the bytes is a record, nor the bytes with a zero behind them
abbrev fronts_are_none : {A : Type 0} → Layout A → List ℕ → Bool
fronts_are_none layout bytes = list_all (λ n. is_none (whole layout (take n bytes))) (below (length bytes))

abbrev is_none_with_more : {A : Type 0} → Layout A → List ℕ → Bool
is_none_with_more layout bytes = is_none (whole layout (bytes ++ 0 ∷ []))

fronts_of_files : fronts_are_none files_record three_changes_bytes ≡ true
unfolding files_record file_change file_row owner path name text bool u64 u32 path_test name_test
fronts_of_files = refl

fronts_of_a_commit : fronts_are_none rows_record commit_bytes ≡ true
unfolding rows_record table_change done row_change column kind options value datalink link_number path name text bool u64 u32 i64 path_test name_test
fronts_of_a_commit = refl

fronts_of_a_branch : fronts_are_none links_record branch_bytes ≡ true
unfolding links_record taken link_row link_number options path text bool u64 u32 path_test
fronts_of_a_branch = refl

fronts_of_a_copy : fronts_are_none archive_record copy_bytes ≡ true
unfolding archive_record file_copy link_number owner name text bool u64 u32 name_test
fronts_of_a_copy = refl

fronts_of_a_backup : fronts_are_none backup_record backup_bytes ≡ true
unfolding backup_record table_image column kind value name text u64 u32 i64 name_test
fronts_of_a_backup = refl

files_and_more : is_none_with_more files_record three_changes_bytes ≡ true
unfolding files_record file_change file_row owner path name text bool u64 u32 path_test name_test
files_and_more = refl

a_commit_and_more : is_none_with_more rows_record commit_bytes ≡ true
unfolding rows_record table_change done row_change column kind options value datalink link_number path name text bool u64 u32 i64 path_test name_test
a_commit_and_more = refl

a_branch_and_more : is_none_with_more links_record branch_bytes ≡ true
unfolding links_record taken link_row link_number options path text bool u64 u32 path_test
a_branch_and_more = refl

a_copy_and_more : is_none_with_more archive_record copy_bytes ≡ true
unfolding archive_record file_copy link_number owner name text bool u64 u32 name_test
a_copy_and_more = refl

a_backup_and_more : is_none_with_more backup_record backup_bytes ≡ true
unfolding backup_record table_image column kind value name text u64 u32 i64 name_test
a_backup_and_more = refl

-- ---- another byte at a place, counted from 0

abbrev with_byte : List ℕ → ℕ × ℕ → List ℕ
with_byte bytes at = take at.0 bytes ++ at.1 ∷ drop (at.0 + 1) bytes

-- each of these bytes at its place makes the record none
abbrev are_none_with : {A : Type 0} → Layout A → List ℕ → List (ℕ × ℕ) → Bool
are_none_with layout bytes at = list_all (λ one. is_none (whole layout (with_byte bytes one))) at

-- Of the record of `@ann create /a one`. No such record, and no such change
created_kinds : are_none_with files_record created_bytes ((0, 0) ∷ (0, 2) ∷ (13, 3) ∷ []) ≡ true
unfolding files_record file_change file_row owner path name text bool u64 u32 path_test name_test
created_kinds = refl

-- a change less or more than there are, a text of more bytes than there are or of fewer
created_counts : are_none_with files_record created_bytes ((12, 0) ∷ (12, 2) ∷ (29, 1) ∷ (32, 2) ∷ []) ≡ true
unfolding files_record file_change file_row owner path name text bool u64 u32 path_test name_test
created_counts = refl

-- a path with a byte that is not visible, without its slash, with one at its end; a name that begins with a digit, and one with a dash
created_names : are_none_with files_record created_bytes ((17, 3) ∷ (18, 97) ∷ (19, 47) ∷ (24, 49) ∷ (26, 45) ∷ []) ≡ true
unfolding files_record file_change file_row owner path name text bool u64 u32 path_test name_test
created_names = refl

-- neither 0 nor 1 for the flag and for the saved owner
created_flags : are_none_with files_record created_bytes ((27, 2) ∷ (28, 2) ∷ []) ≡ true
unfolding files_record file_change file_row owner path name text bool u64 u32 path_test name_test
created_flags = refl

-- Of the commit. No such record, an opening with bytes left over; no such change of a table or of a row, no such value, no such type
commit_kinds : are_none_with rows_record commit_bytes ((0, 0) ∷ (0, 1) ∷ (0, 4) ∷ (27, 3) ∷ (54, 2) ∷ (68, 4) ∷ (93, 0) ∷ (93, 5) ∷ []) ≡ true
unfolding rows_record table_change done row_change column kind options value datalink link_number path name text bool u64 u32 i64 path_test name_test
commit_kinds = refl

-- more tables, values and bytes of a text than there are; a table and a link number that are left over
commit_counts : are_none_with rows_record commit_bytes ((18, 255) ∷ (21, 2) ∷ (64, 255) ∷ (159, 255) ∷ (221, 0) ∷ []) ≡ true
unfolding rows_record table_change done row_change column kind options value datalink link_number path name text bool u64 u32 i64 path_test name_test
commit_counts = refl

-- a name that begins with a digit, and a path without its slash
commit_names : are_none_with rows_record commit_bytes ((26, 49) ∷ (186, 97) ∷ []) ≡ true
unfolding rows_record table_change done row_change column kind options value datalink link_number path name text bool u64 u32 i64 path_test name_test
commit_names = refl

-- neither 0 nor 1 for the branch and for the link number; no such rule, of a text and of a datalink
commit_flags : are_none_with rows_record commit_bytes ((17, 2) ∷ (193, 2) ∷ (94, 3) ∷ (123, 3) ∷ []) ≡ true
unfolding rows_record table_change done row_change column kind options value datalink link_number path name text bool u64 u32 i64 path_test name_test
commit_flags = refl

-- no such READ PERMISSION, WRITE PERMISSION ADMIN, no such RECOVERY, none of the seven rows, no such ON UNLINK
commit_options : are_none_with rows_record commit_bytes ((119, 2) ∷ (120, 2) ∷ (121, 2) ∷ (122, 0) ∷ (122, 3) ∷ []) ≡ true
unfolding rows_record table_change done row_change column kind options value datalink link_number path name text bool u64 u32 i64 path_test name_test
commit_options = refl

-- Of the branch. No such record, an opening and an outcome with bytes left over
branch_kinds : are_none_with links_record branch_bytes ((0, 0) ∷ (0, 1) ∷ (0, 3) ∷ (0, 6) ∷ []) ≡ true
unfolding links_record taken link_row link_number options path text bool u64 u32 path_test
branch_kinds = refl

-- more links than there are bytes for; links that are left over, and one that is missing
branch_counts : are_none_with links_record branch_bytes ((9, 255) ∷ (12, 0) ∷ (38, 0) ∷ (38, 2) ∷ []) ≡ true
unfolding links_record taken link_row link_number options path text bool u64 u32 path_test
branch_counts = refl

-- a path without its slash, and one that ends with a slash
branch_paths : are_none_with links_record branch_bytes ((29, 97) ∷ (30, 47) ∷ []) ≡ true
unfolding links_record taken link_row link_number options path text bool u64 u32 path_test
branch_paths = refl

-- two times none of the seven rows, WRITE PERMISSION ADMIN, and neither 0 nor 1 for a file that is put back
branch_options : are_none_with links_record branch_bytes ((32, 0) ∷ (34, 2) ∷ (58, 2) ∷ (61, 2) ∷ []) ≡ true
unfolding links_record taken link_row link_number options path text bool u64 u32 path_test
branch_options = refl

-- Of the copy. No such record; a name with a byte that is none of a name, and one that begins with a digit; neither 0 nor 1 for the flag
copy_kinds : are_none_with archive_record copy_bytes ((0, 0) ∷ (0, 2) ∷ (16, 4) ∷ (17, 49) ∷ (20, 2) ∷ []) ≡ true
unfolding archive_record file_copy link_number owner name text bool u64 u32 name_test
copy_kinds = refl

-- a content of more bytes than there are, and of fewer
copy_counts : are_none_with archive_record copy_bytes ((53, 255) ∷ (56, 2) ∷ []) ≡ true
unfolding archive_record file_copy link_number owner name text bool u64 u32 name_test
copy_counts = refl

-- Of the backup. No such record; a name that begins with a digit; no such type, rule or value, and a number without its bytes
backup_kinds : are_none_with backup_record backup_bytes ((0, 0) ∷ (0, 2) ∷ (25, 49) ∷ (43, 0) ∷ (44, 3) ∷ (69, 4) ∷ (90, 1) ∷ []) ≡ true
unfolding backup_record table_image column kind value name text u64 u32 i64 name_test
backup_kinds = refl

-- more tables, columns, rows and values than there are bytes for; a table and a row that are left over
backup_counts : are_none_with backup_record backup_bytes ((17, 255) ∷ (20, 0) ∷ (34, 255) ∷ (53, 255) ∷ (56, 1) ∷ (65, 255) ∷ []) ≡ true
unfolding backup_record table_image column kind value name text u64 u32 i64 name_test
backup_counts = refl

-- ---- options that are none of the seven rows

-- a branch that takes a link under these options is none
abbrev are_no_options : List (List ℕ) → Bool
are_no_options options = list_all (λ one. is_none (whole links_record (taking_bytes one))) options

no_rows : are_no_options (
    (0 ∷ 0 ∷ 1 ∷ 0 ∷ [])
    ∷ (0 ∷ 0 ∷ 0 ∷ 1 ∷ [])
    ∷ (0 ∷ 1 ∷ 0 ∷ 0 ∷ [])
    ∷ (0 ∷ 1 ∷ 0 ∷ 2 ∷ [])
    ∷ (1 ∷ 0 ∷ 0 ∷ 1 ∷ [])
    ∷ (1 ∷ 1 ∷ 1 ∷ 0 ∷ [])
    ∷ []
    ) ≡ true
unfolding links_record taken link_row link_number options path text bool u64 u32 path_test
no_rows = refl

-- bytes that no option has, one of each
no_option : are_no_options ((2 ∷ 1 ∷ 1 ∷ 1 ∷ []) ∷ (0 ∷ 2 ∷ 1 ∷ 1 ∷ []) ∷ (1 ∷ 1 ∷ 2 ∷ 1 ∷ []) ∷ (1 ∷ 1 ∷ 1 ∷ 3 ∷ []) ∷ []) ≡ true
unfolding links_record taken link_row link_number options path text bool u64 u32 path_test
no_option = refl
