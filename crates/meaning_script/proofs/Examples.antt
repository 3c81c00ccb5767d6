-- Lines and answers: which lines are quiet, what is printed of values, answers and refusals, and what is told of a script.
use Rattle.std.proofs.Common.{◌≡◌, ◌+◌, ◌-◌, ◌*◌, ◌^◌, map, ℕ, Bool, true, false, List, [], ◌∷◌, ◌++◌, codes, None, replicate, refl, pos, negsuc}
use Rattle.std.specs.Fmt.{digits}
use Rattle.dl_base.specs.Name.{name_test}
use Rattle.dl_base.specs.declared.answer.Answer.TheVariants as answers
use Rattle.dl_base.specs.declared.answer.ClaimRefusal.TheVariants as claims
use Rattle.dl_base.specs.declared.answer.FileRefusal.TheVariants as refusals
use Rattle.dl_base.specs.declared.answer.Limit.TheVariants as limits
use Rattle.dl_base.specs.declared.answer.Refusal.{Refusal}
use Rattle.dl_base.specs.declared.answer.Refusal.TheVariants as reasons
use Rattle.dl_base.specs.declared.answer.RestoreRefusal.TheVariants as restores
use Rattle.dl_base.specs.declared.answer.Why.TheVariants as whys
use Rattle.dl_base.specs.declared.file.FileRow.{FileRow}
use Rattle.dl_base.specs.declared.file.FileWhat.TheVariants as whats
use Rattle.dl_base.specs.declared.sql_fault.BadLink.TheVariants as links
use Rattle.dl_base.specs.declared.sql_fault.SqlFault.TheVariants as faults
use Rattle.dl_base.specs.declared.step.Phase.TheVariants as phases
use Rattle.dl_base.specs.declared.statement.Stmt.TheVariants as statements
use Rattle.dl_base.specs.declared.step.Step.TheVariants as kinds
use Rattle.dl_base.specs.declared.step.Target.TheVariants as targets
use Rattle.dl_base.specs.declared.value.LinkNo.{LinkNo}
use Rattle.dl_base.specs.declared.value.Row.{Row}
use Rattle.dl_base.specs.declared.value.Value.{Value}
use Rattle.dl_base.specs.declared.value.Value.TheVariants as values
use Rattle.meaning_script.specs.Lines.{is_quiet, is_user}
use Rattle.meaning_script.specs.Printed.{cell_text, row_text, line_text, step_word, history_text}
use Rattle.meaning_script.specs.Refusals.{session_name, refusal_words, limit_words}

-- quiet lines

empty_line : is_quiet [] ≡ true
unfolding is_quiet
empty_line = refl

blanks_and_a_tab : is_quiet (32 ∷ 9 ∷ 32 ∷ []) ≡ true
unfolding is_quiet
blanks_and_a_tab = refl

comment : is_quiet (codes "-- @ann list") ≡ true
unfolding is_quiet
comment = refl

two_dashes : is_quiet (codes "--") ≡ true
unfolding is_quiet
two_dashes = refl

one_dash : is_quiet (codes "- ") ≡ false
unfolding is_quiet
one_dash = refl

-- a line that begins with a blank is a bad line, and no comment
blank_before_the_dashes : is_quiet (codes " -- x") ≡ false
unfolding is_quiet
blank_before_the_dashes = refl

command : is_quiet (codes "@ann list") ≡ false
unfolding is_quiet
command = refl

-- a comment longer than a line may be
long_comment : is_quiet (codes "--" ++ replicate 65536 120) ≡ true
unfolding is_quiet
long_comment = refl

-- users

user : is_user (codes "ann_2") ≡ true
unfolding is_user name_test
user = refl

user_of_16_bytes : is_user (replicate 16 97) ≡ true
unfolding is_user name_test
user_of_16_bytes = refl

user_of_17_bytes : is_user (replicate 17 97) ≡ false
unfolding is_user name_test
user_of_17_bytes = refl

file_manager_is_no_user : is_user (codes "dlfm") ≡ false
unfolding is_user name_test
file_manager_is_no_user = refl

case_counts : is_user (codes "DLFM") ≡ true
unfolding is_user name_test
case_counts = refl

digit_first : is_user (codes "2ann") ≡ false
unfolding is_user name_test
digit_first = refl

no_user : is_user [] ≡ false
unfolding is_user name_test
no_user = refl

-- values

null_cell : cell_text values.Null ≡ codes "NULL"
null_cell = refl

number_cell : cell_text (values.Int (pos 9223372036854775807)) ≡ codes "9223372036854775807"
unfolding digits
number_cell = refl

number_below_zero : cell_text (values.Int (negsuc 41)) ≡ codes "-42"
unfolding digits
number_below_zero = refl

least_number : cell_text (values.Int (negsuc 9223372036854775807)) ≡ codes "-9223372036854775808"
unfolding digits
least_number = refl

text_with_a_quote : cell_text (values.Text (codes "it's")) ≡ codes "'it''s'"
text_with_a_quote = refl

empty_text : cell_text (values.Text []) ≡ codes "''"
empty_text = refl

abbrev datalink : Value
datalink = values.Link (record { location = codes "http://fs1/a"; path = codes "/a"; comment = codes "note"; link = None })

datalink_cell : cell_text datalink ≡ codes "<http://fs1/a>"
datalink_cell = refl

row_of_four : row_text (values.Int (pos 1) ∷ values.Text (codes "x") ∷ values.Null ∷ datalink ∷ []) ≡ codes "1 | 'x' | NULL | <http://fs1/a>"
unfolding digits
row_of_four = refl

-- answers

abbrev a_transaction : ℕ
a_transaction = 2 ^ 32 + 2

abbrev a_link : LinkNo
a_link = record { tx = a_transaction; k = 1 }

-- a line that is told, and the newline behind it
abbrev line : List ℕ → List ℕ
line text = text ++ 10 ∷ []

done : line_text [] 1 answers.Done ≡ line (codes "1: ok")
unfolding line_text digits
done = refl

begun : line_text [] 3 (answers.Begun a_transaction) ≡ line (codes "3: ok 1-2")
unfolding line_text digits
begun = refl

begun_last : line_text [] 3 (answers.Begun (2 ^ 64 - 1)) ≡ line (codes "3: ok 4294967295-4294967295")
unfolding line_text digits
begun_last = refl

changed_nothing : line_text [] 4 (answers.Changed 0) ≡ line (codes "4: ok 0")
unfolding line_text digits
changed_nothing = refl

changed : line_text [] 12 (answers.Changed 2) ≡ line (codes "12: ok 2")
unfolding line_text digits
changed = refl

committed : line_text [] 9 (answers.Committed 2) ≡ line (codes "9: ok commit 2")
unfolding line_text digits
committed = refl

committed_last : line_text [] 7 (answers.Committed 18446744073709551615) ≡ line (codes "7: ok commit 18446744073709551615")
unfolding line_text digits
committed_last = refl

abbrev row : List Value → Row
row values = record { values = values }

rows : line_text [] 4 (answers.Rows (record { rows = row (values.Int (pos 1) ∷ values.Null ∷ []) ∷ row (values.Int (pos 2) ∷ datalink ∷ []) ∷ [] }))
    ≡ line (codes "4: rows 2") ++ line (codes "4| 1 | NULL") ++ line (codes "4| 2 | <http://fs1/a>")
unfolding line_text digits
rows = refl

-- a text with a bar, a text of a bar alone, texts of quotes, and a row without a cell
rows_of_texts : line_text [] 6 (answers.Rows (record { rows = row (values.Text (codes "a|b") ∷ values.Text (codes " | ") ∷ []) ∷ row (values.Text (codes "''") ∷ values.Text (codes "It's Noon") ∷ []) ∷ row [] ∷ [] }))
    ≡ line (codes "6: rows 3") ++ line (codes "6| 'a|b' | ' | '") ++ line (codes "6| '''''' | 'It''s Noon'") ++ line (codes "6| ")
unfolding line_text digits
rows_of_texts = refl

no_rows : line_text [] 4 (answers.Rows (record { rows = [] })) ≡ line (codes "4: rows 0")
unfolding line_text digits
no_rows = refl

bytes : line_text [] 10 (answers.Bytes (codes "one")) ≡ line (codes "10: bytes 3") ++ line (codes "10| one")
unfolding line_text digits
bytes = refl

no_bytes : line_text [] 5 (answers.Bytes []) ≡ line (codes "5: bytes 0") ++ line (codes "5| ")
unfolding line_text digits
no_bytes = refl

abbrev file_row : List ℕ → List ℕ → Bool → FileRow
file_row path owner writable = record { path = path; file = record { owner = record { name = owner; writable = writable }; bytes = codes "one"; before = None } }

list_of_files : line_text [] 6 (answers.Files (file_row (codes "/a") (codes "dlfm") false ∷ file_row (codes "/b") (codes "ann") true ∷ []))
    ≡ line (codes "6: ok files 2") ++ line (codes "6| /a dlfm off 3") ++ line (codes "6| /b ann on 3")
unfolding line_text digits
list_of_files = refl

empty_file : line_text [] 10 (answers.Files (record { path = codes "/film/2.mpg"; file = record { owner = record { name = codes "dlfm"; writable = false }; bytes = []; before = None } } ∷ [])) ≡ line (codes "10: ok files 1") ++ line (codes "10| /film/2.mpg dlfm off 0")
unfolding line_text digits
empty_file = refl

archived : line_text [] 9 (answers.Archived 1) ≡ line (codes "9: ok archived 1")
unfolding line_text digits
archived = refl

backed_up : line_text [] 4 (answers.BackedUp 1) ≡ line (codes "4: ok backup 1")
unfolding line_text digits
backed_up = refl

restored : line_text [] 7 (answers.Restored 4 (record { table = codes "m"; row = 1; column = codes "f"; path = codes "/a" } ∷ [])) ≡ line (codes "7: ok commit 4") ++ line (codes "7| lost m 1 f /a")
unfolding line_text digits
restored = refl

nothing_lost : line_text [] 13 (answers.Restored 4 []) ≡ line (codes "13: ok commit 4")
unfolding line_text digits
nothing_lost = refl

two_lost : line_text [] 14 (answers.Restored 5 (record { table = codes "m"; row = 1; column = codes "f"; path = codes "/a" } ∷ record { table = codes "films"; row = 70; column = codes "reel"; path = codes "/film/1.mpg" } ∷ []))
    ≡ line (codes "14: ok commit 5") ++ line (codes "14| lost m 1 f /a") ++ line (codes "14| lost films 70 reel /film/1.mpg")
unfolding line_text digits
two_lost = refl

resolved : line_text [] 6 (answers.Resolved 0 1) ≡ line (codes "6: ok committed 0 dropped 1")
unfolding line_text digits
resolved = refl

-- refusals

refused_line : line_text [] 2 (answers.Refused (reasons.File (refusals.Exists (codes "/a")))) ≡ line (codes "2: refused exists /a")
unfolding line_text digits
refused_line = refl

-- the words of refusals that name no session
abbrev refused_all : List Refusal → List (List ℕ)
refused_all whys = map (refusal_words []) whys

bad_line : refusal_words [] (reasons.BadLine 65537) ≡ codes "bad line 65537"
unfolding digits
bad_line = refl

syntax_place : refusal_words [] (reasons.Syntax 17) ≡ codes "syntax 17"
unfolding digits
syntax_place = refl

no_value : refusal_words [] (reasons.NoValue (codes "B")) ≡ codes "no value B"
no_value = refl

not_in_race : refusal_words [] reasons.NotInRace ≡ codes "not in race"
not_in_race = refl

limit_of_actors : refusal_words [] (reasons.Limit limits.Actors) ≡ codes "limit actors"
limit_of_actors = refl

no_table : refusal_words [] (reasons.Sql (faults.NoTable (codes "t"))) ≡ codes "no table t"
no_table = refl

duplicate_key : refusal_words [] (reasons.Sql (faults.DupKey 2)) ≡ codes "duplicate key 2"
unfolding digits
duplicate_key = refl

zero_divide : refusal_words [] (reasons.Sql faults.ZeroDivide) ≡ codes "divide by zero"
zero_divide = refl

bad_link_7 : refusal_words [] (reasons.Sql (faults.BadLink links.Comment)) ≡ codes "bad link 7"
unfolding digits
bad_link_7 = refl

-- from 1, in the order in which they are tested
bad_links : refused_all (map (λ bad. reasons.Sql (faults.BadLink bad)) (links.NotUrl ∷ links.Scheme ∷ links.Host ∷ links.Extra ∷ links.Path ∷ links.LinkType ∷ links.Comment ∷ []))
    ≡ codes "bad link 1" ∷ codes "bad link 2" ∷ codes "bad link 3" ∷ codes "bad link 4" ∷ codes "bad link 5" ∷ codes "bad link 6" ∷ codes "bad link 7" ∷ []
unfolding digits
bad_links = refl

statement_refusals : refused_all (map reasons.Sql (faults.TableExists (codes "t") ∷ faults.NoColumn (codes "c") ∷ faults.Ambiguous (codes "c") ∷ faults.TypeFault ∷ faults.Arity ∷ faults.NullKey (codes "c") ∷ faults.TooLong (codes "c") ∷ faults.Overflow ∷ faults.BadOptions ∷ faults.Limit limits.Rows ∷ []))
    ≡ codes "table exists t" ∷ codes "no column c" ∷ codes "ambiguous c" ∷ codes "type" ∷ codes "arity" ∷ codes "null c" ∷ codes "too long c" ∷ codes "overflow" ∷ codes "bad options" ∷ codes "limit rows" ∷ []
statement_refusals = refl

limits_by_name : map limit_words (limits.Columns ∷ limits.Tables ∷ limits.Rows ∷ limits.From ∷ limits.Product ∷ limits.Links ∷ limits.Files ∷ limits.Actors ∷ [])
    ≡ codes "columns" ∷ codes "tables" ∷ codes "rows" ∷ codes "from" ∷ codes "product" ∷ codes "links" ∷ codes "files" ∷ codes "actors" ∷ []
limits_by_name = refl

claim_without_a_file : refusal_words [] (reasons.Claim (claims.NoFile (codes "/x"))) ≡ codes "no file /x"
claim_without_a_file = refl

already_linked : refusal_words [] (reasons.Claim (claims.AlreadyLinked (codes "/a") a_link)) ≡ codes "already linked /a 1-2-1"
unfolding digits
already_linked = refl

busy : refusal_words [] (reasons.Claim (claims.Busy (codes "/a") a_transaction)) ≡ codes "busy /a 1-2"
unfolding digits
busy = refl

conflict : refusal_words [] (reasons.Conflict (codes "t") 1 3) ≡ codes "conflict t 1 3"
unfolding digits
conflict = refl

doomed : refusal_words [] (reasons.Doomed 1 2) ≡ codes "doomed 1 2"
unfolding digits
doomed = refl

linked : refusal_words [] (reasons.File (refusals.Forbidden (codes "/a") a_link whys.Delete)) ≡ codes "linked /a 1-2-1 delete"
unfolding digits
linked = refl

forbidden : refused_all (map (λ why. reasons.File (refusals.Forbidden (codes "/a") a_link why)) (whys.Rename ∷ whys.Write ∷ whys.Chmod ∷ whys.NoToken ∷ []))
    ≡ codes "linked /a 1-2-1 rename" ∷ codes "linked /a 1-2-1 write" ∷ codes "linked /a 1-2-1 chmod" ∷ codes "linked /a 1-2-1 no token" ∷ []
unfolding digits
forbidden = refl

no_such_file : refusal_words [] (reasons.File (refusals.NoFile (codes "/q"))) ≡ codes "no file /q"
no_such_file = refl

wrong_token : refusal_words [] (reasons.File (refusals.Forbidden (codes "/a") (record { tx = 2 ^ 32 + 5; k = 1 }) whys.WrongToken)) ≡ codes "linked /a 1-5-1 wrong token"
unfolding digits
wrong_token = refl

expired : refusal_words [] (reasons.File (refusals.Forbidden (codes "/a") a_link (whys.Expired 160))) ≡ codes "linked /a 1-2-1 expired 160"
unfolding digits
expired = refl

not_owner : refusal_words [] (reasons.File (refusals.NotOwner (codes "/a") (codes "ann"))) ≡ codes "not owner /a ann"
not_owner = refl

read_only : refusal_words [] (reasons.File (refusals.ReadOnly (codes "/a"))) ≡ codes "read only /a"
read_only = refl

limit_of_files : refusal_words [] (reasons.File (refusals.Limit limits.Files)) ≡ codes "limit files"
limit_of_files = refl

in_transaction : refusal_words [] (reasons.InTransaction (2 * 2 ^ 32 + 7)) ≡ codes "in transaction 2-7"
unfolding digits
in_transaction = refl

wrong_phases : refused_all (map reasons.WrongPhase (phases.Active ∷ phases.Prepared ∷ phases.Decided ∷ [])) ≡ codes "phase active" ∷ codes "phase prepared" ∷ codes "phase decided" ∷ []
wrong_phases = refl

plain_refusals : refused_all (reasons.NotBuilt ∷ reasons.NoTransaction ∷ []) ≡ codes "not built" ∷ codes "no transaction" ∷ []
plain_refusals = refl

archive_pending : refusal_words [] (reasons.ArchivePending a_link) ≡ codes "archive pending 1-2-1"
unfolding digits
archive_pending = refl

not_pending : refusal_words [] (reasons.NotPending a_link) ≡ codes "not pending 1-2-1"
unfolding digits
not_pending = refl

unfinished : refusal_words [] (reasons.Unfinished (2 ^ 32 + 3)) ≡ codes "unfinished 1-3"
unfolding digits
unfinished = refl

no_target : refusal_words [] (reasons.Restore (restores.NoTarget 9)) ≡ codes "no target 9"
unfolding digits
no_target = refl

in_the_way : refusal_words [] (reasons.Restore (restores.InTheWay (codes "/a"))) ≡ codes "in the way /a"
in_the_way = refl

-- sessions go by their numbers, from 1

abbrev two_names : List (List ℕ)
two_names = codes "A" ∷ codes "B" ∷ []

busy_session : refusal_words two_names (reasons.SessionBusy 1) ≡ codes "session busy A"
busy_session = refl

second_session : session_name two_names 2 ≡ codes "B"
second_session = refl

no_session : session_name two_names 3 ≡ []
no_session = refl

session_0 : refusal_words two_names (reasons.SessionBusy 0) ≡ codes "session busy "
session_0 = refl

-- the history of a race

first_of_a_history : history_text 1 (codes "A") 1 (kinds.Begin 1) ≡ line (codes "# 1 A 1 begin")
unfolding history_text digits
first_of_a_history = refl

last_of_a_history : history_text 18446744073709551615 (codes "@bob") 67108864 (kinds.Tick 1) ≡ line (codes "# 18446744073709551615 @bob 67108864 tick")
unfolding history_text digits
last_of_a_history = refl

steps_by_name : map step_word (kinds.Begin 1 ∷ kinds.Statement 1 statements.Begin ∷ kinds.Prepare 1 ∷ kinds.Decide 1 ∷ kinds.Finish 1 ∷ kinds.Rollback 1 ∷ kinds.File (record { user = codes "ann"; what = whats.List }) ∷ kinds.Archive a_link ∷ kinds.Backup ∷ kinds.Restore (targets.Backup 1) ∷ kinds.Tick 1 ∷ kinds.CrashManager ∷ kinds.CrashDatabase ∷ kinds.Resolve ∷ [])
    ≡ codes "begin" ∷ codes "statement" ∷ codes "prepare" ∷ codes "decide" ∷ codes "finish" ∷ codes "rollback" ∷ codes "file" ∷ codes "archive" ∷ codes "backup" ∷ codes "restore" ∷ codes "tick" ∷ codes "crash" ∷ codes "crash" ∷ codes "resolve" ∷ []
steps_by_name = refl
