-- Worked rows: what the machine answers, and that the lists with all that was written stand for the state.
use Rattle.std.proofs.Common.{◌≡◌, ◌≢◌, ◌⊎◌, inl, inr, ⊎_elim, ℕ, ◌+◌, ◌/◌, ◌^◌, ◌<◌, ◌≤◌, ◌==◌, ◌||◌, Bool, true, false, List, [], ◌∷◌, ◌++◌, codes, Option, Some, None, refl, sym, ◌∙◌, ap, subst, pos, map, cond, replicate, take, arith}
use Rattle.std.proofs.lemmas.Bool.Decides.{nat_tests}
use Rattle.std.proofs.lemmas.List.Elements.{All-push}
use Rattle.std.specs.Cmp.{Equal-is, unsigned_tied}
use Rattle.std.specs.Cmp.Lexicographic.{slice_cmp}
use Rattle.std.specs.FinMap.{nat_cmp-IsAntisymmetric, slice_cmp-IsAntisymmetric}
use Rattle.std.specs.Fmt.{digits}
use Rattle.std.specs.Ordering.{eq_by_cmp, nat_cmp}
use Rattle.sha2.specs.Sha256.{sha256, hash_after, compress, rounds, schedule, first_words, digest_bytes}
use Rattle.meaning_examples.specs.Maps as maps
use Rattle.dl_base.specs.declared.answer.Answer.{Answer}
use Rattle.dl_base.specs.declared.answer.Answer.TheVariants as answers
use Rattle.dl_base.specs.declared.answer.ClaimRefusal.TheVariants as claims
use Rattle.dl_base.specs.declared.answer.FileRefusal.TheVariants as files
use Rattle.dl_base.specs.declared.answer.Refusal.TheVariants as reasons
use Rattle.dl_base.specs.declared.answer.RestoreRefusal.TheVariants as restores
use Rattle.dl_base.specs.declared.answer.Why.TheVariants as whys
use Rattle.dl_base.specs.declared.column.Column.{Column}
use Rattle.dl_base.specs.declared.column.ColumnRule.TheVariants as rules
use Rattle.dl_base.specs.declared.column.Kind.TheVariants as kinds
use Rattle.dl_base.specs.declared.column.Options.{Options}
use Rattle.dl_base.specs.declared.column.OnUnlink.TheVariants as unlink
use Rattle.dl_base.specs.declared.column.ReadBy.TheVariants as read
use Rattle.dl_base.specs.declared.column.WriteBy.TheVariants as write
use Rattle.dl_base.specs.declared.file.File.{File}
use Rattle.dl_base.specs.declared.file.FileWhat.{FileWhat}
use Rattle.dl_base.specs.declared.file.FileWhat.TheVariants as whats
use Rattle.dl_base.specs.declared.step.Settings.{Settings}
use Rattle.dl_base.specs.declared.step.Step.{Step}
use Rattle.dl_base.specs.declared.step.Step.TheVariants as steps
use Rattle.dl_base.specs.declared.step.Target.TheVariants as targets
use Rattle.dl_base.specs.declared.value.LinkNo.{LinkNo}
use Rattle.dl_base.specs.declared.value.Row.{Row}
use Rattle.dl_base.specs.declared.value.Value.{Value}
use Rattle.dl_base.specs.declared.value.Value.TheVariants as values
use Rattle.meaning_examples.specs.Commits.{Commit, with_table_changes}
use Rattle.dl_codec.specs.declared.links.LinksRecord.{LinksRecord}
use Rattle.dl_codec.specs.declared.links.LinksRecord.TheVariants as links_records
use Rattle.dl_codec.specs.declared.rows.RowsRecord.{RowsRecord}
use Rattle.dl_codec.specs.declared.rows.RowsRecord.TheVariants as rows_records
use Rattle.dl_base.specs.declared.answer.Why.{Why}
use Rattle.meaning_examples.specs.Lists.{Folds, Written, in_rows, in_links, in_files, in_archive, in_backups, no_folds, folds_on}
use Rattle.meaning_examples.specs.Copies.{Backup}
use Rattle.dl_codec.specs.declared.links.BranchPhase.TheVariants.{Prepared}
use Rattle.meaning_examples.specs.Branches.{Branch, branch}
use Rattle.meaning_examples.specs.Stands.{AreDrawn, Compares, IsStand, Stored, is_past, open_branch, open_in, stored_of, txs_of}
use Rattle.meaning_examples.specs.Apart.{ShareNoPath, has_key, has_path}
use Rattle.meaning_examples.specs.Keyed.{is_at}
use Rattle.meaning_examples.specs.Settling.{Copy, Moved, settle_one}
use Rattle.dl_token.specs.Hmac.{hmac}
use Rattle.dl_token.specs.Tokens.{mac, token, verdict}
use Rattle.meaning_tables.specs.Tables.{Rows, Tables, new_table, table_of, with_table, with_inserted}
use Rattle.meaning_examples.specs.Claims.{by_evaluated, with_names}
use Rattle.meaning_examples.specs.Machine.{step, stated, start}
use Rattle.dl_base.specs.declared.value.LinkRow.{LinkRow}
use Rattle.meaning_tables.specs.Links.{gives, takes}
use Rattle.meaning_examples.specs.Merging.{merge, commit_changes}
use Rattle.meaning_examples.specs.Restoring.{restored_tables, restore_changes}
use Rattle.meaning_examples.specs.Sql.{Evaluated}
use Rattle.meaning_examples.specs.State.{Txn, State, txn_of, stored}
use Rattle.meaning_examples.specs.Writes.{writes, opening}

-- a step, or a statement whose plain meaning over the copy is given: of the tables, the transaction's number and the next link number
data Act : Type 0 where
  does : Step → Act
  sql : ℕ → List (List ℕ) → (Tables → ℕ → ℕ → Evaluated) → Act

record After : Type 0 where
  answers : List Answer
  state : State
  written : List Written

abbrev with_statement : State → (Tables → ℕ → ℕ → Evaluated) → List (List ℕ) → Option (ℕ × Txn) → Answer × State
with_statement s e names None = (answers.Done, s)
with_statement s e names (Some t) = stated s t.0 (by_evaluated s t.0 (record t.1 { named = with_names t.1.named names }) (e t.1.copy t.0 t.1.next))

abbrev act : State → Act → Answer × State
act s (does asked) = step s asked
act s (sql session names e) = with_statement s e names (txn_of s session)

abbrev act_writes : State → Act → List Written
act_writes s (does asked) = writes s asked
act_writes s (sql session names e) = []

abbrev all_answers : State → List Act → List Answer
all_answers s [] = []
all_answers s (a ∷ more) = (act s a).0 ∷ all_answers (act s a).1 more

abbrev last_state : State → List Act → State
last_state s [] = s
last_state s (a ∷ more) = last_state (act s a).1 more

abbrev all_writes : State → List Act → List Written
all_writes s [] = []
all_writes s (a ∷ more) = act_writes s a ++ all_writes (act s a).1 more

-- what of a stored part can be compared by computing
abbrev View : Type 0
View = List Commit × List (List ℕ × File) × List (List ℕ × Copy) × List Backup × ℕ × ℕ

abbrev view : Stored → View
view x = (x.commits, maps.entries x.files, maps.entries x.copies, x.backups, x.rows_opening, x.links_opening)

abbrev given : Settings
given = record { server = codes "fs1"; key = replicate 32 0; now = 0; life = 60; limit = 1099511627776 }

abbrev first : State
first = start given (stored_of no_folds)

-- the same without tables, for long lists of steps
abbrev Light : Type 0
Light = List ℕ × List (List ℕ × File) × List (List ℕ × Copy) × ℕ

abbrev light : Stored → Light
light x = (txs_of x.commits, maps.entries x.files, maps.entries x.copies, x.links_opening)

abbrev light_of : Option Folds → Option Light
light_of None = None
light_of (Some f) = Some (light (stored_of f))

abbrev RecoversLight : List Act → Type 0
RecoversLight acts = light_of (folds_on (Some no_folds) (opening no_folds ++ all_writes first acts)) ≡ Some (light (stored (last_state first acts)))

abbrev view_of : Option Folds → Option View
view_of None = None
view_of (Some f) = Some (view (stored_of f))

-- THE LISTS RECOVER TO THE STATE
abbrev Recovers : List Act → Type 0
Recovers acts = view_of (folds_on (Some no_folds) (opening no_folds ++ all_writes first acts)) ≡ Some (view (stored (last_state first acts)))

-- names

abbrev tx : ℕ → ℕ
tx n = 2 ^ 32 + n

abbrev path : List ℕ
path = 47 ∷ 97 ∷ []

abbrev ann : List ℕ
ann = codes "ann"

abbrev name : List ℕ
name = 109 ∷ []

abbrev file : List ℕ → FileWhat → Act
file user what = does (steps.File (record { user = user; what = what }))

abbrev columns : Options → List Column
columns o = record { name = codes "id"; kind = kinds.Int; rule = rules.Key } ∷ record { name = codes "f"; kind = kinds.Linked o; rule = rules.Plain } ∷ []

abbrev o1 : Options
o1 = record { read = read.Fs; write = write.Fs; recovery = false; unlink = unlink.Nothing }

abbrev o2 : Options
o2 = record { read = read.Fs; write = write.Blocked; recovery = false; unlink = unlink.Restore }

abbrev o3 : Options
o3 = record { read = read.Fs; write = write.Blocked; recovery = true; unlink = unlink.Restore }

abbrev o4 : Options
o4 = record { read = read.Db; write = write.Blocked; recovery = false; unlink = unlink.Restore }

abbrev o7 : Options
o7 = record { read = read.Db; write = write.Blocked; recovery = true; unlink = unlink.Delete }

-- statements on the table m

abbrev make : Options → Tables → ℕ → ℕ → Evaluated
make o tables t k = record { answer = answers.Done; refused = false; tables = tables ++ (name, new_table (columns o)) ∷ []; next = k }

abbrev cell : List ℕ → ℕ → ℕ → Value
cell p t k = values.Link (record { location = codes "http://fs1" ++ p; path = p; comment = []; link = Some (record { tx = t; k = k }) })

abbrev on_table : (Rows → Rows) → Tables → Option Rows → Tables
on_table f tables None = tables
on_table f tables (Some t) = with_table tables name (f t)

abbrev put : ℕ → List ℕ → Tables → ℕ → ℕ → Evaluated
put id p tables t k = record { answer = answers.Changed 1; refused = false; tables = on_table (λ x. with_inserted x (record { values = values.Int (pos id) ∷ cell p t k ∷ [] })) tables (table_of tables name); next = k + 1 }

abbrev put_null : ℕ → Tables → ℕ → ℕ → Evaluated
put_null id tables t k = record { answer = answers.Changed 1; refused = false; tables = on_table (λ x. with_inserted x (record { values = values.Int (pos id) ∷ values.Null ∷ [] })) tables (table_of tables name); next = k }

abbrev clear : Tables → ℕ → ℕ → Evaluated
clear tables t k = record { answer = answers.Changed 1; refused = false; tables = on_table (λ x. record x { rows = [] }) tables (table_of tables name); next = k }

-- a statement of session 1 or 2 in its transaction, and one by itself with what follows it
abbrev says : ℕ → (Tables → ℕ → ℕ → Evaluated) → Act
says session e = sql session (name ∷ []) e

abbrev alone : ℕ → (Tables → ℕ → ℕ → Evaluated) → List Act
alone session e = does (steps.Begin session) ∷ says session e ∷ does (steps.Prepare session) ∷ does (steps.Decide session) ∷ does (steps.Finish session) ∷ []

abbrev commits : ℕ → List Act
commits session = does (steps.Prepare session) ∷ does (steps.Decide session) ∷ does (steps.Finish session) ∷ []

-- the answers of one statement by itself
abbrev told : ℕ → Answer → ℕ → List Answer
told t answer c = answers.Begun (tx t) ∷ answer ∷ answers.Done ∷ answers.Committed c ∷ answers.Done ∷ []

-- a linked file is not deleted
deleted_link : List Act
deleted_link = file ann (whats.Create path (codes "one")) ∷ alone 1 (make o2) ++ alone 1 (put 1 path) ++ file ann (whats.Delete path) ∷ []

deleted_link-answers : all_answers first deleted_link ≡ answers.Done ∷ told 1 answers.Done 1 ++ told 2 (answers.Changed 1) 2 ++ answers.Refused (reasons.File (files.Forbidden path (record { tx = tx 2; k = 1 }) whys.Delete)) ∷ []
unfolding deleted_link step settle_one
deleted_link-answers = refl

deleted_link-recovers : Recovers deleted_link
unfolding deleted_link step settle_one writes
deleted_link-recovers = refl

-- an opening of empty areas
first_opening : opening no_folds ≡ in_rows (rows_records.Opening 1) ∷ in_links (links_records.Opening 1) ∷ []
first_opening = refl

-- lists with all that was written, cut behind so many records
abbrev cut : List Act → ℕ → Option Light
cut acts n = light_of (folds_on (Some no_folds) (opening no_folds ++ take n (all_writes first acts)))

abbrev rename : Act
rename = file ann (whats.Rename path (codes "/b"))

abbrev one : File
one = record { owner = record { name = ann; writable = false }; bytes = codes "one"; before = Some (record { name = ann; writable = true }) }

abbrev link : ℕ → LinkNo
link n = record { tx = tx n; k = 1 }

abbrev forbids : LinkNo → Why → Answer
forbids l why = answers.Refused (reasons.File (files.Forbidden path l why))

abbrev begins : ℕ → Act
begins session = does (steps.Begin session)

-- a path is busy with the claim of another transaction
two_claims : List Act
two_claims = file ann (whats.Create path (codes "one")) ∷ alone 1 (make o2) ++ begins 1 ∷ begins 2 ∷ says 1 (put 1 path) ∷ says 2 (put 2 path) ∷ does (steps.Rollback 1) ∷ says 2 (put 2 path) ∷ commits 2 ++ rename ∷ []

two_claims-answers : all_answers first two_claims ≡ answers.Done ∷ told 1 answers.Done 1 ++ answers.Begun (tx 2) ∷ answers.Begun (tx 3) ∷ answers.Changed 1 ∷ answers.Refused (reasons.Claim (claims.Busy path (tx 2)))
    ∷ answers.Done ∷ answers.Changed 1 ∷ answers.Done ∷ answers.Committed 2 ∷ answers.Done ∷ forbids (link 3) whys.Rename ∷ []
unfolding two_claims step settle_one
two_claims-answers = refl

two_claims-recovers : Recovers two_claims
unfolding two_claims step settle_one writes
two_claims-recovers = refl

-- the file of a claim is gone at Prepare
up_to_4 : List Act
up_to_4 = file ann (whats.Create path (codes "one")) ∷ alone 1 (make o2) ++ begins 1 ∷ says 1 (put 1 path) ∷ []

abbrev told_4 : List Answer
told_4 = answers.Done ∷ told 1 answers.Done 1 ++ answers.Begun (tx 2) ∷ answers.Changed 1 ∷ []

file_gone : List Act
file_gone = up_to_4 ++ file ann (whats.Delete path) ∷ does (steps.Prepare 1) ∷ file ann (whats.Create path (codes "two")) ∷ commits 1

file_gone-answers : all_answers first file_gone ≡ told_4 ++ answers.Done ∷ answers.Refused (reasons.Claim (claims.NoFile path)) ∷ answers.Done ∷ answers.Done ∷ answers.Committed 2 ∷ answers.Done ∷ []
unfolding file_gone up_to_4 step settle_one
file_gone-answers = refl

file_gone-recovers : Recovers file_gone
unfolding file_gone up_to_4 step settle_one writes
file_gone-recovers = refl

-- a link that is prepared forbids already
prepared_link : List Act
prepared_link = up_to_4 ++ does (steps.Prepare 1) ∷ rename ∷ does (steps.Decide 1) ∷ does (steps.Finish 1) ∷ file ann whats.List ∷ []

prepared_link-answers : all_answers first prepared_link ≡ told_4 ++ answers.Done ∷ forbids (link 2) whys.Rename ∷ answers.Committed 2 ∷ answers.Done ∷ answers.Files (record { path = path; file = one } ∷ []) ∷ []
unfolding prepared_link up_to_4 step settle_one
prepared_link-answers = refl

prepared_link-recovers : Recovers prepared_link
unfolding prepared_link up_to_4 step settle_one writes
prepared_link-recovers = refl

-- one transaction gives a file and takes it again: it is archived, and stays
given_and_taken : List Act
given_and_taken = file ann (whats.Create path (codes "abc")) ∷ alone 1 (make o7) ++ alone 1 (put 1 path) ++ begins 1 ∷ says 1 clear ∷ says 1 (put 2 path) ∷ commits 1 ++ file ann whats.List ∷ does (steps.Archive (link 3)) ∷ []

abbrev linked_file : File
linked_file = record { owner = record { name = codes "dlfm"; writable = false }; bytes = codes "abc"; before = Some (record { name = ann; writable = true }) }

given_and_taken-answers : all_answers first given_and_taken ≡ answers.Done ∷ told 1 answers.Done 1 ++ told 2 (answers.Changed 1) 2 ++ answers.Begun (tx 3) ∷ answers.Changed 1 ∷ answers.Changed 1 ∷ answers.Done ∷ answers.Committed 3 ∷ answers.Done
    ∷ answers.Files (record { path = path; file = linked_file } ∷ []) ∷ answers.Archived 1 ∷ []
unfolding given_and_taken step settle_one
given_and_taken-answers = refl

given_and_taken-recovers : Recovers given_and_taken
unfolding given_and_taken step settle_one writes
given_and_taken-recovers = refl

given_and_taken-copies : map (λ e. e.0) (maps.entries (last_state first given_and_taken).copies) ≡ (tx 2 ∷ 1 ∷ []) ∷ (tx 3 ∷ 1 ∷ []) ∷ []
unfolding given_and_taken step settle_one
given_and_taken-copies = refl

-- the flag that a file had before it was linked comes back
original_flag : List Act
original_flag = file ann (whats.Create path (codes "one")) ∷ file ann (whats.Chmod path false) ∷ alone 1 (make o4) ++ alone 1 (put 1 path) ++ file ann (whats.Chmod path true) ∷ alone 1 clear
    ++ file ann (whats.Write path (codes "two")) ∷ file ann (whats.Chmod path true) ∷ file ann (whats.Write path (codes "two")) ∷ []

original_flag-answers : all_answers first original_flag ≡ answers.Done ∷ answers.Done ∷ told 1 answers.Done 1 ++ told 2 (answers.Changed 1) 2 ++ forbids (link 2) whys.Chmod ∷ told 3 (answers.Changed 1) 3
    ++ answers.Refused (reasons.File (files.ReadOnly path)) ∷ answers.Done ∷ answers.Done ∷ []
unfolding original_flag step settle_one
original_flag-answers = refl

original_flag-recovers : Recovers original_flag
unfolding original_flag step settle_one writes
original_flag-recovers = refl

-- ON UNLINK DELETE: the file goes, and a restore puts it back from its copy
restored_file : List Act
restored_file = file ann (whats.Create path (codes "abc")) ∷ alone 1 (make o7) ++ alone 1 (put 1 path) ++ alone 1 clear ++ file ann (whats.Read path None) ∷ does (steps.Restore (targets.Commit 2)) ∷ file ann whats.List ∷ does (steps.Restore (targets.Commit 9)) ∷ []

restored_file-answers : all_answers first restored_file ≡ answers.Done ∷ told 1 answers.Done 1 ++ told 2 (answers.Changed 1) 2 ++ told 3 (answers.Changed 1) 3
    ++ answers.Refused (reasons.File (files.NoFile path)) ∷ answers.Restored 4 [] ∷ answers.Files (record { path = path; file = linked_file } ∷ []) ∷ answers.Refused (reasons.Restore (restores.NoTarget 9)) ∷ []
unfolding restored_file step settle_one
restored_file-answers = refl

restored_file-recovers : RecoversLight restored_file
unfolding restored_file step settle_one writes
restored_file-recovers = refl

-- both sides stop between Prepare and Decide: Resolve drops, and numbers go on in the next opening
stopped_after_the_vote : List Act
stopped_after_the_vote = up_to_4 ++ does (steps.Prepare 1) ∷ does steps.CrashDatabase ∷ does steps.CrashManager ∷ does steps.Resolve ∷ alone 1 (put_null 5) ++ file ann (whats.Delete path) ∷ begins 1 ∷ []

stopped_after_the_vote-answers : all_answers first stopped_after_the_vote ≡ told_4 ++ answers.Done ∷ answers.Done ∷ answers.Done ∷ answers.Resolved 0 1 ∷ answers.Begun (2 ^ 33 + 1) ∷ answers.Changed 1 ∷ answers.Done ∷ answers.Committed 2 ∷ answers.Done ∷ answers.Done ∷ answers.Begun (2 ^ 33 + 2) ∷ []
unfolding stopped_after_the_vote up_to_4 step settle_one
stopped_after_the_vote-answers = refl

stopped_after_the_vote-recovers : Recovers stopped_after_the_vote
unfolding stopped_after_the_vote up_to_4 step settle_one writes
stopped_after_the_vote-recovers = refl

-- the database stops between Decide and Finish: Resolve settles
stopped_after_the_decision : List Act
stopped_after_the_decision = up_to_4 ++ does (steps.Prepare 1) ∷ does (steps.Decide 1) ∷ does steps.CrashDatabase ∷ does steps.CrashManager ∷ does steps.Resolve ∷ file ann whats.List ∷ file ann (whats.Delete path) ∷ []

stopped_after_the_decision-answers : all_answers first stopped_after_the_decision ≡ told_4 ++ answers.Done ∷ answers.Committed 2 ∷ answers.Done ∷ answers.Done ∷ answers.Resolved 1 0 ∷ answers.Files (record { path = path; file = one } ∷ []) ∷ forbids (link 2) whys.Delete ∷ []
unfolding stopped_after_the_decision up_to_4 step settle_one
stopped_after_the_decision-answers = refl

stopped_after_the_decision-recovers : Recovers stopped_after_the_decision
unfolding stopped_after_the_decision up_to_4 step settle_one writes
stopped_after_the_decision-recovers = refl

-- claims of active transactions are doomed when the manager stops; a prepared one goes on, and is dropped by Resolve
doomed_claim : List Act
doomed_claim = up_to_4 ++ does steps.CrashManager ∷ does (steps.Prepare 1) ∷ does (steps.Rollback 1) ∷ begins 1 ∷ says 1 (put 1 path) ∷ does (steps.Prepare 1) ∷ does steps.CrashManager ∷ does steps.Backup ∷ does steps.CrashDatabase
    ∷ file ann (whats.Delete path) ∷ does steps.Resolve ∷ file ann (whats.Delete path) ∷ []

doomed_claim-answers : all_answers first doomed_claim ≡ told_4 ++ answers.Done ∷ answers.Refused (reasons.Doomed 1 2) ∷ answers.Done ∷ answers.Begun (tx 3) ∷ answers.Changed 1 ∷ answers.Done ∷ answers.Done ∷ answers.Refused (reasons.Unfinished (tx 3))
    ∷ answers.Done ∷ forbids (link 3) whys.Delete ∷ answers.Resolved 0 1 ∷ answers.Done ∷ []
unfolding doomed_claim up_to_4 step settle_one
doomed_claim-answers = refl

doomed_claim-recovers : Recovers doomed_claim
unfolding doomed_claim up_to_4 step settle_one writes
doomed_claim-recovers = refl

-- in a doomed transaction a statement that alters links is refused, before the conflict that there is too; one that leaves them stands
doomed_statement : List Act
doomed_statement = up_to_4 ++ alone 2 (put_null 5) ++ does steps.CrashManager ∷ says 1 clear ∷ says 1 (put_null 7) ∷ does (steps.Prepare 1) ∷ []

doomed_statement-answers : all_answers first doomed_statement ≡ told_4 ++ told 3 (answers.Changed 1) 2 ++ answers.Done ∷ answers.Refused (reasons.Doomed 1 2) ∷ answers.Changed 1 ∷ answers.Refused (reasons.Doomed 1 2) ∷ []
unfolding doomed_statement up_to_4 step settle_one
doomed_statement-answers = refl

doomed_statement-recovers : Recovers doomed_statement
unfolding doomed_statement up_to_4 step settle_one writes
doomed_statement-recovers = refl

-- Resolve beside sessions: what they have, decided or prepared, is neither ended nor counted, and goes on
resolved_beside_sessions : List Act
resolved_beside_sessions = up_to_4 ++ begins 2 ∷ says 2 (put_null 5) ∷ does (steps.Prepare 2) ∷ begins 3 ∷ does (steps.Prepare 3) ∷ does (steps.Prepare 1) ∷ does (steps.Decide 1) ∷ does steps.CrashDatabase
    ∷ begins 1 ∷ says 1 (put_null 7) ∷ does (steps.Prepare 1) ∷ does (steps.Decide 1) ∷ begins 2 ∷ says 2 (put_null 8) ∷ does (steps.Prepare 2) ∷ does steps.Resolve ∷ does (steps.Finish 1) ∷ does (steps.Decide 2) ∷ does (steps.Finish 2) ∷ []

resolved_beside_sessions-answers : all_answers first resolved_beside_sessions ≡ told_4 ++ answers.Begun (tx 3) ∷ answers.Changed 1 ∷ answers.Done ∷ answers.Begun (tx 4) ∷ answers.Done ∷ answers.Done ∷ answers.Committed 2 ∷ answers.Done
    ∷ answers.Begun (2 ^ 33 + 1) ∷ answers.Changed 1 ∷ answers.Done ∷ answers.Committed 3 ∷ answers.Begun (2 ^ 33 + 2) ∷ answers.Changed 1 ∷ answers.Done ∷ answers.Resolved 1 2 ∷ answers.Done ∷ answers.Committed 4 ∷ answers.Done ∷ []
unfolding resolved_beside_sessions up_to_4 step settle_one
resolved_beside_sessions-answers = refl

resolved_beside_sessions-recovers : Recovers resolved_beside_sessions
unfolding resolved_beside_sessions up_to_4 step settle_one writes
resolved_beside_sessions-recovers = refl

-- the clock behind stops: of the manager, of the database, and of both with Resolve
abbrev moment_behind : List Step → ℕ
moment_behind stopped = (last_state first (does (steps.Tick 100) ∷ map does stopped)).moment

clock_behind_stops : map moment_behind ((steps.CrashManager ∷ []) ∷ (steps.CrashDatabase ∷ []) ∷ (steps.CrashDatabase ∷ steps.CrashManager ∷ steps.Resolve ∷ []) ∷ []) ≡ 100 ∷ 100 ∷ 100 ∷ []
unfolding step
clock_behind_stops = refl

-- so a token that has expired is not good again
abbrev reads_with_token : Act
reads_with_token = file ann (whats.Read path (Some (token given.key path (link 2) 60)))

expired_token : List Act
expired_token = file ann (whats.Create path (codes "one")) ∷ alone 1 (make o4) ++ alone 1 (put 1 path) ++ reads_with_token ∷ does (steps.Tick 61)
    ∷ reads_with_token ∷ does steps.CrashManager ∷ reads_with_token ∷ does steps.CrashDatabase ∷ reads_with_token ∷ []

expired_token-answers : all_answers first expired_token ≡ answers.Done ∷ told 1 answers.Done 1 ++ told 2 (answers.Changed 1) 2 ++ answers.Bytes (codes "one") ∷ answers.Done ∷ forbids (link 2) (whys.Expired 60)
    ∷ answers.Done ∷ forbids (link 2) (whys.Expired 60) ∷ answers.Done ∷ forbids (link 2) (whys.Expired 60) ∷ []
unfolding expired_token step settle_one verdict mac hmac sha256 hash_after compress rounds schedule first_words digest_bytes digits
expired_token-answers = refl

-- a restore of a backup is refused while another file stands in the way
restored_backup : List Act
restored_backup = file ann (whats.Create path (codes "one")) ∷ alone 1 (make o3) ++ alone 1 (put 1 path) ++ does (steps.Archive (link 2)) ∷ does steps.Backup ∷ alone 1 clear ++ file ann (whats.Write path (codes "two")) ∷ does (steps.Restore (targets.Backup 1))
    ∷ file ann (whats.Delete path) ∷ does (steps.Restore (targets.Backup 1)) ∷ file ann (whats.Read path None) ∷ []

restored_backup-answers : all_answers first restored_backup ≡ answers.Done ∷ told 1 answers.Done 1 ++ told 2 (answers.Changed 1) 2 ++ answers.Archived 1 ∷ answers.BackedUp 1 ∷ told 3 (answers.Changed 1) 3
    ++ answers.Done ∷ answers.Refused (reasons.Restore (restores.InTheWay path)) ∷ answers.Done ∷ answers.Restored 4 [] ∷ answers.Bytes (codes "one") ∷ []
unfolding restored_backup step settle_one
restored_backup-answers = refl

restored_backup-recovers : RecoversLight restored_backup
unfolding restored_backup step settle_one writes
restored_backup-recovers = refl

-- a backup waits for transactions that are voted for, and then for copies; a link that has its copy, and one that is none, is not archived
waits : List Act
waits = file ann (whats.Create path (codes "one")) ∷ alone 1 (make o3) ++ alone 1 (put 1 path) ++ does steps.Backup ∷ begins 1 ∷ says 1 (put_null 5) ∷ does (steps.Prepare 1) ∷ does steps.Backup ∷ does (steps.Rollback 1)
    ∷ does (steps.Archive (link 2)) ∷ does (steps.Archive (link 2)) ∷ does (steps.Archive (link 9)) ∷ does steps.Backup ∷ []

waits-answers : all_answers first waits ≡ answers.Done ∷ told 1 answers.Done 1 ++ told 2 (answers.Changed 1) 2 ++ answers.Refused (reasons.ArchivePending (link 2)) ∷ answers.Begun (tx 3) ∷ answers.Changed 1 ∷ answers.Done
    ∷ answers.Refused (reasons.Unfinished (tx 3)) ∷ answers.Done ∷ answers.Archived 1 ∷ answers.Refused (reasons.NotPending (link 2)) ∷ answers.Refused (reasons.NotPending (link 9)) ∷ answers.BackedUp 1 ∷ []
unfolding waits step settle_one
waits-answers = refl

-- why a restore is refused, in order: a session has a transaction; one is voted for; there is no such commit. It draws no number then
restore_waits : List Act
restore_waits = up_to_4 ++ does (steps.Prepare 1) ∷ does (steps.Restore (targets.Commit 9)) ∷ does steps.CrashDatabase ∷ does (steps.Restore (targets.Commit 9)) ∷ does steps.Resolve
    ∷ does (steps.Restore (targets.Commit 9)) ∷ begins 1 ∷ does (steps.Rollback 1) ∷ does (steps.Restore (targets.Commit 0)) ∷ begins 1 ∷ []

restore_waits-answers : all_answers first restore_waits ≡ told_4 ++ answers.Done ∷ answers.Refused (reasons.SessionBusy 1) ∷ answers.Done ∷ answers.Refused (reasons.Unfinished (tx 2)) ∷ answers.Resolved 0 1
    ∷ answers.Refused (reasons.Restore (restores.NoTarget 9)) ∷ answers.Begun (2 ^ 33 + 1) ∷ answers.Done ∷ answers.Restored 2 [] ∷ answers.Begun (2 ^ 33 + 3) ∷ []
unfolding restore_waits up_to_4 step settle_one
restore_waits-answers = refl

restore_waits-recovers : Recovers restore_waits
unfolding restore_waits up_to_4 step settle_one writes
restore_waits-recovers = refl

-- nor where another file stands in the way
in_the_way : List Act
in_the_way = file ann (whats.Create path (codes "one")) ∷ alone 1 (make o3) ++ alone 1 (put 1 path) ++ alone 1 clear ++ file ann (whats.Write path (codes "two")) ∷ does (steps.Restore (targets.Commit 2)) ∷ begins 1 ∷ []

in_the_way-answers : all_answers first in_the_way ≡ answers.Done ∷ told 1 answers.Done 1 ++ told 2 (answers.Changed 1) 2 ++ told 3 (answers.Changed 1) 3 ++ answers.Done ∷ answers.Refused (reasons.Restore (restores.InTheWay path)) ∷ answers.Begun (tx 4) ∷ []
unfolding in_the_way step settle_one
in_the_way-answers = refl

in_the_way-recovers : RecoversLight in_the_way
unfolding in_the_way step settle_one writes
in_the_way-recovers = refl

-- RECOVERY NO: a restore loses the cell whose file is gone
lost_cell : List Act
lost_cell = file ann (whats.Create path (codes "one")) ∷ alone 1 (make o2) ++ alone 1 (put 1 path) ++ does steps.Backup ∷ alone 1 clear ++ file ann (whats.Delete path) ∷ does (steps.Restore (targets.Backup 1)) ∷ []

lost_cell-answers : all_answers first lost_cell ≡ answers.Done ∷ told 1 answers.Done 1 ++ told 2 (answers.Changed 1) 2 ++ answers.BackedUp 1 ∷ told 3 (answers.Changed 1) 3 ++ answers.Done ∷ answers.Restored 4 (record { table = name; row = 1; column = codes "f"; path = path } ∷ []) ∷ []
unfolding lost_cell step settle_one
lost_cell-answers = refl

lost_cell-recovers : RecoversLight lost_cell
unfolding lost_cell step settle_one writes
lost_cell-recovers = refl

-- a path has one link, of one statement and of all
abbrev put_two : Tables → ℕ → ℕ → Evaluated
put_two tables t k = put 2 path (put 1 path tables t k).tables t (k + 1)

already_linked : List Act
already_linked = file ann (whats.Create path (codes "one")) ∷ alone 1 (make o1) ++ begins 1 ∷ says 1 put_two ∷ does (steps.Rollback 1) ∷ alone 1 (put 1 path) ++ begins 1 ∷ says 1 (put 2 path) ∷ does (steps.Rollback 1) ∷ file ann (whats.Write path (codes "two")) ∷ file ann (whats.Delete path) ∷ []

already_linked-answers : all_answers first already_linked ≡ answers.Done ∷ told 1 answers.Done 1 ++ answers.Begun (tx 2) ∷ answers.Refused (reasons.Claim (claims.AlreadyLinked path (link 2))) ∷ answers.Done ∷ told 3 (answers.Changed 1) 2
    ++ answers.Begun (tx 4) ∷ answers.Refused (reasons.Claim (claims.AlreadyLinked path (link 3))) ∷ answers.Done ∷ answers.Done ∷ forbids (link 3) whys.Delete ∷ []
unfolding already_linked step settle_one
already_linked-answers = refl

already_linked-recovers : Recovers already_linked
unfolding already_linked step settle_one writes
already_linked-recovers = refl

-- A STOP INSIDE A FINISH: behind each of its records the lists stand for the same. The last Finish of the steps below has their records 9 to 13.
one_finish : List Act
one_finish = file ann (whats.Create path (codes "abc")) ∷ alone 1 (make o7) ++ alone 1 (put 1 path) ++ begins 1 ∷ says 1 clear ∷ says 1 (put 2 path) ∷ commits 1

-- the kinds of records, as letters: r and l for openings, C for a commit, P, c, d, a and E of a branch, f, A, B
abbrev row_letter : RowsRecord → ℕ
row_letter (rows_records.Opening n) = 114
row_letter (rows_records.Commit t n b made) = 67
row_letter (rows_records.Ended t) = 69

abbrev link_letter : LinksRecord → ℕ
link_letter (links_records.Opening n) = 108
link_letter (links_records.Prepared t g k) = 80
link_letter (links_records.Committed t) = 99
link_letter (links_records.Done t) = 100
link_letter (links_records.Aborted t) = 97

abbrev letter : Written → ℕ
letter (in_rows x) = row_letter x
letter (in_links x) = link_letter x
letter (in_files x) = 102
letter (in_archive x) = 65
letter (in_backups x) = 66

given_and_taken-records : map letter (all_writes first one_finish) ≡ codes "fCPCcfdEPCcAdE"
unfolding one_finish step settle_one writes
given_and_taken-records = refl

given_and_taken-cut_13 : cut one_finish 13 ≡ Some (light (stored (last_state first one_finish)))
unfolding one_finish step settle_one writes
given_and_taken-cut_13 = refl

given_and_taken-cut_14 : cut one_finish 14 ≡ Some (light (stored (last_state first one_finish)))
unfolding one_finish step settle_one writes
given_and_taken-cut_14 = refl

-- before its Commit record a restore is nothing, from it on it is whole
one_restore : List Act
one_restore = file ann (whats.Create path (codes "abc")) ∷ alone 1 (make o7) ++ alone 1 (put 1 path) ++ alone 1 clear ++ does (steps.Restore (targets.Commit 2)) ∷ []

restored_file-records : map letter (all_writes first one_restore) ≡ codes "fCPCcfdEPCcAfdEPCcfdE"
unfolding one_restore step settle_one writes
restored_file-records = refl

restored_file-cut_20 : cut one_restore 20 ≡ Some (light (stored (last_state first one_restore)))
unfolding one_restore step settle_one writes
restored_file-cut_20 = refl

restored_file-cut_21 : cut one_restore 21 ≡ Some (light (stored (last_state first one_restore)))
unfolding one_restore step settle_one writes
restored_file-cut_21 = refl

-- MERGING: the transaction drops a table, makes it anew and changes a second one, while another has changed a third one
abbrev linked_row : ℕ → List ℕ → ℕ → ℕ → ℕ × Row
linked_row n p t k = (n, record { values = values.Int (pos n) ∷ cell p t k ∷ [] })

abbrev table : ℕ → ℕ → List (ℕ × Row) → Rows
table v n rows = record { version = v; columns = columns o2; next = n; rows = rows }

abbrev other_path : ℕ → List ℕ
other_path n = 47 ∷ n ∷ []

abbrev base : Tables
base = (97 ∷ [], table 1 3 (linked_row 1 (other_path 1) 1 1 ∷ linked_row 2 (other_path 2) 1 2 ∷ [])) ∷ (98 ∷ [], table 2 3 (linked_row 1 (other_path 3) 2 1 ∷ linked_row 2 (other_path 4) 2 2 ∷ [])) ∷ (99 ∷ [], table 3 2 (linked_row 1 (other_path 5) 3 1 ∷ [])) ∷ []

abbrev now : Tables
now = (97 ∷ [], table 1 3 (linked_row 1 (other_path 1) 1 1 ∷ linked_row 2 (other_path 2) 1 2 ∷ [])) ∷ (98 ∷ [], table 2 3 (linked_row 1 (other_path 3) 2 1 ∷ linked_row 2 (other_path 4) 2 2 ∷ [])) ∷ (99 ∷ [], table 4 3 (linked_row 1 (other_path 5) 3 1 ∷ linked_row 2 (other_path 6) 4 1 ∷ [])) ∷ []

abbrev copied : Tables
copied = (98 ∷ [], table 2 4 (linked_row 2 (other_path 4) 2 2 ∷ linked_row 3 (other_path 7) 9 1 ∷ [])) ∷ (99 ∷ [], table 3 2 (linked_row 1 (other_path 5) 3 1 ∷ [])) ∷ (97 ∷ [], table 0 2 (linked_row 1 (other_path 2) 9 2 ∷ [])) ∷ []

merged-record : with_table_changes 5 now (commit_changes base copied) ≡ Some (merge now base copied 5)
merged-record = refl

merged-gives : gives now (merge now base copied 5) ≡ gives base copied
merged-gives = refl

merged-takes : takes now (merge now base copied 5) ≡ takes base copied
merged-takes = refl

-- A RESTORE to tables of another order: the committed ones are `b` and then `a`, the target's `a` and then `b`
abbrev reversed : Tables
reversed = (98 ∷ [], table 5 3 []) ∷ (97 ∷ [], table 6 3 []) ∷ []

abbrev target : Tables
target = (97 ∷ [], table 1 2 (linked_row 1 (other_path 1) 1 1 ∷ [])) ∷ (98 ∷ [], table 2 2 (linked_row 1 (other_path 3) 2 1 ∷ [])) ∷ []

-- its record leads to the tables of the restore
restored-record : with_table_changes 7 reversed (restore_changes reversed target) ≡ Some (restored_tables reversed target 7)
restored-record = refl

-- THE TWO ORDERS OF ITS TAKES DIFFER: in the order of the target's links, and in that of the tables that the restore leaves
abbrev tx_of : LinkRow → ℕ
tx_of l = l.link.tx

target-order : map tx_of (takes reversed target) ≡ 1 ∷ 2 ∷ []
target-order = refl

restored-order : map tx_of (takes reversed (restored_tables reversed target 7)) ≡ 2 ∷ 1 ∷ []
restored-order = refl

-- TWO BRANCHES IN DOUBT WITH ONE LINK NUMBER, on different paths and without commits: the lists stand. What such branches give and
-- take is dropped, so nothing of it meets. On one path they stand for nothing.
abbrev shared_take : List ℕ → LinkRow
shared_take path = record { link = record { tx = 1; k = 1 }; path = path; options = o1 }

abbrev shared_prepared : ℕ → List ℕ → Written
shared_prepared tx path = in_links (links_records.Prepared tx [] (record { link = shared_take path; fill = false } ∷ []))

abbrev shared_lists : List ℕ → List ℕ → List Written
shared_lists a b = in_rows (rows_records.Opening 1) ∷ in_links (links_records.Opening 1) ∷ shared_prepared 1 a ∷ shared_prepared 2 b ∷ []

abbrev shared_moved : List ℕ → Moved
shared_moved path = record { gives = []; takes = shared_take path ∷ []; fill = false }

abbrev shared_folds : List ℕ → List ℕ → Folds
shared_folds a b = record {
  rows = record { opening = 1; commits = []; ended = [] };
  links = record { opening = 1; table = record { list = (1, branch (shared_moved a) Prepared) ∷ (2, branch (shared_moved b) Prepared) ∷ [] }; held = maps.empty };
  files = maps.empty;
  copies = maps.empty;
  backups = [];
}

shared-taken : folds_on (Some no_folds) (shared_lists (codes "/a") (codes "/b")) ≡ Some (shared_folds (codes "/a") (codes "/b"))
shared-taken = refl

one-path-taken : folds_on (Some no_folds) (shared_lists (codes "/a") (codes "/a")) ≡ Some (shared_folds (codes "/a") (codes "/a"))
one-path-taken = refl

shared-number : (has_key (shared_moved (codes "/a")) (1 ∷ 1 ∷ []) ≡ true) × (has_key (shared_moved (codes "/b")) (1 ∷ 1 ∷ []) ≡ true)
shared-number = (refl, refl)

false_true : false ≡ true → ⊥
false_true e = cc

none_some : {A : Type 0} (x : A) → None ≡ Some x → ⊥
none_some x e = cc

some_same : {A : Type 0} (x y : A) → Some x ≡ Some y → x ≡ y
some_same x y e = cc

same-text : (p q : List ℕ) → is_at p q ≡ true → p ≡ q
same-text p q e = slice_cmp-IsAntisymmetric nat_cmp-IsAntisymmetric p q ((Equal-is (slice_cmp nat_cmp p q)).0 e)

-- there are these two branches
shared-are : (a b : List ℕ) (t : ℕ) (x : Branch) → maps.get (shared_folds a b).links.table t ≡ Some x → ((t ≡ 1) × (branch (shared_moved a) Prepared ≡ x)) ⊎ ((t ≡ 2) × (branch (shared_moved b) Prepared ≡ x))
shared-are a b t x at = by (eq_by_cmp nat_cmp t 1) refl (eq_by_cmp nat_cmp t 2) refl at
  where
    same : (n : ℕ) → eq_by_cmp nat_cmp t n ≡ true → t ≡ n
    same n e = of (sym (unsigned_tied t n) ∙ e)
      where
        of : (t == n) ≡ true → t ≡ n
        of is = grind (arith, nat_tests)

    by : (y : Bool) → eq_by_cmp nat_cmp t 1 ≡ y → (z : Bool) → eq_by_cmp nat_cmp t 2 ≡ z → cond y (Some (branch (shared_moved a) Prepared)) (cond z (Some (branch (shared_moved b) Prepared)) None) ≡ Some x
        → ((t ≡ 1) × (branch (shared_moved a) Prepared ≡ x)) ⊎ ((t ≡ 2) × (branch (shared_moved b) Prepared ≡ x))
    by true is_one z is_two is = inl (same 1 is_one, some_same (branch (shared_moved a) Prepared) x is)
    by false no_one true is_two is = inr (same 2 is_two, some_same (branch (shared_moved b) Prepared) x is)
    by false no_one false no_two is = absurd (none_some x is)

module _ (a b : List ℕ) (other : is_at a b ≡ false) where
  shared-paths : ShareNoPath (shared_moved a) (shared_moved b)
  shared-paths p = by (is_at p a) refl
    where
      by : (y : Bool) → is_at p a ≡ y → (has_path (shared_moved a) p ≡ false) ⊎ (has_path (shared_moved b) p ≡ false)
      by true here = inr (ap (λ (q : List ℕ). is_at q b || false) (same-text p a here) ∙ ap (λ y. y || false) other)
      by false there = inl (ap (λ y. y || false) there)

  shared-apart : (t u : ℕ) → t ≢ u → (m n : Moved) → open_in (shared_folds a b).links t ≡ Some m → open_in (shared_folds a b).links u ≡ Some n → ShareNoPath m n
  shared-apart t u other_tx m n at_t at_u = by (maps.get (shared_folds a b).links.table t) refl (maps.get (shared_folds a b).links.table u) refl at_t at_u
    where
      turned : ShareNoPath (shared_moved b) (shared_moved a)
      turned p = ⊎_elim (λ (e : has_path (shared_moved a) p ≡ false). inr e) (λ (e : has_path (shared_moved b) p ≡ false). inl e) (shared-paths p)

      moved : (c : List ℕ) (x : Branch) (o : Moved) → branch (shared_moved c) Prepared ≡ x → open_branch (Some x) ≡ Some o → shared_moved c ≡ o
      moved c x o is at = some_same (shared_moved c) o (ap (λ (y : Branch). open_branch (Some y)) is ∙ at)

      by : (x : Option Branch) → maps.get (shared_folds a b).links.table t ≡ x → (y : Option Branch) → maps.get (shared_folds a b).links.table u ≡ y → open_branch x ≡ Some m → open_branch y ≡ Some n → ShareNoPath m n
      by None e y f is_m is_n = absurd (none_some m is_m)
      by (Some x) e None f is_m is_n = absurd (none_some n is_n)
      by (Some x) e (Some y) f is_m is_n = ⊎_elim
          (λ (first : (t ≡ 1) × (branch (shared_moved a) Prepared ≡ x)). ⊎_elim
          (λ (second : (u ≡ 1) × (branch (shared_moved a) Prepared ≡ y)). absurd (other_tx (first.0 ∙ sym second.0)))
          (λ (second : (u ≡ 2) × (branch (shared_moved b) Prepared ≡ y)). subst (λ (z : Moved). ShareNoPath z n) (moved a x m first.1 is_m) (subst (ShareNoPath (shared_moved a)) (moved b y n second.1 is_n) shared-paths))
          (shared-are a b u y f))
          (λ (first : (t ≡ 2) × (branch (shared_moved b) Prepared ≡ x)). ⊎_elim
          (λ (second : (u ≡ 1) × (branch (shared_moved a) Prepared ≡ y)). subst (λ (z : Moved). ShareNoPath z n) (moved b x m first.1 is_m) (subst (ShareNoPath (shared_moved b)) (moved a y n second.1 is_n) turned))
          (λ (second : (u ≡ 2) × (branch (shared_moved b) Prepared ≡ y)). absurd (other_tx (first.0 ∙ sym second.0)))
          (shared-are a b u y f))
          (shared-are a b t x e)

  shared-late : (t : ℕ) → 1 < t / 2 ^ 32 → maps.get (shared_folds a b).links.table t ≡ None
  shared-late t late = by (maps.get (shared_folds a b).links.table t) refl
    where
      first : 1 < t / 2 ^ 32 → t ≡ 1 → ⊥
      first lt e = omega arith

      second : 1 < t / 2 ^ 32 → t ≡ 2 → ⊥
      second lt e = omega arith

      by : (o : Option Branch) → maps.get (shared_folds a b).links.table t ≡ o → maps.get (shared_folds a b).links.table t ≡ None
      by None e = e
      by (Some x) e = absurd (⊎_elim (λ (is : (t ≡ 1) × (branch (shared_moved a) Prepared ≡ x)). first late is.0) (λ (is : (t ≡ 2) × (branch (shared_moved b) Prepared ≡ x)). second late is.0) (shared-are a b t x e))

  never-less : (k : ℕ) → k < 0 → ⊥
  never-less k lt = omega arith

  shared-drawn : (c : List ℕ) → AreDrawn 1 (shared_moved c).gives × AreDrawn 1 (shared_moved c).takes
  shared-drawn c = (none, All-push (λ (l : LinkRow). l.link.tx / 2 ^ 32 ≤ 1) [] (shared_take c) none small)
    where
      none : AreDrawn 1 []
      none k d lt = absurd (never-less k lt)

      small : 1 / 2 ^ 32 ≤ 1
      small = omega arith

  -- THEY STAND
  shared-stands : IsStand (shared_folds a b) (stored_of (shared_folds a b))
  shared-stands = record {
    compares = record {
      distinct = tt;
      moved = tt;
      branches = λ t c e. absurd (none_some c e);
      decided = λ t x at past. absurd (⊎_elim
          (λ (is : (t ≡ 1) × (branch (shared_moved a) Prepared ≡ x)). false_true (ap (λ (y : Branch). is_past y.phase) is.1 ∙ past))
          (λ (is : (t ≡ 2) × (branch (shared_moved b) Prepared ≡ x)). false_true (ap (λ (y : Branch). is_past y.phase) is.1 ∙ past))
          (shared-are a b t x at));
      ended = λ t e. absurd (false_true e);
      apart = shared-apart;
      ready = λ t m some is. absurd (false_true some);
      held = λ p. refl;
      numbers = λ t late. (refl, shared-late t late);
      drawn_commits = λ c is. absurd is;
      drawn_branches = λ t x at. ⊎_elim
          (λ (is : (t ≡ 1) × (branch (shared_moved a) Prepared ≡ x)). subst (λ (y : Branch). AreDrawn 1 y.moved.gives × AreDrawn 1 y.moved.takes) is.1 (shared-drawn a))
          (λ (is : (t ≡ 2) × (branch (shared_moved b) Prepared ≡ x)). subst (λ (y : Branch). AreDrawn 1 y.moved.gives × AreDrawn 1 y.moved.takes) is.1 (shared-drawn b))
          (shared-are a b t x at);
    };
    whole = record {
      paths = λ c is. absurd is;
      one_path = λ c d n x y is. absurd is;
      files = λ p l e. absurd (none_some l e);
      copies = λ n some. absurd (false_true some);
      archived = λ c n l is. absurd is;
      bytes = λ p l c f e. absurd (none_some l e);
      backups = λ k d lt. absurd (never-less k lt);
    };
    is = refl;
  }

shared-row : IsStand (shared_folds (codes "/a") (codes "/b")) (stored_of (shared_folds (codes "/a") (codes "/b")))
shared-row = shared-stands (codes "/a") (codes "/b") refl

-- AND ON ONE PATH they don't
one-path-row : Compares (shared_folds (codes "/a") (codes "/a")) → ⊥
one-path-row compares = ⊎_elim true_false true_false (compares.apart 1 2 other (shared_moved (codes "/a")) (shared_moved (codes "/a")) refl refl (codes "/a"))
  where
    true_false : has_path (shared_moved (codes "/a")) (codes "/a") ≡ false → ⊥
    true_false e = false_true (sym e)

    other : ◌≢◌ {A = ℕ} 1 2
    other e = cc
