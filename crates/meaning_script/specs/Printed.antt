-- What is told of an answered line, and of a step of a history.
use Rattle.std.specs.Prelude.{ℕ, ◌==◌, Bool, true, false, if◌then◌else◌, List, [], ◌∷◌, ◌++◌, length, codes, decimal}
use Rattle.std.specs.Fmt.{signed_decimal}
use Rattle.std.specs.List.{flat_map}
use Rattle.dl_base.specs.declared.answer.Answer.{Answer}
use Rattle.dl_base.specs.declared.answer.Answer.TheVariants as answers
use Rattle.dl_base.specs.declared.answer.Lost.{Lost}
use Rattle.dl_base.specs.declared.file.FileRow.{FileRow}
use Rattle.dl_base.specs.declared.step.Step.{Step}
use Rattle.dl_base.specs.declared.step.Step.TheVariants as kinds
use Rattle.dl_base.specs.declared.value.Value.{Value}
use Rattle.dl_base.specs.declared.value.Value.TheVariants as values
use Rattle.dl_token.specs.Links.{transaction_text}
use Rattle.meaning_script.specs.Refusals.{refusal_words}

-- Cells.

-- a byte of a text: a quote is written twice
abbrev pub quoted_byte : ℕ → List ℕ
quoted_byte b = if b == 39 then 39 ∷ 39 ∷ [] else b ∷ []

abbrev pub cell_text : Value → List ℕ
cell_text values.Null = codes "NULL"
cell_text (values.Int number) = signed_decimal number
cell_text (values.Text text) = 39 ∷ flat_map quoted_byte text ++ 39 ∷ []
cell_text (values.Link link) = 60 ∷ link.location ++ 62 ∷ []

-- a cell behind another
abbrev pub next_cell : Value → List ℕ
next_cell value = codes " | " ++ cell_text value

abbrev pub row_text : List Value → List ℕ
row_text [] = []
row_text (value ∷ more) = cell_text value ++ flat_map next_cell more

-- Files, and datalinks that a restore lost.

abbrev pub flag_word : Bool → List ℕ
flag_word true = codes " on "
flag_word false = codes " off "

abbrev pub file_text : FileRow → List ℕ
file_text row = row.path ++ codes " " ++ row.file.owner.name ++ flag_word row.file.owner.writable ++ decimal (length row.file.bytes)

abbrev pub lost_text : Lost → List ℕ
lost_text lost = codes "lost " ++ lost.table ++ codes " " ++ decimal lost.row ++ codes " " ++ lost.column ++ codes " " ++ lost.path

-- Answers.

-- the words of an answer, where the sessions have these names in order
abbrev pub answer_words : List (List ℕ) → Answer → List ℕ
answer_words names answers.Done = codes "ok"
answer_words names (answers.Begun tx) = codes "ok " ++ transaction_text tx
answer_words names (answers.Changed count) = codes "ok " ++ decimal count
answer_words names (answers.Rows grid) = codes "rows " ++ decimal (length grid.rows)
answer_words names (answers.Committed number) = codes "ok commit " ++ decimal number
answer_words names (answers.Bytes bytes) = codes "bytes " ++ decimal (length bytes)
answer_words names (answers.Files files) = codes "ok files " ++ decimal (length files)
answer_words names (answers.Archived count) = codes "ok archived " ++ decimal count
answer_words names (answers.BackedUp number) = codes "ok backup " ++ decimal number
answer_words names (answers.Restored number lost) = codes "ok commit " ++ decimal number
answer_words names (answers.Resolved finished dropped) = codes "ok committed " ++ decimal finished ++ codes " dropped " ++ decimal dropped
answer_words names (answers.Refused why) = codes "refused " ++ refusal_words names why

-- a line that follows the words of the answer to line n
abbrev pub further_line : ℕ → List ℕ → List ℕ
further_line n line = decimal n ++ codes "| " ++ line ++ 10 ∷ []

abbrev pub further_lines : ℕ → Answer → List ℕ
further_lines n (answers.Rows grid) = flat_map (λ row. further_line n (row_text row.values)) grid.rows
further_lines n (answers.Bytes bytes) = further_line n bytes
further_lines n (answers.Files files) = flat_map (λ row. further_line n (file_text row)) files
further_lines n (answers.Restored number lost) = flat_map (λ one. further_line n (lost_text one)) lost
further_lines n _ = []

-- the answer of line n: `n: ` and its words, then `n| ` and each line that follows, every one with a newline
unfoldable pub line_text : List (List ℕ) → ℕ → Answer → List ℕ
line_text names n answer = decimal n ++ codes ": " ++ answer_words names answer ++ 10 ∷ [] ++ further_lines n answer

-- The history of actors that run side by side. Only steps of sessions, of users and of the archive are in one; the words of
-- the others are there so that each step has one.
abbrev pub step_word : Step → List ℕ
step_word (kinds.Begin session) = codes "begin"
step_word (kinds.Statement session stmt) = codes "statement"
step_word (kinds.Prepare session) = codes "prepare"
step_word (kinds.Decide session) = codes "decide"
step_word (kinds.Finish session) = codes "finish"
step_word (kinds.Rollback session) = codes "rollback"
step_word (kinds.File cmd) = codes "file"
step_word (kinds.Archive link) = codes "archive"
step_word kinds.Backup = codes "backup"
step_word (kinds.Restore target) = codes "restore"
step_word (kinds.Tick seconds) = codes "tick"
step_word kinds.CrashManager = codes "crash"
step_word kinds.CrashDatabase = codes "crash"
step_word kinds.Resolve = codes "resolve"

-- the ith step of a history, which an actor does for line n
unfoldable pub history_text : ℕ → List ℕ → ℕ → Step → List ℕ
history_text i actor n step = codes "# " ++ decimal i ++ codes " " ++ actor ++ codes " " ++ decimal n ++ codes " " ++ step_word step ++ 10 ∷ []
