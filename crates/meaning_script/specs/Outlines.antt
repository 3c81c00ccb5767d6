-- What a line of a script is, as far as it is no statement. Places count the bytes of a line from 1.
use Rattle.std.specs.Prelude.{ℕ, ◌≤◌, ◌+◌, ◌==◌, not, nat_lt, if◌then◌else◌, List, [], ◌∷◌, length, take, drop, codes, Option, Some, None, Result, Ok, Err}
use Rattle.std.specs.List.{position, prefix_len}
use Rattle.dl_base.specs.Limits.{most_line_bytes}
use Rattle.dl_base.specs.declared.answer.Refusal.TheVariants as refusals
use Rattle.fs_command.specs.Commands.{command, is, is_session}
use Rattle.fs_command.specs.Words.{Word, words}
use Rattle.fs_command.specs.declared.line.FileLine.{FileLine}
use Rattle.meaning_script.specs.Lines.{is_quiet, is_user}
use Rattle.meaning_script.specs.Expansion.{IsRead}
use Rattle.meaning_script.specs.Orders.{order}
use Rattle.meaning_script.specs.declared.kind.Line.{Line}
use Rattle.meaning_script.specs.declared.kind.Line.TheVariants as lines
use Rattle.meaning_script.specs.declared.kind.Order.{Order}
use Rattle.meaning_script.specs.declared.kind.Outline.{Outline}
use Rattle.meaning_script.specs.declared.kind.Outline.TheVariants as outlines
use Rattle.meaning_script.specs.declared.kind.Sentence.{Sentence}
use Rattle.meaning_script.specs.declared.kind.Sentence.TheVariants as sentences

abbrev pub bad_at : ℕ → Line
bad_at place = lines.Bad (refusals.BadLine place)

-- ---- lines of the system and of users

-- `!` and an order
abbrev pub system_line : Result Order ℕ → Line
system_line (Ok o) = lines.System o
system_line (Err place) = bad_at (place + 1)

-- how many bytes the first word has
abbrev pub word_len : List ℕ → ℕ
word_len text = prefix_len (λ b. not (b == 32)) text

-- a command behind so many bytes of the line
abbrev pub file_line : ℕ → Result FileLine ℕ → Line
file_line before (Ok l) = lines.File l
file_line before (Err place) = bad_at (place + before)

-- what stands behind an `@`: a user, and a command from there on
unfoldable pub user_line : List ℕ → Line
user_line text =
    if is_user (take (word_len text) text) then file_line (word_len text + 1) (command (take (word_len text) text) (drop (word_len text) text))
    else bad_at 1

-- ---- lines of sessions

abbrev pub step_in : List ℕ → Option Sentence
step_in bytes =
    if is (codes "!prepare") bytes then Some sentences.Prepare
    else (if is (codes "!decide") bytes then Some sentences.Decide
    else (if is (codes "!finish") bytes then Some sentences.Finish else None))

-- `!prepare`, `!decide` and `!finish`; a place counts the bytes of the text behind so many bytes of the line
abbrev pub by_step : List ℕ → ℕ → Option Sentence → List Word → Outline
by_step name before None ws = outlines.Statement name before
by_step name before (Some s) [] = outlines.Plain (lines.Session name s)
by_step name before (Some s) (w ∷ ws) = outlines.Plain (bad_at (w.place + before))

abbrev pub by_words : List ℕ → ℕ → List Word → Outline
by_words name before [] = outlines.Statement name before
by_words name before (w ∷ ws) = by_step name before (step_in w.bytes) ws

-- what stands behind the colon: a step as its only word, or else a statement
unfoldable pub sentence : List ℕ → ℕ → List ℕ → Outline
sentence name before text = by_words name before (words 1 text)

-- a name, and behind its colon a sentence
abbrev pub by_colon : List ℕ → Option ℕ → Outline
by_colon line None = outlines.Plain (bad_at 1)
by_colon line (Some k) = if is_session (take k line) then sentence (take k line) (k + 1) (drop (k + 1) line) else outlines.Plain (bad_at 1)

unfoldable pub session_line : List ℕ → Outline
session_line line = by_colon line (position (λ b. b == 58) line)

-- ---- lines

abbrev pub by_mark : List ℕ → Outline
by_mark [] = outlines.Plain (bad_at 1)
by_mark (b ∷ text) =
    if b == 33 then outlines.Plain (system_line (order text))
    else (if b == 64 then outlines.Plain (user_line text) else session_line (b ∷ text))

unfoldable pub outline : List ℕ → Outline
outline line =
    if is_quiet line then outlines.Plain lines.Nothing
    else (if nat_lt most_line_bytes (length line) then outlines.Plain (bad_at (most_line_bytes + 1)) else by_mark line)

-- ---- what every outline is

-- the outline of a line of so many bytes: its statement begins within the line, and a line with a statement is not too long
abbrev pub IsWithin : ℕ → Outline → Type 0
IsWithin len (outlines.Plain l) = IsRead l
IsWithin len (outlines.Statement name before) = (before ≤ len) × (len ≤ most_line_bytes)
