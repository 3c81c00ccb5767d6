-- What a line of a script is read as.
use Rattle.std.specs.Prelude.{◌≡◌, ℕ, ◌+◌, List, drop, Result, Ok, Err}
use Rattle.dl_base.specs.declared.answer.Refusal.TheVariants as refusals
use Rattle.dl_base.specs.declared.statement.Stmt.{Stmt}
use Rattle.meaning_script.specs.Outlines.{bad_at, outline}
use Rattle.meaning_script.specs.declared.kind.Line.{Line}
use Rattle.meaning_script.specs.declared.kind.Line.TheVariants as lines
use Rattle.meaning_script.specs.declared.kind.Outline.{Outline}
use Rattle.meaning_script.specs.declared.kind.Outline.TheVariants as outlines
use Rattle.meaning_script.specs.declared.kind.Sentence.TheVariants as sentences
use Rattle.sql_syntax.specs.Parsing.{Parses}
use Rattle.sql_syntax.specs.declared.parser.ParseFault.{ParseFault}
use Rattle.sql_syntax.specs.declared.parser.ParseFault.TheVariants as faults

-- What the grammar's answer to a statement's text makes of its line: places count the line's bytes, of which so many stand before
-- the text.
abbrev pub Shows : List ℕ → ℕ → Result Stmt ParseFault → Line → Type 0
Shows name before (Ok s) l = l ≡ lines.Session name (sentences.Sql s)
Shows name before (Err (faults.BadChar k)) l = l ≡ bad_at (k + before)
Shows name before (Err (faults.Syntax k)) l = l ≡ lines.Bad (refusals.Syntax (k + before))
Shows name before (Err faults.Memory) l = ⊥

-- the line is the statement that its text is by the grammar, or the place from which on it is none
abbrev pub IsStatement : List ℕ → ℕ → List ℕ → Line → Type 0
IsStatement name before text l = (r : Result Stmt ParseFault) × Parses text r × Shows name before r l

abbrev pub IsFilled : List ℕ → Outline → Line → Type 0
IsFilled bytes (outlines.Plain m) l = l ≡ m
IsFilled bytes (outlines.Statement name before) l = IsStatement name before (drop before bytes) l

-- the bytes of a line are read so
abbrev pub Reads : List ℕ → Line → Type 0
Reads bytes l = IsFilled bytes (outline bytes) l
