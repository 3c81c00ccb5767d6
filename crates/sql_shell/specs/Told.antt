-- What is told of a line, and the tables after it.
use Rattle.std.specs.Prelude.{◌≡◌, ℕ, ◌^◌, List, [], codes, replicate, Result, Ok, Err}
use Rattle.dl_base.specs.declared.answer.Answer.{Answer}
use Rattle.dl_base.specs.declared.answer.Answer.TheVariants as answers
use Rattle.dl_base.specs.declared.answer.Refusal.TheVariants as reasons
use Rattle.dl_base.specs.declared.statement.Stmt.{Stmt}
use Rattle.meaning_script.specs.Printed.{line_text}
use Rattle.meaning_sql.specs.declared.Context.{Context}
use Rattle.meaning_tables.specs.Tables.{Tables}
use Rattle.sql_run.specs.Outcomes.{evaluated, answer_of}
use Rattle.sql_syntax.specs.declared.parser.ParseFault.{ParseFault}
use Rattle.sql_syntax.specs.declared.parser.ParseFault.TheVariants as parse_faults
use Rattle.sql_syntax.specs.Parsing.{Parses}

-- what the statements of the first transaction are evaluated with, but for its number: server fs1, a key of 32 zeros, moment 0, tokens
-- that are good for 60 seconds; the number is the one before that of the first transaction, 1-1
abbrev pub first_context : Context
first_context = record { server = codes "fs1"; key = replicate 32 0; now = 0; life = 60; tx = 2 ^ 32 }

-- The answer to what the grammar says of a line, and the tables after it. Each statement is a transaction, so its links count from 1.
-- A byte that begins no lexeme makes a bad line. Want of memory is never told.
abbrev pub IsAnswer : Tables → Context → Result Stmt ParseFault → Answer → Tables → Type 0
IsAnswer tables context (Ok stmt) answer after = (answer ≡ answer_of (evaluated tables stmt context 1).outcome) × (after ≡ (evaluated tables stmt context 1).tables)
IsAnswer tables context (Err (parse_faults.BadChar place)) answer after = (answer ≡ answers.Refused (reasons.BadLine place)) × (after ≡ tables)
IsAnswer tables context (Err (parse_faults.Syntax place)) answer after = (answer ≡ answers.Refused (reasons.Syntax place)) × (after ≡ tables)
IsAnswer tables context (Err parse_faults.Memory) answer after = ⊥

abbrev pub Answers : Tables → Context → List ℕ → Answer → Tables → Type 0
Answers tables context line answer after = (r : Result Stmt ParseFault) × Parses line r × IsAnswer tables context r answer after

-- the text that is told of line n
abbrev pub Tells : Tables → Context → ℕ → List ℕ → List ℕ → Tables → Type 0
Tells tables context n line told after = (answer : Answer) × Answers tables context line answer after × (told ≡ line_text [] n answer)
