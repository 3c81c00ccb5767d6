-- What is told of a line, from what was read of it.
use Rattle.std.proofs.Common.{◌≡◌, ℕ, List, [], Result, Ok, Err, IfOk}
use Rattle.dl_base.specs.declared.answer.Answer.{Answer}
use Rattle.meaning_script.specs.Printed.{line_text}
use Rattle.meaning_sql.specs.declared.Context.{Context}
use Rattle.meaning_tables.specs.Tables.{Tables}
use Rattle.sql_syntax.specs.declared.parser.ParseFault.{ParseFault}
use Rattle.sql_syntax.specs.Parsing.{Parses}
use Rattle.sql_shell.specs.Told.{Answers, IsAnswer, Tells}

pub of_fault : {M : Type 0} (tables : Tables) (context : Context) (line : List ℕ) (fault : ParseFault) (r : Result Answer M) → Parses line (Err fault) → IfOk r (λ a. (t : Tables) (k : Context) → IsAnswer t k (Err fault) a t) → IfOk r (λ a. Answers tables context line a tables)
of_fault tables context line fault (Ok a) parses h = (Err fault, parses, h tables context)
of_fault tables context line fault (Err m) parses h = tt

pub of_answer : {M : Type 0} (tables after : Tables) (context : Context) (n : ℕ) (line : List ℕ) (answer : Answer) (r : Result (List ℕ) M) → Answers tables context line answer after → IfOk r (λ t. t ≡ line_text [] n answer) → IfOk r (λ t. Tells tables context n line t after)
of_answer tables after context n line answer (Ok t) answers h = (answer, answers, h)
of_answer tables after context n line answer (Err m) answers h = tt
