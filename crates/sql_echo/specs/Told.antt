-- What is printed: what is told of a text. Read Parsing of sql_syntax and Writing of sql_print first.
use Rattle.std.specs.Prelude.{◌≡◌, ◌++◌, ℕ, List, Result, Ok, Err, codes, decimal}
use Rattle.dl_base.specs.declared.statement.Stmt.{Stmt}
use Rattle.sql_print.specs.Writing.{text_of}
use Rattle.sql_syntax.specs.declared.parser.ParseFault.{ParseFault}
use Rattle.sql_syntax.specs.declared.parser.ParseFault.TheVariants as fault
use Rattle.sql_syntax.specs.Parsing.{Parses}

-- the words of a fault
abbrev pub TellsFault : ParseFault → List ℕ → Type 0
TellsFault (fault.BadChar k) t = t ≡ codes "bad char " ++ decimal k
TellsFault (fault.Syntax k) t = t ≡ codes "syntax " ++ decimal k
TellsFault fault.Memory t = ⊥

-- the words of an answer
abbrev pub TellsAnswer : Result Stmt ParseFault → List ℕ → Type 0
TellsAnswer (Ok s) t = t ≡ text_of s
TellsAnswer (Err e) t = TellsFault e t

-- the words of what the grammar answers to the text
abbrev pub Tells : List ℕ → List ℕ → Type 0
Tells text t = (r : Result Stmt ParseFault) × Parses text r × TellsAnswer r t
