use Rattle.std.proofs.Common.{◌≡◌, ◌+◌, ◌-◌, length, drop}
use Rattle.sql_lex.specs.Scan.{scan}
use Rattle.sql_lex.proofs.Scans.{behind}
use Rattle.sql_lex.proofs.lexer.scan.Given as goal

-- the lexemes so far, and what is left, are those of all
abbrev pub invariant-bytes : goal.invariant-bytes
invariant-bytes l = behind l.list (scan 0 (l.at + 1) (drop l.at l.text)) ≡ scan 0 1 l.text

abbrev pub decreases-bytes : goal.decreases-bytes
decreases-bytes l = length l.text - l.at
