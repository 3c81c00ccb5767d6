use Rattle.std.proofs.Common.{◌≡◌, ◌++◌, take}
use Rattle.sql_lex.specs.Spelling.{doubled}
use Rattle.sql_print.proofs.writing.put_doubled.Given as goal

abbrev pub invariant-bytes : goal.invariant-bytes
invariant-bytes l = l.out ≡ l.fn.out ++ doubled (take l.byte-index l.bytes)
