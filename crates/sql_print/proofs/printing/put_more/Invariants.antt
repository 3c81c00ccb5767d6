use Rattle.std.proofs.Common.{◌≡◌, ◌++◌, take}
use Rattle.sql_grammar.specs.Printing.{more_text}
use Rattle.sql_print.proofs.printing.put_more.Given as goal

-- what is printed of the parts so far
abbrev pub invariant-parts : goal.invariant-parts
invariant-parts g l = l.out ≡ l.fn.out ++ more_text g.T.Printed.text (take l.part-index l.list)
