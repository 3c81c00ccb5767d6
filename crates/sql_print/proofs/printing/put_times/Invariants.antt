use Rattle.std.proofs.Common.{◌≡◌, ◌++◌, ◌∷◌, []}
use Rattle.sql_grammar.specs.declared.print_token.PrintToken.TheVariants as print_token
use Rattle.sql_grammar.specs.Printing.{repeated}
use Rattle.sql_print.proofs.printing.put_times.Given as goal

abbrev pub invariant-times : goal.invariant-times
invariant-times l = l.out ≡ l.fn.out ++ repeated (print_token.Symbol l.first ∷ print_token.Symbol l.second ∷ []) l.turn
