use Rattle.sql_grammar.specs.declared.print_token.PrintToken.TheVariants as print_token
use Rattle.sql_print.proofs.Lists.{times_step}
use Rattle.sql_print.proofs.printing.put_times.Goals as goal

pub times-preserved : goal.times-preserved
times-preserved c = times_step (print_token.Symbol c.args.first) (print_token.Symbol c.args.second) c.times.turn c.args.out.now c.times.out c.put_symbol.new.out c.put_symbol-in-times.new.out c.times.invariant c.in_ok-put_symbol.ensures c.in_ok-put_symbol-2.ensures
