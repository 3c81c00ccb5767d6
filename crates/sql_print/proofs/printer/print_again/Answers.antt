use Rattle.sql_print.proofs.Texts.{means_again}
use Rattle.sql_print.proofs.printer.print_again.Goals as goal

pub returns : goal.returns
returns c = means_again c.written_again.ensures.written c.written_again.ensures.capitals c.written_again.ensures.spelled c.joined_again.ensures
