use Rattle.std.proofs.Common.{length}
use Rattle.sql_print.proofs.printing.+put_joins.Given as goal

abbrev pub decreases-put_joins : goal.decreases-put_joins
decreases-put_joins l = length l.sources.now
