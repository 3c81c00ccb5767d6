use Rattle.std.proofs.Common.{arith}
use Rattle.db_store.proofs.LogLaws.{past_none}
use Rattle.db_store.proofs.earlier.past_tables.Goals as goal

pub returns-then-commit-len : goal.returns-then-commit-len
returns-then-commit-len c = grind (arith, past_none)
