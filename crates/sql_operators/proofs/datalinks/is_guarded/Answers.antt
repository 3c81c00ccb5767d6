use Rattle.std.proofs.Common.{rules}
use Rattle.sql_operators.proofs.datalinks.is_guarded.Goals as goal

pub returns-in-Fs : goal.returns-in-Fs
returns-in-Fs c = search rules
