use Rattle.std.proofs.Common.{◌+◌, [], arith, sym, ◌∙◌}
use Rattle.compare_files.proofs.OfPast.{past-none}
use Rattle.compare_files.proofs.backups.advance.Goals as goal

pub returns-in-None : goal.returns-in-None
returns-in-None c = sym (past-none [] c.args.store.now.rows.commits (c.loop-n.n + 1) c.args.commit (sym c.in_ok-after.ensures ∙ c.in-None.is) (omega (arith, c.loop-n-test.true)))
