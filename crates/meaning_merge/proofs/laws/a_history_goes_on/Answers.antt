use Rattle.std.proofs.Common.{refl}
use Rattle.meaning_merge.proofs.Committed.{no-commits, goes-on, merge-follows}
use Rattle.meaning_merge.proofs.Restored.{past-follows, restore-follows}
use Rattle.meaning_merge.proofs.Transactions.{begun, stated, others, more-named}
use Rattle.meaning_merge.proofs.laws.a_history_goes_on.Goals as goal

pub returns-clause-begins : goal.returns-clause-begins
returns-clause-begins c = no-commits

pub returns-clause-begun : goal.returns-clause-begun
returns-clause-begun c = begun

pub returns-clause-stated : goal.returns-clause-stated
returns-clause-stated c = stated c.changes_keep_tables_fitting.ensures

pub returns-clause-named : goal.returns-clause-named
returns-clause-named c = more-named

pub returns-clause-apart : goal.returns-clause-apart
returns-clause-apart c = others

pub returns-clause-committed : goal.returns-clause-committed
returns-clause-committed c first cs tx branch base copy names next history txn current = goes-on first cs _ history (merge-follows first cs tx base copy names next history txn current _ refl refl)

pub returns-clause-restored : goal.returns-clause-restored
returns-clause-restored c first cs tx n branch target lost history at = goes-on first cs _ history (restore-follows first cs _ _ history (past-follows first cs n target lost history at) refl)
