use Rattle.std.proofs.Common.{refl}
use Rattle.meaning_merge.proofs.Committed.{merged_fit}
use Rattle.meaning_merge.proofs.TableChanges.{changes-merge, commit-taken}
use Rattle.meaning_merge.proofs.laws.changes_of_a_commit_lead_to_its_tables.Goals as goal

pub returns-clause-lead : goal.returns-clause-lead
returns-clause-lead c = changes-merge

pub returns-clause-fit : goal.returns-clause-fit
returns-clause-fit c = merged_fit

pub returns-clause-taken : goal.returns-clause-taken
returns-clause-taken c first r tx branch base copy names next history txn current drawn = commit-taken first r.commits tx base copy names next history txn current r branch refl drawn
