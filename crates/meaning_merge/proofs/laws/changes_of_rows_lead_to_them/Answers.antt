use Rattle.meaning_merge.proofs.RowChanges.{rows-changed}
use Rattle.meaning_merge.proofs.laws.changes_of_rows_lead_to_them.Goals as goal

pub returns : goal.returns
returns c = rows-changed
