use Rattle.meaning_merge.proofs.TableByTable.{merged-table}
use Rattle.meaning_merge.proofs.laws.merging_table_by_table.Goals as goal

pub returns : goal.returns
returns c = merged-table
