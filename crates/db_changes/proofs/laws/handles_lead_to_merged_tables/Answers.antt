use Rattle.db_changes.proofs.Leading.{distinct-named, handles-lead}
use Rattle.db_changes.proofs.laws.handles_lead_to_merged_tables.Goals as goal

pub returns-clause-named : goal.returns-clause-named
returns-clause-named c committed base copy number named bases = handles-lead copy number committed base named bases

pub returns-clause-distinct : goal.returns-clause-distinct
returns-clause-distinct c committed base copy number named bases = handles-lead copy number committed base (distinct-named committed named) (distinct-named base bases)
