-- What a Finish has still to write.
use Rattle.std.specs.Prelude.{ℕ, List, [], ◌∷◌}
use Rattle.dl_codec.specs.declared.links.BranchPhase.{BranchPhase}
use Rattle.dl_codec.specs.declared.links.BranchPhase.TheVariants as phases
use Rattle.dl_codec.specs.declared.links.LinksRecord.TheVariants as links_records
use Rattle.dl_codec.specs.declared.rows.RowsRecord.TheVariants as rows_records
use Rattle.meaning_areas.specs.Finishing.{finish_records, next_record}
use Rattle.meaning_areas.specs.Lists.{Written, in_links, in_rows}
use Rattle.meaning_settling.specs.Settling.{Kept, Moved}

-- WHAT IS LEFT of the Finish of a branch: behind Done its Ended alone
abbrev pub left_to_write : ℕ → BranchPhase → Moved → Kept → List Written
left_to_write tx phases.Prepared m k = finish_records tx phases.Prepared m k
left_to_write tx phases.Committed m k = finish_records tx phases.Committed m k
left_to_write tx phases.Done m k = in_rows (rows_records.Ended tx) ∷ []
left_to_write tx phases.Aborted m k = []

-- its first record, of a branch in doubt
abbrev pub first_left : ℕ → BranchPhase → Moved → Kept → Written
first_left tx phases.Prepared m k = in_links (links_records.Committed tx)
first_left tx p m k = next_record tx m k
