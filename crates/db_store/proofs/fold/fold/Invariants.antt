use Rattle.std.proofs.Common.{◌≡◌, ◌+◌, Ok}
use Rattle.std.specs.Vec.Iter.{into_iter_items}
use Rattle.dl_journal.specs.Records.{size}
use Rattle.meaning_areas.specs.Areas.{rows_body, rows_of}
use Rattle.meaning_areas.specs.Folds.{folded}
use Rattle.db_store.proofs.fold.fold.Given as goal

-- what is left gives of the commits so far what all records give; the place is that of the next gate
abbrev pub invariant-loop-body : goal.invariant-loop-body
invariant-loop-body l = record {
  rows : folded rows_body l.place (Ok l.history) (into_iter_items l.body-iterator) ≡ rows_of l.fn.bodies;
  place : l.place + size (into_iter_items l.body-iterator) ≡ size l.fn.bodies;
}
