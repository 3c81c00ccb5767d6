use Rattle.std.proofs.Common.{◌≡◌, ◌++◌, drop, take, Ok}
use Rattle.dl_journal.specs.Records.{size}
use Rattle.meaning_areas.specs.Areas.{branches_of, links_body}
use Rattle.meaning_areas.specs.Folds.{folded}
use Rattle.fm_branch.specs.Linked.{prepared_in}
use Rattle.fm_branch.proofs.fold.fold.Given as goal

-- what is left gives of the branches so far what all records give; the place is that of the next gate
abbrev pub invariant-loop-body : goal.invariant-loop-body
invariant-loop-body l = record {
  links : folded links_body l.place (Ok l.history.links) (drop l.body-index l.body-items) ≡ branches_of l.body-items;
  prepared : l.history.prepared ++ prepared_in (drop l.body-index l.body-items) ≡ prepared_in l.body-items;
  place : l.place ≡ size (take l.body-index l.body-items);
}
