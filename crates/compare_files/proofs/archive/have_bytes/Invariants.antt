use Rattle.std.proofs.Common.{◌≡◌, drop}
use Rattle.std.specs.List.{list_all}
use Rattle.compare_files.specs.Copies.{has_bytes}
use Rattle.compare_files.proofs.archive.have_bytes.Given as goal

-- all so far have their copies' bytes
abbrev pub invariant-loop-row : goal.invariant-loop-row
invariant-loop-row l =
    list_all (has_bytes l.sight.settled.now l.sight.files.now.files l.sight.archive.now.copies) (drop l.row-index l.linked)
    ≡ list_all (has_bytes l.sight.settled.now l.sight.files.now.files l.sight.archive.now.copies) l.linked
