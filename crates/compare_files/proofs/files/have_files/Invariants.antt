use Rattle.std.proofs.Common.{◌≡◌, drop, is_some}
use Rattle.std.specs.List.{list_all}
use Rattle.compare_files.specs.Overlay.{file_at}
use Rattle.compare_files.proofs.files.have_files.Given as goal

-- each link so far has a file
abbrev pub invariant-loop-row : goal.invariant-loop-row
invariant-loop-row l =
    list_all (λ x. is_some (file_at l.settled l.files.files l.archive.copies x.path)) (drop l.row-index l.linked)
    ≡ list_all (λ x. is_some (file_at l.settled l.files.files l.archive.copies x.path)) l.linked
