use Rattle.std.proofs.Common.{◌≡◌, drop}
use Rattle.std.specs.FinMap as maps
use Rattle.std.specs.List.{list_all}
use Rattle.compare_files.specs.Copies.{is_recovered}
use Rattle.compare_files.proofs.archive.are_recovered.Given as goal
use Rattle.meaning_settling.specs.Settling.{link_key}

-- all so far have RECOVERY YES
abbrev pub invariant-loop-link : goal.invariant-loop-link
invariant-loop-link l = list_all (λ x. is_recovered (maps.get l.every (link_key x))) (drop l.link-index l.stored) ≡ list_all (λ x. is_recovered (maps.get l.every (link_key x))) l.stored
