use Rattle.std.proofs.Common.{◌≡◌, ◌++◌, drop}
use Rattle.std.specs.FinMap as maps
use Rattle.std.specs.List.{filter_map}
use Rattle.fm_effects.specs.Copying.{copy_for}
use Rattle.meaning_settling.specs.Settling.{link_key}
use Rattle.fm_effects.proofs.copying.copies.Given as goal

-- the copies so far, and those of the links that are left
abbrev pub invariant-loop-row : goal.invariant-loop-row
invariant-loop-row l =
    l.made ++ filter_map (λ g. copy_for g (maps.get l.archive.copies (link_key g.link)) (maps.get l.files.files g.path)) (drop l.row-index l.gives)
    ≡ filter_map (λ g. copy_for g (maps.get l.archive.copies (link_key g.link)) (maps.get l.files.files g.path)) l.gives
