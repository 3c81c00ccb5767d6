use Rattle.std.proofs.Common.{◌≡◌, ◌&&◌, ◌||◌, ℕ, List, drop}
use Rattle.std.specs.BTreeSet.{contains}
use Rattle.std.specs.Cmp.Lexicographic.{slice_cmp}
use Rattle.std.specs.List.{list_any}
use Rattle.std.specs.Ordering.{nat_cmp}
use Rattle.meaning_settling.specs.Keyed.{is_at}
use Rattle.bk_losing.proofs.way.given_paths.Given as goal

-- the paths so far, and those of what is left, are all
abbrev pub invariant-loop-give : goal.invariant-loop-give
invariant-loop-give l =
    (q : List ℕ) → (contains (slice_cmp nat_cmp) l.made q || list_any (λ g. g.options.recovery && is_at q g.path) (drop l.give-index l.gives)) ≡ list_any (λ g. g.options.recovery && is_at q g.path) l.gives
