use Rattle.std.proofs.Common.{◌≡◌, ◌||◌, ℕ, List, drop}
use Rattle.std.specs.BTreeSet.{contains}
use Rattle.std.specs.Cmp.Lexicographic.{slice_cmp}
use Rattle.std.specs.List.{list_any}
use Rattle.std.specs.Ordering.{nat_cmp}
use Rattle.meaning_settling.specs.Keyed.{is_at}
use Rattle.meaning_settling.specs.Settling.{link_key}
use Rattle.bk_losing.proofs.losing.numbers_of.Given as goal

-- the numbers so far, and those of what is left, are all
abbrev pub invariant-loop-link : goal.invariant-loop-link
invariant-loop-link l = (n : List ℕ) → (contains (slice_cmp nat_cmp) l.made n || list_any (λ t. is_at (link_key t.link) n) (drop l.link-index l.links)) ≡ list_any (λ t. is_at (link_key t.link) n) l.links
