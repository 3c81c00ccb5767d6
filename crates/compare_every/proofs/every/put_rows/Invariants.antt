use Rattle.std.proofs.Common.{◌≡◌, ℕ, List, drop}
use Rattle.std.specs.BTreeMap.{get}
use Rattle.std.specs.Cmp.Lexicographic.{slice_cmp}
use Rattle.std.specs.Ordering.{nat_cmp}
use Rattle.meaning_settling.specs.Settling.{numbered}
use Rattle.compare_every.specs.Every.{first_row}
use Rattle.compare_every.proofs.every.put_rows.Given as goal

-- the rows so far, and then the links that are left
abbrev pub invariant-loop-link : goal.invariant-loop-link
invariant-loop-link l = (n : List ℕ) → first_row (get (slice_cmp nat_cmp) l.rows n) (numbered (drop l.link-index l.links) n) ≡ first_row (get (slice_cmp nat_cmp) l.initial.rows n) (numbered l.links n)
