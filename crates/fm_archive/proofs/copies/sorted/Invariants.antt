use Rattle.std.proofs.Common.{◌≡◌, map}
use Rattle.std.specs.FinMap as maps
use Rattle.std.specs.Map.Iter.{deref_pair}
use Rattle.fm_archive.proofs.Listing.{codes_of}
use Rattle.fm_archive.specs.Copies.{copies_in}
use Rattle.fm_archive.proofs.copies.sorted.Given as goal

-- what was put in order are the keys of the entries so far
abbrev pub invariant-loop-key : goal.invariant-loop-key
invariant-loop-key l = codes_of l.made.entries ≡ maps.keys (copies_in (map deref_pair l.yielded))
