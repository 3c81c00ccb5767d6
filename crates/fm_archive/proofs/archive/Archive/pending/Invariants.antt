use Rattle.std.proofs.Common.{◌≡◌, ◌++◌, drop}
use Rattle.fm_archive.specs.Copies.{pending}
use Rattle.fm_archive.proofs.archive.Archive.pending.Given as goal

-- the links so far that wait, and those of the links that are left, are all
abbrev pub invariant-loop-row : goal.invariant-loop-row
invariant-loop-row l = l.waiting ++ pending l.self.copies (drop l.row-index l.links) ≡ pending l.self.copies l.links
