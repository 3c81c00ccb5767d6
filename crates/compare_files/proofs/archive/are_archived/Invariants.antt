use Rattle.std.proofs.Common.{◌≡◌, drop}
use Rattle.std.specs.FinMap as maps
use Rattle.std.specs.List.{list_all}
use Rattle.compare_files.specs.Copies.{archived_by}
use Rattle.compare_files.proofs.archive.are_archived.Given as goal

-- all so far are committed, or have a copy where they have RECOVERY YES
abbrev pub invariant-loop-i : goal.invariant-loop-i
invariant-loop-i l =
    list_all (archived_by l.sight.settled.now l.sight.files.now.files l.sight.archive.now.copies l.numbers.keys) (drop l.i (maps.values l.sight.every.now))
    ≡ list_all (archived_by l.sight.settled.now l.sight.files.now.files l.sight.archive.now.copies l.numbers.keys) (maps.values l.sight.every.now)
