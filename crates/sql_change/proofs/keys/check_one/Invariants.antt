use Rattle.std.proofs.Common.{◌≡◌, ℕ, List, [], drop, map}
use denote.Ref.{Bor}
use Rattle.meaning_tables.specs.Fits.{repeated}
use Rattle.sql_change.specs.Keys.{HaveStood, StoodKeys}
use Rattle.sql_change.proofs.keys.check_one.Given as goal

-- the later rows repeat a key, of theirs or of those that have stood, where all do
abbrev pub invariant-loop-i : goal.invariant-loop-i
invariant-loop-i l =
    (stood : StoodKeys) × HaveStood l.numbers.keys (map (λ (t : Bor (List ℕ)). t.now) l.texts.keys) stood × (repeated l.table.columns stood (drop l.i l.table.rows) ≡ repeated l.table.columns [] l.table.rows)
