use Rattle.std.proofs.Common.{◌≡◌, drop, map}
use Rattle.meaning_areas.specs.Commits.{rising}
use Rattle.db_replay.specs.Rows.{least_after}
use Rattle.db_replay.proofs.rows.numbers_rise.Given as goal

abbrev pub invariant-loop-change : goal.invariant-loop-change
invariant-loop-change l = rising (least_after l.before) (map (λ c. c.number) (drop l.change-index l.made)) ≡ rising 0 (map (λ c. c.number) l.made)
