use Rattle.std.proofs.Common.{drop}
use Rattle.compare_files.specs.Effects.{effect}
use Rattle.compare_files.proofs.Turns.{Comes}
use Rattle.compare_files.proofs.overlay.effects.Given as goal
use Rattle.meaning_areas.specs.Stands.{open_in, txs_of}

-- what stands so far, and what the transactions behind it do, are all
abbrev pub invariant-loop-i : goal.invariant-loop-i
invariant-loop-i l = Comes effect (open_in l.branches.links) (txs_of l.store.rows.commits) (drop l.i (txs_of l.store.rows.commits)) l.made.entries
