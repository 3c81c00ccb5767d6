use Rattle.std.proofs.Common.{◌≡◌, List, [], drop}
use Rattle.dl_base.specs.declared.value.LinkRow.{LinkRow}
use Rattle.meaning_tables.specs.Links.{gives}
use Rattle.sys_core.specs.Claiming.{AreNumbersOf, takes_refusal_in}
use Rattle.sys_core.proofs.engine.Engine.takes_refusal.Given as goal

-- what is left is refused as all are, behind those so far, whose numbers stand at their paths
abbrev pub invariant-loop-take : goal.invariant-loop-take
invariant-loop-take l =
    (before : List LinkRow) × AreNumbersOf before l.earlier.entries
    × (takes_refusal_in l.self l.tx (gives l.txn.base l.txn.copy) before (drop l.take-index l.takes) ≡ takes_refusal_in l.self l.tx (gives l.txn.base l.txn.copy) [] l.takes)
