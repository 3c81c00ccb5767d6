-- Which lines are not built yet.
use Rattle.std.specs.Prelude.{Bool, true, false}
use Rattle.meaning_script.specs.declared.kind.Line.{Line}
use Rattle.meaning_script.specs.declared.kind.Line.TheVariants as lines
use Rattle.meaning_script.specs.declared.kind.Order.{Order}
use Rattle.meaning_script.specs.declared.kind.Order.TheVariants as orders

-- an order of the whole system that is built: the clock, the copies that are pending, the tables that are backed up, and those restored
abbrev pub is_built_order : Order → Bool
is_built_order (orders.Tick seconds) = true
is_built_order orders.Archive = true
is_built_order orders.Backup = true
is_built_order (orders.Restore target) = true
is_built_order _ = false

-- all lines but those that crash, or settle what a crash left
abbrev pub is_built : Line → Bool
is_built (lines.System order) = is_built_order order
is_built _ = true
