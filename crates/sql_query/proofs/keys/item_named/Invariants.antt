use Rattle.std.proofs.Common.{◌≡◌, ◌++◌, drop}
use Rattle.std.specs.Option.{option_to_list}
use Rattle.sql_query.specs.Items.{places_of, is_item_named}
use Rattle.sql_query.proofs.keys.item_named.Given as goal

-- the one found so far, and those of what is left
abbrev pub invariant-loop-i : goal.invariant-loop-i
invariant-loop-i l = option_to_list l.found ++ places_of (is_item_named l.name) l.i (drop l.i l.items) ≡ places_of (is_item_named l.name) 0 l.items
