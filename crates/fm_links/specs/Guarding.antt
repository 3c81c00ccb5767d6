-- The links that forbid commands on a file, by the link that is held on its path and the claim there.
use Rattle.std.specs.Prelude.{if◌then◌else◌, List, ◌++◌, Option, Some, None}
use Rattle.std.specs.FinMap as maps
use Rattle.std.specs.List.{list_any}
use Rattle.std.specs.Option.{option_map, option_to_list}
use Rattle.dl_base.specs.declared.step.Phase.{Phase}
use Rattle.dl_base.specs.declared.step.Phase.TheVariants as phases
use Rattle.dl_base.specs.declared.value.LinkRow.{LinkRow}
use Rattle.meaning_settling.specs.Settling.{held_by}
use Rattle.meaning_tables.specs.Links.{same_number}
use Rattle.meaning_system.specs.State.{State, Txn}
use Rattle.fm_links.specs.Claims.{PathClaim}

-- the phase of the transaction that has a claim
abbrev pub phase_in : State → Option PathClaim → Option Phase
phase_in s None = None
phase_in s (Some c) = option_map (λ (t : Txn). t.phase) (maps.get s.txs c.tx)

-- THE COMMITTED LINK on a path: a decided claim is committed, and what is held is not moved yet
abbrev pub committed_on : Option LinkRow → Option PathClaim → Option Phase → Option LinkRow
committed_on held (Some c) (Some phases.Decided) = held_by c.give c.take held
committed_on held claim phase = held

-- behind it the take of a claim that is prepared, and the give of one that is decided
abbrev pub waiting_on : Option PathClaim → Option Phase → Option LinkRow
waiting_on (Some c) (Some phases.Prepared) = c.take
waiting_on (Some c) (Some phases.Decided) = c.give
waiting_on claim phase = None

-- THE LINKS THAT FORBID
abbrev pub guards : Option LinkRow → Option PathClaim → Option Phase → List LinkRow
guards held claim phase = option_to_list (committed_on held claim phase) ++ option_to_list (waiting_on claim phase)

-- the committed link, unless it is given
abbrev pub unless_among : List LinkRow → Option LinkRow → Option LinkRow
unless_among gives None = None
unless_among gives (Some l) = if list_any (λ g. same_number g.link l.link) gives then None else Some l
