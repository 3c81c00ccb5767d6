-- What the records of the area Links stand for: branches, and the links that are held.
use Rattle.std.specs.Prelude.{ℕ, ◌+◌, ◌==◌, ◌&&◌, ◌||◌, Bool, true, false, not, if◌then◌else◌, List, map, Option, Some, None}
use Rattle.meaning_examples.specs.Maps as maps
use Rattle.std.specs.List.{list_all, list_any}
use Rattle.std.specs.Ordering.{nat_cmp}
use Rattle.dl_base.specs.declared.value.LinkRow.{LinkRow}
use Rattle.dl_codec.specs.declared.links.BranchPhase.{BranchPhase}
use Rattle.dl_codec.specs.declared.links.BranchPhase.TheVariants.{Prepared, Committed, Done, Aborted}
use Rattle.dl_codec.specs.declared.links.LinksRecord.{LinksRecord}
use Rattle.dl_codec.specs.declared.links.LinksRecord.TheVariants as records
use Rattle.dl_codec.specs.declared.links.Taken.{Taken}
use Rattle.meaning_examples.specs.Same.{same_link}
use Rattle.meaning_examples.specs.Keyed.{Keyed, is_at, over}
use Rattle.meaning_examples.specs.Settling.{Moved, held_after, paths_of}

pub record Branch : Type 0 where
  pub moved : Moved
  pub phase : BranchPhase

pub record Branches : Type 0 where
  pub opening : ℕ
  pub table : maps.FinMap nat_cmp Branch
  -- the links that are held, by their paths
  pub held : Keyed LinkRow

abbrev pub no_branches : Branches
no_branches = record { opening = 0; table = maps.empty; held = maps.empty }

abbrev pub branch : Moved → BranchPhase → Branch
branch m p = record { moved = m; phase = p }

abbrev pub phase_number : BranchPhase → ℕ
phase_number Prepared = 0
phase_number Committed = 1
phase_number Done = 2
phase_number Aborted = 3

abbrev pub is_phase : BranchPhase → BranchPhase → Bool
is_phase p q = phase_number p == phase_number q

-- what the fold asks of a Prepared

abbrev pub holds : Option LinkRow → LinkRow → Bool
holds None l = false
holds (Some h) l = same_link h l

-- the path of a take is free, or given
abbrev pub is_free : Option LinkRow → Bool → Bool
is_free None given = true
is_free (Some h) given = given

abbrev pub given_on : List LinkRow → List ℕ → Bool
given_on gives path = list_any (λ g. is_at path g.path) gives

-- no fill with RECOVERY NO, and at all takes with RECOVERY YES or at none
abbrev pub fills_stand : List Taken → Bool
fills_stand takes = list_all (λ t. t.link.options.recovery || not t.fill) takes && (list_all (λ t. t.fill || not t.link.options.recovery) takes || not (list_any (λ t. t.fill) takes))

abbrev pub moved_by : List LinkRow → List Taken → Moved
moved_by gives takes = record { gives = gives; takes = map (λ t. t.link) takes; fill = list_any (λ t. t.fill) takes }

abbrev pub may_prepare : Branches → List LinkRow → List Taken → Bool
may_prepare l gives takes =
    list_all (λ g. holds (maps.get l.held g.path) g) gives
    && list_all (λ t. is_free (maps.get l.held t.link.path) (given_on gives t.link.path)) takes
    && fills_stand takes

abbrev pub with_branch : Branches → ℕ → Branch → Branches
with_branch l tx b = record { opening = l.opening; table = maps.insert l.table tx b; held = l.held }

abbrev pub prepares_on : Branches → ℕ → List LinkRow → List Taken → Option Branch → Option Branches
prepares_on l tx gives takes (Some b) = None
prepares_on l tx gives takes None = if may_prepare l gives takes then Some (with_branch l tx (branch (moved_by gives takes) Prepared)) else None

abbrev pub moves_on : BranchPhase → BranchPhase → Branches → ℕ → Option Branch → Option Branches
moves_on from to l tx None = None
moves_on from to l tx (Some b) = if is_phase b.phase from then Some (with_branch l tx (branch b.moved to)) else None

-- at Done the links that are given are held no more, and those that are taken are
abbrev pub with_done : Branches → ℕ → Moved → Branches
with_done l tx m = record { opening = l.opening; table = maps.insert l.table tx (branch m Done); held = over (paths_of m) (held_after m) l.held }

abbrev pub done_on : Branches → ℕ → Option Branch → Option Branches
done_on l tx None = None
done_on l tx (Some b) = if is_phase b.phase Committed then Some (with_done l tx b.moved) else None

abbrev pub opens_on : Branches → ℕ → Option Branches
opens_on l number = if number == l.opening + 1 then Some (record { opening = number; table = l.table; held = l.held }) else None

abbrev pub links_step : Branches → LinksRecord → Option Branches
links_step l (records.Opening number) = opens_on l number
links_step l (records.Prepared tx gives takes) = prepares_on l tx gives takes (maps.get l.table tx)
links_step l (records.Committed tx) = moves_on Prepared Committed l tx (maps.get l.table tx)
links_step l (records.Done tx) = done_on l tx (maps.get l.table tx)
links_step l (records.Aborted tx) = moves_on Prepared Aborted l tx (maps.get l.table tx)
