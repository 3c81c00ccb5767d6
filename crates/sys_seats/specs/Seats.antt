-- What contracts see of the transactions that have not ended.
use Rattle.std.specs.Prelude.{ℕ, ◌+◌, if◌then◌else◌, List, [], ◌∷◌, length, map, Option, Some, None}
use Rattle.std.specs.FinMap as maps
use Rattle.std.specs.Ordering.{nat_cmp}
use Rattle.dl_base.specs.declared.step.Phase.{Phase}
use Rattle.dl_base.specs.declared.step.Phase.TheVariants as phases
use Rattle.meaning_system.specs.State.{is_active}
use Rattle.sys_seats.specs.declared.seat.Seat.{Seat}
use Rattle.sys_seats.specs.declared.seat.SeatClaim.{SeatClaim}
use Rattle.sys_seats.specs.declared.seat.Stage.{Stage}
use Rattle.sys_seats.specs.declared.seat.Stage.TheVariants as stages

-- the seats by the numbers of their transactions
abbrev pub Seated : Type 0
Seated = maps.FinMap nat_cmp Seat

abbrev pub phase_of : Stage → Phase
phase_of stages.Active = phases.Active
phase_of (stages.Prepared vote) = phases.Prepared
phase_of (stages.Decided pieces) = phases.Decided

-- how many commits a transaction may still make, and how many links it gives, each of which may want a copy

abbrev pub votes_at : Stage → ℕ
votes_at stages.Active = 0
votes_at (stages.Prepared vote) = 1
votes_at (stages.Decided pieces) = 0

abbrev pub gives_at : Stage → ℕ → ℕ
gives_at stages.Active n = 0
gives_at (stages.Prepared vote) n = n
gives_at (stages.Decided pieces) n = n

abbrev pub votes_of : Seat → ℕ
votes_of seat = votes_at seat.stage

abbrev pub gives_of : Seat → ℕ
gives_of seat = gives_at seat.stage (length seat.claim.gives)

-- the sums of these over all

abbrev pub sum_of : (Seat → ℕ) → List (ℕ × Seat) → ℕ
sum_of count [] = 0
sum_of count (e ∷ es) = count e.1 + sum_of count es

unfoldable pub all_of : (Seat → ℕ) → Seated → ℕ
all_of count seats = sum_of count (maps.entries seats)

-- the seats with another stage, or another claim, of a transaction that has one

abbrev pub with_stage : Seated → ℕ → Stage → Option Seat → Seated
with_stage seats tx stage None = seats
with_stage seats tx stage (Some seat) = maps.insert seats tx (record { claim = seat.claim; stage = stage })

abbrev pub with_claim : Seated → ℕ → SeatClaim → Option Seat → Seated
with_claim seats tx claim None = seats
with_claim seats tx claim (Some seat) = maps.insert seats tx (record { claim = claim; stage = seat.stage })

-- the count of a seat, if there is one
abbrev pub count_at : (Seat → ℕ) → Option Seat → ℕ
count_at count None = 0
count_at count (Some seat) = count seat

-- the number of the first that is prepared or decided

abbrev pub first_bound : List (ℕ × Phase) → Option ℕ
first_bound [] = None
first_bound (e ∷ es) = if is_active e.1 then first_bound es else Some e.0

abbrev pub phases_in : List (ℕ × Seat) → List (ℕ × Phase)
phases_in es = map (λ e. (e.0, phase_of e.1.stage)) es

unfoldable pub unfinished_of : Seated → Option ℕ
unfinished_of seats = first_bound (phases_in (maps.entries seats))
