-- The seats behind a change of one of them.
use Rattle.std.proofs.Common.{◌≡◌, ℕ, false, List, Option, Some, None, refl, sym, ap, ◌∙◌}
use Rattle.std.specs.BTreeMap.{is_at}
use Rattle.std.specs.Cmp.{nat_cmp_total}
use Rattle.std.specs.FinMap as maps
use Rattle.std.specs.FinMap.{nat_cmp-IsAntisymmetric}
use Rattle.std.specs.Map.{lookup}
use Rattle.std.specs.Option.{option_map}
use Rattle.std.specs.Ordering.{is_eq, nat_cmp}
use Rattle.fm_branch.proofs.Maps.{get-of, of-renewed, of-same}
use Rattle.sys_seats.specs.Seats.{Seated, with_claim, with_stage}
use Rattle.sys_seats.specs.declared.seat.Seat.{Seat}
use Rattle.sys_seats.specs.declared.seat.SeatClaim.{SeatClaim}
use Rattle.sys_seats.specs.declared.seat.Stage.{Stage}

-- the seats of some entries
abbrev pub seats_of : List (ℕ × Seat) → Seated
seats_of es = maps.from_entries es

pub seat-at : (es : List (ℕ × Seat)) (tx : ℕ) → maps.get (seats_of es) tx ≡ lookup (is_at (nat_cmp tx)) es
seat-at es tx = get-of nat_cmp_total es tx

module _ (old new : List (ℕ × Seat)) (tx : ℕ) (others : (q : ℕ) → is_eq (nat_cmp tx q) ≡ false → lookup (is_at (nat_cmp q)) new ≡ lookup (is_at (nat_cmp q)) old) where
  stage-by : (stage : Stage) (o : Option Seat) → lookup (is_at (nat_cmp tx)) old ≡ o → lookup (is_at (nat_cmp tx)) new ≡ option_map (λ (s : Seat). record { claim = s.claim; stage = stage }) o
      → seats_of new ≡ with_stage (seats_of old) tx stage o
  stage-by stage None was now = of-same nat_cmp_total nat_cmp-IsAntisymmetric old new tx others now was
  stage-by stage (Some s) was now = of-renewed nat_cmp_total nat_cmp-IsAntisymmetric old new tx others (record { claim = s.claim; stage = stage }) now

  pub stage-changed : (stage : Stage) → lookup (is_at (nat_cmp tx)) new ≡ option_map (λ (s : Seat). record { claim = s.claim; stage = stage }) (lookup (is_at (nat_cmp tx)) old)
      → seats_of new ≡ with_stage (seats_of old) tx stage (maps.get (seats_of old) tx)
  stage-changed stage now =
      stage-by stage (lookup (is_at (nat_cmp tx)) old) refl now
      ∙ ap (λ (o : Option Seat). with_stage (seats_of old) tx stage o) (sym (seat-at old tx))

  claim-by : (claim : SeatClaim) (o : Option Seat) → lookup (is_at (nat_cmp tx)) old ≡ o → lookup (is_at (nat_cmp tx)) new ≡ option_map (λ (s : Seat). record { claim = claim; stage = s.stage }) o
      → seats_of new ≡ with_claim (seats_of old) tx claim o
  claim-by claim None was now = of-same nat_cmp_total nat_cmp-IsAntisymmetric old new tx others now was
  claim-by claim (Some s) was now = of-renewed nat_cmp_total nat_cmp-IsAntisymmetric old new tx others (record { claim = claim; stage = s.stage }) now

  pub claim-changed : (claim : SeatClaim) → lookup (is_at (nat_cmp tx)) new ≡ option_map (λ (s : Seat). record { claim = claim; stage = s.stage }) (lookup (is_at (nat_cmp tx)) old)
      → seats_of new ≡ with_claim (seats_of old) tx claim (maps.get (seats_of old) tx)
  claim-changed claim now =
      claim-by claim (lookup (is_at (nat_cmp tx)) old) refl now
      ∙ ap (λ (o : Option Seat). with_claim (seats_of old) tx claim o) (sym (seat-at old tx))
