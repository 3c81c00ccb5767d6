-- A RUN BEGINS.
use Rattle.std.proofs.Common.{◌≡◌, ℕ, ◌+◌, ◌^◌, ◌<◌, ◌≤◌, Option, None, Result, Err, sym, ◌∙◌, ap, subst, arith}
use Rattle.std.specs.FinMap as maps
use Rattle.std.specs.Ordering.{nat_cmp}
use Rattle.std.specs.Result.{result_err}
use Rattle.dl_base.specs.declared.step.Settings.{Settings}
use Rattle.fm_links.specs.Claims.{PathClaim}
use Rattle.fm_links.specs.Searching.{AreClaims}
use Rattle.meaning_areas.proofs.Tables.{some_same}
use Rattle.meaning_areas.specs.Stands.{Stored}
use Rattle.meaning_history.specs.Reached.{first_of}
use Rattle.meaning_history.specs.Sound.{AreSound}
use Rattle.meaning_settling.specs.Keyed.{Keyed}
use Rattle.meaning_system.specs.Machine.{start}
use Rattle.meaning_system.specs.State.{Txn}
use Rattle.sys_core.specs.Seated.{AreSeated, IsSeat}
use Rattle.sys_core.specs.Standing.{IsOf}
use Rattle.sys_core.specs.declared.engine.Engine.{Engine}
use Rattle.sys_owners.specs.Owned.{folds_in}
use Rattle.sys_seats.specs.Seats.{Seated, all_of, gives_of, votes_of}
use Rattle.sys_seats.specs.declared.seat.Seat.{Seat}

-- a fault is the same, whatever else was wanted
pub err-as : {T U E : Type 0} (e x : E) → ◌≡◌ {A = Result T E} (Err e) (Err x) → ◌≡◌ {A = Result U E} (Err e) (Err x)
err-as e x is = ap Err (some_same e x (ap result_err is))

-- a state without transactions has no seats
none-seated : (given : Settings) (x : Stored) → AreSeated (start given x) maps.empty
none-seated given x tx =
    let seats : Seated = maps.empty in
    subst (λ (t : Option Txn). IsSeat (start given x) tx t (maps.get seats tx)) (sym (maps.get-empty nat_cmp tx))
    (subst (λ (s : Option Seat). IsSeat (start given x) tx None s) (sym (maps.get-empty nat_cmp tx)) tt)

few : 0 + 1 < 2 ^ 32
few = omega (arith)

at-most : (a b : ℕ) → a ≡ 0 → a ≤ b
at-most a b e = omega (arith, e)

-- THE ENGINE IS IN THE STATE with which a run begins
pub open-is : (w : Engine) (x : Stored) (given : Settings) → AreSound (first_of x) (folds_in w.owners) (start given x) → w.owners.store.drawn ≡ 0 → w.moment ≡ given.now → w.settings ≡ given
    → w.claims.claims ≡ maps.empty → w.seats ≡ maps.empty → AreClaims maps.empty (start given x) → ((count : Seat → ℕ) → all_of count maps.empty ≡ 0) → IsOf (first_of x) w (start given x)
open-is w x given sound drawn moment settings claims seats unclaimed nothing = record {
  sound = sound;
  drawn = drawn;
  few = few;
  moment = moment;
  settings = settings;
  claims = subst (λ (c : Keyed PathClaim). AreClaims c (start given x)) (sym claims) unclaimed;
  seats = subst (λ (s : Seated). AreSeated (start given x) s) (sym seats) (none-seated given x);
  room = record {
    commits = at-most (all_of votes_of w.seats) w.owners.store.spare (ap (all_of votes_of) seats ∙ nothing votes_of);
    copies = at-most (all_of gives_of w.seats) w.owners.manager.archive.spare (ap (all_of gives_of) seats ∙ nothing gives_of);
  };
}
