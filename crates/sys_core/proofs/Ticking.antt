-- SECONDS PASS: nothing is written, and the engine is in the state of a later moment.
use Rattle.std.proofs.Common.{◌≡◌, ℕ, ◌+◌, ◌-◌, ◌^◌, min, [], false, Option, Some, Result, Ok, Err, refl, sym, ◌∙◌, ap, subst}
use Rattle.std.specs.FinMap as maps
use Rattle.dl_base.specs.declared.answer.Answer.{Answer}
use Rattle.dl_base.specs.declared.answer.Answer.TheVariants as answers
use Rattle.dl_base.specs.declared.step.Step.TheVariants as steps
use Rattle.fm_links.specs.Claims.{PathClaim}
use Rattle.fm_links.specs.Searching.{AreClaims}
use Rattle.fm_manager.specs.Pieces.{Pieces}
use Rattle.fm_pieces.specs.Keeping.{HasPieces}
use Rattle.meaning_areas.specs.Lists.{Folds, folds_on}
use Rattle.meaning_history.specs.Sound.{AreSound}
use Rattle.meaning_settling.specs.Keyed.{Keyed}
use Rattle.meaning_system.specs.Machine.{step}
use Rattle.meaning_system.specs.State.{State, Txn, is_active}
use Rattle.meaning_system.specs.Writes.{writes}
use Rattle.sys_core.proofs.Behind.{EachLeads, IsNoRestore, behind-sound}
use Rattle.sys_core.proofs.Commanding.{seated-same}
use Rattle.sys_core.proofs.Seating.{pieces-same}
use Rattle.sys_core.specs.Standing.{IsOf}
use Rattle.sys_core.specs.Steps.{StepsInMemory, records_of}
use Rattle.sys_core.specs.declared.engine.Engine.{Engine}
use Rattle.sys_owners.specs.Owned.{folds_in}

-- the state behind it
abbrev pub ticked : State → ℕ → State
ticked s n = record s { moment = min (s.moment + n) (2 ^ 64 - 1) }

ticked-step : (s : State) (n : ℕ) → step s (steps.Tick n) ≡ (answers.Done, ticked s n)
unfolding step
ticked-step s n = refl

ticked-writes : (s : State) (n : ℕ) → writes s (steps.Tick n) ≡ []
unfolding writes
ticked-writes s n = refl

ticked-records : (s : State) (n : ℕ) → records_of s (steps.Tick n) ≡ []
unfolding writes
ticked-records s n = refl

no-tick : (n : ℕ) → IsNoRestore (steps.Tick n)
no-tick n t e = cc

ok_err : {T E : Type 0} (x : T) (e : E) → ◌≡◌ {A = Result T E} (Ok x) (Err e) → ⊥
ok_err x e is = cc

-- claims stay as they are
abbrev pub ClaimsTick : Type 0
ClaimsTick = (claims : Keyed PathClaim) (s : State) (n : ℕ) → AreClaims claims s → AreClaims claims (step s (steps.Tick n)).1

module _ (law : EachLeads) (claims : ClaimsTick) (first : ℕ) (w : Engine) (s : State) (n : ℕ) (is : IsOf first w s) where
  state : (step s (steps.Tick n)).1 ≡ ticked s n
  state = ap (λ (e : Answer × State). e.1) (ticked-step s n)

  sound : AreSound first (folds_in w.owners) (ticked s n)
  sound = behind-sound law first (folds_in w.owners) s (steps.Tick n) is.sound is.few (no-tick n) (folds_in w.owners) (ticked s n) (nothing-leads (folds_in w.owners)) state
    where
      nothing-leads : (f : Folds) → folds_on (Some f) (writes s (steps.Tick n)) ≡ Some f
      nothing-leads f = ap (folds_on (Some f)) (ticked-writes s n)

  keeps : (tx : ℕ) (v : Txn) (p : Option Pieces) → maps.get s.txs tx ≡ Some v → is_active v.phase ≡ false → HasPieces s tx v p → HasPieces (ticked s n) tx v p
  keeps tx v p at bound has = pieces-same s (ticked s n) tx v p refl refl has

  module _ (moment : ℕ) (later : moment ≡ min (w.moment + n) (2 ^ 64 - 1)) where
    ticked-of : IsOf first (record w { moment = moment }) (ticked s n)
    ticked-of = record {
      sound = sound;
      drawn = is.drawn;
      few = is.few;
      moment = later ∙ ap (λ (m : ℕ). min (m + n) (2 ^ 64 - 1)) is.moment;
      settings = is.settings;
      claims = subst (λ (t : State). AreClaims w.claims.claims t) state (claims w.claims.claims s n is.claims);
      seats = seated-same s (ticked s n) w.seats refl keeps is.seats;
      room = record { commits = is.room.commits; copies = is.room.copies };
    }

    pub ticks : StepsInMemory first (steps.Tick n) s w (record w { moment = moment }) (Ok answers.Done)
    ticks = record {
      answers = record {
        answer = sym (ap (λ (e : Answer × State). e.0) (ticked-step s n));
        state = subst (λ (t : State). IsOf first (record w { moment = moment }) t) (sym state) ticked-of;
      };
      memory = λ e. absurd (ok_err answers.Done _ e);
      journals = refl;
      fits = ticked-records s n;
      full = λ f e. absurd (ok_err answers.Done _ e);
      no_device = λ e. ok_err answers.Done _ e;
    }
