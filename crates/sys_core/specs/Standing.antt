-- Which state of the machine an engine has.
use Rattle.std.specs.Prelude.{◌≡◌, ℕ, ◌+◌, ◌^◌, ◌<◌, ◌≤◌}
use Rattle.fm_links.specs.Searching.{AreClaims}
use Rattle.meaning_history.specs.Sound.{AreSound}
use Rattle.meaning_system.specs.State.{State}
use Rattle.sys_core.specs.Seated.{AreSeated}
use Rattle.sys_core.specs.declared.engine.Engine.{Engine}
use Rattle.sys_owners.specs.Owned.{folds_in}
use Rattle.sys_seats.specs.Seats.{all_of, gives_of, votes_of}

-- there is room for what is voted for: for a commit of each prepared transaction, and for a copy of each link that is to be given
pub record HasRoom (w : Engine) : Type 0 where
  pub commits : all_of votes_of w.seats ≤ w.owners.store.spare
  pub copies : all_of gives_of w.seats ≤ w.owners.manager.archive.spare

-- AN ENGINE IS IN A STATE of a run whose transactions are drawn from `first` on
pub record IsOf (first : ℕ) (w : Engine) (s : State) : Type 0 where
  pub sound : AreSound first (folds_in w.owners) s
  pub drawn : w.owners.store.drawn ≡ s.drawn
  -- no more numbers are drawn than an opening has
  pub few : s.drawn + 1 < 2 ^ 32
  pub moment : w.moment ≡ s.moment
  pub settings : w.settings ≡ s.settings
  pub claims : AreClaims w.claims.claims s
  pub seats : AreSeated s w.seats
  pub room : HasRoom w
