-- What holds between two steps of a run, of the lists and of the machine's state.
use Rattle.std.specs.Prelude.{ℕ}
use Rattle.meaning_areas.specs.Lists.{Folds}
use Rattle.meaning_system.specs.CoreOf.{HasClaims}
use Rattle.meaning_system.specs.Following.{AreInSessions, Follows, HasSessions, HaveFiles}
use Rattle.meaning_system.specs.State.{State}
use Rattle.meaning_history.specs.Reached.{HasHistory}
use Rattle.meaning_history.specs.Standing.{ClaimsStand}

-- THE LISTS AND THE STATE OF A RUN whose transactions are drawn from `first` on
pub record AreSound (first : ℕ) (f : Folds) (s : State) : Type 0 where
  pub follows : Follows f s
  pub history : HasHistory first s
  pub claims : HasClaims s
  pub sessions : HasSessions s
  pub in_sessions : AreInSessions s
  pub files : HaveFiles s
  pub standing : ClaimsStand s
