-- AN ENGINE WITH MORE ROOM is in the same state.
use Rattle.std.proofs.Common.{ℕ, sym, ◌∙◌, ap, subst, arith}
use Rattle.db_store.specs.Store.{Database}
use Rattle.meaning_areas.specs.Lists.{Folds}
use Rattle.meaning_history.specs.Sound.{AreSound}
use Rattle.meaning_system.specs.State.{State}
use Rattle.sys_core.specs.Standing.{IsOf}
use Rattle.sys_core.specs.declared.engine.Engine.{Engine}
use Rattle.sys_owners.specs.Owned.{Owned}
use Rattle.sys_records.proofs.Roomy.{room-folds}
use Rattle.sys_records.specs.Room.{HaveMoreRoom}

pub room-state : (first : ℕ) (w : Engine) (s : State) (v : Owned) → HaveMoreRoom w.owners v → IsOf first w s → IsOf first (record w { owners = v }) s
room-state first w s v r is = record {
  sound = subst (λ (f : Folds). AreSound first f s) (sym (room-folds w.owners v r)) is.sound;
  drawn = ap (λ (d : Database). d.drawn) r.store ∙ is.drawn;
  few = is.few;
  moment = is.moment;
  settings = is.settings;
  claims = is.claims;
  seats = is.seats;
  room = record {
    commits = omega (arith, is.room.commits, r.commits);
    copies = omega (arith, is.room.copies, r.manager.copies);
  };
}
