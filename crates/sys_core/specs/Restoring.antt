-- A restore that an engine does: its plan is let through, and all is made for it.
use Rattle.std.specs.Prelude.{◌≡◌, ◌≤◌, ◌+◌, ℕ, length, None}
use Rattle.bk_restore.specs.Planning.{IsPlanned}
use Rattle.bk_restore.specs.declared.planning.Planned.TheVariants as planned
use Rattle.bk_restore.specs.declared.planning.RestorePlan.{RestorePlan}
use Rattle.db_changes.specs.Made.{rooms_for}
use Rattle.db_store.specs.Store.{drawn_next}
use Rattle.dl_base.specs.declared.step.Target.{Target}
use Rattle.meaning_areas.specs.Full.{draw_full}
use Rattle.meaning_system.specs.Machine.{first_session}
use Rattle.meaning_system.specs.State.{State}
use Rattle.sys_core.specs.Standing.{IsOf}
use Rattle.sys_core.specs.declared.engine.Engine.{Engine}
use Rattle.sys_records.specs.Restoring.{IsMadeFor}
use Rattle.sys_records.specs.declared.restoring.Restoration.{Restoration}
use Rattle.sys_seats.specs.Seats.{all_of, gives_of, votes_of}

-- A PLAN IS LET THROUGH: no session has a transaction, and this is what the machine's restore does
pub record CanRestore (first : ℕ) (w : Engine) (s : State) (t : Target) (p : RestorePlan) : Type 0 where
  pub state : IsOf first w s
  pub idle : first_session s ≡ None
  pub plan : IsPlanned s t (planned.Ready p)

-- and all is made for it, as the transaction that comes next: there is room for its commit, and for copies of the links that it gives
pub record CanPutBack (first : ℕ) (w : Engine) (s : State) (t : Target) (p : RestorePlan) (r : Restoration) : Type 0 where
  pub can : CanRestore first w s t p
  pub left : draw_full (w.owners.store.drawn + 1) ≡ None
  pub made : IsMadeFor w.owners (drawn_next w.owners.store) p r
  pub commits : all_of votes_of w.seats + rooms_for p.handles ≤ w.owners.store.spare
  pub copies : all_of gives_of w.seats + length p.gives ≤ w.owners.manager.archive.spare
