-- Room for what is written later without memory.
use Rattle.std.specs.Prelude.{◌≡◌, ◌≤◌}
use Rattle.fm_manager.specs.Managed.{Roomier}
use Rattle.sys_owners.specs.Owned.{Owned}

-- the same owners, with no less room
pub record HaveMoreRoom (w v : Owned) : Type 0 where
  pub store : v.store ≡ record w.store { spare = v.store.spare }
  pub commits : w.store.spare ≤ v.store.spare
  pub manager : Roomier w.manager v.manager
  pub backups : v.backups ≡ w.backups
