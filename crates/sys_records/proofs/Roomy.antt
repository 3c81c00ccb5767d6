-- MORE ROOM: what the owners stand for is the same.
use Rattle.std.proofs.Common.{◌≡◌, ◌≤◌, refl, sym, ◌∙◌, ap, arith}
use Rattle.db_store.specs.Store.{Database}
use Rattle.fm_manager.specs.Managed.{Managed, Roomier, folds_with}
use Rattle.fs_files.specs.Store.{Catalog}
use Rattle.sys_owners.specs.Owned.{Owned, folds_in, journals_of}
use Rattle.sys_records.specs.Room.{HaveMoreRoom}

-- the manager

pub roomier-same : (m : Managed) → Roomier m m
roomier-same m = record { same = refl; files = omega arith; copies = omega arith }

pub roomier-then : (m k n : Managed) → Roomier m k → Roomier k n → Roomier m n
roomier-then m k n first second = record {
  same = second.same ∙ ap (λ (x : Managed). record x { files = record x.files { spare = n.files.spare }; archive = record x.archive { spare = n.archive.spare } }) first.same;
  files = omega (arith, first.files, second.files);
  copies = omega (arith, first.copies, second.copies);
}

-- copies alone got room
pub roomier-copies : (m n : Managed) → n ≡ record m { archive = record m.archive { spare = n.archive.spare } } → m.archive.spare ≤ n.archive.spare → Roomier m n
roomier-copies m n is more =
    let files : n.files ≡ m.files = ap (λ (x : Managed). x.files) is in
    record {
      same = is ∙ ap (λ (x : Catalog). record m { files = record m.files { spare = x.spare }; archive = record m.archive { spare = n.archive.spare } }) (sym files);
      files = omega (arith, ap (λ (x : Catalog). x.spare) files);
      copies = more;
    }

-- the owners

pub room-same : (w : Owned) → HaveMoreRoom w w
room-same w = record { store = refl; commits = omega arith; manager = roomier-same w.manager; backups = refl }

pub room-made : (w : Owned) (d : Database) (m : Managed) → d ≡ record w.store { spare = d.spare } → w.store.spare ≤ d.spare → Roomier w.manager m → HaveMoreRoom w (record { store = d; manager = m; backups = w.backups })
room-made w d m is more r = record { store = is; commits = more; manager = r; backups = refl }

-- first that of the manager alone
pub room-then : (w : Owned) (m : Managed) (v : Owned) → Roomier w.manager m → HaveMoreRoom (record { store = w.store; manager = m; backups = w.backups }) v → HaveMoreRoom w v
room-then w m v first second = record {
  store = second.store;
  commits = second.commits;
  manager = roomier-then w.manager m v.manager first second.manager;
  backups = second.backups;
}

-- the manager alone has more
pub room-manager : (w : Owned) (m : Managed) → Roomier w.manager m → HaveMoreRoom w (record { store = w.store; manager = m; backups = w.backups })
room-manager w m r = record { store = refl; commits = omega arith; manager = r; backups = refl }

module _ (w v : Owned) (r : HaveMoreRoom w v) where
  pub room-folds : folds_in v ≡ folds_in w
  room-folds = λ i. folds_with (r.store i).rows (r.backups i).backups (r.manager.same i)

  pub room-journals : journals_of v ≡ journals_of w
  room-journals = λ i. journals_of (record { store = r.store i; manager = r.manager.same i; backups = r.backups i })
