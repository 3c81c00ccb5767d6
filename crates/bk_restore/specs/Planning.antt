-- The plan of a restore is what the machine's restore does.
use Rattle.std.specs.Prelude.{◌≡◌, ℕ, List, [], Option, Some, None}
use Rattle.std.specs.List.{list_any}
use Rattle.std.specs.Option.{option_map}
use Rattle.bk_backup.specs.Saved.{Saved, backup_numbered}
use Rattle.bk_restore.specs.declared.planning.RestorePlan.{RestorePlan}
use Rattle.bk_restore.specs.declared.planning.Planned.{Planned}
use Rattle.bk_restore.specs.declared.planning.Planned.TheVariants as planned
use Rattle.db_changes.specs.Handles.{NewLast}
use Rattle.db_replay.specs.Changes.{all_at_version, applied}
use Rattle.db_store.specs.Store.{Database}
use Rattle.dl_base.specs.declared.answer.Answer.TheVariants as answers
use Rattle.dl_base.specs.declared.answer.Lost.{Lost}
use Rattle.dl_base.specs.declared.answer.Refusal.TheVariants as reasons
use Rattle.dl_base.specs.declared.answer.RestoreRefusal.TheVariants as restores
use Rattle.dl_base.specs.declared.step.Target.{Target}
use Rattle.dl_base.specs.declared.step.Target.TheVariants as targets
use Rattle.fm_archive.specs.Stock.{Stock}
use Rattle.fs_files.specs.Store.{Catalog}
use Rattle.meaning_areas.specs.Commits.{Commit}
use Rattle.meaning_areas.specs.Copies.{Backup}
use Rattle.meaning_areas.specs.Stands.{past}
use Rattle.meaning_files.specs.Files.{Files}
use Rattle.meaning_merge.specs.Restoring.{in_the_way, is_lost, lost_cells, restore_changes, restored_tables, without_lost}
use Rattle.meaning_settling.specs.Settling.{Copies}
use Rattle.meaning_system.specs.Machine.{lost_to, next_commit, restore_idle, restore_to, restored_state, target_tables, unfinished}
use Rattle.meaning_system.specs.State.{State, tables_of}
use Rattle.meaning_tables.specs.Links.{gives, takes}
use Rattle.meaning_tables.specs.Tables.{Tables}

-- the tables of a target
abbrev pub tables_at : List Commit → List Backup → Target → Option Tables
tables_at commits backups (targets.Backup n) = option_map (λ b. b.tables) (backup_numbered backups n)
tables_at commits backups (targets.Commit n) = past [] commits n

-- A PLAN from the committed tables to later ones, which are a target without its lost cells. Its commit makes the restored tables, whatever
-- number it has.
pub record IsPlanOf (committed later : Tables) (lost : List Lost) (p : RestorePlan) : Type 0 where
  pub lost_cells : p.lost ≡ lost
  pub changes : p.changes ≡ restore_changes committed later
  pub handles : (c : ℕ) → applied committed (all_at_version c p.handles) ≡ restored_tables committed later c
  pub last : NewLast p.handles
  pub gives : (c : ℕ) → p.gives ≡ gives committed (restored_tables committed later c)
  pub takes : (c : ℕ) → p.takes ≡ takes committed (restored_tables committed later c)
  pub fill : p.fill ≡ list_any (λ t. t.options.recovery) p.takes

-- from the committed tables to a target, over these files and copies
abbrev pub IsPlannedTo : Tables → Files → Copies → Tables → Planned → Type 0
IsPlannedTo committed files copies target (planned.Refused why) =
    (path : List ℕ) × (in_the_way files copies (gives committed target) (takes committed target) ≡ Some path) × (why ≡ reasons.Restore (restores.InTheWay path))
IsPlannedTo committed files copies target (planned.Ready p) =
    (in_the_way files copies (gives committed target) (takes committed target) ≡ None)
    × IsPlanOf committed (without_lost (is_lost files (takes committed target)) target) (lost_cells (is_lost files (takes committed target)) target) p

-- the owners have what a state has
pub record HasOwned (s : State) (d : Database) (b : Saved) (f : Catalog) (a : Stock) (waiting : Option ℕ) : Type 0 where
  pub commits : s.commits ≡ d.rows.commits
  pub backups : s.backups ≡ b.backups
  pub files : s.files ≡ f.files
  pub copies : s.copies ≡ a.copies
  -- the least number of a transaction that is prepared or decided
  pub waits : option_map (λ e. e.0) (unfinished s) ≡ waiting

-- THE RESTORE OF THE MACHINE, where no session has a transaction, is refused so; or it is a plan's to the target's tables
abbrev pub IsPlanned : State → Target → Planned → Type 0
IsPlanned s t (planned.Refused why) = restore_idle s t (unfinished s) ≡ (answers.Refused why, s)
IsPlanned s t (planned.Ready p) =
    (target : Tables) × (target_tables s t ≡ Some target)
    × (restore_idle s t (unfinished s) ≡ (answers.Restored (next_commit s) p.lost, restored_state s (restore_to s target)))
    × IsPlanOf (tables_of s) (without_lost (lost_to s target) target) (lost_cells (lost_to s target) target) p
