-- What the steps of the machine do to lists and to the core.
use Rattle.std.specs.Prelude.{◌≡◌, ℕ, ◌+◌, ◌-◌, ◌*◌, ◌^◌, true, false, cond, List, [], ◌∷◌, ◌++◌, Option, Some, None}
use Rattle.std.specs.FinMap as maps
use Rattle.std.specs.List.{list_all, list_any}
use Rattle.std.specs.Ordering.{nat_cmp}
use Rattle.dl_base.specs.declared.value.LinkRow.{LinkRow}
use Rattle.dl_codec.specs.declared.links.BranchPhase.{BranchPhase}
use Rattle.dl_codec.specs.declared.links.BranchPhase.TheVariants.{Done}
use Rattle.dl_codec.specs.declared.links.Taken.{Taken}
use Rattle.meaning_files.specs.Files.{Files}
use Rattle.meaning_settling.specs.Keyed.{Keyed}
use Rattle.meaning_settling.specs.Settling.{Copies, Moved, on, settle_one}
use Rattle.meaning_tables.specs.Links.{links}
use Rattle.meaning_areas.specs.Branches.{Branch, branch, moved_by, given_on, is_free, fills_stand}
use Rattle.meaning_areas.specs.Commits.{Commit, commit_of, tables_after, with_commit, with_ended}
use Rattle.meaning_areas.specs.Copies.{Backup}
use Rattle.meaning_areas.specs.Core.{Stage, active, prepared, decided, Work, Core, core_kept, no_moved, with_work}
use Rattle.meaning_areas.specs.Lists.{Folds, Written, folds_step}
use Rattle.meaning_areas.specs.Same.{same_link}
use Rattle.meaning_areas.specs.Stands.{Stored, is_open, kept_of, IsStand}

-- what lists become

abbrev pub with_kept : Folds → Files → Copies → Folds
with_kept f files copies = record { rows = f.rows; links = f.links; files = files; copies = copies; backups = f.backups }

abbrev pub with_phase : Folds → ℕ → Moved → BranchPhase → Keyed LinkRow → Folds
with_phase f tx m to held = record { rows = f.rows; links = record { opening = f.links.opening; table = maps.insert f.links.table tx (branch m to); held = held }; files = f.files; copies = f.copies; backups = f.backups }

abbrev pub with_table : Folds → maps.FinMap nat_cmp Branch → Folds
with_table f table = record { rows = f.rows; links = record { opening = f.links.opening; table = table; held = f.links.held }; files = f.files; copies = f.copies; backups = f.backups }

abbrev pub with_decision : Folds → Commit → Folds
with_decision f d = record { rows = with_commit f.rows d; links = f.links; files = f.files; copies = f.copies; backups = f.backups }

abbrev pub with_finish : Folds → ℕ → Moved → Folds
with_finish f tx m = record {
  rows = with_ended f.rows tx;
  links = record { opening = f.links.opening; table = maps.insert f.links.table tx (branch m Done); held = (settle_one m (kept_of f)).held };
  files = (settle_one m (kept_of f)).files;
  copies = (settle_one m (kept_of f)).copies;
  backups = f.backups;
}

abbrev pub with_links_opening : Folds → Folds
with_links_opening f = record { rows = f.rows; links = record { opening = f.links.opening + 1; table = f.links.table; held = f.links.held }; files = f.files; copies = f.copies; backups = f.backups }

abbrev pub with_rows_opening : Folds → Folds
with_rows_opening f = record { rows = record { opening = f.rows.opening + 1; commits = f.rows.commits; ended = f.rows.ended }; links = f.links; files = f.files; copies = f.copies; backups = f.backups }

abbrev pub with_backup : Folds → Backup → Folds
with_backup f b = record { rows = f.rows; links = f.links; files = f.files; copies = f.copies; backups = f.backups ++ b ∷ [] }

-- ONE MORE RECORD is taken, and the lists stand for the same

pub record Stays (f later : Folds) (x : Written) (s : Stored) : Type 0 where
  pub accepted : folds_step f x ≡ Some later
  pub stand : IsStand later s

-- what the core becomes

abbrev pub core_with : Core → (ℕ → Option Work) → ℕ → Core
core_with c works drawn = record { commits = c.commits; files = c.files; copies = c.copies; backups = c.backups; rows_opening = c.rows_opening; links_opening = c.links_opening; works = works; drawn = drawn }

-- one transaction is at another stage, or gone
abbrev pub core_at : Core → ℕ → Option Work → Core
core_at c tx o = core_with c (with_work c.works tx o) c.drawn

abbrev pub at_stage : Stage → Work → Work
at_stage stage w = record { stage = stage; branch = w.branch; moved = w.moved }

-- a new transaction
abbrev pub core_begun : Core → Core
core_begun c = core_with c (with_work c.works (c.drawn + 1) (Some (record { stage = active; branch = false; moved = no_moved }))) (c.drawn + 1)

abbrev pub core_decided : Core → Commit → Work → Core
core_decided c d w = record { commits = c.commits ++ d ∷ []; files = c.files; copies = c.copies; backups = c.backups; rows_opening = c.rows_opening; links_opening = c.links_opening; works = with_work c.works d.tx (Some (record { stage = decided; branch = w.branch; moved = w.moved })); drawn = c.drawn }

abbrev pub core_finished : Core → ℕ → Moved → Core
core_finished c tx m = record { commits = c.commits; files = (settle_one m (core_kept c)).files; copies = (settle_one m (core_kept c)).copies; backups = c.backups; rows_opening = c.rows_opening; links_opening = c.links_opening; works = with_work c.works tx None; drawn = c.drawn }

abbrev pub core_kept_as : Core → Files → Copies → Core
core_kept_as c files copies = record { commits = c.commits; files = files; copies = copies; backups = c.backups; rows_opening = c.rows_opening; links_opening = c.links_opening; works = c.works; drawn = c.drawn }

-- a restore to tables without other links: a commit of a transaction that is begun and ended with it
abbrev pub core_restored : Core → Commit → Core
core_restored c d = record { commits = c.commits ++ d ∷ []; files = c.files; copies = c.copies; backups = c.backups; rows_opening = c.rows_opening; links_opening = c.links_opening; works = c.works; drawn = c.drawn + 1 }

abbrev pub core_backed_up : Core → Backup → Core
core_backed_up c b = record { commits = c.commits; files = c.files; copies = c.copies; backups = c.backups ++ b ∷ []; rows_opening = c.rows_opening; links_opening = c.links_opening; works = c.works; drawn = c.drawn }

-- the manager stops: what active transactions claimed is forgotten

abbrev pub forgotten_at : Stage → Work → Work
forgotten_at active w = record { stage = active; branch = false; moved = no_moved }
forgotten_at prepared w = w
forgotten_at decided w = w

abbrev pub forgotten : Option Work → Option Work
forgotten None = None
forgotten (Some w) = Some (forgotten_at w.stage w)

abbrev pub core_manager : Core → Core
core_manager c = record { commits = c.commits; files = c.files; copies = c.copies; backups = c.backups; rows_opening = c.rows_opening; links_opening = c.links_opening + 1; works = λ t. forgotten (c.works t); drawn = c.drawn }

-- the database stops: active transactions are gone

abbrev pub left_at : Stage → Work → Option Work
left_at active w = None
left_at prepared w = Some w
left_at decided w = Some w

abbrev pub left : Option Work → Option Work
left None = None
left (Some w) = left_at w.stage w

abbrev pub core_database : Core → Core
core_database c = record { commits = c.commits; files = c.files; copies = c.copies; backups = c.backups; rows_opening = c.rows_opening + 1; links_opening = c.links_opening; works = λ t. left (c.works t); drawn = (c.rows_opening + 1) * 2 ^ 32 }

-- the core with which an opening begins: a branch in doubt is decided where it has a commit, and else prepared

abbrev pub open_work : Option Commit → Moved → Work
open_work None m = record { stage = prepared; branch = true; moved = m }
open_work (Some d) m = record { stage = decided; branch = true; moved = m }

abbrev pub opened : Option Commit → Option Branch → Option Work
opened c None = None
opened c (Some b) = cond (is_open b.phase) (Some (open_work c b.moved)) None

abbrev pub core_opened : Folds → Core
core_opened f = record { commits = f.rows.commits; files = f.files; copies = f.copies; backups = f.backups; rows_opening = f.rows.opening; links_opening = f.links.opening; works = λ t. opened (commit_of t f.rows.commits) (maps.get f.links.table t); drawn = (f.rows.opening + 1) * 2 ^ 32 - 1 }

-- a claim that stands: what is given is committed, the path of what is taken is free or given, and the fills stand

pub record IsClaim (c : Core) (m : Moved) (takes : List Taken) : Type 0 where
  pub given : (g : LinkRow) → list_any (same_link g) m.gives ≡ true → on (links (tables_after [] c.commits)) g.path ≡ Some g
  pub free : list_all (λ t. is_free (on (links (tables_after [] c.commits)) t.link.path) (given_on m.gives t.link.path)) takes ≡ true
  pub fills : fills_stand takes ≡ true
  pub is : moved_by m.gives takes ≡ m
