-- What settling and dropping branches in doubt writes, and what it leaves.
use Rattle.std.specs.Prelude.{◌≡◌, ℕ, List, [], ◌∷◌, is_none, Option, Some, None}
use Rattle.std.specs.FinMap as maps
use Rattle.std.specs.List.{flat_map}
use Rattle.dl_codec.specs.declared.links.LinksRecord.TheVariants as links_records
use Rattle.meaning_areas.specs.Commits.{Commit, commit_of}
use Rattle.meaning_areas.specs.Lists.{Folds, Written, folds_on, in_links}
use Rattle.meaning_areas.specs.Stands.{IsStand, Stored}
use Rattle.meaning_system.specs.Writes.{open_drop, open_writes, when}

-- what settles the branch of a commit, if there is one
abbrev pub commit_writes : Folds → Option Commit → List Written
commit_writes f None = []
commit_writes f (Some c) = open_writes f c.tx (maps.get f.links.table c.tx)

-- what drops the branch of a transaction that is in doubt, unless it has a commit
abbrev pub drop_writes : Folds → ℕ → List Written
drop_writes f tx = when (is_none (commit_of tx f.rows.commits)) (in_links (links_records.Aborted tx) ∷ [])

-- SETTLING: these records lead from lists to lists that stand for the same. The commits are as they were, and so is what is to be dropped.
pub record Settles (f g : Folds) (ws : List Written) : Type 0 where
  pub leads : folds_on (Some f) ws ≡ Some g
  pub stands : (x : Stored) → IsStand f x → IsStand g x
  pub commits : g.rows.commits ≡ f.rows.commits
  pub drops : flat_map (open_drop g) (maps.entries g.links.table) ≡ flat_map (open_drop f) (maps.entries f.links.table)
