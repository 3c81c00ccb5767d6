-- What a restore brings back, and which backups are complete.
use Rattle.std.specs.Prelude.{◌≡◌, ℕ, true, List, Some, is_some}
use Rattle.std.specs.FinMap as maps
use Rattle.std.specs.Option.{option_map}
use Rattle.dl_base.specs.declared.answer.Lost.{Lost}
use Rattle.dl_base.specs.declared.file.File.{File}
use Rattle.dl_base.specs.declared.step.Target.{Target}
use Rattle.dl_base.specs.declared.step.Target.TheVariants as targets
use Rattle.dl_base.specs.declared.value.LinkRow.{LinkRow}
use Rattle.meaning_merge.specs.Merging.{as_version}
use Rattle.meaning_merge.specs.Restoring.{lost_cells, without_lost}
use Rattle.meaning_merge.specs.Touching.{In}
use Rattle.meaning_settling.specs.Settling.{Copy, link_key}
use Rattle.meaning_tables.specs.Links.{links, takes}
use Rattle.meaning_tables.specs.Tables.{Tables, table_of}
use Rattle.meaning_system.specs.Machine.{lost_to, next_commit, target_tables}
use Rattle.meaning_system.specs.State.{State, tables_of}

-- A LINK HAS ITS BYTES: it has a copy, and at its path a file with the bytes of the copy
pub record HasItsBytes (s : State) (l : LinkRow) : Type 0 where
  pub copy : Copy
  pub file : File
  pub is_copy : maps.get s.copies (link_key l.link) ≡ Some copy
  pub is_file : maps.get s.files l.path ≡ Some file
  pub bytes : file.bytes ≡ copy.bytes

-- A RESTORE HAS BROUGHT BACK its target, as commit `c`, but for lost cells
pub record HasBack (s : State) (t : Target) (c : ℕ) (lost : List Lost) (later : State) : Type 0 where
  pub target : Tables
  pub is : target_tables s t ≡ Some target
  pub number : c ≡ next_commit s
  pub lost_is : lost ≡ lost_cells (lost_to s target) target
  -- by name, the tables are those of the target with their lost cells empty, each of the new version
  pub tables : (name : List ℕ) → table_of (tables_of later) name ≡ option_map (as_version c) (table_of (without_lost (lost_to s target) target) name)
  -- what it took with RECOVERY YES is filled from its copy
  pub filled : (l : LinkRow) → In l (takes (tables_of s) (tables_of later)) → l.options.recovery ≡ true → HasItsBytes later l
  -- and each link that has a copy has its bytes
  pub whole : (l : LinkRow) → In l (links (tables_of later)) → is_some (maps.get later.copies (link_key l.link)) ≡ true → HasItsBytes later l

-- A BACKUP IS COMPLETE: it is of these tables, and each of their links with RECOVERY YES has a copy
pub record IsComplete (s : State) (n : ℕ) (tables : Tables) : Type 0 where
  pub is : target_tables s (targets.Backup n) ≡ Some tables
  pub copied : (l : LinkRow) → In l (links tables) → l.options.recovery ≡ true → is_some (maps.get s.copies (link_key l.link)) ≡ true
