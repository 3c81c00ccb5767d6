-- What a commit owes to the stored part before it: how its links come from those before, and what becomes of their files and copies.
use Rattle.std.specs.Prelude.{◌≡◌, ◌⊎◌, ℕ, true, IsTrue, List, [], map, Some, None, is_some}
use Rattle.std.specs.FinMap as maps
use Rattle.dl_base.specs.declared.file.File.{File}
use Rattle.dl_base.specs.declared.value.LinkRow.{LinkRow}
use Rattle.meaning_tables.specs.Fits.{differ}
use Rattle.meaning_tables.specs.Links.{links}
use Rattle.meaning_tables.specs.Tables.{Tables}
use Rattle.meaning_settling.specs.Keyed.{is_at}
use Rattle.meaning_settling.specs.Settling.{Copy, Moved, Kept, on, numbered, link_key, held_after, settle_one}
use Rattle.meaning_areas.specs.Commits.{Commit, tables_after}
use Rattle.meaning_areas.specs.Stands.{IsCommit}

pub record Merges (cs : List Commit) (k : Kept) (m : Moved) (tables : Tables) : Type 0 where
  -- a path has the link that is taken on it, none if one is given there, and else the one that it had
  pub moved : (p : List ℕ) → on (links tables) p ≡ held_after m p (on (links (tables_after [] cs)) p)
  pub paths : IsTrue (differ is_at (map (λ l. l.path) (links tables)))
  pub one_path : (x : Commit) (n : List ℕ) (a b : LinkRow) → IsCommit x cs → numbered (links x.tables) n ≡ Some a → numbered (links tables) n ≡ Some b → a ≡ b
  -- what is given is of an earlier commit, and what an earlier commit has is still there, was gone before, or is given
  pub given : (n : List ℕ) (g : LinkRow) → numbered m.gives n ≡ Some g → (x : Commit) × IsCommit x cs × (numbered (links x.tables) n ≡ Some g)
  pub gone : (x : Commit) (n : List ℕ) (l : LinkRow) → IsCommit x cs → numbered (links x.tables) n ≡ Some l → numbered (links tables) n ≡ None → (numbered (links (tables_after [] cs)) n ≡ None) ⊎ (numbered m.gives n ≡ Some l)
  pub stays : (p : List ℕ) (l : LinkRow) → on m.takes p ≡ None → on m.gives p ≡ None → on (links (tables_after [] cs)) p ≡ Some l → numbered m.gives (link_key l.link) ≡ None
  -- what is taken has a file afterwards, and the bytes of its copy if it has one
  pub there : (p : List ℕ) (t : LinkRow) → on m.takes p ≡ Some t → is_some (maps.get (settle_one m k).files p) ≡ true
  pub taken : (p : List ℕ) (t : LinkRow) (c : Copy) (f : File) → on m.takes p ≡ Some t → maps.get (settle_one m k).copies (link_key t.link) ≡ Some c → maps.get (settle_one m k).files p ≡ Some f → f.bytes ≡ c.bytes
