-- Pieces of a Finish that were made before it.
use Rattle.std.specs.Prelude.{◌≡◌, ℕ, true, false, List, filter, is_none, is_some, Option, Some, None}
use Rattle.std.specs.FinMap as maps
use Rattle.fm_manager.specs.Pieces.{AreOf, Pieces}
use Rattle.meaning_files.specs.Files.{Files}
use Rattle.meaning_settling.specs.Apart.{has_path}
use Rattle.meaning_settling.specs.Settling.{Copies, Moved, link_key}
use Rattle.meaning_system.specs.State.{State, Txn, has_links, kept_in, moved_of}

-- without the copies that are stored by now
abbrev pub left_of : Copies → Pieces → Pieces
left_of copies p = record { tx = p.tx; copies = filter (λ c. is_none (maps.get copies (link_key c.link))) p.copies; changes = p.changes }

-- there is a file on each path that is given or taken
abbrev pub AreThere : Files → Moved → Type 0
AreThere files m = (path : List ℕ) → has_path m path ≡ true → is_some (maps.get files path) ≡ true

-- THE PIECES THAT A TRANSACTION HAS: without the copies that are stored by now they are those of its Finish as things are, over files
-- that are there; it has none where it gives and takes no link
abbrev pub HasPieces : State → ℕ → Txn → Option Pieces → Type 0
HasPieces s tx t None = has_links (moved_of t) ≡ false
HasPieces s tx t (Some p) = (has_links (moved_of t) ≡ true) × (p.tx ≡ tx) × AreOf (left_of s.copies p) (moved_of t) (kept_in s) × AreThere s.files (moved_of t)
