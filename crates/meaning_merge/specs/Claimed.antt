-- What claims and files say of the links that a transaction takes.
use Rattle.std.specs.Prelude.{◌≡◌, ℕ, true, false, List, Some, is_some}
use Rattle.std.specs.FinMap as maps
use Rattle.dl_base.specs.declared.value.LinkRow.{LinkRow}
use Rattle.meaning_files.specs.Files.{Files}
use Rattle.meaning_settling.specs.Keyed.{is_at}
use Rattle.meaning_settling.specs.Settling.{on}
use Rattle.meaning_tables.specs.Links.{links, gives, takes}
use Rattle.meaning_tables.specs.Tables.{Tables}
use Rattle.meaning_merge.specs.Touching.{In, is_in, OnePath}

pub record IsClaimed (base copy committed : Tables) (files : Files) : Type 0 where
  -- no two takes are on one path
  pub apart : OnePath (takes base copy)
  -- and none is on the path of a committed link that is not given
  pub free : (t l : LinkRow) → In t (takes base copy) → In l (links committed) → is_in (gives base copy) l ≡ false → is_at l.path t.path ≡ false
  -- each has a file
  pub backed : (p : List ℕ) (t : LinkRow) → on (takes base copy) p ≡ Some t → is_some (maps.get files p) ≡ true
