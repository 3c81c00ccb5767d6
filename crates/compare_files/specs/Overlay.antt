-- Files and copies as they will be once the committed branches in doubt are settled, read from those that are there.
use Rattle.std.specs.Prelude.{ℕ, List, Option}
use Rattle.std.specs.FinMap as maps
use Rattle.compare_files.specs.Effects.{Bytes, Entries, SayOf, after_effect, after_source, copy_bytes, effect, entry, file_bytes, sourced}
use Rattle.compare_files.specs.declared.effects.Effect.{Effect}
use Rattle.meaning_files.specs.Files.{Files}
use Rattle.meaning_settling.specs.Settling.{Copies, Moved}

pub record Overlay : Type 0 where
  pub effects : Entries Effect
  pub sources : Entries (Option (List ℕ))

-- it says what the open ones among some transactions do
pub record IsOverlayOf (open_at : ℕ → Option Moved) (ts : List ℕ) (o : Overlay) : Type 0 where
  pub effects : SayOf effect open_at ts o.effects
  pub sources : SayOf sourced open_at ts o.sources

-- the bytes of a copy, and of a file

abbrev pub copy_at : Overlay → Files → Copies → List ℕ → Option Bytes
copy_at o files copies key = after_source (entry o.sources key) (λ path. file_bytes (maps.get files path)) (copy_bytes (maps.get copies key))

abbrev pub file_at : Overlay → Files → Copies → List ℕ → Option Bytes
file_at o files copies path = after_effect (entry o.effects path) (copy_at o files copies) (file_bytes (maps.get files path))
