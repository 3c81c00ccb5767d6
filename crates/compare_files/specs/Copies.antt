-- What is asked of archived copies, one link or one number at a time.
use Rattle.std.specs.Prelude.{ℕ, Bool, true, false, ◌&&◌, ◌||◌, not, bytes_eq, List, [], ◌∷◌, Option, Some, None, is_some}
use Rattle.std.specs.FinMap as maps
use Rattle.std.specs.List.{list_all}
use Rattle.dl_base.specs.declared.value.LinkRow.{LinkRow}
use Rattle.compare_files.specs.Effects.{Bytes, entry}
use Rattle.compare_files.specs.Numbers.{is_numbered}
use Rattle.compare_files.specs.Overlay.{Overlay, copy_at, file_at}
use Rattle.meaning_files.specs.Files.{Files}
use Rattle.meaning_settling.specs.Keyed.{Keyed}
use Rattle.meaning_settling.specs.Settling.{Copies, Moved, link_key, numbered}

-- a link with RECOVERY YES
abbrev pub is_recovered : Option LinkRow → Bool
is_recovered None = false
is_recovered (Some l) = l.options.recovery

-- a copy is to be made
abbrev pub is_source : Option (Option (List ℕ)) → Bool
is_source None = false
is_source (Some None) = false
is_source (Some (Some path)) = true

-- where a number has a copy in the end, it is that of a link with RECOVERY YES; and it has one where it is to be made
abbrev pub may_stand : Option Bytes → Option LinkRow → Option (Option (List ℕ)) → Bool
may_stand (Some bytes) link source = is_recovered link
may_stand None link source = not (is_source source)

abbrev pub stands_at : Overlay → Files → Copies → Keyed LinkRow → List ℕ → Bool
stands_at o files copies every key = may_stand (copy_at o files copies key) (maps.get every key) (entry o.sources key)

-- the same of the numbers of the links that are given, of one list, of an open transaction, and of all

abbrev pub given_stand : (List ℕ → Bool) → List LinkRow → Bool
given_stand test gives = list_all (λ g. test (link_key g.link)) gives

abbrev pub open_stands : (List ℕ → Bool) → Option Moved → Bool
open_stands test None = true
open_stands test (Some m) = given_stand test m.gives

abbrev pub all_stand : (List ℕ → Bool) → (ℕ → Option Moved) → List ℕ → Bool
all_stand test open_at [] = true
all_stand test open_at (t ∷ ts) = open_stands test (open_at t) && all_stand test open_at ts

-- a link of some commit that is committed no more and has RECOVERY YES has a copy
abbrev pub is_archived : Overlay → Files → Copies → List LinkRow → LinkRow → Bool
is_archived o files copies linked l = not l.options.recovery || is_some (numbered linked (link_key l.link)) || is_some (copy_at o files copies (link_key l.link))

-- the same, by the numbers of the links that are committed
abbrev pub archived_by : Overlay → Files → Copies → List (List ℕ) → LinkRow → Bool
archived_by o files copies numbers l = not l.options.recovery || is_numbered numbers (link_key l.link) || is_some (copy_at o files copies (link_key l.link))

-- where there are both, a copy has the bytes of the file
abbrev pub same_bytes : Option Bytes → Option Bytes → Bool
same_bytes None file = true
same_bytes (Some copy) None = true
same_bytes (Some copy) (Some file) = bytes_eq file copy

abbrev pub has_bytes : Overlay → Files → Copies → LinkRow → Bool
has_bytes o files copies l = same_bytes (copy_at o files copies (link_key l.link)) (file_at o files copies l.path)
