-- The links of all commits, by their numbers.
use Rattle.std.specs.Prelude.{◌≡◌, ℕ, Bool, true, List, Option, Some, None}
use Rattle.std.specs.FinMap as maps
use Rattle.dl_base.specs.declared.value.LinkRow.{LinkRow}
use Rattle.meaning_areas.specs.Commits.{Commit}
use Rattle.meaning_areas.specs.Same.{same_link}
use Rattle.meaning_areas.specs.Stands.{IsCommit}
use Rattle.meaning_settling.specs.Keyed.{Keyed}
use Rattle.meaning_settling.specs.Settling.{numbered}
use Rattle.meaning_tables.specs.Links.{links}

-- a link number has one path and the same options in all commits
abbrev pub OneRowEach : List Commit → Type 0
OneRowEach cs = (c d : Commit) (n : List ℕ) (x y : LinkRow) → IsCommit c cs → IsCommit d cs → numbered (links c.tables) n ≡ Some x → numbered (links d.tables) n ≡ Some y → x ≡ y

-- under each number the row that some commit's link of that number has, and each commit's has
abbrev pub IsEvery : List Commit → Keyed LinkRow → Type 0
IsEvery cs every = (n : List ℕ) (x : LinkRow) → (maps.get every n ≡ Some x → (c : Commit) × IsCommit c cs × (numbered (links c.tables) n ≡ Some x)) × ((c : Commit) → IsCommit c cs → numbered (links c.tables) n ≡ Some x → maps.get every n ≡ Some x)

-- LINKS THAT ARE KNOWN by their numbers

-- what is known of a number first, then what comes later
abbrev pub first_row : Option LinkRow → Option LinkRow → Option LinkRow
first_row (Some x) o = Some x
first_row None o = o

-- whether a link is the one that is known of its number, if one is
abbrev pub agrees : Option LinkRow → LinkRow → Bool
agrees None l = true
agrees (Some x) l = same_link x l
