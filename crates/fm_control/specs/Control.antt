-- Links, and files under their control, between two steps.
use Rattle.std.specs.Prelude.{◌≡◌, ◌⊎◌, ℕ, true, false, List, [], ◌∷◌, filter, is_some, Some}
use Rattle.std.specs.FinMap as maps
use Rattle.dl_base.specs.declared.step.Step.{Step}
use Rattle.dl_base.specs.declared.value.LinkRow.{LinkRow}
use Rattle.fm_pieces.specs.Keeping.{AreThere}
use Rattle.meaning_areas.specs.Commits.{tables_after}
use Rattle.meaning_areas.specs.Stands.{Stored}
use Rattle.meaning_merge.specs.Touching.{In, OnePath}
use Rattle.meaning_settling.specs.Keyed.{is_at}
use Rattle.meaning_settling.specs.Settling.{on}
use Rattle.meaning_tables.specs.Links.{links}
use Rattle.meaning_system.specs.Commands.{forbidding}
use Rattle.meaning_system.specs.Machine.{step}
use Rattle.meaning_system.specs.State.{State, Txn, is_active, moved_of, tables_of}

-- THE FILES OF UNFINISHED TRANSACTIONS: on each path where a prepared or decided one gives or takes a link there is a file
abbrev pub HaveTheirs : State → Type 0
HaveTheirs s = (tx : ℕ) (t : Txn) → maps.get s.txs tx ≡ Some t → is_active t.phase ≡ false → AreThere s.files (moved_of t)

-- AN UNFINISHED TRANSACTION gives this link on the path, and takes that one there
pub record Moves (s : State) (path : List ℕ) (give take : LinkRow) : Type 0 where
  pub tx : ℕ
  pub txn : Txn
  pub at : maps.get s.txs tx ≡ Some txn
  pub unfinished : is_active txn.phase ≡ false
  pub gives : on (moved_of txn).gives path ≡ Some give
  pub takes : on (moved_of txn).takes path ≡ Some take

-- THE LINKS THAT FORBID COMMANDS on a path are at most two, and two only where one transaction gives the one and takes the other
abbrev pub AreGuards : State → List ℕ → List LinkRow → Type 0
AreGuards s path [] = Unit {0}
AreGuards s path (l ∷ []) = Unit {0}
AreGuards s path (l ∷ m ∷ []) = Moves s path l m ⊎ Moves s path m l
AreGuards s path (l ∷ m ∷ n ∷ more) = ⊥

-- A STATE IS UNDER CONTROL: committed links are on different paths, those that forbid commands are such, and where one does there is a file
pub record IsControlled (s : State) : Type 0 where
  pub paths : OnePath (links (tables_of s))
  pub guards : (path : List ℕ) → AreGuards s path (forbidding s path)
  pub files : (path : List ℕ) (l : LinkRow) → In l (forbidding s path) → is_some (maps.get s.files path) ≡ true

-- BEFORE AND AFTER EACH of some steps the state is under control
abbrev pub AreControlled : State → List Step → Type 0
AreControlled s [] = IsControlled s
AreControlled s (x ∷ xs) = IsControlled s × AreControlled (step s x).1 xs

-- THE COMMITTED LINKS ON A PATH, of what areas stand for
abbrev pub committed_at : Stored → List ℕ → List LinkRow
committed_at x path = filter (λ l. is_at path l.path) (links (tables_after [] x.commits))
