-- What an opening asks of the areas Rows and Links together, test by test.
use Rattle.std.specs.Prelude.{◌≡◌, ◌≢◌, ℕ, ◌/◌, ◌^◌, ◌≤◌, ◌==◌, ◌&&◌, ◌||◌, Bool, true, false, not, IsTrue, nat_le, List, [], ◌∷◌, map, Option, Some, None, is_some}
use Rattle.std.specs.FinMap as maps
use Rattle.std.specs.List.{list_all}
use Rattle.dl_base.specs.declared.value.LinkRow.{LinkRow}
use Rattle.dl_codec.specs.declared.links.BranchPhase.TheVariants.{Done}
use Rattle.fm_branch.specs.Table.{Table}
use Rattle.meaning_areas.specs.Branches.{Branch, Branches, branch, is_phase}
use Rattle.meaning_areas.specs.Commits.{Commit, Commits, commit_of, has_number, tables_after}
use Rattle.meaning_areas.specs.Stands.{AreDrawn, IsBranch, IsCommit, is_past, open_in, txs_of}
use Rattle.meaning_settling.specs.Apart.{ShareNoPath, has_path}
use Rattle.meaning_settling.specs.Keyed.{Keyed, is_at, over}
use Rattle.meaning_settling.specs.Settling.{Moved, held_after, on, paths_of}
use Rattle.meaning_tables.specs.Fits.{differ}
use Rattle.meaning_tables.specs.Links.{links}
use Rattle.compare_every.specs.Every.{IsEvery, OneRowEach}

-- no two links are on one path
abbrev pub paths_differ : List LinkRow → Bool
paths_differ ls = differ is_at (map (λ l. l.path) ls)

abbrev pub HavePaths : List LinkRow → Type 0
HavePaths ls = IsTrue (paths_differ ls)

-- the number of a link is of no later opening
abbrev pub is_drawn : ℕ → LinkRow → Bool
is_drawn opening l = nat_le (l.link.tx / 2 ^ 32) opening

abbrev pub are_drawn : ℕ → List LinkRow → Bool
are_drawn opening ls = list_all (is_drawn opening) ls

-- a branch that has ended is Done
abbrev pub IsDoneAt : Bool → Option Branch → Type 0
IsDoneAt ended o = ended ≡ true → (m : Moved) × (o ≡ Some (branch m Done))

-- WHAT IS ASKED OF EACH COMMIT
pub record CommitFits (rows : Commits) (table : Table) (c : Commit) : Type 0 where
  pub branch : IsBranch c.branch c.gives c.takes (maps.get table c.tx)
  pub ended : IsDoneAt (has_number c.tx rows.ended) (maps.get table c.tx)
  pub number : c.tx / 2 ^ 32 ≤ rows.opening
  pub drawn : AreDrawn rows.opening (links c.tables)
  pub paths : HavePaths (links c.tables)

-- whether a branch that has ended is Done
abbrev pub is_done_at : Bool → Option Branch → Bool
is_done_at ended None = not ended
is_done_at ended (Some b) = not ended || is_phase b.phase Done

abbrev pub EachCommit : (Commit → Type 0) → List Commit → Type 0
EachCommit P cs = (c : Commit) → IsCommit c cs → P c

-- what all commits come to: nothing where one does not fit or two have different links of one number, else their links by numbers
abbrev pub CommitsFit : Commits → Table → Option (Keyed LinkRow) → Type 0
CommitsFit rows table None = EachCommit (CommitFits rows table) rows.commits → OneRowEach rows.commits → ⊥
CommitsFit rows table (Some every) = EachCommit (CommitFits rows table) rows.commits × OneRowEach rows.commits × IsEvery rows.commits every

-- WHAT IS ASKED OF EACH BRANCH
pub record BranchFits (rows : Commits) (tx : ℕ) (b : Branch) : Type 0 where
  pub decided : is_past b.phase ≡ true → is_some (commit_of tx rows.commits) ≡ true
  pub number : tx / 2 ^ 32 ≤ rows.opening
  pub gives : AreDrawn rows.opening b.moved.gives
  pub takes : AreDrawn rows.opening b.moved.takes

-- the same as a test
abbrev pub branch_fits : Commits → ℕ → Branch → Bool
branch_fits rows tx b = (not (is_past b.phase) || is_some (commit_of tx rows.commits)) && nat_le (tx / 2 ^ 32) rows.opening && are_drawn rows.opening b.moved.gives && are_drawn rows.opening b.moved.takes

abbrev pub EachBranch : (ℕ → Branch → Type 0) → Table → Type 0
EachBranch P table = (tx : ℕ) (b : Branch) → maps.get table tx ≡ Some b → P tx b

-- BRANCHES IN DOUBT have different paths from each other
abbrev pub BranchesApart : Branches → Type 0
BranchesApart l = (t u : ℕ) → t ≢ u → (a b : Moved) → open_in l t ≡ Some a → open_in l u ≡ Some b → ShareNoPath a b

-- whether a branch in doubt, if there is one, gives or takes a path
abbrev pub has_in_doubt : Option Moved → List ℕ → Bool
has_in_doubt None path = false
has_in_doubt (Some m) path = has_path m path

-- a path is free for a transaction, of the one that is known to have it
abbrev pub is_free_for : ℕ → Option ℕ → Bool
is_free_for tx None = true
is_free_for tx (Some t) = t == tx

abbrev pub are_free_for : ℕ → (List ℕ → Option ℕ) → List LinkRow → Bool
are_free_for tx owners ls = list_all (λ l. is_free_for tx (owners l.path)) ls

-- the paths of a branch in doubt are
abbrev pub is_clear : ℕ → (List ℕ → Option ℕ) → Option Moved → Bool
is_clear tx owners None = true
is_clear tx owners (Some m) = are_free_for tx owners m.gives && are_free_for tx owners m.takes

-- WHAT IS HELD when the open branches of commits are settled in order

abbrev pub settle_held : Option Moved → Keyed LinkRow → Keyed LinkRow
settle_held None held = held
settle_held (Some m) held = over (paths_of m) (held_after m) held

abbrev pub held_settled : Branches → List ℕ → Keyed LinkRow → Keyed LinkRow
held_settled l [] held = held
held_settled l (t ∷ ts) held = held_settled l ts (settle_held (open_in l t) held)

-- held links with some, of which the last on a path counts
abbrev pub taken_on : List LinkRow → Keyed LinkRow → Keyed LinkRow
taken_on [] held = held
taken_on (l ∷ ls) held = taken_on ls (maps.insert held l.path l)

-- some links, each on its path, are all that is held
abbrev pub AreAllHeld : Keyed LinkRow → List LinkRow → Type 0
AreAllHeld held ls = (p : List ℕ) → maps.get held p ≡ on ls p

abbrev pub HeldFits : Commits → Branches → Type 0
HeldFits r l = AreAllHeld (held_settled l (txs_of r.commits) l.held) (links (tables_after [] r.commits))

-- each link is held on its own path
abbrev pub HasOwnPaths : Keyed LinkRow → Type 0
HasOwnPaths held = (p : List ℕ) (x : LinkRow) → maps.get held p ≡ Some x → p ≡ x.path

-- ALL THAT IS TESTED
pub record LinksFit (r : Commits) (l : Branches) : Type 0 where
  pub branches : EachBranch (BranchFits r) l.table
  pub apart : BranchesApart l
  pub commits : EachCommit (CommitFits r l.table) r.commits
  pub rows : OneRowEach r.commits
  pub held : HeldFits r l
