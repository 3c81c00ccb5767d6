-- Branches by the numbers of their transactions.
use Rattle.std.specs.Prelude.{◌≡◌, ℕ, Bool, true, false, not, ◌&&◌, List, [], ◌∷◌, ◌++◌, map, filter, Option, Some, None, is_some, refl}
use Rattle.std.specs.Coded.{Coded, code_by, coded×, coded_ℕ, coded_list}
use Rattle.std.specs.FinMap as maps
use Rattle.std.specs.Ordering.{nat_cmp}
use Rattle.dl_codec.specs.declared.links.BranchPhase.{BranchPhase}
use Rattle.meaning_areas.specs.Branches.{Branch, branch, is_phase}
use Rattle.meaning_areas.specs.Commits.{has_number}
use Rattle.meaning_areas.specs.Stands.{is_open}
use Rattle.fm_branch.specs.Codes.{table_code}

abbrev pub Table : Type 0
Table = maps.FinMap nat_cmp Branch

-- exactly these transactions have a branch
abbrev pub HaveBranches : List ℕ → Table → Type 0
HaveBranches prepared table = (tx : ℕ) → has_number tx prepared ≡ is_some (maps.get table tx)

-- no transaction is there twice
abbrev pub are_once : List ℕ → Bool
are_once [] = true
are_once (tx ∷ txs) = not (has_number tx txs) && are_once txs

-- the branches, and their transactions in the order in which they were prepared
pub record Numbered : Type 0 where
  pub table : Table
  pub prepared : List ℕ

abbrev pub numbered_code : Coded Numbered
numbered_code = code_by (Table × List ℕ) (coded× table_code (coded_list coded_ℕ)) (λ n. (n.table, n.prepared)) (λ p. record { table = p.0; prepared = p.1 }) (λ _. refl)

-- the same with the branch of one more transaction
abbrev pub with_last : Numbered → ℕ → Branch → Numbered
with_last n tx b = record { table = maps.insert n.table tx b; prepared = n.prepared ++ tx ∷ [] }

-- a branch is in doubt until it is done or aborted
abbrev pub is_in_doubt : Branch → Bool
is_in_doubt b = is_open b.phase

-- the transactions of those in doubt, in the order of their numbers
abbrev pub doubtful : List (ℕ × Branch) → List ℕ
doubtful es = map (λ e. e.0) (filter (λ e. is_in_doubt e.1) es)

abbrev pub in_doubt : Table → List ℕ
in_doubt table = doubtful (maps.entries table)

-- the table with another phase of a branch, if there is one
abbrev pub with_phase : Table → ℕ → BranchPhase → Option Branch → Table
with_phase table tx phase None = table
with_phase table tx phase (Some b) = maps.insert table tx (branch b.moved phase)

-- whether there is a branch, in this phase
abbrev pub is_branch_at : BranchPhase → Option Branch → Bool
is_branch_at phase None = false
is_branch_at phase (Some b) = is_phase b.phase phase
