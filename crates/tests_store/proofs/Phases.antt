-- What the fold takes of a branch by its phase.
use Rattle.std.proofs.Common.{◌≡◌, ℕ, true, cond, ap, is_some, Option, Some, None}
use Rattle.std.specs.FinMap as maps
use Rattle.dl_codec.specs.declared.links.BranchPhase.{BranchPhase}
use Rattle.dl_codec.specs.declared.links.BranchPhase.TheVariants.{Prepared, Committed, Done, Aborted}
use Rattle.dl_codec.specs.declared.links.LinksRecord.TheVariants as records
use Rattle.fm_branch.specs.Linked.{IsTaken}
use Rattle.fm_branch.specs.Table.{is_branch_at}
use Rattle.meaning_areas.specs.Branches.{Branch, Branches, branch, done_on, moves_on, with_branch, with_done}

moves : (from to : BranchPhase) (l : Branches) (tx : ℕ) (b : Option Branch) → is_branch_at from b ≡ true → is_some (moves_on from to l tx b) ≡ true
moves from to l tx None at = absurd cc
moves from to l tx (Some b) at = ap (λ y. is_some (cond y (Some (with_branch l tx (branch b.moved to))) None)) at

ends : (l : Branches) (tx : ℕ) (b : Option Branch) → is_branch_at Committed b ≡ true → is_some (done_on l tx b) ≡ true
ends l tx None at = absurd cc
ends l tx (Some b) at = ap (λ y. is_some (cond y (Some (with_done l tx b.moved)) None)) at

pub commit_taken : (l : Branches) (tx : ℕ) → is_branch_at Prepared (maps.get l.table tx) ≡ true → IsTaken l (records.Committed tx)
commit_taken l tx at = moves Prepared Committed l tx (maps.get l.table tx) at

pub abort_taken : (l : Branches) (tx : ℕ) → is_branch_at Prepared (maps.get l.table tx) ≡ true → IsTaken l (records.Aborted tx)
abort_taken l tx at = moves Prepared Aborted l tx (maps.get l.table tx) at

pub done_taken : (l : Branches) (tx : ℕ) → is_branch_at Committed (maps.get l.table tx) ≡ true → IsTaken l (records.Done tx)
done_taken l tx at = ends l tx (maps.get l.table tx) at
