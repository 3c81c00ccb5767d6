-- The parts of a Finish, and its pieces.
use Rattle.std.proofs.Common.{◌≡◌, ℕ, List, ◌++◌, ◌∷◌, [], Option, Some, None, Result, Ok, Err, IfOk, sym, ◌∙◌, ap, subst}
use Rattle.dl_base.specs.declared.file.FileChange.{FileChange}
use Rattle.dl_codec.specs.declared.links.BranchPhase.{BranchPhase}
use Rattle.dl_codec.specs.declared.links.LinksRecord.TheVariants as links_records
use Rattle.meaning_areas.specs.Branches.{Branch, branch}
use Rattle.meaning_areas.specs.Finishing.{batch_changes, batch_of, committed_record, copy_records}
use Rattle.meaning_areas.specs.Lists.{Written, in_links}
use Rattle.meaning_settling.specs.Settling.{Kept, Moved}
use Rattle.fm_manager.specs.Managed.{Managed, kept_in}
use Rattle.fm_manager.specs.Pieces.{AreOf, CanFinish, IsDoubtful, Pieces, copies_written, manager_part, settling_part}

pub if-ok : {T E : Type 0} {P Q : T → Type 0} (r : Result T E) → IfOk r P → ((x : T) → P x → Q x) → IfOk r Q
if-ok (Ok x) p f = f x p
if-ok (Err e) p f = p

pub are-of : (p q : Pieces) (m : Moved) (k : Kept) → p ≡ q → copies_written q.copies ≡ copy_records m k → q.changes ≡ batch_changes m k → AreOf p m k
are-of p q m k is copies changes = record { copies = ap (λ (x : Pieces). copies_written x.copies) is ∙ copies; changes = ap (λ (x : Pieces). x.changes) is ∙ changes }

abbrev branch_or : Branch → Option Branch → Branch
branch_or b None = b
branch_or b (Some c) = c

-- a transaction has one branch
one-branch : (m : Managed) (tx : ℕ) (a b : Moved) (p q : BranchPhase) → IsDoubtful m tx a p → IsDoubtful m tx b q → branch a p ≡ branch b q
one-branch m tx a b p q d e = some_same (sym d.is ∙ e.is)
  where
    some_same : Some (branch a p) ≡ Some (branch b q) → branch a p ≡ branch b q
    some_same is = ap (branch_or (branch a p)) is

part-is : (p : Pieces) (m : Moved) (k : Kept) (phase : BranchPhase) → AreOf p m k → manager_part p.tx phase m k ≡ committed_record p.tx phase ++ settling_part p.tx p.copies p.changes
part-is p m k phase of =
    ap (λ (xs : List Written). committed_record p.tx phase ++ (xs ++ (batch_of p.tx (batch_changes m k) ++ in_links (links_records.Done p.tx) ∷ []))) (sym of.copies)
    ∙ ap (λ (cs : List FileChange). committed_record p.tx phase ++ (copies_written p.copies ++ (batch_of p.tx cs ++ in_links (links_records.Done p.tx) ∷ []))) (sym of.changes)

-- the records of a Finish that can be written are its mark and what its pieces say
pub finish-parts : (m : Managed) (p : Pieces) → CanFinish m p → (moved : Moved) (phase : BranchPhase) → IsDoubtful m p.tx moved phase
    → manager_part p.tx phase moved (kept_in m) ≡ committed_record p.tx phase ++ settling_part p.tx p.copies p.changes
finish-parts m p f moved phase d =
    let same : f.0 ≡ moved = ap (λ (b : Branch). b.moved) (one-branch m p.tx f.0 moved f.1 phase f.2 d) in
    part-is p moved (kept_in m) phase (subst (λ (x : Moved). AreOf p x (kept_in m)) same f.3)
