-- A FINISH of a branch in doubt that has a commit: it can be written, and what it leaves.
use Rattle.std.proofs.Common.{◌≡◌, ℕ, List, [], ◌∷◌, Bool, true, false, cond, Option, Some, None, IfSome, is_some, refl, sym, ◌∙◌, ap, subst}
use Rattle.std.specs.FinMap as maps
use Rattle.std.specs.List.{flat_map}
use Rattle.db_store.specs.Store.{CanEnd}
use Rattle.dl_areas.specs.Lists.{Journals, Write}
use Rattle.dl_areas.specs.Writing.{Does}
use Rattle.dl_base.specs.Outside.{Outside}
use Rattle.dl_base.specs.declared.fault.AppendFault.{AppendFault}
use Rattle.dl_base.specs.declared.value.LinkRow.{LinkRow}
use Rattle.dl_codec.specs.declared.links.BranchPhase.{BranchPhase}
use Rattle.dl_codec.specs.declared.links.BranchPhase.TheVariants as phases
use Rattle.dl_codec.specs.declared.rows.RowsRecord.TheVariants as rows_records
use Rattle.fm_manager.specs.Managed.{AreSpelled, Managed, Roomier, as_writes, kept_in}
use Rattle.fm_manager.specs.Pieces.{AreOf, CanFinish, IsDoubtful, Pieces, manager_part, settling_part}
use Rattle.meaning_areas.specs.Branches.{Branch, branch}
use Rattle.meaning_areas.specs.Commits.{Commit, commit_of, has_number}
use Rattle.meaning_areas.specs.Finishing.{AreNumbered, finish_records}
use Rattle.meaning_areas.specs.Lists.{Folds, Written, folds_on, in_rows}
use Rattle.meaning_areas.specs.Moving.{with_finish}
use Rattle.meaning_areas.specs.Stands.{IsBranch, IsStand, Stored, is_open, kept_of, open_branch}
use Rattle.meaning_history.specs.Reached.{HasPast}
use Rattle.meaning_opening.proofs.Completing.{FinishLeads}
use Rattle.meaning_opening.proofs.Finishing.{EndedIsTaken}
use Rattle.meaning_opening.proofs.Numbering.{FitsNumber, past-numbers}
use Rattle.meaning_opening.proofs.Plain.{false_true, none_some, some_same, the_some}
use Rattle.meaning_opening.proofs.Present.{insert-drops}
use Rattle.meaning_settling.specs.Settling.{Moved}
use Rattle.meaning_system.specs.Writes.{open_drop, open_writes}
use Rattle.sys_opening.proofs.Spelling.{spelled-have}
use Rattle.sys_opening.specs.Halting.{HaveSpellings}
use Rattle.sys_opening.specs.Resolving.{Settles}
use Rattle.sys_owners.proofs.InARow.{taken-first}
use Rattle.sys_owners.proofs.Placing.{with_manager}
use Rattle.sys_owners.proofs.Spelling.{finish-spelled}
use Rattle.sys_owners.proofs.Taking.{can-again, finish-last, part-managed, taken-anywhere}
use Rattle.sys_owners.specs.Owned.{Owned, folds_in, journals_of}

-- WHAT THE CRATES BELOW PROMISE
pub record Laws : Type 0 where
  pub leads : FinishLeads
  pub ended : EndedIsTaken
  pub numbers : FitsNumber

-- what a branch gives is what its commit gave
of-branch : (d : Commit) (b : Branch) → AreNumbered d.gives → IsBranch d.branch d.gives d.takes (Some b) → AreNumbered b.moved.gives
of-branch d b numbers = by d.branch
  where
    by : (t : Bool) → IsBranch t d.gives d.takes (Some b) → AreNumbered b.moved.gives
    by true is = subst (λ (ls : List LinkRow). AreNumbered ls) (sym (ap (λ (y : Branch). y.moved.gives) (some_same b (branch (record { gives = d.gives; takes = d.takes; fill = is.0 }) is.1) is.2))) numbers
    by false is = absurd (none_some b (sym is.0))

module _ (laws : Laws) (f : Folds) (x : Stored) (stand : IsStand f x) (has : HasPast x) (tx : ℕ) (committed : is_some (commit_of tx f.rows.commits) ≡ true) (m : Moved) (p : BranchPhase) (at : maps.get f.links.table tx ≡ Some (branch m p)) (still : is_open p ≡ true) where
  numbers : AreNumbered m.gives
  numbers =
      let d = the_some (commit_of tx f.rows.commits) committed in
      of-branch d.0 (branch m p) (past-numbers laws.numbers f x stand has tx d.0 d.1) (subst (λ (o : Option Branch). IsBranch d.0.branch d.0.gives d.0.takes o) at (stand.compares.branches tx d.0 d.1))

  finish-leads : folds_on (Some f) (finish_records tx p m (kept_of f)) ≡ Some (with_finish f tx m)
  finish-leads = (laws.leads f x tx m p stand committed at still numbers).0

  has-branch : (d : Commit) → commit_of tx f.rows.commits ≡ Some d → d.branch ≡ true
  has-branch d is = by d.branch refl (stand.compares.branches tx d is)
    where
      by : (b : Bool) → d.branch ≡ b → IsBranch b d.gives d.takes (maps.get f.links.table tx) → d.branch ≡ true
      by true e has = e
      by false e has = absurd (none_some (branch m p) (sym has.0 ∙ at))

  once : has_number tx f.rows.ended ≡ false
  once = by (has_number tx f.rows.ended) refl
    where
      by : (b : Bool) → has_number tx f.rows.ended ≡ b → has_number tx f.rows.ended ≡ false
      by true e =
          let done = stand.compares.ended tx e in
          absurd (false_true (ap (λ (y : Branch). is_open y.phase) (some_same (branch done.0 phases.Done) (branch m p) (sym done.1 ∙ at)) ∙ still))
      by false e = e

  finish-ends : CanEnd f.rows tx
  finish-ends = let d = the_some (commit_of tx f.rows.commits) committed in laws.ended f.rows tx d.0 d.1 (has-branch d.0 d.1) once

  finish-writes : open_writes f tx (maps.get f.links.table tx) ≡ finish_records tx p m (kept_of f)
  finish-writes = ap (open_writes f tx) at ∙ ap (λ (b : Bool). cond b (finish_records tx p m (kept_of f)) []) still

  finish-settles : (g : Folds) → folds_on (Some f) (finish_records tx p m (kept_of f)) ≡ Some g → Settles f g (finish_records tx p m (kept_of f))
  finish-settles g taken =
      let later : Folds = with_finish f tx m in
      let same : later ≡ g = some_same later g (sym finish-leads ∙ taken) in
      record {
        leads = taken;
        stands = λ y stand_y. subst (λ (h : Folds). IsStand h y) same (laws.leads f y tx m p stand_y committed at still numbers).1;
        commits = ap (λ (h : Folds). h.rows.commits) (sym same);
        drops = ap (λ (h : Folds). flat_map (open_drop h) (maps.entries h.links.table)) (sym same) ∙ insert-drops f f.links.table tx (branch m phases.Done) committed;
      }

-- settling nothing
pub settles-none : (f : Folds) → Settles f f []
settles-none f = record { leads = refl; stands = λ x stand. stand; commits = refl; drops = refl }

-- a branch that is not in doubt has nothing to write
pub nothing-left : (f : Folds) (tx : ℕ) (o : Option Branch) → open_branch o ≡ None → open_writes f tx o ≡ []
nothing-left f tx None none = refl
nothing-left f tx (Some b) none = by (is_open b.phase) none
  where
    by : (t : Bool) → cond t (Some b.moved) None ≡ None → cond t (finish_records tx b.phase b.moved (kept_of f)) [] ≡ []
    by true e = absurd (none_some b.moved (sym e))
    by false e = refl

-- room is no part of what the lists stand for, nor of the journals

roomier-folds : (w : Owned) (n : Managed) → Roomier w.manager n → folds_in (with_manager w n) ≡ folds_in w
roomier-folds w n r = ap (λ (k : Managed). folds_in (with_manager w k)) r.same

pub roomier-journals : (w : Owned) (n : Managed) → Roomier w.manager n → journals_of (with_manager w n) ≡ journals_of w
roomier-journals w n r = ap (λ (k : Managed). journals_of (with_manager w k)) r.same

-- THE PIECES of what a transaction has left to write are there, and there is room for them.
pub record Found (w v : Owned) (tx : ℕ) (q : Pieces) : Type 0 where
  pub journals : journals_of v ≡ journals_of w
  pub moved : Moved
  pub phase : BranchPhase
  pub doubtful : IsDoubtful v.manager q.tx moved phase
  pub pieces : AreOf q moved (kept_of (folds_in v))
  pub can : CanFinish v.manager q
  pub end : CanEnd v.store.rows q.tx
  pub writes : open_writes (folds_in w) tx (maps.get (folds_in w).links.table tx) ≡ finish_records q.tx phase moved (kept_of (folds_in v))
  pub settles : (g : Folds) → folds_on (Some (folds_in v)) (finish_records q.tx phase moved (kept_of (folds_in v))) ≡ Some g → Settles (folds_in w) g (open_writes (folds_in w) tx (maps.get (folds_in w).links.table tx))

module _ (laws : Laws) (w : Owned) (x : Stored) (stand : IsStand (folds_in w) x) (has : HasPast x) (tx : ℕ) (committed : is_some (commit_of tx (folds_in w).rows.commits) ≡ true) (q : Pieces) (own : q.tx ≡ tx)
    (m : Moved) (p : BranchPhase) (d : IsDoubtful w.manager tx m p) (of : AreOf q m (kept_in w.manager)) where
  abbrev f : Folds
  f = folds_in w

  own-commit : is_some (commit_of q.tx f.rows.commits) ≡ true
  own-commit = ap (λ (t : ℕ). is_some (commit_of t f.rows.commits)) own ∙ committed

  own-doubt : IsDoubtful w.manager q.tx m p
  own-doubt = subst (λ (t : ℕ). IsDoubtful w.manager t m p) (sym own) d

  own-writes : open_writes f tx (maps.get f.links.table tx) ≡ finish_records q.tx p m (kept_of f)
  own-writes =
      ap (λ (t : ℕ). open_writes f t (maps.get f.links.table t)) (sym own)
      ∙ finish-writes laws f x stand has q.tx own-commit m p own-doubt.is own-doubt.open_phase

  part-taken : is_some (folds_on (Some f) (manager_part q.tx p m (kept_of f))) ≡ true
  part-taken = taken-first f (manager_part q.tx p m (kept_of f)) (in_rows (rows_records.Ended q.tx) ∷ [])
      (ap is_some (ap (folds_on (Some f)) (sym (finish-last q.tx p m (kept_of f))) ∙ finish-leads laws f x stand has q.tx own-commit m p own-doubt.is own-doubt.open_phase))

  may-finish : CanFinish w.manager q
  may-finish = (m, p, own-doubt, of, taken-anywhere w.manager w.store.rows w.backups.backups (manager_part q.tx p m (kept_of f)) (part-managed q q.tx p m (kept_of f) of) part-taken)

  found : (n : Managed) → Roomier w.manager n → Found w (with_manager w n) tx q
  found n r =
      let v : Owned = with_manager w n in
      let same : folds_in v ≡ f = roomier-folds w n r in
      let again : (g : Folds) → folds_on (Some (folds_in v)) (finish_records q.tx p m (kept_of (folds_in v))) ≡ Some g → folds_on (Some f) (finish_records q.tx p m (kept_of f)) ≡ Some g =
      λ g taken. ap (λ (h : Folds). folds_on (Some h) (finish_records q.tx p m (kept_of h))) (sym same) ∙ taken in
      record {
        journals = roomier-journals w n r;
        moved = m;
        phase = p;
        doubtful = subst (λ (k : Managed). IsDoubtful k q.tx m p) (sym r.same) (record { is = own-doubt.is; open_phase = own-doubt.open_phase });
        pieces = subst (λ (h : Folds). AreOf q m (kept_of h)) (sym same) (record { copies = of.copies; changes = of.changes });
        can = can-again w.manager n q r may-finish;
        end = finish-ends laws f x stand has q.tx own-commit m p own-doubt.is own-doubt.open_phase;
        writes = own-writes ∙ ap (λ (h : Folds). finish_records q.tx p m (kept_of h)) (sym same);
        settles = λ g taken. subst (λ (ws : List Written). Settles f g ws) (sym own-writes)
            (finish-settles laws f x stand has q.tx own-commit m p own-doubt.is own-doubt.open_phase g (again g taken));
      }

-- the pieces that were looked for, if there are some
pub found-left : Laws → (w : Owned) → (x : Stored) × IsStand (folds_in w) x × HasPast x → (tx : ℕ) → is_some (commit_of tx (folds_in w).rows.commits) ≡ true → (o : Option Pieces) (q : Pieces) → o ≡ Some q → IfSome o (λ p. p.tx ≡ tx)
    → IfSome o (λ p. (moved : Moved) × (phase : BranchPhase) × IsDoubtful w.manager tx moved phase × AreOf p moved (kept_in w.manager)) → (n : Managed) → Roomier w.manager n → Found w (with_manager w n) tx q
found-left laws w x tx committed None q is own some n r = absurd (none_some q is)
found-left laws w x tx committed (Some p) q is own some n r =
    let P : Pieces → Type 0 = λ y. Found w (with_manager w n) tx y in
    subst P (some_same p q is) (found laws w x.0 x.1 x.2 tx committed p own some.0 some.1 some.2 some.3 n r)

-- what is written then is what the transaction has left to write
pub found-does : (w v u : Owned) (tx : ℕ) (q : Pieces) (a : Found w v tx q) (fault : Option AppendFault) (o e : Outside) → Does (journals_of v) (journals_of u) (as_writes (finish_records q.tx a.phase a.moved (kept_of (folds_in v)))) fault o e
    → Does (journals_of w) (journals_of u) (as_writes (open_writes (folds_in w) tx (maps.get (folds_in w).links.table tx))) fault o e
found-does w v u tx q a fault o e does =
    subst (λ (js : Journals). Does js (journals_of u) (as_writes (open_writes (folds_in w) tx (maps.get (folds_in w).links.table tx))) fault o e) a.journals
    (subst (λ (ws : List Write). Does (journals_of v) (journals_of u) ws fault o e) (sym (ap as_writes a.writes)) does)

-- and has spellings
pub found-have : (w v : Owned) (tx : ℕ) (q : Pieces) → Found w v tx q → AreSpelled (settling_part q.tx q.copies q.changes) → HaveSpellings (open_writes (folds_in w) tx (maps.get (folds_in w).links.table tx))
found-have w v tx q a spelled =
    subst (λ (xs : List Written). HaveSpellings xs) (sym a.writes)
    (spelled-have (finish_records q.tx a.phase a.moved (kept_of (folds_in v))) (finish-spelled q a.phase a.moved (kept_of (folds_in v)) a.pieces spelled))

-- NOTHING IS LEFT: room alone was made
module _ (w : Owned) (n : Managed) (r : Roomier w.manager n) (tx : ℕ) (none : open_branch (maps.get w.manager.links.links.table tx) ≡ None) where
  pub none-settles : Settles (folds_in w) (folds_in (with_manager w n)) (open_writes (folds_in w) tx (maps.get (folds_in w).links.table tx))
  none-settles =
      subst (λ (ws : List Written). Settles (folds_in w) (folds_in (with_manager w n)) ws) (sym (nothing-left (folds_in w) tx (maps.get (folds_in w).links.table tx) none))
      (subst (λ (g : Folds). Settles (folds_in w) g []) (sym (roomier-folds w n r)) (settles-none (folds_in w)))

  pub none-does : (o : Outside) → Does (journals_of w) (journals_of w) [] None o o → Does (journals_of w) (journals_of (with_manager w n)) (as_writes (open_writes (folds_in w) tx (maps.get (folds_in w).links.table tx))) None o o
  none-does o does =
      subst (λ (ws : List Written). Does (journals_of w) (journals_of (with_manager w n)) (as_writes ws) None o o) (sym (nothing-left (folds_in w) tx (maps.get (folds_in w).links.table tx) none))
      (subst (λ (js : Journals). Does (journals_of w) js [] None o o) (sym (roomier-journals w n r)) does)

  pub none-have : HaveSpellings (open_writes (folds_in w) tx (maps.get (folds_in w).links.table tx))
  none-have = subst (λ (ws : List Written). HaveSpellings ws) (sym (nothing-left (folds_in w) tx (maps.get (folds_in w).links.table tx) none)) tt
