-- A FINISH IN TWO PARTS: that of the manager, and the end of its branch.
use Rattle.std.proofs.Common.{◌≡◌, ℕ, List, [], ◌∷◌, ◌++◌, Option, Some, sym, ◌∙◌, ap, subst}
use Rattle.db_store.specs.Store.{CanEnd, Database}
use Rattle.dl_areas.specs.Lists.{Journals, Write}
use Rattle.dl_areas.specs.Writing.{Does}
use Rattle.dl_base.specs.Outside.{Outside}
use Rattle.dl_base.specs.declared.fault.AppendFault.{AppendFault}
use Rattle.dl_codec.specs.declared.links.BranchPhase.{BranchPhase}
use Rattle.dl_codec.specs.declared.rows.RowsRecord.TheVariants as rows_records
use Rattle.fm_manager.specs.Managed.{FoldsTo, Managed, as_writes, kept_in}
use Rattle.fm_manager.specs.Pieces.{manager_part}
use Rattle.meaning_areas.specs.Commits.{Commits, with_ended}
use Rattle.meaning_areas.specs.Finishing.{finish_records}
use Rattle.meaning_areas.specs.Lists.{Folds, Written, folds_on, in_rows, with_rows}
use Rattle.meaning_areas.specs.Stands.{kept_of}
use Rattle.meaning_settling.specs.Settling.{Kept, Moved}
use Rattle.sys_owners.proofs.InARow.{folds-then, writes-append}
use Rattle.sys_owners.proofs.Placing.{with_manager, with_store}
use Rattle.sys_owners.proofs.Taking.{finish-last}
use Rattle.sys_owners.specs.Owned.{Owned, folds_in}

abbrev pub last : ℕ → List Written
last tx = in_rows (rows_records.Ended tx) ∷ []

-- both lead on
pub finish-folds : (w : Owned) (n : Managed) (s : Database) (tx : ℕ) (p : BranchPhase) (m : Moved) → FoldsTo w.manager n (manager_part tx p m (kept_in w.manager)) → CanEnd w.store.rows tx → s.rows ≡ with_ended w.store.rows tx
    → folds_on (Some (folds_in w)) (finish_records tx p m (kept_of (folds_in w))) ≡ Some (folds_in (with_store (with_manager w n) s))
finish-folds w n s tx p m leads can is =
    let g : Folds = folds_in (with_manager w n) in
    ap (folds_on (Some (folds_in w))) (finish-last tx p m (kept_of (folds_in w)))
    ∙ folds-then (folds_in w) g (manager_part tx p m (kept_in w.manager)) (last tx) (leads w.store.rows w.backups.backups)
    ∙ ap (with_rows g) can
    ∙ ap (λ (r : Commits). Some (record g { rows = r })) (sym is)

module _ (js ks : Journals) (tx : ℕ) (p : BranchPhase) (m : Moved) (k : Kept) (fault : Option AppendFault) (o e : Outside) where
  -- both are written
  pub finish-does : Does js ks (as_writes (manager_part tx p m k) ++ as_writes (last tx)) fault o e → Does js ks (as_writes (finish_records tx p m k)) fault o e
  finish-does = subst (λ (ws : List Write). Does js ks ws fault o e) (sym (ap as_writes (finish-last tx p m k) ∙ writes-append (manager_part tx p m k) (last tx)))
