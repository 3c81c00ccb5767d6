-- RECORDS THAT ARE WRITTEN ONE AFTER ANOTHER: what the lists stand for as long as one of them is not there.
use Rattle.std.proofs.Common.{◌≡◌, ℕ, List, [], ◌∷◌, ◌++◌, Bool, true, false, ◌||◌, cond, Option, Some, None, refl, sym, ◌∙◌, ap, subst}
use Rattle.std.specs.FinMap as maps
use Rattle.std.specs.List.{cons_option, filter_map}
use Rattle.dl_base.specs.declared.file.File.{File}
use Rattle.dl_base.specs.declared.file.FileChange.{FileChange}
use Rattle.dl_base.specs.declared.value.LinkRow.{LinkRow}
use Rattle.dl_codec.specs.declared.archive.ArchiveRecord.TheVariants as archive_records
use Rattle.dl_codec.specs.declared.links.BranchPhase.TheVariants as branch_phases
use Rattle.dl_codec.specs.declared.links.LinksRecord.TheVariants as links_records
use Rattle.dl_codec.specs.declared.rows.RowsRecord.TheVariants as rows_records
use Rattle.meaning_areas.specs.Finishing.{batch_changes, batch_of, copy_by, copy_records, file_copy, finish_records}
use Rattle.meaning_areas.specs.Lists.{Folds, Written, folds_on, in_archive, in_links, in_rows}
use Rattle.meaning_areas.specs.Stands.{IsStand, Stored}
use Rattle.meaning_opening.specs.Fronts.{FrontsStand}
use Rattle.meaning_settling.specs.Settling.{Copy, Kept, Moved, link_key}
use Rattle.meaning_system.specs.State.{State, stored}
use Rattle.sys_recovery.specs.Left.{has_commit, is_commit}

-- AS LONG AS A RECORD IS NOT THERE the lists stand for what goes with those that are
abbrev pub Holds : Folds → List Written → (List Written → Stored) → Type 0
Holds f xs y = (front rest : List Written) (w : Written) → front ++ w ∷ rest ≡ xs → (later : Folds) × (folds_on (Some f) front ≡ Some later) × IsStand later (y front)

-- AT MOST ONE RECORD
abbrev pub IsOne : List Written → Type 0
IsOne [] = Unit {0}
IsOne (x ∷ []) = Unit {0}
IsOne (x ∷ y ∷ more) = ⊥

-- before one of at most one record there is none
pub no-front : (front rest : List Written) (w : Written) (xs : List Written) → IsOne xs → front ++ w ∷ rest ≡ xs → [] ≡ front
no-front [] rest w xs one is = refl
no-front (x ∷ []) rest w xs one is = absurd (subst (λ (ys : List Written). IsOne ys) (sym is) one)
no-front (x ∷ y ∷ more) rest w xs one is = absurd (subst (λ (ys : List Written). IsOne ys) (sym is) one)

pub one-holds : (f : Folds) (xs : List Written) (y : List Written → Stored) → IsStand f (y []) → IsOne xs → Holds f xs y
one-holds f xs y stand one front rest w is =
    subst (λ (zs : List Written). (later : Folds) × (folds_on (Some f) zs ≡ Some later) × IsStand later (y zs)) (no-front front rest w xs one is) (f, refl, stand)

-- NO RECORD OF A FINISH IS A COMMIT
pub none-more : (xs ys : List Written) → has_commit xs ≡ false → has_commit ys ≡ false → has_commit (xs ++ ys) ≡ false
none-more [] ys first rest = rest
none-more (x ∷ xs) ys first rest = by (is_commit x) (λ e. none-more xs ys e rest) first
  where
    by : (b : Bool) → (has_commit xs ≡ false → has_commit (xs ++ ys) ≡ false) → (b || has_commit xs) ≡ false → (b || has_commit (xs ++ ys)) ≡ false
    by true more e = e
    by false more e = more e

pub none-less : (xs ys : List Written) → has_commit (xs ++ ys) ≡ false → has_commit xs ≡ false
none-less [] ys none = refl
none-less (x ∷ xs) ys none = by (is_commit x) (none-less xs ys) none
  where
    by : (b : Bool) → (has_commit (xs ++ ys) ≡ false → has_commit xs ≡ false) → (b || has_commit (xs ++ ys)) ≡ false → (b || has_commit xs) ≡ false
    by true less e = e
    by false less e = less e

copy-none : (g : LinkRow) (o : Option Copy) (f : Option File) (more : List Written) → has_commit more ≡ false → has_commit (cons_option (copy_by g o f) more) ≡ false
copy-none g (Some c) f more none = none
copy-none g None None more none = none
copy-none g None (Some f) more none = by g.options.recovery
  where
    by : (b : Bool) → has_commit (cons_option (cond b (Some (in_archive (archive_records.Copy (file_copy g f)))) None) more) ≡ false
    by true = none
    by false = none

copies-none : (k : Kept) (gs : List LinkRow) → has_commit (filter_map (λ g. copy_by g (maps.get k.copies (link_key g.link)) (maps.get k.files g.path)) gs) ≡ false
copies-none k [] = refl
copies-none k (g ∷ gs) = copy-none g (maps.get k.copies (link_key g.link)) (maps.get k.files g.path) (filter_map (λ h. copy_by h (maps.get k.copies (link_key h.link)) (maps.get k.files h.path)) gs) (copies-none k gs)

batch-none : (tx : ℕ) (cs : List FileChange) → has_commit (batch_of tx cs) ≡ false
batch-none tx [] = refl
batch-none tx (c ∷ cs) = refl

pub finish-none : (tx : ℕ) (m : Moved) (k : Kept) → has_commit (finish_records tx branch_phases.Prepared m k) ≡ false
finish-none tx m k = none-more (copy_records m k ++ batch_of tx (batch_changes m k)) (in_links (links_records.Done tx) ∷ in_rows (rows_records.Ended tx) ∷ [])
    (none-more (copy_records m k) (batch_of tx (batch_changes m k)) (copies-none k m.gives) (batch-none tx (batch_changes m k))) refl

-- the records of a Finish, each front of which stands for one
pub finish-holds : (f : Folds) (tx : ℕ) (m : Moved) (k : Kept) (s behind : State) → FrontsStand f (finish_records tx branch_phases.Prepared m k) (stored s) → Holds f (finish_records tx branch_phases.Prepared m k) (λ front. stored (cond (has_commit front) behind s))
finish-holds f tx m k s behind fronts front rest w is =
    let on = fronts front (w ∷ rest) is in
    (on.0, on.1, subst (λ (b : Bool). IsStand on.0 (stored (cond b behind s))) (sym (none-less front (w ∷ rest) (ap has_commit is ∙ finish-none tx m k))) on.2)
