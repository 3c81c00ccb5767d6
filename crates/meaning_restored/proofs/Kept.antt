-- Backups keep their numbers, and copies are only added.
use Rattle.std.proofs.Common.{◌≡◌, ℕ, zero, suc, List, [], ◌∷◌, ◌++◌, Bool, true, false, cond, slice_get, Option, Some, None, is_some, refl, ◌∙◌, ap}
use Rattle.std.specs.FinMap as maps
use Rattle.std.specs.List.{find}
use Rattle.dl_base.specs.declared.file.File.{File}
use Rattle.dl_base.specs.declared.step.Step.{Step}
use Rattle.dl_base.specs.declared.step.Step.TheVariants as steps
use Rattle.dl_base.specs.declared.step.Target.TheVariants as targets
use Rattle.dl_base.specs.declared.value.LinkNo.{LinkNo}
use Rattle.dl_base.specs.declared.value.LinkRow.{LinkRow}
use Rattle.meaning_areas.specs.Commits.{Commit}
use Rattle.meaning_areas.specs.Copies.{Backup}
use Rattle.meaning_files.specs.Files.{Files}
use Rattle.meaning_settling.specs.Keyed.{is_at}
use Rattle.meaning_settling.specs.Settling.{Copies, Copy, Moved, by_give, copy_of, link_key, numbered, settle_one}
use Rattle.meaning_settling.proofs.KeyedLaws.{false_true, get-put}
use Rattle.meaning_settling.proofs.PartLaws.{get-copies}
use Rattle.meaning_tables.specs.Tables.{Tables}
use Rattle.meaning_system.specs.Machine.{archive, archive_file, archive_on, back_up, back_up_at, begin, finish_all, finish_left, is_left_in, pending, resolve, restore_moved, settled_by, step, tables_in, target_tables, unfinished}
use Rattle.meaning_system.specs.State.{State, Txn, is_decided, kept_in, moved_of, txn_of, without_txn}
use Rattle.meaning_system.proofs.Kept.{at-decide, at-file, at-finish, at-prepare, at-restore, at-rollback, at-statement, drop-all-same, resolve-same, with-session}
use Rattle.meaning_restored.specs.Back.{IsComplete}

pub record Grows (s later : State) : Type 0 where
  pub backups : (n : ℕ) (b : Backup) → slice_get s.backups n ≡ Some b → slice_get later.backups n ≡ Some b
  pub copies : (k : List ℕ) → is_some (maps.get s.copies k) ≡ true → is_some (maps.get later.copies k) ≡ true

none_some : {A : Type 0} (x : A) → None ≡ Some x → ⊥
none_some x e = cc

-- settling leaves each copy

still : (files : Files) (g : Option LinkRow) (o : Option Copy) → is_some o ≡ true → is_some (by_give files g o) ≡ true
still files None o e = e
still files (Some g) None e = absurd (false_true e)
still files (Some g) (Some c) e = by g.options.recovery
  where
    by : (b : Bool) → is_some (cond b (Some c) (Some c)) ≡ true
    by true = refl
    by false = refl

pub settled-copies : (m : Moved) (s : State) (k : List ℕ) → is_some (maps.get s.copies k) ≡ true → is_some (maps.get (settle_one m (kept_in s)).copies k) ≡ true
settled-copies m s k e = ap is_some (get-copies m (kept_in s) k) ∙ still s.files (numbered m.gives k) (maps.get s.copies k) e

settled-grows : (s : State) (t : Txn) → Grows s (settled_by s t)
settled-grows s t = record { backups = λ n b e. e; copies = λ k e. settled-copies (moved_of t) s k e }

ended-grows : (s : State) (t : Txn) (later : State) → later.backups ≡ s.backups → later.copies ≡ (settled_by s t).copies → Grows s later
ended-grows s t later backups copies = record {
  backups = λ n b e. ap (λ (bs : List Backup). slice_get bs n) backups ∙ e;
  copies = λ k e. ap (λ (cs : Copies). is_some (maps.get cs k)) copies ∙ settled-copies (moved_of t) s k e;
}

grows-same : (s later : State) → later.backups ≡ s.backups → later.copies ≡ s.copies → Grows s later
grows-same s later backups copies = record {
  backups = λ n b e. ap (λ (bs : List Backup). slice_get bs n) backups ∙ e;
  copies = λ k e. ap (λ (cs : Copies). is_some (maps.get cs k)) copies ∙ e;
}

-- one more backup, and one more copy

more-backups : (bs : List Backup) (x : Backup) (n : ℕ) (b : Backup) → slice_get bs n ≡ Some b → slice_get (bs ++ x ∷ []) n ≡ Some b
more-backups [] x n b e = absurd (none_some b e)
more-backups (y ∷ ys) x zero b e = e
more-backups (y ∷ ys) x (suc n) b e = more-backups ys x n b e

backup-grows : (s : State) → Grows s (back_up s (unfinished s)).1
backup-grows s = by (unfinished s)
  where
    at : (ls : List LinkRow) → Grows s (back_up_at s ls).1
    at [] = record { backups = λ n b e. more-backups s.backups _ n b e; copies = λ k e. e }
    at (l ∷ ls) = grows-same s s refl refl

    by : (o : Option (ℕ × Txn)) → Grows s (back_up s o).1
    by None = at (pending s)
    by (Some e) = grows-same s s refl refl

archive-grows : (s : State) (n : LinkNo) → Grows s (archive s n).1
archive-grows s n = by (find (λ l. is_at (link_key n) (link_key l.link)) (pending s))
  where
    put : (c : Copy) (k : List ℕ) → is_some (maps.get s.copies k) ≡ true → is_some (maps.get (maps.insert s.copies (link_key n) c) k) ≡ true
    put c k e = ap is_some (get-put s.copies (link_key n) k (Some c)) ∙ there (is_at k (link_key n))
      where
        there : (b : Bool) → is_some (cond b (Some c) (maps.get s.copies k)) ≡ true
        there true = refl
        there false = e

    with_file : (o : Option File) → Grows s (archive_file s n o).1
    with_file None = grows-same s s refl refl
    with_file (Some f) = record { backups = λ m b e. e; copies = λ k e. put (copy_of f) k e }

    by : (o : Option LinkRow) → Grows s (archive_on s n o).1
    by None = grows-same s s refl refl
    by (Some l) = with_file (maps.get s.files l.path)

begin-grows : (s : State) (session : ℕ) → Grows s (begin s session (txn_of s session)).1
begin-grows s session = by (txn_of s session)
  where
    by : (o : Option (ℕ × Txn)) → Grows s (begin s session o).1
    by (Some e) = grows-same s s refl refl
    by None = grows-same s _ refl refl

-- Resolve

finish-copies : (cs : List Commit) (s : State) (k : List ℕ) → is_some (maps.get s.copies k) ≡ true → is_some (maps.get (finish_all s cs).copies k) ≡ true
finish-copies [] s k e = e
finish-copies (c ∷ cs) s k e = finish-copies cs (finish_left s c.tx (maps.get s.txs c.tx)) k (one (maps.get s.txs c.tx))
  where
    chosen : (t : Txn) (b : Bool) → is_some (maps.get (cond b (without_txn (settled_by s t) c.tx) s).copies k) ≡ true
    chosen t true = settled-copies (moved_of t) s k e
    chosen t false = e

    one : (o : Option Txn) → is_some (maps.get (finish_left s c.tx o).copies k) ≡ true
    one None = e
    one (Some t) = chosen t (is_left_in s is_decided (c.tx, t))

resolve-grows : (s : State) → Grows s (resolve s).1
resolve-grows s = record {
  backups = λ n b e. ap (λ (bs : List Backup). slice_get bs n) (resolve-same (λ (x : State). x.backups) (λ x tx. refl) (λ x t. refl) s) ∙ e;
  copies = λ k e. ap (λ (cs : Copies). is_some (maps.get cs k)) (drop-all-same (λ (x : State). x.copies) (λ x tx. refl) (maps.keys s.txs) (finish_all s s.commits)) ∙ finish-copies s.commits s k e;
}

-- EACH STEP
pub grows : (s : State) (x : Step) → Grows s (step s x).1
unfolding step
grows s (steps.Begin session) = begin-grows s session
grows s (steps.Statement session stmt) = with-session (Grows s) s session (steps.Statement session stmt) (grows-same s s refl refl) (λ tx t at of. at-statement (Grows s) s (grows-same s s refl refl) tx t session stmt t.phase (grows-same s _ refl refl))
grows s (steps.Prepare session) = with-session (Grows s) s session (steps.Prepare session) (grows-same s s refl refl) (λ tx t at of. at-prepare (Grows s) s (grows-same s s refl refl) tx t session t.phase (grows-same s _ refl refl))
grows s (steps.Decide session) = with-session (Grows s) s session (steps.Decide session) (grows-same s s refl refl) (λ tx t at of. at-decide (Grows s) s (grows-same s s refl refl) tx t session t.phase (grows-same s _ refl refl) (grows-same s _ refl refl))
grows s (steps.Finish session) = with-session (Grows s) s session (steps.Finish session) (grows-same s s refl refl) (λ tx t at of. at-finish (Grows s) s (grows-same s s refl refl) tx t session t.phase (ended-grows s t _ refl refl))
grows s (steps.Rollback session) = with-session (Grows s) s session (steps.Rollback session) (grows-same s s refl refl) (λ tx t at of. at-rollback (Grows s) s (grows-same s s refl refl) tx t session t.phase (grows-same s _ refl refl))
grows s (steps.File cmd) = at-file (Grows s) s (grows-same s s refl refl) cmd (λ files. grows-same s _ refl refl)
grows s (steps.Archive n) = archive-grows s n
grows s steps.Backup = backup-grows s
grows s (steps.Restore t) = at-restore (Grows s) s (grows-same s s refl refl) t (λ later. record { backups = λ n b e. e; copies = λ k e. settled-copies (restore_moved s later) s k e })
grows s (steps.Tick n) = grows-same s _ refl refl
grows s steps.CrashManager = grows-same s _ refl refl
grows s steps.CrashDatabase = grows-same s _ refl refl
grows s steps.Resolve = resolve-grows s

still-backup : (s later : State) → Grows s later → (n : ℕ) (ts : Tables) → target_tables s (targets.Backup n) ≡ Some ts → target_tables later (targets.Backup n) ≡ Some ts
still-backup s later more zero ts e = absurd (none_some ts e)
still-backup s later more (suc n) ts e = by (slice_get s.backups n) refl e
  where
    by : (o : Option Backup) → slice_get s.backups n ≡ o → tables_in o ≡ Some ts → tables_in (slice_get later.backups n) ≡ Some ts
    by None at is = absurd (none_some ts is)
    by (Some b) at is = ap tables_in (more.backups n b at) ∙ is

pub complete-kept : (s : State) (x : Step) (n : ℕ) (tables : Tables) → IsComplete s n tables → IsComplete (step s x).1 n tables
complete-kept s x n tables has = record {
  is = still-backup s (step s x).1 (grows s x) n tables has.is;
  copied = λ l there recovery. (grows s x).copies (link_key l.link) (has.copied l there recovery);
}
