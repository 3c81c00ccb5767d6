-- THE TABLES ARE BACKED UP: what the machine does and writes, and the engine behind it.
use Rattle.std.proofs.Common.{◌≡◌, ℕ, ◌+◌, ◌&&◌, List, [], ◌∷◌, ◌++◌, length, map, slice_get, Bool, true, false, not, cond, T, Option, Some, None, Ok, Err, refl, sym, ◌∙◌, ap, subst}
use Rattle.std.specs.Cmp.{nat_cmp_total}
use Rattle.std.specs.FinMap as maps
use Rattle.std.specs.FinMap.{entries_sorted, get-entries, nat_cmp-IsAntisymmetric}
use Rattle.std.specs.FinMap.Entries.{below_all, is_sorted, same_entries}
use Rattle.std.specs.List.{find}
use Rattle.std.specs.Option.{option_map}
use Rattle.std.specs.Ordering.{eq_by_cmp, is_lt, nat_cmp}
use Rattle.bk_backup.specs.Images.{record_of}
use Rattle.bk_backup.specs.Saved.{Saved, backup_write}
use Rattle.bk_backup.specs.Saved as backups_area
use Rattle.dl_areas.specs.Lists.{AreReady, Journals, Write, with_journal}
use Rattle.dl_areas.specs.Writing.{Ends, EndsAlone}
use Rattle.dl_base.specs.Outside.{Outside}
use Rattle.dl_base.specs.declared.answer.Answer.{Answer}
use Rattle.dl_base.specs.declared.answer.Answer.TheVariants as answers
use Rattle.dl_base.specs.declared.answer.Refusal.{Refusal}
use Rattle.dl_base.specs.declared.answer.Refusal.TheVariants as reasons
use Rattle.dl_base.specs.declared.area.Area.{Area}
use Rattle.dl_base.specs.declared.area.Area.TheVariants as areas
use Rattle.dl_base.specs.declared.fault.StepFault.{StepFault}
use Rattle.dl_base.specs.declared.step.Phase.{Phase}
use Rattle.dl_base.specs.declared.step.Step.TheVariants as steps
use Rattle.dl_base.specs.declared.value.LinkNo.{LinkNo}
use Rattle.dl_base.specs.declared.value.LinkRow.{LinkRow}
use Rattle.dl_codec.specs.Backups.{backup_record}
use Rattle.dl_codec.specs.declared.backups.BackupRecord.TheVariants as backup_records
use Rattle.fm_links.specs.Claims.{PathClaim}
use Rattle.fm_links.specs.Searching.{AreClaims}
use Rattle.fm_manager.specs.Managed.{AreSpelled, as_writes}
use Rattle.fm_manager.specs.Pieces.{Pieces}
use Rattle.fm_pieces.specs.Keeping.{HasPieces}
use Rattle.meaning_areas.specs.Commits.{Commit, tables_after}
use Rattle.meaning_areas.specs.Copies.{Backup, backups_step}
use Rattle.meaning_areas.specs.Lists.{Written, folds_on, in_backups, with_backups}
use Rattle.meaning_history.specs.Sound.{AreSound}
use Rattle.meaning_settling.specs.Keyed.{Keyed}
use Rattle.meaning_system.specs.Machine.{back_up, back_up_at, is_unfinished, pending, step, unfinished}
use Rattle.meaning_system.specs.State.{State, Txn, is_active, tables_of}
use Rattle.meaning_system.specs.Writes.{backup_writes, image_of, writes}
use Rattle.meaning_tables.specs.Tables.{Tables}
use Rattle.sys_core.proofs.Behind.{EachLeads, IsNoRestore, behind-sound}
use Rattle.sys_core.proofs.Commanding.{seated-same}
use Rattle.sys_core.proofs.Refused.{IsRefused}
use Rattle.sys_core.proofs.Seating.{PiecesStay, stage-phase}
use Rattle.sys_core.specs.Archiving.{first_link}
use Rattle.sys_core.specs.Claiming.{tables_in}
use Rattle.sys_core.specs.Seated.{AreSeated, IsSeat}
use Rattle.sys_core.specs.Standing.{IsOf}
use Rattle.sys_core.specs.Steps.{Steps, records_of}
use Rattle.sys_core.specs.declared.engine.Engine.{Engine}
use Rattle.sys_owners.specs.Owned.{Owned, folds_in, journals_of}
use Rattle.sys_records.proofs.Spelled.{as-spelled}
use Rattle.sys_seats.specs.Seats.{Seated, first_bound, phase_of, phases_in, unfinished_of}
use Rattle.sys_seats.specs.declared.seat.Seat.{Seat}

none_some : {A : Type 0} (x : A) → None ≡ Some x → ⊥
none_some x e = cc

-- THE LEAST NUMBER of a transaction that is prepared or decided: transactions and seats have the same phases under the same numbers

abbrev phases_of : List (ℕ × Txn) → List (ℕ × Phase)
phases_of es = map (λ e. (e.0, e.1.phase)) es

module _ {X : Type 0} (h : X → Phase) where
  abbrev phased : List (ℕ × X) → List (ℕ × Phase)
  phased es = map (λ e. (e.0, h e.1)) es

  below-phased : (k : ℕ) (es : List (ℕ × X)) → below_all nat_cmp k (phased es) ≡ below_all nat_cmp k es
  below-phased k [] = refl
  below-phased k (e ∷ es) = ap (λ (b : Bool). is_lt (nat_cmp k e.0) && b) (below-phased k es)

  sorted-phased : (es : List (ℕ × X)) → is_sorted nat_cmp (phased es) ≡ is_sorted nat_cmp es
  sorted-phased [] = refl
  sorted-phased (e ∷ es) = (λ i. below-phased e.0 es i && sorted-phased es i)

  find-phased : (q : ℕ) (es : List (ℕ × X)) → maps.find nat_cmp q (phased es) ≡ option_map h (maps.find nat_cmp q es)
  find-phased q [] = refl
  find-phased q (e ∷ es) = by (eq_by_cmp nat_cmp q e.0) (find-phased q es)
    where
      by : (b : Bool) → maps.find nat_cmp q (phased es) ≡ option_map h (maps.find nat_cmp q es) → cond b (Some (h e.1)) (maps.find nat_cmp q (phased es)) ≡ option_map h (cond b (Some e.1) (maps.find nat_cmp q es))
      by true rest = refl
      by false rest = rest

same-phase : (s : State) (q : ℕ) (o : Option Txn) (x : Option Seat) → IsSeat s q o x → option_map (λ (t : Txn). t.phase) o ≡ option_map (λ (y : Seat). phase_of y.stage) x
same-phase s q None None is = refl
same-phase s q None (Some x) is = absurd is
same-phase s q (Some t) None is = absurd is
same-phase s q (Some t) (Some x) is = ap (λ (p : Phase). Some p) (sym (stage-phase s q t x.stage is.stage))

same-phases : (s : State) (seats : Seated) → AreSeated s seats → phases_of (maps.entries s.txs) ≡ phases_in (maps.entries seats)
same-phases s seats are =
    same_entries nat_cmp nat_cmp_total nat_cmp-IsAntisymmetric (phases_of (maps.entries s.txs)) (phases_in (maps.entries seats))
    (subst T (sym (sorted-phased (λ (t : Txn). t.phase) (maps.entries s.txs))) (entries_sorted s.txs))
    (subst T (sym (sorted-phased (λ (x : Seat). phase_of x.stage) (maps.entries seats))) (entries_sorted seats))
    (λ q.
    find-phased (λ (t : Txn). t.phase) q (maps.entries s.txs) ∙ ap (option_map (λ (t : Txn). t.phase)) (sym (get-entries s.txs q))
    ∙ same-phase s q (maps.get s.txs q) (maps.get seats q) (are q)
    ∙ ap (option_map (λ (x : Seat). phase_of x.stage)) (get-entries seats q) ∙ sym (find-phased (λ (x : Seat). phase_of x.stage) q (maps.entries seats)))

bound-found : (es : List (ℕ × Txn)) → option_map (λ (e : ℕ × Txn). e.0) (find is_unfinished es) ≡ first_bound (phases_of es)
bound-found [] = refl
bound-found (e ∷ es) = by (is_active e.1.phase) (bound-found es)
  where
    by : (b : Bool) → option_map (λ (x : ℕ × Txn). x.0) (find is_unfinished es) ≡ first_bound (phases_of es) → option_map (λ (x : ℕ × Txn). x.0) (cond (not b) (Some e) (find is_unfinished es)) ≡ cond b (first_bound (phases_of es)) (Some e.0)
    by true rest = rest
    by false rest = refl

pub unfinished-is : (s : State) (seats : Seated) → AreSeated s seats → unfinished_of seats ≡ option_map (λ (e : ℕ × Txn). e.0) (unfinished s)
unfolding unfinished_of
unfinished-is s seats are = sym (bound-found (maps.entries s.txs) ∙ ap first_bound (same-phases s seats are))

-- WHAT THE MACHINE DOES

-- the first of the pending links
pub first-is : (ls : List LinkRow) (numbers : List LinkNo) (o : Option LinkNo) → numbers ≡ map (λ (l : LinkRow). l.link) ls → o ≡ slice_get numbers 0 → o ≡ first_link ls
first-is [] numbers o are is = is ∙ ap (λ (ns : List LinkNo). slice_get ns 0) are
first-is (l ∷ ls) numbers o are is = is ∙ ap (λ (ns : List LinkNo). slice_get ns 0) are

none-pending : (ls : List LinkRow) → first_link ls ≡ None → ls ≡ []
none-pending [] e = refl
none-pending (l ∷ ls) e = absurd (none_some l.link (sym e))

some-pending : (ls : List LinkRow) (n : LinkNo) → first_link ls ≡ Some n → (l : LinkRow) × (rest : List LinkRow) × (ls ≡ l ∷ rest) × (l.link ≡ n)
some-pending [] n e = absurd (none_some n e)
some-pending (l ∷ ls) n e = (l, ls, refl, same l.link n e)
  where
    same : (a b : LinkNo) → Some a ≡ Some b → a ≡ b
    same a b e = cc

pub none-found : (o : Option (ℕ × Txn)) → option_map (λ (e : ℕ × Txn). e.0) o ≡ None → o ≡ None
none-found None e = refl
none-found (Some x) e = absurd (none_some x.0 (sym e))

some-found : (o : Option (ℕ × Txn)) (tx : ℕ) → option_map (λ (e : ℕ × Txn). e.0) o ≡ Some tx → (e : ℕ × Txn) × (o ≡ Some e) × (e.0 ≡ tx)
some-found None tx e = absurd (none_some tx e)
some-found (Some x) tx e = (x, refl, same x.0 tx e)
  where
    same : (a b : ℕ) → Some a ≡ Some b → a ≡ b
    same a b e = cc

module _ (s : State) where
  backup-refused : (why : Refusal) → step s steps.Backup ≡ (answers.Refused why, s) → IsRefused s steps.Backup why
  unfolding writes
  backup-refused why is = record { is = is; records = ap (λ (r : Answer × State). as_writes (backup_writes s r.0)) is }

  pub unfinished-refused : (tx : ℕ) → option_map (λ (e : ℕ × Txn). e.0) (unfinished s) ≡ Some tx → IsRefused s steps.Backup (reasons.Unfinished tx)
  unfolding step
  unfinished-refused tx some =
      let it = some-found (unfinished s) tx some in
      backup-refused (reasons.Unfinished tx) (ap (back_up s) it.1 ∙ ap (λ (n : ℕ). (answers.Refused (reasons.Unfinished n), s)) it.2)

  pub pending-refused : (n : LinkNo) → option_map (λ (e : ℕ × Txn). e.0) (unfinished s) ≡ None → first_link (pending s) ≡ Some n → IsRefused s steps.Backup (reasons.ArchivePending n)
  unfolding step
  pending-refused n none some =
      let it = some-pending (pending s) n some in
      backup-refused (reasons.ArchivePending n) (ap (back_up s) (none-found (unfinished s) none) ∙ ap (back_up_at s) it.2 ∙ ap (λ (m : LinkNo). (answers.Refused (reasons.ArchivePending m), s)) it.3)

  -- nothing refuses it
  pub lets : option_map (λ (e : ℕ × Txn). e.0) (unfinished s) ≡ None → first_link (pending s) ≡ None → (unfinished s ≡ None) × (pending s ≡ [])
  lets none nothing = (none-found (unfinished s) none, none-pending (pending s) nothing)

  abbrev pub backed : State
  backed = record s { backups = s.backups ++ record { commit = length s.commits; tables = tables_of s } ∷ [] }

  module _ (none : unfinished s ≡ None) (nothing : pending s ≡ []) where
    backed-step : step s steps.Backup ≡ (answers.BackedUp (length s.backups + 1), backed)
    unfolding step
    backed-step = ap (back_up s) none ∙ ap (back_up_at s) nothing

    backed-writes : writes s steps.Backup ≡ in_backups (backup_records.Backup (length s.backups + 1) (length s.commits) (map image_of (tables_of s))) ∷ []
    unfolding writes
    backed-writes = ap (λ (r : Answer × State). backup_writes s r.0) backed-step

no-backup : IsNoRestore steps.Backup
no-backup t e = cc

-- THE ENGINE BEHIND IT

abbrev pub ClaimsBackup : Type 0
ClaimsBackup = (claims : Keyed PathClaim) (s : State) → AreClaims claims s → AreClaims claims (step s steps.Backup).1

pub record Laws : Type 0 where
  pub leads : EachLeads
  pub claims : ClaimsBackup
  pub pieces : PiecesStay

abbrev with_saved : Owned → Saved → Owned
with_saved w d = record { store = w.store; manager = w.manager; backups = d }

backups-in : (w : Owned) (d : Saved) → with_journal (backups_area.extent d) (journals_of w) ≡ journals_of (with_saved w d)
backups-in w d = λ i a. each a i
  where
    each : (a : Area) → with_journal (backups_area.extent d) (journals_of w) a ≡ journals_of (with_saved w d) a
    each areas.Rows = refl
    each areas.Links = refl
    each areas.Files = refl
    each areas.Archive = refl
    each areas.Backups = refl

backups-ends : (w : Owned) (ws : List Write) (fault : Option StepFault) (o n : Outside) → AreReady (journals_of w) o → (d : Saved) → EndsAlone (backups_area.extent w.backups) (backups_area.extent d) ws fault o n → Ends (journals_of w) (journals_of (with_saved w d)) ws fault o n
backups-ends w ws fault o n ready d call = subst (λ (ks : Journals). Ends (journals_of w) ks ws fault o n) (backups-in w d) (call.ends (journals_of w) ready refl)

module _ (laws : Laws) (first : ℕ) (w : Engine) (s : State) (is : IsOf first w s) (none : unfinished s ≡ None) (nothing : pending s ≡ []) (tables : Tables) (committed : tables ≡ tables_in w) (commit : ℕ) (counted : commit ≡ length w.owners.store.rows.commits) where
  abbrev backups : List Backup
  backups = w.owners.backups.backups

  abbrev record_list : List Written
  record_list = in_backups (record_of backups commit tables) ∷ []

  commits : commit ≡ length s.commits
  commits = counted ∙ ap (λ (cs : List Commit). length cs) is.sound.follows.joint.commits

  same-tables : tables ≡ tables_of s
  same-tables = committed ∙ ap (λ (cs : List Commit). tables_after [] cs) is.sound.follows.joint.commits

  wrote : writes s steps.Backup ≡ record_list
  wrote = backed-writes s none nothing ∙ (λ i. in_backups (record_of (sym is.sound.follows.joint.backups i) (sym commits i) (sym same-tables i)) ∷ [])

  wrote-records : records_of s steps.Backup ≡ backup_write backups commit tables ∷ []
  wrote-records = ap as_writes wrote

  pub backup-spelled : backup_record.fits (record_of backups commit tables) → AreSpelled (writes s steps.Backup)
  backup-spelled fits = as-spelled (writes s steps.Backup) record_list wrote (fits, tt)

  module _ (d : Saved) (o n : Outside) (ready : AreReady (journals_of w.owners) o) where
    abbrev later : Engine
    later = record w { owners = with_saved w.owners d }

    ends-with : (fault : Option StepFault) → EndsAlone (backups_area.extent w.owners.backups) (backups_area.extent d) (backup_write backups commit tables ∷ []) fault o n → Ends (journals_of w.owners) (journals_of later.owners) (records_of s steps.Backup) fault o n
    ends-with fault call =
        subst (λ (ws : List Write). Ends (journals_of w.owners) (journals_of later.owners) ws fault o n) (sym wrote-records)
        (backups-ends w.owners (backup_write backups commit tables ∷ []) fault o n ready d call)

    module _ (taken : backups_step backups (record_of backups commit tables) ≡ Some d.backups) where
      is-behind : (step s steps.Backup).1 ≡ backed s
      is-behind = ap (λ (r : Answer × State). r.1) (backed-step s none nothing)

      sound : AreSound first (folds_in later.owners) (backed s)
      sound =
          behind-sound laws.leads first (folds_in w.owners) s steps.Backup is.sound is.few no-backup (folds_in later.owners) (backed s)
          (ap (folds_on (Some (folds_in w.owners))) wrote ∙ ap (with_backups (folds_in w.owners)) taken) is-behind

      keeps : (tx : ℕ) (v : Txn) (p : Option Pieces) → maps.get s.txs tx ≡ Some v → is_active v.phase ≡ false → HasPieces s tx v p → HasPieces (backed s) tx v p
      keeps tx v p at rests has =
          subst (λ (t : State). HasPieces t tx v p) is-behind
          (laws.pieces first (folds_in w.owners) s steps.Backup tx v p is.sound at rests (ap (λ (t : State). maps.get t.txs tx) is-behind ∙ at) has)

      backed-state : IsOf first later (backed s)
      backed-state = record {
        sound = sound;
        drawn = is.drawn;
        few = is.few;
        moment = is.moment;
        settings = is.settings;
        claims = subst (λ (t : State). AreClaims w.claims.claims t) is-behind (laws.claims w.claims.claims s is.claims);
        seats = seated-same s (backed s) w.seats refl keeps is.seats;
        room = record { commits = is.room.commits; copies = is.room.copies };
      }

      pub backs-up : (number : ℕ) → number ≡ length backups + 1 → EndsAlone (backups_area.extent w.owners.backups) (backups_area.extent d) (backup_write backups commit tables ∷ []) None o n
          → Steps first steps.Backup s w later (Ok (answers.BackedUp number)) o n
      backs-up number is_next call = record {
        answers = record {
          answer = ap (λ (k : ℕ). answers.BackedUp k) (is_next ∙ ap (λ (bs : List Backup). length bs + 1) is.sound.follows.joint.backups) ∙ sym (ap (λ (r : Answer × State). r.0) (backed-step s none nothing));
          state = subst (λ (t : State). IsOf first later t) (sym is-behind) backed-state;
        };
        memory = λ e. absurd cc;
        ends = ends-with None call;
      }

    pub not-backed-up : (fault : StepFault) → d ≡ w.owners.backups → EndsAlone (backups_area.extent w.owners.backups) (backups_area.extent d) (backup_write backups commit tables ∷ []) (Some fault) o n → Steps first steps.Backup s w later (Err fault) o n
    not-backed-up fault same call = record {
      answers = tt;
      memory = λ e. subst (λ (x : Saved). IsOf first (record w { owners = with_saved w.owners x }) s) (sym same) is;
      ends = ends-with (Some fault) call;
    }

-- refused: nothing is written
pub refused-spelled : (s : State) (why : Refusal) → IsRefused s steps.Backup why → AreSpelled (writes s steps.Backup)
unfolding writes
refused-spelled s why refused = subst (λ (r : Answer × State). AreSpelled (backup_writes s r.0)) (sym refused.is) tt
