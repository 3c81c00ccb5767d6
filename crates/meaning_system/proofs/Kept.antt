-- Each step keeps the invariants of states: claims, and the transactions of sessions.
use Rattle.std.proofs.Common.{◌≡◌, ◌≢◌, ⊎_elim, ℕ, ◌+◌, ◌*◌, ◌/◌, ◌^◌, ◌<◌, ◌≤◌, List, [], ◌∷◌, ◌++◌, filter, length, Bool, true, false, not, cond, ◌==◌, ◌&&◌, Option, Some, None, refl, sym, ◌∙◌, ap, subst, arith}
use Rattle.std.proofs.lemmas.Bool.{cases_eq}
use Rattle.std.specs.Cmp.{nat_cmp_total, unsigned_tied}
use Rattle.std.specs.Cmp.Lexicographic.{pointwise, pointwise_decides}
use Rattle.std.specs.FinMap as maps
use Rattle.std.specs.FinMap.{get-empty, get-remove, get-retain_keys, nat_cmp-IsAntisymmetric}
use Rattle.std.specs.List.{find}
use Rattle.std.specs.Ordering.{nat_cmp}
use Rattle.std.specs.declared.cmp.Ordering.TheVariants.{Equal}
use Rattle.dl_base.specs.declared.answer.Answer.TheVariants as answers
use Rattle.dl_base.specs.declared.answer.FileRefusal.{FileRefusal}
use Rattle.dl_base.specs.declared.answer.Refusal.{Refusal}
use Rattle.dl_base.specs.declared.file.File.{File}
use Rattle.dl_base.specs.declared.file.FileCmd.{FileCmd}
use Rattle.dl_base.specs.declared.statement.Stmt.{Stmt}
use Rattle.dl_base.specs.declared.step.Phase.{Phase}
use Rattle.dl_base.specs.declared.step.Phase.TheVariants as phases
use Rattle.dl_base.specs.declared.step.Settings.{Settings}
use Rattle.dl_base.specs.declared.step.Step.{Step}
use Rattle.dl_base.specs.declared.step.Step.TheVariants as steps
use Rattle.dl_base.specs.declared.step.Target.{Target}
use Rattle.dl_base.specs.declared.value.LinkNo.{LinkNo}
use Rattle.dl_base.specs.declared.value.LinkRow.{LinkRow}
use Rattle.meaning_areas.specs.Commits.{Commit}
use Rattle.meaning_areas.specs.Copies.{Backup}
use Rattle.meaning_areas.specs.Same.{same_link, same_tables}
use Rattle.meaning_areas.specs.Stands.{Stored}
use Rattle.meaning_areas.proofs.Equal.{row-link-decides}
use Rattle.meaning_areas.proofs.Tables.{get-here, get-there, not_none, some_same, test-other, test-same}
use Rattle.meaning_files.specs.Commands.{changed as changed_by}
use Rattle.meaning_files.specs.Files.{Files}
use Rattle.meaning_merge.specs.Restoring.{in_the_way}
use Rattle.meaning_settling.specs.Keyed.{is_at}
use Rattle.meaning_settling.specs.Settling.{Copies, Moved, copy_of, link_key}
use Rattle.meaning_tables.specs.Links.{gives, takes}
use Rattle.meaning_tables.specs.Tables.{Tables}
use Rattle.meaning_system.specs.Claims.{by_evaluated, claim_refusal, claimed, conflict, first_seen, prepare_refusal, same_moved, statement, with_names}
use Rattle.meaning_system.specs.Commands.{command_refusal}
use Rattle.meaning_system.specs.CoreOf.{HasClaims, IsLive, Seen}
use Rattle.meaning_system.specs.Following.{AreInSessions, HasSessions}
use Rattle.meaning_system.specs.Machine.{archive, archive_file, archive_on, back_up, back_up_at, begin, begun, by_conflict, by_refusal, committed, crash_database, drawing, drop_all, drop_left, finish_all, finish_left, first_session, is_bound, is_left_in, lost_to, new_txn, on_session, on_txn, pending, resolve, restore, restore_at, restore_found, restore_idle, restore_to, restored_state, settled_by, start, step, target_tables, unfinished, voted, with_phase}
use Rattle.meaning_system.specs.Sql.{Evaluated, evaluated, named_by}
use Rattle.meaning_system.specs.State.{State, Txn, context_of, ended, is_active, is_decided, is_prepared, moved_of, number_of, numbered_txn, tables_of, txn_at, txn_of, with_txn, without_txn}
use Rattle.meaning_system.proofs.Leading.{txn-there}
use Rattle.meaning_system.proofs.Resolved.{finish-all-was, gone-at, gone-was}
use Rattle.meaning_system.proofs.Stepping.{begun-moved}

-- CLAIMS

-- where openings of Links and the transactions are the same, or fewer
claims-fewer : (s later : State) → HasClaims s → later.links_opening ≡ s.links_opening → ((q : ℕ) (t : Txn) → maps.get later.txs q ≡ Some t → maps.get s.txs q ≡ Some t) → HasClaims later
claims-fewer s later claims opening was = record {
  live = λ q t at. claims.live q t (was q t at);
  seen = λ q t at. subst (λ (n : ℕ). Seen t.seen n (moved_of t)) (sym opening) (claims.seen q t (was q t at));
}

-- one transaction put
pub put-was : (s : State) (tx : ℕ) (t : Txn) (q : ℕ) (x : Txn) → maps.get (maps.insert s.txs tx t) q ≡ Some x → (P : Txn → Type 0) → P t → (maps.get s.txs q ≡ Some x → P x) → P x
put-was s tx t q x at P here there = ⊎_elim
    (λ (e : q ≡ tx). subst P (some_same t x (sym (get-here s.txs tx t) ∙ ap (maps.get (maps.insert s.txs tx t)) (sym e) ∙ at)) here)
    (λ (other : q ≢ tx). there (sym (get-there s.txs tx t q other) ∙ at))
    (cases_eq q tx)

claims-put : (s : State) (tx : ℕ) (t : Txn) → HasClaims s → IsLive t.phase → Seen t.seen s.links_opening (moved_of t) → HasClaims (with_txn s tx t)
claims-put s tx t claims live seen = record {
  live = λ q x at. put-was s tx t q x at (λ y. IsLive y.phase) live (λ was. claims.live q x was);
  seen = λ q x at. put-was s tx t q x at (λ y. Seen y.seen s.links_opening (moved_of y)) seen (λ was. claims.seen q x was);
}

-- a statement

pub moved-same : (a b : Txn) → same_moved (moved_of a) (moved_of b) ≡ true → moved_of b ≡ moved_of a
moved-same a b e =
    let two = both (pointwise same_link (moved_of a).gives (moved_of b).gives) (pointwise same_link (moved_of a).takes (moved_of b).takes) e in
    λ i. record { gives = sym ((pointwise_decides row-link-decides (moved_of a).gives (moved_of b).gives).0 two.0) i; takes = sym ((pointwise_decides row-link-decides (moved_of a).takes (moved_of b).takes).0 two.1) i; fill = false }
  where
    both : (a b : Bool) → (a && b) ≡ true → (a ≡ true) × (b ≡ true)
    both true b e = (refl, e)
    both false b e = absurd cc

le_self : (n : ℕ) → n ≤ n
le_self n = omega arith

now-seen : (seen : Option ℕ) (now : ℕ) (before m : Moved) → Seen seen now before → Seen (first_seen seen now) now m
now-seen None now before m was = le_self now
now-seen (Some n) now before m was = was

abbrev StillSeen : State → Txn → Txn → Type 0
StillSeen s before after = (after.phase ≡ before.phase) × Seen after.seen s.links_opening (moved_of after)

-- the transaction after what is evaluated
abbrev pub made_by : Txn → Evaluated → Txn
made_by t e = record t { copy = e.tables; next = e.next }

evaluated-seen : (s : State) (tx : ℕ) (t : Txn) (e : Evaluated) → Seen t.seen s.links_opening (moved_of t) → StillSeen s t (by_evaluated s tx t e).1
evaluated-seen s tx t e seen = by e.refused (same_moved (moved_of t) (moved_of (made_by t e))) refl
  where
    claim : (o : Option Refusal) → StillSeen s t (claimed s e.answer t (made_by t e) o).1
    claim (Some why) = (refl, seen)
    claim None = (refl, now-seen t.seen s.links_opening (moved_of t) (moved_of (made_by t e)) seen)

    by : (r m : Bool) → same_moved (moved_of t) (moved_of (made_by t e)) ≡ m → StillSeen s t (cond r (e.answer, t) (cond m (e.answer, (made_by t e)) (claimed s e.answer t (made_by t e) (claim_refusal s tx (made_by t e))))).1
    by true m is = (refl, seen)
    by false true is = (refl, subst (λ (x : Moved). Seen t.seen s.links_opening x) (sym (moved-same t (made_by t e) is)) seen)
    by false false is = claim (claim_refusal s tx (made_by t e))

pub statement-seen : (s : State) (tx : ℕ) (t : Txn) (stmt : Stmt) → Seen t.seen s.links_opening (moved_of t) → StillSeen s t (statement s tx t stmt).1
statement-seen s tx t stmt seen = evaluated-seen s tx (record t { named = with_names t.named (named_by stmt) }) (evaluated t.copy stmt (context_of s tx) t.next) seen

-- WHAT HOLDS BEHIND A STEP on a transaction of a session: it holds where nothing changes, and behind what the step does
module _ (P : State → Type 0) (s : State) (same : P s) (tx : ℕ) (t : Txn) where
  pub at-statement : (session : ℕ) (stmt : Stmt) (p : Phase) → P (with_txn s tx (statement s tx t stmt).1) → P (on_txn s (steps.Statement session stmt) tx t p).1
  at-statement session stmt phases.Active stated = stated
  at-statement session stmt phases.Prepared stated = same
  at-statement session stmt phases.Decided stated = same
  at-statement session stmt phases.Finished stated = same
  at-statement session stmt phases.Dropped stated = same

  pub at-prepare : (session : ℕ) (p : Phase) → P (with_txn s tx (with_phase t phases.Prepared)) → P (on_txn s (steps.Prepare session) tx t p).1
  at-prepare session phases.Active prepares = by (prepare_refusal s t)
    where
      by : (o : Option Refusal) → P (voted s tx t o).1
      by (Some why) = same
      by None = prepares
  at-prepare session phases.Prepared prepares = same
  at-prepare session phases.Decided prepares = same
  at-prepare session phases.Finished prepares = same
  at-prepare session phases.Dropped prepares = same

  pub at-decide : (session : ℕ) (p : Phase) → P (ended s session tx) → P (committed s tx t) → P (on_txn s (steps.Decide session) tx t p).1
  at-decide session phases.Active ends commits = same
  at-decide session phases.Prepared ends commits = by (same_tables t.base t.copy)
    where
      conflicts : (o : Option Refusal) → P (by_conflict s session tx t o).1
      conflicts (Some why) = ends
      conflicts None = commits

      by : (b : Bool) → P (cond b (answers.Done, ended s session tx) (by_conflict s session tx t (conflict t.base (tables_of s) t.named))).1
      by true = ends
      by false = conflicts (conflict t.base (tables_of s) t.named)
  at-decide session phases.Decided ends commits = same
  at-decide session phases.Finished ends commits = same
  at-decide session phases.Dropped ends commits = same

  pub at-finish : (session : ℕ) (p : Phase) → P (ended (settled_by s t) session tx) → P (on_txn s (steps.Finish session) tx t p).1
  at-finish session phases.Active finishes = same
  at-finish session phases.Prepared finishes = same
  at-finish session phases.Decided finishes = finishes
  at-finish session phases.Finished finishes = same
  at-finish session phases.Dropped finishes = same

  pub at-rollback : (session : ℕ) (p : Phase) → P (ended s session tx) → P (on_txn s (steps.Rollback session) tx t p).1
  at-rollback session phases.Active ends = ends
  at-rollback session phases.Prepared ends = ends
  at-rollback session phases.Decided ends = same
  at-rollback session phases.Finished ends = same
  at-rollback session phases.Dropped ends = same

-- a step on the transaction of a session, if it has one
pub with-session : (P : State → Type 0) (s : State) (session : ℕ) (asked : Step) → P s → ((tx : ℕ) (t : Txn) → maps.get s.txs tx ≡ Some t → maps.get s.sessions session ≡ Some tx → P (on_txn s asked tx t t.phase).1) → P (on_session s asked (txn_of s session)).1
with-session P s session asked same one = by (txn_of s session) refl
  where
    by : (o : Option (ℕ × Txn)) → txn_of s session ≡ o → P (on_session s asked o).1
    by None e = same
    by (Some x) e = let there = txn-there s (maps.get s.sessions session) x e in one x.0 x.1 there.0 there.1

module _ (s : State) (claims : HasClaims s) (tx : ℕ) (t : Txn) (at : maps.get s.txs tx ≡ Some t) where
  claims-ended : (later : State) (session : ℕ) → later.links_opening ≡ s.links_opening → later.txs ≡ s.txs → HasClaims (ended later session tx)
  claims-ended later session opening same = claims-fewer s (ended later session tx) claims opening
      (λ q x is. gone-was s tx q x (ap (λ (m : maps.FinMap nat_cmp Txn). maps.get (maps.remove m tx) q) (sym same) ∙ is))

  claims-phase : (p : Phase) → IsLive p → HasClaims (with_txn s tx (with_phase t p))
  claims-phase p live = claims-put s tx (with_phase t p) claims live (claims.seen tx t at)

  claims-committed : HasClaims (committed s tx t)
  claims-committed = let put = claims-phase phases.Decided tt in record { live = put.live; seen = put.seen }

  claims-stated : (stmt : Stmt) → HasClaims (with_txn s tx (statement s tx t stmt).1)
  claims-stated stmt =
      let after = statement-seen s tx t stmt (claims.seen tx t at) in
      claims-put s tx (statement s tx t stmt).1 claims (subst IsLive (sym after.0) (claims.live tx t at)) after.1

-- and behind file commands, Archive and Backup
module _ (P : State → Type 0) (s : State) (same : P s) where
  pub at-file : (cmd : FileCmd) → ((files : Files) → P (record s { files = files })) → P (by_refusal s cmd (command_refusal s cmd.user cmd.what)).1
  at-file cmd changed = by (command_refusal s cmd.user cmd.what)
    where
      by : (o : Option FileRefusal) → P (by_refusal s cmd o).1
      by (Some why) = same
      by None = changed (changed_by s.files cmd)

  pub at-archive : (n : LinkNo) → ((copies : Copies) → P (record s { copies = copies })) → P (archive s n).1
  at-archive n copied = by (find (λ l. is_at (link_key n) (link_key l.link)) (pending s))
    where
      with_file : (o : Option File) → P (archive_file s n o).1
      with_file None = same
      with_file (Some f) = copied (maps.insert s.copies (link_key n) (copy_of f))

      by : (o : Option LinkRow) → P (archive_on s n o).1
      by None = same
      by (Some l) = with_file (maps.get s.files l.path)

  pub at-backup : ((backups : List Backup) → P (record s { backups = backups })) → P (back_up s (unfinished s)).1
  at-backup backed_up = by (unfinished s)
    where
      at : (ls : List LinkRow) → P (back_up_at s ls).1
      at [] = backed_up (s.backups ++ record { commit = length s.commits; tables = tables_of s } ∷ [])
      at (l ∷ ls) = same

      by : (o : Option (ℕ × Txn)) → P (back_up s o).1
      by None = at (pending s)
      by (Some e) = same

  pub at-restore : (target : Target) → ((later : Tables) → P (restored_state s later)) → P (restore s target (first_session s)).1
  at-restore target restored = by (first_session s)
    where
      at : (tables : Tables) (o : Option (List ℕ)) → P (restore_at s tables o).1
      at tables (Some path) = same
      at tables None = restored (restore_to s tables)

      found : (o : Option Tables) → P (restore_found s target o).1
      found None = same
      found (Some tables) = at tables (in_the_way s.files s.copies (gives (tables_of s) tables) (filter (λ l. not (lost_to s tables l)) (takes (tables_of s) tables)))

      idle : (o : Option (ℕ × Txn)) → P (restore_idle s target o).1
      idle (Some e) = same
      idle None = found (target_tables s target)

      by : (o : Option ℕ) → P (restore s target o).1
      by (Some session) = same
      by None = idle (unfinished s)

-- CrashDatabase leaves fewer transactions
same-bound : (s : State) (q x : ℕ) → nat_cmp q x ≡ Equal → is_bound (maps.get s.txs x) ≡ is_bound (maps.get s.txs q)
same-bound s q x e = ap (λ (n : ℕ). is_bound (maps.get s.txs n)) (sym (nat_cmp-IsAntisymmetric q x e))

pub bound-was : (s : State) (q : ℕ) (t : Txn) → maps.get (crash_database s).txs q ≡ Some t → maps.get s.txs q ≡ Some t
bound-was s q t e = by (is_bound (maps.get s.txs q)) (sym (get-retain_keys s.txs (λ tx. is_bound (maps.get s.txs tx)) q (same-bound s q)) ∙ e)
  where
    by : (b : Bool) → cond b (maps.get s.txs q) None ≡ Some t → maps.get s.txs q ≡ Some t
    by true is = is
    by false is = absurd cc

-- Resolve too
drop-left-was : (s : State) (tx : ℕ) (o : Option Txn) (q : ℕ) (t : Txn) → maps.get (drop_left s tx o).txs q ≡ Some t → maps.get s.txs q ≡ Some t
drop-left-was s tx None q t e = e
drop-left-was s tx (Some x) q t e = by (is_left_in s is_prepared (tx, x)) e
  where
    by : (b : Bool) → maps.get (cond b (without_txn s tx) s).txs q ≡ Some t → maps.get s.txs q ≡ Some t
    by true is = gone-was s tx q t is
    by false is = is

pub drop-all-was : (txs : List ℕ) (s : State) (q : ℕ) (t : Txn) → maps.get (drop_all s txs).txs q ≡ Some t → maps.get s.txs q ≡ Some t
drop-all-was [] s q t e = e
drop-all-was (tx ∷ txs) s q t e = drop-left-was s tx (maps.get s.txs tx) q t (drop-all-was txs (drop_left s tx (maps.get s.txs tx)) q t e)

-- what dropping and finishing leave as it is
module _ {A : Type 0} (of : State → A) (dropped : (s : State) (tx : ℕ) → of (without_txn s tx) ≡ of s) where
  pub drop-all-same : (txs : List ℕ) (s : State) → of (drop_all s txs) ≡ of s
  drop-all-same [] s = refl
  drop-all-same (tx ∷ txs) s = drop-all-same txs (drop_left s tx (maps.get s.txs tx)) ∙ one (maps.get s.txs tx)
    where
      chosen : (b : Bool) → of (cond b (without_txn s tx) s) ≡ of s
      chosen true = dropped s tx
      chosen false = refl

      one : (o : Option Txn) → of (drop_left s tx o) ≡ of s
      one None = refl
      one (Some x) = chosen (is_left_in s is_prepared (tx, x))

  finish-all-same : ((s : State) (t : Txn) → of (settled_by s t) ≡ of s) → (cs : List Commit) (s : State) → of (finish_all s cs) ≡ of s
  finish-all-same settled [] s = refl
  finish-all-same settled (c ∷ cs) s = finish-all-same settled cs (finish_left s c.tx (maps.get s.txs c.tx)) ∙ one (maps.get s.txs c.tx)
    where
      chosen : (t : Txn) (b : Bool) → of (cond b (without_txn (settled_by s t) c.tx) s) ≡ of s
      chosen t true = dropped (settled_by s t) c.tx ∙ settled s t
      chosen t false = refl

      one : (o : Option Txn) → of (finish_left s c.tx o) ≡ of s
      one None = refl
      one (Some x) = chosen x (is_left_in s is_decided (c.tx, x))

pub resolve-same : {A : Type 0} (of : State → A) → ((s : State) (tx : ℕ) → of (without_txn s tx) ≡ of s) → ((s : State) (t : Txn) → of (settled_by s t) ≡ of s) → (s : State) → of (resolve s).1 ≡ of s
resolve-same of dropped settled s = drop-all-same of dropped (maps.keys s.txs) (finish_all s s.commits) ∙ finish-all-same of dropped settled s.commits s

more : (seen : Option ℕ) (now : ℕ) (m : Moved) → Seen seen now m → Seen seen (now + 1) m
more None now m is = is
more (Some n) now m le = later n now le
  where
    later : (a b : ℕ) → a ≤ b → a ≤ b + 1
    later a b x = omega arith

-- THE INVARIANT OF CLAIMS
pub claims-kept : (s : State) (x : Step) → HasClaims s → HasClaims (step s x).1
unfolding step
claims-kept s (steps.Begin session) claims = by (txn_of s session)
  where
    by : (o : Option (ℕ × Txn)) → HasClaims (begin s session o).1
    by (Some e) = claims
    by None =
        let put = claims-put (drawing s) (number_of (drawing s)) (new_txn (tables_of s)) (record { live = claims.live; seen = claims.seen }) tt (begun-moved (tables_of s)) in
        record { live = put.live; seen = put.seen }
claims-kept s (steps.Statement session stmt) claims = with-session HasClaims s session (steps.Statement session stmt) claims (λ tx t at of. at-statement HasClaims s claims tx t session stmt t.phase (claims-stated s claims tx t at stmt))
claims-kept s (steps.Prepare session) claims = with-session HasClaims s session (steps.Prepare session) claims (λ tx t at of. at-prepare HasClaims s claims tx t session t.phase (claims-phase s claims tx t at phases.Prepared tt))
claims-kept s (steps.Decide session) claims = with-session HasClaims s session (steps.Decide session) claims
    (λ tx t at of. at-decide HasClaims s claims tx t session t.phase (claims-ended s claims tx t at s session refl refl) (claims-committed s claims tx t at))
claims-kept s (steps.Finish session) claims = with-session HasClaims s session (steps.Finish session) claims (λ tx t at of. at-finish HasClaims s claims tx t session t.phase (claims-ended s claims tx t at (settled_by s t) session refl refl))
claims-kept s (steps.Rollback session) claims = with-session HasClaims s session (steps.Rollback session) claims (λ tx t at of. at-rollback HasClaims s claims tx t session t.phase (claims-ended s claims tx t at s session refl refl))
claims-kept s (steps.File cmd) claims = at-file HasClaims s claims cmd (λ files. record { live = claims.live; seen = claims.seen })
claims-kept s (steps.Archive n) claims = at-archive HasClaims s claims n (λ copies. record { live = claims.live; seen = claims.seen })
claims-kept s steps.Backup claims = at-backup HasClaims s claims (λ backups. record { live = claims.live; seen = claims.seen })
claims-kept s (steps.Restore target) claims = at-restore HasClaims s claims target (λ later. record { live = claims.live; seen = claims.seen })
claims-kept s (steps.Tick n) claims = record { live = claims.live; seen = claims.seen }
claims-kept s steps.CrashManager claims = record { live = claims.live; seen = λ q t at. more t.seen s.links_opening (moved_of t) (claims.seen q t at) }
claims-kept s steps.CrashDatabase claims = claims-fewer s (crash_database s) claims refl (bound-was s)
claims-kept s steps.Resolve claims = claims-fewer s (resolve s).1 claims (resolve-same (λ (x : State). x.links_opening) (λ x tx. refl) (λ x t. refl) s)
    (λ q t at. finish-all-was s.commits s q t (drop-all-was (maps.keys s.txs) (finish_all s s.commits) q t at))

-- SESSIONS: their transactions are of the present opening

sessions-fewer : (s later : State) → HasSessions s → later.rows_opening ≡ s.rows_opening → later.drawn ≡ s.drawn → ((q tx : ℕ) → maps.get later.sessions q ≡ Some tx → maps.get s.sessions q ≡ Some tx) → HasSessions later
sessions-fewer s later has opening drawn was = record {
  present = λ q tx at. has.present q tx (was q tx at) ∙ sym opening;
  few = subst (λ (n : ℕ). n < 2 ^ 32) (sym drawn) has.few;
}

session-was : (m : maps.FinMap nat_cmp ℕ) (session q tx : ℕ) → maps.get (maps.remove m session) q ≡ Some tx → maps.get m q ≡ Some tx
session-was m session q tx e = by (q == session) (sym (get-remove nat_cmp_total m session q ∙ ap (λ b. cond b None (maps.get m q)) (unsigned_tied q session)) ∙ e)
  where
    by : (b : Bool) → cond b None (maps.get m q) ≡ Some tx → maps.get m q ≡ Some tx
    by true is = absurd cc
    by false is = is

session-put : (s : State) (session tx : ℕ) → HasSessions s → tx / 2 ^ 32 ≡ s.rows_opening → (q x : ℕ) → maps.get (maps.insert s.sessions session tx) q ≡ Some x → x / 2 ^ 32 ≡ s.rows_opening
session-put s session tx has present q x at = ⊎_elim
    (λ (e : q ≡ session). subst (λ (n : ℕ). n / 2 ^ 32 ≡ s.rows_opening) (some_same tx x (sym (get-here s.sessions session tx) ∙ ap (maps.get (maps.insert s.sessions session tx)) (sym e) ∙ at)) present)
    (λ (other : q ≢ session). has.present q x (sym (get-there s.sessions session tx q other) ∙ at))
    (cases_eq q session)

pub number-present : (o d : ℕ) → d < 2 ^ 32 → (o * 2 ^ 32 + d) / 2 ^ 32 ≡ o
number-present o d lt = omega arith

none_some : {A : Type 0} (x : A) → None ≡ Some x → ⊥
none_some x e = cc

zero-less : 0 < 2 ^ 32
zero-less = omega arith

drawing-sessions : (s : State) (x : Step) → (s.drawn + 1 < 2 ^ 32) → HasSessions s → HasSessions (step s x).1
unfolding step
drawing-sessions s (steps.Begin session) small has = by (txn_of s session)
  where
    by : (o : Option (ℕ × Txn)) → HasSessions (begin s session o).1
    by (Some e) = has
    by None = record { present = session-put s session (number_of (drawing s)) has (number-present s.rows_opening (s.drawn + 1) small); few = small }
drawing-sessions s (steps.Statement session stmt) small has = with-session HasSessions s session (steps.Statement session stmt) has (λ tx t at of. at-statement HasSessions s has tx t session stmt t.phase (record { present = has.present; few = has.few }))
drawing-sessions s (steps.Prepare session) small has = with-session HasSessions s session (steps.Prepare session) has (λ tx t at of. at-prepare HasSessions s has tx t session t.phase (record { present = has.present; few = has.few }))
drawing-sessions s (steps.Decide session) small has = with-session HasSessions s session (steps.Decide session) has
    (λ tx t at of. at-decide HasSessions s has tx t session t.phase (sessions-fewer s (ended s session tx) has refl refl (session-was s.sessions session)) (record { present = has.present; few = has.few }))
drawing-sessions s (steps.Finish session) small has = with-session HasSessions s session (steps.Finish session) has
    (λ tx t at of. at-finish HasSessions s has tx t session t.phase (sessions-fewer s (ended (settled_by s t) session tx) has refl refl (session-was s.sessions session)))
drawing-sessions s (steps.Rollback session) small has = with-session HasSessions s session (steps.Rollback session) has
    (λ tx t at of. at-rollback HasSessions s has tx t session t.phase (sessions-fewer s (ended s session tx) has refl refl (session-was s.sessions session)))
drawing-sessions s (steps.File cmd) small has = at-file HasSessions s has cmd (λ files. record { present = has.present; few = has.few })
drawing-sessions s (steps.Archive n) small has = at-archive HasSessions s has n (λ copies. record { present = has.present; few = has.few })
drawing-sessions s steps.Backup small has = at-backup HasSessions s has (λ backups. record { present = has.present; few = has.few })
drawing-sessions s (steps.Restore target) small has = at-restore HasSessions s has target (λ later. record { present = has.present; few = small })
drawing-sessions s (steps.Tick n) small has = record { present = has.present; few = has.few }
drawing-sessions s steps.CrashManager small has = record { present = has.present; few = has.few }
drawing-sessions s steps.CrashDatabase small has = record { present = λ q tx at. absurd (none_some tx (sym (get-empty nat_cmp q) ∙ at)); few = zero-less }
drawing-sessions s steps.Resolve small has = sessions-fewer s (resolve s).1 has (resolve-same (λ (x : State). x.rows_opening) (λ x tx. refl) (λ x t. refl) s) (resolve-same (λ (x : State). x.drawn) (λ x tx. refl) (λ x t. refl) s)
    (λ q tx at. ap (λ (m : maps.FinMap nat_cmp ℕ). maps.get m q) (sym (resolve-same (λ (x : State). x.sessions) (λ x tx. refl) (λ x t. refl) s)) ∙ at)

-- THE INVARIANT OF SESSIONS, where the next number of the opening is below its bound
pub sessions-kept : (s : State) (x : Step) → HasSessions s → s.drawn + 1 < 2 ^ 32 → HasSessions (step s x).1
sessions-kept s x has small = drawing-sessions s x small has

-- ACTIVE TRANSACTIONS are those of sessions

in-sessions-ended : (s : State) (session tx : ℕ) → AreInSessions s → maps.get s.sessions session ≡ Some tx → AreInSessions (ended s session tx)
in-sessions-ended s session tx each its q t at live =
    let not_it : q ≢ tx = λ (e : q ≡ tx). absurd (not_none t (maps.get (maps.remove s.txs tx) q) at (gone-at s tx q ∙ ap (λ b. cond b None (maps.get s.txs q)) (test-same q tx e))) in
    let of = each q t (gone-was s tx q t at) live in
    let other : of.0 ≢ session = λ (e : of.0 ≡ session). not_it (some_same q tx (sym of.1 ∙ ap (maps.get s.sessions) e ∙ its)) in
    (of.0, get-remove nat_cmp_total s.sessions session of.0 ∙ ap (λ b. cond b None (maps.get s.sessions of.0)) (unsigned_tied of.0 session ∙ test-other of.0 session other) ∙ of.1)

in-sessions-put : (s : State) (tx : ℕ) (t later : Txn) → AreInSessions s → maps.get s.txs tx ≡ Some t → (is_active later.phase ≡ true → is_active t.phase ≡ true) → AreInSessions (with_txn s tx later)
in-sessions-put s tx t later each at was q x found live = ⊎_elim
    (λ (e : q ≡ tx).
    let same : later ≡ x = some_same later x (sym (get-here s.txs tx later) ∙ ap (maps.get (maps.insert s.txs tx later)) (sym e) ∙ found) in
    let of = each tx t at (was (ap (λ (y : Txn). is_active y.phase) same ∙ live)) in
    (of.0, of.1 ∙ ap (λ (n : ℕ). Some n) (sym e)))
    (λ (other : q ≢ tx). each q x (sym (get-there s.txs tx later q other) ∙ found) live)
    (cases_eq q tx)

not-active : {P : Type 0} → false ≡ true → P
not-active e = absurd cc

-- a session that begins one had none
in-sessions-begun : (s : State) (session : ℕ) → AreInSessions s → txn_of s session ≡ None → AreInSessions (begun s session).1
in-sessions-begun s session each none q t at live = ⊎_elim
    (λ (e : q ≡ number_of (drawing s)). (session, get-here s.sessions session (number_of (drawing s)) ∙ ap (λ (n : ℕ). Some n) (sym e)))
    (λ (other : q ≢ number_of (drawing s)).
    let was : maps.get s.txs q ≡ Some t = sym (get-there s.txs (number_of (drawing s)) (new_txn (tables_of s)) q other) ∙ at in
    let of = each q t was live in
    let another : of.0 ≢ session = λ (e : of.0 ≡ session).
    not_none (q, t) (txn_of s session) (ap (txn_at s) (ap (maps.get s.sessions) (sym e) ∙ of.1) ∙ ap (numbered_txn q) was) none in
    (of.0, get-there s.sessions session (number_of (drawing s)) of.0 another ∙ of.1))
    (cases_eq q (number_of (drawing s)))

pub in-sessions-kept : (s : State) (x : Step) → HasClaims s → AreInSessions s → AreInSessions (step s x).1
unfolding step
in-sessions-kept s (steps.Begin session) claims each = by (txn_of s session) refl
  where
    by : (o : Option (ℕ × Txn)) → txn_of s session ≡ o → AreInSessions (begin s session o).1
    by (Some e) is = each
    by None is = in-sessions-begun s session each is
in-sessions-kept s (steps.Statement session stmt) claims each = with-session AreInSessions s session (steps.Statement session stmt) each
    (λ tx t at of. at-statement AreInSessions s each tx t session stmt t.phase (in-sessions-put s tx t (statement s tx t stmt).1 each at (λ live. sym (ap is_active (statement-seen s tx t stmt (claims.seen tx t at)).0) ∙ live)))
in-sessions-kept s (steps.Prepare session) claims each = with-session AreInSessions s session (steps.Prepare session) each
    (λ tx t at of. at-prepare AreInSessions s each tx t session t.phase (in-sessions-put s tx t (with_phase t phases.Prepared) each at (λ live. not-active live)))
in-sessions-kept s (steps.Decide session) claims each = with-session AreInSessions s session (steps.Decide session) each
    (λ tx t at of. at-decide AreInSessions s each tx t session t.phase (in-sessions-ended s session tx each of) (in-sessions-put s tx t (with_phase t phases.Decided) each at (λ live. not-active live)))
in-sessions-kept s (steps.Finish session) claims each = with-session AreInSessions s session (steps.Finish session) each (λ tx t at of. at-finish AreInSessions s each tx t session t.phase (in-sessions-ended s session tx each of))
in-sessions-kept s (steps.Rollback session) claims each = with-session AreInSessions s session (steps.Rollback session) each (λ tx t at of. at-rollback AreInSessions s each tx t session t.phase (in-sessions-ended s session tx each of))
in-sessions-kept s (steps.File cmd) claims each = at-file AreInSessions s each cmd (λ files. each)
in-sessions-kept s (steps.Archive n) claims each = at-archive AreInSessions s each n (λ copies. each)
in-sessions-kept s steps.Backup claims each = at-backup AreInSessions s each (λ backups. each)
in-sessions-kept s (steps.Restore target) claims each = at-restore AreInSessions s each target (λ later. each)
in-sessions-kept s (steps.Tick n) claims each = each
in-sessions-kept s steps.CrashManager claims each = each
in-sessions-kept s steps.CrashDatabase claims each = λ q t at live. absurd (no-active q t at live)
  where
    bound : (q : ℕ) (t : Txn) → maps.get (crash_database s).txs q ≡ Some t → is_bound (maps.get s.txs q) ≡ true
    bound q t at = by (is_bound (maps.get s.txs q)) (sym (get-retain_keys s.txs (λ tx. is_bound (maps.get s.txs tx)) q (same-bound s q)) ∙ at)
      where
        by : (b : Bool) → cond b (maps.get s.txs q) None ≡ Some t → b ≡ true
        by true e = refl
        by false e = absurd cc

    not-true : (b : Bool) → not b ≡ true → b ≡ true → ⊥
    not-true true n e = not-active n
    not-true false n e = not-active e

    no-active : (q : ℕ) (t : Txn) → maps.get (crash_database s).txs q ≡ Some t → is_active t.phase ≡ true → ⊥
    no-active q t at live = not-true (is_active t.phase) (sym (ap is_bound (bound-was s q t at)) ∙ bound q t at) live
in-sessions-kept s steps.Resolve claims each = λ q t at live.
    let of = each q t (finish-all-was s.commits s q t (drop-all-was (maps.keys s.txs) (finish_all s s.commits) q t at)) live in
    (of.0, ap (λ (m : maps.FinMap nat_cmp ℕ). maps.get m of.0) (resolve-same (λ (x : State). x.sessions) (λ x tx. refl) (λ x t. refl) s) ∙ of.1)

-- a state with which a run begins has no transactions
pub start-has : (given : Settings) (x : Stored) → HasClaims (start given x) × HasSessions (start given x) × AreInSessions (start given x)
start-has given x = (
  record { live = λ q t at. absurd (none_some t (sym (get-empty nat_cmp q) ∙ at)); seen = λ q t at. absurd (none_some t (sym (get-empty nat_cmp q) ∙ at)) },
  record { present = λ q tx at. absurd (none_some tx (sym (get-empty nat_cmp q) ∙ at)); few = zero-less },
  λ q t at live. absurd (none_some t (sym (get-empty nat_cmp q) ∙ at)),
)
