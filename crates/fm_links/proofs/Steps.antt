-- What becomes of claims behind each step.
use Rattle.std.proofs.Common.{◌≡◌, ℕ, ◌+◌, ◌*◌, ◌^◌, ◌≤◌, List, Bool, true, false, not, cond, ◌==◌, ◌&&◌, Option, Some, None, refl, sym, ◌∙◌, ap, subst, arith}
use Rattle.std.proofs.lemmas.Bool.Decides.{nat_tests}
use Rattle.std.specs.FinMap as maps
use Rattle.std.specs.FinMap.{get-empty, get-retain_keys, nat_cmp-IsAntisymmetric}
use Rattle.std.specs.Ordering.{nat_cmp}
use Rattle.std.specs.Cmp.Lexicographic.{slice_cmp}
use Rattle.dl_base.specs.declared.answer.Answer.TheVariants as answers
use Rattle.dl_base.specs.declared.answer.Refusal.{Refusal}
use Rattle.dl_base.specs.declared.answer.Refusal.TheVariants as reasons
use Rattle.dl_base.specs.declared.file.FileCmd.{FileCmd}
use Rattle.dl_base.specs.declared.statement.Stmt.{Stmt}
use Rattle.dl_base.specs.declared.step.Phase.{Phase}
use Rattle.dl_base.specs.declared.step.Phase.TheVariants as phases
use Rattle.dl_base.specs.declared.step.Settings.{Settings}
use Rattle.dl_base.specs.declared.step.Step.TheVariants as steps
use Rattle.dl_base.specs.declared.step.Target.{Target}
use Rattle.dl_base.specs.declared.value.LinkNo.{LinkNo}
use Rattle.meaning_areas.proofs.Tables.{get-at}
use Rattle.meaning_areas.specs.Lists.{Folds}
use Rattle.meaning_areas.specs.Same.{same_tables}
use Rattle.meaning_areas.specs.Stands.{Stored}
use Rattle.meaning_settling.specs.Apart.{has_path}
use Rattle.meaning_settling.specs.Keyed.{Keyed}
use Rattle.meaning_settling.specs.Settling.{Moved}
use Rattle.meaning_system.proofs.Claiming.{leads-statement, or-none}
use Rattle.meaning_system.proofs.Cores.{no-links}
use Rattle.meaning_system.proofs.Kept.{at-archive, at-backup, at-file, at-restore, with-session}
use Rattle.meaning_system.proofs.Leading.{txn-there}
use Rattle.meaning_system.proofs.Resolved.{gone-at}
use Rattle.meaning_system.proofs.Stepping.{begun-moved}
use Rattle.meaning_system.specs.Claims.{claim_refusal, conflict, doomed, files_refusal, first_seen, or_else, prepare_refusal, seen_or_zero, statement}
use Rattle.meaning_system.specs.CoreOf.{IsLive, Seen, claimed_by}
use Rattle.meaning_system.specs.Machine.{begin, begun, by_conflict, committed, crash_database, crash_manager, drawing, is_bound, new_txn, on_session, on_txn, settled_by, start, step, voted, with_phase}
use Rattle.meaning_system.specs.State.{State, Txn, differs, ended, has_links, is_active, is_decided, is_doomed, moved_of, number_of, tables_of, txn_of, with_txn}
use Rattle.dl_base.specs.Answers.{is_committed}
use Rattle.meaning_history.specs.Sound.{AreSound}
use Rattle.fm_links.proofs.Behind.{gone-claims, put-claims, same-claims, staying-claims}
use Rattle.fm_links.proofs.Searching.{AreApart, are-apart, claim_in, of_it, only-claims, same-number}
use Rattle.fm_links.specs.Claims.{PathClaim, claim_by, without_claim}
use Rattle.fm_links.specs.Searching.{AreClaims}
use Rattle.fm_links.specs.Stepping.{claimed_in, replaced, staying, stays_bound, unless}

false_true : false ≡ true → ⊥
false_true e = cc

none_some : {A : Type 0} (x : A) → None ≡ Some x → ⊥
none_some x e = cc

-- THE START
pub start-claims : (given : Settings) (x : Stored) → AreClaims maps.empty (start given x)
start-claims given x = only-claims (start given x) maps.empty (λ p q. ap (claim_in (start given x) p q) (get-empty nat_cmp q) ∙ sym (ap (of_it q) (get-empty (slice_cmp nat_cmp) p)))

-- what a transaction claims, by what it moves
in-claimed : (s : State) (p : List ℕ) (q : ℕ) (t : Txn) → claim_in s p q (Some t) ≡ cond (has_path (claimed_in s t) p) (Some (claim_by q (claimed_in s t) p)) None
in-claimed s p q t = by (is_doomed s t)
  where
    by : (d : Bool) → cond (not d && has_path (moved_of t) p) (Some (claim_by q (moved_of t) p)) None ≡ cond (has_path (claimed_by d (moved_of t)) p) (Some (claim_by q (claimed_by d (moved_of t)) p)) None
    by true = refl
    by false = refl

-- one that is not active claims what it moves
pub bound-claimed : (s : State) (t : Txn) → is_active t.phase ≡ false → claimed_in s t ≡ moved_of t
bound-claimed s t rests = ap (λ b. claimed_by (b && differs t.seen s.links_opening) (moved_of t)) rests

-- and one whose claim is accepted
accepted-live : (s : State) (tx : ℕ) (after : Txn) → claim_refusal s tx after ≡ None → is_doomed s after ≡ false
accepted-live s tx after none = by (is_doomed s after) (or-none (doomed s after) _ none).0
  where
    by : (b : Bool) → cond b (Some (reasons.Doomed (seen_or_zero after.seen) s.links_opening)) None ≡ None → b ≡ false
    by true e = absurd (none_some (reasons.Doomed (seen_or_zero after.seen) s.links_opening) (sym e))
    by false e = refl

pub accepted-claimed : (s : State) (tx : ℕ) (after : Txn) → claim_refusal s tx after ≡ None → (claimed_in s after ≡ moved_of after) × (claimed_in s (record after { seen = first_seen after.seen s.links_opening }) ≡ moved_of after)
accepted-claimed s tx after none = (ap (λ b. claimed_by b (moved_of after)) live, ap (λ b. claimed_by b (moved_of after)) (by after.seen live))
  where
    live : is_doomed s after ≡ false
    live = accepted-live s tx after none

    and-false : (b : Bool) → (b && false) ≡ false
    and-false true = refl
    and-false false = refl

    now : (n : ℕ) → not (n == n) ≡ false
    now n = grind (arith, nat_tests)

    by : (o : Option ℕ) → (is_active after.phase && differs o s.links_opening) ≡ false → (is_active after.phase && differs (first_seen o s.links_opening) s.links_opening) ≡ false
    by None e = ap (λ b. is_active after.phase && b) (now s.links_opening) ∙ and-false (is_active after.phase)
    by (Some n) e = e

-- STEPS THAT TOUCH NO TRANSACTION
module _ (claims : Keyed PathClaim) (s : State) where
  pub file-claims : (cmd : FileCmd) → AreClaims claims s → AreClaims claims (step s (steps.File cmd)).1
  unfolding step
  file-claims cmd are = at-file (AreClaims claims) s are cmd (λ files. are)

  pub archive-claims : (n : LinkNo) → AreClaims claims s → AreClaims claims (step s (steps.Archive n)).1
  unfolding step
  archive-claims n are = at-archive (AreClaims claims) s are n (λ copies. are)

  pub backup-claims : AreClaims claims s → AreClaims claims (step s steps.Backup).1
  unfolding step
  backup-claims are = at-backup (AreClaims claims) s are (λ backups. are)

  pub restore-claims : (target : Target) → AreClaims claims s → AreClaims claims (step s (steps.Restore target)).1
  unfolding step
  restore-claims target are = at-restore (AreClaims claims) s are target (λ later. are)

  pub tick-claims : (n : ℕ) → AreClaims claims s → AreClaims claims (step s (steps.Tick n)).1
  unfolding step
  tick-claims n are = are

module _ (first : ℕ) (f : Folds) (s : State) (sound : AreSound first f s) (claims : Keyed PathClaim) (are : AreClaims claims s) where
  apart : AreApart s
  apart = are-apart f s sound.follows.joint

  -- BEGIN
  pub begin-claims : (session : ℕ) → AreClaims claims (step s (steps.Begin session)).1
  unfolding step
  begin-claims session = by (txn_of s session)
    where
      new : Txn
      new = new_txn (tables_of s)

      empty : (p : List ℕ) (q : ℕ) → claim_in (begun s session).1 p q (Some (new_txn (tables_of s))) ≡ None
      empty p q = ap (λ (m : Moved). cond (has_path m p) (Some (claim_by q (moved_of (new_txn (tables_of s))) p)) None) (begun-moved (tables_of s))

      not-drawn : (a b o d : ℕ) → a ≤ o * 2 ^ 32 + d → a ≡ b → b ≡ o * 2 ^ 32 + (d + 1) → ⊥
      not-drawn a b o d le e n = omega (arith, le, e, n)

      unused : (p : List ℕ) (q : ℕ) → q ≡ number_of (drawing s) → (o : Option Txn) → maps.get s.txs q ≡ o → claim_in s p q o ≡ None
      unused p q is None at = refl
      unused p q is (Some t) at = absurd (not-drawn q (number_of (drawing s)) s.rows_opening s.drawn (sound.history.numbers q t at) is refl)

      alike : (p : List ℕ) (q : ℕ) (o : Option Txn) → claim_in (begun s session).1 p q o ≡ claim_in s p q o
      alike p q None = refl
      alike p q (Some t) = refl

      put : (p : List ℕ) (q : ℕ) (b : Bool) → (q == number_of (drawing s)) ≡ b → claim_in (begun s session).1 p q (cond b (Some (new_txn (tables_of s))) (maps.get s.txs q)) ≡ claim_in s p q (maps.get s.txs q)
      put p q true is = empty p q ∙ sym (unused p q (same-number q (number_of (drawing s)) is) (maps.get s.txs q) refl)
      put p q false is = alike p q (maps.get s.txs q)

      by : (o : Option (ℕ × Txn)) → AreClaims claims (begin s session o).1
      by (Some e) = are
      by None = same-claims s (begun s session).1 claims apart are (λ p q.
          ap (claim_in (begun s session).1 p q) (get-at s.txs (number_of (drawing s)) (new_txn (tables_of s)) q) ∙ put p q (q == number_of (drawing s)) refl)

  module _ (session tx : ℕ) (t : Txn) (of : txn_of s session ≡ Some (tx, t)) where
    found : maps.get s.txs tx ≡ Some t
    found = (txn-there s (maps.get s.sessions session) (tx, t) of).0

    -- STATEMENT
    module _ (stmt : Stmt) (is : t.phase ≡ phases.Active) where
      stated-state : (step s (steps.Statement session stmt)).1 ≡ with_txn s tx (statement s tx t stmt).1
      unfolding step
      stated-state = ap (λ (o : Option (ℕ × Txn)). (on_session s (steps.Statement session stmt) o).1) of ∙ ap (λ (ph : Phase). (on_txn s (steps.Statement session stmt) tx t ph).1) is

      still : AreApart (with_txn s tx (statement s tx t stmt).1)
      still = let leads = leads-statement f s session stmt sound.follows in subst AreApart stated-state (are-apart leads.later (step s (steps.Statement session stmt)).1 leads.follows.joint)

      pub statement-claims : AreClaims (replaced tx (claimed_in s t) (claimed_in s (statement s tx t stmt).1) claims) (step s (steps.Statement session stmt)).1
      statement-claims = subst (AreClaims (replaced tx (claimed_in s t) (claimed_in s (statement s tx t stmt).1) claims)) (sym stated-state)
          (put-claims s (with_txn s tx (statement s tx t stmt).1) claims apart are tx t found (statement s tx t stmt).1 refl (λ q. get-at s.txs tx (statement s tx t stmt).1 q) still)

      pub statement-kept : claimed_in s (statement s tx t stmt).1 ≡ claimed_in s t → AreClaims claims (step s (steps.Statement session stmt)).1
      statement-kept same = subst (AreClaims claims) (sym stated-state) (same-claims s (with_txn s tx (statement s tx t stmt).1) claims apart are (λ p q.
          ap (claim_in (with_txn s tx (statement s tx t stmt).1) p q) (get-at s.txs tx (statement s tx t stmt).1 q) ∙ by p q (q == tx) refl))
        where
          alike : (p : List ℕ) (q : ℕ) (o : Option Txn) → claim_in (with_txn s tx (statement s tx t stmt).1) p q o ≡ claim_in s p q o
          alike p q None = refl
          alike p q (Some x) = refl

          by : (p : List ℕ) (q : ℕ) (b : Bool) → (q == tx) ≡ b → claim_in (with_txn s tx (statement s tx t stmt).1) p q (cond b (Some (statement s tx t stmt).1) (maps.get s.txs q)) ≡ claim_in s p q (maps.get s.txs q)
          by p q false other = alike p q (maps.get s.txs q)
          by p q true here =
              alike p q (Some (statement s tx t stmt).1) ∙ in-claimed s p q (statement s tx t stmt).1
              ∙ ap (λ (m : Moved). cond (has_path m p) (Some (claim_by q m p)) None) same ∙ sym (in-claimed s p q t)
              ∙ ap (claim_in s p q) (sym (ap (maps.get s.txs) (same-number q tx here) ∙ found))

    -- it ends
    ended-claims : (later : State) → later.links_opening ≡ s.links_opening → later.txs ≡ s.txs → AreClaims (without_claim (claimed_in s t) claims) (ended later session tx)
    ended-claims later opening txs = gone-claims s (ended later session tx) claims apart are tx t found opening (λ q. gone-at later tx q ∙ ap (λ (m : maps.FinMap nat_cmp Txn). cond (q == tx) None (maps.get m q)) txs)

    -- DECIDE
    module _ (is : t.phase ≡ phases.Prepared) where
      gone : AreClaims (without_claim (moved_of t) claims) (ended s session tx)
      gone = subst (λ (m : Moved). AreClaims (without_claim m claims) (ended s session tx)) (bound-claimed s t (ap is_active is)) (ended-claims s refl refl)

      decided-alike : (p : List ℕ) (q : ℕ) (b : Bool) → (q == tx) ≡ b → claim_in (committed s tx t) p q (cond b (Some (with_phase t phases.Decided)) (maps.get s.txs q)) ≡ claim_in s p q (maps.get s.txs q)
      decided-alike p q false other = by (maps.get s.txs q)
        where
          by : (o : Option Txn) → claim_in (committed s tx t) p q o ≡ claim_in s p q o
          by None = refl
          by (Some x) = refl
      decided-alike p q true here =
          ap (λ b. cond (not (b && differs t.seen s.links_opening) && has_path (moved_of t) p) (Some (claim_by q (moved_of t) p)) None) (sym (ap is_active is))
          ∙ ap (claim_in s p q) (sym (ap (maps.get s.txs) (same-number q tx here) ∙ found))

      stays : AreClaims claims (committed s tx t)
      stays = same-claims s (committed s tx t) claims apart are (λ p q. ap (claim_in (committed s tx t) p q) (get-at s.txs tx (with_phase t phases.Decided) q) ∙ decided-alike p q (q == tx) refl)

      pub decide-claims : AreClaims (unless (is_committed (step s (steps.Decide session)).0) (moved_of t) claims) (step s (steps.Decide session)).1
      unfolding step
      decide-claims =
          let asked = steps.Decide session in
          subst (λ (o : Option (ℕ × Txn)). AreClaims (unless (is_committed (on_session s asked o).0) (moved_of t) claims) (on_session s asked o).1) (sym of)
          (subst (λ (ph : Phase). AreClaims (unless (is_committed (on_txn s asked tx t ph).0) (moved_of t) claims) (on_txn s asked tx t ph).1) (sym is) (by (same_tables t.base t.copy)))
        where
          conflicts : (o : Option Refusal) → AreClaims (unless (is_committed (by_conflict s session tx t o).0) (moved_of t) claims) (by_conflict s session tx t o).1
          conflicts (Some why) = gone
          conflicts None = stays

          by : (b : Bool) → let r = cond b (answers.Done, ended s session tx) (by_conflict s session tx t (conflict t.base (tables_of s) t.named)) in AreClaims (unless (is_committed r.0) (moved_of t) claims) r.1
          by true = gone
          by false = conflicts (conflict t.base (tables_of s) t.named)

    -- FINISH
    pub finish-claims : t.phase ≡ phases.Decided → AreClaims (without_claim (moved_of t) claims) (step s (steps.Finish session)).1
    unfolding step
    finish-claims is =
        let asked = steps.Finish session in
        subst (λ (o : Option (ℕ × Txn)). AreClaims (without_claim (moved_of t) claims) (on_session s asked o).1) (sym of)
        (subst (λ (ph : Phase). AreClaims (without_claim (moved_of t) claims) (on_txn s asked tx t ph).1) (sym is)
        (subst (λ (m : Moved). AreClaims (without_claim m claims) (ended (settled_by s t) session tx)) (bound-claimed s t (ap is_active is)) (ended-claims (settled_by s t) refl refl)))

    -- ROLLBACK
    pub rollback-claims : is_decided t.phase ≡ false → AreClaims (without_claim (claimed_in s t) claims) (step s (steps.Rollback session)).1
    unfolding step
    rollback-claims undecided =
        subst (λ (o : Option (ℕ × Txn)). AreClaims (without_claim (claimed_in s t) claims) (on_session s (steps.Rollback session) o).1) (sym of) (by t.phase undecided (sound.claims.live tx t found))
      where
        by : (p : Phase) → is_decided p ≡ false → IsLive p → AreClaims (without_claim (claimed_in s t) claims) (on_txn s (steps.Rollback session) tx t p).1
        by phases.Active misses live = ended-claims s refl refl
        by phases.Prepared misses live = ended-claims s refl refl
        by phases.Decided misses live = absurd (false_true (sym misses))
        by phases.Finished misses live = absurd live
        by phases.Dropped misses live = absurd live

  -- PREPARE
  prepared-alike : (tx : ℕ) (t : Txn) → maps.get s.txs tx ≡ Some t → t.phase ≡ phases.Active → prepare_refusal s t ≡ None → AreClaims claims (with_txn s tx (with_phase t phases.Prepared))
  prepared-alike tx t at is none = same-claims s (with_txn s tx (with_phase t phases.Prepared)) claims apart are (λ p q.
      ap (claim_in (with_txn s tx (with_phase t phases.Prepared)) p q) (get-at s.txs tx (with_phase t phases.Prepared) q) ∙ by p q (q == tx) refl)
    where
      alike : (p : List ℕ) (q : ℕ) (o : Option Txn) → claim_in (with_txn s tx (with_phase t phases.Prepared)) p q o ≡ claim_in s p q o
      alike p q None = refl
      alike p q (Some x) = refl

      not-doomed : (b : Bool) (why : Refusal) (later : Option Refusal) → or_else (cond b (Some why) None) later ≡ None → b ≡ false
      not-doomed true why later e = absurd (none_some why (sym e))
      not-doomed false why later e = refl

      has : (p : List ℕ) → has_path (moved_of t) p ≡ (not (is_doomed s t) && has_path (moved_of t) p)
      has p = by_links (has_links (moved_of t)) refl none
        where
          by_links : (b : Bool) → has_links (moved_of t) ≡ b → cond b (or_else (doomed s t) (files_refusal s (moved_of t).takes)) None ≡ None → has_path (moved_of t) p ≡ (not (is_doomed s t) && has_path (moved_of t) p)
          by_links true links passes = sym (ap (λ b. not b && has_path (moved_of t) p) (not-doomed (is_doomed s t) (reasons.Doomed (seen_or_zero t.seen) s.links_opening) (files_refusal s (moved_of t).takes) passes))
          by_links false links passes =
              let two = no-links (moved_of t) links in
              let off : has_path (moved_of t) p ≡ false = λ i. has_path (record { gives = two.0 i; takes = two.1 i; fill = false }) p in
              off ∙ sym (ap (λ b. not (is_doomed s t) && b) off ∙ and-false (not (is_doomed s t)))
            where
              and-false : (b : Bool) → (b && false) ≡ false
              and-false true = refl
              and-false false = refl

      by : (p : List ℕ) (q : ℕ) (b : Bool) → (q == tx) ≡ b → claim_in (with_txn s tx (with_phase t phases.Prepared)) p q (cond b (Some (with_phase t phases.Prepared)) (maps.get s.txs q)) ≡ claim_in s p q (maps.get s.txs q)
      by p q false other = alike p q (maps.get s.txs q)
      by p q true here =
          ap (λ b. cond b (Some (claim_by q (moved_of t) p)) None) (has p)
          ∙ ap (claim_in s p q) (sym (ap (maps.get s.txs) (same-number q tx here) ∙ at))

  pub prepare-claims : (session : ℕ) → AreClaims claims (step s (steps.Prepare session)).1
  unfolding step
  prepare-claims session = with-session (AreClaims claims) s session (steps.Prepare session) are (λ tx t at of. by tx t at t.phase refl)
    where
      votes : (tx : ℕ) (t : Txn) → maps.get s.txs tx ≡ Some t → t.phase ≡ phases.Active → (o : Option Refusal) → prepare_refusal s t ≡ o → AreClaims claims (voted s tx t o).1
      votes tx t at is (Some why) e = are
      votes tx t at is None e = prepared-alike tx t at is e

      by : (tx : ℕ) (t : Txn) → maps.get s.txs tx ≡ Some t → (p : Phase) → t.phase ≡ p → AreClaims claims (on_txn s (steps.Prepare session) tx t p).1
      by tx t at phases.Active is = votes tx t at is (prepare_refusal s t) refl
      by tx t at phases.Prepared is = are
      by tx t at phases.Decided is = are
      by tx t at phases.Finished is = are
      by tx t at phases.Dropped is = are

  -- STOPS
  module _ (new : Keyed PathClaim) (stay : (p : List ℕ) → maps.get new p ≡ staying (stays_bound s) (maps.get claims p)) where
    pub manager-claims : AreClaims new (step s steps.CrashManager).1
    unfolding step
    manager-claims = staying-claims s (crash_manager s) claims apart are (stays_bound s) (λ p q. by p q (maps.get s.txs q) refl) new stay
      where
        too-far : (a b : ℕ) → a ≤ b → not (a == b + 1) ≡ true
        too-far a b le = grind (arith, nat_tests)

        gone : (p : List ℕ) (q : ℕ) (t : Txn) (o : Option ℕ) → Seen o s.links_opening (moved_of t) → cond (not (true && differs o (s.links_opening + 1)) && has_path (moved_of t) p) (Some (claim_by q (moved_of t) p)) None ≡ None
        gone p q t None none = ap (λ (m : Moved). cond (has_path m p) (Some (claim_by q (moved_of t) p)) None) none
        gone p q t (Some n) le = ap (λ b. cond (not b && has_path (moved_of t) p) (Some (claim_by q (moved_of t) p)) None) (too-far n s.links_opening le)

        active : (p : List ℕ) (q : ℕ) (t : Txn) → maps.get s.txs q ≡ Some t → (ph : Phase) → t.phase ≡ ph
            → cond (not (is_active ph && differs t.seen (s.links_opening + 1)) && has_path (moved_of t) p) (Some (claim_by q (moved_of t) p)) None
            ≡ cond (not (is_active ph)) (cond (not (is_active ph && differs t.seen s.links_opening) && has_path (moved_of t) p) (Some (claim_by q (moved_of t) p)) None) None
        active p q t at phases.Active is = gone p q t t.seen (sound.claims.seen q t at)
        active p q t at phases.Prepared is = refl
        active p q t at phases.Decided is = refl
        active p q t at phases.Finished is = refl
        active p q t at phases.Dropped is = refl

        by : (p : List ℕ) (q : ℕ) (o : Option Txn) → maps.get s.txs q ≡ o → claim_in (crash_manager s) p q o ≡ cond (is_bound o) (claim_in s p q o) None
        by p q None at = refl
        by p q (Some t) at = active p q t at t.phase refl

    pub database-claims : AreClaims new (step s steps.CrashDatabase).1
    unfolding step
    database-claims = staying-claims s (crash_database s) claims apart are (stays_bound s) (λ p q.
        ap (claim_in (crash_database s) p q) (get-retain_keys s.txs (λ tx. is_bound (maps.get s.txs tx)) q (λ x tied. ap (λ (n : ℕ). is_bound (maps.get s.txs n)) (sym (nat_cmp-IsAntisymmetric q x tied))))
        ∙ by p q (is_bound (maps.get s.txs q)) (maps.get s.txs q)) new stay
      where
        alike : (p : List ℕ) (q : ℕ) (o : Option Txn) → claim_in (crash_database s) p q o ≡ claim_in s p q o
        alike p q None = refl
        alike p q (Some x) = refl

        by : (p : List ℕ) (q : ℕ) (b : Bool) (o : Option Txn) → claim_in (crash_database s) p q (cond b o None) ≡ cond b (claim_in s p q o) None
        by p q true o = alike p q o
        by p q false o = refl
