-- Each step keeps that claims stand.
use Rattle.std.proofs.Common.{◌≡◌, ◌≢◌, ⊎_elim, ℕ, ◌+◌, ◌==◌, ◌≤◌, List, [], ◌∷◌, filter, Bool, true, false, not, cond, ◌&&◌, Option, Some, None, refl, sym, ◌∙◌, ap, subst, arith}
use Rattle.std.proofs.lemmas.Bool.{cases_eq}
use Rattle.std.proofs.lemmas.Bool.Decides.{nat_tests}
use Rattle.std.specs.FinMap as maps
use Rattle.std.specs.FinMap.{find as find_key, get-empty, get-entries}
use Rattle.std.specs.Ordering.{nat_cmp}
use Rattle.dl_base.specs.declared.answer.Answer.TheVariants as answers
use Rattle.dl_base.specs.declared.answer.Refusal.{Refusal}
use Rattle.dl_base.specs.declared.answer.Refusal.TheVariants as reasons
use Rattle.dl_base.specs.declared.statement.Stmt.{Stmt}
use Rattle.dl_base.specs.declared.step.Phase.{Phase}
use Rattle.dl_base.specs.declared.step.Phase.TheVariants as phases
use Rattle.dl_base.specs.declared.step.Settings.{Settings}
use Rattle.dl_base.specs.declared.step.Step.{Step}
use Rattle.dl_base.specs.declared.step.Step.TheVariants as steps
use Rattle.dl_base.specs.declared.step.Target.{Target}
use Rattle.meaning_areas.specs.Commits.{Commit, tables_after}
use Rattle.meaning_areas.specs.Lists.{Folds}
use Rattle.meaning_areas.specs.Same.{same_tables}
use Rattle.meaning_areas.specs.Stands.{Stored}
use Rattle.meaning_areas.proofs.OnPaths.{last-differs}
use Rattle.meaning_areas.proofs.Tables.{get-here, get-there, some_same, tables-push}
use Rattle.meaning_merge.specs.History.{IsTransaction}
use Rattle.meaning_merge.specs.Restoring.{in_the_way}
use Rattle.meaning_merge.specs.Touching.{In, OnePath, is_in}
use Rattle.meaning_merge.proofs.Paths.{differ-one}
use Rattle.meaning_settling.specs.Apart.{ShareNoPath}
use Rattle.meaning_settling.specs.Settling.{Moved, on}
use Rattle.meaning_tables.specs.Links.{gives, links, takes}
use Rattle.meaning_tables.specs.Tables.{Tables}
use Rattle.meaning_system.specs.Claims.{by_evaluated, claim_refusal, claimed, conflict, doomed, files_refusal, or_else, prepare_refusal, same_moved, seen_or_zero, statement, with_names}
use Rattle.meaning_system.specs.CoreOf.{HasClaims, Seen, claimed_by, work_by, work_of}
use Rattle.meaning_system.specs.Following.{AreInSessions, AreMerged, Follows}
use Rattle.meaning_system.specs.Machine.{begin, by_conflict, commit_by, committed, crash_database, crash_manager, drawing, finish_all, first_key, first_session, is_unfinished, lost_to, new_txn, on_txn, resolve, restore, restore_at, restore_found, restore_idle, settled_by, start, step, target_tables, unfinished, voted, with_phase}
use Rattle.meaning_system.specs.Sql.{Evaluated, evaluated, named_by}
use Rattle.meaning_system.specs.State.{State, Txn, context_of, differs, ended, has_links, is_active, is_decided, is_doomed, is_prepared, moved_of, number_of, tables_of, txn_of, with_txn}
use Rattle.meaning_system.proofs.Claiming.{none-passes, or-none}
use Rattle.meaning_system.proofs.Cores.{no-links}
use Rattle.meaning_system.proofs.Kept.{at-archive, at-backup, at-file, at-finish, at-rollback, at-statement, bound-was, drop-all-was, made_by, moved-same, resolve-same, with-session}
use Rattle.meaning_system.proofs.Leading.{prepared-work, works-are}
use Rattle.meaning_system.proofs.Resolved.{finish-all-was, gone-was}
use Rattle.meaning_system.proofs.Stepping.{begun-moved}
use Rattle.meaning_history.specs.Reached.{HasHistory}
use Rattle.meaning_history.specs.Standing.{ClaimStands, ClaimsStand}
use Rattle.meaning_history.proofs.Claims.{accepted-stands, stands-beside}
use Rattle.meaning_history.proofs.Keeping.{Stated, evaluated-one, statement-phase}
use Rattle.meaning_history.proofs.Naming.{names-apart}

false_true : false ≡ true → ⊥
false_true e = cc

none_some : {A : Type 0} (x : A) → None ≡ Some x → ⊥
none_some x e = cc

-- the same claim over the same tables
same-stands : (s later : State) (t u : Txn) → tables_of later ≡ tables_of s → moved_of u ≡ moved_of t → ClaimStands s t → ClaimStands later u
same-stands s later t u tables moved stands = record {
  given = λ g is. subst (λ ts. In g (links ts)) (sym tables) (stands.given g (subst (λ (m : Moved). In g m.gives) moved is));
  apart = subst (λ (m : Moved). OnePath m.takes) (sym moved) stands.apart;
  free = λ x l is there lacks. stands.free x l (subst (λ (m : Moved). In x m.takes) moved is) (subst (λ ts. In l (links ts)) tables there) (subst (λ (m : Moved). is_in m.gives l ≡ false) moved lacks);
}

-- the claim of one that moves nothing
empty-stands : (s : State) (t : Txn) → (moved_of t).gives ≡ [] → (moved_of t).takes ≡ [] → ClaimStands s t
empty-stands s t no_gives no_takes = record {
  given = λ g is. absurd (subst (λ ls. In g ls) no_gives is);
  apart = subst OnePath (sym no_takes) tt;
  free = λ x l is there lacks. absurd (subst (λ ls. In x ls) no_takes is);
}

-- the same tables and opening of Links, and no other transactions
stand-fewer : (s later : State) → ClaimsStand s → tables_of later ≡ tables_of s → later.links_opening ≡ s.links_opening → ((q : ℕ) (t : Txn) → maps.get later.txs q ≡ Some t → maps.get s.txs q ≡ Some t) → ClaimsStand later
stand-fewer s later stand tables opening was q t at undecided live =
    same-stands s later t t tables refl (stand q t (was q t at) undecided (ap (λ n. is_active t.phase && differs t.seen n) (sym opening) ∙ live))

-- one transaction put
stand-put : (s : State) (tx : ℕ) (t : Txn) → ClaimsStand s → (is_decided t.phase ≡ false → is_doomed s t ≡ false → ClaimStands s t) → ClaimsStand (with_txn s tx t)
stand-put s tx t stand one q x at undecided live = ⊎_elim
    (λ (e : q ≡ tx).
    let same : t ≡ x = some_same t x (sym (get-here s.txs tx t) ∙ ap (maps.get (maps.insert s.txs tx t)) (sym e) ∙ at) in
    same-stands s (with_txn s tx t) t x refl (ap moved_of (sym same)) (one (ap (λ (y : Txn). is_decided y.phase) same ∙ undecided) (ap (is_doomed s) same ∙ live)))
    (λ (other : q ≢ tx). same-stands s (with_txn s tx t) x x refl refl (stand q x (sym (get-there s.txs tx t q other) ∙ at) undecided live))
    (cases_eq q tx)

-- A STATEMENT: the claim of before, or one that is accepted
module _ (first : ℕ) (s : State) (has : HasHistory first s) (stand : ClaimsStand s) (tx : ℕ) (t : Txn) (at : maps.get s.txs tx ≡ Some t) where
  evaluated-stands : (names : List (List ℕ)) (e : Evaluated) → (is_decided t.phase ≡ false → IsTransaction first s.commits tx t.base e.tables names e.next) → is_decided t.phase ≡ false
      → is_doomed s (by_evaluated s tx (record t { named = names }) e).1 ≡ false → ClaimStands s (by_evaluated s tx (record t { named = names }) e).1
  evaluated-stands names e txn undecided live = by e.refused (same_moved (moved_of t) (moved_of (made_by (record t { named = names }) e))) refl live
    where
      before : is_doomed s t ≡ false → (u : Txn) → moved_of u ≡ moved_of t → ClaimStands s u
      before live u same = same-stands s s t u refl same (stand tx t at undecided live)

      claim : (o : Option Refusal) → claim_refusal s tx (made_by (record t { named = names }) e) ≡ o → is_doomed s (claimed s e.answer (record t { named = names }) (made_by (record t { named = names }) e) o).1 ≡ false
          → ClaimStands s (claimed s e.answer (record t { named = names }) (made_by (record t { named = names }) e) o).1
      claim (Some why) refused live = before live (record t { named = names }) refl
      claim None accepted live =
          same-stands s s (made_by (record t { named = names }) e) (claimed s e.answer (record t { named = names }) (made_by (record t { named = names }) e) None).1 refl refl
          (accepted-stands first s tx (made_by (record t { named = names }) e) has.history (txn undecided) accepted)

      by : (r m : Bool) → same_moved (moved_of t) (moved_of (made_by (record t { named = names }) e)) ≡ m
          → is_doomed s (cond r (e.answer, (record t { named = names })) (cond m (e.answer, (made_by (record t { named = names }) e)) (claimed s e.answer (record t { named = names }) (made_by (record t { named = names }) e) (claim_refusal s tx (made_by (record t { named = names }) e))))).1 ≡ false
          → ClaimStands s (cond r (e.answer, (record t { named = names })) (cond m (e.answer, (made_by (record t { named = names }) e)) (claimed s e.answer (record t { named = names }) (made_by (record t { named = names }) e) (claim_refusal s tx (made_by (record t { named = names }) e))))).1
      by true m same live = before live (record t { named = names }) refl
      by false true same live = before live (made_by (record t { named = names }) e) (moved-same t (made_by (record t { named = names }) e) same)
      by false false same live = claim (claim_refusal s tx (made_by (record t { named = names }) e)) refl live

  on-stated : Stated → (stmt : Stmt) → ClaimsStand (with_txn s tx (statement s tx t stmt).1)
  on-stated law stmt = stand-put s tx (statement s tx t stmt).1 stand
      (λ undecided live. evaluated-stands (with_names t.named (named_by stmt)) (evaluated t.copy stmt (context_of s tx) t.next)
      (λ open_yet. evaluated-one law first s.commits t.base t.copy t.named (with_names t.named (named_by stmt)) t.next stmt (context_of s tx) (has.transactions tx t at open_yet) (λ name none. names-apart t.named (named_by stmt) name none))
      (ap is_decided (sym (statement-phase s tx t stmt)) ∙ undecided) live)

  -- a vote
  not-doomed : doomed s t ≡ None → is_doomed s t ≡ false
  not-doomed e = by (is_doomed s t) e
    where
      by : (b : Bool) → cond b (Some (reasons.Doomed (seen_or_zero t.seen) s.links_opening)) None ≡ None → b ≡ false
      by true is = absurd cc
      by false is = refl

  voted-stands : t.phase ≡ phases.Active → prepare_refusal s t ≡ None → ClaimStands s (with_phase t phases.Prepared)
  voted-stands is none = by (has_links (moved_of t)) refl none
    where
      by : (b : Bool) → has_links (moved_of t) ≡ b → cond b (or_else (doomed s t) (files_refusal s (moved_of t).takes)) None ≡ None → ClaimStands s (with_phase t phases.Prepared)
      by true links passes = same-stands s s t (with_phase t phases.Prepared) refl refl (stand tx t at (ap is_decided is) (not-doomed (or-none (doomed s t) (files_refusal s (moved_of t).takes) passes).0))
      by false links passes = let two = no-links (moved_of t) links in empty-stands s (with_phase t phases.Prepared) two.0 two.1

  on-prepare : (session : ℕ) (p : Phase) → t.phase ≡ p → ClaimsStand (on_txn s (steps.Prepare session) tx t p).1
  on-prepare session phases.Active is = by (prepare_refusal s t) refl
    where
      by : (o : Option Refusal) → prepare_refusal s t ≡ o → ClaimsStand (voted s tx t o).1
      by (Some why) e = stand
      by None e = stand-put s tx (with_phase t phases.Prepared) stand (λ undecided live. voted-stands is e)
  on-prepare session phases.Prepared is = stand
  on-prepare session phases.Decided is = stand
  on-prepare session phases.Finished is = stand
  on-prepare session phases.Dropped is = stand

  on-ended : (session : ℕ) → ClaimsStand (ended s session tx)
  on-ended session = stand-fewer s (ended s session tx) stand refl refl (λ q x is. gone-was s tx q x is)

  on-finished : (session : ℕ) → ClaimsStand (ended (settled_by s t) session tx)
  on-finished session = stand-fewer s (ended (settled_by s t) session tx) stand refl refl (λ q x is. gone-was s tx q x is)

  -- a decision leaves the claims of others
  on-committed : (f : Folds) → Follows f s → AreMerged s → t.phase ≡ phases.Prepared → conflict t.base (tables_of s) t.named ≡ None → ClaimsStand (committed s tx t)
  on-committed f follows merges is none q x there undecided live = ⊎_elim
      (λ (e : q ≡ tx).
      let same : with_phase t phases.Decided ≡ x = some_same (with_phase t phases.Decided) x (sym (get-here s.txs tx (with_phase t phases.Decided)) ∙ ap (maps.get (maps.insert s.txs tx (with_phase t phases.Decided))) (sym e) ∙ there) in
      absurd (false_true (sym (ap (λ (y : Txn). is_decided y.phase) same ∙ undecided))))
      (λ (other : q ≢ tx).
      let was : maps.get s.txs q ≡ Some x = sym (get-there s.txs tx (with_phase t phases.Decided) q other) ∙ there in
      let merged = merges tx t at (ap is_prepared is) none in
      let tables : tables_of (committed s tx t) ≡ (commit_by s tx t).tables = tables-push [] (commit_by s tx t) s.commits in
      let apart : ShareNoPath (moved_of t) (work_of s x).moved = follows.joint.apart tx q (λ (e : tx ≡ q). other (sym e)) (work_by phases.Prepared (moved_of t)) (work_of s x)
      (works-are f s follows tx t at (work_by phases.Prepared (moved_of t)) (prepared-work f s follows tx t at is))
      (works-are f s follows q x was (work_of s x) refl) in
      stands-beside s (committed s tx t) (moved_of t) x (stand q x was undecided live)
      (subst (λ b. ShareNoPath (moved_of t) (claimed_by b (moved_of x))) live apart)
      (differ-one (links (tables_of s)) (last-differs [] s.commits refl follows.joint.whole.paths))
      (subst (λ ts. OnePath (links ts)) (sym tables) (differ-one (links (commit_by s tx t).tables) merged.merges.paths))
      (λ p. ap (λ ts. on (links ts) p) tables ∙ merged.merges.moved p))
      (cases_eq q tx)

  on-decide : (f : Folds) → Follows f s → AreMerged s → (session : ℕ) (p : Phase) → t.phase ≡ p → ClaimsStand (on_txn s (steps.Decide session) tx t p).1
  on-decide f follows merges session phases.Active is = stand
  on-decide f follows merges session phases.Prepared is = by (same_tables t.base t.copy)
    where
      conflicts : (o : Option Refusal) → conflict t.base (tables_of s) t.named ≡ o → ClaimsStand (by_conflict s session tx t o).1
      conflicts (Some why) e = on-ended session
      conflicts None e = on-committed f follows merges is e

      by : (b : Bool) → ClaimsStand (cond b (answers.Done, ended s session tx) (by_conflict s session tx t (conflict t.base (tables_of s) t.named))).1
      by true = on-ended session
      by false = conflicts (conflict t.base (tables_of s) t.named) refl
  on-decide f follows merges session phases.Decided is = stand
  on-decide f follows merges session phases.Finished is = stand
  on-decide f follows merges session phases.Dropped is = stand

-- A RESTORE is let through where nobody has a transaction

not-true : (b : Bool) → not b ≡ false → b ≡ true
not-true true e = refl
not-true false e = absurd (false_true (sym e))

nobody : (s : State) → AreInSessions s → HasClaims s → first_session s ≡ None → unfinished s ≡ None → (q : ℕ) (t : Txn) → maps.get s.txs q ≡ Some t → ⊥
nobody s each claims none all q t at =
    let of = each q t at (active (none-passes is_unfinished q t (maps.entries s.txs) all (sym (get-entries s.txs q) ∙ at))) in
    empty (maps.entries s.sessions) none of.0 q (sym (get-entries s.sessions of.0) ∙ of.1)
  where
    active : not (is_active t.phase) ≡ false → is_active t.phase ≡ true
    active e = not-true (is_active t.phase) e

    empty : (es : List (ℕ × ℕ)) → first_key es ≡ None → (session tx : ℕ) → find_key nat_cmp session es ≡ Some tx → ⊥
    empty [] e session tx found = none_some tx found
    empty (x ∷ xs) e session tx found = none_some x.0 (sym e)

on-restore : (s : State) → ClaimsStand s → AreInSessions s → HasClaims s → (t : Target) → ClaimsStand (restore s t (first_session s)).1
on-restore s stand each claims t = by (first_session s) refl
  where
    at : first_session s ≡ None → unfinished s ≡ None → (target : Tables) (o : Option (List ℕ)) → ClaimsStand (restore_at s target o).1
    at none all target (Some path) = stand
    at none all target None = λ q x there undecided live. absurd (nobody s each claims none all q x there)

    found : first_session s ≡ None → unfinished s ≡ None → (o : Option Tables) → ClaimsStand (restore_found s t o).1
    found none all None = stand
    found none all (Some target) = at none all target (in_the_way s.files s.copies (gives (tables_of s) target) (filter (λ l. not (lost_to s target l)) (takes (tables_of s) target)))

    idle : first_session s ≡ None → (o : Option (ℕ × Txn)) → unfinished s ≡ o → ClaimsStand (restore_idle s t o).1
    idle none (Some e) is = stand
    idle none None is = found none is (target_tables s t)

    by : (o : Option ℕ) → first_session s ≡ o → ClaimsStand (restore s t o).1
    by (Some session) is = stand
    by None is = idle is (unfinished s) refl

-- THE MANAGER FORGETS: who has claimed and is active is doomed
on-manager : (s : State) → ClaimsStand s → HasClaims s → ClaimsStand (crash_manager s)
on-manager s stand claims q t at undecided live = by t.phase refl undecided live
  where
    seen-before : (o : Option ℕ) → Seen o s.links_opening (moved_of t) → differs o (s.links_opening + 1) ≡ false → (moved_of t).gives ≡ [] × (moved_of t).takes ≡ []
    seen-before None seen same = (ap (λ (m : Moved). m.gives) seen, ap (λ (m : Moved). m.takes) seen)
    seen-before (Some n) seen same = absurd (too_far n s.links_opening seen (not-true (n == s.links_opening + 1) same))
      where
        too_far : (a b : ℕ) → a ≤ b → (a == b + 1) ≡ true → ⊥
        too_far a b le e = grind (arith, nat_tests)

    by : (p : Phase) → t.phase ≡ p → is_decided p ≡ false → (is_active t.phase && differs t.seen (s.links_opening + 1)) ≡ false → ClaimStands (crash_manager s) t
    by phases.Active is u e = let two = seen-before t.seen (claims.seen q t at) (ap (λ p. is_active p && differs t.seen (s.links_opening + 1)) (sym is) ∙ e) in empty-stands (crash_manager s) t two.0 two.1
    by phases.Prepared is u e = same-stands s (crash_manager s) t t refl refl (stand q t at (ap is_decided is) (ap (λ p. is_active p && differs t.seen s.links_opening) is))
    by phases.Decided is u e = absurd (false_true (sym u))
    by phases.Finished is u e = same-stands s (crash_manager s) t t refl refl (stand q t at (ap is_decided is) (ap (λ p. is_active p && differs t.seen s.links_opening) is))
    by phases.Dropped is u e = same-stands s (crash_manager s) t t refl refl (stand q t at (ap is_decided is) (ap (λ p. is_active p && differs t.seen s.links_opening) is))

begun-stands : (s : State) → ClaimStands s (new_txn (tables_of s))
begun-stands s = empty-stands s (new_txn (tables_of s)) (ap (λ (m : Moved). m.gives) (begun-moved (tables_of s))) (ap (λ (m : Moved). m.takes) (begun-moved (tables_of s)))

-- THE CLAIMS ARE KEPT
pub stand-kept : Stated → (first : ℕ) (f : Folds) (s : State) (x : Step) → Follows f s → HasHistory first s → HasClaims s → AreInSessions s → AreMerged s → ClaimsStand s → ClaimsStand (step s x).1
unfolding step
stand-kept law first f s (steps.Begin session) follows has claims each merges stand = by (txn_of s session)
  where
    by : (o : Option (ℕ × Txn)) → ClaimsStand (begin s session o).1
    by (Some e) = stand
    by None =
        stand-fewer (with_txn s (number_of (drawing s)) (new_txn (tables_of s))) (begin s session None).1
        (stand-put s (number_of (drawing s)) (new_txn (tables_of s)) stand (λ undecided live. begun-stands s)) refl refl (λ q t at. at)
stand-kept law first f s (steps.Statement session stmt) follows has claims each merges stand = with-session ClaimsStand s session (steps.Statement session stmt) stand (λ tx t at of. at-statement ClaimsStand s stand tx t session stmt t.phase (on-stated first s has stand tx t at law stmt))
stand-kept law first f s (steps.Prepare session) follows has claims each merges stand = with-session ClaimsStand s session (steps.Prepare session) stand (λ tx t at of. on-prepare first s has stand tx t at session t.phase refl)
stand-kept law first f s (steps.Decide session) follows has claims each merges stand = with-session ClaimsStand s session (steps.Decide session) stand (λ tx t at of. on-decide first s has stand tx t at f follows merges session t.phase refl)
stand-kept law first f s (steps.Finish session) follows has claims each merges stand = with-session ClaimsStand s session (steps.Finish session) stand (λ tx t at of. at-finish ClaimsStand s stand tx t session t.phase (on-finished first s has stand tx t at session))
stand-kept law first f s (steps.Rollback session) follows has claims each merges stand = with-session ClaimsStand s session (steps.Rollback session) stand (λ tx t at of. at-rollback ClaimsStand s stand tx t session t.phase (on-ended first s has stand tx t at session))
stand-kept law first f s (steps.File cmd) follows has claims each merges stand = at-file ClaimsStand s stand cmd (λ files. stand-fewer s (record s { files = files }) stand refl refl (λ q t at. at))
stand-kept law first f s (steps.Archive n) follows has claims each merges stand = at-archive ClaimsStand s stand n (λ copies. stand-fewer s (record s { copies = copies }) stand refl refl (λ q t at. at))
stand-kept law first f s steps.Backup follows has claims each merges stand = at-backup ClaimsStand s stand (λ backups. stand-fewer s (record s { backups = backups }) stand refl refl (λ q t at. at))
stand-kept law first f s (steps.Restore t) follows has claims each merges stand = on-restore s stand each claims t
stand-kept law first f s (steps.Tick n) follows has claims each merges stand = stand-fewer s (step s (steps.Tick n)).1 stand refl refl (λ q t at. at)
stand-kept law first f s steps.CrashManager follows has claims each merges stand = on-manager s stand claims
stand-kept law first f s steps.CrashDatabase follows has claims each merges stand = stand-fewer s (crash_database s) stand refl refl (bound-was s)
stand-kept law first f s steps.Resolve follows has claims each merges stand = stand-fewer s (resolve s).1 stand
    (ap (λ (cs : List Commit). tables_after [] cs) (resolve-same (λ (x : State). x.commits) (λ x tx. refl) (λ x t. refl) s)) (resolve-same (λ (x : State). x.links_opening) (λ x tx. refl) (λ x t. refl) s)
    (λ q t at. finish-all-was s.commits s q t (drop-all-was (maps.keys s.txs) (finish_all s s.commits) q t at))

pub stand-start : (given : Settings) (x : Stored) → ClaimsStand (start given x)
stand-start given x q t at undecided live = absurd (none_some t (sym (get-empty nat_cmp q) ∙ at))
