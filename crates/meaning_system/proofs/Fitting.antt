-- Each step keeps that tables fit, if a commit and a restore lead to tables that do; and then what transactions give has different numbers.
use Rattle.std.proofs.Common.{◌≡◌, ⊎_elim, ℕ, List, [], ◌∷◌, Bool, true, false, not, cond, ◌&&◌, ◌||◌, filter, map, Option, Some, None, refl, sym, ◌∙◌, ap}
use Rattle.std.specs.FinMap as maps
use Rattle.std.specs.List.{list_any}
use Rattle.dl_base.specs.declared.answer.Answer.TheVariants as answers
use Rattle.dl_base.specs.declared.answer.Refusal.{Refusal}
use Rattle.dl_base.specs.declared.statement.Stmt.{Stmt}
use Rattle.dl_base.specs.declared.step.Phase.{Phase}
use Rattle.dl_base.specs.declared.step.Phase.TheVariants as phases
use Rattle.dl_base.specs.declared.step.Step.{Step}
use Rattle.dl_base.specs.declared.step.Step.TheVariants as steps
use Rattle.dl_base.specs.declared.step.Target.{Target}
use Rattle.dl_base.specs.declared.value.LinkNo.{LinkNo}
use Rattle.dl_base.specs.declared.value.LinkRow.{LinkRow}
use Rattle.meaning_areas.specs.Commits.{Commit, commit_to, tables_after}
use Rattle.meaning_areas.specs.Finishing.{AreNumbered}
use Rattle.meaning_areas.specs.Same.{same_tables}
use Rattle.meaning_areas.proofs.Equal.{number-same}
use Rattle.meaning_areas.proofs.Tables.{tables-push}
use Rattle.meaning_merge.specs.Restoring.{in_the_way}
use Rattle.meaning_settling.specs.Keyed.{is_at}
use Rattle.meaning_settling.specs.Settling.{link_key}
use Rattle.meaning_settling.proofs.KeyedLaws.{either, is_at-same, or-left, or-right}
use Rattle.meaning_tables.specs.Fits.{differ, fits, rows_fit}
use Rattle.meaning_tables.specs.Links.{gives, links, same_number, takes}
use Rattle.meaning_tables.specs.Tables.{Tables}
use Rattle.meaning_system.specs.Claims.{by_evaluated, claim_refusal, claimed, conflict, same_moved, statement, with_names}
use Rattle.meaning_system.specs.Following.{AreMerged, AreRestored, HaveFits, HaveNumbers}
use Rattle.meaning_system.specs.Machine.{begin, by_conflict, commit_by, committed, crash_database, drawing, finish_all, first_session, lost_to, merged_by, new_txn, on_txn, resolve, restore, restore_at, restore_found, restore_idle, restore_moved, restore_to, settled_by, step, target_tables, unfinished, with_phase}
use Rattle.meaning_system.specs.Sql.{Evaluated, evaluated, named_by}
use Rattle.meaning_system.specs.State.{State, Txn, context_of, ended, has_links, is_prepared, moved_of, number_of, tables_of, txn_of, with_txn}
use Rattle.meaning_system.proofs.Kept.{at-archive, at-backup, at-file, at-finish, at-prepare, at-rollback, at-statement, bound-was, drop-all-was, made_by, put-was, resolve-same, with-session}
use Rattle.meaning_system.proofs.Resolved.{finish-all-was, gone-was}
use Rattle.meaning_system.proofs.Stepping.{same-self}

false_true : false ≡ true → ⊥
false_true e = cc

-- links of different numbers

any-number : (n : LinkNo) (ls : List LinkRow) → list_any (λ y. is_at (link_key n) (link_key y.link)) ls ≡ true → list_any (same_number n) (map (λ l. l.link) ls) ≡ true
any-number n [] e = absurd (false_true e)
any-number n (l ∷ ls) e = by (any-number n ls) (is_at (link_key n) (link_key l.link)) refl e
  where
    by : (list_any (λ y. is_at (link_key n) (link_key y.link)) ls ≡ true → list_any (same_number n) (map (λ (x : LinkRow). x.link) ls) ≡ true) → (b : Bool) → is_at (link_key n) (link_key l.link) ≡ b
        → (b || list_any (λ y. is_at (link_key n) (link_key y.link)) ls) ≡ true → (same_number n l.link || list_any (same_number n) (map (λ (x : LinkRow). x.link) ls)) ≡ true
    by rest true here any =
        or-left (same_number n l.link) (list_any (same_number n) (map (λ (x : LinkRow). x.link) ls)) (ap (same_number n) (sym (number-same n l.link (is_at-same (link_key n) (link_key l.link) here))) ∙ same-self n)
    by rest false there any = or-right (same_number n l.link) (list_any (same_number n) (map (λ (x : LinkRow). x.link) ls)) (rest any)

both : (a b : Bool) → (a && b) ≡ true → (a ≡ true) × (b ≡ true)
both true b e = (refl, e)
both false b e = absurd (false_true e)

is-false : (b : Bool) → not b ≡ true → b ≡ false
is-false true e = absurd (false_true e)
is-false false e = refl

differ-numbered : (ls : List LinkRow) → differ same_number (map (λ l. l.link) ls) ≡ true → AreNumbered ls
differ-numbered [] d = tt
differ-numbered (g ∷ gs) d =
    let two = both (not (list_any (same_number g.link) (map (λ (l : LinkRow). l.link) gs))) (differ same_number (map (λ (l : LinkRow). l.link) gs)) d in (
      (λ x has. ⊎_elim
          (λ (e : is_at (link_key x.link) (link_key g.link) ≡ true).
          let same : x.link ≡ g.link = number-same x.link g.link (is_at-same (link_key x.link) (link_key g.link) e) in
          absurd (false_true (sym (is-false (list_any (same_number g.link) (map (λ (l : LinkRow). l.link) gs)) two.0)
          ∙ any-number g.link gs (ap (λ (n : LinkNo). list_any (λ y. is_at (link_key n) (link_key y.link)) gs) (sym same) ∙ has))))
          (λ (e : is_at (link_key x.link) (link_key g.link) ≡ false). e)
          (either (is_at (link_key x.link) (link_key g.link)))),
      differ-numbered gs two.1,
    )

any-filter : (p test : LinkRow → Bool) (ls : List LinkRow) → list_any p (filter test ls) ≡ true → list_any p ls ≡ true
any-filter p test [] e = e
any-filter p test (l ∷ ls) e = by (any-filter p test ls) (test l) (p l) e
  where
    by : (list_any p (filter test ls) ≡ true → list_any p ls ≡ true) → (t b : Bool) → list_any p (cond t (l ∷ filter test ls) (filter test ls)) ≡ true → (p l || list_any p ls) ≡ true
    by rest false b any = or-right (p l) (list_any p ls) (rest any)
    by rest true b any = more (p l) any
      where
        more : (a : Bool) → (a || list_any p (filter test ls)) ≡ true → (a || list_any p ls) ≡ true
        more true here = refl
        more false there = rest there

numbered-filter : (test : LinkRow → Bool) (ls : List LinkRow) → AreNumbered ls → AreNumbered (filter test ls)
numbered-filter test [] once = tt
numbered-filter test (l ∷ ls) once = by (test l) (numbered-filter test ls once.1)
  where
    by : (b : Bool) → AreNumbered (filter test ls) → AreNumbered (cond b (l ∷ filter test ls) (filter test ls))
    by true rest = ((λ x has. once.0 x (any-filter (λ y. is_at (link_key x.link) (link_key y.link)) test ls has)), rest)
    by false rest = rest

pub fits-numbers : (s : State) → HaveFits s → HaveNumbers s
fits-numbers s fit tx t at =
    numbered-filter (λ x. not (list_any (λ y. same_number x.link y.link) (links t.copy))) (links t.base)
    (differ-numbered (links t.base) (both (rows_fit t.base) (differ same_number (map (λ (l : LinkRow). l.link) (links t.base))) (fit.bases tx t at)).1)

-- each step

fits-fewer : (s later : State) → HaveFits s → later.commits ≡ s.commits → ((q : ℕ) (t : Txn) → maps.get later.txs q ≡ Some t → maps.get s.txs q ≡ Some t) → HaveFits later
fits-fewer s later fit same was = record {
  committed = ap (λ (cs : List Commit). fits (tables_after [] cs)) same ∙ fit.committed;
  bases = λ q t at. fit.bases q t (was q t at);
}

fits-put : (s : State) (tx : ℕ) (t : Txn) → HaveFits s → fits t.base ≡ true → HaveFits (with_txn s tx t)
fits-put s tx t fit base = record {
  committed = fit.committed;
  bases = λ q x at. put-was s tx t q x at (λ y. fits y.base ≡ true) base (λ was. fit.bases q x was);
}

evaluated-base : (s : State) (tx : ℕ) (t : Txn) (e : Evaluated) → (by_evaluated s tx t e).1.base ≡ t.base
evaluated-base s tx t e = by e.refused (same_moved (moved_of t) (moved_of (made_by t e)))
  where
    claim : (o : Option Refusal) → (claimed s e.answer t (made_by t e) o).1.base ≡ t.base
    claim (Some why) = refl
    claim None = refl

    by : (r m : Bool) → (cond r (e.answer, t) (cond m (e.answer, (made_by t e)) (claimed s e.answer t (made_by t e) (claim_refusal s tx (made_by t e))))).1.base ≡ t.base
    by true m = refl
    by false true = refl
    by false false = claim (claim_refusal s tx (made_by t e))

statement-base : (s : State) (tx : ℕ) (t : Txn) (stmt : Stmt) → (statement s tx t stmt).1.base ≡ t.base
statement-base s tx t stmt = evaluated-base s tx (record t { named = with_names t.named (named_by stmt) }) (evaluated t.copy stmt (context_of s tx) t.next)

module _ (s : State) (fit : HaveFits s) (tx : ℕ) (t : Txn) (at : maps.get s.txs tx ≡ Some t) where
  fits-ended : (session : ℕ) → HaveFits (ended s session tx)
  fits-ended session = fits-fewer s (ended s session tx) fit refl (λ q x is. gone-was s tx q x is)

  fits-finished : (session : ℕ) → HaveFits (ended (settled_by s t) session tx)
  fits-finished session = fits-fewer s (ended (settled_by s t) session tx) fit refl (λ q x is. gone-was s tx q x is)

  fits-committed : fits (merged_by s t) ≡ true → HaveFits (committed s tx t)
  fits-committed merged =
      let put = fits-put s tx (with_phase t phases.Decided) fit (fit.bases tx t at) in
      record { committed = ap fits (tables-push [] (commit_by s tx t) s.commits) ∙ merged; bases = put.bases }

  on-decide : AreMerged s → (session : ℕ) (p : Phase) → t.phase ≡ p → HaveFits (on_txn s (steps.Decide session) tx t p).1
  on-decide merges session phases.Active is = fit
  on-decide merges session phases.Prepared is = by (same_tables t.base t.copy)
    where
      conflicts : (o : Option Refusal) → conflict t.base (tables_of s) t.named ≡ o → HaveFits (by_conflict s session tx t o).1
      conflicts (Some why) e = fits-ended session
      conflicts None e = fits-committed (merges tx t at (ap is_prepared is) e).fit

      by : (b : Bool) → HaveFits (cond b (answers.Done, ended s session tx) (by_conflict s session tx t (conflict t.base (tables_of s) t.named))).1
      by true = fits-ended session
      by false = conflicts (conflict t.base (tables_of s) t.named) refl
  on-decide merges session phases.Decided is = fit
  on-decide merges session phases.Finished is = fit
  on-decide merges session phases.Dropped is = fit

fits-restored : (s : State) (t : Target) → HaveFits s → AreRestored s t → HaveFits (restore s t (first_session s)).1
fits-restored s t fit owed = by (first_session s) refl
  where
    at : (target : Tables) (o : Option (List ℕ)) → (o ≡ None → fits (restore_to s target) ≡ true) → HaveFits (restore_at s target o).1
    at target (Some path) fitting = fit
    at target None fitting = record { committed = ap fits (tables-push [] (commit_to s.commits (number_of (drawing s)) (has_links (restore_moved s (restore_to s target))) (restore_to s target)) s.commits) ∙ fitting refl; bases = fit.bases }

    found : first_session s ≡ None → unfinished s ≡ None → (o : Option Tables) → target_tables s t ≡ o → HaveFits (restore_found s t o).1
    found none all None is = fit
    found none all (Some target) is = at target (in_the_way s.files s.copies (gives (tables_of s) target) (filter (λ l. not (lost_to s target l)) (takes (tables_of s) target))) (λ passed. (owed target none all is passed).fit)

    idle : first_session s ≡ None → (o : Option (ℕ × Txn)) → unfinished s ≡ o → HaveFits (restore_idle s t o).1
    idle none (Some e) all = fit
    idle none None all = found none all (target_tables s t) refl

    by : (o : Option ℕ) → first_session s ≡ o → HaveFits (restore s t o).1
    by (Some session) none = fit
    by None none = idle none (unfinished s) refl

-- THE INVARIANT OF TABLES
pub fits-kept : (s : State) (x : Step) → HaveFits s → AreMerged s → ((t : Target) → AreRestored s t) → HaveFits (step s x).1
unfolding step
fits-kept s (steps.Begin session) fit merges owed = by (txn_of s session)
  where
    by : (o : Option (ℕ × Txn)) → HaveFits (begin s session o).1
    by (Some e) = fit
    by None =
        let put = fits-put (drawing s) (number_of (drawing s)) (new_txn (tables_of s)) (record { committed = fit.committed; bases = fit.bases }) fit.committed in
        record { committed = put.committed; bases = put.bases }
fits-kept s (steps.Statement session stmt) fit merges owed = with-session HaveFits s session (steps.Statement session stmt) fit
    (λ tx t at of. at-statement HaveFits s fit tx t session stmt t.phase (fits-put s tx (statement s tx t stmt).1 fit (ap fits (statement-base s tx t stmt) ∙ fit.bases tx t at)))
fits-kept s (steps.Prepare session) fit merges owed = with-session HaveFits s session (steps.Prepare session) fit (λ tx t at of. at-prepare HaveFits s fit tx t session t.phase (fits-put s tx (with_phase t phases.Prepared) fit (fit.bases tx t at)))
fits-kept s (steps.Decide session) fit merges owed = with-session HaveFits s session (steps.Decide session) fit (λ tx t at of. on-decide s fit tx t at merges session t.phase refl)
fits-kept s (steps.Finish session) fit merges owed = with-session HaveFits s session (steps.Finish session) fit (λ tx t at of. at-finish HaveFits s fit tx t session t.phase (fits-finished s fit tx t at session))
fits-kept s (steps.Rollback session) fit merges owed = with-session HaveFits s session (steps.Rollback session) fit (λ tx t at of. at-rollback HaveFits s fit tx t session t.phase (fits-ended s fit tx t at session))
fits-kept s (steps.File cmd) fit merges owed = at-file HaveFits s fit cmd (λ files. record { committed = fit.committed; bases = fit.bases })
fits-kept s (steps.Archive n) fit merges owed = at-archive HaveFits s fit n (λ copies. record { committed = fit.committed; bases = fit.bases })
fits-kept s steps.Backup fit merges owed = at-backup HaveFits s fit (λ backups. record { committed = fit.committed; bases = fit.bases })
fits-kept s (steps.Restore t) fit merges owed = fits-restored s t fit (owed t)
fits-kept s (steps.Tick n) fit merges owed = record { committed = fit.committed; bases = fit.bases }
fits-kept s steps.CrashManager fit merges owed = record { committed = fit.committed; bases = fit.bases }
fits-kept s steps.CrashDatabase fit merges owed = fits-fewer s (crash_database s) fit refl (bound-was s)
fits-kept s steps.Resolve fit merges owed = fits-fewer s (resolve s).1 fit (resolve-same (λ (x : State). x.commits) (λ x tx. refl) (λ x t. refl) s)
    (λ q t at. finish-all-was s.commits s q t (drop-all-was (maps.keys s.txs) (finish_all s s.commits) q t at))
