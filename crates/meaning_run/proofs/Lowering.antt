-- A step of COMMIT that is not refused brings its transaction nearer to its end.
use Rattle.std.proofs.Common.{◌≡◌, ◌⊎◌, inl, inr, ℕ, ◌<◌, Bool, true, false, cond, Option, Some, None, refl, sym, ap, ◌∙◌, subst, arith}
use Rattle.std.specs.FinMap as maps
use Rattle.std.specs.Cmp.{nat_cmp_total, unsigned_tied}
use Rattle.std.specs.Ordering.{nat_cmp}
use Rattle.dl_base.specs.declared.answer.Answer.{Answer}
use Rattle.dl_base.specs.declared.answer.Answer.TheVariants as answers
use Rattle.dl_base.specs.declared.answer.Refusal.{Refusal}
use Rattle.dl_base.specs.declared.step.Phase.{Phase}
use Rattle.dl_base.specs.declared.step.Phase.TheVariants as phases
use Rattle.dl_base.specs.declared.step.Step.{Step}
use Rattle.dl_base.specs.declared.step.Step.TheVariants as steps
use Rattle.meaning_areas.proofs.Tables.{get-here, some_same, test-same}
use Rattle.meaning_run.specs.Running.{phase_in}
use Rattle.dl_base.specs.Answers.{is_refused}
use Rattle.meaning_script.specs.Expansion.{step_from}
use Rattle.meaning_system.proofs.Leading.{txn-there}
use Rattle.meaning_system.specs.Claims.{conflict, prepare_refusal}
use Rattle.meaning_system.specs.Machine.{by_conflict, committed, decide, next_commit, on_session, on_txn, settled_by, step, voted, with_phase}
use Rattle.meaning_system.specs.State.{State, Txn, ended, numbered_txn, tables_of, txn_at, txn_of, with_txn}
use Rattle.meaning_areas.specs.Same.{same_tables}

-- how many steps a COMMIT takes at most from a phase on
abbrev pub weight : Option Phase → ℕ
weight (Some phases.Active) = 3
weight (Some phases.Prepared) = 2
weight (Some phases.Decided) = 1
weight _ = 0

abbrev pub weight_in : State → ℕ → ℕ
weight_in s n = weight (phase_in (txn_of s n))

-- it is refused, or fewer steps are left
abbrev pub Lowers : ℕ → ℕ → Answer × State → Type 0
Lowers w n r = (is_refused r.0 ≡ true) ⊎ (weight_in r.1 n < w)

none_some : {A : Type 0} (x : A) → None ≡ Some x → ⊥
none_some x e = cc

gone-here : (m : maps.FinMap nat_cmp ℕ) (k : ℕ) → maps.get (maps.remove m k) k ≡ None
gone-here m k =
    maps.get-remove nat_cmp_total m k k
    ∙ ap (λ b. cond b None (maps.get m k)) (unsigned_tied k k ∙ test-same k k refl)

ended-txn : (s : State) (session tx : ℕ) → txn_of (ended s session tx) session ≡ None
ended-txn s session tx = ap (txn_at (ended s session tx)) (gone-here s.sessions session)

put-txn : (s later : State) (session tx : ℕ) (t : Txn) → later.sessions ≡ s.sessions → later.txs ≡ maps.insert s.txs tx t → maps.get s.sessions session ≡ Some tx → txn_of later session ≡ Some (tx, t)
put-txn s later session tx t sessions txs of =
    ap (txn_at later) (ap (λ (m : maps.FinMap nat_cmp ℕ). maps.get m session) sessions ∙ of)
    ∙ ap (numbered_txn tx) (ap (λ (m : maps.FinMap nat_cmp Txn). maps.get m tx) txs ∙ get-here s.txs tx t)

module _ (s : State) (n tx : ℕ) (t : Txn) (of : txn_of s n ≡ Some (tx, t)) where
  seat : maps.get s.sessions n ≡ Some tx
  seat = (txn-there s (maps.get s.sessions n) (tx, t) of).1

  ended-low : (w : ℕ) (later : State) (a : Answer) → 0 < w → txn_of later n ≡ None → Lowers w n (a, later)
  ended-low w later a some none = inr (subst (λ (k : ℕ). k < w) (sym (ap (λ o. weight (phase_in o)) none)) some)

  put-low : (w : ℕ) (later : State) (a : Answer) (p : Phase) → weight (Some p) < w → later.sessions ≡ s.sessions → later.txs ≡ maps.insert s.txs tx (with_phase t p) → Lowers w n (a, later)
  put-low w later a p less sessions txs = inr (subst (λ (k : ℕ). k < w) (sym (ap (λ o. weight (phase_in o)) (put-txn s later n tx (with_phase t p) sessions txs seat))) less)

  voted-low : (why : Option Refusal) → Lowers 3 n (voted s tx t why)
  voted-low (Some why) = inl refl
  voted-low None = put-low 3 (with_txn s tx (with_phase t phases.Prepared)) answers.Done phases.Prepared (omega arith) refl refl

  conflict-low : (why : Option Refusal) → Lowers 2 n (by_conflict s n tx t why)
  conflict-low (Some why) = inl refl
  conflict-low None = put-low 2 (committed s tx t) (answers.Committed (next_commit s)) phases.Decided (omega arith) refl refl

  decided-low : (b : Bool) → same_tables t.base t.copy ≡ b → Lowers 2 n (decide s n tx t)
  decided-low true same = subst (Lowers 2 n) (sym (ap (λ c. cond c (answers.Done, ended s n tx) (by_conflict s n tx t (conflict t.base (tables_of s) t.named))) same)) (ended-low 2 (ended s n tx) answers.Done (omega arith) (ended-txn s n tx))
  decided-low false same = subst (Lowers 2 n) (sym (ap (λ c. cond c (answers.Done, ended s n tx) (by_conflict s n tx t (conflict t.base (tables_of s) t.named))) same)) (conflict-low (conflict t.base (tables_of s) t.named))

  -- the step that its phase needs next
  by-phase : (p : Phase) → t.phase ≡ p → (x : Step) → step_from n (Some p) ≡ Some x → Lowers (weight (Some p)) n (on_session s x (Some (tx, t)))
  by-phase phases.Active is x next =
      subst (λ (y : Step). Lowers 3 n (on_session s y (Some (tx, t)))) (some_same (steps.Prepare n) x next)
      (subst (Lowers 3 n) (sym (ap (on_txn s (steps.Prepare n) tx t) is)) (voted-low (prepare_refusal s t)))
  by-phase phases.Prepared is x next =
      subst (λ (y : Step). Lowers 2 n (on_session s y (Some (tx, t)))) (some_same (steps.Decide n) x next)
      (subst (Lowers 2 n) (sym (ap (on_txn s (steps.Decide n) tx t) is)) (decided-low (same_tables t.base t.copy) refl))
  by-phase phases.Decided is x next =
      subst (λ (y : Step). Lowers 1 n (on_session s y (Some (tx, t)))) (some_same (steps.Finish n) x next)
      (subst (Lowers 1 n) (sym (ap (on_txn s (steps.Finish n) tx t) is)) (ended-low 1 (ended (settled_by s t) n tx) answers.Done (omega arith) (ended-txn (settled_by s t) n tx)))
  by-phase phases.Finished is x next = absurd (none_some x next)
  by-phase phases.Dropped is x next = absurd (none_some x next)

-- a step of the session's own, as it is taken
own-step : (s : State) (n : ℕ) (o : Option Phase) (x : Step) → step_from n o ≡ Some x → step s x ≡ on_session s x (txn_of s n)
unfolding step
own-step s n (Some phases.Active) x next = subst (λ (y : Step). step s y ≡ on_session s y (txn_of s n)) (some_same (steps.Prepare n) x next) refl
own-step s n (Some phases.Prepared) x next = subst (λ (y : Step). step s y ≡ on_session s y (txn_of s n)) (some_same (steps.Decide n) x next) refl
own-step s n (Some phases.Decided) x next = subst (λ (y : Step). step s y ≡ on_session s y (txn_of s n)) (some_same (steps.Finish n) x next) refl
own-step s n (Some phases.Finished) x next = absurd (none_some x next)
own-step s n (Some phases.Dropped) x next = absurd (none_some x next)
own-step s n None x next = absurd (none_some x next)

pub commit-lowers : (s : State) (n : ℕ) (x : Step) → step_from n (phase_in (txn_of s n)) ≡ Some x → Lowers (weight_in s n) n (step s x)
commit-lowers s n x next = subst (Lowers (weight_in s n) n) (sym (own-step s n (phase_in (txn_of s n)) x next)) (by (txn_of s n) refl next)
  where
    by : (o : Option (ℕ × Txn)) → txn_of s n ≡ o → step_from n (phase_in o) ≡ Some x → Lowers (weight (phase_in o)) n (on_session s x o)
    by None of next = absurd (none_some x next)
    by (Some e) of next = by-phase s n e.0 e.1 of e.1.phase refl x next

-- without such a phase, one Prepare is refused
pub prepare-refused : (s : State) (n : ℕ) → step_from n (phase_in (txn_of s n)) ≡ None → is_refused (step s (steps.Prepare n)).0 ≡ true
unfolding step
prepare-refused s n none = by (txn_of s n) none
  where
    by-its : (e : ℕ × Txn) (p : Phase) → step_from n (Some p) ≡ None → is_refused (on_txn s (steps.Prepare n) e.0 e.1 p).0 ≡ true
    by-its e phases.Active none = absurd cc
    by-its e phases.Prepared none = refl
    by-its e phases.Decided none = refl
    by-its e phases.Finished none = refl
    by-its e phases.Dropped none = refl

    by : (o : Option (ℕ × Txn)) → step_from n (phase_in o) ≡ None → is_refused (on_session s (steps.Prepare n) o).0 ≡ true
    by None none = refl
    by (Some e) none = by-its e e.1.phase none
