-- What a vote and a decision write, and that it stays written.
use Rattle.std.proofs.Common.{◌≡◌, ℕ, suc, ◌+◌, ◌-◌, ◌<◌, List, [], ◌∷◌, ◌++◌, true, false, not, Option, Some, None, refl, sym, ◌∙◌, ap, subst, arith}
use Rattle.std.proofs.lemmas.List.{append_assoc}
use Rattle.std.proofs.lemmas.List.Elements.{Contains-append_left, Contains-append_right, Contains-push}
use Rattle.std.specs.List.{Contains}
use Rattle.dl_base.specs.declared.answer.Answer.{Answer}
use Rattle.dl_base.specs.declared.answer.Answer.TheVariants as answers
use Rattle.dl_base.specs.declared.answer.Refusal.{Refusal}
use Rattle.dl_base.specs.declared.answer.Refusal.TheVariants as reasons
use Rattle.dl_base.specs.declared.step.Phase.{Phase}
use Rattle.dl_base.specs.declared.step.Phase.TheVariants as phases
use Rattle.dl_base.specs.declared.step.Step.{Step}
use Rattle.dl_base.specs.declared.step.Step.TheVariants as steps
use Rattle.meaning_areas.specs.Lists.{Written}
use Rattle.meaning_areas.proofs.Tables.{some_same}
use Rattle.meaning_run.specs.Running.{Run, after, next_step, step_writes, turn, written}
use Rattle.meaning_run.proofs.Turns.{written-after}
use Rattle.meaning_system.specs.Machine.{on_session, on_txn, step}
use Rattle.meaning_system.specs.State.{State, Txn, has_links, moved_of, txn_of}
use Rattle.dl_base.specs.Answers.{is_refused}
use Rattle.meaning_system.specs.Writes.{decide_writes, prepared, session_writes, txn_writes, when, writes}
use Rattle.meaning_promises.specs.Promises.{IsDecision, IsVote, decision_record, vote_record}

abbrev IsDone : Answer → Type 0
IsDone answers.Done = Unit {0}
IsDone _ = ⊥

abbrev pub IsCommitted : Answer → Type 0
IsCommitted (answers.Committed c) = Unit {0}
IsCommitted _ = ⊥

pub not-done : (why : Refusal) → answers.Refused why ≡ answers.Done → ⊥
not-done why e = subst IsDone (sym e) tt

pub not-committed : (why : Refusal) (c : ℕ) → answers.Refused why ≡ answers.Committed c → ⊥
not-committed why c e = subst IsCommitted (sym e) tt

pub none_some : {A : Type 0} (x : A) → None ≡ Some x → ⊥
none_some x e = cc

-- VOTES

on-vote : (s : State) (session tx : ℕ) (t : Txn) (p : Phase) → (on_txn s (steps.Prepare session) tx t p).0 ≡ answers.Done → txn_writes s (steps.Prepare session) tx t p (on_txn s (steps.Prepare session) tx t p).0 ≡ prepared tx (moved_of t)
on-vote s session tx t phases.Active e = ap (λ (a : Answer). when (not (is_refused a)) (prepared tx (moved_of t))) e
on-vote s session tx t phases.Prepared e = absurd (not-done (reasons.WrongPhase phases.Prepared) e)
on-vote s session tx t phases.Decided e = absurd (not-done (reasons.WrongPhase phases.Decided) e)
on-vote s session tx t phases.Finished e = absurd (not-done (reasons.WrongPhase phases.Finished) e)
on-vote s session tx t phases.Dropped e = absurd (not-done (reasons.WrongPhase phases.Dropped) e)

pub vote-all : (s : State) (session tx : ℕ) (t : Txn) → IsVote s session tx t → writes s (steps.Prepare session) ≡ prepared tx (moved_of t)
unfolding step writes
vote-all s session tx t vote = by (txn_of s session) vote.whose vote.answer
  where
    by : (o : Option (ℕ × Txn)) → o ≡ Some (tx, t) → (on_session s (steps.Prepare session) o).0 ≡ answers.Done → session_writes s (steps.Prepare session) (on_session s (steps.Prepare session) o).0 o ≡ prepared tx (moved_of t)
    by None is e = absurd (none_some (tx, t) is)
    by (Some x) is e = on-vote s session x.0 x.1 x.1.phase e ∙ ap (λ (y : ℕ × Txn). prepared y.0 (moved_of y.1)) (some_same x (tx, t) is)

pub vote-linked : (s : State) (session tx : ℕ) (t : Txn) → IsVote s session tx t → has_links (moved_of t) ≡ true → writes s (steps.Prepare session) ≡ vote_record tx t ∷ []
vote-linked s session tx t vote has = vote-all s session tx t vote ∙ ap (λ b. when b (vote_record tx t ∷ [])) has

pub vote-plain : (s : State) (session tx : ℕ) (t : Txn) → IsVote s session tx t → has_links (moved_of t) ≡ false → writes s (steps.Prepare session) ≡ []
vote-plain s session tx t vote none = vote-all s session tx t vote ∙ ap (λ b. when b (vote_record tx t ∷ [])) none

no-vote : (s : State) (session tx : ℕ) (t : Txn) (why : Refusal) (p : Phase) → (on_txn s (steps.Prepare session) tx t p).0 ≡ answers.Refused why → txn_writes s (steps.Prepare session) tx t p (on_txn s (steps.Prepare session) tx t p).0 ≡ []
no-vote s session tx t why phases.Active e = ap (λ (a : Answer). when (not (is_refused a)) (prepared tx (moved_of t))) e
no-vote s session tx t why phases.Prepared e = refl
no-vote s session tx t why phases.Decided e = refl
no-vote s session tx t why phases.Finished e = refl
no-vote s session tx t why phases.Dropped e = refl

pub vote-refused : (s : State) (session : ℕ) (why : Refusal) → (step s (steps.Prepare session)).0 ≡ answers.Refused why → writes s (steps.Prepare session) ≡ []
unfolding step writes
vote-refused s session why answer = by (txn_of s session) answer
  where
    by : (o : Option (ℕ × Txn)) → (on_session s (steps.Prepare session) o).0 ≡ answers.Refused why → session_writes s (steps.Prepare session) (on_session s (steps.Prepare session) o).0 o ≡ []
    by None e = refl
    by (Some x) e = no-vote s session x.0 x.1 why x.1.phase e

pub vote-whose : (s : State) (session : ℕ) → (step s (steps.Prepare session)).0 ≡ answers.Done → (tx : ℕ) × (t : Txn) × IsVote s session tx t
unfolding step
vote-whose s session answer = by (txn_of s session) refl answer
  where
    by : (o : Option (ℕ × Txn)) → txn_of s session ≡ o → (on_session s (steps.Prepare session) o).0 ≡ answers.Done → (tx : ℕ) × (t : Txn) × IsVote s session tx t
    by None is e = absurd (not-done reasons.NoTransaction e)
    by (Some x) is e = (x.0, x.1, record { answer = answer; whose = is })

-- DECISIONS

on-decision : (s : State) (session tx c : ℕ) (t : Txn) (p : Phase) → (on_txn s (steps.Decide session) tx t p).0 ≡ answers.Committed c → txn_writes s (steps.Decide session) tx t p (on_txn s (steps.Decide session) tx t p).0 ≡ decision_record tx t c ∷ []
on-decision s session tx c t phases.Active e = absurd (not-committed (reasons.WrongPhase phases.Active) c e)
on-decision s session tx c t phases.Prepared e = ap (decide_writes s tx t) e
on-decision s session tx c t phases.Decided e = absurd (not-committed (reasons.WrongPhase phases.Decided) c e)
on-decision s session tx c t phases.Finished e = absurd (not-committed (reasons.WrongPhase phases.Finished) c e)
on-decision s session tx c t phases.Dropped e = absurd (not-committed (reasons.WrongPhase phases.Dropped) c e)

pub decision-all : (s : State) (session tx c : ℕ) (t : Txn) → IsDecision s session tx t c → writes s (steps.Decide session) ≡ decision_record tx t c ∷ []
unfolding step writes
decision-all s session tx c t decision = by (txn_of s session) decision.whose decision.answer
  where
    by : (o : Option (ℕ × Txn)) → o ≡ Some (tx, t) → (on_session s (steps.Decide session) o).0 ≡ answers.Committed c → session_writes s (steps.Decide session) (on_session s (steps.Decide session) o).0 o ≡ decision_record tx t c ∷ []
    by None is e = absurd (none_some (tx, t) is)
    by (Some x) is e = on-decision s session x.0 c x.1 x.1.phase e ∙ ap (λ (y : ℕ × Txn). decision_record y.0 y.1 c ∷ []) (some_same x (tx, t) is)

pub decision-whose : (s : State) (session c : ℕ) → (step s (steps.Decide session)).0 ≡ answers.Committed c → (tx : ℕ) × (t : Txn) × IsDecision s session tx t c
unfolding step
decision-whose s session c answer = by (txn_of s session) refl answer
  where
    by : (o : Option (ℕ × Txn)) → txn_of s session ≡ o → (on_session s (steps.Decide session) o).0 ≡ answers.Committed c → (tx : ℕ) × (t : Txn) × IsDecision s session tx t c
    by None is e = absurd (not-committed reasons.NoTransaction c e)
    by (Some x) is e = (x.0, x.1, record { answer = answer; whose = is })

-- RECORDS STAY

behind : (k n : ℕ) → k < n → k + suc (n - (k + 1)) ≡ n
behind k n lt = omega (arith, lt)

pub stay : (k n : ℕ) (r : Run) → k < n → (later : List Written) × (written n r ≡ written k r ++ step_writes (after k r).state (next_step (after k r)) ++ later)
stay k n r lt =
    let later : List Written = written (n - (k + 1)) (turn (after k r)) in
    (later, sym (append_assoc (written k r) (step_writes (after k r).state (next_step (after k r))) later ∙ written-after k (suc (n - (k + 1))) r ∙ ap (λ (j : ℕ). written j r) (behind k n lt)))

-- a record of a turn
module _ (k n : ℕ) (r : Run) (lt : k < n) (asked : Step) (next : next_step (after k r) ≡ Some asked) where
  pub among : (x : Written) → writes (after k r).state asked ≡ x ∷ [] → Contains (written n r) x
  among x is =
      let one = stay k n r lt in
      let made : List Written = step_writes (after k r).state (next_step (after k r)) in
      let here : Contains made x = subst (λ (xs : List Written). Contains xs x) (sym (ap (step_writes (after k r).state) next ∙ is)) (Contains-push [] x) in
      subst (λ (xs : List Written). Contains xs x) (sym one.1) (Contains-append_left (written k r ++ made) one.0 x (Contains-append_right (written k r) made x here))
