-- What a vote writes, and what a decision.
use Rattle.std.proofs.Common.{◌≡◌, ℕ, Bool, true, [], ◌∷◌, Option, Some, None, refl, ap, ◌∙◌}
use Rattle.dl_base.specs.declared.answer.Answer.TheVariants as answers
use Rattle.dl_base.specs.declared.answer.Refusal.{Refusal}
use Rattle.dl_base.specs.declared.step.Phase.{Phase}
use Rattle.dl_base.specs.declared.step.Phase.TheVariants as phases
use Rattle.dl_base.specs.declared.step.Step.{Step}
use Rattle.dl_base.specs.declared.step.Step.TheVariants as steps
use Rattle.meaning_areas.specs.Lists.{Written}
use Rattle.meaning_system.specs.Machine.{on_session, on_txn, step}
use Rattle.meaning_system.specs.State.{State, Txn, has_links, moved_of, txn_of}
use Rattle.meaning_system.specs.Writes.{session_writes, txn_writes, when, writes}
use Rattle.meaning_promises.specs.Promises.{decision_record, vote_record}

refused-done : {X : Type 0} (why : Refusal) → answers.Refused why ≡ answers.Done → X
refused-done why is = absurd cc

refused-commit : {X : Type 0} (why : Refusal) (number : ℕ) → answers.Refused why ≡ answers.Committed number → X
refused-commit why number is = absurd cc

-- the transaction of a session that takes a step, and what the step writes
pub record Writes (s : State) (x : Step) (session : ℕ) (ok : Txn → Type 0) (one : ℕ → Txn → Written) : Type 0 where
  pub tx : ℕ
  pub txn : Txn
  pub is : txn_of s session ≡ Some (tx, txn)
  pub writes_one : ok txn → writes s x ≡ one tx txn ∷ []

module _ (s : State) (n : ℕ) where
  -- a vote that is given
  pub vote-writes : (step s (steps.Prepare n)).0 ≡ answers.Done → Writes s (steps.Prepare n) n (λ t. has_links (moved_of t) ≡ true) vote_record
  unfolding step writes
  vote-writes done = by (txn_of s n) refl done
    where
      at : (e : ℕ × Txn) (ph : Phase) → (on_txn s (steps.Prepare n) e.0 e.1 ph).0 ≡ answers.Done → has_links (moved_of e.1) ≡ true → txn_writes s (steps.Prepare n) e.0 e.1 ph answers.Done ≡ vote_record e.0 e.1 ∷ []
      at e phases.Active answer links = ap (λ (b : Bool). when b (vote_record e.0 e.1 ∷ [])) links
      at e phases.Prepared answer links = refused-done _ answer
      at e phases.Decided answer links = refused-done _ answer
      at e phases.Finished answer links = refused-done _ answer
      at e phases.Dropped answer links = refused-done _ answer

      by : (o : Option (ℕ × Txn)) → txn_of s n ≡ o → (on_session s (steps.Prepare n) o).0 ≡ answers.Done → Writes s (steps.Prepare n) n (λ t. has_links (moved_of t) ≡ true) vote_record
      by None is answer = refused-done _ answer
      by (Some e) is answer = record {
        tx = e.0;
        txn = e.1;
        is = is;
        writes_one = λ links.
            (λ i. session_writes s (steps.Prepare n) (done i) (is i))
            ∙ at e e.1.phase answer links;
      }

  -- a decision that is a commit
  pub decision-writes : (number : ℕ) → (step s (steps.Decide n)).0 ≡ answers.Committed number → Writes s (steps.Decide n) n (λ t. Unit {0}) (λ tx t. decision_record tx t number)
  unfolding step writes
  decision-writes number committed = by (txn_of s n) refl committed
    where
      at : (e : ℕ × Txn) (ph : Phase) → (on_txn s (steps.Decide n) e.0 e.1 ph).0 ≡ answers.Committed number → txn_writes s (steps.Decide n) e.0 e.1 ph (answers.Committed number) ≡ decision_record e.0 e.1 number ∷ []
      at e phases.Prepared answer = refl
      at e phases.Active answer = refused-commit _ number answer
      at e phases.Decided answer = refused-commit _ number answer
      at e phases.Finished answer = refused-commit _ number answer
      at e phases.Dropped answer = refused-commit _ number answer

      by : (o : Option (ℕ × Txn)) → txn_of s n ≡ o → (on_session s (steps.Decide n) o).0 ≡ answers.Committed number → Writes s (steps.Decide n) n (λ t. Unit {0}) (λ tx t. decision_record tx t number)
      by None is answer = refused-commit _ number answer
      by (Some e) is answer = record {
        tx = e.0;
        txn = e.1;
        is = is;
        writes_one = λ any.
            (λ i. session_writes s (steps.Decide n) (committed i) (is i))
            ∙ at e e.1.phase answer;
      }
