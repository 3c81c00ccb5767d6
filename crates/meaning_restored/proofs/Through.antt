-- A restore that is answered Restored was let through, and leads to the restored state.
use Rattle.std.proofs.Common.{◌≡◌, ℕ, not, List, filter, Option, Some, None, refl, ◌∙◌, ap}
use Rattle.dl_base.specs.declared.answer.Answer.TheVariants as answers
use Rattle.dl_base.specs.declared.answer.Lost.{Lost}
use Rattle.dl_base.specs.declared.answer.Refusal.{Refusal}
use Rattle.dl_base.specs.declared.step.Step.TheVariants as steps
use Rattle.dl_base.specs.declared.step.Target.{Target}
use Rattle.meaning_merge.specs.Restoring.{in_the_way, lost_cells}
use Rattle.meaning_tables.specs.Links.{gives, takes}
use Rattle.meaning_tables.specs.Tables.{Tables}
use Rattle.meaning_system.specs.Machine.{first_session, lost_to, next_commit, restore, restore_at, restore_found, restore_idle, restore_to, restored_state, step, target_tables, unfinished}
use Rattle.meaning_system.specs.State.{State, Txn, tables_of}

pub record IsThrough (s : State) (t : Target) (c : ℕ) (lost : List Lost) : Type 0 where
  pub target : Tables
  pub none : first_session s ≡ None
  pub all : unfinished s ≡ None
  pub is : target_tables s t ≡ Some target
  pub number : next_commit s ≡ c
  pub lost_is : lost_cells (lost_to s target) target ≡ lost
  pub later : (step s (steps.Restore t)).1 ≡ restored_state s (restore_to s target)

not-refused : (why : Refusal) (c : ℕ) (lost : List Lost) → answers.Refused why ≡ answers.Restored c lost → ⊥
not-refused why c lost e = cc

number-of : (m n : ℕ) (ls ks : List Lost) → answers.Restored m ls ≡ answers.Restored n ks → m ≡ n
number-of m n ls ks e = cc

lost-of : (m n : ℕ) (ls ks : List Lost) → answers.Restored m ls ≡ answers.Restored n ks → ls ≡ ks
lost-of m n ls ks e = cc

abbrev way : State → Tables → Option (List ℕ)
way s target = in_the_way s.files s.copies (gives (tables_of s) target) (filter (λ l. not (lost_to s target l)) (takes (tables_of s) target))

pub through : (s : State) (t : Target) (c : ℕ) (lost : List Lost) → (step s (steps.Restore t)).0 ≡ answers.Restored c lost → IsThrough s t c lost
unfolding step
through s t c lost answer = by (first_session s) refl answer
  where
    at : first_session s ≡ None → unfinished s ≡ None → (target : Tables) → target_tables s t ≡ Some target → (o : Option (List ℕ)) → way s target ≡ o → (restore_at s target o).0 ≡ answers.Restored c lost → IsThrough s t c lost
    at none all target is (Some path) stands e = absurd (not-refused _ c lost e)
    at none all target is None clear e = record {
      target = target;
      none = none;
      all = all;
      is = is;
      number = number-of (next_commit s) c (lost_cells (lost_to s target) target) lost e;
      lost_is = lost-of (next_commit s) c (lost_cells (lost_to s target) target) lost e;
      later = ap (λ (o : Option ℕ). (restore s t o).1) none ∙ ap (λ (o : Option (ℕ × Txn)). (restore_idle s t o).1) all ∙ ap (λ (o : Option Tables). (restore_found s t o).1) is ∙ ap (λ (o : Option (List ℕ)). (restore_at s target o).1) clear;
    }

    found : first_session s ≡ None → unfinished s ≡ None → (o : Option Tables) → target_tables s t ≡ o → (restore_found s t o).0 ≡ answers.Restored c lost → IsThrough s t c lost
    found none all None is e = absurd (not-refused _ c lost e)
    found none all (Some target) is e = at none all target is (way s target) refl e

    idle : first_session s ≡ None → (o : Option (ℕ × Txn)) → unfinished s ≡ o → (restore_idle s t o).0 ≡ answers.Restored c lost → IsThrough s t c lost
    idle none (Some x) is e = absurd (not-refused _ c lost e)
    idle none None is e = found none is (target_tables s t) refl e

    by : (o : Option ℕ) → first_session s ≡ o → (restore s t o).0 ≡ answers.Restored c lost → IsThrough s t c lost
    by (Some session) is e = absurd (not-refused _ c lost e)
    by None is e = idle is (unfinished s) refl e
