-- A backup that is made is complete.
use Rattle.std.proofs.Common.{◌≡◌, ⊎_elim, ℕ, suc, ◌+◌, ◌&&◌, List, [], ◌∷◌, ◌++◌, Bool, true, false, not, cond, filter, length, slice_get, Option, Some, None, is_none, is_some, refl, sym, ◌∙◌, ap, arith}
use Rattle.std.specs.FinMap as maps
use Rattle.std.specs.List.{find, flat_map}
use Rattle.dl_base.specs.declared.answer.Answer.TheVariants as answers
use Rattle.dl_base.specs.declared.answer.Refusal.{Refusal}
use Rattle.dl_base.specs.declared.step.Phase.{Phase}
use Rattle.dl_base.specs.declared.step.Phase.TheVariants as phases
use Rattle.dl_base.specs.declared.step.Step.TheVariants as steps
use Rattle.dl_base.specs.declared.step.Target.TheVariants as targets
use Rattle.dl_base.specs.declared.value.LinkRow.{LinkRow}
use Rattle.meaning_areas.specs.Copies.{Backup}
use Rattle.meaning_merge.specs.Touching.{In}
use Rattle.meaning_settling.specs.Settling.{Copy, link_key}
use Rattle.meaning_settling.proofs.KeyedLaws.{false_true}
use Rattle.meaning_tables.specs.Links.{links}
use Rattle.meaning_system.specs.Machine.{back_up, back_up_at, decided_takes, has_link, is_unfinished, pending, step, tables_in, target_tables, unfinished}
use Rattle.meaning_system.specs.State.{State, Txn, is_active, is_decided, moved_of, tables_of}
use Rattle.meaning_restored.specs.Back.{IsComplete}

not-refused : (why : Refusal) (n : ℕ) → answers.Refused why ≡ answers.BackedUp n → ⊥
not-refused why n e = cc

number-of : (m n : ℕ) → answers.BackedUp m ≡ answers.BackedUp n → m ≡ n
number-of m n e = cc

plus-one : (n : ℕ) → n + 1 ≡ suc n
plus-one n = omega arith

last-backup : (bs : List Backup) (b : Backup) → slice_get (bs ++ b ∷ []) (length bs) ≡ Some b
last-backup [] b = refl
last-backup (x ∷ xs) b = last-backup xs b

-- nothing passes a test
none-left : (p : LinkRow → Bool) (ls : List LinkRow) (l : LinkRow) → filter p ls ≡ [] → In l ls → p l ≡ false
none-left p [] l e is = absurd is
none-left p (x ∷ xs) l e is = by (p x) refl e (λ rest there. none-left p xs l rest there)
  where
    by : (b : Bool) → p x ≡ b → cond b (x ∷ filter p xs) (filter p xs) ≡ [] → (filter p xs ≡ [] → In l xs → p l ≡ false) → p l ≡ false
    by true at rest go = absurd cc
    by false at rest go = ⊎_elim (λ (here : l ≡ x). ap p here ∙ at) (λ (later : In l xs). go rest later) is

-- nothing is taken by a decided transaction, since there is none
no-takes : (es : List (ℕ × Txn)) → find is_unfinished es ≡ None → flat_map decided_takes es ≡ []
no-takes [] e = refl
no-takes (x ∷ xs) e = by x.1.phase e (λ rest. no-takes xs rest)
  where
    some_none : (y : ℕ × Txn) → Some y ≡ None → ⊥
    some_none y is = cc

    by : (p : Phase) → cond (not (is_active p)) (Some x) (find is_unfinished xs) ≡ None → (find is_unfinished xs ≡ None → flat_map decided_takes xs ≡ []) → (cond (is_decided p) (moved_of x.1).takes [] ++ flat_map decided_takes xs) ≡ []
    by phases.Active is go = go is
    by phases.Prepared is go = absurd (some_none x is)
    by phases.Decided is go = absurd (some_none x is)
    by phases.Finished is go = absurd (some_none x is)
    by phases.Dropped is go = absurd (some_none x is)

some-copy : (r h : Bool) (o : Option Copy) → r ≡ true → h ≡ false → (r && is_none o && not h) ≡ false → is_some o ≡ true
some-copy r h (Some c) a b e = refl
some-copy true false None a b e = absurd (false_true (sym e))
some-copy true true None a b e = absurd (false_true (sym b))
some-copy false h None a b e = absurd (false_true a)

abbrev made : State → Backup
made s = record { commit = length s.commits; tables = tables_of s }

abbrev behind : State → State
behind s = record s { backups = s.backups ++ made s ∷ [] }

pub complete : (s : State) (n : ℕ) → (step s steps.Backup).0 ≡ answers.BackedUp n → IsComplete (step s steps.Backup).1 n (tables_of s)
unfolding step
complete s n answer = by (unfinished s) refl answer
  where
    has : unfinished s ≡ None → pending s ≡ [] → length s.backups + 1 ≡ n → IsComplete (behind s) n (tables_of s)
    has none empty number = record {
      is = ap (λ (m : ℕ). target_tables (behind s) (targets.Backup m)) (sym number ∙ plus-one (length s.backups)) ∙ ap tables_in (last-backup s.backups (made s));
      copied = λ l is recovery. some-copy l.options.recovery (has_link l.link (flat_map decided_takes (maps.entries s.txs))) (maps.get s.copies (link_key l.link)) recovery
          (ap (has_link l.link) (no-takes (maps.entries s.txs) none))
          (none-left (λ (x : LinkRow). x.options.recovery && is_none (maps.get s.copies (link_key x.link)) && not (has_link x.link (flat_map decided_takes (maps.entries s.txs)))) (links (tables_of s)) l empty is);
    }

    at : unfinished s ≡ None → (ls : List LinkRow) → pending s ≡ ls → (back_up_at s ls).0 ≡ answers.BackedUp n → IsComplete (back_up_at s ls).1 n (tables_of s)
    at none [] empty e = has none empty (number-of (length s.backups + 1) n e)
    at none (l ∷ ls) more e = absurd (not-refused _ n e)

    by : (o : Option (ℕ × Txn)) → unfinished s ≡ o → (back_up s o).0 ≡ answers.BackedUp n → IsComplete (back_up s o).1 n (tables_of s)
    by (Some x) is e = absurd (not-refused _ n e)
    by None is e = at is (pending s) refl e
