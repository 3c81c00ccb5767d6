-- What a run has behind a turn.
use Rattle.std.proofs.Common.{◌≡◌, ◌⊎◌, ⊎_elim, inl, inr, ℕ, zero, suc, ◌+◌, ◌<◌, ◌≤◌, true, List, [], ◌∷◌, ◌++◌, length, Option, Some, refl, sym, ap, ◌∙◌, subst, arith, length-append}
use Rattle.dl_areas.specs.Lists.{HasLists, Journals, Lists, puts}
use Rattle.dl_base.specs.Outside.{CrashState}
use Rattle.dl_base.specs.declared.answer.Answer.TheVariants as answers
use Rattle.dl_base.specs.declared.step.Step.{Step}
use Rattle.dl_base.specs.declared.step.Step.TheVariants as steps
use Rattle.fm_manager.specs.Managed.{as_writes}
use Rattle.meaning_areas.specs.Lists.{Written}
use Rattle.meaning_run.specs.Running.{Read, Run, after, comes_to, met, next_step, step_in, step_on, step_writes, turn, turn_on, turned, written}
use Rattle.meaning_script.specs.Expansion.{Then, answered, does, given, silent}
use Rattle.meaning_system.specs.Machine.{step}
use Rattle.meaning_system.specs.State.{Txn, has_links, moved_of, txn_of}
use Rattle.meaning_system.specs.Writes.{writes}
use Rattle.sys_run.proofs.Turns.{told-grows}
use Rattle.sys_run.specs.Running.{IsInRun, IsPrefix}
use Rattle.sys_promises.proofs.Placed.{assoc, one-there}
use Rattle.sys_promises.proofs.Votes.{decision-writes, vote-writes}
use Rattle.sys_promises.specs.Recorded.{HasRecords, IsThere}
use Rattle.meaning_promises.specs.Promises.{decision_record, vote_record}

-- ---- its records

-- the records of some turns have those of each of them that takes a step
written-has : (k n : ℕ) (r : Run) (x : Step) → k < n → next_step (after k r) ≡ Some x → (earlier : List Written) × (later : List Written) × (written n r ≡ earlier ++ (writes (after k r).state x ++ later))
written-has k zero r x less next = absurd (omega (arith, less))
written-has zero (suc n) r x less next = ([], written n (turn r), ap (λ (o : Option Step). step_writes r.state o ++ written n (turn r)) next)
written-has (suc k) (suc n) r x less next =
    let smaller : k < n = omega (arith, less) in
    let (earlier, later, is) = written-has k n (turn r) x smaller next in
    let first : List Written = step_writes r.state (next_step r) in
    (first ++ earlier, later, ap (λ (l : List Written). first ++ l) is ∙ sym (assoc first earlier (writes (after k (turn r)).state x ++ later)))

module _ {js : Journals} {lists : Lists} {r : Run} {before : Option (List ℕ)} {p : CrashState} (m : IsInRun js lists r before p) where
  pub turn-recorded : (k : ℕ) (x : Step) → k < m.count → next_step (after k r) ≡ Some x → HasRecords lists (writes (after k r).state x) p
  turn-recorded k x less next =
      let (earlier, later, is) = written-has k m.count r x less next in
      let xs : List Written = writes (after k r).state x in
      let all : written m.count r ++ m.front ≡ earlier ++ (xs ++ (later ++ m.front)) =
      ap (λ (l : List Written). l ++ m.front) is ∙ assoc earlier (xs ++ later) m.front ∙ ap (λ (l : List Written). earlier ++ l) (assoc xs later m.front) in
      record { earlier = earlier; later = later ++ m.front; has = subst (λ (l : List Written). HasLists (puts (as_writes l) lists) p) all m.has }

  pub vote-there : (k session : ℕ) → k < m.count → next_step (after k r) ≡ Some (steps.Prepare session) → (step (after k r).state (steps.Prepare session)).0 ≡ answers.Done
      → (tx : ℕ) × (t : Txn) × (txn_of (after k r).state session ≡ Some (tx, t)) × (has_links (moved_of t) ≡ true → IsThere (vote_record tx t) p)
  vote-there k session less next done =
      let w = vote-writes (after k r).state session done in (
        w.tx,
        w.txn,
        w.is,
        λ links. one-there lists (vote_record w.tx w.txn) p (subst (λ (xs : List Written). HasRecords lists xs p) (w.writes_one links) (turn-recorded k (steps.Prepare session) less next)),
      )

  pub decision-there : (k session number : ℕ) → k < m.count → next_step (after k r) ≡ Some (steps.Decide session) → (step (after k r).state (steps.Decide session)).0 ≡ answers.Committed number
      → (tx : ℕ) × (t : Txn) × (txn_of (after k r).state session ≡ Some (tx, t)) × IsThere (decision_record tx t number) p
  decision-there k session number less next committed =
      let w = decision-writes (after k r).state session number committed in (
        w.tx,
        w.txn,
        w.is,
        one-there lists (decision_record w.tx w.txn number) p (subst (λ (xs : List Written). HasRecords lists xs p) (w.writes_one tt) (turn-recorded k (steps.Decide session) less next)),
      )

-- ---- what is told

prefix-shorter : (a b : List ℕ) → IsPrefix a b → length a ≤ length b
prefix-shorter a b is =
    let e : length b ≡ length a + length is.0 = ap length is.1 ∙ length-append a is.0 in
    omega (arith, e)

grows : (n : ℕ) (r : Run) → length r.told ≤ length (after n r).told
grows zero r = omega arith
grows (suc n) r =
    let one = prefix-shorter r.told (turn r).told (told-grows r) in
    let more = grows n (turn r) in
    omega (arith, one, more)

no-less : (m k : ℕ) (r : Run) → m ≤ k → length (after m r).told ≤ length (after k r).told
no-less zero k r le = grows k r
no-less (suc m) zero r le = absurd (omega (arith, le))
no-less (suc m) (suc k) r le = let smaller : m ≤ k = omega (arith, le) in no-less m k (turn r) smaller

-- a turn that takes a step tells nothing
step-silent : (r : Run) (x : Step) → next_step r ≡ Some x → (turn r).told ≡ r.told
unfolding turn
step-silent r x next = by r.lines next
  where
    on : (l : Read) (more : List Read) (t : Then) → step_in t ≡ Some x → (turned (met r l.actor) l more t).told ≡ r.told
    on l more (does y) next = refl
    on l more (given k) next = absurd cc
    on l more (answered a) next = absurd cc
    on l more silent next = absurd cc

    by : (ls : List Read) → step_on r ls ≡ Some x → (turn_on r ls).told ≡ r.told
    by [] next = absurd cc
    by (l ∷ more) next = on l more (comes_to r l) next

silent-at : (k : ℕ) (r : Run) (x : Step) → next_step (after k r) ≡ Some x → (after (suc k) r).told ≡ (after k r).told
silent-at zero r x next = step-silent r x next
silent-at (suc k) r x next = silent-at k (turn r) x next

order : (k n : ℕ) → (k < n) ⊎ (n ≤ k)
order k zero = inr (omega arith)
order zero (suc n) = inl (omega arith)
order (suc k) (suc n) = ⊎_elim (λ (less : k < n). inl (omega (arith, less))) (λ (le : n ≤ k). inr (omega (arith, le))) (order k n)

-- more is told than was told before a turn: it is behind that turn
pub told-behind : {js : Journals} {lists : Lists} {r : Run} {before : Option (List ℕ)} {p : CrashState} (m : IsInRun js lists r before p) (k : ℕ) (x : Step) → next_step (after k r) ≡ Some x → length (after k r).told < length m.said → k < m.count
told-behind {r = r} m k x next more = ⊎_elim (λ (less : k < m.count). less) late (order k m.count)
  where
    late : m.count ≤ k → k < m.count
    late le =
        let most = prefix-shorter m.said (after (suc m.count) r).told m.not_ahead in
        let step_later : suc m.count ≤ suc k = omega (arith, le) in
        let no_more = no-less (suc m.count) (suc k) r step_later in
        let same : length (after (suc k) r).told ≡ length (after k r).told = ap length (silent-at k r x next) in
        absurd (omega (arith, most, no_more, same, more))
