-- A restore: the first session that has a transaction, by the sessions' objects, and what is there behind it.
use Rattle.std.proofs.Common.{◌≡◌, ℕ, zero, suc, ◌+◌, ◌<◌, Bool, true, false, cond, List, [], ◌∷◌, position, slice_get, Option, Some, None, Result, Ok, Err, OnOk, T, is_some, refl, sym, ap, ◌∙◌, arith}
use Rattle.std.proofs.lemmas.Bool.{and_from, and_parts}
use Rattle.std.proofs.lemmas.Iterator.Adapters.{position_from-zero}
use Rattle.std.specs.Cmp.{nat_cmp_is, nat_cmp_total, tied_itself}
use Rattle.std.specs.FinMap as maps
use Rattle.std.specs.FinMap.Entries.{below_all}
use Rattle.std.specs.List.{position_from}
use Rattle.std.specs.Option.{unwrap_or}
use Rattle.std.specs.Ordering.{is_eq, is_lt, nat_cmp}
use Rattle.std.specs.declared.cmp.Ordering.{Ordering}
use Rattle.std.specs.declared.cmp.Ordering.TheVariants.{Less, Equal, Greater}
use Rattle.db_txn.specs.Transaction.{Transaction, vacant}
use Rattle.dl_base.specs.declared.answer.Answer.{Answer}
use Rattle.dl_base.specs.declared.answer.Answer.TheVariants as answers
use Rattle.dl_base.specs.declared.fault.Full.{Full}
use Rattle.dl_base.specs.declared.fault.StepFault.{StepFault}
use Rattle.dl_base.specs.declared.step.Step.TheVariants as steps
use Rattle.dl_base.specs.declared.step.Target.{Target}
use Rattle.fm_branch.proofs.Maps.{missed}
use Rattle.fm_manager.specs.Managed.{AreSpelled}
use Rattle.meaning_areas.specs.Full.{draw_full}
use Rattle.meaning_system.specs.Machine.{first_key, first_session, step, target_tables}
use Rattle.meaning_system.specs.State.{State, Txn, numbered_txn, txn_at, txn_of}
use Rattle.meaning_system.specs.Writes.{restore_writes, writes}
use Rattle.sys_core.specs.Seated.{shown_by}
use Rattle.sys_core.specs.Steps.{draws, draws_for, undrawn}
use Rattle.sys_run.proofs.Shown.{session-is}
use Rattle.sys_run.specs.Sessions as showing
use Rattle.sys_run.specs.Sessions.{AreShown, has_txn}

none_some : {A : Type 0} {X : Type 0} (x : A) → None ≡ Some x → X
none_some x e = absurd cc

true_false : {X : Type 0} → true ≡ false → X
true_false e = absurd cc

-- ---- entries in order

entries-none : (es : List (ℕ × ℕ)) (n : ℕ) → first_key es ≡ None → is_some (maps.find nat_cmp n es) ≡ false
entries-none [] n none = refl
entries-none (e ∷ es) n none = none_some e.0 (sym none)

some-same : (x y : ℕ) → Some x ≡ Some y → x ≡ y
some-same x y e = cc

-- the first key is there
entries-first : (es : List (ℕ × ℕ)) (k : ℕ) → first_key es ≡ Some k → is_some (maps.find nat_cmp k es) ≡ true
entries-first [] k is = none_some k is
entries-first (e ∷ es) k is =
    let tied : nat_cmp k e.0 ≡ Equal = ap (nat_cmp k) (some-same e.0 k is) ∙ tied_itself nat_cmp_total k in
    ap (λ r. is_some (cond (is_eq r) (Some e.1) (maps.find nat_cmp k es))) tied

is-less : (r : Ordering) → is_lt r ≡ true → r ≡ Less
is-less Less e = refl
is-less Equal e = absurd cc
is-less Greater e = absurd cc

less-than : (n k : ℕ) → n < k → nat_cmp n k ≡ Less
less-than n k less = sym (nat_cmp_is n k Less less)

-- and none below it
below-more : (n k : ℕ) (es : List (ℕ × ℕ)) → nat_cmp n k ≡ Less → below_all nat_cmp k es ≡ true → is_some (maps.find nat_cmp n es) ≡ false
below-more n k es less below = ap is_some (missed nat_cmp n es (all es below))
  where
    all : (es : List (ℕ × ℕ)) → below_all nat_cmp k es ≡ true → below_all nat_cmp n es ≡ true
    all [] is = refl
    all (e ∷ es) is =
        let parts = and_parts (is_lt (nat_cmp k e.0)) (below_all nat_cmp k es) is in
        and_from (is_lt (nat_cmp n e.0)) (below_all nat_cmp n es) (ap is_lt (nat_cmp_total.trans n k e.0 less (is-less (nat_cmp k e.0) parts.0))) (all es parts.1)

entries-below : (es : List (ℕ × ℕ)) (k n : ℕ) → maps.is_sorted nat_cmp es ≡ true → first_key es ≡ Some k → n < k → is_some (maps.find nat_cmp n es) ≡ false
entries-below [] k n sorted is less = none_some k is
entries-below (e ∷ es) k n sorted is less =
    let parts = and_parts (below_all nat_cmp e.0 es) (maps.is_sorted nat_cmp es) sorted in
    let under : nat_cmp n e.0 ≡ Less = ap (nat_cmp n) (some-same e.0 k is) ∙ less-than n k less in
    ap (λ r. is_some (cond (is_eq r) (Some e.1) (maps.find nat_cmp n es))) under ∙ below-more n e.0 es under parts.0

truth : (b : Bool) → T b → b ≡ true
truth true t = refl
truth false t = absurd t

-- ---- objects in order

-- whether the object at a place has a transaction
abbrev busy_at : List Transaction → ℕ → Bool
busy_at [] k = false
busy_at (t ∷ ts) zero = has_txn t
busy_at (t ∷ ts) (suc k) = busy_at ts k

busy-object : (ts : List Transaction) (k : ℕ) (t : Transaction) → t.tx ≡ None → has_txn (unwrap_or (slice_get ts k) t) ≡ busy_at ts k
busy-object [] k t none = ap is_some none
busy-object (x ∷ ts) zero t none = refl
busy-object (x ∷ ts) (suc k) t none = busy-object ts k t none

busy-there : (ts : List Transaction) (k : ℕ) → slice_get ts k ≡ None → busy_at ts k ≡ false
busy-there [] k none = refl
busy-there (x ∷ ts) zero none = none_some x (sym none)
busy-there (x ∷ ts) (suc k) none = busy-there ts k none

none-from : (i : ℕ) (ts : List Transaction) → position_from has_txn i ts ≡ None → (k : ℕ) → busy_at ts k ≡ false
none-from i [] none k = refl
none-from i (t ∷ ts) none k = by (has_txn t) refl (none-from (i + 1) ts) none k
  where
    by : (b : Bool) → has_txn t ≡ b → (position_from has_txn (i + 1) ts ≡ None → (k : ℕ) → busy_at ts k ≡ false) → cond b (Some i) (position_from has_txn (i + 1) ts) ≡ None → (k : ℕ) → busy_at (t ∷ ts) k ≡ false
    by true is rest none k = none_some i (sym none)
    by false is rest none zero = is
    by false is rest none (suc k) = rest none k

-- the place of the first that has one, from some place on
record IsFirst (i : ℕ) (ts : List Transaction) (n : ℕ) : Type 0 where
  pub at : ℕ
  pub place : n ≡ i + at
  pub busy : busy_at ts at ≡ true
  pub before : (j : ℕ) → j < at → busy_at ts j ≡ false

zero-less : {X : Type 0} (j : ℕ) → j < 0 → X
zero-less j less = absurd (omega (arith, less))

some-from : (i : ℕ) (ts : List Transaction) (n : ℕ) → position_from has_txn i ts ≡ Some n → IsFirst i ts n
some-from i [] n some = none_some n some
some-from i (t ∷ ts) n some = by (has_txn t) refl (some-from (i + 1) ts n) some
  where
    here : (i n : ℕ) → i ≡ n → n ≡ i + 0
    here i n e = omega (arith, e)

    there : (i n k : ℕ) → n ≡ (i + 1) + k → n ≡ i + suc k
    there i n k e = omega (arith, e)

    down : (j k : ℕ) → suc j < suc k → j < k
    down j k less = omega (arith, less)

    before : (rest : IsFirst (i + 1) ts n) → has_txn t ≡ false → (j : ℕ) → j < suc rest.at → busy_at (t ∷ ts) j ≡ false
    before rest is zero less = is
    before rest is (suc j) less = rest.before j (down j rest.at less)

    by : (b : Bool) → has_txn t ≡ b → (position_from has_txn (i + 1) ts ≡ Some n → IsFirst (i + 1) ts n) → cond b (Some i) (position_from has_txn (i + 1) ts) ≡ Some n → IsFirst i (t ∷ ts) n
    by true is more some = record { at = 0; place = here i n (some-same i n some); busy = is; before = λ j less. zero-less j less }
    by false is more some = let rest = more some in record { at = suc rest.at; place = there i n rest.at rest.place; busy = rest.busy; before = before rest is }

-- ---- sessions

module _ (s : State) (txns : List Transaction) (shown : AreShown s txns) where
  shown-has : (k : ℕ) (o : Option (ℕ × Txn)) → has_txn (shown_by k o) ≡ is_some o
  shown-has k None = refl
  shown-has k (Some e) = refl

  -- a session has a transaction where its object has one
  has-there : (n : ℕ) → is_some (maps.get s.sessions n) ≡ is_some (txn_of s n)
  has-there n = by (maps.get s.sessions n) refl
    where
      its : (tx : ℕ) (o : Option Txn) → is_some o ≡ true → true ≡ is_some (numbered_txn tx o)
      its tx None is = sym is
      its tx (Some t) is = refl

      by : (o : Option ℕ) → maps.get s.sessions n ≡ o → is_some o ≡ is_some (txn_at s o)
      by None at = refl
      by (Some tx) at = its tx (maps.get s.txs tx) (shown.separate.there n tx at)

  has-object : (n : ℕ) → is_some (maps.get s.sessions n) ≡ has_txn (showing.txn_at txns n)
  has-object n =
      let t = showing.txn_at txns n in
      has-there n ∙ sym (shown-has t.session (txn_of s n)) ∙ ap (λ (m : ℕ). has_txn (shown_by t.session (txn_of s m))) (sym (shown.numbered n)) ∙ sym (ap has_txn (shown.shown n))

  zero-none : is_some (maps.get s.sessions 0) ≡ false
  zero-none = has-object 0

  at-place : (k : ℕ) → is_some (maps.get s.sessions (suc k)) ≡ busy_at txns k
  at-place k = has-object (suc k) ∙ busy-object txns k (vacant (suc k)) refl

  by-entry : (n : ℕ) → is_some (maps.get s.sessions n) ≡ is_some (maps.find nat_cmp n (maps.entries s.sessions))
  by-entry n = ap is_some (maps.get-entries s.sessions n)

  first-there : (k : ℕ) → first_session s ≡ Some k → is_some (maps.get s.sessions k) ≡ true
  first-there k is = by-entry k ∙ entries-first (maps.entries s.sessions) k is

  none-before : (k n : ℕ) → first_session s ≡ Some k → n < k → is_some (maps.get s.sessions n) ≡ false
  none-before k n is less = by-entry n ∙ entries-below (maps.entries s.sessions) k n (truth (maps.is_sorted nat_cmp (maps.entries s.sessions)) (maps.entries_sorted s.sessions)) is less

  -- NO SESSION HAS ONE
  pub none-busy : position has_txn txns ≡ None → first_session s ≡ None
  none-busy none = by (first_session s) refl
    where
      idle : (k : ℕ) → busy_at txns k ≡ false
      idle k = none-from 0 txns (sym (position_from-zero has_txn txns) ∙ none) k

      never : (k : ℕ) → is_some (maps.get s.sessions k) ≡ false
      never zero = zero-none
      never (suc k) = at-place k ∙ idle k

      by : (o : Option ℕ) → first_session s ≡ o → o ≡ None
      by None is = refl
      by (Some k) is = true_false (sym (first-there k is) ∙ never k)

  module _ (k : ℕ) (is : position has_txn txns ≡ Some k) where
    first : IsFirst 0 txns k
    first = some-from 0 txns k (sym (position_from-zero has_txn txns) ∙ is)

    same-place : (i k : ℕ) → k ≡ 0 + i → i ≡ k
    same-place i k e = omega (arith, e)

    -- its object is there
    pub busy-some : {X : Type 0} → slice_get txns k ≡ None → X
    busy-some none = true_false (sym first.busy ∙ ap (busy_at txns) (same-place first.at k first.place) ∙ busy-there txns k none)

    -- THE FIRST ONE THAT HAS ONE
    pub first-busy : (t : Transaction) → slice_get txns k ≡ Some t → first_session s ≡ Some t.session
    first-busy t at = by (first_session s) refl ∙ ap (λ (n : ℕ). Some n) (sym (session-is s txns k t shown at))
      where
        here : is_some (maps.get s.sessions (suc first.at)) ≡ true
        here = at-place first.at ∙ first.busy

        equal : (i j : ℕ) → (i < j → ⊥) → (j < i → ⊥) → i ≡ j
        equal i j a b = omega (arith, a, b)

        up : (i j : ℕ) → i < j → suc i < suc j
        up i j less = omega (arith, less)

        same : (q : ℕ) → first_session s ≡ Some q → q ≡ suc first.at
        same zero e = true_false (sym (first-there 0 e) ∙ zero-none)
        same (suc j) e = ap (λ (n : ℕ). suc n) (equal j first.at
            (λ less. true_false (sym (first-there (suc j) e) ∙ at-place j ∙ first.before j less))
            (λ less. true_false (sym here ∙ none-before (suc j) (suc first.at) e (up first.at j less))))

        by : (o : Option ℕ) → first_session s ≡ o → o ≡ Some (suc k)
        by None e = true_false (sym here ∙ by-entry (suc first.at) ∙ entries-none (maps.entries s.sessions) (suc first.at) e)
        by (Some q) e = ap (λ (n : ℕ). Some n) (same q e ∙ ap (λ (n : ℕ). suc n) (same-place first.at k first.place))

-- ---- the objects behind it, and its records

pub on-any : {A : Type 0} (result : Result Answer StepFault) → A → OnOk result A
on-any (Ok a) x = x
on-any (Err f) x = tt

left-none : (o : Option Full) → undrawn o ≡ [] → o ≡ None
left-none None e = refl
left-none (Some f) e = absurd cc

-- where no number is exhausted they have a spelling
pub restore-spelled : (s : State) (t : Target) → draws s (steps.Restore t) ≡ [] → (draw_full (s.drawn + 1) ≡ None → AreSpelled (writes s (steps.Restore t))) → AreSpelled (writes s (steps.Restore t))
unfolding writes
restore-spelled s t none spelled = by (step s (steps.Restore t)).0 none spelled
  where
    by : (a : Answer) → draws_for a (s.drawn + 1) ≡ [] → (draw_full (s.drawn + 1) ≡ None → AreSpelled (restore_writes s (target_tables s t) a)) → AreSpelled (restore_writes s (target_tables s t) a)
    by (answers.Restored c lost) none spelled = spelled (left-none (draw_full (s.drawn + 1)) none)
    by answers.Done none spelled = tt
    by (answers.Begun tx) none spelled = tt
    by (answers.Changed n) none spelled = tt
    by (answers.Rows grid) none spelled = tt
    by (answers.Committed c) none spelled = tt
    by (answers.Bytes bytes) none spelled = tt
    by (answers.Files files) none spelled = tt
    by (answers.Archived n) none spelled = tt
    by (answers.BackedUp n) none spelled = tt
    by (answers.Resolved c d) none spelled = tt
    by (answers.Refused why) none spelled = tt
