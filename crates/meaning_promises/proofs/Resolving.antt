-- What Resolve ends, and what it leaves.
use Rattle.std.proofs.Common.{◌≡◌, ◌≢◌, inl, inr, ⊎_elim, ℕ, List, [], ◌∷◌, Bool, true, false, not, cond, ◌==◌, ◌&&◌, ◌||◌, filter, map, Option, Some, None, is_some, refl, sym, ◌∙◌, ap, subst, arith}
use Rattle.std.proofs.lemmas.Bool.{cases_eq}
use Rattle.std.proofs.lemmas.Bool.Decides.{nat_tests}
use Rattle.std.proofs.lemmas.List.{length-map}
use Rattle.std.specs.FinMap as maps
use Rattle.std.specs.FinMap.{find, get-entries}
use Rattle.std.specs.List.{list_any}
use Rattle.std.specs.Ordering.{eq_by_cmp, nat_cmp}
use Rattle.dl_base.specs.declared.answer.Answer.TheVariants as answers
use Rattle.dl_base.specs.declared.step.Phase.{Phase}
use Rattle.dl_base.specs.declared.step.Phase.TheVariants as phases
use Rattle.dl_base.specs.declared.step.Step.TheVariants as steps
use Rattle.meaning_areas.proofs.Steps.{agrees-of}
use Rattle.meaning_areas.proofs.Tables.{commit-in, not_none, some_same, test-same}
use Rattle.meaning_areas.specs.Commits.{Commit, commit_of}
use Rattle.meaning_areas.specs.Lists.{Folds}
use Rattle.meaning_areas.specs.Stands.{txs_of}
use Rattle.meaning_history.specs.Sound.{AreSound}
use Rattle.meaning_settling.proofs.KeyedLaws.{false_true}
use Rattle.meaning_settling.specs.Settled.{AreDistinct, IsIn, IsNot}
use Rattle.meaning_system.proofs.Kept.{drop-all-same, drop-all-was, resolve-same}
use Rattle.meaning_system.proofs.Leading.{decided-work, works-are}
use Rattle.meaning_system.proofs.Resolved.{both, finish-all-was, finish-left-was, gone-at, gone-other, is-prepared}
use Rattle.meaning_system.specs.CoreOf.{IsLive, core_of, work_by}
use Rattle.meaning_system.specs.Machine.{count_left, drop_all, drop_left, finish_all, finish_left, is_left_in, resolve, settled_by, step}
use Rattle.meaning_system.specs.State.{State, Txn, is_active, is_decided, is_left, is_prepared, moved_of, numbered_txn, txn_at, txn_of, without_txn}
use Rattle.meaning_promises.specs.Stops.{AreSoMany, IsAlone}
use Rattle.meaning_promises.proofs.Promised.{none_some}
use Rattle.meaning_promises.proofs.Entries.{Found, entries-differ, entries-found, find-here, find-there, key-in}

tested : (a b : ℕ) → (a == b) ≡ true → a ≡ b
tested a b e = grind (arith, nat_tests)

or-right : (a b : Bool) → b ≡ true → (a || b) ≡ true
or-right true b e = refl
or-right false b e = e

not-false : (b : Bool) → not b ≡ false → b ≡ true
not-false true e = refl
not-false false e = absurd (false_true (sym e))

-- WHETHER A SESSION HAS A TRANSACTION

has-any : (es : List (ℕ × ℕ)) (session tx : ℕ) → find nat_cmp session es ≡ Some tx → list_any (λ e. e.1 == tx) es ≡ true
has-any [] session tx at = absurd (none_some tx at)
has-any (e ∷ es) session tx at = by (has-any es session tx) (eq_by_cmp nat_cmp session e.0) at
  where
    by : (find nat_cmp session es ≡ Some tx → list_any (λ x. x.1 == tx) es ≡ true) → (b : Bool) → cond b (Some e.1) (find nat_cmp session es) ≡ Some tx → ((e.1 == tx) || list_any (λ x. x.1 == tx) es) ≡ true
    by more true is = ap (λ (b : Bool). b || list_any (λ x. x.1 == tx) es) (test-same e.1 tx (some_same e.1 tx is))
    by more false is = or-right (e.1 == tx) (list_any (λ x. x.1 == tx) es) (more is)

any-of : (at : ℕ → Option ℕ) (es : List (ℕ × ℕ)) (tx : ℕ) → Found at es → list_any (λ e. e.1 == tx) es ≡ true → (session : ℕ) × (at session ≡ Some tx)
any-of at [] tx found any = absurd (false_true any)
any-of at (e ∷ es) tx found any = by (any-of at es tx found.1) (e.1 == tx) refl any
  where
    by : (list_any (λ x. x.1 == tx) es ≡ true → (session : ℕ) × (at session ≡ Some tx)) → (b : Bool) → (e.1 == tx) ≡ b → (b || list_any (λ x. x.1 == tx) es) ≡ true → (session : ℕ) × (at session ≡ Some tx)
    by more true is any = (e.0, found.0 ∙ ap (λ (n : ℕ). Some n) (tested e.1 tx is))
    by more false is any = more any

module _ (s : State) (tx : ℕ) where
  has-session : (session : ℕ) → maps.get s.sessions session ≡ Some tx → is_left s tx ≡ false
  has-session session at = ap not (has-any (maps.entries s.sessions) session tx (sym (get-entries s.sessions session) ∙ at))

  its-session : is_left s tx ≡ false → (session : ℕ) × (maps.get s.sessions session ≡ Some tx)
  its-session has = any-of (maps.get s.sessions) (maps.entries s.sessions) tx (entries-found s.sessions) (not-false (list_any (λ e. e.1 == tx) (maps.entries s.sessions)) has)

  left-alone : is_left s tx ≡ true → (session : ℕ) → maps.get s.sessions session ≢ Some tx
  left-alone left session = λ (at : maps.get s.sessions session ≡ Some tx). false_true (sym (has-session session at) ∙ left)

  alone-left : ((session : ℕ) → maps.get s.sessions session ≢ Some tx) → is_left s tx ≡ true
  alone-left alone = by (is_left s tx) refl
    where
      by : (b : Bool) → is_left s tx ≡ b → b ≡ true
      by true is = refl
      by false is = let its = its-session is in absurd (alone its.0 its.1)

same-left : (s x : State) (tx : ℕ) → x.sessions ≡ s.sessions → is_left x tx ≡ is_left s tx
same-left s x tx same = ap (λ (m : maps.FinMap nat_cmp ℕ). is_left (record s { sessions = m }) tx) same

-- SESSIONS keep theirs

another : (s : State) (q tx : ℕ) (t : Txn) (test : Phase → Bool) → is_left s tx ≡ false → is_left_in s test (q, t) ≡ true → tx ≢ q
another s q tx t test has is = λ (e : tx ≡ q). false_true (sym (ap (is_left s) (sym e) ∙ has) ∙ (both (is_left s q) (test t.phase) is).0)

finish-other : (s : State) (q tx : ℕ) → is_left s tx ≡ false → (o : Option Txn) → maps.get (finish_left s q o).txs tx ≡ maps.get s.txs tx
finish-other s q tx has None = refl
finish-other s q tx has (Some t) = by (is_left_in s is_decided (q, t)) refl
  where
    by : (b : Bool) → is_left_in s is_decided (q, t) ≡ b → maps.get (cond b (without_txn (settled_by s t) q) s).txs tx ≡ maps.get s.txs tx
    by true is = gone-other (settled_by s t) q tx (another s q tx t is_decided has is)
    by false is = refl

drop-other : (s : State) (q tx : ℕ) → is_left s tx ≡ false → (o : Option Txn) → maps.get (drop_left s q o).txs tx ≡ maps.get s.txs tx
drop-other s q tx has None = refl
drop-other s q tx has (Some t) = by (is_left_in s is_prepared (q, t)) refl
  where
    by : (b : Bool) → is_left_in s is_prepared (q, t) ≡ b → maps.get (cond b (without_txn s q) s).txs tx ≡ maps.get s.txs tx
    by true is = gone-other s q tx (another s q tx t is_prepared has is)
    by false is = refl

-- one of them is looked at, and sessions stay
finish-sessions : (s : State) (q : ℕ) (o : Option Txn) → (finish_left s q o).sessions ≡ s.sessions
finish-sessions s q None = refl
finish-sessions s q (Some t) = by (is_left_in s is_decided (q, t))
  where
    by : (b : Bool) → (cond b (without_txn (settled_by s t) q) s).sessions ≡ s.sessions
    by true = refl
    by false = refl

finished-left : (s : State) (c : Commit) (tx : ℕ) → is_left (finish_left s c.tx (maps.get s.txs c.tx)) tx ≡ is_left s tx
finished-left s c tx = same-left s (finish_left s c.tx (maps.get s.txs c.tx)) tx (finish-sessions s c.tx (maps.get s.txs c.tx))

dropped-left : (s : State) (q tx : ℕ) → is_left (drop_left s q (maps.get s.txs q)) tx ≡ is_left s tx
dropped-left s q tx = same-left s (drop_left s q (maps.get s.txs q)) tx (drop-all-same (λ (x : State). x.sessions) (λ x u. refl) (q ∷ []) s)

finish-others : (cs : List Commit) (s : State) (tx : ℕ) → is_left s tx ≡ false → maps.get (finish_all s cs).txs tx ≡ maps.get s.txs tx
finish-others [] s tx has = refl
finish-others (c ∷ cs) s tx has = finish-others cs (finish_left s c.tx (maps.get s.txs c.tx)) tx (finished-left s c tx ∙ has) ∙ finish-other s c.tx tx has (maps.get s.txs c.tx)

drop-others : (qs : List ℕ) (s : State) (tx : ℕ) → is_left s tx ≡ false → maps.get (drop_all s qs).txs tx ≡ maps.get s.txs tx
drop-others [] s tx has = refl
drop-others (q ∷ qs) s tx has = drop-others qs (drop_left s q (maps.get s.txs q)) tx (dropped-left s q tx ∙ has) ∙ drop-other s q tx has (maps.get s.txs q)

all-finished : (cs : List Commit) (s : State) → (finish_all s cs).sessions ≡ s.sessions
all-finished [] s = refl
all-finished (c ∷ cs) s = all-finished cs (finish_left s c.tx (maps.get s.txs c.tx)) ∙ finish-sessions s c.tx (maps.get s.txs c.tx)

finished-sessions : (s : State) → (finish_all s s.commits).sessions ≡ s.sessions
finished-sessions s = all-finished s.commits s

resolved-sessions : (s : State) → (resolve s).1.sessions ≡ s.sessions
resolved-sessions s = resolve-same (λ (x : State). x.sessions) (λ x tx. refl) (λ x t. refl) s

there-still : (s : State) (tx : ℕ) → is_left s tx ≡ false → maps.get (resolve s).1.txs tx ≡ maps.get s.txs tx
there-still s tx has = drop-others (maps.keys s.txs) (finish_all s s.commits) tx (same-left s (finish_all s s.commits) tx (finished-sessions s) ∙ has) ∙ finish-others s.commits s tx has

pub sessions-keep : (s : State) (session : ℕ) → (maps.get (step s steps.Resolve).1.sessions session ≡ maps.get s.sessions session) × (txn_of (step s steps.Resolve).1 session ≡ txn_of s session)
unfolding step
sessions-keep s session = (same, ap (txn_at (resolve s).1) same ∙ by (maps.get s.sessions session) refl)
  where
    same : maps.get (resolve s).1.sessions session ≡ maps.get s.sessions session
    same = ap (λ (m : maps.FinMap nat_cmp ℕ). maps.get m session) (resolved-sessions s)

    by : (o : Option ℕ) → maps.get s.sessions session ≡ o → txn_at (resolve s).1 o ≡ txn_at s o
    by None is = refl
    by (Some tx) is = ap (numbered_txn tx) (there-still s tx (has-session s tx session is))

-- THE OTHERS END

both-true : (a b : Bool) → a ≡ true → b ≡ true → (a && b) ≡ true
both-true a b x y = λ i. x i && y i

gone-here : (s : State) (q tx : ℕ) → tx ≡ q → maps.get (without_txn s q).txs tx ≡ None
gone-here s q tx same = gone-at s q tx ∙ ap (λ (b : Bool). cond b None (maps.get s.txs tx)) (test-same tx q same)

module _ (tx : ℕ) (t : Txn) where
  -- a decided one, whose commit is among these
  finishes : is_decided t.phase ≡ true → (s : State) (q : ℕ) → tx ≡ q → is_left s tx ≡ true → maps.get s.txs tx ≡ Some t → maps.get (finish_left s q (maps.get s.txs q)).txs tx ≡ None
  finishes decided s q same left at =
      let there : maps.get s.txs q ≡ Some t = ap (maps.get s.txs) (sym same) ∙ at in
      let passes : is_left_in s is_decided (q, t) ≡ true = both-true (is_left s q) (is_decided t.phase) (ap (is_left s) (sym same) ∙ left) decided in
      ap (λ (o : Option Txn). maps.get (finish_left s q o).txs tx) there ∙ ap (λ (b : Bool). maps.get (cond b (without_txn (settled_by s t) q) s).txs tx) passes ∙ gone-here (settled_by s t) q tx same

  no-decided : is_decided t.phase ≡ true → (cs : List Commit) (s : State) → IsIn tx (txs_of cs) → is_left s tx ≡ true → maps.get (finish_all s cs).txs tx ≡ Some t → ⊥
  no-decided decided [] s among left at = absurd among
  no-decided decided (c ∷ cs) s among left at =
      let here : maps.get (finish_left s c.tx (maps.get s.txs c.tx)).txs tx ≡ Some t = finish-all-was cs (finish_left s c.tx (maps.get s.txs c.tx)) tx t at in
      ⊎_elim
      (λ (same : tx ≡ c.tx). not_none t (maps.get (finish_left s c.tx (maps.get s.txs c.tx)).txs tx) here (finishes decided s c.tx same left (finish-left-was s c.tx (maps.get s.txs c.tx) tx t here)))
      (λ (later : IsIn tx (txs_of cs)). no-decided decided cs (finish_left s c.tx (maps.get s.txs c.tx)) later (finished-left s c tx ∙ left) at)
      among

  -- a prepared one, which is among these
  drops : is_prepared t.phase ≡ true → (s : State) (q : ℕ) → tx ≡ q → is_left s tx ≡ true → maps.get s.txs tx ≡ Some t → maps.get (drop_left s q (maps.get s.txs q)).txs tx ≡ None
  drops waits s q same left at =
      let there : maps.get s.txs q ≡ Some t = ap (maps.get s.txs) (sym same) ∙ at in
      let passes : is_left_in s is_prepared (q, t) ≡ true = both-true (is_left s q) (is_prepared t.phase) (ap (is_left s) (sym same) ∙ left) waits in
      ap (λ (o : Option Txn). maps.get (drop_left s q o).txs tx) there ∙ ap (λ (b : Bool). maps.get (cond b (without_txn s q) s).txs tx) passes ∙ gone-here s q tx same

  no-prepared : is_prepared t.phase ≡ true → (qs : List ℕ) (s : State) → IsIn tx qs → is_left s tx ≡ true → maps.get (drop_all s qs).txs tx ≡ Some t → ⊥
  no-prepared waits [] s among left at = absurd among
  no-prepared waits (q ∷ qs) s among left at =
      let here : maps.get (drop_left s q (maps.get s.txs q)).txs tx ≡ Some t = drop-all-was qs (drop_left s q (maps.get s.txs q)) tx t at in
      ⊎_elim
      (λ (same : tx ≡ q). not_none t (maps.get (drop_left s q (maps.get s.txs q)).txs tx) here (drops waits s q same left (drop-all-was (q ∷ []) s tx t here)))
      (λ (later : IsIn tx qs). no-prepared waits qs (drop_left s q (maps.get s.txs q)) later (dropped-left s q tx ∙ left) at)
      among

module _ (first : ℕ) (f : Folds) (s : State) (sound : AreSound first f s) (tx : ℕ) (t : Txn) where
  -- a decided one has a commit
  has-commit : maps.get s.txs tx ≡ Some t → t.phase ≡ phases.Decided → IsIn tx (txs_of s.commits)
  has-commit at is =
      let here = works-are f s sound.follows tx t at (work_by phases.Decided (moved_of t)) (decided-work f s sound.follows tx t at is) in
      let c = (agrees-of f (core_of s) sound.follows.joint tx (work_by phases.Decided (moved_of t)) here).0 in
      commit-in tx s.commits (ap is_some (ap (commit_of tx) (sym sound.follows.joint.commits) ∙ c.at))

  -- an active one has a session
  not-active : maps.get s.txs tx ≡ Some t → is_left s tx ≡ true → t.phase ≡ phases.Active → ⊥
  not-active at left is = let of = sound.in_sessions tx t at (ap is_active is) in left-alone s tx left of.0 of.1

  is-over : maps.get s.txs tx ≡ Some t → is_left s tx ≡ true → maps.get (resolve s).1.txs tx ≡ Some t → ⊥
  is-over at left behind = by t.phase refl
    where
      by : (p : Phase) → t.phase ≡ p → ⊥
      by phases.Active is = not-active at left is
      by phases.Prepared is = no-prepared tx t (ap is_prepared is) (maps.keys s.txs) (finish_all s s.commits) (key-in s.txs tx t at) (same-left s (finish_all s s.commits) tx (finished-sessions s) ∙ left) behind
      by phases.Decided is = no-decided tx t (ap is_decided is) s.commits s (has-commit at is) left (drop-all-was (maps.keys s.txs) (finish_all s s.commits) tx t behind)
      by phases.Finished is = subst IsLive is (sound.claims.live tx t at)
      by phases.Dropped is = subst IsLive is (sound.claims.live tx t at)

  pub none-left : maps.get (step s steps.Resolve).1.txs tx ≡ Some t → (session : ℕ) × (maps.get s.sessions session ≡ Some tx) × (maps.get s.txs tx ≡ Some t)
  unfolding step
  none-left behind = by (is_left s tx) refl
    where
      was : maps.get s.txs tx ≡ Some t
      was = finish-all-was s.commits s tx t (drop-all-was (maps.keys s.txs) (finish_all s s.commits) tx t behind)

      by : (b : Bool) → is_left s tx ≡ b → (session : ℕ) × (maps.get s.sessions session ≡ Some tx) × (maps.get s.txs tx ≡ Some t)
      by true left = absurd (is-over was left behind)
      by false has = let its = its-session s tx has in (its.0, its.1, was)

-- HOW MANY

module _ (s : State) (test : Phase → Bool) where
  abbrev numbers_left : List (ℕ × Txn) → List ℕ
  numbers_left es = map (λ e. e.0) (filter (is_left_in s test) es)

  not-left : (x : ℕ) (es : List (ℕ × Txn)) → IsNot x (map (λ e. e.0) es) → IsNot x (numbers_left es)
  not-left x [] never = tt
  not-left x (e ∷ es) never = by (not-left x es never.1) (is_left_in s test e)
    where
      by : IsNot x (numbers_left es) → (b : Bool) → IsNot x (map (λ y. y.0) (cond b (e ∷ filter (is_left_in s test) es) (filter (is_left_in s test) es)))
      by more true = (never.0, more)
      by more false = more

  left-differ : (es : List (ℕ × Txn)) → AreDistinct (map (λ e. e.0) es) → AreDistinct (numbers_left es)
  left-differ [] once = tt
  left-differ (e ∷ es) once = by (left-differ es once.1) (is_left_in s test e)
    where
      by : AreDistinct (numbers_left es) → (b : Bool) → AreDistinct (map (λ y. y.0) (cond b (e ∷ filter (is_left_in s test) es) (filter (is_left_in s test) es)))
      by more true = (not-left e.0 es once.0, more)
      by more false = more

  record IsCounted (tx : ℕ) : Type 0 where
    txn : Txn
    there : maps.get s.txs tx ≡ Some txn
    left : is_left s tx ≡ true
    passes : test txn.phase ≡ true

  left-was : (es : List (ℕ × Txn)) (tx : ℕ) → Found (maps.get s.txs) es → IsIn tx (numbers_left es) → IsCounted tx
  left-was [] tx found among = absurd among
  left-was (e ∷ es) tx found among = by (left-was es tx found.1) (is_left_in s test e) refl among
    where
      by : (IsIn tx (numbers_left es) → IsCounted tx) → (b : Bool) → is_left_in s test e ≡ b → IsIn tx (map (λ y. y.0) (cond b (e ∷ filter (is_left_in s test) es) (filter (is_left_in s test) es))) → IsCounted tx
      by more true is among = ⊎_elim
          (λ (same : tx ≡ e.0).
          let two = both (is_left s e.0) (test e.1.phase) is in
          record { txn = e.1; there = ap (maps.get s.txs) same ∙ found.0; left = ap (is_left s) same ∙ two.0; passes = two.1 })
          (λ (later : IsIn tx (numbers_left es)). more later)
          among
      by more false is among = more among

  left-in : (es : List (ℕ × Txn)) (tx : ℕ) (t : Txn) → find nat_cmp tx es ≡ Some t → is_left s tx ≡ true → test t.phase ≡ true → IsIn tx (numbers_left es)
  left-in [] tx t at left passes = absurd (none_some t at)
  left-in (e ∷ es) tx t at left passes = ⊎_elim
      (λ (same : tx ≡ e.0).
      let its : e.1 ≡ t = some_same e.1 t (sym (find-here tx e es same) ∙ at) in
      here same (both-true (is_left s e.0) (test e.1.phase) (ap (is_left s) (sym same) ∙ left) (ap (λ (x : Txn). test x.phase) its ∙ passes)))
      (λ (other : tx ≢ e.0). later (left-in es tx t (sym (find-there tx e es other) ∙ at) left passes) (is_left_in s test e))
      (cases_eq tx e.0)
    where
      here : tx ≡ e.0 → is_left_in s test e ≡ true → IsIn tx (numbers_left (e ∷ es))
      here same is = subst (λ (b : Bool). IsIn tx (map (λ y. y.0) (cond b (e ∷ filter (is_left_in s test) es) (filter (is_left_in s test) es)))) (sym is) (inl same)

      later : IsIn tx (numbers_left es) → (b : Bool) → IsIn tx (map (λ y. y.0) (cond b (e ∷ filter (is_left_in s test) es) (filter (is_left_in s test) es)))
      later among true = inr among
      later among false = among

  so-many : (Has : ℕ → Type 0) → ((tx : ℕ) → IsCounted tx → Has tx) → ((tx : ℕ) → Has tx → IsCounted tx) → AreSoMany (count_left test s) Has
  so-many Has of back = record {
    numbers = numbers_left (maps.entries s.txs);
    once = left-differ (maps.entries s.txs) (entries-differ s.txs);
    exact = λ tx among. of tx (left-was (maps.entries s.txs) tx (entries-found s.txs) among);
    all = λ tx has. let counted = back tx has in left-in (maps.entries s.txs) tx counted.txn (sym (get-entries s.txs tx) ∙ counted.there) counted.left counted.passes;
    many = length-map (filter (is_left_in s test) (maps.entries s.txs)) (λ e. e.0);
  }

decided-many : (s : State) → AreSoMany (count_left is_decided s) (IsAlone s true)
decided-many s = so-many s is_decided (IsAlone s true)
    (λ tx counted. record { txn = counted.txn; there = counted.there; phase = counted.passes; alone = left-alone s tx counted.left })
    (λ tx has. record { txn = has.txn; there = has.there; left = alone-left s tx has.alone; passes = has.phase })

module _ (first : ℕ) (f : Folds) (s : State) (sound : AreSound first f s) where
  waits : (tx : ℕ) (t : Txn) → maps.get s.txs tx ≡ Some t → is_left s tx ≡ true → is_decided t.phase ≡ false → is_prepared t.phase ≡ true
  waits tx t at left undecided = by t.phase refl
    where
      by : (p : Phase) → t.phase ≡ p → is_prepared p ≡ true
      by phases.Active is = absurd (not-active first f s sound tx t at left is)
      by phases.Prepared is = refl
      by phases.Decided is = absurd (false_true (sym undecided ∙ ap is_decided is))
      by phases.Finished is = absurd (subst IsLive is (sound.claims.live tx t at))
      by phases.Dropped is = absurd (subst IsLive is (sound.claims.live tx t at))

  prepared-many : AreSoMany (count_left is_prepared s) (IsAlone s false)
  prepared-many = so-many s is_prepared (IsAlone s false)
      (λ tx counted. record { txn = counted.txn; there = counted.there; phase = ap is_decided (is-prepared counted.txn.phase counted.passes); alone = left-alone s tx counted.left })
      (λ tx has. (let left = alone-left s tx has.alone in record { txn = has.txn; there = has.there; left = left; passes = waits tx has.txn has.there left has.phase }))

  pub counts : (c : ℕ) × (d : ℕ) × ((step s steps.Resolve).0 ≡ answers.Resolved c d) × AreSoMany c (IsAlone s true) × AreSoMany d (IsAlone s false)
  unfolding step
  counts = (count_left is_decided s, count_left is_prepared s, refl, decided-many s, prepared-many)
