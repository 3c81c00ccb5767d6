-- The records of Resolve lead to the lists of the state behind it.
use Rattle.std.proofs.Common.{◌≡◌, ◌≢◌, ℕ, List, [], ◌∷◌, Bool, true, false, cond, ◌==◌, ◌&&◌, map, Option, Some, None, refl, sym, ◌∙◌, ap, subst}
use Rattle.std.specs.Cmp.{nat_cmp_total, tied_itself, unsigned_tied}
use Rattle.std.specs.FinMap as maps
use Rattle.std.specs.FinMap.{entries_sorted, find, get-entries, get-remove, is_sorted}
use Rattle.std.specs.FinMap.Entries.{below_all}
use Rattle.std.specs.Ordering.{is_lt, nat_cmp}
use Rattle.std.specs.Prelude.{T}
use Rattle.dl_base.specs.declared.step.Phase.{Phase}
use Rattle.dl_base.specs.declared.step.Phase.TheVariants as phases
use Rattle.dl_base.specs.declared.step.Step.TheVariants as steps
use Rattle.meaning_areas.specs.Commits.{Commit}
use Rattle.meaning_areas.specs.Lists.{Folds}
use Rattle.meaning_areas.proofs.Tables.{not_none, some_same, test-other, test-same}
use Rattle.meaning_settling.specs.Settled.{AreDistinct, IsNot}
use Rattle.meaning_system.specs.Following.{Follows, HaveNumbers, Leads}
use Rattle.meaning_system.specs.Machine.{drop_all, drop_left, finish_all, finish_left, is_left_in, settled_by, step}
use Rattle.meaning_system.specs.State.{State, Txn, is_decided, is_left, is_prepared, kept_in, moved_of, without_txn}
use Rattle.meaning_system.specs.Writes.{aborted, drop_writes, left_writes, settle_writes, whole_finish, writes}
use Rattle.meaning_system.proofs.Leading.{decided-finishes, leads-more, prepared-aborts, stays}

false_true : false ≡ true → ⊥
false_true e = cc

truth : (b : Bool) → T b → b ≡ true
truth true t = refl
truth false t = absurd t

pub both : (a b : Bool) → (a && b) ≡ true → (a ≡ true) × (b ≡ true)
both true b e = (refl, e)
both false b e = absurd (false_true e)

pub is-decided : (p : Phase) → is_decided p ≡ true → p ≡ phases.Decided
is-decided phases.Active e = absurd (false_true e)
is-decided phases.Prepared e = absurd (false_true e)
is-decided phases.Decided e = refl
is-decided phases.Finished e = absurd (false_true e)
is-decided phases.Dropped e = absurd (false_true e)

pub is-prepared : (p : Phase) → is_prepared p ≡ true → p ≡ phases.Prepared
is-prepared phases.Active e = absurd (false_true e)
is-prepared phases.Prepared e = refl
is-prepared phases.Decided e = absurd (false_true e)
is-prepared phases.Finished e = absurd (false_true e)
is-prepared phases.Dropped e = absurd (false_true e)

not-both : (p : Phase) → is_decided p ≡ true → is_prepared p ≡ true → ⊥
not-both p d w = false_true (ap is_prepared (sym (is-decided p d)) ∙ w)

-- a transaction that is taken away, and others

pub gone-at : (s : State) (tx q : ℕ) → maps.get (without_txn s tx).txs q ≡ cond (q == tx) None (maps.get s.txs q)
gone-at s tx q = get-remove nat_cmp_total s.txs tx q ∙ ap (λ b. cond b None (maps.get s.txs q)) (unsigned_tied q tx)

pub gone-other : (s : State) (tx q : ℕ) → q ≢ tx → maps.get (without_txn s tx).txs q ≡ maps.get s.txs q
gone-other s tx q other = gone-at s tx q ∙ ap (λ b. cond b None (maps.get s.txs q)) (test-other q tx other)

pub gone-was : (s : State) (tx q : ℕ) (t : Txn) → maps.get (without_txn s tx).txs q ≡ Some t → maps.get s.txs q ≡ Some t
gone-was s tx q t e = by (q == tx) (sym (gone-at s tx q) ∙ e)
  where
    by : (b : Bool) → cond b None (maps.get s.txs q) ≡ Some t → maps.get s.txs q ≡ Some t
    by true is = absurd cc
    by false is = is

-- FINISHING in the order of commits

pub finish-left-leads : (f : Folds) (s : State) (tx : ℕ) → Follows f s → HaveNumbers s → (o : Option Txn) → maps.get s.txs tx ≡ o → Leads f (left_writes s tx o) (finish_left s tx o)
finish-left-leads f s tx follows numbers None at = stays f s follows
finish-left-leads f s tx follows numbers (Some t) at = by (is_left_in s is_decided (tx, t)) refl
  where
    by : (b : Bool) → is_left_in s is_decided (tx, t) ≡ b → Leads f (cond b (whole_finish tx (moved_of t) (kept_in s)) []) (cond b (without_txn (settled_by s t) tx) s)
    by true is = decided-finishes f s follows tx t at (is-decided t.phase (both (is_left s tx) (is_decided t.phase) is).1) (numbers tx t at) s.sessions
    by false is = stays f s follows

pub finish-left-was : (s : State) (tx : ℕ) (o : Option Txn) (q : ℕ) (t : Txn) → maps.get (finish_left s tx o).txs q ≡ Some t → maps.get s.txs q ≡ Some t
finish-left-was s tx None q t e = e
finish-left-was s tx (Some x) q t e = by (is_left_in s is_decided (tx, x)) e
  where
    by : (b : Bool) → maps.get (cond b (without_txn (settled_by s x) tx) s).txs q ≡ Some t → maps.get s.txs q ≡ Some t
    by true e = gone-was (settled_by s x) tx q t e
    by false e = e

finish-all-leads : (cs : List Commit) (f : Folds) (s : State) → Follows f s → HaveNumbers s → Leads f (settle_writes s cs) (finish_all s cs)
finish-all-leads [] f s follows numbers = stays f s follows
finish-all-leads (c ∷ cs) f s follows numbers =
    leads-more f (left_writes s c.tx (maps.get s.txs c.tx)) (settle_writes (finish_left s c.tx (maps.get s.txs c.tx)) cs) (finish_left s c.tx (maps.get s.txs c.tx)) (finish_all (finish_left s c.tx (maps.get s.txs c.tx)) cs)
    (finish-left-leads f s c.tx follows numbers (maps.get s.txs c.tx) refl)
    (λ g after. finish-all-leads cs g (finish_left s c.tx (maps.get s.txs c.tx)) after (λ q t e. numbers q t (finish-left-was s c.tx (maps.get s.txs c.tx) q t e)))

-- what finishing leaves of sessions and of prepared transactions

finish-left-sessions : (s : State) (tx : ℕ) (o : Option Txn) → (finish_left s tx o).sessions ≡ s.sessions
finish-left-sessions s tx None = refl
finish-left-sessions s tx (Some x) = by (is_left_in s is_decided (tx, x))
  where
    by : (b : Bool) → (cond b (without_txn (settled_by s x) tx) s).sessions ≡ s.sessions
    by true = refl
    by false = refl

finish-all-sessions : (cs : List Commit) (s : State) → (finish_all s cs).sessions ≡ s.sessions
finish-all-sessions [] s = refl
finish-all-sessions (c ∷ cs) s = finish-all-sessions cs (finish_left s c.tx (maps.get s.txs c.tx)) ∙ finish-left-sessions s c.tx (maps.get s.txs c.tx)

finish-left-keeps : (s : State) (tx : ℕ) (o : Option Txn) → maps.get s.txs tx ≡ o → (q : ℕ) (t : Txn) → maps.get s.txs q ≡ Some t → is_prepared t.phase ≡ true → maps.get (finish_left s tx o).txs q ≡ Some t
finish-left-keeps s tx None at q t there waits = there
finish-left-keeps s tx (Some x) at q t there waits = by (is_left_in s is_decided (tx, x)) refl
  where
    by : (b : Bool) → is_left_in s is_decided (tx, x) ≡ b → maps.get (cond b (without_txn (settled_by s x) tx) s).txs q ≡ Some t
    by true is = gone-other (settled_by s x) tx q (λ (e : q ≡ tx).
        let same : x ≡ t = some_same x t (sym at ∙ ap (maps.get s.txs) (sym e) ∙ there) in
        not-both t.phase (ap (λ (y : Txn). is_decided y.phase) (sym same) ∙ (both (is_left s tx) (is_decided x.phase) is).1) waits)
        ∙ there
    by false is = there

finish-all-keeps : (cs : List Commit) (s : State) (q : ℕ) (t : Txn) → maps.get s.txs q ≡ Some t → is_prepared t.phase ≡ true → maps.get (finish_all s cs).txs q ≡ Some t
finish-all-keeps [] s q t there waits = there
finish-all-keeps (c ∷ cs) s q t there waits = finish-all-keeps cs (finish_left s c.tx (maps.get s.txs c.tx)) q t (finish-left-keeps s c.tx (maps.get s.txs c.tx) refl q t there waits) waits

pub finish-all-was : (cs : List Commit) (s : State) (q : ℕ) (t : Txn) → maps.get (finish_all s cs).txs q ≡ Some t → maps.get s.txs q ≡ Some t
finish-all-was [] s q t e = e
finish-all-was (c ∷ cs) s q t e = finish-left-was s c.tx (maps.get s.txs c.tx) q t (finish-all-was cs (finish_left s c.tx (maps.get s.txs c.tx)) q t e)

-- ENTRIES are found under their keys, which differ

abbrev pub Found : (ℕ → Option Txn) → List (ℕ × Txn) → Type 0
Found at [] = Unit {0}
Found at (e ∷ es) = (at e.0 ≡ Some e.1) × Found at es

above : (x : ℕ) (es : List (ℕ × Txn)) → below_all nat_cmp x es ≡ true → IsNot x (map (λ e. e.0) es)
above x [] s = tt
above x (e ∷ es) s =
    let two = both (is_lt (nat_cmp x e.0)) (below_all nat_cmp x es) s in
    ((λ (same : e.0 ≡ x). false_true (sym (ap (λ (y : ℕ). is_lt (nat_cmp x y)) same ∙ ap is_lt (tied_itself nat_cmp_total x)) ∙ two.0)), above x es two.1)

pub keys-differ : (es : List (ℕ × Txn)) → is_sorted nat_cmp es ≡ true → AreDistinct (map (λ e. e.0) es)
keys-differ [] s = tt
keys-differ (e ∷ es) s = let two = both (below_all nat_cmp e.0 es) (is_sorted nat_cmp es) s in (above e.0 es two.0, keys-differ es two.1)

found-more : (e : ℕ × Txn) (all es : List (ℕ × Txn)) → IsNot e.0 (map (λ x. x.0) es) → Found (λ q. find nat_cmp q all) es → Found (λ q. find nat_cmp q (e ∷ all)) es
found-more e all [] never found = tt
found-more e all (x ∷ xs) never found =
    (ap (λ b. cond b (Some e.1) (find nat_cmp x.0 all)) (unsigned_tied x.0 e.0 ∙ test-other x.0 e.0 never.0) ∙ found.0, found-more e all xs never.1 found.1)

found-all : (es : List (ℕ × Txn)) → AreDistinct (map (λ e. e.0) es) → Found (λ q. find nat_cmp q es) es
found-all [] once = tt
found-all (e ∷ es) once =
    (ap (λ b. cond b (Some e.1) (find nat_cmp e.0 es)) (unsigned_tied e.0 e.0 ∙ test-same e.0 e.0 refl), found-more e es es once.0 (found-all es once.1))

pub entries-differ : (m : maps.FinMap nat_cmp Txn) → AreDistinct (map (λ e. e.0) (maps.entries m))
entries-differ m = keys-differ (maps.entries m) (truth (is_sorted nat_cmp (maps.entries m)) (entries_sorted m))

pub entries-found : (m : maps.FinMap nat_cmp Txn) → Found (maps.get m) (maps.entries m)
entries-found m = subst (λ (at : ℕ → Option Txn). Found at (maps.entries m)) (λ i q. sym (get-entries m q) i) (found-all (maps.entries m) (entries-differ m))

-- DROPPING in the order of numbers: of those that are still to be looked at, the prepared ones are there, and no others are prepared

abbrev Stand : State → List (ℕ × Txn) → Type 0
Stand x [] = Unit {0}
Stand x (e ∷ es) = ((is_prepared e.1.phase ≡ true → maps.get x.txs e.0 ≡ Some e.1) × ((t : Txn) → maps.get x.txs e.0 ≡ Some t → is_prepared t.phase ≡ true → t ≡ e.1)) × Stand x es

stand-gone : (x : State) (tx : ℕ) (es : List (ℕ × Txn)) → IsNot tx (map (λ e. e.0) es) → Stand x es → Stand (without_txn x tx) es
stand-gone x tx [] never stand = tt
stand-gone x tx (e ∷ es) never stand =
    (((λ waits. gone-other x tx e.0 never.0 ∙ stand.0.0 waits), (λ t at waits. stand.0.1 t (gone-was x tx e.0 t at) waits)), stand-gone x tx es never.1 stand.1)

same-left : (s x : State) (tx : ℕ) → x.sessions ≡ s.sessions → is_left x tx ≡ is_left s tx
same-left s x tx same = ap (λ (m : maps.FinMap nat_cmp ℕ). is_left (record s { sessions = m }) tx) same

alike : (o : Option Txn) (t v : Txn) → o ≡ Some t → (is_prepared v.phase ≡ true → o ≡ Some v) → (is_prepared t.phase ≡ true → t ≡ v) → is_prepared t.phase ≡ is_prepared v.phase
alike o t v at there same = tests (is_prepared t.phase) (is_prepared v.phase) refl refl
  where
    tests : (a b : Bool) → is_prepared t.phase ≡ a → is_prepared v.phase ≡ b → a ≡ b
    tests true b is_a is_b = sym is_a ∙ ap (λ (y : Txn). is_prepared y.phase) (same is_a) ∙ is_b
    tests false true is_a is_b = absurd (false_true (sym is_a ∙ ap (λ (y : Txn). is_prepared y.phase) (some_same t v (sym at ∙ there is_b)) ∙ is_b))
    tests false false is_a is_b = refl

drop-one : (s x : State) (f : Folds) (e : ℕ × Txn) → Follows f x → x.sessions ≡ s.sessions → (is_prepared e.1.phase ≡ true → maps.get x.txs e.0 ≡ Some e.1) → ((t : Txn) → maps.get x.txs e.0 ≡ Some t → is_prepared t.phase ≡ true → t ≡ e.1)
    → Leads f (cond (is_left_in s is_prepared e) (aborted e.0 (moved_of e.1)) []) (drop_left x e.0 (maps.get x.txs e.0))
drop-one s x f e follows same there is = by (maps.get x.txs e.0) refl
  where
    none : maps.get x.txs e.0 ≡ None → (l p : Bool) → is_prepared e.1.phase ≡ p → Leads f (cond (l && p) (aborted e.0 (moved_of e.1)) []) x
    none at l true waits = absurd (not_none e.1 (maps.get x.txs e.0) (there waits) at)
    none at true false waits = stays f x follows
    none at false false waits = stays f x follows

    one : (t : Txn) → maps.get x.txs e.0 ≡ Some t → (b : Bool) → is_left_in x is_prepared (e.0, t) ≡ b → Leads f (cond b (aborted e.0 (moved_of e.1)) []) (cond b (without_txn x e.0) x)
    one t at true passes =
        let waits = (both (is_left x e.0) (is_prepared t.phase) passes).1 in
        let alike_t : t ≡ e.1 = is t at waits in
        prepared-aborts f x follows e.0 e.1 (at ∙ ap (λ (y : Txn). Some y) alike_t) (is-prepared e.1.phase (ap (λ (y : Txn). is_prepared y.phase) (sym alike_t) ∙ waits)) x.sessions
    one t at false fails = stays f x follows

    by : (o : Option Txn) → maps.get x.txs e.0 ≡ o → Leads f (cond (is_left_in s is_prepared e) (aborted e.0 (moved_of e.1)) []) (drop_left x e.0 o)
    by None at = none at (is_left s e.0) (is_prepared e.1.phase) refl
    by (Some t) at =
        let test : is_left_in x is_prepared (e.0, t) ≡ is_left_in s is_prepared e = λ i. same-left s x e.0 same i && alike (maps.get x.txs e.0) t e.1 at there (is t at) i in
        let P : Bool → Type 0 = λ b. Leads f (cond b (aborted e.0 (moved_of e.1)) []) (cond (is_left_in x is_prepared (e.0, t)) (without_txn x e.0) x) in
        subst P test (one t at (is_left_in x is_prepared (e.0, t)) refl)

stand-dropped : (x : State) (tx : ℕ) (es : List (ℕ × Txn)) → IsNot tx (map (λ e. e.0) es) → Stand x es → (o : Option Txn) → Stand (drop_left x tx o) es
stand-dropped x tx es never stand None = stand
stand-dropped x tx es never stand (Some t) = by (is_left_in x is_prepared (tx, t))
  where
    by : (b : Bool) → Stand (cond b (without_txn x tx) x) es
    by true = stand-gone x tx es never stand
    by false = stand

dropped-sessions : (x : State) (tx : ℕ) (o : Option Txn) → (drop_left x tx o).sessions ≡ x.sessions
dropped-sessions x tx None = refl
dropped-sessions x tx (Some t) = by (is_left_in x is_prepared (tx, t))
  where
    by : (b : Bool) → (cond b (without_txn x tx) x).sessions ≡ x.sessions
    by true = refl
    by false = refl

drop-all-leads : (es : List (ℕ × Txn)) (s x : State) (f : Folds) → Follows f x → x.sessions ≡ s.sessions → AreDistinct (map (λ e. e.0) es) → Stand x es → Leads f (drop_writes s es) (drop_all x (map (λ e. e.0) es))
drop-all-leads [] s x f follows same once stand = stays f x follows
drop-all-leads (e ∷ es) s x f follows same once stand =
    leads-more f (cond (is_left_in s is_prepared e) (aborted e.0 (moved_of e.1)) []) (drop_writes s es) (drop_left x e.0 (maps.get x.txs e.0)) (drop_all (drop_left x e.0 (maps.get x.txs e.0)) (map (λ y. y.0) es))
    (drop-one s x f e follows same stand.0.0 stand.0.1)
    (λ g after. drop-all-leads es s (drop_left x e.0 (maps.get x.txs e.0)) g after (dropped-sessions x e.0 (maps.get x.txs e.0) ∙ same) once.1 (stand-dropped x e.0 es once.0 stand.1 (maps.get x.txs e.0)))

-- RESOLVE
stand-after : (s x : State) (es : List (ℕ × Txn)) → ((q : ℕ) (t : Txn) → maps.get s.txs q ≡ Some t → is_prepared t.phase ≡ true → maps.get x.txs q ≡ Some t) → ((q : ℕ) (t : Txn) → maps.get x.txs q ≡ Some t → maps.get s.txs q ≡ Some t)
    → Found (maps.get s.txs) es → Stand x es
stand-after s x [] keeps was found = tt
stand-after s x (e ∷ es) keeps was found =
    (((λ waits. keeps e.0 e.1 found.0 waits), (λ t at waits. some_same t e.1 (sym (was e.0 t at) ∙ found.0))), stand-after s x es keeps was found.1)

pub leads-resolve : (f : Folds) (s : State) → Follows f s → HaveNumbers s → Leads f (writes s steps.Resolve) (step s steps.Resolve).1
unfolding step writes
leads-resolve f s follows numbers =
    leads-more f (settle_writes s s.commits) (drop_writes s (maps.entries s.txs)) (finish_all s s.commits) (drop_all (finish_all s s.commits) (maps.keys s.txs))
    (finish-all-leads s.commits f s follows numbers)
    (λ g after. drop-all-leads (maps.entries s.txs) s (finish_all s s.commits) g after (finish-all-sessions s.commits s) (entries-differ s.txs)
    (stand-after s (finish_all s s.commits) (maps.entries s.txs) (finish-all-keeps s.commits s) (finish-all-was s.commits s) (entries-found s.txs)))
