-- Settling and resolving leave the stored part of a state as it is.
use Rattle.std.proofs.Common.{◌≡◌, ◌≢◌, ◌⊎◌, inl, inr, ⊎_elim, ℕ, List, [], ◌∷◌, Bool, true, false, cond, ◌==◌, ◌&&◌, Option, Some, None, refl, sym, ◌∙◌, ap}
use Rattle.std.proofs.Common.{arith}
use Rattle.std.proofs.lemmas.Bool.Decides.{nat_tests}
use Rattle.std.specs.FinMap as maps
use Rattle.std.specs.FinMap.{get-empty, get-remove}
use Rattle.std.specs.Cmp.{nat_cmp_total, unsigned_tied}
use Rattle.std.specs.Ordering.{nat_cmp}
use Rattle.dl_base.specs.declared.step.Phase.{Phase}
use Rattle.dl_base.specs.declared.step.Phase.TheVariants as phases
use Rattle.meaning_areas.specs.Commits.{Commit}
use Rattle.meaning_areas.specs.Stands.{stored_with, txs_of}
use Rattle.meaning_areas.proofs.Standing.{same-parts}
use Rattle.meaning_areas.proofs.Tables.{test-other, test-same, not_none}
use Rattle.meaning_settling.specs.Settled.{settled, settle_open, IsIn, AreDistinct, AreApart}
use Rattle.meaning_settling.specs.Settling.{Moved, Kept, settle_one}
use Rattle.meaning_settling.proofs.SettledLaws.{settled-tests, settled-front}
use Rattle.meaning_system.specs.Machine.{is_left_in, settled_by, finish_left, finish_all, drop_left, drop_all, resolve}
use Rattle.meaning_system.specs.State.{Txn, State, moved_of, is_prepared, is_decided, without_txn, is_left, kept_in, with_kept, decided_moved, decided_in, settle, part_of, stored}

-- settling what has nothing open

pub settled-none : (f : ℕ → Option Moved) (ts : List ℕ) (k : Kept) → ((t : ℕ) → f t ≡ None) → settled f ts k ≡ k
settled-none f [] k none = refl
settled-none f (t ∷ ts) k none = ap (λ (o : Option Moved). settled f ts (settle_open o k)) (none t) ∙ settled-none f ts k none

pub settle-again : (s : State) → stored (settle s) ≡ stored s
settle-again s = λ i. part_of (with_kept (settle s) (settled-none (decided_in (settle s)) (txs_of s.commits) (kept_in (settle s)) (λ t. ap decided_moved (get-empty nat_cmp t)) i))

-- a transaction that is taken away

gone : (s : State) (tx q : ℕ) → decided_in (without_txn s tx) q ≡ decided_moved (cond (q == tx) None (maps.get s.txs q))
gone s tx q = ap decided_moved (get-remove nat_cmp_total s.txs tx q ∙ ap (λ b. cond b None (maps.get s.txs q)) (unsigned_tied q tx))

gone-here : (s : State) (tx : ℕ) → decided_in (without_txn s tx) tx ≡ None
gone-here s tx = gone s tx tx ∙ ap (λ b. decided_moved (cond b None (maps.get s.txs tx))) (test-same tx tx refl)

gone-there : (s : State) (tx q : ℕ) → q ≢ tx → decided_in (without_txn s tx) q ≡ decided_in s q
gone-there s tx q other = gone s tx q ∙ ap (λ b. decided_moved (cond b None (maps.get s.txs q))) (test-other q tx other)

same-part : (s : State) (k h : Kept) → k.files ≡ h.files → k.copies ≡ h.copies → part_of (with_kept s k) ≡ part_of (with_kept s h)
same-part s k h f c = λ i. stored_with s.commits s.backups s.rows_opening s.links_opening (record { files = f i; copies = c i; held = maps.empty })

-- DROPPING a prepared one

undecided : (p : Phase) (m : Moved) → is_prepared p ≡ true → cond (is_decided p) (Some m) None ≡ None
undecided phases.Active m e = refl
undecided phases.Prepared m e = refl
undecided phases.Decided m e = absurd cc
undecided phases.Finished m e = refl
undecided phases.Dropped m e = refl

cases_eq : (t u : ℕ) → (t ≡ u) ⊎ (t ≢ u)
cases_eq t u = by (t == u) refl
  where
    by : (b : Bool) → (t == u) ≡ b → (t ≡ u) ⊎ (t ≢ u)
    by true e = inl (grind (arith, nat_tests))
    by false e = inr (λ same. absurd (differ_same (sym e ∙ test-same t u same)))
      where
        differ_same : false ≡ true → ⊥
        differ_same x = cc

drop-one : (s : State) (tx : ℕ) (t : Txn) → maps.get s.txs tx ≡ Some t → is_prepared t.phase ≡ true → stored (without_txn s tx) ≡ stored s
drop-one s tx t is waits = λ i. part_of (with_kept s (settled-tests (decided_in (without_txn s tx)) (decided_in s) (txs_of s.commits) (kept_in s) (λ q among. same q) i))
  where
    same : (q : ℕ) → decided_in (without_txn s tx) q ≡ decided_in s q
    same q = ⊎_elim
        (λ (e : q ≡ tx). ap (decided_in (without_txn s tx)) e ∙ gone-here s tx ∙ sym (ap decided_moved is ∙ undecided t.phase (moved_of t) waits) ∙ sym (ap (decided_in s) e))
        (λ (other : q ≢ tx). gone-there s tx q other)
        (cases_eq q tx)

and-right : (a b : Bool) → (a && b) ≡ true → b ≡ true
and-right true b e = e
and-right false b e = absurd cc

drop-all : (txs : List ℕ) (s : State) → stored (drop_all s txs) ≡ stored s
drop-all [] s = refl
drop-all (tx ∷ txs) s = step (drop-all txs) (maps.get s.txs tx) refl
  where
    step : ((x : State) → stored (drop_all x txs) ≡ stored x) → (o : Option Txn) → maps.get s.txs tx ≡ o → stored (drop_all (drop_left s tx o) txs) ≡ stored s
    step go None e = go s
    step go (Some t) e = by (is_left_in s is_prepared (tx, t)) refl
      where
        by : (b : Bool) → is_left_in s is_prepared (tx, t) ≡ b → stored (drop_all (cond b (without_txn s tx) s) txs) ≡ stored s
        by true is = go (without_txn s tx) ∙ drop-one s tx t e (and-right (is_left s tx) (is_prepared t.phase) is)
        by false is = go s

-- FINISHING a decided one

decided_is : (p : Phase) (m : Moved) → is_decided p ≡ true → cond (is_decided p) (Some m) None ≡ Some m
decided_is p m e = ap (λ b. cond b (Some m) None) e

finish-one : (s : State) (tx : ℕ) (t : Txn) → maps.get s.txs tx ≡ Some t → is_decided t.phase ≡ true → AreApart (decided_in s) (txs_of s.commits) → AreDistinct (txs_of s.commits) → IsIn tx (txs_of s.commits) → stored (without_txn (settled_by s t) tx) ≡ stored s
finish-one s tx t is waits apart once among =
    let m = moved_of t in
    let later : State = without_txn (settled_by s t) tx in
    let at : decided_in s tx ≡ Some m = ap decided_moved is ∙ decided_is t.phase m waits in
    let front : settled (decided_in s) (txs_of s.commits) (kept_in s) ≡ settled (decided_in later) (txs_of s.commits) (settle_one m (kept_in s)) =
    settled-front (decided_in s) (decided_in later) (txs_of s.commits) tx m (kept_in s) apart at (λ q other. sym (gone-there (settled_by s t) tx q other)) (gone-here (settled_by s t) tx) among once in
    let parts = same-parts (decided_in later) (txs_of s.commits) (kept_in later) (settle_one m (kept_in s)) refl refl in
    same-part s (settled (decided_in later) (txs_of s.commits) (kept_in later)) (settled (decided_in later) (txs_of s.commits) (settle_one m (kept_in s))) parts.0 parts.1
    ∙ (λ i. part_of (with_kept s (sym front i)))

apart-gone : (s : State) (tx : ℕ) (ts : List ℕ) → AreApart (decided_in s) ts → AreApart (decided_in (without_txn s tx)) ts
apart-gone s tx ts apart t u in_t in_u other a b at_t at_u = apart t u in_t in_u other a b (was t a at_t) (was u b at_u)
  where
    was : (q : ℕ) (m : Moved) → decided_in (without_txn s tx) q ≡ Some m → decided_in s q ≡ Some m
    was q m e = ⊎_elim
        (λ (same : q ≡ tx). absurd (not_none m (decided_in (without_txn s tx) q) e (ap (decided_in (without_txn s tx)) same ∙ gone-here s tx)))
        (λ (other : q ≢ tx). sym (gone-there s tx q other) ∙ e)
        (cases_eq q tx)

abbrev Within : List Commit → List ℕ → Type 0
Within [] ts = Unit {0}
Within (c ∷ cs) ts = IsIn c.tx ts × Within cs ts

within-more : (cs : List Commit) (ts : List ℕ) (t : ℕ) → Within cs ts → Within cs (t ∷ ts)
within-more [] ts t is = tt
within-more (c ∷ cs) ts t is = (inr is.0, within-more cs ts t is.1)

within-self : (cs : List Commit) → Within cs (txs_of cs)
within-self [] = tt
within-self (c ∷ cs) = (inl refl, within-more cs (txs_of cs) c.tx (within-self cs))

finish-all : (cs : List Commit) (s : State) → AreApart (decided_in s) (txs_of s.commits) → AreDistinct (txs_of s.commits) → Within cs (txs_of s.commits) → stored (finish_all s cs) ≡ stored s
finish-all [] s apart once within = refl
finish-all (c ∷ cs) s apart once within = step (finish-all cs) (maps.get s.txs c.tx) refl
  where
    step : ((x : State) → AreApart (decided_in x) (txs_of x.commits) → AreDistinct (txs_of x.commits) → Within cs (txs_of x.commits) → stored (finish_all x cs) ≡ stored x)
        → (o : Option Txn) → maps.get s.txs c.tx ≡ o → stored (finish_all (finish_left s c.tx o) cs) ≡ stored s
    step go None e = go s apart once within.1
    step go (Some t) e = by (is_left_in s is_decided (c.tx, t)) refl
      where
        by : (b : Bool) → is_left_in s is_decided (c.tx, t) ≡ b → stored (finish_all (cond b (without_txn (settled_by s t) c.tx) s) cs) ≡ stored s
        by true is =
            go (without_txn (settled_by s t) c.tx) (apart-gone (settled_by s t) c.tx (txs_of s.commits) apart) once within.1
            ∙ finish-one s c.tx t e (and-right (is_left s c.tx) (is_decided t.phase) is) apart once within.0
        by false is = go s apart once within.1

-- RESOLVE
pub resolve-stays : (s : State) → AreApart (decided_in s) (txs_of s.commits) → AreDistinct (txs_of s.commits) → stored (resolve s).1 ≡ stored s
resolve-stays s apart once = drop-all (maps.keys s.txs) (finish_all s s.commits) ∙ finish-all s.commits s apart once (within-self s.commits)
