-- States and their cores.
use Rattle.std.proofs.Common.{◌≡◌, ℕ, List, [], ◌∷◌, Bool, true, false, not, cond, ◌==◌, ◌&&◌, Option, Some, None, refl, sym, ◌∙◌, ap, subst}
use Rattle.std.specs.FinMap as maps
use Rattle.std.specs.FinMap.{get-insert, get-remove}
use Rattle.std.specs.Cmp.{nat_cmp_total, unsigned_tied}
use Rattle.dl_base.specs.declared.step.Phase.{Phase}
use Rattle.dl_base.specs.declared.step.Phase.TheVariants as phases
use Rattle.meaning_areas.specs.Core.{is_decided as decided_stage, decided_work, decided_in, core_stored, with_work}
use Rattle.meaning_areas.specs.Lists.{Folds}
use Rattle.meaning_areas.specs.Joint.{Joint}
use Rattle.meaning_areas.specs.Stands.{Stored, stored_with, txs_of, IsStand}
use Rattle.meaning_areas.proofs.Standing.{joint-stand}
use Rattle.meaning_settling.specs.Settled.{settle_open, settled}
use Rattle.meaning_settling.specs.Settling.{Moved, Kept, settle_one}
use Rattle.meaning_system.specs.CoreOf.{stage_of, claimed_by, work_of, work_at, core_of}
use Rattle.meaning_system.specs.State.{Txn, State, moved_of, is_empty, has_links, is_active, is_decided, differs, kept_in, decided_moved, stored}

-- nothing to settle is settled by nothing

settled-alike : (f g : ℕ → Option Moved) (ts : List ℕ) (k : Kept) → ((t : ℕ) (x : Kept) → settle_open (f t) x ≡ settle_open (g t) x) → settled f ts k ≡ settled g ts k
settled-alike f g [] k same = refl
settled-alike f g (t ∷ ts) k same = settled-alike f g ts (settle_open (f t) k) same ∙ ap (settled g ts) (same t k)

empty-list : {A : Type 0} (xs : List A) → is_empty xs ≡ true → xs ≡ []
empty-list [] e = refl
empty-list (x ∷ xs) e = absurd cc

pub no-links : (m : Moved) → has_links m ≡ false → (m.gives ≡ []) × (m.takes ≡ [])
no-links m e = let two = parts (is_empty m.gives) (is_empty m.takes) e in (empty-list m.gives two.0, empty-list m.takes two.1)
  where
    parts : (a b : Bool) → not (a && b) ≡ false → (a ≡ true) × (b ≡ true)
    parts true true e = (refl, refl)
    parts true false e = absurd cc
    parts false b e = absurd cc

settle-nothing : (fill : Bool) (k : Kept) → settle_one (record { gives = []; takes = []; fill = fill }) k ≡ k
unfolding settle_one
settle-nothing fill k = refl

pub settle-empty : (m : Moved) (k : Kept) → has_links m ≡ false → settle_one m k ≡ k
settle-empty m k e =
    let two = no-links m e in
    ap (λ (x : Moved). settle_one x k) (λ i. record { gives = two.0 i; takes = two.1 i; fill = m.fill }) ∙ settle-nothing m.fill k

same-open : (s : State) (o : Option Txn) (k : Kept) → settle_open (decided_moved o) k ≡ settle_open (decided_work (work_at s o)) k
same-open s None k = refl
same-open s (Some t) k = at t.phase refl
  where
    chosen : (b : Bool) (m : Moved) → has_links m ≡ b → settle_one m k ≡ settle_open (cond b (Some m) None) k
    chosen true m e = refl
    chosen false m e = settle-empty m k e

    at : (p : Phase) → t.phase ≡ p → settle_open (cond (is_decided p) (Some (moved_of t)) None) k
        ≡ settle_open (cond (decided_stage (stage_of p) && has_links (claimed_by (is_active p && differs t.seen s.links_opening) (moved_of t))) (Some (claimed_by (is_active p && differs t.seen s.links_opening) (moved_of t))) None) k
    at phases.Active e = refl
    at phases.Prepared e = refl
    at phases.Decided e = chosen (has_links (moved_of t)) (moved_of t) refl
    at phases.Finished e = refl
    at phases.Dropped e = refl

-- THE STORED PART of a state is that of its core
pub stored-core : (s : State) → stored s ≡ core_stored (core_of s)
stored-core s = ap (stored_with s.commits s.backups s.rows_opening s.links_opening)
    (settled-alike (λ tx. decided_moved (maps.get s.txs tx)) (decided_in (core_of s)) (txs_of s.commits) (kept_in s) (λ t k. same-open s (maps.get s.txs t) k))

-- LISTS THAT GO WITH A STATE STAND FOR ITS STORED PART
pub recovers : (f : Folds) (s : State) → Joint f (core_of s) → IsStand f (stored s)
recovers f s joint = let P : Stored → Type 0 = λ x. IsStand f x in subst P (sym (stored-core s)) (joint-stand f (core_of s) joint)

-- one transaction put or taken away
pub works-insert : (s : State) (tx : ℕ) (t : Txn) → (λ (q : ℕ). work_at s (maps.get (maps.insert s.txs tx t) q)) ≡ with_work (core_of s).works tx (Some (work_of s t))
works-insert s tx t = λ i q. at q i
  where
    by : (b : Bool) (o : Option Txn) → work_at s (cond b (Some t) o) ≡ cond b (Some (work_of s t)) (work_at s o)
    by true o = refl
    by false o = refl

    at : (q : ℕ) → work_at s (maps.get (maps.insert s.txs tx t) q) ≡ with_work (core_of s).works tx (Some (work_of s t)) q
    at q = ap (work_at s) (get-insert nat_cmp_total s.txs tx t q ∙ ap (λ b. cond b (Some t) (maps.get s.txs q)) (unsigned_tied q tx)) ∙ by (q == tx) (maps.get s.txs q)

pub works-remove : (s : State) (tx : ℕ) → (λ (q : ℕ). work_at s (maps.get (maps.remove s.txs tx) q)) ≡ with_work (core_of s).works tx None
works-remove s tx = λ i q. at q i
  where
    by : (b : Bool) (o : Option Txn) → work_at s (cond b None o) ≡ cond b None (work_at s o)
    by true o = refl
    by false o = refl

    at : (q : ℕ) → work_at s (maps.get (maps.remove s.txs tx) q) ≡ with_work (core_of s).works tx None q
    at q = ap (work_at s) (get-remove nat_cmp_total s.txs tx q ∙ ap (λ b. cond b None (maps.get s.txs q)) (unsigned_tied q tx)) ∙ by (q == tx) (maps.get s.txs q)
