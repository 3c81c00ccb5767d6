-- Crashes of one side, and openings.
use Rattle.std.proofs.Common.{◌≡◌, ◌≢◌, ◌⊎◌, inl, inr, ⊎_elim, ℕ, ◌+◌, ◌*◌, ◌^◌, ◌<◌, ◌≤◌, List, [], true, false, cond, ◌&&◌, Option, Some, None, refl, sym, ◌∙◌, ap, subst, arith}
use Rattle.std.specs.FinMap as maps
use Rattle.dl_base.specs.declared.value.LinkRow.{LinkRow}
use Rattle.meaning_tables.specs.Links.{links}
use Rattle.meaning_settling.specs.Apart.{ShareNoPath}
use Rattle.meaning_settling.specs.Settled.{settled}
use Rattle.meaning_settling.specs.Settling.{Moved, Kept}
use Rattle.meaning_settling.proofs.SettledLaws.{settled-tests}
use Rattle.meaning_areas.specs.Branches.{Branch}
use Rattle.meaning_areas.specs.Commits.{Commit, commit_of}
use Rattle.meaning_areas.specs.Core.{Stage, active, prepared, decided, Work, Core, is_decided, decided_work, decided_in, core_kept, core_stored, no_moved}
use Rattle.meaning_areas.specs.Lists.{Folds}
use Rattle.meaning_areas.specs.Joint.{AgreesAt, Agrees, Joint}
use Rattle.meaning_areas.specs.Stands.{txs_of, kept_of, AreDrawn, IsWhole}
use Rattle.meaning_areas.proofs.Tables.{some_same}
use Rattle.meaning_areas.proofs.Steps.{share-sym, share-none}
use Rattle.meaning_areas.specs.Moving.{with_links_opening, with_rows_opening, forgotten_at, forgotten, core_manager, left_at, left, core_database}

false_true : false ≡ true → ⊥
false_true e = cc

-- what holds of stored parts does not speak of openings
pub whole-opening : (c d : Core) → d.commits ≡ c.commits → (core_stored d).files ≡ (core_stored c).files → (core_stored d).copies ≡ (core_stored c).copies → d.backups ≡ c.backups → IsWhole (core_stored c) → IsWhole (core_stored d)
whole-opening c d commits files copies backups w =
    let P : Core → Type 0 = λ x. IsWhole (record { commits = x.commits; files = (core_stored x).files; copies = (core_stored x).copies; backups = x.backups; rows_opening = d.rows_opening; links_opening = d.links_opening }) in
    let here : IsWhole (record { commits = c.commits; files = (core_stored c).files; copies = (core_stored c).copies; backups = c.backups; rows_opening = d.rows_opening; links_opening = d.links_opening }) =
    record { paths = w.paths; one_path = w.one_path; files = w.files; copies = w.copies; archived = w.archived; bytes = w.bytes; backups = w.backups } in
    subst IsWhole (λ i. record { commits = sym commits i; files = sym files i; copies = sym copies i; backups = sym backups i; rows_opening = d.rows_opening; links_opening = d.links_opening }) here

-- CrashManager: the claims of active transactions are gone
forgets_decided : (o : Option Work) → decided_work (forgotten o) ≡ decided_work o
forgets_decided None = refl
forgets_decided (Some w) = at w.stage refl
  where
    at : (s : Stage) → w.stage ≡ s → decided_work (Some (forgotten_at s w)) ≡ decided_work (Some w)
    at active e = sym (ap (λ (x : Stage). cond (is_decided x && w.branch) (Some w.moved) None) e)
    at prepared e = refl
    at decided e = refl

forgets_agrees : (o : Option Work) (c : Option Commit) (b : Option Branch) → Agrees o c b → Agrees (forgotten o) c b
forgets_agrees None c b a = a
forgets_agrees (Some w) c b a = at w.stage refl a
  where
    at : (s : Stage) → w.stage ≡ s → AgreesAt s w c b → AgreesAt (forgotten_at s w).stage (forgotten_at s w) c b
    at active e h = h
    at prepared e h = (let P : Stage → Type 0 = λ x. AgreesAt x w c b in subst P (sym e) h)
    at decided e h = (let P : Stage → Type 0 = λ x. AgreesAt x w c b in subst P (sym e) h)

-- a work that is left is as it was, or has nothing
abbrev Forgot : Option Work → Work → Type 0
Forgot o v = ((w : Work) × (o ≡ Some w) × (v.moved ≡ w.moved) × (v.branch ≡ w.branch)) ⊎ (v.moved ≡ no_moved)

forgets_to : (o : Option Work) (v : Work) → forgotten o ≡ Some v → Forgot o v
forgets_to None v e = absurd cc
forgets_to (Some w) v e = at w.stage (some_same (forgotten_at w.stage w) v e)
  where
    at : (s : Stage) → forgotten_at s w ≡ v → Forgot (Some w) v
    at active is = inr (sym (ap (λ (y : Work). y.moved) is))
    at prepared is = inl (w, refl, sym (ap (λ (y : Work). y.moved) is), sym (ap (λ (y : Work). y.branch) is))
    at decided is = inl (w, refl, sym (ap (λ (y : Work). y.moved) is), sym (ap (λ (y : Work). y.branch) is))

pub joint-manager : (f : Folds) (c : Core) → Joint f c → Joint (with_links_opening f) (core_manager c)
joint-manager f c joint =
    let tests : (t : ℕ) → decided_in (core_manager c) t ≡ decided_in c t = λ t. forgets_decided (c.works t) in
    let same : settled (decided_in (core_manager c)) (txs_of c.commits) (core_kept c) ≡ settled (decided_in c) (txs_of c.commits) (core_kept c) = settled-tests (decided_in (core_manager c)) (decided_in c) (txs_of c.commits) (core_kept c) (λ t is. tests t) in
    record {
      commits = joint.commits;
      rows_opening = joint.rows_opening;
      links_opening = ap (λ (n : ℕ). n + 1) joint.links_opening;
      files = joint.files;
      copies = joint.copies;
      backups = joint.backups;
      agrees = λ t. forgets_agrees (c.works t) (commit_of t f.rows.commits) (maps.get f.links.table t) (joint.agrees t);
      ended = joint.ended;
      distinct = joint.distinct;
      moved = joint.moved;
      apart = λ t u other w v x y. two t u other w v (forgets_to (c.works t) w x) (forgets_to (c.works u) v y);
      plain = λ t v is none. plain_of t v (forgets_to (c.works t) v is) none;
      ready = λ t m is. joint.ready t m (sym (tests t) ∙ is);
      held = λ p. ap (λ (k : Kept). maps.get k.held p) (settled-tests (decided_in (core_manager c)) (decided_in c) (txs_of f.rows.commits) (kept_of f) (λ t is. tests t)) ∙ joint.held p;
      numbers = λ t lt. let old = joint.numbers t lt in (ap forgotten old.0, old.1, old.2);
      small = joint.small;
      drawn_commits = joint.drawn_commits;
      drawn_branches = joint.drawn_branches;
      whole = whole-opening c (core_manager c) refl (ap (λ (k : Kept). k.files) same) (ap (λ (k : Kept). k.copies) same) refl joint.whole;
    }
  where
    two : (t u : ℕ) → t ≢ u → (w v : Work) → Forgot (c.works t) w → Forgot (c.works u) v → ShareNoPath w.moved v.moved
    two t u other w v x y = ⊎_elim
        (λ (first : (a : Work) × (c.works t ≡ Some a) × (w.moved ≡ a.moved) × (w.branch ≡ a.branch)). ⊎_elim
        (λ (second : (a : Work) × (c.works u ≡ Some a) × (v.moved ≡ a.moved) × (v.branch ≡ a.branch)). subst (λ (z : Moved). ShareNoPath z v.moved) (sym first.2) (subst (λ (z : Moved). ShareNoPath first.0.moved z) (sym second.2) (joint.apart t u other first.0 second.0 first.1 second.1)))
        (λ (second : v.moved ≡ no_moved). subst (λ (z : Moved). ShareNoPath w.moved z) (sym second) (share-sym no_moved w.moved (share-none w.moved)))
        y)
        (λ (first : w.moved ≡ no_moved). subst (λ (z : Moved). ShareNoPath z v.moved) (sym first) (share-none v.moved))
        x

    plain_of : (t : ℕ) (v : Work) → Forgot (c.works t) v → v.branch ≡ false → (v.moved.gives ≡ []) × (v.moved.takes ≡ [])
    plain_of t v x none = ⊎_elim
        (λ (first : (a : Work) × (c.works t ≡ Some a) × (v.moved ≡ a.moved) × (v.branch ≡ a.branch)). (let P : Moved → Type 0 = λ z. (z.gives ≡ []) × (z.takes ≡ []) in subst P (sym first.2) (joint.plain t first.0 first.1 (sym first.3 ∙ none))))
        (λ (first : v.moved ≡ no_moved). (ap (λ (z : Moved). z.gives) first, ap (λ (z : Moved). z.takes) first))
        x

-- CrashDatabase: active transactions are dropped
left_decided : (o : Option Work) → decided_work (left o) ≡ decided_work o
left_decided None = refl
left_decided (Some w) = at w.stage refl
  where
    at : (s : Stage) → w.stage ≡ s → decided_work (left_at s w) ≡ decided_work (Some w)
    at active e = sym (ap (λ (x : Stage). cond (is_decided x && w.branch) (Some w.moved) None) e)
    at prepared e = refl
    at decided e = refl

left_agrees : (o : Option Work) (c : Option Commit) (b : Option Branch) → Agrees o c b → Agrees (left o) c b
left_agrees None c b a = a
left_agrees (Some w) c b a = at w.stage refl a
  where
    at : (s : Stage) → w.stage ≡ s → AgreesAt s w c b → Agrees (left_at s w) c b
    at active e h = inl (h.0, inl h.1)
    at prepared e h = (let P : Stage → Type 0 = λ x. AgreesAt x w c b in subst P (sym e) h)
    at decided e h = (let P : Stage → Type 0 = λ x. AgreesAt x w c b in subst P (sym e) h)

left_to : (o : Option Work) (v : Work) → left o ≡ Some v → o ≡ Some v
left_to None v e = absurd cc
left_to (Some w) v e = at w.stage e
  where
    at : (s : Stage) → left_at s w ≡ Some v → Some w ≡ Some v
    at active is = absurd cc
    at prepared is = is
    at decided is = is

drawn-more : (o p : ℕ) (ls : List LinkRow) → o ≤ p → AreDrawn o ls → AreDrawn p ls
drawn-more o p ls le all k x lt = more _ o p (all k x lt) le
  where
    more : (a o p : ℕ) → a ≤ o → o ≤ p → a ≤ p
    more a o p x y = omega arith

pub joint-database : (f : Folds) (c : Core) → Joint f c → Joint (with_rows_opening f) (core_database c)
joint-database f c joint =
    let tests : (t : ℕ) → decided_in (core_database c) t ≡ decided_in c t = λ t. left_decided (c.works t) in
    let same : settled (decided_in (core_database c)) (txs_of c.commits) (core_kept c) ≡ settled (decided_in c) (txs_of c.commits) (core_kept c) = settled-tests (decided_in (core_database c)) (decided_in c) (txs_of c.commits) (core_kept c) (λ t is. tests t) in
    record {
      commits = joint.commits;
      rows_opening = ap (λ (n : ℕ). n + 1) joint.rows_opening;
      links_opening = joint.links_opening;
      files = joint.files;
      copies = joint.copies;
      backups = joint.backups;
      agrees = λ t. left_agrees (c.works t) (commit_of t f.rows.commits) (maps.get f.links.table t) (joint.agrees t);
      ended = joint.ended;
      distinct = joint.distinct;
      moved = joint.moved;
      apart = λ t u other w v x y. joint.apart t u other w v (left_to (c.works t) w x) (left_to (c.works u) v y);
      plain = λ t v is none. joint.plain t v (left_to (c.works t) v is) none;
      ready = λ t m is. joint.ready t m (sym (tests t) ∙ is);
      held = λ p. ap (λ (k : Kept). maps.get k.held p) (settled-tests (decided_in (core_database c)) (decided_in c) (txs_of f.rows.commits) (kept_of f) (λ t is. tests t)) ∙ joint.held p;
      numbers = λ t lt. let old = joint.numbers t (before c.drawn c.rows_opening t joint.small lt) in (ap left old.0, old.1, old.2);
      small = fits c.rows_opening;
      drawn_commits = λ x is. drawn-more f.rows.opening (f.rows.opening + 1) (links x.tables) (next f.rows.opening) (joint.drawn_commits x is);
      drawn_branches = λ t b is. let two = joint.drawn_branches t b is in (drawn-more f.rows.opening (f.rows.opening + 1) b.moved.gives (next f.rows.opening) two.0, drawn-more f.rows.opening (f.rows.opening + 1) b.moved.takes (next f.rows.opening) two.1);
      whole = whole-opening c (core_database c) refl (ap (λ (k : Kept). k.files) same) (ap (λ (k : Kept). k.copies) same) refl joint.whole;
    }
  where
    before : (d o t : ℕ) → d < (o + 1) * 2 ^ 32 → (o + 1) * 2 ^ 32 < t → d < t
    before d o t a b = omega arith

    fits : (o : ℕ) → (o + 1) * 2 ^ 32 < (o + 1 + 1) * 2 ^ 32
    fits o = omega arith

    next : (o : ℕ) → o ≤ o + 1
    next o = omega arith
