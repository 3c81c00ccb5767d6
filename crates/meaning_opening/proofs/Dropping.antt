-- BRANCHES IN DOUBT THAT HAVE NO COMMIT are aborted, in the order of their numbers.
use Rattle.std.proofs.Common.{◌≡◌, ◌≢◌, ⊎_elim, ℕ, List, [], ◌∷◌, ◌++◌, Bool, true, false, cond, ◌&&◌, map, Option, Some, None, is_none, is_some, refl, sym, ◌∙◌, ap, subst}
use Rattle.std.proofs.lemmas.Bool.{cases_eq}
use Rattle.std.specs.Cmp.{unsigned_tied}
use Rattle.std.specs.FinMap as maps
use Rattle.std.specs.FinMap.{find}
use Rattle.std.specs.List.{flat_map}
use Rattle.std.specs.Ordering.{nat_cmp}
use Rattle.dl_codec.specs.declared.links.BranchPhase.{BranchPhase}
use Rattle.dl_codec.specs.declared.links.BranchPhase.TheVariants as phases
use Rattle.dl_codec.specs.declared.links.LinksRecord.TheVariants as links_records
use Rattle.meaning_areas.specs.Branches.{Branch, branch, moves_on}
use Rattle.meaning_areas.specs.Commits.{Commit, commit_of}
use Rattle.meaning_areas.specs.Lists.{Folds, Written, folds_step, in_links, with_links}
use Rattle.meaning_areas.specs.Moving.{Stays, with_table}
use Rattle.meaning_areas.specs.Stands.{IsStand, Stored, is_open, is_past, open_in}
use Rattle.meaning_settling.specs.Settled.{AreDistinct, IsNot}
use Rattle.meaning_settling.specs.Settling.{Moved}
use Rattle.meaning_system.specs.Writes.{open_drop, when}
use Rattle.meaning_opening.proofs.Entries.{Found}
use Rattle.meaning_opening.proofs.Plain.{false_true, get-there, none_some, some_same, test-other, test-same}
use Rattle.meaning_opening.proofs.Shutting.{IsShut, none-put, shut-here, shut-put}
use Rattle.meaning_opening.proofs.Walks.{Walk}

abbrev pub AbortedStays : Type 0
AbortedStays = (f : Folds) (s : Stored) (tx : ℕ) (m : Moved) → IsStand f s → commit_of tx f.rows.commits ≡ None → maps.get f.links.table tx ≡ Some (branch m phases.Prepared)
    → (later : Folds) × Stays f later (in_links (links_records.Aborted tx)) s

-- what aborting some entries of the table of f comes to, from other lists on
pub record Dropped (f g : Folds) (ws : List Written) (es : List (ℕ × Branch)) (x : Stored) : Type 0 where
  pub last : Folds
  pub walk : Walk g ws last x
  pub rows : last.rows ≡ g.rows
  pub shut : (q : ℕ) → IsShut g q → IsShut last q
  pub none : (q : ℕ) → maps.get g.links.table q ≡ None → maps.get last.links.table q ≡ None
  pub gone : (q : ℕ) (b : Branch) → find nat_cmp q es ≡ Some b → is_open b.phase ≡ true → commit_of q f.rows.commits ≡ None → IsShut last q

-- entries without a commit are there
abbrev pub AreThere : Folds → Folds → List (ℕ × Branch) → Type 0
AreThere f g [] = Unit {0}
AreThere f g (e ∷ es) = (commit_of e.0 f.rows.commits ≡ None → maps.get g.links.table e.0 ≡ Some e.1) × AreThere f g es

pub found-there : (f g : Folds) (es : List (ℕ × Branch)) → ((q : ℕ) → commit_of q f.rows.commits ≡ None → maps.get g.links.table q ≡ maps.get f.links.table q) → Found (maps.get f.links.table) es → AreThere f g es
found-there f g [] kept found = tt
found-there f g (e ∷ es) kept found = ((λ none. kept e.0 none ∙ found.0), found-there f g es kept found.1)

there-put : (f g : Folds) (tx : ℕ) (b : Branch) (es : List (ℕ × Branch)) → IsNot tx (map (λ e. e.0) es) → AreThere f g es → AreThere f (with_table g (maps.insert g.links.table tx b)) es
there-put f g tx b [] never there = tt
there-put f g tx b (e ∷ es) never there = ((λ none. get-there g.links.table tx b e.0 never.0 ∙ there.0 none), there-put f g tx b es never.1 there.1)

-- the first entry, or one behind it
found-either : (e : ℕ × Branch) (es : List (ℕ × Branch)) (q : ℕ) (b : Branch) → find nat_cmp q (e ∷ es) ≡ Some b → (P : Type 0) → (q ≡ e.0 → e.1 ≡ b → P) → (find nat_cmp q es ≡ Some b → P) → P
found-either e es q b found P here behind = ⊎_elim
    (λ (same : q ≡ e.0). here same (some_same e.1 b (sym (ap (λ t. cond t (Some e.1) (find nat_cmp q es)) (unsigned_tied q e.0 ∙ test-same q e.0 same)) ∙ found)))
    (λ (other : q ≢ e.0). behind (sym (ap (λ t. cond t (Some e.1) (find nat_cmp q es)) (unsigned_tied q e.0 ∙ test-other q e.0 other)) ∙ found))
    (cases_eq q e.0)

-- in doubt without a commit is Prepared
is-prepared : (p : BranchPhase) → is_open p ≡ true → (is_past p ≡ true → ⊥) → p ≡ phases.Prepared
is-prepared phases.Prepared still not_past = refl
is-prepared phases.Committed still not_past = absurd (not_past refl)
is-prepared phases.Done still not_past = absurd (false_true still)
is-prepared phases.Aborted still not_past = absurd (false_true still)

module _ (aborted : AbortedStays) (f : Folds) (x : Stored) where
  -- an entry that is not aborted
  passed : (g : Folds) (e : ℕ × Branch) (es : List (ℕ × Branch)) (ws : List Written) → (is_open e.1.phase ≡ true → commit_of e.0 f.rows.commits ≡ None → ⊥) → Dropped f g ws es x → Dropped f g ws (e ∷ es) x
  passed g e es ws never rest = record {
    last = rest.last;
    walk = rest.walk;
    rows = rest.rows;
    shut = rest.shut;
    none = rest.none;
    gone = λ q b found still none. found-either e es q b found (IsShut rest.last q)
        (λ same is. absurd (never (ap (λ (y : Branch). is_open y.phase) is ∙ still) (ap (λ (t : ℕ). commit_of t f.rows.commits) (sym same) ∙ none)))
        (λ behind. rest.gone q b behind still none);
  }

  -- one that is
  dropped : (g : Folds) (e : ℕ × Branch) (es : List (ℕ × Branch)) (ws : List Written) → IsStand g x → commit_of e.0 g.rows.commits ≡ None → is_open e.1.phase ≡ true → maps.get g.links.table e.0 ≡ Some e.1
      → ((h : Folds) → h ≡ with_table g (maps.insert g.links.table e.0 (branch e.1.moved phases.Aborted)) → IsStand h x → Dropped f h ws es x) → Dropped f g (in_links (links_records.Aborted e.0) ∷ ws) (e ∷ es) x
  dropped g e es ws stand none still at go =
      let is : e.1.phase ≡ phases.Prepared = is-prepared e.1.phase still (λ past. false_true (sym (ap is_some none) ∙ stand.compares.decided e.0 e.1 at past)) in
      let prepared : maps.get g.links.table e.0 ≡ Some (branch e.1.moved phases.Prepared) = at ∙ ap (λ (p : BranchPhase). Some (branch e.1.moved p)) is in
      let one = aborted g x e.0 e.1.moved stand none prepared in
      let later : Folds = with_table g (maps.insert g.links.table e.0 (branch e.1.moved phases.Aborted)) in
      let step : folds_step g (in_links (links_records.Aborted e.0)) ≡ Some later = ap (λ (o : Option Branch). with_links g (moves_on phases.Prepared phases.Aborted g.links e.0 o)) prepared in
      let rest = go later refl (subst (λ (h : Folds). IsStand h x) (some_same one.0 later (sym one.1.accepted ∙ step)) one.1.stand) in
      record {
        last = rest.last;
        walk = (stand, later, step, rest.walk);
        rows = rest.rows;
        shut = λ q was. rest.shut q (shut-put g.links.table e.0 (branch e.1.moved phases.Aborted) refl q was);
        none = λ q was. rest.none q (none-put g.links.table e.0 e.1 (branch e.1.moved phases.Aborted) at q was);
        gone = λ q b found open_yet free. found-either e es q b found (IsShut rest.last q)
            (λ same e_b. rest.shut q (ap (λ (t : ℕ). open_in later.links t) same ∙ shut-here g.links.table e.0 (branch e.1.moved phases.Aborted) refl))
            (λ behind. rest.gone q b behind open_yet free);
      }

  pub drop-all : (es : List (ℕ × Branch)) (g : Folds) → IsStand g x → g.rows.commits ≡ f.rows.commits → AreDistinct (map (λ e. e.0) es) → AreThere f g es → Dropped f g (flat_map (open_drop f) es) es x
  drop-all [] g stand same once there = record { last = g; walk = (refl, stand); rows = refl; shut = λ q was. was; none = λ q was. was; gone = λ q b found. absurd (none_some b found) }
  drop-all (e ∷ es) g stand same once there = by (drop-all es) (is_open e.1.phase) refl (commit_of e.0 f.rows.commits) refl
    where
      by : ((h : Folds) → IsStand h x → h.rows.commits ≡ f.rows.commits → AreDistinct (map (λ y. y.0) es) → AreThere f h es → Dropped f h (flat_map (open_drop f) es) es x)
          → (b : Bool) → is_open e.1.phase ≡ b → (o : Option Commit) → commit_of e.0 f.rows.commits ≡ o → Dropped f g (when (b && is_none o) (in_links (links_records.Aborted e.0) ∷ []) ++ flat_map (open_drop f) es) (e ∷ es) x
      by go false closed o is = passed g e es (flat_map (open_drop f) es) (λ still none. false_true (sym closed ∙ still)) (go g stand same once.1 there.1)
      by go true still (Some d) is = passed g e es (flat_map (open_drop f) es) (λ still none. none_some d (sym none ∙ is)) (go g stand same once.1 there.1)
      by go true still None none =
          dropped g e es (flat_map (open_drop f) es) stand (ap (commit_of e.0) same ∙ none) still (there.0 none)
          (λ h are stand_h. go h stand_h (ap (λ (y : Folds). y.rows.commits) are ∙ same) once.1
          (subst (λ (y : Folds). AreThere f y es) (sym are) (there-put f g e.0 (branch e.1.moved phases.Aborted) es once.0 there.1)))
