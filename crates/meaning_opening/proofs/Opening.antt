-- AN OPENING: its records are a walk behind two that count it, to lists that go with the state with which a run begins.
use Rattle.std.proofs.Common.{◌≡◌, inl, inr, ⊎_elim, ◌≢◌, ℕ, ◌+◌, ◌*◌, ◌/◌, ◌^◌, ◌<◌, ◌==◌, List, [], ◌∷◌, ◌++◌, Bool, true, false, cond, ◌&&◌, Option, Some, None, is_none, is_some, refl, sym, ◌∙◌, ap, subst, arith}
use Rattle.std.proofs.lemmas.Bool.{cases_eq}
use Rattle.std.specs.FinMap as maps
use Rattle.std.specs.FinMap.{get-empty, get-entries}
use Rattle.std.specs.List.{flat_map}
use Rattle.std.specs.Ordering.{nat_cmp}
use Rattle.dl_base.specs.declared.step.Settings.{Settings}
use Rattle.dl_codec.specs.declared.links.BranchPhase.{BranchPhase}
use Rattle.dl_codec.specs.declared.links.BranchPhase.TheVariants as phases
use Rattle.dl_codec.specs.declared.links.LinksRecord.TheVariants as links_records
use Rattle.dl_codec.specs.declared.rows.RowsRecord.TheVariants as rows_records
use Rattle.meaning_areas.specs.Branches.{Branch, Branches, is_phase, links_step}
use Rattle.meaning_areas.specs.Commits.{Commit, Commits, commit_of, rows_step}
use Rattle.meaning_areas.specs.Core.{Core}
use Rattle.meaning_areas.specs.Joint.{Joint}
use Rattle.meaning_areas.specs.Lists.{Folds, Written, folds_on, folds_step, in_links, in_rows, with_links, with_rows}
use Rattle.meaning_areas.specs.Moving.{core_opened, core_with, open_work, opened, with_rows_opening}
use Rattle.meaning_areas.specs.Stands.{Compares, IsStand, IsWhole, Stored, is_open, kept_of, open_branch, open_in, settled_of, stored_of, txs_of}
use Rattle.meaning_settling.specs.Settled.{IsIn, settle_open, settled}
use Rattle.meaning_settling.specs.Settling.{Kept, Moved}
use Rattle.meaning_system.specs.CoreOf.{core_of, work_at}
use Rattle.meaning_system.specs.Following.{Follows}
use Rattle.meaning_system.specs.Machine.{start}
use Rattle.meaning_system.specs.State.{number_of}
use Rattle.meaning_system.specs.Writes.{open_drop, open_settles, opening, when}
use Rattle.meaning_opening.specs.Fronts.{next_links, next_rows, opened_by}
use Rattle.meaning_opening.proofs.Completing.{Completed, FinishLeads, FinishStands, GiveNumbers, settle-all}
use Rattle.meaning_opening.proofs.Counting.{counted, stand-rows}
use Rattle.meaning_opening.proofs.Dropping.{AbortedStays, Dropped, drop-all, found-there}
use Rattle.meaning_opening.proofs.Entries.{entries-differ, entries-found}
use Rattle.meaning_opening.proofs.Plain.{false_true, none_some, some_same, test-other, test-same}
use Rattle.meaning_opening.proofs.Shutting.{IsShut}
use Rattle.meaning_opening.proofs.Walks.{Walk, walk-fronts, walk-last, walk-more, walk-taken}

-- WHAT IS PROMISED

abbrev pub RowsAreOpened : Type 0
RowsAreOpened = (r : Commits) → rows_step r (rows_records.Opening (r.opening + 1)) ≡ Some (record { opening = r.opening + 1; commits = r.commits; ended = r.ended })

abbrev pub LinksAreOpened : Type 0
LinksAreOpened = (l : Branches) → links_step l (links_records.Opening (l.opening + 1)) ≡ Some (record { opening = l.opening + 1; table = l.table; held = l.held })

abbrev pub OpenedIsJoint : Type 0
OpenedIsJoint = (f : Folds) → Compares f → IsWhole (stored_of f) → Joint f (core_opened f)

pub record Parts : Type 0 where
  pub leads : FinishLeads
  pub stands : FinishStands
  pub aborted : AbortedStays
  pub rows : RowsAreOpened
  pub links : LinksAreOpened
  pub joint : OpenedIsJoint

-- each transaction of some commits has one
in-commit : (tx : ℕ) (cs : List Commit) → IsIn tx (txs_of cs) → is_some (commit_of tx cs) ≡ true
in-commit tx [] is = absurd is
in-commit tx (d ∷ ds) is = by (in-commit tx ds) (d.tx == tx) refl
  where
    by : (IsIn tx (txs_of ds) → is_some (commit_of tx ds) ≡ true) → (b : Bool) → (d.tx == tx) ≡ b → is_some (cond b (Some d) (commit_of tx ds)) ≡ true
    by rest true e = refl
    by rest false e = ⊎_elim (λ (same : tx ≡ d.tx). absurd (false_true (sym e ∙ test-same d.tx tx (sym same)))) rest is

commit-in : (tx : ℕ) (d : Commit) (cs : List Commit) → commit_of tx cs ≡ Some d → IsIn tx (txs_of cs)
commit-in tx d [] is = absurd (none_some d is)
commit-in tx d (c ∷ cs) is = ⊎_elim
    (λ (e : c.tx ≡ tx). inl (sym e))
    (λ (other : c.tx ≢ tx). inr (commit-in tx d cs (ap (λ b. cond b (Some c) (commit_of tx cs)) (sym (test-other c.tx tx other)) ∙ is)))
    (cases_eq c.tx tx)

-- where nothing is in doubt nothing is settled

settled-none : (open_at : ℕ → Option Moved) (ts : List ℕ) (k : Kept) → ((t : ℕ) → open_at t ≡ None) → settled open_at ts k ≡ k
settled-none open_at [] k none = refl
settled-none open_at (t ∷ ts) k none = ap (λ (o : Option Moved). settled open_at ts (settle_open o k)) (none t) ∙ settled-none open_at ts k none

shut-work : (c : Option Commit) (b : Option Branch) → open_branch b ≡ None → opened c b ≡ None
shut-work c None shut = refl
shut-work c (Some b) shut = by (is_open b.phase) shut
  where
    by : (t : Bool) → cond t (Some b.moved) None ≡ None → cond t (Some (open_work c b.moved)) None ≡ None
    by true is = absurd (none_some b.moved (sym is))
    by false is = refl

shut-phase : (b : Branch) → open_branch (Some b) ≡ None → is_phase b.phase phases.Committed ≡ false
shut-phase b = by b.phase
  where
    by : (p : BranchPhase) → cond (is_open p) (Some b.moved) None ≡ None → is_phase p phases.Committed ≡ false
    by phases.Prepared is = absurd (none_some b.moved (sym is))
    by phases.Committed is = absurd (none_some b.moved (sym is))
    by phases.Done is = refl
    by phases.Aborted is = refl

-- THE STATE WITH WHICH A RUN BEGINS goes with lists without a branch in doubt that have no number of a later opening
module _ (joint : OpenedIsJoint) (last : Folds) (x : Stored) (stand : IsStand last (next_links (next_rows x))) (shut : (q : ℕ) → IsShut last q)
    (numbers : (t : ℕ) → x.rows_opening < t / 2 ^ 32 → (commit_of t last.rows.commits ≡ None) × (maps.get last.links.table t ≡ None)) (given : Settings) where
  abbrev drawn : ℕ
  drawn = number_of (start given x)

  kept-same : settled_of last ≡ kept_of last
  kept-same = settled-none (open_in last.links) (txs_of last.rows.commits) (kept_of last) shut

  late : (o t : ℕ) → (o + 1) * 2 ^ 32 + 0 < t → o < t / 2 ^ 32
  late o t lt = omega arith

  small : (o r : ℕ) → r ≡ o + 1 → (o + 1) * 2 ^ 32 + 0 < (r + 1) * 2 ^ 32
  small o r is = omega (arith, is)

  joint-drawn : Joint last (core_with (core_opened last) (core_opened last).works drawn)
  joint-drawn =
      let j = joint last stand.compares (subst IsWhole stand.is stand.whole) in
      record {
        commits = j.commits;
        rows_opening = j.rows_opening;
        links_opening = j.links_opening;
        files = j.files;
        copies = j.copies;
        backups = j.backups;
        agrees = j.agrees;
        ended = j.ended;
        distinct = j.distinct;
        moved = j.moved;
        apart = j.apart;
        plain = j.plain;
        ready = j.ready;
        held = j.held;
        numbers = λ t lt. let none = numbers t (late x.rows_opening t lt) in (shut-work (commit_of t last.rows.commits) (maps.get last.links.table t) (shut t), none.0, none.1);
        small = small x.rows_opening last.rows.opening (sym (ap (λ (y : Stored). y.rows_opening) stand.is));
        drawn_commits = j.drawn_commits;
        drawn_branches = j.drawn_branches;
        whole = j.whole;
      }

  core-same : core_with (core_opened last) (core_opened last).works drawn ≡ core_of (start given x)
  core-same = λ i. record {
    commits = ap (λ (y : Stored). y.commits) (sym stand.is) i;
    files = (ap (λ (k : Kept). k.files) (sym kept-same) ∙ ap (λ (y : Stored). y.files) (sym stand.is)) i;
    copies = (ap (λ (k : Kept). k.copies) (sym kept-same) ∙ ap (λ (y : Stored). y.copies) (sym stand.is)) i;
    backups = ap (λ (y : Stored). y.backups) (sym stand.is) i;
    rows_opening = ap (λ (y : Stored). y.rows_opening) (sym stand.is) i;
    links_opening = ap (λ (y : Stored). y.links_opening) (sym stand.is) i;
    works = λ q. (shut-work (commit_of q last.rows.commits) (maps.get last.links.table q) (shut q) ∙ ap (work_at (start given x)) (sym (get-empty nat_cmp q))) i;
    drawn = drawn;
  }

  pub follows-start : Follows last (start given x)
  follows-start = record {
    joint = subst (λ (c : Core). Joint last c) core-same joint-drawn;
    uncut = λ tx b at. shut-phase b (ap open_branch (sym at) ∙ shut tx);
  }

-- AN OPENING
module _ (parts : Parts) (f : Folds) (x : Stored) (stand : IsStand f x) (give : GiveNumbers f.rows.commits) where
  abbrev y : Stored
  y = next_links (next_rows x)

  abbrev rest : List Written
  rest = open_settles f f.rows.commits ++ flat_map (open_drop f) (maps.entries f.links.table)

  settles : Completed f (open_settles f f.rows.commits) f.rows.commits y
  settles = settle-all parts.leads parts.stands f.rows.commits f x stand give (λ tx is. in-commit tx f.rows.commits is)

  drops : Dropped f (counted settles.last) (flat_map (open_drop f) (maps.entries f.links.table)) (maps.entries f.links.table) y
  drops = drop-all parts.aborted f y (maps.entries f.links.table) (counted settles.last)
      (walk-last (open_settles f f.rows.commits) (counted f) (counted settles.last) y settles.walk)
      settles.commits (entries-differ f.links.table) (found-there f (counted settles.last) (maps.entries f.links.table) settles.kept (entries-found f.links.table))

  pub behind : Folds
  behind = drops.last

  rest-walk : Walk (counted f) rest behind y
  unfolding behind
  rest-walk = walk-more (open_settles f f.rows.commits) (flat_map (open_drop f) (maps.entries f.links.table)) (counted f) (counted settles.last) drops.last y settles.walk drops.walk

  rows-taken : folds_step f (in_rows (rows_records.Opening (f.rows.opening + 1))) ≡ Some (with_rows_opening f)
  rows-taken = ap (with_rows f) (parts.rows f.rows)

  links-taken : folds_step (with_rows_opening f) (in_links (links_records.Opening (f.links.opening + 1))) ≡ Some (counted f)
  links-taken = ap (with_links (with_rows_opening f)) (parts.links f.links)

  pub opening-taken : folds_on (Some f) (opening f) ≡ Some behind
  opening-taken =
      ap (λ (o : Option Folds). folds_on o (in_links (links_records.Opening (f.links.opening + 1)) ∷ rest)) rows-taken
      ∙ ap (λ (o : Option Folds). folds_on o rest) links-taken
      ∙ walk-taken rest (counted f) behind y rest-walk

  pub opening-stand : IsStand behind y
  opening-stand = walk-last rest (counted f) behind y rest-walk

  -- EACH FRONT

  head-same : (v w : Written) (vs ws : List Written) → v ∷ vs ≡ w ∷ ws → v ≡ w
  head-same v w vs ws e = cc

  tail-same : (v w : Written) (vs ws : List Written) → v ∷ vs ≡ w ∷ ws → vs ≡ ws
  tail-same v w vs ws e = cc

  pub opening-fronts : (front more : List Written) → front ++ more ≡ opening f → (later : Folds) × (folds_on (Some f) front ≡ Some later) × IsStand later (opened_by x front)
  opening-fronts [] more parts_are = (f, refl, stand)
  opening-fronts (r ∷ []) more parts_are =
      let first = head-same r (in_rows (rows_records.Opening (f.rows.opening + 1))) more (in_links (links_records.Opening (f.links.opening + 1)) ∷ rest) parts_are in
      (with_rows_opening f, ap (folds_step f) first ∙ rows-taken, stand-rows f x stand)
  opening-fronts (r ∷ l ∷ front) more parts_are =
      let first = head-same r (in_rows (rows_records.Opening (f.rows.opening + 1))) (l ∷ (front ++ more)) (in_links (links_records.Opening (f.links.opening + 1)) ∷ rest) parts_are in
      let behind_first = tail-same r (in_rows (rows_records.Opening (f.rows.opening + 1))) (l ∷ (front ++ more)) (in_links (links_records.Opening (f.links.opening + 1)) ∷ rest) parts_are in
      let second = head-same l (in_links (links_records.Opening (f.links.opening + 1))) (front ++ more) rest behind_first in
      let on = walk-fronts rest (counted f) behind y rest-walk front more (tail-same l (in_links (links_records.Opening (f.links.opening + 1))) (front ++ more) rest behind_first) in (
        on.0,
        ap (λ (o : Option Folds). folds_on o (l ∷ front)) (ap (folds_step f) first ∙ rows-taken)
            ∙ ap (λ (o : Option Folds). folds_on o front) (ap (folds_step (with_rows_opening f)) second ∙ links-taken)
            ∙ on.1,
        on.2,
      )

  -- BEHIND ALL nothing is in doubt

  opening-shut : (q : ℕ) → IsShut behind q
  unfolding behind
  opening-shut q = by (commit_of q f.rows.commits) refl
    where
      entry : commit_of q f.rows.commits ≡ None → (o : Option Branch) → maps.get f.links.table q ≡ o → IsShut drops.last q
      entry free None at = drops.shut q (ap open_branch (settles.kept q free ∙ at))
      entry free (Some b) at = on (is_open b.phase) refl
        where
          on : (t : Bool) → is_open b.phase ≡ t → IsShut drops.last q
          on true still = drops.gone q b (sym (get-entries f.links.table q) ∙ at) still free
          on false closed = drops.shut q (ap open_branch (settles.kept q free ∙ at) ∙ ap (λ t. cond t (Some b.moved) None) closed)

      by : (o : Option Commit) → commit_of q f.rows.commits ≡ o → IsShut drops.last q
      by (Some d) is = drops.shut q (settles.done q (commit-in q d f.rows.commits is))
      by None free = entry free (maps.get f.links.table q) refl

  opening-numbers : (t : ℕ) → x.rows_opening < t / 2 ^ 32 → (commit_of t behind.rows.commits ≡ None) × (maps.get behind.links.table t ≡ None)
  unfolding behind
  opening-numbers t lt =
      let none = stand.compares.numbers t (subst (λ (n : ℕ). n < t / 2 ^ 32) (ap (λ (s : Stored). s.rows_opening) stand.is) lt) in
      (ap (λ (r : Commits). commit_of t r.commits) drops.rows ∙ ap (commit_of t) settles.commits ∙ none.0, drops.none t (settles.none t none.1))

  pub opening-follows : (given : Settings) → Follows behind (start given x)
  opening-follows given = follows-start parts.joint behind x opening-stand opening-shut opening-numbers given

  -- WHAT IS STILL TO BE WRITTEN goes by the lists as they are, behind the two openings and behind all that was settled

  pub settles-present : open_settles (counted f) f.rows.commits ≡ open_settles f f.rows.commits
  settles-present = settles.present

  pub drops-present : (later : Folds) → folds_on (Some (counted f)) (open_settles f f.rows.commits) ≡ Some later → flat_map (open_drop later) (maps.entries later.links.table) ≡ flat_map (open_drop f) (maps.entries f.links.table)
  drops-present later taken =
      let same : counted settles.last ≡ later = some_same (counted settles.last) later (sym (walk-taken (open_settles f f.rows.commits) (counted f) (counted settles.last) y settles.walk) ∙ taken) in
      ap (λ (g : Folds). flat_map (open_drop g) (maps.entries g.links.table)) (sym same)
      ∙ (λ i. flat_map (λ e. when (is_open e.1.phase && is_none (commit_of e.0 (settles.commits i))) (in_links (links_records.Aborted e.0) ∷ [])) (maps.entries settles.last.links.table))
      ∙ settles.drops
