-- COMMITTED BRANCHES IN DOUBT are settled in the order of their commits, behind two openings that are counted.
use Rattle.std.proofs.Common.{◌≡◌, inl, inr, ⊎_elim, ℕ, List, [], ◌∷◌, ◌++◌, Bool, true, false, cond, Option, Some, None, is_some, refl, sym, ◌∙◌, ap, subst}
use Rattle.std.specs.FinMap as maps
use Rattle.std.specs.List.{flat_map}
use Rattle.std.specs.Option.{unwrap_or}
use Rattle.dl_base.specs.declared.value.LinkRow.{LinkRow}
use Rattle.dl_codec.specs.declared.links.BranchPhase.{BranchPhase}
use Rattle.dl_codec.specs.declared.links.BranchPhase.TheVariants as phases
use Rattle.meaning_areas.specs.Branches.{Branch, branch}
use Rattle.meaning_areas.specs.Commits.{Commit, commit_of}
use Rattle.meaning_areas.specs.Finishing.{AreNumbered, finish_records}
use Rattle.meaning_areas.specs.Lists.{Folds, Written, folds_on}
use Rattle.meaning_areas.specs.Moving.{with_finish}
use Rattle.meaning_areas.specs.Stands.{IsBranch, IsStand, Stored, is_open, kept_of, open_branch, open_in, txs_of}
use Rattle.meaning_settling.specs.Settled.{IsIn}
use Rattle.meaning_settling.specs.Settling.{Moved}
use Rattle.meaning_system.specs.Writes.{after, open_drop, open_settles, open_writes}
use Rattle.meaning_opening.specs.Fronts.{FrontsStand, next_links, next_rows}
use Rattle.meaning_opening.proofs.Counting.{counted, stand-counted}
use Rattle.meaning_opening.proofs.Plain.{get-there, none_some, some_same, the_some}
use Rattle.meaning_opening.proofs.Present.{insert-drops}
use Rattle.meaning_opening.proofs.Shutting.{IsShut, none-put, shut-here, shut-put}
use Rattle.meaning_opening.proofs.Walks.{Walk, fronts-walk, walk-more}

-- A FINISH THAT GOES ON, as it is promised
abbrev pub FinishLeads : Type 0
FinishLeads = (f : Folds) (x : Stored) (tx : ℕ) (m : Moved) (p : BranchPhase) → IsStand f x → is_some (commit_of tx f.rows.commits) ≡ true → maps.get f.links.table tx ≡ Some (branch m p) → is_open p ≡ true → AreNumbered m.gives
    → (folds_on (Some f) (finish_records tx p m (kept_of f)) ≡ Some (with_finish f tx m)) × IsStand (with_finish f tx m) x

abbrev pub FinishStands : Type 0
FinishStands = (f : Folds) (x : Stored) (tx : ℕ) (m : Moved) (p : BranchPhase) → IsStand f x → is_some (commit_of tx f.rows.commits) ≡ true → maps.get f.links.table tx ≡ Some (branch m p) → is_open p ≡ true → AreNumbered m.gives
    → FrontsStand f (finish_records tx p m (kept_of f)) x

-- what each commit gave has different numbers
abbrev pub GiveNumbers : List Commit → Type 0
GiveNumbers cs = (tx : ℕ) (d : Commit) → commit_of tx cs ≡ Some d → AreNumbered d.gives

-- what settling some commits comes to, with two openings counted before
pub record Completed (g : Folds) (ws : List Written) (cs : List Commit) (y : Stored) : Type 0 where
  pub last : Folds
  pub walk : Walk (counted g) ws (counted last) y
  pub commits : last.rows.commits ≡ g.rows.commits
  pub shut : (q : ℕ) → IsShut g q → IsShut last q
  pub kept : (q : ℕ) → commit_of q g.rows.commits ≡ None → maps.get last.links.table q ≡ maps.get g.links.table q
  pub none : (q : ℕ) → maps.get g.links.table q ≡ None → maps.get last.links.table q ≡ None
  pub done : (q : ℕ) → IsIn q (txs_of cs) → IsShut last q
  -- what is still to be written goes by the lists as they are
  pub present : open_settles (counted g) cs ≡ ws
  pub drops : flat_map (open_drop g) (maps.entries last.links.table) ≡ flat_map (open_drop g) (maps.entries g.links.table)

-- what a branch gives is what its commit gave
of-branch : (d : Commit) (b : Branch) → AreNumbered d.gives → IsBranch d.branch d.gives d.takes (Some b) → AreNumbered b.moved.gives
of-branch d b numbers = by d.branch
  where
    by : (t : Bool) → IsBranch t d.gives d.takes (Some b) → AreNumbered b.moved.gives
    by true is = subst (λ (ls : List LinkRow). AreNumbered ls) (sym (ap (λ (y : Branch). y.moved.gives) (some_same b (branch (record { gives = d.gives; takes = d.takes; fill = is.0 }) is.1) is.2))) numbers
    by false is = absurd (none_some b (sym is.0))

-- what is written first
begins : (g : Folds) (c : Commit) (cs : List Commit) (ws : List Written) → open_writes g c.tx (maps.get g.links.table c.tx) ≡ ws → open_settles g (c ∷ cs) ≡ ws ++ open_settles (after g ws) cs
begins g c cs ws is = λ i. is i ++ open_settles (after g (is i)) cs

module _ (leads : FinishLeads) (stands : FinishStands) where
  -- nothing to settle
  passed : (g : Folds) (c : Commit) (cs : List Commit) (ws : List Written) (y : Stored) → IsShut g c.tx → open_settles (counted g) (c ∷ cs) ≡ open_settles (counted g) cs → Completed g ws cs y → Completed g ws (c ∷ cs) y
  passed g c cs ws y closed same rest = record {
    last = rest.last;
    walk = rest.walk;
    commits = rest.commits;
    shut = rest.shut;
    kept = rest.kept;
    none = rest.none;
    done = λ q is. ⊎_elim (λ (e : q ≡ c.tx). rest.shut q (ap (open_in g.links) e ∙ closed)) (λ later. rest.done q later) is;
    present = same ∙ rest.present;
    drops = rest.drops;
  }

  -- a Finish
  settled : (g : Folds) (x : Stored) (c : Commit) (cs : List Commit) (b : Branch) → IsStand g x → is_some (commit_of c.tx g.rows.commits) ≡ true → maps.get g.links.table c.tx ≡ Some b → is_open b.phase ≡ true → AreNumbered b.moved.gives
      → (IsStand (with_finish g c.tx b.moved) x → Completed (with_finish g c.tx b.moved) (open_settles (with_finish g c.tx b.moved) cs) cs (next_links (next_rows x)))
      → Completed g (finish_records c.tx b.phase b.moved (kept_of g) ++ open_settles (after g (finish_records c.tx b.phase b.moved (kept_of g))) cs) (c ∷ cs) (next_links (next_rows x))
  settled g x c cs b stand committed at still numbers go =
      let ws : List Written = finish_records c.tx b.phase b.moved (kept_of g) in
      let y : Stored = next_links (next_rows x) in
      let later : Folds = with_finish g c.tx b.moved in
      let done : Branch = branch b.moved phases.Done in
      let one = leads g x c.tx b.moved b.phase stand committed at still numbers in
      let two = leads (counted g) y c.tx b.moved b.phase (stand-counted g x stand) committed at still numbers in
      let first : Walk (counted g) ws (counted later) y = fronts-walk ws (counted g) (counted later) y (stands (counted g) y c.tx b.moved b.phase (stand-counted g x stand) committed at still numbers) two.0 in
      let behind : after g ws ≡ later = ap (λ (o : Option Folds). unwrap_or o g) one.0 in
      let behind_counted : after (counted g) ws ≡ counted later = ap (λ (o : Option Folds). unwrap_or o (counted g)) two.0 in
      let written : open_settles (counted g) (c ∷ cs) ≡ ws ++ open_settles (after (counted g) ws) cs = begins (counted g) c cs ws (ap (open_writes (counted g) c.tx) at ∙ ap (λ t. cond t ws []) still) in
      let rest = go one.1 in
      record {
        last = rest.last;
        walk = subst (λ (h : Folds). Walk (counted g) (ws ++ open_settles h cs) (counted rest.last) y) (sym behind) (walk-more ws (open_settles later cs) (counted g) (counted later) (counted rest.last) y first rest.walk);
        commits = rest.commits;
        shut = λ q was. rest.shut q (shut-put g.links.table c.tx done refl q was);
        kept = λ q none. rest.kept q none ∙ get-there g.links.table c.tx done q (λ (e : q ≡ c.tx). none_some (the_some (commit_of c.tx g.rows.commits) committed).0 (sym none ∙ ap (λ (t : ℕ). commit_of t g.rows.commits) e ∙ (the_some (commit_of c.tx g.rows.commits) committed).1));
        none = λ q was. rest.none q (none-put g.links.table c.tx b done at q was);
        done = λ q is. ⊎_elim (λ (e : q ≡ c.tx). rest.shut q (ap (open_in later.links) e ∙ shut-here g.links.table c.tx done refl)) (λ more. rest.done q more) is;
        present = written ∙ (λ i. ws ++ open_settles (behind_counted i) cs) ∙ ap (λ (vs : List Written). ws ++ vs) rest.present ∙ (λ i. ws ++ open_settles (sym behind i) cs);
        drops = rest.drops ∙ insert-drops g g.links.table c.tx done committed;
      }

  pub settle-all : (cs : List Commit) (g : Folds) (x : Stored) → IsStand g x → GiveNumbers g.rows.commits → ((tx : ℕ) → IsIn tx (txs_of cs) → is_some (commit_of tx g.rows.commits) ≡ true) → Completed g (open_settles g cs) cs (next_links (next_rows x))
  settle-all [] g x stand numbers within = record { last = g; walk = (refl, stand-counted g x stand); commits = refl; shut = λ q was. was; kept = λ q none. refl; none = λ q was. was; done = λ q is. absurd is; present = refl; drops = refl }
  settle-all (c ∷ cs) g x stand numbers within = by (settle-all cs) (maps.get g.links.table c.tx) refl
    where
      by : ((h : Folds) (z : Stored) → IsStand h z → GiveNumbers h.rows.commits → ((tx : ℕ) → IsIn tx (txs_of cs) → is_some (commit_of tx h.rows.commits) ≡ true) → Completed h (open_settles h cs) cs (next_links (next_rows z)))
          → (o : Option Branch) → maps.get g.links.table c.tx ≡ o → Completed g (open_writes g c.tx o ++ open_settles (after g (open_writes g c.tx o)) cs) (c ∷ cs) (next_links (next_rows x))
      by go None is = passed g c cs (open_settles g cs) (next_links (next_rows x)) (ap open_branch is) (begins (counted g) c cs [] (ap (open_writes (counted g) c.tx) is)) (go g x stand numbers (λ tx more. within tx (inr more)))
      by go (Some b) is = on (is_open b.phase) refl
        where
          on : (t : Bool) → is_open b.phase ≡ t
              → Completed g (cond t (finish_records c.tx b.phase b.moved (kept_of g)) [] ++ open_settles (after g (cond t (finish_records c.tx b.phase b.moved (kept_of g)) [])) cs) (c ∷ cs) (next_links (next_rows x))
          on false closed = passed g c cs (open_settles g cs) (next_links (next_rows x)) (ap open_branch is ∙ ap (λ t. cond t (Some b.moved) None) closed) (begins (counted g) c cs [] (ap (open_writes (counted g) c.tx) is ∙ ap (λ t. cond t (finish_records c.tx b.phase b.moved (kept_of g)) []) closed)) (go g x stand numbers (λ tx more. within tx (inr more)))
          on true still =
              let committed = within c.tx (inl refl) in
              let d = the_some (commit_of c.tx g.rows.commits) committed in
              settled g x c cs b stand committed is still
              (of-branch d.0 b (numbers c.tx d.0 d.1) (subst (λ (o : Option Branch). IsBranch d.0.branch d.0.gives d.0.takes o) is (stand.compares.branches c.tx d.0 d.1)))
              (λ stand_later. go (with_finish g c.tx b.moved) x stand_later numbers (λ tx more. within tx (inr more)))
