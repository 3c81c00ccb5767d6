-- A RESTORE THAT IS LET THROUGH: no transaction is left, so that what is stored is whole as it stands; and its tables are those after
-- some commit.
use Rattle.std.proofs.Common.{◌≡◌, ◌⊎◌, inl, inr, ⊎_elim, ℕ, zero, suc, ◌+◌, List, [], ◌∷◌, Bool, true, false, not, length, slice_get, Option, Some, None, refl, sym, ◌∙◌, ap, subst}
use Rattle.std.proofs.lemmas.List.Elements.{recursion_from_All}
use Rattle.std.specs.FinMap as maps
use Rattle.std.specs.FinMap.{find as find_key, get-entries}
use Rattle.std.specs.List.{AllByRecursion}
use Rattle.std.specs.Ordering.{nat_cmp}
use Rattle.dl_base.specs.declared.step.Target.{Target}
use Rattle.dl_base.specs.declared.step.Target.TheVariants as targets
use Rattle.dl_base.specs.declared.value.LinkNo.{LinkNo}
use Rattle.dl_base.specs.declared.value.LinkRow.{LinkRow}
use Rattle.meaning_areas.specs.Commits.{Commit, commit_to}
use Rattle.meaning_areas.specs.Copies.{Backup}
use Rattle.meaning_areas.specs.Core.{decided_in, decided_work}
use Rattle.meaning_areas.specs.Lists.{Folds}
use Rattle.meaning_areas.specs.Stands.{AreDrawn, IsCommit, IsWhole, past, stored_with, txs_of}
use Rattle.meaning_areas.proofs.Tables.{not_none}
use Rattle.meaning_history.specs.Reached.{HasHistory}
use Rattle.meaning_history.specs.Sound.{AreSound}
use Rattle.meaning_merge.specs.History.{IsHistory}
use Rattle.meaning_merge.specs.Restoring.{without_lost}
use Rattle.meaning_merge.specs.Touching.{In, OnePath, is_in}
use Rattle.meaning_merge.proofs.Committed.{Follows}
use Rattle.meaning_merge.proofs.Histories.{ordered-named, past-last}
use Rattle.meaning_merge.proofs.MovedLaws.{lacking-in}
use Rattle.meaning_merge.proofs.Numbers.{Distinct}
use Rattle.meaning_merge.proofs.Paths.{differ-one, distinct-filter, in-numbered, one-same, same-one}
use Rattle.meaning_merge.proofs.Restored.{CanFollow, past-follows, restore-follows}
use Rattle.meaning_merge.proofs.Touched.{fits-distinct}
use Rattle.meaning_settling.specs.Settling.{Kept, link_key, numbered}
use Rattle.meaning_tables.specs.Fits.{fits}
use Rattle.meaning_tables.specs.Links.{gives, links, takes}
use Rattle.meaning_tables.specs.Tables.{Tables}
use Rattle.meaning_system.specs.CoreOf.{core_of, work_at}
use Rattle.meaning_system.specs.Following.{AreInSessions}
use Rattle.meaning_system.specs.Machine.{first_key, first_session, is_unfinished, lost_to, restore_to, tables_in, target_tables, unfinished}
use Rattle.meaning_system.specs.State.{State, Txn, is_active, kept_in, tables_of}
use Rattle.meaning_system.proofs.Claiming.{none-passes}
use Rattle.meaning_system.proofs.Resolving.{settled-none}
use Rattle.meaning_restore.proofs.Bare.{bare-in, restored-in}

none_some : {A : Type 0} (x : A) → None ≡ Some x → ⊥
none_some x e = cc

pub record IsLet (first : ℕ) (s : State) (target : Tables) : Type 0 where
  pub number : ℕ
  pub at : past [] s.commits number ≡ Some target
  pub history : IsHistory first s.commits
  pub whole : IsWhole (stored_with s.commits s.backups s.rows_opening s.links_opening (kept_in s))
  pub drawn : (x : Commit) → IsCommit x s.commits → AreDrawn s.rows_opening (links x.tables)

-- the tables of a target

abbrev OfPast : List Commit → Backup → Type 0
OfPast cs b = past [] cs b.commit ≡ Some b.tables

all-get : (P : Backup → Type 0) (bs : List Backup) (n : ℕ) (b : Backup) → AllByRecursion P bs → slice_get bs n ≡ Some b → P b
all-get P [] n b each is = absurd (none_some b is)
all-get P (x ∷ xs) zero b each is = subst P (same x b is) each.0
  where
    same : (x b : Backup) → Some x ≡ Some b → x ≡ b
    same x b e = cc
all-get P (x ∷ xs) (suc n) b each is = all-get P xs n b each.1 is

target-past : (first : ℕ) (s : State) → HasHistory first s → (t : Target) (target : Tables) → target_tables s t ≡ Some target → (n : ℕ) × (past [] s.commits n ≡ Some target)
target-past first s has (targets.Commit n) target is = (n, is)
target-past first s has (targets.Backup zero) target is = absurd (none_some target is)
target-past first s has (targets.Backup (suc n)) target is = by (slice_get s.backups n) refl is
  where
    by : (o : Option Backup) → slice_get s.backups n ≡ o → tables_in o ≡ Some target → (m : ℕ) × (past [] s.commits m ≡ Some target)
    by None found is = absurd (none_some target is)
    by (Some b) found is = (b.commit, all-get (OfPast s.commits) s.backups n b (recursion_from_All (OfPast s.commits) s.backups has.backups) found ∙ is)

-- no transaction is left

first-none : (es : List (ℕ × ℕ)) → first_key es ≡ None → es ≡ []
first-none [] e = refl
first-none (e ∷ es) none = absurd cc

is-idle : (s : State) → AreInSessions s → first_session s ≡ None → unfinished s ≡ None → (q : ℕ) → maps.get s.txs q ≡ None
is-idle s sessions none all q = by (maps.get s.txs q) refl
  where
    not-false : (b : Bool) → not b ≡ false → b ≡ true
    not-false true e = refl
    not-false false e = absurd cc

    by : (o : Option Txn) → maps.get s.txs q ≡ o → maps.get s.txs q ≡ None
    by None at = at
    by (Some t) at =
        let live : is_active t.phase ≡ true = not-false (is_active t.phase) (none-passes is_unfinished q t (maps.entries s.txs) all (sym (get-entries s.txs q) ∙ at)) in
        let session = sessions q t at live in
        absurd (not_none q (maps.get s.sessions session.0) session.1 (get-entries s.sessions session.0 ∙ ap (find_key nat_cmp session.0) (first-none (maps.entries s.sessions) none)))

pub is-let : (first : ℕ) (f : Folds) (s : State) → AreSound first f s → (t : Target) (target : Tables) → first_session s ≡ None → unfinished s ≡ None → target_tables s t ≡ Some target → IsLet first s target
is-let first f s sound t target none all is =
    let of = target-past first s sound.history t target is in
    let joint = sound.follows.joint in
    record {
      number = of.0;
      at = of.1;
      history = sound.history.history;
      whole = subst (λ (k : Kept). IsWhole (stored_with s.commits s.backups s.rows_opening s.links_opening k)) (settled-none (decided_in (core_of s)) (txs_of s.commits) (kept_in s) no-decided) joint.whole;
      drawn = subst (λ (cs : List Commit). (x : Commit) → IsCommit x cs → AreDrawn s.rows_opening (links x.tables)) joint.commits
          (subst (λ (n : ℕ). (x : Commit) → IsCommit x f.rows.commits → AreDrawn n (links x.tables)) joint.rows_opening joint.drawn_commits);
    }
  where
    no-decided : (q : ℕ) → decided_in (core_of s) q ≡ None
    no-decided q = ap decided_work (ap (work_at s) (is-idle s sound.in_sessions none all q))

-- tables of the past are those of a commit, or none
pub past-commit : (t : Tables) (cs : List Commit) (n : ℕ) (ts : Tables) → past t cs n ≡ Some ts → (t ≡ ts) ⊎ ((x : Commit) × IsCommit x cs × (x.tables ≡ ts))
past-commit t cs zero ts at = inl (let e : t ≡ ts = cc in e)
past-commit t [] (suc n) ts at = absurd cc
past-commit t (c ∷ cs) (suc n) ts at = ⊎_elim
    (λ (e : c.tables ≡ ts). inr (c, inl refl, e))
    (λ (later : (x : Commit) × IsCommit x cs × (x.tables ≡ ts)). inr (later.0, inr later.1, later.2))
    (past-commit c.tables cs n ts at)

pub commit-past : (t : Tables) (cs : List Commit) (x : Commit) → IsCommit x cs → (n : ℕ) × (past t cs n ≡ Some x.tables)
commit-past t [] x is = absurd is
commit-past t (c ∷ cs) x is = ⊎_elim
    (λ (e : x ≡ c). (1, first (ap (λ (y : Commit). y.tables) e)))
    (λ (later : IsCommit x cs). (let n = commit-past c.tables cs x later in (suc n.0, n.1)))
    is
  where
    first : x.tables ≡ c.tables → past t (c ∷ cs) 1 ≡ Some x.tables
    first e = ap (λ (ts : Tables). Some ts) (sym e)

-- ITS LINKS
module _ (first : ℕ) (s : State) (target : Tables) (has : IsLet first s target) where
  abbrev pub bare : Tables
  bare = without_lost (lost_to s target) target

  abbrev pub later : Tables
  later = restore_to s target

  abbrev pub given : List LinkRow
  given = gives (tables_of s) (restore_to s target)

  abbrev pub taken : List LinkRow
  taken = takes (tables_of s) (restore_to s target)

  pub can : CanFollow first s.commits bare
  can = past-follows first s.commits has.number target (lost_to s target) has.history has.at

  goes_on : Follows first s.commits (commit_to s.commits 0 false later)
  goes_on = restore-follows first s.commits bare (commit_to s.commits 0 false later) has.history can refl

  pub later-fits : fits later ≡ true
  later-fits = goes_on.fit

  pub last-at : past [] s.commits (length s.commits) ≡ Some (tables_of s)
  last-at = past-last [] s.commits

  pub past-distinct : (n : ℕ) (ts : Tables) → past [] s.commits n ≡ Some ts → Distinct (links ts)
  past-distinct n ts at = fits-distinct ts (has.history.fit n ts at)

  pub last-distinct : Distinct (links (tables_of s))
  last-distinct = past-distinct (length s.commits) (tables_of s) last-at

  pub later-distinct : Distinct (links later)
  later-distinct = fits-distinct later later-fits

  pub given-distinct : Distinct given
  given-distinct = distinct-filter (λ x. not (is_in (links later) x)) (links (tables_of s)) last-distinct

  -- each is one of the target that is not lost
  pub later-in : (l : LinkRow) → In l (links later) → In l (links target) × (lost_to s target l ≡ false)
  later-in l is = bare-in (lost_to s target) target l
      (restored-in (tables_of s) bare (length s.commits + 1) (ordered-named (tables_of s) (has.history.ordered (length s.commits) (tables_of s) last-at)) can.named l is)

  -- one number is one link in all of the past
  pub past-one : (m n : ℕ) (ts us : Tables) (x y : LinkRow) → past [] s.commits m ≡ Some ts → past [] s.commits n ≡ Some us → In x (links ts) → In y (links us) → x.link ≡ y.link → x ≡ y
  past-one m n ts us x y at_m at_n in_x in_y same = ⊎_elim
      (λ (e : [] ≡ ts). absurd (subst (λ (vs : Tables). In x (links vs)) (sym e) in_x))
      (λ (c : (d : Commit) × IsCommit d s.commits × (d.tables ≡ ts)). ⊎_elim
      (λ (e : [] ≡ us). absurd (subst (λ (vs : Tables). In y (links vs)) (sym e) in_y))
      (λ (e : (d : Commit) × IsCommit d s.commits × (d.tables ≡ us)).
      has.whole.one_path c.0 e.0 (link_key x.link) x y c.1 e.1
      (ap (λ (vs : Tables). numbered (links vs) (link_key x.link)) c.2 ∙ in-numbered (links ts) x (past-distinct m ts at_m) in_x)
      (ap (λ (vs : Tables). numbered (links vs) (link_key x.link)) e.2 ∙ ap (λ (l : LinkNo). numbered (links us) (link_key l)) same ∙ in-numbered (links us) y (past-distinct n us at_n) in_y))
      (past-commit [] s.commits n us at_n))
      (past-commit [] s.commits m ts at_m)

  pub later-one : (n : ℕ) (ts : Tables) (x y : LinkRow) → past [] s.commits n ≡ Some ts → In x (links ts) → In y (links later) → x.link ≡ y.link → x ≡ y
  later-one n ts x y at in_x in_y same = past-one n has.number ts target x y at has.at in_x (later-in y in_y).0 same

  -- paths
  pub past-paths : (n : ℕ) (ts : Tables) → past [] s.commits n ≡ Some ts → OnePath (links ts)
  past-paths n ts at = ⊎_elim
      (λ (e : [] ≡ ts). subst (λ (us : Tables). OnePath (links us)) e tt)
      (λ (c : (x : Commit) × IsCommit x s.commits × (x.tables ≡ ts)). subst (λ (us : Tables). OnePath (links us)) c.2 (differ-one (links c.0.tables) (has.whole.paths c.0 c.1)))
      (past-commit [] s.commits n ts at)

  pub last-paths : OnePath (links (tables_of s))
  last-paths = past-paths (length s.commits) (tables_of s) last-at

  pub later-paths : OnePath (links later)
  later-paths = same-one (links later) later-distinct (λ x y in_x in_y e. one-same (links target) x y (past-paths has.number target has.at) (later-in x in_x).0 (later-in y in_y).0 e)

  pub given-link : (l : LinkRow) → In l given → In l (links (tables_of s)) × (is_in (links later) l ≡ false)
  given-link l is = lacking-in (links (tables_of s)) (links later) l is

  pub taken-link : (l : LinkRow) → In l taken → In l (links later) × (is_in (links (tables_of s)) l ≡ false)
  taken-link l is = lacking-in (links later) (links (tables_of s)) l is
