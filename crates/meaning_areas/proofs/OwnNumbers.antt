-- COMMITTED BRANCHES ON DIFFERENT PATHS HAVE NO LINK NUMBER IN COMMON: what they give and take are links of commits, in which a number
-- has one path.
use Rattle.std.proofs.Common.{◌≡◌, ◌≢◌, ◌⊎◌, inl, inr, ⊎_elim, ℕ, List, [], ◌∷◌, Bool, true, false, not, cond, ◌&&◌, ◌||◌, filter, map, Option, Some, None, is_some, refl, sym, ◌∙◌, ap, subst}
use Rattle.std.specs.FinMap as maps
use Rattle.std.specs.List.{find, list_any}
use Rattle.dl_base.specs.declared.value.LinkNo.{LinkNo}
use Rattle.dl_base.specs.declared.value.LinkRow.{LinkRow}
use Rattle.meaning_settling.specs.Apart.{Apart, ShareNoPath, has_key, has_path}
use Rattle.meaning_settling.specs.Keyed.{is_at}
use Rattle.meaning_settling.specs.Settled.{AreApart}
use Rattle.meaning_settling.specs.Settling.{Moved, link_key, numbered}
use Rattle.meaning_settling.proofs.KeyedLaws.{any-append, find-any, find-key, is_at-same, or-right}
use Rattle.meaning_settling.proofs.PartLaws.{gives-has}
use Rattle.meaning_tables.specs.Links.{lacking, links, same_number}
use Rattle.meaning_tables.specs.Tables.{Tables}
use Rattle.meaning_areas.specs.Branches.{Branch}
use Rattle.meaning_areas.specs.Commits.{Commit, HaveMoved, commit_of}
use Rattle.meaning_areas.specs.Core.{Core, Stage, Work, active, decided, decided_in, decided_work, is_decided, prepared}
use Rattle.meaning_areas.specs.Joint.{AgreesAt, Joint}
use Rattle.meaning_areas.specs.Lists.{Folds}
use Rattle.meaning_areas.specs.Stands.{IsBranch, IsCommit, IsStand, Stored, is_open, open_branch, open_in, txs_of}
use Rattle.meaning_areas.proofs.Equal.{number-same}
use Rattle.meaning_areas.proofs.Steps.{agrees-of}
use Rattle.meaning_areas.proofs.Tables.{OneLink, commit-is, in-commit, not_none, some_same, the_some}

false_true : false ≡ true → ⊥
false_true e = cc

-- what is found among those that pass a test passes it
found-passes : (test key : LinkRow → Bool) (xs : List LinkRow) (z : LinkRow) → find key (filter test xs) ≡ Some z → test z ≡ true
found-passes test key [] z e = absurd cc
found-passes test key (x ∷ xs) z e = by (found-passes test key xs z) (test x) refl e
  where
    here : (find key (filter test xs) ≡ Some z → test z ≡ true) → test x ≡ true → (b : Bool) → cond b (Some x) (find key (filter test xs)) ≡ Some z → test z ≡ true
    here rest passes true same = ap test (sym (some_same x z same)) ∙ passes
    here rest passes false later = rest later

    by : (find key (filter test xs) ≡ Some z → test z ≡ true) → (b : Bool) → test x ≡ b → find key (cond b (x ∷ filter test xs) (filter test xs)) ≡ Some z → test z ≡ true
    by rest true passes is = here rest passes (key x) is
    by rest false fails is = rest is

-- the links that another list lacks are found under their numbers as before
numbered-lacking : (ys : List LinkRow) (n : List ℕ) (xs : List LinkRow) (z : LinkRow) → numbered (lacking xs ys) n ≡ Some z → numbered xs n ≡ Some z
numbered-lacking ys n [] z e = absurd cc
numbered-lacking ys n (x ∷ xs) z e = by (numbered-lacking ys n xs z) (list_any (λ y. same_number x.link y.link) ys) refl (is_at n (link_key x.link)) refl e
  where
    -- one that the other list has is of no number that is found
    other : list_any (λ y. same_number x.link y.link) ys ≡ true → is_at n (link_key x.link) ≡ true → numbered (lacking xs ys) n ≡ Some z → ⊥
    other has here is =
        let same : x.link ≡ z.link = number-same x.link z.link (sym (is_at-same n (link_key x.link) here) ∙ find-key (λ (l : LinkRow). link_key l.link) (lacking xs ys) n z is) in
        let lacks : not (list_any (λ y. same_number z.link y.link) ys) ≡ true = found-passes (λ l. not (list_any (λ y. same_number l.link y.link) ys)) (λ l. is_at n (link_key l.link)) xs z is in
        false_true (sym (ap (λ (l : LinkNo). not (list_any (λ y. same_number l y.link) ys)) (sym same) ∙ ap not has) ∙ lacks)

    by : (numbered (lacking xs ys) n ≡ Some z → numbered xs n ≡ Some z) → (b : Bool) → list_any (λ y. same_number x.link y.link) ys ≡ b → (k : Bool) → is_at n (link_key x.link) ≡ k
        → numbered (cond (not b) (x ∷ lacking xs ys) (lacking xs ys)) n ≡ Some z → cond k (Some x) (numbered xs n) ≡ Some z
    by rest true has true here is = absurd (other has here is)
    by rest true has false there is = rest is
    by rest false lacks true here is = sym (ap (λ b. cond b (Some x) (numbered (lacking xs ys) n)) here) ∙ is
    by rest false lacks false there is = rest (sym (ap (λ b. cond b (Some x) (numbered (lacking xs ys) n)) there) ∙ is)

-- a number of a transaction is that of a link that it gives or takes, on one of its paths

key-found : (xs : List LinkRow) (n : List ℕ) → list_any (is_at n) (map (λ l. link_key l.link) xs) ≡ true → (z : LinkRow) × (numbered xs n ≡ Some z)
key-found [] n e = absurd (false_true e)
key-found (x ∷ xs) n e = by (key-found xs n) (is_at n (link_key x.link)) e
  where
    by : (list_any (is_at n) (map (λ (l : LinkRow). link_key l.link) xs) ≡ true → (z : LinkRow) × (numbered xs n ≡ Some z)) → (b : Bool) → (b || list_any (is_at n) (map (λ (l : LinkRow). link_key l.link) xs)) ≡ true
        → (z : LinkRow) × (cond b (Some x) (numbered xs n) ≡ Some z)
    by rest true any = (x, refl)
    by rest false any = rest any

moved-found : (m : Moved) (n : List ℕ) → has_key m n ≡ true → (z : LinkRow) × ((numbered m.gives n ≡ Some z) ⊎ (numbered m.takes n ≡ Some z)) × (has_path m z.path ≡ true)
moved-found m n has = by (list_any (is_at n) (map (λ (l : LinkRow). link_key l.link) m.gives)) refl
    (sym (any-append (is_at n) (map (λ (l : LinkRow). link_key l.link) m.gives) (map (λ (l : LinkRow). link_key l.link) m.takes)) ∙ has)
  where
    takes-path : (z : LinkRow) → numbered m.takes n ≡ Some z → has_path m z.path ≡ true
    takes-path z at =
        any-append (is_at z.path) (map (λ (l : LinkRow). l.path) m.gives) (map (λ (l : LinkRow). l.path) m.takes)
        ∙ or-right (list_any (is_at z.path) (map (λ (l : LinkRow). l.path) m.gives)) (list_any (is_at z.path) (map (λ (l : LinkRow). l.path) m.takes)) (find-any (λ (l : LinkRow). link_key l.link) (λ (l : LinkRow). l.path) m.takes n z at)

    by : (b : Bool) → list_any (is_at n) (map (λ (l : LinkRow). link_key l.link) m.gives) ≡ b → (b || list_any (is_at n) (map (λ (l : LinkRow). link_key l.link) m.takes)) ≡ true
        → (z : LinkRow) × ((numbered m.gives n ≡ Some z) ⊎ (numbered m.takes n ≡ Some z)) × (has_path m z.path ≡ true)
    by true given any = let it = key-found m.gives n given in (it.0, inl it.1, (gives-has m n it.0 it.1).1)
    by false other any = let it = key-found m.takes n any in (it.0, inr it.1, takes-path it.0 it.1)

-- what a commit took away and added are links of commits, or of the tables before the first
commit-links : (before : Tables) (cs : List Commit) → HaveMoved before cs → (c : Commit) → IsCommit c cs → (n : List ℕ) (z : LinkRow) → (numbered c.gives n ≡ Some z) ⊎ (numbered c.takes n ≡ Some z)
    → (numbered (links before) n ≡ Some z) ⊎ ((x : Commit) × IsCommit x cs × (numbered (links x.tables) n ≡ Some z))
commit-links before [] moved c is n z at = absurd is
commit-links before (d ∷ ds) moved c is n z at = ⊎_elim
    (λ (here : c ≡ d). ⊎_elim
    (λ (given : numbered c.gives n ≡ Some z). inl (numbered-lacking (links d.tables) n (links before) z (ap (λ (ls : List LinkRow). numbered ls n) (sym (ap (λ (x : Commit). x.gives) here ∙ moved.0)) ∙ given)))
    (λ (taken : numbered c.takes n ≡ Some z). inr (d, inl refl, numbered-lacking (links before) n (links d.tables) z (ap (λ (ls : List LinkRow). numbered ls n) (sym (ap (λ (x : Commit). x.takes) here ∙ moved.1)) ∙ taken)))
    at)
    (λ (later : IsCommit c ds). ⊎_elim
    (λ (old : numbered (links d.tables) n ≡ Some z). inr (d, inl refl, old))
    (λ (new : (x : Commit) × IsCommit x ds × (numbered (links x.tables) n ≡ Some z)). inr (new.0, inr new.1, new.2))
    (commit-links d.tables ds moved.2 c later n z at))
    is

-- a commit of what a transaction gives and takes
pub record IsOf (m : Moved) (c : Commit) (cs : List Commit) : Type 0 where
  pub among : IsCommit c cs
  pub gives : m.gives ≡ c.gives
  pub takes : m.takes ≡ c.takes

-- a number of a transaction that is that of a link of some commit, on one of its paths
pub record IsLinked (m : Moved) (n : List ℕ) (cs : List Commit) : Type 0 where
  pub link : LinkRow
  pub path : has_path m link.path ≡ true
  pub commit : Commit
  pub among : IsCommit commit cs
  pub at : numbered (links commit.tables) n ≡ Some link

module _ (cs : List Commit) (moved : HaveMoved [] cs) where
  pub key-linked : (m : Moved) (c : Commit) → IsOf m c cs → (n : List ℕ) → has_key m n ≡ true → IsLinked m n cs
  key-linked m c of n has =
      let it = moved-found m n has in
      by it.0 it.2 (commit-links [] cs moved c of.among n it.0 (⊎_elim
      (λ (given : numbered m.gives n ≡ Some it.0). inl (ap (λ (ls : List LinkRow). numbered ls n) (sym of.gives) ∙ given))
      (λ (taken : numbered m.takes n ≡ Some it.0). inr (ap (λ (ls : List LinkRow). numbered ls n) (sym of.takes) ∙ taken))
      it.1))
    where
      by : (z : LinkRow) → has_path m z.path ≡ true → (numbered (links []) n ≡ Some z) ⊎ ((x : Commit) × IsCommit x cs × (numbered (links x.tables) n ≡ Some z)) → IsLinked m n cs
      by z path at = ⊎_elim
          (λ (none : numbered (links []) n ≡ Some z). absurd (not_none z (numbered (links []) n) none refl))
          (λ (some : (x : Commit) × IsCommit x cs × (numbered (links x.tables) n ≡ Some z)). record { link = z; path = path; commit = some.0; among = some.1; at = some.2 })
          at

  pub apart-by-paths : OneLink cs → (a b : Moved) (c d : Commit) → IsOf a c cs → IsOf b d cs → ShareNoPath a b → Apart a b
  apart-by-paths one a b c d of_a of_b paths = record { paths = paths; keys = λ n. by n (has_key a n) (has_key b n) refl refl }
    where
      by : (n : List ℕ) (x y : Bool) → has_key a n ≡ x → has_key b n ≡ y → (has_key a n ≡ false) ⊎ (has_key b n ≡ false)
      by n false y lacks at = inl lacks
      by n true false has lacks = inr lacks
      by n true true has has_too =
          let p = key-linked a c of_a n has in
          let q = key-linked b d of_b n has_too in
          let same : p.link ≡ q.link = one p.commit q.commit n p.link q.link p.among q.among p.at q.at in
          absurd (⊎_elim
          (λ (lacks : has_path a p.link.path ≡ false). false_true (sym lacks ∙ p.path))
          (λ (lacks : has_path b p.link.path ≡ false). false_true (sym lacks ∙ ap (λ (l : LinkRow). has_path b l.path) same ∙ q.path))
          (paths p.link.path))

-- COMMITTED BRANCHES IN DOUBT, of lists that stand for something
module _ (f : Folds) (s : Stored) (stand : IsStand f s) where
  open-of : (t : ℕ) (m : Moved) → is_some (commit_of t f.rows.commits) ≡ true → open_in f.links t ≡ Some m → (c : Commit) × IsOf m c f.rows.commits
  open-of t m some is =
      let it = the_some (commit_of t f.rows.commits) some in
      (it.0, by it.0 it.0.branch (maps.get f.links.table t) (commit-is t it.0 f.rows.commits it.1) (stand.compares.branches t it.0 it.1) is)
    where
      chosen : (b : Bool) (x : Moved) → cond b (Some x) None ≡ Some m → x ≡ m
      chosen true x e = some_same x m e
      chosen false x e = absurd cc

      by : (c : Commit) (b : Bool) (o : Option Branch) → IsCommit c f.rows.commits → IsBranch b c.gives c.takes o → open_branch o ≡ Some m → IsOf m c f.rows.commits
      by c true o among has at =
          let same : record { gives = c.gives; takes = c.takes; fill = has.0 } ≡ m = chosen (is_open has.1) (record { gives = c.gives; takes = c.takes; fill = has.0 }) (sym (ap open_branch has.2) ∙ at) in
          record { among = among; gives = sym (ap (λ (x : Moved). x.gives) same); takes = sym (ap (λ (x : Moved). x.takes) same) }
      by c false o among has at = absurd (not_none m (open_branch o) at (ap open_branch has.0))

  one-link : OneLink f.rows.commits
  one-link = subst OneLink (ap (λ (x : Stored). x.commits) stand.is) stand.whole.one_path

  pub committed-apart : AreApart (open_in f.links) (txs_of f.rows.commits)
  committed-apart t u in_t in_u other a b at_t at_u =
      let c = open-of t a (in-commit t f.rows.commits in_t) at_t in
      let d = open-of u b (in-commit u f.rows.commits in_u) at_u in
      apart-by-paths f.rows.commits stand.compares.moved one-link a b c.0 d.0 c.1 d.1 (stand.compares.apart t u other a b at_t at_u)

-- a decided transaction is a work
pub decided-is : (c : Core) (t : ℕ) (m : Moved) → decided_in c t ≡ Some m → (w : Work) × (c.works t ≡ Some w) × (w.stage ≡ decided) × (w.moved ≡ m)
decided-is c t m e = by (c.works t) refl e
  where
    of : (w : Work) (s : Stage) → w.stage ≡ s → (b : Bool) → c.works t ≡ Some w → cond (is_decided s && b) (Some w.moved) None ≡ Some m → (x : Work) × (c.works t ≡ Some x) × (x.stage ≡ decided) × (x.moved ≡ m)
    of w active is b at same = absurd cc
    of w prepared is b at same = absurd cc
    of w decided is true at same = (w, at, is, some_same w.moved m same)
    of w decided is false at same = absurd cc

    by : (o : Option Work) → c.works t ≡ o → decided_work o ≡ Some m → (x : Work) × (c.works t ≡ Some x) × (x.stage ≡ decided) × (x.moved ≡ m)
    by None at same = absurd cc
    by (Some w) at same = of w w.stage refl w.branch at same

-- DECIDED TRANSACTIONS, of lists that go with a core
module _ (f : Folds) (c : Core) (joint : Joint f c) where
  pub decided-of : (t : ℕ) (m : Moved) → decided_in c t ≡ Some m → (d : Commit) × IsOf m d f.rows.commits
  decided-of t m at =
      let w = decided-is c t m at in
      let P : Stage → Type 0 = λ s. AgreesAt s w.0 (commit_of t f.rows.commits) (maps.get f.links.table t) in
      let agrees = subst P w.2 (agrees-of f c joint t w.0 w.1) in (
        agrees.0.commit,
        record {
          among = commit-is t agrees.0.commit f.rows.commits agrees.0.at;
          gives = sym (agrees.0.gives ∙ ap (λ (x : Moved). x.gives) w.3);
          takes = sym (agrees.0.takes ∙ ap (λ (x : Moved). x.takes) w.3);
        },
      )

  pub one-number : OneLink f.rows.commits
  one-number = subst OneLink (sym joint.commits) joint.whole.one_path

  pub decided-apart : (t u : ℕ) → t ≢ u → (a b : Moved) → decided_in c t ≡ Some a → decided_in c u ≡ Some b → Apart a b
  decided-apart t u other a b at_t at_u =
      let w = decided-is c t a at_t in
      let v = decided-is c u b at_u in
      let d = decided-of t a at_t in
      let e = decided-of u b at_u in
      apart-by-paths f.rows.commits joint.moved one-number a b d.0 e.0 d.1 e.1
      (subst (λ (x : Moved). ShareNoPath x b) w.3 (subst (λ (x : Moved). ShareNoPath w.0.moved x) v.3 (joint.apart t u other w.0 v.0 w.1 v.1)))
