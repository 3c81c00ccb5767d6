-- What is tested decides the comparison at the area Links.
use Rattle.std.proofs.Common.{◌≡◌, inl, inr, ⊎_elim, ℕ, ◌/◌, ◌^◌, ◌<◌, ◌≤◌, List, [], ◌∷◌, Bool, true, false, cond, Option, Some, None, Ok, refl, sym, ◌∙◌, ap, subst, arith}
use Rattle.std.proofs.lemmas.Bool.Decides.{leb_tells}
use Rattle.std.specs.Bool.{Decides}
use Rattle.std.specs.FinMap as maps
use Rattle.dl_base.specs.declared.area.Area.TheVariants as areas
use Rattle.dl_base.specs.declared.value.LinkRow.{LinkRow}
use Rattle.dl_codec.specs.declared.links.BranchPhase.TheVariants as phases
use Rattle.meaning_areas.proofs.Tables.{commit-is, commit-number, test-other, test-same, the_some}
use Rattle.meaning_areas.specs.Areas.{ComparesAt, rows_of}
use Rattle.meaning_areas.specs.Branches.{Branch, Branches, branch}
use Rattle.meaning_areas.specs.Commits.{Commit, Commits, HaveMoved, commit_of, has_number, tables_after}
use Rattle.meaning_areas.specs.Lists.{Folds}
use Rattle.meaning_areas.specs.Stands.{Compared, IsBranch, IsCommit, kept_of, open_in, settled_of, txs_of}
use Rattle.meaning_settling.specs.Keyed.{Keyed}
use Rattle.meaning_settling.specs.Settled.{AreDistinct, IsNot, settle_open, settled}
use Rattle.meaning_settling.specs.Settling.{Kept, Moved, settle_one}
use Rattle.meaning_tables.specs.Links.{links}
use Rattle.meaning_tables.specs.Tables.{Tables}
use Rattle.compare_every.proofs.Deciding.{decides-no, decides-yes, refuted, some_none}
use Rattle.compare_links.proofs.Folded.{EndedHave, ended-have}
use Rattle.compare_links.specs.Comparing.{ComparesTo}
use Rattle.compare_every.specs.Every.{IsEvery}
use Rattle.compare_links.specs.Fitting.{BranchFits, BranchesApart, CommitFits, CommitsFit, EachBranch, EachCommit, HavePaths, HeldFits, LinksFit, held_settled, settle_held}

-- commits of distinct transactions

different : (t : ℕ) (c : Commit) (ds : List Commit) → IsNot t (txs_of ds) → IsCommit c ds → c.tx ≡ t → ⊥
different t c [] not is e = is
different t c (d ∷ ds) not is e = ⊎_elim (λ (here : c ≡ d). not.0 (ap (λ (x : Commit). x.tx) (sym here) ∙ e)) (λ (later : IsCommit c ds). different t c ds not.1 later e) is

pub commit-found : (c : Commit) (cs : List Commit) → AreDistinct (txs_of cs) → IsCommit c cs → commit_of c.tx cs ≡ Some c
commit-found c [] distinct is = absurd is
commit-found c (d ∷ ds) distinct is = ⊎_elim
    (λ (here : c ≡ d). ap (λ b. cond b (Some d) (commit_of c.tx ds)) (test-same d.tx c.tx (ap (λ (x : Commit). x.tx) (sym here))) ∙ ap (λ (x : Commit). Some x) (sym here))
    (λ (later : IsCommit c ds).
    ap (λ b. cond b (Some d) (commit_of c.tx ds)) (test-other d.tx c.tx (λ (e : d.tx ≡ c.tx). different d.tx c ds distinct.0 later (sym e))) ∙ commit-found c ds distinct.1 later)
    is

-- held links are settled by themselves

open-held : (o : Option Moved) (k : Kept) → (settle_open o k).held ≡ settle_held o k.held
unfolding settle_one
open-held None k = refl
open-held (Some m) k = refl

pub settled-held : (l : Branches) (ts : List ℕ) (k : Kept) → (settled (open_in l) ts k).held ≡ held_settled l ts k.held
settled-held l [] k = refl
settled-held l (t ∷ ts) k = settled-held l ts (settle_open (open_in l t) k) ∙ ap (λ (h : Keyed LinkRow). held_settled l ts h) (open-held (open_in l t) k)

above : (a b : ℕ) → a < b → b ≤ a → ⊥
above a b lt le = omega (arith, lt, le)

module _ (f : Folds) (distinct : AreDistinct (txs_of f.rows.commits)) where
  settled-on : (p : List ℕ) → maps.get (settled_of f).held p ≡ maps.get (held_settled f.links (txs_of f.rows.commits) f.links.held) p
  settled-on p = ap (λ (h : Keyed LinkRow). maps.get h p) (settled-held f.links (txs_of f.rows.commits) (kept_of f))

  module _ (moved : HaveMoved [] f.rows.commits) (ended : EndedHave f.rows) (fits : LinksFit f.rows f.links) where
    of-commit : (tx : ℕ) (c : Commit) → commit_of tx f.rows.commits ≡ Some c → CommitFits f.rows f.links.table c
    of-commit tx c at = fits.commits c (commit-is tx c f.rows.commits at)

    no-commit : (tx : ℕ) → f.rows.opening < tx / 2 ^ 32 → (o : Option Commit) → commit_of tx f.rows.commits ≡ o → o ≡ None
    no-commit tx lt None at = refl
    no-commit tx lt (Some c) at =
        absurd (above f.rows.opening (tx / 2 ^ 32) lt (subst (λ (t : ℕ). t / 2 ^ 32 ≤ f.rows.opening) (commit-number tx c f.rows.commits at) (of-commit tx c at).number))

    no-branch : (tx : ℕ) → f.rows.opening < tx / 2 ^ 32 → (o : Option Branch) → maps.get f.links.table tx ≡ o → o ≡ None
    no-branch tx lt None at = refl
    no-branch tx lt (Some b) at = absurd (above f.rows.opening (tx / 2 ^ 32) lt (fits.branches tx b at).number)

    is-done : (tx : ℕ) → has_number tx f.rows.ended ≡ true → (m : Moved) × (maps.get f.links.table tx ≡ Some (branch m phases.Done))
    is-done tx is =
        let some = the_some (commit_of tx f.rows.commits) (ended tx is) in
        let number = commit-number tx some.0 f.rows.commits some.1 in
        let done = (of-commit tx some.0 some.1).ended (ap (λ (t : ℕ). has_number t f.rows.ended) number ∙ is) in
        (done.0, ap (λ (t : ℕ). maps.get f.links.table t) (sym number) ∙ done.1)

    compared : Compared f (Unit {0})
    compared = record {
      distinct = distinct;
      moved = moved;
      branches = λ tx c at. subst (λ (t : ℕ). IsBranch c.branch c.gives c.takes (maps.get f.links.table t)) (commit-number tx c f.rows.commits at) (of-commit tx c at).branch;
      decided = λ tx b at is. (fits.branches tx b at).decided is;
      ended = is-done;
      apart = fits.apart;
      ready = tt;
      held = λ p. settled-on p ∙ fits.held p;
      numbers = λ tx lt. (no-commit tx lt (commit_of tx f.rows.commits) refl, no-branch tx lt (maps.get f.links.table tx) refl);
      drawn_commits = λ c is. (fits.commits c is).drawn;
      drawn_branches = λ tx b at. ((fits.branches tx b at).gives, (fits.branches tx b at).takes);
    }

    fits-compare : ComparesAt f areas.Links
    fits-compare = (compared, λ c is. (fits.commits c is).paths, fits.rows)

  module _ (compares : ComparesAt f areas.Links) where
    number-of : (tx : ℕ) → ((commit_of tx f.rows.commits ≡ None) × (maps.get f.links.table tx ≡ None) → ⊥) → tx / 2 ^ 32 ≤ f.rows.opening
    number-of tx there = ⊎_elim (λ le. le.1) (λ gt. absurd (there (compares.0.numbers tx gt.1))) (leb_tells (tx / 2 ^ 32) f.rows.opening)

    commit-fits : (c : Commit) → IsCommit c f.rows.commits → CommitFits f.rows f.links.table c
    commit-fits c is =
        let at = commit-found c f.rows.commits distinct is in
        record {
          branch = compares.0.branches c.tx c at;
          ended = λ e. compares.0.ended c.tx e;
          number = number-of c.tx (λ none. some_none (commit_of c.tx f.rows.commits) c none.0 at);
          drawn = compares.0.drawn_commits c is;
          paths = compares.1 c is;
        }

    branch-fits : (tx : ℕ) (b : Branch) → maps.get f.links.table tx ≡ Some b → BranchFits f.rows tx b
    branch-fits tx b at = record {
      decided = λ is. compares.0.decided tx b at is;
      number = number-of tx (λ none. some_none (maps.get f.links.table tx) b none.1 at);
      gives = (compares.0.drawn_branches tx b at).0;
      takes = (compares.0.drawn_branches tx b at).1;
    }

    compare-fits : LinksFit f.rows f.links
    compare-fits = record {
      branches = branch-fits;
      apart = compares.0.apart;
      commits = commit-fits;
      rows = compares.2;
      held = λ p. sym (settled-on p) ∙ compares.0.held p;
    }

  pub fits-decide : HaveMoved [] f.rows.commits → EndedHave f.rows → (b : Bool) → Decides b (LinksFit f.rows f.links) → Decides b (ComparesAt f areas.Links)
  fits-decide moved ended b decides = (λ is. fits-compare moved ended (decides.0 is), λ compares. decides.1 (compare-fits compares))

-- the same of the lists that are in memory
pub links-decide : (f : Folds) (r : Commits) (l : Branches) → f.rows ≡ r → f.links ≡ l → AreDistinct (txs_of r.commits) → HaveMoved [] r.commits → EndedHave r → (b : Bool) → Decides b (LinksFit r l) → Decides b (ComparesAt f areas.Links)
links-decide f r l rows links distinct moved ended b decides =
    fits-decide f (subst (λ (x : Commits). AreDistinct (txs_of x.commits)) (sym rows) distinct) (subst (λ (x : Commits). HaveMoved [] x.commits) (sym rows) moved) (subst EndedHave (sym rows) ended) b
    (subst (λ (x : Branches). Decides b (LinksFit f.rows x)) (sym links) (subst (λ (x : Commits). Decides b (LinksFit x l)) (sym rows) decides))

-- the links after the last commit are on different paths
pub last-paths : (P : Commit → Type 0) → ((c : Commit) → P c → HavePaths (links c.tables)) → (before : Tables) (cs : List Commit) → HavePaths (links before) → EachCommit P cs → HavePaths (links (tables_after before cs))
last-paths P paths before [] first each = first
last-paths P paths before (c ∷ cs) first each = last-paths P paths c.tables cs (paths c (each c (inl refl))) (λ d is. each d (inr is))

-- WHAT THE TESTS COME TO
module _ (r : Commits) (l : Branches) (rows : (bodies : List (List ℕ)) × (rows_of bodies ≡ Ok r)) (made : AreDistinct (txs_of r.commits) × HaveMoved [] r.commits) where
  decided : (b : Bool) → Decides b (LinksFit r l) → (f : Folds) → f.rows ≡ r → f.links ≡ l → Decides b (ComparesAt f areas.Links)
  decided b decides f same_rows same_links = links-decide f r l same_rows same_links made.0 made.1 (ended-have rows.0 r rows.1) b decides

  pub unlike : (LinksFit r l → ⊥) → (f : Folds) → f.rows ≡ r → f.links ≡ l → ComparesTo f None
  unlike never f same_rows same_links = refuted false (decided false (decides-no never) f same_rows same_links) refl

  pub alike : EachBranch (BranchFits r) l.table → BranchesApart l → (every : Keyed LinkRow) → CommitsFit r l.table (Some every) → HeldFits r l → (f : Folds) → f.rows ≡ r → f.links ≡ l → ComparesTo f (Some every)
  alike branches apart every commits held f same_rows same_links = (
    (decided true (decides-yes (record { branches = branches; apart = apart; commits = commits.0; rows = commits.1; held = held })) f same_rows same_links).0 refl,
    subst (λ (x : Commits). IsEvery x.commits every) (sym same_rows) commits.2,
  )
