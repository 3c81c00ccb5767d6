-- The walk over the commits: what is known before each, and what is asked of each then.
use Rattle.std.proofs.Common.{◌≡◌, ◌⊎◌, inl, inr, ℕ, ◌+◌, ◌/◌, ◌^◌, ◌≤◌, ◌&&◌, nat_le, Bool, true, false, not, List, [], length, Option, Some, None, refl, sym, ap, subst, ◌∙◌}
use Rattle.std.proofs.lemmas.Bool.{and_from, and_parts}
use Rattle.std.proofs.lemmas.List.Elements.{All-filter}
use Rattle.std.specs.Bool.{Decides}
use Rattle.std.specs.FinMap as maps
use Rattle.std.specs.List.{slice_get}
use Rattle.db_store.specs.Log.{commit_between}
use Rattle.dl_base.specs.declared.value.LinkRow.{LinkRow}
use Rattle.fm_branch.specs.Table.{Table}
use Rattle.meaning_areas.proofs.Equal.{row-link-decides}
use Rattle.meaning_areas.specs.Branches.{Branch, given_on}
use Rattle.meaning_areas.specs.Commits.{Commit, Commits, has_number}
use Rattle.meaning_areas.specs.Stands.{IsBranch}
use Rattle.meaning_merge.proofs.Numbers.{Distinct}
use Rattle.meaning_merge.proofs.Paths.{differ-one, in-numbered, numbered-in, one-differ}
use Rattle.meaning_merge.proofs.MovedLaws.{lacking-in}
use Rattle.meaning_merge.proofs.Touched.{fits-distinct}
use Rattle.meaning_merge.specs.Touching.{In, OnePath, is_in}
use Rattle.meaning_settling.specs.Keyed.{Keyed}
use Rattle.meaning_settling.specs.Settling.{link_key, numbered}
use Rattle.meaning_tables.specs.Fits.{Fits}
use Rattle.meaning_tables.specs.Links.{gives, links, takes}
use Rattle.meaning_tables.specs.Tables.{Tables}
use Rattle.compare_every.proofs.Deciding.{false_true}
use Rattle.compare_links.proofs.LinkLists.{drawn-decides, le-decides}
use Rattle.compare_every.proofs.Rows.{Found}
use Rattle.compare_links.proofs.Moved.{Linked, after-free, each-in, holds-after, in-all, in-each, known-after, linked-after, one-after}
use Rattle.compare_links.proofs.Numbers.{IsEveryBelow, every-all, every-more}
use Rattle.compare_links.proofs.Tests.{done-decides}
use Rattle.compare_every.proofs.Lists.{none_some}
use Rattle.compare_links.proofs.Walks.{below-more, below-none, commit-at, each-below}
use Rattle.compare_every.specs.Every.{IsEvery, OneRowEach, agrees, first_row}
use Rattle.compare_links.specs.Fitting.{CommitFits, EachCommit, are_drawn, is_done_at}
use Rattle.compare_links.specs.Moving.{AreKnown, StepFits, agrees_in, all_agree, are_free, with_paths, without_paths}
use Rattle.compare_links.specs.Walking.{HoldsBelow}

-- THE FIRST COMMITS have been gone through; these are the tables after them, the paths that are linked, and what is known
pub record IsWalked (r : Commits) (table : Table) (i : ℕ) (before : Tables) (paths : Linked) (known : Found) : Type 0 where
  pub fit : HoldsBelow (CommitFits r table) r.commits i
  pub every : IsEveryBelow r.commits known i
  pub fits : Fits before
  pub has : AreKnown known before
  pub one : OnePath (links before)
  pub linked : (q : List ℕ) → paths q ≡ given_on (links before) q
  pub drawn : (l : LinkRow) → In l (links before) → l.link.tx / 2 ^ 32 ≤ r.opening

pub walked-none : (r : Commits) (table : Table) (before : Tables) (paths : Linked) (known : Found) → before ≡ [] → ((q : List ℕ) → paths q ≡ false) → ((n : List ℕ) → known n ≡ None) → IsWalked r table 0 before paths known
walked-none r table before paths known is no_paths none = subst (λ (ts : Tables). IsWalked r table 0 ts paths known) (sym is) (record {
  fit = below-none (CommitFits r table) r.commits;
  every = record {
    of = λ k x e. absurd (none_some x (sym (none k) ∙ e));
    has = below-none (λ c. (k : List ℕ) (x : LinkRow) → numbered (links c.tables) k ≡ Some x → known k ≡ Some x) r.commits;
  };
  fits = refl;
  has = λ l never. absurd never;
  one = tt;
  linked = λ q. no_paths q;
  drawn = λ l never. absurd never;
})

-- ONE COMMIT MORE
module _ (r : Commits) (table : Table) (i : ℕ) (before after : Tables) (tx : ℕ) (b : Bool) (paths : Linked) (known : Found)
    (at : slice_get r.commits i ≡ Some (commit_between before tx b after)) (fits_after : Fits after) (walked : IsWalked r table i before paths known) where
  abbrev c : Commit
  c = commit_between before tx b after

  abbrev before_links : List LinkRow
  before_links = links before

  abbrev after_links : List LinkRow
  after_links = links after

  abbrev Goes : Type 0
  Goes = StepFits r table paths known c

  distinct_before : Distinct before_links
  distinct_before = fits-distinct before walked.fits

  distinct : Distinct after_links
  distinct = fits-distinct after fits_after

  -- what is asked of it is that it fits, and agrees with those before it
  module _ (fits : Goes) where
    agree : (l : LinkRow) → In l after_links → agrees_in known l ≡ true
    agree l is = each-in (agrees_in known) after_links l fits.agree is

    drawn : (l : LinkRow) → In l after_links → l.link.tx / 2 ^ 32 ≤ r.opening
    drawn = holds-after before_links after_links distinct_before distinct known walked.has agree (λ l. l.link.tx / 2 ^ 32 ≤ r.opening) walked.drawn fits.drawn

    one : OnePath after_links
    one = one-after before_links after_links distinct_before distinct known walked.has agree paths walked.linked walked.one fits.free

    fits-commit : CommitFits r table c
    fits-commit = record {
      branch = fits.branch;
      ended = fits.ended;
      number = fits.number;
      drawn = in-all (λ l. l.link.tx / 2 ^ 32 ≤ r.opening) after_links drawn;
      paths = one-differ after_links one;
    }

    pub walked-more : (later_paths : Linked) (later : Found) → ((q : List ℕ) → later_paths q ≡ with_paths (takes before after) (without_paths (gives before after) paths) q)
        → ((n : List ℕ) → later n ≡ first_row (known n) (numbered (takes before after) n)) → IsWalked r table (i + 1) after later_paths later
    walked-more later_paths later links_paths puts = record {
      fit = below-more (CommitFits r table) r.commits i c at fits-commit walked.fit;
      every = every-more r.commits known later i c at
          (λ k x e. (let found = numbered-in after_links k x e in ap later found.1 ∙ has x found.0))
          (λ k x e. puts k ∙ ap (λ (o : Option LinkRow). first_row o (numbered (takes before after) k)) e)
          (λ k x e. only k x (known k) refl (sym (puts k) ∙ e))
          walked.every;
      fits = fits_after;
      has = has;
      one = one;
      linked = λ q. links_paths q ∙ linked-after before_links after_links distinct_before distinct known walked.has agree paths walked.linked walked.one q;
      drawn = drawn;
    }
      where
        has : (l : LinkRow) → In l after_links → later (link_key l.link) ≡ Some l
        has l is = puts (link_key l.link) ∙ known-after before_links after_links distinct_before distinct known walked.has agree l is

        only : (k : List ℕ) (x : LinkRow) (o : Option LinkRow) → known k ≡ o → first_row o (numbered (takes before after) k) ≡ Some x → (known k ≡ Some x) ⊎ (numbered after_links k ≡ Some x)
        only k x (Some y) was e = inl (was ∙ e)
        only k x None was e =
            let found = numbered-in (takes before after) k x e in
            inr (ap (λ (n : List ℕ). numbered after_links n) found.1 ∙ in-numbered after_links x distinct (lacking-in after_links before_links x found.0).0)

  commit-fits : CommitFits r table c → OneRowEach r.commits → Goes
  commit-fits fits one_row = record {
    branch = fits.branch;
    ended = fits.ended;
    number = fits.number;
    drawn = All-filter (λ x. not (is_in before_links x)) (λ l. l.link.tx / 2 ^ 32 ≤ r.opening) after_links fits.drawn;
    agree = in-each (agrees_in known) after_links agree;
    free = after-free before_links after_links distinct_before distinct known walked.has agree paths walked.linked walked.one (differ-one after_links fits.paths);
  }
    where
      agree : (l : LinkRow) → In l after_links → agrees_in known l ≡ true
      agree l is = by (known (link_key l.link)) refl
        where
          by : (o : Option LinkRow) → known (link_key l.link) ≡ o → agrees o l ≡ true
          by None was = refl
          by (Some x) was =
              let d = walked.every.of (link_key l.link) x was in
              (row-link-decides x l).1 (one_row d.0 c (link_key l.link) x l d.1 (commit-at c r.commits i at) d.2 (in-numbered after_links l distinct is))

  pub walked-not : (t : Bool) → Decides t Goes → t ≡ false → EachCommit (CommitFits r table) r.commits → OneRowEach r.commits → ⊥
  walked-not t decides off each one_row = false_true (sym off ∙ decides.1 (commit-fits (each c (commit-at c r.commits i at)) one_row))

-- ALL COMMITS
pub walked-all : (r : Commits) (table : Table) (n : ℕ) (before : Tables) (paths : Linked) (known : Found) (every : Keyed LinkRow) → length r.commits ≤ n → ((k : List ℕ) → maps.get every k ≡ known k) → IsWalked r table n before paths known
    → EachCommit (CommitFits r table) r.commits × OneRowEach r.commits × IsEvery r.commits every
walked-all r table n before paths known every all same walked =
    let two = every-all r.commits known every n all same walked.every in
    (each-below (CommitFits r table) r.commits n all walked.fit, two.0, two.1)

-- THE TESTS of a commit

pub branch-same : (b : Bool) (gs gave ts took : List LinkRow) (o p : Option Branch) → gs ≡ gave → ts ≡ took → o ≡ p → IsBranch b gs ts o → IsBranch b gave took p
branch-same b gs gave ts took o p same_gives same_takes same is =
    subst (λ (x : Option Branch). IsBranch b gave took x) same (subst (λ (ls : List LinkRow). IsBranch b gave ls o) same_takes (subst (λ (ls : List LinkRow). IsBranch b ls ts o) same_gives is))

pub step-decides : (r : Commits) (table : Table) (paths : Linked) (known : Found) (c : Commit) (t : Bool) → IsBranch c.branch c.gives c.takes (maps.get table c.tx) → is_done_at (has_number c.tx r.ended) (maps.get table c.tx) ≡ true
    → nat_le (c.tx / 2 ^ 32) r.opening ≡ true → t ≡ (are_drawn r.opening c.takes && all_agree known (links c.tables) && are_free (without_paths c.gives paths) c.takes) → Decides t (StepFits r table paths known c)
step-decides r table paths known c t has done drawn e = (
  λ on.
      let two = and_parts (are_drawn r.opening c.takes && all_agree known (links c.tables)) (are_free (without_paths c.gives paths) c.takes) (sym e ∙ on) in
      let one = and_parts (are_drawn r.opening c.takes) (all_agree known (links c.tables)) two.0 in
      record {
        branch = has;
        ended = (done-decides (has_number c.tx r.ended) (maps.get table c.tx)).0 done;
        number = (le-decides (c.tx / 2 ^ 32) r.opening).0 drawn;
        drawn = (drawn-decides r.opening c.takes (are_drawn r.opening c.takes) refl).0 one.0;
        agree = one.1;
        free = two.1;
      },
  λ fits.
      e ∙ and_from (are_drawn r.opening c.takes && all_agree known (links c.tables)) (are_free (without_paths c.gives paths) c.takes)
      (and_from (are_drawn r.opening c.takes) (all_agree known (links c.tables)) ((drawn-decides r.opening c.takes (are_drawn r.opening c.takes) refl).1 fits.drawn) fits.agree) fits.free,
)
