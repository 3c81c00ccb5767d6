-- The links of commits by their numbers.
use Rattle.std.proofs.Common.{◌≡◌, ◌⊎◌, ⊎_elim, ℕ, ◌+◌, ◌≤◌, Bool, List, length, Option, Some, sym, ap, ◌∙◌}
use Rattle.std.specs.Bool.{Decides, one_answer}
use Rattle.std.specs.FinMap as maps
use Rattle.std.specs.List.{slice_get}
use Rattle.dl_base.specs.declared.value.LinkRow.{LinkRow}
use Rattle.meaning_areas.proofs.Equal.{row-link-decides}
use Rattle.meaning_areas.specs.Commits.{Commit}
use Rattle.meaning_areas.specs.Same.{same_link}
use Rattle.meaning_areas.specs.Stands.{IsCommit}
use Rattle.meaning_settling.specs.Keyed.{Keyed}
use Rattle.meaning_settling.specs.Settling.{numbered}
use Rattle.meaning_tables.specs.Links.{links}
use Rattle.compare_every.proofs.Deciding.{some_same}
use Rattle.compare_every.proofs.Rows.{Found}
use Rattle.compare_links.proofs.Walks.{below-more, commit-at, each-below}
use Rattle.compare_every.specs.Every.{IsEvery, OneRowEach, agrees}
use Rattle.compare_links.specs.Walking.{HoldsBelow}

-- ONE COMMIT MORE

-- the rows are those of some commits, and of each of the first
pub record IsEveryBelow (cs : List Commit) (rows : Found) (n : ℕ) : Type 0 where
  pub of : (k : List ℕ) (x : LinkRow) → rows k ≡ Some x → (c : Commit) × IsCommit c cs × (numbered (links c.tables) k ≡ Some x)
  pub has : HoldsBelow (λ c. (k : List ℕ) (x : LinkRow) → numbered (links c.tables) k ≡ Some x → rows k ≡ Some x) cs n

pub every-more : (cs : List Commit) (rows later : Found) (i : ℕ) (c : Commit) → slice_get cs i ≡ Some c → ((k : List ℕ) (x : LinkRow) → numbered (links c.tables) k ≡ Some x → later k ≡ Some x)
    → ((k : List ℕ) (x : LinkRow) → rows k ≡ Some x → later k ≡ Some x) → ((k : List ℕ) (x : LinkRow) → later k ≡ Some x → (rows k ≡ Some x) ⊎ (numbered (links c.tables) k ≡ Some x)) → IsEveryBelow cs rows i → IsEveryBelow cs later (i + 1)
every-more cs rows later i c at has keeps only below = record {
  of = λ k x e. ⊎_elim (λ (old : rows k ≡ Some x). below.of k x old) (λ (new : numbered (links c.tables) k ≡ Some x). (c, commit-at c cs i at, new)) (only k x e);
  has = below-more (λ d. (k : List ℕ) (x : LinkRow) → numbered (links d.tables) k ≡ Some x → later k ≡ Some x) cs i c at has (λ j d lt at_j k x e. keeps k x (below.has j d lt at_j k x e));
}

pub every-all : (cs : List Commit) (rows : Found) (every : Keyed LinkRow) (n : ℕ) → length cs ≤ n → ((k : List ℕ) → maps.get every k ≡ rows k) → IsEveryBelow cs rows n → OneRowEach cs × IsEvery cs every
every-all cs rows every n all same below = (
  λ c d k x y in_c in_d at_x at_y. some_same x y (sym (each c in_c k x at_x) ∙ each d in_d k y at_y),
  λ k x. (λ e. below.of k x (sym (same k) ∙ e), λ c in_c at. same k ∙ each c in_c k x at),
)
  where
    each : (c : Commit) → IsCommit c cs → (k : List ℕ) (x : LinkRow) → numbered (links c.tables) k ≡ Some x → rows k ≡ Some x
    each = each-below (λ c. (k : List ℕ) (x : LinkRow) → numbered (links c.tables) k ≡ Some x → rows k ≡ Some x) cs n all below.has

-- ONE ROW

pub agrees-by : (o : Option LinkRow) (x l : LinkRow) (b : Bool) → o ≡ Some x → Decides b (x ≡ l) → b ≡ agrees o l
agrees-by o x l b is decides = one_answer b (same_link x l) decides (row-link-decides x l) ∙ sym (ap (λ (p : Option LinkRow). agrees p l) is)
