-- Branches in doubt, by the paths that they have.
use Rattle.std.proofs.Common.{◌≡◌, ◌≢◌, ◌⊎◌, inl, inr, ⊎_elim, ℕ, ◌+◌, ◌<◌, ◌≤◌, ◌==◌, Bool, true, false, cond, ◌&&◌, ◌||◌, List, [], ◌∷◌, length, map, drop, get_or, Option, Some, None, is_some, refl, sym, ap, ◌∙◌, arith}
use Rattle.std.proofs.lemmas.Bool.{and_parts}
use Rattle.std.proofs.lemmas.Bool.Decides.{eqb_tells}
use Rattle.std.specs.FinMap as maps
use Rattle.std.specs.List.{list_any, slice_get}
use Rattle.dl_base.specs.declared.value.LinkRow.{LinkRow}
use Rattle.fm_branch.specs.Table.{HaveBranches}
use Rattle.meaning_areas.specs.Branches.{Branch, Branches, given_on}
use Rattle.meaning_areas.specs.Stands.{is_open, open_branch, open_in}
use Rattle.meaning_settling.proofs.KeyedLaws.{any-append, either, is_at-same, is_at-self}
use Rattle.meaning_settling.specs.Apart.{has_path}
use Rattle.meaning_settling.specs.Keyed.{is_at}
use Rattle.meaning_settling.specs.Settling.{Moved}
use Rattle.compare_every.proofs.Deciding.{false_true, some_same}
use Rattle.compare_every.proofs.Lists.{left, none_some}
use Rattle.compare_links.proofs.Walks.{below-more, below-none, number-at}
use Rattle.compare_links.specs.Fitting.{BranchesApart, are_free_for, has_in_doubt, is_clear, is_free_for}
use Rattle.compare_links.specs.Walking.{HoldsBelow}

abbrev Owners : Type 0
Owners = List ℕ → Option ℕ

-- a path has an owner that is in doubt and has it, and each of the first branches owns the paths that it has
pub record Owns (l : Branches) (owners : Owners) (ts : List ℕ) (n : ℕ) : Type 0 where
  pub of : (q : List ℕ) (t : ℕ) → owners q ≡ Some t → has_in_doubt (open_in l t) q ≡ true
  pub has : HoldsBelow (λ t. (q : List ℕ) → has_in_doubt (open_in l t) q ≡ true → owners q ≡ Some t) ts n

pub owns-none : (l : Branches) (owners : Owners) (ts : List ℕ) → ((q : List ℕ) → owners q ≡ None) → Owns l owners ts 0
owns-none l owners ts none = record {
  of = λ q t e. absurd (none_some t (sym (none q) ∙ e));
  has = below-none (λ t. (q : List ℕ) → has_in_doubt (open_in l t) q ≡ true → owners q ≡ Some t) ts;
}

-- the paths of links that are free, and one that is not

free-at : (tx : ℕ) (owners : Owners) (ls : List LinkRow) (q : List ℕ) → are_free_for tx owners ls ≡ true → list_any (is_at q) (map (λ l. l.path) ls) ≡ true → is_free_for tx (owners q) ≡ true
free-at tx owners [] q free has = absurd (false_true has)
free-at tx owners (x ∷ xs) q free has =
    let two = and_parts (is_free_for tx (owners x.path)) (are_free_for tx owners xs) free in
    by (is_at q x.path) refl has two.0 (free-at tx owners xs q two.1)
  where
    by : (b : Bool) → is_at q x.path ≡ b → (b || list_any (is_at q) (map (λ l. l.path) xs)) ≡ true → is_free_for tx (owners x.path) ≡ true → (list_any (is_at q) (map (λ l. l.path) xs) ≡ true → is_free_for tx (owners q) ≡ true) → is_free_for tx (owners q) ≡ true
    by true here any first rest = ap (λ (p : List ℕ). is_free_for tx (owners p)) (is_at-same q x.path here) ∙ first
    by false other any first rest = rest any

or-parts : (a b : Bool) → (a || b) ≡ true → (a ≡ true) ⊎ (b ≡ true)
or-parts true b e = inl refl
or-parts false b e = inr e

any-paths : (m : Moved) (q : List ℕ) → has_path m q ≡ true → (list_any (is_at q) (map (λ l. l.path) m.gives) ≡ true) ⊎ (list_any (is_at q) (map (λ l. l.path) m.takes) ≡ true)
any-paths m q e =
    or-parts (list_any (is_at q) (map (λ (l : LinkRow). l.path) m.gives)) (list_any (is_at q) (map (λ (l : LinkRow). l.path) m.takes))
    (sym (any-append (is_at q) (map (λ (l : LinkRow). l.path) m.gives) (map (λ (l : LinkRow). l.path) m.takes)) ∙ e)

clear-at : (tx : ℕ) (owners : Owners) (o : Option Moved) (q : List ℕ) → is_clear tx owners o ≡ true → has_in_doubt o q ≡ true → is_free_for tx (owners q) ≡ true
clear-at tx owners None q clear has = absurd (false_true has)
clear-at tx owners (Some m) q clear has =
    let two = and_parts (are_free_for tx owners m.gives) (are_free_for tx owners m.takes) clear in
    ⊎_elim (λ gives. free-at tx owners m.gives q two.0 gives) (λ takes. free-at tx owners m.takes q two.1 takes) (any-paths m q has)

-- a path that some other transaction owns
abbrev IsClash : ℕ → Owners → List LinkRow → Type 0
IsClash tx owners ls = (q : List ℕ) × (u : ℕ) × (list_any (is_at q) (map (λ l. l.path) ls) ≡ true) × (owners q ≡ Some u) × (u ≢ tx)

not-free : (tx : ℕ) (o : Option ℕ) → is_free_for tx o ≡ false → (u : ℕ) × (o ≡ Some u) × (u ≢ tx)
not-free tx None e = absurd (false_true (sym e))
not-free tx (Some u) e = ⊎_elim (λ same. absurd (false_true (sym e ∙ same.0))) (λ other. (u, refl, other.1)) (eqb_tells u tx)

clash : (tx : ℕ) (owners : Owners) (ls : List LinkRow) → are_free_for tx owners ls ≡ false → IsClash tx owners ls
clash tx owners [] e = absurd (false_true (sym e))
clash tx owners (x ∷ xs) e = by (is_free_for tx (owners x.path)) refl e (clash tx owners xs)
  where
    by : (b : Bool) → is_free_for tx (owners x.path) ≡ b → (b && are_free_for tx owners xs) ≡ false → (are_free_for tx owners xs ≡ false → IsClash tx owners xs) → IsClash tx owners (x ∷ xs)
    by false here none rest =
        let found = not-free tx (owners x.path) here in
        (x.path, found.0, ap (λ b. b || list_any (is_at x.path) (map (λ (l : LinkRow). l.path) xs)) (is_at-self x.path), found.1, found.2)
    by true here none rest =
        let later = rest none in
        (later.0, later.1, more (is_at later.0 x.path) (list_any (is_at later.0) (map (λ (l : LinkRow). l.path) xs)) later.2, later.3, later.4)
      where
        more : (a b : Bool) → b ≡ true → (a || b) ≡ true
        more true b f = refl
        more false b f = f

path-left : (m : Moved) (q : List ℕ) → list_any (is_at q) (map (λ l. l.path) m.gives) ≡ true → has_path m q ≡ true
path-left m q e =
    any-append (is_at q) (map (λ (l : LinkRow). l.path) m.gives) (map (λ (l : LinkRow). l.path) m.takes)
    ∙ ap (λ b. b || list_any (is_at q) (map (λ (l : LinkRow). l.path) m.takes)) e

path-right : (m : Moved) (q : List ℕ) → list_any (is_at q) (map (λ l. l.path) m.takes) ≡ true → has_path m q ≡ true
path-right m q e =
    any-append (is_at q) (map (λ (l : LinkRow). l.path) m.gives) (map (λ (l : LinkRow). l.path) m.takes)
    ∙ ap (λ b. list_any (is_at q) (map (λ (l : LinkRow). l.path) m.gives) || b) e ∙ by (list_any (is_at q) (map (λ (l : LinkRow). l.path) m.gives))
  where
    by : (b : Bool) → (b || true) ≡ true
    by true = refl
    by false = refl

-- a branch that is not clear has a path of another transaction
not-clear : (tx : ℕ) (owners : Owners) (o : Option Moved) → is_clear tx owners o ≡ false → (m : Moved) × (o ≡ Some m) × (q : List ℕ) × (u : ℕ) × (has_path m q ≡ true) × (owners q ≡ Some u) × (u ≢ tx)
not-clear tx owners None e = absurd (false_true (sym e))
not-clear tx owners (Some m) e = by (are_free_for tx owners m.gives) refl e
  where
    by : (b : Bool) → are_free_for tx owners m.gives ≡ b → (b && are_free_for tx owners m.takes) ≡ false → (n : Moved) × (Some m ≡ Some n) × (q : List ℕ) × (u : ℕ) × (has_path n q ≡ true) × (owners q ≡ Some u) × (u ≢ tx)
    by false gives none = let c = clash tx owners m.gives gives in (m, refl, c.0, c.1, path-left m c.0 c.2, c.3, c.4)
    by true gives none = let c = clash tx owners m.takes none in (m, refl, c.0, c.1, path-right m c.0 c.2, c.3, c.4)

-- what is in doubt, if it has a path
in-doubt : (o : Option Moved) (q : List ℕ) → has_in_doubt o q ≡ true → (m : Moved) × (o ≡ Some m) × (has_path m q ≡ true)
in-doubt None q e = absurd (false_true e)
in-doubt (Some m) q e = (m, refl, e)

never-both : (a b : Bool) → a ≡ true → b ≡ true → (a ≡ false) ⊎ (b ≡ false) → ⊥
never-both a b e f side = ⊎_elim (λ x. false_true (sym x ∙ e)) (λ x. false_true (sym x ∙ f)) side

pub not-apart : (l : Branches) (owners : Owners) (ts : List ℕ) (n tx : ℕ) → is_clear tx owners (open_in l tx) ≡ false → Owns l owners ts n → BranchesApart l → ⊥
not-apart l owners ts n tx not owns apart =
    let c = not-clear tx owners (open_in l tx) not in
    let d = in-doubt (open_in l c.3) c.2 (owns.of c.2 c.3 c.5) in
    never-both (has_path d.0 c.2) (has_path c.0 c.2) d.2 c.4 (apart c.3 tx c.6 d.0 c.0 d.1 c.1 c.2)

pub owns-more : (l : Branches) (old new : Owners) (ts : List ℕ) (i tx : ℕ) → slice_get ts i ≡ Some tx → is_clear tx old (open_in l tx) ≡ true → ((q : List ℕ) → new q ≡ cond (has_in_doubt (open_in l tx) q) (Some tx) (old q)) → Owns l old ts i → Owns l new ts (i + 1)
owns-more l old new ts i tx at clear put owns = record {
  of = λ q t e. of q t (has_in_doubt (open_in l tx) q) refl (sym (put q) ∙ e);
  has = below-more (λ t. (q : List ℕ) → has_in_doubt (open_in l t) q ≡ true → new q ≡ Some t) ts i tx at
      (λ q has. put q ∙ ap (λ b. cond b (Some tx) (old q)) has)
      (λ k u lt at_k q has. put q ∙ kept u q (has_in_doubt (open_in l tx) q) refl (owns.has k u lt at_k q has));
}
  where
    of : (q : List ℕ) (t : ℕ) (b : Bool) → has_in_doubt (open_in l tx) q ≡ b → cond b (Some tx) (old q) ≡ Some t → has_in_doubt (open_in l t) q ≡ true
    of q t true has e = ap (λ (x : ℕ). has_in_doubt (open_in l x) q) (sym (some_same tx t e)) ∙ has
    of q t false has e = owns.of q t e

    same : (u : ℕ) → (u == tx) ≡ true → u ≡ tx
    same u e = ⊎_elim (λ s. s.1) (λ o. absurd (false_true (sym o.0 ∙ e))) (eqb_tells u tx)

    kept : (u : ℕ) (q : List ℕ) (b : Bool) → has_in_doubt (open_in l tx) q ≡ b → old q ≡ Some u → cond b (Some tx) (old q) ≡ Some u
    kept u q true has e = ap (λ (x : ℕ). Some x) (sym (same u (ap (λ (o : Option ℕ). is_free_for tx o) (sym e) ∙ clear-at tx old (open_in l tx) q clear has)))
    kept u q false has e = e

is-there : (o : Option Branch) (m : Moved) → open_branch o ≡ Some m → is_some o ≡ true
is-there None m e = absurd (none_some m e)
is-there (Some b) m e = refl

pub all-apart : (l : Branches) (owners : Owners) (ts : List ℕ) (n : ℕ) → length ts ≤ n → HaveBranches ts l.table → Owns l owners ts n → BranchesApart l
all-apart l owners ts n all named owns t u other a b at_a at_b p = by (either (has_path a p)) (either (has_path b p))
  where
    reach : (i : ℕ) → i < length ts → i < n
    reach i lt = omega (arith, lt, all)

    owner : (x : ℕ) (m : Moved) → open_in l x ≡ Some m → has_path m p ≡ true → owners p ≡ Some x
    owner x m at has =
        let found = number-at x ts (named x ∙ is-there (maps.get l.table x) m at) in
        owns.has found.0 x (reach found.0 found.1) found.2 p (ap (λ (o : Option Moved). has_in_doubt o p) at ∙ has)

    by : (has_path a p ≡ true) ⊎ (has_path a p ≡ false) → (has_path b p ≡ true) ⊎ (has_path b p ≡ false) → (has_path a p ≡ false) ⊎ (has_path b p ≡ false)
    by x y = ⊎_elim (λ has_a. ⊎_elim (λ has_b. absurd (other (some_same t u (sym (owner t a at_a has_a) ∙ owner u b at_b has_b)))) (λ no_b. inr no_b) y) (λ no_a. inl no_a) x

-- THE PATHS OF LINKS, put in one after another

pub put-turn : (items all : List LinkRow) (i : ℕ) (d : LinkRow) → items ≡ all → i < length items → d ≡ get_or items i d → (tx : ℕ) (old new end : Option ℕ) (q : List ℕ) → new ≡ cond (is_at q d.path) (Some tx) old
    → cond (given_on (drop i all) q) (Some tx) old ≡ end → cond (given_on (drop (i + 1) all) q) (Some tx) new ≡ end
put-turn items all i d same within is tx old new end q put so_far =
    ap (λ (o : Option ℕ). cond (given_on (drop (i + 1) all) q) (Some tx) o) put
    ∙ by (is_at q d.path) (given_on (drop (i + 1) all) q)
    ∙ ap (λ (ls : List LinkRow). cond (given_on ls q) (Some tx) old) (sym (left items all i d same within is))
    ∙ so_far
  where
    by : (b g : Bool) → cond g (Some tx) (cond b (Some tx) old) ≡ cond (b || g) (Some tx) old
    by true true = refl
    by true false = refl
    by false g = refl

given-any : (ls : List LinkRow) (q : List ℕ) → given_on ls q ≡ list_any (is_at q) (map (λ l. l.path) ls)
given-any [] q = refl
given-any (x ∷ xs) q = ap (λ b. is_at q x.path || b) (given-any xs q)

pub both-put : (m : Moved) (tx : ℕ) (old mid new : Option ℕ) (q : List ℕ) → mid ≡ cond (given_on m.gives q) (Some tx) old → new ≡ cond (given_on m.takes q) (Some tx) mid → new ≡ cond (has_path m q) (Some tx) old
both-put m tx old mid new q first second =
    second ∙ ap (λ (o : Option ℕ). cond (given_on m.takes q) (Some tx) o) first ∙ by (given_on m.gives q) (given_on m.takes q)
    ∙ ap (λ b. cond b (Some tx) old) ((λ i. given-any m.gives q i || given-any m.takes q i) ∙ sym (any-append (is_at q) (map (λ (l : LinkRow). l.path) m.gives) (map (λ (l : LinkRow). l.path) m.takes)))
  where
    by : (g t : Bool) → cond t (Some tx) (cond g (Some tx) old) ≡ cond (g || t) (Some tx) old
    by true true = refl
    by true false = refl
    by false t = refl

-- the branch of a transaction, if it is in doubt

pub open-is : (o : Option Branch) (b : Branch) → o ≡ Some b → is_open b.phase ≡ true → open_branch o ≡ Some b.moved
open-is o b is doubt = ap open_branch is ∙ ap (λ t. cond t (Some b.moved) None) doubt
