-- Where no conflict is found, a merge touches the tables that its transaction saw: base, copy, committed and merged tables.
use Rattle.std.proofs.Common.{◌≡◌, ◌⊎◌, ⊎_elim, ℕ, ◌+◌, ◌==◌, ◌≤◌, ◌<◌, ◌||◌, List, [], ◌∷◌, ◌++◌, Bool, true, false, not, cond, length, nat_le, Option, Some, None, is_some, refl, sym, ◌∙◌, ap, subst}
use Rattle.std.specs.List.{filter}
use Rattle.dl_base.specs.declared.value.LinkNo.{LinkNo}
use Rattle.dl_base.specs.declared.value.LinkRow.{LinkRow}
use Rattle.meaning_areas.specs.Commits.{Commit, tables_after}
use Rattle.meaning_areas.specs.Same.{same_rows}
use Rattle.meaning_areas.specs.Stands.{past}
use Rattle.meaning_areas.proofs.Equal.{rows-decide}
use Rattle.meaning_settling.proofs.KeyedLaws.{either, false_true, or-right}
use Rattle.meaning_tables.specs.Fits.{fits, rows_fit}
use Rattle.meaning_tables.specs.Links.{table_links, links}
use Rattle.meaning_tables.specs.Tables.{Rows, Tables, table_of, version}
use Rattle.meaning_merge.specs.History.{EachTable, older, IsHistory, IsTransaction, AreCurrent, is_used, is_among}
use Rattle.meaning_merge.specs.Merging.{Fate, stays, goes, becomes, fate_of, new_ones, merge, AreNamed}
use Rattle.meaning_merge.specs.Touching.{In, is_in, EachLink, Untouched, Touches}
use Rattle.meaning_merge.proofs.Histories.{past-last, past-within, ordered-named, not-zero, not-next, is-self, within}
use Rattle.meaning_merge.proofs.Keeping.{each-found, found-each, each-map, sub-all, older-found, older-all, is_touched, of_base, of_copy, of_merged, changed_in, changed-touched, copy-untouched, copy-touched, merged-untouched, merged-touched}
use Rattle.meaning_merge.proofs.MovedLaws.{has-number, in-number}
use Rattle.meaning_merge.proofs.Numbers.{both, in-left, in-right, in-each, each-in, never, number-same, Apart, Distinct, differ-distinct, picked, passed, split-any, split-in, picked-in, split-distinct, join-distinct}

-- tables of which those that do not pass are the same as others that do not pass
module _ (p q : List ℕ × Rows → Bool) (ts us : Tables) (rest : filter (λ t. not (p t)) ts ≡ filter (λ u. not (q u)) us) (distinct : Distinct (links ts)) where
  there : (l : LinkRow) → In l (passed p ts) → is_in (links us) l ≡ true
  there l is = split-any q us l ∙ or-right (is_in (picked q us) l) (is_in (passed q us) l) (ap (λ (xs : Tables). is_in (links xs) l) (sym rest) ∙ in-number (passed p ts) l is)

  untouched-in : (vs : Tables) → ((l : LinkRow) → In l (passed p vs) → is_in (links us) l ≡ true) → Untouched (λ x. not (is_in (links us) x)) p vs
  untouched-in [] of = tt
  untouched-in (t ∷ vs) of = (
    (λ fails. in-each (λ x. not (is_in (links us) x) ≡ false) (table_links t.1) (λ l is. ap (λ b. not b) (of l (first l fails is)))),
    untouched-in vs (λ l is. of l (later l is)),
  )
    where
      first : (l : LinkRow) → p t ≡ false → In l (table_links t.1) → In l (passed p (t ∷ vs))
      first l fails is = subst (λ b. In l (links (cond (not b) (t ∷ filter (λ u. not (p u)) vs) (filter (λ u. not (p u)) vs)))) (sym fails) (in-left (table_links t.1) (passed p vs) l is)

      by : (l : LinkRow) (b : Bool) → In l (passed p vs) → In l (links (cond (not b) (t ∷ filter (λ u. not (p u)) vs) (filter (λ u. not (p u)) vs)))
      by l true is = is
      by l false is = in-right (table_links t.1) (passed p vs) l is

      later : (l : LinkRow) → In l (passed p vs) → In l (passed p (t ∷ vs))
      later l is = by l (p t) is

  no_more : (b : Bool) → (b || false) ≡ b
  no_more true = refl
  no_more false = refl

  each-touched : EachLink (links (filter p ts)) (λ x. not (is_in (links us) x) ≡ not (is_in (links (filter q us)) x))
  each-touched = in-each (λ x. not (is_in (links us) x) ≡ not (is_in (links (filter q us)) x)) (picked p ts) (λ l is.
      let none : is_in (passed q us) l ≡ false = ap (λ (xs : Tables). is_in (links xs) l) (sym rest) ∙ (split-distinct p ts distinct).2 l is in
      ap (λ b. not b) (split-any q us l ∙ ap (λ b. is_in (picked q us) l || b) none ∙ no_more (is_in (picked q us) l)))

  pub half : Untouched (λ x. not (is_in (links us) x)) p ts × EachLink (links (filter p ts)) (λ x. not (is_in (links us) x) ≡ not (is_in (links (filter q us)) x))
  half = (untouched-in ts there, each-touched)

-- FOUR LISTS OF TABLES, of which those that pass are alike, and the others too
pub all-touched : (base copy committed merged : Tables) (p q r s : List ℕ × Rows → Bool)
    → filter (λ t. not (p t)) base ≡ filter (λ t. not (q t)) copy → filter (λ t. not (r t)) committed ≡ filter (λ t. not (s t)) merged
    → links (filter p base) ≡ links (filter r committed) → links (filter q copy) ≡ links (filter s merged)
    → Distinct (links base) → Distinct (links copy) → Distinct (links committed) → Distinct (links merged) → Touches base copy committed merged
all-touched base copy committed merged p q r s left left_now before after one two three four = record {
  of_base = p;
  of_copy = q;
  of_committed = r;
  of_merged = s;
  before = before;
  after = after;
  given = half p q base copy left one;
  given_now = half r s committed merged left_now three;
  taken = half q p copy base (sym left) two;
  taken_now = half s r merged committed (sym left_now) four;
}

pub fits-distinct : (ts : Tables) → fits ts ≡ true → Distinct (links ts)
fits-distinct ts fit = differ-distinct (links ts) (both (rows_fit ts) _ fit).1

the_some : (o : Option Rows) → is_some o ≡ true → (t : Rows) × (o ≡ Some t)
the_some (Some t) e = (t, refl)
the_some None e = absurd (false_true e)

-- A TRANSACTION WITHOUT A CONFLICT
module _ (first : ℕ) (cs : List Commit) (tx : ℕ) (base copy : Tables) (names : List (List ℕ)) (next : ℕ) (history : IsHistory first cs) (txn : IsTransaction first cs tx base copy names next) (current : AreCurrent base (tables_after [] cs) names) where
  abbrev pub committed : Tables
  committed = tables_after [] cs

  abbrev pub number : ℕ
  number = length cs + 1

  abbrev pub fate : List ℕ → Fate
  fate name = fate_of (table_of base name) (table_of copy name)

  abbrev begun : ℕ
  begun = txn.begun.0

  at_base : past [] cs begun ≡ Some base
  at_base = txn.begun.1

  pub at_last : past [] cs (length cs) ≡ Some committed
  at_last = past-last [] cs

  before : begun ≤ length cs
  before = past-within [] cs begun base at_base

  pub base_named : AreNamed base
  base_named = ordered-named base (history.ordered begun base at_base)

  pub copy_named : AreNamed copy
  copy_named = ordered-named copy txn.ordered

  pub last_named : AreNamed committed
  last_named = ordered-named committed (history.ordered (length cs) committed at_last)

  pub base_version : (name : List ℕ) (t : Rows) → table_of base name ≡ Some t → (0 < t.version) × (t.version ≤ begun)
  base_version name t is = found-each (λ u. (0 < u.version) × (u.version ≤ begun)) base name t (history.versions begun base at_base) is

  pub last_version : (name : List ℕ) (t : Rows) → table_of committed name ≡ Some t → (0 < t.version) × (t.version ≤ length cs)
  last_version name t is = found-each (λ u. (0 < u.version) × (u.version ≤ length cs)) committed name t (history.versions (length cs) committed at_last) is

  pub base_committed : EachTable base (λ t. (t.1.version == 0) ≡ false)
  base_committed = each-map (λ t. (0 < t.1.version) × (t.1.version ≤ begun)) (λ t. (t.1.version == 0) ≡ false) base (λ t v. not-zero t.1.version v.0) (history.versions begun base at_base)

  pub last_earlier : EachTable committed (λ t. (t.1.version == number) ≡ false)
  last_earlier = each-map (λ t. (0 < t.1.version) × (t.1.version ≤ length cs)) (λ t. (t.1.version == number) ≡ false) committed (λ t v. not-next t.1.version (length cs) v.1) (history.versions (length cs) committed at_last)

  pub tells : (name : List ℕ) (b : Rows) → table_of base name ≡ Some b → fate name ≡ fate_of (Some b) (table_of copy name)
  tells name b is = ap (λ (o : Option Rows). fate_of o (table_of copy name)) is

  -- a name that the base has not is not touched
  pub only_base : (name : List ℕ) → is_touched (fate name) ≡ true → is_some (table_of base name) ≡ true
  only_base name touched = by (table_of base name) touched
    where
      by : (o : Option Rows) → is_touched (fate_of o (table_of copy name)) ≡ true → is_some o ≡ true
      by None e = absurd (false_true e)
      by (Some b) e = refl

  -- one that base and copy tell apart is named
  pub touched_named : (name : List ℕ) → is_touched (fate name) ≡ true → is_among names name ≡ true
  touched_named name touched = ⊎_elim (λ (e : is_among names name ≡ true). e) (λ (e : is_among names name ≡ false). absurd (false_true (sym (stays_same (txn.named name e)) ∙ touched))) (either (is_among names name))
    where
      b : (t : Rows) × (table_of base name ≡ Some t)
      b = the_some (table_of base name) (only_base name touched)

      stays_same : table_of copy name ≡ table_of base name → is_touched (fate name) ≡ false
      stays_same same =
          ap (λ (o : Option Rows). is_touched (fate_of (table_of base name) o)) same ∙ ap (λ (o : Option Rows). is_touched (fate_of o o)) b.1
          ∙ ap (λ x. is_touched (cond x goes (cond (same_rows b.0 b.0) stays (becomes b.0)))) (not-zero b.0.version (base_version name b.0 b.1).0)
          ∙ ap (λ x. is_touched (cond x stays (becomes b.0))) ((rows-decide b.0 b.0).1 refl)

  -- a table that the copy has and the base has not is not committed
  pub never_there : (name : List ℕ) (t : Rows) → table_of copy name ≡ Some t → table_of base name ≡ None → table_of committed name ≡ None
  never_there name t at none = by (table_of committed name) refl (sym (current name so_named) ∙ ap version none)
    where
      so_named : is_among names name ≡ true
      so_named = ⊎_elim (λ (e : is_among names name ≡ true). e) (λ (e : is_among names name ≡ false). absurd (gone_some t (table_of base name) (sym (txn.named name e) ∙ at) none)) (either (is_among names name))
        where
          gone_some : (t : Rows) (o : Option Rows) → o ≡ Some t → o ≡ None → ⊥
          gone_some t o some none = cc

      by : (o : Option Rows) → table_of committed name ≡ o → version (table_of committed name) ≡ 0 → table_of committed name ≡ None
      by None here e = here
      by (Some u) here e = absurd (false_true (sym (not-zero u.version (last_version name u here).0) ∙ ap (λ n. n == 0) (sym (ap version here) ∙ e)))

  -- and has its version of the base in the committed tables
  pub touched_there : (name : List ℕ) (b : Rows) → is_touched (fate name) ≡ true → table_of base name ≡ Some b → (t : Rows) × (table_of committed name ≡ Some t) × (t.version ≡ b.version)
  touched_there name b touched is = by (table_of committed name) refl (ap version (sym is) ∙ current name (touched_named name touched))
    where
      by : (o : Option Rows) → table_of committed name ≡ o → b.version ≡ version o → (t : Rows) × (table_of committed name ≡ Some t) × (t.version ≡ b.version)
      by None at e = absurd (false_true (sym (not-zero b.version (base_version name b is).0) ∙ ap (λ n. n == 0) e))
      by (Some t) at e = (t, at, sym e)

  -- THE TOUCHED TABLES ARE THE SAME in base and committed tables
  pub same_touched : filter (of_base number fate) base ≡ filter (of_base number fate) committed
  same_touched = sub-all (λ name. is_touched (fate name)) (history.same begun (length cs) base committed before at_base at_last) base_named left ∙ sym (older-all begun (of_base number fate) committed old)
    where
      left : (name : List ℕ) → is_touched (fate name) ≡ true → is_some (table_of base name) ≡ true → is_some (table_of (older begun committed) name) ≡ true
      left name touched some =
          let b = the_some (table_of base name) some in
          let t = touched_there name b.0 touched b.1 in
          older-found begun committed name t.0 t.1 (ap (λ n. nat_le n begun) t.2 ∙ within b.0.version begun (base_version name b.0 b.1).1)

      old : EachTable committed (λ t. is_touched (fate t.0) ≡ true → nat_le t.1.version begun ≡ true)
      old = each-found (λ t. is_touched (fate t.0) ≡ true → nat_le t.1.version begun ≡ true) committed last_named (λ t is touched.
          let b = the_some (table_of base t.0) (only_base t.0 touched) in
          let u = touched_there t.0 b.0 touched b.1 in
          ap (λ n. nat_le n begun) (same_version t.1 u.0 (sym is ∙ u.1) ∙ u.2) ∙ within b.0.version begun (base_version t.0 b.0 b.1).1)
        where
          same_version : (t u : Rows) → Some t ≡ Some u → t.version ≡ u.version
          same_version t u e = let is : t ≡ u = cc in ap (λ (x : Rows). x.version) is

  abbrev pub merged : Tables
  merged = merge committed base copy number

  pub before_links : links (filter (of_base number fate) base) ≡ links (filter (of_base number fate) committed)
  before_links = ap links same_touched

  same_changed : changed_in number fate base ≡ changed_in number fate committed
  same_changed = changed-touched number fate base ∙ ap (changed_in number fate) same_touched ∙ sym (changed-touched number fate committed)

  pub after_links : links (filter (of_copy number fate) copy) ≡ links (filter (of_merged number fate) merged)
  after_links =
      copy-touched number fate txn.copy_of base_named base_committed tells
      ∙ ap (λ (ts : Tables). links (ts ++ new_ones number copy)) same_changed
      ∙ sym (ap links (merged-touched number fate (is-self number) committed copy last_earlier))

  pub left_base : filter (λ t. not (of_base number fate t)) base ≡ filter (λ t. not (of_copy number fate t)) copy
  left_base = copy-untouched number fate txn.copy_of base_named base_committed tells

  pub left_merged : filter (λ t. not (of_base number fate t)) committed ≡ filter (λ t. not (of_merged number fate t)) merged
  left_merged = merged-untouched number fate (is-self number) committed copy last_earlier

  pub base_distinct : Distinct (links base)
  base_distinct = fits-distinct base (history.fit begun base at_base)

  pub copy_distinct : Distinct (links copy)
  copy_distinct = fits-distinct copy txn.fit

  pub last_distinct : Distinct (links committed)
  last_distinct = fits-distinct committed (history.fit (length cs) committed at_last)

  -- no committed link has a number of this transaction
  pub not_own : (l : LinkRow) → In l (links committed) → l.link.tx ≡ tx → ⊥
  not_own l is own = false_true (sym txn.unused ∙ ap (is_used first cs) (sym own) ∙ each-in (λ x. is_used first cs x.link.tx ≡ true) (links committed) l (history.drawn (length cs) committed at_last) is)

  -- what is touched in the copy has no number of an untouched committed table
  pub copy_apart : Apart (picked (of_copy number fate) copy) (passed (of_base number fate) committed)
  copy_apart l is = ⊎_elim old own (each-in (λ x. In x (links base) ⊎ (x.link.tx ≡ tx)) (links copy) l txn.drawn (picked-in (of_copy number fate) copy l is))
    where
      from_base : In l (picked (of_base number fate) base) ⊎ In l (passed (of_base number fate) base) → is_in (passed (of_base number fate) committed) l ≡ false
      from_base h = ⊎_elim
          (λ (touched : In l (picked (of_base number fate) base)). (split-distinct (of_base number fate) committed last_distinct).2 l (subst (λ (ls : List LinkRow). In l ls) before_links touched))
          (λ (untouched : In l (passed (of_base number fate) base)).
          absurd (false_true (sym ((split-distinct (of_copy number fate) copy copy_distinct).2 l is) ∙ in-number (passed (of_copy number fate) copy) l (subst (λ (ts : Tables). In l (links ts)) left_base untouched))))
          h

      old : In l (links base) → is_in (passed (of_base number fate) committed) l ≡ false
      old there = from_base (split-in (of_base number fate) base l there)

      own : l.link.tx ≡ tx → is_in (passed (of_base number fate) committed) l ≡ false
      own e = never (is_in (passed (of_base number fate) committed) l) (λ there.
          let y = has-number (passed (of_base number fate) committed) l there in
          not_own y.0 (picked-in (λ t. not (of_base number fate t)) committed y.0 y.1) (ap (λ (n : LinkNo). n.tx) (sym (number-same l.link y.0.link y.2)) ∙ e))

  pub merged_distinct : Distinct (links merged)
  merged_distinct = join-distinct (of_merged number fate) merged
      (subst (λ (ls : List LinkRow). Distinct ls) after_links (split-distinct (of_copy number fate) copy copy_distinct).0)
      (subst (λ (ts : Tables). Distinct (links ts)) left_merged (split-distinct (of_base number fate) committed last_distinct).1)
      (subst (λ (ls : List LinkRow). Apart ls (passed (of_merged number fate) merged)) after_links (subst (λ (ts : Tables). Apart (picked (of_copy number fate) copy) (links ts)) left_merged copy_apart))

  pub merge-touches : Touches base copy committed merged
  merge-touches = all-touched base copy committed merged (of_base number fate) (of_copy number fate) (of_base number fate) (of_merged number fate)
      left_base left_merged before_links after_links base_distinct copy_distinct last_distinct merged_distinct
