-- A commit without a conflict goes on with the history.
use Rattle.std.proofs.Common.{◌≡◌, ◌⊎◌, inl, inr, ⊎_elim, ℕ, zero, suc, ◌+◌, ◌==◌, ◌≤◌, ◌<◌, List, [], ◌∷◌, ◌++◌, Bool, true, false, not, cond, bytes_eq, map, length, nat_le, Option, Some, None, is_some, refl, sym, ◌∙◌, ap, subst, arith}
use Rattle.std.specs.List.{filter, filter_map, cons_option}
use Rattle.std.specs.Option.{option_or}
use Rattle.dl_base.specs.declared.value.LinkRow.{LinkRow}
use Rattle.meaning_areas.specs.Commits.{Commit, commit_of, columns_stand, tables_after}
use Rattle.meaning_areas.specs.Same.{same_rows}
use Rattle.meaning_areas.specs.Stands.{past}
use Rattle.meaning_areas.proofs.Tables.{commit_of-here}
use Rattle.meaning_tables.specs.Fits.{table_fits, rows_fit, differ, Fits}
use Rattle.meaning_tables.specs.Links.{links, same_number}
use Rattle.meaning_tables.specs.Tables.{IsNumbered, Rows, Tables, table_of, version}
use Rattle.sql_invariants.specs.Ordered.{AreOrdered}
use Rattle.meaning_merge.specs.History.{EachTable, Subsequence, ends, leaves, keeps, older, CopyOf, makes, drops, has, IsHistory, IsTransaction, AreCurrent, is_used}
use Rattle.meaning_merge.specs.Merging.{Fate, stays, goes, becomes, fate_of, as_version, by_fate, kept_at, new_at, new_ones, merge, AreNamed}
use Rattle.meaning_merge.specs.Touching.{In, EachLink}
use Rattle.meaning_merge.proofs.Histories.{past-last, past-within, past-push, ordered-numbered, named-ordered, within, beyond}
use Rattle.meaning_merge.proofs.Keeping.{none_some, name-self, each-found, found-each, each-map, of_base, of_copy, of_merged}
use Rattle.meaning_merge.proofs.MergeLaws.{filter-append}
use Rattle.meaning_merge.proofs.Numbers.{both, two, each-in, in-each, distinct-differ, picked, passed, split-in, picked-in}
use Rattle.meaning_merge.proofs.TableByTable.{table_of-append, kept, none-kept, kept-table, none-new, new-table}
use Rattle.meaning_merge.proofs.Touched as touched
use Rattle.meaning_merge.proofs.Used.{unused-none, used-more, used-own}

-- subsequences

pub sub-self : (ts : Tables) → Subsequence ts ts
sub-self [] = ends
sub-self (t ∷ ts) = keeps t (sub-self ts)

pub sub-trans : {xs ys zs : Tables} → Subsequence xs ys → Subsequence ys zs → Subsequence xs zs
sub-trans ends sub = sub
sub-trans (leaves t one) sub = leaves t (sub-trans one sub)
sub-trans (keeps t one) (leaves u sub) = leaves t (sub-trans one sub)
sub-trans (keeps t one) (keeps u sub) = keeps t (sub-trans one sub)

older-whole : (n : ℕ) (ts : Tables) → EachTable ts (λ t. nat_le t.1.version n ≡ true) → older n ts ≡ ts
older-whole n [] each = refl
older-whole n (t ∷ ts) each = ap (λ b. cond b (t ∷ older n ts) (older n ts)) each.0 ∙ ap (λ (us : Tables). t ∷ us) (older-whole n ts each.1)

pub each-append : (P : List ℕ × Rows → Type 0) (ts us : Tables) → EachTable ts P → EachTable us P → EachTable (ts ++ us) P
each-append P [] us one other = other
each-append P (t ∷ ts) us one other = (one.0, each-append P ts us one.1 other)

-- WHAT FOLLOWS a history: one more commit
pub record Follows (first : ℕ) (cs : List Commit) (d : Commit) : Type 0 where
  pub versions : EachTable d.tables (λ t. (0 < t.1.version) × (t.1.version ≤ length cs + 1))
  pub same : (i : ℕ) (es : Tables) → i ≤ length cs → past [] cs i ≡ Some es → Subsequence es (older i d.tables)
  pub ordered : AreOrdered d.tables
  pub columns : EachTable d.tables (λ t. columns_stand t.1.columns ≡ true)
  pub fit : Fits d.tables
  pub drawn : EachLink (links d.tables) (λ l. is_used first (cs ++ d ∷ []) l.link.tx ≡ true)

pub goes-on : (first : ℕ) (cs : List Commit) (d : Commit) → IsHistory first cs → Follows first cs d → IsHistory first (cs ++ d ∷ [])
goes-on first cs d history follows = record {
  versions = λ n ts at. ⊎_elim
      (λ (old : past [] cs n ≡ Some ts). history.versions n ts old)
      (λ (last : (n ≡ suc (length cs)) × (ts ≡ d.tables)). subst (λ (us : Tables). EachTable us (λ t. (0 < t.1.version) × (t.1.version ≤ n))) (sym last.1) (upto n last.0))
      (past-push [] d cs n ts at);
  same = λ i j es ls le at_i at_j. ⊎_elim
      (λ (old_j : past [] cs j ≡ Some ls). ⊎_elim
      (λ (old_i : past [] cs i ≡ Some es). history.same i j es ls le old_i old_j)
      (λ (last_i : (i ≡ suc (length cs)) × (es ≡ d.tables)). absurd (too_far i j le last_i.0 (past-within [] cs j ls old_j)))
      (past-push [] d cs i es at_i))
      (λ (last_j : (j ≡ suc (length cs)) × (ls ≡ d.tables)). ⊎_elim
      (λ (old_i : past [] cs i ≡ Some es). subst (λ (us : Tables). Subsequence es (older i us)) (sym last_j.1) (follows.same i es (past-within [] cs i es old_i) old_i))
      (λ (last_i : (i ≡ suc (length cs)) × (es ≡ d.tables)). subst (λ (us : Tables). Subsequence es (older i us)) (sym last_j.1) (subst (λ (us : Tables). Subsequence us (older i d.tables)) (sym last_i.1) (whole_last i last_i.0)))
      (past-push [] d cs i es at_i))
      (past-push [] d cs j ls at_j);
  ordered = λ n ts at. ⊎_elim
      (λ (old : past [] cs n ≡ Some ts). history.ordered n ts old)
      (λ (last : (n ≡ suc (length cs)) × (ts ≡ d.tables)). subst (λ (us : Tables). AreOrdered us) (sym last.1) follows.ordered)
      (past-push [] d cs n ts at);
  columns = λ n ts at. ⊎_elim
      (λ (old : past [] cs n ≡ Some ts). history.columns n ts old)
      (λ (last : (n ≡ suc (length cs)) × (ts ≡ d.tables)). subst (λ (us : Tables). EachTable us (λ t. columns_stand t.1.columns ≡ true)) (sym last.1) follows.columns)
      (past-push [] d cs n ts at);
  fit = λ n ts at. ⊎_elim
      (λ (old : past [] cs n ≡ Some ts). history.fit n ts old)
      (λ (last : (n ≡ suc (length cs)) × (ts ≡ d.tables)). subst (λ (us : Tables). Fits us) (sym last.1) follows.fit)
      (past-push [] d cs n ts at);
  drawn = λ n ts at. ⊎_elim
      (λ (old : past [] cs n ≡ Some ts). in-each (λ l. is_used first (cs ++ d ∷ []) l.link.tx ≡ true) (links ts) (λ l is. used-more first l.link.tx d cs (each-in (λ x. is_used first cs x.link.tx ≡ true) (links ts) l (history.drawn n ts old) is)))
      (λ (last : (n ≡ suc (length cs)) × (ts ≡ d.tables)). subst (λ (us : Tables). EachLink (links us) (λ l. is_used first (cs ++ d ∷ []) l.link.tx ≡ true)) (sym last.1) follows.drawn)
      (past-push [] d cs n ts at);
}
  where
    upto : (n : ℕ) → n ≡ suc (length cs) → EachTable d.tables (λ t. (0 < t.1.version) × (t.1.version ≤ n))
    upto n is = each-map (λ t. (0 < t.1.version) × (t.1.version ≤ length cs + 1)) (λ t. (0 < t.1.version) × (t.1.version ≤ n)) d.tables (λ t v. (let le = v.1 in (v.0, omega (arith, is, le)))) follows.versions

    too_far : (i j : ℕ) → i ≤ j → i ≡ suc (length cs) → j ≤ length cs → ⊥
    too_far i j le is far = omega (arith, le, is, far)

    whole_last : (i : ℕ) → i ≡ suc (length cs) → Subsequence d.tables (older i d.tables)
    whole_last i is = subst (λ (us : Tables). Subsequence d.tables us) (sym (older-whole i d.tables (each-map (λ t. (0 < t.1.version) × (t.1.version ≤ i)) (λ t. nat_le t.1.version i ≡ true) d.tables (λ t v. within t.1.version i v.1) (upto i is)))) (sub-self d.tables)

-- A MERGE: its tables

pub becomes-copy : (b o : Option Rows) (later : Rows) → fate_of b o ≡ becomes later → o ≡ Some later
becomes-copy None o later e = absurd cc
becomes-copy (Some b) None later e = absurd cc
becomes-copy (Some b) (Some t) later e = by (t.version == 0) (same_rows b t) e
  where
    inside : becomes t ≡ becomes later → t ≡ later
    inside e = cc

    by : (v s : Bool) → cond v goes (cond s stays (becomes t)) ≡ becomes later → Some t ≡ Some later
    by true s e = absurd cc
    by false true e = absurd cc
    by false false e = ap (λ (x : Rows). Some x) (inside e)

-- each is a committed one, or one of the copy with the commit's version
pub each-merged : (P : List ℕ × Rows → Type 0) (committed base copy : Tables) (c : ℕ) → AreNamed copy → EachTable committed P → ((name : List ℕ) (t : Rows) → table_of copy name ≡ Some t → P (name, as_version c t)) → EachTable (merge committed base copy c) P
each-merged P committed base copy c named old later =
    each-append P (kept c fate committed) (new_ones c copy) (in_kept committed old) (in_new copy (each-found (λ t. table_of copy t.0 ≡ Some t.1) copy named (λ t is. is)))
  where
    fate : List ℕ → Fate
    fate name = fate_of (table_of base name) (table_of copy name)

    one : (t : List ℕ × Rows) (f : Fate) (rest : Tables) → fate_of (table_of base t.0) (table_of copy t.0) ≡ f → P t → EachTable rest P → EachTable (cons_option (by_fate c t f) rest) P
    one t stays rest is p each = (p, each)
    one t goes rest is p each = each
    one t (becomes x) rest is p each = (later t.0 x (becomes-copy (table_of base t.0) (table_of copy t.0) x is), each)

    in_kept : (ts : Tables) → EachTable ts P → EachTable (filter_map (λ t. by_fate c t (fate_of (table_of base t.0) (table_of copy t.0))) ts) P
    in_kept [] each = tt
    in_kept (t ∷ ts) each = one t (fate_of (table_of base t.0) (table_of copy t.0)) (filter_map (λ u. by_fate c u (fate_of (table_of base u.0) (table_of copy u.0))) ts) refl each.0 (in_kept ts each.1)

    in_new : (ts : Tables) → EachTable ts (λ t. table_of copy t.0 ≡ Some t.1) → EachTable (new_ones c ts) P
    in_new [] each = tt
    in_new (t ∷ ts) each = by (t.1.version == 0) (later t.0 t.1 each.0) (in_new ts each.1)
      where
        by : (v : Bool) → P (t.0, as_version c t.1) → EachTable (new_ones c ts) P → EachTable (map (λ u. (u.0, as_version c u.1)) (cond v (t ∷ filter (λ u. u.1.version == 0) ts) (filter (λ u. u.1.version == 0) ts))) P
        by true p each = (p, each)
        by false p each = each

-- names

module _ (c : ℕ) (fate : List ℕ → Fate) where
  kept-named : (ts : Tables) → AreNamed ts → AreNamed (kept c fate ts)
  kept-named [] named = tt
  kept-named (t ∷ ts) named = by (fate t.0) (none-kept c fate ts t.0 named.0) (kept-named ts named.1)
    where
      by : (f : Fate) → table_of (kept c fate ts) t.0 ≡ None → AreNamed (kept c fate ts) → AreNamed (cons_option (by_fate c t f) (kept c fate ts))
      by stays none rest = (none, rest)
      by goes none rest = rest
      by (becomes later) none rest = (none, rest)

  pub new-named : (ts : Tables) → AreNamed ts → AreNamed (new_ones c ts)
  new-named [] named = tt
  new-named (t ∷ ts) named = by (t.1.version == 0) (none-new c ts t.0 named.0) (new-named ts named.1)
    where
      by : (v : Bool) → table_of (new_ones c ts) t.0 ≡ None → AreNamed (new_ones c ts) → AreNamed (map (λ u. (u.0, as_version c u.1)) (cond v (t ∷ filter (λ u. u.1.version == 0) ts) (filter (λ u. u.1.version == 0) ts)))
      by true none rest = (none, rest)
      by false none rest = rest

pub append-named : (ts us : Tables) → AreNamed ts → AreNamed us → ((name : List ℕ) → (table_of ts name ≡ None) ⊎ (table_of us name ≡ None)) → AreNamed (ts ++ us)
append-named [] us one other apart = other
append-named (t ∷ ts) us one other apart = (
  table_of-append ts us t.0 ∙ ap (λ (o : Option Rows). option_or o (table_of us t.0)) one.0 ∙ here,
  append-named ts us one.1 other rest,
)
  where
    here : table_of us t.0 ≡ None
    here = ⊎_elim (λ (e : table_of (t ∷ ts) t.0 ≡ None). absurd (none_some t.1 (sym e ∙ head_at))) (λ (e : table_of us t.0 ≡ None). e) (apart t.0)
      where
        head_at : table_of (t ∷ ts) t.0 ≡ Some t.1
        head_at = ap (λ b. cond b (Some t.1) (table_of ts t.0)) (name-self t.0)

    rest : (name : List ℕ) → (table_of ts name ≡ None) ⊎ (table_of us name ≡ None)
    rest name = ⊎_elim (λ (e : table_of (t ∷ ts) name ≡ None). inl (tail (bytes_eq name t.0) e)) (λ (e : table_of us name ≡ None). inr e) (apart name)
      where
        tail : (b : Bool) → cond b (Some t.1) (table_of ts name) ≡ None → table_of ts name ≡ None
        tail true e = absurd (none_some t.1 (sym e))
        tail false e = e

-- rows fit

pub each-fit : (ts : Tables) → rows_fit ts ≡ true → EachTable ts (λ t. table_fits t.1 ≡ true)
each-fit [] e = tt
each-fit (t ∷ ts) e = let one = both (table_fits t.1) (rows_fit ts) e in (one.0, each-fit ts one.1)

pub fit-each : (ts : Tables) → EachTable ts (λ t. table_fits t.1 ≡ true) → rows_fit ts ≡ true
fit-each [] each = refl
fit-each (t ∷ ts) each = two (table_fits t.1) (rows_fit ts) each.0 (fit-each ts each.1)

pub rows-of : (ts : Tables) → Fits ts → EachTable ts (λ t. table_fits t.1 ≡ true)
rows-of ts fit = each-fit ts (both (rows_fit ts) (differ same_number (map (λ l. l.link) (links ts))) fit).0

-- the columns of a copy are its base's, or were made
pub copy-columns : {base copy : Tables} → CopyOf base copy → EachTable base (λ t. columns_stand t.1.columns ≡ true) → EachTable copy (λ t. columns_stand t.1.columns ≡ true)
copy-columns {copy = copy} (makes made) each = each-map (λ t. (t.1.version ≡ 0) × (columns_stand t.1.columns ≡ true)) (λ t. columns_stand t.1.columns ≡ true) copy (λ t m. m.1) made
copy-columns (drops t of) each = copy-columns of each.1
copy-columns (has t later version columns of) each = (ap columns_stand columns ∙ each.0, copy-columns of each.1)

-- a committed history

module _ (first : ℕ) (cs : List Commit) (tx : ℕ) (base copy : Tables) (names : List (List ℕ)) (next : ℕ) (history : IsHistory first cs) (txn : IsTransaction first cs tx base copy names next) (current : AreCurrent base (tables_after [] cs) names) where
  abbrev committed : Tables
  committed = tables_after [] cs

  abbrev number : ℕ
  number = length cs + 1

  abbrev fate : List ℕ → Fate
  fate name = fate_of (table_of base name) (table_of copy name)

  abbrev merged : Tables
  merged = merge committed base copy number

  last_named : AreNamed committed
  last_named = touched.last_named first cs tx base copy names next history txn current

  copy_named : AreNamed copy
  copy_named = touched.copy_named first cs tx base copy names next history txn current

  at_last : past [] cs (length cs) ≡ Some committed
  at_last = past-last [] cs

  merged_versions : EachTable merged (λ t. (0 < t.1.version) × (t.1.version ≤ number))
  merged_versions = each-merged (λ t. (0 < t.1.version) × (t.1.version ≤ number)) committed base copy number copy_named
      (each-map (λ t. (0 < t.1.version) × (t.1.version ≤ length cs)) (λ t. (0 < t.1.version) × (t.1.version ≤ number)) committed (λ t v. (let le = v.1 in (v.0, omega (arith, le)))) (history.versions (length cs) committed at_last))
      (λ name t is. (omega arith, omega arith))

  merged_numbered : EachTable merged (λ t. IsNumbered t.1)
  merged_numbered = each-merged (λ t. IsNumbered t.1) committed base copy number copy_named (ordered-numbered committed (history.ordered (length cs) committed at_last))
      (λ name t is. found-each (λ u. IsNumbered u) copy name t (ordered-numbered copy txn.ordered) is)

  merged_columns : EachTable merged (λ t. columns_stand t.1.columns ≡ true)
  merged_columns = each-merged (λ t. columns_stand t.1.columns ≡ true) committed base copy number copy_named (history.columns (length cs) committed at_last)
      (λ name t is. found-each (λ u. columns_stand u.columns ≡ true) copy name t (copy-columns txn.copy_of (history.columns txn.begun.0 base txn.begun.1)) is)

  -- where a new table is, no committed one is kept
  pub kept_or_new : (name : List ℕ) → (table_of (kept number fate committed) name ≡ None) ⊎ (table_of (new_ones number copy) name ≡ None)
  kept_or_new name = by (table_of copy name) refl (new-table number copy name copy_named)
    where
      -- it was dropped, or was never there
      dropped : (t : Rows) → table_of copy name ≡ Some t → (t.version == 0) ≡ true → (b : Option Rows) → table_of base name ≡ b → table_of (kept number fate committed) name ≡ None
      dropped t at made (Some b) at_base =
          kept-table number fate committed name last_named
          ∙ ap (λ f. kept_at number (table_of committed name) f)
          (ap (λ (o : Option Rows). fate_of o (table_of copy name)) at_base ∙ ap (fate_of (Some b)) at ∙ ap (λ v. cond v goes (cond (same_rows b t) stays (becomes t))) made)
          ∙ gone (table_of committed name)
        where
          gone : (o : Option Rows) → kept_at number o goes ≡ None
          gone None = refl
          gone (Some x) = refl
      dropped t at made None at_base = none-kept number fate committed name (touched.never_there first cs tx base copy names next history txn current name t at at_base)

      by : (o : Option Rows) → table_of copy name ≡ o → table_of (new_ones number copy) name ≡ new_at number (table_of copy name) → (table_of (kept number fate committed) name ≡ None) ⊎ (table_of (new_ones number copy) name ≡ None)
      by None at is = inr (is ∙ ap (new_at number) at)
      by (Some t) at is = of (t.version == 0) refl
        where
          of : (v : Bool) → (t.version == 0) ≡ v → (table_of (kept number fate committed) name ≡ None) ⊎ (table_of (new_ones number copy) name ≡ None)
          of true e = inl (dropped t at e (table_of base name) refl)
          of false e = inr (is ∙ ap (new_at number) at ∙ ap (λ v. cond v (Some (as_version number t)) None) e)

  pub merged_named : AreNamed merged
  merged_named = append-named (kept number fate committed) (new_ones number copy) (kept-named number fate committed last_named) (new-named number fate copy copy_named) kept_or_new

  pub merged_fit : Fits merged
  merged_fit = two (rows_fit merged) (differ same_number (map (λ l. l.link) (links merged)))
      (fit-each merged (each-merged (λ t. table_fits t.1 ≡ true) committed base copy number copy_named (rows-of committed (history.fit (length cs) committed at_last))
      (λ name t is. found-each (λ u. table_fits u ≡ true) copy name t (rows-of copy txn.fit) is)))
      (distinct-differ (links merged) (touched.merged_distinct first cs tx base copy names next history txn current))

  -- what was not changed since an earlier commit

  older-new : (i : ℕ) → nat_le number i ≡ false → (ts : Tables) → older i (map (λ t. (t.0, as_version number t.1)) ts) ≡ []
  older-new i e [] = refl
  older-new i e (t ∷ ts) = ap (λ b. cond b ((t.0, as_version number t.1) ∷ older i (map (λ u. (u.0, as_version number u.1)) ts)) (older i (map (λ u. (u.0, as_version number u.1)) ts))) e ∙ older-new i e ts

  older-kept : (i : ℕ) → nat_le number i ≡ false → (ts : Tables) → Subsequence (older i ts) (older i (kept number fate ts))
  older-kept i e [] = ends
  older-kept i e (t ∷ ts) = by (fate t.0) (nat_le t.1.version i) refl (older-kept i e ts)
    where
      one : (v : Bool) → Subsequence (older i ts) (older i (kept number fate ts)) → Subsequence (cond v (t ∷ older i ts) (older i ts)) (older i (kept number fate ts))
      one true rest = leaves t rest
      one false rest = rest

      by : (f : Fate) (v : Bool) → nat_le t.1.version i ≡ v → Subsequence (older i ts) (older i (kept number fate ts)) → Subsequence (cond v (t ∷ older i ts) (older i ts)) (older i (cons_option (by_fate number t f) (kept number fate ts)))
      by stays true is rest = subst (λ b. Subsequence (t ∷ older i ts) (cond b (t ∷ older i (kept number fate ts)) (older i (kept number fate ts)))) (sym is) (keeps t rest)
      by stays false is rest = subst (λ b. Subsequence (older i ts) (cond b (t ∷ older i (kept number fate ts)) (older i (kept number fate ts)))) (sym is) rest
      by goes v is rest = one v rest
      by (becomes later) v is rest = subst (λ b. Subsequence (cond v (t ∷ older i ts) (older i ts)) (cond b ((t.0, as_version number later) ∷ older i (kept number fate ts)) (older i (kept number fate ts)))) (sym e) (one v rest)

  nothing : (xs : Tables) → xs ++ [] ≡ xs
  nothing [] = refl
  nothing (x ∷ xs) = ap (λ (ys : Tables). x ∷ ys) (nothing xs)

  merged_same : (i : ℕ) (es : Tables) → i ≤ length cs → past [] cs i ≡ Some es → Subsequence es (older i merged)
  merged_same i es le at =
      let after : nat_le number i ≡ false = beyond number i (omega (arith, le)) in
      let is : older i (kept number fate committed) ≡ older i merged =
      sym (nothing (older i (kept number fate committed)))
      ∙ ap (λ (us : Tables). older i (kept number fate committed) ++ us) (sym (older-new i after (filter (λ t. t.1.version == 0) copy)))
      ∙ sym (filter-append (λ t. nat_le t.1.version i) (kept number fate committed) (new_ones number copy)) in
      subst (λ (us : Tables). Subsequence es us) is (sub-trans (history.same i (length cs) es committed le at at_last) (older-kept i after committed))

  -- links

  merged_drawn : (d : Commit) → d.tx ≡ tx → EachLink (links merged) (λ l. is_used first (cs ++ d ∷ []) l.link.tx ≡ true)
  merged_drawn d is = in-each (λ l. is_used first (cs ++ d ∷ []) l.link.tx ≡ true) (links merged) (λ l there. by l (split-in (of_merged number fate) merged l there))
    where
      old : (l : LinkRow) (n : ℕ) (ts : Tables) → past [] cs n ≡ Some ts → In l (links ts) → is_used first (cs ++ d ∷ []) l.link.tx ≡ true
      old l n ts at there = used-more first l.link.tx d cs (each-in (λ x. is_used first cs x.link.tx ≡ true) (links ts) l (history.drawn n ts at) there)

      own : (l : LinkRow) → l.link.tx ≡ tx → is_used first (cs ++ d ∷ []) l.link.tx ≡ true
      own l e = used-own first l.link.tx d cs (ap (λ n. is_some (commit_of n (cs ++ d ∷ []))) (e ∙ sym is) ∙ ap is_some (commit_of-here d cs (ap (λ n. commit_of n cs) is ∙ unused-none first cs tx txn.unused)))

      by : (l : LinkRow) → In l (picked (of_merged number fate) merged) ⊎ In l (passed (of_merged number fate) merged) → is_used first (cs ++ d ∷ []) l.link.tx ≡ true
      by l h = ⊎_elim
          (λ (a : In l (picked (of_merged number fate) merged)). ⊎_elim
          (λ (b : In l (links base)). old l txn.begun.0 base txn.begun.1 b)
          (λ (e : l.link.tx ≡ tx). own l e)
          (each-in (λ x. In x (links base) ⊎ (x.link.tx ≡ tx)) (links copy) l txn.drawn
          (picked-in (of_copy number fate) copy l (subst (λ (ls : List LinkRow). In l ls) (sym (touched.after_links first cs tx base copy names next history txn current)) a))))
          (λ (a : In l (passed (of_merged number fate) merged)).
          old l (length cs) committed at_last (picked-in (λ t. not (of_base number fate t)) committed l (subst (λ (ts : Tables). In l (links ts)) (sym (touched.left_merged first cs tx base copy names next history txn current)) a)))
          h

  pub merge-follows : (d : Commit) → d.tx ≡ tx → d.tables ≡ merged → Follows first cs d
  merge-follows d own is = record {
    versions = subst (λ (ts : Tables). EachTable ts (λ t. (0 < t.1.version) × (t.1.version ≤ number))) (sym is) merged_versions;
    same = λ i es le at. subst (λ (ts : Tables). Subsequence es (older i ts)) (sym is) (merged_same i es le at);
    ordered = subst (λ (ts : Tables). AreOrdered ts) (sym is) (named-ordered merged merged_named merged_numbered);
    columns = subst (λ (ts : Tables). EachTable ts (λ t. columns_stand t.1.columns ≡ true)) (sym is) merged_columns;
    fit = subst (λ (ts : Tables). Fits ts) (sym is) merged_fit;
    drawn = subst (λ (ts : Tables). EachLink (links ts) (λ l. is_used first (cs ++ d ∷ []) l.link.tx ≡ true)) (sym is) (merged_drawn d own);
  }

-- THE HISTORY begins without commits
pub no-commits : (first : ℕ) → IsHistory first []
no-commits first = record {
  versions = λ n ts at. each-none n ts at;
  same = λ i j es ls le at_i at_j. subst (λ (us : Tables). Subsequence es (older i us)) (none-after j ls at_j) (subst (λ (us : Tables). Subsequence us []) (none-after i es at_i) ends);
  ordered = λ n ts at. subst (λ (us : Tables). AreOrdered us) (none-after n ts at) (named-ordered [] tt tt);
  columns = λ n ts at. subst (λ (us : Tables). EachTable us (λ t. columns_stand t.1.columns ≡ true)) (none-after n ts at) tt;
  fit = λ n ts at. subst (λ (us : Tables). Fits us) (none-after n ts at) refl;
  drawn = λ n ts at. subst (λ (us : Tables). EachLink (links us) (λ l. is_used first [] l.link.tx ≡ true)) (none-after n ts at) tt;
}
  where
    none-after : (n : ℕ) (ts : Tables) → past [] [] n ≡ Some ts → [] ≡ ts
    none-after zero ts at = cc
    none-after (suc n) ts at = absurd cc

    each-none : (n : ℕ) (ts : Tables) → past [] [] n ≡ Some ts → EachTable ts (λ t. (0 < t.1.version) × (t.1.version ≤ n))
    each-none n ts at = subst (λ (us : Tables). EachTable us (λ t. (0 < t.1.version) × (t.1.version ≤ n))) (none-after n ts at) tt
