-- A restore goes on with the history.
use Rattle.std.proofs.Common.{◌≡◌, ◌⊎◌, inl, inr, ⊎_elim, ℕ, ◌+◌, ◌≤◌, ◌<◌, ◌&&◌, ◌||◌, List, [], ◌∷◌, ◌++◌, Bool, true, false, not, cond, bytes_eq, map, length, nat_le, nat_lt, Option, Some, None, is_none, Result, Ok, Err, refl, sym, ◌∙◌, ap, subst, arith}
use Rattle.std.specs.Cmp.Lexicographic.{pointwise}
use Rattle.std.specs.List.{filter, filter_map, flat_map, cons_option, list_all, list_any}
use Rattle.dl_base.specs.declared.column.Column.{Column}
use Rattle.dl_base.specs.declared.column.ColumnRule.{ColumnRule}
use Rattle.dl_base.specs.declared.column.ColumnRule.TheVariants as rules
use Rattle.dl_base.specs.declared.column.Kind.{Kind}
use Rattle.dl_base.specs.declared.column.Kind.TheVariants as kinds
use Rattle.dl_base.specs.declared.sql_fault.SqlFault.{SqlFault}
use Rattle.dl_base.specs.declared.sql_fault.SqlFault.TheVariants as faults
use Rattle.dl_base.specs.declared.value.LinkNo.{LinkNo}
use Rattle.dl_base.specs.declared.value.LinkRow.{LinkRow}
use Rattle.dl_base.specs.declared.value.Row.{Row}
use Rattle.dl_base.specs.declared.value.Value.{Value}
use Rattle.dl_base.specs.declared.value.Value.TheVariants as values
use Rattle.meaning_areas.specs.Commits.{Commit, columns_stand, definition_of, is_made, defined_kind, not_nulls, keys, tables_after}
use Rattle.meaning_areas.specs.Same.{same_columns}
use Rattle.meaning_areas.specs.Stands.{past}
use Rattle.meaning_settling.proofs.KeyedLaws.{false_true}
use Rattle.meaning_sql.specs.Faults.{ensure}
use Rattle.meaning_statements.specs.Creating.{columns_made, kind_made, rules_fit, is_datalink}
use Rattle.meaning_tables.specs.Fits.{fits_kind, fits_rule, fits_columns, is_key, key_of, repeated, repeated_key, same_key, table_fits, rows_fit, differ, Fits}
use Rattle.meaning_tables.specs.Links.{link_row, cell_links, row_links, table_links, links, same_number}
use Rattle.meaning_tables.specs.OptionRows.{is_option_row}
use Rattle.meaning_tables.specs.Tables.{Rows, Tables, Rise, IsNumbered, table_of}
use Rattle.sql_invariants.specs.Ordered.{AreOrdered}
use Rattle.sql_invariants.proofs.Steps.{go_on, given, held}
use Rattle.meaning_merge.specs.History.{EachTable, Subsequence, ends, leaves, older, IsHistory, is_used}
use Rattle.meaning_merge.specs.Merging.{as_version, AreNamed}
use Rattle.meaning_merge.specs.Restoring.{loses, without_cells, without_lost, is_kept, kept_as, restored_tables}
use Rattle.meaning_merge.specs.Touching.{In, is_in, EachLink}
use Rattle.meaning_merge.proofs.Committed.{Follows, append-named, each-append, each-fit, fit-each}
use Rattle.meaning_merge.proofs.Histories.{past-last, ordered-named, ordered-numbered, named-ordered, beyond}
use Rattle.meaning_merge.proofs.Keeping.{none_some, name-same, each-found, found-each}
use Rattle.meaning_merge.proofs.MergeLaws.{filter-append}
use Rattle.meaning_merge.proofs.MovedLaws.{has-number, in-number}
use Rattle.meaning_merge.proofs.Numbers.{both, two, never, number-same, is_in-append, is_in-number, in-append, in-left, in-right, in-each, each-in, Apart, Distinct, distinct-left, distinct-right, distinct-append, distinct-differ, picked, passed, split-distinct}
use Rattle.meaning_merge.proofs.Paths.{distinct-filter}
use Rattle.meaning_merge.proofs.Touched.{fits-distinct}
use Rattle.meaning_merge.proofs.Used.{used-more}

-- columns of links are plain, where CREATE TABLE could have made them

abbrev IsPlain : Column → Type 0
IsPlain c = is_datalink c.kind ≡ true → c.rule ≡ rules.Plain

abbrev ArePlain : List Column → Type 0
ArePlain [] = Unit {0}
ArePlain (c ∷ cs) = IsPlain c × ArePlain cs

third : (a b c d : Bool) → (a && b && c && d) ≡ true → c ≡ true
third a b c d e = (both (a && b) c (both (a && b && c) d e).0).1

plain_by : (r : ColumnRule) (datalink keyed : Bool) → (nat_le (not_nulls r) 1 && nat_le (keys r) 1 && not (datalink && nat_lt 0 (not_nulls r + keys r)) && not (keyed && nat_lt 0 (keys r))) ≡ true → datalink ≡ true → r ≡ rules.Plain
plain_by r datalink keyed e is = by r (ap (λ b. not (b && nat_lt 0 (not_nulls r + keys r))) (sym is) ∙ third (nat_le (not_nulls r) 1) (nat_le (keys r) 1) (not (datalink && nat_lt 0 (not_nulls r + keys r))) (not (keyed && nat_lt 0 (keys r))) e)
  where
    by : (q : ColumnRule) → not (nat_lt 0 (not_nulls q + keys q)) ≡ true → q ≡ rules.Plain
    by rules.Plain e = refl
    by rules.NotNull e = absurd (false_true e)
    by rules.Key e = absurd (false_true e)

same_datalink : (k kind : Kind) → k ≡ kind → is_datalink kind ≡ is_datalink k
same_datalink k kind e = ap is_datalink (sym e)

kind_kept : (name : List ℕ) (k kind : Kind) → kind_made name (defined_kind k) ≡ Ok kind → is_datalink kind ≡ is_datalink k
kind_kept name kinds.Int kind e = same_datalink kinds.Int kind (given kinds.Int kind e)
kind_kept name (kinds.Text n) kind e = same_datalink (kinds.Text n) kind (held (nat_lt 0 n && nat_le n 4000) (kinds.Text n) kind (faults.TooLong name) e).same
kind_kept name kinds.Free kind e = same_datalink kinds.Free kind (given kinds.Free kind e)
kind_kept name (kinds.Linked o) kind e = same_datalink (kinds.Linked o) kind (held (true && is_option_row o) (kinds.Linked o) kind faults.BadOptions e).same

made-plain : (seen : List (List ℕ)) (keyed : Bool) (cs made : List Column) → columns_made seen keyed (map definition_of cs) ≡ Ok made → ArePlain cs
made-plain seen keyed [] made is = tt
made-plain seen keyed (c ∷ cs) made is =
    go_on (ensure (not (list_any (bytes_eq c.name) seen)) (faults.Ambiguous c.name)) is λ u new is.
    go_on (kind_made c.name (defined_kind c.kind)) is λ kind is_kind is.
    go_on (ensure (rules_fit keyed (definition_of c) kind) faults.BadOptions) is λ v fit is.
    go_on (columns_made (c.name ∷ seen) (keyed || nat_lt 0 (keys c.rule)) (map definition_of cs)) is λ rest later is.
    ((λ datalink. plain_by c.rule (is_datalink kind) keyed (held (rules_fit keyed (definition_of c) kind) true v faults.BadOptions fit).test (kind_kept c.name c.kind kind is_kind ∙ datalink)), made-plain (c.name ∷ seen) (keyed || nat_lt 0 (keys c.rule)) cs rest later)

stand-plain : (cs : List Column) → columns_stand cs ≡ true → ArePlain cs
stand-plain cs e = by (columns_made [] false (map definition_of cs)) refl (both (nat_le (length cs) 64) (is_made (columns_made [] false (map definition_of cs))) e).1
  where
    by : (m : Result (List Column) SqlFault) → columns_made [] false (map definition_of cs) ≡ m → is_made m ≡ true → ArePlain cs
    by (Ok made) is e = made-plain [] false cs made is
    by (Err fault) is e = absurd (false_true e)

-- TABLES WITHOUT LOST CELLS

module _ (lost : LinkRow → Bool) where
  abbrev left : LinkRow → Bool
  left l = not (lost l)

  cell-left : (k : Kind) (v : Value) → cell_links k (cond (list_any lost (cell_links k v)) values.Null v) ≡ filter left (cell_links k v)
  cell-left kinds.Int v = same_cell (list_any lost []) v
    where
      same_cell : (b : Bool) (v : Value) → cell_links kinds.Int (cond b values.Null v) ≡ []
      same_cell b v = refl
  cell-left (kinds.Text n) v = refl
  cell-left kinds.Free v = refl
  cell-left (kinds.Linked o) values.Null = refl
  cell-left (kinds.Linked o) (values.Int z) = refl
  cell-left (kinds.Linked o) (values.Text t) = refl
  cell-left (kinds.Linked o) (values.Link d) = by d.link refl
    where
      one : (n : LinkNo) (b : Bool) → d.link ≡ Some n → cell_links (kinds.Linked o) (cond (b || false) values.Null (values.Link d)) ≡ cond (not b) (record { link = n; path = d.path; options = o } ∷ []) []
      one n true e = refl
      one n false e = ap (link_row o d.path) e

      by : (x : Option LinkNo) → d.link ≡ x → cell_links (kinds.Linked o) (cond (list_any lost (link_row o d.path d.link)) values.Null (values.Link d)) ≡ filter left (link_row o d.path d.link)
      by None e = ap (λ y. cell_links (kinds.Linked o) (cond (list_any lost (link_row o d.path y)) values.Null (values.Link d))) e ∙ ap (link_row o d.path) e ∙ sym (ap (λ y. filter left (link_row o d.path y)) e)
      by (Some n) e = ap (λ y. cell_links (kinds.Linked o) (cond (list_any lost (link_row o d.path y)) values.Null (values.Link d))) e ∙ one n (lost (record { link = n; path = d.path; options = o })) e ∙ sym (ap (λ y. filter left (link_row o d.path y)) e)

  row-left : (cs : List Column) (vs : List Value) → row_links cs (without_cells lost cs vs) ≡ filter left (row_links cs vs)
  row-left [] vs = refl
  row-left (c ∷ cs) [] = refl
  row-left (c ∷ cs) (v ∷ vs) =
      ap (λ (ls : List LinkRow). ls ++ row_links cs (without_cells lost cs vs)) (cell-left c.kind v)
      ∙ ap (λ (ls : List LinkRow). filter left (cell_links c.kind v) ++ ls) (row-left cs vs)
      ∙ sym (filter-append left (cell_links c.kind v) (row_links cs vs))

  abbrev rows_without : List Column → List (ℕ × Row) → List (ℕ × Row)
  rows_without cs rows = map (λ r. (r.0, record { values = without_cells lost cs r.1.values })) rows

  abbrev table_without : Rows → Rows
  table_without t = record t { rows = rows_without t.columns t.rows }

  rows-left : (cs : List Column) (rows : List (ℕ × Row)) → flat_map (λ r. row_links cs r.1.values) (rows_without cs rows) ≡ filter left (flat_map (λ r. row_links cs r.1.values) rows)
  rows-left cs [] = refl
  rows-left cs (r ∷ rs) =
      ap (λ (ls : List LinkRow). ls ++ flat_map (λ x. row_links cs x.1.values) (rows_without cs rs)) (row-left cs r.1.values)
      ∙ ap (λ (ls : List LinkRow). filter left (row_links cs r.1.values) ++ ls) (rows-left cs rs)
      ∙ sym (filter-append left (row_links cs r.1.values) (flat_map (λ x. row_links cs x.1.values) rs))

  links-left : (ts : Tables) → links (without_lost lost ts) ≡ filter left (links ts)
  links-left [] = refl
  links-left (t ∷ ts) =
      ap (λ (ls : List LinkRow). ls ++ links (without_lost lost ts)) (rows-left t.1.columns t.1.rows)
      ∙ ap (λ (ls : List LinkRow). filter left (table_links t.1) ++ ls) (links-left ts)
      ∙ sym (filter-append left (table_links t.1) (links ts))

  -- only a link is lost
  not-lost : (k : Kind) (v : Value) → is_datalink k ≡ false → list_any lost (cell_links k v) ≡ false
  not-lost kinds.Int v e = refl
  not-lost (kinds.Text n) v e = refl
  not-lost kinds.Free v e = absurd (false_true (sym e))
  not-lost (kinds.Linked o) v e = absurd (false_true (sym e))

  cell-fits : (c : Column) (v : Value) → IsPlain c → (fits_kind c.kind v && fits_rule c.rule v) ≡ true → (fits_kind c.kind (cond (loses lost c v) values.Null v) && fits_rule c.rule (cond (loses lost c v) values.Null v)) ≡ true
  cell-fits c v plain fit = by (is_datalink c.kind) refl (loses lost c v) refl
    where
      null : c.rule ≡ rules.Plain → (fits_kind c.kind values.Null && fits_rule c.rule values.Null) ≡ true
      null e = ap (λ r. fits_kind c.kind values.Null && fits_rule r values.Null) e

      by : (d : Bool) → is_datalink c.kind ≡ d → (b : Bool) → loses lost c v ≡ b → (fits_kind c.kind (cond b values.Null v) && fits_rule c.rule (cond b values.Null v)) ≡ true
      by true e true l = null (plain e)
      by false e true l = absurd (false_true (sym (not-lost c.kind v e) ∙ l))
      by d e false l = fit

  columns-fit : (cs : List Column) (vs : List Value) → ArePlain cs → fits_columns cs vs ≡ true → fits_columns cs (without_cells lost cs vs) ≡ true
  columns-fit [] [] plain fit = refl
  columns-fit [] (v ∷ vs) plain fit = fit
  columns-fit (c ∷ cs) [] plain fit = fit
  columns-fit (c ∷ cs) (v ∷ vs) plain fit =
      let one = both (fits_kind c.kind v && fits_rule c.rule v) (fits_columns cs vs) fit in
      two (fits_kind c.kind (cond (loses lost c v) values.Null v) && fits_rule c.rule (cond (loses lost c v) values.Null v)) (fits_columns cs (without_cells lost cs vs)) (cell-fits c v plain.0 one.0) (columns-fit cs vs plain.1 one.1)

  rows-fit : (cs : List Column) (rows : List (ℕ × Row)) → ArePlain cs → list_all (λ r. fits_columns cs r.1.values) rows ≡ true → list_all (λ r. fits_columns cs r.1.values) (rows_without cs rows) ≡ true
  rows-fit cs [] plain fit = refl
  rows-fit cs (r ∷ rs) plain fit =
      let one = both (fits_columns cs r.1.values) (list_all (λ x. fits_columns cs x.1.values) rs) fit in
      two (fits_columns cs (without_cells lost cs r.1.values)) (list_all (λ x. fits_columns cs x.1.values) (rows_without cs rs)) (columns-fit cs r.1.values plain one.0) (rows-fit cs rs plain one.1)

  keys-same : (cs : List Column) (vs : List Value) → ArePlain cs → key_of cs (without_cells lost cs vs) ≡ key_of cs vs
  keys-same [] vs plain = refl
  keys-same (c ∷ cs) [] plain = refl
  keys-same (c ∷ cs) (v ∷ vs) plain = by (is_key c.rule) refl (is_datalink c.kind) refl (keys-same cs vs plain.1)
    where
      by : (k : Bool) → is_key c.rule ≡ k → (d : Bool) → is_datalink c.kind ≡ d → key_of cs (without_cells lost cs vs) ≡ key_of cs vs
          → cond k (cond (loses lost c v) values.Null v ∷ key_of cs (without_cells lost cs vs)) (key_of cs (without_cells lost cs vs)) ≡ cond k (v ∷ key_of cs vs) (key_of cs vs)
      by false e d f go = go
      by true e true f go = absurd (false_true (ap is_key (sym (plain.0 f)) ∙ e))
      by true e false f go = ap (λ b. cond b values.Null v ∷ key_of cs (without_cells lost cs vs)) (not-lost c.kind v f) ∙ ap (λ (ks : List Value). v ∷ ks) go

  repeated-same : (cs : List Column) (keys : List (List Value)) (rows : List (ℕ × Row)) → ArePlain cs → repeated cs keys (rows_without cs rows) ≡ repeated cs keys rows
  repeated-same cs keys [] plain = refl
  repeated-same cs keys (r ∷ rs) plain =
      ap (λ (k : List Value). cond (list_any (pointwise same_key k) keys) (Some r.0) (repeated cs (k ∷ keys) (rows_without cs rs))) (keys-same cs r.1.values plain)
      ∙ ap (λ (o : Option ℕ). cond (list_any (pointwise same_key (key_of cs r.1.values)) keys) (Some r.0) o) (repeated-same cs (key_of cs r.1.values ∷ keys) rs plain)

  table-fits : (t : Rows) → ArePlain t.columns → table_fits t ≡ true → table_fits (table_without t) ≡ true
  table-fits t plain fit =
      let one = both (list_all (λ r. fits_columns t.columns r.1.values) t.rows) (is_none (repeated_key t)) fit in
      two (list_all (λ r. fits_columns t.columns r.1.values) (rows_without t.columns t.rows)) (is_none (repeated_key (table_without t))) (rows-fit t.columns t.rows plain one.0)
      (ap (λ (o : Option ℕ). is_none (cond (list_any (λ c. is_key c.rule) t.columns) o None)) (repeated-same t.columns [] t.rows plain) ∙ one.1)

  rise-without : (first below : ℕ) (cs : List Column) (rows : List (ℕ × Row)) → Rise first below rows → Rise first below (rows_without cs rows)
  rise-without first below cs [] rise = tt
  rise-without first below cs (r ∷ rs) rise = (rise.0, rise.1, rise-without (r.0 + 1) below cs rs rise.2)

  none-without : (name : List ℕ) (ts : Tables) → table_of ts name ≡ None → table_of (without_lost lost ts) name ≡ None
  none-without name [] e = refl
  none-without name (t ∷ ts) e = by (bytes_eq name t.0) e (λ later. none-without name ts later)
    where
      by : (b : Bool) → cond b (Some t.1) (table_of ts name) ≡ None → (table_of ts name ≡ None → table_of (without_lost lost ts) name ≡ None) → cond b (Some (table_without t.1)) (table_of (without_lost lost ts) name) ≡ None
      by true e go = absurd (none_some t.1 (sym e))
      by false e go = go e

  named-without : (ts : Tables) → AreNamed ts → AreNamed (without_lost lost ts)
  named-without [] named = tt
  named-without (t ∷ ts) named = (none-without t.0 ts named.0, named-without ts named.1)

  each-without : (P Q : List ℕ × Rows → Type 0) (ts : Tables) → ((t : List ℕ × Rows) → P t → Q (t.0, table_without t.1)) → EachTable ts P → EachTable (without_lost lost ts) Q
  each-without P Q [] of each = tt
  each-without P Q (t ∷ ts) of each = (of t each.0, each-without P Q ts of each.1)

-- TABLES TO WHICH A HISTORY MAY BE RESTORED
pub record CanFollow (first : ℕ) (cs : List Commit) (ts : Tables) : Type 0 where
  pub named : AreNamed ts
  pub numbered : EachTable ts (λ t. IsNumbered t.1)
  pub columns : EachTable ts (λ t. columns_stand t.1.columns ≡ true)
  pub rows : EachTable ts (λ t. table_fits t.1 ≡ true)
  pub numbers : Distinct (links ts)
  pub drawn : EachLink (links ts) (λ l. is_used first cs l.link.tx ≡ true)

each-zip : (P Q : List ℕ × Rows → Type 0) (ts : Tables) → EachTable ts P → EachTable ts Q → EachTable ts (λ t. P t × Q t)
each-zip P Q [] one other = tt
each-zip P Q (t ∷ ts) one other = ((one.0, other.0), each-zip P Q ts one.1 other.1)

filter-in : (p : LinkRow → Bool) (ls : List LinkRow) (l : LinkRow) → In l (filter p ls) → In l ls
filter-in p [] l is = absurd is
filter-in p (x ∷ xs) l is = by (p x) is (λ h. filter-in p xs l h)
  where
    by : (b : Bool) → In l (cond b (x ∷ filter p xs) (filter p xs)) → (In l (filter p xs) → In l xs) → In l (x ∷ xs)
    by true h go = ⊎_elim (λ (e : l ≡ x). inl e) (λ (later : In l (filter p xs)). inr (go later)) h
    by false h go = inr (go h)

pub past-follows : (first : ℕ) (cs : List Commit) (n : ℕ) (ts : Tables) (lost : LinkRow → Bool) → IsHistory first cs → past [] cs n ≡ Some ts → CanFollow first cs (without_lost lost ts)
past-follows first cs n ts lost history at = record {
  named = named-without lost ts (ordered-named ts (history.ordered n ts at));
  numbered = each-without lost (λ t. IsNumbered t.1) (λ t. IsNumbered t.1) ts (λ t rise. rise-without lost 0 t.1.next t.1.columns t.1.rows rise) (ordered-numbered ts (history.ordered n ts at));
  columns = each-without lost (λ t. columns_stand t.1.columns ≡ true) (λ t. columns_stand t.1.columns ≡ true) ts (λ t stand. stand) (history.columns n ts at);
  rows = each-without lost (λ t. (columns_stand t.1.columns ≡ true) × (table_fits t.1 ≡ true)) (λ t. table_fits t.1 ≡ true) ts (λ t both_so. table-fits lost t.1 (stand-plain t.1.columns both_so.0) both_so.1)
      (each-zip (λ t. columns_stand t.1.columns ≡ true) (λ t. table_fits t.1 ≡ true) ts (history.columns n ts at) (each-fit ts (both (rows_fit ts) (differ same_number (map (λ l. l.link) (links ts))) (history.fit n ts at)).0));
  numbers = subst (λ (ls : List LinkRow). Distinct ls) (sym (links-left lost ts)) (distinct-filter (left lost) (links ts) (fits-distinct ts (history.fit n ts at)));
  drawn = subst (λ (ls : List LinkRow). EachLink ls (λ l. is_used first cs l.link.tx ≡ true)) (sym (links-left lost ts))
      (in-each (λ l. is_used first cs l.link.tx ≡ true) (filter (left lost) (links ts)) (λ l is. each-in (λ x. is_used first cs x.link.tx ≡ true) (links ts) l (history.drawn n ts at) (filter-in (left lost) (links ts) l is)));
}

-- LINKS OF TABLES IN ANOTHER ORDER: each has the links of the other list's table of its name

some_same : (x y : Rows) → Some x ≡ Some y → x ≡ y
some_same x y e = cc

found-in : (us : Tables) (n : List ℕ) (u : Rows) (l : LinkRow) → table_of us n ≡ Some u → In l (table_links u) → In l (links us)
found-in [] n u l e is = absurd (none_some u e)
found-in (x ∷ xs) n u l e is = by (bytes_eq n x.0) e (λ later. found-in xs n u l later is)
  where
    by : (b : Bool) → cond b (Some x.1) (table_of xs n) ≡ Some u → (table_of xs n ≡ Some u → In l (links xs)) → In l (table_links x.1 ++ links xs)
    by true e go = in-left (table_links x.1) (links xs) l (subst (λ (r : Rows). In l (table_links r)) (sym (some_same x.1 u e)) is)
    by false e go = in-right (table_links x.1) (links xs) l (go e)

found-distinct : (us : Tables) (n : List ℕ) (u : Rows) → Distinct (links us) → table_of us n ≡ Some u → Distinct (table_links u)
found-distinct [] n u each e = absurd (none_some u e)
found-distinct (x ∷ xs) n u each e = by (bytes_eq n x.0) e (λ later. found-distinct xs n u (distinct-right (table_links x.1) (links xs) each) later)
  where
    by : (b : Bool) → cond b (Some x.1) (table_of xs n) ≡ Some u → (table_of xs n ≡ Some u → Distinct (table_links u)) → Distinct (table_links u)
    by true e go = subst (λ (r : Rows). Distinct (table_links r)) (some_same x.1 u e) (distinct-left (table_links x.1) (links xs) each)
    by false e go = go e

module _ (m : List ℕ) where
  abbrev of_name : List ℕ × Rows → Bool
  of_name x = bytes_eq m x.0

  found-picked : (us : Tables) (u : Rows) (l : LinkRow) → table_of us m ≡ Some u → In l (table_links u) → In l (picked of_name us)
  found-picked [] u l e is = absurd (none_some u e)
  found-picked (x ∷ xs) u l e is = by (bytes_eq m x.0) e (λ later. found-picked xs u l later is)
    where
      by : (b : Bool) → cond b (Some x.1) (table_of xs m) ≡ Some u → (table_of xs m ≡ Some u → In l (picked of_name xs)) → In l (links (cond b (x ∷ filter of_name xs) (filter of_name xs)))
      by true e go = in-left (table_links x.1) (picked of_name xs) l (subst (λ (r : Rows). In l (table_links r)) (sym (some_same x.1 u e)) is)
      by false e go = go e

  found-passed : (us : Tables) (n : List ℕ) (u : Rows) (l : LinkRow) → bytes_eq m n ≡ false → table_of us n ≡ Some u → In l (table_links u) → In l (passed of_name us)
  found-passed [] n u l other e is = absurd (none_some u e)
  found-passed (x ∷ xs) n u l other e is = by (bytes_eq n x.0) refl e (bytes_eq m x.0) refl (λ later. found-passed xs n u l other later is)
    where
      by : (b : Bool) → bytes_eq n x.0 ≡ b → cond b (Some x.1) (table_of xs n) ≡ Some u → (c : Bool) → bytes_eq m x.0 ≡ c → (table_of xs n ≡ Some u → In l (passed of_name xs))
          → In l (links (cond (not c) (x ∷ filter (λ y. not (of_name y)) xs) (filter (λ y. not (of_name y)) xs)))
      by true at e true here go = absurd (false_true (sym (ap (bytes_eq m) (sym (name-same n x.0 at)) ∙ other) ∙ here))
      by true at e false here go = in-left (table_links x.1) (passed of_name xs) l (subst (λ (r : Rows). In l (table_links r)) (sym (some_same x.1 u e)) is)
      by false at e true here go = go e
      by false at e false here go = in-right (table_links x.1) (passed of_name xs) l (go e)

  found-apart : (us : Tables) (n : List ℕ) (a b : Rows) → Distinct (links us) → table_of us m ≡ Some a → table_of us n ≡ Some b → bytes_eq m n ≡ false → Apart (table_links a) (table_links b)
  found-apart us n a b each at_a at_b other l is = never (is_in (table_links b) l) (λ there.
      let y = has-number (table_links b) l there in
      false_true (sym ((split-distinct of_name us each).2 l (found-picked us a l at_a is)) ∙ is_in-number (passed of_name us) l y.0 (number-same l.link y.0.link y.2) ∙ in-number (passed of_name us) y.0 (found-passed us n b y.0 other at_b y.1)))

module _ (us : Tables) (each : Distinct (links us)) where
  abbrev HasLinks : List ℕ × Rows → Type 0
  HasLinks t = (u : Rows) × (table_of us t.0 ≡ Some u) × (table_links u ≡ table_links t.1)

  none-later : (t : List ℕ × Rows) (a : Rows) (vs : Tables) (l : LinkRow) → table_of us t.0 ≡ Some a → In l (table_links a) → table_of vs t.0 ≡ None → EachTable vs HasLinks → is_in (links vs) l ≡ false
  none-later t a [] l at is none have = refl
  none-later t a (v ∷ vs) l at is none have =
      let one = apart (bytes_eq t.0 v.0) none in
      is_in-append (table_links v.1) (links vs) l
      ∙ ap (λ b. b || is_in (links vs) l) (ap (λ (ls : List LinkRow). is_in ls l) (sym have.0.2) ∙ found-apart t.0 us v.0 a have.0.0 each at have.0.1 one.0 l is)
      ∙ none-later t a vs l at is one.1 have.1
    where
      apart : (b : Bool) → cond b (Some v.1) (table_of vs t.0) ≡ None → (b ≡ false) × (table_of vs t.0 ≡ None)
      apart true e = absurd (none_some v.1 (sym e))
      apart false e = (refl, e)

  pub reordered : (ts : Tables) → AreNamed ts → EachTable ts HasLinks → Distinct (links ts)
  reordered [] named have = tt
  reordered (t ∷ ts) named have =
      let u = have.0 in
      distinct-append (table_links t.1) (links ts) (subst (λ (ls : List LinkRow). Distinct ls) u.2 (found-distinct us t.0 u.0 each u.1)) (reordered ts named.1 have.1)
      (λ l is. none-later t u.0 ts l u.1 (subst (λ (ls : List LinkRow). In l ls) (sym u.2) is) named.0 have.1)

links-each : (P : LinkRow → Type 0) (ts : Tables) → EachTable ts (λ t. (l : LinkRow) → In l (table_links t.1) → P l) → (l : LinkRow) → In l (links ts) → P l
links-each P [] each l is = absurd is
links-each P (t ∷ ts) each l is = ⊎_elim (λ (here : In l (table_links t.1)). each.0 l here) (λ (later : In l (links ts)). links-each P ts each.1 l later) (in-append (table_links t.1) (links ts) l is)

-- THE RESTORED TABLES

module _ (committed target : Tables) (c : ℕ) (named : AreNamed committed) (target_named : AreNamed target) where
  abbrev pub kept_ones : Tables → Tables
  kept_ones ts = filter_map (λ t. kept_as c target t (table_of target t.0)) ts

  abbrev pub is_new : List ℕ × Rows → Bool
  is_new u = not (is_kept (table_of committed u.0) (Some u.1))

  abbrev pub new_tables : Tables → Tables
  new_tables ts = map (λ t. (t.0, as_version c t.1)) (filter is_new ts)

  -- each is one of the target, with the commit's version
  pub each-restored : (P : List ℕ × Rows → Type 0) → ((name : List ℕ) (t : Rows) → table_of target name ≡ Some t → P (name, as_version c t)) → EachTable (restored_tables committed target c) P
  each-restored P of = each-append P (kept_ones committed) (new_tables target) (in_kept committed) (in_new target (each-found (λ u. table_of target u.0 ≡ Some u.1) target target_named (λ u is. is)))
    where
      in_kept : (ts : Tables) → EachTable (filter_map (λ t. kept_as c target t (table_of target t.0)) ts) P
      in_kept [] = tt
      in_kept (t ∷ ts) = one (table_of target t.0) refl (in_kept ts)
        where
          one : (o : Option Rows) → table_of target t.0 ≡ o → EachTable (filter_map (λ u. kept_as c target u (table_of target u.0)) ts) P → EachTable (cons_option (kept_as c target t o) (filter_map (λ u. kept_as c target u (table_of target u.0)) ts)) P
          one None is rest = rest
          one (Some later) is rest = by (same_columns t.1 later)
            where
              by : (b : Bool) → EachTable (cons_option (cond b (Some (t.0, as_version c later)) None) (filter_map (λ u. kept_as c target u (table_of target u.0)) ts)) P
              by true = (of t.0 later is, rest)
              by false = rest

      in_new : (us : Tables) → EachTable us (λ u. table_of target u.0 ≡ Some u.1) → EachTable (new_tables us) P
      in_new [] each = tt
      in_new (u ∷ us) each = by (is_new u) (of u.0 u.1 each.0) (in_new us each.1)
        where
          by : (b : Bool) → P (u.0, as_version c u.1) → EachTable (new_tables us) P → EachTable (map (λ t. (t.0, as_version c t.1)) (cond b (u ∷ filter is_new us) (filter is_new us))) P
          by true p rest = (p, rest)
          by false p rest = rest

  none-kept_ones : (ts : Tables) (name : List ℕ) → table_of ts name ≡ None → table_of (kept_ones ts) name ≡ None
  none-kept_ones [] name e = refl
  none-kept_ones (t ∷ ts) name e = let one = apart (bytes_eq name t.0) e in by (table_of target t.0) one.0 (none-kept_ones ts name one.1)
    where
      apart : (b : Bool) → cond b (Some t.1) (table_of ts name) ≡ None → (b ≡ false) × (table_of ts name ≡ None)
      apart true e = absurd (none_some t.1 (sym e))
      apart false e = (refl, e)

      of : (later : Rows) (b : Bool) → bytes_eq name t.0 ≡ false → table_of (kept_ones ts) name ≡ None → table_of (cons_option (cond b (Some (t.0, as_version c later)) None) (kept_ones ts)) name ≡ None
      of later true other rest = ap (λ x. cond x (Some (as_version c later)) (table_of (kept_ones ts) name)) other ∙ rest
      of later false other rest = rest

      by : (o : Option Rows) → bytes_eq name t.0 ≡ false → table_of (kept_ones ts) name ≡ None → table_of (cons_option (kept_as c target t o) (kept_ones ts)) name ≡ None
      by None other rest = rest
      by (Some later) other rest = of later (same_columns t.1 later) other rest

  kept_ones-named : (ts : Tables) → AreNamed ts → AreNamed (kept_ones ts)
  kept_ones-named [] each = tt
  kept_ones-named (t ∷ ts) each = by (table_of target t.0) (none-kept_ones ts t.0 each.0) (kept_ones-named ts each.1)
    where
      of : (later : Rows) (b : Bool) → table_of (kept_ones ts) t.0 ≡ None → AreNamed (kept_ones ts) → AreNamed (cons_option (cond b (Some (t.0, as_version c later)) None) (kept_ones ts))
      of later true none rest = (none, rest)
      of later false none rest = rest

      by : (o : Option Rows) → table_of (kept_ones ts) t.0 ≡ None → AreNamed (kept_ones ts) → AreNamed (cons_option (kept_as c target t o) (kept_ones ts))
      by None none rest = rest
      by (Some later) none rest = of later (same_columns t.1 later) none rest

  none-new_tables : (us : Tables) (name : List ℕ) → table_of us name ≡ None → table_of (new_tables us) name ≡ None
  none-new_tables [] name e = refl
  none-new_tables (u ∷ us) name e = let one = apart (bytes_eq name u.0) e in by (is_new u) one.0 (none-new_tables us name one.1)
    where
      apart : (b : Bool) → cond b (Some u.1) (table_of us name) ≡ None → (b ≡ false) × (table_of us name ≡ None)
      apart true e = absurd (none_some u.1 (sym e))
      apart false e = (refl, e)

      by : (b : Bool) → bytes_eq name u.0 ≡ false → table_of (new_tables us) name ≡ None → table_of (map (λ t. (t.0, as_version c t.1)) (cond b (u ∷ filter is_new us) (filter is_new us))) name ≡ None
      by true other rest = ap (λ x. cond x (Some (as_version c u.1)) (table_of (new_tables us) name)) other ∙ rest
      by false other rest = rest

  new_tables-named : (us : Tables) → AreNamed us → AreNamed (new_tables us)
  new_tables-named [] each = tt
  new_tables-named (u ∷ us) each = by (is_new u) (none-new_tables us u.0 each.0) (new_tables-named us each.1)
    where
      by : (b : Bool) → table_of (new_tables us) u.0 ≡ None → AreNamed (new_tables us) → AreNamed (map (λ t. (t.0, as_version c t.1)) (cond b (u ∷ filter is_new us) (filter is_new us)))
      by true none rest = (none, rest)
      by false none rest = rest

  -- a table of the same columns is no new one, and one of others is not kept
  same-not-new : (us : Tables) (name : List ℕ) (t u : Rows) → AreNamed us → table_of committed name ≡ Some t → table_of us name ≡ Some u → same_columns t u ≡ true → table_of (new_tables us) name ≡ None
  same-not-new [] name t u each at_t at_u same = refl
  same-not-new (x ∷ xs) name t u each at_t at_u same = by (bytes_eq name x.0) refl at_u (λ later. same-not-new xs name t u each.1 at_t later same)
    where
      gone : bytes_eq name x.0 ≡ true → x.1 ≡ u → is_new x ≡ false
      gone here is = ap (λ (o : Option Rows). not (is_kept o (Some x.1))) (ap (table_of committed) (sym (name-same name x.0 here)) ∙ at_t) ∙ ap (λ (r : Rows). not (same_columns t r)) is ∙ ap (λ b. not b) same

      of : (b : Bool) → bytes_eq name x.0 ≡ false → table_of (new_tables xs) name ≡ None → table_of (map (λ y. (y.0, as_version c y.1)) (cond b (x ∷ filter is_new xs) (filter is_new xs))) name ≡ None
      of true other rest = ap (λ z. cond z (Some (as_version c x.1)) (table_of (new_tables xs) name)) other ∙ rest
      of false other rest = rest

      by : (b : Bool) → bytes_eq name x.0 ≡ b → cond b (Some x.1) (table_of xs name) ≡ Some u → (table_of xs name ≡ Some u → table_of (new_tables xs) name ≡ None) → table_of (new_tables (x ∷ xs)) name ≡ None
      by true here e go =
          ap (λ b. table_of (map (λ y. (y.0, as_version c y.1)) (cond b (x ∷ filter is_new xs) (filter is_new xs))) name) (gone here (some_same x.1 u e))
          ∙ none-new_tables xs name (ap (table_of xs) (name-same name x.0 here) ∙ each.0)
      by false there e go = of (is_new x) there (go e)

  other-not-kept : (ts : Tables) (name : List ℕ) (t u : Rows) → AreNamed ts → table_of ts name ≡ Some t → table_of target name ≡ Some u → same_columns t u ≡ false → table_of (kept_ones ts) name ≡ None
  other-not-kept [] name t u each at_t at_u other = refl
  other-not-kept (x ∷ xs) name t u each at_t at_u other = by (bytes_eq name x.0) refl at_t (λ later. other-not-kept xs name t u each.1 later at_u other)
    where
      of : (o : Option Rows) → bytes_eq name x.0 ≡ false → table_of (kept_ones xs) name ≡ None → table_of (cons_option (kept_as c target x o) (kept_ones xs)) name ≡ None
      of None there rest = rest
      of (Some later) there rest = case (same_columns x.1 later)
        where
          case : (b : Bool) → table_of (cons_option (cond b (Some (x.0, as_version c later)) None) (kept_ones xs)) name ≡ None
          case true = ap (λ z. cond z (Some (as_version c later)) (table_of (kept_ones xs) name)) there ∙ rest
          case false = rest

      by : (b : Bool) → bytes_eq name x.0 ≡ b → cond b (Some x.1) (table_of xs name) ≡ Some t → (table_of xs name ≡ Some t → table_of (kept_ones xs) name ≡ None) → table_of (kept_ones (x ∷ xs)) name ≡ None
      by true here e go =
          ap (λ (o : Option Rows). table_of (cons_option (kept_as c target x o) (kept_ones xs)) name) (ap (table_of target) (sym (name-same name x.0 here)) ∙ at_u)
          ∙ ap (λ b. table_of (cons_option (cond b (Some (x.0, as_version c u)) None) (kept_ones xs)) name) (ap (λ (r : Rows). same_columns r u) (some_same x.1 t e) ∙ other)
          ∙ none-kept_ones xs name (ap (table_of xs) (name-same name x.0 here) ∙ each.0)
      by false there e go = of (table_of target x.0) there (go e)

  pub kept_or_new : (name : List ℕ) → (table_of (kept_ones committed) name ≡ None) ⊎ (table_of (new_tables target) name ≡ None)
  kept_or_new name = by (table_of committed name) refl (table_of target name) refl
    where
      of : (t u : Rows) (b : Bool) → table_of committed name ≡ Some t → table_of target name ≡ Some u → same_columns t u ≡ b → (table_of (kept_ones committed) name ≡ None) ⊎ (table_of (new_tables target) name ≡ None)
      of t u true at_t at_u same = inr (same-not-new target name t u target_named at_t at_u same)
      of t u false at_t at_u same = inl (other-not-kept committed name t u named at_t at_u same)

      by : (o : Option Rows) → table_of committed name ≡ o → (p : Option Rows) → table_of target name ≡ p → (table_of (kept_ones committed) name ≡ None) ⊎ (table_of (new_tables target) name ≡ None)
      by None at_t p at_u = inl (none-kept_ones committed name at_t)
      by (Some t) at_t None at_u = inr (none-new_tables target name at_u)
      by (Some t) at_t (Some u) at_u = of t u (same_columns t u) at_t at_u refl

  pub restored_named : AreNamed (restored_tables committed target c)
  restored_named = append-named (kept_ones committed) (new_tables target) (kept_ones-named committed named) (new_tables-named target target_named) kept_or_new

-- nothing is left of tables that have all changed
all-leave : (ts : Tables) → Subsequence ts []
all-leave [] = ends
all-leave (t ∷ ts) = leaves t (all-leave ts)

none-older : (i : ℕ) (ts : Tables) → EachTable ts (λ t. nat_le t.1.version i ≡ false) → older i ts ≡ []
none-older i [] each = refl
none-older i (t ∷ ts) each = ap (λ b. cond b (t ∷ older i ts) (older i ts)) each.0 ∙ none-older i ts each.1

pub restore-follows : (first : ℕ) (cs : List Commit) (target : Tables) (d : Commit) → IsHistory first cs → CanFollow first cs target → d.tables ≡ restored_tables (tables_after [] cs) target (length cs + 1) → Follows first cs d
restore-follows first cs target d history can is = record {
  versions = subst (λ (ts : Tables). EachTable ts (λ t. (0 < t.1.version) × (t.1.version ≤ (length cs + 1)))) (sym is) (each (λ t. (0 < t.1.version) × (t.1.version ≤ (length cs + 1))) (λ name t at. (omega arith, omega arith)));
  same = λ i es le at. subst (λ (ts : Tables). Subsequence es (older i ts)) (sym is) (subst (λ (ts : Tables). Subsequence es ts) (sym (none-older i (restored_tables (tables_after [] cs) target (length cs + 1)) (each (λ t. nat_le t.1.version i ≡ false) (λ name t here. beyond (length cs + 1) i (omega (arith, le)))))) (all-leave es));
  ordered = subst (λ (ts : Tables). AreOrdered ts) (sym is) (named-ordered (restored_tables (tables_after [] cs) target (length cs + 1)) names (each (λ t. IsNumbered t.1) (λ name t at. found-each (λ u. IsNumbered u) target name t can.numbered at)));
  columns = subst (λ (ts : Tables). EachTable ts (λ t. columns_stand t.1.columns ≡ true)) (sym is) (each (λ t. columns_stand t.1.columns ≡ true) (λ name t at. found-each (λ u. columns_stand u.columns ≡ true) target name t can.columns at));
  fit = subst (λ (ts : Tables). Fits ts) (sym is) (two (rows_fit (restored_tables (tables_after [] cs) target (length cs + 1))) (differ same_number (map (λ l. l.link) (links (restored_tables (tables_after [] cs) target (length cs + 1)))))
      (fit-each (restored_tables (tables_after [] cs) target (length cs + 1)) (each (λ t. table_fits t.1 ≡ true) (λ name t at. found-each (λ u. table_fits u ≡ true) target name t can.rows at)))
      (distinct-differ (links (restored_tables (tables_after [] cs) target (length cs + 1))) (reordered target can.numbers (restored_tables (tables_after [] cs) target (length cs + 1)) names (each (λ t. (u : Rows) × (table_of target t.0 ≡ Some u) × (table_links u ≡ table_links t.1)) (λ name t at. (t, at, refl))))));
  drawn = subst (λ (ts : Tables). EachLink (links ts) (λ l. is_used first (cs ++ d ∷ []) l.link.tx ≡ true)) (sym is)
      (in-each (λ l. is_used first (cs ++ d ∷ []) l.link.tx ≡ true) (links (restored_tables (tables_after [] cs) target (length cs + 1)))
      (links-each (λ l. is_used first (cs ++ d ∷ []) l.link.tx ≡ true) (restored_tables (tables_after [] cs) target (length cs + 1))
      (each (λ t. (l : LinkRow) → In l (table_links t.1) → is_used first (cs ++ d ∷ []) l.link.tx ≡ true)
      (λ name t at l there. used-more first l.link.tx d cs (each-in (λ x. is_used first cs x.link.tx ≡ true) (links target) l can.drawn (found-in target name t l at there))))));
}
  where
    last : AreNamed (tables_after [] cs)
    last = ordered-named (tables_after [] cs) (history.ordered (length cs) (tables_after [] cs) (past-last [] cs))

    names : AreNamed (restored_tables (tables_after [] cs) target (length cs + 1))
    names = restored_named (tables_after [] cs) target (length cs + 1) last can.named

    each : (P : List ℕ × Rows → Type 0) → ((name : List ℕ) (t : Rows) → table_of target name ≡ Some t → P (name, as_version (length cs + 1) t)) → EachTable (restored_tables (tables_after [] cs) target (length cs + 1)) P
    each P of = each-restored (tables_after [] cs) target (length cs + 1) last can.named P of
