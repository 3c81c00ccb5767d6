-- The links of tables that others lack, of which those of rows that stayed are none.
use Rattle.std.proofs.Common.{◌≡◌, ℕ, ◌+◌, ◌<◌, ◌==◌, ◌&&◌, ◌||◌, Bool, true, false, not, cond, List, [], ◌∷◌, ◌++◌, map, bytes_eq, Option, Some, None, refl, sym, ◌∙◌, ap, arith}
use Rattle.std.specs.List.{flat_map, list_any}
use Rattle.std.specs.List.Sorted.{IsStrictlySortedBy}
use Rattle.std.specs.Cmp.Lexicographic.{pointwise}
use Rattle.std.specs.Map.{lookup}
use Rattle.std.specs.Ordering.{is_eq, nat_cmp}
use Rattle.std.proofs.lemmas.Bool.{eq-eqb, ne_eqb, not-true}
use Rattle.std.proofs.lemmas.List.{append-nil}
use Rattle.std.proofs.lemmas.List.Elements.{filter-append}
use Rattle.std.proofs.lemmas.List.Folds.{list_any-append}
use Rattle.dl_base.specs.declared.column.Column.{Column}
use Rattle.dl_base.specs.declared.column.Kind.{Kind}
use Rattle.dl_base.specs.declared.column.Kind.TheVariants as kinds
use Rattle.dl_base.specs.declared.value.LinkNo.{LinkNo}
use Rattle.dl_base.specs.declared.value.LinkRow.{LinkRow}
use Rattle.dl_base.specs.declared.value.Row.{Row}
use Rattle.dl_base.specs.declared.value.Value.{Value}
use Rattle.dl_pages.specs.Sets.{has}
use Rattle.db_changes.specs.Touched.{Covers, Touched, among, numbers_of}
use Rattle.db_changes.proofs.Numbers.{listed-none, listed-some}
use Rattle.db_changes.proofs.RowsTouched.{has-among}
use Rattle.meaning_areas.specs.Same.{same_column, same_columns}
use Rattle.meaning_areas.proofs.Equal.{rows-decide}
use Rattle.meaning_merge.proofs.Numbers.{both}
use Rattle.meaning_tables.specs.Links.{cell_links, lacking, links, row_links, same_number, table_links}
use Rattle.meaning_tables.specs.Tables.{Rise, Rows, Tables, row_of, table_of}
use Rattle.sql_table.specs.Lacking.{lacking_at, row_lacking}
use Rattle.sql_table.proofs.Rising.{Rising, differs, same_made, sorted_rises}
use Rattle.sql_table.proofs.RowLinks.{held}
use Rattle.db_moved.specs.Moving.{Stay, StaysIn, is_kept, is_linked}

-- BOTH SIDES of a copy

pub stay-given : (touched : Touched) (base copy : Tables) → Covers touched base copy → Stay touched base copy
stay-given touched base copy covers = record { rows = λ name t here u there old old_there. covers.rows name t u here there old_there }

pub stay-taken : (touched : Touched) (base copy : Tables) → Covers touched base copy → Stay touched copy base
stay-taken touched base copy covers = record { rows = λ name t here u there old old_there. λ n out. sym (covers.rows name u t there here old n out) }

-- A LINK of a row that stayed is one of both sides

abbrev had : List LinkRow → LinkNo → Bool
had others q = list_any (λ y. same_number q y.link) others

or-left : (a b : Bool) → a ≡ true → (a || b) ≡ true
or-left true b e = refl
or-left false b e = absurd cc

or-right : (a b : Bool) → b ≡ true → (a || b) ≡ true
or-right true b e = refl
or-right false b e = e

same-row : (x y : Row) → Some x ≡ Some y → x ≡ y
same-row x y e = cc

same-table : (x y : Rows) → Some x ≡ Some y → x ≡ y
same-table x y e = cc

abbrev of-rows : List Column → List (ℕ × Row) → List LinkRow
of-rows columns rows = flat_map (λ r. row_links columns r.1.values) rows

in-rows : (columns : List Column) (q : LinkNo) (rows : List (ℕ × Row)) (n : ℕ) (row : Row) → row_of rows n ≡ Some row → had (row_links columns row.values) q ≡ true → had (of-rows columns rows) q ≡ true
in-rows columns q [] n row at there = absurd cc
in-rows columns q (r ∷ rs) n row at there =
    list_any-append (λ y. same_number q y.link) (row_links columns r.1.values) (of-rows columns rs) ∙ by (n == r.0) at (λ e. in-rows columns q rs n row e there)
  where
    by : (b : Bool) → cond b (Some r.1) (row_of rs n) ≡ Some row → (row_of rs n ≡ Some row → had (of-rows columns rs) q ≡ true) → (had (row_links columns r.1.values) q || had (of-rows columns rs) q) ≡ true
    by true e go = or-left (had (row_links columns r.1.values) q) (had (of-rows columns rs) q) (ap (λ (x : Row). had (row_links columns x.values) q) (same-row r.1 row e) ∙ there)
    by false e go = or-right (had (row_links columns r.1.values) q) (had (of-rows columns rs) q) (go e)

in-tables : (q : LinkNo) (ts : Tables) (name : List ℕ) (u : Rows) → table_of ts name ≡ Some u → had (table_links u) q ≡ true → had (links ts) q ≡ true
in-tables q [] name u at there = absurd cc
in-tables q (t ∷ ts) name u at there =
    list_any-append (λ y. same_number q y.link) (table_links t.1) (links ts) ∙ by (bytes_eq name t.0) at (λ e. in-tables q ts name u e there)
  where
    by : (b : Bool) → cond b (Some t.1) (table_of ts name) ≡ Some u → (table_of ts name ≡ Some u → had (links ts) q ≡ true) → (had (table_links t.1) q || had (links ts) q) ≡ true
    by true e go = or-left (had (table_links t.1) q) (had (links ts) q) (ap (λ (x : Rows). had (table_links x) q) (same-table t.1 u e) ∙ there)
    by false e go = or-right (had (table_links t.1) q) (had (links ts) q) (go e)

itself : (q : LinkNo) → same_number q q ≡ true
itself q = rw (eq-eqb q.tx q.tx refl, eq-eqb q.k q.k refl) refl

none-lacking : (xs others : List LinkRow) → ((q : LinkNo) → had xs q ≡ true → had others q ≡ true) → lacking xs others ≡ []
none-lacking [] others all = refl
none-lacking (x ∷ xs) others all =
    held x xs others (all x.link (ap (λ b. b || had xs x.link) (itself x.link)))
    ∙ none-lacking xs others (λ q there. all q (or-right (same_number q x.link) (had xs q) there))

stayed-row : (others : Tables) (name : List ℕ) (t u : Rows) (n : ℕ) → table_of others name ≡ Some u → t.columns ≡ u.columns → row_of u.rows n ≡ row_of t.rows n → lacking_at (links others) t n ≡ []
stayed-row others name t u n at columns same = by (row_of t.rows n) same
  where
    by : (o : Option Row) → row_of u.rows n ≡ o → row_lacking (links others) t.columns o ≡ []
    by None e = refl
    by (Some row) e = none-lacking (row_links t.columns row.values) (links others)
        (λ q there. in-tables q others name u at (in-rows u.columns q u.rows n row e (sym (ap (λ (cs : List Column). had (row_links cs row.values) q) columns) ∙ there)))

-- tables that are kept have the same columns

on : (b : Bool) → ((b && true) && true) ≡ b
on true = refl
on false = refl

abbrev table : List Column → Rows
table cs = record { version = 0; columns = cs; next = 0; rows = [] }

columns-same : (t u : Rows) → same_columns t u ≡ true → t.columns ≡ u.columns
columns-same t u e = ap (λ (x : Rows). x.columns) ((rows-decide (table t.columns) (table u.columns)).0 (on (pointwise same_column t.columns u.columns) ∙ e))

pub stayed : (r : Bool) (touched : Touched) (name : List ℕ) (t u : Rows) (others : Tables) → StaysIn touched name t others → Some u ≡ table_of others name → r ≡ is_kept t u → r ≡ true → (n : ℕ) → among (numbers_of touched name) n ≡ false → lacking_at (links others) t n ≡ []
stayed r touched name t u others stays at is kept n out =
    let parts = both (not (t.version == 0) && not (u.version == 0)) (same_columns t u) (sym is ∙ kept) in
    let old = both (not (t.version == 0)) (not (u.version == 0)) parts.0 in
    stayed-row others name t u n (sym at) (columns-same t u parts.1) (stays u (sym at) (not-true (t.version == 0) old.0) (not-true (u.version == 0) old.1) n out)

-- THE LINKS of a table that others lack, by the numbers of its rows

pub rows-first : (others : List LinkRow) (columns : List Column) (r : ℕ × Row) (rs : List (ℕ × Row)) → lacking (of-rows columns (r ∷ rs)) others ≡ lacking (row_links columns r.1.values) others ++ lacking (of-rows columns rs) others
rows-first others columns r rs = filter-append (λ x. not (list_any (λ y. same_number x.link y.link) others)) (row_links columns r.1.values) (of-rows columns rs)

rows-lacking : (others : List LinkRow) (columns : List Column) (rows : List (ℕ × Row)) → lacking (of-rows columns rows) others ≡ flat_map (λ r. row_lacking others columns (Some r.1)) rows
rows-lacking others columns [] = refl
rows-lacking others columns (r ∷ rs) = rows-first others columns r rs ∙ ap (λ l. lacking (row_links columns r.1.values) others ++ l) (rows-lacking others columns rs)

rises : (first below : ℕ) (rows : List (ℕ × Row)) → Rise first below rows → Rising first (map (λ r. r.0) rows)
rises first below [] rise = tt
rises first below (r ∷ rs) rise = (rise.0, rises (r.0 + 1) below rs rise.2)

module _ {A : Type 0} (g : Option Row → List A) where
  past-first : (r : ℕ × Row) (rs : List (ℕ × Row)) (first : ℕ) (ns : List ℕ) → r.0 < first → Rising first ns → flat_map (λ n. g (row_of (r ∷ rs) n)) ns ≡ flat_map (λ n. g (row_of rs n)) ns
  past-first r rs first [] less rise = refl
  past-first r rs first (n ∷ ns) less rise = rw (ne_eqb n r.0 (λ e. omega (arith, rise.0, less))) (ap (λ l. g (row_of rs n) ++ l) (past-first r rs (n + 1) ns (omega (arith, rise.0, less)) rise.1))

  by-number : (first below : ℕ) (rows : List (ℕ × Row)) → Rise first below rows → flat_map (λ n. g (row_of rows n)) (map (λ r. r.0) rows) ≡ flat_map (λ r. g (Some r.1)) rows
  by-number first below [] rise = refl
  by-number first below (r ∷ rs) rise =
      ap (λ b. g (cond b (Some r.1) (row_of rs r.0)) ++ flat_map (λ n. g (row_of (r ∷ rs) n)) (map (λ r. r.0) rs)) (eq-eqb r.0 r.0 refl)
      ∙ ap (λ l. g (Some r.1) ++ l) (past-first r rs (r.0 + 1) (map (λ r. r.0) rs) (omega arith) (rises (r.0 + 1) below rs rise.2) ∙ by-number (r.0 + 1) below rs rise.2)

outside : (rows : List (ℕ × Row)) (n : ℕ) → has nat_cmp (map (λ r. r.0) rows) n ≡ false → row_of rows n ≡ None
outside [] n out = refl
outside (r ∷ rs) n out = let parts = or-false (is_eq (nat_cmp n r.0)) _ out in rw (ne_eqb n r.0 (differs n r.0 parts.0)) (outside rs n parts.1)
  where
    or-false : (a b : Bool) → (a || b) ≡ false → (a ≡ false) × (b ≡ false)
    or-false true b e = cc e
    or-false false b e = (refl, e)

-- numbers make all, where others lack nothing of the row of another
by-touched : (others : List LinkRow) (t : Rows) (numbers : List ℕ) → Rise 0 t.next t.rows → IsStrictlySortedBy nat_cmp numbers → ((n : ℕ) → among numbers n ≡ false → lacking_at others t n ≡ []) → flat_map (lacking_at others t) numbers ≡ lacking (table_links t) others
by-touched others t numbers rise sorted stays =
    same_made (lacking_at others t) numbers (map (λ r. r.0) t.rows) (sorted_rises numbers sorted) (rises 0 t.next t.rows rise) (λ n past out. stays n (sym (has-among numbers n) ∙ out)) (λ n past out. ap (row_lacking others t.columns) (outside t.rows n out))
    ∙ by-number (row_lacking others t.columns) 0 t.next t.rows rise
    ∙ sym (rows-lacking others t.columns t.rows)

abbrev Stays : List LinkRow → Rows → List ℕ → Type 0
Stays others t numbers = (n : ℕ) → among numbers n ≡ false → lacking_at others t n ≡ []

pub touched-some : (others : List LinkRow) (t : Rows) (touched : Touched) (name numbers : List ℕ) → Rise 0 t.next t.rows → Some numbers ≡ lookup (pointwise ◌==◌ name) touched → IsStrictlySortedBy nat_cmp (numbers_of touched name) → Stays others t (numbers_of touched name)
    → flat_map (lacking_at others t) numbers ≡ lacking (table_links t) others
touched-some others t touched name numbers rise found sorted stays =
    let is = listed-some touched name numbers found in
    ap (λ (ns : List ℕ). flat_map (lacking_at others t) ns) (sym is) ∙ by-touched others t (numbers_of touched name) rise sorted stays

pub touched-none : (made others : List LinkRow) (t : Rows) (touched : Touched) (name : List ℕ) → Rise 0 t.next t.rows → None ≡ lookup (pointwise ◌==◌ name) touched → IsStrictlySortedBy nat_cmp (numbers_of touched name) → Stays others t (numbers_of touched name)
    → made ≡ made ++ lacking (table_links t) others
touched-none made others t touched name rise found sorted stays =
    let is = listed-none touched name found in
    sym (append-nil made)
    ∙ ap (λ (xs : List LinkRow). made ++ xs) (ap (λ (ns : List ℕ). flat_map (lacking_at others t) ns) (sym is) ∙ by-touched others t (numbers_of touched name) rise sorted stays)

-- NO LINKS where no column is under link control

no-cell : (kind : Kind) (v : Value) → is_linked kind ≡ false → cell_links kind v ≡ []
no-cell (kinds.Linked options) v e = absurd cc
no-cell kinds.Int v e = refl
no-cell (kinds.Text length) v e = refl
no-cell kinds.Free v e = refl

neither : (a b : Bool) → (a || b) ≡ false → (a ≡ false) × (b ≡ false)
neither true b e = absurd cc
neither false b e = (refl, e)

no-row : (columns : List Column) (vs : List Value) → list_any (λ c. is_linked c.kind) columns ≡ false → row_links columns vs ≡ []
no-row [] vs e = refl
no-row (c ∷ cs) [] e = refl
no-row (c ∷ cs) (v ∷ vs) e =
    let two = neither (is_linked c.kind) (list_any (λ d. is_linked d.kind) cs) e in
    ap (λ (xs : List LinkRow). xs ++ row_links cs vs) (no-cell c.kind v two.0) ∙ no-row cs vs two.1

no-rows : (columns : List Column) (rows : List (ℕ × Row)) → list_any (λ c. is_linked c.kind) columns ≡ false → of-rows columns rows ≡ []
no-rows columns [] e = refl
no-rows columns (r ∷ rs) e = ap (λ (xs : List LinkRow). xs ++ of-rows columns rs) (no-row columns r.1.values e) ∙ no-rows columns rs e

pub none-linked : (made others : List LinkRow) (t : Rows) (cs : List Column) (b : Bool) → cs ≡ t.columns → b ≡ list_any (λ c. is_linked c.kind) cs → b ≡ false → made ≡ made ++ lacking (table_links t) others
none-linked made others t cs b same is lacks =
    sym (append-nil made)
    ∙ ap (λ (xs : List LinkRow). made ++ lacking xs others) (sym (no-rows t.columns t.rows (ap (λ (ds : List Column). list_any (λ c. is_linked c.kind) ds) (sym same) ∙ sym is ∙ lacks)))
