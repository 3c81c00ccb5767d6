-- The links of a table that others lack, by the numbers of their rows.
use Rattle.std.proofs.Common.{◌≡◌, ℕ, ◌+◌, ◌<◌, ◌==◌, ◌&&◌, ◌||◌, Bool, true, false, not, cond, is_some, Option, Some, None, List, [], ◌∷◌, ◌++◌, map, take, refl, sym, ap, ◌∙◌, arith, add-one}
use Rattle.std.specs.List.{list_any, flat_map, slice_get}
use Rattle.std.specs.List.Sorted.{IsStrictlySortedBy}
use Rattle.std.specs.Ordering.{is_eq, nat_cmp}
use Rattle.std.proofs.lemmas.Bool.{eq-eqb, ne_eqb}
use Rattle.std.proofs.lemmas.Bool.Decides.{nat_tests}
use Rattle.std.proofs.lemmas.List.Elements.{filter-append}
use Rattle.std.proofs.lemmas.List.Folds.{list_any-append}
use Rattle.dl_base.specs.declared.column.Column.{Column}
use Rattle.dl_base.specs.declared.value.LinkNo.{LinkNo}
use Rattle.dl_base.specs.declared.value.LinkRow.{LinkRow}
use Rattle.dl_base.specs.declared.value.Row.{Row}
use Rattle.dl_pages.specs.Entries.{entry_order}
use Rattle.dl_pages.specs.Orders.{link_order}
use Rattle.dl_pages.specs.Sets.{has, WithMember}
use Rattle.meaning_tables.specs.First.{first_number, has_link}
use Rattle.meaning_tables.specs.Links.{lacking, links, row_links, same_number, table_links}
use Rattle.meaning_tables.specs.Tables.{Rise, Rows, Tables, row_of}
use Rattle.sql_table.specs.Lacking.{CoversLacking, lacking_at, row_lacking}
use Rattle.sql_table.specs.Marks.{IsIndex, link_marks, marked}
use Rattle.sql_table.proofs.First.{row-same, same-equal, take-next}
use Rattle.sql_table.proofs.Marking.{entry-eq, eq-cmp}
use Rattle.sql_table.proofs.Rising.{Rising, differs, same_made, sorted_rises}
use Rattle.sql_table.proofs.RowLinks.{held}

abbrev had : List LinkRow → LinkNo → Bool
had others q = list_any (λ y. same_number q y.link) others

or-true : (a b : Bool) → b ≡ true → (a || b) ≡ true
or-true true b e = refl
or-true false b e = e

clash : {A : Type 0} (b : Bool) → b ≡ true → b ≡ false → A
clash b e f = cc (sym e ∙ f)

both-true : (a b : Bool) → (a && b) ≡ true → (a ≡ true) × (b ≡ true)
both-true true b e = (refl, e)
both-true false b e = cc e

-- a look for a link number in each table
found-in : (columns : List Column) (q : LinkNo) (rows : List (ℕ × Row)) → is_some (first_number (has_link columns q) rows) ≡ had (flat_map (λ r. row_links columns r.1.values) rows) q
found-in columns q [] = refl
found-in columns q (r ∷ rs) = by (has_link columns q r.1) (found-in columns q rs) ∙ sym (list_any-append (λ y. same_number q y.link) (row_links columns r.1.values) (flat_map (λ r. row_links columns r.1.values) rs))
  where
    by : (b : Bool) → is_some (first_number (has_link columns q) rs) ≡ had (flat_map (λ r. row_links columns r.1.values) rs) q → is_some (cond b (Some r.0) (first_number (has_link columns q) rs)) ≡ (b || had (flat_map (λ r. row_links columns r.1.values) rs) q)
    by true e = refl
    by false e = e

pub found_first : (q : LinkNo) (t : List ℕ × Rows) (ts : Tables) → had (links (t ∷ ts)) q ≡ (is_some (first_number (has_link t.1.columns q) t.1.rows) || had (links ts) q)
found_first q t ts = list_any-append (λ y. same_number q y.link) (table_links t.1) (links ts) ∙ ap (λ b. b || had (links ts) q) (sym (found-in t.1.columns q t.1.rows))

-- what others lack of each table
pub lacking_first : (others : List LinkRow) (t : List ℕ × Rows) (ts : Tables) → lacking (links (t ∷ ts)) others ≡ lacking (table_links t.1) others ++ lacking (links ts) others
lacking_first others t ts = filter-append (λ x. not (list_any (λ y. same_number x.link y.link) others)) (table_links t.1) (links ts)

-- what others lack of each row
rows-lacking : (others : List LinkRow) (columns : List Column) (rows : List (ℕ × Row)) → lacking (flat_map (λ r. row_links columns r.1.values) rows) others ≡ flat_map (λ r. row_lacking others columns (Some r.1)) rows
rows-lacking others columns [] = refl
rows-lacking others columns (r ∷ rs) =
    filter-append (λ x. not (list_any (λ y. same_number x.link y.link) others)) (row_links columns r.1.values) (flat_map (λ r. row_links columns r.1.values) rs)
    ∙ ap (λ l. lacking (row_links columns r.1.values) others ++ l) (rows-lacking others columns rs)

rises : (first below : ℕ) (rows : List (ℕ × Row)) → Rise first below rows → Rising first (map (λ r. r.0) rows)
rises first below [] rise = tt
rises first below (r ∷ rs) rise = (rise.0, rises (r.0 + 1) below rs rise.2)

module _ {A : Type 0} (g : Option Row → List A) where
  past-first : (r : ℕ × Row) (rs : List (ℕ × Row)) (first : ℕ) (ns : List ℕ) → r.0 < first → Rising first ns → flat_map (λ n. g (row_of (r ∷ rs) n)) ns ≡ flat_map (λ n. g (row_of rs n)) ns
  past-first r rs first [] less rise = refl
  past-first r rs first (n ∷ ns) less rise = rw (ne_eqb n r.0 (λ e. omega (arith, rise.0, less))) (ap (λ l. g (row_of rs n) ++ l) (past-first r rs (n + 1) ns (omega (arith, rise.0, less)) rise.1))

  by-number : (first below : ℕ) (rows : List (ℕ × Row)) → Rise first below rows → flat_map (λ n. g (row_of rows n)) (map (λ r. r.0) rows) ≡ flat_map (λ r. g (Some r.1)) rows
  by-number first below [] rise = refl
  by-number first below (r ∷ rs) rise =
      ap (λ b. g (cond b (Some r.1) (row_of rs r.0)) ++ flat_map (λ n. g (row_of (r ∷ rs) n)) (map (λ r. r.0) rs)) (eq-eqb r.0 r.0 refl)
      ∙ ap (λ l. g (Some r.1) ++ l) (past-first r rs (r.0 + 1) (map (λ r. r.0) rs) (omega arith) (rises (r.0 + 1) below rs rise.2) ∙ by-number (r.0 + 1) below rs rise.2)

outside : (rows : List (ℕ × Row)) (n : ℕ) → has nat_cmp (map (λ r. r.0) rows) n ≡ false → row_of rows n ≡ None
outside [] n out = refl
outside (r ∷ rs) n out = let parts = or-false (is_eq (nat_cmp n r.0)) _ out in rw (ne_eqb n r.0 (differs n r.0 parts.0)) (outside rs n parts.1)
  where
    or-false : (a b : Bool) → (a || b) ≡ false → (a ≡ false) × (b ≡ false)
    or-false true b e = cc e
    or-false false b e = (refl, e)

itself : (q : LinkNo) → same_number q q ≡ true
itself q = rw (eq-eqb q.tx q.tx refl, eq-eqb q.k q.k refl) refl

none-lacking : (xs others : List LinkRow) → ((q : LinkNo) → had xs q ≡ true → had others q ≡ true) → lacking xs others ≡ []
none-lacking [] others all = refl
none-lacking (x ∷ xs) others all =
    held x xs others (all x.link (ap (λ b. b || had xs x.link) (itself x.link)))
    ∙ none-lacking xs others (λ q there. all q (or-true (same_number q x.link) (had xs q) there))

module _ (others : List LinkRow) (columns : List Column) (rows : List (ℕ × Row)) (index : List (LinkNo × ℕ)) (made : List ℕ) where
  covered : IsIndex link_order (link_marks columns) rows index → CoversLacking others index made → (n : ℕ) → has nat_cmp made n ≡ false → row_lacking others columns (row_of rows n) ≡ []
  covered is cover n out = by (row_of rows n) refl
    where
      by : (o : Option Row) → row_of rows n ≡ o → row_lacking others columns o ≡ []
      by None at = refl
      by (Some row) at = none-lacking (row_links columns row.values) others (λ q there. decide q there (had others q) refl)
        where
          decide : (q : LinkNo) → had (row_links columns row.values) q ≡ true → (b : Bool) → had others q ≡ b → had others q ≡ true
          decide q there true e = e
          decide q there false e =
              let entry : has (entry_order link_order) index (q, n) ≡ true = is.each q n ∙ ap (marked link_order q (link_marks columns)) at ∙ sym (row-same q columns row.values) ∙ there in
              clash (has nat_cmp made n) (cover.each q n entry e) out

-- the rows that are covered make all
pub all_lacking : (others : List LinkRow) (t : Rows) (index : List (LinkNo × ℕ)) (made : List ℕ) → Rise 0 t.next t.rows → IsIndex link_order (link_marks t.columns) t.rows index → CoversLacking others index made → flat_map (lacking_at others t) made ≡ lacking (table_links t) others
all_lacking others t index made rise is cover =
    same_made (lacking_at others t) made (map (λ r. r.0) t.rows) (sorted_rises made cover.sorted) (rises 0 t.next t.rows rise) (λ n past out. covered others t.columns t.rows index made is cover n out) (λ n past out. ap (row_lacking others t.columns) (outside t.rows n out))
    ∙ by-number (row_lacking others t.columns) 0 t.next t.rows rise
    ∙ sym (rows-lacking others t.columns t.rows)

-- as an index is walked
same-had : (a b : LinkNo) (others : List LinkRow) → same_number a b ≡ true → had others a ≡ had others b
same-had a b others e =
    let parts = both-true (a.tx == b.tx) (a.k == b.k) e in
    ap (λ t. list_any (λ y. (t == y.link.tx) && (a.k == y.link.k)) others) (from a.tx b.tx parts.0) ∙ ap (λ k. list_any (λ y. (b.tx == y.link.tx) && (k == y.link.k)) others) (from a.k b.k parts.1)
  where
    from : (m n : ℕ) → (m == n) ≡ true → m ≡ n
    from m n e = grind (arith, nat_tests)

pub covers_none : (others : List LinkRow) (made : List ℕ) → made ≡ [] → CoversLacking others [] made
unfolding IsStrictlySortedBy
covers_none others [] is = record { sorted = tt; each = λ k n there lack. cc there }
covers_none others (n ∷ ns) is = cc is

module _ (others : List LinkRow) (index : List (LinkNo × ℕ)) (i : ℕ) (e : LinkNo × ℕ) (at : slice_get index i ≡ Some e) where
  one-more : (k : LinkNo) (n : ℕ) → has (entry_order link_order) (take (i + 1) index) (k, n) ≡ (has (entry_order link_order) (take i index) (k, n) || is_eq (entry_order link_order (k, n) e))
  one-more k n =
      ap (λ m. has (entry_order link_order) (take m index) (k, n)) (add-one i) ∙ ap (λ l. has (entry_order link_order) l (k, n)) (take-next index i e at)
      ∙ list_any-append (λ x. is_eq (entry_order link_order (k, n) x)) (take i index) (e ∷ []) ∙ ap (λ b. has (entry_order link_order) (take i index) (k, n) || b) (alone (is_eq (entry_order link_order (k, n) e)))
    where
      alone : (b : Bool) → (b || false) ≡ b
      alone true = refl
      alone false = refl

  entry-parts : (k : LinkNo) (n : ℕ) → is_eq (entry_order link_order (k, n) e) ≡ true → ((e.1 == n) ≡ true) × (is_eq (link_order k e.0) ≡ true)
  entry-parts k n is = both-true (e.1 == n) (is_eq (link_order k e.0)) (sym (entry-eq link_order k e.0 n e.1) ∙ is)

  pub covers_more : (made new : List ℕ) → CoversLacking others (take i index) made → WithMember nat_cmp made new e.1 → CoversLacking others (take (i + 1) index) new
  covers_more made new cover more = record { sorted = more.sorted; each = λ k n there lack. by k n lack (has (entry_order link_order) (take i index) (k, n)) refl (sym (one-more k n) ∙ there) }
    where
      by : (k : LinkNo) (n : ℕ) → had others k ≡ false → (b : Bool) → has (entry_order link_order) (take i index) (k, n) ≡ b → (b || is_eq (entry_order link_order (k, n) e)) ≡ true → has nat_cmp new n ≡ true
      by k n lack true h there = more.each n ∙ or-true (is_eq (nat_cmp n e.1)) (has nat_cmp made n) (cover.each k n h lack)
      by k n lack false h there = more.each n ∙ ap (λ b. b || has nat_cmp made n) (eq-cmp n e.1 ∙ (entry-parts k n there).0)

  pub covers_same : (made : List ℕ) → CoversLacking others (take i index) made → had others e.0 ≡ true → CoversLacking others (take (i + 1) index) made
  covers_same made cover there = record { sorted = cover.sorted; each = λ k n is lack. by k n lack (has (entry_order link_order) (take i index) (k, n)) refl (sym (one-more k n) ∙ is) }
    where
      by : (k : LinkNo) (n : ℕ) → had others k ≡ false → (b : Bool) → has (entry_order link_order) (take i index) (k, n) ≡ b → (b || is_eq (entry_order link_order (k, n) e)) ≡ true → has nat_cmp made n ≡ true
      by k n lack true h is = cover.each k n h lack
      by k n lack false h is = clash (had others k) (same-had k e.0 others (same-equal k e.0 ∙ (entry-parts k n is).1) ∙ there) lack
