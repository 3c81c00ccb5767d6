-- Which links agree with what is known: all of a table without links, and all beside touched rows where those before it are known.
use Rattle.std.proofs.Common.{◌≡◌, ⊎_elim, ℕ, ◌+◌, ◌<◌, ◌==◌, ◌&&◌, ◌||◌, true, false, cond, Bool, List, [], ◌∷◌, ◌++◌, drop, bytes_eq, Option, Some, None, refl, sym, ap, subst, ◌∙◌, arith}
use Rattle.std.proofs.lemmas.Bool.{and_from, and_parts, eq-eqb, ne_eqb}
use Rattle.std.proofs.lemmas.Bool.Decides.{eqb_tells}
use Rattle.std.proofs.lemmas.List.Folds.{list_all-append}
use Rattle.std.specs.Cmp.Lexicographic.{pointwise}
use Rattle.std.specs.List.{flat_map, list_all}
use Rattle.std.specs.Map.{lookup}
use Rattle.db_changes.proofs.Numbers.{listed-none, listed-some}
use Rattle.db_changes.specs.Touched.{Covers, Touched, among, numbers_of}
use Rattle.dl_base.specs.declared.column.Column.{Column}
use Rattle.dl_base.specs.declared.column.Kind.{Kind}
use Rattle.dl_base.specs.declared.column.Kind.TheVariants as kinds
use Rattle.dl_base.specs.declared.value.LinkRow.{LinkRow}
use Rattle.dl_base.specs.declared.value.Row.{Row}
use Rattle.dl_base.specs.declared.value.Value.{Value}
use Rattle.meaning_areas.proofs.Equal.{row-link-decides}
use Rattle.meaning_merge.proofs.Numbers.{in-left, in-right}
use Rattle.meaning_merge.specs.Touching.{In}
use Rattle.meaning_tables.specs.Links.{cell_links, links, row_links, table_links}
use Rattle.meaning_tables.specs.Tables.{Rise, Rows, Tables, row_of, table_of}
use Rattle.compare_every.proofs.Deciding.{false_true, some_same}
use Rattle.compare_every.proofs.Lists.{none_some}
use Rattle.compare_every.proofs.Rows.{Found}
use Rattle.compare_every.specs.Every.{agrees}
use Rattle.compare_links.proofs.Moved.{in-each, same-tests}
use Rattle.compare_links.specs.Moving.{AgreesBeside, AreKnown, StaysKnown, agrees_at, agrees_in, all_agree, are_unlinked, is_unlinked, row_agrees}

-- columns without links

plain-cell : (kind : Kind) (value : Value) → is_unlinked kind ≡ true → cell_links kind value ≡ []
plain-cell kinds.Int value e = refl
plain-cell (kinds.Text most) value e = refl
plain-cell kinds.Free value e = refl
plain-cell (kinds.Linked options) value e = absurd (false_true e)

plain-row : (cs : List Column) (vs : List Value) → are_unlinked cs ≡ true → row_links cs vs ≡ []
plain-row [] vs e = refl
plain-row (c ∷ cs) [] e = refl
plain-row (c ∷ cs) (v ∷ vs) e =
    let two = and_parts (is_unlinked c.kind) (are_unlinked cs) e in
    (λ j. plain-cell c.kind v two.0 j ++ plain-row cs vs two.1 j)

plain-rows : (cs : List Column) (rows : List (ℕ × Row)) → are_unlinked cs ≡ true → flat_map (λ r. row_links cs r.1.values) rows ≡ []
plain-rows cs [] e = refl
plain-rows cs (r ∷ rs) e = (λ j. plain-row cs r.1.values e j ++ plain-rows cs rs e j)

pub plain-agrees : (known : Found) (t : Rows) → are_unlinked t.columns ≡ true → all_agree known (table_links t) ≡ true
plain-agrees known t e = ap (λ (ls : List LinkRow). all_agree known ls) (plain-rows t.columns t.rows e)

-- NUMBERS OF A LIST

each-number : (p : ℕ → Bool) (ns : List ℕ) (n : ℕ) → list_all p ns ≡ true → among ns n ≡ true → p n ≡ true
each-number p [] n all is = absurd (false_true is)
each-number p (m ∷ ms) n all is =
    let two = and_parts (p m) (list_all p ms) all in
    ⊎_elim
    (λ here. ap p (sym here.1) ∙ two.0)
    (λ there. each-number p ms n two.1 (sym (ap (λ b. b || among ms n) there.0) ∙ is))
    (eqb_tells m n)

all-numbers : (p : ℕ → Bool) (ns : List ℕ) → ((n : ℕ) → p n ≡ true) → list_all p ns ≡ true
all-numbers p [] each = refl
all-numbers p (n ∷ ns) each = and_from (p n) (list_all p ns) (each n) (all-numbers p ns each)

-- one number more
module _ (p : ℕ → Bool) (ns : List ℕ) (i n : ℕ) (b : Bool) (left : drop i ns ≡ n ∷ drop (i + 1) ns) (is : b ≡ p n) (so_far : list_all p (drop i ns) ≡ list_all p ns) where
  parts : (c : Bool) → b ≡ c → (c && list_all p (drop (i + 1) ns)) ≡ list_all p ns
  parts c at = sym (ap (λ d. d && list_all p (drop (i + 1) ns)) (sym is ∙ at)) ∙ sym (ap (λ (ms : List ℕ). list_all p ms) left) ∙ so_far

  pub number-on : b ≡ true → list_all p (drop (i + 1) ns) ≡ list_all p ns
  number-on on = parts true on

  pub number-off : b ≡ false → false ≡ list_all p ns
  number-off off = parts false off

-- ROWS BY NUMBER

none-below : (first below n : ℕ) (rows : List (ℕ × Row)) → Rise first below rows → n < first → row_of rows n ≡ None
none-below first below n [] rise lt = refl
none-below first below n (r ∷ rs) rise lt = rw (ne_eqb n r.0 (λ e. omega (arith, rise.0, lt, e))) (none-below (r.0 + 1) below n rs rise.2 (omega (arith, rise.0, lt)))

module _ (known : Found) (columns : List Column) where
  abbrev of-rows : List (ℕ × Row) → List LinkRow
  of-rows rows = flat_map (λ r. row_links columns r.1.values) rows

  first-row : (r : ℕ × Row) (rs : List (ℕ × Row)) → all_agree known (of-rows (r ∷ rs)) ≡ (row_agrees known columns (Some r.1) && all_agree known (of-rows rs))
  first-row r rs = list_all-append (agrees_in known) (row_links columns r.1.values) (of-rows rs)

  each-row : (first below : ℕ) (rows : List (ℕ × Row)) → Rise first below rows → ((n : ℕ) → row_agrees known columns (row_of rows n) ≡ true) → all_agree known (of-rows rows) ≡ true
  each-row first below [] rise each = refl
  each-row first below (r ∷ rs) rise each =
      first-row r rs
      ∙ and_from (row_agrees known columns (Some r.1)) (all_agree known (of-rows rs))
      (sym (ap (λ b. row_agrees known columns (cond b (Some r.1) (row_of rs r.0))) (eq-eqb r.0 r.0 refl)) ∙ each r.0)
      (each-row (r.0 + 1) below rs rise.2 later)
    where
      later : (n : ℕ) → row_agrees known columns (row_of rs n) ≡ true
      later n = ⊎_elim
          (λ here. ap (λ (o : Option Row). row_agrees known columns o) (none-below (r.0 + 1) below n rs rise.2 (omega (arith, here.1))))
          (λ there. sym (ap (λ b. row_agrees known columns (cond b (Some r.1) (row_of rs n))) there.0) ∙ each n)
          (eqb_tells n r.0)

  row-each : (rows : List (ℕ × Row)) (n : ℕ) → all_agree known (of-rows rows) ≡ true → row_agrees known columns (row_of rows n) ≡ true
  row-each [] n all = refl
  row-each (r ∷ rs) n all =
      let two = and_parts (row_agrees known columns (Some r.1)) (all_agree known (of-rows rs)) (sym (first-row r rs) ∙ all) in
      by (n == r.0) two.0 (row-each rs n two.1)
    where
      by : (b : Bool) → row_agrees known columns (Some r.1) ≡ true → row_agrees known columns (row_of rs n) ≡ true → row_agrees known columns (cond b (Some r.1) (row_of rs n)) ≡ true
      by true here later = here
      by false here later = later

-- where each row beside some agrees, all agree if those do
module _ (known : Found) (t : Rows) (rise : Rise 0 t.next t.rows) where
  beside : (numbers : List ℕ) → AgreesBeside known numbers t → list_all (agrees_at known t) numbers ≡ all_agree known (table_links t)
  beside numbers others = same-tests (list_all (agrees_at known t) numbers) (all_agree known (table_links t))
      (λ all. each-row known t.columns 0 t.next t.rows rise (λ n. by n all (among numbers n) refl))
      (λ all. all-numbers (agrees_at known t) numbers (λ n. row-each known t.columns t.rows n all))
    where
      by : (n : ℕ) → list_all (agrees_at known t) numbers ≡ true → (b : Bool) → among numbers n ≡ b → agrees_at known t n ≡ true
      by n all true is = each-number (agrees_at known t) numbers n all is
      by n all false out = others n out

  module _ (touched : Touched) (name : List ℕ) (others : AgreesBeside known (numbers_of touched name) t) where
    pub touched-some : (numbers : List ℕ) (b : Bool) → Some numbers ≡ lookup (pointwise ◌==◌ name) touched → b ≡ list_all (agrees_at known t) numbers → b ≡ all_agree known (table_links t)
    touched-some numbers b found is =
        is ∙ ap (λ (ns : List ℕ). list_all (agrees_at known t) ns) (sym (listed-some touched name numbers found)) ∙ beside (numbers_of touched name) others

    pub touched-none : None ≡ lookup (pointwise ◌==◌ name) touched → true ≡ all_agree known (table_links t)
    touched-none found = ap (λ (ns : List ℕ). list_all (agrees_at known t) ns) (sym (listed-none touched name found)) ∙ beside (numbers_of touched name) others

-- A ROW THAT STOOD BEFORE has links that are known

in-row : (columns : List Column) (rows : List (ℕ × Row)) (n : ℕ) (row : Row) (l : LinkRow) → row_of rows n ≡ Some row → In l (row_links columns row.values) → In l (flat_map (λ r. row_links columns r.1.values) rows)
in-row columns [] n row l at is = absurd (none_some row at)
in-row columns (r ∷ rs) n row l at is = by (n == r.0) at (λ e. in-row columns rs n row l e is)
  where
    rest : List LinkRow
    rest = flat_map (λ r. row_links columns r.1.values) rs

    by : (b : Bool) → cond b (Some r.1) (row_of rs n) ≡ Some row → (row_of rs n ≡ Some row → In l rest) → In l (row_links columns r.1.values ++ rest)
    by true e go = in-left (row_links columns r.1.values) rest l (subst (λ (x : Row). In l (row_links columns x.values)) (sym (some_same r.1 row e)) is)
    by false e go = in-right (row_links columns r.1.values) rest l (go e)

in-table : (ts : Tables) (name : List ℕ) (t : Rows) (l : LinkRow) → table_of ts name ≡ Some t → In l (table_links t) → In l (links ts)
in-table [] name t l at is = absurd (none_some t at)
in-table (u ∷ us) name t l at is = by (bytes_eq name u.0) at (λ e. in-table us name t l e is)
  where
    by : (b : Bool) → cond b (Some u.1) (table_of us name) ≡ Some t → (table_of us name ≡ Some t → In l (links us)) → In l (table_links u.1 ++ links us)
    by true e go = in-left (table_links u.1) (links us) l (subst (λ (x : Rows). In l (table_links x)) (sym (some_same u.1 t e)) is)
    by false e go = in-right (table_links u.1) (links us) l (go e)

pub stays-known : (known : Found) (touched : Touched) (before after : Tables) (name : List ℕ) (t : Rows) → AreKnown known before → Covers touched before after → table_of after name ≡ Some t → (t.version == 0) ≡ false → StaysKnown known touched before name t
stays-known known touched before after name t has covers here old was at columns n out = by (row_of was.rows n) refl (covers.rows name was t at here old n out)
  where
    by : (o : Option Row) → row_of was.rows n ≡ o → row_of t.rows n ≡ row_of was.rows n → row_agrees known t.columns (row_of t.rows n) ≡ true
    by None e same = ap (λ (o : Option Row). row_agrees known t.columns o) (same ∙ e)
    by (Some row) e same = ap (λ (o : Option Row). row_agrees known t.columns o) (same ∙ e) ∙ in-each (agrees_in known) (row_links t.columns row.values) each
      where
        each : (l : LinkRow) → In l (row_links t.columns row.values) → agrees_in known l ≡ true
        each l is =
            let old_row : In l (row_links was.columns row.values) = subst (λ (cs : List Column). In l (row_links cs row.values)) (sym columns) is in
            ap (λ (o : Option LinkRow). agrees o l) (has l (in-table before name was l at (in-row was.columns was.rows n row l e old_row))) ∙ (row-link-decides l l).1 refl
