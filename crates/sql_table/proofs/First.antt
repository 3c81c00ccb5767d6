-- The first row that passes a test, and the marks of rows.
use Rattle.std.proofs.Common.{◌≡◌, ℕ, zero, suc, ◌+◌, ◌<◌, ◌≤◌, ◌==◌, ◌&&◌, ◌||◌, Bool, true, false, cond, Option, Some, None, List, [], ◌∷◌, ◌++◌, take, refl, sym, ap, ◌∙◌, arith, add-one, subst}
use Rattle.std.specs.List.{list_any, slice_get}
use Rattle.std.specs.Option.{option_to_list}
use Rattle.std.specs.Ordering.{is_eq, nat_cmp}
use Rattle.std.specs.declared.cmp.Ordering.{Ordering}
use Rattle.std.proofs.lemmas.Bool.{eq-eqb}
use Rattle.std.proofs.lemmas.Bool.Decides.{nat_tests}
use Rattle.std.proofs.lemmas.List.Folds.{list_any-append}
use Rattle.dl_base.specs.declared.column.Column.{Column}
use Rattle.dl_base.specs.declared.column.Kind.{Kind}
use Rattle.dl_base.specs.declared.column.Kind.TheVariants as kinds
use Rattle.dl_base.specs.declared.value.LinkNo.{LinkNo}
use Rattle.dl_base.specs.declared.value.Row.{Row}
use Rattle.dl_base.specs.declared.value.Value.{Value}
use Rattle.dl_base.specs.declared.value.Value.TheVariants as values
use Rattle.dl_pages.specs.Entries.{IsLeast}
use Rattle.dl_pages.specs.Orders.{link_order}
use Rattle.dl_pages.proofs.Orders.{link_eq}
use Rattle.meaning_tables.specs.First.{first_number, has_link}
use Rattle.meaning_tables.specs.Links.{row_links, cell_links, link_row, same_number}
use Rattle.meaning_tables.specs.Tables.{Rise, row_of}
use Rattle.sql_table.specs.Marks.{among, marked, IsIndex, WithMarks, cell_marks, row_marks, link_marks}
use Rattle.sql_table.proofs.Marking.{and-then, eq-cmp, before-first, index_inserted}

pub no_marks_past_the_end : (cs : List Column) → row_marks cs [] ≡ []
no_marks_past_the_end [] = refl
no_marks_past_the_end (c ∷ cs) = refl

-- the same number is an equal one
pub same-equal : (a b : LinkNo) → same_number a b ≡ is_eq (link_order a b)
same-equal a b = swap (a.tx == b.tx) (a.k == b.k) (is_eq (nat_cmp a.tx b.tx)) (is_eq (nat_cmp a.k b.k)) (flip a.tx b.tx ∙ sym (eq-cmp a.tx b.tx)) (flip a.k b.k ∙ sym (eq-cmp a.k b.k)) ∙ sym (and-then (nat_cmp a.tx b.tx) (nat_cmp a.k b.k)) ∙ sym (link_eq a b)
  where
    flip : (m n : ℕ) → (m == n) ≡ (n == m)
    flip m n = grind (arith, nat_tests)

    swap : (x y r s : Bool) → x ≡ r → y ≡ s → (x && y) ≡ (s && r)
    swap true true r s e f = rw (sym e, sym f) refl
    swap true false r s e f = rw (sym e, sym f) refl
    swap false true r s e f = rw (sym e, sym f) refl
    swap false false r s e f = rw (sym e, sym f) refl

cell-same : (q : LinkNo) (kind : Kind) (value : Value) → list_any (λ l. same_number q l.link) (cell_links kind value) ≡ among link_order q (cell_marks kind value)
cell-same q kinds.Int value = refl
cell-same q (kinds.Text most) value = refl
cell-same q kinds.Free value = refl
cell-same q (kinds.Linked options) values.Null = refl
cell-same q (kinds.Linked options) (values.Int z) = refl
cell-same q (kinds.Linked options) (values.Text t) = refl
cell-same q (kinds.Linked options) (values.Link d) = by d.link
  where
    by : (o : Option LinkNo) → list_any (λ l. same_number q l.link) (link_row options d.path o) ≡ among link_order q (option_to_list o)
    by None = refl
    by (Some link) = ap (λ b. b || false) (same-equal q link)

pub row-same : (q : LinkNo) (cs : List Column) (vs : List Value) → list_any (λ l. same_number q l.link) (row_links cs vs) ≡ among link_order q (row_marks cs vs)
row-same q [] vs = refl
row-same q (c ∷ cs) [] = refl
row-same q (c ∷ cs) (v ∷ vs) =
    list_any-append (λ l. same_number q l.link) (cell_links c.kind v) (row_links cs vs)
    ∙ ap (λ b. b || list_any (λ l. same_number q l.link) (row_links cs vs)) (cell-same q c.kind v)
    ∙ ap (λ b. among link_order q (cell_marks c.kind v) || b) (row-same q cs vs)
    ∙ sym (list_any-append (λ m. is_eq (link_order q m)) (cell_marks c.kind v) (row_marks cs vs))

pub same-first : (t u : Row → Bool) → ((row : Row) → t row ≡ u row) → (rows : List (ℕ × Row)) → first_number t rows ≡ first_number u rows
same-first t u same [] = refl
same-first t u same (r ∷ rs) = rw (same r.1, same-first t u same rs) refl

abbrev tested : (Row → Bool) → Option Row → Bool
tested test None = false
tested test (Some row) = test row

clash : {A : Type 0} (b : Bool) → b ≡ true → b ≡ false → A
clash b e f = cc (sym e ∙ f)

module _ (test : Row → Bool) where
  -- what holds of the later rows
  later : (first below : ℕ) (r : ℕ × Row) (rs : List (ℕ × Row)) (n : ℕ) → Rise first below (r ∷ rs) → tested test (row_of (r ∷ rs) n) ≡ false → tested test (row_of rs n) ≡ false
  later first below r rs n rise e = by (n == r.0) refl e
    where
      by : (b : Bool) → (n == r.0) ≡ b → tested test (cond b (Some r.1) (row_of rs n)) ≡ false → tested test (row_of rs n) ≡ false
      by false h e = e
      by true h e = let same : n ≡ r.0 = grind (arith, nat_tests) in rw (before-first (r.0 + 1) below n rs rise.2 (omega arith)) refl

  pub first_none : (first below : ℕ) (rows : List (ℕ × Row)) → Rise first below rows → ((n : ℕ) → tested test (row_of rows n) ≡ false) → first_number test rows ≡ None
  first_none first below [] rise none = refl
  first_none first below (r ∷ rs) rise none =
      let here : test r.1 ≡ false = ap (λ b. tested test (cond b (Some r.1) (row_of rs r.0))) (sym (eq-eqb r.0 r.0 refl)) ∙ none r.0 in
      rw here (first_none (r.0 + 1) below rs rise.2 (λ n. later first below r rs n rise (none n)))

  pub first_some : (first below n : ℕ) (rows : List (ℕ × Row)) → Rise first below rows → tested test (row_of rows n) ≡ true → ((m : ℕ) → m < n → tested test (row_of rows m) ≡ false) → first_number test rows ≡ Some n
  first_some first below n [] rise is least = cc is
  first_some first below n (r ∷ rs) rise is least = by (first_some (r.0 + 1) below n rs rise.2) (n == r.0) refl is
    where
      by : (tested test (row_of rs n) ≡ true → ((m : ℕ) → m < n → tested test (row_of rs m) ≡ false) → first_number test rs ≡ Some n) → (b : Bool) → (n == r.0) ≡ b → tested test (cond b (Some r.1) (row_of rs n)) ≡ true → cond (test r.1) (Some r.0) (first_number test rs) ≡ Some n
      by ih true h e = let same : n ≡ r.0 = grind (arith, nat_tests) in rw e (ap Some (sym same))
      by ih false h e =
          let apart : (n ≡ r.0 → ⊥) = λ s. clash (n == r.0) (eq-eqb n r.0 s) h in
          let past : r.0 < n = over (row_of rs n) refl e apart in
          let here : test r.1 ≡ false = ap (λ b. tested test (cond b (Some r.1) (row_of rs r.0))) (sym (eq-eqb r.0 r.0 refl)) ∙ least r.0 past in
          rw here (ih e (λ m less. later first below r rs m rise (least m less)))
        where
          over : (o : Option Row) → row_of rs n ≡ o → tested test o ≡ true → (n ≡ r.0 → ⊥) → r.0 < n
          over None at e apart = cc e
          over (Some row) at e apart = not-under (before-first (r.0 + 1) below n rs rise.2)
            where
              not-under : (n < r.0 + 1 → row_of rs n ≡ None) → r.0 < n
              not-under none = grind (arith, none, at)

-- the least number under a mark is that of the first row that has it
pub first_is : {K : Type 0} (order : K → K → Ordering) (marks : Row → List K) (k : K) (next : ℕ) (rows : List (ℕ × Row)) (index : List (K × ℕ)) (r : Option ℕ) → Rise 0 next rows → IsIndex order marks rows index → IsLeast order index k r → r ≡ first_number (λ row. among order k (marks row)) rows
first_is {K} order marks k next rows index r rise is least = by r least
  where
    shown : (o : Option Row) → marked order k marks o ≡ tested (λ row. among order k (marks row)) o
    shown None = refl
    shown (Some row) = refl

    by : (r : Option ℕ) → IsLeast order index k r → r ≡ first_number (λ row. among order k (marks row)) rows
    by None none = sym (first_none _ 0 next rows rise (λ n. sym (shown (row_of rows n)) ∙ sym (is.each k n) ∙ none n))
    by (Some n) found = sym (first_some _ 0 next n rows rise (sym (shown (row_of rows n)) ∙ sym (is.each k n) ∙ found.0) (λ m less. sym (shown (row_of rows m)) ∙ sym (is.each k m) ∙ found.1 m less))

pub first_link_is : (link : LinkNo) (columns : List Column) (next : ℕ) (rows : List (ℕ × Row)) (index : List (LinkNo × ℕ)) (r : Option ℕ) → Rise 0 next rows → IsIndex link_order (link_marks columns) rows index → IsLeast link_order index link r → r ≡ first_number (has_link columns link) rows
first_link_is link columns next rows index r rise is least =
    first_is link_order (link_marks columns) link next rows index r rise is least
    ∙ same-first (λ row. among link_order link (link_marks columns row)) (has_link columns link) (λ row. sym (row-same link columns row.values)) rows

-- the items up to the next
pub take-next : {A : Type 0} (xs : List A) (i : ℕ) (item : A) → slice_get xs i ≡ Some item → take (suc i) xs ≡ take i xs ++ item ∷ []
take-next [] i item is = cc is
take-next (x ∷ xs) zero item is = ap (λ y. y ∷ []) (one x item is)
  where
    one : {A : Type 0} (a b : A) → Some a ≡ Some b → a ≡ b
    one a b e = cc e
take-next (x ∷ xs) (suc i) item is = ap (λ ys. x ∷ ys) (take-next xs i item is)

rise-front : (first next : ℕ) (rows : List (ℕ × Row)) (i : ℕ) (item : ℕ × Row) → Rise first next rows → slice_get rows i ≡ Some item → Rise first item.0 (take i rows) × (first ≤ item.0)
rise-front first next [] i item rise is = cc is
rise-front first next (r ∷ rs) zero item rise is = (tt, subst (λ n. first ≤ n) (ap (λ x. x.0) (one r item is)) rise.0)
  where
    one : (a b : ℕ × Row) → Some a ≡ Some b → a ≡ b
    one a b e = cc e
rise-front first next (r ∷ rs) (suc i) item rise is = let h = rise-front (r.0 + 1) next rs i item rise.2 is in ((rise.0, omega (arith, h.1), h.0), omega (arith, h.1, rise.0))

pub index_next : {K : Type 0} (order : K → K → Ordering) (marks : Row → List K) (next : ℕ) (rows : List (ℕ × Row)) (i : ℕ) (item : ℕ × Row) (index new : List (K × ℕ)) → Rise 0 next rows → slice_get rows i ≡ Some item → IsIndex order marks (take i rows) index → WithMarks order (marks item.1) item.0 index new → IsIndex order marks (take (i + 1) rows) new
index_next order marks next rows i item index new rise is was more =
    let e : take (i + 1) rows ≡ take i rows ++ item ∷ [] = ap (λ n. take n rows) (add-one i) ∙ take-next rows i item is in
    subst (λ l. IsIndex order marks l new) (sym e) (index_inserted order marks item.0 (take i rows) item.1 index new (rise-front 0 next rows i item rise is).0 was more)
