-- Which rows a statement touches.
use Rattle.std.proofs.Common.{◌≡◌, ◌+◌, ◌++◌, ◌==◌, ℕ, zero, suc, Bool, true, false, cond, List, [], ◌∷◌, length, map, Option, Some, None, Result, Ok, Err, IfOk, refl, sym, ap, ◌∙◌, arith}
use Rattle.std.specs.Cmp.Lexicographic.{pointwise, nat_list_eq_equiv}
use Rattle.std.specs.List.{IsDistinct}
use Rattle.std.proofs.lemmas.Bool.{or_parts}
use Rattle.std.proofs.lemmas.Map.{lookup-remove_entry}
use Rattle.dl_base.specs.declared.sql_fault.SqlFault.{SqlFault}
use Rattle.dl_base.specs.declared.value.Row.{Row}
use Rattle.meaning_tables.specs.Tables.{Rows, Tables, row_of, table_of, with_table, without_table}
use Rattle.sql_rows.specs.declared.rows.Updated.{Updated}
use Rattle.sql_rows.specs.Beside.{AgreeBeside, RowsAgreeBeside, is_among}
use Rattle.sql_rows.specs.NewRows.{counted}
use Rattle.sql_change.specs.declared.changing.Outcome.{Outcome}
use Rattle.sql_change.specs.Touched.{numbers_from}

-- INSERT

pub numbers_more : (first n : ℕ) → numbers_from first (suc n) ≡ numbers_from first n ++ (first + n) ∷ []
numbers_more first zero = ap (λ (k : ℕ). k ∷ []) (none first)
  where
    none : (a : ℕ) → a ≡ a + 0
    none a = omega arith
numbers_more first (suc n) = ap (λ (ks : List ℕ). first ∷ ks) (numbers_more (first + 1) n ∙ ap (λ (k : ℕ). numbers_from (first + 1) n ++ k ∷ []) (counts first n))
  where
    counts : (a b : ℕ) → a + 1 + b ≡ a + suc b
    counts a b = omega arith

pub numbers_length : (first n : ℕ) → length (numbers_from first n) ≡ n
numbers_length first zero = refl
numbers_length first (suc n) = ap (λ (k : ℕ). suc k) (numbers_length (first + 1) n)

none_counted : (n first : ℕ) (more : List Row) → is_among n (numbers_from first (length more)) ≡ false → row_of (counted first more) n ≡ None
none_counted n first [] none = refl
none_counted n first (r ∷ rs) none =
    let parts = or_parts (n == first) (is_among n (numbers_from (first + 1) (length rs))) none in
    rw parts.0 (none_counted n (first + 1) rs parts.1)

-- rows behind others
pub grown_beside : (rows : List (ℕ × Row)) (first : ℕ) (more : List Row) → RowsAgreeBeside (numbers_from first (length more)) rows (rows ++ counted first more)
grown_beside [] first more = λ n none. none_counted n first more none
grown_beside (r ∷ rs) first more = λ n none. ap (λ (found : Option Row). cond (n == r.0) (Some r.1) found) (grown_beside rs first more n none)

-- UPDATE

pub replaced_beside : (u : Updated) (rows : List (ℕ × Row)) (r : Result Outcome SqlFault) → IfOk r (λ m. (m.table ≡ u.table) × (m.count ≡ u.met) × (m.touched ≡ u.numbers)) → RowsAgreeBeside u.numbers rows u.table.rows
    → IfOk r (λ m. RowsAgreeBeside m.touched rows m.table.rows)
replaced_beside u rows (Ok m) same beside = λ n none. ap (λ (t : Rows). row_of t.rows n) same.0 ∙ beside n (ap (λ (ns : List ℕ). is_among n ns) (sym same.2) ∙ none)
replaced_beside u rows (Err e) same beside = tt

pub replaced_told : (u : Updated) (r : Result Outcome SqlFault) → IfOk r (λ m. (m.table ≡ u.table) × (m.count ≡ u.met) × (m.touched ≡ u.numbers)) → length u.numbers ≡ u.met → IfOk r (λ m. length m.touched ≡ m.count)
replaced_told u (Ok m) same told = ap (λ (ns : List ℕ). length ns) same.2 ∙ told ∙ sym same.1
replaced_told u (Err e) same told = tt

-- A table in its place

some_same : (x y : Rows) → Some x ≡ Some y → x ≡ y
some_same x y same = cc same

same_agree : (numbers : List ℕ) (before after : Rows) → before ≡ after → RowsAgreeBeside numbers before.rows after.rows
same_agree numbers before after same = λ n none. ap (λ (t : Rows). row_of t.rows n) (sym same)

moved : (numbers : List ℕ) (before after t made : Rows) → before ≡ t → after ≡ made → RowsAgreeBeside numbers t.rows made.rows → RowsAgreeBeside numbers before.rows after.rows
moved numbers before after t made was is agree = λ n none. ap (λ (x : Rows). row_of x.rows n) is ∙ agree n none ∙ ap (λ (x : Rows). row_of x.rows n) (sym was)

look : (b : Bool) (some others : Tables) (q : List ℕ) → table_of (cond b some others) q ≡ cond b (table_of some q) (table_of others q)
look true some others q = refl
look false some others q = refl

-- of the first table, and of what is found behind it under the name and under another
placed : (numbers : List ℕ) (made t first before after : Rows) (is_name is_other : Bool) (named found changed : Option Rows) → RowsAgreeBeside numbers t.rows made.rows
    → cond is_name (Some first) named ≡ Some t → cond is_other (Some first) found ≡ Some before → cond is_name (cond is_other (Some made) found) (cond is_other (Some first) changed) ≡ Some after
    → (named ≡ Some t → found ≡ Some before → changed ≡ Some after → RowsAgreeBeside numbers before.rows after.rows) → RowsAgreeBeside numbers before.rows after.rows
placed numbers made t first before after true true named found changed agree there was is later = moved numbers before after t made (some_same before t (sym was ∙ there)) (some_same after made (sym is)) agree
placed numbers made t first before after true false named found changed agree there was is later = same_agree numbers before after (some_same before after (sym was ∙ is))
placed numbers made t first before after false true named found changed agree there was is later = same_agree numbers before after (some_same before after (sym was ∙ is))
placed numbers made t first before after false false named found changed agree there was is later = later there was is

pub put_beside : (numbers name : List ℕ) (made t : Rows) (tables : Tables) → table_of tables name ≡ Some t → RowsAgreeBeside numbers t.rows made.rows → AgreeBeside numbers tables (with_table tables name made)
put_beside numbers name made t [] there agree = λ q before after was is. absurd (cc was)
put_beside numbers name made t (e ∷ es) there agree = λ q before after was is.
    placed numbers made t e.1 before after (pointwise ◌==◌ name e.0) (pointwise ◌==◌ q e.0) (table_of es name) (table_of es q) (table_of (with_table es name made) q) agree there was
    (sym (look (pointwise ◌==◌ name e.0) ((e.0, made) ∷ es) (e ∷ with_table es name made) q) ∙ is)
    (λ there_later was_later is_later. put_beside numbers name made t es there_later agree q before after was_later is_later)

-- a table in its own place
pub put_same : (tables : Tables) (name : List ℕ) (t : Rows) → table_of tables name ≡ Some t → with_table tables name t ≡ tables
put_same [] name t there = refl
put_same (e ∷ es) name t there = by (pointwise ◌==◌ name e.0) there (put_same es name t)
  where
    by : (b : Bool) → cond b (Some e.1) (table_of es name) ≡ Some t → (table_of es name ≡ Some t → with_table es name t ≡ es) → cond b ((e.0, t) ∷ es) (e ∷ with_table es name t) ≡ e ∷ es
    by true there later = ap (λ (x : Rows). (e.0, x) ∷ es) (sym (some_same e.1 t there))
    by false there later = ap (λ (rest : Tables). e ∷ rest) (later there)

-- CREATE TABLE and DROP TABLE

pub added_beside : (tables : Tables) (name : List ℕ) (made : Rows) → AgreeBeside [] tables (tables ++ (name, made) ∷ [])
added_beside tables name made = λ q before after was is. same_agree [] before after (some_same before after (sym (kept tables q before was) ∙ is))
  where
    kept : (es : Tables) (q : List ℕ) (before : Rows) → table_of es q ≡ Some before → table_of (es ++ (name, made) ∷ []) q ≡ Some before
    kept [] q before was = absurd (cc was)
    kept (e ∷ es) q before was = by (pointwise ◌==◌ q e.0) was (kept es q before)
      where
        by : (b : Bool) → cond b (Some e.1) (table_of es q) ≡ Some before → (table_of es q ≡ Some before → table_of (es ++ (name, made) ∷ []) q ≡ Some before) → cond b (Some e.1) (table_of (es ++ (name, made) ∷ []) q) ≡ Some before
        by true was later = was
        by false was later = later was

pub dropped_beside : (tables : Tables) (name : List ℕ) → IsDistinct (pointwise ◌==◌) (map (λ t. t.0) tables) → AgreeBeside [] tables (without_table tables name)
dropped_beside tables name distinct = λ q before after was is.
    by (pointwise ◌==◌ name q) q before after was (sym (lookup-remove_entry nat_list_eq_equiv (pointwise ◌==◌ name) (nat_list_eq_equiv.congr name) q tables distinct) ∙ is)
  where
    by : (b : Bool) (q : List ℕ) (before after : Rows) → table_of tables q ≡ Some before → cond b None (table_of tables q) ≡ Some after → RowsAgreeBeside [] before.rows after.rows
    by true q before after was is = absurd (cc is)
    by false q before after was is = same_agree [] before after (some_same before after (sym was ∙ is))

pub none_beside : (tables after : Tables) → after ≡ tables → AgreeBeside [] tables after
none_beside tables after same = λ q before now was is. same_agree [] before now (some_same before now (sym was ∙ ap (λ (ts : Tables). table_of ts q) (sym same) ∙ is))
