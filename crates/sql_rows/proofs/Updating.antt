-- An UPDATE row by row, in a copy of the table.
use Rattle.std.proofs.Common.{◌≡◌, ◌+◌, ◌++◌, ℕ, true, false, List, [], ◌∷◌, Result, Ok, Err, drop, refl, sym, ap, ◌∙◌, subst, append_assoc, arith}
use Rattle.dl_base.specs.declared.sql_fault.SqlFault.{SqlFault}
use Rattle.dl_base.specs.declared.statement.Expr.{Expr}
use Rattle.dl_base.specs.declared.value.Row.{Row}
use Rattle.dl_base.specs.declared.value.Value.{Value}
use Rattle.meaning_sql.specs.declared.Context.{Context}
use Rattle.meaning_sql.specs.Columns.{Columns}
use Rattle.meaning_sql.specs.Conditions.{holds_all}
use Rattle.meaning_sql.specs.Faults.{◌>>=◌, and_then}
use Rattle.meaning_statements.specs.Changing.{updated_row, updated_rows}
use Rattle.meaning_tables.specs.Tables.{Rows, Rise, with_row}
use Rattle.sql_rows.proofs.Placing.{put_in}
use Rattle.sql_rows.proofs.Rising.{rise_changed}

abbrev pub Rest : Type 0
Rest = List (ℕ × Row) × (ℕ × ℕ)

-- the rows that are behind one, and the rows so far before them
abbrev pub behind_one : ℕ → List Value → ℕ → Rest → Result Rest SqlFault
behind_one number values one q = Ok ((number, record { values = values }) ∷ q.0, (q.1.0, q.1.1 + one))

abbrev pub behind_all : List (ℕ × Row) → ℕ → Rest → Result Rest SqlFault
behind_all made count q = Ok (made ++ q.0, (q.1.0, count + q.1.1))

behind : (made : List (ℕ × Row)) (count number : ℕ) (values : List Value) (one : ℕ) (later : Result Rest SqlFault)
    → ((later >>= behind_one number values one) >>= behind_all made count) ≡ (later >>= behind_all (made ++ (number, record { values = values }) ∷ []) (count + one))
behind made count number values one (Err e) = refl
behind made count number values one (Ok q) =
    ap (λ (rows : List (ℕ × Row)). Ok (rows, (q.1.0, count + (q.1.1 + one)))) (sym (append_assoc made ((number, record { values = values }) ∷ []) q.0))
    ∙ ap (λ (n : ℕ). Ok ((made ++ (number, record { values = values }) ∷ []) ++ q.0, (q.1.0, n))) (counts count q.1.1 one)
  where
    counts : (a b c : ℕ) → a + (b + c) ≡ a + c + b
    counts a b c = omega arith

none_behind : (later : Result Rest SqlFault) → (later >>= behind_all [] 0) ≡ later
none_behind (Err e) = refl
none_behind (Ok q) = ap (λ (n : ℕ). Ok (q.0, (q.1.0, n))) (counts q.1.1)
  where
    counts : (a : ℕ) → 0 + a ≡ a
    counts a = omega arith

module _ (all : Columns) (context : Context) (t : Rows) (conditions : List Expr) (places : List ℕ) (rights : List Expr) where
  abbrev whole : ℕ → List (ℕ × Row) → Result Rest SqlFault
  whole k rows = updated_rows all context t.columns conditions places rights k rows

  -- the copy has the rows so far, and behind them the table's; what the table's become behind those so far is the whole
  abbrev pub UpdatedSo : ℕ → Rows → ℕ → ℕ → ℕ → Type 0
  UpdatedSo first made i k met = (kept : List (ℕ × Row)) × (made.rows ≡ kept ++ drop i t.rows) × (and_then (whole k (drop i t.rows)) (behind_all kept met) ≡ whole first t.rows)

  pub begun : (first : ℕ) (made : Rows) → made ≡ t → UpdatedSo first made 0 first 0
  begun first made is = ([], ap (λ (x : Rows). x.rows) is, none_behind (whole first t.rows))

  pub ended : (first : ℕ) (made : Rows) (i k met : ℕ) → drop i t.rows ≡ [] → UpdatedSo first made i k met → whole first t.rows ≡ Ok (made.rows, (k, met))
  ended first made i k met none (kept, rows, is) =
      sym is ∙ ap (λ (rs : List (ℕ × Row)). and_then (whole k rs) (behind_all kept met)) none
      ∙ ap (λ (n : ℕ). Ok (kept ++ [], (k, n))) (counts met)
      ∙ ap (λ (rs : List (ℕ × Row)). Ok (rs, (k, met))) (sym (rows ∙ ap (λ (rs : List (ℕ × Row)). kept ++ rs) none))
    where
      counts : (a : ℕ) → a + 0 ≡ a
      counts a = omega arith

  -- the next row is not met
  pub passed : (first : ℕ) (made : Rows) (i k met number : ℕ) (row : Row) → drop i t.rows ≡ (number, row) ∷ drop (i + 1) t.rows → holds_all all context conditions row ≡ Ok false
      → UpdatedSo first made i k met → UpdatedSo first made (i + 1) k met
  passed first made i k met number row at holds (kept, rows, is) = (
    kept ++ (number, row) ∷ [],
    rows ∙ ap (λ (rs : List (ℕ × Row)). kept ++ rs) at ∙ sym (append_assoc kept ((number, row) ∷ []) (drop (i + 1) t.rows)),
    ap (λ (n : ℕ). and_then (whole k (drop (i + 1) t.rows)) (behind_all (kept ++ (number, row) ∷ []) n)) (counts met)
        ∙ sym (behind kept met number row.values 0 (whole k (drop (i + 1) t.rows)))
        ∙ sym (one (drop (i + 1) t.rows))
        ∙ ap (λ (rs : List (ℕ × Row)). and_then (whole k rs) (behind_all kept met)) (sym at)
        ∙ is,
  )
    where
      counts : (a : ℕ) → a ≡ a + 0
      counts a = omega arith

      one : (rest : List (ℕ × Row)) → and_then (whole k ((number, row) ∷ rest)) (behind_all kept met) ≡ ((whole k rest >>= behind_one number row.values 0) >>= behind_all kept met)
      one rest = rw holds refl

  -- the next row is met, and has other values
  pub set_so : (first : ℕ) (made after : Rows) (i k next met number : ℕ) (row : Row) (values : List Value) → drop i t.rows ≡ (number, row) ∷ drop (i + 1) t.rows → holds_all all context conditions row ≡ Ok true
      → updated_row all context t.columns places rights k row ≡ Ok (values, next) → Rise 0 t.next made.rows → after ≡ record made { rows = with_row made.rows number (record { values = values }) }
      → UpdatedSo first made i k met → UpdatedSo first after (i + 1) next (met + 1)
  set_so first made after i k next met number row values at holds becomes rise set (kept, rows, is) = (
    kept ++ (number, record { values = values }) ∷ [],
    ap (λ (x : Rows). x.rows) set
        ∙ ap (λ (rs : List (ℕ × Row)). with_row rs number (record { values = values })) here
        ∙ put_in 0 t.next number kept (drop (i + 1) t.rows) row (record { values = values }) (subst (λ (rs : List (ℕ × Row)). Rise 0 t.next rs) here rise)
        ∙ sym (append_assoc kept ((number, record { values = values }) ∷ []) (drop (i + 1) t.rows)),
    sym (behind kept met number values 1 (whole next (drop (i + 1) t.rows)))
        ∙ sym (one (drop (i + 1) t.rows))
        ∙ ap (λ (rs : List (ℕ × Row)). and_then (whole k rs) (behind_all kept met)) (sym at)
        ∙ is,
  )
    where
      here : made.rows ≡ kept ++ (number, row) ∷ drop (i + 1) t.rows
      here = rows ∙ ap (λ (rs : List (ℕ × Row)). kept ++ rs) at

      one : (rest : List (ℕ × Row)) → and_then (whole k ((number, row) ∷ rest)) (behind_all kept met) ≡ ((whole next rest >>= behind_one number values 1) >>= behind_all kept met)
      one rest = rw (holds, becomes) refl

  -- the numbers still rise
  pub rise_so : (first : ℕ) (made after : Rows) (i k met number : ℕ) (row new : Row) → drop i t.rows ≡ (number, row) ∷ drop (i + 1) t.rows → Rise 0 t.next made.rows → after ≡ record made { rows = with_row made.rows number new }
      → UpdatedSo first made i k met → Rise 0 t.next after.rows
  rise_so first made after i k met number row new at rise set (kept, rows, is) =
      subst (λ (rs : List (ℕ × Row)). Rise 0 t.next rs)
      (sym (ap (λ (x : Rows). x.rows) set ∙ ap (λ (rs : List (ℕ × Row)). with_row rs number new) here ∙ put_in 0 t.next number kept (drop (i + 1) t.rows) row new risen))
      (rise_changed 0 t.next kept number row new (drop (i + 1) t.rows) risen)
    where
      here : made.rows ≡ kept ++ (number, row) ∷ drop (i + 1) t.rows
      here = rows ∙ ap (λ (rs : List (ℕ × Row)). kept ++ rs) at

      risen : Rise 0 t.next (kept ++ (number, row) ∷ drop (i + 1) t.rows)
      risen = subst (λ (rs : List (ℕ × Row)). Rise 0 t.next rs) here rise

  -- the next row's condition is refused
  pub stopped : (first : ℕ) (made : Rows) (i k met number : ℕ) (row : Row) (e : SqlFault) → drop i t.rows ≡ (number, row) ∷ drop (i + 1) t.rows → holds_all all context conditions row ≡ Err e
      → UpdatedSo first made i k met → whole first t.rows ≡ Err e
  stopped first made i k met number row e at holds (kept, rows, is) =
      sym is ∙ ap (λ (rs : List (ℕ × Row)). and_then (whole k rs) (behind_all kept met)) at ∙ one (drop (i + 1) t.rows)
    where
      one : (rest : List (ℕ × Row)) → and_then (whole k ((number, row) ∷ rest)) (behind_all kept met) ≡ Err e
      one rest = rw holds refl

  -- the next row is met, and its new values are refused
  pub stopped_in : (first : ℕ) (made : Rows) (i k met number : ℕ) (row : Row) (e : SqlFault) → drop i t.rows ≡ (number, row) ∷ drop (i + 1) t.rows → holds_all all context conditions row ≡ Ok true
      → updated_row all context t.columns places rights k row ≡ Err e → UpdatedSo first made i k met → whole first t.rows ≡ Err e
  stopped_in first made i k met number row e at holds becomes (kept, rows, is) =
      sym is ∙ ap (λ (rs : List (ℕ × Row)). and_then (whole k rs) (behind_all kept met)) at ∙ one (drop (i + 1) t.rows)
    where
      one : (rest : List (ℕ × Row)) → and_then (whole k ((number, row) ∷ rest)) (behind_all kept met) ≡ Err e
      one rest = rw (holds, becomes) refl
