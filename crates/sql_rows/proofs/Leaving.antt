-- A DELETE row by row, in a copy of the table.
use Rattle.std.proofs.Common.{◌≡◌, ◌+◌, ◌++◌, ℕ, true, false, List, [], ◌∷◌, Result, Ok, Err, drop, is_some, length, refl, sym, ap, ◌∙◌, subst, append_assoc}
use Rattle.dl_base.specs.declared.sql_fault.SqlFault.{SqlFault}
use Rattle.dl_base.specs.declared.statement.Expr.{Expr}
use Rattle.dl_base.specs.declared.value.Row.{Row}
use Rattle.meaning_sql.specs.declared.Context.{Context}
use Rattle.meaning_sql.specs.Columns.{Columns}
use Rattle.meaning_sql.specs.Conditions.{holds_all}
use Rattle.meaning_sql.specs.Faults.{◌>>=◌, and_then}
use Rattle.meaning_statements.specs.Changing.{remaining}
use Rattle.meaning_tables.specs.Tables.{Rows, Rise, row_of, without_row}
use Rattle.sql_rows.proofs.Beside.{is_there, one_fewer}
use Rattle.sql_rows.proofs.Placing.{taken_out}
use Rattle.sql_rows.proofs.Rising.{rise_left_out}

abbrev Left : Type 0
Left = List (ℕ × Row)

abbrev pub behind_kept : Left → Left → Result Left SqlFault
behind_kept kept ys = Ok (kept ++ ys)

none_behind : (later : Result Left SqlFault) → (later >>= behind_kept []) ≡ later
none_behind (Err e) = refl
none_behind (Ok ys) = refl

one_behind : (kept : Left) (r : ℕ × Row) (later : Result Left SqlFault) → ((later >>= λ ys. Ok (r ∷ ys)) >>= behind_kept kept) ≡ (later >>= behind_kept (kept ++ r ∷ []))
one_behind kept r (Err e) = refl
one_behind kept r (Ok ys) = ap (λ (rs : Left). Ok rs) (sym (append_assoc kept (r ∷ []) ys))

left_out : (kept : Left) (later : Result Left SqlFault) → ((later >>= λ ys. Ok ys) >>= behind_kept kept) ≡ (later >>= behind_kept kept)
left_out kept (Err e) = refl
left_out kept (Ok ys) = refl

module _ (columns : Columns) (context : Context) (t : Rows) (conditions : List Expr) where
  abbrev whole : Left → Result Left SqlFault
  whole rows = remaining columns context conditions rows

  -- the copy has the rows that are left so far, and behind them the table's; what is left of these behind those so far is the whole
  abbrev pub LeftSo : Rows → ℕ → Type 0
  LeftSo left i = (kept : Left) × (left.rows ≡ kept ++ drop i t.rows) × (and_then (whole (drop i t.rows)) (behind_kept kept) ≡ whole t.rows)

  pub begun : (left : Rows) → left ≡ t → LeftSo left 0
  begun left is = ([], ap (λ (x : Rows). x.rows) is, none_behind (whole t.rows))

  pub ended : (left : Rows) (i : ℕ) → drop i t.rows ≡ [] → LeftSo left i → whole t.rows ≡ Ok left.rows
  ended left i none (kept, rows, is) =
      sym is ∙ ap (λ (rs : Left). and_then (whole rs) (behind_kept kept)) none ∙ ap (λ (rs : Left). Ok rs) (sym (rows ∙ ap (λ (rs : Left). kept ++ rs) none))

  -- the next row is not met
  pub passed : (left : Rows) (i number : ℕ) (row : Row) → drop i t.rows ≡ (number, row) ∷ drop (i + 1) t.rows → holds_all columns context conditions row ≡ Ok false → LeftSo left i → LeftSo left (i + 1)
  passed left i number row at holds (kept, rows, is) = (
    kept ++ (number, row) ∷ [],
    rows ∙ ap (λ (rs : Left). kept ++ rs) at ∙ sym (append_assoc kept ((number, row) ∷ []) (drop (i + 1) t.rows)),
    sym (one_behind kept (number, row) (whole (drop (i + 1) t.rows))) ∙ sym (one (drop (i + 1) t.rows)) ∙ ap (λ (rs : Left). and_then (whole rs) (behind_kept kept)) (sym at) ∙ is,
  )
    where
      one : (rest : Left) → and_then (whole ((number, row) ∷ rest)) (behind_kept kept) ≡ ((whole rest >>= λ ys. Ok ((number, row) ∷ ys)) >>= behind_kept kept)
      one rest = rw holds refl

  -- the next row is met, and goes
  pub gone : (left after : Rows) (i number : ℕ) (row : Row) → drop i t.rows ≡ (number, row) ∷ drop (i + 1) t.rows → holds_all columns context conditions row ≡ Ok true → Rise 0 t.next left.rows
      → after ≡ record left { rows = without_row left.rows number } → LeftSo left i → LeftSo after (i + 1)
  gone left after i number row at holds rise unset (kept, rows, is) = (
    kept,
    ap (λ (x : Rows). x.rows) unset
        ∙ ap (λ (rs : Left). without_row rs number) here
        ∙ taken_out 0 t.next number kept (drop (i + 1) t.rows) row (subst (λ (rs : Left). Rise 0 t.next rs) here rise),
    sym (left_out kept (whole (drop (i + 1) t.rows))) ∙ sym (one (drop (i + 1) t.rows)) ∙ ap (λ (rs : Left). and_then (whole rs) (behind_kept kept)) (sym at) ∙ is,
  )
    where
      here : left.rows ≡ kept ++ (number, row) ∷ drop (i + 1) t.rows
      here = rows ∙ ap (λ (rs : Left). kept ++ rs) at

      one : (rest : Left) → and_then (whole ((number, row) ∷ rest)) (behind_kept kept) ≡ ((whole rest >>= λ ys. Ok ys) >>= behind_kept kept)
      one rest = rw holds refl

  -- the numbers still rise
  pub rise_so : (left after : Rows) (i number : ℕ) (row : Row) → drop i t.rows ≡ (number, row) ∷ drop (i + 1) t.rows → Rise 0 t.next left.rows → after ≡ record left { rows = without_row left.rows number } → LeftSo left i → Rise 0 t.next after.rows
  rise_so left after i number row at rise unset (kept, rows, is) =
      subst (λ (rs : Left). Rise 0 t.next rs)
      (sym (ap (λ (x : Rows). x.rows) unset ∙ ap (λ (rs : Left). without_row rs number) here ∙ taken_out 0 t.next number kept (drop (i + 1) t.rows) row risen))
      (rise_left_out 0 t.next kept (number, row) (drop (i + 1) t.rows) risen)
    where
      here : left.rows ≡ kept ++ (number, row) ∷ drop (i + 1) t.rows
      here = rows ∙ ap (λ (rs : Left). kept ++ rs) at

      risen : Rise 0 t.next (kept ++ (number, row) ∷ drop (i + 1) t.rows)
      risen = subst (λ (rs : Left). Rise 0 t.next rs) here rise

  -- and there is one row fewer
  pub one_fewer_so : (left after : Rows) (i number : ℕ) (row : Row) → drop i t.rows ≡ (number, row) ∷ drop (i + 1) t.rows → after ≡ record left { rows = without_row left.rows number } → LeftSo left i → length after.rows + 1 ≡ length left.rows
  one_fewer_so left after i number row at unset (kept, rows, is) =
      ap (λ (x : Rows). length x.rows + 1) unset
      ∙ one_fewer left.rows number (subst (λ (rs : Left). is_some (row_of rs number) ≡ true) (sym (rows ∙ ap (λ (rs : Left). kept ++ rs) at)) (is_there kept (drop (i + 1) t.rows) number row))

  -- the next row's condition is refused
  pub stopped : (left : Rows) (i number : ℕ) (row : Row) (e : SqlFault) → drop i t.rows ≡ (number, row) ∷ drop (i + 1) t.rows → holds_all columns context conditions row ≡ Err e → LeftSo left i → whole t.rows ≡ Err e
  stopped left i number row e at holds (kept, rows, is) = sym is ∙ ap (λ (rs : Left). and_then (whole rs) (behind_kept kept)) at ∙ one (drop (i + 1) t.rows)
    where
      one : (rest : Left) → and_then (whole ((number, row) ∷ rest)) (behind_kept kept) ≡ Err e
      one rest = rw holds refl
