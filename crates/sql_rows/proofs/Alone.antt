-- One row alone may be met.
use Rattle.std.proofs.Common.{◌≡◌, ◌≢◌, ◌+◌, ◌<◌, ◌++◌, ◌==◌, ℕ, Bool, true, false, cond, List, [], ◌∷◌, Option, Some, None, is_some, Result, Ok, Err, IfOk, IfErr, refl, sym, ap, ◌∙◌, subst, arith}
use Rattle.std.specs.List.{AllByRecursion}
use Rattle.std.proofs.lemmas.Bool.{eq-eqb}
use Rattle.std.proofs.lemmas.Bool.Decides.{nat_tests}
use Rattle.dl_base.specs.declared.sql_fault.SqlFault.{SqlFault}
use Rattle.dl_base.specs.declared.sql_fault.SqlFault.TheVariants as faults
use Rattle.dl_base.specs.declared.statement.Expr.{Expr}
use Rattle.dl_base.specs.declared.value.Row.{Row}
use Rattle.dl_base.specs.declared.value.Value.{Value}
use Rattle.meaning_sql.specs.declared.Context.{Context}
use Rattle.meaning_sql.specs.Columns.{Columns}
use Rattle.meaning_sql.specs.Conditions.{holds_all}
use Rattle.meaning_sql.specs.Faults.{◌>>=◌, Computes, option_list}
use Rattle.meaning_statements.specs.Changing.{remaining, updated_row, updated_rows}
use Rattle.meaning_tables.specs.Tables.{Rows, Rise, row_of, with_row, without_row}
use Rattle.sql_keys.specs.Finding.{IsUnmet, PassesOver}
use Rattle.sql_keys.specs.declared.finding.KeyRows.{KeyRows}
use Rattle.sql_keys.specs.declared.finding.KeyRows.TheVariants as key_rows
use Rattle.sql_rows.specs.Remaining.{remainder_of}
use Rattle.sql_rows.specs.declared.rows.Deleted.{Deleted}
use Rattle.sql_rows.specs.declared.rows.Remainder.TheVariants as remainders
use Rattle.sql_rows.specs.declared.rows.Updated.{Updated}
use Rattle.sql_rows.proofs.Leaving.{behind_kept}
use Rattle.sql_rows.proofs.Placing.{put_in, taken_out}
use Rattle.sql_rows.proofs.Updating.{behind_all, behind_one}

-- the row of a number, and the others before it and behind it, of which P holds
record Split (P : Row → Type 0) (rows : List (ℕ × Row)) (number : ℕ) (row : Row) : Type 0 where
  kept : List (ℕ × Row)
  rest : List (ℕ × Row)
  is : rows ≡ kept ++ (number, row) ∷ rest
  before : AllByRecursion (λ r. P r.1) kept
  later : AllByRecursion (λ r. P r.1) rest

-- rows of larger numbers have no row of this one
all_later : (P : Row → Type 0) (first below number : ℕ) (rows : List (ℕ × Row)) → number < first → Rise first below rows → AllByRecursion (λ r. r.0 ≢ number → P r.1) rows → AllByRecursion (λ r. P r.1) rows
all_later P first below number [] past rise each = tt
all_later P first below number (r ∷ rs) past rise each = (each.0 (λ e. omega (arith, e, past, rise.0)), all_later P (r.0 + 1) below number rs (omega (arith, past, rise.0)) rise.2 each.1)

split : (P : Row → Type 0) (first below number : ℕ) (rows : List (ℕ × Row)) (row : Row) → Rise first below rows → row_of rows number ≡ Some row → AllByRecursion (λ r. r.0 ≢ number → P r.1) rows → Split P rows number row
split P first below number [] row rise there each = absurd (cc there)
split P first below number (r ∷ rs) row rise there each = by (number == r.0) refl there (split P (r.0 + 1) below number rs row rise.2)
  where
    by : (b : Bool) → (number == r.0) ≡ b → cond b (Some r.1) (row_of rs number) ≡ Some row → (row_of rs number ≡ Some row → AllByRecursion (λ r. r.0 ≢ number → P r.1) rs → Split P rs number row) → Split P (r ∷ rs) number row
    by true test there later =
        let same : number ≡ r.0 = grind (arith, nat_tests) in
        let here : r.1 ≡ row = cc there in
        record {
          kept = [];
          rest = rs;
          is = ap (λ (n : ℕ). (n, r.1) ∷ rs) (sym same) ∙ ap (λ (x : Row). (number, x) ∷ rs) here;
          before = tt;
          later = all_later P (r.0 + 1) below number rs (omega (arith, same)) rise.2 each.1;
        }
    by false test there later =
        let apart : r.0 ≢ number = λ e. cc (sym test ∙ eq-eqb number r.0 (sym e)) in
        let more = later there each.1 in
        record { kept = r ∷ more.kept; rest = more.rest; is = ap (λ (xs : List (ℕ × Row)). r ∷ xs) more.is; before = (each.0 apart, more.before); later = more.later }

not_none : (found : Option Row) → is_some found ≡ true → found ≡ None → ⊥
not_none (Some row) there none = cc none
not_none None there none = cc there

-- what is said of the rows that a number leaves over
abbrev pub LeavesOver : (Row → Type 0) → List (ℕ × Row) → ℕ → Type 0
LeavesOver P rows number = (is_some (row_of rows number) ≡ true) × AllByRecursion (λ r. r.0 ≢ number → P r.1) rows

-- the row is there
pub there_is : {A : Type 0} (P : Row → Type 0) (rows : List (ℕ × Row)) (number : ℕ) → LeavesOver P rows number → row_of rows number ≡ None → A
there_is P rows number over none = absurd (not_none (row_of rows number) over.0 none)

module _ (all : Columns) (context : Context) (conditions : List Expr) (P : Row → Type 0) (unmet : (row : Row) → P row → holds_all all context conditions row ≡ Ok false) where
  -- UPDATE

  module _ (t : Rows) (places : List ℕ) (rights : List Expr) where
    abbrev whole : ℕ → List (ℕ × Row) → Result (List (ℕ × Row) × (ℕ × ℕ)) SqlFault
    whole k rows = updated_rows all context t.columns conditions places rights k rows

    pub none_updated : (k : ℕ) (rows : List (ℕ × Row)) → AllByRecursion (λ r. P r.1) rows → whole k rows ≡ Ok (rows, (k, 0))
    none_updated k [] each = refl
    none_updated k (r ∷ rs) each = rw (unmet r.1 each.0, none_updated k rs each.1) refl

    more_behind : (kept : List (ℕ × Row)) (r : ℕ × Row) (later : Result (List (ℕ × Row) × (ℕ × ℕ)) SqlFault) → ((later >>= behind_all kept 0) >>= behind_one r.0 r.1.values 0) ≡ (later >>= behind_all (r ∷ kept) 0)
    more_behind kept r (Err e) = refl
    more_behind kept r (Ok q) = ap (λ (n : ℕ). Ok (r ∷ kept ++ q.0, (q.1.0, n))) (counts q.1.1)
      where
        counts : (a : ℕ) → 0 + a + 0 ≡ 0 + a
        counts a = omega arith

    none_behind : (later : Result (List (ℕ × Row) × (ℕ × ℕ)) SqlFault) → later ≡ (later >>= behind_all [] 0)
    none_behind (Err e) = refl
    none_behind (Ok q) = ap (λ (n : ℕ). Ok (q.0, (q.1.0, n))) (counts q.1.1)
      where
        counts : (a : ℕ) → a ≡ 0 + a
        counts a = omega arith

    kept_behind : (k : ℕ) (kept rest : List (ℕ × Row)) → AllByRecursion (λ r. P r.1) kept → whole k (kept ++ rest) ≡ (whole k rest >>= behind_all kept 0)
    kept_behind k [] rest each = none_behind (whole k rest)
    kept_behind k (r ∷ rs) rest each = rw (unmet r.1 each.0, kept_behind k rs rest each.1) (more_behind rs r (whole k rest))

    module _ (number : ℕ) (row : Row) (rise : Rise 0 t.next t.rows) (there : row_of t.rows number ≡ Some row) (over : LeavesOver P t.rows number) where
      parts : Split P t.rows number row
      parts = split P 0 t.next number t.rows row rise there over.1

      at_it : (k : ℕ) → whole k t.rows ≡ (whole k ((number, row) ∷ parts.rest) >>= behind_all parts.kept 0)
      at_it k = ap (λ (rs : List (ℕ × Row)). whole k rs) parts.is ∙ kept_behind k parts.kept ((number, row) ∷ parts.rest) parts.before

      pub one_passed : (k : ℕ) → holds_all all context conditions row ≡ Ok false → whole k t.rows ≡ Ok (t.rows, (k, 0))
      one_passed k holds = at_it k ∙ rw (holds, none_updated k parts.rest parts.later) (ap (λ (rs : List (ℕ × Row)). Ok (rs, (k, 0))) (sym parts.is))

      pub one_set : (k next : ℕ) (values : List Value) (after : Rows) → holds_all all context conditions row ≡ Ok true → updated_row all context t.columns places rights k row ≡ Ok (values, next)
          → after ≡ record t { rows = with_row t.rows number (record { values = values }) } → whole k t.rows ≡ Ok (after.rows, (next, 1))
      one_set k next values after holds becomes set =
          at_it k
          ∙ rw (holds, becomes, none_updated next parts.rest parts.later)
          (ap (λ (rs : List (ℕ × Row)). Ok (rs, (next, 1)))
          (sym (ap (λ (x : Rows). x.rows) set
          ∙ ap (λ (rs : List (ℕ × Row)). with_row rs number (record { values = values })) parts.is
          ∙ put_in 0 t.next number parts.kept parts.rest row (record { values = values }) (subst (λ (rs : List (ℕ × Row)). Rise 0 t.next rs) parts.is rise))))

      pub one_stopped : (k : ℕ) (e : SqlFault) → holds_all all context conditions row ≡ Err e → whole k t.rows ≡ Err e
      one_stopped k e holds = at_it k ∙ rw holds refl

      pub one_stopped_in : (k : ℕ) (e : SqlFault) → holds_all all context conditions row ≡ Ok true → updated_row all context t.columns places rights k row ≡ Err e → whole k t.rows ≡ Err e
      one_stopped_in k e holds becomes = at_it k ∙ rw (holds, becomes) refl

  -- DELETE

  abbrev left : List (ℕ × Row) → Result (List (ℕ × Row)) SqlFault
  left rows = remaining all context conditions rows

  pub none_gone : (rows : List (ℕ × Row)) → AllByRecursion (λ r. P r.1) rows → left rows ≡ Ok rows
  none_gone [] each = refl
  none_gone (r ∷ rs) each = rw (unmet r.1 each.0, none_gone rs each.1) refl

  more_kept : (kept : List (ℕ × Row)) (r : ℕ × Row) (later : Result (List (ℕ × Row)) SqlFault) → ((later >>= behind_kept kept) >>= λ ys. Ok (r ∷ ys)) ≡ (later >>= behind_kept (r ∷ kept))
  more_kept kept r (Err e) = refl
  more_kept kept r (Ok ys) = refl

  none_kept : (later : Result (List (ℕ × Row)) SqlFault) → later ≡ (later >>= behind_kept [])
  none_kept (Err e) = refl
  none_kept (Ok ys) = refl

  kept_left : (kept rest : List (ℕ × Row)) → AllByRecursion (λ r. P r.1) kept → left (kept ++ rest) ≡ (left rest >>= behind_kept kept)
  kept_left [] rest each = none_kept (left rest)
  kept_left (r ∷ rs) rest each = rw (unmet r.1 each.0, kept_left rs rest each.1) (more_kept rs r (left rest))

  module _ (t : Rows) (number : ℕ) (row : Row) (rise : Rise 0 t.next t.rows) (there : row_of t.rows number ≡ Some row) (over : LeavesOver P t.rows number) where
    its : Split P t.rows number row
    its = split P 0 t.next number t.rows row rise there over.1

    before_it : left t.rows ≡ (left ((number, row) ∷ its.rest) >>= behind_kept its.kept)
    before_it = ap (λ (rs : List (ℕ × Row)). left rs) its.is ∙ kept_left its.kept ((number, row) ∷ its.rest) its.before

    pub one_left : holds_all all context conditions row ≡ Ok false → left t.rows ≡ Ok t.rows
    one_left holds = before_it ∙ rw (holds, none_gone its.rest its.later) (ap (λ (rs : List (ℕ × Row)). Ok rs) (sym its.is))

    pub one_gone : (after : Rows) → holds_all all context conditions row ≡ Ok true → after ≡ record t { rows = without_row t.rows number } → left t.rows ≡ Ok after.rows
    one_gone after holds unset =
        before_it
        ∙ rw (holds, none_gone its.rest its.later)
        (ap (λ (rs : List (ℕ × Row)). Ok rs)
        (sym (ap (λ (x : Rows). x.rows) unset
        ∙ ap (λ (rs : List (ℕ × Row)). without_row rs number) its.is
        ∙ taken_out 0 t.next number its.kept its.rest row (subst (λ (rs : List (ℕ × Row)). Rise 0 t.next rs) its.is rise))))

    pub one_refused : (e : SqlFault) → holds_all all context conditions row ≡ Err e → left t.rows ≡ Err e
    one_refused e holds = before_it ∙ rw holds refl

-- The whole, of what is found at the row: as a call gives it.

module _ (all : Columns) (context : Context) (filter : Option Expr) (t : Rows) (number : ℕ) (row : Row) (rise : Rise 0 t.next t.rows) (there : row_of t.rows number ≡ Some row) (over : PassesOver (IsUnmet all filter) t.rows (key_rows.One number)) where
  not_met : (r : Row) → IsUnmet all filter r → holds_all all context (option_list filter) r ≡ Ok false
  not_met r h = (h context).1

  module _ (places : List ℕ) (rights : List Expr) (k : ℕ) where
    pub alone_passed : holds_all all context (option_list filter) row ≡ Ok false → updated_rows all context t.columns (option_list filter) places rights k t.rows ≡ Ok (t.rows, (k, 0))
    alone_passed holds = one_passed all context (option_list filter) (IsUnmet all filter) not_met t places rights number row rise there over k holds

    pub alone_set : (next : ℕ) (values : List Value) (after : Rows) → holds_all all context (option_list filter) row ≡ Ok true → updated_row all context t.columns places rights k row ≡ Ok (values, next)
        → after ≡ record t { rows = with_row t.rows number (record { values = values }) } → updated_rows all context t.columns (option_list filter) places rights k t.rows ≡ Ok (after.rows, (next, 1))
    alone_set next values after holds becomes set = one_set all context (option_list filter) (IsUnmet all filter) not_met t places rights number row rise there over k next values after holds becomes set

    pub alone_stopped : (e : SqlFault) → holds_all all context (option_list filter) row ≡ Err e → updated_rows all context t.columns (option_list filter) places rights k t.rows ≡ Err e
    alone_stopped e holds = one_stopped all context (option_list filter) (IsUnmet all filter) not_met t places rights number row rise there over k e holds

    pub alone_stopped_in : (e : SqlFault) → holds_all all context (option_list filter) row ≡ Ok true → updated_row all context t.columns places rights k row ≡ Err e → updated_rows all context t.columns (option_list filter) places rights k t.rows ≡ Err e
    alone_stopped_in e holds becomes = one_stopped_in all context (option_list filter) (IsUnmet all filter) not_met t places rights number row rise there over k e holds becomes

  pub alone_left : holds_all all context (option_list filter) row ≡ Ok false → remaining all context (option_list filter) t.rows ≡ Ok t.rows
  alone_left holds = one_left all context (option_list filter) (IsUnmet all filter) not_met t number row rise there over holds

  pub alone_gone : (after : Rows) → holds_all all context (option_list filter) row ≡ Ok true → after ≡ record t { rows = without_row t.rows number } → remaining all context (option_list filter) t.rows ≡ Ok after.rows
  alone_gone after holds unset = one_gone all context (option_list filter) (IsUnmet all filter) not_met t number row rise there over after holds unset

  pub alone_refused : (e : SqlFault) → holds_all all context (option_list filter) row ≡ Err e → remaining all context (option_list filter) t.rows ≡ Err e
  alone_refused e holds = one_refused all context (option_list filter) (IsUnmet all filter) not_met t number row rise there over e holds

-- One row is set, but for want of memory.
pub set_as : (t : Rows) (number next : ℕ) (values : List Value) (r : Result Updated SqlFault) (whole : Result (List (ℕ × Row) × (ℕ × ℕ)) SqlFault)
    → IfOk r (λ u. u.table ≡ record t { rows = with_row t.rows number (record { values = values }) }) → IfOk r (λ u. (u.next ≡ next) × (u.met ≡ 1)) → IfErr r (λ e. e ≡ faults.Memory)
    → ((after : Rows) → after ≡ record t { rows = with_row t.rows number (record { values = values }) } → whole ≡ Ok (after.rows, (next, 1))) → Computes (λ u. (u.table.rows, (u.next, u.met))) r whole
set_as t number next values (Ok u) whole set are memory is = is u.table set ∙ ap (λ (n : ℕ). Ok (u.table.rows, (n, 1))) (sym are.0) ∙ ap (λ (n : ℕ). Ok (u.table.rows, (u.next, n))) (sym are.1)
set_as t number next values (Err e) whole set are memory is = λ other. absurd (other memory)

-- No row is met.
module _ (all : Columns) (context : Context) (filter : Option Expr) (t : Rows) (over : PassesOver (IsUnmet all filter) t.rows key_rows.Nothing) where
  pub nothing_left : (d : Deleted) → d ≡ record { left = remainders.Same; removed = [] } → remaining all context (option_list filter) t.rows ≡ Ok (remainder_of t d.left).rows
  nothing_left d is = none_gone all context (option_list filter) (IsUnmet all filter) (λ r h. (h context).1) t.rows over ∙ ap (λ (x : Deleted). Ok (remainder_of t x.left).rows) (sym is)

  pub nothing_updated : (places : List ℕ) (rights : List Expr) (k : ℕ) (u : Updated) → u ≡ record { table = t; next = k; met = 0; touched = key_rows.Nothing; numbers = [] } → updated_rows all context t.columns (option_list filter) places rights k t.rows ≡ Ok (u.table.rows, (u.next, u.met))
  nothing_updated places rights k u is =
      none_updated all context (option_list filter) (IsUnmet all filter) (λ r h. (h context).1) t places rights k t.rows over ∙ ap (λ (x : Updated). Ok (x.table.rows, (x.next, x.met))) (sym is)

pub left_nothing : (all : Columns) (filter : Option Expr) (t : Rows) (q : KeyRows) → q ≡ key_rows.Nothing → PassesOver (IsUnmet all filter) t.rows q → PassesOver (IsUnmet all filter) t.rows key_rows.Nothing
left_nothing all filter t q is over = subst (λ (x : KeyRows). PassesOver (IsUnmet all filter) t.rows x) is over
