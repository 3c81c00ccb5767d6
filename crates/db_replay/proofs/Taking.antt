-- A row is taken out of tables, and asked for among what is left.
use Rattle.std.proofs.Common.{◌≡◌, ℕ, ◌==◌, ◌&&◌, Bool, true, false, cond, bytes_eq, List, [], ◌∷◌, Option, Some, None, Result, Ok, Err, OnOk, IfOk, refl, sym, ap, ◌∙◌}
use Rattle.dl_base.specs.declared.value.Row.{Row}
use Rattle.meaning_tables.specs.Fits.{fits}
use Rattle.meaning_tables.specs.Tables.{Rows, Tables, row_of, table_of, with_table, without_row}
use Rattle.db_replay.specs.Replaying.{columns_stand_in}
use Rattle.db_replay.specs.Standing.{row_at, row_in, row_stands_in, without_row_at, without_row_in}
use Rattle.db_replay.proofs.Changing.{columns_found}
use Rattle.db_replay.proofs.ColumnLaws.{rules_of}
use Rattle.db_replay.proofs.Step.{step, there}

-- where the row was there
pub taken : (ts after : Tables) (name : List ℕ) (number : ℕ) (row : Row) (stands : Bool) → columns_stand_in ts ≡ true → Some row ≡ row_in ts name number → after ≡ without_row_in ts name number → stands ≡ row_stands_in after row (table_of after name) → fits ts ≡ (stands && fits after)
taken ts after name number row stands columns is left e = by (table_of ts name) refl is left
  where
    by : (o : Option Rows) → table_of ts name ≡ o → Some row ≡ row_at number o → after ≡ without_row_at ts name number o → fits ts ≡ (stands && fits after)
    by None at is left = cc is
    by (Some t) at is left =
        let found : row_of t.rows number ≡ Some row = sym is in
        let rules = rules_of t.columns (columns_found ts name t columns at) in
        let here = ap (λ (us : Tables). table_of us name) left ∙ there ts name number t row at found rules in
        step ts name number t row at found rules
        ∙ ap (λ (us : Tables). row_stands_in us row (Some (record t { rows = without_row t.rows number })) && fits us) (sym left)
        ∙ ap (λ (o : Option Rows). row_stands_in after row o && fits after) (sym here)
        ∙ ap (λ b. b && fits after) (sym e)

none-removed : (rows : List (ℕ × Row)) (number : ℕ) → row_of rows number ≡ None → without_row rows number ≡ rows
none-removed [] number none = refl
none-removed (r ∷ rs) number none = by (number == r.0) none (λ e. none-removed rs number e)
  where
    by : (b : Bool) → cond b (Some r.1) (row_of rs number) ≡ None → (row_of rs number ≡ None → without_row rs number ≡ rs) → cond b rs (r ∷ without_row rs number) ≡ r ∷ rs
    by true e go = cc e
    by false e go = ap (λ (xs : List (ℕ × Row)). r ∷ xs) (go e)

put-itself : (ts : Tables) (name : List ℕ) (t : Rows) → table_of ts name ≡ Some t → with_table ts name t ≡ ts
put-itself [] name t at = refl
put-itself (x ∷ xs) name t at = by (bytes_eq name x.0) at (λ e. put-itself xs name t e)
  where
    same : (a b : Rows) → Some a ≡ Some b → a ≡ b
    same a b e = cc e

    by : (b : Bool) → cond b (Some x.1) (table_of xs name) ≡ Some t → (table_of xs name ≡ Some t → with_table xs name t ≡ xs) → cond b ((x.0, t) ∷ xs) (x ∷ with_table xs name t) ≡ x ∷ xs
    by true e go = ap (λ (u : Rows). (x.0, u) ∷ xs) (sym (same x.1 t e))
    by false e go = ap (λ (us : Tables). x ∷ us) (go e)

-- where it was not
pub not_taken : (ts after : Tables) (name : List ℕ) (number : ℕ) → None ≡ row_in ts name number → after ≡ without_row_in ts name number → fits ts ≡ fits after
not_taken ts after name number none left = by (table_of ts name) refl none left
  where
    by : (o : Option Rows) → table_of ts name ≡ o → None ≡ row_at number o → after ≡ without_row_at ts name number o → fits ts ≡ fits after
    by None at none left = ap (λ (us : Tables). fits us) (sym left)
    by (Some t) at none left =
        ap (λ (us : Tables). fits us)
        (sym (left ∙ ap (λ (rs : List (ℕ × Row)). with_table ts name (record t { rows = rs })) (none-removed t.rows number (sym none)) ∙ put-itself ts name t at))

-- the row of a number goes from the table of a name, and from no other
pub without_table : (ts after : Tables) (name : List ℕ) (number : ℕ) (t : Rows) → table_of ts name ≡ Some t → after ≡ with_table ts name (record t { rows = without_row t.rows number }) → after ≡ without_row_in ts name number
without_table ts after name number t at e = e ∙ ap (λ (o : Option Rows). without_row_at ts name number o) (sym at)

pub without_none : (ts : Tables) (name : List ℕ) (number : ℕ) → table_of ts name ≡ None → ts ≡ without_row_in ts name number
without_none ts name number at = ap (λ (o : Option Rows). without_row_at ts name number o) (sym at)

-- what follows where a call went well

pub on_ok : {X E : Type 0} (r : Result X E) (P Q : Type 0) → (P → Q) → OnOk r P → OnOk r Q
on_ok (Ok x) P Q f p = f p
on_ok (Err e) P Q f p = p

pub if_ok : {X E : Type 0} (r : Result X E) (P Q : X → Type 0) → ((x : X) → P x → Q x) → IfOk r P → IfOk r Q
if_ok (Ok x) P Q f p = f x p
if_ok (Err e) P Q f p = p
