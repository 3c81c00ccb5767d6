-- A STATEMENT SEES ONLY WHAT IT NAMES: over tables that agree on its names it has one outcome, and does one deed.
use Rattle.std.proofs.Common.{◌≡◌, ℕ, ◌+◌, ◌==◌, ◌||◌, ◌++◌, Bool, true, false, List, [], ◌∷◌, map, length, bytes_eq, Option, Some, None, is_none, Result, Ok, Err, nat_le, ◌-◌, refl, sym, ◌∙◌, ap, subst}
use Rattle.dl_base.specs.Limits.{most_columns}
use Rattle.dl_base.specs.declared.answer.Limit.TheVariants as limits
use Rattle.dl_base.specs.declared.sql_fault.SqlFault.{SqlFault}
use Rattle.dl_base.specs.declared.sql_fault.SqlFault.TheVariants as faults
use Rattle.dl_base.specs.declared.statement.ColumnDef.{ColumnDef}
use Rattle.dl_base.specs.declared.statement.Expr.{Expr}
use Rattle.dl_base.specs.declared.statement.Select.{Select}
use Rattle.dl_base.specs.declared.statement.Stmt.{Stmt}
use Rattle.dl_base.specs.declared.statement.Stmt.TheVariants as statements
use Rattle.dl_base.specs.declared.statement.TableRef.{TableRef}
use Rattle.dl_base.specs.declared.value.Row.{Row}
use Rattle.meaning_sql.specs.declared.Context.{Context}
use Rattle.meaning_sql.specs.declared.AggregateScope.TheVariants as scope
use Rattle.meaning_sql.specs.Conditions.{condition_type}
use Rattle.meaning_sql.specs.Faults.{◌>>=◌, ensure, option_list, try_map}
use Rattle.meaning_sql.specs.Types.{type_of}
use Rattle.meaning_statements.specs.Changing.{Changed, assigned, delete, drop_table, has_room, insert, inserted_rows, keys_hold, remaining, set_places, target_places, update, updated_rows}
use Rattle.meaning_statements.specs.Creating.{columns_made}
use Rattle.meaning_statements.specs.Selecting.{select}
use Rattle.meaning_statements.specs.Sources.{Source, no_row, own_columns, present, source_name}
use Rattle.meaning_tables.specs.Tables.{Rows, Tables, new_table, table_of, with_table}
use Rattle.sql_invariants.proofs.Changes.{is_there}
use Rattle.sql_invariants.proofs.Steps.{held, ok}
use Rattle.meaning_merge.specs.History.{is_among}
use Rattle.meaning_merge.proofs.Keeping.{name-self}
use Rattle.meaning_system.specs.Sql.{Evaluated, after_change, after_select, evaluated, named_by}
use Rattle.meaning_serial.specs.Freely.{create_freely, evaluated_freely}
use Rattle.meaning_serial.proofs.Deeds.{Deed, IsDeed, drops, makes, nothing, puts, with_deed}

-- what a change of ts and one of us came to: the same refusal, or one deed
pub data Both (names : List (List ℕ)) (ts us : Tables) : Result Changed SqlFault → Result Changed SqlFault → Type 0 where
  refuses : (fault : SqlFault) → Both names ts us (Err fault) (Err fault)
  does : (deed : Deed) (next count : ℕ) → IsDeed names ts deed
      → Both names ts us (Ok (record { tables = with_deed ts deed; next = next; count = count })) (Ok (record { tables = with_deed us deed; next = next; count = count }))

-- what a statement over ts and one over us came to
pub record Outcome (names : List (List ℕ)) (ts us : Tables) (e f : Evaluated) : Type 0 where
  pub deed : Deed
  pub valid : IsDeed names ts deed
  pub answer : f.answer ≡ e.answer
  pub next : f.next ≡ e.next
  pub left : e.tables ≡ with_deed ts deed
  pub right : f.tables ≡ with_deed us deed

-- tables with another table under a name
abbrev with_one : Tables → List ℕ → Rows → ℕ → ℕ → Changed
with_one tables name later next count = record { tables = with_table tables name later; next = next; count = count }

-- a name is among itself
only : (name : List ℕ) → is_among (name ∷ []) name ≡ true
only name = ap (λ b. b || false) (name-self name)

-- the sources of a query, whichever tables they are found in

abbrev found_in : TableRef → Option Rows → Result Source SqlFault
found_in r o = present r.table o >>= λ t. Ok (record { name = source_name r; table = t })

abbrev joined : Result Source SqlFault → Result (List Source) SqlFault → Result (List Source) SqlFault
joined one rest = one >>= λ y. rest >>= λ ys. Ok (y ∷ ys)

abbrev all_found : Tables → List TableRef → Result (List Source) SqlFault
all_found tables from = try_map (λ r. present r.table (table_of tables r.table) >>= λ t. Ok (record { name = source_name r; table = t })) from

module _ (names : List (List ℕ)) (ts us : Tables) where
  -- one step of both, and then other ones on what it gave
  go_both : {A : Type 0} {f g : A → Result Changed SqlFault} {m n : Result Changed SqlFault} (a : Result A SqlFault) → (a >>= f) ≡ m → (a >>= g) ≡ n
      → ((x : A) → a ≡ Ok x → f x ≡ m → g x ≡ n → Both names ts us m n) → Both names ts us m n
  go_both (Ok x) is js goes = goes x refl is js
  go_both {m = m} {n = n} (Err fault) is js goes = subst (λ (r : Result Changed SqlFault). Both names ts us m r) js (subst (λ (r : Result Changed SqlFault). Both names ts us r (Err fault)) is (refuses fault))

  -- a first step that is the same of both
  go_first : {A : Type 0} {f g : A → Result Changed SqlFault} {m n : Result Changed SqlFault} (a b : Result A SqlFault) → b ≡ a → (a >>= f) ≡ m → (b >>= g) ≡ n
      → ((x : A) → a ≡ Ok x → f x ≡ m → g x ≡ n → Both names ts us m n) → Both names ts us m n
  go_first {A} {g = g} a b same is js goes = go_both a is (ap (λ (r : Result A SqlFault). r >>= g) (sym same) ∙ js) goes

  ends : {a b m n : Result Changed SqlFault} → a ≡ m → b ≡ n → Both names ts us a b → Both names ts us m n
  ends {b = b} {m = m} is js one = subst (λ (r : Result Changed SqlFault). Both names ts us m r) js (subst (λ (r : Result Changed SqlFault). Both names ts us r b) is one)

  -- a table of these names
  module _ (name : List ℕ) (among : is_among names name ≡ true) (same : table_of us name ≡ table_of ts name) where
    there : present name (table_of us name) ≡ present name (table_of ts name)
    there = ap (present name) same

    put : (t later : Rows) (next count : ℕ) {m n : Result Changed SqlFault} → present name (table_of ts name) ≡ Ok t → later.version ≡ t.version
        → ok (with_one ts name later next count) ≡ m → ok (with_one us name later next count) ≡ n → Both names ts us m n
    put t later next count found version is js = ends is js (does (puts name later) next count (among, t, is_there name (table_of ts name) t found, version))

    created : (columns : List ColumnDef) (k : ℕ) (m n : Result Changed SqlFault) → create_freely ts name columns k ≡ m → create_freely us name columns k ≡ n → Both names ts us m n
    unfolding create_freely
    created columns k m n is js =
        go_first (ensure (is_none (table_of ts name)) (faults.TableExists name)) (ensure (is_none (table_of us name)) (faults.TableExists name)) (ap (λ (o : Option Rows). ensure (is_none o) (faults.TableExists name)) same) is js λ absent none is js.
        go_both (ensure (nat_le (length columns) most_columns) (faults.Limit limits.Columns)) is js λ few _ is js.
        go_both (columns_made [] false columns) is js λ made _ is js.
        ends is js (does (makes name (new_table made)) k 0 (among, is_new (table_of ts name) (held (is_none (table_of ts name)) true absent (faults.TableExists name) none).test, refl))
      where
        is_new : (o : Option Rows) → is_none o ≡ true → o ≡ None
        is_new None e = refl
        is_new (Some t) e = absurd cc

    dropped : (k : ℕ) (m n : Result Changed SqlFault) → drop_table ts name k ≡ m → drop_table us name k ≡ n → Both names ts us m n
    unfolding drop_table
    dropped k m n is js =
        go_first (present name (table_of ts name)) (present name (table_of us name)) there is js λ t _ is js.
        ends is js (does (drops name) k 0 among)

    inserted : (named : Option (List (List ℕ))) (tuples : List (List Expr)) (context : Context) (k : ℕ) (m n : Result Changed SqlFault) → insert ts name named tuples context k ≡ m → insert us name named tuples context k ≡ n → Both names ts us m n
    unfolding insert
    inserted named tuples context k m n is js =
        go_first (present name (table_of ts name)) (present name (table_of us name)) there is js λ t found is js.
        go_both (target_places t.columns named) is js λ places _ is js.
        go_both (try_map (λ es. ensure (length es == length places) faults.Arity) tuples) is js λ lengths _ is js.
        go_both (try_map (try_map (type_of [] scope.Row)) tuples) is js λ types _ is js.
        go_both (try_map (assigned t.columns places) types) is js λ fit _ is js.
        go_both (inserted_rows context [] no_row t.columns places t.next k tuples) is js λ rows _ is js.
        go_both (ensure (has_room t (length tuples)) (faults.Limit limits.Rows)) is js λ room _ is js.
        go_both (keys_hold (record t { next = t.next + length tuples; rows = t.rows ++ rows.0 })) is js λ keys _ is js.
        put t (record t { next = t.next + length tuples; rows = t.rows ++ rows.0 }) rows.1 (length tuples) found refl is js

    updated : (sets : List (List ℕ × Expr)) (filter : Option Expr) (context : Context) (k : ℕ) (m n : Result Changed SqlFault) → update ts name sets filter context k ≡ m → update us name sets filter context k ≡ n → Both names ts us m n
    unfolding update
    updated sets filter context k m n is js =
        go_first (present name (table_of ts name)) (present name (table_of us name)) there is js λ t found is js.
        go_both (set_places t.columns [] (map (λ s. s.0) sets)) is js λ places _ is js.
        go_both (try_map (λ s. type_of (own_columns name t) scope.Row s.1) sets) is js λ types _ is js.
        go_both (try_map (condition_type (own_columns name t)) (option_list filter)) is js λ conditions _ is js.
        go_both (assigned t.columns places types) is js λ fit _ is js.
        go_both (updated_rows (own_columns name t) context t.columns (option_list filter) places (map (λ s. s.1) sets) k t.rows) is js λ rows _ is js.
        go_both (keys_hold (record t { rows = rows.0 })) is js λ keys _ is js.
        put t (record t { rows = rows.0 }) rows.1.0 rows.1.1 found refl is js

    deleted : (filter : Option Expr) (context : Context) (k : ℕ) (m n : Result Changed SqlFault) → delete ts name filter context k ≡ m → delete us name filter context k ≡ n → Both names ts us m n
    unfolding delete
    deleted filter context k m n is js =
        go_first (present name (table_of ts name)) (present name (table_of us name)) there is js λ t found is js.
        go_both (try_map (condition_type (own_columns name t)) (option_list filter)) is js λ types _ is js.
        go_both (remaining (own_columns name t) context (option_list filter) t.rows) is js λ rows _ is js.
        put t (record t { rows = rows }) k (length t.rows - length rows) found refl is js

  -- ---- queries

  same-found : (from : List TableRef) → ((n : List ℕ) → is_among (map (λ (r : TableRef). r.table) from) n ≡ true → table_of us n ≡ table_of ts n) → all_found us from ≡ all_found ts from
  same-found [] same = refl
  same-found (r ∷ rs) same =
      ap (λ (o : Option Rows). joined (found_in r o) (all_found us rs)) (same r.table (ap (λ b. b || is_among (map (λ (x : TableRef). x.table) rs) r.table) (name-self r.table)))
      ∙ ap (joined (found_in r (table_of ts r.table))) (same-found rs (λ n is. same n (later (bytes_eq n r.table) (is_among (map (λ (x : TableRef). x.table) rs) n) is)))
    where
      later : (a b : Bool) → b ≡ true → (a || b) ≡ true
      later true b e = refl
      later false b e = e

  same-select : (q : Select) (context : Context) → ((n : List ℕ) → is_among (map (λ (r : TableRef). r.table) q.from) n ≡ true → table_of us n ≡ table_of ts n) → select us q context ≡ select ts q context
  unfolding select
  same-select q context same = rw (same-found q.from same)

  -- ---- all statements

  changed : (defines : Bool) (k : ℕ) {m n : Result Changed SqlFault} → Both names ts us m n → Outcome names ts us (after_change ts defines k m) (after_change us defines k n)
  changed defines k (refuses fault) = record { deed = nothing; valid = tt; answer = refl; next = refl; left = refl; right = refl }
  changed defines k (does deed next count valid) = record { deed = deed; valid = valid; answer = refl; next = refl; left = refl; right = refl }

  asked : (k : ℕ) (m n : Result (List Row) SqlFault) → n ≡ m → Outcome names ts us (after_select ts k m) (after_select us k n)
  asked k m n same = subst (λ (r : Result (List Row) SqlFault). Outcome names ts us (after_select ts k m) (after_select us k r)) (sym same) (by m)
    where
      by : (r : Result (List Row) SqlFault) → Outcome names ts us (after_select ts k r) (after_select us k r)
      by (Ok rows) = record { deed = nothing; valid = tt; answer = refl; next = refl; left = refl; right = refl }
      by (Err fault) = record { deed = nothing; valid = tt; answer = refl; next = refl; left = refl; right = refl }

  pub outcome : (stmt : Stmt) (context : Context) (k : ℕ) → ((n : List ℕ) → is_among (named_by stmt) n ≡ true → is_among names n ≡ true) → ((n : List ℕ) → is_among (named_by stmt) n ≡ true → table_of us n ≡ table_of ts n)
      → Outcome names ts us (evaluated_freely ts stmt context k) (evaluated_freely us stmt context k)
  unfolding evaluated_freely evaluated
  outcome (statements.CreateTable name columns) context k within same = let self = only name in changed true k (created name (within name self) (same name self) columns k (create_freely ts name columns k) (create_freely us name columns k) refl refl)
  outcome (statements.DropTable name) context k within same = let self = only name in changed true k (dropped name (within name self) (same name self) k (drop_table ts name k) (drop_table us name k) refl refl)
  outcome (statements.Insert name named tuples) context k within same = let self = only name in changed false k (inserted name (within name self) (same name self) named tuples context k (insert ts name named tuples context k) (insert us name named tuples context k) refl refl)
  outcome (statements.Update name sets filter) context k within same = let self = only name in changed false k (updated name (within name self) (same name self) sets filter context k (update ts name sets filter context k) (update us name sets filter context k) refl refl)
  outcome (statements.Delete name filter) context k within same = let self = only name in changed false k (deleted name (within name self) (same name self) filter context k (delete ts name filter context k) (delete us name filter context k) refl refl)
  outcome (statements.Select q) context k within same = asked k (select ts q context) (select us q context) (same-select q context same)
  outcome statements.Begin context k within same = record { deed = nothing; valid = tt; answer = refl; next = refl; left = refl; right = refl }
  outcome statements.Commit context k within same = record { deed = nothing; valid = tt; answer = refl; next = refl; left = refl; right = refl }
  outcome statements.Rollback context k within same = record { deed = nothing; valid = tt; answer = refl; next = refl; left = refl; right = refl }
