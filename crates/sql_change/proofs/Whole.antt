-- The definitions of INSERT, UPDATE and DELETE are their parts one after another.
use Rattle.std.proofs.Common.{◌≡◌, ℕ, ◌==◌, List, [], map, length, Option, Result, Ok, Err, refl, sym, ◌∙◌}
use Rattle.dl_base.specs.declared.answer.Limit.TheVariants as limits
use Rattle.dl_base.specs.declared.sql_fault.SqlFault.{SqlFault}
use Rattle.dl_base.specs.declared.sql_fault.SqlFault.TheVariants as faults
use Rattle.dl_base.specs.declared.statement.Expr.{Expr}
use Rattle.meaning_sql.specs.declared.Context.{Context}
use Rattle.meaning_sql.specs.declared.AggregateScope.TheVariants as scope
use Rattle.meaning_sql.specs.Faults.{◌>>=◌, ensure, option_list, try_map}
use Rattle.meaning_sql.specs.Types.{type_of}
use Rattle.meaning_statements.specs.Changing.{has_room, insert, update, delete, target_places, set_places, assigned, keys_hold, inserted_rows, updated_rows, remaining}
use Rattle.meaning_sql.specs.Conditions.{condition_type}
use Rattle.meaning_statements.specs.Sources.{no_row, present, own_columns}
use Rattle.meaning_tables.specs.Tables.{Tables, table_of}
use Rattle.sql_change.specs.Parts.{told, grown_table, with_rows, grown, filled, typed_in, put_in, inserted, replaced, set_rows, set_at, updated, left_over, deleted}

-- a step before two others
then : {A B C : Type 0} (m : Result A SqlFault) (f : A → Result B SqlFault) (g : B → Result C SqlFault) → (m >>= f >>= g) ≡ (m >>= λ x. f x >>= g)
then (Ok x) f g = refl
then (Err e) f g = refl

-- the same step before what is equal
before : {A B : Type 0} (m : Result A SqlFault) (f g : A → Result B SqlFault) → ((x : A) → f x ≡ g x) → (m >>= f) ≡ (m >>= g)
before (Ok x) f g same = same x
before (Err e) f g same = refl

-- one step more, and then the rest
step : {A B C : Type 0} (m : Result A SqlFault) (f : A → Result B SqlFault) (g : B → Result C SqlFault) (h : A → Result C SqlFault) → ((x : A) → (f x >>= g) ≡ h x) → (m >>= f >>= g) ≡ (m >>= h)
step m f g h same = then m f g ∙ before m (λ x. f x >>= g) h same

pub insert_is : (tables : Tables) (name : List ℕ) (names : Option (List (List ℕ))) (tuples : List (List Expr)) (context : Context) (k : ℕ)
    → insert tables name names tuples context k ≡ (present name (table_of tables name) >>= λ t. inserted t names tuples context k >>= λ m. Ok (told tables name m))
unfolding insert inserted put_in typed_in filled grown
insert_is tables name names tuples context k =
    sym (before (present name (table_of tables name)) _ _ (λ t.
    step (target_places t.columns names) _ _ _ (λ places.
    step (try_map (λ es. ensure (length es == length places) faults.Arity) tuples) _ _ _ (λ lengths.
    step (try_map (try_map (type_of [] scope.Row)) tuples) _ _ _ (λ types.
    step (try_map (assigned t.columns places) types) _ _ _ (λ fit.
    step (inserted_rows context [] no_row t.columns places t.next k tuples) _ _ _ (λ rows.
    step (ensure (has_room t (length tuples)) (faults.Limit limits.Rows)) _ _ _ (λ room.
    then (keys_hold (grown_table t rows.0 (length tuples))) _ _))))))))

pub update_is : (tables : Tables) (name : List ℕ) (sets : List (List ℕ × Expr)) (filter : Option Expr) (context : Context) (k : ℕ)
    → update tables name sets filter context k ≡ (present name (table_of tables name) >>= λ t. updated name t sets filter context k >>= λ m. Ok (told tables name m))
unfolding update updated set_at set_rows replaced
update_is tables name sets filter context k =
    sym (before (present name (table_of tables name)) _ _ (λ t.
    step (set_places t.columns [] (map (λ s. s.0) sets)) _ _ _ (λ places.
    step (try_map (λ s. type_of (own_columns name t) scope.Row s.1) sets) _ _ _ (λ types.
    step (try_map (condition_type (own_columns name t)) (option_list filter)) _ _ _ (λ conditions.
    step (assigned t.columns places types) _ _ _ (λ fit.
    step (updated_rows (own_columns name t) context t.columns (option_list filter) places (map (λ s. s.1) sets) k t.rows) _ _ _ (λ rows.
    then (keys_hold (with_rows t rows.0)) _ _)))))))

pub delete_is : (tables : Tables) (name : List ℕ) (filter : Option Expr) (context : Context) (k : ℕ)
    → delete tables name filter context k ≡ (present name (table_of tables name) >>= λ t. deleted name t filter context k >>= λ m. Ok (told tables name m))
unfolding delete left_over
delete_is tables name filter context k =
    sym (before (present name (table_of tables name)) _ _ (λ t.
    step (try_map (condition_type (own_columns name t)) (option_list filter)) _ _ _ (λ types.
    then (remaining (own_columns name t) context (option_list filter) t.rows) _ _)))
