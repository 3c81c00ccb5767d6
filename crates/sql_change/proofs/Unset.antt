-- An UPDATE that sets no key column leaves keys as they were.
use Rattle.std.proofs.Common.{◌≡◌, ◌+◌, ◌<◌, ◌==◌, ◌||◌, ◌&&◌, ℕ, suc, zero, Bool, true, false, List, [], ◌∷◌, length, Option, Some, None, is_none, Result, Ok, Err, if◌then◌else◌, refl, sym, ap, ◌∙◌, subst, arith, unwrap_or, nat_le}
use Rattle.std.specs.Prelude.{slice_get}
use Rattle.std.specs.Cmp.Lexicographic.{pointwise}
use Rattle.std.specs.List.{list_any, list_all}
use Rattle.std.proofs.lemmas.Bool.{and_parts}
use Rattle.std.proofs.lemmas.Bool.Decides.{nat_tests}
use Rattle.dl_base.specs.declared.column.Column.{Column}
use Rattle.dl_base.specs.declared.column.Kind.{Kind}
use Rattle.dl_base.specs.declared.column.Kind.TheVariants as kinds
use Rattle.dl_base.specs.declared.answer.Limit.TheVariants as limits
use Rattle.dl_base.specs.declared.sql_fault.SqlFault.{SqlFault}
use Rattle.dl_base.specs.declared.sql_fault.SqlFault.TheVariants as faults
use Rattle.dl_base.specs.declared.statement.Expr.{Expr}
use Rattle.dl_base.specs.declared.value.Dl.{Dl}
use Rattle.dl_base.specs.declared.value.LinkNo.{LinkNo}
use Rattle.dl_base.specs.declared.value.Row.{Row}
use Rattle.dl_base.specs.declared.value.Value.{Value}
use Rattle.dl_base.specs.declared.value.Value.TheVariants as values
use Rattle.dl_base.specs.Limits.{most_links}
use Rattle.meaning_sql.specs.declared.Context.{Context}
use Rattle.meaning_sql.specs.Columns.{Columns}
use Rattle.meaning_sql.specs.Conditions.{holds_all}
use Rattle.meaning_sql.specs.Faults.{◌>>=◌, try_map}
use Rattle.meaning_sql.specs.Values.{cell, meaning}
use Rattle.meaning_statements.specs.Assigning.{is_plain, is_within, kept_link, numbered, stored, stored_link, stored_row}
use Rattle.meaning_statements.specs.Changing.{keys_hold, duplicate, new_cell, with_cells, updated_row, updated_rows}
use Rattle.meaning_tables.specs.Fits.{same_key, is_key, key_of, fits_columns, fits_kind, fits_rule, repeated, repeated_key, table_fits}
use Rattle.meaning_tables.specs.Tables.{Rows}
use Rattle.sql_change.specs.Keys.{StoodKeys, is_key_at, is_key_column, sets_key}
use Rattle.sql_change.specs.Parts.{with_rows}
use Rattle.sql_change.proofs.Adding.{fitting_keys_hold}

-- no key tells one value from another
pub record Alike (v w : Value) : Type 0 where
  right : (x : Value) → same_key x v ≡ same_key x w
  left : (x : Value) → same_key v x ≡ same_key w x

alike : (v w : Value) → v ≡ w → Alike v w
alike v w is = record { right = λ x. ap (λ (y : Value). same_key x y) is; left = λ x. ap (λ (y : Value). same_key y x) is }

no_link : (d : Dl) (x : Value) → same_key x (values.Link d) ≡ false
no_link d values.Null = refl
no_link d (values.Int z) = refl
no_link d (values.Text t) = refl
no_link d (values.Link e) = refl

links_alike : (d e : Dl) → Alike (values.Link d) (values.Link e)
links_alike d e = record { right = λ x. no_link d x ∙ sym (no_link e x); left = λ x. refl }

abbrev pub AllAlike : List Value → List Value → Type 0
AllAlike [] [] = Unit {0}
AllAlike [] (w ∷ ws) = ⊥
AllAlike (v ∷ vs) [] = ⊥
AllAlike (v ∷ vs) (w ∷ ws) = Alike v w × AllAlike vs ws

-- a step that gives something
go_on : {A B P : Type 0} {f : A → Result B SqlFault} {y : B} (m : Result A SqlFault) → (m >>= f) ≡ Ok y → ((x : A) → m ≡ Ok x → f x ≡ Ok y → P) → P
go_on (Ok x) is goes = goes x refl is
go_on (Err e) is goes = absurd (cc)

abbrev ok : {A : Type 0} → A → Result A SqlFault
ok x = Ok x

given : {A : Type 0} (x y : A) → ok x ≡ Ok y → x ≡ y
given x y is = cc

-- what a key column stores is like what it is given
numbered_alike : (tx k : ℕ) (d : Dl) (own : Option LinkNo) (p : Value × ℕ) → numbered tx k d own ≡ Ok p → Alike p.0 (values.Link d)
numbered_alike tx k d (Some link) p is = subst (λ (q : Value × ℕ). Alike q.0 (values.Link d)) (given (values.Link (record d { link = Some link }), k) p is) (links_alike (record d { link = Some link }) d)
numbered_alike tx k d None p is = by (nat_le k most_links) is
  where
    by : (b : Bool) → (if b then Ok (values.Link (record d { link = Some (record { tx = tx; k = k }) }), suc k) else Err (faults.Limit limits.Links)) ≡ Ok p → Alike p.0 (values.Link d)
    by true is = subst (λ (q : Value × ℕ). Alike q.0 (values.Link d)) (given (values.Link (record d { link = Some (record { tx = tx; k = k }) }), suc k) p is) (links_alike (record d { link = Some (record { tx = tx; k = k }) }) d)
    by false is = absurd (cc is)

link_alike : (tx k : ℕ) (kind : Kind) (old : Value) (d : Dl) (p : Value × ℕ) → stored_link tx k kind old d ≡ Ok p → Alike p.0 (values.Link d)
link_alike tx k kinds.Int old d p is = absurd (cc is)
link_alike tx k (kinds.Text most) old d p is = absurd (cc is)
link_alike tx k kinds.Free old d p is = subst (λ (q : Value × ℕ). Alike q.0 (values.Link d)) (given (values.Link (record d { link = None }), k) p is) (links_alike (record d { link = None }) d)
link_alike tx k (kinds.Linked options) old d p is = numbered_alike tx k d (kept_link old d) p is

stored_alike : (tx k : ℕ) (c : Column) (old new : Value) (p : Value × ℕ) → stored tx k c old new ≡ Ok p → Alike p.0 new
unfolding stored
stored_alike tx k c old values.Null p is = by (is_plain c.rule) is
  where
    by : (b : Bool) → (if b then Ok (values.Null, k) else Err (faults.NullKey c.name)) ≡ Ok p → Alike p.0 values.Null
    by true is = alike p.0 values.Null (ap (λ (q : Value × ℕ). q.0) (sym (given _ p is)))
    by false is = absurd (cc is)
stored_alike tx k c old (values.Int z) p is = alike p.0 (values.Int z) (ap (λ (q : Value × ℕ). q.0) (sym (given _ p is)))
stored_alike tx k c old (values.Text t) p is = by (is_within c.kind t) is
  where
    by : (b : Bool) → (if b then Ok (values.Text t, k) else Err (faults.TooLong c.name)) ≡ Ok p → Alike p.0 (values.Text t)
    by true is = alike p.0 (values.Text t) (ap (λ (q : Value × ℕ). q.0) (sym (given _ p is)))
    by false is = absurd (cc is)
stored_alike tx k c old (values.Link d) p is = link_alike tx k c.kind old d p is

-- the cells of key columns are those before, as far as keys tell
abbrev SameKeyCells : List Column → ℕ → Row → Row → Type 0
SameKeyCells [] i old new = Unit {0}
SameKeyCells (c ∷ cs) i old new = (is_key c.rule ≡ true → cell new i ≡ cell old i) × SameKeyCells cs (i + 1) old new

-- the values from a place on are those of the cells
abbrev AreCells : List Value → ℕ → Row → Type 0
AreCells [] i row = Unit {0}
AreCells (v ∷ vs) i row = (cell row i ≡ v) × AreCells vs (i + 1) row

key_alike : (b : Bool) (v w : Value) (vs ws : List Value) → (b ≡ true → Alike v w) → AllAlike vs ws → AllAlike (if b then v ∷ vs else vs) (if b then w ∷ ws else ws)
key_alike true v w vs ws here more = (here refl, more)
key_alike false v w vs ws here more = more

row_alike : (tx k i : ℕ) (cs : List Column) (old new : Row) (olds : List Value) (q : List Value × ℕ) → stored_row tx k i cs old new ≡ Ok q → length olds ≡ length cs → AreCells olds i old → SameKeyCells cs i old new
    → AllAlike (key_of cs q.0) (key_of cs olds)
row_alike tx k i [] old new olds q is wide cells same = tt
row_alike tx k i (c ∷ cs) old new [] q is wide cells same = absurd (cc wide)
row_alike tx k i (c ∷ cs) old new (v ∷ vs) q is wide cells same =
    go_on (stored tx k c (cell old i) (cell new i)) is λ p here is.
    go_on (stored_row tx p.1 (i + 1) cs old new) is λ rest later is.
    subst (λ (x : List Value × ℕ). AllAlike (key_of (c ∷ cs) x.0) (key_of (c ∷ cs) (v ∷ vs))) (given _ q is)
    (key_alike (is_key c.rule) p.0 v (key_of cs rest.0) (key_of cs vs)
    (λ key. subst (λ (x : Value). Alike p.0 x) (same.0 key ∙ cells.0) (stored_alike tx k c (cell old i) (cell new i) p here))
    (row_alike tx p.1 (i + 1) cs old new vs rest later (omega (arith, wide)) cells.1 same.1))

-- lists of one length alike are the same as any key
same_left : (m ks ls : List Value) → AllAlike ks ls → pointwise same_key m ks ≡ pointwise same_key m ls
same_left [] [] [] like = refl
same_left [] [] (l ∷ ls) like = absurd like
same_left [] (k ∷ ks) [] like = absurd like
same_left [] (k ∷ ks) (l ∷ ls) like = refl
same_left (x ∷ xs) [] [] like = refl
same_left (x ∷ xs) [] (l ∷ ls) like = absurd like
same_left (x ∷ xs) (k ∷ ks) [] like = absurd like
same_left (x ∷ xs) (k ∷ ks) (l ∷ ls) like = rw (like.0.right x, same_left xs ks ls like.1) refl

same_right : (m ks ls : List Value) → AllAlike ks ls → pointwise same_key ks m ≡ pointwise same_key ls m
same_right [] [] [] like = refl
same_right [] [] (l ∷ ls) like = absurd like
same_right [] (k ∷ ks) [] like = absurd like
same_right [] (k ∷ ks) (l ∷ ls) like = refl
same_right (x ∷ xs) [] [] like = refl
same_right (x ∷ xs) [] (l ∷ ls) like = absurd like
same_right (x ∷ xs) (k ∷ ks) [] like = absurd like
same_right (x ∷ xs) (k ∷ ks) (l ∷ ls) like = rw (like.0.left x, same_right xs ks ls like.1) refl

abbrev KeysAlike : StoodKeys → StoodKeys → Type 0
KeysAlike [] [] = Unit {0}
KeysAlike [] (l ∷ ls) = ⊥
KeysAlike (k ∷ ks) [] = ⊥
KeysAlike (k ∷ ks) (l ∷ ls) = AllAlike k l × KeysAlike ks ls

same_among : (k l : List Value) (ks ls : StoodKeys) → AllAlike k l → KeysAlike ks ls → list_any (pointwise same_key k) ks ≡ list_any (pointwise same_key l) ls
same_among k l [] [] like all = refl
same_among k l [] (y ∷ ys) like all = absurd all
same_among k l (x ∷ xs) [] like all = absurd all
same_among k l (x ∷ xs) (y ∷ ys) like all = rw (same_right x k l like, same_left l x y all.0, same_among k l xs ys like all.1) refl

-- rows of the same numbers, whose keys are alike
abbrev pub RowsAlike : List Column → List (ℕ × Row) → List (ℕ × Row) → Type 0
RowsAlike columns [] [] = Unit {0}
RowsAlike columns [] (o ∷ os) = ⊥
RowsAlike columns (n ∷ ns) [] = ⊥
RowsAlike columns (n ∷ ns) (o ∷ os) = (n.0 ≡ o.0) × AllAlike (key_of columns n.1.values) (key_of columns o.1.values) × RowsAlike columns ns os

same_repeated : (columns : List Column) (ks ls : StoodKeys) (news olds : List (ℕ × Row)) → KeysAlike ks ls → RowsAlike columns news olds → repeated columns ks news ≡ repeated columns ls olds
same_repeated columns ks ls [] [] keys rows = refl
same_repeated columns ks ls [] (o ∷ os) keys rows = absurd rows
same_repeated columns ks ls (n ∷ ns) [] keys rows = absurd rows
same_repeated columns ks ls (n ∷ ns) (o ∷ os) keys rows =
    rw (rows.0, same_among (key_of columns n.1.values) (key_of columns o.1.values) ks ls rows.1 keys, same_repeated columns (key_of columns n.1.values ∷ ks) (key_of columns o.1.values ∷ ls) ns os (rows.1, keys) rows.2) refl

-- a column that is no key is the only one that is set
not_set : (columns : List Column) (places : List ℕ) (news : Row) (q i : ℕ) (old : Value) → sets_key columns places ≡ false → is_key_at columns i ≡ true → new_cell q places news i old ≡ old
not_set columns [] news q i old none key = refl
not_set columns (p ∷ ps) news q i old none key = by (not_set columns ps news (q + 1) i old) (p == i) refl (is_key_at columns p) refl none
  where
    by : (sets_key columns ps ≡ false → is_key_at columns i ≡ true → new_cell (q + 1) ps news i old ≡ old) → (b : Bool) → (p == i) ≡ b → (a : Bool) → is_key_at columns p ≡ a → (a || sets_key columns ps) ≡ false → (if b then cell news q else new_cell (q + 1) ps news i old) ≡ old
    by later b same true is none = absurd (cc none)
    by later true same false is none = let e : p ≡ i = grind (arith, nat_tests) in absurd (cc (sym key ∙ ap (λ (n : ℕ). is_key_at columns n) (sym e) ∙ is))
    by later false same false is none = later none key

-- the cells of a row with new values in some places
pub at_place : (places : List ℕ) (news : Row) (m i : ℕ) (vs : List Value) → i < length vs → unwrap_or (slice_get (with_cells places news m vs) i) values.Null ≡ new_cell 0 places news (m + i) (unwrap_or (slice_get vs i) values.Null)
at_place places news m i [] within = absurd (omega (arith, within))
at_place places news m zero (v ∷ vs) within = ap (λ (n : ℕ). new_cell 0 places news n v) (counts m)
  where
    counts : (a : ℕ) → a ≡ a + 0
    counts a = omega arith
at_place places news m (suc i) (v ∷ vs) within = at_place places news (m + 1) i vs (omega (arith, within)) ∙ ap (λ (n : ℕ). new_cell 0 places news n (unwrap_or (slice_get vs i) values.Null)) (counts m i)
  where
    counts : (a b : ℕ) → a + 1 + b ≡ a + suc b
    counts a b = omega arith

shift : (i j : ℕ) → i + suc j ≡ i + 1 + j
shift i j = omega arith

at_zero : (i : ℕ) → 0 + i ≡ i
at_zero i = omega arith

at_number : (places : List ℕ) (news : Row) (m i n : ℕ) (vs : List Value) → m + i ≡ n → i < length vs → unwrap_or (slice_get (with_cells places news m vs) i) values.Null ≡ new_cell 0 places news n (unwrap_or (slice_get vs i) values.Null)
at_number places news m i n vs is within = at_place places news m i vs within ∙ ap (λ (x : ℕ). new_cell 0 places news x (unwrap_or (slice_get vs i) values.Null)) is

here_at : (i : ℕ) → i + 0 ≡ i
here_at i = omega arith

same_cells : (columns : List Column) (places : List ℕ) (news row : Row) (cs : List Column) (i : ℕ) → ((j : ℕ) → slice_get cs j ≡ slice_get columns (i + j)) → length row.values ≡ i + length cs → sets_key columns places ≡ false
    → SameKeyCells cs i row (record { values = with_cells places news 0 row.values })
unfolding cell
same_cells columns places news row [] i at wide none = tt
same_cells columns places news row (c ∷ cs) i at wide none = (
  (λ key.
      let first : unwrap_or (slice_get (with_cells places news 0 row.values) i) values.Null ≡ new_cell 0 places news i (unwrap_or (slice_get row.values i) values.Null) = at_number places news 0 i i row.values (at_zero i) (omega (arith, wide)) in
      first
      ∙ not_set columns places news 0 i (unwrap_or (slice_get row.values i) values.Null) none
      (ap (λ (n : ℕ). is_key_at columns n) (sym (here_at i)) ∙ ap (λ (o : Option Column). is_key_column o) (sym (at 0)) ∙ key)),
  same_cells columns places news row cs (i + 1) (λ j. at (suc j) ∙ ap (λ (n : ℕ). slice_get columns n) (shift i j)) (omega (arith, wide)) none,
)

are_cells : (row : Row) (vs : List Value) (i : ℕ) → ((j : ℕ) → slice_get vs j ≡ slice_get row.values (i + j)) → AreCells vs i row
unfolding cell
are_cells row [] i at = tt
are_cells row (v ∷ vs) i at = (
  ap (λ (n : ℕ). unwrap_or (slice_get row.values n) values.Null) (sym (here_at i)) ∙ ap (λ (o : Option Value). unwrap_or o values.Null) (sym (at 0)),
  are_cells row vs (i + 1) (λ j. at (suc j) ∙ ap (λ (n : ℕ). slice_get row.values n) (shift i j)),
)

from_zero : {A : Type 0} (xs : List A) (j : ℕ) → slice_get xs j ≡ slice_get xs (0 + j)
from_zero xs j = ap (λ (n : ℕ). slice_get xs n) (counts j)
  where
    counts : (a : ℕ) → a ≡ 0 + a
    counts a = omega arith

itself_alike : (vs : List Value) → AllAlike vs vs
itself_alike [] = tt
itself_alike (v ∷ vs) = (alike v v refl, itself_alike vs)

one_each : (cs : List Column) (vs : List Value) → fits_columns cs vs ≡ true → length vs ≡ length cs
one_each [] [] fits = refl
one_each [] (v ∷ vs) fits = absurd (cc fits)
one_each (c ∷ cs) [] fits = absurd (cc fits)
one_each (c ∷ cs) (v ∷ vs) fits = ap (λ (n : ℕ). suc n) (one_each cs vs (last (fits_kind c.kind v) (fits_rule c.rule v) (fits_columns cs vs) fits))
  where
    last : (a b d : Bool) → (a && b && d) ≡ true → d ≡ true
    last true true d h = h
    last true false d h = absurd (cc h)
    last false b d h = absurd (cc h)

module _ (all : Columns) (context : Context) (columns : List Column) (conditions : List Expr) (places : List ℕ) (rights : List Expr) (none : sets_key columns places ≡ false) where
  updated_alike : (k : ℕ) (row : Row) (q : List Value × ℕ) → updated_row all context columns places rights k row ≡ Ok q → length row.values ≡ length columns → AllAlike (key_of columns q.0) (key_of columns row.values)
  unfolding updated_row
  updated_alike k row q is wide =
      go_on (try_map (λ e. meaning all context [] e row) rights) is λ vs _ is.
      row_alike context.tx k 0 columns row (record { values = with_cells places (record { values = vs }) 0 row.values }) row.values q is wide (are_cells row row.values 0 (from_zero row.values))
      (same_cells columns places (record { values = vs }) row columns 0 (from_zero columns) (omega (arith, wide)) none)

  one_alike : (k : ℕ) (row : Row) (met : Bool) (q : List Value × ℕ) → (if met then updated_row all context columns places rights k row else Ok (row.values, k)) ≡ Ok q → length row.values ≡ length columns
      → AllAlike (key_of columns q.0) (key_of columns row.values)
  one_alike k row true q is wide = updated_alike k row q is wide
  one_alike k row false q is wide = subst (λ (x : List Value × ℕ). AllAlike (key_of columns x.0) (key_of columns row.values)) (given _ q is) (itself_alike (key_of columns row.values))

  rows_alike : (k : ℕ) (rows : List (ℕ × Row)) (q : List (ℕ × Row) × (ℕ × ℕ)) → updated_rows all context columns conditions places rights k rows ≡ Ok q → list_all (λ (r : ℕ × Row). fits_columns columns r.1.values) rows ≡ true → RowsAlike columns q.0 rows
  rows_alike k [] q is fits = subst (λ (x : List (ℕ × Row) × (ℕ × ℕ)). RowsAlike columns x.0 []) (given _ q is) tt
  rows_alike k (r ∷ rs) q is fits =
      let both = and_parts (fits_columns columns r.1.values) (list_all (λ (x : ℕ × Row). fits_columns columns x.1.values) rs) fits in
      go_on (holds_all all context conditions r.1) is λ met _ is.
      go_on (if met then updated_row all context columns places rights k r.1 else Ok (r.1.values, k)) is λ one here is.
      go_on (updated_rows all context columns conditions places rights one.1 rs) is λ rest later is.
      subst (λ (x : List (ℕ × Row) × (ℕ × ℕ)). RowsAlike columns x.0 (r ∷ rs)) (given _ q is)
      (refl, one_alike k r.1 met one here (one_each columns r.1.values both.0), rows_alike one.1 rs rest later both.1)

-- so keys that differ still do
pub keys_kept : (all : Columns) (context : Context) (t : Rows) (conditions : List Expr) (places : List ℕ) (rights : List Expr) (k : ℕ) (q : List (ℕ × Row) × (ℕ × ℕ)) → sets_key t.columns places ≡ false → table_fits t ≡ true
    → updated_rows all context t.columns conditions places rights k t.rows ≡ Ok q → keys_hold (with_rows t q.0) ≡ Ok true
keys_kept all context t conditions places rights k q none fits is =
    let both = and_parts (list_all (λ (r : ℕ × Row). fits_columns t.columns r.1.values) t.rows) (is_none (repeated_key t)) fits in
    ap (λ (found : Option ℕ). duplicate (if list_any (λ (c : Column). is_key c.rule) t.columns then found else None)) (same_repeated t.columns [] [] q.0 t.rows tt (rows_alike all context t.columns conditions places rights none k t.rows q is both.0))
    ∙ fitting_keys_hold t fits

pub unset_hold : (all : Columns) (context : Context) (t : Rows) (conditions : List Expr) (places : List ℕ) (rights : List Expr) (k : ℕ) (after : Rows) (next met : ℕ) → table_fits t ≡ true
    → updated_rows all context t.columns conditions places rights k t.rows ≡ Ok (after.rows, (next, met)) → after ≡ record t { rows = after.rows } → (keyed : Bool) → keyed ≡ sets_key t.columns places → keyed ≡ false → keys_hold after ≡ Ok true
unset_hold all context t conditions places rights k after next met fits is others keyed sets none =
    ap (λ (x : Rows). keys_hold x) others ∙ keys_kept all context t conditions places rights k (after.rows, (next, met)) (sym sets ∙ none) fits is
