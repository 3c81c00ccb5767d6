-- Changes of tables as they are done, and the columns of tables through them.
use Rattle.std.proofs.Common.{◌≡◌, ℕ, ◌&&◌, Bool, true, false, cond, bytes_eq, List, [], ◌∷◌, ◌++◌, Option, Some, None, refl, sym, ap, ◌∙◌, subst}
use Rattle.std.specs.Option.{option_and_then}
use Rattle.std.proofs.lemmas.Bool.{and_from, and_parts}
use Rattle.std.proofs.lemmas.List.Folds.{list_all-append}
use Rattle.std.proofs.lemmas.Slice.Eq.{bytes_eq-Decides}
use Rattle.dl_base.specs.declared.column.Column.{Column}
use Rattle.dl_codec.specs.declared.rows.RowChange.{RowChange}
use Rattle.dl_codec.specs.declared.rows.TableChange.{TableChange}
use Rattle.dl_codec.specs.declared.rows.TableChange.TheVariants as changes
use Rattle.meaning_areas.specs.Commits.{add_table, changed_rows, columns_stand, drop_table, kept_table, put_table, with_table_change, with_table_changes}
use Rattle.meaning_areas.specs.Commits as commits
use Rattle.meaning_tables.specs.Fits.{fits}
use Rattle.meaning_tables.specs.Tables.{Rows, Tables, new_table, table_of, with_table, without_table}
use Rattle.db_replay.specs.Replaying.{columns_stand_in}
use Rattle.db_replay.specs.Standing.{stripped, without_all, without_changed}
use Rattle.db_replay.proofs.Rest.{Test, change-named, changed, named, rest_fits}

name-self : (n : List ℕ) → bytes_eq n n ≡ true
name-self n = (bytes_eq-Decides n n).1 refl

-- a new table is one without rows, which is then changed

module _ (name : List ℕ) (t : Rows) where
  pub found-last : (ts : Tables) → table_of ts name ≡ None → table_of (ts ++ (name, t) ∷ []) name ≡ Some t
  found-last [] none = ap (λ b. cond b (Some t) None) (name-self name)
  found-last (x ∷ xs) none = by (bytes_eq name x.0) none (λ e. found-last xs e)
    where
      by : (b : Bool) → cond b (Some x.1) (table_of xs name) ≡ None → (table_of xs name ≡ None → table_of (xs ++ (name, t) ∷ []) name ≡ Some t) → cond b (Some x.1) (table_of (xs ++ (name, t) ∷ []) name) ≡ Some t
      by true e go = cc e
      by false e go = go e

  pub put-last : (ts : Tables) (u : Rows) → table_of ts name ≡ None → with_table (ts ++ (name, t) ∷ []) name u ≡ ts ++ (name, u) ∷ []
  put-last [] u none = ap (λ b. cond b ((name, u) ∷ []) ((name, t) ∷ [])) (name-self name)
  put-last (x ∷ xs) u none = by (bytes_eq name x.0) none (λ e. put-last xs u e)
    where
      by : (b : Bool) → cond b (Some x.1) (table_of xs name) ≡ None → (table_of xs name ≡ None → with_table (xs ++ (name, t) ∷ []) name u ≡ xs ++ (name, u) ∷ [])
          → cond b ((x.0, u) ∷ (xs ++ (name, t) ∷ [])) (x ∷ with_table (xs ++ (name, t) ∷ []) name u) ≡ x ∷ (xs ++ (name, u) ∷ [])
      by true e go = cc e
      by false e go = ap (λ (us : Tables). x ∷ us) (go e)

pub new_as_kept : (version : ℕ) (ts : Tables) (name : List ℕ) (columns : List Column) (next : ℕ) (made : List RowChange) → table_of ts name ≡ None → columns_stand columns ≡ true
    → with_table_change version (ts ++ (name, new_table columns) ∷ []) (changes.Kept name next made) ≡ with_table_change version ts (changes.New name columns next made)
new_as_kept version ts name columns next made none stand =
    ap (λ (o : Option Rows). put_table (ts ++ (name, new_table columns) ∷ []) name (kept_table version next made o)) (found-last name (new_table columns) ts none)
    ∙ by (changed_rows (record { version = version; columns = columns; next = next; rows = [] }) made)
    ∙ ap (λ b. add_table ts name (cond b (changed_rows (record { version = version; columns = columns; next = next; rows = [] }) made) None)) (sym stand)
    ∙ ap (λ (o : Option Rows). add_table ts name (commits.new_table version columns next made o)) (sym none)
  where
    by : (o : Option Rows) → put_table (ts ++ (name, new_table columns) ∷ []) name o ≡ add_table ts name o
    by None = refl
    by (Some u) = ap (λ (us : Tables). Some us) (put-last name (new_table columns) ts u none)

pub new_refused : (version : ℕ) (ts : Tables) (name : List ℕ) (columns : List Column) (next : ℕ) (made : List RowChange) → columns_stand columns ≡ false → with_table_change version ts (changes.New name columns next made) ≡ None
new_refused version ts name columns next made stand = by (table_of ts name)
  where
    by : (o : Option Rows) → add_table ts name (commits.new_table version columns next made o) ≡ None
    by (Some t) = refl
    by None = ap (λ b. add_table ts name (cond b (changed_rows (record { version = version; columns = columns; next = next; rows = [] }) made) None)) stand

-- columns

pub columns_found : (ts : Tables) (name : List ℕ) (t : Rows) → columns_stand_in ts ≡ true → table_of ts name ≡ Some t → columns_stand t.columns ≡ true
columns_found [] name t stand at = cc at
columns_found (x ∷ xs) name t stand at = by (bytes_eq name x.0) at (and_parts (columns_stand x.1.columns) (columns_stand_in xs) stand).0 (λ e. columns_found xs name t (and_parts (columns_stand x.1.columns) (columns_stand_in xs) stand).1 e)
  where
    same : (a b : Rows) → Some a ≡ Some b → a ≡ b
    same a b e = cc e

    by : (b : Bool) → cond b (Some x.1) (table_of xs name) ≡ Some t → columns_stand x.1.columns ≡ true → (table_of xs name ≡ Some t → columns_stand t.columns ≡ true) → columns_stand t.columns ≡ true
    by true e one go = subst (λ (y : Rows). columns_stand y.columns ≡ true) (same x.1 t e) one
    by false e one go = go e

pub columns_stripped : (p : Test) (ts : Tables) → columns_stand_in (stripped p ts) ≡ columns_stand_in ts
columns_stripped p [] = refl
columns_stripped p (t ∷ ts) = ap (λ b. columns_stand t.1.columns && b) (columns_stripped p ts)

pub columns_without : (ts : Tables) (c : TableChange) → columns_stand_in (without_changed ts c) ≡ columns_stand_in ts
columns_without ts c = ap (λ (us : Tables). columns_stand_in us) (change-named ts c) ∙ columns_stripped (named c) ts

columns-put : (ts : Tables) (name : List ℕ) (u : Rows) → columns_stand_in ts ≡ true → columns_stand u.columns ≡ true → columns_stand_in (with_table ts name u) ≡ true
columns-put [] name u stand one = refl
columns-put (x ∷ xs) name u stand one = by (bytes_eq name x.0) (columns-put xs name u parts.1 one)
  where
    parts : (columns_stand x.1.columns ≡ true) × (columns_stand_in xs ≡ true)
    parts = and_parts (columns_stand x.1.columns) (columns_stand_in xs) stand

    by : (b : Bool) → columns_stand_in (with_table xs name u) ≡ true → columns_stand_in (cond b ((x.0, u) ∷ xs) (x ∷ with_table xs name u)) ≡ true
    by true go = and_from (columns_stand u.columns) (columns_stand_in xs) one parts.1
    by false go = and_from (columns_stand x.1.columns) (columns_stand_in (with_table xs name u)) parts.0 go

columns-dropped : (ts : Tables) (name : List ℕ) → columns_stand_in ts ≡ true → columns_stand_in (without_table ts name) ≡ true
columns-dropped [] name stand = refl
columns-dropped (x ∷ xs) name stand = by (bytes_eq name x.0) (columns-dropped xs name parts.1)
  where
    parts : (columns_stand x.1.columns ≡ true) × (columns_stand_in xs ≡ true)
    parts = and_parts (columns_stand x.1.columns) (columns_stand_in xs) stand

    by : (b : Bool) → columns_stand_in (without_table xs name) ≡ true → columns_stand_in (cond b xs (x ∷ without_table xs name)) ≡ true
    by true go = parts.1
    by false go = and_from (columns_stand x.1.columns) (columns_stand_in (without_table xs name)) parts.0 go

columns-added : (ts : Tables) (name : List ℕ) (u : Rows) → columns_stand_in ts ≡ true → columns_stand u.columns ≡ true → columns_stand_in (ts ++ (name, u) ∷ []) ≡ true
columns-added ts name u stand one =
    list_all-append (λ (t : List ℕ × Rows). columns_stand t.1.columns) ts ((name, u) ∷ [])
    ∙ and_from (columns_stand_in ts) (columns_stand u.columns && true) stand (and_from (columns_stand u.columns) true one refl)

same-tables : (a b : Tables) → Some a ≡ Some b → a ≡ b
same-tables a b e = cc e

columns-changed : (version : ℕ) (ts later : Tables) (c : TableChange) → columns_stand_in ts ≡ true → with_table_change version ts c ≡ Some later → columns_stand_in later ≡ true
columns-changed version ts later (changes.Dropped name) stand is = by (table_of ts name) is
  where
    by : (o : Option Rows) → drop_table ts name o ≡ Some later → columns_stand_in later ≡ true
    by None e = cc e
    by (Some t) e = subst (λ (us : Tables). columns_stand_in us ≡ true) (same-tables (without_table ts name) later e) (columns-dropped ts name stand)
columns-changed version ts later (changes.New name columns next made) stand is = by (table_of ts name) is
  where
    made_by : columns_stand columns ≡ true → (o : Option Rows) → changed_rows (record { version = version; columns = columns; next = next; rows = [] }) made ≡ o → add_table ts name o ≡ Some later → columns_stand_in later ≡ true
    made_by s None w e = cc e
    made_by s (Some u) w e =
        let was = changed (record { version = version; columns = columns; next = next; rows = [] }) u made w in
        subst (λ (us : Tables). columns_stand_in us ≡ true) (same-tables (ts ++ (name, u) ∷ []) later e) (columns-added ts name u stand (ap (λ (cs : List Column). columns_stand cs) was.columns ∙ s))

    stand_by : (b : Bool) → columns_stand columns ≡ b → add_table ts name (cond b (changed_rows (record { version = version; columns = columns; next = next; rows = [] }) made) None) ≡ Some later → columns_stand_in later ≡ true
    stand_by true s e = made_by s (changed_rows (record { version = version; columns = columns; next = next; rows = [] }) made) refl e
    stand_by false s e = cc e

    by : (o : Option Rows) → add_table ts name (commits.new_table version columns next made o) ≡ Some later → columns_stand_in later ≡ true
    by (Some t) e = cc e
    by None e = stand_by (columns_stand columns) refl e
columns-changed version ts later (changes.Kept name next made) stand is = by (table_of ts name) refl is
  where
    made_by : (t : Rows) → table_of ts name ≡ Some t → (o : Option Rows) → changed_rows (record { version = version; columns = t.columns; next = next; rows = t.rows }) made ≡ o → put_table ts name o ≡ Some later → columns_stand_in later ≡ true
    made_by t at None w e = cc e
    made_by t at (Some u) w e =
        let was = changed (record { version = version; columns = t.columns; next = next; rows = t.rows }) u made w in
        subst (λ (us : Tables). columns_stand_in us ≡ true) (same-tables (with_table ts name u) later e) (columns-put ts name u stand (ap (λ (cs : List Column). columns_stand cs) was.columns ∙ columns_found ts name t stand at))

    by : (o : Option Rows) → table_of ts name ≡ o → put_table ts name (kept_table version next made o) ≡ Some later → columns_stand_in later ≡ true
    by None at e = cc e
    by (Some t) at e = made_by t at (changed_rows (record { version = version; columns = t.columns; next = next; rows = t.rows }) made) refl e

pub columns_kept : (version : ℕ) (ts later : Tables) (cs : List TableChange) → columns_stand_in ts ≡ true → with_table_changes version ts cs ≡ Some later → columns_stand_in later ≡ true
columns_kept version ts later [] stand is = subst (λ (us : Tables). columns_stand_in us ≡ true) (same-tables ts later is) stand
columns_kept version ts later (c ∷ cs) stand is = by (with_table_change version ts c) refl is (λ mid w e. columns_kept version mid later cs (columns-changed version ts mid c stand w) e)
  where
    by : (o : Option Tables) → with_table_change version ts c ≡ o → option_and_then (λ us. with_table_changes version us cs) o ≡ Some later
        → ((mid : Tables) → with_table_change version ts c ≡ Some mid → with_table_changes version mid cs ≡ Some later → columns_stand_in later ≡ true) → columns_stand_in later ≡ true
    by None w e go = cc e
    by (Some mid) w e go = go mid w e

-- the whole

and-true : (a : Bool) → (a && true) ≡ a
and-true true = refl
and-true false = refl

-- the tables after the changes fit exactly where the rows that were put stand
pub fits_where_rows_stand : (version : ℕ) (ts later : Tables) (cs : List TableChange) (stand : Bool) → with_table_changes version ts cs ≡ Some later → fits ts ≡ true → fits later ≡ (stand && fits (without_all later cs)) → fits later ≡ stand
fits_where_rows_stand version ts later cs stand is fit e = e ∙ ap (λ b. stand && b) (rest_fits version ts later cs is fit) ∙ and-true stand
