-- Beside the rows that changes name, the tables after them have the rows of those before.
use Rattle.std.proofs.Common.{◌≡◌, ℕ, ◌==◌, ◌&&◌, Bool, true, false, cond, bytes_eq, List, [], ◌∷◌, ◌++◌, map, Option, Some, None, refl, sym, ap, subst, ◌∙◌}
use Rattle.std.specs.Cmp.{nat_eq_equiv}
use Rattle.std.specs.Option.{option_and_then}
use Rattle.dl_base.specs.declared.column.Column.{Column}
use Rattle.dl_base.specs.declared.value.Row.{Row}
use Rattle.dl_codec.specs.declared.rows.RowChange.{RowChange}
use Rattle.dl_codec.specs.declared.rows.TableChange.{TableChange}
use Rattle.dl_codec.specs.declared.rows.TableChange.TheVariants as changes
use Rattle.meaning_areas.specs.Commits.{add_table, changed_rows, columns_stand, drop_table, kept_table, new_table, put_table, with_row_changes, with_table_change, with_table_changes}
use Rattle.meaning_merge.proofs.Keeping.{name-same}
use Rattle.meaning_merge.proofs.Numbers.{none}
use Rattle.meaning_merge.specs.Merging.{AreNamed}
use Rattle.meaning_tables.specs.Tables.{Rows, Tables, row_of, table_of, with_table, without_table}
use Rattle.db_replay.proofs.Changing.{found-last}
use Rattle.db_replay.proofs.Rest.{changed}
use Rattle.db_replay.specs.Standing.{row_at, row_in}
use Rattle.db_changes.proofs.Naming.{added-other, change-named, with-here, with-other, without-none, without-other}
use Rattle.db_changes.proofs.RowsTouched.{changes-other, has-among}
use Rattle.db_changes.specs.Named.{AgreeBeside, name_of, numbers_in, rows_named}
use Rattle.db_changes.specs.Touched.{Adds, Covers, Touched, among, numbers_of}

some-none : {A : Type 0} (t : A) → None ≡ Some t → ⊥
some-none t e = cc

some-same : {A : Type 0} (t u : A) → Some t ≡ Some u → t ≡ u
some-same t u e = cc

-- no row has a number that is not among those of the rows

no-row : (rows : List (ℕ × Row)) (n : ℕ) → among (map (λ r. r.0) rows) n ≡ false → row_of rows n ≡ None
no-row [] n out = refl
no-row (r ∷ rs) n out =
    let two = none (r.0 == n) (among (map (λ (x : ℕ × Row). x.0) rs) n) out in
    ap (λ b. cond b (Some r.1) (row_of rs n)) (nat_eq_equiv.symm n r.0 ∙ two.0) ∙ no-row rs n two.1

none-in : (o : Option Rows) (n : ℕ) → among (numbers_in o) n ≡ false → row_at n o ≡ None
none-in None n out = refl
none-in (Some t) n out = no-row t.rows n out

-- one change

module _ (touched more : Touched) (name numbers : List ℕ) (before ts : Tables) (adds : Adds name numbers touched more) (beside : AgreeBeside touched before ts) where
  apart : (other : List ℕ) (n : ℕ) → among (numbers_of more other) n ≡ false → ((bytes_eq name other && among numbers n) ≡ false) × (among (numbers_of touched other) n ≡ false)
  apart other n out = none (bytes_eq name other && among numbers n) (among (numbers_of touched other) n) (sym (adds other n) ∙ out)

  -- tables of other names stay, and so do the rows of other numbers, or all are named
  beside-next : (later : Tables) → ((other : List ℕ) → bytes_eq name other ≡ false → table_of later other ≡ table_of ts other)
      → ((n : ℕ) → among numbers n ≡ false → among (numbers_of touched name) n ≡ false → row_in later name n ≡ row_in before name n) → AgreeBeside more before later
  beside-next later others here other n out = by (bytes_eq name other) refl (apart other n out).0
    where
      by : (b : Bool) → bytes_eq name other ≡ b → (b && among numbers n) ≡ false → row_in later other n ≡ row_in before other n
      by true e own =
          let is = name-same name other e in
          subst (λ (m : List ℕ). row_in later m n ≡ row_in before m n) is (here n own (subst (λ (m : List ℕ). among (numbers_of touched m) n ≡ false) (sym is) (apart other n out).1))
      by false e own = ap (λ (o : Option Rows). row_at n o) (others other e) ∙ beside other n (apart other n out).1

other-rows : (rows : List (ℕ × Row)) (made : List RowChange) (n : ℕ) → among (map (λ c. c.number) made) n ≡ false → row_of (with_row_changes rows made) n ≡ row_of rows n
other-rows rows made n out = changes-other rows made n (has-among (map (λ (c : RowChange). c.number) made) n ∙ out)

module _ (touched more : Touched) (name : List ℕ) (before ts later : Tables) (named : AreNamed ts) (beside : AgreeBeside touched before ts) where
  drop-beside : Adds name (numbers_in (table_of before name)) touched more → (o : Option Rows) → drop_table ts name o ≡ Some later → AgreeBeside more before later
  drop-beside adds None is = absurd (some-none later is)
  drop-beside adds (Some t) is =
      subst (λ (us : Tables). AgreeBeside more before us) (some-same (without_table ts name) later is)
      (beside-next touched more name (numbers_in (table_of before name)) before ts adds beside (without_table ts name)
      (λ other e. without-other name other e ts)
      (λ n own old. ap (λ (o : Option Rows). row_at n o) (without-none name ts named) ∙ sym (none-in (table_of before name) n own)))

  module _ (made : List RowChange) (adds : Adds name (map (λ c. c.number) made) touched more) where
    put-beside : (t u : Rows) → table_of ts name ≡ Some t → u.rows ≡ with_row_changes t.rows made → AgreeBeside more before (with_table ts name u)
    put-beside t u at rows =
        beside-next touched more name (map (λ c. c.number) made) before ts adds beside (with_table ts name u)
        (λ other e. with-other name other e ts u)
        (λ n own old.
        ap (λ (o : Option Rows). row_at n o) (with-here name ts t u at)
        ∙ ap (λ (rs : List (ℕ × Row)). row_of rs n) rows ∙ other-rows t.rows made n own
        ∙ sym (ap (λ (o : Option Rows). row_at n o) at) ∙ beside name n old)

    add-beside : (u : Rows) → table_of ts name ≡ None → u.rows ≡ with_row_changes [] made → AgreeBeside more before (ts ++ (name, u) ∷ [])
    add-beside u at rows =
        beside-next touched more name (map (λ c. c.number) made) before ts adds beside (ts ++ (name, u) ∷ [])
        (λ other e. added-other name other e ts u)
        (λ n own old.
        ap (λ (o : Option Rows). row_at n o) (found-last name u ts at)
        ∙ ap (λ (rs : List (ℕ × Row)). row_of rs n) rows ∙ other-rows [] made n own
        ∙ sym (ap (λ (o : Option Rows). row_at n o) at) ∙ beside name n old)

    kept-beside : (version next : ℕ) (o : Option Rows) → table_of ts name ≡ o → put_table ts name (kept_table version next made o) ≡ Some later → AgreeBeside more before later
    kept-beside version next None at is = absurd (some-none later is)
    kept-beside version next (Some t) at is = by (changed_rows (record { version = version; columns = t.columns; next = next; rows = t.rows }) made) refl is
      where
        by : (o : Option Rows) → changed_rows (record { version = version; columns = t.columns; next = next; rows = t.rows }) made ≡ o → put_table ts name o ≡ Some later → AgreeBeside more before later
        by None w e = absurd (some-none later e)
        by (Some u) w e =
            subst (λ (us : Tables). AgreeBeside more before us) (some-same (with_table ts name u) later e)
            (put-beside t u at (changed (record { version = version; columns = t.columns; next = next; rows = t.rows }) u made w).rows)

    new-beside : (version next : ℕ) (columns : List Column) (o : Option Rows) → table_of ts name ≡ o → add_table ts name (new_table version columns next made o) ≡ Some later → AgreeBeside more before later
    new-beside version next columns (Some t) at is = absurd (some-none later is)
    new-beside version next columns None at is = by (columns_stand columns) is
      where
        made_by : (o : Option Rows) → changed_rows (record { version = version; columns = columns; next = next; rows = [] }) made ≡ o → add_table ts name o ≡ Some later → AgreeBeside more before later
        made_by None w e = absurd (some-none later e)
        made_by (Some u) w e =
            subst (λ (us : Tables). AgreeBeside more before us) (some-same (ts ++ (name, u) ∷ []) later e)
            (add-beside u at (changed (record { version = version; columns = columns; next = next; rows = [] }) u made w).rows)

        by : (b : Bool) → add_table ts name (cond b (changed_rows (record { version = version; columns = columns; next = next; rows = [] }) made) None) ≡ Some later → AgreeBeside more before later
        by true e = made_by (changed_rows (record { version = version; columns = columns; next = next; rows = [] }) made) refl e
        by false e = absurd (some-none later e)

change-beside : (version : ℕ) (touched more : Touched) (before ts later : Tables) (c : TableChange) → AreNamed ts → AgreeBeside touched before ts → Adds (name_of c) (rows_named before c) touched more
    → with_table_change version ts c ≡ Some later → AgreeBeside more before later
change-beside version touched more before ts later (changes.Dropped name) named beside adds is = drop-beside touched more name before ts later named beside adds (table_of ts name) is
change-beside version touched more before ts later (changes.New name columns next made) named beside adds is = new-beside touched more name before ts later named beside made adds version next columns (table_of ts name) refl is
change-beside version touched more before ts later (changes.Kept name next made) named beside adds is = kept-beside touched more name before ts later named beside made adds version next (table_of ts name) refl is

-- the changes that are left lead from tables that are reached to those after all
pub record Reached (version : ℕ) (touched : Touched) (before : Tables) (left : List TableChange) (after : Tables) : Type 0 where
  pub so_far : Tables
  pub named : AreNamed so_far
  pub beside : AgreeBeside touched before so_far
  pub leads : with_table_changes version so_far left ≡ Some after

pub none-reached : (version : ℕ) (touched : Touched) (before after : Tables) (all : List TableChange) → AreNamed before → with_table_changes version before all ≡ Some after → Reached version touched before all after
none-reached version touched before after all named leads = record {
  so_far = before;
  named = named;
  beside = λ name n out. refl;
  leads = leads;
}

pub next-reached : (version : ℕ) (touched more : Touched) (before after : Tables) (c : TableChange) (cs : List TableChange) → Adds (name_of c) (rows_named before c) touched more
    → Reached version touched before (c ∷ cs) after → Reached version more before cs after
next-reached version touched more before after c cs adds r = by (with_table_change version r.so_far c) refl r.leads
  where
    by : (o : Option Tables) → with_table_change version r.so_far c ≡ o → option_and_then (λ us. with_table_changes version us cs) o ≡ Some after → Reached version more before cs after
    by None at e = absurd (some-none after e)
    by (Some later) at e = record {
      so_far = later;
      named = change-named version r.so_far later c r.named at;
      beside = change-beside version touched more before r.so_far later c r.named r.beside adds at;
      leads = e;
    }

pub covered : (version : ℕ) (touched : Touched) (before after : Tables) → Reached version touched before [] after → Covers touched before after
covered version touched before after r =
    let beside = subst (λ (us : Tables). AgreeBeside touched before us) (some-same r.so_far after r.leads) r.beside in
    record { rows = λ name b t at_b at_t old n out. sym (ap (λ (o : Option Rows). row_at n o) at_t) ∙ beside name n out ∙ ap (λ (o : Option Rows). row_at n o) at_b }
