-- The fold takes the changes of a restore, and they lead to the restored tables.
use Rattle.std.proofs.Common.{◌≡◌, ⊎_elim, ℕ, ◌+◌, ◌/◌, ◌^◌, ◌==◌, List, [], ◌∷◌, ◌++◌, ◌&&◌, Bool, true, false, cond, map, length, Option, Some, None, is_none, refl, sym, ◌∙◌, ap}
use Rattle.std.specs.List.{filter_map, cons_option}
use Rattle.std.specs.Option.{option_and_then}
use Rattle.dl_codec.specs.declared.rows.RowsRecord.TheVariants as records
use Rattle.dl_codec.specs.declared.rows.TableChange.{TableChange}
use Rattle.dl_codec.specs.declared.rows.TableChange.TheVariants as changes
use Rattle.meaning_areas.specs.Commits.{Commit, Commits, columns_stand, commit_of, commit_to, fitting, rows_step, tables_after, with_commit, with_table_changes}
use Rattle.meaning_areas.specs.Same.{same_columns}
use Rattle.meaning_areas.proofs.Equal.{rows-decide}
use Rattle.meaning_tables.specs.Fits.{Fits}
use Rattle.meaning_tables.specs.Tables.{Rows, Tables, IsNumbered, table_of}
use Rattle.meaning_merge.specs.History.{EachTable, IsHistory}
use Rattle.meaning_merge.specs.Merging.{Fate, goes, becomes, as_version, by_fate, AreNamed, row_changes, new_by, dropped_by, kept_by}
use Rattle.meaning_merge.specs.Restoring.{kept_as, new_in, restored_tables, dropped_change, kept_change, restore_changes}
use Rattle.meaning_merge.proofs.Histories.{past-last, ordered-named, ordered-numbered, is-self}
use Rattle.meaning_merge.proofs.Keeping.{none_some, each-found, found-each, kept_in}
use Rattle.meaning_merge.proofs.Restored.{CanFollow, kept_ones, is_new, new_tables, kept_or_new}
use Rattle.meaning_merge.proofs.TableChanges.{IsChange, IsNew, dropped_in, changed_in, changes-append, dropped-lead, changed-lead, new-lead, each-both, each-filter, filter-named, version-found}

-- columns that pass the test are the same

columns-same : (a b : Rows) → same_columns a b ≡ true → a.columns ≡ b.columns
columns-same a b e = ap (λ (t : Rows). t.columns) ((rows-decide (record { version = 0; columns = a.columns; next = 0; rows = [] }) (record { version = 0; columns = b.columns; next = 0; rows = [] })).0 (ap (λ x. (x && true) && true) e))

-- what becomes of a committed table
abbrev fate_to : Option Rows → Option Rows → Fate
fate_to None later = goes
fate_to (Some t) None = goes
fate_to (Some t) (Some later) = cond (same_columns t later) (becomes later) goes

module _ (committed target : Tables) (c : ℕ) (named : AreNamed committed) (target_named : AreNamed target) where
  abbrev fate : List ℕ → Fate
  fate name = fate_to (table_of committed name) (table_of target name)

  by_fate_of : EachTable committed (λ t. fate t.0 ≡ fate_to (Some t.1) (table_of target t.0))
  by_fate_of = each-found (λ t. fate t.0 ≡ fate_to (Some t.1) (table_of target t.0)) committed named (λ t is. ap (λ (o : Option Rows). fate_to o (table_of target t.0)) is)

  dropped-same : (ts : Tables) → EachTable ts (λ t. fate t.0 ≡ fate_to (Some t.1) (table_of target t.0)) → filter_map (λ t. dropped_change t (table_of target t.0)) ts ≡ dropped_in c fate ts
  dropped-same [] each = refl
  dropped-same (t ∷ ts) each =
      ap (λ x. cons_option x (filter_map (λ u. dropped_change u (table_of target u.0)) ts)) (by (table_of target t.0) ∙ ap (dropped_by t) (sym each.0))
      ∙ ap (λ (cs : List TableChange). cons_option (dropped_by t (fate t.0)) cs) (dropped-same ts each.1)
    where
      of : (b : Bool) (later : Rows) → cond b None (Some (changes.Dropped t.0)) ≡ dropped_by t (cond b (becomes later) goes)
      of true later = refl
      of false later = refl

      by : (o : Option Rows) → dropped_change t o ≡ dropped_by t (fate_to (Some t.1) o)
      by None = refl
      by (Some later) = of (same_columns t.1 later) later

  kept-same : (ts : Tables) → EachTable ts (λ t. fate t.0 ≡ fate_to (Some t.1) (table_of target t.0)) → filter_map (λ t. kept_change t (table_of target t.0)) ts ≡ changed_in c fate ts
  kept-same [] each = refl
  kept-same (t ∷ ts) each =
      ap (λ x. cons_option x (filter_map (λ u. kept_change u (table_of target u.0)) ts)) (by (table_of target t.0) ∙ ap (kept_by t) (sym each.0))
      ∙ ap (λ (cs : List TableChange). cons_option (kept_by t (fate t.0)) cs) (kept-same ts each.1)
    where
      of : (b : Bool) (later : Rows) → cond b (Some (changes.Kept t.0 later.next (row_changes t.1.rows later.rows))) None ≡ kept_by t (cond b (becomes later) goes)
      of true later = refl
      of false later = refl

      by : (o : Option Rows) → kept_change t o ≡ kept_by t (fate_to (Some t.1) o)
      by None = refl
      by (Some later) = of (same_columns t.1 later) later

  left-same : (ts : Tables) → EachTable ts (λ t. fate t.0 ≡ fate_to (Some t.1) (table_of target t.0)) → kept_in c fate ts ≡ filter_map (λ t. kept_as c target t (table_of target t.0)) ts
  left-same [] each = refl
  left-same (t ∷ ts) each =
      ap (λ x. cons_option x (kept_in c fate ts)) (ap (by_fate c t) each.0 ∙ by (table_of target t.0))
      ∙ ap (λ (us : Tables). cons_option (kept_as c target t (table_of target t.0)) us) (left-same ts each.1)
    where
      of : (b : Bool) (later : Rows) → by_fate c t (cond b (becomes later) goes) ≡ cond b (Some (t.0, as_version c later)) None
      of true later = refl
      of false later = refl

      by : (o : Option Rows) → by_fate c t (fate_to (Some t.1) o) ≡ kept_as c target t o
      by None = refl
      by (Some later) = of (same_columns t.1 later) later

  becomes-target : (o p : Option Rows) (later : Rows) → fate_to o p ≡ becomes later → (p ≡ Some later) × ((t : Rows) → o ≡ Some t → later.columns ≡ t.columns)
  becomes-target None p later e = absurd cc
  becomes-target (Some t) None later e = absurd cc
  becomes-target (Some t) (Some u) later e = by (same_columns t u) refl e
    where
      inside : becomes u ≡ becomes later → u ≡ later
      inside e = cc

      some_same : (x y : Rows) → Some x ≡ Some y → x ≡ y
      some_same x y e = cc

      by : (b : Bool) → same_columns t u ≡ b → cond b (becomes u) goes ≡ becomes later → (Some u ≡ Some later) × ((x : Rows) → Some t ≡ Some x → later.columns ≡ x.columns)
      by true same e = (ap (λ (x : Rows). Some x) (inside e), (λ x is. ap (λ (y : Rows). y.columns) (sym (inside e)) ∙ sym (columns-same t u same) ∙ ap (λ (y : Rows). y.columns) (some_same t x is)))
      by false same e = absurd cc

  module _ (numbered : EachTable committed (λ t. IsNumbered t.1)) (later_numbered : EachTable target (λ t. IsNumbered t.1)) (stand : EachTable target (λ t. columns_stand t.1.columns ≡ true)) where
    are_changes : EachTable committed (IsChange c fate)
    are_changes = each-both (λ t. table_of committed t.0 ≡ Some t.1) (λ t. IsNumbered t.1) (IsChange c fate) committed one (each-found (λ t. table_of committed t.0 ≡ Some t.1) committed named (λ t is. is)) numbered
      where
        one : (t : List ℕ × Rows) → table_of committed t.0 ≡ Some t.1 → IsNumbered t.1 → IsChange c fate t
        one t at rise later is =
            let so = becomes-target (table_of committed t.0) (table_of target t.0) later is in
            (so.1 t.1 at, rise, found-each (λ u. IsNumbered u) target t.0 later later_numbered so.0)

    fresh_named : AreNamed (new_in committed target)
    fresh_named = filter-named (is_new committed target c named target_named) target target_named

    no_kept : EachTable (new_in committed target) (λ u. table_of (kept_in c fate committed) u.0 ≡ None)
    no_kept = each-found (λ u. table_of (kept_in c fate committed) u.0 ≡ None) (new_in committed target) fresh_named (λ u is. ap (λ (ts : Tables). table_of ts u.0) (left-same committed by_fate_of) ∙ ⊎_elim
        (λ (e : table_of (kept_ones committed target c named target_named committed) u.0 ≡ None). e)
        (λ (e : table_of (new_tables committed target c named target_named target) u.0 ≡ None). absurd (none_some (as_version c u.1) (sym e ∙ version-found c (new_in committed target) u.0 u.1 is)))
        (kept_or_new committed target c named target_named u.0))

    are_new : EachTable (new_in committed target) (IsNew c (kept_in c fate committed))
    are_new = each-both (λ u. table_of (kept_in c fate committed) u.0 ≡ None) (λ u. (columns_stand u.1.columns ≡ true) × IsNumbered u.1) (IsNew c (kept_in c fate committed)) (new_in committed target) (λ u none rest. (none, rest.0, rest.1)) no_kept
        (each-both (λ u. columns_stand u.1.columns ≡ true) (λ u. IsNumbered u.1) (λ u. (columns_stand u.1.columns ≡ true) × IsNumbered u.1) (new_in committed target) (λ u stands rise. (stands, rise))
        (each-filter (λ u. columns_stand u.1.columns ≡ true) (is_new committed target c named target_named) target stand) (each-filter (λ u. IsNumbered u.1) (is_new committed target c named target_named) target later_numbered))

    pub changes-restore : with_table_changes c committed (restore_changes committed target) ≡ Some (restored_tables committed target c)
    changes-restore =
        ap (λ (ds : List TableChange). with_table_changes c committed ((ds ++ filter_map (λ t. kept_change t (table_of target t.0)) committed) ++ map new_by (new_in committed target))) (dropped-same committed by_fate_of)
        ∙ ap (λ (ks : List TableChange). with_table_changes c committed ((dropped_in c fate committed ++ ks) ++ map new_by (new_in committed target))) (kept-same committed by_fate_of)
        ∙ changes-append c committed (dropped_in c fate committed ++ changed_in c fate committed) (map new_by (new_in committed target))
        ∙ ap (λ (o : Option Tables). option_and_then (λ later. with_table_changes c later (map new_by (new_in committed target))) o)
        (changes-append c committed (dropped_in c fate committed) (changed_in c fate committed)
        ∙ ap (λ (o : Option Tables). option_and_then (λ later. with_table_changes c later (changed_in c fate committed)) o) (dropped-lead c fate committed named)
        ∙ changed-lead c fate committed named are_changes)
        ∙ new-lead c (kept_in c fate committed) (new_in committed target) fresh_named are_new
        ∙ ap (λ (ts : Tables). Some (ts ++ map (λ t. (t.0, as_version c t.1)) (new_in committed target))) (left-same committed by_fate_of)

pub restore-taken : (first : ℕ) (cs : List Commit) (target : Tables) → IsHistory first cs → CanFollow first cs target
    → with_table_changes (length cs + 1) (tables_after [] cs) (restore_changes (tables_after [] cs) target) ≡ Some (restored_tables (tables_after [] cs) target (length cs + 1))
restore-taken first cs target history can =
    let last = history.ordered (length cs) (tables_after [] cs) (past-last [] cs) in
    changes-restore (tables_after [] cs) target (length cs + 1) (ordered-named (tables_after [] cs) last) can.named (ordered-numbered (tables_after [] cs) last) can.numbered can.columns

-- THE FOLD of Rows takes a record whose changes lead to tables that fit
pub record-taken : (r : Commits) (tx : ℕ) (branch : Bool) (made : List TableChange) (tables : Tables) → commit_of tx r.commits ≡ None → tx / 2 ^ 32 ≡ r.opening
    → with_table_changes (length r.commits + 1) (tables_after [] r.commits) made ≡ Some tables → Fits tables → rows_step r (records.Commit tx (length r.commits + 1) branch made) ≡ Some (with_commit r (commit_to r.commits tx branch tables))
record-taken r tx branch made tables new drawn lead fit =
    ap (λ b. cond (b && is_none (commit_of tx r.commits) && (tx / 2 ^ 32 == r.opening)) (fitting r tx branch (with_table_changes (length r.commits + 1) (tables_after [] r.commits) made)) None) (is-self (length r.commits + 1))
    ∙ ap (λ (o : Option Commit). cond (is_none o && (tx / 2 ^ 32 == r.opening)) (fitting r tx branch (with_table_changes (length r.commits + 1) (tables_after [] r.commits) made)) None) new
    ∙ ap (λ b. cond b (fitting r tx branch (with_table_changes (length r.commits + 1) (tables_after [] r.commits) made)) None) (ap (λ n. n == r.opening) drawn ∙ is-self r.opening)
    ∙ ap (fitting r tx branch) lead
    ∙ ap (λ b. cond b (Some (with_commit r (commit_to r.commits tx branch tables))) None) fit
