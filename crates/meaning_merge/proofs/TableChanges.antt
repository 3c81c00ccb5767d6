-- The fold takes the changes that base and copy give, and they lead from the committed tables to the merged ones.
use Rattle.std.proofs.Common.{◌≡◌, ⊎_elim, ℕ, ◌+◌, ◌/◌, ◌^◌, ◌==◌, ◌&&◌, List, [], ◌∷◌, ◌++◌, Bool, true, false, cond, bytes_eq, map, length, Option, Some, None, is_none, option_map, refl, sym, ◌∙◌, ap, subst}
use Rattle.std.specs.List.{filter, filter_map, cons_option}
use Rattle.std.specs.Option.{option_and_then, option_or}
use Rattle.dl_codec.specs.declared.rows.RowsRecord.TheVariants as records
use Rattle.dl_codec.specs.declared.rows.TableChange.{TableChange}
use Rattle.dl_codec.specs.declared.rows.TableChange.TheVariants as changes
use Rattle.meaning_areas.specs.Commits.{Commit, Commits, commit_of, commit_to, tables_after, columns_stand, kept_table, new_table, put_table, add_table, drop_table, changed_rows, with_table_change, with_table_changes, with_commit, fitting, rows_step}
use Rattle.meaning_areas.specs.Same.{same_rows}
use Rattle.meaning_settling.proofs.KeyedLaws.{false_true}
use Rattle.meaning_tables.specs.Fits.{fits}
use Rattle.meaning_tables.specs.Tables.{Rows, Tables, IsNumbered, table_of, with_table, without_table}
use Rattle.meaning_merge.specs.History.{EachTable, CopyOf, makes, drops, has, IsHistory, IsTransaction, AreCurrent}
use Rattle.meaning_merge.specs.Merging.{Fate, stays, goes, becomes, fate_of, as_version, by_fate, new_ones, merge, AreNamed, row_change, row_changes, dropped_by, kept_by, new_by, commit_changes}
use Rattle.meaning_merge.proofs.Committed.{becomes-copy, kept_or_new, merged_fit}
use Rattle.meaning_merge.proofs.Histories.{past-last, ordered-numbered, is-self}
use Rattle.meaning_merge.proofs.Keeping.{none_some, name-self, name-same, at-head, past-head, each-found, found-each, each-map, is_touched, of_base, kept_in, IsGone, copy-gone}
use Rattle.meaning_merge.proofs.Numbers.{never}
use Rattle.meaning_merge.proofs.RowChanges.{rows-changed, rows-made}
use Rattle.meaning_merge.proofs.TableByTable.{table_of-append}
use Rattle.meaning_merge.proofs.Touched as touched
use Rattle.meaning_merge.proofs.Used.{unused-none}

some_same : (x y : Rows) → Some x ≡ Some y → x ≡ y
some_same x y e = cc

append-assoc : (xs ys zs : Tables) → (xs ++ ys) ++ zs ≡ xs ++ (ys ++ zs)
append-assoc [] ys zs = refl
append-assoc (x ∷ xs) ys zs = ap (λ (us : Tables). x ∷ us) (append-assoc xs ys zs)

-- a table has another name than one that they all lack
pub other-name : (name : List ℕ) (t : List ℕ × Rows) (ts : Tables) → table_of (t ∷ ts) name ≡ None → bytes_eq t.0 name ≡ false
other-name name t ts none = never (bytes_eq t.0 name) (λ e. none_some t.1 (sym (sym (ap (λ b. cond b (Some t.1) (table_of ts name)) (ap (λ n. bytes_eq n t.0) (sym (name-same t.0 name e)) ∙ name-self t.0)) ∙ none)))

-- changes of other tables than the first one

abbrev name_of : TableChange → List ℕ
name_of (changes.Dropped name) = name
name_of (changes.New name columns next made) = name
name_of (changes.Kept name next made) = name

abbrev AreOther : List ℕ → List TableChange → Type 0
AreOther name [] = Unit {0}
AreOther name (c ∷ cs) = (bytes_eq (name_of c) name ≡ false) × AreOther name cs

module _ (version : ℕ) where
  other-change : (t : List ℕ × Rows) (ts : Tables) (c : TableChange) → bytes_eq (name_of c) t.0 ≡ false → with_table_change version (t ∷ ts) c ≡ option_map (λ (us : Tables). t ∷ us) (with_table_change version ts c)
  other-change t ts (changes.Dropped name) other =
      ap (λ (o : Option Rows). drop_table (t ∷ ts) name o) (past-head t ts name other) ∙ by (table_of ts name)
    where
      by : (o : Option Rows) → drop_table (t ∷ ts) name o ≡ option_map (λ (us : Tables). t ∷ us) (drop_table ts name o)
      by None = refl
      by (Some x) = ap (λ b. Some (cond b ts (t ∷ without_table ts name))) other
  other-change t ts (changes.New name columns next made) other =
      ap (λ (o : Option Rows). add_table (t ∷ ts) name (new_table version columns next made o)) (past-head t ts name other) ∙ by (new_table version columns next made (table_of ts name))
    where
      by : (o : Option Rows) → add_table (t ∷ ts) name o ≡ option_map (λ (us : Tables). t ∷ us) (add_table ts name o)
      by None = refl
      by (Some x) = refl
  other-change t ts (changes.Kept name next made) other =
      ap (λ (o : Option Rows). put_table (t ∷ ts) name (kept_table version next made o)) (past-head t ts name other) ∙ by (kept_table version next made (table_of ts name))
    where
      by : (o : Option Rows) → put_table (t ∷ ts) name o ≡ option_map (λ (us : Tables). t ∷ us) (put_table ts name o)
      by None = refl
      by (Some x) = ap (λ b. Some (cond b ((t.0, x) ∷ ts) (t ∷ with_table ts name x))) other

  other-changes : (t : List ℕ × Rows) (ts : Tables) (cs : List TableChange) → AreOther t.0 cs → with_table_changes version (t ∷ ts) cs ≡ option_map (λ (us : Tables). t ∷ us) (with_table_changes version ts cs)
  other-changes t ts [] others = refl
  other-changes t ts (c ∷ cs) others =
      ap (λ (o : Option Tables). option_and_then (λ later. with_table_changes version later cs) o) (other-change t ts c others.0)
      ∙ by (with_table_change version ts c) (λ us. other-changes t us cs others.1)
    where
      by : (o : Option Tables) → ((us : Tables) → with_table_changes version (t ∷ us) cs ≡ option_map (λ (vs : Tables). t ∷ vs) (with_table_changes version us cs))
          → option_and_then (λ later. with_table_changes version later cs) (option_map (λ (us : Tables). t ∷ us) o) ≡ option_map (λ (us : Tables). t ∷ us) (option_and_then (λ later. with_table_changes version later cs) o)
      by None go = refl
      by (Some us) go = go us

  pub changes-append : (ts : Tables) (cs ds : List TableChange) → with_table_changes version ts (cs ++ ds) ≡ option_and_then (λ later. with_table_changes version later ds) (with_table_changes version ts cs)
  changes-append ts [] ds = refl
  changes-append ts (c ∷ cs) ds = by (with_table_change version ts c) (λ us. changes-append us cs ds)
    where
      by : (o : Option Tables) → ((us : Tables) → with_table_changes version us (cs ++ ds) ≡ option_and_then (λ later. with_table_changes version later ds) (with_table_changes version us cs))
          → option_and_then (λ later. with_table_changes version later (cs ++ ds)) o ≡ option_and_then (λ later. with_table_changes version later ds) (option_and_then (λ later. with_table_changes version later cs) o)
      by None go = refl
      by (Some us) go = go us

  -- all changes of one kind, by the fates of names

  module _ (fate : List ℕ → Fate) where
    abbrev pub dropped_in : Tables → List TableChange
    dropped_in ts = filter_map (λ t. dropped_by t (fate t.0)) ts

    abbrev pub changed_in : Tables → List TableChange
    changed_in ts = filter_map (λ t. kept_by t (fate t.0)) ts

    abbrev stay : List ℕ × Rows → Fate → Option (List ℕ × Rows)
    stay t stays = Some t
    stay t goes = None
    stay t (becomes later) = Some t

    abbrev left_in : Tables → Tables
    left_in ts = filter_map (λ t. stay t (fate t.0)) ts

    dropped-other : (name : List ℕ) (ts : Tables) → table_of ts name ≡ None → AreNamed ts → AreOther name (dropped_in ts)
    dropped-other name [] none named = tt
    dropped-other name (t ∷ ts) none named = by (fate t.0) (dropped-other name ts (later none) named.1)
      where
        later : table_of (t ∷ ts) name ≡ None → table_of ts name ≡ None
        later e = of (bytes_eq name t.0) e
          where
            of : (b : Bool) → cond b (Some t.1) (table_of ts name) ≡ None → table_of ts name ≡ None
            of true e = absurd (none_some t.1 (sym e))
            of false e = e

        by : (f : Fate) → AreOther name (dropped_in ts) → AreOther name (cons_option (dropped_by t f) (dropped_in ts))
        by stays rest = rest
        by goes rest = (other-name name t ts none, rest)
        by (becomes x) rest = rest

    changed-other : (name : List ℕ) (ts : Tables) → table_of ts name ≡ None → AreNamed ts → AreOther name (changed_in ts)
    changed-other name [] none named = tt
    changed-other name (t ∷ ts) none named = by (fate t.0) (changed-other name ts (later none) named.1)
      where
        later : table_of (t ∷ ts) name ≡ None → table_of ts name ≡ None
        later e = of (bytes_eq name t.0) e
          where
            of : (b : Bool) → cond b (Some t.1) (table_of ts name) ≡ None → table_of ts name ≡ None
            of true e = absurd (none_some t.1 (sym e))
            of false e = e

        by : (f : Fate) → AreOther name (changed_in ts) → AreOther name (cons_option (kept_by t f) (changed_in ts))
        by stays rest = rest
        by goes rest = rest
        by (becomes x) rest = (other-name name t ts none, rest)

    pub dropped-lead : (ts : Tables) → AreNamed ts → with_table_changes version ts (dropped_in ts) ≡ Some (left_in ts)
    dropped-lead [] named = refl
    dropped-lead (t ∷ ts) named = by (fate t.0) (dropped-lead ts named.1)
      where
        past_it : with_table_changes version (t ∷ ts) (dropped_in ts) ≡ option_map (λ (us : Tables). t ∷ us) (with_table_changes version ts (dropped_in ts))
        past_it = other-changes t ts (dropped_in ts) (dropped-other t.0 ts named.0 named.1)

        by : (f : Fate) → with_table_changes version ts (dropped_in ts) ≡ Some (left_in ts) → with_table_changes version (t ∷ ts) (cons_option (dropped_by t f) (dropped_in ts)) ≡ Some (cons_option (stay t f) (left_in ts))
        by stays go = past_it ∙ ap (λ (o : Option Tables). option_map (λ (us : Tables). t ∷ us) o) go
        by (becomes later) go = past_it ∙ ap (λ (o : Option Tables). option_map (λ (us : Tables). t ∷ us) o) go
        by goes go =
            ap (λ (o : Option Rows). option_and_then (λ us. with_table_changes version us (dropped_in ts)) (drop_table (t ∷ ts) t.0 o)) (at-head t ts)
            ∙ ap (λ b. with_table_changes version (cond b ts (t ∷ without_table ts t.0)) (dropped_in ts)) (name-self t.0) ∙ go

    -- a table that is changed has the columns that it had, and both have rising row numbers
    abbrev pub IsChange : List ℕ × Rows → Type 0
    IsChange t = (later : Rows) → fate t.0 ≡ becomes later → (later.columns ≡ t.1.columns) × IsNumbered t.1 × IsNumbered later

    pub changed-lead : (ts : Tables) → AreNamed ts → EachTable ts IsChange → with_table_changes version (left_in ts) (changed_in ts) ≡ Some (kept_in version fate ts)
    changed-lead [] named each = refl
    changed-lead (t ∷ ts) named each = by (fate t.0) refl (changed-lead ts named.1 each.1)
      where
        behind : (x : Rows) → with_table_changes version ((t.0, x) ∷ left_in ts) (changed_in ts) ≡ option_map (λ (us : Tables). (t.0, x) ∷ us) (with_table_changes version (left_in ts) (changed_in ts))
        behind x = other-changes (t.0, x) (left_in ts) (changed_in ts) (changed-other t.0 ts named.0 named.1)

        taken : (later : Rows) → later.columns ≡ t.1.columns → IsNumbered t.1 → IsNumbered later → kept_table version later.next (row_changes t.1.rows later.rows) (Some t.1) ≡ Some (as_version version later)
        taken later columns was now =
            rows-changed version t.1.columns later.next t.1.next t.1.rows later.rows was now
            ∙ ap (λ cs. Some (record { version = version; columns = cs; next = later.next; rows = later.rows })) (sym columns)

        by : (f : Fate) → fate t.0 ≡ f → with_table_changes version (left_in ts) (changed_in ts) ≡ Some (kept_in version fate ts)
            → with_table_changes version (cons_option (stay t f) (left_in ts)) (cons_option (kept_by t f) (changed_in ts)) ≡ Some (cons_option (by_fate version t f) (kept_in version fate ts))
        by stays is go = behind t.1 ∙ ap (λ (o : Option Tables). option_map (λ (us : Tables). t ∷ us) o) go
        by goes is go = go
        by (becomes later) is go =
            let of = each.0 later is in
            ap (λ (o : Option Rows). option_and_then (λ us. with_table_changes version us (changed_in ts)) (put_table (t ∷ left_in ts) t.0 (kept_table version later.next (row_changes t.1.rows later.rows) o))) (at-head t (left_in ts))
            ∙ ap (λ (o : Option Rows). option_and_then (λ us. with_table_changes version us (changed_in ts)) (put_table (t ∷ left_in ts) t.0 o)) (taken later of.0 of.1 of.2)
            ∙ ap (λ b. with_table_changes version (cond b ((t.0, as_version version later) ∷ left_in ts) (t ∷ with_table (left_in ts) t.0 (as_version version later))) (changed_in ts)) (name-self t.0)
            ∙ behind (as_version version later) ∙ ap (λ (o : Option Tables). option_map (λ (us : Tables). (t.0, as_version version later) ∷ us) o) go

  -- new tables, behind others that have none of their names
  abbrev pub IsNew : Tables → List ℕ × Rows → Type 0
  IsNew ts u = (table_of ts u.0 ≡ None) × (columns_stand u.1.columns ≡ true) × IsNumbered u.1

  pub new-lead : (ts us : Tables) → AreNamed us → EachTable us (IsNew ts) → with_table_changes version ts (map new_by us) ≡ Some (ts ++ map (λ u. (u.0, as_version version u.1)) us)
  new-lead ts [] named each = ap (λ (xs : Tables). Some xs) (sym (nothing ts))
    where
      nothing : (xs : Tables) → xs ++ [] ≡ xs
      nothing [] = refl
      nothing (x ∷ xs) = ap (λ (ys : Tables). x ∷ ys) (nothing xs)
  new-lead ts (u ∷ us) named each =
      ap (λ (o : Option Rows). option_and_then (λ xs. with_table_changes version xs (map new_by us)) (add_table ts u.0 (new_table version u.1.columns u.1.next (map row_change u.1.rows) o))) each.0.0
      ∙ ap (λ b. option_and_then (λ xs. with_table_changes version xs (map new_by us)) (add_table ts u.0 (cond b (changed_rows (record { version = version; columns = u.1.columns; next = u.1.next; rows = [] }) (map row_change u.1.rows)) None))) each.0.1
      ∙ ap (λ (o : Option Rows). option_and_then (λ xs. with_table_changes version xs (map new_by us)) (add_table ts u.0 o)) (rows-made version u.1.columns u.1.next u.1.rows each.0.2)
      ∙ new-lead (ts ++ (u.0, as_version version u.1) ∷ []) us named.1 (still us named.0 each.1)
      ∙ ap (λ (xs : Tables). Some xs) (append-assoc ts ((u.0, as_version version u.1) ∷ []) (map (λ x. (x.0, as_version version x.1)) us))
    where
      still : (vs : Tables) → table_of vs u.0 ≡ None → EachTable vs (IsNew ts) → EachTable vs (IsNew (ts ++ (u.0, as_version version u.1) ∷ []))
      still [] none each = tt
      still (v ∷ vs) none each = ((absent, each.0.1, each.0.2), still vs (later (bytes_eq u.0 v.0) none) each.1)
        where
          later : (b : Bool) → cond b (Some v.1) (table_of vs u.0) ≡ None → table_of vs u.0 ≡ None
          later true e = absurd (none_some v.1 (sym e))
          later false e = e

          absent : table_of (ts ++ (u.0, as_version version u.1) ∷ []) v.0 ≡ None
          absent = table_of-append ts ((u.0, as_version version u.1) ∷ []) v.0
              ∙ ap (λ (o : Option Rows). option_or o (table_of ((u.0, as_version version u.1) ∷ []) v.0)) each.0.0
              ∙ ap (λ b. cond b (Some (as_version version u.1)) None) (other-name u.0 v vs none)

-- what is touched, and no other table, is dropped or changed

pub each-filter : (P : List ℕ × Rows → Type 0) (p : List ℕ × Rows → Bool) (ts : Tables) → EachTable ts P → EachTable (filter p ts) P
each-filter P p [] each = tt
each-filter P p (t ∷ ts) each = by (p t) (each-filter P p ts each.1)
  where
    by : (b : Bool) → EachTable (filter p ts) P → EachTable (cond b (t ∷ filter p ts) (filter p ts)) P
    by true rest = (each.0, rest)
    by false rest = rest

filter-each : (P : List ℕ × Rows → Type 0) (p : List ℕ × Rows → Bool) (ts : Tables) → EachTable (filter p ts) P → EachTable ts (λ t. p t ≡ true → P t)
filter-each P p [] each = tt
filter-each P p (t ∷ ts) each = by (p t) each (λ e. filter-each P p ts e)
  where
    by : (b : Bool) → EachTable (cond b (t ∷ filter p ts) (filter p ts)) P → (EachTable (filter p ts) P → EachTable ts (λ u. p u ≡ true → P u)) → (b ≡ true → P t) × EachTable ts (λ u. p u ≡ true → P u)
    by true e go = ((λ _. e.0), go e.1)
    by false e go = ((λ never. absurd (false_true never)), go e)

pass-each : (p : List ℕ × Rows → Bool) (ts : Tables) → EachTable (filter p ts) (λ t. p t ≡ true)
pass-each p [] = tt
pass-each p (t ∷ ts) = by (p t) refl (pass-each p ts)
  where
    by : (b : Bool) → p t ≡ b → EachTable (filter p ts) (λ u. p u ≡ true) → EachTable (cond b (t ∷ filter p ts) (filter p ts)) (λ u. p u ≡ true)
    by true e rest = (e, rest)
    by false e rest = rest

module _ (fate : List ℕ → Fate) where
  abbrev touched_by : List ℕ × Rows → Bool
  touched_by t = is_touched (fate t.0)

  dropped-touched : (ts : Tables) → filter_map (λ t. dropped_by t (fate t.0)) ts ≡ filter_map (λ t. dropped_by t (fate t.0)) (filter touched_by ts)
  dropped-touched [] = refl
  dropped-touched (t ∷ ts) = by (fate t.0) refl (dropped-touched ts)
    where
      by : (f : Fate) → fate t.0 ≡ f → filter_map (λ u. dropped_by u (fate u.0)) ts ≡ filter_map (λ u. dropped_by u (fate u.0)) (filter touched_by ts)
          → cons_option (dropped_by t f) (filter_map (λ u. dropped_by u (fate u.0)) ts) ≡ filter_map (λ u. dropped_by u (fate u.0)) (cond (is_touched f) (t ∷ filter touched_by ts) (filter touched_by ts))
      by stays at e = e
      by goes at e = ap (λ (cs : List TableChange). changes.Dropped t.0 ∷ cs) e ∙ sym (ap (λ x. cons_option (dropped_by t x) (filter_map (λ u. dropped_by u (fate u.0)) (filter touched_by ts))) at)
      by (becomes later) at e = e ∙ sym (ap (λ x. cons_option (dropped_by t x) (filter_map (λ u. dropped_by u (fate u.0)) (filter touched_by ts))) at)

  kept-touched : (ts : Tables) → filter_map (λ t. kept_by t (fate t.0)) ts ≡ filter_map (λ t. kept_by t (fate t.0)) (filter touched_by ts)
  kept-touched [] = refl
  kept-touched (t ∷ ts) = by (fate t.0) refl (kept-touched ts)
    where
      by : (f : Fate) → fate t.0 ≡ f → filter_map (λ u. kept_by u (fate u.0)) ts ≡ filter_map (λ u. kept_by u (fate u.0)) (filter touched_by ts)
          → cons_option (kept_by t f) (filter_map (λ u. kept_by u (fate u.0)) ts) ≡ filter_map (λ u. kept_by u (fate u.0)) (cond (is_touched f) (t ∷ filter touched_by ts) (filter touched_by ts))
      by stays at e = e
      by goes at e = e ∙ sym (ap (λ x. cons_option (kept_by t x) (filter_map (λ u. kept_by u (fate u.0)) (filter touched_by ts))) at)
      by (becomes later) at e = ap (λ (cs : List TableChange). changes.Kept t.0 later.next (row_changes t.1.rows later.rows) ∷ cs) e ∙ sym (ap (λ x. cons_option (kept_by t x) (filter_map (λ u. kept_by u (fate u.0)) (filter touched_by ts))) at)

-- one list of changes, by the table itself or by that of its name

map-same : (by : List ℕ × Rows → Fate → Option TableChange) (f g : List ℕ × Rows → Fate) (ts : Tables) → EachTable ts (λ t. f t ≡ g t) → filter_map (λ t. by t (f t)) ts ≡ filter_map (λ t. by t (g t)) ts
map-same by f g [] each = refl
map-same by f g (t ∷ ts) each = ap (λ x. cons_option (by t x) (filter_map (λ u. by u (f u)) ts)) each.0 ∙ ap (λ (cs : List TableChange). cons_option (by t (g t)) cs) (map-same by f g ts each.1)

-- columns of a copy

copy-columns : {base copy : Tables} (name : List ℕ) (b t : Rows) → CopyOf base copy → AreNamed base → table_of base name ≡ Some b → table_of copy name ≡ Some t → (t.version == 0) ≡ false → t.columns ≡ b.columns
copy-columns name b t (makes made) named at_b at_t old = absurd (none_some b at_b)
copy-columns {copy = copy} name b t (drops {base = base} u of) named at_b at_t old = by (bytes_eq name u.0) refl at_b (λ e. copy-columns name b t of named.1 e at_t old)
  where
    is_gone : (o : Option Rows) → o ≡ Some t → IsGone o → ⊥
    is_gone None e gone = none_some t e
    is_gone (Some x) e gone = false_true (sym old ∙ ap (λ n. n == 0) (ap (λ (y : Rows). y.version) (sym (some_same x t e)) ∙ gone))

    by : (c : Bool) → bytes_eq name u.0 ≡ c → cond c (Some u.1) (table_of base name) ≡ Some b → (table_of base name ≡ Some b → t.columns ≡ b.columns) → t.columns ≡ b.columns
    by true here e go = absurd (is_gone (table_of copy name) at_t (copy-gone 0 (λ n. stays) name of (ap (table_of base) (name-same name u.0 here) ∙ named.0)))
    by false here e go = go e
copy-columns name b t (has {base = base} {copy = copy} u later version columns of) named at_b at_t old = by (bytes_eq name u.0) at_b at_t (λ e f. copy-columns name b t of named.1 e f old)
  where
    by : (c : Bool) → cond c (Some u.1) (table_of base name) ≡ Some b → cond c (Some later) (table_of copy name) ≡ Some t → (table_of base name ≡ Some b → table_of copy name ≡ Some t → t.columns ≡ b.columns) → t.columns ≡ b.columns
    by true e f go = ap (λ (x : Rows). x.columns) (sym (some_same later t f)) ∙ columns ∙ ap (λ (x : Rows). x.columns) (some_same u.1 b e)
    by false e f go = go e f

copy-stand : {base copy : Tables} → CopyOf base copy → EachTable base (λ t. (t.1.version == 0) ≡ false) → EachTable (filter (λ t. t.1.version == 0) copy) (λ t. columns_stand t.1.columns ≡ true)
copy-stand {copy = copy} (makes made) old = each-filter (λ t. columns_stand t.1.columns ≡ true) (λ t. t.1.version == 0) copy (each-map (λ t. (t.1.version ≡ 0) × (columns_stand t.1.columns ≡ true)) (λ t. columns_stand t.1.columns ≡ true) copy (λ t m. m.1) made)
copy-stand (drops t of) old = copy-stand of old.1
copy-stand (has {copy = copy} t later version columns of) old =
    subst (λ b. EachTable (cond b ((t.0, later) ∷ filter (λ u. u.1.version == 0) copy) (filter (λ u. u.1.version == 0) copy)) (λ u. columns_stand u.1.columns ≡ true)) (sym (ap (λ n. n == 0) version ∙ old.0)) (copy-stand of old.1)

-- names of some tables
pub filter-named : (p : List ℕ × Rows → Bool) (ts : Tables) → AreNamed ts → AreNamed (filter p ts)
filter-named p [] named = tt
filter-named p (t ∷ ts) named = by (p t) (fewer ts named.0) (filter-named p ts named.1)
  where
    fewer : (us : Tables) → table_of us t.0 ≡ None → table_of (filter p us) t.0 ≡ None
    fewer [] e = refl
    fewer (u ∷ us) e = of (p u) (bytes_eq t.0 u.0) refl e (λ later. fewer us later)
      where
        of : (b c : Bool) → bytes_eq t.0 u.0 ≡ c → cond c (Some u.1) (table_of us t.0) ≡ None → (table_of us t.0 ≡ None → table_of (filter p us) t.0 ≡ None) → table_of (cond b (u ∷ filter p us) (filter p us)) t.0 ≡ None
        of b true at e go = absurd (none_some u.1 (sym e))
        of true false at e go = ap (λ x. cond x (Some u.1) (table_of (filter p us) t.0)) at ∙ go e
        of false false at e go = go e

    by : (b : Bool) → table_of (filter p ts) t.0 ≡ None → AreNamed (filter p ts) → AreNamed (cond b (t ∷ filter p ts) (filter p ts))
    by true none rest = (none, rest)
    by false none rest = rest

-- the tables of names, with another version
pub version-found : (c : ℕ) (ts : Tables) (name : List ℕ) (t : Rows) → table_of ts name ≡ Some t → table_of (map (λ u. (u.0, as_version c u.1)) ts) name ≡ Some (as_version c t)
version-found c [] name t e = absurd (none_some t e)
version-found c (u ∷ us) name t e = by (bytes_eq name u.0) e (λ later. version-found c us name t later)
  where
    by : (b : Bool) → cond b (Some u.1) (table_of us name) ≡ Some t → (table_of us name ≡ Some t → table_of (map (λ x. (x.0, as_version c x.1)) us) name ≡ Some (as_version c t)) → cond b (Some (as_version c u.1)) (table_of (map (λ x. (x.0, as_version c x.1)) us) name) ≡ Some (as_version c t)
    by true e go = ap (λ (x : Rows). Some (as_version c x)) (some_same u.1 t e)
    by false e go = go e

pub each-both : (P Q R : List ℕ × Rows → Type 0) (ts : Tables) → ((t : List ℕ × Rows) → P t → Q t → R t) → EachTable ts P → EachTable ts Q → EachTable ts R
each-both P Q R [] of one other = tt
each-both P Q R (t ∷ ts) of one other = (of t one.0 other.0, each-both P Q R ts of one.1 other.1)

becomes-old : (b t later : Rows) → fate_of (Some b) (Some t) ≡ becomes later → (t.version == 0) ≡ false
becomes-old b t later e = by (t.version == 0) e
  where
    by : (v : Bool) → cond v goes (cond (same_rows b t) stays (becomes t)) ≡ becomes later → v ≡ false
    by true e = absurd cc
    by false e = refl

module _ (first : ℕ) (cs : List Commit) (tx : ℕ) (base copy : Tables) (names : List (List ℕ)) (next : ℕ) (history : IsHistory first cs) (txn : IsTransaction first cs tx base copy names next) (current : AreCurrent base (tables_after [] cs) names) where
  abbrev committed : Tables
  committed = tables_after [] cs

  abbrev number : ℕ
  number = length cs + 1

  abbrev fate : List ℕ → Fate
  fate name = fate_of (table_of base name) (table_of copy name)

  abbrev merged : Tables
  merged = merge committed base copy number

  abbrev fresh : Tables
  fresh = filter (λ t. t.1.version == 0) copy

  base_named : AreNamed base
  base_named = touched.base_named first cs tx base copy names next history txn current

  copy_named : AreNamed copy
  copy_named = touched.copy_named first cs tx base copy names next history txn current

  last_named : AreNamed committed
  last_named = touched.last_named first cs tx base copy names next history txn current

  same_touched : filter (of_base number fate) base ≡ filter (of_base number fate) committed
  same_touched = touched.same_touched first cs tx base copy names next history txn current

  by_name : EachTable base (λ t. fate_of (Some t.1) (table_of copy t.0) ≡ fate t.0)
  by_name = each-found (λ t. fate_of (Some t.1) (table_of copy t.0) ≡ fate t.0) base base_named (λ t is. ap (λ (o : Option Rows). fate_of o (table_of copy t.0)) (sym is))

  all_dropped : filter_map (λ t. dropped_by t (fate_of (Some t.1) (table_of copy t.0))) base ≡ dropped_in number fate committed
  all_dropped =
      map-same dropped_by (λ t. fate_of (Some t.1) (table_of copy t.0)) (λ t. fate t.0) base by_name ∙ dropped-touched fate base
      ∙ ap (λ (ts : Tables). filter_map (λ t. dropped_by t (fate t.0)) ts) same_touched ∙ sym (dropped-touched fate committed)

  all_kept : filter_map (λ t. kept_by t (fate_of (Some t.1) (table_of copy t.0))) base ≡ changed_in number fate committed
  all_kept =
      map-same kept_by (λ t. fate_of (Some t.1) (table_of copy t.0)) (λ t. fate t.0) base by_name ∙ kept-touched fate base
      ∙ ap (λ (ts : Tables). filter_map (λ t. kept_by t (fate t.0)) ts) same_touched ∙ sym (kept-touched fate committed)

  -- a touched committed table is the base's
  of_the_base : EachTable committed (λ t. is_touched (fate t.0) ≡ true → table_of base t.0 ≡ Some t.1)
  of_the_base = filter-each (λ t. table_of base t.0 ≡ Some t.1) (of_base number fate) committed
      (subst (λ (ts : Tables). EachTable ts (λ t. table_of base t.0 ≡ Some t.1)) same_touched (each-filter (λ t. table_of base t.0 ≡ Some t.1) (of_base number fate) base (each-found (λ t. table_of base t.0 ≡ Some t.1) base base_named (λ t is. is))))

  are_changes : EachTable committed (IsChange number fate)
  are_changes = each-both (λ t. is_touched (fate t.0) ≡ true → table_of base t.0 ≡ Some t.1) (λ t. IsNumbered t.1) (IsChange number fate) committed one of_the_base (ordered-numbered committed (history.ordered (length cs) committed (past-last [] cs)))
    where
      one : (t : List ℕ × Rows) → (is_touched (fate t.0) ≡ true → table_of base t.0 ≡ Some t.1) → IsNumbered t.1 → IsChange number fate t
      one t at numbered later is =
          let at_base : table_of base t.0 ≡ Some t.1 = at (ap is_touched is) in
          let at_copy : table_of copy t.0 ≡ Some later = becomes-copy (table_of base t.0) (table_of copy t.0) later is in
          let old : (later.version == 0) ≡ false = becomes-old t.1 later later (ap (fate_of (Some t.1)) (sym at_copy) ∙ ap (λ (o : Option Rows). fate_of o (table_of copy t.0)) (sym at_base) ∙ is) in
          (copy-columns t.0 t.1 later txn.copy_of base_named at_base at_copy old, numbered, found-each (λ u. IsNumbered u) copy t.0 later (ordered-numbered copy txn.ordered) at_copy)

  fresh_named : AreNamed fresh
  fresh_named = filter-named (λ t. t.1.version == 0) copy copy_named

  -- no kept table has the name of a new one
  no_kept : EachTable fresh (λ u. table_of (kept_in number fate committed) u.0 ≡ None)
  no_kept = each-found (λ u. table_of (kept_in number fate committed) u.0 ≡ None) fresh fresh_named (λ u is. ⊎_elim
      (λ (e : table_of (kept_in number fate committed) u.0 ≡ None). e)
      (λ (e : table_of (new_ones number copy) u.0 ≡ None). absurd (none_some (as_version number u.1) (sym e ∙ version-found number fresh u.0 u.1 is)))
      (kept_or_new first cs tx base copy names next history txn current u.0))

  are_new : EachTable fresh (IsNew number (kept_in number fate committed))
  are_new = each-both (λ u. table_of (kept_in number fate committed) u.0 ≡ None) (λ u. (columns_stand u.1.columns ≡ true) × IsNumbered u.1) (IsNew number (kept_in number fate committed)) fresh (λ u none rest. (none, rest.0, rest.1)) no_kept
      (each-both (λ u. columns_stand u.1.columns ≡ true) (λ u. IsNumbered u.1) (λ u. (columns_stand u.1.columns ≡ true) × IsNumbered u.1) fresh (λ u stand numbered. (stand, numbered))
      (copy-stand txn.copy_of (touched.base_committed first cs tx base copy names next history txn current))
      (each-filter (λ u. IsNumbered u.1) (λ t. t.1.version == 0) copy (ordered-numbered copy txn.ordered)))

  -- THE CHANGES LEAD from the committed tables to the merged ones
  pub changes-merge : with_table_changes number committed (commit_changes base copy) ≡ Some merged
  changes-merge =
      ap (λ (ds : List TableChange). with_table_changes number committed ((ds ++ filter_map (λ t. kept_by t (fate_of (Some t.1) (table_of copy t.0))) base) ++ map new_by fresh)) all_dropped
      ∙ ap (λ (ks : List TableChange). with_table_changes number committed ((dropped_in number fate committed ++ ks) ++ map new_by fresh)) all_kept
      ∙ changes-append number committed (dropped_in number fate committed ++ changed_in number fate committed) (map new_by fresh)
      ∙ ap (λ (o : Option Tables). option_and_then (λ later. with_table_changes number later (map new_by fresh)) o)
      (changes-append number committed (dropped_in number fate committed) (changed_in number fate committed)
      ∙ ap (λ (o : Option Tables). option_and_then (λ later. with_table_changes number later (changed_in number fate committed)) o) (dropped-lead number fate committed last_named)
      ∙ changed-lead number fate committed last_named are_changes)
      ∙ new-lead number (kept_in number fate committed) fresh fresh_named are_new

  -- THE FOLD of Rows takes the record of the commit
  pub commit-taken : (r : Commits) (branch : Bool) → r.commits ≡ cs → tx / 2 ^ 32 ≡ r.opening
      → rows_step r (records.Commit tx (length r.commits + 1) branch (commit_changes base copy)) ≡ Some (with_commit r (commit_to r.commits tx branch (merge (tables_after [] r.commits) base copy (length r.commits + 1))))
  commit-taken r branch is drawn =
      ap (λ b. cond (b && is_none (commit_of tx r.commits) && (tx / 2 ^ 32 == r.opening)) (fitting r tx branch (with_table_changes (length r.commits + 1) (tables_after [] r.commits) (commit_changes base copy))) None) (is-self (length r.commits + 1))
      ∙ ap (λ (o : Option Commit). cond (is_none o && (tx / 2 ^ 32 == r.opening)) (fitting r tx branch (with_table_changes (length r.commits + 1) (tables_after [] r.commits) (commit_changes base copy))) None) (ap (commit_of tx) is ∙ unused-none first cs tx txn.unused)
      ∙ ap (λ b. cond b (fitting r tx branch (with_table_changes (length r.commits + 1) (tables_after [] r.commits) (commit_changes base copy))) None) (ap (λ n. n == r.opening) drawn ∙ is-self r.opening)
      ∙ ap (fitting r tx branch) (ap (λ (ds : List Commit). with_table_changes (length ds + 1) (tables_after [] ds) (commit_changes base copy)) is ∙ changes-merge ∙ ap (λ (ds : List Commit). Some (merge (tables_after [] ds) base copy (length ds + 1))) (sym is))
      ∙ ap (λ b. cond b (Some (with_commit r (commit_to r.commits tx branch (merge (tables_after [] r.commits) base copy (length r.commits + 1))))) None) (ap (λ (ds : List Commit). fits (merge (tables_after [] ds) base copy (length ds + 1))) is ∙ merged_fit first cs tx base copy names next history txn current)
