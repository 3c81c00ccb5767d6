-- The handles of a restore lead from the committed tables to the restored ones, whatever version they get.
use Rattle.std.proofs.Common.{◌≡◌, ℕ, ◌&&◌, Bool, true, false, cond, not, bytes_eq, List, [], ◌∷◌, ◌++◌, map, filter, Option, Some, None, is_none, append-nil, append_assoc, refl, sym, ◌∙◌, ap}
use Rattle.std.specs.List.{cons_option, filter_map}
use Rattle.std.proofs.lemmas.List.{map-append}
use Rattle.db_changes.specs.Handles.{new_handle}
use Rattle.db_replay.specs.Applying.{are_new}
use Rattle.db_replay.specs.Changes.{all_at_version, applied, apply, at_version}
use Rattle.db_replay.specs.declared.changes.Change.{Change}
use Rattle.db_replay.specs.declared.changes.Change.TheVariants as handles
use Rattle.meaning_areas.specs.Same.{same_columns}
use Rattle.meaning_merge.specs.History.{EachTable}
use Rattle.meaning_merge.specs.Merging.{AreNamed, as_version}
use Rattle.meaning_merge.specs.Restoring.{is_kept, kept_as, new_in, restored_tables}
use Rattle.meaning_merge.proofs.Keeping.{each-found, name-same, past-head}
use Rattle.meaning_merge.proofs.MergeLaws.{links-version}
use Rattle.meaning_merge.proofs.TableByTable.{alone}
use Rattle.meaning_merge.proofs.TableChanges.{filter-named}
use Rattle.meaning_tables.specs.Links.{links}
use Rattle.meaning_tables.specs.Tables.{Rows, Tables, table_of, with_table, without_table}
use Rattle.bk_losing.proofs.Named.{absent, with-middle}
use Rattle.bk_restore.specs.Handles.{dropped_handle, is_new_in, kept_handle, restore_handles}
use Rattle.bk_restore.proofs.Named.{AreOut, out-more, out-none, without-middle}

some_same : (x y : Rows) → Some x ≡ Some y → x ≡ y
some_same x y e = cc

none_some : (t : Rows) → None ≡ Some t → ⊥
none_some t e = cc

-- handles whose tables are changed
abbrev handled : (Rows → Rows) → Change → Change
handled f (handles.Dropped name) = handles.Dropped name
handled f (handles.Kept name t) = handles.Kept name (f t)
handled f (handles.New name t) = handles.New name (f t)

all-handled : (f : Rows → Rows) (g : Change → Change) → ((h : Change) → handled f h ≡ g h) → (hs : List Change) → map (handled f) hs ≡ map g hs
all-handled f g same [] = refl
all-handled f g same (h ∷ hs) = λ i. same h i ∷ all-handled f g same hs i

as_they_are : (h : Change) → handled (λ t. t) h ≡ h
as_they_are (handles.Dropped name) = refl
as_they_are (handles.Kept name t) = refl
as_they_are (handles.New name t) = refl

as_versioned : (c : ℕ) (h : Change) → handled (as_version c) h ≡ at_version c h
as_versioned c (handles.Dropped name) = refl
as_versioned c (handles.Kept name t) = refl
as_versioned c (handles.New name t) = refl

map-self : (hs : List Change) → map (λ h. h) hs ≡ hs
map-self [] = refl
map-self (h ∷ hs) = ap (λ (cs : List Change). h ∷ cs) (map-self hs)

applied-append : (ts : Tables) (cs ds : List Change) → applied ts (cs ++ ds) ≡ applied (applied ts cs) ds
applied-append ts [] ds = refl
applied-append ts (c ∷ cs) ds = applied-append (apply ts c) cs ds

module _ (target : Tables) where
  abbrev dropped : Tables → List Change
  dropped ts = filter_map (λ t. dropped_handle t (table_of target t.0)) ts

  abbrev kept : Tables → List Change
  kept ts = filter_map (λ t. kept_handle t (table_of target t.0)) ts

  -- the committed tables that are left
  abbrev left : Tables → Tables
  left ts = filter (λ t. is_kept (Some t.1) (table_of target t.0)) ts

  module _ (f : Rows → Rows) where
    abbrev kept_with : List ℕ × Rows → Option Rows → Option (List ℕ × Rows)
    kept_with t None = None
    kept_with t (Some later) = cond (same_columns t.1 later) (Some (t.0, f later)) None

    -- those that are kept, as they are in the target
    abbrev stays : Tables → Tables
    stays ts = filter_map (λ t. kept_with t (table_of target t.0)) ts

    dropped-lead : (done ts : Tables) → AreOut done ts → AreNamed ts → applied (done ++ ts) (map (handled f) (dropped ts)) ≡ done ++ left ts
    dropped-lead done [] out named = refl
    dropped-lead done (t ∷ ts) out named = by (is_kept (Some t.1) (table_of target t.0)) (λ before o. dropped-lead before ts o named.1)
      where
        by : (b : Bool) → ((before : Tables) → AreOut before ts → applied (before ++ ts) (map (handled f) (dropped ts)) ≡ before ++ left ts)
            → applied (done ++ t ∷ ts) (map (handled f) (cons_option (cond b None (Some (handles.Dropped t.0))) (dropped ts))) ≡ done ++ cond b (t ∷ left ts) (left ts)
        by true go =
            ap (λ (us : Tables). applied us (map (handled f) (dropped ts))) (sym (append_assoc done (t ∷ []) ts))
            ∙ go (done ++ t ∷ []) (out-more done ts t t.1 out.1 named.0) ∙ append_assoc done (t ∷ []) (left ts)
        by false go = ap (λ (us : Tables). applied us (map (handled f) (dropped ts))) (without-middle done ts t out.0) ∙ go done out.1

    kept-lead : (done ts : Tables) → AreOut done ts → AreNamed ts → applied (done ++ left ts) (map (handled f) (kept ts)) ≡ done ++ stays ts
    kept-lead done [] out named = refl
    kept-lead done (t ∷ ts) out named = by (table_of target t.0) (λ before o. kept-lead before ts o named.1)
      where
        of : (later : Rows) (b : Bool) → ((before : Tables) → AreOut before ts → applied (before ++ left ts) (map (handled f) (kept ts)) ≡ before ++ stays ts)
            → applied (done ++ cond b (t ∷ left ts) (left ts)) (map (handled f) (cons_option (cond b (Some (handles.Kept t.0 later)) None) (kept ts))) ≡ done ++ cons_option (cond b (Some (t.0, f later)) None) (stays ts)
        of later true go =
            ap (λ (us : Tables). applied us (map (handled f) (kept ts))) (with-middle done (left ts) t (f later) out.0 ∙ sym (append_assoc done ((t.0, f later) ∷ []) (left ts)))
            ∙ go (done ++ (t.0, f later) ∷ []) (out-more done ts t (f later) out.1 named.0) ∙ append_assoc done ((t.0, f later) ∷ []) (stays ts)
        of later false go = go done out.1

        by : (o : Option Rows) → ((before : Tables) → AreOut before ts → applied (before ++ left ts) (map (handled f) (kept ts)) ≡ before ++ stays ts)
            → applied (done ++ cond (is_kept (Some t.1) o) (t ∷ left ts) (left ts)) (map (handled f) (cons_option (kept_handle t o) (kept ts))) ≡ done ++ cons_option (kept_with t o) (stays ts)
        by None go = go done out.1
        by (Some later) go = of later (same_columns t.1 later) go

    new-lead : (us ts : Tables) → applied ts (map (handled f) (map new_handle us)) ≡ ts ++ map (λ u. (u.0, f u.1)) us
    new-lead [] ts = sym (append-nil ts)
    new-lead (u ∷ us) ts = new-lead us (ts ++ (u.0, f u.1) ∷ []) ∙ append_assoc ts ((u.0, f u.1) ∷ []) (map (λ x. (x.0, f x.1)) us)

    lead : (committed : Tables) → AreNamed committed → applied committed (map (handled f) (restore_handles committed target)) ≡ stays committed ++ map (λ u. (u.0, f u.1)) (new_in committed target)
    lead committed named =
        ap (applied committed) (map-append (handled f) (dropped committed ++ kept committed) (map new_handle (new_in committed target))
        ∙ ap (λ (cs : List Change). cs ++ map (handled f) (map new_handle (new_in committed target))) (map-append (handled f) (dropped committed) (kept committed)))
        ∙ applied-append committed (map (handled f) (dropped committed) ++ map (handled f) (kept committed)) (map (handled f) (map new_handle (new_in committed target)))
        ∙ ap (λ (ts : Tables). applied ts (map (handled f) (map new_handle (new_in committed target))))
        (applied-append committed (map (handled f) (dropped committed)) (map (handled f) (kept committed))
        ∙ ap (λ (ts : Tables). applied ts (map (handled f) (kept committed))) (dropped-lead [] committed (out-none committed) named)
        ∙ kept-lead [] committed (out-none committed) named)
        ∙ new-lead (new_in committed target) (stays committed)

  -- with a version, and without
  stays-version : (c : ℕ) (ts : Tables) → stays (as_version c) ts ≡ filter_map (λ t. kept_as c target t (table_of target t.0)) ts
  stays-version c [] = refl
  stays-version c (t ∷ ts) = by (table_of target t.0) (stays-version c ts)
    where
      by : (o : Option Rows) → stays (as_version c) ts ≡ filter_map (λ u. kept_as c target u (table_of target u.0)) ts
          → cons_option (kept_with (as_version c) t o) (stays (as_version c) ts) ≡ cons_option (kept_as c target t o) (filter_map (λ u. kept_as c target u (table_of target u.0)) ts)
      by None go = go
      by (Some later) go = ap (λ (us : Tables). cons_option (cond (same_columns t.1 later) (Some (t.0, as_version c later)) None) us) go

  stays-same : (c : ℕ) (ts : Tables) → stays (as_version c) ts ≡ map (λ t. (t.0, as_version c t.1)) (stays (λ t. t) ts)
  stays-same c [] = refl
  stays-same c (t ∷ ts) = by (table_of target t.0) (stays-same c ts)
    where
      of : (later : Rows) (b : Bool) → stays (as_version c) ts ≡ map (λ u. (u.0, as_version c u.1)) (stays (λ u. u) ts)
          → cons_option (cond b (Some (t.0, as_version c later)) None) (stays (as_version c) ts) ≡ map (λ u. (u.0, as_version c u.1)) (cons_option (cond b (Some (t.0, later)) None) (stays (λ u. u) ts))
      of later true go = ap (λ (us : Tables). (t.0, as_version c later) ∷ us) go
      of later false go = go

      by : (o : Option Rows) → stays (as_version c) ts ≡ map (λ u. (u.0, as_version c u.1)) (stays (λ u. u) ts)
          → cons_option (kept_with (as_version c) t o) (stays (as_version c) ts) ≡ map (λ u. (u.0, as_version c u.1)) (cons_option (kept_with (λ u. u) t o) (stays (λ u. u) ts))
      by None go = go
      by (Some later) go = of later (same_columns t.1 later) go

  -- no new table has the name of one that stays

  stays-none : (f : Rows → Rows) (ts : Tables) (name : List ℕ) → table_of ts name ≡ None → table_of (stays f ts) name ≡ None
  stays-none f [] name e = refl
  stays-none f (t ∷ ts) name e = let two = absent t ts name e in by (table_of target t.0) two.0 (stays-none f ts name two.1)
    where
      of : (later : Rows) (b : Bool) → bytes_eq name t.0 ≡ false → table_of (stays f ts) name ≡ None → table_of (cons_option (cond b (Some (t.0, f later)) None) (stays f ts)) name ≡ None
      of later true other go = past-head (t.0, f later) (stays f ts) name other ∙ go
      of later false other go = go

      by : (o : Option Rows) → bytes_eq name t.0 ≡ false → table_of (stays f ts) name ≡ None → table_of (cons_option (kept_with f t o) (stays f ts)) name ≡ None
      by None other go = go
      by (Some later) other go = of later (same_columns t.1 later) other go

  stays-new : (f : Rows → Rows) (ts : Tables) (name : List ℕ) (u : Rows) → AreNamed ts → table_of target name ≡ Some u → is_kept (table_of ts name) (Some u) ≡ false → table_of (stays f ts) name ≡ None
  stays-new f [] name u named at e = refl
  stays-new f (t ∷ ts) name u named at e = by (bytes_eq name t.0) refl e (λ later. stays-new f ts name u named.1 at later)
    where
      gone : bytes_eq name t.0 ≡ true → same_columns t.1 u ≡ false → stays f (t ∷ ts) ≡ stays f ts
      gone here other =
          ap (λ (o : Option Rows). cons_option (kept_with f t o) (stays f ts)) (ap (table_of target) (sym (name-same name t.0 here)) ∙ at)
          ∙ ap (λ b. cons_option (cond b (Some (t.0, f u)) None) (stays f ts)) other

      of : (later : Rows) (b : Bool) → bytes_eq name t.0 ≡ false → table_of (stays f ts) name ≡ None → table_of (cons_option (cond b (Some (t.0, f later)) None) (stays f ts)) name ≡ None
      of later true other go = past-head (t.0, f later) (stays f ts) name other ∙ go
      of later false other go = go

      passes : (o : Option Rows) → bytes_eq name t.0 ≡ false → table_of (stays f ts) name ≡ None → table_of (cons_option (kept_with f t o) (stays f ts)) name ≡ None
      passes None other go = go
      passes (Some later) other go = of later (same_columns t.1 later) other go

      by : (b : Bool) → bytes_eq name t.0 ≡ b → is_kept (cond b (Some t.1) (table_of ts name)) (Some u) ≡ false → (is_kept (table_of ts name) (Some u) ≡ false → table_of (stays f ts) name ≡ None)
          → table_of (stays f (t ∷ ts)) name ≡ None
      by true here off go = ap (λ (us : Tables). table_of us name) (gone here off) ∙ stays-none f ts name (alone t ts name named.0 here)
      by false there off go = passes (table_of target t.0) there (go off)

  -- each of some tables is found, and passes a test
  new-out : (f : Rows → Rows) (committed us : Tables) → AreNamed committed → EachTable us (λ u. table_of target u.0 ≡ Some u.1) → AreOut (stays f committed) (filter (is_new_in committed) us)
  new-out f committed [] named found = tt
  new-out f committed (u ∷ us) named found = by (is_kept (table_of committed u.0) (Some u.1)) refl (new-out f committed us named found.1)
    where
      by : (b : Bool) → is_kept (table_of committed u.0) (Some u.1) ≡ b → AreOut (stays f committed) (filter (is_new_in committed) us)
          → AreOut (stays f committed) (cond (not b) (u ∷ filter (is_new_in committed) us) (filter (is_new_in committed) us))
      by true e go = go
      by false e go = (stays-new f committed u.0 u.1 named found.0 e, go)

  news-new : (before us : Tables) → AreOut before us → AreNamed us → are_new before (map new_handle us) ≡ true
  news-new before [] out named = refl
  news-new before (u ∷ us) out named =
      ap (λ (o : Option Rows). is_none o && are_new (before ++ u ∷ []) (map new_handle us)) out.0
      ∙ news-new (before ++ u ∷ []) us (out-more before us u u.1 out.1 named.0) named.1

  dropped-new : (before ts : Tables) (cs : List Change) → are_new before (dropped ts ++ cs) ≡ are_new (applied before (dropped ts)) cs
  dropped-new before [] cs = refl
  dropped-new before (t ∷ ts) cs = by (is_kept (Some t.1) (table_of target t.0)) (λ us. dropped-new us ts cs)
    where
      by : (b : Bool) → ((us : Tables) → are_new us (dropped ts ++ cs) ≡ are_new (applied us (dropped ts)) cs)
          → are_new before (cons_option (cond b None (Some (handles.Dropped t.0))) (dropped ts) ++ cs) ≡ are_new (applied before (cons_option (cond b None (Some (handles.Dropped t.0))) (dropped ts))) cs
      by true go = go before
      by false go = go (without_table before t.0)

  kept-new : (before ts : Tables) (cs : List Change) → are_new before (kept ts ++ cs) ≡ are_new (applied before (kept ts)) cs
  kept-new before [] cs = refl
  kept-new before (t ∷ ts) cs = by (table_of target t.0) (λ us. kept-new us ts cs)
    where
      of : (later : Rows) (b : Bool) → ((us : Tables) → are_new us (kept ts ++ cs) ≡ are_new (applied us (kept ts)) cs)
          → are_new before (cons_option (cond b (Some (handles.Kept t.0 later)) None) (kept ts) ++ cs) ≡ are_new (applied before (cons_option (cond b (Some (handles.Kept t.0 later)) None) (kept ts))) cs
      of later true go = go (with_table before t.0 later)
      of later false go = go before

      by : (o : Option Rows) → ((us : Tables) → are_new us (kept ts ++ cs) ≡ are_new (applied us (kept ts)) cs)
          → are_new before (cons_option (kept_handle t o) (kept ts) ++ cs) ≡ are_new (applied before (cons_option (kept_handle t o) (kept ts))) cs
      by None go = go before
      by (Some later) go = of later (same_columns t.1 later) go

module _ (committed target : Tables) (named : AreNamed committed) where
  -- the tables behind the handles, as they are
  plain : applied committed (restore_handles committed target) ≡ stays target (λ t. t) committed ++ new_in committed target
  plain =
      ap (applied committed) (sym (all-handled (λ t. t) (λ h. h) as_they_are (restore_handles committed target) ∙ map-self (restore_handles committed target)))
      ∙ lead target (λ t. t) committed named ∙ ap (λ (us : Tables). stays target (λ t. t) committed ++ us) (same (new_in committed target))
    where
      same : (us : Tables) → map (λ u. (u.0, u.1)) us ≡ us
      same [] = refl
      same (u ∷ us) = ap (λ (vs : Tables). u ∷ vs) (same us)

  -- THE HANDLES LEAD to the restored tables
  pub handles-lead : (c : ℕ) → applied committed (all_at_version c (restore_handles committed target)) ≡ restored_tables committed target c
  handles-lead c =
      ap (applied committed) (sym (all-handled (as_version c) (at_version c) (as_versioned c) (restore_handles committed target)))
      ∙ lead target (as_version c) committed named
      ∙ ap (λ (ts : Tables). ts ++ map (λ t. (t.0, as_version c t.1)) (new_in committed target)) (stays-version target c committed)

  -- whose links are those of the tables behind the handles as they are
  pub links-lead : (c : ℕ) → links (applied committed (restore_handles committed target)) ≡ links (restored_tables committed target c)
  links-lead c =
      ap links plain ∙ sym (links-version c (stays target (λ t. t) committed ++ new_in committed target))
      ∙ ap links (map-append (λ t. (t.0, as_version c t.1)) (stays target (λ t. t) committed) (new_in committed target)
      ∙ ap (λ (ts : Tables). ts ++ map (λ t. (t.0, as_version c t.1)) (new_in committed target)) (sym (stays-same target c committed) ∙ stays-version target c committed))

  -- no new table has a name that is there when its turn comes
  pub handles-new : AreNamed target → are_new committed (restore_handles committed target) ≡ true
  handles-new target_named =
      ap (are_new committed) (append_assoc (dropped target committed) (kept target committed) (map new_handle (new_in committed target)))
      ∙ dropped-new target committed committed (kept target committed ++ map new_handle (new_in committed target))
      ∙ kept-new target (applied committed (dropped target committed)) committed (map new_handle (new_in committed target))
      ∙ ap (λ (ts : Tables). are_new ts (map new_handle (new_in committed target))) behind
      ∙ news-new target (stays target (λ t. t) committed) (new_in committed target)
      (new-out target (λ t. t) committed target named (each-found (λ u. table_of target u.0 ≡ Some u.1) target target_named (λ u is. is)))
      (filter-named (is_new_in committed) target target_named)
    where
      as_is : (hs : List Change) → hs ≡ map (handled (λ t. t)) hs
      as_is hs = sym (all-handled (λ t. t) (λ h. h) as_they_are hs ∙ map-self hs)

      behind : applied (applied committed (dropped target committed)) (kept target committed) ≡ stays target (λ t. t) committed
      behind =
          (λ i. applied (applied committed (as_is (dropped target committed) i)) (as_is (kept target committed) i))
          ∙ ap (λ (ts : Tables). applied ts (map (handled (λ t. t)) (kept target committed))) (dropped-lead target (λ t. t) [] committed (out-none committed) named)
          ∙ kept-lead target (λ t. t) [] committed (out-none committed) named
