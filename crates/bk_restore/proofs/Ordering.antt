-- The handles of new tables stand last.
use Rattle.std.proofs.Common.{◌≡◌, Bool, true, cond, false, List, [], ◌∷◌, ◌++◌, map, Option, Some, None, append_assoc, refl, ◌∙◌, ap}
use Rattle.std.specs.List.{cons_option, filter_map, list_all}
use Rattle.db_changes.specs.Handles.{NewLast, makes, new_handle, new_last}
use Rattle.db_replay.specs.declared.changes.Change.{Change}
use Rattle.db_replay.specs.declared.changes.Change.TheVariants as handles
use Rattle.meaning_areas.specs.Same.{same_columns}
use Rattle.meaning_merge.specs.Restoring.{is_kept, new_in}
use Rattle.meaning_tables.specs.Tables.{Rows, Tables, table_of}
use Rattle.bk_restore.specs.Handles.{dropped_handle, kept_handle, restore_handles}

news-all : (us : Tables) → list_all makes (map new_handle us) ≡ true
news-all [] = refl
news-all (u ∷ us) = news-all us

news-last : (us : Tables) → new_last (map new_handle us) ≡ true
news-last [] = refl
news-last (u ∷ us) = news-all us

module _ (target : Tables) where
  abbrev dropped : Tables → List Change
  dropped ts = filter_map (λ t. dropped_handle t (table_of target t.0)) ts

  abbrev kept : Tables → List Change
  kept ts = filter_map (λ t. kept_handle t (table_of target t.0)) ts

  dropped-last : (ts : Tables) (cs : List Change) → new_last cs ≡ true → new_last (dropped ts ++ cs) ≡ true
  dropped-last [] cs last = last
  dropped-last (t ∷ ts) cs last = by (is_kept (Some t.1) (table_of target t.0)) (dropped-last ts cs last)
    where
      by : (b : Bool) → new_last (dropped ts ++ cs) ≡ true → new_last (cons_option (cond b None (Some (handles.Dropped t.0))) (dropped ts) ++ cs) ≡ true
      by true go = go
      by false go = go

  kept-last : (ts : Tables) (cs : List Change) → new_last cs ≡ true → new_last (kept ts ++ cs) ≡ true
  kept-last [] cs last = last
  kept-last (t ∷ ts) cs last = by (table_of target t.0) (kept-last ts cs last)
    where
      of : (later : Rows) (b : Bool) → new_last (kept ts ++ cs) ≡ true → new_last (cons_option (cond b (Some (handles.Kept t.0 later)) None) (kept ts) ++ cs) ≡ true
      of later true go = go
      of later false go = go

      by : (o : Option Rows) → new_last (kept ts ++ cs) ≡ true → new_last (cons_option (kept_handle t o) (kept ts) ++ cs) ≡ true
      by None go = go
      by (Some later) go = of later (same_columns t.1 later) go

pub handles-last : (committed target : Tables) → NewLast (restore_handles committed target)
handles-last committed target =
    ap new_last (append_assoc (dropped target committed) (kept target committed) (map new_handle (new_in committed target)))
    ∙ dropped-last target committed (kept target committed ++ map new_handle (new_in committed target)) (kept-last target committed (map new_handle (new_in committed target)) (news-last (new_in committed target)))
