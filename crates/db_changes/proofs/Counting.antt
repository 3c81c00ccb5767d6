-- The tables that the handles of a copy make: how many they are, and that they stand last.
use Rattle.std.proofs.Common.{◌≡◌, ◌+◌, ◌≤◌, ◌==◌, true, List, [], ◌∷◌, ◌++◌, filter, length, map, refl, ◌∙◌, ap, arith}
use Rattle.std.specs.List.{cons_option, filter_map, list_all}
use Rattle.std.proofs.lemmas.List.{append_assoc}
use Rattle.dl_base.specs.Limits.{most_tables}
use Rattle.db_replay.specs.Applying.{new_in}
use Rattle.db_replay.specs.declared.changes.Change.{Change}
use Rattle.meaning_merge.specs.Merging.{Fate, becomes, goes, stays}
use Rattle.meaning_tables.specs.Tables.{Tables}
use Rattle.db_changes.specs.Handles.{dropped_handle, fate_in, handles, kept_handle, makes, new_handle, new_last, NewLast}

new-append : (cs ds : List Change) → new_in (cs ++ ds) ≡ new_in cs + new_in ds
new-append [] ds = omega arith
new-append (c ∷ cs) ds = omega (arith, new-append cs ds)

news-count : (us : Tables) → new_in (map new_handle us) ≡ length us
news-count [] = refl
news-count (u ∷ us) = omega (arith, news-count us)

news-all : (us : Tables) → list_all makes (map new_handle us) ≡ true
news-all [] = refl
news-all (u ∷ us) = news-all us

news-last : (us : Tables) → new_last (map new_handle us) ≡ true
news-last [] = refl
news-last (u ∷ us) = news-all us

module _ (copy : Tables) where
  abbrev dropped : Tables → List Change
  dropped bs = filter_map (λ t. dropped_handle t (fate_in copy t)) bs

  abbrev kept : Tables → List Change
  kept bs = filter_map (λ t. kept_handle t (fate_in copy t)) bs

  abbrev fresh : Tables
  fresh = filter (λ t. t.1.version == 0) copy

  dropped-none : (bs : Tables) → new_in (dropped bs) ≡ 0
  dropped-none [] = refl
  dropped-none (b ∷ bs) = by (fate_in copy b) (dropped-none bs)
    where
      by : (f : Fate) → new_in (dropped bs) ≡ 0 → new_in (cons_option (dropped_handle b f) (dropped bs)) ≡ 0
      by stays go = go
      by (becomes later) go = go
      by goes go = omega (arith, go)

  kept-none : (bs : Tables) → new_in (kept bs) ≡ 0
  kept-none [] = refl
  kept-none (b ∷ bs) = by (fate_in copy b) (kept-none bs)
    where
      by : (f : Fate) → new_in (kept bs) ≡ 0 → new_in (cons_option (kept_handle b f) (kept bs)) ≡ 0
      by stays go = go
      by goes go = go
      by (becomes later) go = omega (arith, go)

  pub handles-count : (base : Tables) → new_in (handles base copy) ≡ length fresh
  handles-count base =
      let one = new-append (dropped base ++ kept base) (map new_handle fresh) in
      let two = new-append (dropped base) (kept base) in
      omega (arith, one, two, dropped-none base, kept-none base, news-count fresh)

  dropped-last : (bs : Tables) (cs : List Change) → new_last cs ≡ true → new_last (dropped bs ++ cs) ≡ true
  dropped-last [] cs last = last
  dropped-last (b ∷ bs) cs last = by (fate_in copy b) (dropped-last bs cs last)
    where
      by : (f : Fate) → new_last (dropped bs ++ cs) ≡ true → new_last (cons_option (dropped_handle b f) (dropped bs) ++ cs) ≡ true
      by stays go = go
      by (becomes later) go = go
      by goes go = go

  kept-last : (bs : Tables) (cs : List Change) → new_last cs ≡ true → new_last (kept bs ++ cs) ≡ true
  kept-last [] cs last = last
  kept-last (b ∷ bs) cs last = by (fate_in copy b) (kept-last bs cs last)
    where
      by : (f : Fate) → new_last (kept bs ++ cs) ≡ true → new_last (cons_option (kept_handle b f) (kept bs) ++ cs) ≡ true
      by stays go = go
      by goes go = go
      by (becomes later) go = go

  pub handles-last : (base : Tables) → new_last (handles base copy) ≡ true
  handles-last base =
      ap new_last (append_assoc (dropped base) (kept base) (map new_handle fresh))
      ∙ dropped-last base (kept base ++ map new_handle fresh) (kept-last base (map new_handle fresh) (news-last fresh))

pub few_new : (base copy : Tables) (hs : List Change) → hs ≡ handles base copy → length (filter (λ t. t.1.version == 0) copy) ≤ most_tables → new_in hs ≤ most_tables
few_new base copy hs is few = let count = ap new_in is ∙ handles-count copy base in omega (arith, count, few)

pub order_new : (base copy : Tables) (hs : List Change) → hs ≡ handles base copy → NewLast hs
order_new base copy hs is = ap new_last is ∙ handles-last copy base
