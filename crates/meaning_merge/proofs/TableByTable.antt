-- What a merge leaves under each name.
use Rattle.std.proofs.Common.{◌≡◌, ⊎_elim, ℕ, ◌==◌, List, [], ◌∷◌, ◌++◌, Bool, true, false, cond, bytes_eq, map, Option, Some, None, refl, sym, ◌∙◌, ap}
use Rattle.std.specs.List.{filter, filter_map, cons_option}
use Rattle.std.specs.Option.{option_or}
use Rattle.std.proofs.lemmas.Slice.Eq.{bytes_eq-Decides}
use Rattle.meaning_settling.proofs.KeyedLaws.{either}
use Rattle.meaning_tables.specs.Tables.{Rows, Tables, table_of}
use Rattle.meaning_merge.specs.Merging.{Fate, stays, goes, becomes, fate_of, as_version, by_fate, new_ones, merge, kept_at, new_at, merged_at, AreNamed}

pub table_of-append : (ts us : Tables) (name : List ℕ) → table_of (ts ++ us) name ≡ option_or (table_of ts name) (table_of us name)
table_of-append [] us name = refl
table_of-append (t ∷ ts) us name = by (bytes_eq name t.0) (table_of-append ts us name)
  where
    by : (b : Bool) → table_of (ts ++ us) name ≡ option_or (table_of ts name) (table_of us name) → cond b (Some t.1) (table_of (ts ++ us) name) ≡ option_or (cond b (Some t.1) (table_of ts name)) (table_of us name)
    by true e = refl
    by false e = e

-- where a name is found, no later table has it
pub alone : (t : List ℕ × Rows) (ts : Tables) (name : List ℕ) → table_of ts t.0 ≡ None → bytes_eq name t.0 ≡ true → table_of ts name ≡ None
alone t ts name none here = ap (table_of ts) ((bytes_eq-Decides name t.0).0 here) ∙ none

module _ (c : ℕ) (fate : List ℕ → Fate) where
  abbrev pub kept : Tables → Tables
  kept ts = filter_map (λ t. by_fate c t (fate t.0)) ts

  pub none-kept : (ts : Tables) (name : List ℕ) → table_of ts name ≡ None → table_of (kept ts) name ≡ None
  none-kept [] name e = refl
  none-kept (t ∷ ts) name e = by (bytes_eq name t.0) refl (fate t.0) (λ none. none-kept ts name none)
    where
      rest : (b : Bool) → cond b (Some t.1) (table_of ts name) ≡ None → (b ≡ false) × (table_of ts name ≡ None)
      rest true x = absurd cc
      rest false x = (refl, x)

      by : (b : Bool) → bytes_eq name t.0 ≡ b → (f : Fate) → (table_of ts name ≡ None → table_of (filter_map (λ u. by_fate c u (fate u.0)) ts) name ≡ None) → table_of (cons_option (by_fate c t f) (filter_map (λ u. by_fate c u (fate u.0)) ts)) name ≡ None
      by b is stays go = let two = rest (bytes_eq name t.0) e in ap (λ x. cond x (Some t.1) (table_of (filter_map (λ u. by_fate c u (fate u.0)) ts) name)) two.0 ∙ go two.1
      by b is goes go = let two = rest (bytes_eq name t.0) e in go two.1
      by b is (becomes later) go = let two = rest (bytes_eq name t.0) e in ap (λ x. cond x (Some (as_version c later)) (table_of (filter_map (λ u. by_fate c u (fate u.0)) ts) name)) two.0 ∙ go two.1

  pub kept-table : (ts : Tables) (name : List ℕ) → AreNamed ts → table_of (kept ts) name ≡ kept_at c (table_of ts name) (fate name)
  kept-table [] name named = refl
  kept-table (t ∷ ts) name named = ⊎_elim
      (λ (here : bytes_eq name t.0 ≡ true).
      found (fate t.0) here (none-kept ts name (alone t ts name named.0 here))
      ∙ ap (kept_at c (Some t.1)) (ap fate (sym ((bytes_eq-Decides name t.0).0 here)))
      ∙ sym (ap (λ x. kept_at c (cond x (Some t.1) (table_of ts name)) (fate name)) here))
      (λ (there : bytes_eq name t.0 ≡ false). passed (fate t.0) there ∙ kept-table ts name named.1 ∙ sym (ap (λ x. kept_at c (cond x (Some t.1) (table_of ts name)) (fate name)) there))
      (either (bytes_eq name t.0))
    where
      found : (f : Fate) → bytes_eq name t.0 ≡ true → table_of (kept ts) name ≡ None → table_of (cons_option (by_fate c t f) (filter_map (λ u. by_fate c u (fate u.0)) ts)) name ≡ kept_at c (Some t.1) f
      found stays here none = ap (λ x. cond x (Some t.1) (table_of (filter_map (λ u. by_fate c u (fate u.0)) ts) name)) here
      found goes here none = none
      found (becomes later) here none = ap (λ x. cond x (Some (as_version c later)) (table_of (filter_map (λ u. by_fate c u (fate u.0)) ts) name)) here

      passed : (f : Fate) → bytes_eq name t.0 ≡ false → table_of (cons_option (by_fate c t f) (filter_map (λ u. by_fate c u (fate u.0)) ts)) name ≡ table_of (filter_map (λ u. by_fate c u (fate u.0)) ts) name
      passed stays there = ap (λ x. cond x (Some t.1) (table_of (filter_map (λ u. by_fate c u (fate u.0)) ts) name)) there
      passed goes there = refl
      passed (becomes later) there = ap (λ x. cond x (Some (as_version c later)) (table_of (filter_map (λ u. by_fate c u (fate u.0)) ts) name)) there

module _ (c : ℕ) where
  pub none-new : (ts : Tables) (name : List ℕ) → table_of ts name ≡ None → table_of (new_ones c ts) name ≡ None
  none-new [] name e = refl
  none-new (t ∷ ts) name e = by (t.1.version == 0) (rest (bytes_eq name t.0) e) (λ none. none-new ts name none)
    where
      rest : (b : Bool) → cond b (Some t.1) (table_of ts name) ≡ None → (b ≡ false) × (table_of ts name ≡ None)
      rest true x = absurd cc
      rest false x = (refl, x)

      by : (v : Bool) → (bytes_eq name t.0 ≡ false) × (table_of ts name ≡ None) → (table_of ts name ≡ None → table_of (new_ones c ts) name ≡ None)
          → table_of (map (λ u. (u.0, as_version c u.1)) (cond v (t ∷ filter (λ u. u.1.version == 0) ts) (filter (λ u. u.1.version == 0) ts))) name ≡ None
      by true two go = ap (λ x. cond x (Some (as_version c t.1)) (table_of (new_ones c ts) name)) two.0 ∙ go two.1
      by false two go = go two.1

  pub new-table : (ts : Tables) (name : List ℕ) → AreNamed ts → table_of (new_ones c ts) name ≡ new_at c (table_of ts name)
  new-table [] name named = refl
  new-table (t ∷ ts) name named = ⊎_elim
      (λ (here : bytes_eq name t.0 ≡ true). found (t.1.version == 0) here (none-new ts name (alone t ts name named.0 here)) ∙ sym (ap (λ x. new_at c (cond x (Some t.1) (table_of ts name))) here))
      (λ (there : bytes_eq name t.0 ≡ false). passed (t.1.version == 0) there ∙ new-table ts name named.1 ∙ sym (ap (λ x. new_at c (cond x (Some t.1) (table_of ts name))) there))
      (either (bytes_eq name t.0))
    where
      found : (v : Bool) → bytes_eq name t.0 ≡ true → table_of (new_ones c ts) name ≡ None
          → table_of (map (λ u. (u.0, as_version c u.1)) (cond v (t ∷ filter (λ u. u.1.version == 0) ts) (filter (λ u. u.1.version == 0) ts))) name ≡ cond v (Some (as_version c t.1)) None
      found true here none = ap (λ x. cond x (Some (as_version c t.1)) (table_of (new_ones c ts) name)) here
      found false here none = none

      passed : (v : Bool) → bytes_eq name t.0 ≡ false
          → table_of (map (λ u. (u.0, as_version c u.1)) (cond v (t ∷ filter (λ u. u.1.version == 0) ts) (filter (λ u. u.1.version == 0) ts))) name ≡ table_of (new_ones c ts) name
      passed true there = ap (λ x. cond x (Some (as_version c t.1)) (table_of (new_ones c ts) name)) there
      passed false there = refl

-- THE LAW OF MERGING, table by table
pub merged-table : (committed base copy : Tables) (c : ℕ) (name : List ℕ) → AreNamed committed → AreNamed copy
    → table_of (merge committed base copy c) name ≡ merged_at c (table_of committed name) (table_of base name) (table_of copy name)
merged-table committed base copy c name named copied =
    table_of-append (kept c (λ n. fate_of (table_of base n) (table_of copy n)) committed) (new_ones c copy) name
    ∙ ap (λ (o : Option Rows). option_or o (table_of (new_ones c copy) name)) (kept-table c (λ n. fate_of (table_of base n) (table_of copy n)) committed name named)
    ∙ ap (option_or (kept_at c (table_of committed name) (fate_of (table_of base name) (table_of copy name)))) (new-table c copy name copied)
