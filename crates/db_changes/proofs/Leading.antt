-- The handles of what a copy makes of its base lead from the committed tables to the merged ones.
use Rattle.std.proofs.Common.{◌≡◌, ℕ, ◌==◌, List, [], ◌∷◌, ◌++◌, Bool, true, false, cond, map, filter, Option, Some, None, bytes_eq, refl, sym, ◌∙◌, ap}
use Rattle.std.specs.Cmp.Lexicographic.{pointwise, nat_list_eq_equiv}
use Rattle.std.specs.List.{AllByRecursion, IsDistinct, cons_option, filter_map}
use Rattle.std.proofs.lemmas.List.{append-nil, append_assoc, map-append}
use Rattle.db_replay.specs.Changes.{all_at_version, applied, apply, at_version}
use Rattle.db_replay.specs.declared.changes.Change.{Change}
use Rattle.meaning_merge.specs.Merging.{AreNamed, Fate, as_version, becomes, by_fate, fate_of, goes, merge, stays}
use Rattle.meaning_merge.proofs.Keeping.{at-head, name-same, past-head}
use Rattle.meaning_merge.proofs.TableChanges.{filter-named}
use Rattle.meaning_tables.specs.Tables.{Rows, Tables, table_of, with_table, without_table}
use Rattle.db_changes.specs.Handles.{dropped_handle, fate_in, handles, kept_handle, new_handle}

none_some : (t : Rows) → Some t ≡ None → ⊥
none_some t e = cc

pub other_way : (m n : List ℕ) → bytes_eq m n ≡ false → bytes_eq n m ≡ false
other_way m n e = nat_list_eq_equiv.symm n m ∙ e

-- a name that no table has
pub absent : (t : List ℕ × Rows) (ts : Tables) (name : List ℕ) → table_of (t ∷ ts) name ≡ None → (bytes_eq name t.0 ≡ false) × (table_of ts name ≡ None)
absent t ts name e = by (bytes_eq name t.0) e
  where
    by : (b : Bool) → cond b (Some t.1) (table_of ts name) ≡ None → (b ≡ false) × (table_of ts name ≡ None)
    by true x = absurd (none_some t.1 x)
    by false x = (refl, x)

pub absent-more : (t : List ℕ × Rows) (ts : Tables) (name : List ℕ) → bytes_eq name t.0 ≡ false → table_of ts name ≡ None → table_of (t ∷ ts) name ≡ None
absent-more t ts name other none = past-head t ts name other ∙ none

pub distinct-named : (ts : Tables) → IsDistinct (pointwise ◌==◌) (map (λ t. t.0) ts) → AreNamed ts
unfolding IsDistinct
distinct-named [] distinct = tt
distinct-named (t ∷ ts) distinct = (none ts distinct.0, distinct-named ts distinct.1)
  where
    none : (us : Tables) → AllByRecursion (λ y. pointwise ◌==◌ t.0 y ≡ false) (map (λ u. u.0) us) → table_of us t.0 ≡ None
    none [] all = refl
    none (u ∷ us) all = absent-more u us t.0 all.0 (none us all.1)

applied-append : (ts : Tables) (cs ds : List Change) → applied ts (cs ++ ds) ≡ applied (applied ts cs) ds
applied-append ts [] ds = refl
applied-append ts (c ∷ cs) ds = applied-append (apply ts c) cs ds

-- names without one, and with another table under one

none-without : (ts : Tables) (name other : List ℕ) → table_of ts other ≡ None → table_of (without_table ts name) other ≡ None
none-without [] name other none = refl
none-without (t ∷ ts) name other none = by (bytes_eq name t.0) (absent t ts other none) (λ e. none-without ts name other e)
  where
    by : (b : Bool) → (bytes_eq other t.0 ≡ false) × (table_of ts other ≡ None) → (table_of ts other ≡ None → table_of (without_table ts name) other ≡ None) → table_of (cond b ts (t ∷ without_table ts name)) other ≡ None
    by true two go = two.1
    by false two go = absent-more t (without_table ts name) other two.0 (go two.1)

pub without-named : (ts : Tables) (name : List ℕ) → AreNamed ts → AreNamed (without_table ts name)
without-named [] name named = tt
without-named (t ∷ ts) name named = by (bytes_eq name t.0) (without-named ts name named.1)
  where
    by : (b : Bool) → AreNamed (without_table ts name) → AreNamed (cond b ts (t ∷ without_table ts name))
    by true go = named.1
    by false go = (none-without ts name t.0 named.0, go)

none-with : (ts : Tables) (name other : List ℕ) (x : Rows) → table_of ts other ≡ None → table_of (with_table ts name x) other ≡ None
none-with [] name other x none = refl
none-with (t ∷ ts) name other x none = by (bytes_eq name t.0) (absent t ts other none) (λ e. none-with ts name other x e)
  where
    by : (b : Bool) → (bytes_eq other t.0 ≡ false) × (table_of ts other ≡ None) → (table_of ts other ≡ None → table_of (with_table ts name x) other ≡ None) → table_of (cond b ((t.0, x) ∷ ts) (t ∷ with_table ts name x)) other ≡ None
    by true two go = absent-more (t.0, x) ts other two.0 two.1
    by false two go = absent-more t (with_table ts name x) other two.0 (go two.1)

pub with-named : (ts : Tables) (name : List ℕ) (x : Rows) → AreNamed ts → AreNamed (with_table ts name x)
with-named [] name x named = tt
with-named (t ∷ ts) name x named = by (bytes_eq name t.0) (with-named ts name x named.1)
  where
    by : (b : Bool) → AreNamed (with_table ts name x) → AreNamed (cond b ((t.0, x) ∷ ts) (t ∷ with_table ts name x))
    by true go = named
    by false go = (none-with ts name t.0 x named.0, go)

module _ (copy : Tables) (c : ℕ) where
  -- what becomes of a name
  abbrev fate : Tables → List ℕ → Fate
  fate bs name = fate_of (table_of bs name) (table_of copy name)

  fate-here : (b : List ℕ × Rows) (bs : Tables) (name : List ℕ) → bytes_eq b.0 name ≡ true → fate (b ∷ bs) name ≡ fate_in copy b
  fate-here b bs name e = ap (fate (b ∷ bs)) (sym (name-same b.0 name e)) ∙ ap (λ (o : Option Rows). fate_of o (table_of copy b.0)) (at-head b bs)

  fate-other : (b : List ℕ × Rows) (bs : Tables) (name : List ℕ) → bytes_eq b.0 name ≡ false → fate (b ∷ bs) name ≡ fate bs name
  fate-other b bs name e = ap (λ (o : Option Rows). fate_of o (table_of copy name)) (past-head b bs name (other_way b.0 name e))

  fate-none : (bs : Tables) (b : List ℕ × Rows) (name : List ℕ) → table_of bs b.0 ≡ None → bytes_eq b.0 name ≡ true → fate bs name ≡ stays
  fate-none bs b name none e = ap (fate bs) (sym (name-same b.0 name e)) ∙ ap (λ (o : Option Rows). fate_of o (table_of copy b.0)) none

  -- dropped tables

  abbrev remains : Fate → Bool
  remains stays = true
  remains goes = false
  remains (becomes later) = true

  abbrev left : Tables → Tables → Tables
  left bs ts = filter (λ t. remains (fate bs t.0)) ts

  left-all : (ts : Tables) → ts ≡ left [] ts
  left-all [] = refl
  left-all (t ∷ ts) = ap (λ (us : Tables). t ∷ us) (left-all ts)

  left-step : (bs cs ts : Tables) (t : List ℕ × Rows) → remains (fate bs t.0) ≡ remains (fate cs t.0) → left bs ts ≡ left cs ts → left bs (t ∷ ts) ≡ left cs (t ∷ ts)
  left-step bs cs ts t here rest = ap (λ x. cond x (t ∷ left bs ts) (left bs ts)) here ∙ ap (λ (us : Tables). cond (remains (fate cs t.0)) (t ∷ us) us) rest

  left-other : (b : List ℕ × Rows) (bs ts : Tables) → table_of ts b.0 ≡ None → left bs ts ≡ left (b ∷ bs) ts
  left-other b bs [] none = refl
  left-other b bs (t ∷ ts) none = let two = absent t ts b.0 none in left-step bs (b ∷ bs) ts t (ap remains (sym (fate-other b bs t.0 two.0))) (left-other b bs ts two.1)

  left-still : (b : List ℕ × Rows) (bs ts : Tables) → table_of bs b.0 ≡ None → remains (fate_in copy b) ≡ true → left bs ts ≡ left (b ∷ bs) ts
  left-still b bs [] none stay = refl
  left-still b bs (t ∷ ts) none stay = left-step bs (b ∷ bs) ts t (by (bytes_eq b.0 t.0) refl) (left-still b bs ts none stay)
    where
      by : (x : Bool) → bytes_eq b.0 t.0 ≡ x → remains (fate bs t.0) ≡ remains (fate (b ∷ bs) t.0)
      by true e = ap remains (fate-none bs b t.0 none e) ∙ sym (ap remains (fate-here b bs t.0 e) ∙ stay)
      by false e = ap remains (sym (fate-other b bs t.0 e))

  left-without : (b : List ℕ × Rows) (bs ts : Tables) → AreNamed ts → fate_in copy b ≡ goes → left bs (without_table ts b.0) ≡ left (b ∷ bs) ts
  left-without b bs [] named gone = refl
  left-without b bs (t ∷ ts) named gone = by (bytes_eq b.0 t.0) refl (left-without b bs ts named.1 gone)
    where
      by : (x : Bool) → bytes_eq b.0 t.0 ≡ x → left bs (without_table ts b.0) ≡ left (b ∷ bs) ts → left bs (cond x ts (t ∷ without_table ts b.0)) ≡ left (b ∷ bs) (t ∷ ts)
      by true e go =
          left-other b bs ts (ap (table_of ts) (name-same b.0 t.0 e) ∙ named.0)
          ∙ sym (ap (λ x. cond x (t ∷ left (b ∷ bs) ts) (left (b ∷ bs) ts)) (ap remains (fate-here b bs t.0 e ∙ gone)))
      by false e go =
          ap (λ (us : Tables). cond (remains (fate bs t.0)) (t ∷ us) us) go
          ∙ ap (λ x. cond x (t ∷ left (b ∷ bs) ts) (left (b ∷ bs) ts)) (ap remains (sym (fate-other b bs t.0 e)))

  abbrev dropped : Tables → List Change
  dropped bs = filter_map (λ t. dropped_handle t (fate_in copy t)) bs

  dropped-lead : (bs ts : Tables) → AreNamed bs → AreNamed ts → applied ts (all_at_version c (dropped bs)) ≡ left bs ts
  dropped-lead [] ts bases named = left-all ts
  dropped-lead (b ∷ bs) ts bases named = by (fate_in copy b) refl (λ us n. dropped-lead bs us bases.1 n)
    where
      by : (f : Fate) → fate_in copy b ≡ f → ((us : Tables) → AreNamed us → applied us (all_at_version c (dropped bs)) ≡ left bs us) → applied ts (all_at_version c (cons_option (dropped_handle b f) (dropped bs))) ≡ left (b ∷ bs) ts
      by stays is go = go ts named ∙ left-still b bs ts bases.0 (ap remains is)
      by (becomes later) is go = go ts named ∙ left-still b bs ts bases.0 (ap remains is)
      by goes is go = go (without_table ts b.0) (without-named ts b.0 named) ∙ left-without b bs ts named is

  -- kept tables

  abbrev put : List ℕ × Rows → Fate → List ℕ × Rows
  put t stays = t
  put t goes = t
  put t (becomes later) = (t.0, as_version c later)

  abbrev changed : Tables → Tables → Tables
  changed bs ts = map (λ t. put t (fate bs t.0)) ts

  changed-none : (ts : Tables) → ts ≡ changed [] ts
  changed-none [] = refl
  changed-none (t ∷ ts) = ap (λ (us : Tables). t ∷ us) (changed-none ts)

  changed-step : (t u : List ℕ × Rows) (ts us : Tables) → t ≡ u → ts ≡ us → t ∷ ts ≡ u ∷ us
  changed-step t u ts us here rest = λ i. here i ∷ rest i

  changed-other : (b : List ℕ × Rows) (bs ts : Tables) → table_of ts b.0 ≡ None → changed bs ts ≡ changed (b ∷ bs) ts
  changed-other b bs [] none = refl
  changed-other b bs (t ∷ ts) none =
      let two = absent t ts b.0 none in
      changed-step (put t (fate bs t.0)) (put t (fate (b ∷ bs) t.0)) (changed bs ts) (changed (b ∷ bs) ts) (ap (put t) (sym (fate-other b bs t.0 two.0))) (changed-other b bs ts two.1)

  changed-still : (b : List ℕ × Rows) (bs ts : Tables) → table_of bs b.0 ≡ None → ((t : List ℕ × Rows) → put t (fate_in copy b) ≡ t) → changed bs ts ≡ changed (b ∷ bs) ts
  changed-still b bs [] none stay = refl
  changed-still b bs (t ∷ ts) none stay = changed-step (put t (fate bs t.0)) (put t (fate (b ∷ bs) t.0)) (changed bs ts) (changed (b ∷ bs) ts) (by (bytes_eq b.0 t.0) refl) (changed-still b bs ts none stay)
    where
      by : (x : Bool) → bytes_eq b.0 t.0 ≡ x → put t (fate bs t.0) ≡ put t (fate (b ∷ bs) t.0)
      by true e = ap (put t) (fate-none bs b t.0 none e) ∙ sym (ap (put t) (fate-here b bs t.0 e) ∙ stay t)
      by false e = ap (put t) (sym (fate-other b bs t.0 e))

  changed-with : (b : List ℕ × Rows) (bs ts : Tables) (later : Rows) → table_of bs b.0 ≡ None → AreNamed ts → fate_in copy b ≡ becomes later → changed bs (with_table ts b.0 (as_version c later)) ≡ changed (b ∷ bs) ts
  changed-with b bs [] later none named is = refl
  changed-with b bs (t ∷ ts) later none named is = by (bytes_eq b.0 t.0) refl (changed-with b bs ts later none named.1 is)
    where
      by : (x : Bool) → bytes_eq b.0 t.0 ≡ x → changed bs (with_table ts b.0 (as_version c later)) ≡ changed (b ∷ bs) ts → changed bs (cond x ((t.0, as_version c later) ∷ ts) (t ∷ with_table ts b.0 (as_version c later))) ≡ changed (b ∷ bs) (t ∷ ts)
      by true e go = changed-step (put (t.0, as_version c later) (fate bs t.0)) (put t (fate (b ∷ bs) t.0)) (changed bs ts) (changed (b ∷ bs) ts)
          (ap (put (t.0, as_version c later)) (fate-none bs b t.0 none e) ∙ sym (ap (put t) (fate-here b bs t.0 e ∙ is)))
          (changed-other b bs ts (ap (table_of ts) (name-same b.0 t.0 e) ∙ named.0))
      by false e go = changed-step (put t (fate bs t.0)) (put t (fate (b ∷ bs) t.0)) (changed bs (with_table ts b.0 (as_version c later))) (changed (b ∷ bs) ts) (ap (put t) (sym (fate-other b bs t.0 e))) go

  abbrev kept : Tables → List Change
  kept bs = filter_map (λ t. kept_handle t (fate_in copy t)) bs

  kept-lead : (bs ts : Tables) → AreNamed bs → AreNamed ts → applied ts (all_at_version c (kept bs)) ≡ changed bs ts
  kept-lead [] ts bases named = changed-none ts
  kept-lead (b ∷ bs) ts bases named = by (fate_in copy b) refl (λ us n. kept-lead bs us bases.1 n)
    where
      by : (f : Fate) → fate_in copy b ≡ f → ((us : Tables) → AreNamed us → applied us (all_at_version c (kept bs)) ≡ changed bs us) → applied ts (all_at_version c (cons_option (kept_handle b f) (kept bs))) ≡ changed (b ∷ bs) ts
      by stays is go = go ts named ∙ changed-still b bs ts bases.0 (λ t. ap (put t) is)
      by goes is go = go ts named ∙ changed-still b bs ts bases.0 (λ t. ap (put t) is)
      by (becomes later) is go = go (with_table ts b.0 (as_version c later)) (with-named ts b.0 (as_version c later) named) ∙ changed-with b bs ts later bases.0 named is

  -- both, and the new ones

  both-lead : (bs ts : Tables) → changed bs (left bs ts) ≡ filter_map (λ t. by_fate c t (fate bs t.0)) ts
  both-lead bs [] = refl
  both-lead bs (t ∷ ts) = by (fate bs t.0) refl (both-lead bs ts)
    where
      by : (f : Fate) → fate bs t.0 ≡ f → changed bs (left bs ts) ≡ filter_map (λ u. by_fate c u (fate bs u.0)) ts
          → changed bs (cond (remains f) (t ∷ left bs ts) (left bs ts)) ≡ cons_option (by_fate c t f) (filter_map (λ u. by_fate c u (fate bs u.0)) ts)
      by stays is go = changed-step (put t (fate bs t.0)) t (changed bs (left bs ts)) (filter_map (λ u. by_fate c u (fate bs u.0)) ts) (ap (put t) is) go
      by goes is go = go
      by (becomes later) is go = changed-step (put t (fate bs t.0)) (t.0, as_version c later) (changed bs (left bs ts)) (filter_map (λ u. by_fate c u (fate bs u.0)) ts) (ap (put t) is) go

  new-lead : (us ts : Tables) → applied ts (all_at_version c (map new_handle us)) ≡ ts ++ map (λ u. (u.0, as_version c u.1)) us
  new-lead [] ts = sym (append-nil ts)
  new-lead (u ∷ us) ts = new-lead us (ts ++ (u.0, as_version c u.1) ∷ []) ∙ append_assoc ts ((u.0, as_version c u.1) ∷ []) (map (λ x. (x.0, as_version c x.1)) us)

  abbrev fresh : Tables
  fresh = filter (λ t. t.1.version == 0) copy

  -- THE HANDLES LEAD from the committed tables to the merged ones
  pub handles-lead : (committed base : Tables) → AreNamed committed → AreNamed base → applied committed (all_at_version c (handles base copy)) ≡ merge committed base copy c
  handles-lead committed base named bases =
      ap (applied committed) (map-append (at_version c) (dropped base ++ kept base) (map new_handle fresh) ∙ ap (λ (cs : List Change). cs ++ all_at_version c (map new_handle fresh)) (map-append (at_version c) (dropped base) (kept base)))
      ∙ applied-append committed (all_at_version c (dropped base) ++ all_at_version c (kept base)) (all_at_version c (map new_handle fresh))
      ∙ ap (λ (ts : Tables). applied ts (all_at_version c (map new_handle fresh)))
      (applied-append committed (all_at_version c (dropped base)) (all_at_version c (kept base))
      ∙ ap (λ (ts : Tables). applied ts (all_at_version c (kept base))) (dropped-lead base committed bases named)
      ∙ kept-lead base (left base committed) bases (filter-named (λ t. remains (fate base t.0)) committed named)
      ∙ both-lead base committed)
      ∙ new-lead fresh (filter_map (λ t. by_fate c t (fate base t.0)) committed)
