-- There is no handle exactly where a copy is the same as its base.
use Rattle.std.proofs.Common.{◌≡◌, ◌↔◌, ℕ, ◌==◌, ◌&&◌, Bool, true, false, not, cond, List, [], ◌∷◌, ◌++◌, bytes_eq, filter, map, Option, Some, None, refl, sym, ◌∙◌, ap, subst}
use Rattle.std.specs.Cmp.Lexicographic.{nat_list_eq_equiv}
use Rattle.std.specs.List.{cons_option, filter_map}
use Rattle.std.proofs.lemmas.Bool.{and_from, and_parts}
use Rattle.db_replay.specs.declared.changes.Change.{Change}
use Rattle.meaning_areas.specs.Same.{same_rows, same_tables}
use Rattle.meaning_areas.proofs.Equal.{rows-decide, tables-decide}
use Rattle.meaning_merge.specs.History.{EachTable}
use Rattle.meaning_merge.specs.Merging.{AreNamed, Fate, becomes, fate_of, goes, stays}
use Rattle.meaning_merge.proofs.Keeping.{at-head, each-found, found-each, name-self, past-head}
use Rattle.meaning_tables.specs.Tables.{Rows, Tables, table_of}
use Rattle.db_changes.specs.Handles.{dropped_handle, fate_in, handles, kept_handle, new_handle}
use Rattle.db_changes.specs.Touched.{AreCommitted, FollowsBase, adds, are_committed, drops, keeps}
use Rattle.db_changes.proofs.Following.{are_made, follows-committed}

none_some : (t : Rows) → Some t ≡ None → ⊥
none_some t e = cc

cons_nil : {A : Type 0} (x : A) (xs : List A) → x ∷ xs ≡ [] → ⊥
cons_nil x xs e = cc

-- lists that are empty together

both-empty : {A : Type 0} (xs ys : List A) → xs ++ ys ≡ [] → (xs ≡ []) × (ys ≡ [])
both-empty [] ys e = (refl, e)
both-empty (x ∷ xs) ys e = absurd (cons_nil x (xs ++ ys) e)

map-empty : {A B : Type 0} (f : A → B) (xs : List A) → map f xs ≡ [] → xs ≡ []
map-empty f [] e = refl
map-empty f (x ∷ xs) e = absurd (cons_nil (f x) (map f xs) e)

-- names

absent : (t : List ℕ × Rows) (ts : Tables) (name : List ℕ) → table_of (t ∷ ts) name ≡ None → (bytes_eq name t.0 ≡ false) × (table_of ts name ≡ None)
absent t ts name e = by (bytes_eq name t.0) e
  where
    by : (b : Bool) → cond b (Some t.1) (table_of ts name) ≡ None → (b ≡ false) × (table_of ts name ≡ None)
    by true x = absurd (none_some t.1 x)
    by false x = (refl, x)

other_way : (m n : List ℕ) → bytes_eq m n ≡ false → bytes_eq n m ≡ false
other_way m n e = nat_list_eq_equiv.symm n m ∙ e

-- the handles of a copy

abbrev dropped : Tables → Tables → List Change
dropped copy bs = filter_map (λ t. dropped_handle t (fate_in copy t)) bs

abbrev kept : Tables → Tables → List Change
kept copy bs = filter_map (λ t. kept_handle t (fate_in copy t)) bs

abbrev fresh : Tables → Tables
fresh copy = filter (λ t. t.1.version == 0) copy

abbrev AllStay : Tables → Tables → Type 0
AllStay copy bs = EachTable bs (λ b. fate_in copy b ≡ stays)

all-stay : (copy bs : Tables) → dropped copy bs ≡ [] → kept copy bs ≡ [] → AllStay copy bs
all-stay copy [] d k = tt
all-stay copy (b ∷ bs) d k = by (fate_in copy b) refl d k (λ e f. all-stay copy bs e f)
  where
    by : (f : Fate) → fate_in copy b ≡ f → cons_option (dropped_handle b f) (dropped copy bs) ≡ [] → cons_option (kept_handle b f) (kept copy bs) ≡ []
        → (dropped copy bs ≡ [] → kept copy bs ≡ [] → AllStay copy bs) → (fate_in copy b ≡ stays) × AllStay copy bs
    by stays is d k go = (is, go d k)
    by goes is d k go = absurd (cons_nil _ (dropped copy bs) d)
    by (becomes later) is d k go = absurd (cons_nil _ (kept copy bs) k)

none-dropped : (copy bs : Tables) → AllStay copy bs → dropped copy bs ≡ []
none-dropped copy [] all = refl
none-dropped copy (b ∷ bs) all = ap (λ (f : Fate). cons_option (dropped_handle b f) (dropped copy bs)) all.0 ∙ none-dropped copy bs all.1

none-kept : (copy bs : Tables) → AllStay copy bs → kept copy bs ≡ []
none-kept copy [] all = refl
none-kept copy (b ∷ bs) all = ap (λ (f : Fate). cons_option (kept_handle b f) (kept copy bs)) all.0 ∙ none-kept copy bs all.1

-- what becomes of a table that the copy has not, and of one that it has

made-gone : (ts : Tables) (name : List ℕ) (b : Rows) → are_made ts ≡ true → fate_of (Some b) (table_of ts name) ≡ goes
made-gone [] name b made = refl
made-gone (t ∷ ts) name b made = let two = and_parts (t.1.version == 0) (are_made ts) made in by (bytes_eq name t.0) two.0 (made-gone ts name b two.1)
  where
    by : (x : Bool) → (t.1.version == 0) ≡ true → fate_of (Some b) (table_of ts name) ≡ goes → fate_of (Some b) (cond x (Some t.1) (table_of ts name)) ≡ goes
    by true one go = ap (λ v. cond v goes (cond (same_rows b t.1) stays (becomes t.1))) one
    by false one go = go

copy-gone : {base copy : Tables} (name : List ℕ) (b : Rows) → FollowsBase base copy → table_of base name ≡ None → fate_of (Some b) (table_of copy name) ≡ goes
copy-gone {copy = copy} name b (adds made) none = made-gone copy name b made
copy-gone name b (drops {base = base} t old of) none = copy-gone name b of (absent t base name none).1
copy-gone name b (keeps {base = base} {copy = copy} t later old version of) none =
    let two = absent t base name none in
    ap (λ (o : Option Rows). fate_of (Some b) o) (past-head (t.0, later) copy name two.0) ∙ copy-gone name b of two.1

goes_stays : goes ≡ stays → ⊥
goes_stays e = cc

becomes_stays : (t : Rows) → becomes t ≡ stays → ⊥
becomes_stays t e = cc

-- a table that the copy has, and that is there no more
rest-stay : (t : List ℕ × Rows) (later : Rows) (copy bs : Tables) → table_of bs t.0 ≡ None → AllStay ((t.0, later) ∷ copy) bs → AllStay copy bs
rest-stay t later copy [] none all = tt
rest-stay t later copy (b ∷ bs) none all =
    let two = absent b bs t.0 none in (
      ap (λ (o : Option Rows). fate_of (Some b.1) o) (sym (past-head (t.0, later) copy b.0 (other_way t.0 b.0 two.0))) ∙ all.0,
      rest-stay t later copy bs two.1 all.1,
    )

-- of a table that both have and that stays, the rows are the same
same-stays : (b t : Rows) → (t.version == 0) ≡ false → fate_of (Some b) (Some t) ≡ stays → same_rows b t ≡ true
same-stays b t old is = by (same_rows b t) (sym (ap (λ v. cond v goes (cond (same_rows b t) stays (becomes t))) old) ∙ is)
  where
    by : (x : Bool) → cond x stays (becomes t) ≡ stays → x ≡ true
    by true e = refl
    by false e = absurd (becomes_stays t e)

none-made : (ts : Tables) → are_made ts ≡ true → fresh ts ≡ [] → ts ≡ []
none-made [] made none = refl
none-made (t ∷ ts) made none =
    let two = and_parts (t.1.version == 0) (are_made ts) made in
    absurd (cons_nil t (fresh ts) (sym (ap (λ v. cond v (t ∷ fresh ts) (fresh ts)) two.0) ∙ none))

same-copy : {base copy : Tables} → FollowsBase base copy → AreNamed base → AllStay copy base → fresh copy ≡ [] → same_tables base copy ≡ true
same-copy {copy = copy} (adds made) named all none = ap (same_tables []) (none-made copy made none)
same-copy (drops {base = base} {copy = copy} t old of) named all none = absurd (goes_stays (sym (copy-gone t.0 t.1 of named.0) ∙ all.0))
same-copy (keeps {base = base} {copy = copy} t later old version of) named all none =
    let now : (later.version == 0) ≡ false = ap (λ n. n == 0) version ∙ old in
    let here : fate_of (Some t.1) (Some later) ≡ stays = ap (λ (o : Option Rows). fate_of (Some t.1) o) (sym (at-head (t.0, later) copy)) ∙ all.0 in
    and_from (bytes_eq t.0 t.0 && same_rows t.1 later) (same_tables base copy)
    (and_from (bytes_eq t.0 t.0) (same_rows t.1 later) (name-self t.0) (same-stays t.1 later now here))
    (same-copy of named.1 (rest-stay t later copy base named.0 all.1) (sym (ap (λ v. cond v ((t.0, later) ∷ fresh copy) (fresh copy)) now) ∙ none))

-- the other way: committed tables beside themselves

each-committed : (ts : Tables) → AreCommitted ts → EachTable ts (λ t. (t.1.version == 0) ≡ false)
each-committed [] all = tt
each-committed (t ∷ ts) all = let two = and_parts (not (t.1.version == 0)) (are_committed ts) all in (is_false (t.1.version == 0) two.0, each-committed ts two.1)
  where
    is_false : (b : Bool) → not b ≡ true → b ≡ false
    is_false true e = absurd cc
    is_false false e = refl

none-fresh : (ts : Tables) → EachTable ts (λ t. (t.1.version == 0) ≡ false) → fresh ts ≡ []
none-fresh [] all = refl
none-fresh (t ∷ ts) all = ap (λ v. cond v (t ∷ fresh ts) (fresh ts)) all.0 ∙ none-fresh ts all.1

self-stays : (t : Rows) → (t.version == 0) ≡ false → fate_of (Some t) (Some t) ≡ stays
self-stays t old =
    ap (λ v. cond v goes (cond (same_rows t t) stays (becomes t))) old
    ∙ ap (λ v. cond v stays (becomes t)) ((rows-decide t t).1 refl)

no-handles : (base : Tables) → AreNamed base → AreCommitted base → handles base base ≡ []
no-handles base named committed =
    let old = each-committed base committed in
    let all : AllStay base base = each-found (λ (b : List ℕ × Rows). fate_in base b ≡ stays) base named (λ b is.
    ap (λ (o : Option Rows). fate_of (Some b.1) o) is ∙ self-stays b.1 (found-each (λ (t : Rows). (t.version == 0) ≡ false) base b.0 b.1 old is)) in
    ap (λ (ds : List Change). (ds ++ kept base base) ++ map new_handle (fresh base)) (none-dropped base base all)
    ∙ ap (λ (ks : List Change). ([] ++ ks) ++ map new_handle (fresh base)) (none-kept base base all)
    ∙ ap (λ (ts : Tables). map new_handle ts) (none-fresh base old)

pub nothing-changed : (base copy : Tables) → AreNamed base → FollowsBase base copy → (handles base copy ≡ []) ↔ (same_tables base copy ≡ true)
nothing-changed base copy named of = (forth, back)
  where
    forth : handles base copy ≡ [] → same_tables base copy ≡ true
    forth none =
        let parts = both-empty (dropped copy base ++ kept copy base) (map new_handle (fresh copy)) none in
        let two = both-empty (dropped copy base) (kept copy base) parts.0 in
        same-copy of named (all-stay copy base two.0 two.1) (map-empty new_handle (fresh copy) parts.1)

    back : same_tables base copy ≡ true → handles base copy ≡ []
    back e = subst (λ (ts : Tables). handles base ts ≡ []) ((tables-decide base copy).0 e) (no-handles base named (follows-committed of))
