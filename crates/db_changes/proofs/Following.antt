-- A copy of committed tables stays one after a statement.
use Rattle.std.proofs.Common.{◌≡◌, ℕ, ◌==◌, Bool, true, false, not, cond, List, [], ◌∷◌, ◌++◌, bytes_eq, Some, refl, sym, ◌∙◌, ap}
use Rattle.std.specs.List.{list_all}
use Rattle.std.proofs.lemmas.Bool.{and_from, and_parts}
use Rattle.meaning_tables.specs.Tables.{Rows, Tables, table_of, with_table, without_table}
use Rattle.db_changes.specs.Touched.{AreCommitted, FollowsBase, adds, are_committed, drops, keeps}

some_same : (x y : Rows) → Some x ≡ Some y → x ≡ y
some_same x y e = cc

is_false : (b : Bool) → not b ≡ true → b ≡ false
is_false true e = absurd cc
is_false false e = refl

not_it : (b : Bool) → b ≡ false → not b ≡ true
not_it true e = absurd cc
not_it false e = refl

-- the version of a table that was put in the place of another
put-version : (later was now : Rows) → Some later ≡ Some was → now.version ≡ was.version → now.version ≡ later.version
put-version later was now e same = same ∙ ap (λ (t : Rows). t.version) (sym (some_same later was e))

pub follows-committed : {base copy : Tables} → FollowsBase base copy → AreCommitted base
follows-committed (adds new) = refl
follows-committed (drops {base = base} t old of) = and_from (not (t.1.version == 0)) (are_committed base) (not_it (t.1.version == 0) old) (follows-committed of)
follows-committed (keeps {base = base} t later old version of) = and_from (not (t.1.version == 0)) (are_committed base) (not_it (t.1.version == 0) old) (follows-committed of)

pub follows-itself : (base : Tables) → AreCommitted base → FollowsBase base base
follows-itself [] all = adds refl
follows-itself (t ∷ ts) all =
    let two = and_parts (not (t.1.version == 0)) (are_committed ts) all in
    keeps t t.1 (is_false (t.1.version == 0) two.0) refl (follows-itself ts two.1)

-- tables just made

abbrev pub are_made : Tables → Bool
are_made ts = list_all (λ t. t.1.version == 0) ts

made-put : (ts : Tables) (name : List ℕ) (was now : Rows) → are_made ts ≡ true → table_of ts name ≡ Some was → now.version ≡ was.version → are_made (with_table ts name now) ≡ true
made-put [] name was now made is same = refl
made-put (t ∷ ts) name was now made is same =
    let two = and_parts (t.1.version == 0) (are_made ts) made in
    by (bytes_eq name t.0) two.0 two.1 is (λ e. made-put ts name was now two.1 e same)
  where
    by : (b : Bool) → (t.1.version == 0) ≡ true → are_made ts ≡ true → cond b (Some t.1) (table_of ts name) ≡ Some was → (table_of ts name ≡ Some was → are_made (with_table ts name now) ≡ true)
        → are_made (cond b ((t.0, now) ∷ ts) (t ∷ with_table ts name now)) ≡ true
    by true one rest e go = and_from (now.version == 0) (are_made ts) (ap (λ n. n == 0) (put-version t.1 was now e same) ∙ one) rest
    by false one rest e go = and_from (t.1.version == 0) (are_made (with_table ts name now)) one (go e)

made-without : (ts : Tables) (name : List ℕ) → are_made ts ≡ true → are_made (without_table ts name) ≡ true
made-without [] name made = refl
made-without (t ∷ ts) name made =
    let two = and_parts (t.1.version == 0) (are_made ts) made in
    by (bytes_eq name t.0) two.0 two.1 (made-without ts name two.1)
  where
    by : (b : Bool) → (t.1.version == 0) ≡ true → are_made ts ≡ true → are_made (without_table ts name) ≡ true → are_made (cond b ts (t ∷ without_table ts name)) ≡ true
    by true one rest go = rest
    by false one rest go = and_from (t.1.version == 0) (are_made (without_table ts name)) one go

made-more : (ts : Tables) (name : List ℕ) (now : Rows) → are_made ts ≡ true → now.version ≡ 0 → are_made (ts ++ (name, now) ∷ []) ≡ true
made-more [] name now made none = and_from (now.version == 0) true (ap (λ n. n == 0) none) refl
made-more (t ∷ ts) name now made none =
    let two = and_parts (t.1.version == 0) (are_made ts) made in
    and_from (t.1.version == 0) (are_made (ts ++ (name, now) ∷ [])) two.0 (made-more ts name now two.1 none)

-- a copy

pub follows-put : {base copy : Tables} (name : List ℕ) (was now : Rows) → FollowsBase base copy → table_of copy name ≡ Some was → now.version ≡ was.version → FollowsBase base (with_table copy name now)
follows-put {copy = copy} name was now (adds made) is same = adds (made-put copy name was now made is same)
follows-put name was now (drops t old of) is same = drops t old (follows-put name was now of is same)
follows-put name was now (keeps {base = base} {copy = copy} t later old version of) is same = by (bytes_eq name t.0) is (λ e. follows-put name was now of e same)
  where
    by : (b : Bool) → cond b (Some later) (table_of copy name) ≡ Some was → (table_of copy name ≡ Some was → FollowsBase base (with_table copy name now))
        → FollowsBase (t ∷ base) (cond b ((t.0, now) ∷ copy) ((t.0, later) ∷ with_table copy name now))
    by true e go = keeps t now old (put-version later was now e same ∙ version) of
    by false e go = keeps t later old version (go e)

pub follows-drop : {base copy : Tables} (name : List ℕ) → FollowsBase base copy → FollowsBase base (without_table copy name)
follows-drop {copy = copy} name (adds made) = adds (made-without copy name made)
follows-drop name (drops t old of) = drops t old (follows-drop name of)
follows-drop name (keeps {base = base} {copy = copy} t later old version of) = by (bytes_eq name t.0) (follows-drop name of)
  where
    by : (b : Bool) → FollowsBase base (without_table copy name) → FollowsBase (t ∷ base) (cond b copy ((t.0, later) ∷ without_table copy name))
    by true go = drops t old of
    by false go = keeps t later old version go

pub follows-add : {base copy : Tables} (name : List ℕ) (now : Rows) → FollowsBase base copy → now.version ≡ 0 → FollowsBase base (copy ++ (name, now) ∷ [])
follows-add {copy = copy} name now (adds made) none = adds (made-more copy name now made none)
follows-add name now (drops t old of) none = drops t old (follows-add name now of none)
follows-add name now (keeps t later old version of) none = keeps t later old version (follows-add name now of none)
