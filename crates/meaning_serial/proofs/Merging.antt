-- What is merged into tables that a transaction's statements saw as they are, is what these statements make of them, but for versions.
use Rattle.std.proofs.Common.{◌≡◌, ℕ, ◌+◌, ◌==◌, ◌≤◌, ◌<◌, List, [], ◌∷◌, ◌++◌, Bool, true, false, cond, bytes_eq, length, map, nat_le, Option, Some, None, refl, sym, ◌∙◌, ap}
use Rattle.std.specs.List.{filter_map, cons_option}
use Rattle.meaning_areas.specs.Commits.{Commit, tables_after}
use Rattle.meaning_areas.specs.Same.{same_rows}
use Rattle.meaning_areas.specs.Stands.{past}
use Rattle.meaning_areas.proofs.Equal.{rows-decide}
use Rattle.meaning_merge.specs.History.{AreCurrent, EachTable, IsHistory, IsTransaction, Subsequence, ends, keeps, leaves, is_among, older}
use Rattle.meaning_merge.specs.Merging.{AreNamed, Fate, as_version, becomes, by_fate, fate_of, goes as fate_goes, merge, stays as fate_stays}
use Rattle.meaning_merge.proofs.Histories.{not-zero, ordered-named, past-last, past-within, within}
use Rattle.meaning_merge.proofs.Keeping.{at-head, each-map, found-each, in-tail, not-head, past-head}
use Rattle.meaning_tables.specs.Tables.{Rows, Tables, table_of, version}
use Rattle.meaning_serial.specs.Serial.{without_versions}
use Rattle.meaning_serial.proofs.Beside.{Beside, Stays, goes, has, new}
use Rattle.meaning_serial.proofs.Deeds.{false_true, made_in, none_some, some_same}

-- ---- one table

abbrev Named : Type 0
Named = List ℕ × Rows

-- a table but for its version
abbrev bare : Option Named → Option Named
bare None = None
bare (Some t) = Some (t.0, as_version 0 t.1)

-- what is left of a table that was there before: one of version 0 was made anew
abbrev unless : Bool → List ℕ → Rows → Option Named
unless made name t = cond made None (Some (name, t))

abbrev left_of : List ℕ → Option Rows → Option Named
left_of name None = None
left_of name (Some t) = unless (t.version == 0) name t

module _ (c : ℕ) where
  -- under a named table: base and committed tables have the same, and so have the copy and what became of the committed ones
  told-named : (name : List ℕ) (m : Rows) (o : Option Rows) → bare (by_fate c (name, m) (fate_of (Some m) o)) ≡ bare (left_of name o)
  told-named name m None = refl
  told-named name m (Some t) = by (t.version == 0) (same_rows m t) refl
    where
      by : (v s : Bool) → same_rows m t ≡ s → bare (by_fate c (name, m) (cond v fate_goes (cond s fate_stays (becomes t)))) ≡ bare (unless v name t)
      by true s is = refl
      by false true is = ap (λ (r : Rows). bare (Some (name, r))) ((rows-decide m t).0 is)
      by false false is = refl

  -- under another name base and copy have the same
  told-other : (name : List ℕ) (m : Rows) (o : Option Rows) → ((b : Rows) → o ≡ Some b → (b.version == 0) ≡ false) → (m.version == 0) ≡ false → bare (by_fate c (name, m) (fate_of o o)) ≡ bare (left_of name (Some m))
  told-other name m None old stood = sym (ap (λ v. bare (unless v name m)) stood)
  told-other name m (Some b) old stood =
      ap (λ v. bare (by_fate c (name, m) (cond v fate_goes (cond (same_rows b b) fate_stays (becomes b))))) (old b refl)
      ∙ ap (λ s. bare (by_fate c (name, m) (cond s fate_stays (becomes b)))) ((rows-decide b b).1 refl)
      ∙ sym (ap (λ v. bare (unless v name m)) stood)

-- ---- lists

cons-append : (o : Option Named) (xs ys : Tables) → cons_option o xs ++ ys ≡ cons_option o (xs ++ ys)
cons-append None xs ys = refl
cons-append (Some t) xs ys = refl

cons-bare : (o : Option Named) (xs : Tables) → without_versions (cons_option o xs) ≡ cons_option (bare o) (without_versions xs)
cons-bare None xs = refl
cons-bare (Some t) xs = refl

made-all : (ts : Tables) → EachTable ts (λ t. t.1.version ≡ 0) → made_in ts ≡ ts
made-all [] each = refl
made-all (t ∷ ts) each = ap (λ n. cond (n == 0) (t ∷ made_in ts) (made_in ts)) each.0 ∙ ap (λ (us : Tables). t ∷ us) (made-all ts each.1)

pub made-none : (ts : Tables) → EachTable ts (λ t. (t.1.version == 0) ≡ false) → made_in ts ≡ []
made-none [] each = refl
made-none (t ∷ ts) each = ap (λ b. cond b (t ∷ made_in ts) (made_in ts)) each.0 ∙ made-none ts each.1

version-again : (c : ℕ) (ts : Tables) → without_versions (map (λ t. (t.0, as_version c t.1)) ts) ≡ without_versions ts
version-again c [] = refl
version-again c (t ∷ ts) = ap (λ (us : Tables). (t.0, as_version 0 t.1) ∷ us) (version-again c ts)

made-gone : (ts : Tables) (name : List ℕ) → EachTable ts (λ t. t.1.version ≡ 0) → left_of name (table_of ts name) ≡ None
made-gone [] name each = refl
made-gone (t ∷ ts) name each = by (bytes_eq name t.0) (made-gone ts name each.1)
  where
    by : (b : Bool) → left_of name (table_of ts name) ≡ None → left_of name (cond b (Some t.1) (table_of ts name)) ≡ None
    by true go = ap (λ (n : ℕ). unless (n == 0) name t.1) each.0
    by false go = go

-- what was not there is not there, or made
gone : {was now : Tables} (name : List ℕ) → Stays was now → table_of was name ≡ None → left_of name (table_of now name) ≡ None
gone {now = now} name (new each) none = made-gone now name each
gone {now = now} name (goes {was = was} t of) none = by (bytes_eq name t.0) none (λ later. gone name of later)
  where
    by : (b : Bool) → cond b (Some t.1) (table_of was name) ≡ None → (table_of was name ≡ None → left_of name (table_of now name) ≡ None) → left_of name (table_of now name) ≡ None
    by true e go = absurd (none_some t.1 (sym e))
    by false e go = go e
gone name (has {was = was} {now = now} t later version of) none = by (bytes_eq name t.0) none (λ rest. gone name of rest)
  where
    by : (b : Bool) → cond b (Some t.1) (table_of was name) ≡ None → (table_of was name ≡ None → left_of name (table_of now name) ≡ None) → left_of name (cond b (Some later) (table_of now name)) ≡ None
    by true e go = absurd (none_some t.1 (sym e))
    by false e go = go e

module _ (c : ℕ) (fate : List ℕ → Fate) where
  abbrev kept : Tables → Tables
  kept ts = filter_map (λ t. by_fate c t (fate t.0)) ts

  abbrev fresh : Tables → Tables
  fresh ts = map (λ t. (t.0, as_version c t.1)) (made_in ts)

  -- what the merge makes of a table is what is left of it
  abbrev Tells : Tables → Tables → Type 0
  Tells was now = (name : List ℕ) (m : Rows) → table_of was name ≡ Some m → bare (by_fate c (name, m) (fate name)) ≡ bare (left_of name (table_of now name))

  no_bare : (o : Option Named) → bare o ≡ bare None → o ≡ None
  no_bare None e = refl
  no_bare (Some t) e = absurd (none_some (t.0, as_version 0 t.1) (sym e))

  -- THE MERGED TABLES
  merged-list : {was now : Tables} → Stays was now → AreNamed was → AreNamed now → EachTable was (λ t. (t.1.version == 0) ≡ false) → Tells was now → without_versions (kept was ++ fresh now) ≡ without_versions now
  merged-list {now = now} (new each) named other old tells = version-again c (made_in now) ∙ ap without_versions (made-all now each)
  merged-list {now = now} (goes {was = was} t of) named other old tells =
      ap (λ (o : Option Named). without_versions (cons_option o (kept was) ++ fresh now))
      (no_bare (by_fate c t (fate t.0)) (tells t.0 t.1 (at-head t was) ∙ ap bare (gone t.0 of named.0)))
      ∙ merged-list of named.1 other old.1 (λ name m is. tells name m (in-tail t was name m named.0 is))
  merged-list (has {was = was} {now = now} t later version of) named other old tells =
      ap without_versions (cons-append (by_fate c t (fate t.0)) (kept was) (fresh ((t.0, later) ∷ now)))
      ∙ cons-bare (by_fate c t (fate t.0)) (kept was ++ fresh ((t.0, later) ∷ now))
      ∙ ap (λ (o : Option Named). cons_option o (without_versions (kept was ++ fresh ((t.0, later) ∷ now))))
      (tells t.0 t.1 (at-head t was) ∙ ap (λ (o : Option Rows). bare (left_of t.0 o)) (at-head (t.0, later) now) ∙ ap (λ b. bare (unless b t.0 later)) stood)
      ∙ ap (λ b. (t.0, as_version 0 later) ∷ without_versions (kept was ++ map (λ u. (u.0, as_version c u.1)) (cond b ((t.0, later) ∷ made_in now) (made_in now)))) stood
      ∙ ap (λ (us : Tables). (t.0, as_version 0 later) ∷ us) (merged-list of named.1 other.1 old.1 rest)
    where
      stood : (later.version == 0) ≡ false
      stood = ap (λ n. n == 0) version ∙ old.0

      rest : Tells was now
      rest name m is = tells name m (in-tail t was name m named.0 is) ∙ ap (λ (o : Option Rows). bare (left_of name o)) (past-head (t.0, later) now name (apart-from name m is))
        where
          apart-from : (name : List ℕ) (m : Rows) → table_of was name ≡ Some m → bytes_eq name t.0 ≡ false
          apart-from name m is = not-head t was name m named.0 is

-- ---- a commit without a conflict

-- a table that is left is the one that was there
sub-found : {whole part : Tables} (name : List ℕ) (m : Rows) → Subsequence whole part → AreNamed whole → table_of part name ≡ Some m → table_of whole name ≡ Some m
sub-found name m ends named is = is
sub-found name m (leaves {whole = whole} t sub) named is = in-tail t whole name m named.0 (sub-found name m sub named.1 is)
sub-found name m (keeps {whole = whole} {part = part} t sub) named is = by (bytes_eq name t.0) is (λ later. sub-found name m sub named.1 later)
  where
    by : (b : Bool) → cond b (Some t.1) (table_of part name) ≡ Some m → (table_of part name ≡ Some m → table_of whole name ≡ Some m) → cond b (Some t.1) (table_of whole name) ≡ Some m
    by true e go = e
    by false e go = go e

-- one of an old version is among those
older-same : (n : ℕ) (ts : Tables) (name : List ℕ) (m : Rows) → AreNamed ts → table_of ts name ≡ Some m → nat_le m.version n ≡ true → table_of (older n ts) name ≡ Some m
older-same n [] name m named is old = absurd (none_some m is)
older-same n (t ∷ ts) name m named is old = by (bytes_eq name t.0) refl is (λ later. older-same n ts name m named.1 later old)
  where
    here : (v : Bool) → v ≡ true → bytes_eq name t.0 ≡ true → Some t.1 ≡ Some m → table_of (cond v (t ∷ older n ts) (older n ts)) name ≡ Some m
    here true e at found = ap (λ b. cond b (Some t.1) (table_of (older n ts) name)) at ∙ found
    here false e at found = absurd (false_true e)

    there : (v : Bool) → bytes_eq name t.0 ≡ false → table_of (older n ts) name ≡ Some m → table_of (cond v (t ∷ older n ts) (older n ts)) name ≡ Some m
    there true at found = ap (λ b. cond b (Some t.1) (table_of (older n ts) name)) at ∙ found
    there false at found = found

    by : (b : Bool) → bytes_eq name t.0 ≡ b → cond b (Some t.1) (table_of ts name) ≡ Some m → (table_of ts name ≡ Some m → table_of (older n ts) name ≡ Some m) → table_of (cond (nat_le t.1.version n) (t ∷ older n ts) (older n ts)) name ≡ Some m
    by true at found go = here (nat_le t.1.version n) (ap (λ (x : Rows). nat_le x.version n) (some_same t.1 m found) ∙ old) at found
    by false at found go = there (nat_le t.1.version n) at (go found)

module _ (first : ℕ) (cs : List Commit) (tx : ℕ) (base copy : Tables) (names : List (List ℕ)) (next : ℕ) (history : IsHistory first cs) (txn : IsTransaction first cs tx base copy names next) (current : AreCurrent base (tables_after [] cs) names) where
  abbrev last : Tables
  last = tables_after [] cs

  abbrev fate : List ℕ → Fate
  fate name = fate_of (table_of base name) (table_of copy name)

  at_last : past [] cs (length cs) ≡ Some last
  at_last = past-last [] cs

  pub last_named : AreNamed last
  last_named = ordered-named last (history.ordered (length cs) last at_last)

  pub copy_named : AreNamed copy
  copy_named = ordered-named copy txn.ordered

  base_version : (name : List ℕ) (t : Rows) → table_of base name ≡ Some t → (0 < t.version) × (t.version ≤ txn.begun.0)
  base_version name t is = found-each (λ u. (0 < u.version) × (u.version ≤ txn.begun.0)) base name t (history.versions txn.begun.0 base txn.begun.1) is

  last_version : (name : List ℕ) (t : Rows) → table_of last name ≡ Some t → 0 < t.version
  last_version name t is = (found-each (λ u. (0 < u.version) × (u.version ≤ length cs)) last name t (history.versions (length cs) last at_last) is).0

  pub last_old : EachTable last (λ t. (t.1.version == 0) ≡ false)
  last_old = each-map (λ t. (0 < t.1.version) × (t.1.version ≤ length cs)) (λ t. (t.1.version == 0) ≡ false) last (λ t v. not-zero t.1.version v.0) (history.versions (length cs) last at_last)

  -- THE NAMED TABLES ARE THE SAME in the base and the last tables
  pub same-named : (name : List ℕ) → is_among names name ≡ true → table_of last name ≡ table_of base name
  same-named name among = by (table_of base name) (table_of last name) refl refl (current name among)
    where
      zero-not : (n : ℕ) → 0 < n → 0 ≡ n → ⊥
      zero-not n lt e = false_true (sym (not-zero n lt) ∙ ap (λ k. k == 0) (sym e))

      by : (o l : Option Rows) → table_of base name ≡ o → table_of last name ≡ l → version (table_of base name) ≡ version (table_of last name) → table_of last name ≡ table_of base name
      by None None is_base is_last same = is_last ∙ sym is_base
      by None (Some t) is_base is_last same = absurd (zero-not t.version (last_version name t is_last) (sym (ap version is_base) ∙ same ∙ ap version is_last))
      by (Some b) None is_base is_last same = absurd (zero-not b.version (base_version name b is_base).0 (sym (ap version is_last) ∙ sym same ∙ ap version is_base))
      by (Some b) (Some t) is_base is_last same =
          let seen : t.version ≡ b.version = sym (ap version is_last) ∙ sym same ∙ ap version is_base in
          let old : nat_le t.version txn.begun.0 ≡ true = ap (λ n. nat_le n txn.begun.0) seen ∙ within b.version txn.begun.0 (base_version name b is_base).1 in
          is_last ∙ sym (sub-found name t (history.same txn.begun.0 (length cs) base last (past-within [] cs txn.begun.0 base txn.begun.1) txn.begun.1 at_last) (ordered-named base (history.ordered txn.begun.0 base txn.begun.1)) (older-same txn.begun.0 last name t last_named is_last old))

  -- WHAT THE STATEMENTS MAKE OF THE LAST TABLES is what is merged, but for versions
  pub merged-again : (now : Tables) → Beside names last copy now → without_versions now ≡ without_versions (merge last base copy (length cs + 1))
  merged-again now beside =
      sym (merged-list (length cs + 1) fate beside.stays last_named beside.named last_old tells)
      ∙ ap (λ (ts : Tables). without_versions (kept (length cs + 1) fate last ++ map (λ t. (t.0, as_version (length cs + 1) t.1)) ts)) beside.made
    where
      by : (name : List ℕ) (m : Rows) → table_of last name ≡ Some m → (b : Bool) → is_among names name ≡ b
          → bare (by_fate (length cs + 1) (name, m) (fate_of (table_of base name) (table_of copy name))) ≡ bare (left_of name (table_of now name))
      by name m is true among =
          ap (λ (o : Option Rows). bare (by_fate (length cs + 1) (name, m) (fate_of o (table_of copy name)))) (sym (same-named name among) ∙ is)
          ∙ told-named (length cs + 1) name m (table_of copy name)
          ∙ ap (λ (o : Option Rows). bare (left_of name o)) (sym (beside.same name among))
      by name m is false lacks =
          ap (λ (o : Option Rows). bare (by_fate (length cs + 1) (name, m) (fate_of (table_of base name) o))) (txn.named name lacks)
          ∙ told-other (length cs + 1) name m (table_of base name) (λ b at. not-zero b.version (base_version name b at).0) (not-zero m.version (last_version name m is))
          ∙ ap (λ (o : Option Rows). bare (left_of name o)) (sym (beside.other name lacks ∙ is))

      tells : Tells (length cs + 1) fate last now
      tells name m is = by name m is (is_among names name) refl
