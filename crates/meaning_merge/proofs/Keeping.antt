-- The tables that a transaction touches, and those that it leaves, in its base, its copy, the committed tables and the merged ones.
use Rattle.std.proofs.Common.{◌≡◌, ℕ, ◌==◌, ◌||◌, List, [], ◌∷◌, ◌++◌, Bool, true, false, not, cond, bytes_eq, map, nat_le, Option, Some, None, is_some, refl, sym, ◌∙◌, ap, subst}
use Rattle.std.specs.List.{filter, filter_map, cons_option}
use Rattle.std.proofs.lemmas.Slice.Eq.{bytes_eq-Decides}
use Rattle.dl_base.specs.declared.value.LinkRow.{LinkRow}
use Rattle.meaning_areas.specs.Same.{same_rows}
use Rattle.meaning_areas.proofs.Equal.{rows-decide}
use Rattle.meaning_settling.proofs.KeyedLaws.{false_true}
use Rattle.meaning_tables.specs.Links.{table_links, links}
use Rattle.meaning_tables.specs.Tables.{Rows, Tables, table_of}
use Rattle.meaning_merge.specs.History.{EachTable, Subsequence, ends, leaves, keeps, older, AreMade, CopyOf, makes, drops, has}
use Rattle.meaning_merge.specs.Merging.{Fate, stays, goes, becomes, fate_of, as_version, by_fate, new_ones, AreNamed}
use Rattle.meaning_merge.proofs.MergeLaws.{links-version, filter-append}
use Rattle.meaning_merge.proofs.Numbers.{never}

pub none_some : (t : Rows) → None ≡ Some t → ⊥
none_some t e = cc

-- names

pub name-self : (n : List ℕ) → bytes_eq n n ≡ true
name-self n = (bytes_eq-Decides n n).1 refl

pub name-same : (m n : List ℕ) → bytes_eq m n ≡ true → m ≡ n
name-same m n e = (bytes_eq-Decides m n).0 e

-- the table at the head has its name, and no later one
pub at-head : (t : List ℕ × Rows) (ts : Tables) → table_of (t ∷ ts) t.0 ≡ Some t.1
at-head t ts = ap (λ b. cond b (Some t.1) (table_of ts t.0)) (name-self t.0)

pub not-head : (t : List ℕ × Rows) (ts : Tables) (name : List ℕ) (u : Rows) → table_of ts t.0 ≡ None → table_of ts name ≡ Some u → bytes_eq name t.0 ≡ false
not-head t ts name u none is = never (bytes_eq name t.0) (λ here. none_some u (sym none ∙ ap (table_of ts) (sym (name-same name t.0 here)) ∙ is))

pub past-head : (t : List ℕ × Rows) (ts : Tables) (name : List ℕ) → bytes_eq name t.0 ≡ false → table_of (t ∷ ts) name ≡ table_of ts name
past-head t ts name e = ap (λ b. cond b (Some t.1) (table_of ts name)) e

pub in-tail : (t : List ℕ × Rows) (ts : Tables) (name : List ℕ) (u : Rows) → table_of ts t.0 ≡ None → table_of ts name ≡ Some u → table_of (t ∷ ts) name ≡ Some u
in-tail t ts name u none is = past-head t ts name (not-head t ts name u none is) ∙ is

-- what holds of each table, and of the one of a name
pub each-found : (P : List ℕ × Rows → Type 0) (ts : Tables) → AreNamed ts → ((t : List ℕ × Rows) → table_of ts t.0 ≡ Some t.1 → P t) → EachTable ts P
each-found P [] named of = tt
each-found P (t ∷ ts) named of = (of t (at-head t ts), each-found P ts named.1 (λ u is. of u (in-tail t ts u.0 u.1 named.0 is)))

pub found-each : (P : Rows → Type 0) (ts : Tables) (name : List ℕ) (t : Rows) → EachTable ts (λ u. P u.1) → table_of ts name ≡ Some t → P t
found-each P [] name t each is = absurd (none_some t is)
found-each P (u ∷ us) name t each is = by (bytes_eq name u.0) each.0 is (λ later. found-each P us name t each.1 later)
  where
    some_same : Some u.1 ≡ Some t → u.1 ≡ t
    some_same e = cc

    by : (b : Bool) → P u.1 → cond b (Some u.1) (table_of us name) ≡ Some t → (table_of us name ≡ Some t → P t) → P t
    by true one e go = subst P (some_same e) one
    by false one e go = go e

pub each-map : (P Q : List ℕ × Rows → Type 0) (ts : Tables) → ((t : List ℕ × Rows) → P t → Q t) → EachTable ts P → EachTable ts Q
each-map P Q [] of each = tt
each-map P Q (t ∷ ts) of each = (of t each.0, each-map P Q ts of each.1)

-- subsequences

pub sub-none : {whole part : Tables} (name : List ℕ) → Subsequence whole part → table_of whole name ≡ None → table_of part name ≡ None
sub-none name ends e = e
sub-none name (leaves {whole = whole} {part = part} t sub) e = by (bytes_eq name t.0) e (λ later. sub-none name sub later)
  where
    by : (b : Bool) → cond b (Some t.1) (table_of whole name) ≡ None → (table_of whole name ≡ None → table_of part name ≡ None) → table_of part name ≡ None
    by true e go = absurd (none_some t.1 (sym e))
    by false e go = go e
sub-none name (keeps {whole = whole} {part = part} t sub) e = by (bytes_eq name t.0) e (λ later. sub-none name sub later)
  where
    by : (b : Bool) → cond b (Some t.1) (table_of whole name) ≡ None → (table_of whole name ≡ None → table_of part name ≡ None) → cond b (Some t.1) (table_of part name) ≡ None
    by true e go = absurd (none_some t.1 (sym e))
    by false e go = go e

is_there : (t : Rows) (o : Option Rows) → o ≡ Some t → is_some o ≡ true
is_there t o e = ap is_some e

gone_there : (o : Option Rows) → o ≡ None → is_some o ≡ true → ⊥
gone_there o e some = false_true (sym (ap is_some e) ∙ some)

-- where each table of a name that passes is left, those that pass are all left
pub sub-all : (p : List ℕ → Bool) {whole part : Tables} → Subsequence whole part → AreNamed whole
    → ((name : List ℕ) → p name ≡ true → is_some (table_of whole name) ≡ true → is_some (table_of part name) ≡ true)
    → filter (λ t. p t.0) whole ≡ filter (λ t. p t.0) part
sub-all p ends named left = refl
sub-all p (leaves {whole = whole} {part = part} t sub) named left =
    ap (λ b. cond b (t ∷ filter (λ u. p u.0) whole) (filter (λ u. p u.0) whole)) fails ∙ sub-all p sub named.1 (λ name passes there. left name passes (more name there))
  where
    fails : p t.0 ≡ false
    fails = never (p t.0) (λ passes. gone_there (table_of part t.0) (sub-none t.0 sub named.0) (left t.0 passes (ap is_some (at-head t whole))))

    more : (name : List ℕ) → is_some (table_of whole name) ≡ true → is_some (table_of (t ∷ whole) name) ≡ true
    more name there = by (bytes_eq name t.0) there
      where
        by : (b : Bool) → is_some (table_of whole name) ≡ true → is_some (cond b (Some t.1) (table_of whole name)) ≡ true
        by true e = refl
        by false e = e
sub-all p (keeps {whole = whole} {part = part} t sub) named left =
    by (p t.0) (sub-all p sub named.1 (λ name passes there. rest name (apart name there) (left name passes (front name (apart name there) there))))
  where
    apart : (name : List ℕ) → is_some (table_of whole name) ≡ true → bytes_eq name t.0 ≡ false
    apart name there = never (bytes_eq name t.0) (λ here. gone_there (table_of whole name) (ap (table_of whole) (name-same name t.0 here) ∙ named.0) there)

    front : (name : List ℕ) → bytes_eq name t.0 ≡ false → is_some (table_of whole name) ≡ true → is_some (table_of (t ∷ whole) name) ≡ true
    front name other there = ap is_some (past-head t whole name other) ∙ there

    rest : (name : List ℕ) → bytes_eq name t.0 ≡ false → is_some (table_of (t ∷ part) name) ≡ true → is_some (table_of part name) ≡ true
    rest name other there = sym (ap is_some (past-head t part name other)) ∙ there

    by : (b : Bool) → filter (λ u. p u.0) whole ≡ filter (λ u. p u.0) part → cond b (t ∷ filter (λ u. p u.0) whole) (filter (λ u. p u.0) whole) ≡ cond b (t ∷ filter (λ u. p u.0) part) (filter (λ u. p u.0) part)
    by true e = ap (λ (us : Tables). t ∷ us) e
    by false e = e

-- tables of old versions

pub older-found : (n : ℕ) (ts : Tables) (name : List ℕ) (t : Rows) → table_of ts name ≡ Some t → nat_le t.version n ≡ true → is_some (table_of (older n ts) name) ≡ true
older-found n [] name t is old = absurd (none_some t is)
older-found n (u ∷ us) name t is old = by (bytes_eq name u.0) refl is (λ later. older-found n us name t later old)
  where
    some_same : Some u.1 ≡ Some t → u.1 ≡ t
    some_same e = cc

    here : (v : Bool) → v ≡ true → bytes_eq name u.0 ≡ true → is_some (table_of (cond v (u ∷ older n us) (older n us)) name) ≡ true
    here true e at = ap (λ b. is_some (cond b (Some u.1) (table_of (older n us) name))) at
    here false e at = absurd (false_true e)

    there : (v : Bool) → bytes_eq name u.0 ≡ false → is_some (table_of (older n us) name) ≡ true → is_some (table_of (cond v (u ∷ older n us) (older n us)) name) ≡ true
    there true at e = ap (λ b. is_some (cond b (Some u.1) (table_of (older n us) name))) at ∙ e
    there false at e = e

    by : (b : Bool) → bytes_eq name u.0 ≡ b → cond b (Some u.1) (table_of us name) ≡ Some t → (table_of us name ≡ Some t → is_some (table_of (older n us) name) ≡ true) → is_some (table_of (cond (nat_le u.1.version n) (u ∷ older n us) (older n us)) name) ≡ true
    by true at e go = here (nat_le u.1.version n) (ap (λ (x : Rows). nat_le x.version n) (some_same e) ∙ old) at
    by false at e go = there (nat_le u.1.version n) at (go e)

-- those that pass are of old versions
pub older-all : (n : ℕ) (p : List ℕ × Rows → Bool) (ts : Tables) → EachTable ts (λ t. p t ≡ true → nat_le t.1.version n ≡ true) → filter p ts ≡ filter p (older n ts)
older-all n p [] each = refl
older-all n p (t ∷ ts) each = by (p t) (nat_le t.1.version n) refl each.0 (older-all n p ts each.1)
  where
    by : (a v : Bool) → p t ≡ a → (a ≡ true → v ≡ true) → filter p ts ≡ filter p (older n ts) → cond a (t ∷ filter p ts) (filter p ts) ≡ filter p (cond v (t ∷ older n ts) (older n ts))
    by true true at old e = ap (λ (us : Tables). t ∷ us) e ∙ sym (ap (λ b. cond b (t ∷ filter p (older n ts)) (filter p (older n ts))) at)
    by true false at old e = absurd (false_true (old refl))
    by false true at old e = e ∙ sym (ap (λ b. cond b (t ∷ filter p (older n ts)) (filter p (older n ts))) at)
    by false false at old e = e

-- no table, or one just made
abbrev pub IsGone : Option Rows → Type 0
IsGone None = Unit {0}
IsGone (Some t) = t.version ≡ 0

-- a fate that is not to stay
abbrev pub is_touched : Fate → Bool
is_touched stays = false
is_touched goes = true
is_touched (becomes later) = true

-- of the fates of names, with which base, copy, committed and merged tables are told apart
module _ (c : ℕ) (fate : List ℕ → Fate) where
  abbrev pub of_base : List ℕ × Rows → Bool
  of_base t = is_touched (fate t.0)

  abbrev pub of_copy : List ℕ × Rows → Bool
  of_copy t = (t.1.version == 0) || is_touched (fate t.0)

  abbrev pub of_merged : List ℕ × Rows → Bool
  of_merged t = t.1.version == c

  abbrev pub changed : List ℕ × Rows → Fate → Option (List ℕ × Rows)
  changed t stays = None
  changed t goes = None
  changed t (becomes later) = Some (t.0, as_version c later)

  abbrev pub changed_in : Tables → Tables
  changed_in ts = filter_map (λ t. changed t (fate t.0)) ts

  abbrev pub kept_in : Tables → Tables
  kept_in ts = filter_map (λ t. by_fate c t (fate t.0)) ts

  -- touched tables alone are changed
  pub changed-touched : (ts : Tables) → changed_in ts ≡ changed_in (filter of_base ts)
  changed-touched [] = refl
  changed-touched (t ∷ ts) = by (fate t.0) refl (changed-touched ts)
    where
      by : (f : Fate) → fate t.0 ≡ f → changed_in ts ≡ changed_in (filter of_base ts) → cons_option (changed t f) (changed_in ts) ≡ changed_in (cond (is_touched f) (t ∷ filter of_base ts) (filter of_base ts))
      by stays at e = e
      by goes at e = e ∙ sym (ap (λ x. cons_option (changed t x) (changed_in (filter of_base ts))) at)
      by (becomes later) at e = ap (λ (us : Tables). (t.0, as_version c later) ∷ us) e ∙ sym (ap (λ x. cons_option (changed t x) (changed_in (filter of_base ts))) at)

  -- BASE AND COPY: what the copy made of each table of the base says the fate of its name

  abbrev pub Tells : Tables → Tables → Type 0
  Tells base copy = (name : List ℕ) (b : Rows) → table_of base name ≡ Some b → fate name ≡ fate_of (Some b) (table_of copy name)

  abbrev pub AreCommitted : Tables → Type 0
  AreCommitted ts = EachTable ts (λ t. (t.1.version == 0) ≡ false)

  -- what the base has not, the copy has not, or just made
  made-gone : (ts : Tables) (name : List ℕ) → AreMade ts → IsGone (table_of ts name)
  made-gone [] name made = tt
  made-gone (t ∷ ts) name made = by (bytes_eq name t.0) made.0.0 (made-gone ts name made.1)
    where
      by : (b : Bool) → t.1.version ≡ 0 → IsGone (table_of ts name) → IsGone (cond b (Some t.1) (table_of ts name))
      by true e go = e
      by false e go = go

  pub copy-gone : {base copy : Tables} (name : List ℕ) → CopyOf base copy → table_of base name ≡ None → IsGone (table_of copy name)
  copy-gone {copy = copy} name (makes made) e = made-gone copy name made
  copy-gone {copy = copy} name (drops {base = base} t of) e = by (bytes_eq name t.0) e (λ later. copy-gone name of later)
    where
      by : (b : Bool) → cond b (Some t.1) (table_of base name) ≡ None → (table_of base name ≡ None → IsGone (table_of copy name)) → IsGone (table_of copy name)
      by true e go = absurd (none_some t.1 (sym e))
      by false e go = go e
  copy-gone name (has {base = base} {copy = copy} t later version columns of) e = by (bytes_eq name t.0) e (λ rest. copy-gone name of rest)
    where
      by : (b : Bool) → cond b (Some t.1) (table_of base name) ≡ None → (table_of base name ≡ None → IsGone (table_of copy name)) → IsGone (cond b (Some later) (table_of copy name))
      by true e go = absurd (none_some t.1 (sym e))
      by false e go = go e

  fate-gone : (b : Rows) (o : Option Rows) → IsGone o → fate_of (Some b) o ≡ goes
  fate-gone b None gone = refl
  fate-gone b (Some t) gone = ap (λ n. cond (n == 0) goes (cond (same_rows b t) stays (becomes t))) gone

  fate-kept : (b t : Rows) → (t.version == 0) ≡ false → fate_of (Some b) (Some t) ≡ cond (same_rows b t) stays (becomes t)
  fate-kept b t e = ap (λ x. cond x goes (cond (same_rows b t) stays (becomes t))) e

  tells-tail : (t : List ℕ × Rows) (base copy : Tables) → table_of base t.0 ≡ None → Tells (t ∷ base) copy → Tells base copy
  tells-tail t base copy none tells name b is = tells name b (in-tail t base name b none is)

  tells-both : (t u : List ℕ × Rows) (base copy : Tables) → u.0 ≡ t.0 → table_of base t.0 ≡ None → Tells (t ∷ base) (u ∷ copy) → Tells base copy
  tells-both t u base copy same none tells name b is =
      tells name b (in-tail t base name b none is) ∙ ap (fate_of (Some b)) (past-head u copy name (ap (bytes_eq name) same ∙ not-head t base name b none is))

  -- at a table that the copy has dropped, and at one that it has
  at-dropped : (t : List ℕ × Rows) (base copy : Tables) → CopyOf base copy → table_of base t.0 ≡ None → Tells (t ∷ base) copy → fate t.0 ≡ goes
  at-dropped t base copy of none tells = tells t.0 t.1 (at-head t base) ∙ fate-gone t.1 (table_of copy t.0) (copy-gone t.0 of none)

  at-kept : (t : List ℕ × Rows) (later : Rows) (base copy : Tables) → (t.1.version == 0) ≡ false → later.version ≡ t.1.version → Tells (t ∷ base) ((t.0, later) ∷ copy)
      → fate t.0 ≡ cond (same_rows t.1 later) stays (becomes later)
  at-kept t later base copy old version tells =
      tells t.0 t.1 (at-head t base) ∙ ap (fate_of (Some t.1)) (at-head (t.0, later) copy) ∙ fate-kept t.1 later (ap (λ n. n == 0) version ∙ old)

  made-in : (ts : Tables) → AreMade ts → filter of_copy ts ≡ ts
  made-in [] made = refl
  made-in (t ∷ ts) made = ap (λ n. cond ((n == 0) || is_touched (fate t.0)) (t ∷ filter of_copy ts) (filter of_copy ts)) made.0.0 ∙ ap (λ (us : Tables). t ∷ us) (made-in ts made.1)

  made-out : (ts : Tables) → AreMade ts → filter (λ t. not (of_copy t)) ts ≡ []
  made-out [] made = refl
  made-out (t ∷ ts) made = ap (λ n. cond (not ((n == 0) || is_touched (fate t.0))) (t ∷ filter (λ u. not (of_copy u)) ts) (filter (λ u. not (of_copy u)) ts)) made.0.0 ∙ made-out ts made.1

  made-new : (ts : Tables) → AreMade ts → filter (λ t. t.1.version == 0) ts ≡ ts
  made-new [] made = refl
  made-new (t ∷ ts) made = ap (λ n. cond (n == 0) (t ∷ filter (λ u. u.1.version == 0) ts) (filter (λ u. u.1.version == 0) ts)) made.0.0 ∙ ap (λ (us : Tables). t ∷ us) (made-new ts made.1)

  -- what is left alone is the same in base and copy
  pub copy-untouched : {base copy : Tables} → CopyOf base copy → AreNamed base → AreCommitted base → Tells base copy → filter (λ t. not (of_base t)) base ≡ filter (λ t. not (of_copy t)) copy
  copy-untouched {copy = copy} (makes made) named committed tells = sym (made-out copy made)
  copy-untouched {copy = copy} (drops {base = base} t of) named committed tells =
      ap (λ x. cond (not (is_touched x)) (t ∷ filter (λ u. not (of_base u)) base) (filter (λ u. not (of_base u)) base)) (at-dropped t base copy of named.0 tells)
      ∙ copy-untouched of named.1 committed.1 (tells-tail t base copy named.0 tells)
  copy-untouched (has {base = base} {copy = copy} t later version columns of) named committed tells =
      by (same_rows t.1 later) refl (at-kept t later base copy committed.0 version tells) (copy-untouched of named.1 committed.1 (tells-both t (t.0, later) base copy refl named.0 tells))
    where
      by : (s : Bool) → same_rows t.1 later ≡ s → fate t.0 ≡ cond s stays (becomes later) → filter (λ u. not (of_base u)) base ≡ filter (λ u. not (of_copy u)) copy
          → cond (not (is_touched (fate t.0))) (t ∷ filter (λ u. not (of_base u)) base) (filter (λ u. not (of_base u)) base)
          ≡ cond (not ((later.version == 0) || is_touched (fate t.0))) ((t.0, later) ∷ filter (λ u. not (of_copy u)) copy) (filter (λ u. not (of_copy u)) copy)
      by true same at e =
          ap (λ x. cond (not (is_touched x)) (t ∷ filter (λ u. not (of_base u)) base) (filter (λ u. not (of_base u)) base)) at
          ∙ ap (λ (us : Tables). t ∷ us) e
          ∙ ap (λ (r : Rows). (t.0, r) ∷ filter (λ u. not (of_copy u)) copy) ((rows-decide t.1 later).0 same)
          ∙ sym (ap (λ n. cond (not (n || is_touched (fate t.0))) ((t.0, later) ∷ filter (λ u. not (of_copy u)) copy) (filter (λ u. not (of_copy u)) copy)) (ap (λ n. n == 0) version ∙ committed.0)
          ∙ ap (λ x. cond (not (is_touched x)) ((t.0, later) ∷ filter (λ u. not (of_copy u)) copy) (filter (λ u. not (of_copy u)) copy)) at)
      by false same at e =
          ap (λ x. cond (not (is_touched x)) (t ∷ filter (λ u. not (of_base u)) base) (filter (λ u. not (of_base u)) base)) at
          ∙ e
          ∙ sym (ap (λ n. cond (not (n || is_touched (fate t.0))) ((t.0, later) ∷ filter (λ u. not (of_copy u)) copy) (filter (λ u. not (of_copy u)) copy)) (ap (λ n. n == 0) version ∙ committed.0)
          ∙ ap (λ x. cond (not (is_touched x)) ((t.0, later) ∷ filter (λ u. not (of_copy u)) copy) (filter (λ u. not (of_copy u)) copy)) at)

  -- what is touched in the copy is what was changed and what was made
  pub copy-touched : {base copy : Tables} → CopyOf base copy → AreNamed base → AreCommitted base → Tells base copy → links (filter of_copy copy) ≡ links (changed_in base ++ new_ones c copy)
  copy-touched {copy = copy} (makes made) named committed tells = ap links (made-in copy made) ∙ sym (links-version c copy) ∙ ap (λ (ts : Tables). links (map (λ t. (t.0, as_version c t.1)) ts)) (sym (made-new copy made))
  copy-touched {copy = copy} (drops {base = base} t of) named committed tells =
      copy-touched of named.1 committed.1 (tells-tail t base copy named.0 tells)
      ∙ sym (ap (λ x. links (cons_option (changed t x) (changed_in base) ++ new_ones c copy)) (at-dropped t base copy of named.0 tells))
  copy-touched (has {base = base} {copy = copy} t later version columns of) named committed tells =
      by (same_rows t.1 later) (at-kept t later base copy committed.0 version tells) (copy-touched of named.1 committed.1 (tells-both t (t.0, later) base copy refl named.0 tells))
    where
      old : (later.version == 0) ≡ false
      old = ap (λ n. n == 0) version ∙ committed.0

      left : (x : Fate) → fate t.0 ≡ x → cond ((later.version == 0) || is_touched (fate t.0)) ((t.0, later) ∷ filter of_copy copy) (filter of_copy copy) ≡ cond (is_touched x) ((t.0, later) ∷ filter of_copy copy) (filter of_copy copy)
      left x at = ap (λ n. cond (n || is_touched (fate t.0)) ((t.0, later) ∷ filter of_copy copy) (filter of_copy copy)) old ∙ ap (λ y. cond (is_touched y) ((t.0, later) ∷ filter of_copy copy) (filter of_copy copy)) at

      right : (x : Fate) → fate t.0 ≡ x → links (cons_option (changed t (fate t.0)) (changed_in base) ++ new_ones c ((t.0, later) ∷ copy)) ≡ links (cons_option (changed t x) (changed_in base) ++ new_ones c copy)
      right x at =
          ap (λ n. links (cons_option (changed t (fate t.0)) (changed_in base) ++ map (λ u. (u.0, as_version c u.1)) (cond n ((t.0, later) ∷ filter (λ u. u.1.version == 0) copy) (filter (λ u. u.1.version == 0) copy)))) old
          ∙ ap (λ y. links (cons_option (changed t y) (changed_in base) ++ new_ones c copy)) at

      by : (s : Bool) → fate t.0 ≡ cond s stays (becomes later) → links (filter of_copy copy) ≡ links (changed_in base ++ new_ones c copy)
          → links (cond ((later.version == 0) || is_touched (fate t.0)) ((t.0, later) ∷ filter of_copy copy) (filter of_copy copy))
          ≡ links (cons_option (changed t (fate t.0)) (changed_in base) ++ new_ones c ((t.0, later) ∷ copy))
      by true at e = ap links (left stays at) ∙ e ∙ sym (right stays at)
      by false at e = ap links (left (becomes later) at) ∙ ap (λ (ls : List LinkRow). table_links later ++ ls) e ∙ sym (right (becomes later) at)

  -- COMMITTED AND MERGED: a table that was not changed has another version than the commit's

  abbrev pub AreEarlier : Tables → Type 0
  AreEarlier ts = EachTable ts (λ t. (t.1.version == c) ≡ false)

  is_c : (c == c) ≡ true → (ts : Tables) → filter of_merged (map (λ t. (t.0, as_version c t.1)) ts) ≡ map (λ t. (t.0, as_version c t.1)) ts
  is_c same [] = refl
  is_c same (t ∷ ts) = ap (λ b. cond b ((t.0, as_version c t.1) ∷ filter of_merged (map (λ u. (u.0, as_version c u.1)) ts)) (filter of_merged (map (λ u. (u.0, as_version c u.1)) ts))) same ∙ ap (λ (us : Tables). (t.0, as_version c t.1) ∷ us) (is_c same ts)

  not_c : (c == c) ≡ true → (ts : Tables) → filter (λ t. not (of_merged t)) (map (λ t. (t.0, as_version c t.1)) ts) ≡ []
  not_c same [] = refl
  not_c same (t ∷ ts) = ap (λ b. cond (not b) ((t.0, as_version c t.1) ∷ filter (λ u. not (of_merged u)) (map (λ u. (u.0, as_version c u.1)) ts)) (filter (λ u. not (of_merged u)) (map (λ u. (u.0, as_version c u.1)) ts))) same ∙ not_c same ts

  kept-untouched : (c == c) ≡ true → (ts : Tables) → AreEarlier ts → filter (λ t. not (of_base t)) ts ≡ filter (λ t. not (of_merged t)) (kept_in ts)
  kept-untouched same [] early = refl
  kept-untouched same (t ∷ ts) early = by (fate t.0) early.0 (kept-untouched same ts early.1)
    where
      by : (f : Fate) → (t.1.version == c) ≡ false → filter (λ u. not (of_base u)) ts ≡ filter (λ u. not (of_merged u)) (kept_in ts)
          → cond (not (is_touched f)) (t ∷ filter (λ u. not (of_base u)) ts) (filter (λ u. not (of_base u)) ts) ≡ filter (λ u. not (of_merged u)) (cons_option (by_fate c t f) (kept_in ts))
      by stays old e = ap (λ (us : Tables). t ∷ us) e ∙ sym (ap (λ b. cond (not b) (t ∷ filter (λ u. not (of_merged u)) (kept_in ts)) (filter (λ u. not (of_merged u)) (kept_in ts))) old)
      by goes old e = e
      by (becomes later) old e = e ∙ sym (ap (λ b. cond (not b) ((t.0, as_version c later) ∷ filter (λ u. not (of_merged u)) (kept_in ts)) (filter (λ u. not (of_merged u)) (kept_in ts))) same)

  kept-touched : (c == c) ≡ true → (ts : Tables) → AreEarlier ts → filter of_merged (kept_in ts) ≡ changed_in ts
  kept-touched same [] early = refl
  kept-touched same (t ∷ ts) early = by (fate t.0) early.0 (kept-touched same ts early.1)
    where
      by : (f : Fate) → (t.1.version == c) ≡ false → filter of_merged (kept_in ts) ≡ changed_in ts → filter of_merged (cons_option (by_fate c t f) (kept_in ts)) ≡ cons_option (changed t f) (changed_in ts)
      by stays old e = ap (λ b. cond b (t ∷ filter of_merged (kept_in ts)) (filter of_merged (kept_in ts))) old ∙ e
      by goes old e = e
      by (becomes later) old e = ap (λ b. cond b ((t.0, as_version c later) ∷ filter of_merged (kept_in ts)) (filter of_merged (kept_in ts))) same ∙ ap (λ (us : Tables). (t.0, as_version c later) ∷ us) e

  pub merged-untouched : (c == c) ≡ true → (ts copy : Tables) → AreEarlier ts → filter (λ t. not (of_base t)) ts ≡ filter (λ t. not (of_merged t)) (kept_in ts ++ new_ones c copy)
  merged-untouched same ts copy early =
      kept-untouched same ts early ∙ sym (nothing (filter (λ t. not (of_merged t)) (kept_in ts)))
      ∙ ap (λ (us : Tables). filter (λ t. not (of_merged t)) (kept_in ts) ++ us) (sym (not_c same (filter (λ t. t.1.version == 0) copy)))
      ∙ sym (filter-append (λ t. not (of_merged t)) (kept_in ts) (new_ones c copy))
    where
      nothing : (xs : Tables) → xs ++ [] ≡ xs
      nothing [] = refl
      nothing (x ∷ xs) = ap (λ (ys : Tables). x ∷ ys) (nothing xs)

  pub merged-touched : (c == c) ≡ true → (ts copy : Tables) → AreEarlier ts → filter of_merged (kept_in ts ++ new_ones c copy) ≡ changed_in ts ++ new_ones c copy
  merged-touched same ts copy early =
      filter-append of_merged (kept_in ts) (new_ones c copy)
      ∙ ap (λ (us : Tables). us ++ filter of_merged (new_ones c copy)) (kept-touched same ts early)
      ∙ ap (λ (us : Tables). changed_in ts ++ us) (is_c same (filter (λ t. t.1.version == 0) copy))
