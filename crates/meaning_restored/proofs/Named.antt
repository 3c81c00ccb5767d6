-- Restored tables by name, and their links.
use Rattle.std.proofs.Common.{◌≡◌, ⊎_elim, ℕ, List, [], ◌∷◌, ◌++◌, Bool, true, false, not, cond, bytes_eq, map, Option, Some, None, refl, sym, ◌∙◌, ap, subst}
use Rattle.std.specs.List.{cons_option, filter_map}
use Rattle.std.specs.Option.{option_map, option_or}
use Rattle.dl_base.specs.declared.value.LinkRow.{LinkRow}
use Rattle.meaning_areas.specs.Same.{same_columns}
use Rattle.meaning_merge.specs.Merging.{AreNamed, as_version}
use Rattle.meaning_merge.specs.Restoring.{is_kept, kept_as, new_in, restored_tables}
use Rattle.meaning_merge.specs.Touching.{In}
use Rattle.meaning_merge.proofs.Keeping.{at-head, in-tail, name-same, none_some}
use Rattle.meaning_merge.proofs.Numbers.{in-append, in-left, in-right}
use Rattle.meaning_merge.proofs.TableByTable.{table_of-append}
use Rattle.meaning_tables.specs.Links.{links, table_links}
use Rattle.meaning_tables.specs.Tables.{Rows, Tables, table_of}

module _ (committed target : Tables) (c : ℕ) where
  abbrev kept_ones : Tables → Tables
  kept_ones ts = filter_map (λ t. kept_as c target t (table_of target t.0)) ts

  abbrev versioned : Tables → Tables
  versioned ts = map (λ t. (t.0, as_version c t.1)) ts

  -- of the committed table of a name and the target's: what is kept, and what is new
  abbrev kept_one : Option Rows → Option Rows → Option Rows
  kept_one None u = None
  kept_one (Some t) None = None
  kept_one (Some t) (Some u) = cond (same_columns t u) (Some (as_version c u)) None

  abbrev new_one : Option Rows → Option Rows → Option Rows
  new_one t None = None
  new_one t (Some u) = cond (is_kept t (Some u)) None (Some (as_version c u))

  kept-at : (ts : Tables) (name : List ℕ) → AreNamed ts → table_of (kept_ones ts) name ≡ kept_one (table_of ts name) (table_of target name)
  kept-at [] name named = refl
  kept-at (x ∷ xs) name named = by (bytes_eq name x.0) refl (kept-at xs name named.1)
    where
      here-at : bytes_eq name x.0 ≡ true → table_of (kept_ones xs) name ≡ None → (o : Option Rows) → table_of (cons_option (kept_as c target x o) (kept_ones xs)) name ≡ kept_one (Some x.1) o
      here-at here rest None = rest
      here-at here rest (Some u) = case (same_columns x.1 u)
        where
          case : (b : Bool) → table_of (cons_option (cond b (Some (x.0, as_version c u)) None) (kept_ones xs)) name ≡ cond b (Some (as_version c u)) None
          case true = ap (λ z. cond z (Some (as_version c u)) (table_of (kept_ones xs) name)) here
          case false = rest

      there-at : bytes_eq name x.0 ≡ false → (o : Option Rows) → table_of (cons_option (kept_as c target x o) (kept_ones xs)) name ≡ table_of (kept_ones xs) name
      there-at there None = refl
      there-at there (Some u) = case (same_columns x.1 u)
        where
          case : (b : Bool) → table_of (cons_option (cond b (Some (x.0, as_version c u)) None) (kept_ones xs)) name ≡ table_of (kept_ones xs) name
          case true = ap (λ z. cond z (Some (as_version c u)) (table_of (kept_ones xs) name)) there
          case false = refl

      by : (b : Bool) → bytes_eq name x.0 ≡ b → table_of (kept_ones xs) name ≡ kept_one (table_of xs name) (table_of target name)
          → table_of (cons_option (kept_as c target x (table_of target x.0)) (kept_ones xs)) name ≡ kept_one (cond b (Some x.1) (table_of xs name)) (table_of target name)
      by true here rest =
          let none : table_of xs name ≡ None = ap (table_of xs) (name-same name x.0 here) ∙ named.0 in
          ap (λ (n : List ℕ). table_of (cons_option (kept_as c target x (table_of target n)) (kept_ones xs)) name) (sym (name-same name x.0 here))
          ∙ here-at here (rest ∙ ap (λ (o : Option Rows). kept_one o (table_of target name)) none) (table_of target name)
      by false there rest = there-at there (table_of target x.0) ∙ rest

  new-at : (us : Tables) (name : List ℕ) → AreNamed us → table_of (versioned (new_in committed us)) name ≡ new_one (table_of committed name) (table_of us name)
  new-at [] name named = refl
  new-at (x ∷ xs) name named = by (bytes_eq name x.0) refl (new-at xs name named.1)
    where
      here-at : bytes_eq name x.0 ≡ true → table_of (versioned (new_in committed xs)) name ≡ None → (b : Bool) → table_of (versioned (cond (not b) (x ∷ new_in committed xs) (new_in committed xs))) name ≡ cond b None (Some (as_version c x.1))
      here-at here rest true = rest
      here-at here rest false = ap (λ z. cond z (Some (as_version c x.1)) (table_of (versioned (new_in committed xs)) name)) here

      there-at : bytes_eq name x.0 ≡ false → (b : Bool) → table_of (versioned (cond (not b) (x ∷ new_in committed xs) (new_in committed xs))) name ≡ table_of (versioned (new_in committed xs)) name
      there-at there true = refl
      there-at there false = ap (λ z. cond z (Some (as_version c x.1)) (table_of (versioned (new_in committed xs)) name)) there

      by : (b : Bool) → bytes_eq name x.0 ≡ b → table_of (versioned (new_in committed xs)) name ≡ new_one (table_of committed name) (table_of xs name)
          → table_of (versioned (new_in committed (x ∷ xs))) name ≡ new_one (table_of committed name) (cond b (Some x.1) (table_of xs name))
      by true here rest =
          let none : table_of xs name ≡ None = ap (table_of xs) (name-same name x.0 here) ∙ named.0 in
          ap (λ (n : List ℕ). table_of (versioned (cond (not (is_kept (table_of committed n) (Some x.1))) (x ∷ new_in committed xs) (new_in committed xs))) name) (sym (name-same name x.0 here))
          ∙ here-at here (rest ∙ ap (new_one (table_of committed name)) none) (is_kept (table_of committed name) (Some x.1))
      by false there rest = there-at there (is_kept (table_of committed x.0) (Some x.1)) ∙ rest

  one-of : (t u : Option Rows) → option_or (kept_one t u) (new_one t u) ≡ option_map (as_version c) u
  one-of None None = refl
  one-of None (Some u) = refl
  one-of (Some t) None = refl
  one-of (Some t) (Some u) = by (same_columns t u)
    where
      by : (b : Bool) → option_or (cond b (Some (as_version c u)) None) (cond b None (Some (as_version c u))) ≡ Some (as_version c u)
      by true = refl
      by false = refl

  -- BY NAME, each is the target's
  pub restored-at : AreNamed committed → AreNamed target → (name : List ℕ) → table_of (restored_tables committed target c) name ≡ option_map (as_version c) (table_of target name)
  restored-at named target_named name =
      table_of-append (kept_ones committed) (versioned (new_in committed target)) name
      ∙ (λ i. option_or (kept-at committed name named i) (new-at target name target_named i))
      ∙ one-of (table_of committed name) (table_of target name)

-- LINKS

some_same : (x y : Rows) → Some x ≡ Some y → x ≡ y
some_same x y e = cc

found-in : (us : Tables) (n : List ℕ) (u : Rows) (l : LinkRow) → table_of us n ≡ Some u → In l (table_links u) → In l (links us)
found-in [] n u l e is = absurd (none_some u e)
found-in (x ∷ xs) n u l e is = by (bytes_eq n x.0) e (λ later. found-in xs n u l later is)
  where
    by : (b : Bool) → cond b (Some x.1) (table_of xs n) ≡ Some u → (table_of xs n ≡ Some u → In l (links xs)) → In l (table_links x.1 ++ links xs)
    by true e go = in-left (table_links x.1) (links xs) l (subst (λ (r : Rows). In l (table_links r)) (sym (some_same x.1 u e)) is)
    by false e go = in-right (table_links x.1) (links xs) l (go e)

in-table : (ts : Tables) (l : LinkRow) → AreNamed ts → In l (links ts) → (name : List ℕ) × (u : Rows) × (table_of ts name ≡ Some u) × In l (table_links u)
in-table [] l named is = absurd is
in-table (t ∷ ts) l named is = ⊎_elim
    (λ (here : In l (table_links t.1)). (t.0, t.1, at-head t ts, here))
    (λ (later : In l (links ts)). (let r = in-table ts l named.1 later in (r.0, r.1, in-tail t ts r.0 r.1 named.0 r.2, r.3)))
    (in-append (table_links t.1) (links ts) l is)

-- each link of the target is one of the restored tables
pub restored-out : (committed target : Tables) (c : ℕ) → AreNamed committed → AreNamed target → (l : LinkRow) → In l (links target) → In l (links (restored_tables committed target c))
restored-out committed target c named target_named l is =
    let r = in-table target l target_named is in
    found-in (restored_tables committed target c) r.0 (as_version c r.1) l (restored-at committed target c named target_named r.0 ∙ ap (option_map (as_version c)) r.2) r.3
