-- What a statement does to tables: nothing, or it makes, drops or changes the table of one name.
use Rattle.std.proofs.Common.{◌≡◌, ℕ, ◌==◌, List, [], ◌∷◌, ◌++◌, Bool, true, false, cond, bytes_eq, Option, Some, None, refl, sym, ◌∙◌, ap}
use Rattle.std.specs.List.{filter}
use Rattle.std.specs.Option.{option_or}
use Rattle.meaning_merge.specs.History.{is_among}
use Rattle.meaning_merge.specs.Merging.{AreNamed}
use Rattle.meaning_merge.proofs.Keeping.{name-same, name-self}
use Rattle.meaning_merge.proofs.MergeLaws.{filter-append}
use Rattle.meaning_merge.proofs.TableByTable.{alone, table_of-append}
use Rattle.meaning_tables.specs.Tables.{Rows, Tables, table_of, with_table, without_table}

pub data Deed : Type 0 where
  nothing : Deed
  makes : List ℕ → Rows → Deed
  drops : List ℕ → Deed
  puts : List ℕ → Rows → Deed

abbrev pub with_deed : Tables → Deed → Tables
with_deed ts nothing = ts
with_deed ts (makes name t) = ts ++ (name, t) ∷ []
with_deed ts (drops name) = without_table ts name
with_deed ts (puts name t) = with_table ts name t

-- it is on a table of these names. A made one is new, and of version 0; one that is changed is there, and keeps its version
abbrev pub IsDeed : List (List ℕ) → Tables → Deed → Type 0
IsDeed names ts nothing = Unit {0}
IsDeed names ts (makes name t) = (is_among names name ≡ true) × (table_of ts name ≡ None) × (t.version ≡ 0)
IsDeed names ts (drops name) = is_among names name ≡ true
IsDeed names ts (puts name t) = (is_among names name ≡ true) × (old : Rows) × (table_of ts name ≡ Some old) × (t.version ≡ old.version)

pub false_true : false ≡ true → ⊥
false_true e = cc

pub none_some : {A : Type 0} (x : A) → None ≡ Some x → ⊥
none_some x e = cc

pub some_same : {A : Type 0} (x y : A) → Some x ≡ Some y → x ≡ y
some_same x y e = cc

-- a name that is among some is none that is not
pub apart : (names : List (List ℕ)) (name n : List ℕ) → is_among names name ≡ true → is_among names n ≡ false → bytes_eq n name ≡ false
apart names name n is lacks = by (bytes_eq n name) refl
  where
    by : (b : Bool) → bytes_eq n name ≡ b → b ≡ false
    by true e = absurd (false_true (sym lacks ∙ ap (is_among names) (name-same n name e) ∙ is))
    by false e = refl

-- where no table has a name, the first has not, and no later one
not-first : (t : List ℕ × Rows) (ts : Tables) (name : List ℕ) → table_of (t ∷ ts) name ≡ None → (bytes_eq name t.0 ≡ false) × (table_of ts name ≡ None)
not-first t ts name none = by (bytes_eq name t.0) none
  where
    by : (b : Bool) → cond b (Some t.1) (table_of ts name) ≡ None → (b ≡ false) × (table_of ts name ≡ None)
    by true e = absurd cc
    by false e = (refl, e)

-- ---- what is found under a name

none_left : (b : Bool) → ◌≡◌ {A = Option Rows} None (cond b None None)
none_left true = refl
none_left false = refl

pub less-at : (ts : Tables) (name n : List ℕ) → AreNamed ts → table_of (without_table ts name) n ≡ cond (bytes_eq n name) None (table_of ts n)
less-at [] name n named = none_left (bytes_eq n name)
less-at (t ∷ ts) name n named = by (bytes_eq name t.0) refl (less-at ts name n named.1)
  where
    found : (q : Bool) → bytes_eq n t.0 ≡ q → table_of ts n ≡ cond q None (cond q (Some t.1) (table_of ts n))
    found true is = alone t ts n named.0 is
    found false is = refl

    here : name ≡ t.0 → table_of ts n ≡ cond (bytes_eq n name) None (cond (bytes_eq n t.0) (Some t.1) (table_of ts n))
    here same = found (bytes_eq n t.0) refl ∙ ap (λ (m : List ℕ). cond (bytes_eq n m) None (cond (bytes_eq n t.0) (Some t.1) (table_of ts n))) (sym same)

    there : (a b : Bool) → bytes_eq n t.0 ≡ a → bytes_eq n name ≡ b → bytes_eq name t.0 ≡ false → (rest : Option Rows) → rest ≡ cond b None (table_of ts n) → cond a (Some t.1) rest ≡ cond b None (cond a (Some t.1) (table_of ts n))
    there true true is_first is_it other rest e = absurd (false_true (sym other ∙ ap (λ (m : List ℕ). bytes_eq m t.0) (sym (name-same n name is_it)) ∙ is_first))
    there true false is_first is_it other rest e = refl
    there false b is_first is_it other rest e = e

    by : (c : Bool) → bytes_eq name t.0 ≡ c → table_of (without_table ts name) n ≡ cond (bytes_eq n name) None (table_of ts n)
        → table_of (cond c ts (t ∷ without_table ts name)) n ≡ cond (bytes_eq n name) None (cond (bytes_eq n t.0) (Some t.1) (table_of ts n))
    by true is go = here (name-same name t.0 is)
    by false is go = there (bytes_eq n t.0) (bytes_eq n name) refl refl is (table_of (without_table ts name) n) go

-- another table in the place of one that is there
abbrev pub replaced : Rows → Option Rows → Option Rows
replaced new None = None
replaced new (Some t) = Some new

pub put-at : (ts : Tables) (name n : List ℕ) (new : Rows) → table_of (with_table ts name new) n ≡ cond (bytes_eq n name) (replaced new (table_of ts n)) (table_of ts n)
put-at [] name n new = none_left (bytes_eq n name)
put-at (t ∷ ts) name n new = by (bytes_eq name t.0) refl (put-at ts name n new)
  where
    found : (q : Bool) → cond q (Some new) (table_of ts n) ≡ cond q (replaced new (cond q (Some t.1) (table_of ts n))) (cond q (Some t.1) (table_of ts n))
    found true = refl
    found false = refl

    here : name ≡ t.0 → cond (bytes_eq n t.0) (Some new) (table_of ts n) ≡ cond (bytes_eq n name) (replaced new (cond (bytes_eq n t.0) (Some t.1) (table_of ts n))) (cond (bytes_eq n t.0) (Some t.1) (table_of ts n))
    here same =
        found (bytes_eq n t.0)
        ∙ ap (λ (m : List ℕ). cond (bytes_eq n m) (replaced new (cond (bytes_eq n t.0) (Some t.1) (table_of ts n))) (cond (bytes_eq n t.0) (Some t.1) (table_of ts n))) (sym same)

    there : (a b : Bool) → bytes_eq n t.0 ≡ a → bytes_eq n name ≡ b → bytes_eq name t.0 ≡ false → (rest : Option Rows) → rest ≡ cond b (replaced new (table_of ts n)) (table_of ts n)
        → cond a (Some t.1) rest ≡ cond b (replaced new (cond a (Some t.1) (table_of ts n))) (cond a (Some t.1) (table_of ts n))
    there true true is_first is_it other rest e = absurd (false_true (sym other ∙ ap (λ (m : List ℕ). bytes_eq m t.0) (sym (name-same n name is_it)) ∙ is_first))
    there true false is_first is_it other rest e = refl
    there false b is_first is_it other rest e = e

    by : (c : Bool) → bytes_eq name t.0 ≡ c → table_of (with_table ts name new) n ≡ cond (bytes_eq n name) (replaced new (table_of ts n)) (table_of ts n)
        → table_of (cond c ((t.0, new) ∷ ts) (t ∷ with_table ts name new)) n ≡ cond (bytes_eq n name) (replaced new (cond (bytes_eq n t.0) (Some t.1) (table_of ts n))) (cond (bytes_eq n t.0) (Some t.1) (table_of ts n))
    by true is go = here (name-same name t.0 is)
    by false is go = there (bytes_eq n t.0) (bytes_eq n name) refl refl is (table_of (with_table ts name new) n) go

-- the same deed leaves the same under a name under which the same was
pub same-deed : (deed : Deed) (ts us : Tables) (n : List ℕ) → AreNamed ts → AreNamed us → table_of us n ≡ table_of ts n → table_of (with_deed us deed) n ≡ table_of (with_deed ts deed) n
same-deed nothing ts us n named other same = same
same-deed (makes name t) ts us n named other same =
    table_of-append us ((name, t) ∷ []) n ∙ ap (λ (o : Option Rows). option_or o (table_of ((name, t) ∷ []) n)) same ∙ sym (table_of-append ts ((name, t) ∷ []) n)
same-deed (drops name) ts us n named other same = less-at us name n other ∙ ap (λ (o : Option Rows). cond (bytes_eq n name) None o) same ∙ sym (less-at ts name n named)
same-deed (puts name t) ts us n named other same = put-at us name n t ∙ ap (λ (o : Option Rows). cond (bytes_eq n name) (replaced t o) o) same ∙ sym (put-at ts name n t)

-- and under another name than its own what was there
pub other-deed : (names : List (List ℕ)) (cs : Tables) (deed : Deed) (ts : Tables) (n : List ℕ) → IsDeed names cs deed → AreNamed ts → is_among names n ≡ false → table_of (with_deed ts deed) n ≡ table_of ts n
other-deed names cs nothing ts n valid named lacks = refl
other-deed names cs (makes name t) ts n valid named lacks =
    table_of-append ts ((name, t) ∷ []) n ∙ ap (λ b. option_or (table_of ts n) (cond b (Some t) None)) (apart names name n valid.0 lacks) ∙ or_none (table_of ts n)
  where
    or_none : (o : Option Rows) → option_or o None ≡ o
    or_none None = refl
    or_none (Some x) = refl
other-deed names cs (drops name) ts n valid named lacks = less-at ts name n named ∙ ap (λ b. cond b None (table_of ts n)) (apart names name n valid lacks)
other-deed names cs (puts name t) ts n valid named lacks = put-at ts name n t ∙ ap (λ b. cond b (replaced t (table_of ts n)) (table_of ts n)) (apart names name n valid.0 lacks)

-- ---- names stay different

less-none : (ts : Tables) (name n : List ℕ) → AreNamed ts → table_of ts n ≡ None → table_of (without_table ts name) n ≡ None
less-none ts name n named none = less-at ts name n named ∙ ap (λ (o : Option Rows). cond (bytes_eq n name) None o) none ∙ sym (none_left (bytes_eq n name))

put-none : (ts : Tables) (name n : List ℕ) (new : Rows) → table_of ts n ≡ None → table_of (with_table ts name new) n ≡ None
put-none ts name n new none = put-at ts name n new ∙ ap (λ (o : Option Rows). cond (bytes_eq n name) (replaced new o) o) none ∙ sym (none_left (bytes_eq n name))

turned : (m n : List ℕ) → bytes_eq m n ≡ false → bytes_eq n m ≡ false
turned m n other = by (bytes_eq n m) refl
  where
    by : (b : Bool) → bytes_eq n m ≡ b → b ≡ false
    by true e = absurd (false_true (sym other ∙ ap (bytes_eq m) (name-same n m e) ∙ name-self m))
    by false e = refl

more-named : (ts : Tables) (name : List ℕ) (t : Rows) → AreNamed ts → table_of ts name ≡ None → AreNamed (ts ++ (name, t) ∷ [])
more-named [] name t named none = (refl, tt)
more-named (u ∷ us) name t named none =
    let two = not-first u us name none in (
      table_of-append us ((name, t) ∷ []) u.0 ∙ ap (λ (o : Option Rows). option_or o (cond (bytes_eq u.0 name) (Some t) None)) named.0 ∙ ap (λ b. cond b (Some t) None) (turned name u.0 two.0),
      more-named us name t named.1 two.1,
    )

less-named : (ts : Tables) (name : List ℕ) → AreNamed ts → AreNamed (without_table ts name)
less-named [] name named = tt
less-named (t ∷ ts) name named = by (bytes_eq name t.0) (less-named ts name named.1)
  where
    by : (c : Bool) → AreNamed (without_table ts name) → AreNamed (cond c ts (t ∷ without_table ts name))
    by true go = named.1
    by false go = (less-none ts name t.0 named.1 named.0, go)

put-named : (ts : Tables) (name : List ℕ) (new : Rows) → AreNamed ts → AreNamed (with_table ts name new)
put-named [] name new named = tt
put-named (t ∷ ts) name new named = by (bytes_eq name t.0) (put-named ts name new named.1)
  where
    by : (c : Bool) → AreNamed (with_table ts name new) → AreNamed (cond c ((t.0, new) ∷ ts) (t ∷ with_table ts name new))
    by true go = (named.0, named.1)
    by false go = (put-none ts name t.0 new named.0, go)

pub named-deed : (names : List (List ℕ)) (deed : Deed) (cs ts : Tables) → IsDeed names cs deed → ((name : List ℕ) → is_among names name ≡ true → table_of ts name ≡ table_of cs name) → AreNamed ts → AreNamed (with_deed ts deed)
named-deed names nothing cs ts valid same named = named
named-deed names (makes name t) cs ts valid same named = more-named ts name t named (same name valid.0 ∙ valid.1)
named-deed names (drops name) cs ts valid same named = less-named ts name named
named-deed names (puts name t) cs ts valid same named = put-named ts name t named

-- ---- the tables that were made

abbrev pub made_in : Tables → Tables
made_in ts = filter (λ t. t.1.version == 0) ts

absent-less : (ts : Tables) (name : List ℕ) → table_of ts name ≡ None → without_table ts name ≡ ts
absent-less [] name none = refl
absent-less (t ∷ ts) name none =
    let two = not-first t ts name none in
    ap (λ b. cond b ts (t ∷ without_table ts name)) two.0 ∙ ap (λ (us : Tables). t ∷ us) (absent-less ts name two.1)

absent-put : (ts : Tables) (name : List ℕ) (new : Rows) → table_of ts name ≡ None → with_table ts name new ≡ ts
absent-put [] name new none = refl
absent-put (t ∷ ts) name new none =
    let two = not-first t ts name none in
    ap (λ b. cond b ((t.0, new) ∷ ts) (t ∷ with_table ts name new)) two.0 ∙ ap (λ (us : Tables). t ∷ us) (absent-put ts name new two.1)

absent-made : (ts : Tables) (name : List ℕ) → table_of ts name ≡ None → table_of (made_in ts) name ≡ None
absent-made [] name none = refl
absent-made (t ∷ ts) name none = by (t.1.version == 0) (not-first t ts name none) (λ later. absent-made ts name later)
  where
    by : (v : Bool) → (bytes_eq name t.0 ≡ false) × (table_of ts name ≡ None) → (table_of ts name ≡ None → table_of (made_in ts) name ≡ None) → table_of (cond v (t ∷ made_in ts) (made_in ts)) name ≡ None
    by true two go = ap (λ b. cond b (Some t.1) (table_of (made_in ts) name)) two.0 ∙ go two.1
    by false two go = go two.1

less-made : (ts : Tables) (name : List ℕ) → AreNamed ts → made_in (without_table ts name) ≡ without_table (made_in ts) name
less-made [] name named = refl
less-made (t ∷ ts) name named = by (bytes_eq name t.0) refl (less-made ts name named.1)
  where
    gone : (v : Bool) → bytes_eq name t.0 ≡ true → made_in ts ≡ without_table (cond v (t ∷ made_in ts) (made_in ts)) name
    gone true is = sym (ap (λ b. cond b (made_in ts) (t ∷ without_table (made_in ts) name)) is)
    gone false is = sym (absent-less (made_in ts) name (absent-made ts name (alone t ts name named.0 is)))

    left : (v : Bool) → bytes_eq name t.0 ≡ false → made_in (without_table ts name) ≡ without_table (made_in ts) name
        → cond v (t ∷ made_in (without_table ts name)) (made_in (without_table ts name)) ≡ without_table (cond v (t ∷ made_in ts) (made_in ts)) name
    left true is go = ap (λ (us : Tables). t ∷ us) go ∙ sym (ap (λ b. cond b (made_in ts) (t ∷ without_table (made_in ts) name)) is)
    left false is go = go

    by : (c : Bool) → bytes_eq name t.0 ≡ c → made_in (without_table ts name) ≡ without_table (made_in ts) name
        → made_in (cond c ts (t ∷ without_table ts name)) ≡ without_table (cond (t.1.version == 0) (t ∷ made_in ts) (made_in ts)) name
    by true is go = gone (t.1.version == 0) is
    by false is go = left (t.1.version == 0) is go

put-made : (ts : Tables) (name : List ℕ) (old new : Rows) → AreNamed ts → table_of ts name ≡ Some old → new.version ≡ old.version → made_in (with_table ts name new) ≡ with_table (made_in ts) name new
put-made [] name old new named found version = absurd (none_some old found)
put-made (t ∷ ts) name old new named found version = by (bytes_eq name t.0) refl found (λ later. put-made ts name old new named.1 later version)
  where
    here : (v : Bool) → bytes_eq name t.0 ≡ true → (new.version == 0) ≡ v → cond (new.version == 0) ((t.0, new) ∷ made_in ts) (made_in ts) ≡ with_table (cond v (t ∷ made_in ts) (made_in ts)) name new
    here true is e = ap (λ b. cond b ((t.0, new) ∷ made_in ts) (made_in ts)) e ∙ sym (ap (λ b. cond b ((t.0, new) ∷ made_in ts) (t ∷ with_table (made_in ts) name new)) is)
    here false is e = ap (λ b. cond b ((t.0, new) ∷ made_in ts) (made_in ts)) e ∙ sym (absent-put (made_in ts) name new (absent-made ts name (alone t ts name named.0 is)))

    there : (v : Bool) → bytes_eq name t.0 ≡ false → made_in (with_table ts name new) ≡ with_table (made_in ts) name new
        → cond v (t ∷ made_in (with_table ts name new)) (made_in (with_table ts name new)) ≡ with_table (cond v (t ∷ made_in ts) (made_in ts)) name new
    there true is e = ap (λ (us : Tables). t ∷ us) e ∙ sym (ap (λ b. cond b ((t.0, new) ∷ made_in ts) (t ∷ with_table (made_in ts) name new)) is)
    there false is e = e

    by : (c : Bool) → bytes_eq name t.0 ≡ c → cond c (Some t.1) (table_of ts name) ≡ Some old → (table_of ts name ≡ Some old → made_in (with_table ts name new) ≡ with_table (made_in ts) name new)
        → made_in (cond c ((t.0, new) ∷ ts) (t ∷ with_table ts name new)) ≡ with_table (cond (t.1.version == 0) (t ∷ made_in ts) (made_in ts)) name new
    by true is at go = here (t.1.version == 0) is (ap (λ (n : ℕ). n == 0) (version ∙ ap (λ (x : Rows). x.version) (sym (some_same t.1 old at))))
    by false is at go = there (t.1.version == 0) is (go at)

-- the same deed on tables of which the same were made
pub made-deed : (names : List (List ℕ)) (deed : Deed) (ts us : Tables) → IsDeed names ts deed → ((name : List ℕ) → is_among names name ≡ true → table_of us name ≡ table_of ts name) → AreNamed ts → AreNamed us
    → made_in us ≡ made_in ts → made_in (with_deed us deed) ≡ made_in (with_deed ts deed)
made-deed names nothing ts us valid same named other made = made
made-deed names (makes name t) ts us valid same named other made =
    filter-append (λ (x : List ℕ × Rows). x.1.version == 0) us ((name, t) ∷ []) ∙ ap (λ (xs : Tables). xs ++ made_in ((name, t) ∷ [])) made ∙ sym (filter-append (λ (x : List ℕ × Rows). x.1.version == 0) ts ((name, t) ∷ []))
made-deed names (drops name) ts us valid same named other made = less-made us name other ∙ ap (λ (xs : Tables). without_table xs name) made ∙ sym (less-made ts name named)
made-deed names (puts name t) ts us valid same named other made =
    put-made us name valid.1 t other (same name valid.0 ∙ valid.2) valid.3 ∙ ap (λ (xs : Tables). with_table xs name t) made ∙ sym (put-made ts name valid.1 t named valid.2 valid.3)
