-- Names of tables after the changes of a record.
use Rattle.std.proofs.Common.{◌≡◌, ◌⊎◌, inl, inr, ℕ, Bool, true, false, cond, bytes_eq, List, [], ◌∷◌, ◌++◌, Option, Some, None, refl, sym, ap, subst, ◌∙◌}
use Rattle.std.specs.Option.{option_and_then}
use Rattle.dl_codec.specs.declared.rows.TableChange.{TableChange}
use Rattle.dl_codec.specs.declared.rows.TableChange.TheVariants as changes
use Rattle.meaning_areas.specs.Commits.{add_table, drop_table, kept_table, new_table, put_table, with_table_change, with_table_changes}
use Rattle.meaning_merge.proofs.Committed.{append-named}
use Rattle.meaning_merge.proofs.Keeping.{name-same, past-head}
use Rattle.meaning_merge.specs.Merging.{AreNamed}
use Rattle.meaning_tables.specs.Tables.{Rows, Tables, table_of, with_table, without_table}
use Rattle.db_changes.proofs.Leading.{other_way, with-named, without-named}

some-none : {A : Type 0} (t : A) → None ≡ Some t → ⊥
some-none t e = cc

some-same : {A : Type 0} (t u : A) → Some t ≡ Some u → t ≡ u
some-same t u e = cc

-- changes of a record leave different names

more-named : (ts : Tables) (name : List ℕ) (u : Rows) → AreNamed ts → table_of ts name ≡ None → AreNamed (ts ++ (name, u) ∷ [])
more-named ts name u named none = append-named ts ((name, u) ∷ []) named (refl, tt) (λ q. by q (bytes_eq q name) refl)
  where
    by : (q : List ℕ) (b : Bool) → bytes_eq q name ≡ b → (table_of ts q ≡ None) ⊎ (cond b (Some u) None ≡ None)
    by q true e = inl (ap (table_of ts) (name-same q name e) ∙ none)
    by q false e = inr refl

put-named : (ts later : Tables) (name : List ℕ) (o : Option Rows) → AreNamed ts → put_table ts name o ≡ Some later → AreNamed later
put-named ts later name None named is = absurd (some-none later is)
put-named ts later name (Some t) named is = subst (λ (us : Tables). AreNamed us) (some-same (with_table ts name t) later is) (with-named ts name t named)

drop-named : (ts later : Tables) (name : List ℕ) (o : Option Rows) → AreNamed ts → drop_table ts name o ≡ Some later → AreNamed later
drop-named ts later name None named is = absurd (some-none later is)
drop-named ts later name (Some t) named is = subst (λ (us : Tables). AreNamed us) (some-same (without_table ts name) later is) (without-named ts name named)

add-named : (ts later : Tables) (name : List ℕ) (o : Option Rows) → AreNamed ts → table_of ts name ≡ None → add_table ts name o ≡ Some later → AreNamed later
add-named ts later name None named none is = absurd (some-none later is)
add-named ts later name (Some t) named none is = subst (λ (us : Tables). AreNamed us) (some-same (ts ++ (name, t) ∷ []) later is) (more-named ts name t named none)

pub change-named : (version : ℕ) (ts later : Tables) (c : TableChange) → AreNamed ts → with_table_change version ts c ≡ Some later → AreNamed later
change-named version ts later (changes.Dropped name) named is = drop-named ts later name (table_of ts name) named is
change-named version ts later (changes.Kept name next made) named is = put-named ts later name (kept_table version next made (table_of ts name)) named is
change-named version ts later (changes.New name columns next made) named is = by (table_of ts name) refl is
  where
    by : (o : Option Rows) → table_of ts name ≡ o → add_table ts name (new_table version columns next made o) ≡ Some later → AreNamed later
    by (Some t) at e = absurd (some-none later e)
    by None at e = add-named ts later name (new_table version columns next made None) named at e

pub changes-named : (version : ℕ) (cs : List TableChange) (ts later : Tables) → AreNamed ts → with_table_changes version ts cs ≡ Some later → AreNamed later
changes-named version [] ts later named is = subst (λ (us : Tables). AreNamed us) (some-same ts later is) named
changes-named version (c ∷ cs) ts later named is = by (with_table_change version ts c) refl is (λ us e. changes-named version cs us later e)
  where
    by : (o : Option Tables) → with_table_change version ts c ≡ o → option_and_then (λ us. with_table_changes version us cs) o ≡ Some later → ((us : Tables) → AreNamed us → with_table_changes version us cs ≡ Some later → AreNamed later) → AreNamed later
    by None at e go = absurd (some-none later e)
    by (Some us) at e go = go us (change-named version ts us c named at) e

-- a table of one name, and those of others, where one is put, taken away or added

module _ (name : List ℕ) where
  pub without-none : (ts : Tables) → AreNamed ts → table_of (without_table ts name) name ≡ None
  without-none [] named = refl
  without-none (t ∷ ts) named = by (bytes_eq name t.0) refl (without-none ts named.1)
    where
      by : (b : Bool) → bytes_eq name t.0 ≡ b → table_of (without_table ts name) name ≡ None → table_of (cond b ts (t ∷ without_table ts name)) name ≡ None
      by true e go = ap (table_of ts) (name-same name t.0 e) ∙ named.0
      by false e go = past-head t (without_table ts name) name e ∙ go

  pub with-here : (ts : Tables) (t u : Rows) → table_of ts name ≡ Some t → table_of (with_table ts name u) name ≡ Some u
  with-here [] t u at = absurd (some-none t at)
  with-here (x ∷ xs) t u at = by (bytes_eq name x.0) refl at (λ e. with-here xs t u e)
    where
      by : (b : Bool) → bytes_eq name x.0 ≡ b → cond b (Some x.1) (table_of xs name) ≡ Some t → (table_of xs name ≡ Some t → table_of (with_table xs name u) name ≡ Some u)
          → table_of (cond b ((x.0, u) ∷ xs) (x ∷ with_table xs name u)) name ≡ Some u
      by true e at go = ap (λ b. cond b (Some u) (table_of xs name)) e
      by false e at go = past-head x (with_table xs name u) name e ∙ go at

  module _ (other : List ℕ) (apart : bytes_eq name other ≡ false) where
    no_head : (t : List ℕ × Rows) → bytes_eq name t.0 ≡ true → bytes_eq other t.0 ≡ false
    no_head t e = ap (bytes_eq other) (sym (name-same name t.0 e)) ∙ other_way name other apart

    pub without-other : (ts : Tables) → table_of (without_table ts name) other ≡ table_of ts other
    without-other [] = refl
    without-other (t ∷ ts) = by (bytes_eq name t.0) refl (without-other ts)
      where
        by : (b : Bool) → bytes_eq name t.0 ≡ b → table_of (without_table ts name) other ≡ table_of ts other → table_of (cond b ts (t ∷ without_table ts name)) other ≡ cond (bytes_eq other t.0) (Some t.1) (table_of ts other)
        by true e go = sym (past-head t ts other (no_head t e))
        by false e go = ap (λ (o : Option Rows). cond (bytes_eq other t.0) (Some t.1) o) go

    pub with-other : (ts : Tables) (u : Rows) → table_of (with_table ts name u) other ≡ table_of ts other
    with-other [] u = refl
    with-other (t ∷ ts) u = by (bytes_eq name t.0) refl (with-other ts u)
      where
        by : (b : Bool) → bytes_eq name t.0 ≡ b → table_of (with_table ts name u) other ≡ table_of ts other → table_of (cond b ((t.0, u) ∷ ts) (t ∷ with_table ts name u)) other ≡ cond (bytes_eq other t.0) (Some t.1) (table_of ts other)
        by true e go = past-head (t.0, u) ts other (no_head t e) ∙ sym (past-head t ts other (no_head t e))
        by false e go = ap (λ (o : Option Rows). cond (bytes_eq other t.0) (Some t.1) o) go

    pub added-other : (ts : Tables) (u : Rows) → table_of (ts ++ (name, u) ∷ []) other ≡ table_of ts other
    added-other [] u = ap (λ b. cond b (Some u) None) (other_way name other apart)
    added-other (t ∷ ts) u = ap (λ (o : Option Rows). cond (bytes_eq other t.0) (Some t.1) o) (added-other ts u)
