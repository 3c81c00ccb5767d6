-- What a change of one table leaves of the rows of all tables.
use Rattle.std.proofs.Common.{◌≡◌, ℕ, ◌==◌, ◌||◌, List, [], ◌∷◌, ◌++◌, Bool, true, false, cond, bytes_eq, map, Option, Some, None, IsSome, refl, sym, ◌∙◌, ap, subst, arith}
use Rattle.std.specs.Cmp.Lexicographic.{pointwise, nat_list_eq_equiv}
use Rattle.std.specs.List.{IsDistinct}
use Rattle.std.specs.Option.{option_or}
use Rattle.std.proofs.lemmas.Bool.Decides.{nat_tests}
use Rattle.std.proofs.lemmas.Map.{lookup-remove_entry, lookup-set_value}
use Rattle.db_changes.specs.Touched.{Agree, Leaves, among}
use Rattle.meaning_merge.proofs.Keeping.{name-same}
use Rattle.meaning_tables.specs.Tables.{Rows, Tables, new_table, row_of, table_of, with_table, without_table}
use Rattle.sql_rows.specs.Beside.{AgreeBeside, is_among}
use Rattle.db_txn.proofs.Effects.{Effect, gone, made, put}

none_some : (t : Rows) → None ≡ Some t → ⊥
none_some t e = cc

some_same : (x y : Rows) → Some x ≡ Some y → x ≡ y
some_same x y e = cc

-- a number among others, in two words

turned : (a b : ℕ) → (a == b) ≡ (b == a)
turned a b = grind (arith, nat_tests)

same-among : (numbers : List ℕ) (n : ℕ) → is_among n numbers ≡ among numbers n
same-among [] n = refl
same-among (m ∷ ms) n = ap (λ b. b || is_among n ms) (turned n m) ∙ ap (λ b. (m == n) || b) (same-among ms n)

-- the table of a name behind one more table, with another in the place of one, and without one

added : (name q : List ℕ) (x : Rows) (ts : Tables) → table_of (ts ++ (name, x) ∷ []) q ≡ option_or (table_of ts q) (cond (bytes_eq q name) (Some x) None)
added name q x [] = refl
added name q x (t ∷ ts) = by (bytes_eq q t.0) (added name q x ts)
  where
    by : (b : Bool) → table_of (ts ++ (name, x) ∷ []) q ≡ option_or (table_of ts q) (cond (bytes_eq q name) (Some x) None)
        → cond b (Some t.1) (table_of (ts ++ (name, x) ∷ []) q) ≡ option_or (cond b (Some t.1) (table_of ts q)) (cond (bytes_eq q name) (Some x) None)
    by true e = refl
    by false e = e

replaced : (name q : List ℕ) (x t : Rows) (ts : Tables) → table_of ts name ≡ Some t → table_of (with_table ts name x) q ≡ cond (bytes_eq name q) (Some x) (table_of ts q)
replaced name q x t ts there = lookup-set_value nat_list_eq_equiv (pointwise ◌==◌ name) (nat_list_eq_equiv.congr name) q x ts (subst (λ (o : Option Rows). IsSome o) (sym there) refl)

removed : (name q : List ℕ) (ts : Tables) → IsDistinct (pointwise ◌==◌) (map (λ t. t.0) ts) → table_of (without_table ts name) q ≡ cond (bytes_eq name q) None (table_of ts q)
removed name q ts distinct = lookup-remove_entry nat_list_eq_equiv (pointwise ◌==◌ name) (nat_list_eq_equiv.congr name) q ts distinct

-- What a change of one table leaves: tables of other names; and under each name the version, where that is not 0.
pub record Keeps (name : List ℕ) (before after : Tables) : Type 0 where
  pub others : (q : List ℕ) → bytes_eq name q ≡ false → (t : Rows) → table_of after q ≡ Some t → table_of before q ≡ Some t
  pub stood : (q : List ℕ) (t : Rows) → table_of after q ≡ Some t → (t.version == 0) ≡ false → (u : Rows) × (table_of before q ≡ Some u) × ((u.version == 0) ≡ false)

other_way : (m n : List ℕ) → bytes_eq m n ≡ false → bytes_eq n m ≡ false
other_way m n e = nat_list_eq_equiv.symm n m ∙ e

or_none : (o : Option Rows) → option_or o None ≡ o
or_none None = refl
or_none (Some t) = refl

keeps-made : (name : List ℕ) (ts : Tables) (x : Rows) → (x.version == 0) ≡ true → Keeps name ts (ts ++ (name, x) ∷ [])
keeps-made name ts x new = record {
  others = λ q other t is. sym (or_none (table_of ts q)) ∙ sym (ap (λ b. option_or (table_of ts q) (cond b (Some x) None)) (other_way name q other)) ∙ sym (added name q x ts) ∙ is;
  stood = λ q t is old. by (table_of ts q) (bytes_eq q name) t (sym (added name q x ts) ∙ is) old;
}
  where
    by : (o : Option Rows) (b : Bool) (t : Rows) → option_or o (cond b (Some x) None) ≡ Some t → (t.version == 0) ≡ false → (u : Rows) × (o ≡ Some u) × ((u.version == 0) ≡ false)
    by (Some u) b t is old = (u, refl, ap (λ (y : Rows). y.version == 0) (some_same u t is) ∙ old)
    by None true t is old = absurd (let both : true ≡ false = sym new ∙ ap (λ (y : Rows). y.version == 0) (some_same x t is) ∙ old in cc)
    by None false t is old = absurd (none_some t is)

keeps-gone : (name : List ℕ) (ts : Tables) → IsDistinct (pointwise ◌==◌) (map (λ t. t.0) ts) → Keeps name ts (without_table ts name)
keeps-gone name ts distinct = record {
  others = λ q other t is. sym (ap (λ b. cond b None (table_of ts q)) other) ∙ sym (removed name q ts distinct) ∙ is;
  stood = λ q t is old. by (table_of ts q) (bytes_eq name q) t (sym (removed name q ts distinct) ∙ is) old;
}
  where
    by : (o : Option Rows) (b : Bool) (t : Rows) → cond b None o ≡ Some t → (t.version == 0) ≡ false → (u : Rows) × (o ≡ Some u) × ((u.version == 0) ≡ false)
    by o true t is old = absurd (none_some t is)
    by o false t is old = (t, is, old)

keeps-put : (name : List ℕ) (ts : Tables) (t later : Rows) → table_of ts name ≡ Some t → later.version ≡ t.version → Keeps name ts (with_table ts name later)
keeps-put name ts t later there same = record {
  others = λ q other u is. sym (ap (λ b. cond b (Some later) (table_of ts q)) other) ∙ sym (replaced name q later t ts there) ∙ is;
  stood = λ q u is old. by q (bytes_eq name q) refl u (sym (replaced name q later t ts there) ∙ is) old;
}
  where
    by : (q : List ℕ) (b : Bool) → bytes_eq name q ≡ b → (u : Rows) → cond b (Some later) (table_of ts q) ≡ Some u → (u.version == 0) ≡ false → (w : Rows) × (table_of ts q ≡ Some w) × ((w.version == 0) ≡ false)
    by q true at u is old =
        (t, ap (table_of ts) (sym (name-same name q at)) ∙ there, ap (λ n. n == 0) (sym same) ∙ ap (λ (y : Rows). y.version == 0) (some_same later u is) ∙ old)
    by q false at u is old = (u, is, old)

keeps : (name : List ℕ) (before after : Tables) → IsDistinct (pointwise ◌==◌) (map (λ t. t.0) before) → Effect name before after → Keeps name before after
keeps name before after distinct (made columns room is) = subst (λ (ts : Tables). Keeps name before ts) is (keeps-made name before (new_table columns) refl)
keeps name before after distinct (gone is) = subst (λ (ts : Tables). Keeps name before ts) is (keeps-gone name before distinct)
keeps name before after distinct (put t later there same is) = subst (λ (ts : Tables). Keeps name before ts) is (keeps-put name before t later there same)

-- rows of other numbers, by what agrees beside them
pub leaves : (name numbers : List ℕ) (before after : Tables) → IsDistinct (pointwise ◌==◌) (map (λ t. t.0) before) → Effect name before after → AgreeBeside numbers before after → Leaves name numbers before after
leaves name numbers before after distinct effect beside =
    let kept = keeps name before after distinct effect in
    record {
      stood = kept.stood;
      rows = λ q u t was is old. by q u t was is (bytes_eq name q) (λ other. kept.others q other t is);
    }
  where
    by : (q : List ℕ) (u t : Rows) → table_of before q ≡ Some u → table_of after q ≡ Some t → (b : Bool) → (b ≡ false → table_of before q ≡ Some t) → Agree (cond b numbers []) u.rows t.rows
    by q u t was is true others = λ n out. beside q u t was is n (same-among numbers n ∙ out)
    by q u t was is false others = λ n out. ap (λ (x : Rows). row_of x.rows n) (some_same t u (sym (others refl) ∙ was))
