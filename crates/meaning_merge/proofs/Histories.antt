-- What a history says of its last tables, and of the base of a transaction.
use Rattle.std.proofs.Common.{◌≡◌, ◌⊎◌, inl, inr, ⊎_elim, ℕ, zero, suc, ◌+◌, ◌==◌, ◌≤◌, ◌<◌, List, [], ◌∷◌, ◌++◌, Bool, true, false, cond, bytes_eq, length, map, nat_le, Some, None, refl, sym, ◌∙◌, ap, arith}
use Rattle.std.proofs.lemmas.Bool.Decides.{nat_tests}
use Rattle.std.proofs.lemmas.List.Elements.{recursion_from_All, All-from_recursion}
use Rattle.std.specs.Cmp.Lexicographic.{pointwise}
use Rattle.std.specs.List.{IsDistinct, AllByRecursion}
use Rattle.meaning_areas.specs.Commits.{Commit, tables_after}
use Rattle.meaning_areas.specs.Stands.{past}
use Rattle.meaning_tables.specs.Tables.{Rows, Tables, IsNumbered, table_of}
use Rattle.sql_invariants.specs.Ordered.{AreOrdered}
use Rattle.meaning_merge.specs.History.{EachTable}
use Rattle.meaning_merge.specs.Merging.{AreNamed}

-- the last tables

pub past-last : (t : Tables) (cs : List Commit) → past t cs (length cs) ≡ Some (tables_after t cs)
past-last t [] = refl
past-last t (c ∷ cs) = past-last c.tables cs

pub past-within : (t : Tables) (cs : List Commit) (n : ℕ) (x : Tables) → past t cs n ≡ Some x → n ≤ length cs
past-within t cs zero x e = omega arith
past-within t [] (suc n) x e = absurd cc
past-within t (c ∷ cs) (suc n) x e = let le = past-within c.tables cs n x e in omega (arith, le)

-- one more commit: the tables after each are those from before, or its own
pub past-push : (t : Tables) (d : Commit) (cs : List Commit) (n : ℕ) (x : Tables) → past t (cs ++ d ∷ []) n ≡ Some x → (past t cs n ≡ Some x) ⊎ ((n ≡ suc (length cs)) × (x ≡ d.tables))
past-push t d cs zero x e = inl e
past-push t d [] (suc zero) x e = inr (refl, (let is : d.tables ≡ x = cc in sym is))
past-push t d [] (suc (suc n)) x e = absurd cc
past-push t d (c ∷ cs) (suc n) x e = ⊎_elim
    (λ (old : past c.tables cs n ≡ Some x). inl old)
    (λ (last : (n ≡ suc (length cs)) × (x ≡ d.tables)). inr (ap (λ m. suc m) last.0, last.1))
    (past-push c.tables d cs n x e)

-- and those from before stay
pub past-more : (t : Tables) (d : Commit) (cs : List Commit) (n : ℕ) (x : Tables) → past t cs n ≡ Some x → past t (cs ++ d ∷ []) n ≡ Some x
past-more t d [] zero x e = e
past-more t d [] (suc n) x e = absurd cc
past-more t d (c ∷ cs) zero x e = e
past-more t d (c ∷ cs) (suc n) x e = past-more c.tables d cs n x e

-- order

named-none : (name : List ℕ) (ts : Tables) → AllByRecursion (λ y. pointwise ◌==◌ name y ≡ false) (map (λ (t : List ℕ × Rows). t.0) ts) → table_of ts name ≡ None
named-none name [] all = refl
named-none name (t ∷ ts) all = ap (λ b. cond b (Some t.1) (table_of ts name)) all.0 ∙ named-none name ts all.1

none-named : (name : List ℕ) (ts : Tables) → table_of ts name ≡ None → AllByRecursion (λ y. pointwise ◌==◌ name y ≡ false) (map (λ (t : List ℕ × Rows). t.0) ts)
none-named name [] none = tt
none-named name (t ∷ ts) none = let one = by (bytes_eq name t.0) none in (one.0, none-named name ts one.1)
  where
    by : (b : Bool) → cond b (Some t.1) (table_of ts name) ≡ None → (b ≡ false) × (table_of ts name ≡ None)
    by true e = absurd cc
    by false e = (refl, e)

distinct-named : (ts : Tables) → IsDistinct (pointwise ◌==◌) (map (λ (t : List ℕ × Rows). t.0) ts) → AreNamed ts
unfolding IsDistinct
distinct-named [] d = tt
distinct-named (t ∷ ts) d = (named-none t.0 ts d.0, distinct-named ts d.1)

named-distinct : (ts : Tables) → AreNamed ts → IsDistinct (pointwise ◌==◌) (map (λ (t : List ℕ × Rows). t.0) ts)
unfolding IsDistinct
named-distinct [] d = tt
named-distinct (t ∷ ts) d = (none-named t.0 ts d.0, named-distinct ts d.1)

pub ordered-named : (ts : Tables) → AreOrdered ts → AreNamed ts
ordered-named ts ordered = distinct-named ts ordered.names

each-numbered : (ts : Tables) → AllByRecursion (λ (t : List ℕ × Rows). IsNumbered t.1) ts → EachTable ts (λ t. IsNumbered t.1)
each-numbered [] all = tt
each-numbered (t ∷ ts) all = (all.0, each-numbered ts all.1)

numbered-each : (ts : Tables) → EachTable ts (λ t. IsNumbered t.1) → AllByRecursion (λ (t : List ℕ × Rows). IsNumbered t.1) ts
numbered-each [] all = tt
numbered-each (t ∷ ts) all = (all.0, numbered-each ts all.1)

pub ordered-numbered : (ts : Tables) → AreOrdered ts → EachTable ts (λ t. IsNumbered t.1)
ordered-numbered ts ordered = each-numbered ts (recursion_from_All (λ (t : List ℕ × Rows). IsNumbered t.1) ts ordered.numbers)

pub named-ordered : (ts : Tables) → AreNamed ts → EachTable ts (λ t. IsNumbered t.1) → AreOrdered ts
named-ordered ts named numbered = record { names = named-distinct ts named; numbers = All-from_recursion (λ (t : List ℕ × Rows). IsNumbered t.1) ts (numbered-each ts numbered) }

-- versions

pub not-zero : (n : ℕ) → 0 < n → (n == 0) ≡ false
not-zero n lt = grind (arith, nat_tests)

pub not-next : (n m : ℕ) → n ≤ m → (n == (m + 1)) ≡ false
not-next n m le = grind (arith, nat_tests)

pub is-self : (n : ℕ) → (n == n) ≡ true
is-self n = grind (arith, nat_tests)

pub within : (n m : ℕ) → n ≤ m → nat_le n m ≡ true
within n m le = grind (arith, nat_tests)

pub beyond : (n m : ℕ) → m < n → nat_le n m ≡ false
beyond n m lt = grind (arith, nat_tests)
