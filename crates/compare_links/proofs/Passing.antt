-- The commit at a place, from the tables before it.
use Rattle.std.proofs.Common.{◌≡◌, ℕ, zero, suc, ◌+◌, ◌<◌, List, [], ◌∷◌, length, Bool, Option, Some, None, sym, ◌∙◌, ap, arith, add-one}
use Rattle.std.specs.List.{slice_get}
use Rattle.std.specs.Option.{option_map}
use Rattle.db_store.specs.Log.{commit_between, commit_numbered}
use Rattle.meaning_areas.specs.Commits.{Commit, HaveMoved}
use Rattle.meaning_areas.specs.Stands.{past}
use Rattle.meaning_tables.specs.Links.{gives, takes}
use Rattle.meaning_tables.specs.Tables.{Tables}
use Rattle.compare_every.proofs.Deciding.{some_same}
use Rattle.compare_every.proofs.Lists.{none_some}

commit-is : (c : Commit) (first before after : Tables) (tx : ℕ) (b : Bool) → first ≡ before → c.tables ≡ after → c.tx ≡ tx → c.branch ≡ b → c.gives ≡ gives first c.tables → c.takes ≡ takes first c.tables → c ≡ commit_between before tx b after
commit-is c first before after tx b was is number has gave took = (λ i. record {
  tx = number i;
  branch = has i;
  gives = (gave ∙ (λ j. gives (was j) (is j))) i;
  takes = (took ∙ (λ j. takes (was j) (is j))) i;
  tables = is i;
})

passed-from : (first before after : Tables) (cs : List Commit) (i : ℕ) (tx : ℕ) (b : Bool) → HaveMoved first cs → past first cs i ≡ Some before → past first cs (suc i) ≡ Some after
    → option_map {U = ℕ × Bool} (λ c. (c.tx, c.branch)) (slice_get cs i) ≡ Some (tx, b) → slice_get cs i ≡ Some (commit_between before tx b after)
passed-from first before after [] i tx b moved was is named = absurd (none_some after is)
passed-from first before after (c ∷ cs) zero tx b moved was is named =
    let pair = some_same (c.tx, c.branch) (tx, b) named in
    ap (λ (x : Commit). Some x)
    (commit-is c first before after tx b (some_same first before was) (some_same c.tables after is) (ap (λ (p : ℕ × Bool). p.0) pair) (ap (λ (p : ℕ × Bool). p.1) pair) moved.0 moved.1)
passed-from first before after (c ∷ cs) (suc i) tx b moved was is named = passed-from c.tables before after cs i tx b moved.2 was is named

pub passed : (before after : Tables) (cs : List Commit) (i : ℕ) (tx : ℕ) (b : Bool) → HaveMoved [] cs → past [] cs i ≡ Some before → Some after ≡ past [] cs (i + 1)
    → option_map {U = ℕ × Bool} (λ c. (c.tx, c.branch)) (slice_get cs i) ≡ Some (tx, b) → slice_get cs i ≡ Some (commit_between before tx b after)
passed before after cs i tx b moved was is named =
    passed-from [] before after cs i tx b moved was (ap (λ (n : ℕ). past [] cs n) (sym (add-one i)) ∙ sym is) named

past-none : (first before : Tables) (cs : List Commit) (i : ℕ) → past first cs i ≡ Some before → past first cs (suc i) ≡ None → i < length cs → ⊥
past-none first before [] i was is lt = omega (arith, lt)
past-none first before (c ∷ cs) zero was is lt = none_some c.tables (sym is)
past-none first before (c ∷ cs) (suc i) was is lt = past-none c.tables before cs i was is (omega (arith, lt))

pub past_none : (before : Tables) (cs : List Commit) (i : ℕ) → past [] cs i ≡ Some before → None ≡ past [] cs (i + 1) → i < length cs → ⊥
past_none before cs i was is lt = past-none [] before cs i was (ap (λ (n : ℕ). past [] cs n) (sym (add-one i)) ∙ sym is) lt

-- what has a number from 1
pub numbered-at : (cs : List Commit) (i : ℕ) → commit_numbered cs (i + 1) ≡ slice_get cs i
numbered-at cs i = ap (λ (n : ℕ). commit_numbered cs n) (add-one i)

pub named_none : (cs : List Commit) (i : ℕ) → None ≡ option_map {U = ℕ × Bool} (λ c. (c.tx, c.branch)) (commit_numbered cs (i + 1)) → i < length cs → ⊥
named_none cs i is lt = by cs i (is ∙ ap (λ (o : Option Commit). option_map {U = ℕ × Bool} (λ c. (c.tx, c.branch)) o) (numbered-at cs i)) lt
  where
    by : (cs : List Commit) (i : ℕ) → None ≡ option_map {U = ℕ × Bool} (λ c. (c.tx, c.branch)) (slice_get cs i) → i < length cs → ⊥
    by [] i is lt = omega (arith, lt)
    by (c ∷ cs) zero is lt = none_some (c.tx, c.branch) is
    by (c ∷ cs) (suc i) is lt = by cs i is (omega (arith, lt))
