-- What is known of transactions beside the lists of commits and of ended branches.
use Rattle.std.proofs.Common.{◌≡◌, ℕ, Bool, true, false, cond, List, [], ◌∷◌, ◌++◌, length, Option, Some, None, is_some, nat_eq, refl, sym, ap, subst, ◌∙◌}
use Rattle.std.specs.Cmp.{nat_eq_equiv}
use Rattle.std.specs.HashMap as hash
use Rattle.std.specs.HashMap.{HashMap}
use Rattle.std.specs.HashSet as set
use Rattle.std.specs.HashSet.{HashSet}
use Rattle.std.specs.Map.{lookup}
use Rattle.std.specs.Option.{option_map}
use Rattle.std.proofs.lemmas.List.Edits.{insert_end}
use Rattle.std.proofs.lemmas.Map.{lookup-insert, none_passes_from_lookup}
use Rattle.meaning_areas.specs.Commits.{has_number}
use Rattle.db_store.proofs.LogLaws.{some-mapped}
use Rattle.db_store.specs.Log.{KnowsBranches, KnowsNumbers}
use Rattle.db_store.specs.declared.log.Entry.{Entry}

-- branches of commits

looked-up : (q tx : ℕ) (es : List (ℕ × Entry)) (e : Entry) → lookup (λ k. nat_eq tx k) es ≡ None
    → lookup (λ k. nat_eq q k) (es ++ (tx, e) ∷ []) ≡ cond (nat_eq tx q) (Some e) (lookup (λ k. nat_eq q k) es)
looked-up q tx es e new =
    ap (λ (l : List (ℕ × Entry)). lookup (λ k. nat_eq q k) l) (sym (insert_end es (tx, e)))
    ∙ lookup-insert {eq = nat_eq} nat_eq_equiv tx e q es (length es) (none_passes_from_lookup (λ k. nat_eq tx k) es new)

mapped-cond : (b : Bool) (e : Entry) (o : Option Entry) → option_map (λ e. e.branch) (cond b (Some e) o) ≡ cond b (Some e.branch) (option_map (λ e. e.branch) o)
mapped-cond true e o = refl
mapped-cond false e o = refl

pub more_branches : {S : Type 0} (was now : HashMap ℕ Bool S) (es later : List (ℕ × Entry)) (tx : ℕ) (e : Entry) → KnowsBranches was es → lookup (λ k. nat_eq tx k) es ≡ None
    → hash.Updates nat_eq was now tx (Some e.branch) → later ≡ es ++ (tx, e) ∷ [] → KnowsBranches now later
more_branches was now es later tx e knows new put grown = subst (λ (l : List (ℕ × Entry)). KnowsBranches now l) (sym grown) (λ q.
    put.0 q
    ∙ ap (λ (o : Option Bool). cond (nat_eq tx q) (Some e.branch) o) (knows q)
    ∙ sym (mapped-cond (nat_eq tx q) e (lookup (λ k. nat_eq q k) es))
    ∙ sym (ap (λ (o : Option Entry). option_map (λ e. e.branch) o) (looked-up q tx es e new)))

pub has_known : {S : Type 0} (branches : HashMap ℕ Bool S) (es : List (ℕ × Entry)) (tx : ℕ) (b : Bool) → KnowsBranches branches es → b ≡ is_some (hash.get nat_eq branches tx)
    → b ≡ is_some (lookup (λ k. nat_eq tx k) es)
has_known branches es tx b knows is = is ∙ ap is_some (knows tx) ∙ some-mapped (λ e. e.branch) (lookup (λ k. nat_eq tx k) es)

-- numbers of ended branches

number-push : (q tx : ℕ) (ns : List ℕ) → has_number q (ns ++ tx ∷ []) ≡ cond (nat_eq tx q) true (has_number q ns)
number-push q tx [] = refl
number-push q tx (n ∷ ns) = by (nat_eq n q) (nat_eq tx q) (number-push q tx ns)
  where
    by : (b d : Bool) → has_number q (ns ++ tx ∷ []) ≡ cond d true (has_number q ns) → cond b true (has_number q (ns ++ tx ∷ [])) ≡ cond d true (cond b true (has_number q ns))
    by true true go = refl
    by true false go = refl
    by false d go = go

pub more_numbers : {S : Type 0} (was now : HashSet ℕ S) (ns later : List ℕ) (tx : ℕ) → KnowsNumbers was ns → set.Updates nat_eq was now tx true → later ≡ ns ++ tx ∷ [] → KnowsNumbers now later
more_numbers was now ns later tx knows put grown = subst (λ (l : List ℕ). KnowsNumbers now l) (sym grown) (λ q.
    put.0 q ∙ ap (λ (b : Bool). cond (nat_eq tx q) true b) (knows q) ∙ sym (number-push q tx ns))
