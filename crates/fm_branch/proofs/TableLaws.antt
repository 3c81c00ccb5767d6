-- Branches by the numbers of their transactions.
use Rattle.std.proofs.Common.{◌≡◌, ℕ, ◌||◌, Bool, true, false, not, cond, List, [], ◌∷◌, ◌++◌, Option, Some, None, is_some, nat_eq, refl, sym, ap, ◌∙◌}
use Rattle.std.proofs.lemmas.Bool.{and_from, and_parts}
use Rattle.std.proofs.lemmas.List.{same_from_push}
use Rattle.std.specs.Cmp.{nat_cmp_total, unsigned_ties}
use Rattle.std.specs.FinMap as maps
use Rattle.std.specs.FinMap.{nat_cmp-IsAntisymmetric}
use Rattle.std.specs.List.Sorted.{IsStrictlySortedBy}
use Rattle.std.specs.Map.{keys_of, lookup}
use Rattle.std.specs.BTreeMap.{is_at}
use Rattle.std.specs.Option.{option_map}
use Rattle.std.specs.Ordering.{eq_by_cmp, is_eq, nat_cmp}
use Rattle.dl_codec.specs.declared.links.BranchPhase.{BranchPhase}
use Rattle.meaning_areas.specs.Branches.{Branch, branch}
use Rattle.meaning_areas.specs.Commits.{has_number}
use Rattle.fm_branch.proofs.Maps.{entries-of, get-of, of-renewed, of-same, removed-put, same-tied, tied-number}
use Rattle.fm_branch.specs.Table.{HaveBranches, Numbered, Table, are_once, doubtful, in_doubt, with_last, with_phase}

-- one branch more

number-more : (q tx : ℕ) (txs : List ℕ) → has_number q (txs ++ tx ∷ []) ≡ (eq_by_cmp nat_cmp q tx || has_number q txs)
number-more q tx [] = by (nat_eq tx q) (eq_by_cmp nat_cmp q tx) (tied-number q tx)
  where
    by : (a b : Bool) → a ≡ b → cond a true false ≡ (b || false)
    by true true e = refl
    by true false e = cc e
    by false true e = cc e
    by false false e = refl
number-more q tx (t ∷ ts) = ap (λ b. cond (nat_eq t q) true b) (number-more q tx ts) ∙ by (nat_eq t q) (eq_by_cmp nat_cmp q tx) (has_number q ts)
  where
    by : (a b d : Bool) → cond a true (b || d) ≡ (b || cond a true d)
    by true true d = refl
    by true false d = refl
    by false b d = refl

pub named-more : (txs : List ℕ) (table : Table) (tx : ℕ) (b : Branch) → HaveBranches txs table → HaveBranches (txs ++ tx ∷ []) (maps.insert table tx b)
named-more txs table tx b named q =
    number-more q tx txs ∙ ap (λ d. eq_by_cmp nat_cmp q tx || d) (named q) ∙ by (eq_by_cmp nat_cmp q tx) ∙ sym (ap is_some (maps.get-insert nat_cmp_total table tx b q))
  where
    by : (t : Bool) → (t || is_some (maps.get table q)) ≡ is_some (cond t (Some b) (maps.get table q))
    by true = refl
    by false = refl

pub new-number : (txs : List ℕ) (table : Table) (tx : ℕ) → HaveBranches txs table → maps.get table tx ≡ None → has_number tx txs ≡ false
new-number txs table tx named none = named tx ∙ ap (λ (o : Option Branch). is_some o) none

pub once-more : (txs : List ℕ) (tx : ℕ) → are_once txs ≡ true → has_number tx txs ≡ false → are_once (txs ++ tx ∷ []) ≡ true
once-more [] tx all new = refl
once-more (t ∷ ts) tx all new =
    let parts = and_parts (not (has_number t ts)) (are_once ts) all in
    let apart = by (nat_eq t tx) (has_number tx ts) new in
    let still = number-more t tx ts ∙ ap (λ b. b || has_number t ts) (sym (unsigned_ties t tx) ∙ apart.0) in
    and_from (not (has_number t (ts ++ tx ∷ []))) (are_once (ts ++ tx ∷ [])) (ap not still ∙ parts.0) (once-more ts tx parts.1 apart.1)
  where
    by : (a b : Bool) → cond a true b ≡ false → (a ≡ false) × (b ≡ false)
    by true b e = absurd cc
    by false b e = (refl, e)

pub none-named : HaveBranches [] maps.empty
none-named q = sym (ap is_some (maps.get-empty nat_cmp q))

-- the last branch taken out again

once-before : (txs : List ℕ) (tx : ℕ) → are_once (txs ++ tx ∷ []) ≡ true → (are_once txs ≡ true) × (has_number tx txs ≡ false)
once-before [] tx all = (refl, refl)
once-before (t ∷ ts) tx all =
    let parts = and_parts (not (has_number t (ts ++ tx ∷ []))) (are_once (ts ++ tx ∷ [])) all in
    let rest = once-before ts tx parts.1 in
    let apart = by (eq_by_cmp nat_cmp t tx) (has_number t ts) (sym (ap not (number-more t tx ts)) ∙ parts.0) in (
      and_from (not (has_number t ts)) (are_once ts) apart.1 rest.0,
      ap (λ b. cond b true (has_number tx ts)) (unsigned_ties t tx ∙ apart.0) ∙ rest.1,
    )
  where
    by : (a b : Bool) → not (a || b) ≡ true → (a ≡ false) × (not b ≡ true)
    by true b e = absurd cc
    by false b e = (refl, e)

module _ (txs : List ℕ) (tx : ℕ) (once : are_once (txs ++ tx ∷ []) ≡ true) where
  pub once-less : are_once txs ≡ true
  once-less = (once-before txs tx once).0

  pub named-less : (table : Table) → HaveBranches (txs ++ tx ∷ []) table → HaveBranches txs (maps.remove table tx)
  named-less table named q = by (eq_by_cmp nat_cmp q tx) refl ∙ sym (ap (λ (o : Option Branch). is_some o) (maps.get-remove nat_cmp_total table tx q))
    where
      by : (t : Bool) → eq_by_cmp nat_cmp q tx ≡ t → has_number q txs ≡ is_some (cond t None (maps.get table q))
      by true same = ap (λ (x : ℕ). has_number x txs) (same-tied q tx same) ∙ (once-before txs tx once).1
      by false other = sym (number-more q tx txs ∙ ap (λ b. b || has_number q txs) other) ∙ named q

pub still-there : (table : Table) (tx q : ℕ) (b : Branch) → maps.get (maps.remove table tx) q ≡ Some b → maps.get table q ≡ Some b
still-there table tx q b e = by (eq_by_cmp nat_cmp q tx) (sym (maps.get-remove nat_cmp_total table tx q) ∙ e)
  where
    by : (t : Bool) → cond t None (maps.get table q) ≡ Some b → maps.get table q ≡ Some b
    by true e = absurd cc
    by false e = e

module _ (before : Numbered) (tx : ℕ) (b : Branch) (new : maps.get before.table tx ≡ None) where
  pub taken_back : (table : Table) (txs : List ℕ) (last : ℕ) → ◌≡◌ {A = Numbered} (record { table = table; prepared = txs ++ last ∷ [] }) (with_last before tx b)
      → ◌≡◌ {A = Numbered} (record { table = maps.remove table last; prepared = txs }) before
  taken_back table txs last e =
      let same = same_from_push txs before.prepared last tx (ap (λ (n : Numbered). n.prepared) e) in
      let back = ap (λ (t : Table). maps.remove t last) (ap (λ (n : Numbered). n.table) e) ∙ ap (λ (x : ℕ). maps.remove (maps.insert before.table tx b) x) same.1
      ∙ removed-put nat_cmp_total nat_cmp-IsAntisymmetric before.table tx b new in
      λ i. record { table = back i; prepared = same.0 i }

-- another phase of a branch

module _ (old new : List (ℕ × Branch)) (tx : ℕ) (phase : BranchPhase) (others : (q : ℕ) → is_eq (nat_cmp tx q) ≡ false → lookup (is_at (nat_cmp q)) new ≡ lookup (is_at (nat_cmp q)) old) where
  phase-by : (o : Option Branch) → lookup (is_at (nat_cmp tx)) old ≡ o → lookup (is_at (nat_cmp tx)) new ≡ option_map (λ b. branch b.moved phase) o
      → maps.from_entries new ≡ with_phase (maps.from_entries old) tx phase o
  phase-by None was now = of-same nat_cmp_total nat_cmp-IsAntisymmetric old new tx others now was
  phase-by (Some b) was now = of-renewed nat_cmp_total nat_cmp-IsAntisymmetric old new tx others (branch b.moved phase) now

  pub phase_of_entries : lookup (is_at (nat_cmp tx)) new ≡ option_map (λ b. branch b.moved phase) (lookup (is_at (nat_cmp tx)) old)
      → maps.from_entries new ≡ with_phase (maps.from_entries old) tx phase (maps.get (maps.from_entries {R = nat_cmp} old) tx)
  phase_of_entries now =
      phase-by (lookup (is_at (nat_cmp tx)) old) refl now
      ∙ ap (λ (o : Option Branch). with_phase (maps.from_entries old) tx phase o) (sym (get-of nat_cmp_total old tx))

-- what is there after a change of phase
module _ (table : Table) (tx : ℕ) (phase : BranchPhase) where
  pub some-phase : (q : ℕ) → is_some (maps.get (with_phase table tx phase (maps.get table tx)) q) ≡ is_some (maps.get table q)
  some-phase q = by (maps.get table tx) refl
    where
      at : (b : Branch) (t : Bool) → maps.get table tx ≡ Some b → eq_by_cmp nat_cmp q tx ≡ t → is_some (cond t (Some (branch b.moved phase)) (maps.get table q)) ≡ is_some (maps.get table q)
      at b true e here = sym (ap (λ (x : ℕ). is_some (maps.get table x)) (same-tied q tx here) ∙ ap is_some e)
      at b false e there = refl

      by : (o : Option Branch) → maps.get table tx ≡ o → is_some (maps.get (with_phase table tx phase o) q) ≡ is_some (maps.get table q)
      by None e = refl
      by (Some b) e = ap is_some (maps.get-insert nat_cmp_total table tx (branch b.moved phase) q) ∙ at b (eq_by_cmp nat_cmp q tx) e refl

  pub named-phase : (txs : List ℕ) → HaveBranches txs table → HaveBranches txs (with_phase table tx phase (maps.get table tx))
  named-phase txs named q = named q ∙ sym (some-phase q)

-- those in doubt, of entries in order
pub doubtful-of : (es : List (ℕ × Branch)) → IsStrictlySortedBy nat_cmp (keys_of es) → doubtful es ≡ in_doubt (maps.from_entries es)
doubtful-of es asc = ap doubtful (sym (entries-of nat_cmp_total es asc))
