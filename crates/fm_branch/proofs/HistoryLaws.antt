-- The places of the links that branches take, and what the fold takes.
use Rattle.std.proofs.Common.{◌≡◌, ℕ, Bool, true, false, cond, Option, Some, None, is_some, refl, sym, ap, ◌∙◌}
use Rattle.std.specs.Bool.{then_some}
use Rattle.std.specs.Cmp.{nat_cmp_total}
use Rattle.std.specs.FinMap as maps
use Rattle.std.specs.Ordering.{eq_by_cmp, nat_cmp}
use Rattle.dl_codec.specs.declared.links.BranchPhase.{BranchPhase}
use Rattle.dl_codec.specs.declared.links.BranchPhase.TheVariants.{Done}
use Rattle.meaning_areas.specs.Branches.{Branch, branch}
use Rattle.fm_branch.proofs.HeldLaws.{have-kept, keeps-same}
use Rattle.fm_branch.specs.Held.{HasPlacesOf, KeepsPlaces, Places, have_places}
use Rattle.fm_branch.specs.Linked.{HavePlaces}
use Rattle.fm_branch.specs.Table.{Table, with_phase}

-- the takes of branches have places

pub placed_still : (table : Table) (old new : Places) → KeepsPlaces old new → HavePlaces table old → HavePlaces table new
placed_still table old new kept have tx b e = have-kept old new b.moved.takes kept (have tx b e)

pub placed_phase : (table : Table) (tx : ℕ) (phase : BranchPhase) (places : Places) → HavePlaces table places → HavePlaces (with_phase table tx phase (maps.get table tx)) places
placed_phase table tx phase places have q d at = by (maps.get table tx) refl at
  where
    same : {A : Type 0} {x y : A} → Some x ≡ Some y → x ≡ y
    same e = cc

    in-place : (b : Branch) (t : Bool) → maps.get table tx ≡ Some b → cond t (Some (branch b.moved phase)) (maps.get table q) ≡ Some d → have_places places d.moved.takes ≡ true
    in-place b true e here = ap (λ (x : Branch). have_places places x.moved.takes) (sym (same here)) ∙ have tx b e
    in-place b false e there = have q d there

    by : (o : Option Branch) → maps.get table tx ≡ o → maps.get (with_phase table tx phase o) q ≡ Some d → have_places places d.moved.takes ≡ true
    by None e at = have q d at
    by (Some b) e at = in-place b (eq_by_cmp nat_cmp q tx) e (sym (maps.get-insert nat_cmp_total table tx (branch b.moved phase) q) ∙ at)

pub placed_more : (table : Table) (tx : ℕ) (b : Branch) (places : Places) → HavePlaces table places → have_places places b.moved.takes ≡ true → HavePlaces (maps.insert table tx b) places
placed_more table tx b places have here q d at = by (eq_by_cmp nat_cmp q tx) (sym (maps.get-insert nat_cmp_total table tx b q) ∙ at)
  where
    same : {A : Type 0} {x y : A} → Some x ≡ Some y → x ≡ y
    same e = cc

    by : (t : Bool) → cond t (Some b) (maps.get table q) ≡ Some d → have_places places d.moved.takes ≡ true
    by true e = ap (λ (x : Branch). have_places places x.moved.takes) (sym (same e)) ∙ here
    by false e = have q d e

pub placed_done : (table : Table) (tx : ℕ) (old new : Places) → HasPlacesOf new old → HavePlaces table old → HavePlaces (with_phase table tx Done (maps.get table tx)) new
placed_done table tx old new same have = placed_phase table tx Done new (placed_still table old new (keeps-same old new same) have)

-- what the fold takes

pub taken_new : {A : Type 0} (o : Option A) (r : Bool) (x : A) → is_some o ≡ true → o ≡ then_some r x → o ≡ Some x
taken_new o true x some is = is
taken_new {A = A} o false x some is = absurd (false_true (sym (ap (λ (p : Option A). is_some p) is) ∙ some))
  where
    false_true : false ≡ true → ⊥
    false_true e = cc
