-- A WALK: records that are taken one after another, behind each of which the lists stand for the same.
use Rattle.std.proofs.Common.{◌≡◌, List, [], ◌∷◌, ◌++◌, Option, Some, refl, sym, ◌∙◌, ap, subst}
use Rattle.meaning_areas.specs.Lists.{Folds, Written, folds_on, folds_step}
use Rattle.meaning_areas.specs.Stands.{IsStand, Stored}
use Rattle.meaning_opening.specs.Fronts.{FrontsStand}
use Rattle.meaning_opening.proofs.Plain.{some_same}

abbrev pub Walk : Folds → List Written → Folds → Stored → Type 0
Walk f [] last x = (f ≡ last) × IsStand f x
Walk f (w ∷ ws) last x = IsStand f x × (later : Folds) × (folds_step f w ≡ Some later) × Walk later ws last x

pub walk-first : (ws : List Written) (f last : Folds) (x : Stored) → Walk f ws last x → IsStand f x
walk-first [] f last x walk = walk.1
walk-first (w ∷ ws) f last x walk = walk.0

pub walk-last : (ws : List Written) (f last : Folds) (x : Stored) → Walk f ws last x → IsStand last x
walk-last [] f last x walk = subst (λ (g : Folds). IsStand g x) walk.0 walk.1
walk-last (w ∷ ws) f last x walk = walk-last ws walk.1 last x walk.3

pub walk-taken : (ws : List Written) (f last : Folds) (x : Stored) → Walk f ws last x → folds_on (Some f) ws ≡ Some last
walk-taken [] f last x walk = ap (λ (g : Folds). Some g) walk.0
walk-taken (w ∷ ws) f last x walk = ap (λ (o : Option Folds). folds_on o ws) walk.2 ∙ walk-taken ws walk.1 last x walk.3

-- one walk and then another
pub walk-more : (ws vs : List Written) (f g last : Folds) (x : Stored) → Walk f ws g x → Walk g vs last x → Walk f (ws ++ vs) last x
walk-more [] vs f g last x walk more = subst (λ (h : Folds). Walk h vs last x) (sym walk.0) more
walk-more (w ∷ ws) vs f g last x walk more = (walk.0, walk.1, walk.2, walk-more ws vs walk.1 g last x walk.3 more)

head-same : (v w : Written) (vs ws : List Written) → v ∷ vs ≡ w ∷ ws → v ≡ w
head-same v w vs ws e = cc

tail-same : (v w : Written) (vs ws : List Written) → v ∷ vs ≡ w ∷ ws → vs ≡ ws
tail-same v w vs ws e = cc

nothing-more : (v : Written) (vs : List Written) → v ∷ vs ≡ [] → ⊥
nothing-more v vs e = cc

-- EACH FRONT of a walk
pub walk-fronts : (ws : List Written) (f last : Folds) (x : Stored) → Walk f ws last x → FrontsStand f ws x
walk-fronts ws f last x walk [] rest parts = (f, refl, walk-first ws f last x walk)
walk-fronts [] f last x walk (v ∷ front) rest parts = absurd (nothing-more v (front ++ rest) parts)
walk-fronts (w ∷ ws) f last x walk (v ∷ front) rest parts =
    let on = walk-fronts ws walk.1 last x walk.3 front rest (tail-same v w (front ++ rest) ws parts) in
    (on.0, ap (λ (y : Written). folds_on (folds_step f y) front) (head-same v w (front ++ rest) ws parts) ∙ ap (λ (o : Option Folds). folds_on o front) walk.2 ∙ on.1, on.2)

-- what stands behind each front and is taken as a whole is a walk
pub fronts-walk : (ws : List Written) (f last : Folds) (x : Stored) → FrontsStand f ws x → folds_on (Some f) ws ≡ Some last → Walk f ws last x
fronts-walk [] f last x fronts taken =
    let none = fronts [] [] refl in
    (some_same f last taken, subst (λ (g : Folds). IsStand g x) (sym (some_same f none.0 none.1)) none.2)
fronts-walk (w ∷ ws) f last x fronts taken =
    let none = fronts [] (w ∷ ws) refl in
    let one = fronts (w ∷ []) ws refl in (
      subst (λ (g : Folds). IsStand g x) (sym (some_same f none.0 none.1)) none.2,
      one.0,
      one.1,
      fronts-walk ws one.0 last x
          (λ front rest parts. (let on = fronts (w ∷ front) rest (ap (λ (vs : List Written). w ∷ vs) parts) in (on.0, ap (λ (o : Option Folds). folds_on o front) (sym one.1) ∙ on.1, on.2)))
          (ap (λ (o : Option Folds). folds_on o ws) (sym one.1) ∙ taken),
    )
