-- Tests, and what they decide.
use Rattle.std.proofs.Common.{◌≡◌, Bool, true, false, cond, Option, Some, None, refl}
use Rattle.std.specs.Bool.{Decides}

pub false_true : false ≡ true → ⊥
false_true e = cc

pub decides-no : {P : Type 0} → (P → ⊥) → Decides false P
decides-no {P} never = (λ e. absurd (false_true e), λ (p : P). absurd (never p))

pub decides-yes : {P : Type 0} → P → Decides true P
decides-yes {P} p = (λ _. p, λ (_ : P). refl)

pub refuted : {P : Type 0} (b : Bool) → Decides b P → b ≡ false → P → ⊥
refuted b d e p = by b (d.1 p) e
  where
    by : (b : Bool) → b ≡ true → b ≡ false → ⊥
    by true t f = cc
    by false t f = cc

pub some-if : {A : Type 0} (b : Bool) (x later : A) → cond b (Some x) None ≡ Some later → x ≡ later
some-if true x later e = cc
some-if false x later e = absurd cc

pub some_none : {A : Type 0} (o : Option A) (x : A) → o ≡ None → o ≡ Some x → ⊥
some_none None x e f = cc
some_none (Some y) x e f = cc

pub some_same : {A : Type 0} (x y : A) → Some x ≡ Some y → x ≡ y
some_same x y e = cc
