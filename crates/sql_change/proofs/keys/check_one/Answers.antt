use Rattle.std.proofs.Common.{ℕ, ℤ, List, [], map, ap, refl, arith}
use Rattle.std.specs.Cmp.Lexicographic.{pointwise}
use Rattle.std.specs.List.{list_any}
use Rattle.std.specs.Ordering.{int_eq}
use Rattle.std.specs.Prelude.{◌==◌}
use denote.Ref.{Bor}
use Rattle.std.proofs.lemmas.Grind.{common_steps}
use Rattle.sql_change.proofs.keys.check_one.Goals as goal

pub loop-i-init : goal.loop-i-init
loop-i-init c = (
  [],
  (
    (λ z. ap (λ (ks : List ℤ). list_any (int_eq z) ks) c.new-numbers.ensures.empty),
    (λ t. ap (λ (ks : List (Bor (List ℕ))). list_any (pointwise ◌==◌ t) (map (λ (k : Bor (List ℕ)). k.now) ks)) c.new-texts.ensures.empty),
  ),
  refl,
)

pub returns : goal.returns
returns c = grind (arith, common_steps)
