-- Tests of lists of links.
use Rattle.std.proofs.Common.{◌≡◌, ⊎_elim, ℕ, ◌/◌, ◌^◌, ◌<◌, ◌≤◌, Bool, List, nat_le, refl, sym, ◌∙◌, arith}
use Rattle.std.proofs.lemmas.Bool.Decides.{Decides-at, Decides-by_and, leb_tells}
use Rattle.std.specs.Bool.{Decides}
use Rattle.std.specs.List.{list_all}
use Rattle.dl_base.specs.declared.value.LinkRow.{LinkRow}
use Rattle.meaning_areas.specs.Stands.{AreDrawn}
use Rattle.compare_every.proofs.Deciding.{false_true}
use Rattle.compare_links.specs.Fitting.{are_drawn, is_drawn}

pub le-decides : (a b : ℕ) → Decides (nat_le a b) (a ≤ b)
le-decides a b = ⊎_elim
    (λ yes. ((λ _. yes.1), (λ _. yes.0)))
    (λ no. ((λ e. absurd (false_true (sym no.0 ∙ e))), (λ le. absurd (never le no.1))))
    (leb_tells a b)
  where
    never : a ≤ b → b < a → ⊥
    never le lt = omega (arith, le, lt)

pub drawn-decides : (opening : ℕ) (ls : List LinkRow) (b : Bool) → b ≡ are_drawn opening ls → Decides b (AreDrawn opening ls)
drawn-decides opening ls b e =
    Decides-at b (list_all (is_drawn opening) ls) e
    (Decides-by_and (is_drawn opening) (λ l. l.link.tx / 2 ^ 32 ≤ opening) (list_all (is_drawn opening)) (λ l. le-decides (l.link.tx / 2 ^ 32) opening) refl (λ _ _. refl) ls)
