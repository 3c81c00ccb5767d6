use Rattle.std.proofs.Common.{◌≡◌, ◌+◌, ◌++◌, ◌∷◌, [], ℕ, List, add-one, ap, sym, ◌∙◌, rules}
use Rattle.sql_change.specs.Touched.{numbers_from}
use Rattle.sql_change.proofs.Touched.{numbers_more}
use Rattle.sql_change.proofs.inserting.numbers_from.Goals as goal

pub loop-i-preserved : goal.loop-i-preserved
loop-i-preserved c =
    let first = c.args.first in
    let i = c.loop-i.i in
    let pushed : c.push.new.self ≡ c.loop-i.numbers ++ (first + i) ∷ [] = search rules in
    pushed ∙ ap (λ (ns : List ℕ). ns ++ (first + i) ∷ []) c.loop-i.invariant ∙ sym (numbers_more first i) ∙ ap (λ (n : ℕ). numbers_from first n) (sym (add-one i))
