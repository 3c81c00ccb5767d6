use Rattle.std.proofs.Common.{◌≡◌, [], ◌∙◌}
use Rattle.std.specs.Vec.Iter.{into_iter_items}
use Rattle.bk_backup.proofs.Building.{tables_with, tables_with-all}
use Rattle.bk_backup.proofs.tables.tables_of.Goals as goal

pub loop-image-init : goal.loop-image-init
loop-image-init c =
    let none : c.of-tables.result.tables ≡ [] = c.of-tables.ensures ∙ c.empty.ensures in
    let all : into_iter_items c.into_iter-image-iterator.result ≡ c.args.images =
    (let a = c.into_iter-image-iterator.ensures.into_iter_gives in let b = c.into_vec-image-items.ensures in cc) in
    (λ i. tables_with (none i) (all i)) ∙ tables_with-all c.args.images
