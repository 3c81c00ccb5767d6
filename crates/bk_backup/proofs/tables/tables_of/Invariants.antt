use Rattle.std.proofs.Common.{◌≡◌}
use Rattle.std.specs.Vec.Iter.{into_iter_items}
use Rattle.bk_backup.specs.Images.{tables_of_images}
use Rattle.bk_backup.proofs.Building.{tables_with}
use Rattle.bk_backup.proofs.tables.tables_of.Given as goal

-- the tables so far with those of the images that are left are those of all
abbrev pub invariant-loop-image : goal.invariant-loop-image
invariant-loop-image l = tables_with l.tables.tables (into_iter_items l.image-iterator) ≡ tables_of_images l.fn.images
