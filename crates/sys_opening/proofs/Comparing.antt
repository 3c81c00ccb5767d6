-- The comparisons, one area after another.
use Rattle.std.proofs.Common.{◌<◌, arith}
use Rattle.dl_base.specs.Areas.{area_number}
use Rattle.dl_base.specs.declared.area.Area.{Area}
use Rattle.dl_base.specs.declared.area.Area.TheVariants as areas
use Rattle.meaning_areas.specs.Areas.{ComparesAt, IsUnlike}
use Rattle.meaning_areas.specs.Lists.{Folds}

module _ (f : Folds) where
  pub unlike-links : (ComparesAt f areas.Links → ⊥) → IsUnlike f areas.Links
  unlike-links never = record { before = before; here = never }
    where
      before : (a : Area) → area_number a < 1 → ComparesAt f a
      before areas.Rows lt = tt
      before areas.Links lt = absurd (omega (arith, lt))
      before areas.Files lt = absurd (omega (arith, lt))
      before areas.Archive lt = absurd (omega (arith, lt))
      before areas.Backups lt = absurd (omega (arith, lt))

  module _ (links : ComparesAt f areas.Links) where
    pub unlike-files : (ComparesAt f areas.Files → ⊥) → IsUnlike f areas.Files
    unlike-files never = record { before = before; here = never }
      where
        before : (a : Area) → area_number a < 2 → ComparesAt f a
        before areas.Rows lt = tt
        before areas.Links lt = links
        before areas.Files lt = absurd (omega (arith, lt))
        before areas.Archive lt = absurd (omega (arith, lt))
        before areas.Backups lt = absurd (omega (arith, lt))

    module _ (files : ComparesAt f areas.Files) where
      pub unlike-archive : (ComparesAt f areas.Archive → ⊥) → IsUnlike f areas.Archive
      unlike-archive never = record { before = before; here = never }
        where
          before : (a : Area) → area_number a < 3 → ComparesAt f a
          before areas.Rows lt = tt
          before areas.Links lt = links
          before areas.Files lt = files
          before areas.Archive lt = absurd (omega (arith, lt))
          before areas.Backups lt = absurd (omega (arith, lt))

      module _ (archive : ComparesAt f areas.Archive) where
        pub unlike-backups : (ComparesAt f areas.Backups → ⊥) → IsUnlike f areas.Backups
        unlike-backups never = record { before = before; here = never }
          where
            before : (a : Area) → area_number a < 4 → ComparesAt f a
            before areas.Rows lt = tt
            before areas.Links lt = links
            before areas.Files lt = files
            before areas.Archive lt = archive
            before areas.Backups lt = absurd (omega (arith, lt))

        pub all-compare : ComparesAt f areas.Backups → (a : Area) → ComparesAt f a
        all-compare backups areas.Rows = tt
        all-compare backups areas.Links = links
        all-compare backups areas.Files = files
        all-compare backups areas.Archive = archive
        all-compare backups areas.Backups = backups
