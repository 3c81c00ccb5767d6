-- What the comparison at the area Links comes to.
use Rattle.std.specs.Prelude.{Option, Some, None}
use Rattle.dl_base.specs.declared.area.Area.TheVariants as areas
use Rattle.dl_base.specs.declared.value.LinkRow.{LinkRow}
use Rattle.meaning_areas.specs.Areas.{ComparesAt}
use Rattle.meaning_areas.specs.Lists.{Folds}
use Rattle.meaning_settling.specs.Keyed.{Keyed}
use Rattle.compare_every.specs.Every.{IsEvery}

-- nothing where it fails, else the links of all commits by their numbers
abbrev pub ComparesTo : Folds → Option (Keyed LinkRow) → Type 0
ComparesTo f None = ComparesAt f areas.Links → ⊥
ComparesTo f (Some every) = ComparesAt f areas.Links × IsEvery f.rows.commits every
