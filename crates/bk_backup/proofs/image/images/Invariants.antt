use Rattle.std.proofs.Common.{◌≡◌, ◌++◌, drop, map, true}
use Rattle.std.specs.List.{list_all}
use Rattle.meaning_system.specs.Writes.{image_of}
use Rattle.meaning_areas.specs.Copies.{image_stands}
use Rattle.bk_backup.proofs.image.images.Given as goal

-- the images so far, and those of the tables that are left, are all
abbrev pub invariant-loop-i : goal.invariant-loop-i
invariant-loop-i l = record {
  all : l.made ++ map image_of (drop l.i l.tables) ≡ map image_of l.tables;
  stand : list_all image_stands l.made ≡ true;
}
