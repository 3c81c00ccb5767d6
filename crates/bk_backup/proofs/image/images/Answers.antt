use Rattle.std.proofs.Common.{List, ◌++◌, ap, map}
use Rattle.std.specs.List.{list_all}
use Rattle.dl_codec.specs.declared.backups.TableImage.{TableImage}
use Rattle.meaning_areas.specs.Copies.{image_stands}
use Rattle.meaning_system.specs.Writes.{image_of}
use Rattle.bk_backup.proofs.image.images.Goals as goal

pub loop-i-init : goal.loop-i-init
loop-i-init c = record {
  all = ap (λ (made : List TableImage). made ++ map image_of c.args.tables.now) c.empty-made.ensures;
  stand = ap (list_all image_stands) c.empty-made.ensures;
}
