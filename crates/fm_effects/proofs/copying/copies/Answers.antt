use Rattle.std.proofs.Common.{◌≤◌, List, Option, arith, length, map, sym, ap, ◌∙◌}
use Rattle.std.specs.FinMap as maps
use Rattle.std.specs.List.{filter_map}
use Rattle.dl_base.specs.declared.value.LinkRow.{LinkRow}
use Rattle.dl_codec.specs.declared.archive.ArchiveRecord.TheVariants as records
use Rattle.dl_codec.specs.declared.archive.FileCopy.{FileCopy}
use Rattle.fm_effects.proofs.CopyLaws.{written}
use Rattle.fm_effects.proofs.Listing.{listed-end}
use Rattle.fm_effects.specs.Copying.{copy_for}
use Rattle.meaning_areas.specs.Finishing.{copy_by}
use Rattle.meaning_areas.specs.Lists.{in_archive}
use Rattle.meaning_settling.specs.Settling.{link_key}
use Rattle.fm_effects.proofs.copying.copies.Goals as goal

pub returns : goal.returns
returns c m k gives files copies =
    let rows = c.args.gives.now in
    let copy : LinkRow → Option FileCopy = λ g. copy_for g (maps.get c.args.archive.now.copies (link_key g.link)) (maps.get c.args.files.now.files g.path) in
    let past : length rows ≤ c.loop-row.row-index = omega (arith, c.loop-row-test.false, ap length c.as_slice-row-items.ensures) in
    ap (λ (cs : List FileCopy). map (λ x. in_archive (records.Copy x)) cs) (listed-end copy c.loop-row.made (filter_map copy rows) rows c.loop-row.row-index past c.loop-row.invariant)
    ∙ written c.args.archive.now.copies c.args.files.now.files rows
    ∙ (λ i. filter_map (λ g. copy_by g (maps.get (sym copies i) (link_key g.link)) (maps.get (sym files i) g.path)) (sym gives i))
