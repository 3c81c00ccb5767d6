-- The copies that links given need are those of a Finish.
use Rattle.std.proofs.Common.{◌≡◌, Bool, true, false, cond, List, [], ◌∷◌, map, Option, Some, None, refl, ap}
use Rattle.std.specs.FinMap as maps
use Rattle.std.specs.List.{cons_option, filter_map}
use Rattle.dl_base.specs.declared.file.File.{File}
use Rattle.dl_base.specs.declared.value.LinkRow.{LinkRow}
use Rattle.dl_codec.specs.declared.archive.ArchiveRecord.TheVariants as records
use Rattle.dl_codec.specs.declared.archive.FileCopy.{FileCopy}
use Rattle.fm_effects.specs.Copying.{copy_for}
use Rattle.meaning_areas.specs.Finishing.{copy_by, file_copy}
use Rattle.meaning_areas.specs.Lists.{Written, in_archive}
use Rattle.meaning_files.specs.Files.{Files}
use Rattle.meaning_settling.specs.Settling.{Copies, Copy, link_key}

pub written : (copies : Copies) (files : Files) (gives : List LinkRow)
    → map (λ c. in_archive (records.Copy c)) (filter_map (λ g. copy_for g (maps.get copies (link_key g.link)) (maps.get files g.path)) gives)
    ≡ filter_map (λ g. copy_by g (maps.get copies (link_key g.link)) (maps.get files g.path)) gives
written copies files [] = refl
written copies files (g ∷ gs) = by (maps.get copies (link_key g.link)) (maps.get files g.path) (written copies files gs)
  where
    rest : List FileCopy
    rest = filter_map (λ g. copy_for g (maps.get copies (link_key g.link)) (maps.get files g.path)) gs

    by : (c : Option Copy) (f : Option File) → map (λ c. in_archive (records.Copy c)) rest ≡ filter_map (λ g. copy_by g (maps.get copies (link_key g.link)) (maps.get files g.path)) gs
        → map (λ c. in_archive (records.Copy c)) (cons_option (copy_for g c f) rest) ≡ cons_option (copy_by g c f) (filter_map (λ g. copy_by g (maps.get copies (link_key g.link)) (maps.get files g.path)) gs)
    by (Some c) f e = e
    by None None e = e
    by None (Some f) e = kept g.options.recovery
      where
        kept : (b : Bool) → map (λ c. in_archive (records.Copy c)) (cons_option (cond b (Some (file_copy g f)) None) rest)
            ≡ cons_option (cond b (Some (in_archive (records.Copy (file_copy g f)))) None) (filter_map (λ g. copy_by g (maps.get copies (link_key g.link)) (maps.get files g.path)) gs)
        kept true = ap (λ (l : List Written). in_archive (records.Copy (file_copy g f)) ∷ l) e
        kept false = e
