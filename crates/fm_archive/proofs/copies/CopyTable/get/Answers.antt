use Rattle.std.proofs.Common.{ap, ◌∙◌}
use Rattle.std.specs.FinMap as maps
use Rattle.std.specs.Option.{option_map}
use Rattle.fm_archive.specs.Copies.{Shelf, code, copies_in, file_copy, link_of}
use Rattle.fm_archive.specs.declared.copies.Key.{Key}
use Rattle.fm_archive.proofs.Entries.{got}
use Rattle.meaning_settling.specs.Settling.{link_key}
use Rattle.fm_archive.proofs.copies.CopyTable.get.Goals as goal

pub returns : goal.returns
returns c =
    c.get.ensures.value ∙ got c.self.inside.entries.entries c.key_of.result c.self.invariant
    ∙ ap (λ (k : Key). option_map (file_copy (link_of k)) (maps.get (copies_in c.self.inside.entries.entries) (code k))) c.key_of.ensures
    ∙ ap (λ (s : Shelf). option_map (file_copy c.args.link) (maps.get s.copies (link_key c.args.link))) c.self.view_is
