use Rattle.std.proofs.Common.{◌≡◌, ap, ◌∙◌, is_some, rules}
use Rattle.std.specs.FinMap as maps
use Rattle.std.specs.Map.{lookup}
use Rattle.fm_archive.specs.Copies.{Shelf, code, copies_in, same}
use Rattle.fm_archive.specs.declared.copies.Key.{Key}
use Rattle.fm_archive.proofs.Entries.{some-there}
use Rattle.meaning_settling.specs.Settling.{link_key}
use Rattle.fm_archive.proofs.copies.CopyTable.has.Goals as goal

pub returns : goal.returns
returns c =
    let there : c.contains_key.result ≡ is_some (lookup (same c.key_of.result) c.self.inside.entries.entries) = search rules in
    there ∙ some-there c.self.inside.entries.entries c.key_of.result
    ∙ ap (λ (k : Key). is_some (maps.get (copies_in c.self.inside.entries.entries) (code k))) c.key_of.ensures
    ∙ ap (λ (s : Shelf). is_some (maps.get s.copies (link_key c.args.link))) c.self.view_is
