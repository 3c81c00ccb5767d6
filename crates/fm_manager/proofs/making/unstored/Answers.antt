use Rattle.std.proofs.Common.{◌∙◌, ap, filter, is_none, rules}
use Rattle.std.proofs.lemmas.Fn.{filter_same}
use Rattle.std.specs.FinMap as maps
use Rattle.fm_archive.specs.declared.made.CopyMade.{CopyMade}
use Rattle.meaning_settling.specs.Settling.{link_key}
use Rattle.fm_manager.proofs.making.unstored.Goals as goal

pub returns : goal.returns
returns c =
    c.from_vec.ensures ∙ (filter_same _ _ _ (λ x b f' k. search rules) _ _ c.retain.ensures.filtered
    ∙ ap (filter (λ (m : CopyMade). is_none (maps.get c.args.archive.now.copies (link_key m.link)))) c.into_vec-items.ensures)
