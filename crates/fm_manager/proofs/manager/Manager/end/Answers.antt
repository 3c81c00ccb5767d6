use Rattle.std.proofs.Common.{◌∷◌, []}
use Rattle.dl_codec.specs.declared.links.LinksRecord.TheVariants as records
use Rattle.meaning_areas.specs.Finishing.{batch_of}
use Rattle.meaning_areas.specs.Lists.{in_links}
use Rattle.fm_manager.proofs.Folding.{on-ok, taken-first, taken-rest, to-then}
use Rattle.fm_manager.specs.Pieces.{changes_in}
use Rattle.fm_manager.proofs.manager.Manager.end.Goals as goal

pub change-requires-clause-taken : goal.change-requires-clause-taken
change-requires-clause-taken g c =
    let now = c.args.self.now in
    taken-first now now now (batch_of c.args.tx (changes_in c.args.changes)) (in_links (records.Done c.args.tx) ∷ []) c.requires.taken

pub done-requires-clause-taken : goal.done-requires-clause-taken
done-requires-clause-taken g c =
    taken-rest c.args.self.now c.change.new.self c.change.new.self (batch_of c.args.tx (changes_in c.args.changes)) (in_links (records.Done c.args.tx) ∷ []) c.requires.taken c.in-Ok.ensures.folds

pub returns-in-Ok-clause-folds : goal.returns-in-Ok-clause-folds
returns-in-Ok-clause-folds g c = on-ok c.done.result c.done.ensures.folds
    (λ more. to-then c.args.self.now c.change.new.self c.done.new.self (batch_of c.args.tx (changes_in c.args.changes)) (in_links (records.Done c.args.tx) ∷ []) c.in-Ok.ensures.folds more)
