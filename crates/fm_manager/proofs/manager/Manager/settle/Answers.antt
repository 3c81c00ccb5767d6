use Rattle.std.proofs.Common.{◌∷◌, ◌++◌, []}
use Rattle.dl_codec.specs.declared.links.LinksRecord.TheVariants as records
use Rattle.meaning_areas.specs.Finishing.{batch_of}
use Rattle.meaning_areas.specs.Lists.{in_links}
use Rattle.fm_manager.proofs.Folding.{on-ok, taken-first, taken-rest, to-then}
use Rattle.fm_manager.specs.Pieces.{changes_in, copies_written}
use Rattle.fm_manager.proofs.manager.Manager.settle.Goals as goal

pub store_all-requires-clause-taken : goal.store_all-requires-clause-taken
store_all-requires-clause-taken g c =
    let now = c.args.self.now in
    taken-first now now now (copies_written c.args.copies) (batch_of c.args.tx (changes_in c.args.changes) ++ in_links (records.Done c.args.tx) ∷ []) c.requires.taken

pub end-requires-clause-taken : goal.end-requires-clause-taken
end-requires-clause-taken g c =
    taken-rest c.args.self.now c.store_all.new.self c.store_all.new.self (copies_written c.args.copies) (batch_of c.args.tx (changes_in c.args.changes) ++ in_links (records.Done c.args.tx) ∷ []) c.requires.taken c.in-Ok.ensures.folds

pub returns-in-Ok-clause-folds : goal.returns-in-Ok-clause-folds
returns-in-Ok-clause-folds g c = on-ok c.end.result c.end.ensures.folds
    (λ more. to-then c.args.self.now c.store_all.new.self c.end.new.self (copies_written c.args.copies) (batch_of c.args.tx (changes_in c.args.changes) ++ in_links (records.Done c.args.tx) ∷ []) c.in-Ok.ensures.folds more)
