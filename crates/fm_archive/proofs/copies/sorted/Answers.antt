use Rattle.std.proofs.Common.{ap, sym, ◌∙◌}
use Rattle.fm_archive.proofs.Listing.{codes_of, listed-turn, none-listed}
use Rattle.fm_archive.proofs.copies.sorted.Goals as goal

pub loop-key-init : goal.loop-key-init
loop-key-init c = ap codes_of c.new-made.ensures.empty ∙ sym none-listed

pub loop-key-preserved : goal.loop-key-preserved
loop-key-preserved c =
    listed-turn c.args.entries.now.entries c.loop-key.yielded c.into_iter-key-iterator.result c.loop-key.key-iterator c.next.new.self c.next.result
    (let a = c.into_iter-key-iterator.ensures.into_iter_gives in let b = c.iter-key-items.ensures.rest in cc) c.loop-key.yielded_by
    c.in-Some.key c.in-Some._copy c.in-Some.is c.next.ensures.steps c.iter-key-items.ensures.unique
    c.loop-key.made.entries c.loop-key.invariant c.insert.new.self.entries tt c.in_ok-insert.ensures.entries
