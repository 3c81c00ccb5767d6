use Rattle.std.proofs.Common.{refl, sym, ◌∙◌}
use Rattle.fs_files.proofs.Listing.{listed-turn, none-listed}
use Rattle.fs_files.proofs.table.sorted.Goals as goal

pub loop-path-init : goal.loop-path-init
loop-path-init c = c.new-made.ensures.empty ∙ sym none-listed

pub loop-path-preserved : goal.loop-path-preserved
loop-path-preserved c =
    listed-turn c.args.entries.now.entries c.loop-path.yielded c.into_iter-path-iterator.result c.loop-path.path-iterator c.next.new.self c.next.result
    (let a = c.into_iter-path-iterator.ensures.into_iter_gives in let b = c.iter-path-items.ensures.rest in cc) c.loop-path.yielded_by
    c.in-Some.path c.in-Some.file c.in-Some.is c.next.ensures.steps c.iter-path-items.ensures.unique
    c.loop-path.made.entries c.loop-path.invariant c.in-Some.path.now c.in-Some.file.now refl refl
    c.put_copy.new.made.entries c.in_ok-put_copy.ensures
