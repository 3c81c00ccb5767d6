use Rattle.std.proofs.Common.{◌==◌, ◌&&◌, List, not, sym, ap, ◌∙◌, arith}
use Rattle.std.specs.Vec.Iter.{into_iter_items}
use Rattle.dl_pages.specs.Entries.{entry_order}
use Rattle.dl_pages.specs.Sets.{has}
use Rattle.sql_table.specs.Marks.{among}
use Rattle.sql_table.proofs.Marking.{unmarks-step}
use Rattle.std.proofs.lemmas.Grind.{common_steps}
use Rattle.sql_table.proofs.index.without_marks.Goals as goal

pub loop-mark-preserved : goal.loop-mark-preserved
loop-mark-preserved g c =
    let R = g.K.Ordered.order in
    let made = c.loop-mark.made in
    let member = c.in_ok-made-2.ensures c.loop-mark.invariant.sorted in
    record {
      sorted = member.sorted;
      each = λ k n.
          unmarks-step R c.args.number c.in-Some.mark (into_iter_items c.next.new.self) made c.in_ok-made-2.made member k n
          ∙ ap (λ (ms : List g.row.K.Denot). not ((c.args.number == n) && among R k ms) && has (entry_order R) made (k, n)) (sym c.in-Some.ensures.steps.0) ∙ c.loop-mark.invariant.each k n;
    }

pub loop-mark-init : goal.loop-mark-init
loop-mark-init g c = grind (arith, common_steps)

pub returns : goal.returns
returns g c = grind (arith, common_steps)
