use Rattle.std.specs.BTreeMap.{get}
use Rattle.std.specs.Cmp.Lexicographic.{slice_cmp}
use Rattle.std.specs.Ordering.{nat_cmp}
use Rattle.compare_links.proofs.Agreeing.{touched-none, touched-some}
use Rattle.compare_links.proofs.agree.touched_agree.Goals as goal

pub returns-in-Some : goal.returns-in-Some
returns-in-Some c =
    touched-some (get (slice_cmp nat_cmp) c.args.rows.now) c.args.table.now c.len.ensures.numbered c.args.touched.now c.args.name.now c.requires c.in-Some.numbers.now c.numbers_agree.result
    c.in-Some.ensures.value c.numbers_agree.ensures

pub returns-in-None : goal.returns-in-None
returns-in-None c =
    touched-none (get (slice_cmp nat_cmp) c.args.rows.now) c.args.table.now c.len.ensures.numbered c.args.touched.now c.args.name.now c.requires c.in-None.ensures.value
