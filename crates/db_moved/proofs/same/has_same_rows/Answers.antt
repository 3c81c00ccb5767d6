use Rattle.db_moved.proofs.Comparing.{same_touched, same_untouched}
use Rattle.db_moved.proofs.same.has_same_rows.Goals as goal

pub returns-in-Some : goal.returns-in-Some
returns-in-Some c =
    same_touched c.args.was.now c.args.now.now c.args.touched.now c.args.name.now c.in-Some.numbers.now c.has_same_at.result c.len.ensures.numbered c.len-2.ensures.numbered
    c.in-Some.ensures.value c.in-Some.ensures.rise c.requires c.has_same_at.ensures

pub returns-in-None : goal.returns-in-None
returns-in-None c =
    same_untouched c.args.was.now c.args.now.now c.args.touched.now c.args.name.now c.len.ensures.numbered c.len-2.ensures.numbered c.in-None.ensures.value c.in-None.ensures.rise c.requires
