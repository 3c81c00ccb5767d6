use Rattle.std.proofs.lemmas.Bool.Decides.{same_from_decides}
use Rattle.std.specs.Cmp.Lexicographic.{pointwise, pointwise_decides}
use Rattle.meaning_areas.proofs.Equal.{row-link-decides}
use Rattle.meaning_areas.specs.Same.{same_link}
use Rattle.sys_core.proofs.claim.are_same.Goals as goal

pub returns : goal.returns
returns c = same_from_decides c.same.result (pointwise same_link c.args.some.now c.args.others.now) c.same.ensures (pointwise_decides row-link-decides c.args.some.now c.args.others.now)
