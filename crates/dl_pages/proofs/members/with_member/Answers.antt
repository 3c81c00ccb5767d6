use Rattle.std.proofs.Common.{sym, ◌∙◌}
use Rattle.std.proofs.lemmas.Result.{IfOk-weaker}
use Rattle.dl_pages.proofs.Sets.{falls, is_there, is_more}
use Rattle.dl_pages.proofs.members.with_member.Goals as goal

pub returns-then-stands : goal.returns-then-stands
returns-then-stands g c s =
    let R = g.T.Ordered.order in
    let o = g.met.T.Ordered.total in
    let e = sym c.stands.ensures ∙ c.if-stands.true in
    IfOk-weaker c.share.result _ _ (λ made is. is_there R o c.args.item c.args.items.now made c.partition_point-place.result e s is) c.share.ensures

pub returns : goal.returns
returns g c s =
    let R = g.T.Ordered.order in
    let o = g.met.T.Ordered.total in
    let e = sym c.stands.ensures ∙ c.if-stands.false in
    let p = c.partition_point-place.ensures.point (falls R o c.args.item c.args.items.now s) in
    IfOk-weaker c.inserted.result _ _ (λ made is. is_more R o c.args.item c.args.items.now made c.partition_point-place.result e p s is) c.inserted.ensures
