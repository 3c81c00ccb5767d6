use Rattle.std.proofs.Common.{refl, sym, ◌∙◌}
use Rattle.std.proofs.lemmas.Result.{IfOk-weaker}
use Rattle.dl_pages.proofs.Sets.{falls, is_less, is_gone}
use Rattle.dl_pages.proofs.members.remove_with_member.Goals as goal

pub returns-then-stands-clause-set : goal.returns-then-stands-clause-set
returns-then-stands-clause-set g c s =
    let R = g.T.Ordered.order in
    let o = g.met.T.Ordered.total in
    let e = sym c.stands.ensures ∙ c.if-stands.true in
    IfOk-weaker c.remove_both.result _ _ (λ done is. is_less R o c.args.member.now c.args.set.now c.remove_both.new.others c.partition_point-place.result e s is.1) c.remove_both.ensures.ok

pub returns-clause-set : goal.returns-clause-set
returns-clause-set g c s =
    let R = g.T.Ordered.order in
    let o = g.met.T.Ordered.total in
    let e = sym c.stands.ensures ∙ c.if-stands.false in
    let p = c.partition_point-place.ensures.point (falls R o c.args.member.now c.args.set.now s) in
    IfOk-weaker c.remove.result _ _ (λ done is. is_gone R o c.args.member.now c.args.set.now c.args.set.now c.partition_point-place.result e p s refl) c.remove.ensures.ok
