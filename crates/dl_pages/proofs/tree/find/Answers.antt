use Rattle.std.proofs.Common.{◌∷◌, ◌++◌, sym, ap, ◌∙◌, arith}
use Rattle.dl_pages.proofs.Parts.{split_at, len_step}
use Rattle.dl_pages.proofs.tree.find.Goals as goal

pub returns-then-left-len-clause-split : goal.returns-then-left-len-clause-split
returns-then-left-len-clause-split g c = split_at c.loop-i.i c.args.parts.now c.in-Some.behind.now c.in-Some.part.now (sym c.split_at.ensures.back ∙ c.in-Some.ensures.cases.0) ∙ ap (λ l. l ++ c.in-Some.part.now ∷ c.in-Some.behind.now) (sym c.split_at.ensures.front)

pub loop-i-preserved : goal.loop-i-preserved
loop-i-preserved g c = omega (arith, c.loop-i.invariant, c.if-left-len.false, c.len-len.ensures, len_step c.loop-i.i c.args.parts.now c.in-Some.behind.now c.in-Some.part.now (sym c.split_at.ensures.back ∙ c.in-Some.ensures.cases.0))
