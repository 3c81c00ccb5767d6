use Rattle.std.proofs.Common.{List, Some, ap, cond, nat_eq, sym, ◌∙◌, ℕ}
use Rattle.std.specs.Cmp.Lexicographic.{pointwise}
use Rattle.compare_files.specs.Effects.{entry}
use Rattle.compare_files.proofs.Putting.{put-new, put-there}
use Rattle.compare_files.proofs.effects.put_effect.Goals as goal

pub returns-then-contains_key : goal.returns-then-contains_key
returns-then-contains_key c = put-there c.args.path.now c.args.effect c.args.effects.now.entries (sym c.contains_key.ensures ∙ c.if-contains_key.true)

pub returns : goal.returns
returns c =
    put-new c.args.path.now c.args.effect c.args.effects.now.entries c.insert.new.self.entries (sym c.contains_key.ensures ∙ c.if-contains_key.false)
    (λ q. c.in_ok-insert.ensures.updates.0 q ∙ ap (λ (k : List ℕ). cond (pointwise nat_eq k q) (Some c.args.effect) (entry c.args.effects.now.entries q)) c.in_ok-path.ensures)
