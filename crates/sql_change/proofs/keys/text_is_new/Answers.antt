use Rattle.std.proofs.Common.{◌==◌, ℕ, Bool, List, not, sym, ap, ◌∙◌}
use Rattle.std.specs.Cmp.Lexicographic.{pointwise}
use denote.Ref.{Bor}
use Rattle.sql_change.proofs.Reversed.{any_mapped}
use Rattle.sql_change.proofs.StoodKeys.{put}
use Rattle.sql_change.proofs.keys.text_is_new.Goals as goal

pub returns-clause-new : goal.returns-clause-new
returns-clause-new c =
    c.in_ok-insert.ensures.added ∙ ap (λ (b : Bool). not b) (sym (any_mapped (pointwise ◌==◌ c.args.text.now) (λ (t : Bor (List ℕ)). t.now) c.args.texts.now.keys))

pub returns-clause-put : goal.returns-clause-put
returns-clause-put c = λ q. put (λ (t : Bor (List ℕ)). t.now) (pointwise ◌==◌ q) c.args.text c.args.texts.now.keys c.insert.new.self.keys _ c.in_ok-insert.ensures.keys
