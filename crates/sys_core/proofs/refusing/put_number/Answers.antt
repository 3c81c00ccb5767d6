use Rattle.std.proofs.Common.{List, ℕ, Some, cond, ap, ◌∙◌}
use Rattle.std.specs.BTreeMap.{is_at}
use Rattle.std.specs.Cmp.Lexicographic.{slice_cmp}
use Rattle.std.specs.Ordering.{nat_cmp}
use Rattle.sys_core.specs.Claiming.{number_on}
use Rattle.sys_core.proofs.refusing.put_number.Goals as goal

pub returns : goal.returns
returns c = λ path.
    c.in_ok-insert.ensures.updates.0 path
    ∙ ap (λ (k : List ℕ). cond (is_at (slice_cmp nat_cmp k) path) (Some c.args.link.now.link) (number_on c.args.numbers.now.entries path)) c.in_ok-path.ensures
