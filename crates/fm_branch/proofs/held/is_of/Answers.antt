use Rattle.std.proofs.Common.{◌≡◌, true, sym, ◌∙◌, rules}
use Rattle.fm_branch.proofs.HeldLaws.{held-same}
use Rattle.fm_branch.proofs.held.is_of.Goals as goal

pub returns-then-same_number : goal.returns-then-same_number
returns-then-same_number c =
    let same : c.same_number.result ≡ true = search rules in
    held-same c.args.holding c.args.link.now c.same_options.result (sym c.same_number.ensures ∙ same) c.same_options.ensures
