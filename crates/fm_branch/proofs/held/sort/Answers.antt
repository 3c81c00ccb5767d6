use Rattle.std.proofs.Common.{◌≡◌, rules}
use Rattle.std.proofs.lemmas.Fn.{always_returns_same}
use Rattle.meaning_settling.specs.Settling.{link_key}
use Rattle.fm_branch.proofs.held.sort.Goals as goal

pub returns-clause-sorted : goal.returns-clause-sorted
returns-clause-sorted c = c.in_ok-sort_by_key.ensures.sorted (λ r. link_key r.link) (always_returns_same _ (λ a r. r ≡ link_key a.0.now.link) _ (λ a r f' k. search rules))
