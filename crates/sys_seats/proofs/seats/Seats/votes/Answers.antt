use Rattle.std.proofs.Common.{◌≤◌, ◌^◌, ℕ, IfNone, ap, ◌∙◌, subst}
use Rattle.sys_seats.proofs.Sums.{all-entries, if_some}
use Rattle.sys_seats.specs.Seats.{Seated, all_of, votes_of}
use Rattle.sys_seats.proofs.seats.Seats.votes.Goals as goal

pub returns-clause-sum : goal.returns-clause-sum
returns-clause-sum c =
    if_some c.votes_in.result c.votes_in.ensures.sum (λ n is.
    is ∙ all-entries votes_of c.self.inside.entries.entries c.votes_in.ensures.ordered ∙ ap (λ (m : Seated). all_of votes_of m) c.self.view_is)

pub returns-clause-past : goal.returns-clause-past
returns-clause-past c =
    subst (λ (n : ℕ). IfNone c.votes_in.result (2 ^ 64 ≤ n))
    (all-entries votes_of c.self.inside.entries.entries c.votes_in.ensures.ordered ∙ ap (λ (m : Seated). all_of votes_of m) c.self.view_is)
    c.votes_in.ensures.past
