use Rattle.std.proofs.Common.{◌≤◌, ◌^◌, ℕ, IfNone, ap, ◌∙◌, subst}
use Rattle.sys_seats.proofs.Sums.{all-entries, if_some}
use Rattle.sys_seats.specs.Seats.{Seated, all_of, gives_of}
use Rattle.sys_seats.proofs.seats.Seats.gives.Goals as goal

pub returns-clause-sum : goal.returns-clause-sum
returns-clause-sum c =
    if_some c.gives_in.result c.gives_in.ensures.sum (λ n is.
    is ∙ all-entries gives_of c.self.inside.entries.entries c.gives_in.ensures.ordered ∙ ap (λ (m : Seated). all_of gives_of m) c.self.view_is)

pub returns-clause-past : goal.returns-clause-past
returns-clause-past c =
    subst (λ (n : ℕ). IfNone c.gives_in.result (2 ^ 64 ≤ n))
    (all-entries gives_of c.self.inside.entries.entries c.gives_in.ensures.ordered ∙ ap (λ (m : Seated). all_of gives_of m) c.self.view_is)
    c.gives_in.ensures.past
