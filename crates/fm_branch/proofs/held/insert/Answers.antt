use Rattle.std.proofs.Common.{ℕ, List, None, ap, ◌∙◌}
use Rattle.std.specs.Cmp.Lexicographic.{nat_list_cmp_total}
use Rattle.std.specs.FinMap as maps
use Rattle.fm_branch.proofs.HeldLaws.{only_same}
use Rattle.fm_branch.proofs.Maps.{of-put}
use Rattle.fm_branch.proofs.held.insert.Goals as goal

pub returns-clause-ok : goal.returns-clause-ok
returns-clause-ok c =
    of-put nat_list_cmp_total only_same c.args.places.now.entries c.insert.new.self.entries c.in_ok-path.path None c.in_ok-insert.ensures.updates.0
    ∙ ap (λ (p : List ℕ). maps.insert (maps.from_entries c.args.places.now.entries) p None) c.in_ok-path.ensures
