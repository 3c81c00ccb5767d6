use Rattle.std.proofs.Common.{None, sym, ◌∙◌}
use Rattle.std.specs.Cmp.Lexicographic.{nat_list_cmp_total, slice_cmp}
use Rattle.std.specs.FinMap as maps
use Rattle.std.specs.Ordering.{nat_cmp}
use Rattle.fm_branch.proofs.Maps.{get-of}
use Rattle.compare_links.proofs.Holding.{was-by, was-none}
use Rattle.compare_every.proofs.Maps.{changed}
use Rattle.compare_links.proofs.held.take_out.Goals as goal

pub returns-in-Some-clause-was : goal.returns-in-Some-clause-was
returns-in-Some-clause-was c =
    was-by (maps.get (maps.from_entries {R = slice_cmp nat_cmp} c.args.held.now.entries) c.args.link.now.path) c.in-Some.row c.args.link.now c.same.result
    (get-of nat_list_cmp_total c.args.held.now.entries c.args.link.now.path ∙ sym c.remove.ensures.value ∙ c.in-Some.is) c.same.ensures

pub returns-in-Some-clause-left : goal.returns-in-Some-clause-left
returns-in-Some-clause-left c = changed c.args.held.now.entries c.remove.new.self.entries c.args.link.now.path None c.remove.ensures.updates.0

pub returns-in-None-clause-was : goal.returns-in-None-clause-was
returns-in-None-clause-was c =
    was-none (maps.get (maps.from_entries {R = slice_cmp nat_cmp} c.args.held.now.entries) c.args.link.now.path) c.args.link.now
    (get-of nat_list_cmp_total c.args.held.now.entries c.args.link.now.path ∙ sym c.remove.ensures.value ∙ c.in-None.is)

pub returns-in-None-clause-left : goal.returns-in-None-clause-left
returns-in-None-clause-left c = changed c.args.held.now.entries c.remove.new.self.entries c.args.link.now.path None c.remove.ensures.updates.0
