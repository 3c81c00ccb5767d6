use Rattle.std.proofs.Common.{List, [], Option, None, sym, ap, subst}
use Rattle.std.specs.Result.{result_err}
use Rattle.dl_areas.specs.Lists.{Write}
use Rattle.dl_areas.specs.Writing.{Does}
use Rattle.dl_base.specs.declared.step.Phase.TheVariants as phases
use Rattle.dl_codec.specs.declared.links.BranchPhase.TheVariants as branch_phases
use Rattle.fm_manager.specs.Managed.{as_writes}
use Rattle.fm_manager.specs.Pieces.{Pieces}
use Rattle.meaning_areas.specs.Finishing.{finish_records}
use Rattle.meaning_areas.specs.Stands.{kept_of}
use Rattle.meaning_system.specs.State.{kept_in, moved_of}
use Rattle.meaning_system.specs.Writes.{whole_finish}
use Rattle.sys_core.proofs.Finishing.{finish-settles, left-finishable, no-records, nothing-settled}
use Rattle.sys_core.proofs.Spelled.{finish-spelled}
use Rattle.sys_core.specs.Between.{IsBetween}
use Rattle.sys_owners.specs.Owned.{folds_in, journals_of}
use Rattle.sys_records.proofs.Spelled.{as-spelled}
use Rattle.sys_core.proofs.engine.Engine.settle.Goals as goal

pub finish-requires-clause-fits : goal.finish-requires-clause-fits
finish-requires-clause-fits g c =
    let w = c.args.self.now in
    let it = c.requires.stands in
    let b = subst (λ (o : Option Pieces). IsBetween it.0 w it.1 it.2 it.3 it.4 phases.Decided o) c.in-Some.is it.5 in
    let laws = c.pieces_as_they_are_made.ensures in
    (left-finishable c.each_step_leads_on.ensures.kept it.0 w it.1 it.2 it.3 it.4 laws.puts laws.few c.seats_count_together.ensures.taken c.in-Some.pieces b c.left-left.result c.left-left.ensures).can

pub finish-requires-clause-room : goal.finish-requires-clause-room
finish-requires-clause-room g c =
    let w = c.args.self.now in
    let it = c.requires.stands in
    let b = subst (λ (o : Option Pieces). IsBetween it.0 w it.1 it.2 it.3 it.4 phases.Decided o) c.in-Some.is it.5 in
    let laws = c.pieces_as_they_are_made.ensures in
    (left-finishable c.each_step_leads_on.ensures.kept it.0 w it.1 it.2 it.3 it.4 laws.puts laws.few c.seats_count_together.ensures.taken c.in-Some.pieces b c.left-left.result c.left-left.ensures).room

pub finish-requires-clause-end : goal.finish-requires-clause-end
finish-requires-clause-end g c =
    let w = c.args.self.now in
    let it = c.requires.stands in
    let b = subst (λ (o : Option Pieces). IsBetween it.0 w it.1 it.2 it.3 it.4 phases.Decided o) c.in-Some.is it.5 in
    let laws = c.pieces_as_they_are_made.ensures in
    (left-finishable c.each_step_leads_on.ensures.kept it.0 w it.1 it.2 it.3 it.4 laws.puts laws.few c.seats_count_together.ensures.taken c.in-Some.pieces b c.left-left.result c.left-left.ensures).end

pub returns-in-Some-clause-settled : goal.returns-in-Some-clause-settled
returns-in-Some-clause-settled g c =
    let w = c.args.self.now in
    let laws = c.pieces_as_they_are_made.ensures in
    let e = c.finish.ensures in
    finish-settles c.each_step_leads_on.ensures.kept w c.finish.new.owners c.args.pieces c.in-Some.pieces c.in-Some.is laws.puts laws.few c.seats_count_together.ensures.taken c.left-left.result c.left-left.ensures c.finish.result e.folds e.drawn e.commits e.copies

pub returns-in-Some-clause-does : goal.returns-in-Some-clause-does
returns-in-Some-clause-does g c first s session tx t was =
    let O = g.B.Bench.outside in
    let w = c.args.self.now in
    let v = c.finish.new.owners in
    let b = subst (λ (o : Option Pieces). IsBetween first w s session tx t phases.Decided o) c.in-Some.is was in
    let laws = c.pieces_as_they_are_made.ensures in
    let a = left-finishable c.each_step_leads_on.ensures.kept first w s session tx t laws.puts laws.few c.seats_count_together.ensures.taken c.in-Some.pieces b c.left-left.result c.left-left.ensures in
    subst (λ (ws : List Write). Does (journals_of w.owners) (journals_of v) ws (result_err c.finish.result) (O c.args.bench.now) (O c.finish.new.bench)) (sym (ap as_writes a.records)) (c.finish.ensures.does (moved_of t) branch_phases.Prepared a.doubtful)

pub returns-in-None-clause-settled : goal.returns-in-None-clause-settled
returns-in-None-clause-settled g c first s session tx t was =
    let w = c.args.self.now in
    nothing-settled c.each_step_leads_on.ensures.kept first w s session tx t (subst (λ (o : Option Pieces). IsBetween first w s session tx t phases.Decided o) c.in-None.is was)

pub returns-in-None-clause-does : goal.returns-in-None-clause-does
returns-in-None-clause-does g c first s session tx t was =
    let O = g.B.Bench.outside in
    let w = c.args.self.now in
    let none = no-records c.each_step_leads_on.ensures.kept first w s session tx t (subst (λ (o : Option Pieces). IsBetween first w s session tx t phases.Decided o) c.in-None.is was) in
    subst (λ (ws : List Write). Does (journals_of w.owners) (journals_of w.owners) ws None (O c.args.bench.now) (O c.args.bench.now)) (sym (ap as_writes none)) (c.calls_follow_one_another.ensures.none (journals_of w.owners) c.args.bench.now)

pub returns-in-Some-clause-spelled : goal.returns-in-Some-clause-spelled
returns-in-Some-clause-spelled g c first s session tx t was =
    let w = c.args.self.now in
    let b = subst (λ (o : Option Pieces). IsBetween first w s session tx t phases.Decided o) c.in-Some.is was in
    let laws = c.pieces_as_they_are_made.ensures in
    let left = c.left-left.result in
    let a = left-finishable c.each_step_leads_on.ensures.kept first w s session tx t laws.puts laws.few c.seats_count_together.ensures.taken c.in-Some.pieces b left c.left-left.ensures in
    as-spelled (whole_finish tx (moved_of t) (kept_in s)) (finish_records left.tx branch_phases.Prepared (moved_of t) (kept_of (folds_in w.owners))) a.records
    (finish-spelled w.owners.manager left (moved_of t) a.can a.doubtful c.are_spelled.ensures)

pub returns-in-None-clause-spelled : goal.returns-in-None-clause-spelled
returns-in-None-clause-spelled g c first s session tx t was =
    as-spelled (whole_finish tx (moved_of t) (kept_in s)) [] (no-records c.each_step_leads_on.ensures.kept first c.args.self.now s session tx t (subst (λ (o : Option Pieces). IsBetween first c.args.self.now s session tx t phases.Decided o) c.in-None.is was)) tt
