use Rattle.sys_core.proofs.Restored.{Laws, may-write, put-spelled, put-steps}
use Rattle.sys_core.proofs.engine.Engine.put_back.Goals as goal

pub write_restore-requires-clause-can : goal.write_restore-requires-clause-can
write_restore-requires-clause-can g c =
    let n = c.requires.stands in
    let laws : Laws = record { leads = c.each_step_leads_on.ensures.kept; claims = c.claims_behind_other_steps.ensures.restore; pieces = c.pieces_stay_what_they_are.ensures; owed = c.restores_go_on_with_the_history.ensures } in
    may-write laws n.0 c.args.self.now n.1 n.2 n.3 c.args.made n.4

pub returns-clause-steps : goal.returns-clause-steps
returns-clause-steps g c first s t p all =
    let O = g.B.Bench.outside in
    let e = c.write_restore.ensures in
    let laws : Laws = record { leads = c.each_step_leads_on.ensures.kept; claims = c.claims_behind_other_steps.ensures.restore; pieces = c.pieces_stay_what_they_are.ensures; owed = c.restores_go_on_with_the_history.ensures } in
    put-steps laws first c.args.self.now s t p c.args.made all c.write_restore.new.owners (O c.args.bench.now) (O c.write_restore.new.bench) c.write_restore.result e.answer e.folds e.drawn e.commits e.copies e.memory e.ends

pub returns-clause-spelled : goal.returns-clause-spelled
returns-clause-spelled g c kept first s t p all =
    let laws : Laws = record { leads = c.each_step_leads_on.ensures.kept; claims = c.claims_behind_other_steps.ensures.restore; pieces = c.pieces_stay_what_they_are.ensures; owed = c.restores_go_on_with_the_history.ensures } in
    put-spelled laws first c.args.self.now s t p all.can all.left c.args.made all.made (c.write_restore.ensures.spelled kept)
