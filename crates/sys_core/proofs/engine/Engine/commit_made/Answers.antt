use Rattle.std.proofs.Common.{◌+◌, ◌≤◌, [], length, subst, sym}
use Rattle.db_changes.specs.Made.{Making}
use Rattle.dl_base.specs.declared.area.Area.TheVariants.{Rows}
use Rattle.meaning_areas.specs.Commits.{tables_after}
use Rattle.sys_core.proofs.Deciding.{commit-done, commit-fault, commit-taken, room-for}
use Rattle.sys_core.proofs.Spelled.{commit-spelled}
use Rattle.sys_seats.specs.Seats.{all_of, votes_of}
use Rattle.sys_core.proofs.engine.Engine.commit_made.Goals as goal

pub commit-requires-clause-ready : goal.commit-requires-clause-ready
commit-requires-clause-ready g c = c.requires.ready.gates Rows

pub commit-requires-clause-room : goal.commit-requires-clause-room
commit-requires-clause-room g c =
    let w = c.args.self.now in
    subst (λ (m : Making). m.rooms ≤ w.owners.store.spare) (sym c.requires.stands.6) (room-for (all_of votes_of w.seats) 1 w.owners.store.spare c.requires.stands.4.commits)

pub commit-requires-clause-taken : goal.commit-requires-clause-taken
commit-requires-clause-taken g c =
    let it = c.requires.stands in
    commit-taken c.each_step_leads_on.ensures.kept it.0 c.args.self.now it.1 it.2 c.args.tx it.3 c.args.pieces it.4 (λ r tx t. c.handles_lead_to_merged_tables.ensures.distinct (tables_after [] r.commits) t.base t.copy (length r.commits + 1)) c.each_step_leads_on.ensures.merged it.5 c.args.made it.6

pub returns-in-Ok : goal.returns-in-Ok
returns-in-Ok g c = record {
  steps = λ first s session t b to own.
      let O = g.B.Bench.outside in
      let w = c.args.self.now in
      let e = c.in-Ok.ensures in
      commit-done c.each_step_leads_on.ensures.kept first w s session c.args.tx t c.args.pieces b (λ r tx t. c.handles_lead_to_merged_tables.ensures.distinct (tables_after [] r.commits) t.base t.copy (length r.commits + 1)) c.each_step_leads_on.ensures.merged to c.args.made own
      c.claims_behind_steps_of_a_session.ensures.decide c.seats_count_together.ensures.put c.commit.new.self c.change_stage.new.self c.in-Ok.number (O c.args.bench.now) (O c.commit.new.bench) c.requires.ready e.value e.rows e.same.0 (subst (λ (m : Making). w.owners.store.spare ≤ c.commit.new.self.spare + m.rooms) own e.spare) c.change_stage.ensures.seats e.does;
  spelled = λ first s session t b to own. commit-spelled first c.args.self.now s session c.args.tx t c.args.pieces b to c.args.made own c.in-Ok.ensures.spelled;
}

pub returns-in-Err : goal.returns-in-Err
returns-in-Err g c = record {
  steps = λ first s session t b to own.
      let O = g.B.Bench.outside in
      let w = c.args.self.now in
      commit-fault c.each_step_leads_on.ensures.kept first w s session c.args.tx t c.args.pieces b (λ r tx t. c.handles_lead_to_merged_tables.ensures.distinct (tables_after [] r.commits) t.base t.copy (length r.commits + 1)) c.each_step_leads_on.ensures.merged to c.args.made own
      c.commit.new.self c.in-Err.fault (O c.args.bench.now) (O c.commit.new.bench) c.requires.ready c.in-Err.ensures.does;
  spelled = λ first s session t b to own. commit-spelled first c.args.self.now s session c.args.tx t c.args.pieces b to c.args.made own c.in-Err.ensures.spelled;
}
