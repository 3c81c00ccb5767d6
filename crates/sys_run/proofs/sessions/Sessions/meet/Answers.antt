use Rattle.std.proofs.Common.{◌≡◌, ◌<◌, ◌||◌, ℕ, List, length, Option, Some, refl, sym, ap, ◌∙◌, subst, arith}
use Rattle.dl_base.specs.Limits.{most_actors}
use Rattle.meaning_run.specs.Running.{met}
use Rattle.meaning_script.specs.Actors.{actor_of, is_extra, with_actor}
use Rattle.sys_run.proofs.Lines.{not-false}
use Rattle.sys_run.proofs.Meeting.{met-more, met-same, no-mark, room-for-one, session-named}
use Rattle.sys_run.specs.Running.{AreOf}
use Rattle.sys_run.specs.Sessions.{is_seated}
use Rattle.std.proofs.lemmas.Grind.{common_steps}
use Rattle.sys_run.proofs.sessions.Sessions.meet.Goals as goal

pub seat-requires : goal.seat-requires
seat-requires c =
    let e : actor_of c.args.line.now ≡ Some c.in-Some.name.now = sym c.in-Some.ensures in
    let seated = sym (c.is_seated-seated.ensures ∙ ap (is_seated c.args.self.now.actors) c.actor_of.ensures) ∙ c.if-not-seated.true in
    let extra = not-false (is_extra c.args.self.now.actors (actor_of c.args.line.now)) (sym c.if-not-branch.false ∙ c.in_ok-meet.ensures.counted) in
    let unseated = ap (is_seated c.args.self.now.actors) (sym e) ∙ seated in
    record {
      name = session-named c.args.line.now c.in-Some.name.now e (no-mark c.args.self.now.actors c.in-Some.name.now unseated);
      few = subst (λ (l : List (List ℕ)). length l < most_actors) (sym c.requires.names) (room-for-one c.args.self.now.actors c.in-Some.name.now unseated (ap (is_extra c.args.self.now.actors) (sym e) ∙ extra));
    }

pub returns-in_ok-seat-in-Some-clause-met : goal.returns-in_ok-seat-in-Some-clause-met
returns-in_ok-seat-in-Some-clause-met c r of =
    let v = c.args.self.now in
    let name = c.in-Some.name.now in
    let e : actor_of c.args.line.now ≡ Some name = sym c.in-Some.ensures in
    let seated = sym (c.is_seated-seated.ensures ∙ ap (is_seated v.actors) c.actor_of.ensures) ∙ c.if-not-seated.true in
    let extra = not-false (is_extra v.actors (actor_of c.args.line.now)) (sym c.if-not-branch.false ∙ c.in_ok-meet.ensures.counted) in
    subst (λ (o : Option (List ℕ)). AreOf (met r o) c.seat.new.self) (sym e)
    (met-more r name v c.seat.new.self of (ap (is_seated v.actors) (sym e) ∙ seated) (ap (is_extra v.actors) (sym e) ∙ extra)
    c.in_ok-seat-in-Some.ensures.txns c.in_ok-seat-in-Some.ensures.names (c.seat.ensures.actors ∙ c.in_ok-meet.ensures.known ∙ ap (λ (o : Option (List ℕ)). with_actor v.actors o) e) c.seat.ensures.grids)

pub returns-else-not-seated-clause-met : goal.returns-else-not-seated-clause-met
returns-else-not-seated-clause-met c r of =
    let v = c.args.self.now in
    let seated = sym (c.is_seated-seated.ensures ∙ ap (is_seated v.actors) c.actor_of.ensures) ∙ c.if-not-seated.false in
    met-same r (actor_of c.args.line.now) v (record v { actors = c.meet.new.self }) of (ap (λ b. b || is_extra v.actors (actor_of c.args.line.now)) seated) refl refl c.in_ok-meet.ensures.known refl

pub returns-in_ok-seat-in-Some-clause-counted : goal.returns-in_ok-seat-in-Some-clause-counted
returns-in_ok-seat-in-Some-clause-counted c = grind (arith, common_steps)

pub returns-else-not-seated-clause-counted : goal.returns-else-not-seated-clause-counted
returns-else-not-seated-clause-counted c = grind (arith, common_steps)
