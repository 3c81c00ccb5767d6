use Rattle.std.proofs.Common.{sym, subst}
use Rattle.dl_areas.specs.Lists.{AreReady, Journals}
use Rattle.sys_core.proofs.Entering.{can-enter, no-vote, roomy-votes}
use Rattle.sys_core.proofs.Voted.{can-roomy}
use Rattle.sys_core.proofs.Voting.{copies-of, files-of, files-voted, never-none, seat-found, there-in}
use Rattle.sys_owners.specs.Owned.{journals_of}
use Rattle.sys_records.proofs.Roomy.{room-journals}
use Rattle.sys_core.proofs.engine.Engine.vote.Goals as goal

pub unreachable-requires : goal.unreachable-requires
unreachable-requires g c =
    let n = c.requires.stands in
    never-none n.0 c.args.self.now n.1 c.args.tx n.3 n.4.state (there-in n.1 n.2 c.args.tx n.3 n.4.txn) c.in_default.ensures

pub enter-requires-clause-ready : goal.enter-requires-clause-ready
enter-requires-clause-ready g c =
    subst (λ (js : Journals). AreReady js (g.B.Bench.outside c.args.bench.now)) (sym (room-journals c.args.self.now.owners c.vote_of.new.owners c.vote_of.ensures.same)) c.requires.ready

pub enter-requires-clause-stands : goal.enter-requires-clause-stands
enter-requires-clause-stands g c =
    let n = c.requires.stands in
    let w = c.args.self.now in
    let x = c.in-Some.seat.now in
    let is = seat-found n.0 w n.1 c.args.tx n.3 x n.4.state (there-in n.1 n.2 c.args.tx n.3 n.4.txn) c.in-Some.ensures in (
      n.0,
      n.1,
      n.2,
      n.3,
      can-enter n.0 n.1 n.2 c.args.tx n.3 w n.4 c.vote_of.new.owners c.vote_of.ensures.same x c.in-Ok.vote c.args.names.now c.args.made is c.in-Ok.ensures.made n.6 c.in-Ok.ensures.names n.5
          (c.in-Ok.ensures.pieces n.1 n.3 (files-of n.0 w n.1 n.4.state) (copies-of n.0 w n.1 n.4.state) is.gives is.takes (files-voted c.pieces_as_they_are_made.ensures.there n.0 w n.1 n.2 c.args.tx n.3 n.4)) c.in-Ok.ensures.commits c.in-Ok.ensures.copies,
    )

pub returns-in-Ok-clause-votes : goal.returns-in-Ok-clause-votes
returns-in-Ok-clause-votes g c first s session t can names made =
    let O = g.B.Bench.outside in
    let w = c.args.self.now in
    let x = c.in-Some.seat.now in
    let is = seat-found first w s c.args.tx t x can.state (there-in s session c.args.tx t can.txn) c.in-Some.ensures in
    roomy-votes first s session c.args.tx t w can c.vote_of.new.owners c.vote_of.ensures.same c.enter.new.self c.enter.result (O c.args.bench.now) (O c.enter.new.bench)
    (c.enter.ensures.votes first s session t (can-enter first s session c.args.tx t w can c.vote_of.new.owners c.vote_of.ensures.same x c.in-Ok.vote c.args.names.now c.args.made is c.in-Ok.ensures.made made c.in-Ok.ensures.names names
    (c.in-Ok.ensures.pieces s t (files-of first w s can.state) (copies-of first w s can.state) is.gives is.takes (files-voted c.pieces_as_they_are_made.ensures.there first w s session c.args.tx t can)) c.in-Ok.ensures.commits c.in-Ok.ensures.copies))

pub returns-in-Err-clause-votes : goal.returns-in-Err-clause-votes
returns-in-Err-clause-votes g c first s session t can names made =
    no-vote first s session c.args.tx t c.args.self.now can c.vote_of.new.owners c.vote_of.ensures.same (g.B.Bench.outside c.args.bench.now)
    (c.calls_follow_one_another.ensures.none (journals_of c.args.self.now.owners) c.args.bench.now)

pub returns-in-Ok-clause-spelled : goal.returns-in-Ok-clause-spelled
returns-in-Ok-clause-spelled g c kept first s session t can =
    c.enter.ensures.spelled kept first s session t (can-roomy first c.args.self.now s session c.args.tx t c.vote_of.new.owners c.vote_of.ensures.same can)
