use Rattle.std.proofs.Common.{◌∙◌, List, ℕ}
use Rattle.dl_host.proofs.Loops.{said_rest, told_rest, within_rest, stays_then}
use Rattle.dl_host.proofs.calls.tell_all.Goals as goal

pub returns-in-Err-clause-crash : goal.returns-in-Err-clause-crash
returns-in-Err-clause-crash g c =
    said_rest c.args.bytes.now c.more.done (g.H.Host.outside c.args.host.now) (g.H.Host.outside c.more.host) (g.H.Host.outside c.tell_some.new.host) c.more.invariant.told c.more.invariant.crash c.tell_some.ensures.crash

pub more-preserved : goal.more-preserved
more-preserved g c =
    let o = g.H.Host.outside c.args.host.now in
    let m = g.H.Host.outside c.more.host in
    let n = g.H.Host.outside c.tell_some.new.host in
    let bytes : List ℕ = c.args.bytes.now in
    record {
      within = within_rest c.more.done c.in-Ok.count bytes c.more.invariant.within c.in-Ok.ensures.count.1;
      told = told_rest bytes c.more.done c.in-Ok.count o.told m.told n.told c.more.invariant.told c.in-Ok.ensures.told;
      crash = said_rest bytes c.more.done o m n c.more.invariant.told c.more.invariant.crash c.tell_some.ensures.crash;
      clean = c.in-Ok.ensures.clean ∙ c.more.invariant.clean;
      locked = c.tell_some.ensures.stays.lock c.more.invariant.locked;
      stays = stays_then _ _ _ c.more.invariant.stays c.tell_some.ensures.stays;
    }
