use Rattle.std.proofs.Common.{◌∙◌, List, ℕ}
use Rattle.dl_host.proofs.Loops.{touches_rest, written_rest, within_rest, stays_then}
use Rattle.dl_host.proofs.calls.write_all.Goals as goal

pub returns-in-Err-clause-crash : goal.returns-in-Err-clause-crash
returns-in-Err-clause-crash g c =
    touches_rest (g.H.Host.area_of c.args.file.now) c.args.at c.more.done c.args.bytes.now (g.H.Host.outside c.args.host.now) (g.H.Host.outside c.more.host) (g.H.Host.outside c.write_some.new.host)
    c.more.invariant.within c.more.invariant.crash c.write_some.ensures.crash

pub more-preserved : goal.more-preserved
more-preserved g c =
    let area = g.H.Host.area_of c.args.file.now in
    let o = g.H.Host.outside c.args.host.now in
    let m = g.H.Host.outside c.more.host in
    let n = g.H.Host.outside c.write_some.new.host in
    let bytes : List ℕ = c.args.bytes.now in
    record {
      within = within_rest c.more.done c.in-Ok.count bytes c.more.invariant.within c.in-Ok.ensures.count.1;
      written = written_rest c.args.at c.more.done c.in-Ok.count bytes (o.reads area) (m.reads area) (n.reads area) c.more.invariant.within c.requires.begins c.more.invariant.written c.in-Ok.ensures.written;
      crash = touches_rest area c.args.at c.more.done bytes o m n c.more.invariant.within c.more.invariant.crash c.write_some.ensures.crash;
      clean = c.in-Ok.ensures.clean ∙ c.more.invariant.clean;
      locked = c.write_some.ensures.stays.lock c.more.invariant.locked;
      stays = stays_then _ _ _ c.more.invariant.stays c.write_some.ensures.stays;
    }
