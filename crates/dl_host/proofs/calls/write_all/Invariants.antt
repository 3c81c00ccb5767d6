use Rattle.std.proofs.Common.{◌≡◌, ◌-◌, ◌≤◌, length, take, true}
use Rattle.dl_base.specs.Outside.{ChangesOnly, Torn, overwritten}
use Rattle.dl_host.specs.Hosts.{Stays}
use Rattle.dl_host.proofs.calls.write_all.Given as goal

abbrev pub invariant-more : goal.invariant-more
invariant-more g l =
    let area = g.H.Host.area_of l.file in
    let o = g.H.Host.outside l.initial.host in
    let n = g.H.Host.outside l.host in
    record {
      within : l.done ≤ length l.bytes;
      written : n.reads area ≡ overwritten l.at (take l.done l.bytes) (o.reads area);
      crash : ChangesOnly area (Torn l.at (length l.bytes) (o.image area)) o n;
      clean : n.faults ≡ o.faults;
      locked : (g.H.Host.hold l.host).has_lock ≡ true;
      stays : Stays (g.H.Host.hold l.initial.host) (g.H.Host.hold l.host);
    }

abbrev pub decreases-more : goal.decreases-more
decreases-more g l = length l.bytes - l.done
