use Rattle.std.proofs.Common.{◌≡◌, ℕ, ◌-◌, ◌≤◌, List, length, take, true, Some}
use Rattle.dl_base.specs.Outside.{ChangesOnly, portion}
use Rattle.dl_host.specs.Hosts.{Stays}
use Rattle.dl_host.proofs.calls.read_all.Given as goal

abbrev pub invariant-more : goal.invariant-more
invariant-more g l =
    let area = g.H.Host.area_of l.file in
    let o = g.H.Host.outside l.initial.host in
    let n = g.H.Host.outside l.host in
    record {
      within : l.done ≤ length l.into;
      long : length l.into ≡ length l.initial.into;
      filled : (c : List ℕ) → o.reads area ≡ Some c → take l.done l.into ≡ portion l.at l.done c;
      same : n.reads area ≡ o.reads area;
      crash : ChangesOnly area (o.image area) o n;
      clean : n.faults ≡ o.faults;
      locked : (g.H.Host.hold l.host).has_lock ≡ true;
      stays : Stays (g.H.Host.hold l.initial.host) (g.H.Host.hold l.host);
    }

abbrev pub decreases-more : goal.decreases-more
decreases-more g l = length l.into - l.done
