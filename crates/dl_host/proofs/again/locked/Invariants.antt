use Rattle.std.proofs.Common.{◌≡◌, [], false}
use Rattle.dl_host.proofs.Undone.{Untold}
use Rattle.dl_host.proofs.again.locked.Given as goal

abbrev pub invariant-again : goal.invariant-again
invariant-again g l = record {
  unlocked : (g.H.Host.hold l.host).has_lock ≡ false;
  untold : Untold [] (g.H.Host.outside l.initial.host) (g.H.Host.outside l.host) (g.H.Host.hold l.initial.host) (g.H.Host.hold l.host) l._turn (g.H.Host.interruptions l.host);
}
