use Rattle.dl_host.proofs.Undone.{Undone}
use Rattle.dl_host.proofs.again.renewed.Given as goal

abbrev pub invariant-again : goal.invariant-again
invariant-again g l =
    let area = g.H.Host.area_of l.file in
    let o = g.H.Host.outside l.initial.host in
    Undone area (o.image area) o (g.H.Host.outside l.host) (g.H.Host.hold l.initial.host) (g.H.Host.hold l.host) l._turn (g.H.Host.interruptions l.host)
