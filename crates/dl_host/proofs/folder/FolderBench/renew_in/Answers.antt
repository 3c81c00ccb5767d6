use Rattle.std.proofs.Common.{◌≡◌, sym, ◌∙◌, ap, subst}
use Rattle.dl_base.specs.declared.area.Area.{Area}
use Rattle.dl_base.specs.Outside.{ChangesOnly}
use Rattle.dl_host.proofs.Loops.{touches_still}
use Rattle.dl_host.proofs.folder.FolderBench.renew_in.Goals as goal

pub renewed-requires-clause-read : goal.renewed-requires-clause-read
renewed-requires-clause-read g c =
    let area : Area = c.args.area in
    let m = g.H.Host.outside c.open.new.self.host in
    let slot = sym c.at.ensures ∙ c.in-Some.is in
    let here : g.H.Host.area_of c.in-Some.file ≡ area = c.open.new.self.held.here area c.in-Some.file slot in
    λ x is. c.requires x (sym (ap (λ (a : Area). m.reads a) here ∙ c.open.ensures.same) ∙ is)

pub returns-in-Some-clause-crash : goal.returns-in-Some-clause-crash
returns-in-Some-clause-crash g c =
    let area : Area = c.args.area in
    let o = g.H.Host.outside c.args.self.now.host in
    let m = g.H.Host.outside c.open.new.self.host in
    let slot = sym c.at.ensures ∙ c.in-Some.is in
    let here : g.H.Host.area_of c.in-Some.file ≡ area = c.open.new.self.held.here area c.in-Some.file slot in
    let n = g.H.Host.outside c.renewed.new.host in
    touches_still area (o.image area) o m n c.open.ensures.crash (subst (λ (a : Area). ChangesOnly a (m.image a) m n) here c.renewed.ensures.crash)
