use Rattle.std.proofs.Common.{◌≡◌, ℕ, List, length, Option, IfOk, sym, ◌∙◌, ap, subst}
use Rattle.std.specs.Option.{ForSome}
use Rattle.dl_base.specs.declared.area.Area.{Area}
use Rattle.dl_base.specs.Outside.{ChangesOnly}
use Rattle.dl_host.proofs.Loops.{touches_still}
use Rattle.dl_host.proofs.folder.FolderBench.length_of.Goals as goal

pub returns-in-Some-clause-value : goal.returns-in-Some-clause-value
returns-in-Some-clause-value g c =
    let area : Area = c.args.area in
    let o = g.H.Host.outside c.args.self.now.host in
    let m = g.H.Host.outside c.open.new.self.host in
    let slot = sym c.at.ensures ∙ c.in-Some.is in
    let here : g.H.Host.area_of c.in-Some.file ≡ area = c.open.new.self.held.here area c.in-Some.file slot in
    subst (λ (x : Option (List ℕ)). IfOk c.measured.result (λ n. ForSome x (λ bytes. n ≡ length bytes))) (ap (λ (a : Area). m.reads a) here ∙ c.open.ensures.same) c.measured.ensures.value

pub returns-in-Some-clause-crash : goal.returns-in-Some-clause-crash
returns-in-Some-clause-crash g c =
    let area : Area = c.args.area in
    let o = g.H.Host.outside c.args.self.now.host in
    let m = g.H.Host.outside c.open.new.self.host in
    let slot = sym c.at.ensures ∙ c.in-Some.is in
    let here : g.H.Host.area_of c.in-Some.file ≡ area = c.open.new.self.held.here area c.in-Some.file slot in
    let n = g.H.Host.outside c.measured.new.host in
    touches_still area (o.image area) o m n c.open.ensures.crash (subst (λ (a : Area). ChangesOnly a (m.image a) m n) here c.measured.ensures.crash)
