use Rattle.std.proofs.Common.{◌≡◌, ℕ, List, Option, Some, OnOk, sym, ◌∙◌, ap, subst}
use Rattle.dl_base.specs.declared.area.Area.{Area}
use Rattle.dl_base.specs.Outside.{ChangesOnly}
use Rattle.dl_host.proofs.Loops.{touches_still}
use Rattle.dl_host.proofs.folder.FolderBench.sync_of.Goals as goal

pub synced-requires-clause-named : goal.synced-requires-clause-named
synced-requires-clause-named g c =
    let area : Area = c.args.area in
    let o = g.H.Host.outside c.args.self.now.host in
    let m = g.H.Host.outside c.open.new.self.host in
    let slot = sym c.at.ensures ∙ c.in-Some.is in
    let here : g.H.Host.area_of c.in-Some.file ≡ area = c.open.new.self.held.here area c.in-Some.file slot in
    ap (λ (a : Area). (g.H.Host.hold c.open.new.self.host).is_named a) here ∙ c.open.new.self.held.named area c.in-Some.file slot

pub returns-in-Some-clause-durable : goal.returns-in-Some-clause-durable
returns-in-Some-clause-durable g c =
    let area : Area = c.args.area in
    let o = g.H.Host.outside c.args.self.now.host in
    let m = g.H.Host.outside c.open.new.self.host in
    let slot = sym c.at.ensures ∙ c.in-Some.is in
    let here : g.H.Host.area_of c.in-Some.file ≡ area = c.open.new.self.held.here area c.in-Some.file slot in
    let n = g.H.Host.outside c.synced.new.host in
    subst (λ (x : Option (List ℕ)). OnOk c.synced.result ((c' : List ℕ) → n.image area c' → x ≡ Some c')) c.open.ensures.same (subst (λ (a : Area). OnOk c.synced.result ((c' : List ℕ) → n.image a c' → m.reads a ≡ Some c')) here c.synced.ensures.durable)

pub returns-in-Some-clause-crash : goal.returns-in-Some-clause-crash
returns-in-Some-clause-crash g c =
    let area : Area = c.args.area in
    let o = g.H.Host.outside c.args.self.now.host in
    let m = g.H.Host.outside c.open.new.self.host in
    let slot = sym c.at.ensures ∙ c.in-Some.is in
    let here : g.H.Host.area_of c.in-Some.file ≡ area = c.open.new.self.held.here area c.in-Some.file slot in
    let n = g.H.Host.outside c.synced.new.host in
    touches_still area (o.image area) o m n c.open.ensures.crash (subst (λ (a : Area). ChangesOnly a (m.image a) m n) here c.synced.ensures.crash)
