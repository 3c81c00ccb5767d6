use Rattle.std.proofs.Common.{◌≡◌, ℕ, List, length, Option, OnOk, sym, ◌∙◌, ap, subst}
use Rattle.dl_base.specs.declared.area.Area.{Area}
use Rattle.dl_base.specs.Outside.{ChangesOnly, Torn, overwritten}
use Rattle.dl_host.proofs.Idle.{torn_behind}
use Rattle.dl_host.proofs.folder.FolderBench.write_to.Goals as goal

pub write_all-requires-clause-begins : goal.write_all-requires-clause-begins
write_all-requires-clause-begins g c =
    let area : Area = c.args.area in
    let o = g.H.Host.outside c.args.self.now.host in
    let m = g.H.Host.outside c.open.new.self.host in
    let slot = sym c.at.ensures ∙ c.in-Some.is in
    let here : g.H.Host.area_of c.in-Some.file ≡ area = c.open.new.self.held.here area c.in-Some.file slot in
    λ x is. c.requires.begins x (sym (ap (λ (a : Area). m.reads a) here ∙ c.open.ensures.same) ∙ is)

pub returns-in-Some-clause-written : goal.returns-in-Some-clause-written
returns-in-Some-clause-written g c =
    let area : Area = c.args.area in
    let o = g.H.Host.outside c.args.self.now.host in
    let m = g.H.Host.outside c.open.new.self.host in
    let slot = sym c.at.ensures ∙ c.in-Some.is in
    let here : g.H.Host.area_of c.in-Some.file ≡ area = c.open.new.self.held.here area c.in-Some.file slot in
    let n = g.H.Host.outside c.write_all.new.host in
    subst (λ (x : Option (List ℕ)). OnOk c.write_all.result (n.reads area ≡ overwritten c.args.at c.args.bytes.now x)) c.open.ensures.same (subst (λ (a : Area). OnOk c.write_all.result (n.reads a ≡ overwritten c.args.at c.args.bytes.now (m.reads a))) here c.write_all.ensures.written)

pub returns-in-Some-clause-crash : goal.returns-in-Some-clause-crash
returns-in-Some-clause-crash g c =
    let area : Area = c.args.area in
    let o = g.H.Host.outside c.args.self.now.host in
    let m = g.H.Host.outside c.open.new.self.host in
    let slot = sym c.at.ensures ∙ c.in-Some.is in
    let here : g.H.Host.area_of c.in-Some.file ≡ area = c.open.new.self.held.here area c.in-Some.file slot in
    let n = g.H.Host.outside c.write_all.new.host in
    torn_behind area c.args.at (length c.args.bytes.now) o m n c.open.ensures.crash (subst (λ (a : Area). ChangesOnly a (Torn c.args.at (length c.args.bytes.now) (m.image a)) m n) here c.write_all.ensures.crash)
