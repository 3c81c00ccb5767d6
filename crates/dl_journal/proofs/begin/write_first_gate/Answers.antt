use Rattle.std.proofs.Common.{◌≡◌, List, ℕ, Some, sym, ◌∙◌}
use Rattle.dl_journal.specs.Open.{IsOpening}
use Rattle.dl_journal.specs.Steps.{IsShort}
use Rattle.dl_journal.proofs.Records.{records-short}
use Rattle.dl_journal.proofs.Writes.{first_gate}
use Rattle.dl_journal.proofs.Steps.{on_first_gate, opening_short, stays}
use Rattle.dl_journal.proofs.begin.write_first_gate.Goals as goal

pub returns-clause-first_gate : goal.returns-clause-first_gate
returns-clause-first_gate g c = first_gate _ _ _ _ (λ s is. c.requires.short s (sym c.sync.ensures.same ∙ is)) c.in_ok-write.ensures.written c.sync-2.ensures.durable

pub returns-in_err-write-clause-images : goal.returns-in_err-write-clause-images
returns-in_err-write-clause-images g c =
    let o = g.B.Bench.outside c.args.bench.now in
    let m = g.B.Bench.outside c.sync.new.self in
    let was : (d : List ℕ) → m.image c.args.area d → (o.reads c.args.area ≡ Some d) × IsShort d = λ d left.
    let is = c.in_ok-sync.ensures.durable d left in (is, c.requires.short d is) in
    opening_short c.args.area o m _ was c.sync.ensures.crash (on_first_gate c.args.area m _ (λ d left. (was d left).1) c.write.ensures.crash)

pub returns-clause-images : goal.returns-clause-images
returns-clause-images g c =
    let o = g.B.Bench.outside c.args.bench.now in
    let m = g.B.Bench.outside c.sync.new.self in
    let was : (d : List ℕ) → m.image c.args.area d → (o.reads c.args.area ≡ Some d) × IsShort d = λ d left.
    let is = c.in_ok-sync.ensures.durable d left in (is, c.requires.short d is) in
    stays c.args.area (IsOpening c.args.area o) o _ _ (opening_short c.args.area o m _ was c.sync.ensures.crash (on_first_gate c.args.area m _ (λ d left. (was d left).1) c.write.ensures.crash)) c.sync-2.ensures.crash

pub returns-in_err-write-clause-same_list : goal.returns-in_err-write-clause-same_list
returns-in_err-write-clause-same_list g c = λ told d was is.
    let m = g.B.Bench.outside c.sync.new.self in
    let law = g.met.B.Bench.lawful c.write.new.self in
    let short = on_first_gate c.args.area m _ (λ x left. c.requires.short x (c.in_ok-sync.ensures.durable x left)) c.write.ensures.crash in
    records-short d (short.here d (law.as_it_reads c.args.area d is)).2 ∙ sym (records-short told (c.requires.short told was))

pub returns-clause-same_list : goal.returns-clause-same_list
returns-clause-same_list g c = λ told d was is.
    let m = g.B.Bench.outside c.sync.new.self in
    let law = g.met.B.Bench.lawful c.write.new.self in
    let short = on_first_gate c.args.area m _ (λ x left. c.requires.short x (c.in_ok-sync.ensures.durable x left)) c.write.ensures.crash in
    records-short d (short.here d (law.as_it_reads c.args.area d (sym c.sync-2.ensures.same ∙ is))).2 ∙ sym (records-short told (c.requires.short told was))
