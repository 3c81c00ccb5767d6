use Rattle.std.proofs.Common.{◌+◌, length, ◌∙◌, arith}
use Rattle.dl_journal.proofs.Writes.{reaches_body, reaches_gate, reaches_end, all_staged}
use Rattle.dl_journal.proofs.Steps.{first_behind, goes_behind, stays}
use Rattle.dl_journal.proofs.append.stage.Goals as goal

pub returns-in_err-write-clause-images : goal.returns-in_err-write-clause-images
returns-in_err-write-clause-images g c =
    let o = g.B.Bench.outside c.args.bench.now in
    first_behind c.args.area c.args.place (c.args.place + 1) _ o (g.B.Bench.outside c.write.new.self) (omega arith) c.write.ensures.crash

pub write-requires-2-clause-begins : goal.write-requires-2-clause-begins
write-requires-2-clause-begins g c = reaches_body c.args.place c.args.body.now _ _ _ c.to_be_bytes.ensures c.in_ok-write.ensures.written c.requires.reaches

pub returns-in_err-write-2-clause-images : goal.returns-in_err-write-2-clause-images
returns-in_err-write-2-clause-images g c =
    let o = g.B.Bench.outside c.args.bench.now in
    let t1 = first_behind c.args.area c.args.place (c.args.place + 1) _ o (g.B.Bench.outside c.write.new.self) (omega arith) c.write.ensures.crash in
    goes_behind c.args.area (o.image c.args.area) c.args.place (c.args.place + 9) _ o (g.B.Bench.outside c.write.new.self) (g.B.Bench.outside c.write-2.new.self) (omega arith) t1 c.write-2.ensures.crash

pub write-requires-3-clause-begins : goal.write-requires-3-clause-begins
write-requires-3-clause-begins g c = reaches_gate c.args.place c.args.body.now _ _ _ c.to_be_bytes.ensures c.in_ok-write.ensures.written _ c.in_ok-write-2.ensures.written c.requires.reaches

pub returns-in_err-write-3-clause-images : goal.returns-in_err-write-3-clause-images
returns-in_err-write-3-clause-images g c =
    let o = g.B.Bench.outside c.args.bench.now in
    let t1 = first_behind c.args.area c.args.place (c.args.place + 1) _ o (g.B.Bench.outside c.write.new.self) (omega arith) c.write.ensures.crash in
    let t2 = goes_behind c.args.area (o.image c.args.area) c.args.place (c.args.place + 9) _ o (g.B.Bench.outside c.write.new.self) (g.B.Bench.outside c.write-2.new.self) (omega arith) t1 c.write-2.ensures.crash in
    goes_behind c.args.area (o.image c.args.area) c.args.place (c.args.place + 9 + length c.args.body.now) _ o (g.B.Bench.outside c.write-2.new.self) (g.B.Bench.outside c.write-3.new.self) (omega arith) t2 c.write-3.ensures.crash

pub returns-in_err-sync-clause-images : goal.returns-in_err-sync-clause-images
returns-in_err-sync-clause-images g c =
    let o = g.B.Bench.outside c.args.bench.now in
    let t1 = first_behind c.args.area c.args.place (c.args.place + 1) _ o (g.B.Bench.outside c.write.new.self) (omega arith) c.write.ensures.crash in
    let t2 = goes_behind c.args.area (o.image c.args.area) c.args.place (c.args.place + 9) _ o (g.B.Bench.outside c.write.new.self) (g.B.Bench.outside c.write-2.new.self) (omega arith) t1 c.write-2.ensures.crash in
    let t3 = goes_behind c.args.area (o.image c.args.area) c.args.place (c.args.place + 9 + length c.args.body.now) _ o (g.B.Bench.outside c.write-2.new.self) (g.B.Bench.outside c.write-3.new.self) (omega arith) t2 c.write-3.ensures.crash in
    stays c.args.area _ o (g.B.Bench.outside c.write-3.new.self) _ t3 c.sync.ensures.crash

pub returns-clause-images : goal.returns-clause-images
returns-clause-images g c =
    let o = g.B.Bench.outside c.args.bench.now in
    let t1 = first_behind c.args.area c.args.place (c.args.place + 1) _ o (g.B.Bench.outside c.write.new.self) (omega arith) c.write.ensures.crash in
    let t2 = goes_behind c.args.area (o.image c.args.area) c.args.place (c.args.place + 9) _ o (g.B.Bench.outside c.write.new.self) (g.B.Bench.outside c.write-2.new.self) (omega arith) t1 c.write-2.ensures.crash in
    let t3 = goes_behind c.args.area (o.image c.args.area) c.args.place (c.args.place + 9 + length c.args.body.now) _ o (g.B.Bench.outside c.write-2.new.self) (g.B.Bench.outside c.write-3.new.self) (omega arith) t2 c.write-3.ensures.crash in
    stays c.args.area _ o (g.B.Bench.outside c.write-3.new.self) _ t3 c.sync.ensures.crash

pub returns-clause-staged : goal.returns-clause-staged
returns-clause-staged g c =
    let law = g.met.B.Bench.lawful c.args.bench.now in
    all_staged c.args.place c.args.body.now _ _ _ _ _ _ _ c.requires.room c.to_be_bytes.ensures c.in_ok-write.ensures.written c.in_ok-write-2.ensures.written c.in_ok-write-3.ensures.written (law.as_it_reads c.args.area) c.in_ok-sync.ensures.durable

pub returns-clause-reaches : goal.returns-clause-reaches
returns-clause-reaches g c =
    reaches_end c.args.place c.args.body.now _ _ _ c.to_be_bytes.ensures c.in_ok-write.ensures.written _ _ c.in_ok-write-2.ensures.written (c.sync.ensures.same ∙ c.in_ok-write-3.ensures.written) c.requires.reaches

pub returns-clause-clean : goal.returns-clause-clean
returns-clause-clean g c = c.in_ok-sync.ensures.clean ∙ c.in_ok-write-3.ensures.clean ∙ c.in_ok-write-2.ensures.clean ∙ c.in_ok-write.ensures.clean
