use Rattle.fs_files.proofs.write.write.Goals as goal

pub returns-clause-does : goal.returns-clause-does
returns-clause-does g c =
    let e = c.append.ensures in
    c.an_append_writes_one_record.ensures.one c.args.journal.now c.append.new.self c.args.body.now c.append.result c.args.bench.now c.append.new.bench
    e.acknowledged e.images e.open e.length e.err e.full e.room e.unwritten e.device e.clean
