use Rattle.std.proofs.Common.{◌+◌}
use Rattle.meaning_promises.proofs.Onward.{along, draws-next, following, reopened, step-onward}
use Rattle.meaning_promises.proofs.Staying.{restore-told}
use Rattle.meaning_promises.proofs.Unused.{all-new, begun}
use Rattle.meaning_promises.proofs.laws.numbers_are_new.Goals as goal
use Rattle.meaning_system.proofs.Kept.{number-present}

pub returns-clause-fresh : goal.returns-clause-fresh
returns-clause-fresh c = all-new

pub returns-clause-begun : goal.returns-clause-begun
returns-clause-begun c = begun

pub returns-clause-restored : goal.returns-clause-restored
returns-clause-restored c s t number lost answer =
    let told = restore-told s t number lost answer in
    (told.commit, told.added, told.number, told.of)

pub returns-clause-present : goal.returns-clause-present
returns-clause-present c s small = number-present s.rows_opening (s.drawn + 1) small

pub returns-clause-onward : goal.returns-clause-onward
returns-clause-onward c = step-onward

pub returns-clause-last : goal.returns-clause-last
returns-clause-last c s x n draws = (draws-next s x n draws).0

pub returns-clause-reopened : goal.returns-clause-reopened
returns-clause-reopened c = reopened

pub returns-clause-along : goal.returns-clause-along
returns-clause-along c = along

pub returns-clause-following : goal.returns-clause-following
returns-clause-following c = following
