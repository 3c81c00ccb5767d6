use Rattle.meaning_promises.proofs.Clock.{clock-stays, onward, settings-stay}
use Rattle.meaning_promises.proofs.stops.only_a_tick_moves_the_clock.Goals as goal

pub returns-clause-clock : goal.returns-clause-clock
returns-clause-clock c = clock-stays

pub returns-clause-settings : goal.returns-clause-settings
returns-clause-settings c = settings-stay

pub returns-clause-onward : goal.returns-clause-onward
returns-clause-onward c = onward
