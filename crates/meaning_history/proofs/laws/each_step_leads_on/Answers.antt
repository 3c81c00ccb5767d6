use Rattle.meaning_system.proofs.Kept.{start-has}
use Rattle.meaning_history.proofs.Keeping.{history-start}
use Rattle.meaning_history.proofs.Standing.{stand-start}
use Rattle.meaning_history.proofs.Steps.{leads, merged, no-files, sound-kept}
use Rattle.meaning_history.proofs.laws.each_step_leads_on.Goals as goal

pub returns-clause-kept : goal.returns-clause-kept
returns-clause-kept c first f s x sound small owed =
    let on = leads first f s sound small x owed in
    (on.later, on.taken, sound-kept first f s sound small c.a_history_goes_on.ensures.stated x owed)

pub returns-clause-merged : goal.returns-clause-merged
returns-clause-merged c first f s sound = merged first f s sound

pub returns-clause-begin : goal.returns-clause-begin
returns-clause-begin c given f x past follows =
    let has = start-has given x in
    record {
      follows = follows;
      history = history-start given x past;
      claims = has.0;
      sessions = has.1;
      in_sessions = has.2;
      files = no-files given x;
      standing = stand-start given x;
    }
