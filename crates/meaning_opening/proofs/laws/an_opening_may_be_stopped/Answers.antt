use Rattle.meaning_opening.specs.Fronts.{opened_by}
use Rattle.meaning_opening.proofs.Again.{opened-past, opened-same}
use Rattle.meaning_opening.proofs.laws.an_opening_may_be_stopped.Goals as goal

pub returns-clause-past : goal.returns-clause-past
returns-clause-past c = opened-past

pub returns-clause-same : goal.returns-clause-same
returns-clause-same c = opened-same

pub returns-clause-again : goal.returns-clause-again
returns-clause-again c f x stand past front rest parts =
    let one = c.an_opening_leads_to_the_start.ensures.fronts f x stand past front rest parts in
    let two = c.an_opening_leads_to_the_start.ensures.leads one.0 (opened_by x front) one.2 (opened-past x front past) in
    (one.0, two.0, one.1, two.1, two.3)
