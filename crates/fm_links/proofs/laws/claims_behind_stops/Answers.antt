use Rattle.fm_links.proofs.Behind.{get-claims_of}
use Rattle.fm_links.proofs.Forgetting.{forgotten}
use Rattle.fm_links.proofs.Resolving.{dropped-left, finished-left, resolve-claims}
use Rattle.fm_links.proofs.Steps.{database-claims, manager-claims, start-claims}
use Rattle.fm_links.proofs.laws.claims_behind_stops.Goals as goal

pub returns-clause-start : goal.returns-clause-start
returns-clause-start c = start-claims

pub returns-clause-staying : goal.returns-clause-staying
returns-clause-staying c = get-claims_of

pub returns-clause-manager : goal.returns-clause-manager
returns-clause-manager c first f s claims later sound are stay = manager-claims first f s sound claims are later stay

pub returns-clause-database : goal.returns-clause-database
returns-clause-database c first f s claims later sound are stay = database-claims first f s sound claims are later stay

pub returns-clause-resolve : goal.returns-clause-resolve
returns-clause-resolve c first f s claims later sound are stay = resolve-claims first f s sound claims later are stay

pub returns-clause-finished : goal.returns-clause-finished
returns-clause-finished c f s claims tx t joint are at = finished-left f s joint claims are tx t at

pub returns-clause-dropped : goal.returns-clause-dropped
returns-clause-dropped c f s claims tx t joint are at = dropped-left f s joint claims are tx t at

pub returns-clause-forgotten : goal.returns-clause-forgotten
returns-clause-forgotten c f s claims es path joint are active all = forgotten f s claims es path joint are active all
