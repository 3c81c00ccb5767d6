use Rattle.fm_links.proofs.Steps.{accepted-claimed, begin-claims, bound-claimed, decide-claims, finish-claims, prepare-claims, rollback-claims, statement-claims, statement-kept}
use Rattle.fm_links.proofs.laws.claims_behind_steps_of_a_session.Goals as goal

pub returns-clause-begin : goal.returns-clause-begin
returns-clause-begin c first f s claims session sound are = begin-claims first f s sound claims are session

pub returns-clause-statement : goal.returns-clause-statement
returns-clause-statement c first f s claims session tx t stmt sound are of is = statement-claims first f s sound claims are session tx t of stmt is

pub returns-clause-kept : goal.returns-clause-kept
returns-clause-kept c first f s claims session tx t stmt sound are of is same = statement-kept first f s sound claims are session tx t of stmt is same

pub returns-clause-accepted : goal.returns-clause-accepted
returns-clause-accepted c = accepted-claimed

pub returns-clause-bound : goal.returns-clause-bound
returns-clause-bound c = bound-claimed

pub returns-clause-prepare : goal.returns-clause-prepare
returns-clause-prepare c first f s claims session sound are = prepare-claims first f s sound claims are session

pub returns-clause-decide : goal.returns-clause-decide
returns-clause-decide c first f s claims session tx t sound are of is = decide-claims first f s sound claims are session tx t of is

pub returns-clause-finish : goal.returns-clause-finish
returns-clause-finish c first f s claims session tx t sound are of is = finish-claims first f s sound claims are session tx t of is

pub returns-clause-rollback : goal.returns-clause-rollback
returns-clause-rollback c first f s claims session tx t sound are of undecided = rollback-claims first f s sound claims are session tx t of undecided
