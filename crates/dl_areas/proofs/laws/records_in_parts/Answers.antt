use Rattle.dl_areas.proofs.Fitting.{puts-then, grown-then, full-then, fitting-then, full-stop, fitting-stop, fitting-all}
use Rattle.dl_areas.proofs.laws.records_in_parts.Goals as goal

pub returns-clause-puts : goal.returns-clause-puts
returns-clause-puts c = puts-then

pub returns-clause-grown : goal.returns-clause-grown
returns-clause-grown c = grown-then

pub returns-clause-full : goal.returns-clause-full
returns-clause-full c = full-then

pub returns-clause-fitting : goal.returns-clause-fitting
returns-clause-fitting c = fitting-then

pub returns-clause-full_before : goal.returns-clause-full_before
returns-clause-full_before c = full-stop

pub returns-clause-fitting_before : goal.returns-clause-fitting_before
returns-clause-fitting_before c = fitting-stop

pub returns-clause-all_fit : goal.returns-clause-all_fit
returns-clause-all_fit c = fitting-all
