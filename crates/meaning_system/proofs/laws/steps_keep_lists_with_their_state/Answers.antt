use Rattle.meaning_system.proofs.Stepping.{state-begun, state-prepared, state-voted, state-aborted, state-decided, state-finished}
use Rattle.meaning_system.proofs.Crashing.{state-manager, state-database}
use Rattle.meaning_system.proofs.laws.steps_keep_lists_with_their_state.Goals as goal

pub returns-clause-begin : goal.returns-clause-begin
returns-clause-begin c = state-begun

pub returns-clause-prepare : goal.returns-clause-prepare
returns-clause-prepare c f s tx t joint = state-prepared f s joint tx t

pub returns-clause-prepare_without_links : goal.returns-clause-prepare_without_links
returns-clause-prepare_without_links c f s tx t joint = state-voted f s joint tx t

pub returns-clause-abort : goal.returns-clause-abort
returns-clause-abort c f s session tx t joint = state-aborted f s joint tx t

pub returns-clause-decide : goal.returns-clause-decide
returns-clause-decide c f s tx t joint = state-decided f s joint tx t

pub returns-clause-finish : goal.returns-clause-finish
returns-clause-finish c f s session tx t joint = state-finished f s joint tx t

pub returns-clause-manager : goal.returns-clause-manager
returns-clause-manager c = state-manager

pub returns-clause-database : goal.returns-clause-database
returns-clause-database c f s claims = state-database f s claims.live
