use Rattle.std.proofs.Common.{ap}
use Rattle.meaning_areas.specs.Commits.{Commit}
use Rattle.meaning_areas.proofs.Deciding.{joint-decided, joint-finished, joint-kept, joint-backed_up}
use Rattle.meaning_areas.proofs.Steps.{joint-begun, joint-prepared, joint-voted, joint-aborted, joint-ended}
use Rattle.meaning_areas.proofs.Stops.{joint-manager, joint-database}
use Rattle.meaning_areas.proofs.laws.steps_keep_lists_with_their_core.Goals as goal

pub returns-clause-begun : goal.returns-clause-begun
returns-clause-begun c = joint-begun

pub returns-clause-prepared : goal.returns-clause-prepared
returns-clause-prepared c f k tx w joint is = joint-prepared f k joint tx w is

pub returns-clause-voted : goal.returns-clause-voted
returns-clause-voted c f k tx w joint is = joint-voted f k joint tx w is

pub returns-clause-aborted : goal.returns-clause-aborted
returns-clause-aborted c f k tx w joint is = joint-aborted f k joint tx w is

pub returns-clause-ended : goal.returns-clause-ended
returns-clause-ended c f k tx w joint is = joint-ended f k joint tx w is

pub returns-clause-decided : goal.returns-clause-decided
returns-clause-decided c f k d w joint is was made given taken = joint-decided f k joint d w is was (ap (λ (x : Commit). x.branch) made) given taken (ap (λ (x : Commit). x.gives) made) (ap (λ (x : Commit). x.takes) made)

pub returns-clause-finished : goal.returns-clause-finished
returns-clause-finished c f k tx w joint is = joint-finished f k joint tx w is

pub returns-clause-kept : goal.returns-clause-kept
returns-clause-kept c f k files copies joint = joint-kept f k joint files copies

pub returns-clause-backed_up : goal.returns-clause-backed_up
returns-clause-backed_up c f k b joint = joint-backed_up f k joint b

pub returns-clause-manager : goal.returns-clause-manager
returns-clause-manager c = joint-manager

pub returns-clause-database : goal.returns-clause-database
returns-clause-database c = joint-database
