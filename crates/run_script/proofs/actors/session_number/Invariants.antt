use Rattle.std.proofs.Common.{◌≡◌, ◌+◌, ◌≤◌, drop}
use Rattle.meaning_script.specs.Actors.{number_from, sessions}
use Rattle.run_script.proofs.actors.session_number.Given as goal

abbrev pub invariant-actors : goal.invariant-actors
invariant-actors l = record {
  rest : number_from l.number l.name (sessions (drop l.actor-index l.known)) ≡ number_from 1 l.name (sessions l.known);
  few : l.number ≤ l.actor-index + 1;
}
