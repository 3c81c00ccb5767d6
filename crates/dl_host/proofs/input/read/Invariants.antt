use Rattle.std.proofs.Common.{◌≡◌, ◌≤◌}
use Rattle.dl_host.proofs.input.read.Given as goal

abbrev pub invariant-again : goal.invariant-again
invariant-again g l = record {
  rest : g.R.Reader.rest l.reader ≡ g.R.Reader.rest l.initial.reader;
  faults : g.R.Reader.faults l.reader ≡ g.R.Reader.faults l.initial.reader;
  counted : l._turn ≤ g.R.Reader.interruptions l.reader;
}
