use Rattle.std.proofs.Common.{◌≡◌, ◌+◌, ◌-◌, ◌≤◌, length}
use Rattle.dl_base.specs.Limits.{most_script_bytes}
use Rattle.dl_base.specs.Sources.{Took}
use Rattle.datalinks.proofs.script.read_script.Given as goal

abbrev pub invariant-loop-source : goal.invariant-loop-source
invariant-loop-source g l = record {
  took : Took l.script.items (g.S.Source.rest l.initial.source) (g.S.Source.rest l.source);
  short : length l.script.items ≤ most_script_bytes + 1;
  later : g.S.Source.faults l.initial.source ≤ g.S.Source.faults l.source;
  clean : g.S.Source.faults l.source ≡ g.S.Source.faults l.initial.source;
}

abbrev pub decreases-loop-source : goal.decreases-loop-source
decreases-loop-source g l = most_script_bytes + 1 - length l.script.items
