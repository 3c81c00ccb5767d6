use Rattle.std.specs.Prelude.{true}
use Rattle.meaning_settling.specs.Settling.{settle_one}
use Rattle.meaning_settling.proofs.PartLaws.{part-settled, settled-whole}
use Rattle.meaning_settling.proofs.laws.settling_again_changes_nothing.Goals as goal

pub returns : goal.returns
returns c m k ready = part-settled m (λ n. true) true true k (settle_one m k) ready (settled-whole m k)
