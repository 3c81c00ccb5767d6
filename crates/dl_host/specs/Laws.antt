-- What keeps the laws of a device.
use Rattle.std.proofs.Common.{ℕ, subst}
use Rattle.dl_base.specs.declared.area.Area.TheVariants.{Rows}
use Rattle.dl_base.specs.Outside.{Outside, Now, IsLawful}
use Rattle.dl_host.specs.Hosts.{with_faults}
use Rattle.dl_host.specs.Blind.{blind, TellsNothing}

pub lawful_counted : (f : ℕ) (o : Outside) → IsLawful o → IsLawful (with_faults f o)
lawful_counted f o laws = record {
  as_it_reads = laws.as_it_reads;
  counts_now = λ t p le now. laws.counts_now t p le (record { told = now.told; areas = now.areas });
  only_now = λ p left. let now : Now o p = laws.only_now p left in record { told = now.told; areas = now.areas };
}

pub blind_lawful : IsLawful blind
blind_lawful = record {
  as_it_reads = λ a bytes is. subst TellsNothing is tt;
  counts_now = λ t p le now. absurd (now.areas Rows);
  only_now = λ p left. absurd left;
}
