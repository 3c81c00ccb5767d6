use Rattle.dl_base.specs.Outside.{CrashState}
use Rattle.meaning_areas.specs.Areas.{AreasStand}
use Rattle.meaning_areas.specs.Lists.{no_folds}
use Rattle.meaning_areas.specs.Stands.{Stored, stored_of}
use Rattle.sys_recovery.specs.Left.{areas_of}
use Rattle.sys_reopening.proofs.Empty.{empty-areas-stand, empty-bytes-stand}
use Rattle.sys_reopening.proofs.Standing.{all-stand, crashed-stand, left-alike, now-left}
use Rattle.sys_reopening.proofs.laws.every_image_stands_there.Goals as goal
use Rattle.sys_reopening.specs.Again.{StandAlike}

pub returns-clause-stand : goal.returns-clause-stand
returns-clause-stand g c = empty-areas-stand

pub returns-clause-empty : goal.returns-clause-empty
returns-clause-empty g c o none = all-stand (g.B.Bench.outside o) (stored_of no_folds) (λ q images. empty-bytes-stand q (λ a. none a (q a) (images a)))

pub returns-clause-crashed : goal.returns-clause-crashed
returns-clause-crashed g c p s o stand same = crashed-stand (g.B.Bench.outside o) p s same stand

pub returns-clause-behind : goal.returns-clause-behind
returns-clause-behind g c t told n later is each =
    now-left (g.B.Bench.outside n) (g.met.B.Bench.lawful n) t told later is (λ (p : CrashState). (x : Stored) × AreasStand (areas_of p) x) each

pub returns-clause-left : goal.returns-clause-left
returns-clause-left g c p s o alike same = left-alike (g.B.Bench.outside o) p s same alike

pub returns-clause-stopped : goal.returns-clause-stopped
returns-clause-stopped g c t told s n later is each =
    now-left (g.B.Bench.outside n) (g.met.B.Bench.lawful n) t told later is (λ (p : CrashState). StandAlike (areas_of p) s) each
