-- What a crash leaves, and what that recovers to.
use Rattle.std.specs.Prelude.{ℕ, Bool, true, false, if◌then◌else◌, List}
use Rattle.std.specs.List.{list_any}
use Rattle.dl_base.specs.Outside.{CrashState}
use Rattle.dl_base.specs.declared.area.Area.{Area}
use Rattle.dl_base.specs.declared.area.Area.TheVariants as areas
use Rattle.dl_base.specs.declared.step.Step.{Step}
use Rattle.dl_base.specs.declared.step.Step.TheVariants as steps
use Rattle.dl_codec.specs.declared.rows.RowsRecord.TheVariants as rows_records
use Rattle.meaning_areas.specs.Areas.{Areas}
use Rattle.meaning_areas.specs.Lists.{Written, in_rows}
use Rattle.meaning_system.specs.Machine.{step}
use Rattle.meaning_system.specs.State.{State}

-- the bytes of the five areas, each by its area
abbrev pub areas_by : (Area → List ℕ) → Areas
areas_by q = record { rows = q areas.Rows; links = q areas.Links; files = q areas.Files; archive = q areas.Archive; backups = q areas.Backups }

abbrev pub areas_of : CrashState → Areas
areas_of p = areas_by p.areas

-- a step that is done with its commit, or else with its last record: each but Resolve, which settles many transactions
abbrev pub IsAtomic : Step → Type 0
IsAtomic steps.Resolve = ⊥
IsAtomic _ = Unit {0}

-- whether the commit of a step is among its records so far
abbrev pub is_commit : Written → Bool
is_commit (in_rows (rows_records.Commit tx number branch changes)) = true
is_commit _ = false

abbrev pub has_commit : List Written → Bool
has_commit xs = list_any is_commit xs

-- the state that a step has led to where these of its records are there, and more are to come
abbrev pub left_by : State → Step → List Written → State
left_by s x front = if has_commit front then (step s x).1 else s
