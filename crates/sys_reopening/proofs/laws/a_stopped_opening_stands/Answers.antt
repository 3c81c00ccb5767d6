use Rattle.std.proofs.Common.{inl, inr}
use Rattle.dl_areas.specs.Lists.{puts}
use Rattle.dl_base.specs.declared.area.Area.TheVariants as areas
use Rattle.fm_manager.specs.Managed.{as_writes}
use Rattle.meaning_areas.specs.Stands.{stored_of}
use Rattle.meaning_opening.specs.Fronts.{opened_by}
use Rattle.sys_recovery.proofs.Reading.{same-lists-stand}
use Rattle.sys_reopening.proofs.laws.a_stopped_opening_stands.Goals as goal

pub returns : goal.returns
returns g c lists f o p found every (inl before) =
    let q = c.an_opening_finds_the_lists_of_its_begin.ensures o p before in
    let x = every q.0 q.1 in
    (x.0, same-lists-stand q.0 p.areas q.2 x.0 x.1)
returns g c lists f o p found every (inr left) =
    let x = stored_of f in
    let past = c.what_lists_stand_for_has_a_past.ensures (lists areas.Rows) f x found.folded.rows found.stand in
    let on = c.an_opening_leads_to_the_start.ensures.fronts f x found.stand past left.front left.rest left.parts in
    let folded = c.what_is_written_is_read.ensures.folded lists f on.0 left.front found.folded on.1 left.spelled in
    let y = opened_by x left.front in
    (y, c.what_is_written_is_read.ensures.stand (puts (as_writes left.front) lists) on.0 y p folded on.2 left.has)
