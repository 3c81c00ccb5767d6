use Rattle.std.proofs.Common.{◌+◌, ap}
use Rattle.db_store.specs.Store.{Database}
use Rattle.meaning_areas.specs.Full.{draw_full}
use Rattle.sys_owners.proofs.Placing.{with_store}
use Rattle.sys_records.proofs.PuttingBack.{on-drawn}
use Rattle.sys_records.proofs.restoring.count_drawn.Goals as goal

pub returns : goal.returns
returns c =
    let w = c.args.owners.now in
    ap (λ (d : Database). with_store w d) (on-drawn c.draw.result (draw_full (w.store.drawn + 1)) c.requires c.draw.ensures.full c.draw.ensures.ok)
