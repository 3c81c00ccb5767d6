use Rattle.std.proofs.Common.{◌≡◌, List, ap, ◌∙◌}
use Rattle.db_replay.proofs.Taking.{if_ok}
use Rattle.db_replay.specs.Changes.{applied}
use Rattle.dl_base.specs.declared.value.LinkRow.{LinkRow}
use Rattle.meaning_tables.specs.Links.{gives, takes}
use Rattle.meaning_tables.specs.Tables.{Tables}
use Rattle.bk_restore.proofs.planning.moved.Goals as goal

pub returns-clause-takes : goal.returns-clause-takes
returns-clause-takes c =
    let now = c.args.now.now in
    let later = c.in_ok-later.later in
    if_ok c.gives_takes.result (λ (m : List LinkRow × List LinkRow). (m.0 ≡ gives now later) × (m.1 ≡ takes now later)) (λ (m : List LinkRow × List LinkRow). m.1 ≡ takes now (applied now c.args.handles.now))
    (λ m both. both.1 ∙ ap (λ (ts : Tables). takes now ts) c.in_ok-later.ensures) c.gives_takes.ensures
