use Rattle.std.proofs.Common.{◌≡◌, List, ◌∙◌}
use Rattle.dl_codec.specs.declared.rows.RowChange.{RowChange}
use Rattle.meaning_merge.specs.Merging as merging
use Rattle.db_replay.proofs.Taking.{if_ok}
use Rattle.db_changes.specs.Made.{changes_at}
use Rattle.db_changes.proofs.Fates.{changes-none, changes-some}
use Rattle.db_changes.proofs.diff.row_changes.Goals as goal

pub returns-in-Some : goal.returns-in-Some
returns-in-Some c =
    let was = c.args.was.now in
    let now = c.args.now.now in
    let numbers = c.in-Some.numbers.now in
    if_ok c.changes_at.result (λ (made : List RowChange). made ≡ changes_at was.rows now.rows numbers) (λ (made : List RowChange). made ≡ merging.row_changes was.rows now.rows)
    (λ made e. e ∙ changes-some was now c.args.touched.now c.args.name.now numbers c.len.ensures.numbered c.len-2.ensures.numbered c.in-Some.ensures.value c.in-Some.ensures.rise c.requires)
    c.changes_at.ensures

pub returns-in-None : goal.returns-in-None
returns-in-None c = c.empty.ensures ∙ changes-none c.args.was.now c.args.now.now c.args.touched.now c.args.name.now c.len.ensures.numbered c.len-2.ensures.numbered c.in-None.ensures.value c.in-None.ensures.rise c.requires
