use Rattle.std.proofs.Common.{◌≡◌, List, ◌∙◌}
use Rattle.dl_codec.specs.declared.rows.RowChange.{RowChange}
use Rattle.meaning_merge.specs.Merging as merging
use Rattle.db_replay.proofs.Taking.{if_ok}
use Rattle.db_changes.specs.Made.{changes_at}
use Rattle.bk_restore.proofs.Differing.{changes-differing}
use Rattle.bk_restore.proofs.rows.row_changes.Goals as goal

pub returns : goal.returns
returns c =
    let was = c.args.was.now in
    let now = c.args.now.now in
    let numbers = c.in_ok-numbers.numbers in
    if_ok c.changes_at.result (λ (made : List RowChange). made ≡ changes_at was.rows now.rows numbers) (λ (made : List RowChange). made ≡ merging.row_changes was.rows now.rows)
    (λ made e. e ∙ changes-differing was now numbers c.len.ensures.numbered c.len-2.ensures.numbered c.in_ok-numbers.ensures.rise c.in_ok-numbers.ensures.agree)
    c.changes_at.ensures
