use Rattle.std.proofs.Common.{◌≡◌, ◌+◌, ℕ, List, drop, arith, ap, sym, ◌∙◌, Ok, Err}
use Rattle.dl_journal.specs.Records.{size}
use Rattle.meaning_areas.specs.FilesArea.{files_step, files_of}
use Rattle.meaning_areas.specs.Folds.{folded}
use Rattle.fs_files.proofs.Folding.{on_no, on_yes, refused, accepted, place_next, place_below}
use Rattle.fs_files.proofs.fold.take_records.Goals as goal

pub returns-then-not-branch-clause-refused : goal.returns-then-not-branch-clause-refused
returns-then-not-branch-clause-refused c place is =
    let items = c.as_slice-body-items.result.now in
    let i = c.loop-body.body-index in
    let same : c.loop-body.place ≡ place = cc in
    let none = on_no _ _ _ c.if-not-branch.true c.in_ok-take_record.ensures in
    let bad = refused items i c.loop-body.place c.body-item.result c.body-item.result c.loop-body-test.true c.body-item.is c.loop-body.table.files c.loop-body.invariant.files
    (ap (λ (b : List ℕ). files_step c.loop-body.table.files b) (sym c.bytes.ensures) ∙ none) in
    ap (λ (xs : List (List ℕ)). files_of xs) (sym c.as_slice-body-items.ensures) ∙ bad ∙ ap (λ (at : ℕ). Err at) same

pub overflow_add-place-in-loop-body : goal.overflow_add-place-in-loop-body
overflow_add-place-in-loop-body c =
    let below = place_below c.as_slice-body-items.result.now c.loop-body.body-index c.loop-body.place c.body-item.result c.body-item.result c.loop-body-test.true c.body-item.is c.loop-body.invariant.place in
    omega (arith, below, c.len.ensures, ap size c.as_slice-body-items.ensures, c.requires.size)

pub loop-body-preserved : goal.loop-body-preserved
loop-body-preserved c =
    let items = c.as_slice-body-items.result.now in
    let i = c.loop-body.body-index in
    let later = c.take_record.new.table.files in
    let some = on_yes _ _ _ c.if-not-branch.false c.in_ok-take_record.ensures in
    record {
      files = ap (λ (n : ℕ). folded files_step (c.loop-body.place + (9 + n)) (Ok later) (drop (i + 1) items)) c.len.ensures
          ∙ accepted items i c.loop-body.place c.body-item.result c.body-item.result c.loop-body-test.true c.body-item.is c.loop-body.table.files c.loop-body.invariant.files
          later (ap (λ (b : List ℕ). files_step c.loop-body.table.files b) (sym c.bytes.ensures) ∙ some);
      place = ap (λ (n : ℕ). c.loop-body.place + (9 + n)) c.len.ensures
          ∙ place_next items i c.loop-body.place c.body-item.result c.body-item.result c.loop-body-test.true c.body-item.is c.loop-body.invariant.place;
    }
