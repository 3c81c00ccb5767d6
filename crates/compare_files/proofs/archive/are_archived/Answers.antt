use Rattle.std.proofs.Common.{◌+◌, ap, drop, sym, ◌∙◌}
use Rattle.std.specs.FinMap as maps
use Rattle.std.specs.Option.{option_copied}
use Rattle.compare_files.specs.Copies.{archived_by}
use Rattle.compare_files.proofs.Decided.{archived-by}
use Rattle.compare_files.proofs.Turns.{drop-at, passes-more, passes-not}
use Rattle.compare_files.proofs.archive.are_archived.Goals as goal

pub returns-then-not-is_archived : goal.returns-then-not-is_archived
returns-then-not-is_archived c linked is =
    passes-not (archived_by c.args.sight.settled.now c.args.sight.files.now.files c.args.sight.archive.now.copies c.args.numbers.now.keys)
    (maps.values c.args.sight.every.now) (drop c.loop-i.i (maps.values c.args.sight.every.now)) (drop (c.loop-i.i + 1) (maps.values c.args.sight.every.now)) c.in-Some.row.now
    (drop-at (maps.values c.args.sight.every.now) c.loop-i.i c.in-Some.row.now (sym c.at.ensures ∙ ap option_copied c.in-Some.is))
    (sym c.is_archived.ensures ∙ c.if-not-is_archived.true) c.loop-i.invariant
    ∙ archived-by c.args.sight.settled.now c.args.sight.files.now.files c.args.sight.archive.now.copies linked c.args.numbers.now.keys is (maps.values c.args.sight.every.now)

pub loop-i-preserved : goal.loop-i-preserved
loop-i-preserved c =
    passes-more (archived_by c.args.sight.settled.now c.args.sight.files.now.files c.args.sight.archive.now.copies c.args.numbers.now.keys)
    (maps.values c.args.sight.every.now) (drop c.loop-i.i (maps.values c.args.sight.every.now)) (drop (c.loop-i.i + 1) (maps.values c.args.sight.every.now)) c.in-Some.row.now
    (drop-at (maps.values c.args.sight.every.now) c.loop-i.i c.in-Some.row.now (sym c.at.ensures ∙ ap option_copied c.in-Some.is))
    (sym c.is_archived.ensures ∙ c.if-not-is_archived.false) c.loop-i.invariant
