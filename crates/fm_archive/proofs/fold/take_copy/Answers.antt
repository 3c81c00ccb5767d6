use Rattle.std.proofs.Common.{◌≡◌, true, sym, ◌∙◌, rules}
use Rattle.fm_archive.proofs.Entries.{can_take-parts}
use Rattle.fm_archive.proofs.fold.take_copy.Goals as goal

pub put-requires-clause-new : goal.put-requires-clause-new
put-requires-clause-new c =
    let yes : c.can_take.result ≡ true = search rules in
    (can_take-parts c.args.table.now.copies c.args.copy (sym c.can_take.ensures ∙ yes)).0

pub put-requires-clause-digest : goal.put-requires-clause-digest
put-requires-clause-digest c =
    let yes : c.can_take.result ≡ true = search rules in
    (can_take-parts c.args.table.now.copies c.args.copy (sym c.can_take.ensures ∙ yes)).1
