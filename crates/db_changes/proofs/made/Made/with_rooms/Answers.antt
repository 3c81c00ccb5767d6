use Rattle.db_changes.proofs.Gathered.{is-made, seen-as}
use Rattle.db_changes.proofs.Spelled.{changes_read}
use Rattle.db_changes.proofs.made.Made.with_rooms.Goals as goal

pub invariant_of-result : goal.invariant_of-result
invariant_of-result c =
    let e = c.in_ok-body.ensures in
    is-made c.args.tx c.args.branch c.args.changes c.args.handles c.args.rooms c.in_ok-body.body
    e.body e.fits (changes_read c.rows_records_have_one_spelling.ensures c.args.tx 0 c.args.branch c.args.changes c.in_ok-body.body e.body e.fits) c.requires.few c.requires.some c.requires.order

pub returns : goal.returns
returns c =
    let e = c.in_ok-body.ensures in
    seen-as c.args.tx c.args.branch c.args.changes c.args.handles c.args.rooms c.in_ok-body.body (changes_read c.rows_records_have_one_spelling.ensures c.args.tx 0 c.args.branch c.args.changes c.in_ok-body.body e.body e.fits)
