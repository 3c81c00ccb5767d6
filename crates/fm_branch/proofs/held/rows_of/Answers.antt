use Rattle.std.proofs.Common.{◌≡◌, List, ◌++◌, append_assoc, sym, ap, ◌∙◌}
use Rattle.dl_base.specs.declared.value.LinkRow.{LinkRow}
use Rattle.fm_branch.specs.Held.{Entries, rows_from}
use Rattle.fm_branch.proofs.held.rows_of.Goals as goal

-- the rows of one place more
rows_more : (entries rest : Entries) (rows later row all : List LinkRow) → rows_from entries ≡ row ++ rows_from rest → later ≡ rows ++ row → rows ++ rows_from entries ≡ all → later ++ rows_from rest ≡ all
rows_more entries rest rows later row all first more so_far =
    ap (λ (r : List LinkRow). r ++ rows_from rest) more ∙ append_assoc rows row (rows_from rest) ∙ ap (λ (r : List LinkRow). rows ++ r) (sym first) ∙ so_far

pub loop-path-preserved : goal.loop-path-preserved
loop-path-preserved c =
    rows_more c.loop-path.path-iterator c.next.new.self c.loop-path.rows c.put_row.new.rows _ (rows_from c.args.places.now.entries)
    (ap (λ (e : Entries). rows_from e) c.in-Some.ensures.steps) c.in_ok-put_row.ensures c.loop-path.invariant
