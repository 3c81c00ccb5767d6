-- WHAT HAS A SPELLING: the records of a Finish.
use Rattle.std.proofs.Common.{ℕ, List, [], ◌∷◌, ◌++◌, subst}
use Rattle.dl_base.specs.declared.file.FileChange.{FileChange}
use Rattle.dl_codec.specs.Links.{links_record}
use Rattle.dl_codec.specs.Rows.{rows_record}
use Rattle.dl_codec.specs.declared.links.BranchPhase.{BranchPhase}
use Rattle.dl_codec.specs.declared.links.BranchPhase.TheVariants as phases
use Rattle.dl_codec.specs.declared.links.LinksRecord.TheVariants as links_records
use Rattle.dl_codec.specs.declared.rows.RowsRecord.TheVariants as rows_records
use Rattle.fm_manager.specs.Managed.{AreSpelled}
use Rattle.fm_manager.specs.Pieces.{AreOf, Pieces, copies_written, settling_part}
use Rattle.meaning_areas.specs.Finishing.{batch_changes, batch_of, committed_record, copy_records, finish_records}
use Rattle.meaning_areas.specs.Lists.{Written, in_links, in_rows}
use Rattle.meaning_settling.specs.Settling.{Kept, Moved}

-- RECORDS ONE BEHIND ANOTHER

spelled-append : (xs ys : List Written) → AreSpelled xs → AreSpelled ys → AreSpelled (xs ++ ys)
spelled-append [] ys first second = second
spelled-append (x ∷ xs) ys first second = (first.0, spelled-append xs ys first.1 second)

spelled-first : (xs ys : List Written) → AreSpelled (xs ++ ys) → AreSpelled xs
spelled-first [] ys all = tt
spelled-first (x ∷ xs) ys all = (all.0, spelled-first xs ys all.1)

spelled-last : (xs ys : List Written) → AreSpelled (xs ++ ys) → AreSpelled ys
spelled-last [] ys all = all
spelled-last (x ∷ xs) ys all = spelled-last xs ys all.1

-- A FINISH whose copies, files and Done have one

committed-fits : (tx : ℕ) → links_record.fits (links_records.Done tx) → links_record.fits (links_records.Committed tx)
unfolding links_record
committed-fits tx fits = fits

ended-fits : (tx : ℕ) → links_record.fits (links_records.Done tx) → rows_record.fits (rows_records.Ended tx)
unfolding links_record rows_record
ended-fits tx fits = fits

mark-spelled : (tx : ℕ) (p : BranchPhase) → links_record.fits (links_records.Done tx) → AreSpelled (committed_record tx p)
mark-spelled tx phases.Prepared fits = (committed-fits tx fits, tt)
mark-spelled tx phases.Committed fits = tt
mark-spelled tx phases.Done fits = tt
mark-spelled tx phases.Aborted fits = tt

pub finish-spelled : (q : Pieces) (p : BranchPhase) (m : Moved) (k : Kept) → AreOf q m k → AreSpelled (settling_part q.tx q.copies q.changes) → AreSpelled (finish_records q.tx p m k)
finish-spelled q p m k of all =
    let done : List Written = in_links (links_records.Done q.tx) ∷ [] in
    let behind : AreSpelled (batch_of q.tx q.changes ++ done) = spelled-last (copies_written q.copies) (batch_of q.tx q.changes ++ done) all in
    let copies : AreSpelled (copy_records m k) = subst (λ (xs : List Written). AreSpelled xs) of.copies (spelled-first (copies_written q.copies) (batch_of q.tx q.changes ++ done) all) in
    let batch : AreSpelled (batch_of q.tx (batch_changes m k)) = subst (λ (cs : List FileChange). AreSpelled (batch_of q.tx cs)) of.changes (spelled-first (batch_of q.tx q.changes) done behind) in
    let fits : links_record.fits (links_records.Done q.tx) = (spelled-last (batch_of q.tx q.changes) done behind).0 in
    spelled-append ((committed_record q.tx p ++ copy_records m k) ++ batch_of q.tx (batch_changes m k)) (in_links (links_records.Done q.tx) ∷ in_rows (rows_records.Ended q.tx) ∷ [])
    (spelled-append (committed_record q.tx p ++ copy_records m k) (batch_of q.tx (batch_changes m k))
    (spelled-append (committed_record q.tx p) (copy_records m k) (mark-spelled q.tx p fits) copies) batch)
    (fits, (ended-fits q.tx fits, tt))
