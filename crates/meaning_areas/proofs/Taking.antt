-- The folds take openings, an Ended and an archived copy.
use Rattle.std.proofs.Common.{◌≡◌, ℕ, ◌+◌, true, false, not, cond, ◌&&◌, Some, None, refl, ◌∙◌, ap}
use Rattle.std.specs.FinMap as maps
use Rattle.std.proofs.lemmas.Slice.Eq.{bytes_eq-Decides}
use Rattle.sha2.specs.Sha256.{sha256}
use Rattle.dl_base.specs.declared.file.File.{File}
use Rattle.dl_base.specs.declared.value.LinkRow.{LinkRow}
use Rattle.dl_codec.specs.declared.archive.ArchiveRecord.TheVariants as archive_records
use Rattle.dl_codec.specs.declared.links.LinksRecord.TheVariants as links_records
use Rattle.dl_codec.specs.declared.rows.RowsRecord.TheVariants as rows_records
use Rattle.meaning_settling.specs.Settling.{Copies, link_key, copy_of}
use Rattle.meaning_areas.specs.Branches.{Branches, links_step}
use Rattle.meaning_areas.specs.Commits.{Commit, Commits, commit_of, has_number, with_ended, ends_on, rows_step}
use Rattle.meaning_areas.specs.Copies.{copies_on, copies_step}
use Rattle.meaning_areas.specs.Finishing.{file_copy}
use Rattle.meaning_areas.proofs.Tables.{test-same}

pub rows-opened : (r : Commits) → rows_step r (rows_records.Opening (r.opening + 1)) ≡ Some (record { opening = r.opening + 1; commits = r.commits; ended = r.ended })
rows-opened r = ap (λ b. cond b (Some (record { opening = r.opening + 1; commits = r.commits; ended = r.ended })) None) (test-same (r.opening + 1) (r.opening + 1) refl)

pub links-opened : (l : Branches) → links_step l (links_records.Opening (l.opening + 1)) ≡ Some (record { opening = l.opening + 1; table = l.table; held = l.held })
links-opened l = ap (λ b. cond b (Some (record { opening = l.opening + 1; table = l.table; held = l.held })) None) (test-same (l.opening + 1) (l.opening + 1) refl)

pub rows-ended : (r : Commits) (tx : ℕ) (c : Commit) → commit_of tx r.commits ≡ Some c → c.branch ≡ true → has_number tx r.ended ≡ false → rows_step r (rows_records.Ended tx) ≡ Some (with_ended r tx)
rows-ended r tx c committed has once =
    ap (ends_on r tx) committed
    ∙ ap (λ b. cond (b && not (has_number tx r.ended)) (Some (with_ended r tx)) None) has
    ∙ ap (λ b. cond (not b) (Some (with_ended r tx)) None) once

pub copy-taken : (copies : Copies) (l : LinkRow) (f : File) → maps.get copies (link_key l.link) ≡ None → copies_step copies (archive_records.Copy (file_copy l f)) ≡ Some (maps.insert copies (link_key l.link) (copy_of f))
copy-taken copies l f none =
    ap (copies_on copies (file_copy l f)) none
    ∙ ap (λ b. cond b (Some (maps.insert copies (link_key l.link) (copy_of f))) None) ((bytes_eq-Decides (sha256 f.bytes) (sha256 f.bytes)).1 refl)
