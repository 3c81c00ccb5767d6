-- The body that a record is written as, and which record exhausts a number. When an area is full says `full_in` of dl_areas.
use Rattle.std.specs.Prelude.{ℕ, ◌-◌, nat_lt, if◌then◌else◌, List, Option, Some, None}
use Rattle.dl_base.specs.Limits.{most_numbers}
use Rattle.dl_base.specs.declared.area.Area.{Area}
use Rattle.dl_base.specs.declared.area.Area.TheVariants as areas
use Rattle.dl_base.specs.declared.fault.Full.{Full}
use Rattle.dl_base.specs.declared.fault.Full.TheVariants as fulls
use Rattle.dl_codec.specs.Archive.{archive_record}
use Rattle.dl_codec.specs.Backups.{backup_record}
use Rattle.dl_codec.specs.Files.{files_record}
use Rattle.dl_codec.specs.Links.{links_record}
use Rattle.dl_codec.specs.Rows.{rows_record}
use Rattle.dl_codec.specs.declared.links.LinksRecord.TheVariants as links_records
use Rattle.dl_codec.specs.declared.rows.RowsRecord.TheVariants as rows_records
use Rattle.meaning_areas.specs.Lists.{Written, in_rows, in_links, in_files, in_archive, in_backups}

-- a record as its area and body
abbrev pub body_of : Written → Area × List ℕ
body_of (in_rows x) = (areas.Rows, rows_record.spelling x)
body_of (in_links x) = (areas.Links, links_record.spelling x)
body_of (in_files x) = (areas.Files, files_record.spelling x)
body_of (in_archive x) = (areas.Archive, archive_record.spelling x)
body_of (in_backups x) = (areas.Backups, backup_record.spelling x)

-- a next number, n, of an opening, and of a transaction inside one, that would pass the greatest
abbrev pub opening_full : ℕ → Option Full
opening_full n = if nat_lt most_numbers n then Some (fulls.Openings (n - 1)) else None

abbrev pub draw_full : ℕ → Option Full
draw_full n = if nat_lt most_numbers n then Some (fulls.Transactions (n - 1)) else None

abbrev pub number_full : Written → Option Full
number_full (in_rows (rows_records.Opening n)) = opening_full n
number_full (in_links (links_records.Opening n)) = opening_full n
number_full x = None
