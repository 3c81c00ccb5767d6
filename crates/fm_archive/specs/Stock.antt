-- What contracts see of the archive that is open on a bench.
use Rattle.std.specs.Prelude.{ℕ, List, None, Result, Ok, Err, refl}
use Rattle.std.specs.Coded.{Coded, code_by, coded×, coded_ℕ}
use Rattle.dl_areas.specs.Lists.{Write, write_of}
use Rattle.dl_base.specs.declared.area.Area.TheVariants as areas
use Rattle.dl_codec.specs.Archive.{archive_record}
use Rattle.dl_codec.specs.declared.archive.ArchiveRecord.TheVariants as records
use Rattle.dl_codec.specs.declared.archive.FileCopy.{FileCopy}
use Rattle.dl_journal.specs.Extent.{Extent}
use Rattle.dl_journal.specs.Records.{records as bodies_in}
use Rattle.fm_archive.specs.Copies.{copies_code}
use Rattle.meaning_areas.specs.Areas.{copies_of}
use Rattle.meaning_settling.specs.Settling.{Copies}

-- The copies, for how many more there is room, how many bytes their area has up to behind the closing gate, and how many it may
-- have.
pub record Stock : Type 0 where
  pub copies : Copies
  pub spare : ℕ
  pub length : ℕ
  pub limit : ℕ

abbrev pub stock_code : Coded Stock
stock_code =
    code_by (Copies × (ℕ × (ℕ × ℕ))) (coded× copies_code (coded× coded_ℕ (coded× coded_ℕ coded_ℕ)))
    (λ s. (s.copies, (s.spare, (s.length, s.limit)))) (λ p. record { copies = p.0; spare = p.1.0; length = p.1.1.0; limit = p.1.1.1 }) (λ _. refl)

-- the journal of the area Archive
abbrev pub extent : Stock → Extent
extent s = record { area = areas.Archive; length = s.length; limit = s.limit }

-- what a list's bodies stand for; where it is none, the place of the first record that is none
abbrev pub by_bodies : Result (List (List ℕ)) ℕ → Result Copies ℕ
by_bodies (Ok bodies) = copies_of bodies
by_bodies (Err place) = Err place

-- what the bytes of the area stand for, or the place of the first record that is none or that the fold refuses
abbrev pub copies_told : List ℕ → Result Copies ℕ
copies_told told = by_bodies (bodies_in told)

-- the record of a copy
abbrev pub copy_write : FileCopy → Write
copy_write c = write_of areas.Archive (archive_record.spelling (records.Copy c)) None
