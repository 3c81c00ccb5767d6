-- The layouts of the area Archive: archived copies, and records.
use Rattle.std.specs.Prelude.{ℕ, zero, suc, List, [], ◌∷◌, Option, None}
use Rattle.dl_base.specs.declared.file.Owner.{Owner}
use Rattle.dl_base.specs.declared.value.LinkNo.{LinkNo}
use Rattle.dl_codec.specs.declared.archive.ArchiveRecord.{ArchiveRecord}
use Rattle.dl_codec.specs.declared.archive.ArchiveRecord.TheVariants as records
use Rattle.dl_codec.specs.declared.archive.FileCopy.{FileCopy}
use Rattle.dl_codec.specs.Files.{owner}
use Rattle.dl_codec.specs.Layout.{Layout, behind, text, pair, along}
use Rattle.dl_codec.specs.Values.{link_number, exactly}

-- a copy: the link, the owner, 32 bytes of digest, the content
abbrev pub file_copy_of : LinkNo × (Owner × (List ℕ × List ℕ)) → FileCopy
file_copy_of p = record { link = p.0; owner = p.1.0; digest = p.1.1.0; bytes = p.1.1.1 }

abbrev pub fields_of_file_copy : FileCopy → LinkNo × (Owner × (List ℕ × List ℕ))
fields_of_file_copy c = (c.link, (c.owner, (c.digest, c.bytes)))

unfoldable pub file_copy : Layout FileCopy
file_copy = along file_copy_of fields_of_file_copy (pair link_number (pair owner (pair (exactly 32) text)))

-- a record: 1 and the copy
abbrev pub archive_record_spelling : ArchiveRecord → List ℕ
archive_record_spelling (records.Copy c) = 1 ∷ file_copy.spelling c

abbrev pub archive_record_fits : ArchiveRecord → Type 0
archive_record_fits (records.Copy c) = file_copy.fits c

abbrev pub archive_record_reading : List ℕ → Option (ArchiveRecord × List ℕ)
archive_record_reading [] = None
archive_record_reading (zero ∷ rest) = None
archive_record_reading (suc zero ∷ rest) = behind (λ c. records.Copy c) file_copy rest
archive_record_reading (suc (suc b) ∷ rest) = None

unfoldable pub archive_record : Layout ArchiveRecord
archive_record = record { spelling = archive_record_spelling; fits = archive_record_fits; reading = archive_record_reading }
