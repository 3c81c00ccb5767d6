-- The layouts of the area Links: links that are taken, and records.
use Rattle.std.specs.Prelude.{ℕ, zero, suc, List, [], ◌∷◌, Option, None, Bool}
use Rattle.dl_base.specs.declared.value.LinkRow.{LinkRow}
use Rattle.dl_codec.specs.declared.links.LinksRecord.{LinksRecord}
use Rattle.dl_codec.specs.declared.links.LinksRecord.TheVariants as records
use Rattle.dl_codec.specs.declared.links.Taken.{Taken}
use Rattle.dl_codec.specs.Layout.{Layout, behind, u32, u64, bool, pair, along, list}
use Rattle.dl_codec.specs.Values.{link_row}

-- a link that is taken, and whether its file is put back from the archive
abbrev pub taken_of : LinkRow × Bool → Taken
taken_of p = record { link = p.0; fill = p.1 }

abbrev pub fields_of_taken : Taken → LinkRow × Bool
fields_of_taken t = (t.link, t.fill)

unfoldable pub taken : Layout Taken
taken = along taken_of fields_of_taken (pair link_row bool)

-- a record: 1 and the opening; 2, the transaction, what it gives and what it takes; 3 Committed, 4 Done, 5 Aborted, and the
-- transaction
abbrev pub prepared : Layout (ℕ × (List LinkRow × List Taken))
prepared = pair u64 (pair (list link_row) (list taken))

abbrev pub links_record_spelling : LinksRecord → List ℕ
links_record_spelling (records.Opening number) = 1 ∷ u32.spelling number
links_record_spelling (records.Prepared tx gives takes) = 2 ∷ prepared.spelling (tx, (gives, takes))
links_record_spelling (records.Committed tx) = 3 ∷ u64.spelling tx
links_record_spelling (records.Done tx) = 4 ∷ u64.spelling tx
links_record_spelling (records.Aborted tx) = 5 ∷ u64.spelling tx

abbrev pub links_record_fits : LinksRecord → Type 0
links_record_fits (records.Opening number) = u32.fits number
links_record_fits (records.Prepared tx gives takes) = prepared.fits (tx, (gives, takes))
links_record_fits (records.Committed tx) = u64.fits tx
links_record_fits (records.Done tx) = u64.fits tx
links_record_fits (records.Aborted tx) = u64.fits tx

abbrev pub links_record_reading : List ℕ → Option (LinksRecord × List ℕ)
links_record_reading [] = None
links_record_reading (zero ∷ rest) = None
links_record_reading (suc zero ∷ rest) = behind (λ number. records.Opening number) u32 rest
links_record_reading (suc (suc zero) ∷ rest) = behind (λ p. records.Prepared p.0 p.1.0 p.1.1) prepared rest
links_record_reading (suc (suc (suc zero)) ∷ rest) = behind (λ tx. records.Committed tx) u64 rest
links_record_reading (suc (suc (suc (suc zero))) ∷ rest) = behind (λ tx. records.Done tx) u64 rest
links_record_reading (suc (suc (suc (suc (suc zero)))) ∷ rest) = behind (λ tx. records.Aborted tx) u64 rest
links_record_reading (suc (suc (suc (suc (suc (suc b))))) ∷ rest) = None

unfoldable pub links_record : Layout LinksRecord
links_record = record { spelling = links_record_spelling; fits = links_record_fits; reading = links_record_reading }
