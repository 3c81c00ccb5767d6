use Rattle.std.proofs.Common.{◌≡◌, drop}
use Rattle.meaning_tables.specs.Fits.{fits_columns}
use Rattle.db_replay.proofs.cells.fits_columns.Given as goal

abbrev pub invariant-loop-i : goal.invariant-loop-i
invariant-loop-i l = fits_columns (drop l.i l.columns) (drop l.i l.row.values) ≡ fits_columns l.columns l.row.values
