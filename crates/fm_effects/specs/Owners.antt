-- The owners of a file, and what a link makes of them.
use Rattle.std.specs.Prelude.{ℕ, List, Some, None}
use Rattle.dl_base.specs.declared.column.ReadBy.{ReadBy}
use Rattle.dl_base.specs.declared.column.WriteBy.{WriteBy}
use Rattle.dl_base.specs.declared.column.WriteBy.TheVariants as write
use Rattle.dl_base.specs.declared.file.File.{File}
use Rattle.dl_base.specs.declared.file.Owner.{Owner}
use Rattle.fm_effects.specs.declared.change.CopyLent.{CopyLent}
use Rattle.fm_effects.specs.declared.owners.FileOwners.{FileOwners}
use Rattle.meaning_settling.specs.Settling.{Copy, link_owner}

abbrev pub file_with : FileOwners → List ℕ → File
file_with o bytes = record { owner = o.owner; bytes = bytes; before = o.before }

abbrev pub owners_under : ReadBy → Owner → FileOwners
owners_under r o = record { owner = link_owner r o; before = Some o }

-- the owners of a file under a link that is taken, by the owner that it had before
abbrev pub taken_owners : WriteBy → ReadBy → Owner → FileOwners
taken_owners write.Fs r o = record { owner = o; before = None }
taken_owners write.Blocked r o = owners_under r o
taken_owners write.Admin r o = owners_under r o

-- a copy that is lent
abbrev pub copy_seen : CopyLent → Copy
copy_seen c = record { owner = c.owner.now; bytes = c.bytes.now }
