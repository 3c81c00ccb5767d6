-- The copies that links given need.
use Rattle.std.specs.Prelude.{if◌then◌else◌, Option, Some, None}
use Rattle.dl_base.specs.declared.file.File.{File}
use Rattle.dl_base.specs.declared.value.LinkRow.{LinkRow}
use Rattle.dl_codec.specs.declared.archive.FileCopy.{FileCopy}
use Rattle.meaning_areas.specs.Finishing.{file_copy}
use Rattle.meaning_settling.specs.Settling.{Copy}

-- the copy of a link, by the one that it has and by the file on its path
abbrev pub copy_for : LinkRow → Option Copy → Option File → Option FileCopy
copy_for g (Some c) f = None
copy_for g None None = None
copy_for g None (Some f) = if g.options.recovery then Some (file_copy g f) else None
