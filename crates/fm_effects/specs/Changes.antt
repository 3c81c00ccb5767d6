-- The changes of files, site by site.
use Rattle.std.specs.Prelude.{ℕ, ◌&&◌, if◌then◌else◌, List, Option, Some, None}
use Rattle.std.specs.BTreeMap.{get}
use Rattle.std.specs.Cmp.Lexicographic.{slice_cmp}
use Rattle.std.specs.FinMap as maps
use Rattle.std.specs.Ordering.{nat_cmp}
use Rattle.dl_base.specs.declared.column.OnUnlink.{OnUnlink}
use Rattle.dl_base.specs.declared.file.File.{File}
use Rattle.dl_base.specs.declared.file.FileChange.{FileChange}
use Rattle.fm_effects.specs.declared.sites.Site.{Site}
use Rattle.fm_effects.specs.declared.sites.Take.{Take}
use Rattle.fm_effects.specs.declared.sources.Sources.{Sources}
use Rattle.meaning_areas.specs.Finishing.{change_to}
use Rattle.meaning_files.specs.Files.{Files}
use Rattle.meaning_settling.specs.Settling.{Copy, by_give, filled, given_back, link_key, taken_over}

-- the copy of a link number, once the links given have theirs
abbrev pub copy_in : Sources → List ℕ → Option Copy
copy_in s n = by_give s.files.now.files (get (slice_cmp nat_cmp) s.gives n) (maps.get s.archive.now.copies n)

-- the copy that a take is filled from
abbrev pub filling : Sources → Take → Option Copy
filling s t = if s.fill && t.options.recovery then copy_in s (link_key t.link) else None

-- the file behind what is done at its path
abbrev pub file_behind : (Take → Option Copy) → Option OnUnlink → Option Take → Option File → Option File
file_behind filling give (Some t) f = taken_over t.options.write t.options.read (filled (filling t) f)
file_behind filling (Some u) None f = given_back u f
file_behind filling None None f = f

abbrev pub change_at : (Take → Option Copy) → Files → List ℕ × Site → Option FileChange
change_at filling files e = change_to e.0 (maps.get files e.0) (file_behind filling e.1.give e.1.take (maps.get files e.0))
