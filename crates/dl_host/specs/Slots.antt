-- The file that is kept for an area.
use Rattle.std.specs.Prelude.{Option}
use Rattle.dl_base.specs.declared.area.Area.{Area}
use Rattle.dl_base.specs.declared.area.Area.TheVariants.{Rows, Links, Files, Archive, Backups}
use Rattle.dl_host.specs.declared.slots.Slots.{Slots}

abbrev pub slot_of : {F : Type 0} → Slots F → Area → Option F
slot_of s Rows = s.rows
slot_of s Links = s.links
slot_of s Files = s.files
slot_of s Archive = s.archive
slot_of s Backups = s.backups
