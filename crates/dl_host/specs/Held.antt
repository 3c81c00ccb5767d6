-- The open files of a folder.
use Rattle.std.specs.Prelude.{◌≡◌, true, Option, Some}
use Rattle.dl_base.specs.declared.area.Area.{Area}
use Rattle.dl_host.specs.Hosts.{Hold}

-- Each open file is that of the area that it is kept for, and its name outlives a crash.
pub record AreHeld (F : Type 0) (area_of : F → Area) (slot : Area → Option F) (hold : Hold) : Type 0 where
  pub here : (a : Area) (file : F) → slot a ≡ Some file → area_of file ≡ a
  pub named : (a : Area) (file : F) → slot a ≡ Some file → hold.is_named a ≡ true
