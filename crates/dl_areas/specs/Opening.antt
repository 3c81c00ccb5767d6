-- What the opening of five areas does, one after another. What their lists stand for is the matter of those who hold the areas.
use Rattle.std.specs.Prelude.{◌≡◌, ◌⊎◌, ℕ, ◌+◌, ◌<◌, ◌≤◌, List, Some, None, Ok}
use Rattle.dl_base.specs.Areas.{area_number}
use Rattle.dl_base.specs.Outside.{Outside, CrashState, AtEveryMoment, ChangesOnly}
use Rattle.dl_base.specs.declared.area.Area.{Area}
use Rattle.dl_journal.specs.Extent.{Extent}
use Rattle.dl_journal.specs.Open.{IsOpening, IsOpen, Keeps, IsList, ReadsSameList}
use Rattle.dl_journal.specs.Records.{records, size}
use Rattle.dl_areas.specs.Lists.{Lists, Journals, Write, puts, all_grown, AreReady, AreKept}
use Rattle.dl_areas.specs.Writing.{LeavesPrefix, fitting, full_in}

-- the opening of one area, however it ends
pub record OpensOne (a : Area) (o n : Outside) : Type 0 where
  pub images : ChangesOnly a (IsOpening a o) o n
  pub same_list : ReadsSameList (o.reads a) (n.reads a)

-- The area is open with this journal, these are the bodies that it read, and no fault was counted. An opening of an owner gives
-- some bodies of which this holds, and says what they stand for.
pub record IsOpened (a : Area) (limit : ℕ) (journal : Extent) (bodies : List (List ℕ)) (o n : Outside) : Type 0 where
  pub area : journal.area ≡ a
  pub limit_is : journal.limit ≡ limit
  pub is_list : IsList bodies (o.reads a)
  pub keeps : Keeps journal bodies n
  pub gate : IsOpen journal n
  pub clean : n.faults ≡ o.faults

-- A moment before any record of an opening: nothing more is told, and each area has an image of the begin, or one with the list
-- that it read.
pub record IsInOpening (o : Outside) (p : CrashState) : Type 0 where
  pub told : o.told ≡ Some p.told
  pub areas : (a : Area) → IsOpening a o (p.areas a)

-- The areas whose numbers are below k were opened in order, however the last of them ended. What the others read is as it was.
pub record Opens (k : ℕ) (o n : Outside) : Type 0 where
  pub moments : AtEveryMoment (IsInOpening o) o n
  pub told : n.told ≡ o.told
  pub images : (a : Area) (c : List ℕ) → n.image a c → IsOpening a o c
  pub same_list : (a : Area) → ReadsSameList (o.reads a) (n.reads a)
  pub still : (a : Area) → k ≤ area_number a → n.reads a ≡ o.reads a

-- all of these are open, with these journals and lists, and no fault was counted
pub record AreOpened (k limit : ℕ) (js : Journals) (lists : Lists) (o n : Outside) : Type 0 where
  pub opens : Opens k o n
  pub opened : (a : Area) → area_number a < k → IsOpened a limit (js a) (lists a) o n
  pub clean : n.faults ≡ o.faults

-- each area reads as its list
abbrev pub AreRead : Lists → Outside → Type 0
AreRead lists o = (a : Area) → (told : List ℕ) × (o.reads a ≡ Some told) × (records told ≡ Ok (lists a))

-- the journals of areas with these lists
abbrev pub journals_with : ℕ → Lists → Journals
journals_with limit lists a = record { area = a; length = size (lists a) + 1; limit = limit }

-- A moment of an opening that writes these records: none of them is there yet, or a prefix of those that fit.
abbrev pub IsInBegin : ℕ → Lists → List Write → Outside → CrashState → Type 0
IsInBegin limit lists ws o p = IsInOpening o p ⊎ LeavesPrefix lists (fitting (journals_with limit lists) ws) o p

-- All five areas are open with these journals, the records of the opening are there, and no fault was counted.
pub record IsBegun (limit : ℕ) (ks : Journals) (ws : List Write) (o n : Outside) : Type 0 where
  pub told : n.told ≡ o.told
  pub ready : AreReady ks n
  pub fits : (lists : Lists) → AreRead lists o → full_in (journals_with limit lists) ws ≡ None
  pub grew : (lists : Lists) → AreRead lists o → ks ≡ all_grown ws (journals_with limit lists)
  pub keeps : (lists : Lists) → AreRead lists o → AreKept ks (puts ws lists) n
  pub clean : n.faults ≡ o.faults
