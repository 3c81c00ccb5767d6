-- The five areas of one bench: their journals, the lists that they have, and the records that a call writes into them.
use Rattle.std.specs.Prelude.{◌≡◌, ℕ, List, [], ◌∷◌, ◌++◌, length, if◌then◌else◌, Option}
use Rattle.dl_base.specs.Areas.{is_area}
use Rattle.dl_base.specs.Outside.{Outside, CrashState}
use Rattle.dl_base.specs.declared.area.Area.{Area}
use Rattle.dl_base.specs.declared.area.Area.TheVariants.{Rows, Links, Files, Archive, Backups}
use Rattle.dl_base.specs.declared.fault.Full.{Full}
use Rattle.dl_journal.specs.Extent.{Extent}
use Rattle.dl_journal.specs.Open.{IsOpen, Keeps, grown}
use Rattle.dl_journal.specs.Records.{IsAtRest}

-- the bodies of each area's records, in order
abbrev pub Lists : Type 0
Lists = Area → List (List ℕ)

-- the journal of each area
abbrev pub Journals : Type 0
Journals = Area → Extent

-- what each of the five has, by its area
abbrev pub by_area : {X : Type 0} → X → X → X → X → X → Area → X
by_area r l f a b Rows = r
by_area r l f a b Links = l
by_area r l f a b Files = f
by_area r l f a b Archive = a
by_area r l f a b Backups = b

-- a journal in its place among the five
abbrev pub with_journal : Extent → Journals → Journals
with_journal k js a = if is_area k.area a then k else js a

-- A record that a call writes: its area, its body, and what is full because a number in it is exhausted, where one is.
pub record Write : Type 0 where
  pub area : Area
  pub body : List ℕ
  pub exhausted : Option Full

abbrev pub write_of : Area → List ℕ → Option Full → Write
write_of area body exhausted = record { area = area; body = body; exhausted = exhausted }

-- the lists with one more record, and with several, in order
abbrev pub put : Write → Lists → Lists
put w lists a = if is_area w.area a then lists a ++ w.body ∷ [] else lists a

abbrev pub puts : List Write → Lists → Lists
puts [] lists = lists
puts (w ∷ ws) lists = puts ws (put w lists)

-- the journals behind one more record, and behind several
abbrev pub grown_by : Write → Journals → Journals
grown_by w js a = if is_area w.area a then grown (js a) (length w.body) else js a

abbrev pub all_grown : List Write → Journals → Journals
all_grown [] js = js
all_grown (w ∷ ws) js = all_grown ws (grown_by w js)

-- Each area has its own journal, and its closing gate is there. This is what a call that writes asks of its caller.
pub record AreReady (js : Journals) (o : Outside) : Type 0 where
  pub areas : (a : Area) → (js a).area ≡ a
  pub gates : (a : Area) → IsOpen (js a) o

-- each area has its list, whatever a crash leaves of it
abbrev pub AreKept : Journals → Lists → Outside → Type 0
AreKept js lists o = (a : Area) → Keeps (js a) (lists a) o

-- a crash left these lists
abbrev pub HasLists : Lists → CrashState → Type 0
HasLists lists p = (a : Area) → IsAtRest (lists a) (p.areas a)
