-- Records that are in what a crash left.
use Rattle.std.specs.Prelude.{◌≡◌, ℕ, List, ◌++◌, Contains, Ok}
use Rattle.dl_areas.specs.Lists.{HasLists, Lists, puts}
use Rattle.dl_base.specs.Outside.{CrashState}
use Rattle.dl_journal.specs.Records.{records}
use Rattle.fm_manager.specs.Managed.{as_writes}
use Rattle.meaning_areas.specs.Lists.{Written}
use Rattle.meaning_areas.specs.Full.{body_of}

-- THE RECORDS ARE THERE, one behind the other: a crash left the areas with these lists and, behind them, with records among which these stand
pub record HasRecords (lists : Lists) (xs : List Written) (p : CrashState) : Type 0 where
  pub earlier : List Written
  pub later : List Written
  pub has : HasLists (puts (as_writes (earlier ++ (xs ++ later))) lists) p

-- A RECORD IS THERE: its area reads as a list of records, and its body is one of them
pub record IsThere (x : Written) (p : CrashState) : Type 0 where
  pub bodies : List (List ℕ)
  pub listed : records (p.areas (body_of x).0) ≡ Ok bodies
  pub among : Contains bodies (body_of x).1
