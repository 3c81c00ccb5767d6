-- What an opening of five areas leaves.
use Rattle.std.specs.Prelude.{◌≡◌, ◌⊎◌, ℕ, List, ◌++◌, Some}
use Rattle.dl_areas.specs.Lists.{Lists, puts, AreKept, HasLists}
use Rattle.dl_areas.specs.Opening.{AreRead, IsBegun, IsInOpening}
use Rattle.dl_base.specs.Outside.{Outside, CrashState}
use Rattle.dl_base.specs.declared.step.Settings.{Settings}
use Rattle.fm_manager.specs.Managed.{AreSpelled, as_writes}
use Rattle.meaning_areas.specs.Areas.{Areas}
use Rattle.meaning_areas.specs.Lists.{Folds, Written, folds_on}
use Rattle.meaning_areas.specs.Stands.{IsStand, stored_of}
use Rattle.meaning_history.specs.Reached.{first_of}
use Rattle.meaning_history.specs.Sound.{AreSound}
use Rattle.meaning_system.specs.Machine.{start}
use Rattle.meaning_system.specs.Writes.{opening}
use Rattle.sys_owners.specs.Owned.{AreFolded, AreTold, Owned, folds_in, journals_of}

-- THE LISTS THAT WERE READ, what they stand for, and that they stand for it together
pub record AreFound (lists : Lists) (f : Folds) (o : Outside) : Type 0 where
  pub read : AreRead lists o
  pub folded : AreFolded lists f
  pub stand : IsStand f (stored_of f)

-- THE SYSTEM HAS BEGUN over lists that stand for this, which are those that the areas read: the records of the opening, and no others,
-- are behind them; what the owners have in memory is what all of them lead to; and with that the machine begins its run, whatever
-- settings it is given. No fault was counted on the way.
pub record HasBegun (limit : ℕ) (lists : Lists) (f : Folds) (w : Owned) (o n : Outside) : Type 0 where
  pub read : (told : Lists) → AreRead told o → lists ≡ told
  -- areas that are told as bytes are those that were found
  pub found : (x : Areas) → AreTold x o → AreFound lists f o
  pub folded : AreFolded lists f
  pub stand : IsStand f (stored_of f)
  pub begun : IsBegun limit (journals_of w) (as_writes (opening f)) o n
  pub kept : AreKept (journals_of w) (puts (as_writes (opening f)) lists) n
  pub leads : folds_on (Some f) (opening f) ≡ Some (folds_in w)
  pub spelled : AreSpelled (opening f)
  pub sound : (given : Settings) → AreSound (first_of (stored_of f)) (folds_in w) (start given (stored_of f))
  -- no number of its opening is drawn
  pub drawn : w.store.drawn ≡ 0

-- A crash left the lists with the first of these records, each of which has a spelling, and nothing more was told.
pub record LeavesSpelled (lists : Lists) (xs : List Written) (o : Outside) (p : CrashState) : Type 0 where
  pub told : o.told ≡ Some p.told
  pub front : List Written
  pub rest : List Written
  pub parts : front ++ rest ≡ xs
  pub spelled : AreSpelled front
  pub has : HasLists (puts (as_writes front) lists) p

-- A MOMENT OF AN OPENING that writes these records: none of them is there yet, or the first of them
abbrev pub IsOfOpening : Lists → List Written → Outside → CrashState → Type 0
IsOfOpening lists xs o p = IsInOpening o p ⊎ LeavesSpelled lists xs o p
