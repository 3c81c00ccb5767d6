-- WHAT A RESTORE OWES, all of it.
use Rattle.std.proofs.Common.{ℕ}
use Rattle.dl_base.specs.declared.step.Target.{Target}
use Rattle.meaning_areas.specs.Lists.{Folds}
use Rattle.meaning_history.specs.Sound.{AreSound}
use Rattle.meaning_system.specs.Following.{AreRestored}
use Rattle.meaning_system.specs.State.{State}
use Rattle.meaning_restore.proofs.Changes.{changes-lead}
use Rattle.meaning_restore.proofs.Drawn.{later-drawn, moved-drawn}
use Rattle.meaning_restore.proofs.Free.{all-free}
use Rattle.meaning_restore.proofs.Given.{given-committed}
use Rattle.meaning_restore.proofs.Let.{is-let, later-fits}
use Rattle.meaning_restore.proofs.Merging.{restore-merges}
use Rattle.meaning_restore.proofs.Numbers.{given-numbered}
use Rattle.meaning_restore.proofs.Ready.{given-ready}

pub all-owed : (first : ℕ) (f : Folds) (s : State) → AreSound first f s → (t : Target) → AreRestored s t
all-owed first f s sound t target none all is clear =
    let has = is-let first f s sound t target none all is in
    record {
      changes = changes-lead first s target has;
      fit = later-fits first s target has;
      given = given-committed first s target has;
      free = all-free first s target has;
      numbers = given-numbered first s target has;
      moved_drawn = moved-drawn first s target has;
      merges = restore-merges first s target has;
      ready = given-ready first s target has;
      drawn = later-drawn first s target has;
    }
