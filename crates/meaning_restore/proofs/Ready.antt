-- Of each link that a restore gives there is a file, so that a copy can be made where there is none.
use Rattle.std.proofs.Common.{◌≡◌, ℕ, true, Option, Some, None, is_some, refl}
use Rattle.std.specs.FinMap as maps
use Rattle.dl_base.specs.declared.file.File.{File}
use Rattle.meaning_merge.proofs.MovedLaws.{in-on}
use Rattle.meaning_merge.proofs.Paths.{numbered-in}
use Rattle.meaning_settling.specs.Apart.{IsReady}
use Rattle.meaning_settling.specs.Settling.{Copy, first_copy}
use Rattle.meaning_settling.proofs.KeyedLaws.{false_true}
use Rattle.meaning_tables.specs.Links.{links}
use Rattle.meaning_tables.specs.Tables.{Tables}
use Rattle.meaning_system.specs.Machine.{restore_moved, restore_to}
use Rattle.meaning_system.specs.State.{State, kept_in, tables_of}
use Rattle.meaning_restore.proofs.Let.{IsLet, given, given-link, last-paths}

some-copy : (c : Option Copy) (o : Option File) → is_some o ≡ true → is_some (first_copy c o) ≡ true
some-copy (Some c) o e = refl
some-copy None (Some x) e = refl
some-copy None None e = absurd (false_true e)

pub given-ready : (first : ℕ) (s : State) (target : Tables) → IsLet first s target → IsReady (restore_moved s (restore_to s target)) (kept_in s)
given-ready first s target has n g found recovery =
    let there = numbered-in (given first s target has) n g found in
    some-copy (maps.get s.copies n) (maps.get s.files g.path) (has.whole.files g.path g (in-on (links (tables_of s)) g (last-paths first s target has) (given-link first s target has g there.0).0))
