-- What areas stand for that are open.
use Rattle.std.proofs.Common.{◌≡◌, inr, ◌+◌, ◌<◌, ℕ, List, Some, Result, Ok, refl, sym, ◌∙◌, ap, subst, arith}
use Rattle.dl_areas.specs.Lists.{AreKept, HasLists, Journals, Lists, puts}
use Rattle.dl_areas.specs.Opening.{AreOpened, journals_with}
use Rattle.dl_areas.specs.Writing.{Does, fitting}
use Rattle.dl_base.specs.Areas.{area_number}
use Rattle.dl_base.specs.Outside.{CrashState, Now, Outside}
use Rattle.dl_base.specs.declared.area.Area.{Area}
use Rattle.dl_base.specs.declared.area.Area.TheVariants as areas
use Rattle.dl_base.specs.declared.fault.AppendFault.TheVariants as appends
use Rattle.dl_base.specs.declared.fault.Full.{Full}
use Rattle.dl_journal.specs.Records.{records, size}
use Rattle.fm_manager.specs.Managed.{as_writes}
use Rattle.meaning_areas.specs.Areas.{Areas, AreasStand, IsUnlike, StandForNothing, area_length, backups_of, branches_of, bytes_of, copies_of, folds_of, listed, rows_of}
use Rattle.meaning_areas.specs.FilesArea.{files_of}
use Rattle.meaning_areas.specs.Lists.{Folds}
use Rattle.meaning_areas.specs.Stands.{IsStand, stored_of}
use Rattle.meaning_files.specs.Files.{Files}
use Rattle.meaning_system.specs.Writes.{opening}
use Rattle.sys_opening.specs.Begun.{AreFound}
use Rattle.sys_owners.proofs.Placing.{its-area}
use Rattle.sys_owners.specs.Owned.{AreFolded, AreTold, Owned, journals_of}
use Rattle.sys_owners.proofs.Reading.{all-read, read-ok}

under : (a : Area) → area_number a < 5
under areas.Rows = omega arith
under areas.Links = omega arith
under areas.Files = omega arith
under areas.Archive = omega arith
under areas.Backups = omega arith

module _ (limit : ℕ) (js : Journals) (lists : Lists) (o n : Outside) (all : AreOpened 5 limit js lists o n) (x : Areas) (told : AreTold x o) where
  pub list-at : (a : Area) → records (bytes_of x a) ≡ Ok (lists a)
  list-at a = (all.opened a (under a)).is_list (bytes_of x a) (told a)

  pub folds-told : (f : Folds) → AreFolded lists f → folds_of x ≡ Ok f
  folds-told f folded = all-read x
      f.rows (read-ok rows_of areas.Rows (records x.rows) (lists areas.Rows) f.rows (list-at areas.Rows) folded.rows)
      f.links (read-ok branches_of areas.Links (records x.links) (lists areas.Links) f.links (list-at areas.Links) folded.links)
      f.files (read-ok files_of areas.Files (records x.files) (lists areas.Files) f.files (list-at areas.Files) folded.files)
      f.copies (read-ok copies_of areas.Archive (records x.archive) (lists areas.Archive) f.copies (list-at areas.Archive) folded.copies)
      f.backups (read-ok backups_of areas.Backups (records x.backups) (lists areas.Backups) f.backups (list-at areas.Backups) folded.backups)

  pub length-told : (a : Area) → (js a).length ≡ area_length (bytes_of x a)
  length-told a = (all.opened a (under a)).keeps.length ∙ ap (λ (r : Result (List (List ℕ)) ℕ). size (listed r) + 1) (sym (list-at a))

  -- one that does not fit the others
  pub unlike-told : (f : Folds) → AreFolded lists f → (a : Area) (place : ℕ) → IsUnlike f a → place ≡ (js a).length → StandForNothing x (a, place)
  unlike-told f folded a place unlike is = inr (f, folds-told f folded, unlike, is ∙ length-told a)

  -- where they fit each other, they stand for what that is
  pub stand-told : (f : Folds) → AreFolded lists f → IsStand f (stored_of f) → AreasStand x (stored_of f)
  stand-told f folded stand = record { folds = f; are = folds-told f folded; stand = stand }

  -- and they are found
  pub found-told : (f : Folds) → AreFolded lists f → IsStand f (stored_of f) → AreFound lists f o
  found-told f folded stand = record { read = λ a. (bytes_of x a, told a, list-at a); folded = folded; stand = stand }

-- a record of the opening has no room: a crash leaves those before it, behind the lists that were read
pub full-there : (limit : ℕ) (js : Journals) (u : Owned) (lists read : Lists) (f h : Folds) (m n : Outside) (full : Full) → js ≡ journals_with limit lists → lists ≡ read → f ≡ h → AreKept js lists m
    → Does js (journals_of u) (as_writes (opening f)) (Some (appends.Full full)) m n → (p : CrashState) → Now n p → HasLists (puts (fitting (journals_with limit read) (as_writes (opening h))) read) p
full-there limit js u lists read f h m n full journals is folds kept does p now =
    subst (λ (g : Folds). HasLists (puts (fitting (journals_with limit read) (as_writes (opening g))) read) p) folds
    (subst (λ (ls : Lists). HasLists (puts (fitting (journals_with limit ls) (as_writes (opening f))) ls) p) is
    (subst (λ (ks : Journals). HasLists (puts (fitting ks (as_writes (opening f))) lists) p) journals there))
  where
    there : HasLists (puts (fitting js (as_writes (opening f))) lists) p
    there a = (does.before full refl lists kept a).images (p.areas a) (let I : Area → Type 0 = λ b. n.image b (p.areas a) in subst I (sym (its-area u a)) (now.areas a))
