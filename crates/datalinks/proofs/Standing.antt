-- Areas that were found stand for something.
use Rattle.std.proofs.Common.{◌≡◌, ⊎_elim, ℕ, List, Some, sym, ap, ◌∙◌, subst, Result, Ok, Err, arith}
use Rattle.dl_areas.specs.Lists.{Lists}
use Rattle.dl_base.specs.Outside.{AtEveryMoment, CrashState, IsLawful, Outside}
use Rattle.dl_base.specs.declared.area.Area.{Area}
use Rattle.dl_base.specs.declared.area.Area.TheVariants as areas
use Rattle.dl_journal.specs.Records.{records}
use Rattle.meaning_areas.proofs.Tables.{some_same}
use Rattle.meaning_areas.specs.Areas.{Areas, AreasStand, ComparesAt, IsUnlike, area_length, backups_of, branches_of, bytes_of, copies_of, folds_of, rows_of}
use Rattle.meaning_areas.specs.FilesArea.{files_of}
use Rattle.meaning_areas.specs.Lists.{Folds}
use Rattle.meaning_areas.specs.Stands.{Stored, stored_of}
use Rattle.sys_owners.proofs.Reading.{all-read, read-ok}
use Rattle.sys_opening.specs.Begun.{AreFound}
use Rattle.sys_owners.specs.Owned.{AreTold}
use Rattle.sys_recovery.specs.Left.{areas_of}
use Rattle.sys_reopening.specs.Again.{EveryImageStands}
use Rattle.datalinks.specs.Run.{Begun, IsInside, IsNoStore}

module _ (lists : Lists) (f : Folds) (o : Outside) (found : AreFound lists f o) where
  -- their bytes
  abbrev pub bytes : Areas
  bytes = record { rows = (found.read areas.Rows).0; links = (found.read areas.Links).0; files = (found.read areas.Files).0; archive = (found.read areas.Archive).0; backups = (found.read areas.Backups).0 }

  are-told : AreTold bytes o
  are-told areas.Rows = (found.read areas.Rows).1
  are-told areas.Links = (found.read areas.Links).1
  are-told areas.Files = (found.read areas.Files).1
  are-told areas.Archive = (found.read areas.Archive).1
  are-told areas.Backups = (found.read areas.Backups).1

  same-bytes : (a : Area) (told : List ℕ) → o.reads a ≡ Some told → (found.read a).0 ≡ told
  same-bytes a told is = some_same (found.read a).0 told (sym (found.read a).1 ∙ is)

  folds-are : (x : Areas) → AreTold x o → folds_of x ≡ Ok f
  folds-are x told = all-read x
      f.rows (read-ok rows_of areas.Rows (records x.rows) (lists areas.Rows) f.rows (list areas.Rows) found.folded.rows)
      f.links (read-ok branches_of areas.Links (records x.links) (lists areas.Links) f.links (list areas.Links) found.folded.links)
      f.files (read-ok files_of areas.Files (records x.files) (lists areas.Files) f.files (list areas.Files) found.folded.files)
      f.copies (read-ok copies_of areas.Archive (records x.archive) (lists areas.Archive) f.copies (list areas.Archive) found.folded.copies)
      f.backups (read-ok backups_of areas.Backups (records x.backups) (lists areas.Backups) f.backups (list areas.Backups) found.folded.backups)
    where
      list : (a : Area) → records (bytes_of x a) ≡ Ok (lists a)
      list a = ap records (sym (same-bytes a (bytes_of x a) (told a))) ∙ (found.read a).2

  pub found-stands : (x : Areas) → AreTold x o → (s : Stored) × AreasStand x s
  found-stands x told = (stored_of f, record { folds = f; are = folds-are x told; stand = found.stand })

  -- so they are a store
  compares : (a : Area) → ComparesAt f a
  compares areas.Rows = tt
  compares areas.Links = (
    record {
      distinct = found.stand.compares.distinct;
      moved = found.stand.compares.moved;
      branches = found.stand.compares.branches;
      decided = found.stand.compares.decided;
      ended = found.stand.compares.ended;
      apart = found.stand.compares.apart;
      ready = tt;
      held = found.stand.compares.held;
      numbers = found.stand.compares.numbers;
      drawn_commits = found.stand.compares.drawn_commits;
      drawn_branches = found.stand.compares.drawn_branches;
    },
    found.stand.whole.paths,
    found.stand.whole.one_path,
  )
  compares areas.Files = found.stand.whole.files
  compares areas.Archive = (found.stand.compares.ready, found.stand.whole.copies, found.stand.whole.archived, found.stand.whole.bytes)
  compares areas.Backups = found.stand.whole.backups

  pub found-store : (n : Outside) (area : Area) (place : ℕ) → IsNoStore area place o n → ⊥
  found-store n area place none = ⊎_elim
      (λ (bad : folds_of bytes ≡ Err (area, place)). no-fault f (area, place) (sym (folds-are bytes are-told) ∙ bad))
      (λ (unlike : (h : Folds) × (folds_of bytes ≡ Ok h) × IsUnlike h area × (place ≡ area_length (bytes_of bytes area))).
      let same : unlike.0 ≡ f = one-fold unlike.0 f (sym unlike.1 ∙ folds-are bytes are-told) in
      unlike.2.here (subst (λ (h : Folds). ComparesAt h area) (sym same) (compares area)))
      (none.nothing bytes are-told)
    where
      no-fault : (h : Folds) (at : Area × ℕ) → ◌≡◌ {A = Result Folds (Area × ℕ)} (Ok h) (Err at) → ⊥
      no-fault h at e = cc

      one-fold : (h k : Folds) → ◌≡◌ {A = Result Folds (Area × ℕ)} (Ok h) (Ok k) → h ≡ k
      one-fold h k e = cc

-- WHAT A RUN LEAVES, however it ends, opens again
pub inside-stands : (run : Begun) (o n : Outside) → IsLawful o → AtEveryMoment (IsInside run o) o n → EveryImageStands o → ((p : CrashState) → IsInside run o p → (x : Stored) × AreasStand (areas_of p) x)
    → (p : CrashState) → n.since o.moment p → (x : Stored) × AreasStand (areas_of p) x
inside-stands run o n law moments every inside p left = ⊎_elim
    (λ (was : o.since o.moment p). every p.areas (law.only_now p was).areas)
    (λ (now : IsInside run o p). inside p now)
    (moments.since o.moment p (omega arith) left)

pub untouched-stands : (o : Outside) → IsLawful o → EveryImageStands o → (p : CrashState) → o.since o.moment p → (x : Stored) × AreasStand (areas_of p) x
untouched-stands o law every p left = every p.areas (law.only_now p left).areas
