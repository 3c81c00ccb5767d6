-- AREAS AS BYTES: what they read as where they have lists, and which lists they have where they stand for something.
use Rattle.std.proofs.Common.{◌≡◌, ℕ, List, Result, Ok, Err, refl, sym, ◌∙◌, ap, subst}
use Rattle.dl_areas.specs.Lists.{HasLists, Lists, by_area}
use Rattle.dl_base.specs.Outside.{CrashState, Outside}
use Rattle.dl_base.specs.declared.area.Area.{Area}
use Rattle.dl_base.specs.declared.area.Area.TheVariants as areas
use Rattle.dl_journal.proofs.Records.{records-at_rest}
use Rattle.dl_journal.specs.Records.{records}
use Rattle.meaning_areas.specs.Areas.{Areas, AreasStand, backups_of, branches_of, bytes_of, copies_of, folds_of, read_by, rows_of, then}
use Rattle.meaning_areas.specs.Branches.{Branches}
use Rattle.meaning_areas.specs.Commits.{Commits}
use Rattle.meaning_areas.specs.FilesArea.{files_of}
use Rattle.meaning_areas.specs.Lists.{Folds}
use Rattle.meaning_areas.specs.Stands.{IsStand, Stored, stored_of}
use Rattle.meaning_files.specs.Files.{Files}
use Rattle.meaning_opening.proofs.Plain.{some_same}
use Rattle.meaning_settling.specs.Settling.{Copies}
use Rattle.sys_owners.proofs.Reading.{all-read, read-ok}
use Rattle.sys_opening.specs.Begun.{AreFound}
use Rattle.sys_owners.specs.Owned.{AreFolded, AreTold}
use Rattle.sys_recovery.specs.Left.{areas_by, areas_of}
use Rattle.sys_reopening.specs.Again.{ReadsAs}

-- ONE OUTCOME

abbrev Told : Type 0 → Type 0
Told S = Result S (Area × ℕ)

told-same : {S : Type 0} (x y : S) → ◌≡◌ {A = Told S} (Ok x) (Ok y) → x ≡ y
told-same x y e = cc

not-told : {S : Type 0} (at : Area × ℕ) (x : S) → ◌≡◌ {A = Told S} (Err at) (Ok x) → ⊥
not-told at x e = cc

then-ok : {A B : Type 0} (r : Told A) (k : A → Told B) (b : B) → then r k ≡ Ok b → (a : A) × (r ≡ Ok a) × (k a ≡ Ok b)
then-ok (Ok a) k b is = (a, refl, is)
then-ok (Err at) k b is = absurd (not-told at b is)

fold-of : {S : Type 0} (fold : List (List ℕ) → Result S ℕ) (area : Area) (bodies : List (List ℕ)) (r : Result S ℕ) → fold bodies ≡ r → read_by fold area (Ok bodies) ≡ read_by (λ (_ : List (List ℕ)). r) area (Ok bodies)
fold-of {S} fold area bodies r is = ap (λ (v : Result S ℕ). read_by (λ (_ : List (List ℕ)). v) area (Ok bodies)) is

-- an area that reads as something has a list that folds to it
read-has : {S : Type 0} (fold : List (List ℕ) → Result S ℕ) (area : Area) (r : Result (List (List ℕ)) ℕ) (s : S) → read_by fold area r ≡ Ok s → (bodies : List (List ℕ)) × (r ≡ Ok bodies) × (fold bodies ≡ Ok s)
read-has fold area (Err place) s is = absurd (not-told (area, place) s is)
read-has {S} fold area (Ok bodies) s is = (bodies, refl, by (fold bodies) refl)
  where
    by : (v : Result S ℕ) → fold bodies ≡ v → fold bodies ≡ Ok s
    by (Ok t) e = e ∙ ap (λ (z : S). Ok z) (told-same t s (sym (fold-of fold area bodies (Ok t) e) ∙ is))
    by (Err place) e = absurd (not-told (area, place) s (sym (fold-of fold area bodies (Err place) e) ∙ is))

same-folded : (lists : Lists) (g f : Folds) → ◌≡◌ {A = Told Folds} (Ok g) (Ok f) → AreFolded lists g → AreFolded lists f
same-folded lists g f is are = subst (λ (h : Folds). AreFolded lists h) (told-same g f is) are

-- FIVE AREAS

module _ (x : Areas) where
  abbrev over-backups : Commits → Branches → Files → Copies → Told Folds
  over-backups r l f c = then (read_by backups_of areas.Backups (records x.backups)) (λ b. Ok (record { rows = r; links = l; files = f; copies = c; backups = b }))

  abbrev over-archive : Commits → Branches → Files → Told Folds
  over-archive r l f = then (read_by copies_of areas.Archive (records x.archive)) (λ c. over-backups r l f c)

  abbrev over-files : Commits → Branches → Told Folds
  over-files r l = then (read_by files_of areas.Files (records x.files)) (λ f. over-archive r l f)

  abbrev over-links : Commits → Told Folds
  over-links r = then (read_by branches_of areas.Links (records x.links)) (λ l. over-files r l)

  -- they have lists that fold to what they read as
  pub lists-of : (f : Folds) → folds_of x ≡ Ok f → (lists : Lists) × ((a : Area) → records (bytes_of x a) ≡ Ok (lists a)) × AreFolded lists f
  lists-of f is =
      let (r, rows, behind_rows) = then-ok (read_by rows_of areas.Rows (records x.rows)) over-links f is in
      let (l, links, behind_links) = then-ok (read_by branches_of areas.Links (records x.links)) (λ l. over-files r l) f behind_rows in
      let (fs, files, behind_files) = then-ok (read_by files_of areas.Files (records x.files)) (λ fs. over-archive r l fs) f behind_links in
      let (c, copies, behind_copies) = then-ok (read_by copies_of areas.Archive (records x.archive)) (λ c. over-backups r l fs c) f behind_files in
      let (b, backups, last) = then-ok (read_by backups_of areas.Backups (records x.backups)) (λ b. Ok (record { rows = r; links = l; files = fs; copies = c; backups = b })) f behind_copies in
      let (rows_list, rows_are, rows_fold) = read-has rows_of areas.Rows (records x.rows) r rows in
      let (links_list, links_are, links_fold) = read-has branches_of areas.Links (records x.links) l links in
      let (files_list, files_are, files_fold) = read-has files_of areas.Files (records x.files) fs files in
      let (copies_list, copies_are, copies_fold) = read-has copies_of areas.Archive (records x.archive) c copies in
      let (backups_list, backups_are, backups_fold) = read-has backups_of areas.Backups (records x.backups) b backups in
      let lists : Lists = by_area rows_list links_list files_list copies_list backups_list in (
        lists,
        at rows_list links_list files_list copies_list backups_list rows_are links_are files_are copies_are backups_are,
        same-folded lists (record { rows = r; links = l; files = fs; copies = c; backups = b }) f last
            (record { rows = rows_fold; links = links_fold; files = files_fold; copies = copies_fold; backups = backups_fold }),
      )
    where
      at : (r l f a b : List (List ℕ)) → records x.rows ≡ Ok r → records x.links ≡ Ok l → records x.files ≡ Ok f → records x.archive ≡ Ok a → records x.backups ≡ Ok b → (k : Area) → records (bytes_of x k) ≡ Ok (by_area r l f a b k)
      at r l f a b rows links files archive backups areas.Rows = rows
      at r l f a b rows links files archive backups areas.Links = links
      at r l f a b rows links files archive backups areas.Files = files
      at r l f a b rows links files archive backups areas.Archive = archive
      at r l f a b rows links files archive backups areas.Backups = backups

-- bytes with lists read as what these fold to
pub all-told : (x : Areas) (lists : Lists) (f : Folds) → ((a : Area) → records (bytes_of x a) ≡ Ok (lists a)) → AreFolded lists f → folds_of x ≡ Ok f
all-told x lists f list are = all-read x
    f.rows (read-ok rows_of areas.Rows (records x.rows) (lists areas.Rows) f.rows (list areas.Rows) are.rows)
    f.links (read-ok branches_of areas.Links (records x.links) (lists areas.Links) f.links (list areas.Links) are.links)
    f.files (read-ok files_of areas.Files (records x.files) (lists areas.Files) f.files (list areas.Files) are.files)
    f.copies (read-ok copies_of areas.Archive (records x.archive) (lists areas.Archive) f.copies (list areas.Archive) are.copies)
    f.backups (read-ok backups_of areas.Backups (records x.backups) (lists areas.Backups) f.backups (list areas.Backups) are.backups)

-- so does what a crash left
pub left-told : (lists : Lists) (f : Folds) (p : CrashState) → AreFolded lists f → HasLists lists p → folds_of (areas_of p) ≡ Ok f
left-told lists f p are has = all-told (areas_of p) lists f list are
  where
    list : (a : Area) → records (bytes_of (areas_of p) a) ≡ Ok (lists a)
    list areas.Rows = records-at_rest (lists areas.Rows) (p.areas areas.Rows) (has areas.Rows)
    list areas.Links = records-at_rest (lists areas.Links) (p.areas areas.Links) (has areas.Links)
    list areas.Files = records-at_rest (lists areas.Files) (p.areas areas.Files) (has areas.Files)
    list areas.Archive = records-at_rest (lists areas.Archive) (p.areas areas.Archive) (has areas.Archive)
    list areas.Backups = records-at_rest (lists areas.Backups) (p.areas areas.Backups) (has areas.Backups)

-- AREAS THAT ARE FOUND

module _ (lists : Lists) (f : Folds) (o : Outside) (found : AreFound lists f o) where
  abbrev pub found_bytes : Area → List ℕ
  found_bytes a = (found.read a).0

  pub found-are-told : AreTold (areas_by found_bytes) o
  found-are-told areas.Rows = (found.read areas.Rows).1
  found-are-told areas.Links = (found.read areas.Links).1
  found-are-told areas.Files = (found.read areas.Files).1
  found-are-told areas.Archive = (found.read areas.Archive).1
  found-are-told areas.Backups = (found.read areas.Backups).1

  -- stand for what their lists do
  pub found-stand : (x : Areas) → AreTold x o → AreasStand x (stored_of f)
  found-stand x told = record { folds = f; are = all-told x lists f list found.folded; stand = found.stand }
    where
      list : (a : Area) → records (bytes_of x a) ≡ Ok (lists a)
      list a = ap records (some_same (bytes_of x a) (found.read a).0 (sym (told a) ∙ (found.read a).1)) ∙ (found.read a).2

-- areas that stand for something are found
pub stand-found : (x : Areas) (s : Stored) (o : Outside) → AreasStand x s → AreTold x o → (lists : Lists) × (f : Folds) × AreFound lists f o × (stored_of f ≡ s)
stand-found x s o stand told =
    let (lists, list, folded) = lists-of x stand.folds stand.are in (
      lists,
      stand.folds,
      record { read = λ a. (bytes_of x a, told a, list a); folded = folded; stand = subst (λ (y : Stored). IsStand stand.folds y) stand.stand.is stand.stand },
      sym stand.stand.is,
    )

-- what is read as a crash left it
pub reads-told : (p : CrashState) (o : Outside) → ReadsAs p o → AreTold (areas_of p) o
reads-told p o reads areas.Rows = reads areas.Rows
reads-told p o reads areas.Links = reads areas.Links
reads-told p o reads areas.Files = reads areas.Files
reads-told p o reads areas.Archive = reads areas.Archive
reads-told p o reads areas.Backups = reads areas.Backups

-- some images of five areas, and their bytes
pub told-by : (x : Areas) (o : Outside) → AreTold x o → AreTold (areas_by (bytes_of x)) o
told-by x o told areas.Rows = told areas.Rows
told-by x o told areas.Links = told areas.Links
told-by x o told areas.Files = told areas.Files
told-by x o told areas.Archive = told areas.Archive
told-by x o told areas.Backups = told areas.Backups
