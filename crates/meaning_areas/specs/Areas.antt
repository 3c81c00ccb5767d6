-- What the bytes of the five areas stand for: each list by its fold, and then what is compared, in order.
use Rattle.std.specs.Prelude.{⊤, ◌≡◌, ◌⊎◌, ℕ, ◌+◌, ◌<◌, List, [], Option, Result, Ok, Err}
use Rattle.std.specs.Option.{option_and_then}
use Rattle.dl_base.specs.Areas.{area_number}
use Rattle.dl_base.specs.declared.area.Area.{Area}
use Rattle.dl_base.specs.declared.area.Area.TheVariants as areas
use Rattle.dl_codec.specs.Archive.{archive_record}
use Rattle.dl_codec.specs.Backups.{backup_record}
use Rattle.dl_codec.specs.Layout.{whole}
use Rattle.dl_codec.specs.Links.{links_record}
use Rattle.dl_codec.specs.Rows.{rows_record}
use Rattle.dl_journal.specs.Records.{records, size}
use Rattle.meaning_settling.specs.Settling.{Copies}
use Rattle.meaning_areas.specs.Branches.{Branches, no_branches, links_step}
use Rattle.meaning_areas.specs.Commits.{Commits, no_commits, rows_step}
use Rattle.meaning_areas.specs.Copies.{Backup, copies_step, backups_step}
use Rattle.meaning_areas.specs.FilesArea.{files_of}
use Rattle.meaning_areas.specs.Folds.{folded}
use Rattle.meaning_areas.specs.Lists.{Folds, no_folds}
use Rattle.meaning_areas.specs.Stands.{Stored, stored_of, Compared, AreReady, HavePaths, AreOneLink, HaveFiles, AreOfLinks, AreArchived, HaveBytes, AreOfPast, IsStand}

-- the bytes of the five areas
pub record Areas : Type 0 where
  pub rows : List ℕ
  pub links : List ℕ
  pub files : List ℕ
  pub archive : List ℕ
  pub backups : List ℕ

abbrev pub bytes_of : Areas → Area → List ℕ
bytes_of x areas.Rows = x.rows
bytes_of x areas.Links = x.links
bytes_of x areas.Files = x.files
bytes_of x areas.Archive = x.archive
bytes_of x areas.Backups = x.backups

-- One more body of an area; none where it is no record, or the fold refuses it. `files_of` has that of Files.

abbrev pub rows_body : Commits → List ℕ → Option Commits
rows_body r body = option_and_then (rows_step r) (whole rows_record body)

abbrev pub links_body : Branches → List ℕ → Option Branches
links_body l body = option_and_then (links_step l) (whole links_record body)

abbrev pub copies_body : Copies → List ℕ → Option Copies
copies_body c body = option_and_then (copies_step c) (whole archive_record body)

abbrev pub backups_body : List Backup → List ℕ → Option (List Backup)
backups_body b body = option_and_then (backups_step b) (whole backup_record body)

-- what a list of bodies stands for, or the place of the first record that is refused

abbrev pub rows_of : List (List ℕ) → Result Commits ℕ
rows_of bodies = folded rows_body 0 (Ok no_commits) bodies

abbrev pub branches_of : List (List ℕ) → Result Branches ℕ
branches_of bodies = folded links_body 0 (Ok no_branches) bodies

abbrev pub copies_of : List (List ℕ) → Result Copies ℕ
copies_of bodies = folded copies_body 0 (Ok no_folds.copies) bodies

abbrev pub backups_of : List (List ℕ) → Result (List Backup) ℕ
backups_of bodies = folded backups_body 0 (Ok []) bodies

-- an area that is no list, or whose fold refuses a record, and the place of that one's gate
abbrev pub read_by : {S : Type 0} → (List (List ℕ) → Result S ℕ) → Area → Result (List (List ℕ)) ℕ → Result S (Area × ℕ)
read_by fold area (Err place) = Err (area, place)
read_by fold area (Ok bodies) = at_area area (fold bodies)
  where
    at_area : {S : Type 0} → Area → Result S ℕ → Result S (Area × ℕ)
    at_area area (Ok s) = Ok s
    at_area area (Err place) = Err (area, place)

abbrev pub then : {A B : Type 0} → Result A (Area × ℕ) → (A → Result B (Area × ℕ)) → Result B (Area × ℕ)
then (Ok a) f = f a
then (Err e) f = Err e

-- the five lists, in the order of the areas; or the first area that is none
abbrev pub folds_of : Areas → Result Folds (Area × ℕ)
folds_of x =
    then (read_by rows_of areas.Rows (records x.rows)) (λ rows.
    then (read_by branches_of areas.Links (records x.links)) (λ links.
    then (read_by files_of areas.Files (records x.files)) (λ files.
    then (read_by copies_of areas.Archive (records x.archive)) (λ copies.
    then (read_by backups_of areas.Backups (records x.backups)) (λ backups.
    Ok (record { rows = rows; links = links; files = files; copies = copies; backups = backups }))))))

-- WHAT IS COMPARED at each area, once all are folded
abbrev pub ComparesAt : Folds → Area → Type 0
ComparesAt f areas.Rows = Unit {0}
ComparesAt f areas.Links = Compared f ⊤ × HavePaths (stored_of f) × AreOneLink (stored_of f)
ComparesAt f areas.Files = HaveFiles (stored_of f)
ComparesAt f areas.Archive = AreReady f × AreOfLinks (stored_of f) × AreArchived (stored_of f) × HaveBytes (stored_of f)
ComparesAt f areas.Backups = AreOfPast (stored_of f)

-- the first area at which the comparison fails
pub record IsUnlike (f : Folds) (area : Area) : Type 0 where
  pub before : (a : Area) → area_number a < area_number area → ComparesAt f a
  pub here : ComparesAt f area → ⊥

-- THE AREAS STAND FOR THIS stored part
pub record AreasStand (x : Areas) (s : Stored) : Type 0 where
  pub folds : Folds
  pub are : folds_of x ≡ Ok folds
  pub stand : IsStand folds s

-- an area's length, up to behind its closing gate
abbrev pub listed : Result (List (List ℕ)) ℕ → List (List ℕ)
listed (Ok bodies) = bodies
listed (Err place) = []

abbrev pub area_length : List ℕ → ℕ
area_length bytes = size (listed (records bytes)) + 1

-- AREAS THAT STAND FOR NOTHING, and the area and place that are told of them: the place of the first bad record; or the length
-- of the area at which the comparison fails
abbrev pub StandForNothing : Areas → Area × ℕ → Type 0
StandForNothing x at = (folds_of x ≡ Err at) ⊎ ((f : Folds) × (folds_of x ≡ Ok f) × IsUnlike f at.0 × (at.1 ≡ area_length (bytes_of x at.0)))
