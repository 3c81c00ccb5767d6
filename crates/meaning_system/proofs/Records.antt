-- The folds take the records of file commands and of backups.
use Rattle.std.proofs.Common.{◌≡◌, ℕ, ◌+◌, ◌≤◌, ◌<◌, ◌&&◌, ◌||◌, Bool, true, false, not, cond, nat_lt, nat_le, List, [], ◌∷◌, ◌++◌, length, map, bytes_eq, Some, None, refl, ◌∙◌, ap, arith}
use Rattle.std.proofs.lemmas.Bool.Decides.{nat_tests}
use Rattle.std.specs.List.{list_all, list_any}
use Rattle.dl_base.specs.declared.file.FileCmd.{FileCmd}
use Rattle.dl_base.specs.declared.value.Row.{Row}
use Rattle.dl_base.specs.declared.value.Value.{Value}
use Rattle.dl_codec.specs.declared.backups.BackupRecord.TheVariants as backup_records
use Rattle.meaning_areas.specs.Commits.{rising}
use Rattle.meaning_areas.specs.Copies.{Backup, table_of_image, image_stands, backups_step}
use Rattle.meaning_areas.proofs.FilesLaws.{command-does}
use Rattle.meaning_areas.proofs.Tables.{test-same}
use Rattle.meaning_files.specs.Commands.{command_changes}
use Rattle.meaning_files.specs.Files.{with_changes}
use Rattle.meaning_merge.specs.Merging.{AreNamed}
use Rattle.meaning_tables.specs.Fits.{differ}
use Rattle.meaning_tables.specs.Tables.{Rows, Tables, Rise, table_of}
use Rattle.meaning_system.specs.Commands.{command_refusal, forbids}
use Rattle.meaning_system.specs.Following.{AreRising}
use Rattle.meaning_system.specs.Machine.{by_refusal}
use Rattle.meaning_system.specs.State.{State}
use Rattle.meaning_system.specs.Writes.{image_of}

-- THE CHANGES OF AN ACCEPTED COMMAND are taken, and lead to the machine's files behind it
pub command-taken : (s : State) (cmd : FileCmd) → command_refusal s cmd.user cmd.what ≡ None → with_changes s.files (command_changes s.files cmd.user cmd.what) ≡ Some (by_refusal s cmd None).1.files
command-taken s cmd e = command-does s.files (forbids s cmd.what) cmd e

-- BACKUPS: a table is read as it was written

rows-back : (rs : List (ℕ × Row)) → map (λ (r : ℕ × List Value). (r.0, record { values = r.1 })) (map (λ (r : ℕ × Row). (r.0, r.1.values)) rs) ≡ rs
rows-back [] = refl
rows-back (r ∷ rs) = ap (λ (xs : List (ℕ × Row)). r ∷ xs) (rows-back rs)

table-back : (t : List ℕ × Rows) → table_of_image (image_of t) ≡ t
table-back t = ap (λ (rows : List (ℕ × Row)). (t.0, record { version = t.1.version; columns = t.1.columns; next = t.1.next; rows = rows })) (rows-back t.1.rows)

tables-back : (ts : Tables) → map table_of_image (map image_of ts) ≡ ts
tables-back [] = refl
tables-back (t ∷ ts) = λ i. table-back t i ∷ tables-back ts i

names-back : (ts : Tables) → map (λ t. t.name) (map image_of ts) ≡ map (λ t. t.0) ts
names-back [] = refl
names-back (t ∷ ts) = ap (λ (ns : List (List ℕ)). t.0 ∷ ns) (names-back ts)

all_true : (a b : Bool) → a ≡ true → b ≡ true → (a && b) ≡ true
all_true true b e f = f
all_true false b e f = absurd cc

no-table : (name : List ℕ) (ts : Tables) → table_of ts name ≡ None → list_any (bytes_eq name) (map (λ t. t.0) ts) ≡ false
no-table name [] e = refl
no-table name (t ∷ ts) e = by (bytes_eq name t.0) refl (no-table name ts) e
  where
    by : (b : Bool) → bytes_eq name t.0 ≡ b → (table_of ts name ≡ None → list_any (bytes_eq name) (map (λ x. x.0) ts) ≡ false) → cond b (Some t.1) (table_of ts name) ≡ None → (bytes_eq name t.0 || list_any (bytes_eq name) (map (λ x. x.0) ts)) ≡ false
    by true is rest e = absurd cc
    by false is rest e = ap (λ b. b || list_any (bytes_eq name) (map (λ (x : List ℕ × Rows). x.0) ts)) is ∙ rest e

names-differ : (ts : Tables) → AreNamed ts → differ bytes_eq (map (λ t. t.0) ts) ≡ true
names-differ [] named = refl
names-differ (t ∷ ts) named = all_true _ _ (ap not (no-table t.0 ts named.0)) (names-differ ts named.1)

rise-up : (first below : ℕ) (rs : List (ℕ × Row)) → Rise first below rs → rising first (map (λ (r : ℕ × List Value). r.0) (map (λ (r : ℕ × Row). (r.0, r.1.values)) rs)) ≡ true
rise-up first below [] rise = refl
rise-up first below (r ∷ rs) rise = all_true _ _ (at_least first r.0 rise.0) (rise-up (r.0 + 1) below rs rise.2)
  where
    at_least : (a b : ℕ) → a ≤ b → nat_le a b ≡ true
    at_least a b le = grind (arith, nat_tests)

rise-below : (first below : ℕ) (rs : List (ℕ × Row)) → Rise first below rs → list_all (λ (r : ℕ × List Value). nat_lt r.0 below) (map (λ (r : ℕ × Row). (r.0, r.1.values)) rs) ≡ true
rise-below first below [] rise = refl
rise-below first below (r ∷ rs) rise = all_true _ _ (less r.0 below rise.1) (rise-below (r.0 + 1) below rs rise.2)
  where
    less : (a b : ℕ) → a < b → nat_lt a b ≡ true
    less a b lt = grind (arith, nat_tests)

images-stand : (ts : Tables) → AreRising ts → list_all image_stands (map image_of ts) ≡ true
images-stand [] rise = refl
images-stand (t ∷ ts) rise = all_true _ _ (all_true _ _ (rise-up 0 t.1.next t.1.rows rise.0) (rise-below 0 t.1.next t.1.rows rise.0)) (images-stand ts rise.1)

-- THE FOLD OF BACKUPS takes a backup of tables of different names, with row numbers that rise
pub backup-taken : (backups : List Backup) (commit : ℕ) (tables : Tables) → AreNamed tables → AreRising tables
    → backups_step backups (backup_records.Backup (length backups + 1) commit (map image_of tables)) ≡ Some (backups ++ record { commit = commit; tables = tables } ∷ [])
backup-taken backups commit tables named rise =
    ap (λ b. cond b (Some (backups ++ record { commit = commit; tables = map table_of_image (map image_of tables) } ∷ [])) None)
    (all_true _ _ (all_true _ _ (test-same (length backups + 1) (length backups + 1) refl) (ap (differ bytes_eq) (names-back tables) ∙ names-differ tables named)) (images-stand tables rise))
    ∙ ap (λ (ts : Tables). Some (backups ++ record { commit = commit; tables = ts } ∷ [])) (tables-back tables)
