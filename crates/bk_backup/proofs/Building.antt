-- Tables that are built image by image, and the fold's one test of all images.
use Rattle.std.proofs.Common.{◌≡◌, ℕ, ◌+◌, ◌&&◌, ◌||◌, ◌==◌, Bool, true, false, not, cond, List, [], ◌∷◌, ◌++◌, length, map, bytes_eq, is_none, refl, sym, ◌∙◌, ap, arith, Option, Some, None}
use Rattle.std.proofs.lemmas.Bool.Decides.{nat_tests}
use Rattle.std.proofs.lemmas.List.{append-nil, append_assoc}
use Rattle.std.specs.Cmp.Lexicographic.{nat_list_eq_equiv}
use Rattle.std.specs.List.{list_all, list_any}
use Rattle.std.specs.Option.{option_and_then, option_map}
use Rattle.bk_backup.specs.Images.{record_of, tables_and, tables_of_images}
use Rattle.meaning_system.specs.Writes.{image_of}
use Rattle.bk_backup.specs.Saved.{with_backup}
use Rattle.bk_backup.proofs.Images.{names-back, tables-back}
use Rattle.dl_codec.specs.declared.backups.BackupRecord.TheVariants as records
use Rattle.dl_codec.specs.declared.backups.TableImage.{TableImage}
use Rattle.meaning_areas.specs.Copies.{Backup, backups_step, image_stands, table_of_image}
use Rattle.meaning_tables.specs.Fits.{differ}
use Rattle.meaning_tables.specs.Tables.{Rows, Tables, table_of}

abbrev pub names_of : List TableImage → List (List ℕ)
names_of xs = map (λ (t : TableImage). t.name) xs

-- tables with those of some images, one after another
abbrev pub tables_with : Tables → List TableImage → Option Tables
tables_with ts [] = Some ts
tables_with ts (x ∷ xs) = option_and_then (λ us. tables_with us xs) (tables_and ts x)

-- no image has the name of a table
abbrev fresh : Tables → List TableImage → Bool
fresh ts xs = list_all (λ (x : TableImage). is_none (table_of ts x.name)) xs

-- a name that no table has, with one table more
none-more : (ts : Tables) (t : List ℕ × Rows) (name : List ℕ) → is_none (table_of (ts ++ t ∷ []) name) ≡ (is_none (table_of ts name) && not (bytes_eq name t.0))
none-more [] t name = by (bytes_eq name t.0)
  where
    by : (b : Bool) → is_none (cond b (Some t.1) None) ≡ not b
    by true = refl
    by false = refl
none-more (u ∷ us) t name = by (bytes_eq name u.0) (none-more us t name)
  where
    by : (b : Bool) → is_none (table_of (us ++ t ∷ []) name) ≡ (is_none (table_of us name) && not (bytes_eq name t.0))
        → is_none (cond b (Some u.1) (table_of (us ++ t ∷ []) name)) ≡ (is_none (cond b (Some u.1) (table_of us name)) && not (bytes_eq name t.0))
    by true e = refl
    by false e = e

fresh-more : (ts : Tables) (t : List ℕ × Rows) (xs : List TableImage) → fresh (ts ++ t ∷ []) xs ≡ (fresh ts xs && not (list_any (bytes_eq t.0) (names_of xs)))
fresh-more ts t [] = refl
fresh-more ts t (x ∷ xs) =
    (λ i. none-more ts t x.name i && fresh-more ts t xs i)
    ∙ ap (λ b. (is_none (table_of ts x.name) && not b) && (fresh ts xs && not (list_any (bytes_eq t.0) (names_of xs)))) (nat_list_eq_equiv.symm x.name t.0)
    ∙ by (is_none (table_of ts x.name)) (bytes_eq t.0 x.name) (fresh ts xs) (list_any (bytes_eq t.0) (names_of xs))
  where
    by : (a b d e : Bool) → ((a && not b) && (d && not e)) ≡ ((a && d) && not (b || e))
    by false b d e = refl
    by true true false e = refl
    by true true true e = refl
    by true false d e = refl

all-fresh : (xs : List TableImage) → fresh [] xs ≡ true
all-fresh [] = refl
all-fresh (x ∷ xs) = all-fresh xs

-- the test of all images at once
tables_with-is : (ts : Tables) (xs : List TableImage)
    → tables_with ts xs ≡ cond (fresh ts xs && (differ bytes_eq (names_of xs) && list_all image_stands xs)) (Some (ts ++ map table_of_image xs)) None
tables_with-is ts [] = ap (λ l. Some l) (sym (append-nil ts))
tables_with-is ts (x ∷ xs) =
    opened (is_none (table_of ts x.name) && image_stands x) (ts ++ table_of_image x ∷ []) (λ us. tables_with us xs)
    ∙ ap (λ o. cond (is_none (table_of ts x.name) && image_stands x) o None)
    (tables_with-is (ts ++ table_of_image x ∷ []) xs
    ∙ (λ i. cond (fresh-more ts (table_of_image x) xs i && (differ bytes_eq (names_of xs) && list_all image_stands xs)) (Some (append_assoc ts (table_of_image x ∷ []) (map table_of_image xs) i)) None))
    ∙ by (is_none (table_of ts x.name)) (image_stands x) (fresh ts xs) (list_any (bytes_eq x.name) (names_of xs)) (differ bytes_eq (names_of xs)) (list_all image_stands xs) (Some (ts ++ map table_of_image (x ∷ xs)))
  where
    opened : (b : Bool) (us : Tables) (f : Tables → Option Tables) → option_and_then f (cond b (Some us) None) ≡ cond b (f us) None
    opened true us f = refl
    opened false us f = refl

    by : (n s f a d l : Bool) (o : Option Tables) → cond (n && s) (cond ((f && not a) && (d && l)) o None) None ≡ cond ((n && f) && ((not a && d) && (s && l))) o None
    by false s f a d l o = refl
    by true false false a d l o = refl
    by true false true true d l o = refl
    by true false true false false l o = refl
    by true false true false true l o = refl
    by true true false a d l o = refl
    by true true true true d l o = refl
    by true true true false false l o = refl
    by true true true false true l o = refl

-- built one after another, from none on, they are the tables of all images
pub tables_with-all : (xs : List TableImage) → tables_with [] xs ≡ tables_of_images xs
tables_with-all xs =
    tables_with-is [] xs ∙ ap (λ b. cond (b && (differ bytes_eq (names_of xs) && list_all image_stands xs)) (Some (map table_of_image xs)) None) (all-fresh xs)

-- THE FOLD by the tables of the images
step-is : (backups : List Backup) (number commit : ℕ) (xs : List TableImage)
    → backups_step backups (records.Backup number commit xs) ≡ cond (number == length backups + 1) (option_map (λ ts. with_backup backups commit ts) (tables_of_images xs)) None
step-is backups number commit xs = by (number == length backups + 1) (differ bytes_eq (names_of xs)) (list_all image_stands xs)
  where
    by : (n d s : Bool) → cond ((n && d) && s) (Some (with_backup backups commit (map table_of_image xs))) None ≡ cond n (option_map (λ ts. with_backup backups commit ts) (cond (d && s) (Some (map table_of_image xs)) None)) None
    by false d s = refl
    by true false s = refl
    by true true false = refl
    by true true true = refl

module _ (backups : List Backup) (number commit : ℕ) (xs : List TableImage) where
  pub step_other : (number ≡ length backups + 1 → ⊥) → backups_step backups (records.Backup number commit xs) ≡ None
  step_other other = step-is backups number commit xs ∙ ap (λ b. cond b (option_map (λ ts. with_backup backups commit ts) (tables_of_images xs)) None) (is number (length backups + 1) other)
    where
      is : (a b : ℕ) → (a ≡ b → ⊥) → (a == b) ≡ false
      is a b e = grind (arith, nat_tests)

  pub step_next : number ≡ length backups + 1 → backups_step backups (records.Backup number commit xs) ≡ option_map (λ ts. with_backup backups commit ts) (tables_of_images xs)
  step_next next = step-is backups number commit xs ∙ ap (λ b. cond b (option_map (λ ts. with_backup backups commit ts) (tables_of_images xs)) None) (is number (length backups + 1) next)
    where
      is : (a b : ℕ) → a ≡ b → (a == b) ≡ true
      is a b e = grind (arith, nat_tests)

-- THE FOLD TAKES the record of tables whose names differ and whose images stand
pub step_takes : (backups : List Backup) (commit : ℕ) (ts : Tables) → differ bytes_eq (map (λ t. t.0) ts) ≡ true → list_all image_stands (map image_of ts) ≡ true
    → backups_step backups (record_of backups commit ts) ≡ Some (with_backup backups commit ts)
step_takes backups commit ts unlike stand =
    (λ i. cond (((is (length backups + 1) i) && names i) && stand i) (Some (with_backup backups commit (map table_of_image (map image_of ts)))) None)
    ∙ ap (λ (us : Tables). Some (with_backup backups commit us)) (tables-back ts)
  where
    is : (a : ℕ) → (a == a) ≡ true
    is a = grind (arith, nat_tests)

    names : differ bytes_eq (names_of (map image_of ts)) ≡ true
    names = ap (differ bytes_eq) (names-back ts) ∙ unlike
