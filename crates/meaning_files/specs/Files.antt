-- What files are, and what changes make of them.
use Rattle.std.specs.Prelude.{Some, None, ℕ, List, [], ◌∷◌, Option, refl, Bool, option_and_then}
use Rattle.std.specs.Coded.{Coded, code_by, coded×, coded_ℕ, coded_list, coded_bool, coded_option}
use Rattle.std.specs.Cmp.Lexicographic.{slice_cmp}
use Rattle.std.specs.FinMap as maps
use Rattle.std.specs.Ordering.{nat_cmp}
use Rattle.dl_base.specs.declared.file.File.{File}
use Rattle.dl_base.specs.declared.file.FileChange.{FileChange}
use Rattle.dl_base.specs.declared.file.FileChange.TheVariants as changes
use Rattle.dl_base.specs.declared.file.Owner.{Owner}

-- Files by their paths, in the order of the paths' bytes.
abbrev pub Files : Type 0
Files = maps.FinMap (slice_cmp nat_cmp) File

abbrev pub owner_code : Coded Owner
owner_code = code_by (List ℕ × Bool) (coded× (coded_list coded_ℕ) coded_bool) (λ o. (o.name, o.writable)) (λ p. record { name = p.0; writable = p.1 }) (λ _. refl)

abbrev pub file_code : Coded File
file_code =
    code_by (Owner × (List ℕ × Option Owner)) (coded× owner_code (coded× (coded_list coded_ℕ) (coded_option owner_code)))
    (λ f. (f.owner, (f.bytes, f.before))) (λ p. record { owner = p.0; bytes = p.1.0; before = p.1.1 }) (λ _. refl)

abbrev pub files_code : Coded Files
files_code = maps.code (coded_list coded_ℕ) file_code

-- the files with a new owner and a new saved owner at a path where there is a file
abbrev pub with_owner : Files → List ℕ → Owner → Option Owner → Option File → Files
with_owner files path owner before None = files
with_owner files path owner before (Some file) = maps.insert files path (record { owner = owner; bytes = file.bytes; before = before })

-- a removal and new owners ask for a file that is there
abbrev pub if_there : Option File → Files → Option Files
if_there (Some file) later = Some later
if_there None later = None

abbrev pub with_change : Files → FileChange → Option Files
with_change files (changes.Removed path) = if_there (maps.get files path) (maps.remove files path)
with_change files (changes.Put row) = Some (maps.insert files row.path row.file)
with_change files (changes.Kept path owner before) = if_there (maps.get files path) (with_owner files path owner before (maps.get files path))

-- the files after some changes, one after the other
abbrev pub with_changes : Files → List FileChange → Option Files
with_changes files [] = Some files
with_changes files (c ∷ cs) = option_and_then (λ later. with_changes later cs) (with_change files c)
