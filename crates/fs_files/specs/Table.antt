-- What a table of files is seen as.
use Rattle.std.specs.Prelude.{ℕ, refl}
use Rattle.std.specs.Coded.{Coded, code_by, coded×, coded_ℕ}
use Rattle.meaning_files.specs.Files.{Files, files_code}

-- the files, and for how many more there is room
pub record Table : Type 0 where
  pub files : Files
  pub spare : ℕ

abbrev pub table_code : Coded Table
table_code = code_by (Files × ℕ) (coded× files_code coded_ℕ) (λ t. (t.files, t.spare)) (λ p. record { files = p.0; spare = p.1 }) (λ _. refl)
