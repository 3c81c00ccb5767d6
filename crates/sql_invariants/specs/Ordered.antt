-- Tables under different names, whose row numbers rise.
use Rattle.std.specs.Prelude.{◌==◌, map}
use Rattle.std.specs.Cmp.Lexicographic.{pointwise}
use Rattle.std.specs.List.{All, IsDistinct}
use Rattle.meaning_tables.specs.Tables.{Tables, IsNumbered}

pub record AreOrdered (tables : Tables) : Type 0 where
  pub names : IsDistinct (pointwise ◌==◌) (map (λ t. t.0) tables)
  pub numbers : All (λ t. IsNumbered t.1) tables
