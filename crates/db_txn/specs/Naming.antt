-- The tables that the sources of a query name.
use Rattle.std.specs.Prelude.{ℕ, List, map}
use Rattle.dl_base.specs.declared.statement.TableRef.{TableRef}

abbrev pub names_of : List TableRef → List (List ℕ)
names_of from = map (λ t. t.table) from
