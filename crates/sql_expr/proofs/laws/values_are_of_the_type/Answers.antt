use Rattle.std.proofs.lemmas.List.Elements.{recursion_from_All}
use Rattle.meaning_sql.specs.Fitting.{FitsColumns}
use Rattle.sql_expr.proofs.Typing.{kept}
use Rattle.sql_expr.proofs.laws.values_are_of_the_type.Goals as goal

pub returns : goal.returns
returns c columns context group row s e t h fits all = kept columns context group (recursion_from_All (FitsColumns columns) group all) e s t row h fits
