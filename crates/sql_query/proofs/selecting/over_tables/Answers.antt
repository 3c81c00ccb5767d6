use Rattle.std.proofs.Common.{List, sym, subst}
use Rattle.meaning_statements.specs.Sources.{Source}
use Rattle.sql_join.specs.Walking.{AllFit}
use Rattle.sql_query.proofs.Fitting.{sources_fit}
use Rattle.sql_query.proofs.selecting.over_tables.Goals as goal

pub selected-requires : goal.selected-requires
selected-requires c =
    let fit = sources_fit c.args.tables.now c.requires c.as_slice.result.now c.in_ok-sources.sources c.in_ok-sources.ensures in
    subst (λ (sources : List Source). AllFit sources) (sym c.as_slice-2.ensures) fit
