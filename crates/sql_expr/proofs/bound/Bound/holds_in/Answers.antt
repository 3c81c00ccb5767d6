use Rattle.std.proofs.Common.{[], Ok, subst}
use Rattle.meaning_sql.specs.Conditions.{is_true}
use Rattle.meaning_sql.specs.Faults.{◌>>=◌, Computes}
use Rattle.meaning_sql.specs.Values.{Denotation}
use Rattle.sql_expr.specs.Combining.{combined_row}
use Rattle.sql_expr.proofs.Trees.{bound_means}
use Rattle.sql_expr.proofs.bound.Bound.holds_in.Goals as goal

pub returns : goal.returns
returns c =
    let b = c.self.inside in
    subst (λ (d : Denotation). Computes (λ b. b) c.holds_in.result (d.at (combined_row c.args.row.now) >>= λ v. Ok (is_true v)))
    (bound_means c.args.context.now [] b.tree b.columns.now b.expr.now c.args.self.now c.self.invariant c.self.view_is) c.holds_in.ensures
