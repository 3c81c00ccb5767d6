use Rattle.std.proofs.Common.{◌≡◌, ◌≤◌, length, Result, Option, arith, sym, ap, ◌∙◌, subst}
use Rattle.std.specs.Prelude.{map}
use Rattle.std.proofs.lemmas.List.{drop_all}
use Rattle.dl_base.specs.declared.column.Options.{Options}
use Rattle.dl_base.specs.declared.sql_fault.SqlFault.{SqlFault}
use Rattle.dl_base.specs.declared.value.Row.{Row}
use Rattle.dl_base.specs.declared.value.Value.{Value}
use Rattle.dl_base.specs.declared.value.Value.TheVariants as values
use Rattle.meaning_sql.specs.Datalinks.{datalink}
use Rattle.meaning_sql.specs.Faults.{◌>>=◌, Computes}
use Rattle.meaning_sql.specs.Operators.{binary, gather, gathered}
use Rattle.meaning_sql.specs.Values.{Denotation}
use Rattle.sql_expr.specs.Combining.{combined_row}
use Rattle.sql_operators.specs.Seeing.{seen}
use Rattle.sql_operators.specs.Unary.{unary_value}
use Rattle.sql_expr.specs.Trees.{said, said_value}
use Rattle.sql_operators.specs.declared.seen.Seen.{Seen}
use Rattle.sql_expr.specs.declared.tree.Tree.{Tree}
use Rattle.sql_expr.proofs.Combining.{alone}
use Rattle.sql_expr.proofs.Equations.{said-Aggregate, said-Binary, said-Dlvalue, said-Unary}
use Rattle.sql_expr.proofs.Gathering.{next_more, next_refused}
use Rattle.sql_expr.proofs.evaluation.+value_over.Goals as goal

pub returns-in-Unary : goal.returns-in-Unary
returns-in-Unary t c =
    let context = c.args.context.now in
    let group = c.args.group.now in
    let row = combined_row c.args.row.now in
    let op = c.in-Unary.op in
    let inner = c.in-Unary.inner in
    let under = c.under.ensures context group ∙ ap (λ (a : Tree). (said context group a).under) c.get-operand.ensures in
    let whole = ap (λ (y : Tree). said_value context group y row) c.in-Unary.is ∙ ap (λ (d : Denotation). d.at row) (said-Unary context group op inner) in
    let is =
    ap (λ (a : Tree). said_value context group a row >>= unary_value context c.under.result op) c.get-operand.ensures
    ∙ ap (λ (o : Option Options). said_value context group inner row >>= unary_value context o op) under
    ∙ sym whole in
    subst (λ (r : Result Value SqlFault). Computes seen c.unary.result r) is (c.unary.ensures (said_value context group c.get-operand.result.now row) c.value_over-x.ensures)

pub returns-in-Refused : goal.returns-in-Refused
returns-in-Refused t c = λ other.
    let context = c.args.context.now in
    let group = c.args.group.now in
    let row = combined_row c.args.row.now in
    let at = λ (a : Tree). said_value context group a row in
    let op = c.in-Binary.op in
    let a = c.in-Binary.left in
    let b = c.in-Binary.right in
    let whole = ap at c.in-Binary.is ∙ ap (λ (d : Denotation). d.at row) (said-Binary context group op a b) in
    let refused = subst (λ (r : Result Seen SqlFault). Computes seen r (at c.get.result.now)) c.in-Refused.ensures c.value_over.ensures in
    whole
    ∙ ap (λ (e : Tree). at e >>= λ x. binary op x (at b)) (sym c.get.ensures)
    ∙ ap (λ (r : Result Value SqlFault). r >>= λ x. binary op x (at b)) (refused other)

pub returns-in-Decided : goal.returns-in-Decided
returns-in-Decided t c =
    let context = c.args.context.now in
    let group = c.args.group.now in
    let row = combined_row c.args.row.now in
    let at = λ (a : Tree). said_value context group a row in
    let op = c.in-Binary.op in
    let a = c.in-Binary.left in
    let b = c.in-Binary.right in
    let whole = ap at c.in-Binary.is ∙ ap (λ (d : Denotation). d.at row) (said-Binary context group op a b) in
    let known = c.in-Decided.ensures in
    let left = subst (λ (r : Result Seen SqlFault). Computes seen r (at c.get.result.now)) known.1 c.value_over.ensures in
    whole
    ∙ ap (λ (e : Tree). at e >>= λ x. binary op x (at b)) (sym c.get.ensures)
    ∙ ap (λ (r : Result Value SqlFault). r >>= λ x. binary op x (at b)) left
    ∙ known.2 (at b)

pub returns-in-Asks : goal.returns-in-Asks
returns-in-Asks t c =
    let context = c.args.context.now in
    let group = c.args.group.now in
    let row = combined_row c.args.row.now in
    let at = λ (a : Tree). said_value context group a row in
    let op = c.in-Binary.op in
    let a = c.in-Binary.left in
    let b = c.in-Binary.right in
    let b0 = c.get-in-Asks.result.now in
    let x = seen c.in-Asks.x in
    let known = c.in-Asks.ensures in
    let whole = ap at c.in-Binary.is ∙ ap (λ (d : Denotation). d.at row) (said-Binary context group op a b) in
    let left = subst (λ (r : Result Seen SqlFault). Computes seen r (at c.get.result.now)) known.0 c.value_over.ensures in
    let is =
    sym (known.1 (at b0))
    ∙ ap (λ (e : Tree). binary op x (at e)) c.get-in-Asks.ensures
    ∙ sym (ap (λ (r : Result Value SqlFault). r >>= λ y. binary op y (at b)) left)
    ∙ ap (λ (e : Tree). at e >>= λ y. binary op y (at b)) c.get.ensures
    ∙ sym whole in
    subst (λ (r : Result Value SqlFault). Computes seen c.after.result r) is (c.after.ensures.value (at b0) c.value_over-in-Asks.ensures)

pub returns-in-Err : goal.returns-in-Err
returns-in-Err t c = λ other.
    let context = c.args.context.now in
    let group = c.args.group.now in
    let row = combined_row c.args.row.now in
    let fold = c.in-Aggregate.fold in
    let inner = c.in-Aggregate.inner in
    let one = c.one-item.result in
    let at = said_value context group inner in
    let is_one : combined_row c.extended-alone.result ≡ one = alone c.empty-none.result c.extended-alone.result one c.empty-none.ensures c.extended-alone.ensures in
    let made = c.in-Err.ensures (said_value context group c.get-in-rows.result.now (combined_row c.extended-alone.result)) c.value_over-in-rows.ensures other in
    let step = ap (λ (a : Tree). said_value context group a one >>= gather fold c.rows.so_far) (sym c.get-in-rows.ensures) ∙ ap (λ (r : Row). said_value context group c.get-in-rows.result.now r >>= gather fold c.rows.so_far) (sym is_one) ∙ made in
    let whole = ap (λ (y : Tree). said_value context group y row) c.in-Aggregate.is ∙ ap (λ (d : Denotation). d.at row) (said-Aggregate context group fold inner) in
    whole ∙ next_refused at fold group c.rows.one-index one c.rows.so_far (gathered fold values.Null (map at group)) c.rows-test.true c.one-item.is c.rows.invariant c.in-Err.fault step

pub rows-preserved : goal.rows-preserved
rows-preserved t c =
    let context = c.args.context.now in
    let group = c.args.group.now in
    let fold = c.in-Aggregate.fold in
    let inner = c.in-Aggregate.inner in
    let one = c.one-item.result in
    let at = said_value context group inner in
    let is_one : combined_row c.extended-alone.result ≡ one = alone c.empty-none.result c.extended-alone.result one c.empty-none.ensures c.extended-alone.ensures in
    let made = c.in-Ok.ensures (said_value context group c.get-in-rows.result.now (combined_row c.extended-alone.result)) c.value_over-in-rows.ensures in
    let step = ap (λ (a : Tree). said_value context group a one >>= gather fold c.rows.so_far) (sym c.get-in-rows.ensures) ∙ ap (λ (r : Row). said_value context group c.get-in-rows.result.now r >>= gather fold c.rows.so_far) (sym is_one) ∙ made in
    next_more at fold group c.rows.one-index one c.rows.so_far (gathered fold values.Null (map at group)) c.rows-test.true c.one-item.is c.rows.invariant c.in-Ok.more step

pub returns-after-rows : goal.returns-after-rows
unfolding gathered
returns-after-rows t c =
    let context = c.args.context.now in
    let group = c.args.group.now in
    let at = said_value context group c.in-Aggregate.inner in
    let past : length group ≤ c.rows.one-index = omega arith in
    let e = ap (λ xs. gathered c.in-Aggregate.fold c.rows.so_far (map at xs)) (sym (drop_all c.rows.one-index group past)) ∙ c.rows.invariant in
    ap (λ (x : Tree). said_value context group x (combined_row c.args.row.now)) c.in-Aggregate.is
    ∙ ap (λ (d : Denotation). d.at (combined_row c.args.row.now)) (said-Aggregate context group c.in-Aggregate.fold c.in-Aggregate.inner) ∙ sym e

pub returns-in-Dlvalue : goal.returns-in-Dlvalue
returns-in-Dlvalue t c =
    let context = c.args.context.now in
    let group = c.args.group.now in
    let row = combined_row c.args.row.now in
    let at = λ (a : Tree). said_value context group a row in
    let a0 = c.get-in-Dlvalue.result.now in
    let b0 = c.get-in-Dlvalue-2.result.now in
    let c0 = c.get-in-Dlvalue-3.result.now in
    let a = c.in-Dlvalue.location in
    let b = c.in-Dlvalue.linktype in
    let d = c.in-Dlvalue.comment in
    let whole = ap at c.in-Dlvalue.is ∙ ap (λ (d : Denotation). d.at row) (said-Dlvalue context group a b d) in
    let is =
    ap (λ (e : Tree). at e >>= λ x. at b0 >>= λ y. at c0 >>= λ z. datalink context.server x y z) c.get-in-Dlvalue.ensures
    ∙ ap (λ (e : Tree). at a >>= λ x. at e >>= λ y. at c0 >>= λ z. datalink context.server x y z) c.get-in-Dlvalue-2.ensures
    ∙ ap (λ (e : Tree). at a >>= λ x. at b >>= λ y. at e >>= λ z. datalink context.server x y z) c.get-in-Dlvalue-3.ensures
    ∙ sym whole in
    subst (λ (r : Result Value SqlFault). Computes seen c.link_of.result r) is (c.link_of.ensures (at a0) (at b0) (at c0) c.value_over-x-in-Dlvalue.ensures c.value_over-y.ensures c.value_over-z.ensures)
