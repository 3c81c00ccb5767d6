use Rattle.std.proofs.Common.{◌≡◌, ◌==◌, ◌+◌, List, length, drop, Err, sym, ap, ◌∙◌, arith, rules}
use Rattle.std.proofs.lemmas.List.{drop_all}
use Rattle.dl_base.specs.declared.sql_fault.SqlFault.TheVariants as faults
use Rattle.dl_base.specs.declared.statement.Expr.{Expr}
use Rattle.meaning_sql.specs.Faults.{ensure}
use Rattle.sql_change.specs.Steps.{cleared}
use Rattle.sql_change.proofs.Clearing.{pass_each, stop_each, stops_first}
use Rattle.sql_change.proofs.Columns.{left}
use Rattle.std.proofs.lemmas.Grind.{common_steps}
use Rattle.sql_change.proofs.places.check_lengths.Goals as goal

pub returns-then-len-count : goal.returns-then-len-count
returns-then-len-count c =
    let bad : ensure (length c.tuple-item.result == length c.args.places.now) faults.Arity ≡ Err faults.Arity = search rules in
    let at = left c.as_slice-tuple-items.result.now c.args.tuples.now c.loop-tuple.tuple-index c.tuple-item.result c.as_slice-tuple-items.ensures c.loop-tuple-test.true c.tuple-item.is in
    stop_each (λ (es : List Expr). ensure (length es == length c.args.places.now) faults.Arity) c.args.tuples.now faults.Arity
    (sym c.loop-tuple.invariant ∙ ap (λ (ts : List (List Expr)). cleared (λ (es : List Expr). ensure (length es == length c.args.places.now) faults.Arity) ts) at
    ∙ stops_first (λ (es : List Expr). ensure (length es == length c.args.places.now) faults.Arity) c.tuple-item.result (drop (c.loop-tuple.tuple-index + 1) c.args.tuples.now) faults.Arity bad)

pub returns : goal.returns
returns c =
    let none = drop_all c.loop-tuple.tuple-index c.args.tuples.now (omega (arith, ap length c.as_slice-tuple-items.ensures)) in
    pass_each (λ (es : List Expr). ensure (length es == length c.args.places.now) faults.Arity) c.args.tuples.now
    (sym c.loop-tuple.invariant ∙ ap (λ (ts : List (List Expr)). cleared (λ (es : List Expr). ensure (length es == length c.args.places.now) faults.Arity) ts) none)

pub loop-tuple-preserved : goal.loop-tuple-preserved
loop-tuple-preserved c = grind (arith, common_steps)
