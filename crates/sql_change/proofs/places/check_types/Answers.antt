use Rattle.std.proofs.Common.{◌≡◌, ℕ, List, length, drop, Err, sym, ap, ◌∙◌, arith}
use Rattle.std.specs.List.{zip}
use Rattle.std.proofs.lemmas.Grind.{common_steps}
use Rattle.std.proofs.lemmas.List.{drop_all}
use Rattle.dl_base.specs.declared.sql_fault.SqlFault.TheVariants as faults
use Rattle.meaning_sql.specs.declared.SqlType.{SqlType}
use Rattle.meaning_sql.specs.Faults.{typed}
use Rattle.meaning_statements.specs.Assigning.{is_assignable, kind_of_column}
use Rattle.sql_change.specs.Steps.{cleared}
use Rattle.sql_change.proofs.Clearing.{pass_each, stop_each, zip_none}
use Rattle.sql_change.proofs.places.check_types.Goals as goal

pub returns-then-given-i : goal.returns-then-given-i
returns-then-given-i c =
    let none = zip_none (drop c.loop-i.i c.args.places.now) (drop c.loop-i.i c.args.types.now) (drop_all c.loop-i.i c.args.types.now (omega (arith, ap length c.as_slice-given.ensures))) in
    pass_each (λ (p : ℕ × SqlType). typed (is_assignable (kind_of_column c.args.columns.now p.0) p.1) p.1) (zip c.args.places.now c.args.types.now) (sym c.loop-i.invariant ∙ ap (λ (ps : List (ℕ × SqlType)). cleared (λ (p : ℕ × SqlType). typed (is_assignable (kind_of_column c.args.columns.now p.0) p.1) p.1) ps) none)

pub returns-then-not-is_assignable : goal.returns-then-not-is_assignable
returns-then-not-is_assignable c =
    let stop : cleared (λ (p : ℕ × SqlType). typed (is_assignable (kind_of_column c.args.columns.now p.0) p.1) p.1) (zip (drop c.loop-i.i c.args.places.now) (drop c.loop-i.i c.args.types.now)) ≡ Err faults.TypeFault = grind (arith, common_steps) in
    stop_each (λ (p : ℕ × SqlType). typed (is_assignable (kind_of_column c.args.columns.now p.0) p.1) p.1) (zip c.args.places.now c.args.types.now) faults.TypeFault (sym c.loop-i.invariant ∙ stop)

pub returns : goal.returns
returns c =
    let none = drop_all c.loop-i.i c.args.places.now (omega (arith, ap length c.as_slice-place-items.ensures)) in
    pass_each (λ (p : ℕ × SqlType). typed (is_assignable (kind_of_column c.args.columns.now p.0) p.1) p.1) (zip c.args.places.now c.args.types.now)
    (sym c.loop-i.invariant ∙ ap (λ (ps : List ℕ). cleared (λ (p : ℕ × SqlType). typed (is_assignable (kind_of_column c.args.columns.now p.0) p.1) p.1) (zip ps (drop c.loop-i.i c.args.types.now))) none)

pub loop-i-preserved : goal.loop-i-preserved
loop-i-preserved c = grind (arith, common_steps)
