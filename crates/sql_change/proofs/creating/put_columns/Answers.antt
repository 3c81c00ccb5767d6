use Rattle.std.proofs.Common.{◌≡◌, ◌+◌, ℕ, true, false, List, Ok, Err, bytes_eq, drop, sym, ap, ◌∙◌, rules, arith}
use Rattle.std.specs.List.{list_any}
use Rattle.dl_base.specs.declared.column.Column.{Column}
use Rattle.dl_base.specs.declared.sql_fault.SqlFault.TheVariants as faults
use Rattle.dl_base.specs.declared.statement.ColumnDef.{ColumnDef}
use Rattle.meaning_statements.specs.Creating.{kind_made, rules_fit}
use Rattle.sql_change.proofs.Columns.{made_of, name_again, bad_kind, bad_rules, one_column, left}
use Rattle.std.proofs.lemmas.Grind.{common_steps}
use Rattle.sql_change.proofs.Reversed.{any_named}
use Rattle.sql_change.proofs.creating.put_columns.Goals as goal

pub returns-then-stands : goal.returns-then-stands
returns-then-stands c memory =
    let d = c.def-item.result in
    let made = c.loop-def.made in
    let stood : list_any (λ (x : Column). bytes_eq d.name x.name) made ≡ true = search rules in
    let at = left c.as_slice-def-items.result.now c.args.defs.now c.loop-def.def-index d c.as_slice-def-items.ensures c.loop-def-test.true c.def-item.is in
    sym c.loop-def.invariant ∙ ap (λ (ds : List ColumnDef). made_of made c.loop-def.keyed ds) at ∙ name_again made c.loop-def.keyed d (drop (c.loop-def.def-index + 1) c.args.defs.now) stood
    ∙ ap (λ (n : List ℕ). Err (faults.Ambiguous n)) (sym c.in_ok-copy.ensures)

pub loop-def-preserved : goal.loop-def-preserved
loop-def-preserved c =
    let d = c.def-item.result in
    let made = c.loop-def.made in
    let new : list_any (λ (x : Column). bytes_eq d.name x.name) made ≡ false = search rules in
    let kind : kind_made d.name d.kind ≡ Ok c.in-Ok.kind = search rules in
    let fit : rules_fit c.loop-def.keyed d c.in-Ok.kind ≡ true = search rules in
    let at = left c.as_slice-def-items.result.now c.args.defs.now c.loop-def.def-index d c.as_slice-def-items.ensures c.loop-def-test.true c.def-item.is in
    let rest = drop (c.loop-def.def-index + 1) c.args.defs.now in
    rw (c.in_ok-push.ensures.ok, c.is_keyed-keyed.ensures) (one_column made c.loop-def.keyed d rest c.in-Ok.kind _ new kind fit (search rules))
    ∙ ap (λ (ds : List ColumnDef). made_of made c.loop-def.keyed ds) (sym at) ∙ c.loop-def.invariant

pub returns-then-not-rules_fit : goal.returns-then-not-rules_fit
returns-then-not-rules_fit c memory =
    let d = c.def-item.result in
    let made = c.loop-def.made in
    let new : list_any (λ (x : Column). bytes_eq d.name x.name) made ≡ false = search rules in
    let kind : kind_made d.name d.kind ≡ Ok c.in-Ok.kind = search rules in
    let fit : rules_fit c.loop-def.keyed d c.in-Ok.kind ≡ false = search rules in
    let at = left c.as_slice-def-items.result.now c.args.defs.now c.loop-def.def-index d c.as_slice-def-items.ensures c.loop-def-test.true c.def-item.is in
    sym c.loop-def.invariant ∙ ap (λ (ds : List ColumnDef). made_of made c.loop-def.keyed ds) at
    ∙ bad_rules made c.loop-def.keyed d (drop (c.loop-def.def-index + 1) c.args.defs.now) c.in-Ok.kind new kind fit

pub returns-in-Err : goal.returns-in-Err
returns-in-Err c memory =
    let d = c.def-item.result in
    let made = c.loop-def.made in
    let new : list_any (λ (x : Column). bytes_eq d.name x.name) made ≡ false = search rules in
    let at = left c.as_slice-def-items.result.now c.args.defs.now c.loop-def.def-index d c.as_slice-def-items.ensures c.loop-def-test.true c.def-item.is in
    sym c.loop-def.invariant ∙ ap (λ (ds : List ColumnDef). made_of made c.loop-def.keyed ds) at
    ∙ bad_kind made c.loop-def.keyed d (drop (c.loop-def.def-index + 1) c.args.defs.now) c.in-Err.fault new (c.in-Err.ensures.made memory)

pub returns : goal.returns
returns c = grind (arith, common_steps, any_named)
