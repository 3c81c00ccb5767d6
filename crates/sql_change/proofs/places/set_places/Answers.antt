use Rattle.std.proofs.Common.{◌≡◌, ◌+◌, ℕ, true, false, List, bytes_eq, drop, take, Ok, Err, sym, ap, ◌∙◌, rules, arith}
use Rattle.std.specs.List.{list_any}
use Rattle.dl_base.specs.declared.sql_fault.SqlFault.TheVariants as faults
use Rattle.meaning_statements.specs.Changing.{place_named}
use Rattle.sql_change.proofs.Columns.{left}
use Rattle.sql_change.proofs.Naming.{placed, named_again, one_named, taken}
use Rattle.std.proofs.lemmas.Grind.{common_steps}
use Rattle.sql_change.proofs.places.set_places.Goals as goal

pub returns-then-stood_before : goal.returns-then-stood_before
returns-then-stood_before c memory =
    let i = c.loop-i.i in
    let before = take i c.args.names.now in
    let rest = drop (i + 1) c.args.names.now in
    let stood : list_any (bytes_eq c.name-item.result) before ≡ true = search rules in
    let here : place_named c.name-item.result 0 c.args.columns.now ≡ Ok c.in_ok-place.place = search rules in
    let at = left c.as_slice-name-items.result.now c.args.names.now i c.name-item.result c.as_slice-name-items.ensures c.loop-i-test.true c.name-item.is in
    sym c.loop-i.invariant ∙ ap (λ (ns : List (List ℕ)). placed c.args.columns.now c.loop-i.places before ns) at
    ∙ named_again c.args.columns.now c.loop-i.places before c.name-item.result rest c.in_ok-place.place here stood ∙ ap (λ (m : List ℕ). Err (faults.Ambiguous m)) (sym c.in_ok-copy.ensures)

pub loop-i-preserved : goal.loop-i-preserved
loop-i-preserved c =
    let i = c.loop-i.i in
    let before = take i c.args.names.now in
    let rest = drop (i + 1) c.args.names.now in
    let new : list_any (bytes_eq c.name-item.result) before ≡ false = search rules in
    let here : place_named c.name-item.result 0 c.args.columns.now ≡ Ok c.in_ok-place.place = search rules in
    let at = left c.as_slice-name-items.result.now c.args.names.now i c.name-item.result c.as_slice-name-items.ensures c.loop-i-test.true c.name-item.is in
    let more = taken c.as_slice-name-items.result.now c.args.names.now i c.name-item.result c.as_slice-name-items.ensures c.loop-i-test.true c.name-item.is in
    rw (c.in_ok-push.ensures.ok, more) (one_named c.args.columns.now c.loop-i.places before c.name-item.result rest c.in_ok-place.place here new)
    ∙ ap (λ (ns : List (List ℕ)). placed c.args.columns.now c.loop-i.places before ns) (sym at) ∙ c.loop-i.invariant

pub stood_before-requires : goal.stood_before-requires
stood_before-requires c = grind (arith, common_steps)

pub returns : goal.returns
returns c = grind (arith, common_steps)

pub returns-in_err-place : goal.returns-in_err-place
returns-in_err-place c = grind (arith, common_steps)
