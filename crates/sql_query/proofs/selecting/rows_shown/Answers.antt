use Rattle.std.proofs.Common.{◌≡◌, ℕ, ◌++◌, Bool, List, Result, Ok, ap, ◌∙◌, subst}
use Rattle.dl_base.specs.declared.sql_fault.SqlFault.{SqlFault}
use Rattle.dl_base.specs.declared.statement.Item.{Item}
use Rattle.dl_base.specs.declared.value.Row.{Row}
use Rattle.meaning_sql.specs.Faults.{◌>>=◌, option_list}
use Rattle.meaning_statements.specs.Selecting.{combined, is_grouped}
use Rattle.sql_join.specs.Keeping.{kept_of}
use Rattle.sql_query.specs.Answering.{answers_of, answers_held}
use Rattle.sql_query.specs.Folding.{folding, items_of}
use Rattle.sql_query.specs.Grouping.{places_apart}
use Rattle.sql_query.proofs.Folds.{shown-is, held_shown, few_combined}
use Rattle.sql_query.proofs.selecting.rows_shown.Goals as goal

pub returns-in-Ok : goal.returns-in-Ok
returns-in-Ok c =
    let a = c.args in
    let q = a.query.now in
    let folds = folding q in
    let apart = places_apart (is_grouped q) a.places.now in
    let conditions = q.conditions ++ option_list q.filter in
    let m : Result (List Row) SqlFault = combined a.sources.now a.context.now conditions in
    let items = c.folded_items-items.ensures ∙ ap (λ (b : Bool). items_of b q.items) c.is_folding-folds.ensures in
    let by_folds = subst (λ (b : Bool). (m >>= λ rows. Ok (kept_of a.columns.now a.context.now c.folded_items-items.result.now b c.places_apart-apart.result.now rows)) ≡ Ok c.in-Ok.kept) c.is_folding-folds.ensures c.in-Ok.ensures in
    let by_items = subst (λ (xs : List Item). (m >>= λ rows. Ok (kept_of a.columns.now a.context.now xs folds c.places_apart-apart.result.now rows)) ≡ Ok c.in-Ok.kept) items by_folds in
    let h = subst (λ (ps : List ℕ). (m >>= λ rows. Ok (kept_of a.columns.now a.context.now (items_of folds q.items) folds ps rows)) ≡ Ok c.in-Ok.kept) c.places_apart-apart.ensures by_items in
    shown-is (kept_of a.columns.now a.context.now (items_of folds q.items) folds apart) m c.in-Ok.kept c.shown.result (answers_of a.columns.now a.context.now q a.places.now) (answers_held a.columns.now a.context.now q a.places.now) h
    (λ rows e. held_shown a.columns.now a.context.now q a.places.now rows (few_combined a.sources.now a.context.now conditions rows c.requires.few e)) c.shown.ensures
