-- What a table keeps of its rows, as they come, change and go.
use Rattle.std.proofs.Common.{◌≡◌, ℕ, ◌+◌, Some, List, [], ◌∷◌, ◌++◌, Result, Ok, IfOk, sym, subst, arith}
use Rattle.std.proofs.lemmas.Result.{IfOk-at_ok}
use Rattle.dl_base.specs.declared.column.Column.{Column}
use Rattle.dl_base.specs.declared.value.LinkNo.{LinkNo}
use Rattle.dl_base.specs.declared.value.Row.{Row}
use Rattle.dl_pages.specs.Orders.{link_order}
use Rattle.meaning_tables.specs.Tables.{row_of, with_row, without_row}
use Rattle.sql_table.specs.KeySeen.{Key}
use Rattle.sql_table.specs.Keys.{key_order, key_marks}
use Rattle.sql_table.specs.Marks.{IsKept, OtherMarks, WithMarks, WithoutMarks, link_marks}
use Rattle.sql_table.proofs.Marking.{index_none, index_inserted, index_exchanged, index_removed}
use Rattle.sql_table.proofs.Numbers.{rise-inserted, rise-replaced, rise-removed}

pub kept_new : (columns : List Column) (rows : List (ℕ × Row)) (links : List (LinkNo × ℕ)) (keys : List (Key × ℕ)) → rows ≡ [] → links ≡ [] → keys ≡ [] → IsKept columns 1 rows links keys
kept_new columns rows links keys e none nil = subst (λ rs. IsKept columns 1 rs links keys) (sym e) (record { rise = tt; links = index_none link_order (link_marks columns) links none; keys = index_none key_order (key_marks columns) keys nil })

pub kept_pushed : (columns : List Column) (next : ℕ) (rows after : List (ℕ × Row)) (links new : List (LinkNo × ℕ)) (keys renewed : List (Key × ℕ)) (row : Row) (marks : List LinkNo) (own : List Key) → IsKept columns next rows links keys
    → marks ≡ link_marks columns row → WithMarks link_order marks next links new → own ≡ key_marks columns row → WithMarks key_order own next keys renewed → after ≡ rows ++ (next, row) ∷ [] → IsKept columns (next + 1) after new renewed
kept_pushed columns next rows after links new keys renewed row marks own kept is more are plus e =
    subst (λ rs. IsKept columns (next + 1) rs new renewed) (sym e) (record {
      rise = rise-inserted 0 next rows row (omega arith) kept.rise;
      links = index_inserted link_order (link_marks columns) next rows row links new kept.rise kept.links (subst (λ ms. WithMarks link_order ms next links new) is more);
      keys = index_inserted key_order (key_marks columns) next rows row keys renewed kept.rise kept.keys (subst (λ ms. WithMarks key_order ms next keys renewed) are plus);
    })

pub kept_replaced : (columns : List Column) (next number : ℕ) (rows after : List (ℕ × Row)) (links new : List (LinkNo × ℕ)) (keys renewed : List (Key × ℕ)) (before row : Row) (old marks : List LinkNo) (past own : List Key) → IsKept columns next rows links keys
    → row_of rows number ≡ Some before → old ≡ link_marks columns before → marks ≡ link_marks columns row → OtherMarks link_order old marks number links new
    → past ≡ key_marks columns before → own ≡ key_marks columns row → OtherMarks key_order past own number keys renewed
    → after ≡ with_row rows number row → IsKept columns next after new renewed
kept_replaced columns next number rows after links new keys renewed before row old marks past own kept at was is other were are others e =
    subst (λ rs. IsKept columns next rs new renewed) (sym e) (record {
      rise = rise-replaced 0 next number rows row kept.rise;
      links = index_exchanged link_order (link_marks columns) number rows row before links new at kept.links (subst (λ ms. OtherMarks link_order (link_marks columns before) ms number links new) is (subst (λ ms. OtherMarks link_order ms marks number links new) was other));
      keys = index_exchanged key_order (key_marks columns) number rows row before keys renewed at kept.keys (subst (λ ms. OtherMarks key_order (key_marks columns before) ms number keys renewed) are (subst (λ ms. OtherMarks key_order ms own number keys renewed) were others));
    })

pub kept_removed : (columns : List Column) (next number : ℕ) (rows after : List (ℕ × Row)) (links new : List (LinkNo × ℕ)) (keys renewed : List (Key × ℕ)) (before : Row) (old : List LinkNo) (past : List Key) → IsKept columns next rows links keys
    → row_of rows number ≡ Some before → old ≡ link_marks columns before → WithoutMarks link_order old number links new → past ≡ key_marks columns before → WithoutMarks key_order past number keys renewed → after ≡ without_row rows number → IsKept columns next after new renewed
kept_removed columns next number rows after links new keys renewed before old past kept at was less were minus e =
    subst (λ rs. IsKept columns next rs new renewed) (sym e) (record {
      rise = rise-removed 0 next number rows kept.rise;
      links = index_removed link_order (link_marks columns) next number rows before links new kept.rise at kept.links (subst (λ ms. WithoutMarks link_order ms number links new) was less);
      keys = index_removed key_order (key_marks columns) next number rows before keys renewed kept.rise at kept.keys (subst (λ ms. WithoutMarks key_order ms number keys renewed) were minus);
    })

-- rows that were made, beside the indexes that stood before them
pub kept_joined : {E : Type 0} (columns : List Column) (next : ℕ) (made : Result (List (ℕ × Row)) E) (indexes : List (LinkNo × ℕ) × List (Key × ℕ)) (rows : List (ℕ × Row)) (links : List (LinkNo × ℕ)) (keys : List (Key × ℕ))
    → (made ≡ Ok rows) × (indexes ≡ (links, keys)) → IfOk made (λ rs. IsKept columns next rs indexes.0 indexes.1) → IsKept columns next rows links keys
kept_joined columns next made indexes rows links keys are kept =
    subst (λ (i : List (LinkNo × ℕ) × List (Key × ℕ)). IsKept columns next rows i.0 i.1) are.1 (IfOk-at_ok (λ rs. IsKept columns next rs indexes.0 indexes.1) are.0 kept)
