use Rattle.std.proofs.Common.{◌≡◌, ◌+◌, ◌≤◌, ◌∷◌, ℕ, true, false, List, [], All, None, Err, length, refl, sym, ap, ◌∙◌, subst, arith, rules}
use Rattle.std.specs.Vec.Iter.{into_iter_items}
use Rattle.std.proofs.lemmas.List.Elements.{All-head, All-tail}
use Rattle.dl_base.specs.Limits.{most_rows, row_numbers}
use Rattle.dl_base.specs.declared.column.Column.{Column}
use Rattle.dl_base.specs.declared.sql_fault.SqlFault.TheVariants as faults
use Rattle.dl_base.specs.declared.value.Row.{Row}
use Rattle.meaning_statements.specs.Changing.{keys_hold}
use Rattle.meaning_tables.specs.Fits.{repeated}
use Rattle.meaning_tables.specs.Tables.{Rows, with_inserted}
use Rattle.sql_keys.specs.Keys.{IsKeyAt}
use Rattle.sql_rows.specs.NewRows.{counted}
use Rattle.sql_change.specs.Parts.{grown_table}
use Rattle.sql_change.proofs.Adding.{is_refused, none_repeated, one_grown, push_length, still_none}
use Rattle.sql_change.proofs.Standing.{has_key_column}
use Rattle.std.proofs.lemmas.Grind.{common_steps}
use Rattle.sql_change.proofs.inserting.put_keyed_rows.Goals as goal

pub loop-row-init : goal.loop-row-init
loop-row-init c =
    let t = c.args.made.now in
    let items : into_iter_items c.into_iter-row-iterator.result ≡ c.args.more = search rules in
    record {
      few = rw items c.requires.few;
      small = rw items c.requires.small;
      all = rw items refl;
      columns = refl;
      none = none_repeated t c.requires.fits (has_key_column t.columns c.args.place c.requires.key);
      wide = subst (λ (rs : List Row). All (λ r. length r.values ≡ length t.columns) rs) (sym items) c.requires.wide;
    }

pub returns-then-stands-clause-keys : goal.returns-then-stands-clause-keys
returns-then-stands-clause-keys c = λ other.
    let t = c.args.made.now in
    let made = c.loop-row.made in
    let row = c.in-Some.row in
    let rest = into_iter_items c.next.new.self in
    let items : into_iter_items c.loop-row.row-iterator ≡ row ∷ rest = search rules in
    let at = subst (λ (cs : List Column). IsKeyAt cs c.args.place) (sym c.loop-row.invariant.columns) c.requires.key in
    let all = subst (λ (rs : List Row). All (λ r. length r.values ≡ length t.columns) rs) items c.loop-row.invariant.wide in
    let wide = All-head (λ (r : Row). length r.values ≡ length t.columns) row rest all ∙ sym (ap (λ (cs : List Column). length cs) c.loop-row.invariant.columns) in
    let there : c.stands.result ≡ true = search rules in
    let number : c.next_number.result ≡ made.next = search rules in
    ap (λ (x : Rows). keys_hold x) (sym c.loop-row.invariant.all)
    ∙ ap (λ (rs : List Row). keys_hold (grown_table made (counted made.next rs) (length rs))) items
    ∙ is_refused made c.args.place at row wide c.loop-row.invariant.none (λ key is. sym there ∙ c.stands.ensures key is) made.next (made.next + length (row ∷ rest)) (counted (made.next + 1) rest)
    ∙ ap (λ (n : ℕ). Err (faults.DupKey n)) (sym number)

pub loop-row-preserved : goal.loop-row-preserved
loop-row-preserved c =
    let t = c.args.made.now in
    let made = c.loop-row.made in
    let row = c.in-Some.row in
    let rest = into_iter_items c.next.new.self in
    let items : into_iter_items c.loop-row.row-iterator ≡ row ∷ rest = search rules in
    let at = subst (λ (cs : List Column). IsKeyAt cs c.args.place) (sym c.loop-row.invariant.columns) c.requires.key in
    let all = subst (λ (rs : List Row). All (λ r. length r.values ≡ length t.columns) rs) items c.loop-row.invariant.wide in
    let wide = All-head (λ (r : Row). length r.values ≡ length t.columns) row rest all ∙ sym (ap (λ (cs : List Column). length cs) c.loop-row.invariant.columns) in
    let new : c.stands.result ≡ false = search rules in
    let put : c.put_next.new.self ≡ with_inserted made row = search rules in
    record {
      few = omega (arith, ap (λ (x : Rows). length x.rows) put ∙ push_length made.rows (made.next, row), subst (λ (rs : List Row). length made.rows + length rs ≤ most_rows) items c.loop-row.invariant.few);
      small = omega (arith, ap (λ (x : Rows). x.next) put, subst (λ (rs : List Row). made.next + length rs ≤ row_numbers) items c.loop-row.invariant.small);
      all = ap (λ (x : Rows). grown_table x (counted x.next rest) (length rest)) put
          ∙ one_grown made row rest
          ∙ ap (λ (rs : List Row). grown_table made (counted made.next rs) (length rs)) (sym items)
          ∙ c.loop-row.invariant.all;
      columns = ap (λ (x : Rows). x.columns) put ∙ c.loop-row.invariant.columns;
      none = subst (λ (x : Rows). repeated x.columns [] x.rows ≡ None) (sym put) (still_none made c.args.place at row wide c.loop-row.invariant.none (λ key is. sym new ∙ c.stands.ensures key is) made.next);
      wide = All-tail (λ (r : Row). length r.values ≡ length t.columns) row rest all;
    }

pub returns-clause-table : goal.returns-clause-table
returns-clause-table c = grind (arith, common_steps)

pub put_next-requires-clause-small : goal.put_next-requires-clause-small
put_next-requires-clause-small c = grind (arith, common_steps)

pub returns-clause-keys : goal.returns-clause-keys
returns-clause-keys c = grind (arith, common_steps)

pub put_next-requires-clause-few : goal.put_next-requires-clause-few
put_next-requires-clause-few c = grind (arith, common_steps)
