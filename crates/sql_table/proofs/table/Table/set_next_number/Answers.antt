use Rattle.std.proofs.Common.{◌≡◌, ℕ, List, nat_eq, nat_lt, true, sym, subst, ap, ◌∙◌}
use Rattle.std.specs.List.{list_all}
use Rattle.std.proofs.lemmas.Bool.{eq-eqb, ne_eqb}
use Rattle.dl_base.specs.declared.value.Row.{Row}
use Rattle.meaning_tables.specs.Tables.{Rows}
use Rattle.sql_table.proofs.Numbers.{falls}
use Rattle.sql_table.proofs.Placing.{all_at_end, kept_under, not_all_before}
use Rattle.sql_table.proofs.table.Table.set_next_number.Goals as goal

pub invariant_of-self : goal.invariant_of-self
invariant_of-self c =
    let rows = c.self.inside.rows in
    let point = c.partition_point.ensures.point (falls 0 c.self.inside.next c.args.next rows c.self.invariant.rise) in
    let all = all_at_end (λ (r : ℕ × Row). nat_lt r.0 c.args.next) rows c.partition_point.result point (c.if-above.true ∙ c.len.ensures) in
    kept_under c.self.inside.columns c.self.inside.next c.args.next rows c.self.inside.links c.self.inside.keys c.self.invariant all

pub returns-then-above-clause-above : goal.returns-then-above-clause-above
returns-then-above-clause-above c =
    let rows = c.self.inside.rows in
    let point = c.partition_point.ensures.point (falls 0 c.self.inside.next c.args.next rows c.self.invariant.rise) in
    let all = all_at_end (λ (r : ℕ × Row). nat_lt r.0 c.args.next) rows c.partition_point.result point (c.if-above.true ∙ c.len.ensures) in
    subst (λ (rs : List (ℕ × Row)). nat_eq c.partition_point.result c.len.result ≡ list_all (λ r. nat_lt r.0 c.args.next) rs) (ap (λ (t : Rows). t.rows) c.self.view_is) (eq-eqb c.partition_point.result c.len.result c.if-above.true ∙ sym all)

pub returns-else-above-clause-above : goal.returns-else-above-clause-above
returns-else-above-clause-above c =
    let rows = c.self.inside.rows in
    let point = c.partition_point.ensures.point (falls 0 c.self.inside.next c.args.next rows c.self.invariant.rise) in
    let not_all = not_all_before (λ (r : ℕ × Row). nat_lt r.0 c.args.next) rows c.partition_point.result point (λ e. c.if-above.false (e ∙ sym c.len.ensures)) in
    subst (λ (rs : List (ℕ × Row)). nat_eq c.partition_point.result c.len.result ≡ list_all (λ r. nat_lt r.0 c.args.next) rs) (ap (λ (t : Rows). t.rows) c.self.view_is) (ne_eqb c.partition_point.result c.len.result c.if-above.false ∙ sym not_all)
