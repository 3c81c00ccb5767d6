use Rattle.std.proofs.Common.{◌≡◌, None, subst, sym, ap, ◌∙◌}
use Rattle.dl_base.specs.declared.value.Value.TheVariants as values
use Rattle.dl_pages.specs.Entries.{IsLeast}
use Rattle.sql_table.specs.Keys.{key_order}
use Rattle.meaning_tables.specs.First.{first_number, has_key}
use Rattle.meaning_tables.specs.Tables.{Rows}
use Rattle.sql_table.proofs.Asking.{first_int, first_text, first_null, first_datalink}
use Rattle.sql_table.proofs.table.Table.by_key.Goals as goal

pub returns-in-Int : goal.returns-in-Int
returns-in-Int c =
    let kept = c.self.invariant in
    let t = c.self.inside in
    subst (λ (t : Rows). c.least.result ≡ first_number (has_key t.columns c.args.key.now) t.rows) c.self.view_is
    (subst (λ v. c.least.result ≡ first_number (has_key t.columns v) t.rows) (sym c.in-Int.is)
    (first_int c.in-Int.z t.columns t.next t.rows t.keys c.least.result kept.rise kept.keys
    (subst (λ k. IsLeast key_order t.keys k c.least.result) c.number_probe.ensures (c.least.ensures kept.keys.sorted))))

pub returns-in-Text : goal.returns-in-Text
returns-in-Text c =
    let kept = c.self.invariant in
    let t = c.self.inside in
    subst (λ (t : Rows). c.least-in-Text.result ≡ first_number (has_key t.columns c.args.key.now) t.rows) c.self.view_is
    (subst (λ v. c.least-in-Text.result ≡ first_number (has_key t.columns v) t.rows) (ap (λ s. values.Text s) c.bytes.ensures ∙ sym c.in-Text.is)
    (first_text c.bytes.result.now t.columns t.next t.rows t.keys c.least-in-Text.result kept.rise kept.keys
    (subst (λ k. IsLeast key_order t.keys k c.least-in-Text.result) c.text_probe.ensures (c.least-in-Text.ensures kept.keys.sorted))))

pub returns-in-Null : goal.returns-in-Null
returns-in-Null c = subst (λ v. None ≡ first_number (has_key c.args.self.now.columns v) c.args.self.now.rows) (sym c.in-Null.is) (first_null c.args.self.now.columns c.args.self.now.rows)

pub returns-in-Link : goal.returns-in-Link
returns-in-Link c = subst (λ v. None ≡ first_number (has_key c.args.self.now.columns v) c.args.self.now.rows) (sym c.in-Link.is) (first_datalink c.in-Link.field-0 c.args.self.now.columns c.args.self.now.rows)
