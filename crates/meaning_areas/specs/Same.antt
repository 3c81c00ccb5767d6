-- Tests of equality: of options, links, owners and files, values, columns, rows and tables.
use Rattle.std.specs.Prelude.{ℕ, ◌==◌, ◌&&◌, Bool, true, false, not, bytes_eq, Option, Some, None}
use Rattle.std.specs.Cmp.Lexicographic.{pointwise}
use Rattle.std.specs.Ordering.{int_eq}
use Rattle.dl_base.specs.declared.column.Column.{Column}
use Rattle.dl_base.specs.declared.column.ColumnRule.{ColumnRule}
use Rattle.dl_base.specs.declared.column.ColumnRule.TheVariants as rules
use Rattle.dl_base.specs.declared.column.Kind.{Kind}
use Rattle.dl_base.specs.declared.column.Kind.TheVariants as kinds
use Rattle.dl_base.specs.declared.column.OnUnlink.{OnUnlink}
use Rattle.dl_base.specs.declared.column.OnUnlink.TheVariants as unlink
use Rattle.dl_base.specs.declared.column.Options.{Options}
use Rattle.dl_base.specs.declared.column.ReadBy.{ReadBy}
use Rattle.dl_base.specs.declared.column.ReadBy.TheVariants as read
use Rattle.dl_base.specs.declared.column.WriteBy.{WriteBy}
use Rattle.dl_base.specs.declared.column.WriteBy.TheVariants as write
use Rattle.dl_base.specs.declared.file.File.{File}
use Rattle.dl_base.specs.declared.file.Owner.{Owner}
use Rattle.dl_base.specs.declared.value.LinkRow.{LinkRow}
use Rattle.dl_base.specs.declared.value.Row.{Row}
use Rattle.dl_base.specs.declared.value.Value.{Value}
use Rattle.dl_base.specs.declared.value.Value.TheVariants as values
use Rattle.meaning_settling.specs.Keyed.{is_at}
use Rattle.meaning_settling.specs.Settling.{link_key}
use Rattle.meaning_tables.specs.Links.{same_number}
use Rattle.meaning_tables.specs.Tables.{Rows, Tables}

abbrev pub read_number : ReadBy → ℕ
read_number read.Fs = 0
read_number read.Db = 1

abbrev pub write_number : WriteBy → ℕ
write_number write.Fs = 0
write_number write.Blocked = 1
write_number write.Admin = 2

abbrev pub unlink_number : OnUnlink → ℕ
unlink_number unlink.Nothing = 0
unlink_number unlink.Restore = 1
unlink_number unlink.Delete = 2

abbrev pub same_truth : Bool → Bool → Bool
same_truth true b = b
same_truth false b = not b

abbrev pub same_options : Options → Options → Bool
same_options a b = (read_number a.read == read_number b.read) && (write_number a.write == write_number b.write) && same_truth a.recovery b.recovery && (unlink_number a.unlink == unlink_number b.unlink)

abbrev pub same_link : LinkRow → LinkRow → Bool
same_link a b = is_at (link_key a.link) (link_key b.link) && is_at a.path b.path && same_options a.options b.options

-- owners and files

abbrev pub same_owner : Owner → Owner → Bool
same_owner a b = bytes_eq a.name b.name && same_truth a.writable b.writable

abbrev pub same_before : Option Owner → Option Owner → Bool
same_before None None = true
same_before (Some a) (Some b) = same_owner a b
same_before None (Some b) = false
same_before (Some a) None = false

abbrev pub same_file : File → File → Bool
same_file a b = same_owner a.owner b.owner && bytes_eq a.bytes b.bytes && same_before a.before b.before

-- values, columns, rows and tables

abbrev pub same_option : {A : Type 0} → (A → A → Bool) → Option A → Option A → Bool
same_option same None None = true
same_option same (Some a) (Some b) = same a b
same_option same _ _ = false

abbrev pub same_value : Value → Value → Bool
same_value values.Null values.Null = true
same_value (values.Int a) (values.Int b) = int_eq a b
same_value (values.Text a) (values.Text b) = bytes_eq a b
same_value (values.Link a) (values.Link b) = bytes_eq a.location b.location && bytes_eq a.path b.path && bytes_eq a.comment b.comment && same_option same_number a.link b.link
same_value _ _ = false

abbrev pub same_row : ℕ × Row → ℕ × Row → Bool
same_row a b = (a.0 == b.0) && pointwise same_value a.1.values b.1.values

abbrev pub same_kind : Kind → Kind → Bool
same_kind kinds.Int kinds.Int = true
same_kind (kinds.Text a) (kinds.Text b) = a == b
same_kind kinds.Free kinds.Free = true
same_kind (kinds.Linked a) (kinds.Linked b) = same_options a b
same_kind _ _ = false

abbrev pub rule_number : ColumnRule → ℕ
rule_number rules.Plain = 0
rule_number rules.NotNull = 1
rule_number rules.Key = 2

abbrev pub same_column : Column → Column → Bool
same_column a b = bytes_eq a.name b.name && same_kind a.kind b.kind && (rule_number a.rule == rule_number b.rule)

abbrev pub same_columns : Rows → Rows → Bool
same_columns a b = pointwise same_column a.columns b.columns

abbrev pub same_rows : Rows → Rows → Bool
same_rows a b = (a.version == b.version) && same_columns a b && (a.next == b.next) && pointwise same_row a.rows b.rows

abbrev pub same_tables : Tables → Tables → Bool
same_tables a b = pointwise (λ x y. bytes_eq x.0 y.0 && same_rows x.1 y.1) a b
