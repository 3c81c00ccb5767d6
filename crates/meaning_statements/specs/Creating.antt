-- The columns that CREATE TABLE makes.
use Rattle.std.specs.Prelude.{ℕ, ◌+◌, ◌&&◌, ◌||◌, Bool, true, false, not, List, [], ◌∷◌, bytes_eq, Result, Ok, Err, if◌then◌else◌, nat_le, nat_lt, pos, negsuc, ℤ}
use Rattle.std.specs.List.{list_any}
use Rattle.dl_base.specs.Limits.{most_varchar_bytes}
use Rattle.dl_base.specs.declared.column.Column.{Column}
use Rattle.dl_base.specs.declared.column.ColumnRule.{ColumnRule}
use Rattle.dl_base.specs.declared.column.ColumnRule.TheVariants as rules
use Rattle.dl_base.specs.declared.column.Kind.{Kind}
use Rattle.dl_base.specs.declared.column.Kind.TheVariants as kinds
use Rattle.dl_base.specs.declared.column.OnUnlink.TheVariants as unlink
use Rattle.dl_base.specs.declared.column.Options.{Options}
use Rattle.dl_base.specs.declared.column.ReadBy.TheVariants as read
use Rattle.dl_base.specs.declared.column.WriteBy.TheVariants as write
use Rattle.dl_base.specs.declared.sql_fault.SqlFault.{SqlFault}
use Rattle.dl_base.specs.declared.sql_fault.SqlFault.TheVariants as faults
use Rattle.dl_base.specs.declared.statement.ColumnDef.{ColumnDef}
use Rattle.dl_base.specs.declared.statement.Integrity.{Integrity}
use Rattle.dl_base.specs.declared.statement.Integrity.TheVariants as integrity
use Rattle.dl_base.specs.declared.statement.KindDef.{KindDef}
use Rattle.dl_base.specs.declared.statement.KindDef.TheVariants as defs
use Rattle.meaning_sql.specs.Faults.{◌>>=◌, ensure}
use Rattle.meaning_tables.specs.OptionRows.{is_option_row}

-- MODE DB2OPTIONS
abbrev pub db2_options : Options
db2_options = record { read = read.Fs; write = write.Fs; recovery = false; unlink = unlink.Nothing }

abbrev pub is_all : Integrity → Bool
is_all integrity.All = true
is_all integrity.Selective = false
is_all integrity.Nothing = false

-- INTEGRITY ALL and one of the seven rows
abbrev pub controlled : Integrity → Options → Result Kind SqlFault
controlled kept options = if is_all kept && is_option_row options then Ok (kinds.Linked options) else Err faults.BadOptions

-- a length from 1 to 4,000 bytes
abbrev pub text_kind : List ℕ → ℤ → Result Kind SqlFault
text_kind name (pos n) = if nat_lt 0 n && nat_le n most_varchar_bytes then Ok (kinds.Text n) else Err (faults.TooLong name)
text_kind name (negsuc n) = Err (faults.TooLong name)

abbrev pub kind_made : List ℕ → KindDef → Result Kind SqlFault
kind_made name defs.Integer = Ok kinds.Int
kind_made name (defs.Varchar n) = text_kind name n
kind_made name defs.Free = Ok kinds.Free
kind_made name defs.Db2 = Ok (kinds.Linked db2_options)
kind_made name (defs.Chosen kept r w recovery u) = controlled kept (record { read = r; write = w; recovery = recovery; unlink = u })

abbrev pub is_datalink : Kind → Bool
is_datalink kinds.Free = true
is_datalink (kinds.Linked options) = true
is_datalink kinds.Int = false
is_datalink (kinds.Text most) = false

-- no rule is written twice, a DATALINK has none, and no second column is a key
abbrev pub rules_fit : Bool → ColumnDef → Kind → Bool
rules_fit keyed d kind = nat_le d.not_null 1 && nat_le d.key 1 && not (is_datalink kind && nat_lt 0 (d.not_null + d.key)) && not (keyed && nat_lt 0 d.key)

abbrev pub rule_made : ColumnDef → ColumnRule
rule_made d = if nat_lt 0 d.key then rules.Key else (if nat_lt 0 d.not_null then rules.NotNull else rules.Plain)

-- Columns in order: a name that stood before, then a length, then options and rules. `keyed` is whether a key column stood before.
abbrev pub columns_made : List (List ℕ) → Bool → List ColumnDef → Result (List Column) SqlFault
columns_made seen keyed [] = Ok []
columns_made seen keyed (d ∷ ds) =
    ensure (not (list_any (bytes_eq d.name) seen)) (faults.Ambiguous d.name) >>= λ u.
    kind_made d.name d.kind >>= λ kind.
    ensure (rules_fit keyed d kind) faults.BadOptions >>= λ v.
    columns_made (d.name ∷ seen) (keyed || nat_lt 0 d.key) ds >>= λ cs.
    Ok (record { name = d.name; kind = kind; rule = rule_made d } ∷ cs)
