-- Columns that CREATE TABLE could have made, asked without the definitions that it would have made them of.
use Rattle.std.specs.Prelude.{◌&&◌, ◌||◌, Bool, true, not, List, [], ◌∷◌, nat_lt, nat_le}
use Rattle.dl_base.specs.Limits.{most_varchar_bytes}
use Rattle.dl_base.specs.declared.column.Column.{Column}
use Rattle.dl_base.specs.declared.column.Kind.{Kind}
use Rattle.dl_base.specs.declared.column.Kind.TheVariants as kinds
use Rattle.meaning_statements.specs.Assigning.{is_plain}
use Rattle.meaning_statements.specs.Creating.{is_datalink}
use Rattle.meaning_tables.specs.Fits.{is_key}
use Rattle.meaning_tables.specs.OptionRows.{is_option_row}

-- a length from 1 to 4,000 bytes, options that are one of the seven rows
abbrev pub kind_stands : Kind → Bool
kind_stands kinds.Int = true
kind_stands (kinds.Text most) = nat_lt 0 most && nat_le most most_varchar_bytes
kind_stands kinds.Free = true
kind_stands (kinds.Linked options) = is_option_row options

-- a DATALINK has no rule, and no second column is a key; `keyed` is whether a key column stood before
abbrev pub rule_stands : Bool → Column → Bool
rule_stands keyed c = not (is_datalink c.kind && not (is_plain c.rule)) && not (keyed && is_key c.rule)

abbrev pub rules_stand : Bool → List Column → Bool
rules_stand keyed [] = true
rules_stand keyed (c ∷ cs) = kind_stands c.kind && rule_stands keyed c && rules_stand (keyed || is_key c.rule) cs
