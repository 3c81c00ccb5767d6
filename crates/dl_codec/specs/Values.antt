-- The layouts that the areas of tables and links share: link numbers, options, columns, values, rows and links.
use Rattle.std.specs.Prelude.{◌≡◌, ℕ, zero, suc, length, List, [], ◌∷◌, Option, Some, None, Bool, take, drop, nat_lt, if◌then◌else◌}
use Rattle.dl_base.specs.declared.column.Column.{Column}
use Rattle.dl_base.specs.declared.column.ColumnRule.{ColumnRule}
use Rattle.dl_base.specs.declared.column.ColumnRule.TheVariants as rules
use Rattle.dl_base.specs.declared.column.Kind.{Kind}
use Rattle.dl_base.specs.declared.column.Kind.TheVariants as kinds
use Rattle.dl_base.specs.declared.column.OnUnlink.{OnUnlink}
use Rattle.dl_base.specs.declared.column.OnUnlink.TheVariants as unlink
use Rattle.dl_base.specs.declared.column.Options.{Options}
use Rattle.dl_base.specs.declared.column.ReadBy.{ReadBy}
use Rattle.dl_base.specs.declared.column.ReadBy.TheVariants as read
use Rattle.dl_base.specs.declared.column.WriteBy.{WriteBy}
use Rattle.dl_base.specs.declared.column.WriteBy.TheVariants as write
use Rattle.dl_base.specs.declared.value.Dl.{Dl}
use Rattle.dl_base.specs.declared.value.LinkNo.{LinkNo}
use Rattle.dl_base.specs.declared.value.LinkRow.{LinkRow}
use Rattle.dl_base.specs.declared.value.Value.{Value}
use Rattle.dl_base.specs.declared.value.Value.TheVariants as values
use Rattle.dl_base.specs.Steps.{◌>>=◌}
use Rattle.dl_codec.specs.Layout.{Layout, behind, bare, u32, u64, i64, bool, text, path, name, option, pair, along, only}
use Rattle.meaning_tables.specs.OptionRows.{is_option_row}

-- one byte for each case of an enumeration; a case that no byte stands for has no spelling
abbrev pub case_reading : {A : Type 0} → (ℕ → Option A) → List ℕ → Option (A × List ℕ)
case_reading of [] = None
case_reading of (b ∷ rest) = of b >>= λ a. bare a rest

abbrev pub case : {A : Type 0} → (A → ℕ) → (ℕ → Option A) → Layout A
case byte of = record { spelling = λ a. byte a ∷ []; fits = λ a. of (byte a) ≡ Some a; reading = case_reading of }

-- so many bytes
abbrev pub exactly : ℕ → Layout (List ℕ)
exactly n = record {
  spelling = λ bytes. bytes;
  fits = λ bytes. length bytes ≡ n;
  reading = λ bytes. if nat_lt (length bytes) n then None else Some (take n bytes, drop n bytes);
}

-- a link number: the transaction, and the count inside it
unfoldable pub link_number : Layout LinkNo
link_number = along (λ p. record { tx = p.0; k = p.1 }) (λ l. (l.tx, l.k)) (pair u64 u32)

-- READ PERMISSION: 0 FS, 1 DB
abbrev pub read_byte : ReadBy → ℕ
read_byte read.Fs = 0
read_byte read.Db = 1

abbrev pub read_of : ℕ → Option ReadBy
read_of zero = Some read.Fs
read_of (suc zero) = Some read.Db
read_of (suc (suc b)) = None

-- WRITE PERMISSION: 0 FS, 1 BLOCKED
abbrev pub write_byte : WriteBy → ℕ
write_byte write.Fs = 0
write_byte write.Blocked = 1
write_byte write.Admin = 2

abbrev pub write_of : ℕ → Option WriteBy
write_of zero = Some write.Fs
write_of (suc zero) = Some write.Blocked
write_of (suc (suc b)) = None

-- ON UNLINK: 0 NONE, 1 RESTORE, 2 DELETE
abbrev pub unlink_byte : OnUnlink → ℕ
unlink_byte unlink.Nothing = 0
unlink_byte unlink.Restore = 1
unlink_byte unlink.Delete = 2

abbrev pub unlink_of : ℕ → Option OnUnlink
unlink_of zero = Some unlink.Nothing
unlink_of (suc zero) = Some unlink.Restore
unlink_of (suc (suc zero)) = Some unlink.Delete
unlink_of (suc (suc (suc b))) = None

-- options: only the seven rows
abbrev pub options_of : ReadBy × (WriteBy × (Bool × OnUnlink)) → Options
options_of p = record { read = p.0; write = p.1.0; recovery = p.1.1.0; unlink = p.1.1.1 }

abbrev pub fields_of_options : Options → ReadBy × (WriteBy × (Bool × OnUnlink))
fields_of_options o = (o.read, (o.write, (o.recovery, o.unlink)))

unfoldable pub options : Layout Options
options = only is_option_row (along options_of fields_of_options (pair (case read_byte read_of) (pair (case write_byte write_of) (pair bool (case unlink_byte unlink_of)))))

-- the type of a column: 1 INTEGER, 2 and the length VARCHAR, 3 DATALINK without control, 4 and the options DATALINK under it
abbrev pub kind_spelling : Kind → List ℕ
kind_spelling kinds.Int = 1 ∷ []
kind_spelling (kinds.Text most) = 2 ∷ u32.spelling most
kind_spelling kinds.Free = 3 ∷ []
kind_spelling (kinds.Linked o) = 4 ∷ options.spelling o

abbrev pub kind_fits : Kind → Type 0
kind_fits kinds.Int = Unit {0}
kind_fits (kinds.Text most) = u32.fits most
kind_fits kinds.Free = Unit {0}
kind_fits (kinds.Linked o) = options.fits o

abbrev pub kind_reading : List ℕ → Option (Kind × List ℕ)
kind_reading [] = None
kind_reading (zero ∷ rest) = None
kind_reading (suc zero ∷ rest) = bare kinds.Int rest
kind_reading (suc (suc zero) ∷ rest) = behind (λ most. kinds.Text most) u32 rest
kind_reading (suc (suc (suc zero)) ∷ rest) = bare kinds.Free rest
kind_reading (suc (suc (suc (suc zero))) ∷ rest) = behind (λ o. kinds.Linked o) options rest
kind_reading (suc (suc (suc (suc (suc b)))) ∷ rest) = None

unfoldable pub kind : Layout Kind
kind = record { spelling = kind_spelling; fits = kind_fits; reading = kind_reading }

-- the rule of a column: 0 none, 1 NOT NULL, 2 PRIMARY KEY
abbrev pub rule_byte : ColumnRule → ℕ
rule_byte rules.Plain = 0
rule_byte rules.NotNull = 1
rule_byte rules.Key = 2

abbrev pub rule_of : ℕ → Option ColumnRule
rule_of zero = Some rules.Plain
rule_of (suc zero) = Some rules.NotNull
rule_of (suc (suc zero)) = Some rules.Key
rule_of (suc (suc (suc b))) = None

-- a column: name, type, rule
abbrev pub column_of : List ℕ × (Kind × ColumnRule) → Column
column_of p = record { name = p.0; kind = p.1.0; rule = p.1.1 }

abbrev pub fields_of_column : Column → List ℕ × (Kind × ColumnRule)
fields_of_column c = (c.name, (c.kind, c.rule))

unfoldable pub column : Layout Column
column = along column_of fields_of_column (pair name (pair kind (case rule_byte rule_of)))

-- a datalink: location, path, comment, and its link number where it has one
abbrev pub datalink_of : List ℕ × (List ℕ × (List ℕ × Option LinkNo)) → Dl
datalink_of p = record { location = p.0; path = p.1.0; comment = p.1.1.0; link = p.1.1.1 }

abbrev pub fields_of_datalink : Dl → List ℕ × (List ℕ × (List ℕ × Option LinkNo))
fields_of_datalink d = (d.location, (d.path, (d.comment, d.link)))

unfoldable pub datalink : Layout Dl
datalink = along datalink_of fields_of_datalink (pair text (pair path (pair text (option link_number))))

-- a value: 0 NULL, 1 and a number, 2 and a text, 3 and a datalink
abbrev pub value_spelling : Value → List ℕ
value_spelling values.Null = 0 ∷ []
value_spelling (values.Int z) = 1 ∷ i64.spelling z
value_spelling (values.Text t) = 2 ∷ text.spelling t
value_spelling (values.Link d) = 3 ∷ datalink.spelling d

abbrev pub value_fits : Value → Type 0
value_fits values.Null = Unit {0}
value_fits (values.Int z) = i64.fits z
value_fits (values.Text t) = text.fits t
value_fits (values.Link d) = datalink.fits d

abbrev pub value_reading : List ℕ → Option (Value × List ℕ)
value_reading [] = None
value_reading (zero ∷ rest) = bare values.Null rest
value_reading (suc zero ∷ rest) = behind (λ z. values.Int z) i64 rest
value_reading (suc (suc zero) ∷ rest) = behind (λ t. values.Text t) text rest
value_reading (suc (suc (suc zero)) ∷ rest) = behind (λ d. values.Link d) datalink rest
value_reading (suc (suc (suc (suc b))) ∷ rest) = None

unfoldable pub value : Layout Value
value = record { spelling = value_spelling; fits = value_fits; reading = value_reading }

-- a link: its number, the path, the options of its column
abbrev pub link_row_of : LinkNo × (List ℕ × Options) → LinkRow
link_row_of p = record { link = p.0; path = p.1.0; options = p.1.1 }

abbrev pub fields_of_link_row : LinkRow → LinkNo × (List ℕ × Options)
fields_of_link_row l = (l.link, (l.path, l.options))

unfoldable pub link_row : Layout LinkRow
link_row = along link_row_of fields_of_link_row (pair link_number (pair path options))
