-- What is put into a cell: the rule on NULL, the length, and the link number.
use Rattle.std.specs.Prelude.{ℕ, suc, ◌+◌, ◌&&◌, Bool, true, false, List, [], ◌∷◌, length, bytes_eq, Option, Some, None, Result, Ok, Err, if◌then◌else◌, slice_get, nat_le}
use Rattle.dl_base.specs.Limits.{most_links}
use Rattle.dl_base.specs.declared.answer.Limit.TheVariants as limits
use Rattle.dl_base.specs.declared.column.Column.{Column}
use Rattle.dl_base.specs.declared.column.ColumnRule.{ColumnRule}
use Rattle.dl_base.specs.declared.column.ColumnRule.TheVariants as rules
use Rattle.dl_base.specs.declared.column.Kind.{Kind}
use Rattle.dl_base.specs.declared.column.Kind.TheVariants as kinds
use Rattle.dl_base.specs.declared.sql_fault.SqlFault.{SqlFault}
use Rattle.dl_base.specs.declared.sql_fault.SqlFault.TheVariants as faults
use Rattle.dl_base.specs.declared.value.Dl.{Dl}
use Rattle.dl_base.specs.declared.value.LinkNo.{LinkNo}
use Rattle.dl_base.specs.declared.value.Row.{Row}
use Rattle.dl_base.specs.declared.value.Value.{Value}
use Rattle.dl_base.specs.declared.value.Value.TheVariants as values
use Rattle.dl_location.specs.Accessors.{host_part}
use Rattle.meaning_sql.specs.declared.SqlType.{SqlType}
use Rattle.meaning_sql.specs.Faults.{◌>>=◌}
use Rattle.meaning_sql.specs.Types.{is_int, is_text, is_link}
use Rattle.meaning_sql.specs.Values.{cell}

-- which types a column takes
abbrev pub is_assignable : Kind → SqlType → Bool
is_assignable kinds.Int t = is_int t
is_assignable (kinds.Text most) t = is_text t
is_assignable kinds.Free t = is_link t
is_assignable (kinds.Linked options) t = is_link t

abbrev pub column_kind : Option Column → Kind
column_kind (Some c) = c.kind
column_kind None = kinds.Int

-- the kind of the column at a place
abbrev pub kind_of_column : List Column → ℕ → Kind
kind_of_column columns i = column_kind (slice_get columns i)

abbrev pub is_plain : ColumnRule → Bool
is_plain rules.Plain = true
is_plain rules.NotNull = false
is_plain rules.Key = false

abbrev pub is_within : Kind → List ℕ → Bool
is_within (kinds.Text most) t = nat_le (length t) most
is_within kinds.Int t = true
is_within kinds.Free t = true
is_within (kinds.Linked options) t = true

-- the same host and path
abbrev pub is_same_file : Dl → Dl → Bool
is_same_file a b = bytes_eq (host_part a.location) (host_part b.location) && bytes_eq a.path b.path

-- the link number that a cell keeps: its own, where the new datalink names the same file
abbrev pub kept_link : Value → Dl → Option LinkNo
kept_link (values.Link old) d = if is_same_file old d then old.link else None
kept_link old d = None

-- the datalink under the number that the cell keeps, else under the next one of the transaction; and the next one after it
abbrev pub numbered : ℕ → ℕ → Dl → Option LinkNo → Result (Value × ℕ) SqlFault
numbered tx k d (Some link) = Ok (values.Link (record d { link = Some link }), k)
numbered tx k d None = if nat_le k most_links then Ok (values.Link (record d { link = Some (record { tx = tx; k = k }) }), suc k) else Err (faults.Limit limits.Links)

abbrev pub stored_link : ℕ → ℕ → Kind → Value → Dl → Result (Value × ℕ) SqlFault
stored_link tx k (kinds.Linked options) old d = numbered tx k d (kept_link old d)
stored_link tx k kinds.Free old d = Ok (values.Link (record d { link = None }), k)
stored_link tx k kinds.Int old d = Err faults.TypeFault
stored_link tx k (kinds.Text most) old d = Err faults.TypeFault

-- what is put into a cell of a column in place of what was there, and the next link number
unfoldable pub stored : ℕ → ℕ → Column → Value → Value → Result (Value × ℕ) SqlFault
stored tx k c old values.Null = if is_plain c.rule then Ok (values.Null, k) else Err (faults.NullKey c.name)
stored tx k c old (values.Int z) = Ok (values.Int z, k)
stored tx k c old (values.Text t) = if is_within c.kind t then Ok (values.Text t, k) else Err (faults.TooLong c.name)
stored tx k c old (values.Link d) = stored_link tx k c.kind old d

-- the cells of a row from a column's place on, in order
abbrev pub stored_row : ℕ → ℕ → ℕ → List Column → Row → Row → Result (List Value × ℕ) SqlFault
stored_row tx k i [] old new = Ok ([], k)
stored_row tx k i (c ∷ cs) old new = stored tx k c (cell old i) (cell new i) >>= λ p. stored_row tx p.1 (i + 1) cs old new >>= λ q. Ok (p.0 ∷ q.0, q.1)
