-- Types of items and of conditions over groups, cells of a row, and what is shown of a datalink with its token.
use Rattle.std.proofs.Common.{◌≡◌, ◌+◌, ◌^◌, ℕ, false, List, [], ◌∷◌, ◌++◌, map, replicate, codes, Option, Some, None, Result, Ok, Err, refl, pos}
use Rattle.std.specs.Fmt.{digits}
use Rattle.hex.specs.Hex.{encode_lower, encode_with}
use Rattle.sha2.specs.Sha256.{sha256, hash_after, compress, rounds, schedule, first_words, digest_bytes}
use Rattle.dl_base.specs.declared.column.Column.{Column}
use Rattle.dl_base.specs.declared.column.ColumnRule.TheVariants as rules
use Rattle.dl_base.specs.declared.column.Kind.{Kind}
use Rattle.dl_base.specs.declared.column.Kind.TheVariants as kinds
use Rattle.dl_base.specs.declared.column.OnUnlink.TheVariants as unlink
use Rattle.dl_base.specs.declared.column.Options.{Options}
use Rattle.dl_base.specs.declared.column.ReadBy.TheVariants as read
use Rattle.dl_base.specs.declared.column.WriteBy.TheVariants as write
use Rattle.dl_base.specs.declared.sql_fault.SqlFault.{SqlFault}
use Rattle.dl_base.specs.declared.sql_fault.SqlFault.TheVariants as faults
use Rattle.dl_base.specs.declared.statement.Expr.TheOpen as level
use Rattle.dl_base.specs.declared.statement.Fold.{Fold}
use Rattle.dl_base.specs.declared.statement.Fold.TheVariants as aggregates
use Rattle.dl_base.specs.declared.statement.Op.TheVariants as ops
use Rattle.dl_base.specs.declared.statement.Part.{Part}
use Rattle.dl_base.specs.declared.statement.Part.TheVariants as parts
use Rattle.dl_base.specs.declared.value.LinkNo.{LinkNo}
use Rattle.dl_base.specs.declared.value.Row.{Row}
use Rattle.dl_base.specs.declared.value.Value.{Value}
use Rattle.dl_base.specs.declared.value.Value.TheVariants as values
use Rattle.dl_token.specs.Hmac.{hmac}
use Rattle.dl_token.specs.Tokens.{mac, with_token}
use Rattle.meaning_sql.specs.declared.AggregateScope.{AggregateScope}
use Rattle.meaning_sql.specs.declared.AggregateScope.TheVariants as scope
use Rattle.meaning_sql.specs.declared.Context.{Context}
use Rattle.meaning_sql.specs.declared.SqlType.{SqlType}
use Rattle.meaning_sql.specs.declared.SqlType.TheVariants as types
use Rattle.meaning_sql.specs.Columns.{Columns, place_of}
use Rattle.meaning_sql.specs.Datalinks.{accessed, shown}
use Rattle.meaning_sql.specs.Types.{type_at}
use Rattle.meaning_sql.specs.Values.{cell}

-- ---- types

abbrev under_db : Options
under_db = record { read = read.Db; write = write.Blocked; recovery = false; unlink = unlink.Restore }

abbrev column : List ℕ → List ℕ → Kind → List ℕ × Column
column table name kind = (table, record { name = name; kind = kind; rule = rules.Plain })

-- t.i, t.s, t.d under READ PERMISSION DB, and u.i
abbrev four : Columns
four = column (codes "t") (codes "i") kinds.Int ∷ column (codes "t") (codes "s") (kinds.Text 10) ∷ column (codes "t") (codes "d") (kinds.Linked under_db) ∷ column (codes "u") (codes "i") kinds.Int ∷ []

abbrev Typed : Type 0
Typed = AggregateScope → Result SqlType SqlFault

abbrev of_column : Option (List ℕ) → List ℕ → Typed
of_column table name = type_at four (level.Column (record { table = table; column = name }))

abbrev t_i : Typed
t_i = of_column (Some (codes "t")) (codes "i")

abbrev s : Typed
s = of_column None (codes "s")

abbrev null : Typed
null = type_at four level.Null

abbrev over : Fold → Typed → Typed
over f a = type_at four (level.Aggregate f a)

-- COUNT(*)
count : type_at four level.CountAll scope.Item ≡ Ok types.Int
count = refl

-- SUM(t.i), MIN(s), SUM(NULL), MIN(NULL)
aggregate_items : map (λ (item : Typed). item scope.Item) (over aggregates.Sum t_i ∷ over aggregates.Min s ∷ over aggregates.Sum null ∷ over aggregates.Min null ∷ []) ≡ Ok types.Int ∷ Ok types.Text ∷ Ok types.Int ∷ Ok types.Null ∷ []
unfolding place_of
aggregate_items = refl

-- SUM(q)
of_no_column : over aggregates.Sum (of_column None (codes "q")) scope.Item ≡ Err (faults.NoColumn (codes "q"))
unfolding place_of
of_no_column = refl

-- t.i + MAX(t.i): without GROUP BY an item may have both
beside_a_column : type_at four (level.Binary ops.Add t_i (over aggregates.Max t_i)) scope.Item ≡ Ok types.Int
unfolding place_of
beside_a_column = refl

-- MAX(SUM(t.i))
in_an_aggregate : over aggregates.Max (over aggregates.Sum t_i) scope.Item ≡ Err faults.TypeFault
in_an_aggregate = refl

-- MAX(DLURLPATH(d))
greatest_path : over aggregates.Max (type_at four (level.Access parts.Path (of_column None (codes "d")))) scope.Item ≡ Ok types.Text
unfolding place_of
greatest_path = refl

-- s = 'a', where s is the grouping column, and where t.i is
abbrev s_is_a : Typed
s_is_a = type_at four (level.Binary ops.Eq s (type_at four (level.Literal (codes "a"))))

over_its_own_group : s_is_a (scope.Grouped (1 ∷ [])) ≡ Ok types.Truth
unfolding place_of
over_its_own_group = refl

over_another_group : s_is_a (scope.Grouped (0 ∷ [])) ≡ Err faults.TypeFault
unfolding place_of
over_another_group = refl

-- ---- cells: behind the last one NULL

abbrev two_cells : Row
two_cells = record { values = values.Int (pos 5) ∷ values.Int (pos 9) ∷ [] }

cells : map (cell two_cells) (0 ∷ 1 ∷ 2 ∷ []) ≡ values.Int (pos 5) ∷ values.Int (pos 9) ∷ values.Null ∷ []
unfolding cell
cells = refl

-- ---- what is shown under READ PERMISSION DB: a token before the last name, made over the path and the link, good for 60 seconds

abbrev link : LinkNo
link = record { tx = 2 ^ 32 + 2; k = 1 }

abbrev at_moment : List ℕ → ℕ → Context
at_moment key now = record { server = codes "fs1"; key = key; now = now; life = 60; tx = 2 ^ 32 + 2 }

-- what an accessor shows of a datalink with this location to /x/a
abbrev part_of : List ℕ → ℕ → Part → List ℕ → Value
part_of key now part location = accessed (at_moment key now) (Some under_db) part (values.Link (record { location = location; path = codes "/x/a"; comment = codes "note"; link = Some link }))

-- the digits of its token
abbrev digits_until : List ℕ → ℕ → List ℕ
digits_until key expiry = encode_lower (mac key (codes "/x/a") link expiry)

path_shown : (key : List ℕ) → part_of key 100 parts.Path (codes "http://fs1/x/a") ≡ values.Text (codes "/x/160." ++ digits_until key 160 ++ codes ";a")
unfolding accessed shown with_token digits
path_shown key = refl

location_shown : (key : List ℕ) → part_of key 100 parts.Complete (codes "http://fs1/x/a") ≡ values.Text (codes "http://fs1/x/160." ++ digits_until key 160 ++ codes ";a")
unfolding accessed shown with_token digits
location_shown key = refl

-- near the greatest moment
path_shown_last : (key : List ℕ) → part_of key 18446744073709551614 parts.Path (codes "http://fs1/x/a") ≡ values.Text (codes "/x/18446744073709551615." ++ digits_until key 18446744073709551615 ++ codes ";a")
unfolding accessed shown with_token digits
path_shown_last key = refl

-- a location without a slash, which no DLVALUE makes: its path is shown as ever, the location has the token in front, and no scheme and
-- no server
path_of_nowhere : (key : List ℕ) → part_of key 100 parts.Path (codes "nowhere") ≡ values.Text (codes "/x/160." ++ digits_until key 160 ++ codes ";a")
unfolding accessed shown with_token digits
path_of_nowhere key = refl

nowhere_shown : (key : List ℕ) → part_of key 100 parts.Complete (codes "nowhere") ≡ values.Text (codes "160." ++ digits_until key 160 ++ codes ";nowhere")
unfolding accessed shown with_token digits
nowhere_shown key = refl

no_scheme : (key : List ℕ) → part_of key 100 parts.Scheme (codes "nowhere") ≡ values.Text []
unfolding accessed
no_scheme key = refl

no_server : (key : List ℕ) → part_of key 100 parts.Server (codes "nowhere") ≡ values.Text []
unfolding accessed
no_server key = refl

-- under a key of zeros these are the first 16 bytes of HMAC-SHA-256 (RFC 2104) over `/x/a`, 0, `1-2-1`, 0 and the moment before the dot

digits_of_160 : digits_until (replicate 32 0) 160 ≡ codes "c721e50de341f85cb6a4f1861251b86d"
unfolding mac hmac sha256 hash_after compress rounds schedule first_words digest_bytes digits encode_with
digits_of_160 = refl

digits_of_the_last : digits_until (replicate 32 0) 18446744073709551615 ≡ codes "52aa6d5f75f9f5ed72e65bf02a7aa056"
unfolding mac hmac sha256 hash_after compress rounds schedule first_words digest_bytes digits encode_with
digits_of_the_last = refl
