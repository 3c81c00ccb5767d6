-- The language: statements, and what says them, production by production. Read Lang first: with Forms, Levels, Words, Reserved and Proper, and the two bounds in Limits of dl_base, it is the whole grammar.
use Rattle.std.specs.Prelude.{ℕ, ℤ, List, [], ◌∷◌, Option, Some, None, Bool, true, false, map}
use Rattle.std.specs.List.{count_by}
use Rattle.dl_base.specs.declared.column.ReadBy.{ReadBy}
use Rattle.dl_base.specs.declared.column.ReadBy.TheVariants as read_by
use Rattle.dl_base.specs.declared.column.WriteBy.{WriteBy}
use Rattle.dl_base.specs.declared.column.WriteBy.TheVariants as write_by
use Rattle.dl_base.specs.declared.column.OnUnlink.{OnUnlink}
use Rattle.dl_base.specs.declared.column.OnUnlink.TheVariants as unlink
use Rattle.dl_base.specs.declared.column.ColumnRule.{ColumnRule}
use Rattle.dl_base.specs.declared.column.ColumnRule.TheVariants as rule
use Rattle.dl_base.specs.declared.statement.Expr.{Expr}
use Rattle.dl_base.specs.declared.statement.Ref.{Ref}
use Rattle.dl_base.specs.declared.statement.KeyBy.{KeyBy}
use Rattle.dl_base.specs.declared.statement.KeyBy.TheVariants as key_by
use Rattle.dl_base.specs.declared.statement.Key.{Key}
use Rattle.dl_base.specs.declared.statement.Item.{Item}
use Rattle.dl_base.specs.declared.statement.TableRef.{TableRef}
use Rattle.dl_base.specs.declared.statement.Integrity.{Integrity}
use Rattle.dl_base.specs.declared.statement.Integrity.TheVariants as integrity
use Rattle.dl_base.specs.declared.statement.KindDef.{KindDef}
use Rattle.dl_base.specs.declared.statement.KindDef.TheVariants as kind
use Rattle.dl_base.specs.declared.statement.ColumnDef.{ColumnDef}
use Rattle.dl_base.specs.declared.statement.Stmt.{Stmt}
use Rattle.dl_base.specs.declared.statement.Stmt.TheVariants as stmt
use Rattle.sql_grammar.specs.declared.symbol.Symbol.TheVariants as symbol
use Rattle.sql_grammar.specs.declared.token.Token.TheVariants.{Symbol, Word}
use Rattle.sql_grammar.specs.declared.token.LinkWord.TheVariants as link
use Rattle.sql_grammar.specs.declared.terminal.Terminal.{Terminal}
use Rattle.sql_grammar.specs.declared.terminal.Terminal.TheVariants as terminal
use Rattle.sql_grammar.specs.Forms.{reference}
use Rattle.sql_grammar.specs.Lang.{Lang, Just, After, Then, As, Or, Maybe, One, Many, Listed, Enclosed, Expression}

-- ---- one terminal

abbrev pub name_of : Terminal → Option (List ℕ)
name_of (terminal.Word n) = Some n
name_of _ = None

abbrev pub number_of : Terminal → Option ℤ
number_of (terminal.Number z) = Some z
number_of _ = None

abbrev pub key_of : Terminal → Option KeyBy
key_of (terminal.Word n) = Some (key_by.Name n)
key_of (terminal.Number z) = Some (key_by.Place z)
key_of _ = None

abbrev pub Name : Lang (List ℕ)
Name = One name_of

-- ---- CREATE TABLE

-- ALL | SELECTIVE | NONE
abbrev pub IntegrityWord : Lang Integrity
IntegrityWord = Or (After (Word link.All) (Just integrity.All)) (Or (After (Word link.Selective) (Just integrity.Selective)) (After (Word link.None) (Just integrity.Nothing)))

-- FS | DB
abbrev pub ReadWord : Lang ReadBy
ReadWord = Or (After (Word link.Fs) (Just read_by.Fs)) (After (Word link.Db) (Just read_by.Db))

-- FS | BLOCKED | ADMIN
abbrev pub WriteWord : Lang WriteBy
WriteWord = Or (After (Word link.Fs) (Just write_by.Fs)) (Or (After (Word link.Blocked) (Just write_by.Blocked)) (After (Word link.Admin) (Just write_by.Admin)))

-- YES | NO
abbrev pub YesNo : Lang Bool
YesNo = Or (After (Word link.Yes) (Just true)) (After (Word link.No) (Just false))

-- RESTORE | DELETE | NONE
abbrev pub UnlinkWord : Lang OnUnlink
UnlinkWord = Or (After (Word link.Restore) (Just unlink.Restore)) (Or (After (Symbol symbol.Delete) (Just unlink.Delete)) (After (Word link.None) (Just unlink.Nothing)))

-- [ON UNLINK (RESTORE | DELETE | NONE)], and NONE where it is left out
abbrev pub Unlinking : Lang OnUnlink
Unlinking = Or (After (Symbol symbol.On) (After (Word link.Unlink) UnlinkWord)) (Just unlink.Nothing)

-- RECOVERY (YES | NO) [ON UNLINK ..]
abbrev pub Recovery : Lang (Bool × OnUnlink)
Recovery = After (Word link.Recovery) (Then YesNo Unlinking)

-- WRITE PERMISSION (FS | BLOCKED | ADMIN) RECOVERY ..
abbrev pub Writing : Lang (WriteBy × (Bool × OnUnlink))
Writing = After (Word link.Write) (After (Word link.Permission) (Then WriteWord Recovery))

-- READ PERMISSION (FS | DB) WRITE ..
abbrev pub Reading : Lang (ReadBy × (WriteBy × (Bool × OnUnlink)))
Reading = After (Word link.Read) (After (Word link.Permission) (Then ReadWord Writing))

abbrev pub chosen : Integrity × (ReadBy × (WriteBy × (Bool × OnUnlink))) → KindDef
chosen p = kind.Chosen p.0 p.1.0 p.1.1.0 p.1.1.1.0 p.1.1.1.1

-- INTEGRITY (ALL | SELECTIVE | NONE) READ ..
abbrev pub Choices : Lang KindDef
Choices = As chosen (After (Word link.Integrity) (Then IntegrityWord Reading))

-- MODE DB2OPTIONS | choices
abbrev pub Filed : Lang KindDef
Filed = Or (After (Word link.Mode) (After (Word link.Db2options) (Just kind.Db2))) Choices

-- [NO LINK CONTROL | FILE LINK CONTROL (MODE DB2OPTIONS | choices)]
abbrev pub Control : Lang KindDef
Control = Or (After (Word link.No) (After (Word link.Link) (After (Word link.Control) (Just kind.Free)))) (Or (After (Word link.File) (After (Word link.Link) (After (Word link.Control) Filed))) (Just kind.Free))

-- [LINKTYPE URL] [control]
abbrev pub DatalinkTail : Lang KindDef
DatalinkTail = Or (After (Word link.Linktype) (After (Word link.Url) Control)) Control

-- INTEGER | BIGINT | VARCHAR ( number ) | DATALINK ..
abbrev pub Kind : Lang KindDef
Kind = Or (After (Symbol symbol.Integer) (Just kind.Integer)) (Or (After (Symbol symbol.Bigint) (Just kind.Integer)) (Or (After (Symbol symbol.Varchar) (As kind.Varchar (Enclosed (One number_of)))) (After (Symbol symbol.Datalink) DatalinkTail)))

-- NOT NULL | PRIMARY KEY
abbrev pub Rule : Lang ColumnRule
Rule = Or (After (Symbol symbol.Not) (After (Symbol symbol.Null) (Just rule.NotNull))) (After (Symbol symbol.Primary) (After (Symbol symbol.Key) (Just rule.Key)))

abbrev pub is_not_null : ColumnRule → Bool
is_not_null rule.NotNull = true
is_not_null _ = false

abbrev pub is_key : ColumnRule → Bool
is_key rule.Key = true
is_key _ = false

abbrev pub column_of : List ℕ × (KindDef × List ColumnRule) → ColumnDef
column_of p = record { name = p.0; kind = p.1.0; not_null = count_by is_not_null p.1.1; key = count_by is_key p.1.1 }

-- name type {NOT NULL | PRIMARY KEY}
abbrev pub Column : Lang ColumnDef
Column = As column_of (Then Name (Then Kind (Many Rule)))

-- TABLE name ( column {, column} )
abbrev pub CreateTail : Lang Stmt
CreateTail = As (λ p. stmt.CreateTable p.0 p.1) (After (Symbol symbol.Table) (Then Name (Enclosed (Listed Column))))

-- TABLE name
abbrev pub DropTail : Lang Stmt
DropTail = As stmt.DropTable (After (Symbol symbol.Table) Name)

-- ---- INSERT

-- ( expr {, expr} )
abbrev pub Tuple : Lang (List Expr)
Tuple = Enclosed (Listed Expression)

-- INTO name [( name {, name} )] VALUES tuple {, tuple}
abbrev pub InsertTail : Lang Stmt
InsertTail = As (λ p. stmt.Insert p.0 p.1.0 p.1.1) (After (Symbol symbol.Into) (Then Name (Then (Maybe (Enclosed (Listed Name))) (After (Symbol symbol.Values) (Listed Tuple)))))

-- ---- UPDATE and DELETE

-- [WHERE expr]
abbrev pub Filter : Lang (Option Expr)
Filter = Maybe (After (Symbol symbol.Where) Expression)

-- name = expr
abbrev pub Assigned : Lang (List ℕ × Expr)
Assigned = Then Name (After (Symbol symbol.Equal) Expression)

-- name SET name = expr {, name = expr} [WHERE expr]
abbrev pub UpdateTail : Lang Stmt
UpdateTail = As (λ p. stmt.Update p.0 p.1.0 p.1.1) (Then Name (After (Symbol symbol.Set) (Then (Listed Assigned) Filter)))

-- FROM name [WHERE expr]
abbrev pub DeleteTail : Lang Stmt
DeleteTail = As (λ p. stmt.Delete p.0 p.1) (After (Symbol symbol.From) (Then Name Filter))

-- ---- SELECT

abbrev pub item_of : Expr × Option (List ℕ) → Item
item_of p = record { expr = p.0; alias = p.1 }

-- expr [AS name]
abbrev pub ItemText : Lang Item
ItemText = As item_of (Then Expression (Maybe (After (Symbol symbol.As) Name)))

-- * | item {, item}
abbrev pub Items : Lang (Option (List Item))
Items = Or (After (Symbol symbol.Star) (Just None)) (As Some (Listed ItemText))

-- [[AS] name]
abbrev pub Alias : Lang (Option (List ℕ))
Alias = Or (After (Symbol symbol.As) (As Some Name)) (Maybe Name)

abbrev pub source_of : List ℕ × Option (List ℕ) → TableRef
source_of p = record { table = p.0; alias = p.1 }

-- name [[AS] name]
abbrev pub Source : Lang TableRef
Source = As source_of (Then Name Alias)

-- a source that follows others, with its condition where it has one
abbrev pub Following : Type 0
Following = TableRef × Option Expr

-- source ON expr
abbrev pub JoinTail : Lang Following
JoinTail = As (λ p. (p.0, Some p.1)) (Then Source (After (Symbol symbol.On) Expression))

-- , source | [INNER] JOIN source ON expr
abbrev pub Joined : Lang Following
Joined = Or (After (Symbol symbol.Comma) (As (λ s. (s, None)) Source)) (Or (After (Symbol symbol.Join) JoinTail) (After (Symbol symbol.Inner) (After (Symbol symbol.Join) JoinTail)))

-- source {, source | [INNER] JOIN source ON expr}
abbrev pub Sources : Lang (TableRef × List Following)
Sources = Then Source (Many Joined)

abbrev pub some_or_none : {A : Type 0} → Option (List A) → List A
some_or_none None = []
some_or_none (Some xs) = xs

abbrev pub ref_of : List ℕ × Option (List ℕ) → Ref
ref_of (x, None) = reference None x
ref_of (x, Some y) = reference (Some x) y

-- name [. name]
abbrev pub RefText : Lang Ref
RefText = As ref_of (Then Name (Maybe (After (Symbol symbol.Dot) Name)))

-- [GROUP BY ref {, ref}]
abbrev pub Group : Lang (List Ref)
Group = As some_or_none (Maybe (After (Symbol symbol.Group) (After (Symbol symbol.By) (Listed RefText))))

-- [ASC | DESC]
abbrev pub Direction : Lang Bool
Direction = Or (After (Symbol symbol.Asc) (Just false)) (Or (After (Symbol symbol.Desc) (Just true)) (Just false))

abbrev pub key_with : KeyBy × Bool → Key
key_with p = record { by = p.0; descending = p.1 }

-- (name | number) [ASC | DESC]
abbrev pub KeyText : Lang Key
KeyText = As key_with (Then (One key_of) Direction)

-- [ORDER BY key {, key}]
abbrev pub Order : Lang (List Key)
Order = As some_or_none (Maybe (After (Symbol symbol.Order) (After (Symbol symbol.By) (Listed KeyText))))

abbrev pub conditions_of : List Following → List Expr
conditions_of [] = []
conditions_of ((s, None) ∷ xs) = conditions_of xs
conditions_of ((s, Some c) ∷ xs) = c ∷ conditions_of xs

abbrev pub select_of : Option (List Item) × ((TableRef × List Following) × (Option Expr × (List Ref × List Key))) → Stmt
select_of p = stmt.Select (record { items = p.0; from = p.1.0.0 ∷ map (λ x. x.0) p.1.0.1; conditions = conditions_of p.1.0.1; filter = p.1.1.0; group = p.1.1.1.0; order = p.1.1.1.1 })

-- what is behind FROM
abbrev pub FromTail : Lang ((TableRef × List Following) × (Option Expr × (List Ref × List Key)))
FromTail = Then Sources (Then Filter (Then Group Order))

-- (* | item {, item}) FROM sources [WHERE expr] [GROUP BY ..] [ORDER BY ..]
abbrev pub SelectTail : Lang Stmt
SelectTail = As select_of (Then Items (After (Symbol symbol.From) FromTail))

-- ---- all of them

abbrev pub Sentence : Lang Stmt
Sentence =
    Or (After (Symbol symbol.Begin) (Just stmt.Begin))
    (Or (After (Symbol symbol.Commit) (Just stmt.Commit))
    (Or (After (Symbol symbol.Rollback) (Just stmt.Rollback))
    (Or (After (Symbol symbol.Create) CreateTail)
    (Or (After (Symbol symbol.Drop) DropTail)
    (Or (After (Symbol symbol.Insert) InsertTail)
    (Or (After (Symbol symbol.Update) UpdateTail)
    (Or (After (Symbol symbol.Delete) DeleteTail)
    (After (Symbol symbol.Select) SelectTail))))))))

-- sentence [;]
abbrev pub Statement : Lang Stmt
Statement = As (λ p. p.0) (Then Sentence (Maybe (After (Symbol symbol.Semicolon) (Just {A = Unit {0}} tt))))
