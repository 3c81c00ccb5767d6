-- What is printed: the print tokens of a statement, in order. Read Statements first.
use Rattle.std.specs.Prelude.{ℕ, zero, suc, ◌-◌, Bool, true, false, if◌then◌else◌, List, [], ◌∷◌, ◌++◌, length, Option, Some, None}
use Rattle.dl_base.specs.declared.column.ReadBy.{ReadBy}
use Rattle.dl_base.specs.declared.column.ReadBy.TheVariants as read_by
use Rattle.dl_base.specs.declared.column.WriteBy.{WriteBy}
use Rattle.dl_base.specs.declared.column.WriteBy.TheVariants as write_by
use Rattle.dl_base.specs.declared.column.OnUnlink.{OnUnlink}
use Rattle.dl_base.specs.declared.column.OnUnlink.TheVariants as unlink
use Rattle.dl_base.specs.declared.statement.Expr.{Expr, Expr-F, fold-Expr}
use Rattle.dl_base.specs.declared.statement.Expr.TheOpen as layer
use Rattle.dl_base.specs.declared.statement.Ref.{Ref}
use Rattle.dl_base.specs.declared.statement.KeyBy.{KeyBy}
use Rattle.dl_base.specs.declared.statement.KeyBy.TheVariants as key_by
use Rattle.dl_base.specs.declared.statement.Key.{Key}
use Rattle.dl_base.specs.declared.statement.Item.{Item}
use Rattle.dl_base.specs.declared.statement.TableRef.{TableRef}
use Rattle.dl_base.specs.declared.statement.Select.{Select}
use Rattle.dl_base.specs.declared.statement.Integrity.{Integrity}
use Rattle.dl_base.specs.declared.statement.Integrity.TheVariants as integrity
use Rattle.dl_base.specs.declared.statement.KindDef.{KindDef}
use Rattle.dl_base.specs.declared.statement.KindDef.TheVariants as kind
use Rattle.dl_base.specs.declared.statement.ColumnDef.{ColumnDef}
use Rattle.dl_base.specs.declared.statement.Stmt.{Stmt}
use Rattle.dl_base.specs.declared.statement.Stmt.TheVariants as stmt
use Rattle.sql_grammar.specs.declared.symbol.Symbol.TheVariants as symbol
use Rattle.sql_grammar.specs.declared.token.LinkWord.{LinkWord}
use Rattle.sql_grammar.specs.declared.token.LinkWord.TheVariants as link
use Rattle.sql_grammar.specs.declared.print_token.Function.{Function as Called}
use Rattle.sql_grammar.specs.declared.print_token.Function.TheVariants as function
use Rattle.sql_grammar.specs.declared.print_token.PrintToken.{PrintToken}
use Rattle.sql_grammar.specs.declared.print_token.PrintToken.TheVariants.{Symbol, Link, Function, Name, Number, Literal}
use Rattle.sql_grammar.specs.Levels.{symbol_of}

-- ---- expressions

-- NULL or NOT NULL
abbrev pub null_tokens : Bool → List PrintToken
null_tokens true = Symbol symbol.Null ∷ []
null_tokens false = Symbol symbol.Not ∷ Symbol symbol.Null ∷ []

-- a name, or two with a dot between them
abbrev pub column_tokens : Option (List ℕ) → List ℕ → List PrintToken
column_tokens None c = Name c ∷ []
column_tokens (Some t) c = Name t ∷ Symbol symbol.Dot ∷ Name c ∷ []

-- what is printed of an expression, and whether it is an operator
pub record PrintedExpr : Type 0 where
  pub text : List PrintToken
  pub is_operator : Bool

-- in parentheses, where it is an operator
abbrev pub guarded : PrintedExpr → List PrintToken
guarded s = if s.is_operator then Symbol symbol.Open ∷ (s.text ++ Symbol symbol.Close ∷ []) else s.text

abbrev pub operand : List PrintToken → PrintedExpr
operand ws = record { text = ws; is_operator = false }

abbrev pub operator : List PrintToken → PrintedExpr
operator ws = record { text = ws; is_operator = true }

abbrev pub call : Called → List PrintToken → PrintedExpr
call f ws = operand (Function f ∷ Symbol symbol.Open ∷ (ws ++ Symbol symbol.Close ∷ []))

abbrev pub printed_at : Expr-F PrintedExpr → PrintedExpr
printed_at (layer.Number n) = operand (Number n ∷ [])
printed_at (layer.Literal t) = operand (Literal t ∷ [])
printed_at layer.Null = operand (Symbol symbol.Null ∷ [])
printed_at (layer.Column c) = operand (column_tokens c.table c.column)
printed_at (layer.Not a) = operator (Symbol symbol.Not ∷ guarded a)
printed_at (layer.Minus a) = operator (Symbol symbol.Minus ∷ guarded a)
printed_at (layer.Binary o a b) = operator (guarded a ++ Symbol (symbol_of o) ∷ guarded b)
printed_at (layer.IsNull a b) = operator (guarded a ++ Symbol symbol.Is ∷ null_tokens b)
printed_at layer.CountAll = operand (Function function.Count ∷ Symbol symbol.Open ∷ Symbol symbol.Star ∷ Symbol symbol.Close ∷ [])
printed_at (layer.Aggregate g a) = call (function.Aggregate g) a.text
printed_at (layer.Access p a) = call (function.Access p) a.text
printed_at (layer.Dlvalue1 a) = call function.Dlvalue a.text
printed_at (layer.Dlvalue2 a b) = call function.Dlvalue (a.text ++ Symbol symbol.Comma ∷ b.text)
printed_at (layer.Dlvalue3 a b c) = call function.Dlvalue (a.text ++ Symbol symbol.Comma ∷ (b.text ++ Symbol symbol.Comma ∷ c.text))

abbrev pub printed_expr : Expr → PrintedExpr
printed_expr = fold-Expr PrintedExpr printed_at

abbrev pub expr_text : Expr → List PrintToken
expr_text e = (printed_expr e).text

-- ---- lists

-- one after the other, with commas between them
abbrev pub more_text : {A : Type 0} → (A → List PrintToken) → List A → List PrintToken
more_text p [] = []
more_text p (x ∷ xs) = (Symbol symbol.Comma ∷ p x) ++ more_text p xs

abbrev pub list_text : {A : Type 0} → (A → List PrintToken) → List A → List PrintToken
list_text p [] = []
list_text p (x ∷ xs) = p x ++ more_text p xs

abbrev pub name_text : List ℕ → List PrintToken
name_text n = Name n ∷ []

abbrev pub word : LinkWord → PrintToken
word w = Link w

-- so many times
abbrev pub repeated : List PrintToken → ℕ → List PrintToken
repeated ws zero = []
repeated ws (suc n) = ws ++ repeated ws n

-- ---- CREATE TABLE

abbrev pub integrity_text : Integrity → PrintToken
integrity_text integrity.All = word link.All
integrity_text integrity.Selective = word link.Selective
integrity_text integrity.Nothing = word link.None

abbrev pub read_text : ReadBy → PrintToken
read_text read_by.Fs = word link.Fs
read_text read_by.Db = word link.Db

abbrev pub write_text : WriteBy → PrintToken
write_text write_by.Fs = word link.Fs
write_text write_by.Blocked = word link.Blocked
write_text write_by.Admin = word link.Admin

abbrev pub yes_text : Bool → PrintToken
yes_text true = word link.Yes
yes_text false = word link.No

abbrev pub unlink_text : OnUnlink → PrintToken
unlink_text unlink.Restore = word link.Restore
unlink_text unlink.Delete = Symbol symbol.Delete
unlink_text unlink.Nothing = word link.None

abbrev pub choices_text : KindDef → List PrintToken
choices_text (kind.Chosen i r w y u) =
    word link.Integrity ∷ integrity_text i ∷ word link.Read ∷ word link.Permission ∷ read_text r
    ∷ word link.Write ∷ word link.Permission ∷ write_text w ∷ word link.Recovery ∷ yes_text y
    ∷ Symbol symbol.On ∷ word link.Unlink ∷ unlink_text u ∷ []
choices_text _ = []

-- what is behind DATALINK
abbrev pub control_text : KindDef → List PrintToken
control_text kind.Db2 = word link.File ∷ word link.Link ∷ word link.Control ∷ word link.Mode ∷ word link.Db2options ∷ []
control_text (kind.Chosen i r w y u) = word link.File ∷ word link.Link ∷ word link.Control ∷ choices_text (kind.Chosen i r w y u)
control_text _ = []

abbrev pub kind_text : KindDef → List PrintToken
kind_text kind.Integer = Symbol symbol.Integer ∷ []
kind_text (kind.Varchar n) = Symbol symbol.Varchar ∷ Symbol symbol.Open ∷ Number n ∷ Symbol symbol.Close ∷ []
kind_text k = Symbol symbol.Datalink ∷ control_text k

abbrev pub column_def_text : ColumnDef → List PrintToken
column_def_text c = Name c.name ∷ (kind_text c.kind ++ (repeated (Symbol symbol.Not ∷ Symbol symbol.Null ∷ []) c.not_null ++ repeated (Symbol symbol.Primary ∷ Symbol symbol.Key ∷ []) c.key))

-- ---- INSERT, UPDATE and DELETE

abbrev pub columns_text : Option (List (List ℕ)) → List PrintToken
columns_text None = []
columns_text (Some names) = Symbol symbol.Open ∷ (list_text name_text names ++ Symbol symbol.Close ∷ [])

abbrev pub tuple_text : List Expr → List PrintToken
tuple_text es = Symbol symbol.Open ∷ (list_text expr_text es ++ Symbol symbol.Close ∷ [])

abbrev pub assigned_text : List ℕ × Expr → List PrintToken
assigned_text p = Name p.0 ∷ Symbol symbol.Equal ∷ expr_text p.1

abbrev pub filter_text : Option Expr → List PrintToken
filter_text None = []
filter_text (Some e) = Symbol symbol.Where ∷ expr_text e

-- ---- SELECT

abbrev pub alias_text : Option (List ℕ) → List PrintToken
alias_text None = []
alias_text (Some n) = Symbol symbol.As ∷ Name n ∷ []

abbrev pub item_text : Item → List PrintToken
item_text i = expr_text i.expr ++ alias_text i.alias

abbrev pub items_text : Option (List Item) → List PrintToken
items_text None = Symbol symbol.Star ∷ []
items_text (Some items) = list_text item_text items

abbrev pub source_text : TableRef → List PrintToken
source_text s = Name s.table ∷ alias_text s.alias

-- the last sources, with a condition each
abbrev pub joins_text : List TableRef → List Expr → List PrintToken
joins_text [] cs = []
joins_text (s ∷ ss) [] = []
joins_text (s ∷ ss) (c ∷ cs) = Symbol symbol.Join ∷ (source_text s ++ Symbol symbol.On ∷ (expr_text c ++ joins_text ss cs))

-- so many sources with a comma before each, and the others joined
abbrev pub following_text : ℕ → List TableRef → List Expr → List PrintToken
following_text zero ss cs = joins_text ss cs
following_text (suc n) [] cs = []
following_text (suc n) (s ∷ ss) cs = Symbol symbol.Comma ∷ (source_text s ++ following_text n ss cs)

-- the conditions stand with the last sources, in order
abbrev pub from_text : List TableRef → List Expr → List PrintToken
from_text [] cs = []
from_text (s ∷ ss) cs = source_text s ++ following_text (length ss - length cs) ss cs

abbrev pub ref_text : Ref → List PrintToken
ref_text r = column_tokens r.table r.column

abbrev pub group_text : List Ref → List PrintToken
group_text [] = []
group_text (r ∷ rs) = Symbol symbol.Group ∷ Symbol symbol.By ∷ list_text ref_text (r ∷ rs)

abbrev pub key_by_text : KeyBy → PrintToken
key_by_text (key_by.Name n) = Name n
key_by_text (key_by.Place z) = Number z

abbrev pub direction_text : Bool → List PrintToken
direction_text true = Symbol symbol.Desc ∷ []
direction_text false = []

abbrev pub key_text : Key → List PrintToken
key_text k = key_by_text k.by ∷ direction_text k.descending

abbrev pub order_text : List Key → List PrintToken
order_text [] = []
order_text (k ∷ ks) = Symbol symbol.Order ∷ Symbol symbol.By ∷ list_text key_text (k ∷ ks)

abbrev pub select_text : Select → List PrintToken
select_text s = Symbol symbol.Select ∷ (items_text s.items ++ Symbol symbol.From ∷ (from_text s.from s.conditions ++ (filter_text s.filter ++ (group_text s.group ++ order_text s.order))))

-- ---- all of them

abbrev pub printed : Stmt → List PrintToken
printed stmt.Begin = Symbol symbol.Begin ∷ []
printed stmt.Commit = Symbol symbol.Commit ∷ []
printed stmt.Rollback = Symbol symbol.Rollback ∷ []
printed (stmt.CreateTable n cs) = Symbol symbol.Create ∷ Symbol symbol.Table ∷ Name n ∷ Symbol symbol.Open ∷ (list_text column_def_text cs ++ Symbol symbol.Close ∷ [])
printed (stmt.DropTable n) = Symbol symbol.Drop ∷ Symbol symbol.Table ∷ Name n ∷ []
printed (stmt.Insert n cs ts) = Symbol symbol.Insert ∷ Symbol symbol.Into ∷ Name n ∷ (columns_text cs ++ Symbol symbol.Values ∷ list_text tuple_text ts)
printed (stmt.Update n vs f) = Symbol symbol.Update ∷ Name n ∷ Symbol symbol.Set ∷ (list_text assigned_text vs ++ filter_text f)
printed (stmt.Delete n f) = Symbol symbol.Delete ∷ Symbol symbol.From ∷ Name n ∷ filter_text f
printed (stmt.Select s) = select_text s
