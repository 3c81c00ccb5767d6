-- The reader: how statements are read from left to right, one reader for each relation of Statements. Read Statements and Readers first. That each reads its relation is shown in proofs/Statements.
use Rattle.std.specs.Prelude.{ℕ, List, Option, Some, None, Bool, true, false, ◌||◌}
use Rattle.dl_base.specs.declared.column.ReadBy.{ReadBy}
use Rattle.dl_base.specs.declared.column.ReadBy.TheVariants as read_by
use Rattle.dl_base.specs.declared.column.WriteBy.{WriteBy}
use Rattle.dl_base.specs.declared.column.WriteBy.TheVariants as write_by
use Rattle.dl_base.specs.declared.column.OnUnlink.{OnUnlink}
use Rattle.dl_base.specs.declared.column.OnUnlink.TheVariants as unlink
use Rattle.dl_base.specs.declared.column.ColumnRule.{ColumnRule}
use Rattle.dl_base.specs.declared.column.ColumnRule.TheVariants as rule
use Rattle.dl_base.specs.declared.statement.Expr.{Expr}
use Rattle.dl_base.specs.declared.statement.Ref.{Ref}
use Rattle.dl_base.specs.declared.statement.Key.{Key}
use Rattle.dl_base.specs.declared.statement.Item.{Item}
use Rattle.dl_base.specs.declared.statement.TableRef.{TableRef}
use Rattle.dl_base.specs.declared.statement.Integrity.{Integrity}
use Rattle.dl_base.specs.declared.statement.Integrity.TheVariants as integrity
use Rattle.dl_base.specs.declared.statement.KindDef.{KindDef}
use Rattle.dl_base.specs.declared.statement.KindDef.TheVariants as kind
use Rattle.dl_base.specs.declared.statement.ColumnDef.{ColumnDef}
use Rattle.dl_base.specs.declared.statement.Stmt.{Stmt}
use Rattle.dl_base.specs.declared.statement.Stmt.TheVariants as stmt
use Rattle.sql_grammar.specs.declared.symbol.Symbol.TheVariants as symbol
use Rattle.sql_grammar.specs.declared.token.Token.TheVariants.{Symbol, Word}
use Rattle.sql_grammar.specs.declared.token.LinkWord.TheVariants as link
use Rattle.sql_grammar.specs.declared.terminal.Terminal.{Terminal}
use Rattle.sql_grammar.specs.Readers.{Reader, is_token, one_at, maybe_one_at, just_at, after_at, branch_at, map_at, then_at, maybe_at, many_at, listed_at, before_at, enclosed_at, expression_at}
use Rattle.sql_grammar.specs.Statements.{name_of, number_of, key_of, chosen, column_of, item_of, source_of, Following, some_or_none, ref_of, key_with, select_of}

abbrev pub name_at : Reader (List ℕ)
name_at = one_at name_of

-- ---- CREATE TABLE

unfoldable pub integrity_at : Reader Integrity
integrity_at = branch_at (Word link.All) (just_at integrity.All) (branch_at (Word link.Selective) (just_at integrity.Selective) (after_at (Word link.None) (just_at integrity.Nothing)))

unfoldable pub read_at : Reader ReadBy
read_at = branch_at (Word link.Fs) (just_at read_by.Fs) (after_at (Word link.Db) (just_at read_by.Db))

unfoldable pub write_at : Reader WriteBy
write_at = branch_at (Word link.Fs) (just_at write_by.Fs) (branch_at (Word link.Blocked) (just_at write_by.Blocked) (after_at (Word link.Admin) (just_at write_by.Admin)))

unfoldable pub yes_no_at : Reader Bool
yes_no_at = branch_at (Word link.Yes) (just_at true) (after_at (Word link.No) (just_at false))

unfoldable pub unlink_at : Reader OnUnlink
unlink_at = branch_at (Word link.Restore) (just_at unlink.Restore) (branch_at (Symbol symbol.Delete) (just_at unlink.Delete) (after_at (Word link.None) (just_at unlink.Nothing)))

unfoldable pub unlinking_at : Reader OnUnlink
unlinking_at = branch_at (Symbol symbol.On) (after_at (Word link.Unlink) unlink_at) (just_at unlink.Nothing)

unfoldable pub recovery_at : Reader (Bool × OnUnlink)
recovery_at = after_at (Word link.Recovery) (then_at yes_no_at unlinking_at)

unfoldable pub writing_at : Reader (WriteBy × (Bool × OnUnlink))
writing_at = after_at (Word link.Write) (after_at (Word link.Permission) (then_at write_at recovery_at))

unfoldable pub reading_at : Reader (ReadBy × (WriteBy × (Bool × OnUnlink)))
reading_at = after_at (Word link.Read) (after_at (Word link.Permission) (then_at read_at writing_at))

unfoldable pub choices_at : Reader KindDef
choices_at = map_at chosen (after_at (Word link.Integrity) (then_at integrity_at reading_at))

unfoldable pub filed_at : Reader KindDef
filed_at = branch_at (Word link.Mode) (after_at (Word link.Db2options) (just_at kind.Db2)) choices_at

unfoldable pub control_at : Reader KindDef
control_at = branch_at (Word link.No) (after_at (Word link.Link) (after_at (Word link.Control) (just_at kind.Free))) (branch_at (Word link.File) (after_at (Word link.Link) (after_at (Word link.Control) filed_at)) (just_at kind.Free))

unfoldable pub datalink_at : Reader KindDef
datalink_at = branch_at (Word link.Linktype) (after_at (Word link.Url) control_at) control_at

unfoldable pub kind_at : Reader KindDef
kind_at = branch_at (Symbol symbol.Integer) (just_at kind.Integer) (branch_at (Symbol symbol.Bigint) (just_at kind.Integer) (branch_at (Symbol symbol.Varchar) (map_at kind.Varchar (enclosed_at (one_at number_of))) (after_at (Symbol symbol.Datalink) datalink_at)))

unfoldable pub rule_at : Reader ColumnRule
rule_at = branch_at (Symbol symbol.Not) (after_at (Symbol symbol.Null) (just_at rule.NotNull)) (after_at (Symbol symbol.Primary) (after_at (Symbol symbol.Key) (just_at rule.Key)))

-- whether a rule of a column begins so
abbrev pub begins_rule : Option Terminal → Bool
begins_rule o = is_token (Symbol symbol.Not) o || is_token (Symbol symbol.Primary) o

unfoldable pub column_at : Reader ColumnDef
column_at = map_at column_of (then_at name_at (then_at kind_at (many_at begins_rule rule_at)))

unfoldable pub create_at : Reader Stmt
create_at = map_at (λ p. stmt.CreateTable p.0 p.1) (after_at (Symbol symbol.Table) (then_at name_at (enclosed_at (listed_at column_at))))

unfoldable pub drop_at : Reader Stmt
drop_at = map_at stmt.DropTable (after_at (Symbol symbol.Table) name_at)

-- ---- INSERT

unfoldable pub tuple_at : Reader (List Expr)
tuple_at = enclosed_at (listed_at expression_at)

unfoldable pub columns_at : Reader (Option (List (List ℕ)))
columns_at = maybe_at (Symbol symbol.Open) (before_at (listed_at name_at) (Symbol symbol.Close))

unfoldable pub insert_at : Reader Stmt
insert_at = map_at (λ p. stmt.Insert p.0 p.1.0 p.1.1) (after_at (Symbol symbol.Into) (then_at name_at (then_at columns_at (after_at (Symbol symbol.Values) (listed_at tuple_at)))))

-- ---- UPDATE and DELETE

unfoldable pub filter_at : Reader (Option Expr)
filter_at = maybe_at (Symbol symbol.Where) expression_at

unfoldable pub assigned_at : Reader (List ℕ × Expr)
assigned_at = then_at name_at (after_at (Symbol symbol.Equal) expression_at)

unfoldable pub update_at : Reader Stmt
update_at = map_at (λ p. stmt.Update p.0 p.1.0 p.1.1) (then_at name_at (after_at (Symbol symbol.Set) (then_at (listed_at assigned_at) filter_at)))

unfoldable pub delete_at : Reader Stmt
delete_at = map_at (λ p. stmt.Delete p.0 p.1) (after_at (Symbol symbol.From) (then_at name_at filter_at))

-- ---- SELECT

unfoldable pub item_at : Reader Item
item_at = map_at item_of (then_at expression_at (maybe_at (Symbol symbol.As) name_at))

unfoldable pub items_at : Reader (Option (List Item))
items_at = branch_at (Symbol symbol.Star) (just_at None) (map_at Some (listed_at item_at))

unfoldable pub alias_at : Reader (Option (List ℕ))
alias_at = branch_at (Symbol symbol.As) (map_at Some name_at) (maybe_one_at name_of)

unfoldable pub source_at : Reader TableRef
source_at = map_at source_of (then_at name_at alias_at)

unfoldable pub join_at : Reader Following
join_at = map_at (λ p. (p.0, Some p.1)) (then_at source_at (after_at (Symbol symbol.On) expression_at))

unfoldable pub joined_at : Reader Following
joined_at = branch_at (Symbol symbol.Comma) (map_at (λ s. (s, None)) source_at) (branch_at (Symbol symbol.Join) join_at (after_at (Symbol symbol.Inner) (after_at (Symbol symbol.Join) join_at)))

-- whether one more source begins so
abbrev pub begins_joined : Option Terminal → Bool
begins_joined o = is_token (Symbol symbol.Comma) o || (is_token (Symbol symbol.Join) o || is_token (Symbol symbol.Inner) o)

unfoldable pub sources_at : Reader (TableRef × List Following)
sources_at = then_at source_at (many_at begins_joined joined_at)

unfoldable pub ref_at : Reader Ref
ref_at = map_at ref_of (then_at name_at (maybe_at (Symbol symbol.Dot) name_at))

unfoldable pub group_at : Reader (List Ref)
group_at = map_at some_or_none (maybe_at (Symbol symbol.Group) (after_at (Symbol symbol.By) (listed_at ref_at)))

unfoldable pub direction_at : Reader Bool
direction_at = branch_at (Symbol symbol.Asc) (just_at false) (branch_at (Symbol symbol.Desc) (just_at true) (just_at false))

unfoldable pub key_at : Reader Key
key_at = map_at key_with (then_at (one_at key_of) direction_at)

unfoldable pub order_at : Reader (List Key)
order_at = map_at some_or_none (maybe_at (Symbol symbol.Order) (after_at (Symbol symbol.By) (listed_at key_at)))

unfoldable pub from_at : Reader ((TableRef × List Following) × (Option Expr × (List Ref × List Key)))
from_at = then_at sources_at (then_at filter_at (then_at group_at order_at))

unfoldable pub select_at : Reader Stmt
select_at = map_at select_of (then_at items_at (after_at (Symbol symbol.From) from_at))

-- ---- all of them

unfoldable pub sentence_at : Reader Stmt
sentence_at =
    branch_at (Symbol symbol.Begin) (just_at stmt.Begin)
    (branch_at (Symbol symbol.Commit) (just_at stmt.Commit)
    (branch_at (Symbol symbol.Rollback) (just_at stmt.Rollback)
    (branch_at (Symbol symbol.Create) create_at
    (branch_at (Symbol symbol.Drop) drop_at
    (branch_at (Symbol symbol.Insert) insert_at
    (branch_at (Symbol symbol.Update) update_at
    (branch_at (Symbol symbol.Delete) delete_at
    (after_at (Symbol symbol.Select) select_at))))))))

unfoldable pub statement_at : Reader Stmt
statement_at = map_at (λ p. p.0) (then_at sentence_at (maybe_at (Symbol symbol.Semicolon) (just_at {A = Unit {0}} tt)))
