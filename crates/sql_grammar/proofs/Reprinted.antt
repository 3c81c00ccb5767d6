-- What is printed of a statement says it.
use Rattle.std.proofs.Common.{◌≡◌, ℕ, zero, suc, ◌+◌, ◌-◌, ◌≤◌, true, false, cond, List, [], ◌∷◌, ◌++◌, length, map, Option, Some, None, inl, inr, refl, sym, ap, subst, append_assoc, arith}
use Rattle.std.specs.Prelude.{ℤ}
use Rattle.std.proofs.lemmas.List.{append-nil}
use Rattle.std.proofs.lemmas.List.Sums.{sum_by-cons}
use Rattle.std.specs.List.{count_by}
use Rattle.dl_base.specs.declared.column.ReadBy.TheVariants as read_by
use Rattle.dl_base.specs.declared.column.WriteBy.TheVariants as write_by
use Rattle.dl_base.specs.declared.column.OnUnlink.TheVariants as unlink
use Rattle.dl_base.specs.declared.column.ColumnRule.{ColumnRule}
use Rattle.dl_base.specs.declared.column.ColumnRule.TheVariants as rule
use Rattle.dl_base.specs.declared.statement.Expr.{Expr}
use Rattle.dl_base.specs.declared.statement.Ref.{Ref}
use Rattle.dl_base.specs.declared.statement.KeyBy.{KeyBy}
use Rattle.dl_base.specs.declared.statement.KeyBy.TheVariants as key_by
use Rattle.dl_base.specs.declared.statement.Key.{Key}
use Rattle.dl_base.specs.declared.statement.TableRef.{TableRef}
use Rattle.dl_base.specs.declared.statement.Item.{Item}
use Rattle.dl_base.specs.declared.statement.Integrity.TheVariants as integrity
use Rattle.dl_base.specs.declared.statement.KindDef.{KindDef}
use Rattle.dl_base.specs.declared.statement.KindDef.TheVariants as kind
use Rattle.dl_base.specs.declared.statement.Stmt.TheVariants as stmt
use Rattle.sql_grammar.specs.declared.symbol.Symbol.TheVariants as symbol
use Rattle.sql_grammar.specs.declared.token.Token.{Token}
use Rattle.sql_grammar.specs.declared.token.Token.TheVariants.{Symbol, Word}
use Rattle.sql_grammar.specs.declared.token.LinkWord.TheVariants as link
use Rattle.sql_grammar.specs.declared.terminal.Terminal.{Terminal}
use Rattle.sql_grammar.specs.declared.terminal.Terminal.TheVariants as terminal
use Rattle.sql_grammar.specs.Proper.{AreProper}
use Rattle.sql_grammar.specs.Dots.{is_dot}
use Rattle.sql_grammar.specs.Lang.{Lang, terminal_of, Just, After, Then, As, Maybe, One, Many, Listed, Enclosed, Expression}
use Rattle.sql_grammar.specs.Statements.{name_of, number_of, key_of, Name, IntegrityWord, ReadWord, WriteWord, YesNo, UnlinkWord, Unlinking, Recovery, Writing, Reading, chosen, Choices, Filed, Control, DatalinkTail, Kind, Rule, is_not_null, is_key, column_of, Column, CreateTail, DropTail, Tuple, InsertTail, Filter, Assigned, UpdateTail, DeleteTail, item_of, ItemText, Items, Alias, source_of, Source, Following, JoinTail, Joined, Sources, some_or_none, ref_of, RefText, Group, Direction, key_with, KeyText, Order, conditions_of, select_of, SelectTail, Sentence, Statement}
use Rattle.sql_grammar.specs.declared.print_token.PrintToken.{PrintToken}
use Rattle.sql_grammar.specs.declared.print_token.PrintToken.TheVariants as print_token
use Rattle.sql_grammar.specs.PrintTokens.{print_terminal, print_terminals, print_token_of}
use Rattle.sql_grammar.specs.Printing.{list_text, name_text, expr_text, integrity_text, read_text, write_text, yes_text, unlink_text, repeated, choices_text, control_text, kind_text, column_def_text, columns_text, tuple_text, assigned_text, filter_text, alias_text, item_text, items_text, source_text, joins_text, following_text, from_text, ref_text, group_text, key_by_text, direction_text, key_text, order_text, printed}
use Rattle.sql_grammar.proofs.Printed.{proper_parts}
use Rattle.sql_grammar.proofs.Again.{Again, Turns, Prints, again_then, again_after, again_as, again_just, again_left, again_right, again_enclosed, prints_then, turns_after, turns_as, turns_led, turns_or, turns_to, token_only, again_none, again_some, turns_maybe, again_empty, again_cons, prints_listed, prints_expression, prints_one}

-- ---- one terminal

name_is : (w : Terminal) (n : List ℕ) → name_of w ≡ Some n → (w ≡ terminal.Word n) × (is_dot w ≡ false)
name_is (terminal.Word m) n e = (let q : m ≡ n = cc in ap terminal.Word q, refl)
name_is (terminal.Fixed m) n e = absurd cc
name_is (terminal.Number z) n e = absurd cc
name_is (terminal.Literal t) n e = absurd cc

number_is : (w : Terminal) (z : ℤ) → number_of w ≡ Some z → (w ≡ terminal.Number z) × (is_dot w ≡ false)
number_is (terminal.Number y) z e = (let q : y ≡ z = cc in ap terminal.Number q, refl)
number_is (terminal.Word m) z e = absurd cc
number_is (terminal.Fixed m) z e = absurd cc
number_is (terminal.Literal t) z e = absurd cc

key_is : (w : Terminal) (k : KeyBy) → key_of w ≡ Some k → (w ≡ print_terminal (key_by_text k)) × (is_dot w ≡ false)
key_is (terminal.Word m) k e = (let q : key_by.Name m ≡ k = cc in ap (λ k. print_terminal (key_by_text k)) q, refl)
key_is (terminal.Number y) k e = (let q : key_by.Place y ≡ k = cc in ap (λ k. print_terminal (key_by_text k)) q, refl)
key_is (terminal.Fixed m) k e = absurd cc
key_is (terminal.Literal t) k e = absurd cc

prints_name : Prints Name name_text
prints_name = prints_one name_of print_token.Name name_is

-- ---- link control

-- a token for one value, among others
the_token : {A : Type 0} (t : Token) (y : A) → (is_dot (terminal_of t) ≡ false) → Again (After t (Just y)) y (print_token_of t ∷ [])
the_token t y flat = again_after t flat (again_just y)

prints_integrity : Prints IntegrityWord (λ x. integrity_text x ∷ [])
prints_integrity =
    turns_or (turns_to (After (Word link.All) (Just integrity.All)) (λ x. integrity_text x ∷ []) integrity.All (token_only (Word link.All) integrity.All) (again_left _ (the_token (Word link.All) integrity.All refl)))
    (turns_or (turns_to (After (Word link.Selective) (Just integrity.Selective)) (λ x. integrity_text x ∷ []) integrity.Selective (token_only (Word link.Selective) integrity.Selective) (again_right _ (again_left _ (the_token (Word link.Selective) integrity.Selective refl))))
    (turns_to (After (Word link.None) (Just integrity.Nothing)) (λ x. integrity_text x ∷ []) integrity.Nothing (token_only (Word link.None) integrity.Nothing) (again_right _ (again_right _ (the_token (Word link.None) integrity.Nothing refl)))))

prints_read : Prints ReadWord (λ x. read_text x ∷ [])
prints_read =
    turns_or (turns_to (After (Word link.Fs) (Just read_by.Fs)) (λ x. read_text x ∷ []) read_by.Fs (token_only (Word link.Fs) read_by.Fs) (again_left _ (the_token (Word link.Fs) read_by.Fs refl)))
    (turns_to (After (Word link.Db) (Just read_by.Db)) (λ x. read_text x ∷ []) read_by.Db (token_only (Word link.Db) read_by.Db) (again_right _ (the_token (Word link.Db) read_by.Db refl)))

prints_write : Prints WriteWord (λ x. write_text x ∷ [])
prints_write =
    turns_or (turns_to (After (Word link.Fs) (Just write_by.Fs)) (λ x. write_text x ∷ []) write_by.Fs (token_only (Word link.Fs) write_by.Fs) (again_left _ (the_token (Word link.Fs) write_by.Fs refl)))
    (turns_or (turns_to (After (Word link.Blocked) (Just write_by.Blocked)) (λ x. write_text x ∷ []) write_by.Blocked (token_only (Word link.Blocked) write_by.Blocked) (again_right _ (again_left _ (the_token (Word link.Blocked) write_by.Blocked refl))))
    (turns_to (After (Word link.Admin) (Just write_by.Admin)) (λ x. write_text x ∷ []) write_by.Admin (token_only (Word link.Admin) write_by.Admin) (again_right _ (again_right _ (the_token (Word link.Admin) write_by.Admin refl)))))

prints_yes_no : Prints YesNo (λ x. yes_text x ∷ [])
prints_yes_no =
    turns_or (turns_to (After (Word link.Yes) (Just true)) (λ x. yes_text x ∷ []) true (token_only (Word link.Yes) true) (again_left _ (the_token (Word link.Yes) true refl)))
    (turns_to (After (Word link.No) (Just false)) (λ x. yes_text x ∷ []) false (token_only (Word link.No) false) (again_right _ (the_token (Word link.No) false refl)))

prints_unlink : Prints UnlinkWord (λ x. unlink_text x ∷ [])
prints_unlink =
    turns_or (turns_to (After (Word link.Restore) (Just unlink.Restore)) (λ x. unlink_text x ∷ []) unlink.Restore (token_only (Word link.Restore) unlink.Restore) (again_left _ (the_token (Word link.Restore) unlink.Restore refl)))
    (turns_or (turns_to (After (Symbol symbol.Delete) (Just unlink.Delete)) (λ x. unlink_text x ∷ []) unlink.Delete (token_only (Symbol symbol.Delete) unlink.Delete) (again_right _ (again_left _ (the_token (Symbol symbol.Delete) unlink.Delete refl))))
    (turns_to (After (Word link.None) (Just unlink.Nothing)) (λ x. unlink_text x ∷ []) unlink.Nothing (token_only (Word link.None) unlink.Nothing) (again_right _ (again_right _ (the_token (Word link.None) unlink.Nothing refl)))))

abbrev unlinking_text : unlink.the_data → List PrintToken
unlinking_text u = print_token.Symbol symbol.On ∷ print_token_of (Word link.Unlink) ∷ unlink_text u ∷ []

abbrev Unlinked : Lang unlink.the_data
Unlinked = After (Symbol symbol.On) (After (Word link.Unlink) UnlinkWord)

unlinked : Turns Unlinked Unlinked unlinking_text
unlinked = turns_after (Symbol symbol.On) (After (Word link.Unlink) UnlinkWord) refl (turns_after (Word link.Unlink) UnlinkWord refl prints_unlink)

-- the part is printed also where it was left out
prints_unlinking : Prints Unlinking unlinking_text
prints_unlinking x ws (inl says) proper = again_left (Just unlink.Nothing) (unlinked x ws says proper)
prints_unlinking x ws (inr says) proper =
    subst (λ y. Again Unlinking y (unlinking_text y)) (sym says.0) (again_left (Just unlink.Nothing) (again_after (Symbol symbol.On) refl (again_after (Word link.Unlink) refl (again_right _ (again_right _ (the_token (Word link.None) unlink.Nothing refl))))))

prints_choices : Prints Choices choices_text
prints_choices =
    turns_as chosen choices_text (λ x. refl) (turns_after (Word link.Integrity) (Then IntegrityWord Reading) refl (prints_then prints_integrity
    (turns_after (Word link.Read) (After (Word link.Permission) (Then ReadWord Writing)) refl (turns_after (Word link.Permission) (Then ReadWord Writing) refl (prints_then prints_read
    (turns_after (Word link.Write) (After (Word link.Permission) (Then WriteWord Recovery)) refl (turns_after (Word link.Permission) (Then WriteWord Recovery) refl (prints_then prints_write
    (turns_after (Word link.Recovery) (Then YesNo Unlinking) refl (prints_then prints_yes_no prints_unlinking))))))))))

-- a type that is a datalink's is printed with what is behind DATALINK
choices_control : (k : KindDef) (ws : List Terminal) → Choices k ws → (control_text k ≡ print_token_of (Word link.File) ∷ print_token_of (Word link.Link) ∷ print_token_of (Word link.Control) ∷ choices_text k) × (kind_text k ≡ print_token.Symbol symbol.Datalink ∷ control_text k)
choices_control k ws says = subst (λ k. (control_text k ≡ print_token_of (Word link.File) ∷ print_token_of (Word link.Link) ∷ print_token_of (Word link.Control) ∷ choices_text k) × (kind_text k ≡ print_token.Symbol symbol.Datalink ∷ control_text k)) says.1 (refl, refl)

-- what is behind DATALINK, and that the type is printed so
record Controlled (k : KindDef) : Type 0 where
  control : Again Control k (control_text k)
  whole : kind_text k ≡ print_token.Symbol symbol.Datalink ∷ control_text k

free : Controlled kind.Free
free = record { control = again_right _ (again_right _ (again_just kind.Free)); whole = refl }

db2 : Controlled kind.Db2
db2 = record {
  control = again_right _ (again_left _ (again_after (Word link.File) refl (again_after (Word link.Link) refl (again_after (Word link.Control) refl (again_left _ (again_after (Word link.Mode) refl (again_after (Word link.Db2options) refl (again_just kind.Db2))))))));
  whole = refl;
}

controlled_choices : (k : KindDef) (ws : List Terminal) → Choices k ws → AreProper ws → Controlled k
controlled_choices k ws says proper =
    let same = choices_control k ws says in
    let made : Again Control k (print_token_of (Word link.File) ∷ print_token_of (Word link.Link) ∷ print_token_of (Word link.Control) ∷ choices_text k) =
    again_right _ (again_left _ (again_after (Word link.File) refl (again_after (Word link.Link) refl (again_after (Word link.Control) refl (again_right _ (prints_choices k ws says proper)))))) in
    record { control = subst (λ (a : List PrintToken). Again Control k a) (sym same.0) made; whole = same.1 }

controlled_filed : (k : KindDef) (ws : List Terminal) → Filed k ws → AreProper ws → Controlled k
controlled_filed k ws (inl says) proper = subst Controlled (sym says.2.2.0) db2
controlled_filed k ws (inr says) proper = controlled_choices k ws says proper

controlled : (k : KindDef) (ws : List Terminal) → Control k ws → AreProper ws → Controlled k
controlled k ws (inl says) proper = subst Controlled (sym says.2.2.2.0) free
controlled k ws (inr (inl says)) proper =
    let a = (subst AreProper says.1 proper).1 in
    let b = (subst AreProper says.2.1 a).1 in
    controlled_filed k says.2.2.0 says.2.2.2 (subst AreProper says.2.2.1 b).1
controlled k ws (inr (inr says)) proper = subst Controlled (sym says.0) free

controlled_datalink : (k : KindDef) (ws : List Terminal) → DatalinkTail k ws → AreProper ws → Controlled k
controlled_datalink k ws (inl says) proper = let a = (subst AreProper says.1 proper).1 in controlled k says.2.0 says.2.2 (subst AreProper says.2.1 a).1
controlled_datalink k ws (inr says) proper = controlled k ws says proper

-- ---- types and columns

integer : Again Kind kind.Integer (kind_text kind.Integer)
integer = again_left _ (the_token (Symbol symbol.Integer) kind.Integer refl)

varchar : (k : KindDef) (ws : List Terminal) → After (Symbol symbol.Varchar) (As kind.Varchar (Enclosed (One number_of))) k ws → AreProper ws → Again Kind k (kind_text k)
varchar k ws says proper =
    let a = (subst AreProper says.1 proper).1 in
    let n = says.2.0 in
    let inside = says.2.2 in
    let b = (subst AreProper inside.1 a).1 in
    let parts = inside.2.2 in
    let c = (proper_parts parts.0 parts.1 (subst AreProper parts.2 b)).0 in
    let m = inside.2.0.0 in
    let same : m ≡ n = inside.2.1 in
    let number = prints_one number_of print_token.Number number_is m parts.0 parts.3 c in
    let made : Again Kind (kind.Varchar n) (kind_text (kind.Varchar n)) = again_right _ (again_right _ (again_left _ (again_after (Symbol symbol.Varchar) refl (again_as kind.Varchar (again_enclosed (subst (λ z. Again (One number_of) z (print_token.Number z ∷ [])) same number)))))) in
    subst (λ k. Again Kind k (kind_text k)) says.2.1 made

prints_kind : Prints Kind kind_text
prints_kind k ws (inl says) proper = subst (λ k. Again Kind k (kind_text k)) (sym says.2.0) integer
prints_kind k ws (inr (inl says)) proper = subst (λ k. Again Kind k (kind_text k)) (sym says.2.0) integer
prints_kind k ws (inr (inr (inl says))) proper = varchar k ws says proper
prints_kind k ws (inr (inr (inr says))) proper =
    let c = controlled_datalink k says.0 says.2 (subst AreProper says.1 proper).1 in
    subst (λ (a : List PrintToken). Again Kind k a) (sym c.whole) (again_right _ (again_right _ (again_right _ (again_after (Symbol symbol.Datalink) refl (again_right _ c.control)))))

-- so many rules of each kind
abbrev ruled : ℕ → ℕ → List ColumnRule
ruled zero zero = []
ruled zero (suc k) = rule.Key ∷ ruled zero k
ruled (suc n) k = rule.NotNull ∷ ruled n k

abbrev rules_text : ℕ → ℕ → List PrintToken
rules_text n k = repeated (print_token.Symbol symbol.Not ∷ print_token.Symbol symbol.Null ∷ []) n ++ repeated (print_token.Symbol symbol.Primary ∷ print_token.Symbol symbol.Key ∷ []) k

rules_again : (n k : ℕ) → Again (Many Rule) (ruled n k) (rules_text n k)
rules_again zero zero = again_empty Rule
rules_again zero (suc k) = again_cons (again_right _ (again_after (Symbol symbol.Primary) refl (again_after (Symbol symbol.Key) refl (again_just rule.Key)))) (rules_again zero k)
rules_again (suc n) k = again_cons (again_left _ (again_after (Symbol symbol.Not) refl (again_after (Symbol symbol.Null) refl (again_just rule.NotNull)))) (rules_again n k)

not_nulls_are : (n k : ℕ) → count_by is_not_null (ruled n k) ≡ n
not_nulls_are zero zero = refl
not_nulls_are zero (suc k) = omega (arith, not_nulls_are zero k)
not_nulls_are (suc n) k = omega (arith, sum_by-cons (λ x. cond (is_not_null x) 1 0) rule.NotNull (ruled n k), not_nulls_are n k)

keys_are : (n k : ℕ) → count_by is_key (ruled n k) ≡ k
keys_are zero zero = refl
keys_are zero (suc k) = omega (arith, sum_by-cons (λ x. cond (is_key x) 1 0) rule.Key (ruled zero k), keys_are zero k)
keys_are (suc n) k = omega (arith, keys_are n k)

column_again : (x : List ℕ × (KindDef × List ColumnRule)) (a : List PrintToken) → Again Name x.0 (name_text x.0) → Again Kind x.1.0 (kind_text x.1.0) → Again Column (column_of x) (column_def_text (column_of x))
column_again x a name kind =
    let c = column_of x in
    let n = c.not_null in
    let k = c.key in
    let same : column_of (x.0, (x.1.0, ruled n k)) ≡ c = (λ i. record { name = x.0; kind = x.1.0; not_null = not_nulls_are n k i; key = keys_are n k i }) in
    subst (λ d. Again Column d (column_def_text c)) same (again_as column_of (again_then name (again_then kind (rules_again n k))))

prints_column : Prints Column column_def_text
prints_column c ws says proper =
    let x = says.0 in
    let parts = says.2 in
    let r = proper_parts parts.0 parts.1 (subst AreProper parts.2 proper) in
    let more = parts.4 in
    let s = proper_parts more.0 more.1 (subst AreProper more.2 r.1) in
    subst (λ c. Again Column c (column_def_text c)) says.1 (column_again x [] (prints_name x.0 parts.0 parts.3 r.0) (prints_kind x.1.0 more.0 more.3 s.0))

prints_enclosed : {A : Type 0} (L : Lang A) (p : A → List PrintToken) → Prints L p → Prints (Enclosed L) (λ x. print_token.Symbol symbol.Open ∷ (p x ++ print_token.Symbol symbol.Close ∷ []))
prints_enclosed L p h x ws says proper =
    let a = (subst AreProper says.1 proper).1 in
    let inside = says.2 in
    let parts = inside.2 in
    let b = (proper_parts parts.0 parts.1 (subst AreProper parts.2 a)).0 in
    subst (λ y. Again (Enclosed L) y (print_token.Symbol symbol.Open ∷ (p y ++ print_token.Symbol symbol.Close ∷ []))) inside.1 (again_enclosed (h inside.0.0 parts.0 parts.3 b))

-- ---- statements other than SELECT

prints_create : Prints (After (Symbol symbol.Create) CreateTail) printed
prints_create =
    turns_led (Symbol symbol.Create) (λ p. stmt.CreateTable p.0 p.1) printed refl
    (turns_after (Symbol symbol.Table) (Then Name (Enclosed (Listed Column))) refl (prints_then prints_name (prints_enclosed (Listed Column) (list_text column_def_text) (prints_listed Column column_def_text prints_column)))) (λ x. refl)

prints_drop : Prints (After (Symbol symbol.Drop) DropTail) printed
prints_drop = turns_led (Symbol symbol.Drop) stmt.DropTable printed refl (turns_after (Symbol symbol.Table) Name refl prints_name) (λ x. refl)

prints_tuple : Prints Tuple tuple_text
prints_tuple = prints_enclosed (Listed Expression) (list_text expr_text) (prints_listed Expression expr_text prints_expression)

prints_columns : Prints (Maybe (Enclosed (Listed Name))) columns_text
prints_columns = turns_maybe (Enclosed (Listed Name)) columns_text refl (λ x. refl) (prints_enclosed (Listed Name) (list_text name_text) (prints_listed Name name_text prints_name))

prints_insert : Prints (After (Symbol symbol.Insert) InsertTail) printed
prints_insert =
    turns_led (Symbol symbol.Insert) (λ p. stmt.Insert p.0 p.1.0 p.1.1) printed refl
    (turns_after (Symbol symbol.Into) (Then Name (Then (Maybe (Enclosed (Listed Name))) (After (Symbol symbol.Values) (Listed Tuple)))) refl
    (prints_then prints_name (prints_then prints_columns (turns_after (Symbol symbol.Values) (Listed Tuple) refl (prints_listed Tuple tuple_text prints_tuple))))) (λ x. refl)

prints_filter : Prints Filter filter_text
prints_filter = turns_maybe (After (Symbol symbol.Where) Expression) filter_text refl (λ x. refl) (turns_after (Symbol symbol.Where) Expression refl prints_expression)

prints_assigned : Prints Assigned assigned_text
prints_assigned = prints_then prints_name (turns_after (Symbol symbol.Equal) Expression refl prints_expression)

prints_update : Prints (After (Symbol symbol.Update) UpdateTail) printed
prints_update =
    turns_led (Symbol symbol.Update) (λ p. stmt.Update p.0 p.1.0 p.1.1) printed refl
    (prints_then prints_name (turns_after (Symbol symbol.Set) (Then (Listed Assigned) Filter) refl (prints_then (prints_listed Assigned assigned_text prints_assigned) prints_filter))) (λ x. refl)

prints_delete : Prints (After (Symbol symbol.Delete) DeleteTail) printed
prints_delete =
    turns_led (Symbol symbol.Delete) (λ p. stmt.Delete p.0 p.1) printed refl
    (turns_after (Symbol symbol.From) (Then Name Filter) refl (prints_then prints_name prints_filter)) (λ x. refl)

-- ---- SELECT

prints_item_alias : Prints (Maybe (After (Symbol symbol.As) Name)) alias_text
prints_item_alias = turns_maybe (After (Symbol symbol.As) Name) alias_text refl (λ x. refl) (turns_after (Symbol symbol.As) Name refl prints_name)

prints_item : Prints ItemText item_text
prints_item = turns_as item_of item_text (λ x. refl) (prints_then prints_expression prints_item_alias)

prints_some_items : Prints (As Some (Listed ItemText)) items_text
prints_some_items = turns_as Some items_text (λ x. refl) (prints_listed ItemText item_text prints_item)

prints_items : Prints Items items_text
prints_items =
    turns_or (turns_to (After (Symbol symbol.Star) (Just None)) items_text None (token_only (Symbol symbol.Star) None) (again_left _ (the_token (Symbol symbol.Star) None refl)))
    (λ x ws says proper. again_right _ (prints_some_items x ws says proper))

alias_again : (n : List ℕ) → Again Name n (name_text n) → Again Alias (Some n) (alias_text (Some n))
alias_again n h = again_left (Maybe Name) (again_after (Symbol symbol.As) refl (again_as Some h))

-- an alias is printed with AS
prints_alias : Prints Alias alias_text
prints_alias x ws (inl says) proper =
    let inner = says.2 in
    subst (λ y. Again Alias y (alias_text y)) inner.1 (alias_again inner.0 (prints_name inner.0 says.0 inner.2 (subst AreProper says.1 proper).1))
prints_alias None ws (inr says) proper = again_right _ (again_none Name)
prints_alias (Some n) ws (inr says) proper = alias_again n (prints_name n ws says proper)

prints_source : Prints Source source_text
prints_source = turns_as source_of source_text (λ x. refl) (prints_then prints_name prints_alias)

-- each of a list
abbrev AreAll : {A : Type 0} → (A → Type 0) → List A → Type 0
AreAll P [] = Unit {0}
AreAll P (x ∷ xs) = P x × AreAll P xs

abbrev SourceOk : TableRef → Type 0
SourceOk s = Again Source s (source_text s)

abbrev ConditionOk : Expr → Type 0
ConditionOk c = Again Expression c (expr_text c)

abbrev sources_of : List Following → List TableRef
sources_of xs = map (λ x. x.0) xs

-- a source, and a condition where it has one
record OneOk (x : Following) : Type 0 where
  source : SourceOk x.0
  condition : AreAll ConditionOk (conditions_of (x ∷ []))

join_ok : (x : Following) (ws : List Terminal) → JoinTail x ws → AreProper ws → OneOk x
join_ok x ws says proper =
    let y = says.0 in
    let parts = says.2 in
    let r = proper_parts parts.0 parts.1 (subst AreProper parts.2 proper) in
    let on = parts.4 in
    let s = prints_source y.0 parts.0 parts.3 r.0 in
    let c = prints_expression y.1 on.0 on.2 (subst AreProper on.1 r.1).1 in
    subst OneOk says.1 (record { source = s; condition = (c, tt) })

one_ok : (x : Following) (ws : List Terminal) → Joined x ws → AreProper ws → OneOk x
one_ok x ws (inl says) proper =
    let inner = says.2 in
    subst OneOk inner.1 (record { source = prints_source inner.0 says.0 inner.2 (subst AreProper says.1 proper).1; condition = tt })
one_ok x ws (inr (inl says)) proper = join_ok x says.0 says.2 (subst AreProper says.1 proper).1
one_ok x ws (inr (inr says)) proper = let a = (subst AreProper says.1 proper).1 in join_ok x says.2.0 says.2.2 (subst AreProper says.2.1 a).1

more_conditions : (x : Following) (xs : List Following) → AreAll ConditionOk (conditions_of (x ∷ [])) → AreAll ConditionOk (conditions_of xs) → AreAll ConditionOk (conditions_of (x ∷ xs))
more_conditions (s, None) xs h k = k
more_conditions (s, Some c) xs h k = (h.0, k)

all_ok : (xs : List Following) (ws : List Terminal) → Many Joined xs ws → AreProper ws → AreAll SourceOk (sources_of xs) × AreAll ConditionOk (conditions_of xs)
all_ok [] ws says proper = (tt, tt)
all_ok (x ∷ xs) ws says proper =
    let r = proper_parts says.0 says.1 (subst AreProper says.2 proper) in
    let o = one_ok x says.0 says.3 r.0 in
    let more = all_ok xs says.1 says.4 r.1 in
    ((o.source, more.0), more_conditions x xs o.condition more.1)

conditions_few : (xs : List Following) → length (conditions_of xs) ≤ length (sources_of xs)
conditions_few [] = omega arith
conditions_few ((s, None) ∷ xs) = omega (arith, conditions_few xs)
conditions_few ((s, Some c) ∷ xs) = omega (arith, conditions_few xs)

-- the last sources with the conditions
abbrev paired : List TableRef → List Expr → List Following
paired [] cs = []
paired (s ∷ ss) [] = []
paired (s ∷ ss) (c ∷ cs) = (s, Some c) ∷ paired ss cs

abbrev assembled : ℕ → List TableRef → List Expr → List Following
assembled zero ss cs = paired ss cs
assembled (suc n) [] cs = []
assembled (suc n) (s ∷ ss) cs = (s, None) ∷ assembled n ss cs

joins_again : (ss : List TableRef) (cs : List Expr) → AreAll SourceOk ss → AreAll ConditionOk cs → Again (Many Joined) (paired ss cs) (joins_text ss cs)
joins_again [] cs h k = again_empty Joined
joins_again (s ∷ ss) [] h k = again_empty Joined
joins_again (s ∷ ss) (c ∷ cs) h k =
    let one : Again Joined (s, Some c) (print_token.Symbol symbol.Join ∷ (source_text s ++ print_token.Symbol symbol.On ∷ expr_text c)) =
    again_right _ (again_left _ (again_after (Symbol symbol.Join) refl (again_as (λ p. (p.0, Some p.1)) (again_then h.0 (again_after (Symbol symbol.On) refl k.0))))) in
    let all = again_cons one (joins_again ss cs h.1 k.1) in
    subst (λ (a : List PrintToken). Again (Many Joined) ((s, Some c) ∷ paired ss cs) (print_token.Symbol symbol.Join ∷ a)) (append_assoc (source_text s) (print_token.Symbol symbol.On ∷ expr_text c) (joins_text ss cs)) all

following_again : (n : ℕ) (ss : List TableRef) (cs : List Expr) → AreAll SourceOk ss → AreAll ConditionOk cs → Again (Many Joined) (assembled n ss cs) (following_text n ss cs)
following_again zero ss cs h k = joins_again ss cs h k
following_again (suc n) [] cs h k = again_empty Joined
following_again (suc n) (s ∷ ss) cs h k =
    let one : Again Joined (s, None) (print_token.Symbol symbol.Comma ∷ source_text s) = again_left _ (again_after (Symbol symbol.Comma) refl (again_as (λ s. (s, None)) h.0)) in
    again_cons one (following_again n ss cs h.1 k)

paired_are : (ss : List TableRef) (cs : List Expr) → length cs ≡ length ss → (sources_of (paired ss cs) ≡ ss) × (conditions_of (paired ss cs) ≡ cs)
paired_are [] [] e = (refl, refl)
paired_are [] (c ∷ cs) e = absurd (omega arith)
paired_are (s ∷ ss) [] e = absurd (omega arith)
paired_are (s ∷ ss) (c ∷ cs) e = let r = paired_are ss cs (omega arith) in (ap (λ (x : List TableRef). s ∷ x) r.0, ap (λ (x : List Expr). c ∷ x) r.1)

assembled_are : (n : ℕ) (ss : List TableRef) (cs : List Expr) → n + length cs ≡ length ss → (sources_of (assembled n ss cs) ≡ ss) × (conditions_of (assembled n ss cs) ≡ cs)
assembled_are zero ss cs e = paired_are ss cs (omega arith)
assembled_are (suc n) [] cs e = absurd (omega arith)
assembled_are (suc n) (s ∷ ss) cs e = let r = assembled_are n ss cs (omega arith) in (ap (λ (x : List TableRef). s ∷ x) r.0, r.1)

ref_again : (x : List ℕ × Option (List ℕ)) (ws : List Terminal) → Then Name (Maybe (After (Symbol symbol.Dot) Name)) x ws → AreProper ws → Again RefText (ref_of x) (ref_text (ref_of x))
ref_again (n, None) ws says proper =
    let r = proper_parts says.0 says.1 (subst AreProper says.2 proper) in
    again_as ref_of (again_then (prints_name n says.0 says.3 r.0) (again_none (After (Symbol symbol.Dot) Name)))
ref_again (n, Some m) ws says proper =
    let r = proper_parts says.0 says.1 (subst AreProper says.2 proper) in
    let a = prints_name n says.0 says.3 r.0 in
    let b = prints_name m says.4.0 says.4.2 (subst AreProper says.4.1 r.1).1 in
    record { says = ((n, Some m), refl, (print_terminals (name_text n), terminal.Fixed symbol.Dot ∷ print_terminals (name_text m), refl, a.says, (print_terminals (name_text m), refl, b.says))); proper = (a.proper.0, (tt, b.proper)); dotted = ((λ d. absurd cc), ((λ d. refl), ((λ d. absurd cc), tt))) }

prints_ref : Prints RefText ref_text
prints_ref r ws says proper = subst (λ r. Again RefText r (ref_text r)) says.1 (ref_again says.0 ws says.2 proper)

-- behind GROUP BY stands one name at least
group_full : (rs : List Ref) (ws : List Terminal) → Listed RefText rs ws → print_token.Symbol symbol.Group ∷ print_token.Symbol symbol.By ∷ list_text ref_text rs ≡ group_text rs
group_full rs ws says = subst (λ (zs : List Ref). print_token.Symbol symbol.Group ∷ print_token.Symbol symbol.By ∷ list_text ref_text zs ≡ group_text zs) says.1 refl

group_again : (o : Option (List Ref)) (ws : List Terminal) → Maybe (After (Symbol symbol.Group) (After (Symbol symbol.By) (Listed RefText))) o ws → AreProper ws → Again Group (some_or_none o) (group_text (some_or_none o))
group_again None ws says proper = again_as some_or_none (again_none (After (Symbol symbol.Group) (After (Symbol symbol.By) (Listed RefText))))
group_again (Some rs) ws says proper =
    let a = (subst AreProper says.1 proper).1 in
    let b = (subst AreProper says.2.1 a).1 in
    let list = prints_listed RefText ref_text prints_ref rs says.2.0 says.2.2 b in
    subst (λ (t : List PrintToken). Again Group rs t) (group_full rs says.2.0 says.2.2) (again_as some_or_none (again_some (again_after (Symbol symbol.Group) refl (again_after (Symbol symbol.By) refl list))))

prints_group : Prints Group group_text
prints_group rs ws says proper = subst (λ rs. Again Group rs (group_text rs)) says.1 (group_again says.0 ws says.2 proper)

prints_direction : Prints Direction direction_text
prints_direction =
    turns_or (turns_to (After (Symbol symbol.Asc) (Just false)) direction_text false (token_only (Symbol symbol.Asc) false) (again_right _ (again_right _ (again_just false))))
    (turns_or (turns_to (After (Symbol symbol.Desc) (Just true)) direction_text true (token_only (Symbol symbol.Desc) true) (again_right _ (again_left _ (the_token (Symbol symbol.Desc) true refl))))
    (turns_to (Just false) direction_text false (λ x ws says. says.0) (again_right _ (again_right _ (again_just false)))))

prints_key : Prints KeyText key_text
prints_key = turns_as key_with key_text (λ x. refl) (prints_then (prints_one key_of key_by_text key_is) prints_direction)

order_full : (ks : List Key) (ws : List Terminal) → Listed KeyText ks ws → print_token.Symbol symbol.Order ∷ print_token.Symbol symbol.By ∷ list_text key_text ks ≡ order_text ks
order_full ks ws says = subst (λ (zs : List Key). print_token.Symbol symbol.Order ∷ print_token.Symbol symbol.By ∷ list_text key_text zs ≡ order_text zs) says.1 refl

order_again : (o : Option (List Key)) (ws : List Terminal) → Maybe (After (Symbol symbol.Order) (After (Symbol symbol.By) (Listed KeyText))) o ws → AreProper ws → Again Order (some_or_none o) (order_text (some_or_none o))
order_again None ws says proper = again_as some_or_none (again_none (After (Symbol symbol.Order) (After (Symbol symbol.By) (Listed KeyText))))
order_again (Some ks) ws says proper =
    let a = (subst AreProper says.1 proper).1 in
    let b = (subst AreProper says.2.1 a).1 in
    let list = prints_listed KeyText key_text prints_key ks says.2.0 says.2.2 b in
    subst (λ (t : List PrintToken). Again Order ks t) (order_full ks says.2.0 says.2.2) (again_as some_or_none (again_some (again_after (Symbol symbol.Order) refl (again_after (Symbol symbol.By) refl list))))

prints_order : Prints Order order_text
prints_order ks ws says proper = subst (λ ks. Again Order ks (order_text ks)) says.1 (order_again says.0 ws says.2 proper)

-- the sources of a query, with their conditions on the last ones
sources_again : (x : TableRef × List Following) (ws : List Terminal) → Sources x ws → AreProper ws → (ys : List Following) × (sources_of ys ≡ sources_of x.1) × (conditions_of ys ≡ conditions_of x.1) × Again Sources (x.0, ys) (from_text (x.0 ∷ sources_of x.1) (conditions_of x.1))
sources_again x ws says proper =
    let r = proper_parts says.0 says.1 (subst AreProper says.2 proper) in
    let first = prints_source x.0 says.0 says.3 r.0 in
    let ok = all_ok x.1 says.1 says.4 r.1 in
    let ss = sources_of x.1 in
    let cs = conditions_of x.1 in
    let n = length ss - length cs in
    let same = assembled_are n ss cs (omega (arith, conditions_few x.1)) in
    (assembled n ss cs, same.0, same.1, again_then first (following_again n ss cs ok.0 ok.1))

prints_select : Prints (After (Symbol symbol.Select) SelectTail) printed
prints_select y ws says proper =
    let inner = says.2 in
    let x = inner.0 in
    let p0 = (subst AreProper says.1 proper).1 in
    let parts = inner.2 in
    let a = proper_parts parts.0 parts.1 (subst AreProper parts.2 p0) in
    let items = prints_items x.0 parts.0 parts.3 a.0 in
    let from = parts.4 in
    let p1 = (subst AreProper from.1 a.1).1 in
    let b = proper_parts from.2.0 from.2.1 (subst AreProper from.2.2 p1) in
    let sources = sources_again x.1.0 from.2.0 from.2.3 b.0 in
    let rest = from.2.4 in
    let ended = prints_then prints_filter (prints_then prints_group prints_order) x.1.1 from.2.1 rest b.1 in
    let z : Option (List Item) × ((TableRef × List Following) × (Option Expr × (List Ref × List Key))) = (x.0, ((x.1.0.0, sources.0), x.1.1)) in
    let same : select_of z ≡ select_of x = (λ i. stmt.Select (record { items = x.0; from = x.1.0.0 ∷ sources.1 i; conditions = sources.2 i; filter = x.1.1.0; group = x.1.1.1.0; order = x.1.1.1.1 })) in
    let made = again_after (Symbol symbol.Select) {L = SelectTail} refl (again_as select_of (again_then items (again_after (Symbol symbol.From) refl (again_then sources.3 ended)))) in
    subst (λ s. Again (After (Symbol symbol.Select) SelectTail) s (printed s)) inner.1 (subst (λ s. Again (After (Symbol symbol.Select) SelectTail) s (printed (select_of x))) same made)

-- ---- all of them

the_begin : Prints (After (Symbol symbol.Begin) (Just stmt.Begin)) printed
the_begin = turns_to (After (Symbol symbol.Begin) (Just stmt.Begin)) printed stmt.Begin (token_only (Symbol symbol.Begin) stmt.Begin) (the_token (Symbol symbol.Begin) stmt.Begin refl)

the_commit : Prints (After (Symbol symbol.Commit) (Just stmt.Commit)) printed
the_commit = turns_to (After (Symbol symbol.Commit) (Just stmt.Commit)) printed stmt.Commit (token_only (Symbol symbol.Commit) stmt.Commit) (the_token (Symbol symbol.Commit) stmt.Commit refl)

the_rollback : Prints (After (Symbol symbol.Rollback) (Just stmt.Rollback)) printed
the_rollback = turns_to (After (Symbol symbol.Rollback) (Just stmt.Rollback)) printed stmt.Rollback (token_only (Symbol symbol.Rollback) stmt.Rollback) (the_token (Symbol symbol.Rollback) stmt.Rollback refl)

prints_sentence : Prints Sentence printed
prints_sentence =
    turns_or (λ x ws says proper. (again_left _ (the_begin x ws says proper)))
    (turns_or (λ x ws says proper. (again_right _ (again_left _ (the_commit x ws says proper))))
    (turns_or (λ x ws says proper. (again_right _ (again_right _ (again_left _ (the_rollback x ws says proper)))))
    (turns_or (λ x ws says proper. (again_right _ (again_right _ (again_right _ (again_left _ (prints_create x ws says proper))))))
    (turns_or (λ x ws says proper. (again_right _ (again_right _ (again_right _ (again_right _ (again_left _ (prints_drop x ws says proper)))))))
    (turns_or (λ x ws says proper. (again_right _ (again_right _ (again_right _ (again_right _ (again_right _ (again_left _ (prints_insert x ws says proper))))))))
    (turns_or (λ x ws says proper. (again_right _ (again_right _ (again_right _ (again_right _ (again_right _ (again_right _ (again_left _ (prints_update x ws says proper)))))))))
    (turns_or (λ x ws says proper. (again_right _ (again_right _ (again_right _ (again_right _ (again_right _ (again_right _ (again_right _ (again_left _ (prints_delete x ws says proper))))))))))
    (λ x ws says proper. (again_right _ (again_right _ (again_right _ (again_right _ (again_right _ (again_right _ (again_right _ (again_right _ (prints_select x ws says proper)))))))))))))))))

pub prints_statement : Prints Statement printed
prints_statement s ws says proper =
    let x = says.0 in
    let parts = says.2 in
    let r = proper_parts parts.0 parts.1 (subst AreProper parts.2 proper) in
    let made = again_as (λ p. p.0) (again_then (prints_sentence x.0 parts.0 parts.3 r.0) (again_none (After (Symbol symbol.Semicolon) (Just {A = Unit {0}} tt)))) in
    subst (λ s. Again Statement s (printed s)) says.1 (subst (λ (a : List PrintToken). Again Statement x.0 a) (append-nil (printed x.0)) made)
