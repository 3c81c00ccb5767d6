-- The readers of CREATE TABLE and DROP TABLE are exact.
use Rattle.std.proofs.Common.{◌≡◌, true, false, List, [], ◌∷◌, ◌++◌, inl, inr, refl, sym, ap, ◌∙◌, subst}
use Rattle.std.specs.Fmt.{decimal}
use Rattle.std.proofs.lemmas.Fmt.{decimal_is_IsNumeral}
use Rattle.dl_base.specs.declared.column.ReadBy.TheVariants as read_by
use Rattle.dl_base.specs.declared.column.WriteBy.TheVariants as write_by
use Rattle.dl_base.specs.declared.column.OnUnlink.TheVariants as unlink
use Rattle.dl_base.specs.declared.column.ColumnRule.TheVariants as rule
use Rattle.dl_base.specs.declared.statement.Integrity.TheVariants as integrity
use Rattle.dl_base.specs.declared.statement.KindDef.TheVariants as kind
use Rattle.dl_base.specs.declared.statement.Stmt.TheVariants as stmt
use Rattle.sql_grammar.specs.declared.symbol.Symbol.TheVariants as symbol
use Rattle.sql_grammar.specs.declared.token.Token.{Token}
use Rattle.sql_grammar.specs.declared.token.Token.TheVariants.{Symbol, Word}
use Rattle.sql_grammar.specs.declared.token.LinkWord.TheVariants as link
use Rattle.sql_grammar.specs.declared.terminal.Terminal.{Terminal}
use Rattle.sql_grammar.specs.declared.terminal.Terminal.TheVariants as terminal
use Rattle.sql_grammar.specs.Readers.{Rises, Climbs, many_at, listed_at, enclosed_at}
use Rattle.sql_grammar.specs.Lang.{Then, One, Many, Listed, Enclosed}
use Rattle.dl_base.specs.declared.column.ColumnRule.{ColumnRule}
use Rattle.std.proofs.Common.{arith, pos}
use Rattle.sql_grammar.specs.Statements.{name_of, number_of, Name, IntegrityWord, ReadWord, WriteWord, YesNo, UnlinkWord, Unlinking, Recovery, Writing, Reading, chosen, Choices, Filed, Control, DatalinkTail, Kind, Rule, column_of, Column, CreateTail, DropTail}
use Rattle.sql_grammar.specs.Reading.{name_at, integrity_at, read_at, write_at, yes_no_at, unlink_at, unlinking_at, recovery_at, writing_at, reading_at, choices_at, filed_at, control_at, datalink_at, kind_at, rule_at, begins_rule, column_at, create_at, drop_at}
use Rattle.sql_grammar.proofs.Sound.{name_proper}
use Rattle.sql_grammar.proofs.Readers.{Has, Reads, Any, reads_then, reads_map, reads_branch, reads_after, reads_just, reads_one, reads_closed, apart_after, apart_or, apart_just, has_then, has_after, has_map, has_just, has_left, has_closed, reads_rise}
use Rattle.sql_grammar.proofs.Many.{Passes, reads_many, reads_listed, reads_climb, has_many, has_listed}
use Rattle.sql_grammar.proofs.Follow.{Heads, heads, lacks, follow, starts_any}

-- ---- names and numbers

pub reads_name : (E : List Terminal → Type 0) → Reads name_at Name E
reads_name E = reads_one name_of E

pub has_name : Has Name
has_name = record { value = 97 ∷ []; text = terminal.Word (97 ∷ []) ∷ []; says = (terminal.Word (97 ∷ []), refl, refl); proper = name_proper }

has_number : Has (One number_of)
has_number = record { value = pos 1; text = terminal.Number (pos 1) ∷ []; says = (terminal.Number (pos 1), refl, refl); proper = (let d = decimal_is_IsNumeral 1 (omega arith) in (decimal 1, (d.0, omega (arith, d.1), ap pos (sym d.1))), tt) }

-- ---- link control

-- what may follow a column's type
columns_rest : List Token
columns_rest = Symbol symbol.Not ∷ Symbol symbol.Primary ∷ Symbol symbol.Comma ∷ Symbol symbol.Close ∷ []

has_integrity : Has IntegrityWord
has_integrity = has_left _ (has_after (Word link.All) (has_just integrity.All))

reads_integrity : (E : List Terminal → Type 0) → Reads integrity_at IntegrityWord E
unfolding integrity_at
reads_integrity E =
    reads_branch (Word link.All) (has_just integrity.All) (reads_just integrity.All E)
    (reads_branch (Word link.Selective) (has_just integrity.Selective) (reads_just integrity.Selective E) (reads_after (Word link.None) (has_just integrity.Nothing) (reads_just integrity.Nothing E)) (apart_after (Word link.Selective) (Word link.None) _ E refl))
    (apart_or (Word link.All) _ _ E (apart_after (Word link.All) (Word link.Selective) _ E refl) (apart_after (Word link.All) (Word link.None) _ E refl))

has_read : Has ReadWord
has_read = has_left _ (has_after (Word link.Fs) (has_just read_by.Fs))

reads_read : (E : List Terminal → Type 0) → Reads read_at ReadWord E
unfolding read_at
reads_read E = reads_branch (Word link.Fs) (has_just read_by.Fs) (reads_just read_by.Fs E) (reads_after (Word link.Db) (has_just read_by.Db) (reads_just read_by.Db E)) (apart_after (Word link.Fs) (Word link.Db) _ E refl)

has_write : Has WriteWord
has_write = has_left _ (has_after (Word link.Fs) (has_just write_by.Fs))

reads_write : (E : List Terminal → Type 0) → Reads write_at WriteWord E
unfolding write_at
reads_write E =
    reads_branch (Word link.Fs) (has_just write_by.Fs) (reads_just write_by.Fs E)
    (reads_branch (Word link.Blocked) (has_just write_by.Blocked) (reads_just write_by.Blocked E) (reads_after (Word link.Admin) (has_just write_by.Admin) (reads_just write_by.Admin E)) (apart_after (Word link.Blocked) (Word link.Admin) _ E refl))
    (apart_or (Word link.Fs) _ _ E (apart_after (Word link.Fs) (Word link.Blocked) _ E refl) (apart_after (Word link.Fs) (Word link.Admin) _ E refl))

has_yes_no : Has YesNo
has_yes_no = has_left _ (has_after (Word link.Yes) (has_just true))

reads_yes_no : (E : List Terminal → Type 0) → Reads yes_no_at YesNo E
unfolding yes_no_at
reads_yes_no E = reads_branch (Word link.Yes) (has_just true) (reads_just true E) (reads_after (Word link.No) (has_just false) (reads_just false E)) (apart_after (Word link.Yes) (Word link.No) _ E refl)

has_unlink : Has UnlinkWord
has_unlink = has_left _ (has_after (Word link.Restore) (has_just unlink.Restore))

reads_unlink : (E : List Terminal → Type 0) → Reads unlink_at UnlinkWord E
unfolding unlink_at
reads_unlink E =
    reads_branch (Word link.Restore) (has_just unlink.Restore) (reads_just unlink.Restore E)
    (reads_branch (Symbol symbol.Delete) (has_just unlink.Delete) (reads_just unlink.Delete E) (reads_after (Word link.None) (has_just unlink.Nothing) (reads_just unlink.Nothing E)) (apart_after (Symbol symbol.Delete) (Word link.None) _ E refl))
    (apart_or (Word link.Restore) _ _ E (apart_after (Word link.Restore) (Symbol symbol.Delete) _ E refl) (apart_after (Word link.Restore) (Word link.None) _ E refl))

has_unlinking : Has Unlinking
has_unlinking = has_left _ (has_after (Symbol symbol.On) (has_after (Word link.Unlink) has_unlink))

reads_unlinking : Reads unlinking_at Unlinking (Heads columns_rest)
unfolding unlinking_at columns_rest
reads_unlinking =
    reads_branch (Symbol symbol.On) (has_after (Word link.Unlink) has_unlink) (reads_after (Word link.Unlink) has_unlink (reads_unlink (Heads columns_rest))) (reads_just unlink.Nothing (Heads columns_rest))
    (apart_just (Symbol symbol.On) unlink.Nothing (Heads columns_rest) (lacks (Symbol symbol.On) columns_rest refl (λ ws. refl, (λ ws. refl, (λ ws. refl, (λ ws. refl, tt))))))

has_recovery : Has Recovery
has_recovery = has_after (Word link.Recovery) (has_then has_yes_no has_unlinking)

reads_recovery : Reads recovery_at Recovery (Heads columns_rest)
unfolding recovery_at
reads_recovery = reads_after (Word link.Recovery) (has_then has_yes_no has_unlinking) (reads_then (reads_yes_no Any) reads_unlinking has_unlinking (starts_any Unlinking (Heads columns_rest)))

has_writing : Has Writing
has_writing = has_after (Word link.Write) (has_after (Word link.Permission) (has_then has_write has_recovery))

reads_writing : Reads writing_at Writing (Heads columns_rest)
unfolding writing_at
reads_writing =
    reads_after (Word link.Write) (has_after (Word link.Permission) (has_then has_write has_recovery)) (reads_after (Word link.Permission) (has_then has_write has_recovery)
    (reads_then (reads_write Any) reads_recovery has_recovery (starts_any Recovery (Heads columns_rest))))

has_reading : Has Reading
has_reading = has_after (Word link.Read) (has_after (Word link.Permission) (has_then has_read has_writing))

reads_reading : Reads reading_at Reading (Heads columns_rest)
unfolding reading_at
reads_reading =
    reads_after (Word link.Read) (has_after (Word link.Permission) (has_then has_read has_writing)) (reads_after (Word link.Permission) (has_then has_read has_writing)
    (reads_then (reads_read Any) reads_writing has_writing (starts_any Writing (Heads columns_rest))))

has_choices : Has Choices
has_choices = has_map chosen (has_after (Word link.Integrity) (has_then has_integrity has_reading))

reads_choices : Reads choices_at Choices (Heads columns_rest)
unfolding choices_at
reads_choices = reads_map chosen (reads_after (Word link.Integrity) (has_then has_integrity has_reading) (reads_then (reads_integrity Any) reads_reading has_reading (starts_any Reading (Heads columns_rest))))

has_filed : Has Filed
has_filed = has_left _ (has_after (Word link.Mode) (has_after (Word link.Db2options) (has_just kind.Db2)))

reads_filed : Reads filed_at Filed (Heads columns_rest)
unfolding filed_at
reads_filed =
    reads_branch (Word link.Mode) (has_after (Word link.Db2options) (has_just kind.Db2)) (reads_after (Word link.Db2options) (has_just kind.Db2) (reads_just kind.Db2 (Heads columns_rest))) reads_choices
    (λ x here rest says ends. apart_after (Word link.Mode) (Word link.Integrity) (Then IntegrityWord Reading) (Heads columns_rest) refl says.0 here rest says.2 ends)

has_control : Has Control
has_control = has_left _ (has_after (Word link.No) (has_after (Word link.Link) (has_after (Word link.Control) (has_just kind.Free))))

reads_control : Reads control_at Control (Heads columns_rest)
unfolding control_at columns_rest
reads_control =
    let E : List Terminal → Type 0 = Heads columns_rest in
    reads_branch (Word link.No) (has_after (Word link.Link) (has_after (Word link.Control) (has_just kind.Free))) (reads_after (Word link.Link) (has_after (Word link.Control) (has_just kind.Free)) (reads_after (Word link.Control) (has_just kind.Free) (reads_just kind.Free E)))
    (reads_branch (Word link.File) (has_after (Word link.Link) (has_after (Word link.Control) has_filed)) (reads_after (Word link.Link) (has_after (Word link.Control) has_filed) (reads_after (Word link.Control) has_filed reads_filed)) (reads_just kind.Free E)
    (apart_just (Word link.File) kind.Free E (lacks (Word link.File) columns_rest refl (λ ws. refl, (λ ws. refl, (λ ws. refl, (λ ws. refl, tt)))))))
    (apart_or (Word link.No) _ _ E (apart_after (Word link.No) (Word link.File) _ E refl) (apart_just (Word link.No) kind.Free E (lacks (Word link.No) columns_rest refl (λ ws. refl, (λ ws. refl, (λ ws. refl, (λ ws. refl, tt)))))))

has_datalink : Has DatalinkTail
has_datalink = has_left _ (has_after (Word link.Linktype) (has_after (Word link.Url) has_control))

reads_datalink : Reads datalink_at DatalinkTail (Heads columns_rest)
unfolding datalink_at columns_rest
reads_datalink =
    let E : List Terminal → Type 0 = Heads columns_rest in
    reads_branch (Word link.Linktype) (has_after (Word link.Url) has_control) (reads_after (Word link.Url) has_control reads_control) reads_control
    (apart_or (Word link.Linktype) _ _ E (apart_after (Word link.Linktype) (Word link.No) _ E refl) (apart_or (Word link.Linktype) _ _ E (apart_after (Word link.Linktype) (Word link.File) _ E refl) (apart_just (Word link.Linktype) kind.Free E (lacks (Word link.Linktype) columns_rest refl (λ ws. refl, (λ ws. refl, (λ ws. refl, (λ ws. refl, tt))))))))

-- ---- types

has_kind : Has Kind
has_kind = has_left _ (has_after (Symbol symbol.Integer) (has_just kind.Integer))

has_length : Has (Enclosed (One number_of))
has_length = has_after (Symbol symbol.Open) (has_closed (Symbol symbol.Close) has_number)

reads_kind : Reads kind_at Kind (Heads columns_rest)
unfolding kind_at
reads_kind =
    let E : List Terminal → Type 0 = Heads columns_rest in
    reads_branch (Symbol symbol.Integer) (has_just kind.Integer) (reads_just kind.Integer E)
    (reads_branch (Symbol symbol.Bigint) (has_just kind.Integer) (reads_just kind.Integer E)
    (reads_branch (Symbol symbol.Varchar) (has_map kind.Varchar has_length) (reads_map kind.Varchar (reads_after (Symbol symbol.Open) (has_closed (Symbol symbol.Close) has_number) (reads_closed (Symbol symbol.Close) E (λ rest. tt) (reads_one number_of Any))))
    (reads_after (Symbol symbol.Datalink) has_datalink reads_datalink)
    (apart_after (Symbol symbol.Varchar) (Symbol symbol.Datalink) _ E refl))
    (apart_or (Symbol symbol.Bigint) _ _ E (apart_after (Symbol symbol.Bigint) (Symbol symbol.Varchar) _ E refl) (apart_after (Symbol symbol.Bigint) (Symbol symbol.Datalink) _ E refl)))
    (apart_or (Symbol symbol.Integer) _ _ E (apart_after (Symbol symbol.Integer) (Symbol symbol.Bigint) _ E refl) (apart_or (Symbol symbol.Integer) _ _ E (apart_after (Symbol symbol.Integer) (Symbol symbol.Varchar) _ E refl) (apart_after (Symbol symbol.Integer) (Symbol symbol.Datalink) _ E refl)))

-- ---- columns

has_rule : Has Rule
has_rule = has_left _ (has_after (Symbol symbol.Not) (has_after (Symbol symbol.Null) (has_just rule.NotNull)))

reads_rule : Reads rule_at Rule Any
unfolding rule_at
reads_rule =
    reads_branch (Symbol symbol.Not) (has_after (Symbol symbol.Null) (has_just rule.NotNull)) (reads_after (Symbol symbol.Null) (has_just rule.NotNull) (reads_just rule.NotNull Any))
    (reads_after (Symbol symbol.Primary) (has_after (Symbol symbol.Key) (has_just rule.Key)) (reads_after (Symbol symbol.Key) (has_just rule.Key) (reads_just rule.Key Any)))
    (apart_after (Symbol symbol.Not) (Symbol symbol.Primary) _ Any refl)

rule_passes : Passes begins_rule Rule
rule_passes x a (inl says) = (terminal.Fixed symbol.Not, says.0, says.1, refl)
rule_passes x a (inr says) = (terminal.Fixed symbol.Primary, says.0, says.1, refl)

-- what may follow a column
column_rest : List Token
column_rest = Symbol symbol.Comma ∷ Symbol symbol.Close ∷ []

has_column : Has Column
has_column = has_map column_of (has_then has_name (has_then has_kind (has_many Rule)))

reads_rules : Reads (many_at begins_rule rule_at) (Many Rule) (Heads column_rest)
unfolding column_rest
reads_rules = follow column_rest (tt, refl) (λ ws. (tt, refl), (λ ws. (tt, refl), tt)) (reads_many begins_rule reads_rule rule_passes refl (λ w rest e. tt))

-- a rule, or what follows a column, may follow a type
rules_start : (y : List ColumnRule) (b rest : List Terminal) → Many Rule y b → Heads column_rest rest → Heads columns_rest (b ++ rest)
unfolding column_rest columns_rest
rules_start [] b rest says ends = subst (λ (z : List Terminal). Heads columns_rest (z ++ rest)) (sym says) (heads column_rest (Heads columns_rest) tt (λ ws. inr (inr (inl refl)), (λ ws. inr (inr (inr (inl refl))), tt)) rest ends)
rules_start (x ∷ xs) b rest says ends = first says.3
  where
    first : Rule x says.0 → Heads columns_rest (b ++ rest)
    first (inl s) = let e : b ≡ terminal.Fixed symbol.Not ∷ (s.0 ++ says.1) = says.2 ∙ ap (λ (z : List Terminal). z ++ says.1) s.1 in subst (λ (z : List Terminal). Heads columns_rest (z ++ rest)) (sym e) (inl refl)
    first (inr s) = let e : b ≡ terminal.Fixed symbol.Primary ∷ (s.0 ++ says.1) = says.2 ∙ ap (λ (z : List Terminal). z ++ says.1) s.1 in subst (λ (z : List Terminal). Heads columns_rest (z ++ rest)) (sym e) (inr (inl refl))

reads_column : Reads column_at Column (Heads column_rest)
unfolding column_at
reads_column = reads_map column_of (reads_then (reads_name Any) (reads_then reads_kind reads_rules (has_many Rule) rules_start) (has_then has_kind (has_many Rule)) (starts_any (Then Kind (Many Rule)) (Heads column_rest)))

has_columns : Has (Enclosed (Listed Column))
has_columns = has_after (Symbol symbol.Open) (has_closed (Symbol symbol.Close) (has_listed has_column))

reads_columns : (E : List Terminal → Type 0) → Reads (enclosed_at (listed_at column_at)) (Enclosed (Listed Column)) E
unfolding column_rest
reads_columns E = reads_after (Symbol symbol.Open) (has_closed (Symbol symbol.Close) (has_listed has_column)) (reads_closed (Symbol symbol.Close) E (λ rest. (inr (inl refl), refl)) (reads_listed has_column reads_column (λ rest. inl refl)))

pub has_create : Has CreateTail
has_create = has_map (λ p. stmt.CreateTable p.0 p.1) (has_after (Symbol symbol.Table) (has_then has_name has_columns))

pub reads_create : (E : List Terminal → Type 0) → Reads create_at CreateTail E
unfolding create_at
reads_create E = reads_map (λ p. stmt.CreateTable p.0 p.1) (reads_after (Symbol symbol.Table) (has_then has_name has_columns) (reads_then (reads_name Any) (reads_columns E) has_columns (starts_any (Enclosed (Listed Column)) E)))

pub has_drop : Has DropTail
has_drop = has_map stmt.DropTable (has_after (Symbol symbol.Table) has_name)

pub reads_drop : (E : List Terminal → Type 0) → Reads drop_at DropTail E
unfolding drop_at
reads_drop E = reads_map stmt.DropTable (reads_after (Symbol symbol.Table) has_name (reads_name E))

-- ---- where reading goes on

pub name_rises : Rises name_at
name_rises = reads_rise (reads_name Any)

pub rule_climbs : Climbs begins_rule rule_at
rule_climbs = reads_climb begins_rule reads_rule rule_passes

pub column_rises : Rises column_at
column_rises = reads_rise reads_column
