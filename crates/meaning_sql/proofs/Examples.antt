-- Small columns, values and groups: what SQL says of them.
use Rattle.std.proofs.Common.{◌≡◌, ℕ, true, false, List, [], ◌∷◌, codes, replicate, Option, Some, None, Result, Ok, Err, refl, sym, ap, ◌∙◌, pos, negsuc}
use Rattle.dl_base.specs.declared.column.Column.{Column}
use Rattle.dl_base.specs.declared.column.ColumnRule.TheVariants as rules
use Rattle.dl_base.specs.declared.column.Kind.{Kind}
use Rattle.dl_base.specs.declared.column.Kind.TheVariants as kinds
use Rattle.dl_base.specs.declared.column.OnUnlink.TheVariants as unlink
use Rattle.dl_base.specs.declared.column.Options.{Options}
use Rattle.dl_base.specs.declared.column.ReadBy.TheVariants as read
use Rattle.dl_base.specs.declared.column.WriteBy.TheVariants as write
use Rattle.dl_base.specs.declared.sql_fault.BadLink.TheVariants as bad
use Rattle.dl_base.specs.declared.sql_fault.SqlFault.{SqlFault}
use Rattle.dl_base.specs.declared.sql_fault.SqlFault.TheVariants as faults
use Rattle.dl_base.specs.declared.statement.Expr.{Expr, fold-roll-Expr}
use Rattle.dl_base.specs.declared.statement.Expr.TheOpen as level
use Rattle.dl_base.specs.declared.statement.Expr.TheVariants as expressions
use Rattle.dl_base.specs.declared.statement.Fold.TheVariants as aggregates
use Rattle.dl_base.specs.declared.statement.Op.TheVariants as ops
use Rattle.dl_base.specs.declared.statement.Part.TheVariants as parts
use Rattle.dl_base.specs.declared.statement.Ref.{Ref}
use Rattle.dl_base.specs.declared.value.Row.{Row}
use Rattle.dl_base.specs.declared.value.Value.{Value}
use Rattle.dl_base.specs.declared.value.Value.TheVariants as values
use Rattle.meaning_sql.specs.declared.Context.{Context}
use Rattle.meaning_sql.specs.declared.SqlType.{SqlType}
use Rattle.meaning_sql.specs.declared.SqlType.TheVariants as types
use Rattle.meaning_sql.specs.declared.AggregateScope.{AggregateScope}
use Rattle.meaning_sql.specs.declared.AggregateScope.TheVariants as scope
use Rattle.meaning_sql.specs.Columns.{Columns, place_of, options_at}
use Rattle.meaning_sql.specs.Conditions.{is_true, holds_all}
use Rattle.meaning_sql.specs.Datalinks.{linked, is_url, comment_text, datalink, shown, accessed}
use Rattle.meaning_sql.specs.Operators.{truth_of, of_truth, not3, negated, binary, is_null, gathered}
use Rattle.meaning_sql.specs.Types.{type_at}
use Rattle.meaning_sql.specs.Values.{cell, Denotation, plain, denotation_at, meaning}

-- which column a reference means

abbrev column : ℕ → ℕ → Kind → List ℕ × Column
column table letter kind = (table ∷ [], record { name = letter ∷ []; kind = kind; rule = rules.Plain })

-- t.a, t.b and u.a
abbrev three : Columns
three = column 116 97 kinds.Int ∷ column 116 98 (kinds.Text 9) ∷ column 117 97 kinds.Free ∷ []

abbrev named : Option (List ℕ) → ℕ → Ref
named table letter = record { table = table; column = letter ∷ [] }

meant_by_name : place_of three (named None 98) ≡ Ok 1
unfolding place_of
meant_by_name = refl

meant_by_table_and_name : place_of three (named (Some (117 ∷ [])) 97) ≡ Ok 2
unfolding place_of
meant_by_table_and_name = refl

of_no_such_column : place_of three (named (Some (117 ∷ [])) 98) ≡ Err (faults.NoColumn (98 ∷ []))
unfolding place_of
of_no_such_column = refl

of_two_tables : place_of three (named None 97) ≡ Err (faults.Ambiguous (97 ∷ []))
unfolding place_of
of_two_tables = refl

-- three-valued logic; a refusal of a side that is not evaluated does not count

abbrev yes : Value
yes = values.Int (pos 1)

abbrev no : Value
no = values.Int (pos 0)

abbrev refused : Result Value SqlFault
refused = Err faults.ZeroDivide

false_and_refused : binary ops.And no refused ≡ Ok no
unfolding binary truth_of of_truth
false_and_refused = refl

unknown_and_refused : binary ops.And values.Null refused ≡ refused
unfolding binary truth_of of_truth
unknown_and_refused = refl

unknown_and_false : binary ops.And values.Null (Ok no) ≡ Ok no
unfolding binary truth_of of_truth
unknown_and_false = refl

unknown_and_true : binary ops.And values.Null (Ok yes) ≡ Ok values.Null
unfolding binary truth_of of_truth
unknown_and_true = refl

true_or_refused : binary ops.Or yes refused ≡ Ok yes
unfolding binary truth_of of_truth
true_or_refused = refl

unknown_or_true : binary ops.Or values.Null (Ok yes) ≡ Ok yes
unfolding binary truth_of of_truth
unknown_or_true = refl

unknown_or_false : binary ops.Or values.Null (Ok no) ≡ Ok values.Null
unfolding binary truth_of of_truth
unknown_or_false = refl

not_unknown : of_truth (not3 (truth_of values.Null)) ≡ values.Null
unfolding truth_of of_truth not3
not_unknown = refl

-- whole numbers of 64 bits

abbrev greatest : Value
greatest = values.Int (pos 9223372036854775807)

abbrev least : Value
least = values.Int (negsuc 9223372036854775807)

one_past_the_greatest : binary ops.Add greatest (Ok yes) ≡ Err faults.Overflow
unfolding binary
one_past_the_greatest = refl

down_to_the_least : binary ops.Sub (values.Int (negsuc 9223372036854775806)) (Ok yes) ≡ Ok least
unfolding binary
down_to_the_least = refl

least_negated : negated least ≡ Err faults.Overflow
unfolding negated
least_negated = refl

least_by_minus_one : binary ops.Div least (Ok (values.Int (negsuc 0))) ≡ Err faults.Overflow
unfolding binary
least_by_minus_one = refl

cut_toward_zero : binary ops.Div (values.Int (negsuc 6)) (Ok (values.Int (pos 2))) ≡ Ok (values.Int (negsuc 2))
unfolding binary
cut_toward_zero = refl

by_zero : binary ops.Div (values.Int (pos 7)) (Ok no) ≡ Err faults.ZeroDivide
unfolding binary
by_zero = refl

null_by_zero : binary ops.Div values.Null (Ok no) ≡ Ok values.Null
unfolding binary
null_by_zero = refl

-- comparison

null_with_null : binary ops.Eq values.Null (Ok values.Null) ≡ Ok values.Null
unfolding binary of_truth
null_with_null = refl

minus_one_before_zero : binary ops.Lt (values.Int (negsuc 0)) (Ok no) ≡ Ok yes
unfolding binary of_truth
minus_one_before_zero = refl

-- 'Z' before 'a'
bytes_decide : binary ops.Lt (values.Text (90 ∷ [])) (Ok (values.Text (97 ∷ []))) ≡ Ok yes
unfolding binary of_truth
bytes_decide = refl

shorter_before_longer : binary ops.Ge (values.Text (97 ∷ [])) (Ok (values.Text (97 ∷ 97 ∷ []))) ≡ Ok no
unfolding binary of_truth
shorter_before_longer = refl

-- aggregates

sum_of_no_row : gathered aggregates.Sum values.Null [] ≡ Ok values.Null
unfolding gathered
sum_of_no_row = refl

sum_of_nulls : gathered aggregates.Sum values.Null (Ok values.Null ∷ Ok values.Null ∷ []) ≡ Ok values.Null
unfolding gathered
sum_of_nulls = refl

sum_beside_null : gathered aggregates.Sum values.Null (Ok yes ∷ Ok values.Null ∷ Ok yes ∷ []) ≡ Ok (values.Int (pos 2))
unfolding gathered
sum_beside_null = refl

least_beside_null : gathered aggregates.Min values.Null (Ok values.Null ∷ Ok yes ∷ Ok no ∷ Ok values.Null ∷ []) ≡ Ok no
unfolding gathered
least_beside_null = refl

greatest_text : gathered aggregates.Max values.Null (Ok (values.Text (97 ∷ [])) ∷ Ok (values.Text (98 ∷ [])) ∷ Ok values.Null ∷ []) ≡ Ok (values.Text (98 ∷ []))
unfolding gathered
greatest_text = refl

-- the whole sum fits
overflow_on_the_way : gathered aggregates.Sum values.Null (Ok greatest ∷ Ok yes ∷ Ok (values.Int (negsuc 0)) ∷ []) ≡ Err faults.Overflow
unfolding gathered
overflow_on_the_way = refl

overflow_before_a_later_row : gathered aggregates.Sum values.Null (Ok greatest ∷ Ok yes ∷ refused ∷ []) ≡ Err faults.Overflow
unfolding gathered
overflow_before_a_later_row = refl

-- types; operands at a place say theirs, or the first breach

abbrev Typed : Type 0
Typed = AggregateScope → Result SqlType SqlFault

abbrev of : SqlType → Typed
of t s = Ok t

abbrev of_none : ℕ → Typed
of_none letter s = Err (faults.NoColumn (letter ∷ []))

abbrev by_first : AggregateScope
by_first = scope.Grouped (0 ∷ [])

left_breach_first : type_at three (level.Binary ops.Add (of_none 120) (of_none 121)) scope.Row ≡ Err (faults.NoColumn (120 ∷ []))
left_breach_first = refl

right_breach_before_the_operator : type_at three (level.Binary ops.Add (of types.Text) (of_none 121)) scope.Row ≡ Err (faults.NoColumn (121 ∷ []))
right_breach_before_the_operator = refl

null_is_compared_with_text : type_at three (level.Binary ops.Eq (of types.Null) (of types.Text)) scope.Row ≡ Ok types.Truth
null_is_compared_with_text = refl

null_is_a_truth : type_at three (level.Binary ops.And (of types.Truth) (of types.Null)) scope.Row ≡ Ok types.Truth
null_is_a_truth = refl

part_of_null : type_at three (level.Access parts.Path (of types.Null)) scope.Row ≡ Ok types.Text
part_of_null = refl

number_with_text : type_at three (level.Binary ops.Lt (of types.Int) (of types.Text)) scope.Row ≡ Err faults.TypeFault
number_with_text = refl

datalinks_are_not_compared : type_at three (level.Binary ops.Eq (of types.Link) (of types.Link)) scope.Row ≡ Err faults.TypeFault
datalinks_are_not_compared = refl

truths_are_not_compared : type_at three (level.Binary ops.Eq (of types.Truth) (of types.Truth)) scope.Row ≡ Err faults.TypeFault
truths_are_not_compared = refl

truth_is_null : type_at three (level.IsNull (of types.Truth) true) scope.Row ≡ Err faults.TypeFault
truth_is_null = refl

sum_of_texts : type_at three (level.Aggregate aggregates.Sum (of types.Text)) scope.Item ≡ Err faults.TypeFault
sum_of_texts = refl

greatest_of_texts : type_at three (level.Aggregate aggregates.Max (of types.Text)) scope.Item ≡ Ok types.Text
greatest_of_texts = refl

-- before its operand is looked at
aggregate_in_where : type_at three (level.Aggregate aggregates.Sum (of_none 120)) scope.Row ≡ Err faults.TypeFault
aggregate_in_where = refl

aggregate_in_aggregate : type_at three (level.Aggregate aggregates.Sum (type_at three level.CountAll)) scope.Item ≡ Err faults.TypeFault
aggregate_in_aggregate = refl

grouping_column : type_at three (level.Column (named (Some (116 ∷ [])) 97)) by_first ≡ Ok types.Int
unfolding place_of
grouping_column = refl

outside_group_by : type_at three (level.Column (named None 98)) by_first ≡ Err faults.TypeFault
unfolding place_of
outside_group_by = refl

inside_an_aggregate : type_at three (level.Aggregate aggregates.Min (type_at three (level.Column (named None 98)))) by_first ≡ Ok types.Text
unfolding place_of
inside_an_aggregate = refl

-- what DLVALUE makes

-- a location that was read, and its path
abbrev read_well : List ℕ × List ℕ
read_well = (codes "http://fs1/a", codes "/a")

abbrev long : ℕ → List ℕ
long bytes = replicate bytes 120

abbrev link_with : List ℕ → Value
link_with comment = values.Link (record { location = codes "http://fs1/a"; path = codes "/a"; comment = comment; link = None })

null_location : datalink (codes "fs1") values.Null (values.Text (codes "FILE")) (values.Text (long 201)) ≡ Ok values.Null
unfolding datalink
null_location = refl

any_case_of_letters : linked (Ok read_well) (is_url (values.Text (codes "uRl"))) (codes "note") ≡ Ok (link_with (codes "note"))
any_case_of_letters = refl

null_counts_as_url : linked (Ok read_well) (is_url values.Null) (comment_text values.Null) ≡ Ok (link_with [])
null_counts_as_url = refl

another_link_type : linked (Ok read_well) (is_url (values.Text (codes "FILE"))) [] ≡ Err (faults.BadLink bad.LinkType)
another_link_type = refl

comment_of_200_bytes : linked (Ok read_well) true (long 200) ≡ Ok (link_with (long 200))
comment_of_200_bytes = refl

comment_of_201_bytes : linked (Ok read_well) true (long 201) ≡ Err (faults.BadLink bad.Comment)
comment_of_201_bytes = refl

location_before_link_type : linked (Err bad.NotUrl) false (long 201) ≡ Err (faults.BadLink bad.NotUrl)
location_before_link_type = refl

link_type_before_comment : linked (Ok read_well) false (long 201) ≡ Err (faults.BadLink bad.LinkType)
link_type_before_comment = refl

-- accessors, and what else an expression says

abbrev at_moment : Context
at_moment = record { server = codes "fs1"; key = []; now = 100; life = 60; tx = 9 }

abbrev read_by_database : Options
read_by_database = record { read = read.Db; write = write.Blocked; recovery = false; unlink = unlink.Restore }

abbrev says : Result Value SqlFault → Denotation
says x = plain (λ row. x)

abbrev first_row : Row
first_row = record { values = values.Int (pos 7) ∷ values.Text (codes "x") ∷ values.Null ∷ [] }

part_of_null_is_null : accessed at_moment None parts.Server values.Null ≡ values.Null
unfolding accessed
part_of_null_is_null = refl

server_in_upper_case : accessed at_moment None parts.Server (link_with []) ≡ values.Text (codes "FS1")
unfolding accessed
server_in_upper_case = refl

scheme_in_upper_case : accessed at_moment None parts.Scheme (link_with []) ≡ values.Text (codes "HTTP")
unfolding accessed
scheme_in_upper_case = refl

path_without_a_token : accessed at_moment None parts.Path (link_with []) ≡ values.Text (codes "/a")
unfolding accessed shown
path_without_a_token = refl

no_link_no_token : accessed at_moment (Some read_by_database) parts.Complete (link_with []) ≡ values.Text (codes "http://fs1/a")
unfolding accessed shown
no_link_no_token = refl

-- all arguments are evaluated before DLVALUE looks at one
refused_beside_null_location : (denotation_at three at_moment [] (level.Dlvalue2 (says (Ok values.Null)) (says refused))).at first_row ≡ refused
unfolding datalink
refused_beside_null_location = refl

null_is_null : (denotation_at three at_moment [] (level.IsNull (says (Ok values.Null)) true)).at first_row ≡ Ok yes
unfolding of_truth is_null
null_is_null = refl

null_is_not_null : (denotation_at three at_moment [] (level.IsNull (says (Ok values.Null)) false)).at first_row ≡ Ok no
unfolding of_truth is_null
null_is_not_null = refl

cell_of_a_column : (denotation_at three at_moment [] (level.Column (named None 98))).at first_row ≡ Ok (values.Text (codes "x"))
unfolding place_of cell
cell_of_a_column = refl

count_of_rows : (denotation_at three at_moment (first_row ∷ first_row ∷ []) level.CountAll).at first_row ≡ Ok (values.Int (pos 2))
count_of_rows = refl

sum_over_the_group : (denotation_at three at_moment (first_row ∷ first_row ∷ []) (level.Aggregate aggregates.Sum (denotation_at three at_moment [] (level.Column (named (Some (116 ∷ [])) 97))))).at first_row ≡ Ok (values.Int (pos 14))
unfolding gathered place_of cell
sum_over_the_group = refl

options_of_a_column : (denotation_at (column 116 100 (kinds.Linked read_by_database) ∷ []) at_moment [] (level.Column (named None 100))).under ≡ Some read_by_database
unfolding options_at place_of
options_of_a_column = refl

-- conditions

unknown_is_not_true : is_true values.Null ≡ false
unfolding truth_of
unknown_is_not_true = refl

null_value : (columns : Columns) (context : Context) (at : Row) → meaning columns context [] expressions.Null at ≡ Ok values.Null
null_value columns context at = ap (λ (e : Expr). meaning columns context [] e at) (sym expressions.rolls-Null) ∙ ap (λ (denotation : Denotation). denotation.at at) (fold-roll-Expr Denotation (denotation_at columns context []) level.Null)

unknown_row_left_out : (later : Expr) → holds_all [] at_moment (expressions.Null ∷ later ∷ []) first_row ≡ Ok false
unfolding truth_of
unknown_row_left_out later = rw (null_value [] at_moment first_row) refl
