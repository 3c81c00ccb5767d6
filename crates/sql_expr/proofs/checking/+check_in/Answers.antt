use Rattle.std.proofs.Common.{◌≡◌, ◌&&◌, true, Bool, OnErr, Result, Ok, refl, ap, sym, subst, ◌∙◌}
use Rattle.std.specs.Prelude.{is_err}
use Rattle.dl_base.specs.declared.sql_fault.SqlFault.{SqlFault}
use Rattle.dl_base.specs.declared.statement.Expr.{Expr}
use Rattle.meaning_sql.specs.declared.AggregateScope.TheVariants as scope
use Rattle.meaning_sql.specs.declared.SqlType.{SqlType}
use Rattle.meaning_sql.specs.declared.SqlType.TheVariants as types
use Rattle.meaning_sql.specs.Faults.{◌>>=◌, Computes, typed}
use Rattle.meaning_sql.specs.Types.{aggregate_type, binary_type, is_cell, is_int, is_link, is_text, is_truth, takes_aggregate, type_of}
use Rattle.sql_expr.proofs.TypeEquations.{type_of-Not, type_of-Minus, type_of-Binary, type_of-IsNull, type_of-Aggregate, type_of-Dlvalue1, type_of-Dlvalue2, type_of-Dlvalue3, type_of-Access}
use Rattle.sql_expr.proofs.checking.+check_in.Goals as goal

abbrev Of_type : Result SqlType SqlFault → Result SqlType SqlFault → Type 0
Of_type result m = Computes (λ t. t) result m

abbrev Accepted : Result SqlType SqlFault → Result SqlType SqlFault → Type 0
Accepted result m = OnErr result (is_err m ≡ true)

pub returns-in-Not : goal.returns-in-Not
returns-in-Not t c =
    let columns = c.args.columns.now in
    let s = c.args.scope.now in
    let type = type_of columns s in
    let is =
    ap (λ (a : Expr). type a >>= λ t. typed (is_truth t) types.Truth) c.get.ensures
    ∙ sym (ap type c.in-Not.is ∙ type_of-Not columns s c.in-Not.inner) in
    record {
      of_type = subst (Of_type c.one_operand.result) is (c.one_operand.ensures.of_type (type c.get.result.now) c.check_in-t.ensures.of_type);
      accepted = subst (Accepted c.one_operand.result) is (c.one_operand.ensures.accepted (type c.get.result.now) c.check_in-t.ensures.of_type c.check_in-t.ensures.accepted);
    }

pub returns-in-Minus : goal.returns-in-Minus
returns-in-Minus t c =
    let columns = c.args.columns.now in
    let s = c.args.scope.now in
    let type = type_of columns s in
    let is =
    ap (λ (a : Expr). type a >>= λ t. typed (is_int t) types.Int) c.get-in-Minus.ensures
    ∙ sym (ap type c.in-Minus.is ∙ type_of-Minus columns s c.in-Minus.inner) in
    record {
      of_type = subst (Of_type c.one_operand-in-Minus.result) is (c.one_operand-in-Minus.ensures.of_type (type c.get-in-Minus.result.now) c.check_in-t-in-Minus.ensures.of_type);
      accepted = subst (Accepted c.one_operand-in-Minus.result) is (c.one_operand-in-Minus.ensures.accepted (type c.get-in-Minus.result.now) c.check_in-t-in-Minus.ensures.of_type c.check_in-t-in-Minus.ensures.accepted);
    }

pub returns-in-IsNull : goal.returns-in-IsNull
returns-in-IsNull t c =
    let columns = c.args.columns.now in
    let s = c.args.scope.now in
    let type = type_of columns s in
    let is =
    ap (λ (a : Expr). type a >>= λ t. typed (is_cell t) types.Truth) c.get-in-IsNull.ensures
    ∙ sym (ap type c.in-IsNull.is ∙ type_of-IsNull columns s c.in-IsNull.inner c.in-IsNull.field-1) in
    record {
      of_type = subst (Of_type c.one_operand-in-IsNull.result) is (c.one_operand-in-IsNull.ensures.of_type (type c.get-in-IsNull.result.now) c.check_in-t-in-IsNull.ensures.of_type);
      accepted = subst (Accepted c.one_operand-in-IsNull.result) is (c.one_operand-in-IsNull.ensures.accepted (type c.get-in-IsNull.result.now) c.check_in-t-in-IsNull.ensures.of_type c.check_in-t-in-IsNull.ensures.accepted);
    }

pub returns-in-Dlvalue1 : goal.returns-in-Dlvalue1
returns-in-Dlvalue1 t c =
    let columns = c.args.columns.now in
    let s = c.args.scope.now in
    let type = type_of columns s in
    let is =
    ap (λ (a : Expr). type a >>= λ t. typed (is_text t) types.Link) c.get-in-Dlvalue1.ensures
    ∙ sym (ap type c.in-Dlvalue1.is ∙ type_of-Dlvalue1 columns s c.in-Dlvalue1.location) in
    record {
      of_type = subst (Of_type c.one_operand-in-Dlvalue1.result) is (c.one_operand-in-Dlvalue1.ensures.of_type (type c.get-in-Dlvalue1.result.now) c.check_in-t-in-Dlvalue1.ensures.of_type);
      accepted = subst (Accepted c.one_operand-in-Dlvalue1.result) is (c.one_operand-in-Dlvalue1.ensures.accepted (type c.get-in-Dlvalue1.result.now) c.check_in-t-in-Dlvalue1.ensures.of_type c.check_in-t-in-Dlvalue1.ensures.accepted);
    }

pub returns-in-Access : goal.returns-in-Access
returns-in-Access t c =
    let columns = c.args.columns.now in
    let s = c.args.scope.now in
    let type = type_of columns s in
    let is =
    ap (λ (a : Expr). type a >>= λ t. typed (is_link t) types.Text) c.get-in-Access.ensures
    ∙ sym (ap type c.in-Access.is ∙ type_of-Access columns s c.in-Access.field-0 c.in-Access.inner) in
    record {
      of_type = subst (Of_type c.one_operand-in-Access.result) is (c.one_operand-in-Access.ensures.of_type (type c.get-in-Access.result.now) c.check_in-t-in-Access.ensures.of_type);
      accepted = subst (Accepted c.one_operand-in-Access.result) is (c.one_operand-in-Access.ensures.accepted (type c.get-in-Access.result.now) c.check_in-t-in-Access.ensures.of_type c.check_in-t-in-Access.ensures.accepted);
    }

pub returns-in-Binary : goal.returns-in-Binary
returns-in-Binary t c =
    let columns = c.args.columns.now in
    let s = c.args.scope.now in
    let type = type_of columns s in
    let is =
    ap (λ (a : Expr). type a >>= λ t. type c.get-in-Binary-2.result.now >>= λ u. binary_type c.in-Binary.op t u) c.get-in-Binary.ensures
    ∙ ap (λ (a : Expr). type c.in-Binary.left >>= λ t. type a >>= λ u. binary_type c.in-Binary.op t u) c.get-in-Binary-2.ensures
    ∙ sym (ap type c.in-Binary.is ∙ type_of-Binary columns s c.in-Binary.op c.in-Binary.left c.in-Binary.right) in
    record {
      of_type = subst (Of_type c.two_operands.result) is (c.two_operands.ensures.of_type (type c.get-in-Binary.result.now) (type c.get-in-Binary-2.result.now) c.check_in-t-in-Binary.ensures.of_type c.check_in-u.ensures.of_type);
      accepted = subst (Accepted c.two_operands.result) is (c.two_operands.ensures.accepted (type c.get-in-Binary.result.now) (type c.get-in-Binary-2.result.now) c.check_in-t-in-Binary.ensures.of_type c.check_in-u.ensures.of_type c.check_in-t-in-Binary.ensures.accepted c.check_in-u.ensures.accepted);
    }

pub returns-in-Aggregate : goal.returns-in-Aggregate
returns-in-Aggregate t c =
    let columns = c.args.columns.now in
    let s = c.args.scope.now in
    let type = type_of columns s in
    let is =
    ap (λ (b : Bool). typed b scope.Row >>= λ r. type_of columns scope.Row c.get-in-Aggregate.result.now >>= aggregate_type c.in-Aggregate.fold) c.takes_aggregate-in-Aggregate.ensures
    ∙ ap (λ (a : Expr). typed (takes_aggregate s) scope.Row >>= λ r. type_of columns scope.Row a >>= aggregate_type c.in-Aggregate.fold) c.get-in-Aggregate.ensures
    ∙ sym (ap type c.in-Aggregate.is ∙ type_of-Aggregate columns s c.in-Aggregate.fold c.in-Aggregate.inner) in
    record {
      of_type = subst (Of_type c.folded.result) is (c.folded.ensures.of_type (type_of columns scope.Row c.get-in-Aggregate.result.now) c.check_in-t-in-Aggregate.ensures.of_type);
      accepted = subst (Accepted c.folded.result) is (c.folded.ensures.accepted (type_of columns scope.Row c.get-in-Aggregate.result.now) c.check_in-t-in-Aggregate.ensures.of_type c.check_in-t-in-Aggregate.ensures.accepted);
    }

pub returns-in-Dlvalue2 : goal.returns-in-Dlvalue2
returns-in-Dlvalue2 t c =
    let columns = c.args.columns.now in
    let s = c.args.scope.now in
    let type = type_of columns s in
    let is =
    ap (λ (a : Expr). type a >>= λ t. type c.get-in-Dlvalue2-2.result.now >>= λ u. typed (is_text t && is_text u && true) types.Link) c.get-in-Dlvalue2.ensures
    ∙ ap (λ (a : Expr). type c.in-Dlvalue2.location >>= λ t. type a >>= λ u. typed (is_text t && is_text u && true) types.Link) c.get-in-Dlvalue2-2.ensures
    ∙ sym (ap type c.in-Dlvalue2.is ∙ type_of-Dlvalue2 columns s c.in-Dlvalue2.location c.in-Dlvalue2.linktype) in
    record {
      of_type = subst (Of_type c.texts.result) is (c.texts.ensures.of_type (type c.get-in-Dlvalue2.result.now) (type c.get-in-Dlvalue2-2.result.now) (Ok types.Null) c.check_in-t-in-Dlvalue2.ensures.of_type c.check_in-u-in-Dlvalue2.ensures.of_type refl);
      accepted = subst (Accepted c.texts.result) is (c.texts.ensures.accepted (type c.get-in-Dlvalue2.result.now) (type c.get-in-Dlvalue2-2.result.now) (Ok types.Null) c.check_in-t-in-Dlvalue2.ensures.of_type c.check_in-u-in-Dlvalue2.ensures.of_type refl c.check_in-t-in-Dlvalue2.ensures.accepted c.check_in-u-in-Dlvalue2.ensures.accepted tt);
    }

pub returns-in-Dlvalue3 : goal.returns-in-Dlvalue3
returns-in-Dlvalue3 t c =
    let columns = c.args.columns.now in
    let s = c.args.scope.now in
    let type = type_of columns s in
    let is =
    ap (λ (a : Expr). type a >>= λ t. type c.get-in-Dlvalue3-2.result.now >>= λ u. type c.get-in-Dlvalue3-3.result.now >>= λ w. typed (is_text t && is_text u && is_text w) types.Link) c.get-in-Dlvalue3.ensures
    ∙ ap (λ (a : Expr). type c.in-Dlvalue3.location >>= λ t. type a >>= λ u. type c.get-in-Dlvalue3-3.result.now >>= λ w. typed (is_text t && is_text u && is_text w) types.Link) c.get-in-Dlvalue3-2.ensures
    ∙ ap (λ (a : Expr). type c.in-Dlvalue3.location >>= λ t. type c.in-Dlvalue3.linktype >>= λ u. type a >>= λ w. typed (is_text t && is_text u && is_text w) types.Link) c.get-in-Dlvalue3-3.ensures
    ∙ sym (ap type c.in-Dlvalue3.is ∙ type_of-Dlvalue3 columns s c.in-Dlvalue3.location c.in-Dlvalue3.linktype c.in-Dlvalue3.comment) in
    record {
      of_type = subst (Of_type c.texts-in-Dlvalue3.result) is (c.texts-in-Dlvalue3.ensures.of_type (type c.get-in-Dlvalue3.result.now) (type c.get-in-Dlvalue3-2.result.now) (type c.get-in-Dlvalue3-3.result.now) c.check_in-t-in-Dlvalue3.ensures.of_type c.check_in-u-in-Dlvalue3.ensures.of_type c.check_in-v.ensures.of_type);
      accepted = subst (Accepted c.texts-in-Dlvalue3.result) is (c.texts-in-Dlvalue3.ensures.accepted (type c.get-in-Dlvalue3.result.now) (type c.get-in-Dlvalue3-2.result.now) (type c.get-in-Dlvalue3-3.result.now) c.check_in-t-in-Dlvalue3.ensures.of_type c.check_in-u-in-Dlvalue3.ensures.of_type c.check_in-v.ensures.of_type c.check_in-t-in-Dlvalue3.ensures.accepted c.check_in-u-in-Dlvalue3.ensures.accepted c.check_in-v.ensures.accepted);
    }
