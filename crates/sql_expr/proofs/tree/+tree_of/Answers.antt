use Rattle.std.proofs.Common.{◌≡◌, IfOk, ap, sym, subst, ◌∙◌}
use Rattle.sql_expr.specs.declared.tree.Tree.{Tree}
use Rattle.sql_expr.specs.declared.tree.Tree as trees
use Rattle.sql_operators.specs.declared.unary.Unary.TheVariants as unaries
use Rattle.sql_expr.specs.Trees.{absent, tree_of}
use Rattle.sql_expr.proofs.Placing as placing
use Rattle.sql_expr.proofs.tree.+tree_of.Goals as goal

pub returns-in-Not : goal.returns-in-Not
returns-in-Not t c =
    let columns = c.args.columns.now in
    let is = ap (λ (x : Tree). trees.Unary unaries.Not x) (ap (tree_of columns) c.get.ensures) ∙ sym (ap (tree_of columns) c.in-Not.is ∙ placing.tree_of-Not columns c.in-Not.inner) in
    subst (λ (y : Tree). IfOk c.unary_tree.result (λ x. x ≡ y)) is (c.unary_tree.ensures (tree_of columns c.get.result.now) c.tree_of.ensures)

pub returns-in-Minus : goal.returns-in-Minus
returns-in-Minus t c =
    let columns = c.args.columns.now in
    let is = ap (λ (x : Tree). trees.Unary unaries.Minus x) (ap (tree_of columns) c.get-in-Minus.ensures) ∙ sym (ap (tree_of columns) c.in-Minus.is ∙ placing.tree_of-Minus columns c.in-Minus.inner) in
    subst (λ (y : Tree). IfOk c.unary_tree-in-Minus.result (λ x. x ≡ y)) is (c.unary_tree-in-Minus.ensures (tree_of columns c.get-in-Minus.result.now) c.tree_of-in-Minus.ensures)

pub returns-in-IsNull : goal.returns-in-IsNull
returns-in-IsNull t c =
    let columns = c.args.columns.now in
    let is = ap (λ (x : Tree). trees.Unary (unaries.IsNull c.in-IsNull.is') x) (ap (tree_of columns) c.get-in-IsNull.ensures) ∙ sym (ap (tree_of columns) c.in-IsNull.is ∙ placing.tree_of-IsNull columns c.in-IsNull.inner c.in-IsNull.is') in
    subst (λ (y : Tree). IfOk c.unary_tree-in-IsNull.result (λ x. x ≡ y)) is (c.unary_tree-in-IsNull.ensures (tree_of columns c.get-in-IsNull.result.now) c.tree_of-in-IsNull.ensures)

pub returns-in-Aggregate : goal.returns-in-Aggregate
returns-in-Aggregate t c =
    let columns = c.args.columns.now in
    let is = ap (λ (x : Tree). trees.Aggregate c.in-Aggregate.fold x) (ap (tree_of columns) c.get-in-Aggregate.ensures) ∙ sym (ap (tree_of columns) c.in-Aggregate.is ∙ placing.tree_of-Aggregate columns c.in-Aggregate.fold c.in-Aggregate.inner) in
    subst (λ (y : Tree). IfOk c.aggregate_tree.result (λ x. x ≡ y)) is (c.aggregate_tree.ensures (tree_of columns c.get-in-Aggregate.result.now) c.tree_of-in-Aggregate.ensures)

pub returns-in-Access : goal.returns-in-Access
returns-in-Access t c =
    let columns = c.args.columns.now in
    let is = ap (λ (x : Tree). trees.Unary (unaries.Access c.in-Access.part) x) (ap (tree_of columns) c.get-in-Access.ensures) ∙ sym (ap (tree_of columns) c.in-Access.is ∙ placing.tree_of-Access columns c.in-Access.part c.in-Access.inner) in
    subst (λ (y : Tree). IfOk c.unary_tree-in-Access.result (λ x. x ≡ y)) is (c.unary_tree-in-Access.ensures (tree_of columns c.get-in-Access.result.now) c.tree_of-in-Access.ensures)

pub returns-in-Binary : goal.returns-in-Binary
returns-in-Binary t c =
    let columns = c.args.columns.now in
    let t0 = tree_of columns c.get-in-Binary.result.now in
    let u0 = tree_of columns c.in-Binary.left in
    let t1 = tree_of columns c.get-in-Binary-2.result.now in
    let u1 = tree_of columns c.in-Binary.right in
    let is = ap (λ (x : Tree). trees.Binary c.in-Binary.op x t1) (ap (tree_of columns) c.get-in-Binary.ensures) ∙ ap (λ (x : Tree). trees.Binary c.in-Binary.op u0 x) (ap (tree_of columns) c.get-in-Binary-2.ensures) ∙ sym (ap (tree_of columns) c.in-Binary.is ∙ placing.tree_of-Binary columns c.in-Binary.op c.in-Binary.left c.in-Binary.right) in
    subst (λ (y : Tree). IfOk c.binary_tree.result (λ x. x ≡ y)) is (c.binary_tree.ensures t0 t1 c.tree_of-left.ensures c.tree_of-right.ensures)

pub returns-in-Dlvalue1 : goal.returns-in-Dlvalue1
returns-in-Dlvalue1 t c =
    let columns = c.args.columns.now in
    let is = ap (λ (x : Tree). trees.Dlvalue x absent absent) (ap (tree_of columns) c.get-in-Dlvalue1.ensures) ∙ sym (ap (tree_of columns) c.in-Dlvalue1.is ∙ placing.tree_of-Dlvalue1 columns c.in-Dlvalue1.location) in
    subst (λ (y : Tree). IfOk c.link_tree.result (λ x. x ≡ y)) is (c.link_tree.ensures (tree_of columns c.get-in-Dlvalue1.result.now) absent absent c.tree_of-location.ensures c.null_tree-in-Dlvalue1.ensures c.null_tree-in-Dlvalue1-2.ensures)

pub returns-in-Dlvalue2 : goal.returns-in-Dlvalue2
returns-in-Dlvalue2 t c =
    let columns = c.args.columns.now in
    let t1 = tree_of columns c.get-in-Dlvalue2-2.result.now in
    let is = ap (λ (x : Tree). trees.Dlvalue x t1 absent) (ap (tree_of columns) c.get-in-Dlvalue2.ensures) ∙ ap (λ (x : Tree). trees.Dlvalue (tree_of columns c.in-Dlvalue2.location) x absent) (ap (tree_of columns) c.get-in-Dlvalue2-2.ensures) ∙ sym (ap (tree_of columns) c.in-Dlvalue2.is ∙ placing.tree_of-Dlvalue2 columns c.in-Dlvalue2.location c.in-Dlvalue2.linktype) in
    subst (λ (y : Tree). IfOk c.link_tree-in-Dlvalue2.result (λ x. x ≡ y)) is (c.link_tree-in-Dlvalue2.ensures (tree_of columns c.get-in-Dlvalue2.result.now) t1 absent c.tree_of-location-in-Dlvalue2.ensures c.tree_of-linktype.ensures c.null_tree-in-Dlvalue2.ensures)

pub returns-in-Dlvalue3 : goal.returns-in-Dlvalue3
returns-in-Dlvalue3 t c =
    let columns = c.args.columns.now in
    let t0 = tree_of columns c.get-in-Dlvalue3.result.now in
    let u0 = tree_of columns c.in-Dlvalue3.location in
    let t1 = tree_of columns c.get-in-Dlvalue3-2.result.now in
    let u1 = tree_of columns c.in-Dlvalue3.linktype in
    let t2 = tree_of columns c.get-in-Dlvalue3-3.result.now in
    let u2 = tree_of columns c.in-Dlvalue3.comment in
    let is = ap (λ (x : Tree). trees.Dlvalue x t1 t2) (ap (tree_of columns) c.get-in-Dlvalue3.ensures) ∙ ap (λ (x : Tree). trees.Dlvalue u0 x t2) (ap (tree_of columns) c.get-in-Dlvalue3-2.ensures) ∙ ap (λ (x : Tree). trees.Dlvalue u0 u1 x) (ap (tree_of columns) c.get-in-Dlvalue3-3.ensures) ∙ sym (ap (tree_of columns) c.in-Dlvalue3.is ∙ placing.tree_of-Dlvalue3 columns c.in-Dlvalue3.location c.in-Dlvalue3.linktype c.in-Dlvalue3.comment) in
    subst (λ (y : Tree). IfOk c.link_tree-in-Dlvalue3.result (λ x. x ≡ y)) is (c.link_tree-in-Dlvalue3.ensures t0 t1 t2 c.tree_of-location-in-Dlvalue3.ensures c.tree_of-linktype-in-Dlvalue3.ensures c.tree_of-comment.ensures)
