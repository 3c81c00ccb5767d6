-- The law of values, by induction over expressions: a layer whose operands keep it keeps it.
use Rattle.std.proofs.Common.{◌≡◌, ℕ, ◌&&◌, Bool, true, List, [], ◌∷◌, length, Some, Result, Ok, refl, sym, subst, not, pos}
use Rattle.std.specs.Prelude.{map, if◌then◌else◌}
use Rattle.std.specs.List.{AllByRecursion}
use Rattle.dl_base.specs.declared.sql_fault.SqlFault.{SqlFault}
use Rattle.dl_base.specs.declared.value.Row.{Row}
use Rattle.dl_base.specs.declared.value.Value.{Value}
use Rattle.dl_base.specs.declared.value.Value.TheVariants as values
use Rattle.dl_base.specs.declared.statement.Ref.{Ref}
use Rattle.dl_base.specs.declared.statement.Expr.{Expr, Expr-F, map-Expr, fold-Expr, fold-roll-Expr, ind-Expr, roll-Expr}
use Rattle.dl_base.specs.declared.statement.Expr.TheOpen as level
use Rattle.meaning_sql.specs.declared.Context.{Context}
use Rattle.meaning_sql.specs.declared.SqlType.{SqlType}
use Rattle.meaning_sql.specs.declared.SqlType.TheVariants as types
use Rattle.meaning_sql.specs.declared.AggregateScope.{AggregateScope}
use Rattle.meaning_sql.specs.declared.AggregateScope.TheVariants as scope
use Rattle.meaning_sql.specs.Columns.{Columns, place_of, kind_at}
use Rattle.meaning_sql.specs.Datalinks.{datalink, accessed}
use Rattle.meaning_sql.specs.Faults.{◌>>=◌, typed}
use Rattle.meaning_sql.specs.Fitting.{IsTyped, FitsColumns, is_of_type}
use Rattle.meaning_sql.specs.Operators.{truth_of, of_truth, not3, negated, binary, is_null}
use Rattle.meaning_sql.specs.Types.{type_at, type_of, aggregate_type, binary_type, is_truth, is_int, is_text, is_link, is_cell, kind_type, takes_column, takes_aggregate, column_type}
use Rattle.meaning_sql.specs.Values.{Denotation, denotation_at, denotation, meaning, cell}
use Rattle.sql_expr.proofs.Typed.{null_typed, truth_typed, cell_typed, negated_typed, binary_typed, gathered_typed, datalink_typed, accessed_typed}
use Rattle.sql_expr.proofs.Steps.{passed, held, then_typed}

-- what types an operand has, and what it says: a value of each type that it has, at each row that fits
abbrev pub Keeps : Columns → (AggregateScope → Result SqlType SqlFault) → (Row → Result Value SqlFault) → Type 0
Keeps columns kinds at = (s : AggregateScope) (t : SqlType) (row : Row) → kinds s ≡ Ok t → FitsColumns columns row → IsTyped t (at row)

-- an expression does
abbrev pub IsKept : Columns → Context → List Row → Expr → Type 0
IsKept columns context group e = Keeps columns (λ s. type_of columns s e) (meaning columns context group e)

-- a step whose operand keeps it: its own test decides its type, and each value that it gives is of that type
unary : (columns : Columns) (kinds : AggregateScope → Result SqlType SqlFault) (at : Row → Result Value SqlFault) (k : SqlType → Result SqlType SqlFault) (f : Value → Result Value SqlFault)
    → Keeps columns kinds at → ((t u : SqlType) (x : Value) → k t ≡ Ok u → is_of_type t x ≡ true → IsTyped u (f x))
    → Keeps columns (λ s. kinds s >>= k) (λ row. at row >>= f)
unary columns kinds at k f inner step s u row h fits =
    let p = passed (kinds s) k u h in
    then_typed p.x u (at row) f (inner s p.x row p.first fits) (λ x is. step p.x u x p.second is)

-- what is of the type that a test gives
fixed : (b : Bool) (t u : SqlType) (m : Result Value SqlFault) → typed b t ≡ Ok u → IsTyped t m → IsTyped u m
fixed b t u m h is = subst (λ (w : SqlType). IsTyped w m) (held b t u h).same is

abbrev type : SqlType → Result SqlType SqlFault
type t = Ok t

same_type : (t u : SqlType) (m : Result Value SqlFault) → type t ≡ Ok u → IsTyped t m → IsTyped u m
same_type t u m h is = subst (λ (w : SqlType). IsTyped w m) (cc) is

each_typed : (columns : Columns) (kinds : AggregateScope → Result SqlType SqlFault) (at : Row → Result Value SqlFault) (s : AggregateScope) (t : SqlType)
    → Keeps columns kinds at → kinds s ≡ Ok t → (group : List Row) → AllByRecursion (FitsColumns columns) group → AllByRecursion (IsTyped t) (map at group)
each_typed columns kinds at s t inner h [] all = tt
each_typed columns kinds at s t inner h (row ∷ rows) all = (inner s t row h all.0, each_typed columns kinds at s t inner h rows all.1)

column_kept : (columns : Columns) (r : Ref) (s : AggregateScope) (t : SqlType) (row : Row)
    → column_type columns r s ≡ Ok t → FitsColumns columns row → IsTyped t (place_of columns r >>= λ i. Ok (cell row i))
column_kept columns r s t row h fits =
    let p = passed (place_of columns r) (λ i. typed (takes_column s i) (kind_type (kind_at columns i))) t h in
    subst (λ (m : Result ℕ SqlFault). IsTyped t (m >>= λ i. Ok (cell row i))) (sym p.first)
    (fixed (takes_column s p.x) (kind_type (kind_at columns p.x)) t (Ok (cell row p.x)) p.second (cell_typed (kind_at columns p.x) (cell row p.x) (fits.of_kind p.x)))

-- an operand, with the proof that it keeps the law
abbrev Kept : Columns → Context → List Row → Type 0
Kept columns context group = (e : Expr) × IsKept columns context group e

abbrev kinds_of : Columns → Expr → AggregateScope → Result SqlType SqlFault
kinds_of columns = fold-Expr (AggregateScope → Result SqlType SqlFault) (type_at columns)

abbrev LayerKeeps : Columns → Context → List Row → Expr-F Expr → Type 0
LayerKeeps columns context group x = Keeps columns (type_at columns (map-Expr Expr (AggregateScope → Result SqlType SqlFault) (kinds_of columns) x)) (denotation_at columns context group (map-Expr Expr Denotation (denotation columns context group) x)).at

layer : (columns : Columns) (context : Context) (group : List Row) → AllByRecursion (FitsColumns columns) group
    → (y : Expr-F (Kept columns context group)) → LayerKeeps columns context group (map-Expr (Kept columns context group) Expr (λ (e : Kept columns context group). e.0) y)
layer columns context group all (level.Number z) s u row h fits = same_type types.Int u (Ok (values.Int z)) h refl
layer columns context group all (level.Literal t) s u row h fits = same_type types.Text u (Ok (values.Text t)) h refl
layer columns context group all level.Null s u row h fits = null_typed u
layer columns context group all (level.Column r) s u row h fits = column_kept columns r s u row h fits
layer columns context group all (level.Not a) s u row h fits =
    unary columns (kinds_of columns a.0) (meaning columns context group a.0) (λ t. typed (is_truth t) types.Truth) (λ x. Ok (of_truth (not3 (truth_of x)))) a.1
    (λ t v x k is. fixed (is_truth t) types.Truth v (Ok (of_truth (not3 (truth_of x)))) k (truth_typed (not3 (truth_of x)))) s u row h fits
layer columns context group all (level.Minus a) s u row h fits =
    unary columns (kinds_of columns a.0) (meaning columns context group a.0) (λ t. typed (is_int t) types.Int) negated a.1
    (λ t v x k is. fixed (is_int t) types.Int v (negated x) k (negated_typed x)) s u row h fits
layer columns context group all (level.Binary op a b) s u row h fits =
    let p = passed (kinds_of columns a.0 s) (λ t. kinds_of columns b.0 s >>= λ v. binary_type op t v) u h in
    let q = passed (kinds_of columns b.0 s) (λ v. binary_type op p.x v) u p.second in
    then_typed p.x u (meaning columns context group a.0 row) (λ x. binary op x (meaning columns context group b.0 row)) (a.1 s p.x row p.first fits)
    (λ x _. binary_typed op p.x q.x u x (meaning columns context group b.0 row) q.second (b.1 s q.x row q.first fits))
layer columns context group all (level.IsNull a is) s u row h fits =
    unary columns (kinds_of columns a.0) (meaning columns context group a.0) (λ t. typed (is_cell t) types.Truth) (λ x. Ok (of_truth (Some (if is then is_null x else not (is_null x))))) a.1
    (λ t v x k _. fixed (is_cell t) types.Truth v (Ok (of_truth (Some (if is then is_null x else not (is_null x))))) k (truth_typed (Some (if is then is_null x else not (is_null x))))) s u row h fits
layer columns context group all level.CountAll s u row h fits = fixed (takes_aggregate s) types.Int u (Ok (values.Int (pos (length group)))) h refl
layer columns context group all (level.Aggregate f a) s u row h fits =
    let p = passed (typed (takes_aggregate s) scope.Row) (λ r. kinds_of columns a.0 r >>= aggregate_type f) u h in
    let q = passed (kinds_of columns a.0 p.x) (aggregate_type f) u p.second in
    gathered_typed f q.x u values.Null (map (meaning columns context group a.0) group) q.second (null_typed u)
    (each_typed columns (kinds_of columns a.0) (meaning columns context group a.0) p.x q.x a.1 q.first group all)
layer columns context group all (level.Dlvalue1 a) s u row h fits =
    unary columns (kinds_of columns a.0) (meaning columns context group a.0) (λ t. typed (is_text t) types.Link) (λ x. datalink context.server x values.Null values.Null) a.1
    (λ t v x k is. fixed (is_text t) types.Link v (datalink context.server x values.Null values.Null) k (datalink_typed context.server x values.Null values.Null)) s u row h fits
layer columns context group all (level.Dlvalue2 a b) s u row h fits =
    let p = passed (kinds_of columns a.0 s) (λ t. kinds_of columns b.0 s >>= λ v. typed (is_text t && is_text v) types.Link) u h in
    let q = passed (kinds_of columns b.0 s) (λ v. typed (is_text p.x && is_text v) types.Link) u p.second in
    fixed (is_text p.x && is_text q.x) types.Link u _ q.second
    (then_typed p.x types.Link (meaning columns context group a.0 row) (λ x. meaning columns context group b.0 row >>= λ y. datalink context.server x y values.Null) (a.1 s p.x row p.first fits)
    (λ x _. then_typed q.x types.Link (meaning columns context group b.0 row) (λ y. datalink context.server x y values.Null) (b.1 s q.x row q.first fits)
    (λ y _. datalink_typed context.server x y values.Null)))
layer columns context group all (level.Dlvalue3 a b c) s u row h fits =
    let p = passed (kinds_of columns a.0 s) (λ t. kinds_of columns b.0 s >>= λ v. kinds_of columns c.0 s >>= λ w. typed (is_text t && is_text v && is_text w) types.Link) u h in
    let q = passed (kinds_of columns b.0 s) (λ v. kinds_of columns c.0 s >>= λ w. typed (is_text p.x && is_text v && is_text w) types.Link) u p.second in
    let r = passed (kinds_of columns c.0 s) (λ w. typed (is_text p.x && is_text q.x && is_text w) types.Link) u q.second in
    fixed (is_text p.x && is_text q.x && is_text r.x) types.Link u _ r.second
    (then_typed p.x types.Link (meaning columns context group a.0 row) (λ x. meaning columns context group b.0 row >>= λ y. meaning columns context group c.0 row >>= λ z. datalink context.server x y z) (a.1 s p.x row p.first fits)
    (λ x _. then_typed q.x types.Link (meaning columns context group b.0 row) (λ y. meaning columns context group c.0 row >>= λ z. datalink context.server x y z) (b.1 s q.x row q.first fits)
    (λ y _. then_typed r.x types.Link (meaning columns context group c.0 row) (λ z. datalink context.server x y z) (c.1 s r.x row r.first fits)
    (λ z _. datalink_typed context.server x y z))))
layer columns context group all (level.Access part a) s u row h fits =
    unary columns (kinds_of columns a.0) (meaning columns context group a.0) (λ t. typed (is_link t) types.Text) (λ x. Ok (accessed context (denotation columns context group a.0).under part x)) a.1
    (λ t v x k is. fixed (is_link t) types.Text v (Ok (accessed context (denotation columns context group a.0).under part x)) k (accessed_typed context (denotation columns context group a.0).under part x)) s u row h fits

pub kept : (columns : Columns) (context : Context) (group : List Row) → AllByRecursion (FitsColumns columns) group → (e : Expr) → IsKept columns context group e
kept columns context group all = ind-Expr (IsKept columns context group) (λ x y is.
    let here = subst (λ (z : Expr-F Expr). LayerKeeps columns context group z) is (layer columns context group all y) in
    let values = subst (λ (w : Denotation). Keeps columns (type_at columns (map-Expr Expr (AggregateScope → Result SqlType SqlFault) (kinds_of columns) x)) w.at) (sym (fold-roll-Expr Denotation (denotation_at columns context group) x)) here in
    subst (λ (w : AggregateScope → Result SqlType SqlFault). Keeps columns w (meaning columns context group (roll-Expr x))) (sym (fold-roll-Expr (AggregateScope → Result SqlType SqlFault) (type_at columns) x)) values)
