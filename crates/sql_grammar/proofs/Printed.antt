-- What is printed of an expression derives it.
use Rattle.std.proofs.Common.{◌≡◌, ℕ, suc, ◌+◌, ◌≤◌, Bool, true, false, List, [], ◌∷◌, ◌++◌, Some, None, refl, sym, ap, ◌∙◌, subst, arith, append_assoc}
use Rattle.std.specs.Prelude.{ℤ}
use Rattle.dl_base.specs.declared.statement.Op.{Op}
use Rattle.dl_base.specs.declared.statement.Op.TheVariants.{Or, And, Eq, Ne, Lt, Le, Gt, Ge, Add, Sub, Mul, Div}
use Rattle.dl_base.specs.declared.statement.Fold.{Fold}
use Rattle.dl_base.specs.declared.statement.Part.{Part}
use Rattle.dl_base.specs.declared.statement.Ref.{Ref}
use Rattle.dl_base.specs.declared.statement.Expr.{Expr, Expr-F, fold-roll-Expr}
use Rattle.dl_base.specs.declared.statement.Expr as e
use Rattle.dl_base.specs.declared.statement.Expr.TheVariants as v
use Rattle.dl_base.specs.declared.statement.Expr.TheOpen as layer
use Rattle.sql_grammar.specs.declared.symbol.Symbol.TheVariants as symbol
use Rattle.sql_grammar.specs.declared.terminal.Terminal.{Terminal}
use Rattle.sql_grammar.specs.declared.terminal.Terminal.TheVariants.{Fixed, Word}
use Rattle.sql_grammar.specs.Levels.{left_of, right_of}
use Rattle.sql_grammar.specs.Words as words
use Rattle.sql_grammar.specs.Levels.{symbol_of}
use Rattle.sql_grammar.specs.Forms.{Form, number, literal, column, null, parens, not, minus, binary, is_null, count_all, aggregate, access, dlvalue1, dlvalue2, dlvalue3, fold_name, part_name, reference, null_text, level, IsForm, text, tree, operators, depth, Derives}
use Rattle.sql_grammar.specs.Proper.{AreProper}
use Rattle.sql_grammar.specs.Dots.{is_dot, is_word, Dotted}
use Rattle.sql_grammar.specs.declared.print_token.Function.TheVariants as function
use Rattle.sql_grammar.specs.declared.print_token.PrintToken.{PrintToken}
use Rattle.sql_grammar.specs.declared.print_token.PrintToken.TheVariants as print_token
use Rattle.sql_grammar.specs.PrintTokens.{print_terminal, print_terminals}
use Rattle.sql_grammar.specs.Printing.{PrintedExpr, null_tokens, column_tokens, guarded, operand, operator, call, printed_at, printed_expr, expr_text}
use Rattle.sql_grammar.proofs.Readers.{proper_append}

-- ---- what is printed of a form

-- a form as it is printed
abbrev print_token_text : Form → List PrintToken
print_token_text (number n) = print_token.Number n ∷ []
print_token_text (literal t) = print_token.Literal t ∷ []
print_token_text null = print_token.Symbol symbol.Null ∷ []
print_token_text (column t c) = column_tokens t c
print_token_text (parens f) = print_token.Symbol symbol.Open ∷ (print_token_text f ++ print_token.Symbol symbol.Close ∷ [])
print_token_text (not f) = print_token.Symbol symbol.Not ∷ print_token_text f
print_token_text (minus f) = print_token.Symbol symbol.Minus ∷ print_token_text f
print_token_text (binary o f g) = print_token_text f ++ print_token.Symbol (symbol_of o) ∷ print_token_text g
print_token_text (is_null f b) = print_token_text f ++ print_token.Symbol symbol.Is ∷ null_tokens b
print_token_text count_all = print_token.Function function.Count ∷ print_token.Symbol symbol.Open ∷ print_token.Symbol symbol.Star ∷ print_token.Symbol symbol.Close ∷ []
print_token_text (aggregate g f) = print_token.Function (function.Aggregate g) ∷ print_token.Symbol symbol.Open ∷ (print_token_text f ++ print_token.Symbol symbol.Close ∷ [])
print_token_text (access p f) = print_token.Function (function.Access p) ∷ print_token.Symbol symbol.Open ∷ (print_token_text f ++ print_token.Symbol symbol.Close ∷ [])
print_token_text (dlvalue1 f) = print_token.Function function.Dlvalue ∷ print_token.Symbol symbol.Open ∷ (print_token_text f ++ print_token.Symbol symbol.Close ∷ [])
print_token_text (dlvalue2 f g) = print_token.Function function.Dlvalue ∷ print_token.Symbol symbol.Open ∷ (print_token_text f ++ print_token.Symbol symbol.Comma ∷ (print_token_text g ++ print_token.Symbol symbol.Close ∷ []))
print_token_text (dlvalue3 f g h) = print_token.Function function.Dlvalue ∷ print_token.Symbol symbol.Open ∷ (print_token_text f ++ print_token.Symbol symbol.Comma ∷ (print_token_text g ++ print_token.Symbol symbol.Comma ∷ (print_token_text h ++ print_token.Symbol symbol.Close ∷ [])))

pub print_terminals_append : (a b : List PrintToken) → print_terminals (a ++ b) ≡ print_terminals a ++ print_terminals b
print_terminals_append [] b = refl
print_terminals_append (x ∷ a) b = ap (λ (y : List Terminal). print_terminal x ∷ y) (print_terminals_append a b)

print_terminals_closed : (a : List PrintToken) (b : List Terminal) → print_terminals a ≡ b → print_terminals (a ++ print_token.Symbol symbol.Close ∷ []) ≡ b ++ Fixed symbol.Close ∷ []
print_terminals_closed a b e = print_terminals_append a (print_token.Symbol symbol.Close ∷ []) ∙ ap (λ (y : List Terminal). y ++ Fixed symbol.Close ∷ []) e

print_terminals_null : (b : Bool) → print_terminals (null_tokens b) ≡ null_text b
print_terminals_null true = refl
print_terminals_null false = refl

-- its terminals
print_terminals_text : (f : Form) → print_terminals (print_token_text f) ≡ text f
print_terminals_text (number n) = refl
print_terminals_text (literal t) = refl
print_terminals_text null = refl
print_terminals_text (column None c) = refl
print_terminals_text (column (Some t) c) = refl
print_terminals_text (parens f) = ap (λ (y : List Terminal). Fixed symbol.Open ∷ y) (print_terminals_closed (print_token_text f) (text f) (print_terminals_text f))
print_terminals_text (not f) = ap (λ (y : List Terminal). Fixed symbol.Not ∷ y) (print_terminals_text f)
print_terminals_text (minus f) = ap (λ (y : List Terminal). Fixed symbol.Minus ∷ y) (print_terminals_text f)
print_terminals_text (binary o f g) = print_terminals_append (print_token_text f) (print_token.Symbol (symbol_of o) ∷ print_token_text g) ∙ (λ i. print_terminals_text f i ++ Fixed (symbol_of o) ∷ print_terminals_text g i)
print_terminals_text (is_null f b) = print_terminals_append (print_token_text f) (print_token.Symbol symbol.Is ∷ null_tokens b) ∙ (λ i. print_terminals_text f i ++ Fixed symbol.Is ∷ print_terminals_null b i)
print_terminals_text count_all = refl
print_terminals_text (aggregate g f) = ap (λ (y : List Terminal). Word (fold_name g) ∷ Fixed symbol.Open ∷ y) (print_terminals_closed (print_token_text f) (text f) (print_terminals_text f))
print_terminals_text (access p f) = ap (λ (y : List Terminal). Word (part_name p) ∷ Fixed symbol.Open ∷ y) (print_terminals_closed (print_token_text f) (text f) (print_terminals_text f))
print_terminals_text (dlvalue1 f) = ap (λ (y : List Terminal). Word words.dlvalue ∷ Fixed symbol.Open ∷ y) (print_terminals_closed (print_token_text f) (text f) (print_terminals_text f))
print_terminals_text (dlvalue2 f g) =
    let b = print_terminals_closed (print_token_text g) (text g) (print_terminals_text g) in
    ap (λ (y : List Terminal). Word words.dlvalue ∷ Fixed symbol.Open ∷ y) (print_terminals_append (print_token_text f) (print_token.Symbol symbol.Comma ∷ (print_token_text g ++ print_token.Symbol symbol.Close ∷ [])) ∙ (λ i. print_terminals_text f i ++ Fixed symbol.Comma ∷ b i))
print_terminals_text (dlvalue3 f g h) =
    let c = print_terminals_closed (print_token_text h) (text h) (print_terminals_text h) in
    let b = print_terminals_append (print_token_text g) (print_token.Symbol symbol.Comma ∷ (print_token_text h ++ print_token.Symbol symbol.Close ∷ [])) ∙ (λ i. print_terminals_text g i ++ Fixed symbol.Comma ∷ c i) in
    ap (λ (y : List Terminal). Word words.dlvalue ∷ Fixed symbol.Open ∷ y) (print_terminals_append (print_token_text f) (print_token.Symbol symbol.Comma ∷ (print_token_text g ++ print_token.Symbol symbol.Comma ∷ (print_token_text h ++ print_token.Symbol symbol.Close ∷ []))) ∙ (λ i. print_terminals_text f i ++ Fixed symbol.Comma ∷ b i))

-- ---- what is printed of each kind of expression

printed_expr-Number : (n : ℤ) → printed_expr (e.Number n) ≡ operand (print_token.Number n ∷ [])
printed_expr-Number n = ap printed_expr (sym (v.rolls-Number n)) ∙ fold-roll-Expr PrintedExpr printed_at (layer.Number n)

printed_expr-Literal : (t : List ℕ) → printed_expr (e.Literal t) ≡ operand (print_token.Literal t ∷ [])
printed_expr-Literal t = ap printed_expr (sym (v.rolls-Literal t)) ∙ fold-roll-Expr PrintedExpr printed_at (layer.Literal t)

printed_expr-Null : printed_expr e.Null ≡ operand (print_token.Symbol symbol.Null ∷ [])
printed_expr-Null = ap printed_expr (sym v.rolls-Null) ∙ fold-roll-Expr PrintedExpr printed_at layer.Null

printed_expr-Column : (c : Ref) → printed_expr (e.Column c) ≡ operand (column_tokens c.table c.column)
printed_expr-Column c = ap printed_expr (sym (v.rolls-Column c)) ∙ fold-roll-Expr PrintedExpr printed_at (layer.Column c)

printed_expr-Not : (a : Expr) → printed_expr (e.Not a) ≡ operator (print_token.Symbol symbol.Not ∷ guarded (printed_expr a))
printed_expr-Not a = ap printed_expr (sym (v.rolls-Not a)) ∙ fold-roll-Expr PrintedExpr printed_at (layer.Not a)

printed_expr-Minus : (a : Expr) → printed_expr (e.Minus a) ≡ operator (print_token.Symbol symbol.Minus ∷ guarded (printed_expr a))
printed_expr-Minus a = ap printed_expr (sym (v.rolls-Minus a)) ∙ fold-roll-Expr PrintedExpr printed_at (layer.Minus a)

printed_expr-Binary : (o : Op) (a b : Expr) → printed_expr (e.Binary o a b) ≡ operator (guarded (printed_expr a) ++ print_token.Symbol (symbol_of o) ∷ guarded (printed_expr b))
printed_expr-Binary o a b = ap printed_expr (sym (v.rolls-Binary o a b)) ∙ fold-roll-Expr PrintedExpr printed_at (layer.Binary o a b)

printed_expr-IsNull : (a : Expr) (b : Bool) → printed_expr (e.IsNull a b) ≡ operator (guarded (printed_expr a) ++ print_token.Symbol symbol.Is ∷ null_tokens b)
printed_expr-IsNull a b = ap printed_expr (sym (v.rolls-IsNull a b)) ∙ fold-roll-Expr PrintedExpr printed_at (layer.IsNull a b)

printed_expr-CountAll : printed_expr e.CountAll ≡ operand (print_token_text count_all)
printed_expr-CountAll = ap printed_expr (sym v.rolls-CountAll) ∙ fold-roll-Expr PrintedExpr printed_at layer.CountAll

printed_expr-Aggregate : (g : Fold) (a : Expr) → printed_expr (e.Aggregate g a) ≡ call (function.Aggregate g) (printed_expr a).text
printed_expr-Aggregate g a = ap printed_expr (sym (v.rolls-Aggregate g a)) ∙ fold-roll-Expr PrintedExpr printed_at (layer.Aggregate g a)

printed_expr-Access : (p : Part) (a : Expr) → printed_expr (e.Access p a) ≡ call (function.Access p) (printed_expr a).text
printed_expr-Access p a = ap printed_expr (sym (v.rolls-Access p a)) ∙ fold-roll-Expr PrintedExpr printed_at (layer.Access p a)

printed_expr-Dlvalue1 : (a : Expr) → printed_expr (e.Dlvalue1 a) ≡ call function.Dlvalue (printed_expr a).text
printed_expr-Dlvalue1 a = ap printed_expr (sym (v.rolls-Dlvalue1 a)) ∙ fold-roll-Expr PrintedExpr printed_at (layer.Dlvalue1 a)

printed_expr-Dlvalue2 : (a b : Expr) → printed_expr (e.Dlvalue2 a b) ≡ call function.Dlvalue ((printed_expr a).text ++ print_token.Symbol symbol.Comma ∷ (printed_expr b).text)
printed_expr-Dlvalue2 a b = ap printed_expr (sym (v.rolls-Dlvalue2 a b)) ∙ fold-roll-Expr PrintedExpr printed_at (layer.Dlvalue2 a b)

printed_expr-Dlvalue3 : (a b c : Expr) → printed_expr (e.Dlvalue3 a b c) ≡ call function.Dlvalue ((printed_expr a).text ++ print_token.Symbol symbol.Comma ∷ ((printed_expr b).text ++ print_token.Symbol symbol.Comma ∷ (printed_expr c).text))
printed_expr-Dlvalue3 a b c = ap printed_expr (sym (v.rolls-Dlvalue3 a b c)) ∙ fold-roll-Expr PrintedExpr printed_at (layer.Dlvalue3 a b c)

-- ---- the form that is printed

abbrev guard : Bool → Form → Form
guard true f = parens f
guard false f = f

-- whether a form is an operator, but for its parentheses
abbrev is_op : Form → Bool
is_op (parens f) = is_op f
is_op (not f) = true
is_op (minus f) = true
is_op (binary o f g) = true
is_op (is_null f b) = true
is_op _ = false

abbrev formed : Form → Form
formed (parens f) = formed f
formed (not f) = not (guard (is_op f) (formed f))
formed (minus f) = minus (guard (is_op f) (formed f))
formed (binary o f g) = binary o (guard (is_op f) (formed f)) (guard (is_op g) (formed g))
formed (is_null f b) = is_null (guard (is_op f) (formed f)) b
formed (aggregate g f) = aggregate g (formed f)
formed (access p f) = access p (formed f)
formed (dlvalue1 f) = dlvalue1 (formed f)
formed (dlvalue2 f g) = dlvalue2 (formed f) (formed g)
formed (dlvalue3 f g h) = dlvalue3 (formed f) (formed g) (formed h)
formed f = f

abbrev slack : Bool → ℕ
slack true = 1
slack false = 0

-- what holds of the form that is printed
record Prints (f : Form) : Type 0 where
  printed_is : printed_expr (tree f) ≡ record { text = print_token_text (formed f); is_operator = is_op f }
  is_form : IsForm (formed f)
  tree_is : tree (formed f) ≡ tree f
  count_is : operators (formed f) ≡ operators f
  shallow : depth (formed f) + slack (is_op f) ≤ operators f

-- and of the one that stands as an operand
record Stands (f : Form) (g : Form) : Type 0 where
  guarded_is : guarded (printed_expr (tree f)) ≡ print_token_text g
  is_form : IsForm g
  tree_is : tree g ≡ tree f
  count_is : operators g ≡ operators f
  shallow : depth g ≤ operators f
  tight : 7 ≤ level g

level_formed : (f : Form) → is_op f ≡ false → level (formed f) ≡ 7
level_formed (parens f) h = level_formed f h
level_formed (not f) h = absurd cc
level_formed (minus f) h = absurd cc
level_formed (binary o f g) h = absurd cc
level_formed (is_null f b) h = absurd cc
level_formed (number n) h = refl
level_formed (literal t) h = refl
level_formed null h = refl
level_formed (column t c) h = refl
level_formed count_all h = refl
level_formed (aggregate g f) h = refl
level_formed (access p f) h = refl
level_formed (dlvalue1 f) h = refl
level_formed (dlvalue2 f g) h = refl
level_formed (dlvalue3 f g h) k = refl

stands : (f : Form) (b : Bool) → is_op f ≡ b → Prints f → Stands f (guard b (formed f))
stands f true q p = record {
  guarded_is = ap guarded p.printed_is ∙ ap (λ b. guarded (record { text = print_token_text (formed f); is_operator = b })) q;
  is_form = p.is_form;
  tree_is = p.tree_is;
  count_is = p.count_is;
  shallow = omega (arith, p.shallow, ap slack q);
  tight = omega arith;
}
stands f false q p = record {
  guarded_is = ap guarded p.printed_is ∙ ap (λ b. guarded (record { text = print_token_text (formed f); is_operator = b })) q;
  is_form = p.is_form;
  tree_is = p.tree_is;
  count_is = p.count_is;
  shallow = omega (arith, p.shallow);
  tight = omega (arith, level_formed f q);
}

left_top : (o : Op) → (left_of o ≤ 7) × (right_of o ≤ 7)
left_top Or = (omega arith, omega arith)
left_top And = (omega arith, omega arith)
left_top Add = (omega arith, omega arith)
left_top Sub = (omega arith, omega arith)
left_top Mul = (omega arith, omega arith)
left_top Div = (omega arith, omega arith)
left_top _ = (omega arith, omega arith)

text_is : (f : Form) → Prints f → (printed_expr (tree f)).text ≡ print_token_text (formed f)
text_is f p = ap (λ (s : PrintedExpr). s.text) p.printed_is

prints : (f : Form) → Prints f
prints (number n) = record { printed_is = printed_expr-Number n; is_form = tt; tree_is = refl; count_is = refl; shallow = omega arith }
prints (literal t) = record { printed_is = printed_expr-Literal t; is_form = tt; tree_is = refl; count_is = refl; shallow = omega arith }
prints null = record { printed_is = printed_expr-Null; is_form = tt; tree_is = refl; count_is = refl; shallow = omega arith }
prints (column t c) = record { printed_is = printed_expr-Column (reference t c); is_form = tt; tree_is = refl; count_is = refl; shallow = omega arith }
prints (parens f) = let p = prints f in record { printed_is = p.printed_is; is_form = p.is_form; tree_is = p.tree_is; count_is = p.count_is; shallow = p.shallow }
prints (not f) =
    let p = stands f (is_op f) refl (prints f) in
    record { printed_is = printed_expr-Not (tree f) ∙ ap (λ (x : List PrintToken). operator (print_token.Symbol symbol.Not ∷ x)) p.guarded_is; is_form = (omega (arith, p.tight), p.is_form); tree_is = ap e.Not p.tree_is; count_is = ap suc p.count_is; shallow = omega (arith, p.shallow) }
prints (minus f) =
    let p = stands f (is_op f) refl (prints f) in
    record { printed_is = printed_expr-Minus (tree f) ∙ ap (λ (x : List PrintToken). operator (print_token.Symbol symbol.Minus ∷ x)) p.guarded_is; is_form = (omega (arith, p.tight), p.is_form); tree_is = ap e.Minus p.tree_is; count_is = ap suc p.count_is; shallow = omega (arith, p.shallow) }
prints (is_null f b) =
    let p = stands f (is_op f) refl (prints f) in
    record { printed_is = printed_expr-IsNull (tree f) b ∙ ap (λ (x : List PrintToken). operator (x ++ print_token.Symbol symbol.Is ∷ null_tokens b)) p.guarded_is; is_form = (omega (arith, p.tight), p.is_form); tree_is = ap (λ x. e.IsNull x b) p.tree_is; count_is = ap suc p.count_is; shallow = omega (arith, p.shallow) }
prints (binary o f g) =
    let p = stands f (is_op f) refl (prints f) in
    let q = stands g (is_op g) refl (prints g) in
    let l = left_top o in
    record {
      printed_is = printed_expr-Binary o (tree f) (tree g) ∙ (λ i. operator (p.guarded_is i ++ print_token.Symbol (symbol_of o) ∷ q.guarded_is i));
      is_form = (omega (arith, l.0, p.tight), omega (arith, l.1, q.tight), p.is_form, q.is_form);
      tree_is = (λ i. e.Binary o (p.tree_is i) (q.tree_is i));
      count_is = omega (arith, p.count_is, q.count_is);
      shallow = omega (arith, p.shallow, q.shallow);
    }
prints count_all = record { printed_is = printed_expr-CountAll; is_form = tt; tree_is = refl; count_is = refl; shallow = omega arith }
prints (aggregate g f) =
    let p = prints f in
    record { printed_is = printed_expr-Aggregate g (tree f) ∙ ap (call (function.Aggregate g)) (text_is f p); is_form = p.is_form; tree_is = ap (e.Aggregate g) p.tree_is; count_is = ap suc p.count_is; shallow = omega (arith, p.shallow) }
prints (access g f) =
    let p = prints f in
    record { printed_is = printed_expr-Access g (tree f) ∙ ap (call (function.Access g)) (text_is f p); is_form = p.is_form; tree_is = ap (e.Access g) p.tree_is; count_is = ap suc p.count_is; shallow = omega (arith, p.shallow) }
prints (dlvalue1 f) =
    let p = prints f in
    record { printed_is = printed_expr-Dlvalue1 (tree f) ∙ ap (call function.Dlvalue) (text_is f p); is_form = p.is_form; tree_is = ap e.Dlvalue1 p.tree_is; count_is = ap suc p.count_is; shallow = omega (arith, p.shallow) }
prints (dlvalue2 f g) =
    let p = prints f in let q = prints g in
    let a = text_is f p in let b = text_is g q in
    record {
      printed_is = printed_expr-Dlvalue2 (tree f) (tree g) ∙ (λ i. call function.Dlvalue (a i ++ print_token.Symbol symbol.Comma ∷ b i)) ∙ ap (λ (x : List PrintToken). operand (print_token.Function function.Dlvalue ∷ print_token.Symbol symbol.Open ∷ x)) (append_assoc (print_token_text (formed f)) (print_token.Symbol symbol.Comma ∷ print_token_text (formed g)) (print_token.Symbol symbol.Close ∷ []));
      is_form = (p.is_form, q.is_form);
      tree_is = (λ i. e.Dlvalue2 (p.tree_is i) (q.tree_is i));
      count_is = omega (arith, p.count_is, q.count_is);
      shallow = omega (arith, p.shallow, q.shallow);
    }
prints (dlvalue3 f g h) =
    let p = prints f in let q = prints g in let r = prints h in
    let a = text_is f p in let b = text_is g q in let c = text_is h r in
    record {
      printed_is = printed_expr-Dlvalue3 (tree f) (tree g) (tree h) ∙ (λ i. call function.Dlvalue (a i ++ print_token.Symbol symbol.Comma ∷ (b i ++ print_token.Symbol symbol.Comma ∷ c i)))
          ∙ ap (λ (x : List PrintToken). operand (print_token.Function function.Dlvalue ∷ print_token.Symbol symbol.Open ∷ x)) (append_assoc (print_token_text (formed f)) (print_token.Symbol symbol.Comma ∷ (print_token_text (formed g) ++ print_token.Symbol symbol.Comma ∷ print_token_text (formed h))) (print_token.Symbol symbol.Close ∷ []))
          ∙ ap (λ (x : List PrintToken). operand (print_token.Function function.Dlvalue ∷ print_token.Symbol symbol.Open ∷ (print_token_text (formed f) ++ print_token.Symbol symbol.Comma ∷ x))) (append_assoc (print_token_text (formed g)) (print_token.Symbol symbol.Comma ∷ print_token_text (formed h)) (print_token.Symbol symbol.Close ∷ []));
      is_form = (p.is_form, q.is_form, r.is_form);
      tree_is = (λ i. e.Dlvalue3 (p.tree_is i) (q.tree_is i) (r.tree_is i));
      count_is = omega (arith, p.count_is, q.count_is, r.count_is);
      shallow = omega (arith, p.shallow, q.shallow, r.shallow);
    }

pub derives_printed : (ws : List Terminal) (t : Expr) → Derives ws t → Derives (print_terminals (expr_text t)) t
derives_printed ws t d =
    let p = prints d.form in
    record {
      form = formed d.form;
      is_form = p.is_form;
      text_is = sym (print_terminals_text (formed d.form)) ∙ ap print_terminals (sym (text_is d.form p) ∙ ap expr_text d.tree_is);
      tree_is = p.tree_is ∙ d.tree_is;
      few = omega (arith, p.count_is, d.few);
      flat = omega (arith, p.shallow, d.few);
    }

-- ---- its terminals

pub proper_parts : (a b : List Terminal) → AreProper (a ++ b) → AreProper a × AreProper b
proper_parts [] b h = (tt, h)
proper_parts (w ∷ a) b h = let r = proper_parts a b h.1 in ((h.0, r.0), r.1)

-- so are the others
guard_proper : (b : Bool) (f : Form) → AreProper (text f) → AreProper (text (guard b f))
guard_proper true f h = (tt, proper_append (text f) (Fixed symbol.Close ∷ []) h (tt, tt))
guard_proper false f h = h

enclosed_proper : (a b : List Terminal) → (AreProper a → AreProper b) → AreProper (a ++ Fixed symbol.Close ∷ []) → AreProper (b ++ Fixed symbol.Close ∷ [])
enclosed_proper a b f h = proper_append b (Fixed symbol.Close ∷ []) (f (proper_parts a (Fixed symbol.Close ∷ []) h).0) (tt, tt)

formed_proper : (f : Form) → AreProper (text f) → AreProper (text (formed f))
formed_proper (number n) h = h
formed_proper (literal t) h = h
formed_proper null h = h
formed_proper (column t c) h = h
formed_proper (parens f) h = formed_proper f (proper_parts (text f) (Fixed symbol.Close ∷ []) h.1).0
formed_proper (not f) h = (tt, guard_proper (is_op f) (formed f) (formed_proper f h.1))
formed_proper (minus f) h = (tt, guard_proper (is_op f) (formed f) (formed_proper f h.1))
formed_proper (binary o f g) h =
    let r = proper_parts (text f) (Fixed (symbol_of o) ∷ text g) h in
    proper_append (text (guard (is_op f) (formed f))) (Fixed (symbol_of o) ∷ text (guard (is_op g) (formed g))) (guard_proper (is_op f) (formed f) (formed_proper f r.0)) (tt, guard_proper (is_op g) (formed g) (formed_proper g r.1.1))
formed_proper (is_null f b) h =
    let r = proper_parts (text f) (Fixed symbol.Is ∷ null_text b) h in
    proper_append (text (guard (is_op f) (formed f))) (Fixed symbol.Is ∷ null_text b) (guard_proper (is_op f) (formed f) (formed_proper f r.0)) r.1
formed_proper count_all h = h
formed_proper (aggregate g f) h = (h.0, (tt, enclosed_proper (text f) (text (formed f)) (λ k. formed_proper f k) h.1.1))
formed_proper (access p f) h = (h.0, (tt, enclosed_proper (text f) (text (formed f)) (λ k. formed_proper f k) h.1.1))
formed_proper (dlvalue1 f) h = (h.0, (tt, enclosed_proper (text f) (text (formed f)) (λ k. formed_proper f k) h.1.1))
formed_proper (dlvalue2 f g) h =
    let r = proper_parts (text f) (Fixed symbol.Comma ∷ (text g ++ Fixed symbol.Close ∷ [])) h.1.1 in
    (h.0, (tt, proper_append (text (formed f)) (Fixed symbol.Comma ∷ (text (formed g) ++ Fixed symbol.Close ∷ [])) (formed_proper f r.0) (tt, enclosed_proper (text g) (text (formed g)) (λ k. formed_proper g k) r.1.1)))
formed_proper (dlvalue3 f g k) h =
    let r = proper_parts (text f) (Fixed symbol.Comma ∷ (text g ++ Fixed symbol.Comma ∷ (text k ++ Fixed symbol.Close ∷ []))) h.1.1 in
    let s = proper_parts (text g) (Fixed symbol.Comma ∷ (text k ++ Fixed symbol.Close ∷ [])) r.1.1 in (
      h.0,
      (
        tt,
        proper_append (text (formed f)) (Fixed symbol.Comma ∷ (text (formed g) ++ Fixed symbol.Comma ∷ (text (formed k) ++ Fixed symbol.Close ∷ []))) (formed_proper f r.0)
            (tt, proper_append (text (formed g)) (Fixed symbol.Comma ∷ (text (formed k) ++ Fixed symbol.Close ∷ [])) (formed_proper g s.0) (tt, enclosed_proper (text k) (text (formed k)) (λ x. formed_proper k x) s.1.1)),
      ),
    )

pub proper_printed : (ws : List Terminal) (t : Expr) → Derives ws t → AreProper ws → AreProper (print_terminals (expr_text t))
proper_printed ws t d h =
    subst AreProper (sym (print_terminals_text (formed d.form)) ∙ ap print_terminals (sym (text_is d.form (prints d.form)) ∙ ap expr_text d.tree_is)) (formed_proper d.form (subst AreProper (sym d.text_is) h))

-- ---- dots

dotted_more : (b : Bool) (ws : List Terminal) → Dotted false ws → Dotted b ws
dotted_more b [] h = tt
dotted_more b (w ∷ ws) h = ((λ d. absurd (let q : false ≡ true = h.0 d in cc)), h.1)

pub dotted_append : (b : Bool) (xs ys : List Terminal) → Dotted b xs → Dotted false ys → Dotted b (xs ++ ys)
dotted_append b [] ys h k = dotted_more b ys k
dotted_append b (w ∷ xs) ys h k = (h.0, dotted_append (is_word w) xs ys h.1 k)

no_dot : (o : Op) → is_dot (Fixed (symbol_of o)) ≡ false
no_dot Or = refl
no_dot And = refl
no_dot Eq = refl
no_dot Ne = refl
no_dot Lt = refl
no_dot Le = refl
no_dot Gt = refl
no_dot Ge = refl
no_dot Add = refl
no_dot Sub = refl
no_dot Mul = refl
no_dot Div = refl

-- a terminal that is no dot
plain : {A : Type 0} (b : Bool) → b ≡ false → b ≡ true → A
plain b f t = absurd (let q : false ≡ true = sym f ∙ t in cc)

dotted_enclosed : (b : Bool) (ws : List Terminal) → Dotted b ws → Dotted b (ws ++ Fixed symbol.Close ∷ [])
dotted_enclosed b ws h = dotted_append b ws (Fixed symbol.Close ∷ []) h ((λ d. absurd cc), tt)

dotted_null : (b : Bool) → Dotted false (null_text b)
dotted_null true = ((λ d. absurd cc), tt)
dotted_null false = ((λ d. absurd cc), ((λ d. absurd cc), tt))

text_dotted : (f : Form) → Dotted false (text f)
text_dotted (number n) = ((λ d. absurd cc), tt)
text_dotted (literal t) = ((λ d. absurd cc), tt)
text_dotted null = ((λ d. absurd cc), tt)
text_dotted (column None c) = ((λ d. absurd cc), tt)
text_dotted (column (Some t) c) = ((λ d. absurd cc), ((λ d. refl), ((λ d. absurd cc), tt)))
text_dotted (parens f) = ((λ d. absurd cc), dotted_enclosed false (text f) (text_dotted f))
text_dotted (not f) = ((λ d. absurd cc), text_dotted f)
text_dotted (minus f) = ((λ d. absurd cc), text_dotted f)
text_dotted (binary o f g) = dotted_append false (text f) (Fixed (symbol_of o) ∷ text g) (text_dotted f) (plain (is_dot (Fixed (symbol_of o))) (no_dot o), text_dotted g)
text_dotted (is_null f b) = dotted_append false (text f) (Fixed symbol.Is ∷ null_text b) (text_dotted f) ((λ d. absurd cc), dotted_null b)
text_dotted count_all = ((λ d. absurd cc), ((λ d. absurd cc), ((λ d. absurd cc), ((λ d. absurd cc), tt))))
text_dotted (aggregate g f) = ((λ d. absurd cc), ((λ d. absurd cc), dotted_enclosed false (text f) (text_dotted f)))
text_dotted (access p f) = ((λ d. absurd cc), ((λ d. absurd cc), dotted_enclosed false (text f) (text_dotted f)))
text_dotted (dlvalue1 f) = ((λ d. absurd cc), ((λ d. absurd cc), dotted_enclosed false (text f) (text_dotted f)))
text_dotted (dlvalue2 f g) = ((λ d. absurd cc), ((λ d. absurd cc), dotted_append false (text f) (Fixed symbol.Comma ∷ (text g ++ Fixed symbol.Close ∷ [])) (text_dotted f) ((λ d. absurd cc), dotted_enclosed false (text g) (text_dotted g))))
text_dotted (dlvalue3 f g h) = (
  (λ d. absurd cc),
  (
    (λ d. absurd cc),
    dotted_append false (text f) (Fixed symbol.Comma ∷ (text g ++ Fixed symbol.Comma ∷ (text h ++ Fixed symbol.Close ∷ []))) (text_dotted f)
        ((λ d. absurd cc), dotted_append false (text g) (Fixed symbol.Comma ∷ (text h ++ Fixed symbol.Close ∷ [])) (text_dotted g) ((λ d. absurd cc), dotted_enclosed false (text h) (text_dotted h))),
  ),
)

pub dotted_printed : (ws : List Terminal) (t : Expr) → Derives ws t → Dotted false (print_terminals (expr_text t))
dotted_printed ws t d = subst (Dotted false) (sym (print_terminals_text (formed d.form)) ∙ ap print_terminals (sym (text_is d.form (prints d.form)) ∙ ap expr_text d.tree_is)) (text_dotted (formed d.form))
