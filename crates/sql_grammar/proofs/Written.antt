-- The terminals read so far, as forms of what the stack holds.
use Rattle.std.proofs.Common.{◌≡◌, ℕ, suc, ◌+◌, ◌≤◌, Bool, true, false, cond, leb, List, [], ◌∷◌, ◌++◌, refl, sym, ap, ◌∙◌, subst, arith, append_assoc}
use Rattle.std.proofs.lemmas.Bool.{leb-true}
use Rattle.dl_base.specs.declared.statement.Op.{Op}
use Rattle.dl_base.specs.declared.statement.Op.TheVariants.{Or, And, Add, Sub, Mul, Div}
use Rattle.dl_base.specs.declared.statement.Expr.{Expr}
use Rattle.dl_base.specs.declared.statement.Expr as e
use Rattle.sql_grammar.specs.declared.symbol.Symbol.TheVariants as symbol
use Rattle.sql_grammar.specs.declared.terminal.Terminal.{Terminal}
use Rattle.sql_grammar.specs.declared.terminal.Terminal.TheVariants.{Fixed, Word}
use Rattle.sql_grammar.specs.declared.frame.Opening.{Opening}
use Rattle.sql_grammar.specs.declared.frame.Opening.TheVariants.{Group, Aggregate, Access, Dlvalue1, Dlvalue2, Dlvalue3}
use Rattle.sql_grammar.specs.declared.frame.Frame.{Frame}
use Rattle.sql_grammar.specs.declared.frame.Frame.TheVariants.{Opened, Negation, Sign, Infix}
use Rattle.sql_grammar.specs.Levels.{level_of, left_of}
use Rattle.sql_grammar.specs.Levels.{symbol_of}
use Rattle.sql_grammar.specs.Words as words
use Rattle.sql_grammar.specs.Forms.{Form, parens, not, minus, binary, is_null, aggregate, access, dlvalue1, dlvalue2, dlvalue3, fold_name, part_name, null_text, level, IsForm, text, tree, operators, depth}
use Rattle.sql_grammar.specs.Machine.{need, enclosed, reduced}

-- a form of the tree, with so many operators, inside so many parentheses
pub record Written (t : Expr) (l : ℕ) (ws : List Terminal) (n p : ℕ) : Type 0 where
  pub form : Form
  pub is_form : IsForm form
  pub tree_is : tree form ≡ t
  pub text_is : text form ≡ ws
  pub binds : l ≤ level form
  pub count : operators form ≡ n
  pub flat : p + depth form ≤ 256

-- the terminals that open a parenthesis, with so many operators and calls among them, inside so many parentheses
abbrev pub Begun : Opening → List Terminal → ℕ → ℕ → Type 0
Begun Group here k p = (here ≡ Fixed symbol.Open ∷ []) × (k ≡ 0)
Begun (Aggregate g) here k p = (here ≡ Word (fold_name g) ∷ Fixed symbol.Open ∷ []) × (k ≡ 1)
Begun (Access g) here k p = (here ≡ Word (part_name g) ∷ Fixed symbol.Open ∷ []) × (k ≡ 1)
Begun Dlvalue1 here k p = (here ≡ Word words.dlvalue ∷ Fixed symbol.Open ∷ []) × (k ≡ 1)
Begun (Dlvalue2 a) here k p = (x : List Terminal) × (m : ℕ) × Written a 0 x m p × (here ≡ Word words.dlvalue ∷ Fixed symbol.Open ∷ (x ++ Fixed symbol.Comma ∷ [])) × (k ≡ suc m)
Begun (Dlvalue3 a b) here k p = (x y : List Terminal) × (m j : ℕ) × Written a 0 x m p × Written b 0 y j p × (here ≡ Word words.dlvalue ∷ Fixed symbol.Open ∷ (x ++ Fixed symbol.Comma ∷ (y ++ Fixed symbol.Comma ∷ []))) × (k ≡ suc (m + j))

-- the terminals read so far stand for the stack, with so many operators and open parentheses
abbrev pub Stands : List Frame → List Terminal → ℕ → ℕ → Type 0
Stands [] ws n p = (ws ≡ []) × (n ≡ 0) × (p ≡ 0)
Stands (Opened g ∷ s) ws n p = (pre here : List Terminal) × (m k q : ℕ) × Stands s pre m q × Begun g here k (suc q) × (ws ≡ pre ++ here) × (n ≡ m + k) × (p ≡ suc q) × (suc q ≤ 256)
Stands (Negation ∷ s) ws n p = (pre : List Terminal) × (m : ℕ) × Stands s pre m p × (ws ≡ pre ++ Fixed symbol.Not ∷ []) × (n ≡ suc m) × (need s ≤ 2)
Stands (Sign ∷ s) ws n p = (pre : List Terminal) × (m : ℕ) × Stands s pre m p × (ws ≡ pre ++ Fixed symbol.Minus ∷ []) × (n ≡ suc m) × (need s ≤ 6)
Stands (Infix o a ∷ s) ws n p = (pre here : List Terminal) × (m k : ℕ) × Stands s pre m p × Written a (left_of o) here k p × (ws ≡ pre ++ (here ++ Fixed (symbol_of o) ∷ [])) × (n ≡ suc (m + k)) × (need s ≤ level_of o)

-- and behind them an operand, which binds at least as tightly as l
pub record Has (s : List Frame) (t : Expr) (l : ℕ) (ws : List Terminal) (n p : ℕ) : Type 0 where
  pub pre : List Terminal
  pub here : List Terminal
  pub m : ℕ
  pub k : ℕ
  pub below : Stands s pre m p
  pub operand : Written t l here k p
  pub enough : need s ≤ level operand.form
  pub all : ws ≡ pre ++ here
  pub total : n ≡ m + k

pub Has-not : (s : List Frame) (t : Expr) (l r : ℕ) (ws : List Terminal) (n p : ℕ) → r ≤ 2 → Has (Negation ∷ s) t l ws n p → Has s (e.Not t) r ws n p
Has-not s t l r ws n p le h =
    let b = h.below in let w = h.operand in
    record {
      pre = b.0;
      here = Fixed symbol.Not ∷ h.here;
      m = b.1;
      k = suc h.k;
      below = b.2;
      operand = record { form = not w.form; is_form = (h.enough, w.is_form); tree_is = ap e.Not w.tree_is; text_is = ap (λ (x : List Terminal). Fixed symbol.Not ∷ x) w.text_is; binds = le; count = ap suc w.count; flat = w.flat };
      enough = b.5;
      all = h.all ∙ ap (λ (x : List Terminal). x ++ h.here) b.3 ∙ append_assoc b.0 (Fixed symbol.Not ∷ []) h.here;
      total = omega (arith, h.total, b.4);
    }

pub Has-minus : (s : List Frame) (t : Expr) (l r : ℕ) (ws : List Terminal) (n p : ℕ) → r ≤ 6 → Has (Sign ∷ s) t l ws n p → Has s (e.Minus t) r ws n p
Has-minus s t l r ws n p le h =
    let b = h.below in let w = h.operand in
    record {
      pre = b.0;
      here = Fixed symbol.Minus ∷ h.here;
      m = b.1;
      k = suc h.k;
      below = b.2;
      operand = record { form = minus w.form; is_form = (h.enough, w.is_form); tree_is = ap e.Minus w.tree_is; text_is = ap (λ (x : List Terminal). Fixed symbol.Minus ∷ x) w.text_is; binds = le; count = ap suc w.count; flat = w.flat };
      enough = b.5;
      all = h.all ∙ ap (λ (x : List Terminal). x ++ h.here) b.3 ∙ append_assoc b.0 (Fixed symbol.Minus ∷ []) h.here;
      total = omega (arith, h.total, b.4);
    }

pub Has-infix : (o : Op) (a : Expr) (s : List Frame) (t : Expr) (l r : ℕ) (ws : List Terminal) (n p : ℕ) → r ≤ level_of o → Has (Infix o a ∷ s) t l ws n p → Has s (e.Binary o a t) r ws n p
Has-infix o a s t l r ws n p le h =
    let b = h.below in let w = h.operand in let v = b.5 in
    record {
      pre = b.0;
      here = b.1 ++ Fixed (symbol_of o) ∷ h.here;
      m = b.2;
      k = suc (b.3 + h.k);
      below = b.4;
      operand = record {
        form = binary o v.form w.form;
        is_form = (v.binds, h.enough, v.is_form, w.is_form);
        tree_is = (λ i. e.Binary o (v.tree_is i) (w.tree_is i));
        text_is = (λ i. v.text_is i ++ Fixed (symbol_of o) ∷ w.text_is i);
        binds = le;
        count = omega (arith, v.count, w.count);
        flat = omega (arith, v.flat, w.flat);
      };
      enough = b.8;
      all = h.all ∙ ap (λ (x : List Terminal). x ++ h.here) b.6 ∙ append_assoc b.0 (b.1 ++ Fixed (symbol_of o) ∷ []) h.here ∙ ap (λ (x : List Terminal). b.0 ++ x) (append_assoc b.1 (Fixed (symbol_of o) ∷ []) h.here);
      total = omega (arith, h.total, b.7);
    }

level_top : (o : Op) → level_of o ≤ 5
level_top Or = omega arith
level_top And = omega arith
level_top Add = omega arith
level_top Sub = omega arith
level_top Mul = omega arith
level_top Div = omega arith
level_top _ = omega arith

pub needs : (s : List Frame) → need s ≤ 6
needs [] = omega arith
needs (Opened g ∷ s) = omega arith
needs (Negation ∷ s) = omega arith
needs (Sign ∷ s) = omega arith
needs (Infix o a ∷ s) = omega (arith, level_top o)

-- a call, or an expression in parentheses, once it is closed
enclosed_written : (g : Opening) (here inner : List Terminal) (k j q l : ℕ) (t : Expr) → Begun g here k (suc q) → Written t l inner j (suc q) → Written (enclosed g t) 7 (here ++ (inner ++ Fixed symbol.Close ∷ [])) (k + j) q
enclosed_written Group here inner k j q l t b w =
    record { form = parens w.form; is_form = w.is_form; tree_is = w.tree_is; text_is = ap (λ (x : List Terminal). Fixed symbol.Open ∷ (x ++ Fixed symbol.Close ∷ [])) w.text_is ∙ ap (λ (x : List Terminal). x ++ (inner ++ Fixed symbol.Close ∷ [])) (sym b.0); binds = omega arith; count = omega (arith, w.count, b.1); flat = omega (arith, w.flat) }
enclosed_written (Aggregate g) here inner k j q l t b w =
    record { form = aggregate g w.form; is_form = w.is_form; tree_is = ap (e.Aggregate g) w.tree_is; text_is = ap (λ (x : List Terminal). Word (fold_name g) ∷ Fixed symbol.Open ∷ (x ++ Fixed symbol.Close ∷ [])) w.text_is ∙ ap (λ (x : List Terminal). x ++ (inner ++ Fixed symbol.Close ∷ [])) (sym b.0); binds = omega arith; count = omega (arith, w.count, b.1); flat = omega (arith, w.flat) }
enclosed_written (Access g) here inner k j q l t b w =
    record { form = access g w.form; is_form = w.is_form; tree_is = ap (e.Access g) w.tree_is; text_is = ap (λ (x : List Terminal). Word (part_name g) ∷ Fixed symbol.Open ∷ (x ++ Fixed symbol.Close ∷ [])) w.text_is ∙ ap (λ (x : List Terminal). x ++ (inner ++ Fixed symbol.Close ∷ [])) (sym b.0); binds = omega arith; count = omega (arith, w.count, b.1); flat = omega (arith, w.flat) }
enclosed_written Dlvalue1 here inner k j q l t b w =
    record { form = dlvalue1 w.form; is_form = w.is_form; tree_is = ap e.Dlvalue1 w.tree_is; text_is = ap (λ (x : List Terminal). Word words.dlvalue ∷ Fixed symbol.Open ∷ (x ++ Fixed symbol.Close ∷ [])) w.text_is ∙ ap (λ (x : List Terminal). x ++ (inner ++ Fixed symbol.Close ∷ [])) (sym b.0); binds = omega arith; count = omega (arith, w.count, b.1); flat = omega (arith, w.flat) }
enclosed_written (Dlvalue2 a) here inner k j q l t b w =
    let v = b.2 in
    let tail = inner ++ Fixed symbol.Close ∷ [] in
    record {
      form = dlvalue2 v.form w.form;
      is_form = (v.is_form, w.is_form);
      tree_is = (λ i. e.Dlvalue2 (v.tree_is i) (w.tree_is i));
      text_is = (λ i. Word words.dlvalue ∷ Fixed symbol.Open ∷ (v.text_is i ++ Fixed symbol.Comma ∷ (w.text_is i ++ Fixed symbol.Close ∷ []))) ∙ ap (λ (x : List Terminal). Word words.dlvalue ∷ Fixed symbol.Open ∷ x) (sym (append_assoc b.0 (Fixed symbol.Comma ∷ []) tail)) ∙ ap (λ (x : List Terminal). x ++ tail) (sym b.3);
      binds = omega arith;
      count = omega (arith, v.count, w.count, b.4);
      flat = omega (arith, v.flat, w.flat);
    }
enclosed_written (Dlvalue3 a c) here inner k j q l t b w =
    let v = b.4 in let u = b.5 in
    let tail = inner ++ Fixed symbol.Close ∷ [] in
    record {
      form = dlvalue3 v.form u.form w.form;
      is_form = (v.is_form, u.is_form, w.is_form);
      tree_is = (λ i. e.Dlvalue3 (v.tree_is i) (u.tree_is i) (w.tree_is i));
      text_is = (λ i. Word words.dlvalue ∷ Fixed symbol.Open ∷ (v.text_is i ++ Fixed symbol.Comma ∷ (u.text_is i ++ Fixed symbol.Comma ∷ (w.text_is i ++ Fixed symbol.Close ∷ []))))
          ∙ ap (λ (x : List Terminal). Word words.dlvalue ∷ Fixed symbol.Open ∷ (b.0 ++ Fixed symbol.Comma ∷ x)) (sym (append_assoc b.1 (Fixed symbol.Comma ∷ []) tail))
          ∙ ap (λ (x : List Terminal). Word words.dlvalue ∷ Fixed symbol.Open ∷ x) (sym (append_assoc b.0 (Fixed symbol.Comma ∷ (b.1 ++ Fixed symbol.Comma ∷ [])) tail)) ∙ ap (λ (x : List Terminal). x ++ tail) (sym b.6);
      binds = omega arith;
      count = omega (arith, v.count, u.count, w.count, b.7);
      flat = omega (arith, v.flat, u.flat, w.flat);
    }

pub Has-close : (g : Opening) (s : List Frame) (t : Expr) (l : ℕ) (ws : List Terminal) (n p : ℕ) → Has (Opened g ∷ s) t l ws n (suc p) → Has s (enclosed g t) 7 (ws ++ Fixed symbol.Close ∷ []) n p
Has-close g s t l ws n p h =
    let b = h.below in
    let same : b.4 ≡ p = omega (arith, b.9) in
    let w : Written t l h.here h.k (suc b.4) = subst (λ q. Written t l h.here h.k q) b.9 h.operand in
    let made = subst (λ q. Written (enclosed g t) 7 (b.1 ++ (h.here ++ Fixed symbol.Close ∷ [])) (b.3 + h.k) q) same (enclosed_written g b.1 h.here b.3 h.k b.4 l t b.6 w) in
    record {
      pre = b.0;
      here = b.1 ++ (h.here ++ Fixed symbol.Close ∷ []);
      m = b.2;
      k = b.3 + h.k;
      below = subst (λ q. Stands s b.0 b.2 q) same b.5;
      operand = made;
      enough = omega (arith, needs s, made.binds);
      all = ap (λ (x : List Terminal). x ++ Fixed symbol.Close ∷ []) (h.all ∙ ap (λ (x : List Terminal). x ++ h.here) b.7 ∙ append_assoc b.0 b.1 h.here) ∙ append_assoc b.0 (b.1 ++ h.here) (Fixed symbol.Close ∷ []) ∙ ap (λ (x : List Terminal). b.0 ++ x) (append_assoc b.1 h.here (Fixed symbol.Close ∷ []));
      total = omega (arith, h.total, b.8);
    }

-- IS NULL and IS NOT NULL behind an operand
pub Has-null : (b : Bool) (s : List Frame) (t : Expr) (ws : List Terminal) (n p : ℕ) → need s ≤ 3 → Has s t 4 ws n p → Has s (e.IsNull t b) 3 (ws ++ Fixed symbol.Is ∷ null_text b) (suc n) p
Has-null b s t ws n p ok h =
    let w = h.operand in
    record {
      pre = h.pre;
      here = h.here ++ Fixed symbol.Is ∷ null_text b;
      m = h.m;
      k = suc h.k;
      below = h.below;
      operand = record { form = is_null w.form b; is_form = (w.binds, w.is_form); tree_is = ap (λ x. e.IsNull x b) w.tree_is; text_is = ap (λ (x : List Terminal). x ++ Fixed symbol.Is ∷ null_text b) w.text_is; binds = omega arith; count = ap suc w.count; flat = w.flat };
      enough = ok;
      all = ap (λ (x : List Terminal). x ++ Fixed symbol.Is ∷ null_text b) h.all ∙ append_assoc h.pre h.here (Fixed symbol.Is ∷ null_text b);
      total = omega (arith, h.total);
    }

module _ (ws : List Terminal) (n p : ℕ) where
  -- the stack and the operand after it, as a pair
  abbrev pub Has2 : ℕ → List Frame × Expr → Type 0
  Has2 l r = Has r.0 r.1 l ws n p

  has_if : (b : Bool) (l : ℕ) (x y : List Frame × Expr) → (b ≡ true → Has2 l x) → Has2 l y → Has2 l (cond b x y)
  has_if true l x y h k = h refl
  has_if false l x y h k = k

  -- what is applied to the stack still stands for the terminals
  pub has_reduced : (s : List Frame) (t : Expr) (l : ℕ) → Has2 l (s, t) → Has2 l (reduced l s t)
  has_reduced [] t l h = h
  has_reduced (Opened g ∷ s) t l h = h
  has_reduced (Negation ∷ s) t l h = has_if (leb l 2) l _ _ (λ le. has_reduced s (e.Not t) l (Has-not s t l l ws n p (leb-true l 2 le) h)) h
  has_reduced (Sign ∷ s) t l h = has_if (leb l 6) l _ _ (λ le. has_reduced s (e.Minus t) l (Has-minus s t l l ws n p (leb-true l 6 le) h)) h
  has_reduced (Infix o a ∷ s) t l h = has_if (leb l (level_of o)) l _ _ (λ le. has_reduced s (e.Binary o a t) l (Has-infix o a s t l l ws n p (leb-true l (level_of o) le) h)) h

-- an operand at the end of the terminals, which binds at least as tightly as l at any lower l
pub Has-down : (s : List Frame) (t : Expr) (l r : ℕ) (ws : List Terminal) (n p : ℕ) → r ≤ l → Has s t l ws n p → Has s t r ws n p
Has-down s t l r ws n p le h =
    let w = h.operand in
    record { pre = h.pre; here = h.here; m = h.m; k = h.k; below = h.below; operand = record { form = w.form; is_form = w.is_form; tree_is = w.tree_is; text_is = w.text_is; binds = omega (arith, w.binds); count = w.count; flat = w.flat }; enough = h.enough; all = h.all; total = h.total }
