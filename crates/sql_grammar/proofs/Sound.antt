-- What is read is an expression, and what has been read up to a fault begins one.
use Rattle.std.proofs.Common.{◌≡◌, ℕ, zero, suc, ◌+◌, ◌≤◌, ◌<◌, Bool, true, false, ◌&&◌, cond, leb, ltb, eqb, List, [], ◌∷◌, ◌++◌, length, Option, Some, None, Ok, Err, refl, sym, ap, ◌∙◌, subst, arith, append_assoc}
use Rattle.std.proofs.Math.Dec.{leb-zero}
use Rattle.std.proofs.lemmas.Bool.{leb-true, eqb-true}
use Rattle.std.proofs.lemmas.List.{append-nil}
use Rattle.dl_base.specs.declared.statement.Op.{Op}
use Rattle.dl_base.specs.declared.statement.Op.TheVariants.{Sub, Mul}
use Rattle.dl_base.specs.declared.statement.Expr.{Expr}
use Rattle.dl_base.specs.declared.statement.Expr as e
use Rattle.dl_base.specs.Name.{name_test}
use Rattle.sql_grammar.specs.declared.symbol.Symbol.{Symbol}
use Rattle.sql_grammar.specs.declared.symbol.Symbol.TheVariants as symbol
use Rattle.sql_grammar.specs.declared.terminal.Terminal.{Terminal}
use Rattle.sql_grammar.specs.declared.terminal.Terminal.TheVariants.{Fixed, Word, Number, Literal}
use Rattle.sql_grammar.specs.declared.frame.Opening.{Opening}
use Rattle.sql_grammar.specs.declared.frame.Opening.TheVariants.{Group, Aggregate, Access, Dlvalue1, Dlvalue2, Dlvalue3}
use Rattle.sql_grammar.specs.declared.frame.Callee.{Callee}
use Rattle.sql_grammar.specs.declared.frame.Callee.TheVariants.{Count, Opens}
use Rattle.sql_grammar.specs.declared.frame.Frame.{Frame}
use Rattle.sql_grammar.specs.declared.frame.Frame.TheVariants.{Opened, Negation, Sign, Infix}
use Rattle.sql_grammar.specs.Levels.{level_of, left_of}
use Rattle.sql_grammar.specs.Cues.{Cue, an_operator, a_not, an_is, a_null, an_open, a_close, a_comma, a_dot, a_number, a_literal, a_word, another, cue_of, cue}
use Rattle.sql_grammar.specs.Levels.{symbol_of}
use Rattle.sql_grammar.specs.Words as words
use Rattle.sql_grammar.specs.Forms.{Form, number, literal, column, null, count_all, fold_name, part_name, reference, level, IsForm, text, tree, operators, depth, Derives}
use Rattle.sql_grammar.specs.Machine.{need, reduced, enclosed, callees, look_up, callee_of, State, due, after, named, dotted, is_due, not_due, star_due, star_read, Move, Go, Stop, Refuse, operate, ask, closed, close, passed, pass, leave, call_open, move_after, move, told, run}
use Rattle.sql_grammar.specs.Words.{same_bytes}
use Rattle.sql_grammar.specs.Proper.{AreProper, reserved_symbol}
use Rattle.sql_grammar.proofs.Place.{Place}
use Rattle.sql_grammar.proofs.Written.{Written, Begun, Stands, Has, Has-not, Has-minus, Has-infix, Has-close, Has-null, Has-down, has_reduced, needs}

-- with no parenthesis open, all is applied
emptied : (s : List Frame) (t : Expr) (ws : List Terminal) (n : ℕ) → Has s t 0 ws n 0 → (u : Expr) × (reduced 0 s t ≡ ([], u)) × Has [] u 0 ws n 0
emptied [] t ws n h = (t, refl, h)
emptied (Opened g ∷ s) t ws n h = absurd (let b = h.below in omega (arith, b.9))
emptied (Negation ∷ s) t ws n h = emptied s (e.Not t) ws n (Has-not s t 0 0 ws n 0 (omega arith) h)
emptied (Sign ∷ s) t ws n h = emptied s (e.Minus t) ws n (Has-minus s t 0 0 ws n 0 (omega arith) h)
emptied (Infix o a ∷ s) t ws n h =
    let r = emptied s (e.Binary o a t) ws n (Has-infix o a s t 0 0 ws n 0 (omega arith) h) in
    (r.0, rw (leb-zero (level_of o)) r.1, r.2)

derived : (t : Expr) (ws : List Terminal) (n : ℕ) → n ≤ 255 → Has [] t 0 ws n 0 → Derives ws t
derived t ws n few h =
    let w = h.operand in let b = h.below in
    record { form = w.form; is_form = w.is_form; text_is = w.text_is ∙ sym (h.all ∙ ap (λ (x : List Terminal). x ++ h.here) b.0); tree_is = w.tree_is; few = omega (arith, w.count, h.total); flat = omega (arith, w.flat) }

-- the terminals, and some that a text can have behind them, are an expression
abbrev pub Completes : List Terminal → Type 0
Completes ws = (more : List Terminal) × (u : Expr) × Derives (ws ++ more) u × AreProper more

-- any stack and operand can be closed
closes : (s : List Frame) (t : Expr) (l : ℕ) (ws : List Terminal) (n p : ℕ) → n ≤ 255 → Has s t l ws n p → Completes ws
closes [] t l ws n p few h =
    let none : p ≡ 0 = h.below.2 in
    let all : ws ≡ ws ++ [] = sym (append-nil ws) in
    ([], t, subst (λ (x : List Terminal). Derives x t) all (derived t ws n few (subst (λ q. Has [] t 0 ws n q) none (Has-down [] t l 0 ws n p (omega arith) h))), tt)
closes (Opened g ∷ s) t l ws n p few h =
    let q = h.below.4 in
    let one : p ≡ suc q = h.below.9 in
    let r = closes s (enclosed g t) 7 (ws ++ Fixed symbol.Close ∷ []) n q few (Has-close g s t l ws n q (subst (λ x. Has (Opened g ∷ s) t l ws n x) one h)) in
    (Fixed symbol.Close ∷ r.0, r.1, subst (λ (x : List Terminal). Derives x r.1) (append_assoc ws (Fixed symbol.Close ∷ []) r.0) r.2, (tt, r.3))
closes (Negation ∷ s) t l ws n p few h = closes s (e.Not t) 0 ws n p few (Has-not s t l 0 ws n p (omega arith) h)
closes (Sign ∷ s) t l ws n p few h = closes s (e.Minus t) 0 ws n p few (Has-minus s t l 0 ws n p (omega arith) h)
closes (Infix o a ∷ s) t l ws n p few h = closes s (e.Binary o a t) 0 ws n p few (Has-infix o a s t l 0 ws n p (omega arith) h)

-- the terminals read so far stand for the state
abbrev pub Holds : State → List Terminal → Type 0
Holds (due s n p) ws = Stands s ws n p × (n ≤ 255) × (p ≤ 256)
Holds (after s t l n p) ws = Has s t l ws n p × (n ≤ 255) × (p ≤ 256)
Holds (named s x n p) ws = (pre : List Terminal) × Stands s pre n p × (ws ≡ pre ++ Word x ∷ []) × (n ≤ 255) × (p ≤ 256)
Holds (dotted s x n p) ws = (pre : List Terminal) × Stands s pre n p × (ws ≡ pre ++ Word x ∷ Fixed symbol.Dot ∷ []) × (n ≤ 255) × (p ≤ 256)
Holds (is_due s t n p) ws = (pre : List Terminal) × (m : ℕ) × Has s t 4 pre m p × (need s ≤ 3) × (ws ≡ pre ++ Fixed symbol.Is ∷ []) × (n ≡ suc m) × (n ≤ 255) × (p ≤ 256)
Holds (not_due s t n p) ws = (pre : List Terminal) × (m : ℕ) × Has s t 4 pre m p × (need s ≤ 3) × (ws ≡ pre ++ Fixed symbol.Is ∷ Fixed symbol.Not ∷ []) × (n ≡ suc m) × (n ≤ 255) × (p ≤ 256)
Holds (star_due s n p) ws = (pre : List Terminal) × (m : ℕ) × Stands s pre m p × (ws ≡ pre ++ Word words.count ∷ Fixed symbol.Open ∷ []) × (n ≡ suc m) × (n ≤ 255) × (p < 256)
Holds (star_read s n p) ws = (pre : List Terminal) × (m : ℕ) × Stands s pre m p × (ws ≡ pre ++ Word words.count ∷ Fixed symbol.Open ∷ Fixed symbol.Star ∷ []) × (n ≡ suc m) × (n ≤ 255) × (p < 256)

-- an operand without operators inside it
placed : (s : List Frame) (f : Form) (here ws : List Terminal) (n k p : ℕ) → IsForm f → text f ≡ here → 7 ≤ level f → operators f ≡ k → p + depth f ≤ 256 → Stands s ws n p → Has s (tree f) 7 (ws ++ here) (n + k) p
placed s f here ws n k p is one top count flat h =
    record { pre = ws; here = here; m = n; k = k; below = h; operand = record { form = f; is_form = is; tree_is = refl; text_is = one; binds = top; count = count; flat = flat }; enough = omega (arith, needs s); all = refl; total = refl }

simple : (s : List Frame) (f : Form) (here ws : List Terminal) (n p : ℕ) → IsForm f → text f ≡ here → 7 ≤ level f → operators f ≡ 0 → depth f ≡ 0 → Holds (due s n p) ws → Holds (after s (tree f) 7 n p) (ws ++ here)
simple s f here ws n p is one top count flat h =
    (subst (λ k. Has s (tree f) 7 (ws ++ here) k p) (let q : n + 0 ≡ n = omega arith in q) (placed s f here ws n 0 p is one top count (omega (arith, h.2)) h.0), h.1, h.2)

-- a word is a column
as_column : (s : List Frame) (x : List ℕ) (n p : ℕ) (ws : List Terminal) → Holds (named s x n p) ws → Holds (after s (e.Column (reference None x)) 7 n p) ws
as_column s x n p ws h = subst (λ (y : List Terminal). Holds (after s (e.Column (reference None x)) 7 n p) y) (sym h.2) (simple s (column None x) (Word x ∷ []) h.0 n p tt refl (omega arith) refl refl (h.1, h.3, h.4))

-- a column of a table
as_reference : (s : List Frame) (x y : List ℕ) (n p : ℕ) (ws : List Terminal) → Holds (dotted s x n p) ws → Holds (after s (e.Column (reference (Some x) y)) 7 n p) (ws ++ Word y ∷ [])
as_reference s x y n p ws h =
    let all : ws ++ Word y ∷ [] ≡ h.0 ++ Word x ∷ Fixed symbol.Dot ∷ Word y ∷ [] = ap (λ (z : List Terminal). z ++ Word y ∷ []) h.2 ∙ append_assoc h.0 (Word x ∷ Fixed symbol.Dot ∷ []) (Word y ∷ []) in
    subst (λ (z : List Terminal). Holds (after s (e.Column (reference (Some x) y)) 7 n p) z) (sym all) (simple s (column (Some x) y) (Word x ∷ Fixed symbol.Dot ∷ Word y ∷ []) h.0 n p tt refl (omega arith) refl refl (h.1, h.3, h.4))

-- COUNT(*)
counted : (s : List Frame) (n p : ℕ) (ws : List Terminal) → Holds (star_read s n p) ws → Holds (after s e.CountAll 7 n p) (ws ++ Fixed symbol.Close ∷ [])
counted s n p ws h =
    let all : ws ++ Fixed symbol.Close ∷ [] ≡ h.0 ++ text count_all = ap (λ (z : List Terminal). z ++ Fixed symbol.Close ∷ []) h.3 ∙ append_assoc h.0 (Word words.count ∷ Fixed symbol.Open ∷ Fixed symbol.Star ∷ []) (Fixed symbol.Close ∷ []) in
    let made = placed s count_all (text count_all) h.0 h.1 1 p tt refl (omega arith) refl (omega (arith, h.6)) h.2 in
    let total : h.1 + 1 ≡ n = omega (arith, h.4) in
    (subst (λ (z : List Terminal). Has s e.CountAll 7 z n p) (sym all) (subst (λ k. Has s e.CountAll 7 (h.0 ++ text count_all) k p) total made), h.5, omega (arith, h.6))

-- the answer behind IS
answered : (s : List Frame) (t : Expr) (n p : ℕ) (ws : List Terminal) → Holds (is_due s t n p) ws → Holds (after s (e.IsNull t true) 3 n p) (ws ++ Fixed symbol.Null ∷ [])
answered s t n p ws h =
    let all : ws ++ Fixed symbol.Null ∷ [] ≡ h.0 ++ Fixed symbol.Is ∷ Fixed symbol.Null ∷ [] = ap (λ (x : List Terminal). x ++ Fixed symbol.Null ∷ []) h.4 ∙ append_assoc h.0 (Fixed symbol.Is ∷ []) (Fixed symbol.Null ∷ []) in
    (subst (λ (x : List Terminal). Has s (e.IsNull t true) 3 x n p) (sym all) (subst (λ k. Has s (e.IsNull t true) 3 (h.0 ++ Fixed symbol.Is ∷ Fixed symbol.Null ∷ []) k p) (sym h.5) (Has-null true s t h.0 h.1 p h.3 h.2)), h.6, h.7)

answered_not : (s : List Frame) (t : Expr) (n p : ℕ) (ws : List Terminal) → Holds (not_due s t n p) ws → Holds (after s (e.IsNull t false) 3 n p) (ws ++ Fixed symbol.Null ∷ [])
answered_not s t n p ws h =
    let all : ws ++ Fixed symbol.Null ∷ [] ≡ h.0 ++ Fixed symbol.Is ∷ Fixed symbol.Not ∷ Fixed symbol.Null ∷ [] = ap (λ (x : List Terminal). x ++ Fixed symbol.Null ∷ []) h.4 ∙ append_assoc h.0 (Fixed symbol.Is ∷ Fixed symbol.Not ∷ []) (Fixed symbol.Null ∷ []) in
    (subst (λ (x : List Terminal). Has s (e.IsNull t false) 3 x n p) (sym all) (subst (λ k. Has s (e.IsNull t false) 3 (h.0 ++ Fixed symbol.Is ∷ Fixed symbol.Not ∷ Fixed symbol.Null ∷ []) k p) (sym h.5) (Has-null false s t h.0 h.1 p h.3 h.2)), h.6, h.7)

-- a word that a text can have

pub name_proper : AreProper (Word (97 ∷ []) ∷ [])
unfolding name_test reserved_symbol
name_proper = (((97 ∷ [], (refl, refl)), refl), tt)

-- with one terminal more
after_one : (ws : List Terminal) (v : Terminal) (more : List Terminal) (u : Expr) → Derives ((ws ++ v ∷ []) ++ more) u → Derives (ws ++ v ∷ more) u
after_one ws v more u d = subst (λ (x : List Terminal). Derives x u) (append_assoc ws (v ∷ []) more) d

-- what is read so far begins an expression
pub completes : (s : State) (ws : List Terminal) → Holds s ws → Completes ws
completes (due s n p) ws h =
    let a = simple s null (Fixed symbol.Null ∷ []) ws n p tt refl (omega arith) refl refl h in
    let r = closes s e.Null 7 (ws ++ Fixed symbol.Null ∷ []) n p h.1 a.0 in
    (Fixed symbol.Null ∷ r.0, r.1, after_one ws (Fixed symbol.Null) r.0 r.1 r.2, (tt, r.3))
completes (after s t l n p) ws h = closes s t l ws n p h.1 h.0
completes (named s x n p) ws h = let a = as_column s x n p ws h in closes s (e.Column (reference None x)) 7 ws n p a.1 a.0
completes (dotted s x n p) ws h =
    let a = as_reference s x (97 ∷ []) n p ws h in
    let r = closes s (e.Column (reference (Some x) (97 ∷ []))) 7 (ws ++ Word (97 ∷ []) ∷ []) n p a.1 a.0 in
    (Word (97 ∷ []) ∷ r.0, r.1, after_one ws (Word (97 ∷ [])) r.0 r.1 r.2, (name_proper.0, r.3))
completes (is_due s t n p) ws h =
    let a = answered s t n p ws h in
    let r = closes s (e.IsNull t true) 3 (ws ++ Fixed symbol.Null ∷ []) n p a.1 a.0 in
    (Fixed symbol.Null ∷ r.0, r.1, after_one ws (Fixed symbol.Null) r.0 r.1 r.2, (tt, r.3))
completes (not_due s t n p) ws h =
    let a = answered_not s t n p ws h in
    let r = closes s (e.IsNull t false) 3 (ws ++ Fixed symbol.Null ∷ []) n p a.1 a.0 in
    (Fixed symbol.Null ∷ r.0, r.1, after_one ws (Fixed symbol.Null) r.0 r.1 r.2, (tt, r.3))
completes (star_read s n p) ws h =
    let a = counted s n p ws h in
    let r = closes s e.CountAll 7 (ws ++ Fixed symbol.Close ∷ []) n p a.1 a.0 in
    (Fixed symbol.Close ∷ r.0, r.1, after_one ws (Fixed symbol.Close) r.0 r.1 r.2, (tt, r.3))
completes (star_due s n p) ws h =
    let all : ws ++ Fixed symbol.Star ∷ [] ≡ h.0 ++ Word words.count ∷ Fixed symbol.Open ∷ Fixed symbol.Star ∷ [] = ap (λ (z : List Terminal). z ++ Fixed symbol.Star ∷ []) h.3 ∙ append_assoc h.0 (Word words.count ∷ Fixed symbol.Open ∷ []) (Fixed symbol.Star ∷ []) in
    let a = counted s n p (ws ++ Fixed symbol.Star ∷ []) (h.0, h.1, h.2, all, h.4, h.5, h.6) in
    let r = closes s e.CountAll 7 ((ws ++ Fixed symbol.Star ∷ []) ++ Fixed symbol.Close ∷ []) n p a.1 a.0 in
    (Fixed symbol.Star ∷ Fixed symbol.Close ∷ r.0, r.1, after_one ws (Fixed symbol.Star) (Fixed symbol.Close ∷ r.0) r.1 (after_one (ws ++ Fixed symbol.Star ∷ []) (Fixed symbol.Close) r.0 r.1 r.2), (tt, (tt, r.3)))

-- ---- one terminal

-- the terminal that a cue came from
uncue : Cue → Terminal
uncue (an_operator o) = Fixed (symbol_of o)
uncue a_not = Fixed symbol.Not
uncue an_is = Fixed symbol.Is
uncue a_null = Fixed symbol.Null
uncue an_open = Fixed symbol.Open
uncue a_close = Fixed symbol.Close
uncue a_comma = Fixed symbol.Comma
uncue a_dot = Fixed symbol.Dot
uncue (a_number z) = Number z
uncue (a_literal t) = Literal t
uncue (a_word x) = Word x
uncue (another v) = v

uncue_symbol : (m : Symbol) → uncue (cue_of m) ≡ Fixed m
unfolding uncue
uncue_symbol symbol.Or = refl
uncue_symbol symbol.And = refl
uncue_symbol symbol.Equal = refl
uncue_symbol symbol.Unequal = refl
uncue_symbol symbol.Less = refl
uncue_symbol symbol.LessEqual = refl
uncue_symbol symbol.Greater = refl
uncue_symbol symbol.GreaterEqual = refl
uncue_symbol symbol.Plus = refl
uncue_symbol symbol.Minus = refl
uncue_symbol symbol.Star = refl
uncue_symbol symbol.Slash = refl
uncue_symbol symbol.Not = refl
uncue_symbol symbol.Is = refl
uncue_symbol symbol.Null = refl
uncue_symbol symbol.Open = refl
uncue_symbol symbol.Close = refl
uncue_symbol symbol.Comma = refl
uncue_symbol symbol.Dot = refl
uncue_symbol _ = refl

uncue_cue : (v : Terminal) → uncue (cue v) ≡ v
unfolding uncue
uncue_cue (Fixed m) = uncue_symbol m
uncue_cue (Number z) = refl
uncue_cue (Literal t) = refl
uncue_cue (Word x) = refl

-- what a move keeps: the state stands for the terminals with the next one, or the terminals are an expression
abbrev Kept : Move → List Terminal → Terminal → Type 0
Kept (Go q) ws v = Holds q (ws ++ v ∷ [])
Kept (Stop t) ws v = Derives ws t
Kept Refuse ws v = Unit {0}

kept_if : (b : Bool) (q : State) (ws : List Terminal) (v : Terminal) → (b ≡ true → Holds q (ws ++ v ∷ [])) → Kept (cond b (Go q) Refuse) ws v
kept_if true q ws v h = h refl
kept_if false q ws v h = tt

both_true : (a b : Bool) → (a && b) ≡ true → (a ≡ true) × (b ≡ true)
both_true true true e = (refl, refl)
both_true true false e = absurd cc
both_true false b e = absurd cc

stops : (s : List Frame) (t : Expr) (n : ℕ) (ws : List Terminal) → n ≤ 255 → Has s t 0 ws n 0 → Derives ws (reduced 0 s t).1
stops s t n ws few h = let r = emptied s t ws n h in subst (λ (x : List Frame × Expr). Derives ws x.1) (sym r.1) (derived r.0 ws n few r.2)

leave_kept : (s : List Frame) (t : Expr) (n p : ℕ) (ws : List Terminal) (v : Terminal) → n ≤ 255 → Has s t 0 ws n p → Kept (leave (reduced 0 s t) p) ws v
leave_kept s t n zero ws v few h = stops s t n ws few h
leave_kept s t n (suc p) ws v few h = tt

closed_kept : (s : List Frame) (t : Expr) (n p : ℕ) (ws : List Terminal) → n ≤ 255 → suc p ≤ 256 → Has s t 0 ws n (suc p) → Kept (closed s t n p) ws (Fixed symbol.Close)
closed_kept [] t n p ws few flat h = tt
closed_kept (Opened g ∷ s) t n p ws few flat h = (Has-close g s t 0 ws n p h, few, omega arith)
closed_kept (Negation ∷ s) t n p ws few flat h = tt
closed_kept (Sign ∷ s) t n p ws few flat h = tt
closed_kept (Infix o a ∷ s) t n p ws few flat h = tt

close_kept : (s : List Frame) (t : Expr) (n p : ℕ) (ws : List Terminal) → n ≤ 255 → p ≤ 256 → Has s t 0 ws n p → Kept (close (reduced 0 s t) n p) ws (Fixed symbol.Close)
close_kept s t n zero ws few flat h = stops s t n ws few h
close_kept s t n (suc p) ws few flat h = closed_kept (reduced 0 s t).0 (reduced 0 s t).1 n p ws few flat (has_reduced ws n (suc p) s t 0 h)

-- the next argument of DLVALUE
passed_kept : (s : List Frame) (t : Expr) (n p : ℕ) (ws : List Terminal) → n ≤ 255 → p ≤ 256 → Has s t 0 ws n p → Kept (passed s t n p) ws (Fixed symbol.Comma)
passed_kept [] t n p ws few flat h = tt
passed_kept (Opened Group ∷ s) t n p ws few flat h = tt
passed_kept (Opened (Aggregate g) ∷ s) t n p ws few flat h = tt
passed_kept (Opened (Access g) ∷ s) t n p ws few flat h = tt
passed_kept (Opened Dlvalue1 ∷ s) t n p ws few flat h =
    let b = h.below in
    let here = Word words.dlvalue ∷ Fixed symbol.Open ∷ (h.here ++ Fixed symbol.Comma ∷ []) in
    let begun = subst (λ q. Written t 0 h.here h.k q) b.9 h.operand in
    let all : ws ++ Fixed symbol.Comma ∷ [] ≡ b.0 ++ here =
    ap (λ (x : List Terminal). x ++ Fixed symbol.Comma ∷ []) (h.all ∙ ap (λ (x : List Terminal). x ++ h.here) (b.7 ∙ ap (λ (x : List Terminal). b.0 ++ x) b.6.0) ∙ append_assoc b.0 (Word words.dlvalue ∷ Fixed symbol.Open ∷ []) h.here) ∙ append_assoc b.0 (Word words.dlvalue ∷ Fixed symbol.Open ∷ h.here) (Fixed symbol.Comma ∷ []) in
    ((b.0, here, b.2, suc h.k, b.4, b.5, (h.here, h.k, begun, refl, refl), all, omega (arith, h.total, b.8, b.6.1), b.9, b.10), few, flat)
passed_kept (Opened (Dlvalue2 a) ∷ s) t n p ws few flat h =
    let b = h.below in
    let u = b.6 in
    let here = Word words.dlvalue ∷ Fixed symbol.Open ∷ (u.0 ++ Fixed symbol.Comma ∷ (h.here ++ Fixed symbol.Comma ∷ [])) in
    let begun = subst (λ q. Written t 0 h.here h.k q) b.9 h.operand in
    let parts : b.1 ++ (h.here ++ Fixed symbol.Comma ∷ []) ≡ here = ap (λ (x : List Terminal). x ++ (h.here ++ Fixed symbol.Comma ∷ [])) u.3 ∙ ap (λ (x : List Terminal). Word words.dlvalue ∷ Fixed symbol.Open ∷ x) (append_assoc u.0 (Fixed symbol.Comma ∷ []) (h.here ++ Fixed symbol.Comma ∷ [])) in
    let all : ws ++ Fixed symbol.Comma ∷ [] ≡ b.0 ++ here =
    ap (λ (x : List Terminal). x ++ Fixed symbol.Comma ∷ []) (h.all ∙ ap (λ (x : List Terminal). x ++ h.here) b.7 ∙ append_assoc b.0 b.1 h.here) ∙ append_assoc b.0 (b.1 ++ h.here) (Fixed symbol.Comma ∷ []) ∙ ap (λ (x : List Terminal). b.0 ++ x) (append_assoc b.1 h.here (Fixed symbol.Comma ∷ []) ∙ parts) in
    ((b.0, here, b.2, suc (u.1 + h.k), b.4, b.5, (u.0, h.here, u.1, h.k, u.2, begun, refl, refl), all, omega (arith, h.total, b.8, u.4), b.9, b.10), few, flat)
passed_kept (Opened (Dlvalue3 a c) ∷ s) t n p ws few flat h = tt
passed_kept (Negation ∷ s) t n p ws few flat h = tt
passed_kept (Sign ∷ s) t n p ws few flat h = tt
passed_kept (Infix o a ∷ s) t n p ws few flat h = tt

pass_kept : (s : List Frame) (t : Expr) (n p : ℕ) (ws : List Terminal) → n ≤ 255 → p ≤ 256 → Has s t 0 ws n p → Kept (pass (reduced 0 s t) n p) ws (Fixed symbol.Comma)
pass_kept s t n zero ws few flat h = stops s t n ws few h
pass_kept s t n (suc p) ws few flat h = passed_kept (reduced 0 s t).0 (reduced 0 s t).1 n (suc p) ws few flat (has_reduced ws n (suc p) s t 0 h)

operate_kept : (o : Op) (l : ℕ) (s : List Frame) (t : Expr) (n p : ℕ) (ws : List Terminal) → p ≤ 256 → (left_of o ≤ l → Has s t (left_of o) ws n p) → Kept (operate o l (s, t) n p) ws (Fixed (symbol_of o))
operate_kept o l s t n p ws flat has =
    kept_if (leb (left_of o) l && (leb (need s) (level_of o) && ltb n 255)) _ ws (Fixed (symbol_of o)) (λ q.
    let a = both_true (leb (left_of o) l) (leb (need s) (level_of o) && ltb n 255) q in
    let b = both_true (leb (need s) (level_of o)) (ltb n 255) a.1 in
    let h = has (leb-true (left_of o) l a.0) in
    ((h.pre, h.here, h.m, h.k, h.below, h.operand, ap (λ (x : List Terminal). x ++ Fixed (symbol_of o) ∷ []) h.all ∙ append_assoc h.pre h.here (Fixed (symbol_of o) ∷ []), ap suc h.total, leb-true (need s) (level_of o) b.0), leb-true (suc n) 255 b.1, flat))

ask_kept : (l : ℕ) (s : List Frame) (t : Expr) (n p : ℕ) (ws : List Terminal) → p ≤ 256 → (4 ≤ l → Has s t 4 ws n p) → Kept (ask l (s, t) n p) ws (Fixed symbol.Is)
ask_kept l s t n p ws flat has =
    kept_if (leb 4 l && (leb (need s) 3 && ltb n 255)) _ ws (Fixed symbol.Is) (λ q.
    let a = both_true (leb 4 l) (leb (need s) 3 && ltb n 255) q in
    let b = both_true (leb (need s) 3) (ltb n 255) a.1 in
    (ws, n, has (leb-true 4 l a.0), leb-true (need s) 3 b.0, refl, refl, leb-true (suc n) 255 b.1, flat))

after_kept : (s : List Frame) (t : Expr) (l n p : ℕ) (c : Cue) (ws : List Terminal) → Holds (after s t l n p) ws → Kept (move_after s t l n p c) ws (uncue c)
unfolding uncue
after_kept s t l n p (an_operator o) ws h =
    let r = reduced (left_of o) s t in
    operate_kept o l r.0 r.1 n p ws h.2 (λ le. has_reduced ws n p s t (left_of o) (Has-down s t l (left_of o) ws n p le h.0))
after_kept s t l n p an_is ws h =
    let r = reduced 4 s t in
    ask_kept l r.0 r.1 n p ws h.2 (λ le. has_reduced ws n p s t 4 (Has-down s t l 4 ws n p le h.0))
after_kept s t l n p a_close ws h = close_kept s t n p ws h.1 h.2 (Has-down s t l 0 ws n p (omega arith) h.0)
after_kept s t l n p a_comma ws h = pass_kept s t n p ws h.1 h.2 (Has-down s t l 0 ws n p (omega arith) h.0)
after_kept s t l n p c ws h = leave_kept s t n p ws (uncue c) h.1 (Has-down s t l 0 ws n p (omega arith) h.0)

-- ---- the name of a function

same_bytes_is : (a b : List ℕ) → same_bytes a b ≡ true → a ≡ b
same_bytes_is [] [] q = refl
same_bytes_is [] (y ∷ b) q = absurd cc
same_bytes_is (x ∷ a) [] q = absurd cc
same_bytes_is (x ∷ a) (y ∷ b) q = let h = both_true (eqb x y) (same_bytes a b) q in (λ i. eqb-true x y h.0 i ∷ same_bytes_is a b h.1 i)

-- a pair of a name and what it calls
abbrev IsCallee : List ℕ → Callee → Type 0
IsCallee x Count = x ≡ words.count
IsCallee x (Opens (Aggregate g)) = x ≡ fold_name g
IsCallee x (Opens (Access g)) = x ≡ part_name g
IsCallee x (Opens Dlvalue1) = x ≡ words.dlvalue
IsCallee x (Opens _) = ⊥

abbrev AreCallees : List (List ℕ × Callee) → Type 0
AreCallees [] = Unit {0}
AreCallees (x ∷ xs) = IsCallee x.0 x.1 × AreCallees xs

are_callees : AreCallees callees
are_callees = (refl, (refl, (refl, (refl, (refl, (refl, (refl, (refl, (refl, (refl, (refl, (refl, tt))))))))))))

looked_up : (xs : List (List ℕ × Callee)) (x : List ℕ) (c : Callee) → AreCallees xs → look_up xs x ≡ Some c → IsCallee x c
looked_up [] x c are q = absurd cc
looked_up (y ∷ ys) x c are q = by_test (same_bytes x y.0) refl (λ r. looked_up ys x c are.1 r)
  where
    by_test : (b : Bool) → same_bytes x y.0 ≡ b → (look_up ys x ≡ Some c → IsCallee x c) → IsCallee x c
    by_test true same ih =
        let found : Some y.1 ≡ Some c = sym (ap (λ b. cond b (Some y.1) (look_up ys x)) same) ∙ q in
        let it : y.1 ≡ c = cc in
        subst (IsCallee x) it (subst (λ (z : List ℕ). IsCallee z y.1) (sym (same_bytes_is x y.0 same)) are.0)
    by_test false other ih = ih (sym (ap (λ b. cond b (Some y.1) (look_up ys x)) other) ∙ q)

begins_call : (g : Opening) (x : List ℕ) (p : ℕ) → IsCallee x (Opens g) → Begun g (Word x ∷ Fixed symbol.Open ∷ []) 1 p
begins_call Group x p is = absurd is
begins_call (Aggregate g) x p is = (ap (λ (y : List ℕ). Word y ∷ Fixed symbol.Open ∷ []) is, refl)
begins_call (Access g) x p is = (ap (λ (y : List ℕ). Word y ∷ Fixed symbol.Open ∷ []) is, refl)
begins_call Dlvalue1 x p is = (ap (λ (y : List ℕ). Word y ∷ Fixed symbol.Open ∷ []) is, refl)
begins_call (Dlvalue2 a) x p is = absurd is
begins_call (Dlvalue3 a b) x p is = absurd is

call_kept : (o : Option Callee) (s : List Frame) (x : List ℕ) (n p : ℕ) (ws : List Terminal) → callee_of x ≡ o → Holds (named s x n p) ws → Kept (call_open o s x n p) ws (Fixed symbol.Open)
call_kept None s x n p ws is h = let a = as_column s x n p ws h in leave_kept s (e.Column (reference None x)) n p ws (Fixed symbol.Open) a.1 (Has-down s (e.Column (reference None x)) 7 0 ws n p (omega arith) a.0)
call_kept (Some Count) s x n p ws is h = kept_if (ltb n 255 && ltb p 256) _ ws (Fixed symbol.Open) (λ q.
    let a = both_true (ltb n 255) (ltb p 256) q in
    let name : x ≡ words.count = looked_up callees x Count are_callees is in
    let all : ws ++ Fixed symbol.Open ∷ [] ≡ h.0 ++ Word words.count ∷ Fixed symbol.Open ∷ [] = ap (λ (y : List Terminal). y ++ Fixed symbol.Open ∷ []) (h.2 ∙ ap (λ (y : List ℕ). h.0 ++ Word y ∷ []) name) ∙ append_assoc h.0 (Word words.count ∷ []) (Fixed symbol.Open ∷ []) in
    (h.0, n, h.1, all, refl, leb-true (suc n) 255 a.0, leb-true (suc p) 256 a.1))
call_kept (Some (Opens g)) s x n p ws is h = kept_if (ltb n 255 && ltb p 256) _ ws (Fixed symbol.Open) (λ q.
    let a = both_true (ltb n 255) (ltb p 256) q in
    let lt = leb-true (suc p) 256 a.1 in
    let all : ws ++ Fixed symbol.Open ∷ [] ≡ h.0 ++ Word x ∷ Fixed symbol.Open ∷ [] = ap (λ (y : List Terminal). y ++ Fixed symbol.Open ∷ []) h.2 ∙ append_assoc h.0 (Word x ∷ []) (Fixed symbol.Open ∷ []) in
    ((h.0, Word x ∷ Fixed symbol.Open ∷ [], n, 1, p, h.1, begins_call g x (suc p) (looked_up callees x (Opens g) are_callees is), all, omega arith, refl, lt), leb-true (suc n) 255 a.0, lt))

cue_kept : (s : State) (c : Cue) (ws : List Terminal) → Holds s ws → Kept (move s c) ws (uncue c)
unfolding uncue
cue_kept (due s n p) (an_operator Sub) ws h =
    kept_if (ltb n 255) _ ws (Fixed symbol.Minus) (λ q. ((ws, n, h.0, refl, refl, needs s), leb-true (suc n) 255 q, h.2))
cue_kept (due s n p) a_not ws h =
    kept_if (leb (need s) 2 && ltb n 255) _ ws (Fixed symbol.Not) (λ q.
    let a = both_true (leb (need s) 2) (ltb n 255) q in
    ((ws, n, h.0, refl, refl, leb-true (need s) 2 a.0), leb-true (suc n) 255 a.1, h.2))
cue_kept (due s n p) an_open ws h = kept_if (ltb p 256) _ ws (Fixed symbol.Open) (λ q. let lt = leb-true (suc p) 256 q in ((ws, Fixed symbol.Open ∷ [], n, 0, p, h.0, (refl, refl), refl, omega arith, refl, lt), h.1, lt))
cue_kept (due s n p) a_null ws h = simple s null (Fixed symbol.Null ∷ []) ws n p tt refl (omega arith) refl refl h
cue_kept (due s n p) (a_number x) ws h = simple s (number x) (Number x ∷ []) ws n p tt refl (omega arith) refl refl h
cue_kept (due s n p) (a_literal x) ws h = simple s (literal x) (Literal x ∷ []) ws n p tt refl (omega arith) refl refl h
cue_kept (due s n p) (a_word x) ws h = (ws, h.0, refl, h.1, h.2)
cue_kept (due s n p) _ ws h = tt
cue_kept (after s t l n p) c ws h = after_kept s t l n p c ws h
cue_kept (named s x n p) an_open ws h = call_kept (callee_of x) s x n p ws refl h
cue_kept (named s x n p) a_dot ws h = (h.0, h.1, ap (λ (y : List Terminal). y ++ Fixed symbol.Dot ∷ []) h.2 ∙ append_assoc h.0 (Word x ∷ []) (Fixed symbol.Dot ∷ []), h.3, h.4)
cue_kept (named s x n p) c ws h = after_kept s (e.Column (reference None x)) 7 n p c ws (as_column s x n p ws h)
cue_kept (dotted s x n p) (a_word y) ws h = as_reference s x y n p ws h
cue_kept (dotted s x n p) _ ws h = tt
cue_kept (is_due s t n p) a_null ws h = answered s t n p ws h
cue_kept (is_due s t n p) a_not ws h = (h.0, h.1, h.2, h.3, ap (λ (x : List Terminal). x ++ Fixed symbol.Not ∷ []) h.4 ∙ append_assoc h.0 (Fixed symbol.Is ∷ []) (Fixed symbol.Not ∷ []), h.5, h.6, h.7)
cue_kept (is_due s t n p) _ ws h = tt
cue_kept (not_due s t n p) a_null ws h = answered_not s t n p ws h
cue_kept (not_due s t n p) _ ws h = tt
cue_kept (star_due s n p) (an_operator Mul) ws h = (h.0, h.1, h.2, ap (λ (z : List Terminal). z ++ Fixed symbol.Star ∷ []) h.3 ∙ append_assoc h.0 (Word words.count ∷ Fixed symbol.Open ∷ []) (Fixed symbol.Star ∷ []), h.4, h.5, h.6)
cue_kept (star_due s n p) _ ws h = tt
cue_kept (star_read s n p) a_close ws h = counted s n p ws h
cue_kept (star_read s n p) _ ws h = tt

move_kept : (s : State) (v : Terminal) (ws : List Terminal) → Holds s ws → Kept (move s (cue v)) ws v
move_kept s v ws h = subst (λ (x : Terminal). Kept (move s (cue v)) ws x) (uncue_cue v) (cue_kept s (cue v) ws h)

-- ---- all of them

-- the terminals up to a place begin an expression
abbrev pub Begins : List Terminal → List Terminal → ℕ → ℕ → Type 0
Begins pre ws i k = (read rest more : List Terminal) × (t : Expr) × (ws ≡ read ++ rest) × (k ≡ i + length read) × Derives (pre ++ (read ++ more)) t × AreProper more

-- the terminals up to a place are an expression
abbrev pub Reaches : List Terminal → List Terminal → ℕ → Expr → ℕ → Type 0
Reaches pre ws i t k = (read rest : List Terminal) × (ws ≡ read ++ rest) × (k ≡ i + length read) × Derives (pre ++ read) t

abbrev pub Outcome : List Terminal → List Terminal → ℕ → Place → Type 0
Outcome pre ws i (Ok r) = Reaches pre ws i r.0 r.1
Outcome pre ws i (Err k) = Begins pre ws i k

here_begins : (s : State) (pre ws : List Terminal) (i : ℕ) → Holds s pre → Begins pre ws i i
here_begins s pre ws i h = let c = completes s pre h in ([], ws, c.0, c.1, refl, omega arith, c.2, c.3)

here_reaches : (t : Expr) (pre ws : List Terminal) (i : ℕ) → Derives pre t → Reaches pre ws i t i
here_reaches t pre ws i d = ([], ws, refl, omega arith, subst (λ (x : List Terminal). Derives x t) (sym (append-nil pre)) d)

later : (pre ws : List Terminal) (v : Terminal) (i : ℕ) (r : Place) → Outcome (pre ++ v ∷ []) ws (suc i) r → Outcome pre (v ∷ ws) i r
later pre ws v i (Ok r) (read, rest, parts, k, d) = (v ∷ read, rest, ap (λ (x : List Terminal). v ∷ x) parts, omega (arith, k), subst (λ (x : List Terminal). Derives x r.0) (append_assoc pre (v ∷ []) read) d)
later pre ws v i (Err k) (read, rest, more, t, parts, k-is, d, proper) = (v ∷ read, rest, more, t, ap (λ (x : List Terminal). v ∷ x) parts, omega (arith, k-is), subst (λ (x : List Terminal). Derives x t) (append_assoc pre (v ∷ []) (read ++ more)) d, proper)

told_outcome : (m : Move) (s : State) (pre ws : List Terminal) (v : Terminal) (i : ℕ) (next : State → Place) → Holds s pre → Kept m pre v → ((q : State) → Holds q (pre ++ v ∷ []) → Outcome (pre ++ v ∷ []) ws (suc i) (next q)) → Outcome pre (v ∷ ws) i (told m i next)
told_outcome (Go q) s pre ws v i next h kept go = later pre ws v i (next q) (go q kept)
told_outcome (Stop t) s pre ws v i next h kept go = here_reaches t pre (v ∷ ws) i kept
told_outcome Refuse s pre ws v i next h kept go = here_begins s pre (v ∷ ws) i h

ended_outcome : (m : Move) (s : State) (pre : List Terminal) (i : ℕ) (next : State → Place) → Holds s pre → Kept m pre (Fixed symbol.Close) → ((q : State) → m ≡ Go q → ⊥) → Outcome pre [] i (told m i next)
ended_outcome (Go q) s pre i next h kept halts = absurd (halts q refl)
ended_outcome (Stop t) s pre i next h kept halts = here_reaches t pre [] i kept
ended_outcome Refuse s pre i next h kept halts = here_begins s pre [] i h

leave_goes_not : (r : List Frame × Expr) (p : ℕ) (q : State) → leave r p ≡ Go q → ⊥
leave_goes_not r zero q h = cc
leave_goes_not r (suc p) q h = cc

pub outcome : (ws : List Terminal) (s : State) (pre : List Terminal) (i : ℕ) → Holds s pre → Outcome pre ws i (run s i ws)
outcome [] (after s t l n p) pre i h = ended_outcome (leave (reduced 0 s t) p) (after s t l n p) pre i (λ _. Err i) h (leave_kept s t n p pre (Fixed symbol.Close) h.1 (Has-down s t l 0 pre n p (omega arith) h.0)) (leave_goes_not (reduced 0 s t) p)
outcome [] (named s x n p) pre i h =
    let a = as_column s x n p pre h in
    let c = e.Column (reference None x) in
    ended_outcome (leave (reduced 0 s c) p) (named s x n p) pre i (λ _. Err i) h (leave_kept s c n p pre (Fixed symbol.Close) a.1 (Has-down s c 7 0 pre n p (omega arith) a.0)) (leave_goes_not (reduced 0 s c) p)
outcome [] s pre i h = here_begins s pre [] i h
outcome (v ∷ ws) s pre i h = told_outcome (move s (cue v)) s pre ws v i (λ q. run q (suc i) ws) h (move_kept s v pre h) (λ q hq. outcome ws q (pre ++ v ∷ []) (suc i) hq)
