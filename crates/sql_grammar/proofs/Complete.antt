-- What is an expression is read.
use Rattle.std.proofs.Common.{◌≡◌, ℕ, suc, ◌+◌, ◌≤◌, ◌<◌, Bool, true, false, ◌&&◌, cond, leb, ltb, List, [], ◌∷◌, ◌++◌, length, Some, None, Err, refl, sym, ap, ◌∙◌, subst, arith, append_assoc, length-append}
use Rattle.std.proofs.lemmas.Bool.{le-leb, lt-leb}
use Rattle.dl_base.specs.declared.statement.Op.{Op}
use Rattle.dl_base.specs.declared.statement.Op.TheVariants.{Or, And, Eq, Ne, Lt, Le, Gt, Ge, Add, Sub, Mul, Div}
use Rattle.dl_base.specs.declared.statement.Fold.{Fold}
use Rattle.dl_base.specs.declared.statement.Fold.TheVariants.{Sum, Min, Max}
use Rattle.dl_base.specs.declared.statement.Part.{Part}
use Rattle.dl_base.specs.declared.statement.Part.TheVariants.{Comment, LinkType, Scheme, Server, PathOnly, Path, Complete}
use Rattle.dl_base.specs.declared.statement.Expr.{Expr}
use Rattle.dl_base.specs.declared.statement.Expr as e
use Rattle.sql_grammar.specs.declared.symbol.Symbol.TheVariants as symbol
use Rattle.sql_grammar.specs.declared.terminal.Terminal.{Terminal}
use Rattle.sql_grammar.specs.declared.terminal.Terminal.TheVariants.{Fixed, Word}
use Rattle.sql_grammar.specs.declared.frame.Opening.{Opening}
use Rattle.sql_grammar.specs.declared.frame.Opening.TheVariants.{Group, Aggregate, Access, Dlvalue1, Dlvalue2, Dlvalue3}
use Rattle.sql_grammar.specs.declared.frame.Callee.TheVariants.{Opens}
use Rattle.sql_grammar.specs.declared.frame.Frame.{Frame}
use Rattle.sql_grammar.specs.declared.frame.Frame.TheVariants.{Opened, Negation, Sign, Infix}
use Rattle.sql_grammar.specs.Levels.{level_of, left_of}
use Rattle.sql_grammar.specs.Cues.{Cue, an_operator, an_is, an_open, a_close, a_comma, a_dot, cue}
use Rattle.sql_grammar.specs.Levels.{symbol_of}
use Rattle.sql_grammar.specs.Words as words
use Rattle.sql_grammar.specs.Forms.{Form, number, literal, column, null, parens, not, minus, binary, is_null, count_all, aggregate, access, dlvalue1, dlvalue2, dlvalue3, fold_name, part_name, reference, null_text, level, IsForm, text, tree, operators, depth}
use Rattle.sql_grammar.specs.Machine.{need, reduced, enclosed, callee_of, State, due, after, named, is_due, Go, Refuse, operate, ask, close, pass, leave, call_open, move_after, move, told, run}
use Rattle.sql_grammar.proofs.Place.{Place}

-- the terminal does not go on inside an expression of this level
abbrev pub EndsAt : ℕ → Cue → Type 0
EndsAt l (an_operator o) = left_of o ≤ l
EndsAt l an_is = 4 ≤ l
EndsAt l an_open = ⊥
EndsAt l a_dot = ⊥
EndsAt l _ = Unit {0}

abbrev pub Ends : ℕ → List Terminal → Type 0
Ends l [] = Unit {0}
Ends l (w ∷ ws) = EndsAt l (cue w)

ends_at_up : (l m : ℕ) (c : Cue) → l ≤ m → EndsAt l c → EndsAt m c
ends_at_up l m (an_operator o) h e = omega arith
ends_at_up l m an_is h e = omega arith
ends_at_up l m an_open h e = e
ends_at_up l m a_dot h e = e
ends_at_up l m _ h e = tt

ends_up : (l m : ℕ) (ws : List Terminal) → l ≤ m → Ends l ws → Ends m ws
ends_up l m [] h e = tt
ends_up l m (w ∷ ws) h e = ends_at_up l m (cue w) h e

pub cue_symbol : (o : Op) → cue (Fixed (symbol_of o)) ≡ an_operator o
cue_symbol Or = refl
cue_symbol And = refl
cue_symbol Eq = refl
cue_symbol Ne = refl
cue_symbol Lt = refl
cue_symbol Le = refl
cue_symbol Gt = refl
cue_symbol Ge = refl
cue_symbol Add = refl
cue_symbol Sub = refl
cue_symbol Mul = refl
cue_symbol Div = refl

-- an operator after an operand that binds tightly enough
operate_by : (o : Op) (l : ℕ) (r : List Frame × Expr) (n p : ℕ) → left_of o ≤ l → operate o l r n p ≡ cond (leb (need r.0) (level_of o) && ltb n 255) (Go (due (Infix o r.1 ∷ r.0) (suc n) p)) Refuse
operate_by o l r n p h = rw (le-leb (left_of o) l h) refl

ask_by : (l : ℕ) (r : List Frame × Expr) (n p : ℕ) → 4 ≤ l → ask l r n p ≡ cond (leb (need r.0) 3 && ltb n 255) (Go (is_due r.0 r.1 (suc n) p)) Refuse
ask_by l r n p h = rw (le-leb 4 l h) refl

-- two stacks with a last operand that reduce alike go on alike
same_move : (lf l m : ℕ) (s s' : List Frame) (t t' : Expr) (n p : ℕ) (c : Cue) → lf ≤ l → lf ≤ m → ((l : ℕ) → l ≤ lf → reduced l s t ≡ reduced l s' t') → EndsAt lf c → move_after s t l n p c ≡ move_after s' t' m n p c
same_move lf l m s s' t t' n p (an_operator o) hl hm h e =
    operate_by o l (reduced (left_of o) s t) n p (omega arith) ∙ ap (λ r. cond (leb (need r.0) (level_of o) && ltb n 255) (Go (due (Infix o r.1 ∷ r.0) (suc n) p)) Refuse) (h (left_of o) e) ∙ sym (operate_by o m (reduced (left_of o) s' t') n p (omega arith))
same_move lf l m s s' t t' n p an_is hl hm h e =
    ask_by l (reduced 4 s t) n p (omega arith) ∙ ap (λ r. cond (leb (need r.0) 3 && ltb n 255) (Go (is_due r.0 r.1 (suc n) p)) Refuse) (h 4 e) ∙ sym (ask_by m (reduced 4 s' t') n p (omega arith))
same_move lf l m s s' t t' n p a_close hl hm h e = ap (λ r. close r n p) (h 0 (omega arith))
same_move lf l m s s' t t' n p a_comma hl hm h e = ap (λ r. pass r n p) (h 0 (omega arith))
same_move lf l m s s' t t' n p an_open hl hm h e = absurd e
same_move lf l m s s' t t' n p a_dot hl hm h e = absurd e
same_move lf l m s s' t t' n p _ hl hm h e = ap (λ r. leave r p) (h 0 (omega arith))

same_after : (lf l m : ℕ) (s s' : List Frame) (t t' : Expr) (n p i : ℕ) (rest : List Terminal) → lf ≤ l → lf ≤ m → ((l : ℕ) → l ≤ lf → reduced l s t ≡ reduced l s' t') → Ends lf rest → run (after s t l n p) i rest ≡ run (after s' t' m n p) i rest
same_after lf l m s s' t t' n p i [] hl hm h e = ap (λ r. told (leave r p) i (λ _. Err i)) (h 0 (omega arith))
same_after lf l m s s' t t' n p i (w ∷ ws) hl hm h e = ap (λ x. told x i (λ s. run s (suc i) ws)) (same_move lf l m s s' t t' n p (cue w) hl hm h e)

cond_true : {A : Type 0} (b : Bool) (x y : A) → b ≡ true → cond b x y ≡ x
cond_true b x y e = rw e refl

cond_false : {A : Type 0} (b : Bool) (x y : A) → b ≡ false → cond b x y ≡ y
cond_false b x y e = rw e refl

both : (a b : Bool) → a ≡ true → b ≡ true → (a && b) ≡ true
both a b p q = rw (p, q) refl

goes : (b : Bool) (s : State) (i : ℕ) (next : State → Place) → b ≡ true → told (cond b (Go s) Refuse) i next ≡ next s
goes b s i next e = rw e refl

pop_not : (s : List Frame) (t : Expr) (l n p i : ℕ) (rest : List Terminal) → 2 ≤ l → Ends 2 rest → run (after (Negation ∷ s) t l n p) i rest ≡ run (after s (e.Not t) 2 n p) i rest
pop_not s t l n p i rest hl ends = same_after 2 l 2 (Negation ∷ s) s t (e.Not t) n p i rest hl (omega arith) (λ l h. cond_true (leb l 2) _ _ (le-leb l 2 h)) ends

pop_minus : (s : List Frame) (t : Expr) (l n p i : ℕ) (rest : List Terminal) → 6 ≤ l → Ends 6 rest → run (after (Sign ∷ s) t l n p) i rest ≡ run (after s (e.Minus t) 6 n p) i rest
pop_minus s t l n p i rest hl ends = same_after 6 l 6 (Sign ∷ s) s t (e.Minus t) n p i rest hl (omega arith) (λ l h. cond_true (leb l 6) _ _ (le-leb l 6 h)) ends

pop_infix : (o : Op) (a : Expr) (s : List Frame) (t : Expr) (l n p i : ℕ) (rest : List Terminal) → level_of o ≤ l → Ends (level_of o) rest → run (after (Infix o a ∷ s) t l n p) i rest ≡ run (after s (e.Binary o a t) (level_of o) n p) i rest
pop_infix o a s t l n p i rest hl ends = same_after (level_of o) l (level_of o) (Infix o a ∷ s) s t (e.Binary o a t) n p i rest hl (omega arith) (λ l h. cond_true (leb l (level_of o)) _ _ (le-leb l (level_of o) h)) ends

level_le_left : (o : Op) → level_of o ≤ left_of o
level_le_left Or = omega arith
level_le_left And = omega arith
level_le_left Add = omega arith
level_le_left Sub = omega arith
level_le_left Mul = omega arith
level_le_left Div = omega arith
level_le_left _ = omega arith

-- no operator stands at the level of NOT or above that of products
gap : (o : Op) → 2 ≤ level_of o → 3 ≤ level_of o
gap Or h = absurd (omega arith)
gap And h = absurd (omega arith)
gap Add h = omega arith
gap Sub h = omega arith
gap Mul h = omega arith
gap Div h = omega arith
gap _ h = omega arith

top : (o : Op) → level_of o ≤ 5
top Or = omega arith
top And = omega arith
top Add = omega arith
top Sub = omega arith
top Mul = omega arith
top Div = omega arith
top _ = omega arith

-- an operand that an operator's left takes is applied to nothing on the stack
stays : (s : List Frame) (t : Expr) (o : Op) → need s ≤ level_of o → reduced (left_of o) s t ≡ (s, t)
stays [] t o h = refl
stays (Opened g ∷ s) t o h = refl
stays (Negation ∷ s) t o h = cond_false (leb (left_of o) 2) _ _ (lt-leb (left_of o) 2 (omega (arith, gap o h, level_le_left o)))
stays (Sign ∷ s) t o h = absurd (omega (arith, top o))
stays (Infix q a ∷ s) t o h = cond_false (leb (left_of o) (level_of q)) _ _ (lt-leb (left_of o) (level_of q) (omega (arith, level_le_left o)))

-- and IS likewise
stays_is : (s : List Frame) (t : Expr) → need s ≤ 3 → reduced 4 s t ≡ (s, t)
stays_is [] t h = refl
stays_is (Opened g ∷ s) t h = refl
stays_is (Negation ∷ s) t h = refl
stays_is (Sign ∷ s) t h = absurd (omega arith)
stays_is (Infix q a ∷ s) t h = cond_false (leb 4 (level_of q)) _ _ (lt-leb 4 (level_of q) (omega arith))

-- an operator after an operand that it takes
operates : (o : Op) (s : List Frame) (t : Expr) (l n p i : ℕ) (ws : List Terminal) → left_of o ≤ l → need s ≤ level_of o → n < 255 → run (after s t l n p) i (Fixed (symbol_of o) ∷ ws) ≡ run (due (Infix o t ∷ s) (suc n) p) (suc i) ws
operates o s t l n p i ws hl h lt =
    let next : State → Place = λ s. run s (suc i) ws in
    ap (λ c. told (move_after s t l n p c) i next) (cue_symbol o)
    ∙ ap (λ x. told x i next) (operate_by o l (reduced (left_of o) s t) n p hl ∙ ap (λ r. cond (leb (need r.0) (level_of o) && ltb n 255) (Go (due (Infix o r.1 ∷ r.0) (suc n) p)) Refuse) (stays s t o h))
    ∙ goes (leb (need s) (level_of o) && ltb n 255) _ i next (both _ _ (le-leb (need s) (level_of o) h) (le-leb (suc n) 255 (omega arith)))

asks : (s : List Frame) (t : Expr) (l n p i : ℕ) (next : State → Place) → 4 ≤ l → need s ≤ 3 → n < 255 → told (ask l (reduced 4 s t) n p) i next ≡ next (is_due s t (suc n) p)
asks s t l n p i next hl h lt =
    ap (λ x. told x i next) (ask_by l (reduced 4 s t) n p hl ∙ ap (λ r. cond (leb (need r.0) 3 && ltb n 255) (Go (is_due r.0 r.1 (suc n) p)) Refuse) (stays_is s t h))
    ∙ goes (leb (need s) 3 && ltb n 255) _ i next (both _ _ (le-leb (need s) 3 h) (le-leb (suc n) 255 (omega arith)))

-- a word that no parenthesis and no dot follows is a column
column_cue : (s : List Frame) (x : List ℕ) (n p l : ℕ) (c : Cue) → EndsAt l c → move (named s x n p) c ≡ move_after s (e.Column (reference None x)) 7 n p c
column_cue s x n p l an_open h = absurd h
column_cue s x n p l a_dot h = absurd h
column_cue s x n p l _ h = refl

column_named : (s : List Frame) (x : List ℕ) (n p i : ℕ) (rest : List Terminal) (l : ℕ) → Ends l rest → run (named s x n p) i rest ≡ run (after s (e.Column (reference None x)) 7 n p) i rest
column_named s x n p i [] l h = refl
column_named s x n p i (v ∷ rest) l h = ap (λ m. told m i (λ s. run s (suc i) rest)) (column_cue s x n p l (cue v) h)

-- a function's name before a parenthesis
calls : (x : List ℕ) (g : Opening) (s : List Frame) (n p i : ℕ) (ws : List Terminal) → callee_of x ≡ Some (Opens g) → n < 255 → p < 256 → run (due s n p) i (Word x ∷ Fixed symbol.Open ∷ ws) ≡ run (due (Opened g ∷ s) (suc n) (suc p)) (suc (suc i)) ws
calls x g s n p i ws is ln lp =
    let next : State → Place = λ s. run s (suc (suc i)) ws in
    ap (λ o. told (call_open o s x n p) (suc i) next) is ∙ goes (ltb n 255 && ltb p 256) _ (suc i) next (both _ _ (le-leb (suc n) 255 (omega arith)) (le-leb (suc p) 256 (omega arith)))

pub fold_called : (g : Fold) → callee_of (fold_name g) ≡ Some (Opens (Aggregate g))
fold_called Sum = refl
fold_called Min = refl
fold_called Max = refl

pub part_called : (g : Part) → callee_of (part_name g) ≡ Some (Opens (Access g))
part_called Comment = refl
part_called LinkType = refl
part_called Scheme = refl
part_called Server = refl
part_called PathOnly = refl
part_called Path = refl
part_called Complete = refl

-- an expression before the parenthesis that closes
encloses : (g : Opening) (s : List Frame) (t : Expr) (l n m p i k j : ℕ) (inner rest : List Terminal) → run (due (Opened g ∷ s) n (suc p)) i (inner ++ Fixed symbol.Close ∷ rest) ≡ run (after (Opened g ∷ s) t l m (suc p)) k (Fixed symbol.Close ∷ rest) → j ≡ suc k → run (due (Opened g ∷ s) n (suc p)) i ((inner ++ Fixed symbol.Close ∷ []) ++ rest) ≡ run (after s (enclosed g t) 7 m p) j rest
encloses g s t l n m p i k j inner rest h e = ap (run (due (Opened g ∷ s) n (suc p)) i) (append_assoc inner (Fixed symbol.Close ∷ []) rest) ∙ h ∙ ap (λ k. run (after s (enclosed g t) 7 m p) k rest) (sym e)

pub reads : (f : Form) (s : List Frame) (n p i m j : ℕ) (rest : List Terminal) → IsForm f → need s ≤ level f → Ends (level f) rest → m ≡ n + operators f → m ≤ 255 → p + depth f ≤ 256 → j ≡ i + length (text f)
    → run (due s n p) i (text f ++ rest) ≡ run (after s (tree f) (level f) m p) j rest
reads (number x) s n p i m j rest is ok ends m-is few flat j-is =
    let a : m ≡ n = omega arith in let b : j ≡ suc i = omega arith in rw (a, b) refl
reads (literal x) s n p i m j rest is ok ends m-is few flat j-is =
    let a : m ≡ n = omega arith in let b : j ≡ suc i = omega arith in rw (a, b) refl
reads null s n p i m j rest is ok ends m-is few flat j-is =
    let a : m ≡ n = omega arith in let b : j ≡ suc i = omega arith in rw (a, b) refl
reads (column None x) s n p i m j rest is ok ends m-is few flat j-is =
    let a : m ≡ n = omega arith in let b : j ≡ suc i = omega arith in rw (a, b) (column_named s x n p (suc i) rest 7 ends)
reads (column (Some y) x) s n p i m j rest is ok ends m-is few flat j-is =
    let a : m ≡ n = omega arith in let b : j ≡ suc (suc (suc i)) = omega arith in rw (a, b) refl
reads (parens f) s n p i m j rest is ok ends m-is few flat j-is =
    let opened = goes (ltb p 256) (due (Opened Group ∷ s) n (suc p)) i (λ s. run s (suc i) ((text f ++ Fixed symbol.Close ∷ []) ++ rest)) (le-leb (suc p) 256 (omega arith)) in
    let inner = reads f (Opened Group ∷ s) n (suc p) (suc i) m (suc i + length (text f)) (Fixed symbol.Close ∷ rest) is (omega arith) tt m-is few (omega arith) refl in
    opened ∙ encloses Group s (tree f) (level f) n m p (suc i) (suc i + length (text f)) j (text f) rest inner (omega (arith, length-append (text f) (Fixed symbol.Close ∷ [])))
reads (not f) s n p i m j rest is ok ends m-is few flat j-is =
    let taken = goes (leb (need s) 2 && ltb n 255) (due (Negation ∷ s) (suc n) p) i (λ s. run s (suc i) (text f ++ rest)) (both _ _ (le-leb (need s) 2 ok) (le-leb (suc n) 255 (omega arith))) in
    let inner = reads f (Negation ∷ s) (suc n) p (suc i) m j rest is.1 is.0 (ends_up 2 (level f) rest is.0 ends) (omega arith) few flat (omega arith) in
    taken ∙ inner ∙ pop_not s (tree f) (level f) m p j rest is.0 ends
reads (minus f) s n p i m j rest is ok ends m-is few flat j-is =
    let taken = goes (ltb n 255) (due (Sign ∷ s) (suc n) p) i (λ s. run s (suc i) (text f ++ rest)) (le-leb (suc n) 255 (omega arith)) in
    let inner = reads f (Sign ∷ s) (suc n) p (suc i) m j rest is.1 is.0 (ends_up 6 (level f) rest is.0 ends) (omega arith) few flat (omega arith) in
    taken ∙ inner ∙ pop_minus s (tree f) (level f) m p j rest is.0 ends
reads (binary o f g) s n p i m j rest is ok ends m-is few flat j-is =
    let ll = level_le_left o in
    let before : Ends (level f) (Fixed (symbol_of o) ∷ (text g ++ rest)) = subst (EndsAt (level f)) (sym (cue_symbol o)) is.0 in
    let first = reads f s n p i (n + operators f) (i + length (text f)) (Fixed (symbol_of o) ∷ (text g ++ rest)) is.2 (omega arith) before refl (omega arith) (omega arith) refl in
    let taken = operates o s (tree f) (level f) (n + operators f) p (i + length (text f)) (text g ++ rest) is.0 ok (omega arith) in
    let len : j ≡ suc (i + length (text f)) + length (text g) = omega (arith, length-append (text f) (Fixed (symbol_of o) ∷ text g)) in
    let second = reads g (Infix o (tree f) ∷ s) (suc (n + operators f)) p (suc (i + length (text f))) m j rest is.3 is.1 (ends_up (level_of o) (level g) rest (omega (arith, is.1)) ends) (omega arith) few (omega arith) len in
    ap (run (due s n p) i) (append_assoc (text f) (Fixed (symbol_of o) ∷ text g) rest) ∙ first ∙ taken ∙ second ∙ pop_infix o (tree f) s (tree g) (level g) m p j rest (omega (arith, is.1)) ends
reads (is_null f b) s n p i m j rest is ok ends m-is few flat j-is =
    let first = reads f s n p i (n + operators f) (i + length (text f)) (Fixed symbol.Is ∷ (null_text b ++ rest)) is.1 (omega (arith, is.0)) is.0 refl (omega arith) (omega arith) refl in
    let asked = asks s (tree f) (level f) (n + operators f) p (i + length (text f)) (λ s. run s (suc (i + length (text f))) (null_text b ++ rest)) is.0 ok (omega arith) in
    let m-ends : suc (n + operators f) ≡ m = omega arith in
    ap (run (due s n p) i) (append_assoc (text f) (Fixed symbol.Is ∷ null_text b) rest) ∙ first ∙ asked ∙ ap (λ n. run (is_due s (tree f) n p) (suc (i + length (text f))) (null_text b ++ rest)) m-ends
    ∙ answers b (omega (arith, length-append (text f) (Fixed symbol.Is ∷ null_text b)))
  where
    answers : (b : Bool) → j ≡ suc (i + length (text f)) + length (null_text b) → run (is_due s (tree f) m p) (suc (i + length (text f))) (null_text b ++ rest) ≡ run (after s (e.IsNull (tree f) b) 3 m p) j rest
    answers true h = ap (λ k. run (after s (e.IsNull (tree f) true) 3 m p) k rest) (let h : suc (suc (i + length (text f))) ≡ j = omega arith in h)
    answers false h = ap (λ k. run (after s (e.IsNull (tree f) false) 3 m p) k rest) (let h : suc (suc (suc (i + length (text f)))) ≡ j = omega arith in h)
reads count_all s n p i m j rest is ok ends m-is few flat j-is =
    let a : m ≡ suc n = omega arith in let b : j ≡ suc (suc (suc (suc i))) = omega arith in
    rw (a, b) (goes (ltb n 255 && ltb p 256) _ (suc i) (λ s. run s (suc (suc i)) (Fixed symbol.Star ∷ Fixed symbol.Close ∷ rest)) (both _ _ (le-leb (suc n) 255 (omega arith)) (le-leb (suc p) 256 (omega arith))))
reads (aggregate g f) s n p i m j rest is ok ends m-is few flat j-is =
    let called = calls (fold_name g) (Aggregate g) s n p i ((text f ++ Fixed symbol.Close ∷ []) ++ rest) (fold_called g) (omega arith) (omega arith) in
    let inner = reads f (Opened (Aggregate g) ∷ s) (suc n) (suc p) (suc (suc i)) m (suc (suc i) + length (text f)) (Fixed symbol.Close ∷ rest) is (omega arith) tt (omega arith) few (omega arith) refl in
    called ∙ encloses (Aggregate g) s (tree f) (level f) (suc n) m p (suc (suc i)) (suc (suc i) + length (text f)) j (text f) rest inner (omega (arith, length-append (text f) (Fixed symbol.Close ∷ [])))
reads (access g f) s n p i m j rest is ok ends m-is few flat j-is =
    let called = calls (part_name g) (Access g) s n p i ((text f ++ Fixed symbol.Close ∷ []) ++ rest) (part_called g) (omega arith) (omega arith) in
    let inner = reads f (Opened (Access g) ∷ s) (suc n) (suc p) (suc (suc i)) m (suc (suc i) + length (text f)) (Fixed symbol.Close ∷ rest) is (omega arith) tt (omega arith) few (omega arith) refl in
    called ∙ encloses (Access g) s (tree f) (level f) (suc n) m p (suc (suc i)) (suc (suc i) + length (text f)) j (text f) rest inner (omega (arith, length-append (text f) (Fixed symbol.Close ∷ [])))
reads (dlvalue1 f) s n p i m j rest is ok ends m-is few flat j-is =
    let called = calls words.dlvalue Dlvalue1 s n p i ((text f ++ Fixed symbol.Close ∷ []) ++ rest) refl (omega arith) (omega arith) in
    let inner = reads f (Opened Dlvalue1 ∷ s) (suc n) (suc p) (suc (suc i)) m (suc (suc i) + length (text f)) (Fixed symbol.Close ∷ rest) is (omega arith) tt (omega arith) few (omega arith) refl in
    called ∙ encloses Dlvalue1 s (tree f) (level f) (suc n) m p (suc (suc i)) (suc (suc i) + length (text f)) j (text f) rest inner (omega (arith, length-append (text f) (Fixed symbol.Close ∷ [])))
reads (dlvalue2 f g) s n p i m j rest is ok ends m-is few flat j-is =
    let tail = text g ++ Fixed symbol.Close ∷ [] in
    let len = length-append (text f) (Fixed symbol.Comma ∷ tail) in
    let len' = length-append (text g) (Fixed symbol.Close ∷ []) in
    let k = suc (suc i) + length (text f) in
    let called = calls words.dlvalue Dlvalue1 s n p i ((text f ++ Fixed symbol.Comma ∷ tail) ++ rest) refl (omega arith) (omega arith) in
    let first = reads f (Opened Dlvalue1 ∷ s) (suc n) (suc p) (suc (suc i)) (suc n + operators f) k (Fixed symbol.Comma ∷ (tail ++ rest)) is.0 (omega arith) tt refl (omega arith) (omega arith) refl in
    let second = reads g (Opened (Dlvalue2 (tree f)) ∷ s) (suc n + operators f) (suc p) (suc k) m (suc k + length (text g)) (Fixed symbol.Close ∷ rest) is.1 (omega arith) tt (omega arith) few (omega arith) refl in
    called ∙ ap (run (due (Opened Dlvalue1 ∷ s) (suc n) (suc p)) (suc (suc i))) (append_assoc (text f) (Fixed symbol.Comma ∷ tail) rest) ∙ first
    ∙ encloses (Dlvalue2 (tree f)) s (tree g) (level g) (suc n + operators f) m p (suc k) (suc k + length (text g)) j (text g) rest second (omega (arith, len, len'))
reads (dlvalue3 f g h) s n p i m j rest is ok ends m-is few flat j-is =
    let last = text h ++ Fixed symbol.Close ∷ [] in
    let tail = text g ++ Fixed symbol.Comma ∷ last in
    let len = length-append (text f) (Fixed symbol.Comma ∷ tail) in
    let len' = length-append (text g) (Fixed symbol.Comma ∷ last) in
    let len'' = length-append (text h) (Fixed symbol.Close ∷ []) in
    let k = suc (suc i) + length (text f) in
    let q = suc k + length (text g) in
    let called = calls words.dlvalue Dlvalue1 s n p i ((text f ++ Fixed symbol.Comma ∷ tail) ++ rest) refl (omega arith) (omega arith) in
    let first = reads f (Opened Dlvalue1 ∷ s) (suc n) (suc p) (suc (suc i)) (suc n + operators f) k (Fixed symbol.Comma ∷ (tail ++ rest)) is.0 (omega arith) tt refl (omega arith) (omega arith) refl in
    let second = reads g (Opened (Dlvalue2 (tree f)) ∷ s) (suc n + operators f) (suc p) (suc k) (suc n + operators f + operators g) q (Fixed symbol.Comma ∷ (last ++ rest)) is.1 (omega arith) tt refl (omega arith) (omega arith) refl in
    let third = reads h (Opened (Dlvalue3 (tree f) (tree g)) ∷ s) (suc n + operators f + operators g) (suc p) (suc q) m (suc q + length (text h)) (Fixed symbol.Close ∷ rest) is.2 (omega arith) tt (omega arith) few (omega arith) refl in
    called ∙ ap (run (due (Opened Dlvalue1 ∷ s) (suc n) (suc p)) (suc (suc i))) (append_assoc (text f) (Fixed symbol.Comma ∷ tail) rest) ∙ first
    ∙ ap (run (due (Opened (Dlvalue2 (tree f)) ∷ s) (suc n + operators f) (suc p)) (suc k)) (append_assoc (text g) (Fixed symbol.Comma ∷ last) rest) ∙ second
    ∙ encloses (Dlvalue3 (tree f) (tree g)) s (tree h) (level h) (suc n + operators f + operators g) m p (suc q) (suc q + length (text h)) j (text h) rest third (omega (arith, len, len', len''))
