-- A list as a stack.
use Rattle.std.proofs.Common.{◌≡◌, ℕ, ◌-◌, List, [], ◌∷◌, ◌++◌, length, Bool, true, false, if◌then◌else◌, Option, Some, None, refl, sym, ap, ◌∙◌, arith}
use Rattle.std.specs.Prelude.{slice_get}
use Rattle.sql_grammar.specs.declared.frame.Frame.{Frame}
use Rattle.dl_base.specs.declared.statement.Expr.{Expr}
use Rattle.sql_grammar.specs.Machine.{applied, binds_at, frame_need, need, reduced}
use Rattle.sql_precedence.specs.Views.{stack_onto, stack_of}

stack_onto-push : (below : List Frame) (xs : List Frame) (x : Frame) → stack_onto below (xs ++ x ∷ []) ≡ x ∷ stack_onto below xs
stack_onto-push below [] x = refl
stack_onto-push below (y ∷ ys) x = stack_onto-push (y ∷ below) ys x

-- the last item is on top
pub stack_push : (xs : List Frame) (x : Frame) → stack_of (xs ++ x ∷ []) ≡ x ∷ stack_of xs
stack_push xs x = stack_onto-push [] xs x

-- what an operand after the last item needs
abbrev pub need_after : Option Frame → ℕ
need_after None = 0
need_after (Some x) = frame_need x

abbrev pub top : List Frame → Option Frame
top [] = None
top (x ∷ xs) = Some x

top_onto : (below : List Frame) (x : Frame) (xs : List Frame) → top (stack_onto below (x ∷ xs)) ≡ slice_get (x ∷ xs) (length xs)
top_onto below x [] = refl
top_onto below x (y ∷ ys) = top_onto (x ∷ below) y ys

top_last : (xs : List Frame) → top (stack_of xs) ≡ slice_get xs (length xs - 1)
top_last [] = refl
top_last (x ∷ xs) = top_onto [] x xs ∙ ap (λ k. slice_get (x ∷ xs) k) (omega arith)

need_top : (s : List Frame) → need s ≡ need_after (top s)
need_top [] = refl
need_top (x ∷ s) = refl

pub need_last : (xs : List Frame) → need (stack_of xs) ≡ need_after (slice_get xs (length xs - 1))
need_last xs = need_top (stack_of xs) ∙ ap need_after (top_last xs)

-- whether the last item binds the operand after it
abbrev pub bound_after : ℕ → Option Frame → Bool
bound_after low None = false
bound_after low (Some x) = binds_at low x

unbound_top : (low : ℕ) (s : List Frame) (last : Expr) → bound_after low (top s) ≡ false → reduced low s last ≡ (s, last)
unbound_top low [] last free = refl
unbound_top low (x ∷ s) last free = cc

-- where it does not, nothing is applied
pub unbound_last : (low : ℕ) (xs : List Frame) (last : Expr) → bound_after low (slice_get xs (length xs - 1)) ≡ false → reduced low (stack_of xs) last ≡ (stack_of xs, last)
unbound_last low xs last free = unbound_top low (stack_of xs) last (ap (bound_after low) (top_last xs) ∙ free)

bound_top : (low : ℕ) (s : List Frame) (x : Frame) (rest : List Frame) (last : Expr) → s ≡ x ∷ rest → bound_after low (top s) ≡ true → reduced low s last ≡ reduced low rest (applied x last)
bound_top low s x rest last is bound =
    let binds : binds_at low x ≡ true = ap (λ t. bound_after low (top t)) (sym is) ∙ bound in
    ap (λ t. reduced low t last) is ∙ ap (λ (b : Bool). if b then reduced low rest (applied x last) else (x ∷ rest, last)) binds

-- where it does, it is applied, and what is below it is left
pub bound_last : (low : ℕ) (xs below : List Frame) (x : Frame) (last : Expr) → xs ≡ below ++ x ∷ [] → bound_after low (slice_get xs (length xs - 1)) ≡ true → reduced low (stack_of xs) last ≡ reduced low (stack_of below) (applied x last)
bound_last low xs below x last is bound =
    bound_top low (stack_of xs) x (stack_of below) last (ap stack_of is ∙ stack_push below x) (ap (bound_after low) (top_last xs) ∙ bound)
