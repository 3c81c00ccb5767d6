-- What a terminal does depends on the terminals up to it.
use Rattle.std.proofs.Common.{◌≡◌, ℕ, suc, ◌+◌, ◌≤◌, List, [], ◌∷◌, ◌++◌, length, Result, Ok, Err, refl, ap, ◌∙◌, arith}
use Rattle.std.specs.Prelude.{slice_get}
use Rattle.sql_grammar.specs.declared.terminal.Terminal.{Terminal}
use Rattle.dl_base.specs.declared.statement.Expr.{Expr}
use Rattle.sql_grammar.specs.Cues.{cue}
use Rattle.sql_grammar.specs.Machine.{State, Move, Go, Stop, Refuse, move, ended, told, run}

abbrev pub Place : Type 0
Place = Result (Expr × ℕ) ℕ

-- where reading stopped
abbrev pub place : Place → ℕ
place (Ok r) = r.1
place (Err k) = k

told_rises : (m : Move) (i : ℕ) (next : State → Place) → ((s : State) → i ≤ place (next s)) → i ≤ place (told m i next)
told_rises (Go s) i next h = h s
told_rises (Stop t) i next h = omega arith
told_rises Refuse i next h = omega arith

-- reading stops at no place before the first terminal
pub places_rise : (ws : List Terminal) (s : State) (i : ℕ) → i ≤ place (run s i ws)
places_rise [] s i = told_rises (ended s) i (λ _. Err i) (λ _. omega arith)
places_rise (w ∷ ws) s i = told_rises (move s (cue w)) i (λ s. run s (suc i) ws) (λ s. let h = places_rise ws s (suc i) in omega arith)

told_alike : (m : Move) (i k : ℕ) (next other : State → Place) → ((s : State) → place (next s) ≡ k → next s ≡ other s) → place (told m i next) ≡ k → told m i next ≡ told m i other
told_alike (Go s) i k next other h e = h s e
told_alike (Stop t) i k next other h e = refl
told_alike Refuse i k next other h e = refl

-- what follows the terminal where reading stopped makes no difference
pub whatever_follows : (pre : List Terminal) (s : State) (i k : ℕ) (w : Terminal) (rest other : List Terminal) → k ≡ i + length pre → place (run s i (pre ++ w ∷ rest)) ≡ k → run s i (pre ++ w ∷ rest) ≡ run s i (pre ++ w ∷ other)
whatever_follows [] s i k w rest other n e =
    told_alike (move s (cue w)) i k (λ s. run s (suc i) rest) (λ s. run s (suc i) other) (λ s e. let h = places_rise rest s (suc i) in absurd (omega arith)) e
whatever_follows (x ∷ pre) s i k w rest other n e =
    told_alike (move s (cue x)) i k (λ s. run s (suc i) (pre ++ w ∷ rest)) (λ s. run s (suc i) (pre ++ w ∷ other)) (λ s e. whatever_follows pre s (suc i) k w rest other (omega arith) e) e

-- the same, for terminals that are the same up to the place where reading stopped
pub alike : (ws vs : List Terminal) (s : State) (i k : ℕ) → place (run s i ws) ≡ k → ((j : ℕ) → i + j ≤ k → slice_get ws j ≡ slice_get vs j) → run s i ws ≡ run s i vs
alike [] [] s i k e same = refl
alike [] (v ∷ vs) s i k e same = absurd (let h = places_rise [] s i in let q = same 0 (omega arith) in cc)
alike (w ∷ ws) [] s i k e same = absurd (let h = places_rise (w ∷ ws) s i in let q = same 0 (omega arith) in cc)
alike (w ∷ ws) (v ∷ vs) s i k e same =
    let h = places_rise (w ∷ ws) s i in
    let q = same 0 (omega arith) in
    let first : w ≡ v = cc in
    told_alike (move s (cue w)) i k (λ s. run s (suc i) ws) (λ s. run s (suc i) vs) (λ s e. alike ws vs s (suc i) k e (λ j le. same (suc j) (omega arith))) e ∙ ap (λ x. told (move s (cue x)) i (λ s. run s (suc i) vs)) first
