-- Turns follow one another.
use Rattle.std.proofs.Common.{◌≡◌, ℕ, zero, suc, ◌+◌, List, ◌++◌, sym, ap, ◌∙◌, arith}
use Rattle.std.proofs.lemmas.List.{append_assoc}
use Rattle.meaning_areas.specs.Lists.{Written}
use Rattle.meaning_run.specs.Running.{Run, after, next_step, step_writes, turn, written}

none : (n : ℕ) → n ≡ 0 + n
none n = omega arith

up : (m n : ℕ) → suc (m + n) ≡ suc m + n
up m n = omega arith

pub after-after : (m n : ℕ) (r : Run) → after n (after m r) ≡ after (m + n) r
after-after zero n r = ap (λ (k : ℕ). after k r) (none n)
after-after (suc m) n r = after-after m n (turn r) ∙ ap (λ (k : ℕ). after k r) (up m n)

pub written-after : (m n : ℕ) (r : Run) → written m r ++ written n (after m r) ≡ written (m + n) r
written-after zero n r = ap (λ (k : ℕ). written k r) (none n)
written-after (suc m) n r =
    append_assoc (step_writes r.state (next_step r)) (written m (turn r)) (written n (after m (turn r)))
    ∙ ap (λ (ws : List Written). step_writes r.state (next_step r) ++ ws) (written-after m n (turn r))
    ∙ ap (λ (k : ℕ). written k r) (up m n)

pub after-next : (n : ℕ) (r : Run) → after (n + 1) r ≡ turn (after n r)
after-next n r = sym (after-after n 1 r)
