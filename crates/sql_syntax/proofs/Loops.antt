-- Reading a list part by part, as a loop does.
use Rattle.std.proofs.Common.{◌≡◌, ℕ, zero, suc, ◌+◌, ◌<◌, Bool, true, false, cond, List, [], ◌∷◌, ◌++◌, length, Option, Some, None, Result, Ok, Err, refl, sym, ap, ◌∙◌, arith, append_assoc}
use Rattle.std.proofs.lemmas.List.{append-nil}
use Rattle.std.proofs.lemmas.Option.{slice_get_within}
use Rattle.std.specs.Prelude.{slice_get}
use Rattle.sql_grammar.specs.declared.symbol.Symbol.TheVariants as symbol
use Rattle.sql_grammar.specs.declared.token.Token.TheVariants as token
use Rattle.sql_grammar.specs.declared.terminal.Terminal.{Terminal}
use Rattle.sql_grammar.specs.Readers.{Reader, ◌read_then◌, good, beside, is_token, token_at, after_at, repeat_at, many_at, listed_at}
use Rattle.sql_precedence.specs.declared.refused.Refused.{Refused}
use Rattle.sql_precedence.specs.declared.refused.Refused.TheVariants as refused
use Rattle.sql_precedence.specs.Results.{FailsReading}

-- what was read before, and what is still read
abbrev pub with_front : {A : Type 0} → List A → Result (List A × ℕ) ℕ → Result (List A × ℕ) ℕ
with_front front read = read read_then λ x. good (front ++ x.0) x.1

-- so far the loop has read these parts, and the rest is still to be read
pub record ReadSoFar {A : Type 0} (b : Option Terminal → Bool) (R : Reader A) (front : List A) (ws : List Terminal) (at : ℕ) (all : Result (List A × ℕ) ℕ) : Type 0 where
  pub fuel : ℕ
  pub some : 0 < fuel
  pub enough : length ws < fuel + at
  pub same : with_front front (repeat_at b R fuel ws at) ≡ all

module _ {A : Type 0} (b : Option Terminal → Bool) (R : Reader A) where
  pub at_first : (ws : List Terminal) (from : ℕ) → ReadSoFar b R [] ws from (many_at b R ws from)
  unfolding many_at
  at_first ws from = record { fuel = suc (length ws); some = omega arith; enough = omega arith; same = nil (repeat_at b R (suc (length ws)) ws from) }
    where
      nil : (r : Result (List A × ℕ) ℕ) → with_front [] r ≡ r
      nil (Ok p) = refl
      nil (Err k) = refl

  regroup : (front : List A) (x : A) (r : Result (List A × ℕ) ℕ) → with_front front (r read_then λ q. good (x ∷ q.0) q.1) ≡ with_front (front ++ x ∷ []) r
  regroup front x (Ok q) = ap (λ (xs : List A). good xs q.1) (sym (append_assoc front (x ∷ []) q.0))
  regroup front x (Err k) = refl

  abbrev Rest : ℕ → List Terminal → A × ℕ → Result (List A × ℕ) ℕ
  Rest n ws p = repeat_at b R n ws p.1 read_then λ q. good (p.0 ∷ q.0) q.1

  module _ (front : List A) (ws : List Terminal) (at : ℕ) (all : Result (List A × ℕ) ℕ) where
    passed : (n : ℕ) → b (slice_get ws at) ≡ true → with_front front (repeat_at b R (suc n) ws at) ≡ all → with_front front (R ws at read_then Rest n ws) ≡ all
    passed n t h = ap (λ c. with_front front (cond c (R ws at read_then Rest n ws) (good [] at))) (sym t) ∙ h

    on : (n : ℕ) (x : A) (k : ℕ) → 0 < n → length ws < n + at → at < k → at < length ws → b (slice_get ws at) ≡ true → R ws at ≡ good x k → with_front front (repeat_at b R n ws at) ≡ all → ReadSoFar b R (front ++ x ∷ []) ws k all
    on zero x k some enough lt within t e h = absurd (omega arith)
    on (suc n) x k some enough lt within t e h =
        record { fuel = n; some = omega arith; enough = omega arith; same = sym (regroup front x (repeat_at b R n ws k)) ∙ ap (λ (r : Result (A × ℕ) ℕ). with_front front (r read_then Rest n ws)) (sym e) ∙ passed n t h }

    -- one more part
    pub goes_on : (x : A) (k : ℕ) → at < k → at < length ws → b (slice_get ws at) ≡ true → R ws at ≡ good x k → ReadSoFar b R front ws at all → ReadSoFar b R (front ++ x ∷ []) ws k all
    goes_on x k lt within t e h = on h.fuel x k h.some h.enough lt within t e h.same

    done : (n : ℕ) → 0 < n → b (slice_get ws at) ≡ false → with_front front (repeat_at b R n ws at) ≡ all → all ≡ good front at
    done zero some t h = absurd (omega arith)
    done (suc n) some t h = sym h ∙ ap (λ c. with_front front (cond c (R ws at read_then Rest n ws) (good [] at))) t ∙ ap (λ (xs : List A). good xs at) (append-nil front)

    -- no more of them
    pub ends : b (slice_get ws at) ≡ false → ReadSoFar b R front ws at all → all ≡ good front at
    ends t h = done h.fuel h.some t h.same

    failed : (n : ℕ) (e : Refused) → 0 < n → b (slice_get ws at) ≡ true → FailsReading e (R ws at) → with_front front (repeat_at b R n ws at) ≡ all → FailsReading e all
    failed n refused.Memory some t f h = tt
    failed zero (refused.Syntax k) some t f h = absurd (omega arith)
    failed (suc n) (refused.Syntax k) some t f h = sym (passed n t h) ∙ ap (λ (r : Result (A × ℕ) ℕ). with_front front (r read_then Rest n ws)) f

    pub fails : (e : Refused) → b (slice_get ws at) ≡ true → FailsReading e (R ws at) → ReadSoFar b R front ws at all → FailsReading e all
    fails e t f h = failed h.fuel e h.some t f h.same

-- a terminal stands where the test passes
pub within_by : (b : Option Terminal → Bool) (ws : List Terminal) (i : ℕ) → b None ≡ false → b (slice_get ws i) ≡ true → i < length ws
within_by b ws i none e = by_terminal (slice_get ws i) refl
  where
    by_terminal : (o : Option Terminal) → slice_get ws i ≡ o → i < length ws
    by_terminal (Some w) is = slice_get_within ws i w is
    by_terminal None is = absurd (let h : false ≡ true = sym none ∙ ap b (sym is) ∙ e in cc)

-- ---- lists with commas

abbrev pub comma : Option Terminal → Bool
comma = is_token (token.Symbol symbol.Comma)

abbrev pub led : {A : Type 0} → Reader A → Reader A
led R = after_at (token.Symbol symbol.Comma) R

abbrev cons : {A : Type 0} → Result ((A × List A) × ℕ) ℕ → Result (List A × ℕ) ℕ
cons r = r read_then λ p. good (p.0.0 ∷ p.0.1) p.1

module _ {A : Type 0} (R : Reader A) (ws : List Terminal) where
  -- behind a comma
  pub led_at : (at : ℕ) → comma (slice_get ws at) ≡ true → led R ws at ≡ R ws (suc at)
  unfolding token_at
  led_at at t = ap (λ c. cond c (Ok (suc at)) (Err at) read_then λ k. R ws k) t

  pub begins_list : (from : ℕ) (x : A) (k : ℕ) → R ws from ≡ good x k → ReadSoFar comma (led R) (x ∷ []) ws k (listed_at R ws from)
  unfolding listed_at
  begins_list from x k e =
      let h = at_first comma (led R) ws k in
      record { fuel = h.fuel; some = h.some; enough = h.enough; same = front (repeat_at comma (led R) h.fuel ws k) ∙ ap (λ (r : Result (List A × ℕ) ℕ). cons (beside x r)) (sym (nil (repeat_at comma (led R) h.fuel ws k)) ∙ h.same) ∙ ap (λ (r : Result (A × ℕ) ℕ). cons (r read_then λ p. beside p.0 (many_at comma (led R) ws p.1))) (sym e) }
    where
      front : (r : Result (List A × ℕ) ℕ) → with_front (x ∷ []) r ≡ (beside x r read_then λ p. good (p.0.0 ∷ p.0.1) p.1)
      front (Ok p) = refl
      front (Err k) = refl

      nil : (r : Result (List A × ℕ) ℕ) → with_front [] r ≡ r
      nil (Ok p) = refl
      nil (Err k) = refl

  -- the first is refused
  pub no_list : (from : ℕ) (e : Refused) → FailsReading e (R ws from) → FailsReading e (listed_at R ws from)
  unfolding listed_at
  no_list from refused.Memory f = tt
  no_list from (refused.Syntax k) f = ap (λ (r : Result (A × ℕ) ℕ). (r read_then λ p. beside p.0 (many_at comma (led R) ws p.1)) read_then λ p. good (p.0.0 ∷ p.0.1) p.1) f
