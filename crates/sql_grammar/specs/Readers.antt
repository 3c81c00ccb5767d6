-- The reader: how the parts of a grammar are read from left to right. Read Lang and Machine first. It says nothing that Lang does not: proofs/Readers shows that each reads its relation.
use Rattle.std.specs.Prelude.{◌≡◌, ℕ, zero, suc, List, [], ◌∷◌, Option, Some, None, Result, Ok, Err, Bool, false, if◌then◌else◌, slice_get, length, drop, ◌≤◌, ◌<◌, nat_lt}
use denote.Enum.Bare.{sameb}
use Rattle.dl_base.specs.declared.statement.Expr.{Expr}
use Rattle.sql_grammar.specs.contracts.symbol.Symbol.{the_type}
use Rattle.sql_grammar.specs.declared.symbol.Symbol.TheVariants as symbol
use Rattle.sql_grammar.specs.declared.token.Token.{Token}
use Rattle.sql_grammar.specs.declared.token.Token.TheVariants as token
use Rattle.sql_grammar.specs.declared.terminal.Terminal.{Terminal}
use Rattle.sql_grammar.specs.declared.terminal.Terminal.TheVariants.{Fixed, Word}
use Rattle.sql_grammar.specs.Words.{bytes_of, same_bytes}
use Rattle.sql_grammar.specs.Machine.{due, run}

-- What begins at a place and the place behind it, or the place of what is refused.
abbrev pub Reader : Type 0 → Type 0
Reader A = List Terminal → ℕ → Result (A × ℕ) ℕ

infixl 10 ◌read_then◌
abbrev pub ◌read_then◌ : {A B : Type 0} → Result A ℕ → (A → Result B ℕ) → Result B ℕ
(Ok x) read_then f = f x
(Err k) read_then f = Err k

-- what is read begins no sooner than it ends
abbrev pub Rises : {A : Type 0} → Reader A → Type 0
Rises {A} R = (ws : List Terminal) (i : ℕ) (x : A) (k : ℕ) → R ws i ≡ Ok (x, k) → i ≤ k

-- where a test passes, something is read
abbrev pub Climbs : {A : Type 0} → (Option Terminal → Bool) → Reader A → Type 0
Climbs {A} b R = (ws : List Terminal) (i : ℕ) (x : A) (k : ℕ) → R ws i ≡ Ok (x, k) → i < k

-- a value and the place behind it
abbrev pub good : {A : Type 0} → A → ℕ → Result (A × ℕ) ℕ
good x k = Ok (x, k)

abbrev pub is_token : Token → Option Terminal → Bool
is_token (token.Symbol m) (Some (Fixed k)) = sameb the_type k m
is_token (token.Word w) (Some (Word x)) = same_bytes x (bytes_of w)
is_token _ _ = false

abbrev pub one_or : {A : Type 0} → (Terminal → Option A) → Option Terminal → Option A
one_or f None = None
one_or f (Some w) = f w

abbrev pub taken_at : {A : Type 0} → Option A → ℕ → Result (A × ℕ) ℕ
taken_at (Some x) i = Ok (x, suc i)
taken_at None i = Err i

abbrev pub one_at : {A : Type 0} → (Terminal → Option A) → Reader A
one_at f ws i = taken_at (one_or f (slice_get ws i)) i

abbrev pub maybe_taken_at : {A : Type 0} → Option A → ℕ → Result (Option A × ℕ) ℕ
maybe_taken_at (Some x) i = Ok (Some x, suc i)
maybe_taken_at None i = Ok (None, i)

abbrev pub maybe_one_at : {A : Type 0} → (Terminal → Option A) → Reader (Option A)
maybe_one_at f ws i = maybe_taken_at (one_or f (slice_get ws i)) i

abbrev pub expression_at : Reader Expr
expression_at ws i = run (due [] 0 0) i (drop i ws)

abbrev pub just_at : {A : Type 0} → A → Reader A
just_at x ws i = Ok (x, i)

-- the place behind a token
unfoldable pub token_at : Token → List Terminal → ℕ → Result ℕ ℕ
token_at t ws i = if is_token t (slice_get ws i) then Ok (suc i) else Err i

-- a token, and then the rest
abbrev pub after_at : {A : Type 0} → Token → Reader A → Reader A
after_at t R ws i = token_at t ws i read_then λ k. R ws k

-- what a token begins, or else the rest
abbrev pub branch_at : {A : Type 0} → Token → Reader A → Reader A → Reader A
branch_at t R S ws i = if is_token t (slice_get ws i) then R ws (suc i) else S ws i

abbrev pub map_at : {A B : Type 0} → (A → B) → Reader A → Reader B
map_at f R ws i = R ws i read_then λ p. Ok (f p.0, p.1)

-- beside what was read before
abbrev pub beside : {A B : Type 0} → A → Result (B × ℕ) ℕ → Result ((A × B) × ℕ) ℕ
beside x r = r read_then λ q. Ok ((x, q.0), q.1)

abbrev pub then_at : {A B : Type 0} → Reader A → Reader B → Reader (A × B)
then_at R S ws i = R ws i read_then λ p. beside p.0 (S ws p.1)

-- what a token begins, or nothing
abbrev pub maybe_at : {A : Type 0} → Token → Reader A → Reader (Option A)
maybe_at t R ws i = if is_token t (slice_get ws i) then (R ws (suc i) read_then λ p. Ok (Some p.0, p.1)) else Ok (None, i)

-- as long as the next terminal passes, at most n - 1
abbrev pub repeat_at : {A : Type 0} → (Option Terminal → Bool) → Reader A → ℕ → Reader (List A)
repeat_at b R zero ws i = Err i
repeat_at b R (suc n) ws i = if b (slice_get ws i) then (R ws i read_then λ p. (repeat_at b R n ws p.1 read_then λ q. Ok (p.0 ∷ q.0, q.1))) else Ok ([], i)

-- as long as the next terminal passes; the bound is never met
unfoldable pub many_at : {A : Type 0} → (Option Terminal → Bool) → Reader A → Reader (List A)
many_at b R ws i = repeat_at b R (suc (length ws)) ws i

-- one or more, with commas between them
unfoldable pub listed_at : {A : Type 0} → Reader A → Reader (List A)
listed_at R = map_at (λ p. p.0 ∷ p.1) (then_at R (many_at (is_token (token.Symbol symbol.Comma)) (after_at (token.Symbol symbol.Comma) R)))

abbrev pub before_at : {A : Type 0} → Reader A → Token → Reader A
before_at R t = map_at (λ p. p.0) (then_at R (after_at t (just_at {A = Unit {0}} tt)))

abbrev pub enclosed_at : {A : Type 0} → Reader A → Reader A
enclosed_at R = after_at (token.Symbol symbol.Open) (before_at R (token.Symbol symbol.Close))

-- all of the terminals
abbrev pub ends_at : {A : Type 0} → ℕ → Result (A × ℕ) ℕ → Result A ℕ
ends_at len (Ok p) = if nat_lt p.1 len then Err p.1 else Ok p.0
ends_at len (Err k) = Err k

abbrev pub whole_at : {A : Type 0} → Reader A → List Terminal → Result A ℕ
whole_at R ws = ends_at (length ws) (R ws 0)
