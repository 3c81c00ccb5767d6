-- The language: grammars as relations between what is meant and the terminals that say it. Read Words and Forms first.
use Rattle.std.specs.Prelude.{◌≡◌, ℕ, suc, List, [], ◌∷◌, ◌++◌, Option, Some, None, ◌⊎◌, length, take, ◌≤◌, ◌<◌}
use Rattle.dl_base.specs.declared.statement.Expr.{Expr}
use Rattle.sql_grammar.specs.declared.symbol.Symbol.TheVariants as symbol
use Rattle.sql_grammar.specs.declared.token.Token.{Token}
use Rattle.sql_grammar.specs.declared.token.Token.TheVariants as token
use Rattle.sql_grammar.specs.declared.terminal.Terminal.{Terminal}
use Rattle.sql_grammar.specs.declared.terminal.Terminal.TheVariants.{Fixed, Word}
use Rattle.sql_grammar.specs.Words.{bytes_of}
use Rattle.sql_grammar.specs.Forms.{Derives}
use Rattle.sql_grammar.specs.Proper.{AreProper}

-- the terminals say the value
abbrev pub Lang : Type 0 → Type 1
Lang A = A → List Terminal → Type 0

abbrev pub terminal_of : Token → Terminal
terminal_of (token.Symbol m) = Fixed m
terminal_of (token.Word w) = Word (bytes_of w)

-- nothing is said, and the value is x
abbrev pub Just : {A : Type 0} → A → Lang A
Just x y ws = (y ≡ x) × (ws ≡ [])

-- a token, and then the rest
abbrev pub After : {A : Type 0} → Token → Lang A → Lang A
After t L x ws = (rest : List Terminal) × (ws ≡ terminal_of t ∷ rest) × L x rest

-- one, and then the other
abbrev pub Then : {A B : Type 0} → Lang A → Lang B → Lang (A × B)
Then L M p ws = (a b : List Terminal) × (ws ≡ a ++ b) × L p.0 a × M p.1 b

-- the same terminals, meant otherwise
abbrev pub As : {A B : Type 0} → (A → B) → Lang A → Lang B
As {A} f L y ws = (x : A) × (f x ≡ y) × L x ws

abbrev pub Or : {A : Type 0} → Lang A → Lang A → Lang A
Or L M x ws = L x ws ⊎ M x ws

abbrev pub Maybe : {A : Type 0} → Lang A → Lang (Option A)
Maybe L None ws = ws ≡ []
Maybe L (Some x) ws = L x ws

-- one terminal that means something
abbrev pub One : {A : Type 0} → (Terminal → Option A) → Lang A
One f x ws = (w : Terminal) × (ws ≡ w ∷ []) × (f w ≡ Some x)

-- none or more
abbrev pub Many : {A : Type 0} → Lang A → Lang (List A)
Many L [] ws = ws ≡ []
Many L (x ∷ xs) ws = (a b : List Terminal) × (ws ≡ a ++ b) × L x a × Many L xs b

-- one or more, with commas between them
abbrev pub Listed : {A : Type 0} → Lang A → Lang (List A)
Listed L = As (λ p. p.0 ∷ p.1) (Then L (Many (After (token.Symbol symbol.Comma) L)))

-- before a token
abbrev pub Before : {A : Type 0} → Lang A → Token → Lang A
Before L t = As (λ p. p.0) (Then L (After t (Just {A = Unit {0}} tt)))

-- in parentheses
abbrev pub Enclosed : {A : Type 0} → Lang A → Lang A
Enclosed L = After (token.Symbol symbol.Open) (Before L (token.Symbol symbol.Close))

abbrev pub Expression : Lang Expr
Expression t ws = Derives ws t

-- what begins so is in the language
abbrev pub BeginsSome : {A : Type 0} → Lang A → List Terminal → Type 0
BeginsSome {A} L ws = (more : List Terminal) × (x : A) × L x (ws ++ more)

-- The terminal at k is the first with which the terminals so far begin nothing of the language, or k is the end.
-- Those before it begin something that a text can have.
pub record IsFaultOf {A : Type 0} (L : Lang A) (ws : List Terminal) (k : ℕ) : Type 0 where
  pub within : k ≤ length ws
  pub before : (more : List Terminal) × (x : A) × L x (take k ws ++ more) × AreProper more
  pub here : k < length ws → BeginsSome L (take (suc k) ws) → ⊥
  pub none : (x : A) → L x ws → ⊥
