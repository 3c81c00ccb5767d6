-- What is printed: where dots stand among terminals.
use Rattle.std.specs.Prelude.{◌≡◌, Bool, true, false, List, [], ◌∷◌}
use Rattle.sql_grammar.specs.declared.symbol.Symbol.TheVariants as symbol
use Rattle.sql_grammar.specs.declared.terminal.Terminal.{Terminal}
use Rattle.sql_grammar.specs.declared.terminal.Terminal.TheVariants.{Fixed, Word}

abbrev pub is_dot : Terminal → Bool
is_dot (Fixed symbol.Dot) = true
is_dot _ = false

abbrev pub is_word : Terminal → Bool
is_word (Word w) = true
is_word _ = false

-- each dot follows a word, behind something that is one or is none
abbrev pub Dotted : Bool → List Terminal → Type 0
Dotted b [] = Unit {0}
Dotted b (w ∷ ws) = (is_dot w ≡ true → b ≡ true) × Dotted (is_word w) ws
