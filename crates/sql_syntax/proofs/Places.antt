-- Where lexemes begin.
use Rattle.std.proofs.Common.{◌≡◌, ℕ, suc, ◌+◌, List, length, Option, Some, None, refl, ap, ◌∙◌, add-one}
use Rattle.std.specs.Prelude.{slice_get, option_map}
use Rattle.std.proofs.lemmas.Option.{slice_get-map}
use Rattle.sql_lex.specs.declared.lexeme.Lexeme.{Lexeme}
use Rattle.sql_syntax.specs.Parsing.{begin_or, place_in, begins_of, or_end}

pub place_of : (text : List ℕ) (xs : List Lexeme) (k : ℕ) → or_end (slice_get (begins_of xs) k) (length text + 1) ≡ place_in text xs k
place_of text xs k = ap (λ o. or_end o (length text + 1)) (slice_get-map (λ (x : Lexeme). x.begin) xs k) ∙ by_lexeme (slice_get xs k)
  where
    by_lexeme : (o : Option Lexeme) → or_end (option_map (λ (x : Lexeme). x.begin) o) (length text + 1) ≡ begin_or o (suc (length text))
    by_lexeme (Some x) = refl
    by_lexeme None = add-one (length text)
