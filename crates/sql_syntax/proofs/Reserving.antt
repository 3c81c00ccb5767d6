-- A word is reserved where it is one of nine, four times.
use Rattle.std.proofs.Common.{◌≡◌, ℕ, Bool, true, false, List, [], ◌∷◌, ◌++◌, take, drop, Option, Some, None, if◌then◌else◌, refl, ap, ◌∙◌}
use Rattle.sql_grammar.specs.declared.symbol.Symbol.{Symbol}
use Rattle.sql_grammar.specs.Words.{same_bytes}
use Rattle.sql_grammar.specs.Proper.{symbol_in, reserved_symbol}
use Rattle.sql_grammar.specs.Reserved.{reserved}
use Rattle.sql_syntax.specs.Reserving.{symbol_of_nine}

-- the first of two symbols
abbrev pub or_symbol : Option Symbol → Option Symbol → Option Symbol
or_symbol (Some m) o = Some m
or_symbol None o = o

symbol_in-append : (xs ys : List (List ℕ × Symbol)) (w : List ℕ) → symbol_in (xs ++ ys) w ≡ or_symbol (symbol_in xs w) (symbol_in ys w)
symbol_in-append [] ys w = refl
symbol_in-append (x ∷ xs) ys w = first (same_bytes w x.0) (symbol_in-append xs ys w)
  where
    first : (t : Bool) → symbol_in (xs ++ ys) w ≡ or_symbol (symbol_in xs w) (symbol_in ys w) → (if t then Some x.1 else symbol_in (xs ++ ys) w) ≡ or_symbol (if t then Some x.1 else symbol_in xs w) (symbol_in ys w)
    first true rest = refl
    first false rest = rest

pub by_nines : (w : List ℕ) → reserved_symbol w ≡ or_symbol (symbol_of_nine 0 w) (or_symbol (symbol_of_nine 9 w) (or_symbol (symbol_of_nine 18 w) (symbol_of_nine 27 w)))
unfolding reserved_symbol symbol_of_nine
by_nines w =
    symbol_in-append (take 9 reserved) (drop 9 reserved) w
    ∙ ap (or_symbol (symbol_of_nine 0 w)) (symbol_in-append (take 9 (drop 9 reserved)) (drop 18 reserved) w
    ∙ ap (or_symbol (symbol_of_nine 9 w)) (symbol_in-append (take 9 (drop 18 reserved)) (drop 27 reserved) w))
