-- Numbers: the value of digits.
use Rattle.std.proofs.Common.{◌≡◌, ℕ, ◌^◌, ◌<◌, true, List, length, pos, sym, ap, ◌∙◌, arith, rules}
use Rattle.std.specs.List.{list_all}
use Rattle.std.specs.Char.{is_ascii_digit}
use Rattle.std.specs.Str.Parse.{digits_value}
use Rattle.std.proofs.lemmas.Str.Parse.{IsNumeralModel, numerals_by_fold}
use Rattle.sql_lex.specs.declared.lexeme.LexKind.TheVariants.{Number}
use Rattle.sql_lex.specs.Spelling.{Spells}
use Rattle.sql_lex.specs.Scan.{decimal_from}

own : IsNumeralModel (λ ds. list_all is_ascii_digit ds ≡ true) (decimal_from 0)
own = numerals_by_fold _ (search rules) decimal_from (search rules)

pub is_number : (ds : List ℕ) → 0 < length ds → list_all is_ascii_digit ds ≡ true → decimal_from 0 ds < 2 ^ 63 → Spells (Number (pos (decimal_from 0 ds))) ds
is_number ds some all small =
    let same : decimal_from 0 ds ≡ digits_value 10 ds = own.same ds (own.to ds all) in
    ((some, own.to ds all), omega (arith, same, small), ap pos same)

pub number_is : (z : _) (ds : List ℕ) → Spells (Number z) ds → (list_all is_ascii_digit ds ≡ true) × (decimal_from 0 ds < 2 ^ 63) × (z ≡ pos (decimal_from 0 ds))
number_is z ds s =
    let same : decimal_from 0 ds ≡ digits_value 10 ds = own.same ds s.0.1 in
    (own.from ds s.0.1, omega (arith, same, s.1), s.2 ∙ ap pos (sym same))
