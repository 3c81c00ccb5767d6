-- Texts with their lexemes and places, and texts with the first byte that begins none, by computing.
use Rattle.std.proofs.Common.{◌≡◌, ℕ, List, [], ◌∷◌, ◌++◌, codes, Result, Ok, Err, refl, pos}
use Rattle.sql_lex.specs.declared.lexeme.LexKind.{LexKind}
use Rattle.sql_lex.specs.declared.lexeme.LexKind.TheVariants.{Word, Number, Literal, Sign}
use Rattle.sql_lex.specs.declared.lexeme.Lexeme.{Lexeme}
use Rattle.sql_lex.specs.Scan.{front, scan}

abbrev lexed : List ℕ → Result (List Lexeme) ℕ
lexed text = scan 0 1 text

abbrev from_to : ℕ → ℕ → LexKind → Lexeme
from_to begin end kind = record { kind = kind; begin = begin; end = end }

-- ---- lexemes and their places

of_nothing : lexed [] ≡ Ok []
of_nothing = refl

of_blanks : lexed (32 ∷ 9 ∷ 32 ∷ []) ≡ Ok []
of_blanks = refl

of_each_kind : lexed (codes "Select 'it''s'<=12") ≡ Ok (from_to 1 7 (Word (codes "select")) ∷ from_to 8 15 (Literal (codes "it's")) ∷ from_to 15 17 (Sign 12) ∷ from_to 17 19 (Number (pos 12)) ∷ [])
unfolding front
of_each_kind = refl

of_each_sign : lexed (codes "( ) , . ; * + - / = <> < <= > >=") ≡ Ok (from_to 1 2 (Sign 0) ∷ from_to 3 4 (Sign 1) ∷ from_to 5 6 (Sign 2) ∷ from_to 7 8 (Sign 3) ∷ from_to 9 10 (Sign 4) ∷ from_to 11 12 (Sign 5) ∷ from_to 13 14 (Sign 6) ∷ from_to 15 16 (Sign 7) ∷ from_to 17 18 (Sign 8) ∷ from_to 19 20 (Sign 9) ∷ from_to 21 23 (Sign 10) ∷ from_to 24 25 (Sign 11) ∷ from_to 26 28 (Sign 12) ∷ from_to 29 30 (Sign 13) ∷ from_to 31 33 (Sign 14) ∷ [])
unfolding front
of_each_sign = refl

of_signs_side_by_side : lexed (codes "<<>>=<=>=<") ≡ Ok (from_to 1 2 (Sign 11) ∷ from_to 2 4 (Sign 10) ∷ from_to 4 6 (Sign 14) ∷ from_to 6 8 (Sign 12) ∷ from_to 8 10 (Sign 14) ∷ from_to 10 11 (Sign 11) ∷ [])
unfolding front
of_signs_side_by_side = refl

of_tabs : lexed (9 ∷ (codes "T.a_1" ++ 9 ∷ 9 ∷ (codes ">7" ++ 9 ∷ []))) ≡ Ok (from_to 2 3 (Word (codes "t")) ∷ from_to 3 4 (Sign 3) ∷ from_to 4 7 (Word (codes "a_1")) ∷ from_to 9 10 (Sign 13) ∷ from_to 10 11 (Number (pos 7)) ∷ [])
unfolding front
of_tabs = refl

of_64_bytes : lexed (codes "A_3456789012345678901234567890123456789012345678901234567890123Z") ≡ Ok (from_to 1 65 (Word (codes "a_3456789012345678901234567890123456789012345678901234567890123z")) ∷ [])
unfolding front
of_64_bytes = refl

of_the_greatest_number : lexed (codes "9223372036854775807") ≡ Ok (from_to 1 20 (Number (pos 9223372036854775807)) ∷ [])
unfolding front
of_the_greatest_number = refl

of_leading_zeros : lexed (codes "0009223372036854775807") ≡ Ok (from_to 1 23 (Number (pos 9223372036854775807)) ∷ [])
unfolding front
of_leading_zeros = refl

of_a_word_behind_a_number : lexed (codes "12ab") ≡ Ok (from_to 1 3 (Number (pos 12)) ∷ from_to 3 5 (Word (codes "ab")) ∷ [])
unfolding front
of_a_word_behind_a_number = refl

of_literals : lexed (codes "'''' '' ' ~" ++ 128 ∷ 255 ∷ codes "'a") ≡ Ok (from_to 1 5 (Literal (codes "'")) ∷ from_to 6 8 (Literal []) ∷ from_to 9 15 (Literal (codes " ~" ++ 128 ∷ 255 ∷ [])) ∷ from_to 15 16 (Word (codes "a")) ∷ [])
unfolding front
of_literals = refl

-- ---- bytes that begin none

of_65_bytes : lexed (codes " aaaaaaaaaaaaaaaaaaaaaaaaaaaaaaaaaaaaaaaaaaaaaaaaaaaaaaaaaaaaaaaaa") ≡ Err 2
unfolding front
of_65_bytes = refl

of_no_end : lexed (codes "SELECT 'x") ≡ Err 8
unfolding front
of_no_end = refl

of_no_end_behind_a_quote : lexed (codes "'it''s") ≡ Err 1
unfolding front
of_no_end_behind_a_quote = refl

of_no_end_behind_a_literal : lexed (codes "'it's'") ≡ Err 6
unfolding front
of_no_end_behind_a_literal = refl

of_two_to_the_63rd : lexed (codes "a 9223372036854775808") ≡ Err 3
unfolding front
of_two_to_the_63rd = refl

of_two_to_the_64th : lexed (codes "(18446744073709551616") ≡ Err 2
unfolding front
of_two_to_the_64th = refl

of_a_question_mark : lexed (codes "a = ?") ≡ Err 5
unfolding front
of_a_question_mark = refl

of_a_line_feed : lexed (120 ∷ 10 ∷ []) ≡ Err 2
unfolding front
of_a_line_feed = refl

of_a_double_quote : lexed (34 ∷ 120 ∷ 34 ∷ []) ≡ Err 1
unfolding front
of_a_double_quote = refl

of_an_exclamation_mark : lexed (codes "<>!=") ≡ Err 3
unfolding front
of_an_exclamation_mark = refl

of_an_underscore : lexed (codes "_a") ≡ Err 1
unfolding front
of_an_underscore = refl

of_a_tab_in_a_literal : lexed (39 ∷ 97 ∷ 9 ∷ 98 ∷ 39 ∷ []) ≡ Err 1
unfolding front
of_a_tab_in_a_literal = refl

of_a_control_in_a_literal : lexed (39 ∷ 97 ∷ 31 ∷ codes "b' c") ≡ Err 1
unfolding front
of_a_control_in_a_literal = refl

of_a_delete_in_a_literal : lexed (39 ∷ 97 ∷ 127 ∷ codes "' 'b'") ≡ Err 1
unfolding front
of_a_delete_in_a_literal = refl

of_a_control_behind_a_quote : lexed (codes "'a''" ++ 1 ∷ 39 ∷ []) ≡ Err 1
unfolding front
of_a_control_behind_a_quote = refl

of_a_zero : lexed (codes "'a'" ++ 0 ∷ []) ≡ Err 4
unfolding front
of_a_zero = refl

of_a_letter_with_an_accent : lexed (codes "a " ++ 195 ∷ 169 ∷ []) ≡ Err 3
unfolding front
of_a_letter_with_an_accent = refl
