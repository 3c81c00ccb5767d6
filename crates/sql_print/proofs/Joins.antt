-- One piece more at the end of what is joined.
use Rattle.std.proofs.Common.{◌≡◌, ℕ, ◌+◌, ◌<◌, length, take, get_or, Bool, true, false, ◌||◌, cond, List, [], ◌∷◌, ◌++◌, refl, sym, ap, ◌∙◌, append_assoc}
use Rattle.std.proofs.lemmas.List.{take_more}
use Rattle.sql_lex.specs.Joined.{is_dot}
use Rattle.sql_lex.specs.Spelling.{doubled}
use Rattle.std.proofs.Common.{eqb}
use Rattle.sql_grammar.specs.declared.print_token.PrintToken.{PrintToken}
use Rattle.sql_print.specs.Writing.{print_token_kind, print_token_bytes, joined_tokens, gap}

-- whether no blank follows
abbrev pub tight_after : List PrintToken → Bool
tight_after [] = true
tight_after (x ∷ []) = is_dot (print_token_kind x)
tight_after (x ∷ y ∷ ys) = tight_after (y ∷ ys)

append_join : (c : Bool) (a b rest : List ℕ) → cond c (a ++ b) (a ++ 32 ∷ b) ++ rest ≡ cond c (a ++ (b ++ rest)) (a ++ 32 ∷ (b ++ rest))
append_join true a b rest = append_assoc a b rest
append_join false a b rest = append_assoc a (32 ∷ b) rest

two : (c : Bool) (a b : List ℕ) → cond c (a ++ b) (a ++ 32 ∷ b) ≡ a ++ (gap c ++ b)
two true a b = refl
two false a b = refl

pub joined_one : (xs : List PrintToken) (y : PrintToken) → joined_tokens (xs ++ y ∷ []) ≡ joined_tokens xs ++ (gap (tight_after xs || is_dot (print_token_kind y)) ++ print_token_bytes y)
joined_one [] y = refl
joined_one (x ∷ []) y = two (is_dot (print_token_kind x) || is_dot (print_token_kind y)) (print_token_bytes x) (print_token_bytes y)
joined_one (x ∷ z ∷ zs) y =
    let c = is_dot (print_token_kind x) || is_dot (print_token_kind z) in
    let rest = gap (tight_after (z ∷ zs) || is_dot (print_token_kind y)) ++ print_token_bytes y in
    ap (λ (bs : List ℕ). cond c (print_token_bytes x ++ bs) (print_token_bytes x ++ 32 ∷ bs)) (joined_one (z ∷ zs) y) ∙ sym (append_join c (print_token_bytes x) (joined_tokens (z ∷ zs)) rest)

pub tight_one : (xs : List PrintToken) (y : PrintToken) → tight_after (xs ++ y ∷ []) ≡ is_dot (print_token_kind y)
tight_one [] y = refl
tight_one (x ∷ []) y = refl
tight_one (x ∷ z ∷ zs) y = tight_one (z ∷ zs) y

-- one byte more of a literal
pub doubled_one : (xs : List ℕ) (b : ℕ) → doubled (xs ++ b ∷ []) ≡ doubled xs ++ cond (eqb b 39) (39 ∷ 39 ∷ []) (b ∷ [])
doubled_one [] b = by_test (eqb b 39)
  where
    by_test : (c : Bool) → cond c (39 ∷ 39 ∷ []) (b ∷ []) ≡ cond c (39 ∷ 39 ∷ []) (b ∷ [])
    by_test c = refl
doubled_one (x ∷ xs) b = ap (λ (ys : List ℕ). cond (eqb x 39) (39 ∷ 39 ∷ ys) (x ∷ ys)) (doubled_one xs b) ∙ over (eqb x 39)
  where
    over : (c : Bool) → cond c (39 ∷ 39 ∷ (doubled xs ++ cond (eqb b 39) (39 ∷ 39 ∷ []) (b ∷ []))) (x ∷ (doubled xs ++ cond (eqb b 39) (39 ∷ 39 ∷ []) (b ∷ []))) ≡ cond c (39 ∷ 39 ∷ doubled xs) (x ∷ doubled xs) ++ cond (eqb b 39) (39 ∷ 39 ∷ []) (b ∷ [])
    over true = refl
    over false = refl

pub doubled_step : (xs : List ℕ) (i : ℕ) (d : ℕ) → i < length xs → doubled (take (i + 1) xs) ≡ doubled (take i xs) ++ doubled (get_or xs i d ∷ [])
doubled_step xs i d lt = ap doubled (take_more xs i d lt) ∙ doubled_one (take i xs) (get_or xs i d)

-- one piece more of what is joined
pub join_step : (xs : List PrintToken) (i : ℕ) (x : PrintToken) (out out' out'' : List ℕ) (tight dot : Bool) → i < length xs → x ≡ get_or xs i x → out ≡ joined_tokens (take i xs) → tight ≡ tight_after (take i xs) → dot ≡ is_dot (print_token_kind x) → out' ≡ out ++ gap (tight || dot) → out'' ≡ out' ++ print_token_bytes x
    → (out'' ≡ joined_tokens (take (i + 1) xs)) × (dot ≡ tight_after (take (i + 1) xs))
join_step xs i x out out' out'' tight dot lt is e t d e' e'' =
    let more : take (i + 1) xs ≡ take i xs ++ x ∷ [] = take_more xs i x lt ∙ ap (λ (y : PrintToken). take i xs ++ y ∷ []) (sym is) in (
      e'' ∙ ap (λ (y : List ℕ). y ++ print_token_bytes x) (e' ∙ (λ k. e k ++ gap (t k || d k))) ∙ append_assoc (joined_tokens (take i xs)) (gap (tight_after (take i xs) || is_dot (print_token_kind x))) (print_token_bytes x) ∙ sym (ap joined_tokens more ∙ joined_one (take i xs) x),
      d ∙ sym (ap tight_after more ∙ tight_one (take i xs) x),
    )
