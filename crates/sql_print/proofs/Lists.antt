-- What is printed of lists, part by part.
use Rattle.std.proofs.Common.{◌≡◌, ℕ, zero, suc, ◌+◌, ◌<◌, ◌≤◌, get_or, add-one, List, [], ◌∷◌, ◌++◌, length, take, drop, refl, sym, ap, ◌∙◌, arith, append_assoc}
use Rattle.std.proofs.lemmas.List.{append-nil, take_more}
use Rattle.dl_base.specs.declared.statement.Expr.{Expr}
use Rattle.dl_base.specs.declared.statement.TableRef.{TableRef}
use Rattle.sql_grammar.specs.declared.symbol.Symbol.TheVariants as symbol
use Rattle.sql_grammar.specs.declared.print_token.PrintToken.{PrintToken}
use Rattle.sql_grammar.specs.declared.print_token.PrintToken.TheVariants as print_token
use Rattle.sql_grammar.specs.Printing.{more_text, repeated, source_text, joins_text, following_text}

-- one part more
pub more_one : {A : Type 0} (p : A → List PrintToken) (xs : List A) (x : A) → more_text p (xs ++ x ∷ []) ≡ more_text p xs ++ print_token.Symbol symbol.Comma ∷ p x
more_one p [] x = ap (λ (ys : List PrintToken). print_token.Symbol symbol.Comma ∷ ys) (append-nil (p x))
more_one p (y ∷ ys) x = ap (λ (zs : List PrintToken). (print_token.Symbol symbol.Comma ∷ p y) ++ zs) (more_one p ys x) ∙ sym (append_assoc (print_token.Symbol symbol.Comma ∷ p y) (more_text p ys) (print_token.Symbol symbol.Comma ∷ p x))

pub repeated_one : (ws : List PrintToken) (n : ℕ) → repeated ws n ++ ws ≡ repeated ws (suc n)
repeated_one ws zero = sym (append-nil ws)
repeated_one ws (suc n) = append_assoc ws (repeated ws n) ws ∙ ap (λ (x : List PrintToken). ws ++ x) (repeated_one ws n)

pub following_parts : (n : ℕ) (ss : List TableRef) (cs : List Expr) → n ≤ length ss → following_text n ss cs ≡ more_text source_text (take n ss) ++ joins_text (drop n ss) cs
following_parts zero ss cs le = refl
following_parts (suc n) [] cs le = absurd (omega arith)
following_parts (suc n) (s ∷ ss) cs le = ap (λ (x : List PrintToken). print_token.Symbol symbol.Comma ∷ (source_text s ++ x)) (following_parts n ss cs (omega arith)) ∙ sym (append_assoc (print_token.Symbol symbol.Comma ∷ source_text s) (more_text source_text (take n ss)) (joins_text (drop n ss) cs))

pub more_step : {A : Type 0} (p : A → List PrintToken) (xs : List A) (i : ℕ) (x : A) (old out out' out'' : List PrintToken) → i < length xs → x ≡ get_or xs i x → out ≡ old ++ more_text p (take i xs) → out' ≡ out ++ print_token.Symbol symbol.Comma ∷ [] → out'' ≡ out' ++ p x → out'' ≡ old ++ more_text p (take (i + 1) xs)
more_step {A} p xs i x old out out' out'' lt is e e' e'' =
    let more : take (i + 1) xs ≡ take i xs ++ x ∷ [] = take_more xs i x lt ∙ ap (λ (y : A). take i xs ++ y ∷ []) (sym is) in
    let m = more_text p (take i xs) in
    e'' ∙ ap (λ (y : List PrintToken). y ++ p x) (e' ∙ ap (λ (y : List PrintToken). y ++ print_token.Symbol symbol.Comma ∷ []) e) ∙ append_assoc (old ++ m) (print_token.Symbol symbol.Comma ∷ []) (p x) ∙ append_assoc old m (print_token.Symbol symbol.Comma ∷ p x)
    ∙ ap (λ (y : List PrintToken). old ++ y) (sym (ap (more_text p) more ∙ more_one p (take i xs) x))

pub times_step : (a b : PrintToken) (n : ℕ) (old out out' out'' : List PrintToken) → out ≡ old ++ repeated (a ∷ b ∷ []) n → out' ≡ out ++ a ∷ [] → out'' ≡ out' ++ b ∷ [] → out'' ≡ old ++ repeated (a ∷ b ∷ []) (n + 1)
times_step a b n old out out' out'' e e' e'' =
    let m = repeated (a ∷ b ∷ []) n in
    e'' ∙ ap (λ (y : List PrintToken). y ++ b ∷ []) (e' ∙ ap (λ (y : List PrintToken). y ++ a ∷ []) e) ∙ append_assoc (old ++ m) (a ∷ []) (b ∷ []) ∙ append_assoc old m (a ∷ b ∷ [])
    ∙ ap (λ (y : List PrintToken). old ++ y) (repeated_one (a ∷ b ∷ []) n ∙ ap (repeated (a ∷ b ∷ [])) (sym (add-one n)))
