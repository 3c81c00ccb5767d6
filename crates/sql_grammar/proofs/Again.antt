-- What is printed of a value says it again: the laws of printing, one for each way to put languages together.
use Rattle.std.proofs.Common.{◌≡◌, true, false, List, [], ◌∷◌, ◌++◌, Option, Some, None, inl, inr, refl, sym, ap, ◌∙◌, subst}
use Rattle.sql_grammar.specs.declared.symbol.Symbol.TheVariants as symbol
use Rattle.sql_grammar.specs.declared.token.Token.{Token}
use Rattle.sql_grammar.specs.declared.token.Token.TheVariants as token
use Rattle.sql_grammar.specs.declared.terminal.Terminal.{Terminal}
use Rattle.sql_grammar.specs.Proper.{AreProper}
use Rattle.sql_grammar.specs.Dots.{is_dot, Dotted}
use Rattle.sql_grammar.specs.Lang.{Lang, terminal_of, Just, After, Then, As, Or, Maybe, One, Many, Listed, Before, Enclosed, Expression}
use Rattle.sql_grammar.specs.declared.print_token.PrintToken.{PrintToken}
use Rattle.sql_grammar.specs.declared.print_token.PrintToken.TheVariants as print_token
use Rattle.sql_grammar.specs.PrintTokens.{print_terminal, print_terminals, print_token_of}
use Rattle.sql_grammar.specs.Printing.{more_text, list_text, expr_text}
use Rattle.sql_grammar.proofs.Readers.{proper_append, token_proper}
use Rattle.sql_grammar.proofs.Printed.{print_terminals_append, proper_parts, dotted_append, derives_printed, proper_printed, dotted_printed}

-- terminals that a text can have say the value
pub record Again {A : Type 0} (L : Lang A) (x : A) (out : List PrintToken) : Type 0 where
  pub says : L x (print_terminals out)
  pub proper : AreProper (print_terminals out)
  pub dotted : Dotted false (print_terminals out)

-- what one language says of a value, the other says by what is printed
abbrev pub Turns : {A : Type 0} → Lang A → Lang A → (A → List PrintToken) → Type 0
Turns {A} L M p = (x : A) (ws : List Terminal) → L x ws → AreProper ws → Again M x (p x)

abbrev pub Prints : {A : Type 0} → Lang A → (A → List PrintToken) → Type 0
Prints L p = Turns L L p

-- ---- one thing after another

pub again_then : {A B : Type 0} {L : Lang A} {M : Lang B} {x : A} {y : B} {a b : List PrintToken} → Again L x a → Again M y b → Again (Then L M) (x, y) (a ++ b)
again_then {a = a} {b = b} h k = record { says = (print_terminals a, print_terminals b, print_terminals_append a b, h.says, k.says); proper = subst AreProper (sym (print_terminals_append a b)) (proper_append (print_terminals a) (print_terminals b) h.proper k.proper); dotted = subst (Dotted false) (sym (print_terminals_append a b)) (dotted_append false (print_terminals a) (print_terminals b) h.dotted k.dotted) }

pub token_print_token : (t : Token) → print_terminal (print_token_of t) ≡ terminal_of t
token_print_token (token.Symbol m) = refl
token_print_token (token.Word w) = refl

pub again_after : {A : Type 0} (t : Token) {L : Lang A} {x : A} {a : List PrintToken} → (is_dot (terminal_of t) ≡ false) → Again L x a → Again (After t L) x (print_token_of t ∷ a)
again_after t {a = a} flat h =
    let same : print_terminals (print_token_of t ∷ a) ≡ terminal_of t ∷ print_terminals a = ap (λ (w : Terminal). w ∷ print_terminals a) (token_print_token t) in
    record { says = (print_terminals a, same, h.says); proper = subst AreProper (sym same) (token_proper t, h.proper); dotted = subst (Dotted false) (sym same) (dotted_append false (terminal_of t ∷ []) (print_terminals a) ((λ d. absurd (let q : false ≡ true = sym flat ∙ d in cc)), tt) h.dotted) }

pub again_as : {A B : Type 0} (f : A → B) {L : Lang A} {x : A} {a : List PrintToken} → Again L x a → Again (As f L) (f x) a
again_as f {x = x} h = record { says = (x, refl, h.says); proper = h.proper; dotted = h.dotted }

pub again_just : {A : Type 0} (x : A) → Again (Just x) x []
again_just x = record { says = (refl, refl); proper = tt; dotted = tt }

pub again_left : {A : Type 0} {L : Lang A} (M : Lang A) {x : A} {a : List PrintToken} → Again L x a → Again (Or L M) x a
again_left M h = record { says = inl h.says; proper = h.proper; dotted = h.dotted }

pub again_right : {A : Type 0} (L : Lang A) {M : Lang A} {x : A} {a : List PrintToken} → Again M x a → Again (Or L M) x a
again_right L h = record { says = inr h.says; proper = h.proper; dotted = h.dotted }

pub again_before : {A : Type 0} (t : Token) {L : Lang A} {x : A} {a : List PrintToken} → (is_dot (terminal_of t) ≡ false) → Again L x a → Again (Before L t) x (a ++ print_token_of t ∷ [])
again_before t flat h = again_as (λ p. p.0) (again_then h (again_after t flat (again_just {A = Unit {0}} tt)))

pub again_enclosed : {A : Type 0} {L : Lang A} {x : A} {a : List PrintToken} → Again L x a → Again (Enclosed L) x (print_token.Symbol symbol.Open ∷ (a ++ print_token.Symbol symbol.Close ∷ []))
again_enclosed h = again_after (token.Symbol symbol.Open) refl (again_before (token.Symbol symbol.Close) refl h)

-- ---- the same of whole languages

pub prints_then : {A B : Type 0} {L : Lang A} {M : Lang B} {p : A → List PrintToken} {q : B → List PrintToken} → Prints L p → Prints M q → Prints (Then L M) (λ x. p x.0 ++ q x.1)
prints_then h k x ws says proper =
    let r = proper_parts says.0 says.1 (subst AreProper says.2 proper) in
    again_then (h x.0 says.0 says.3 r.0) (k x.1 says.1 says.4 r.1)

pub turns_after : {A : Type 0} (t : Token) (L : Lang A) {M : Lang A} {p : A → List PrintToken} → (is_dot (terminal_of t) ≡ false) → Turns L M p → Turns (After t L) (After t M) (λ x. print_token_of t ∷ p x)
turns_after t L flat h x ws says proper = again_after t flat (h x says.0 says.2 (subst AreProper says.1 proper).1)

pub turns_as : {A B : Type 0} (f : A → B) {L M : Lang A} {q : A → List PrintToken} (p : B → List PrintToken) → ((x : A) → q x ≡ p (f x)) → Turns L M q → Turns (As f L) (As f M) p
turns_as f {L = L} {M = M} {q = q} p same h y ws says proper =
    subst (λ z. Again (As f M) z (p z)) says.1 (subst (λ (a : List PrintToken). Again (As f M) (f says.0) a) (same says.0) (again_as f (h says.0 ws says.2 proper)))

-- a value behind a token
pub turns_led : {A B : Type 0} (t : Token) (f : A → B) {L : Lang A} {q : A → List PrintToken} (p : B → List PrintToken) → (is_dot (terminal_of t) ≡ false) → Prints L q → ((x : A) → print_token_of t ∷ q x ≡ p (f x)) → Prints (After t (As f L)) p
turns_led t f {L = L} {q = q} p flat h same y ws says proper =
    let inner = says.2 in
    subst (λ z. Again (After t (As f L)) z (p z)) inner.1 (subst (λ (a : List PrintToken). Again (After t (As f L)) (f inner.0) a) (same inner.0) (again_after t flat (again_as f (h inner.0 says.0 inner.2 (subst AreProper says.1 proper).1))))

pub turns_or : {A : Type 0} {L M N : Lang A} {p : A → List PrintToken} → Turns L N p → Turns M N p → Turns (Or L M) N p
turns_or h k x ws (inl says) proper = h x ws says proper
turns_or h k x ws (inr says) proper = k x ws says proper

-- what stands for one value is printed as that value is
pub turns_to : {A : Type 0} (L : Lang A) {M : Lang A} (p : A → List PrintToken) (y : A) → ((x : A) (ws : List Terminal) → L x ws → x ≡ y) → Again M y (p y) → Turns L M p
turns_to L {M = M} p y only h x ws says proper = subst (λ z. Again M z (p z)) (sym (only x ws says)) h

-- a token that stands for one value
pub token_only : {A : Type 0} (t : Token) (y : A) (x : A) (ws : List Terminal) → After t (Just y) x ws → x ≡ y
token_only t y x ws says = says.2.0

abbrev pub maybe_text : {A : Type 0} → (A → List PrintToken) → Option A → List PrintToken
maybe_text p None = []
maybe_text p (Some x) = p x

pub again_none : {A : Type 0} (L : Lang A) → Again (Maybe L) None []
again_none L = record { says = refl; proper = tt; dotted = tt }

pub again_some : {A : Type 0} {L : Lang A} {x : A} {a : List PrintToken} → Again L x a → Again (Maybe L) (Some x) a
again_some h = record { says = h.says; proper = h.proper; dotted = h.dotted }

pub turns_maybe : {A : Type 0} (L : Lang A) {M : Lang A} {q : A → List PrintToken} (p : Option A → List PrintToken) → [] ≡ p None → ((x : A) → q x ≡ p (Some x)) → Turns L M q → Turns (Maybe L) (Maybe M) p
turns_maybe L {M = M} p none some h None ws says proper = subst (λ (a : List PrintToken). Again (Maybe M) None a) none (again_none M)
turns_maybe L {M = M} p none some h (Some x) ws says proper = subst (λ (a : List PrintToken). Again (Maybe M) (Some x) a) (some x) (again_some (h x ws says proper))

-- ---- lists

pub again_empty : {A : Type 0} (L : Lang A) → Again (Many L) [] []
again_empty L = record { says = refl; proper = tt; dotted = tt }

pub again_cons : {A : Type 0} {L : Lang A} {x : A} {xs : List A} {a b : List PrintToken} → Again L x a → Again (Many L) xs b → Again (Many L) (x ∷ xs) (a ++ b)
again_cons {a = a} {b = b} h k = record { says = (print_terminals a, print_terminals b, print_terminals_append a b, h.says, k.says); proper = subst AreProper (sym (print_terminals_append a b)) (proper_append (print_terminals a) (print_terminals b) h.proper k.proper); dotted = subst (Dotted false) (sym (print_terminals_append a b)) (dotted_append false (print_terminals a) (print_terminals b) h.dotted k.dotted) }

abbrev pub Comma : Token
Comma = token.Symbol symbol.Comma

pub prints_more : {A : Type 0} (L : Lang A) (p : A → List PrintToken) → Prints L p → Prints (Many (After Comma L)) (more_text p)
prints_more L p h [] ws says proper = again_empty (After Comma L)
prints_more L p h (x ∷ xs) ws says proper =
    let r = proper_parts says.0 says.1 (subst AreProper says.2 proper) in
    again_cons (turns_after Comma L refl h x says.0 says.3 r.0) (prints_more L p h xs says.1 says.4 r.1)

pub prints_listed : {A : Type 0} (L : Lang A) (p : A → List PrintToken) → Prints L p → Prints (Listed L) (list_text p)
prints_listed L p h = turns_as (λ x. x.0 ∷ x.1) (list_text p) (λ x. refl) (prints_then h (prints_more L p h))

-- ---- expressions, and one terminal

pub prints_expression : Prints Expression expr_text
prints_expression t ws d proper = record { says = derives_printed ws t d; proper = proper_printed ws t d proper; dotted = dotted_printed ws t d }

pub prints_one : {A : Type 0} (f : Terminal → Option A) (p : A → PrintToken) → ((w : Terminal) (x : A) → f w ≡ Some x → (w ≡ print_terminal (p x)) × (is_dot w ≡ false)) → Prints (One f) (λ x. p x ∷ [])
prints_one f p is x ws says proper =
    let h = is says.0 x says.2 in
    let all : ws ≡ print_terminal (p x) ∷ [] = says.1 ∙ ap (λ (w : Terminal). w ∷ []) h.0 in
    record {
      says = (print_terminal (p x), refl, sym (ap f h.0) ∙ says.2);
      proper = subst AreProper all proper;
      dotted = ((λ d. absurd (let q : false ≡ true = sym h.1 ∙ ap is_dot h.0 ∙ d in cc)), tt);
    }
