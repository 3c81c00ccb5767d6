-- What may follow a part of a statement.
use Rattle.std.proofs.Common.{◌≡◌, List, [], ◌∷◌, ◌++◌, Some, None, ◌⊎◌, inl, inr, refl, sym, ap, ◌∙◌, subst, append_assoc}
use Rattle.sql_grammar.specs.declared.token.Token.{Token}
use Rattle.sql_grammar.specs.declared.terminal.Terminal.{Terminal}
use Rattle.sql_grammar.specs.Lang.{Lang, terminal_of, After, Then, As, Maybe}
use Rattle.sql_grammar.specs.Readers.{Reader}
use Rattle.sql_grammar.proofs.Readers.{Reads, Without, reads_before}

-- the terminal is one of these tokens
abbrev pub Among : List Token → Terminal → Type 0
Among [] w = ⊥
Among (f ∷ fs) w = (w ≡ terminal_of f) ⊎ Among fs w

-- the terminals are at their end, or go on with one of these tokens
abbrev pub Heads : List Token → List Terminal → Type 0
Heads fs [] = Unit {0}
Heads fs (w ∷ ws) = Among fs w

-- what holds behind each of these tokens
abbrev pub Each : (List Terminal → Type 0) → List Token → Type 0
Each E [] = Unit {0}
Each E (f ∷ fs) = ((ws : List Terminal) → E (terminal_of f ∷ ws)) × Each E fs

among : (fs : List Token) (E : List Terminal → Type 0) → Each E fs → (w : Terminal) (ws : List Terminal) → Among fs w → E (w ∷ ws)
among [] E each w ws h = absurd h
among (f ∷ fs) E each w ws (inl e) = subst (λ (v : Terminal). E (v ∷ ws)) (sym e) (each.0 ws)
among (f ∷ fs) E each w ws (inr h) = among fs E each.1 w ws h

pub heads : (fs : List Token) (E : List Terminal → Type 0) → E [] → Each E fs → (rest : List Terminal) → Heads fs rest → E rest
heads fs E nil each [] h = nil
heads fs E nil each (w ∷ ws) h = among fs E each w ws h

pub lacks : (t : Token) (fs : List Token) → Without t [] → Each (Without t) fs → (rest : List Terminal) → Heads fs rest → Without t rest
lacks t fs nil each rest h = heads fs (Without t) nil each rest h

pub follow : {A : Type 0} (fs : List Token) {R : Reader A} {L : Lang A} {E : List Terminal → Type 0} → E [] → Each E fs → Reads R L E → Reads R L (Heads fs)
follow fs {E = E} nil each r = reads_before (Heads fs) (heads fs E nil each) r

-- what is said, and then what follows it, may follow another part
abbrev pub Starts : {A : Type 0} → Lang A → (List Terminal → Type 0) → (List Terminal → Type 0) → Type 0
Starts {A} M E F = (y : A) (b rest : List Terminal) → M y b → F rest → E (b ++ rest)

pub starts_after : {A : Type 0} (t : Token) (L : Lang A) (fs : List Token) (F : List Terminal → Type 0) → Starts (After t L) (Heads (t ∷ fs)) F
starts_after t L fs F y b rest says ends = subst (λ (z : List Terminal). Heads (t ∷ fs) (z ++ rest)) (sym says.1) (inl refl)

one_more : (t : Token) (fs : List Token) (rest : List Terminal) → Heads fs rest → Heads (t ∷ fs) rest
one_more t fs [] h = h
one_more t fs (w ∷ ws) h = inr h

pub starts_maybe : {A : Type 0} (t : Token) (L : Lang A) (fs : List Token) → Starts (Maybe (After t L)) (Heads (t ∷ fs)) (Heads fs)
starts_maybe t L fs None b rest says ends = subst (λ (z : List Terminal). Heads (t ∷ fs) (z ++ rest)) (sym says) (one_more t fs rest ends)
starts_maybe t L fs (Some x) b rest says ends = subst (λ (z : List Terminal). Heads (t ∷ fs) (z ++ rest)) (sym says.1) (inl refl)

pub starts_as : {A B : Type 0} (f : A → B) (L : Lang A) (E F : List Terminal → Type 0) → Starts L E F → Starts (As f L) E F
starts_as f L E F h y b rest says ends = h says.0 b rest says.2 ends

pub starts_then : {A B : Type 0} (L : Lang A) (M : Lang B) (E G F : List Terminal → Type 0) → Starts L E G → Starts M G F → Starts (Then L M) E F
starts_then L M E G F h k y b rest says ends = subst E (sym (ap (λ (z : List Terminal). z ++ rest) says.2 ∙ append_assoc says.0 says.1 rest)) (h y.0 says.0 (says.1 ++ rest) says.3 (k y.1 says.1 rest says.4 ends))

pub starts_any : {A : Type 0} (M : Lang A) (F : List Terminal → Type 0) → Starts M (λ rest. Unit {0}) F
starts_any M F y b rest says ends = tt
