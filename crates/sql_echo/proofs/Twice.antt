-- What is read of a printed statement is that statement, and so what is told of it is its text.
use Rattle.std.proofs.Common.{◌≡◌, ℕ, List, Result, Ok, Err, IfOk, sym, subst}
use Rattle.dl_base.specs.declared.statement.Stmt.{Stmt}
use Rattle.sql_grammar.specs.Meaning.{Means}
use Rattle.sql_print.specs.Writing.{text_of}
use Rattle.sql_syntax.specs.declared.parser.ParseFault.{ParseFault}
use Rattle.sql_syntax.specs.declared.parser.ParseFault.TheVariants as fault
use Rattle.sql_syntax.specs.Parsing.{Parses, Agrees}
use Rattle.sql_echo.specs.Told.{TellsFault, Tells}

-- the grammar's answers to the text are this one
abbrev pub Alone : List ℕ → Result Stmt ParseFault → Type 0
Alone once a = (q : Result Stmt ParseFault) → Parses once q → Agrees a q

means_once : (once : List ℕ) (s : Stmt) → Means (text_of s) s → once ≡ text_of s → Means once s
means_once once s means e = subst (λ (bs : List ℕ). Means bs s) (sym e) means

pub same_ok : {M : Type 0} (once : List ℕ) (s a : Stmt) (r : Result (List ℕ) M) → Means (text_of s) s → once ≡ text_of s → Alone once (Ok a) → IfOk r (λ t. t ≡ text_of a) → IfOk r (λ t. t ≡ text_of s)
same_ok once s a r means e only h =
    let q : Agrees (Ok a) (Ok s) = only (Ok s) (means_once once s means e) in
    let same : a ≡ s = cc in
    subst (λ (x : Stmt). IfOk r (λ t. t ≡ text_of x)) same h

pub same_err : {M : Type 0} (once : List ℕ) (s : Stmt) (f : ParseFault) (r : Result (List ℕ) M) → Means (text_of s) s → once ≡ text_of s → Alone once (Err f) → IfOk r (λ t. TellsFault f t) → IfOk r (λ t. t ≡ text_of s)
same_err once s (fault.BadChar k) r means e only h = let q : Agrees (Err (fault.BadChar k)) (Ok s) = only (Ok s) (means_once once s means e) in absurd cc
same_err once s (fault.Syntax k) r means e only h = let q : Agrees (Err (fault.Syntax k)) (Ok s) = only (Ok s) (means_once once s means e) in absurd cc
same_err once s fault.Memory (Ok t) means e only h = absurd h
same_err once s fault.Memory (Err m) means e only h = tt

pub told_ok : {M : Type 0} (text : List ℕ) (s : Stmt) (r : Result (List ℕ) M) → Means text s → ((text : List ℕ) → Means text s → IfOk r (λ t. t ≡ text_of s)) → IfOk r (λ t. Tells text t)
told_ok text s (Ok t) means h = (Ok s, means, h text means)
told_ok text s (Err m) means h = tt
