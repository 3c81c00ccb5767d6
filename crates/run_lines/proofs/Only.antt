-- What the grammar answers is the only line that a statement's text makes.
use Rattle.std.proofs.Common.{◌≡◌, ℕ, List, Result, Ok, Err, IfOk, sym, ◌∙◌, subst}
use Rattle.dl_base.specs.declared.statement.Stmt.{Stmt}
use Rattle.meaning_script.specs.declared.kind.Line.{Line}
use Rattle.sql_syntax.specs.Parsing.{Parses, Agrees}
use Rattle.sql_syntax.specs.declared.parser.ParseFault.{ParseFault}
use Rattle.sql_syntax.specs.declared.parser.ParseFault.TheVariants as faults
use Rattle.run_lines.specs.Reading.{Shows, IsStatement}

abbrev pub Answer : Type 0
Answer = Result Stmt ParseFault

same_line : (name : List ℕ) (before : ℕ) (q : Answer) (l m : Line) → Shows name before q l → Shows name before q m → l ≡ m
same_line name before (Ok s) l m a b = a ∙ sym b
same_line name before (Err (faults.BadChar k)) l m a b = a ∙ sym b
same_line name before (Err (faults.Syntax k)) l m a b = a ∙ sym b
same_line name before (Err faults.Memory) l m a b = absurd a

agreed : (name : List ℕ) (before : ℕ) (q r : Answer) (l m : Line) → Agrees q r → Shows name before q l → Shows name before r m → q ≡ r
agreed name before (Err faults.Memory) r l m e a b = absurd a
agreed name before (Ok s) (Ok t) l m e a b = e
agreed name before (Ok s) (Err (faults.BadChar k)) l m e a b = e
agreed name before (Ok s) (Err (faults.Syntax k)) l m e a b = e
agreed name before (Ok s) (Err faults.Memory) l m e a b = absurd b
agreed name before (Err (faults.BadChar j)) (Ok t) l m e a b = e
agreed name before (Err (faults.BadChar j)) (Err (faults.BadChar k)) l m e a b = e
agreed name before (Err (faults.BadChar j)) (Err (faults.Syntax k)) l m e a b = e
agreed name before (Err (faults.BadChar j)) (Err faults.Memory) l m e a b = absurd b
agreed name before (Err (faults.Syntax j)) (Ok t) l m e a b = e
agreed name before (Err (faults.Syntax j)) (Err (faults.BadChar k)) l m e a b = e
agreed name before (Err (faults.Syntax j)) (Err (faults.Syntax k)) l m e a b = e
agreed name before (Err (faults.Syntax j)) (Err faults.Memory) l m e a b = absurd b

-- the line that the parser's answer makes is the only one
pub only_line : (name : List ℕ) (before : ℕ) (text : List ℕ) (q : Answer) (made l : Line) → Shows name before q made → ((r : Answer) → Parses text r → Agrees q r) → IsStatement name before text l → made ≡ l
only_line name before text q made l shows only (r, parses, shown) =
    let e = agreed name before q r made l (only r parses) shows shown in
    same_line name before q made l shows (subst (λ (x : Answer). Shows name before x l) (sym e) shown)

-- the line of a text that is no statement is what the grammar makes of it
pub shown_line : {E : Type 0} (name : List ℕ) (before : ℕ) (text : List ℕ) (fault : ParseFault) (made : Result Line E) → Parses text (Err fault) → IfOk made (Shows name before (Err fault)) → IfOk made (λ l. IsStatement name before text l)
shown_line name before text fault (Ok l) parses shows = (Err fault, parses, shows)
shown_line name before text fault (Err e) parses shows = tt

-- and the only one
pub shown_only : {E : Type 0} (name : List ℕ) (before : ℕ) (text : List ℕ) (fault : ParseFault) (made : Result Line E) → ((r : Answer) → Parses text r → Agrees (Err fault) r) → IfOk made (Shows name before (Err fault)) → (l : Line) → IsStatement name before text l → IfOk made (λ r. r ≡ l)
shown_only name before text fault (Ok made) only shows l says = only_line name before text (Err fault) made l shows only says
shown_only name before text fault (Err e) only shows l says = tt
