-- The reader: an expression is read from left to right over a stack of what is still open. Read Forms and Cues first. That it reads what Forms says is shown in proofs/Sound and proofs/Complete.
use Rattle.std.specs.Prelude.{ℕ, zero, suc, nat_le, nat_lt, Bool, true, false, ◌&&◌, if◌then◌else◌, List, [], ◌∷◌, Option, Some, None, Result, Ok, Err}
use Rattle.dl_base.specs.declared.statement.Op.{Op}
use Rattle.dl_base.specs.declared.statement.Op.TheVariants.{Sub, Mul}
use Rattle.dl_base.specs.declared.statement.Fold.TheVariants as fold
use Rattle.dl_base.specs.declared.statement.Part.TheVariants as part
use Rattle.dl_base.specs.declared.statement.Expr.{Expr}
use Rattle.dl_base.specs.declared.statement.Expr as e
use Rattle.sql_grammar.specs.declared.terminal.Terminal.{Terminal}
use Rattle.sql_grammar.specs.declared.frame.Opening.{Opening}
use Rattle.sql_grammar.specs.declared.frame.Opening.TheVariants.{Group, Aggregate, Access, Dlvalue1, Dlvalue2, Dlvalue3}
use Rattle.sql_grammar.specs.declared.frame.Callee.{Callee}
use Rattle.sql_grammar.specs.declared.frame.Callee.TheVariants.{Count, Opens}
use Rattle.sql_grammar.specs.declared.frame.Frame.{Frame}
use Rattle.sql_grammar.specs.declared.frame.Frame.TheVariants.{Opened, Negation, Sign, Infix}
use Rattle.sql_grammar.specs.Levels.{level_of, left_of, right_of}
use Rattle.sql_grammar.specs.Cues.{Cue, an_operator, a_not, an_is, a_null, an_open, a_close, a_comma, a_dot, a_number, a_literal, a_word, cue}
use Rattle.sql_grammar.specs.Forms.{reference}
use Rattle.dl_base.specs.Limits.{most_operators, most_open_parentheses}
use Rattle.sql_grammar.specs.Words as words
use Rattle.sql_grammar.specs.Words.{same_bytes}

-- how tightly the operand after a frame binds at least
abbrev pub frame_need : Frame → ℕ
frame_need (Opened g) = 0
frame_need Negation = 2
frame_need Sign = 6
frame_need (Infix o t) = right_of o

-- how tightly an operand on the stack binds at least
abbrev pub need : List Frame → ℕ
need [] = 0
need (f ∷ s) = frame_need f

-- whether a frame binds the operand after it at least as tightly as l
abbrev pub binds_at : ℕ → Frame → Bool
binds_at l (Opened g) = false
binds_at l Negation = nat_le l 2
binds_at l Sign = nat_le l 6
binds_at l (Infix o a) = nat_le l (level_of o)

-- what stands before a closing parenthesis and behind its opening one
abbrev pub enclosed : Opening → Expr → Expr
enclosed Group t = t
enclosed (Aggregate g) t = e.Aggregate g t
enclosed (Access p) t = e.Access p t
enclosed Dlvalue1 t = e.Dlvalue1 t
enclosed (Dlvalue2 a) t = e.Dlvalue2 a t
enclosed (Dlvalue3 a b) t = e.Dlvalue3 a b t

-- what a frame makes of the operand after it
abbrev pub applied : Frame → Expr → Expr
applied (Opened g) t = enclosed g t
applied Negation t = e.Not t
applied Sign t = e.Minus t
applied (Infix o a) t = e.Binary o a t

-- applies what binds at least as tightly as l
abbrev pub reduced : ℕ → List Frame → Expr → List Frame × Expr
reduced l [] t = ([], t)
reduced l (f ∷ s) t = if binds_at l f then reduced l s (applied f t) else (f ∷ s, t)

-- the functions by their names
abbrev pub callees : List (List ℕ × Callee)
callees =
    (words.count, Count)
    ∷ (words.sum_word, Opens (Aggregate fold.Sum)) ∷ (words.min_word, Opens (Aggregate fold.Min)) ∷ (words.max_word, Opens (Aggregate fold.Max))
    ∷ (words.dlvalue, Opens Dlvalue1)
    ∷ (words.dlcomment, Opens (Access part.Comment)) ∷ (words.dllinktype, Opens (Access part.LinkType))
    ∷ (words.dlurlscheme, Opens (Access part.Scheme)) ∷ (words.dlurlserver, Opens (Access part.Server))
    ∷ (words.dlurlpathonly, Opens (Access part.PathOnly)) ∷ (words.dlurlpath, Opens (Access part.Path))
    ∷ (words.dlurlcomplete, Opens (Access part.Complete)) ∷ []

abbrev pub look_up : List (List ℕ × Callee) → List ℕ → Option Callee
look_up [] w = None
look_up (x ∷ xs) w = if same_bytes w x.0 then Some x.1 else look_up xs w

abbrev pub callee_of : List ℕ → Option Callee
callee_of w = look_up callees w

-- What is due, or has been read. Operators and calls, and open parentheses, are counted.
pub data State : Type 0 where
  -- an operand
  due : List Frame → ℕ → ℕ → State
  -- behind an operand, which binds as tightly as a level
  after : List Frame → Expr → ℕ → ℕ → ℕ → State
  -- behind a word that is a column, a table or a function
  named : List Frame → List ℕ → ℕ → ℕ → State
  -- behind a table and a dot
  dotted : List Frame → List ℕ → ℕ → ℕ → State
  -- behind IS, and behind IS NOT
  is_due : List Frame → Expr → ℕ → ℕ → State
  not_due : List Frame → Expr → ℕ → ℕ → State
  -- behind COUNT and its parenthesis, which is not counted among the open ones, and behind its `*`
  star_due : List Frame → ℕ → ℕ → State
  star_read : List Frame → ℕ → ℕ → State

-- a terminal is taken, or ends the expression before it, or is refused
pub data Move : Type 0 where
  Go : State → Move
  Stop : Expr → Move
  Refuse : Move

-- an operator after an operand that binds as tightly as l
abbrev pub operate : Op → ℕ → List Frame × Expr → ℕ → ℕ → Move
operate o l r n p = if nat_le (left_of o) l && (nat_le (need r.0) (level_of o) && nat_lt n most_operators) then Go (due (Infix o r.1 ∷ r.0) (suc n) p) else Refuse

-- IS after an operand
abbrev pub ask : ℕ → List Frame × Expr → ℕ → ℕ → Move
ask l r n p = if nat_le 4 l && (nat_le (need r.0) 3 && nat_lt n most_operators) then Go (is_due r.0 r.1 (suc n) p) else Refuse

abbrev pub closed : List Frame → Expr → ℕ → ℕ → Move
closed (Opened g ∷ s) t n p = Go (after s (enclosed g t) 7 n p)
closed _ t n p = Refuse

-- a parenthesis that closes
abbrev pub close : List Frame × Expr → ℕ → ℕ → Move
close r n zero = Stop r.1
close r n (suc p) = closed r.0 r.1 n p

abbrev pub passed : List Frame → Expr → ℕ → ℕ → Move
passed (Opened Dlvalue1 ∷ s) t n p = Go (due (Opened (Dlvalue2 t) ∷ s) n p)
passed (Opened (Dlvalue2 a) ∷ s) t n p = Go (due (Opened (Dlvalue3 a t) ∷ s) n p)
passed _ t n p = Refuse

-- a comma
abbrev pub pass : List Frame × Expr → ℕ → ℕ → Move
pass r n zero = Stop r.1
pass r n (suc p) = passed r.0 r.1 n (suc p)

-- a terminal that goes on with nothing
abbrev pub leave : List Frame × Expr → ℕ → Move
leave r zero = Stop r.1
leave r (suc p) = Refuse

abbrev pub move_after : List Frame → Expr → ℕ → ℕ → ℕ → Cue → Move
move_after s t l n p (an_operator o) = operate o l (reduced (left_of o) s t) n p
move_after s t l n p an_is = ask l (reduced 4 s t) n p
move_after s t l n p a_close = close (reduced 0 s t) n p
move_after s t l n p a_comma = pass (reduced 0 s t) n p
move_after s t l n p _ = leave (reduced 0 s t) p

-- a parenthesis behind a word
abbrev pub call_open : Option Callee → List Frame → List ℕ → ℕ → ℕ → Move
call_open None s w n p = leave (reduced 0 s (e.Column (reference None w))) p
call_open (Some Count) s w n p = if nat_lt n most_operators && nat_lt p most_open_parentheses then Go (star_due s (suc n) p) else Refuse
call_open (Some (Opens g)) s w n p = if nat_lt n most_operators && nat_lt p most_open_parentheses then Go (due (Opened g ∷ s) (suc n) (suc p)) else Refuse

abbrev pub move : State → Cue → Move
move (due s n p) (an_operator Sub) = if nat_lt n most_operators then Go (due (Sign ∷ s) (suc n) p) else Refuse
move (due s n p) a_not = if nat_le (need s) 2 && nat_lt n most_operators then Go (due (Negation ∷ s) (suc n) p) else Refuse
move (due s n p) an_open = if nat_lt p most_open_parentheses then Go (due (Opened Group ∷ s) n (suc p)) else Refuse
move (due s n p) a_null = Go (after s e.Null 7 n p)
move (due s n p) (a_number x) = Go (after s (e.Number x) 7 n p)
move (due s n p) (a_literal x) = Go (after s (e.Literal x) 7 n p)
move (due s n p) (a_word x) = Go (named s x n p)
move (due s n p) _ = Refuse
move (after s t l n p) c = move_after s t l n p c
move (named s x n p) an_open = call_open (callee_of x) s x n p
move (named s x n p) a_dot = Go (dotted s x n p)
move (named s x n p) c = move_after s (e.Column (reference None x)) 7 n p c
move (dotted s x n p) (a_word y) = Go (after s (e.Column (reference (Some x) y)) 7 n p)
move (dotted s x n p) _ = Refuse
move (is_due s t n p) a_null = Go (after s (e.IsNull t true) 3 n p)
move (is_due s t n p) a_not = Go (not_due s t n p)
move (is_due s t n p) _ = Refuse
move (not_due s t n p) a_null = Go (after s (e.IsNull t false) 3 n p)
move (not_due s t n p) _ = Refuse
move (star_due s n p) (an_operator Mul) = Go (star_read s n p)
move (star_due s n p) _ = Refuse
move (star_read s n p) a_close = Go (after s e.CountAll 7 n p)
move (star_read s n p) _ = Refuse

-- the end of the text
abbrev pub ended : State → Move
ended (after s t l n p) = leave (reduced 0 s t) p
ended (named s x n p) = leave (reduced 0 s (e.Column (reference None x))) p
ended _ = Refuse

-- The tree and the place behind it, or the place of the terminal that is refused. The terminals begin at place i.
abbrev pub told : Move → ℕ → (State → Result (Expr × ℕ) ℕ) → Result (Expr × ℕ) ℕ
told (Go s) i next = next s
told (Stop t) i next = Ok (t, i)
told Refuse i next = Err i

abbrev pub run : State → ℕ → List Terminal → Result (Expr × ℕ) ℕ
run s i [] = told (ended s) i (λ _. Err i)
run s i (w ∷ ws) = told (move s (cue w)) i (λ s. run s (suc i) ws)
