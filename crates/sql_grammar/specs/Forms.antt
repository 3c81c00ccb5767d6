-- The language: expressions, and the terminals that say them. Read Levels and Words first.
use Rattle.std.specs.Prelude.{◌≡◌, ℕ, ℤ, Bool, true, false, suc, ◌+◌, ◌≤◌, List, [], ◌∷◌, ◌++◌, max, Option, Some, None}
use Rattle.dl_base.specs.declared.statement.Op.{Op}
use Rattle.dl_base.specs.declared.statement.Fold.{Fold}
use Rattle.dl_base.specs.declared.statement.Fold.TheVariants.{Sum, Min, Max}
use Rattle.dl_base.specs.declared.statement.Part.{Part}
use Rattle.dl_base.specs.declared.statement.Part.TheVariants.{Comment, LinkType, Scheme, Server, PathOnly, Path, Complete}
use Rattle.dl_base.specs.declared.statement.Ref.{Ref}
use Rattle.dl_base.specs.declared.statement.Expr.{Expr}
use Rattle.dl_base.specs.declared.statement.Expr as e
use Rattle.sql_grammar.specs.declared.symbol.Symbol.TheVariants as symbol
use Rattle.sql_grammar.specs.declared.terminal.Terminal.{Terminal}
use Rattle.sql_grammar.specs.declared.terminal.Terminal.TheVariants.{Fixed, Word, Number, Literal}
use Rattle.sql_grammar.specs.Levels.{symbol_of, level_of, left_of, right_of}
use Rattle.dl_base.specs.Limits.{most_operators, most_open_parentheses}
use Rattle.sql_grammar.specs.Words as words

-- an expression as it is written, with its parentheses
pub data Form : Type 0 where
  number : ℤ → Form
  literal : List ℕ → Form
  null : Form
  column : Option (List ℕ) → List ℕ → Form
  parens : Form → Form
  not : Form → Form
  minus : Form → Form
  binary : Op → Form → Form → Form
  is_null : Form → Bool → Form
  count_all : Form
  aggregate : Fold → Form → Form
  access : Part → Form → Form
  dlvalue1 : Form → Form
  dlvalue2 : Form → Form → Form
  dlvalue3 : Form → Form → Form → Form

-- The name of a function is a word like others where no parenthesis follows it.
abbrev pub fold_name : Fold → List ℕ
fold_name Sum = words.sum_word
fold_name Min = words.min_word
fold_name Max = words.max_word

abbrev pub part_name : Part → List ℕ
part_name Comment = words.dlcomment
part_name LinkType = words.dllinktype
part_name Scheme = words.dlurlscheme
part_name Server = words.dlurlserver
part_name PathOnly = words.dlurlpathonly
part_name Path = words.dlurlpath
part_name Complete = words.dlurlcomplete

-- NULL or NOT NULL
abbrev pub null_text : Bool → List Terminal
null_text true = Fixed symbol.Null ∷ []
null_text false = Fixed symbol.Not ∷ Fixed symbol.Null ∷ []

-- a name, or two with a dot between them
abbrev pub column_text : Option (List ℕ) → List ℕ → List Terminal
column_text None c = Word c ∷ []
column_text (Some t) c = Word t ∷ Fixed symbol.Dot ∷ Word c ∷ []

abbrev pub reference : Option (List ℕ) → List ℕ → Ref
reference t c = record { table = t; column = c }

-- how tightly a form binds
abbrev pub level : Form → ℕ
level (not f) = 2
level (minus f) = 6
level (binary o f g) = level_of o
level (is_null f b) = 3
level _ = 7

-- each operand binds tightly enough to stand without parentheses
abbrev pub IsForm : Form → Type 0
IsForm (number n) = Unit {0}
IsForm (literal t) = Unit {0}
IsForm null = Unit {0}
IsForm (column t c) = Unit {0}
IsForm (parens f) = IsForm f
IsForm (not f) = (2 ≤ level f) × IsForm f
IsForm (minus f) = (6 ≤ level f) × IsForm f
IsForm (binary o f g) = (left_of o ≤ level f) × (right_of o ≤ level g) × IsForm f × IsForm g
IsForm (is_null f b) = (4 ≤ level f) × IsForm f
IsForm count_all = Unit {0}
IsForm (aggregate g f) = IsForm f
IsForm (access p f) = IsForm f
IsForm (dlvalue1 f) = IsForm f
IsForm (dlvalue2 f g) = IsForm f × IsForm g
IsForm (dlvalue3 f g h) = IsForm f × IsForm g × IsForm h

abbrev pub text : Form → List Terminal
text (number n) = Number n ∷ []
text (literal t) = Literal t ∷ []
text null = Fixed symbol.Null ∷ []
text (column t c) = column_text t c
text (parens f) = Fixed symbol.Open ∷ (text f ++ Fixed symbol.Close ∷ [])
text (not f) = Fixed symbol.Not ∷ text f
text (minus f) = Fixed symbol.Minus ∷ text f
text (binary o f g) = text f ++ Fixed (symbol_of o) ∷ text g
text (is_null f b) = text f ++ Fixed symbol.Is ∷ null_text b
text count_all = Word words.count ∷ Fixed symbol.Open ∷ Fixed symbol.Star ∷ Fixed symbol.Close ∷ []
text (aggregate g f) = Word (fold_name g) ∷ Fixed symbol.Open ∷ (text f ++ Fixed symbol.Close ∷ [])
text (access p f) = Word (part_name p) ∷ Fixed symbol.Open ∷ (text f ++ Fixed symbol.Close ∷ [])
text (dlvalue1 f) = Word words.dlvalue ∷ Fixed symbol.Open ∷ (text f ++ Fixed symbol.Close ∷ [])
text (dlvalue2 f g) = Word words.dlvalue ∷ Fixed symbol.Open ∷ (text f ++ Fixed symbol.Comma ∷ (text g ++ Fixed symbol.Close ∷ []))
text (dlvalue3 f g h) = Word words.dlvalue ∷ Fixed symbol.Open ∷ (text f ++ Fixed symbol.Comma ∷ (text g ++ Fixed symbol.Comma ∷ (text h ++ Fixed symbol.Close ∷ [])))

abbrev pub tree : Form → Expr
tree (number n) = e.Number n
tree (literal t) = e.Literal t
tree null = e.Null
tree (column t c) = e.Column (reference t c)
tree (parens f) = tree f
tree (not f) = e.Not (tree f)
tree (minus f) = e.Minus (tree f)
tree (binary o f g) = e.Binary o (tree f) (tree g)
tree (is_null f b) = e.IsNull (tree f) b
tree count_all = e.CountAll
tree (aggregate g f) = e.Aggregate g (tree f)
tree (access p f) = e.Access p (tree f)
tree (dlvalue1 f) = e.Dlvalue1 (tree f)
tree (dlvalue2 f g) = e.Dlvalue2 (tree f) (tree g)
tree (dlvalue3 f g h) = e.Dlvalue3 (tree f) (tree g) (tree h)

-- how many operators and calls there are
abbrev pub operators : Form → ℕ
operators (number n) = 0
operators (literal t) = 0
operators null = 0
operators (column t c) = 0
operators (parens f) = operators f
operators (not f) = suc (operators f)
operators (minus f) = suc (operators f)
operators (binary o f g) = suc (operators f + operators g)
operators (is_null f b) = suc (operators f)
operators count_all = 1
operators (aggregate g f) = suc (operators f)
operators (access p f) = suc (operators f)
operators (dlvalue1 f) = suc (operators f)
operators (dlvalue2 f g) = suc (operators f + operators g)
operators (dlvalue3 f g h) = suc (operators f + operators g + operators h)

-- how many parentheses are open at once
abbrev pub depth : Form → ℕ
depth (number n) = 0
depth (literal t) = 0
depth null = 0
depth (column t c) = 0
depth (parens f) = suc (depth f)
depth (not f) = depth f
depth (minus f) = depth f
depth (binary o f g) = max (depth f) (depth g)
depth (is_null f b) = depth f
depth count_all = 1
depth (aggregate g f) = suc (depth f)
depth (access p f) = suc (depth f)
depth (dlvalue1 f) = suc (depth f)
depth (dlvalue2 f g) = suc (max (depth f) (depth g))
depth (dlvalue3 f g h) = suc (max (depth f) (max (depth g) (depth h)))

-- the terminals are an expression, whose tree is t
pub record Derives (ws : List Terminal) (t : Expr) : Type 0 where
  pub form : Form
  pub is_form : IsForm form
  pub text_is : text form ≡ ws
  pub tree_is : tree form ≡ t
  pub few : operators form ≤ most_operators
  pub flat : depth form ≤ most_open_parentheses
