-- The command's rules as clap has built them, and one use of an argument.
use Rattle.std.proofs.Common.{◌≡◌, ℕ, Bool, true, false, not, ◌&&◌, ◌⊎◌, inl, inr, List, [], ◌∷◌, ◌++◌, fold, map, Some, None, refl, sym, ap, ◌∙◌}
use Rattle.std.specs.Prelude.{if◌then◌else◌, codes, bytes_eq, find, is_some}
use Rattle.std.specs.List.{list_any}
use Rattle.std.proofs.lemmas.Bool.{or_parts}
use Rattle.std.proofs.lemmas.List.{append-nil, map-append}
use Rattle.std.proofs.lemmas.Slice.Eq.{bytes_eq-Decides}
use Rattle.clap.specs.Facts.{parser_of_value}
use Rattle.clap.specs.Faults.{use_fault, default_fault, defaults_fault}
use Rattle.clap.specs.Kinds.{Kinds, or_else}
use Rattle.clap.specs.Simple.{Shape, built, filled, with_index, new_rule}
use Rattle.clap.specs.Values.{reading_of}
use Rattle.clap.specs.Walk.{Row, Rule, arg_by_id, arg_by_long, at_row, has_long, has_row, more_values, used, with_default, with_values, without}
use Rattle.clap.specs.declared.builder.value_parser.Reading.{Reading}
use Rattle.clap.specs.declared.builder.value_parser.ValueParser.TheVariants as vp
use Rattle.clap.specs.declared.error.kind.ErrorKind.TheVariants as kind
use Rattle.clap.specs.declared.parser.matches.ValueSource.TheVariants.{CommandLine}
use Rattle.clap.proofs.WalkLemmas.{list_any-map}
use Rattle.run_args.specs.Command.{command, option}
use Rattle.run_args.specs.Words.{NamedText, options, is_option, has}

pub either_way : (b : Bool) → (b ≡ true) ⊎ (b ≡ false)
either_way true = inl refl
either_way false = inr refl

-- ---- the rules

abbrev pub shape : Shape
shape = (built command).top

abbrev pub opt : List ℕ → Rule
opt name = with_index 1 (filled (option name))

abbrev pub the_command : List ℕ
the_command = codes "command"

abbrev pub word_rule : Rule
word_rule = with_index 1 (filled (new_rule the_command))

abbrev pub rules : List Rule
rules = map opt options ++ word_rule ∷ []

pub rules_are : shape.rules ≡ rules
rules_are = refl

same_text : (a b : List ℕ) → bytes_eq a b ≡ true → a ≡ b
same_text a b e = (bytes_eq-Decides a b).0 e

pub text_itself : (a : List ℕ) → bytes_eq a a ≡ true
text_itself a = (bytes_eq-Decides a a).1 refl

-- a rule by its long name, among options and others
long_in : (names : List (List ℕ)) (rest : List Rule) (name : List ℕ) → find (λ (a : Rule). not (is_some a.index) && has_long a name) (map opt names ++ rest)
    ≡ (if list_any (λ o. bytes_eq o name) names then Some (opt name) else find (λ (a : Rule). not (is_some a.index) && has_long a name) rest)
long_in [] rest name = refl
long_in (o ∷ os) rest name = elim (either_way (bytes_eq o name)) [
  | inl e ↦ rw e (ap (λ n. Some (opt n)) (same_text o name e))
  | inr e ↦ rw e (long_in os rest name)
]

id_in : (names : List (List ℕ)) (rest : List Rule) (name : List ℕ) → find (λ (a : Rule). bytes_eq a.id name) (map opt names ++ rest)
    ≡ (if list_any (λ o. bytes_eq o name) names then Some (opt name) else find (λ (a : Rule). bytes_eq a.id name) rest)
id_in [] rest name = refl
id_in (o ∷ os) rest name = elim (either_way (bytes_eq o name)) [
  | inl e ↦ rw e (ap (λ n. Some (opt n)) (same_text o name e))
  | inr e ↦ rw e (id_in os rest name)
]

pub long_known : (name : List ℕ) → is_option name ≡ true → arg_by_long rules name ≡ Some (opt name)
long_known name is = long_in options (word_rule ∷ []) name ∙ ap (λ b. if b then Some (opt name) else None) is

pub long_unknown : (name : List ℕ) → is_option name ≡ false → arg_by_long rules name ≡ None
long_unknown name is = long_in options (word_rule ∷ []) name ∙ ap (λ b. if b then Some (opt name) else None) is

pub id_known : (name : List ℕ) → is_option name ≡ true → arg_by_id rules name ≡ Some (opt name)
id_known name is = id_in options (word_rule ∷ []) name ∙ ap (λ b. if b then Some (opt name) else find (λ (a : Rule). bytes_eq a.id name) (word_rule ∷ [])) is

-- ---- what is said, as clap's rows

abbrev pub how : Reading
how = reading_of (parser_of_value (Some vp.String))

abbrev pub row : NamedText → Row
row s = record { id = s.0; values = s.1 ∷ []; count = None; source = Some CommandLine; reading = how }

abbrev pub twice : Bool → Kinds
twice b = if b then kind.ArgumentConflict ∷ [] else []

-- the name stands for an argument of one text
pub record IsArg (name : List ℕ) : Type 0 where
  pub rule : Rule
  pub found : arg_by_id rules name ≡ Some rule
  pub once : (text : List ℕ) (rows : List Row) → use_fault false rule (text ∷ []) rows ≡ twice (has_row name rows)
  pub empty : (rows : List Row) → use_fault false rule [] rows ≡ kind.InvalidValue ∷ []
  pub uses : (text : List ℕ) (rows : List Row) → used rule (text ∷ []) rows ≡ with_values name how CommandLine (text ∷ []) (without name rows)

pub once_opt : (name text : List ℕ) (rows : List Row) → use_fault false (opt name) (text ∷ []) rows ≡ twice (has_row name rows)
once_opt name text rows = elim (either_way (has_row name rows)) [ inl e ↦ rw e refl | inr e ↦ rw e refl ]

once_word : (text : List ℕ) (rows : List Row) → use_fault false word_rule (text ∷ []) rows ≡ twice (has_row the_command rows)
once_word text rows = elim (either_way (has_row the_command rows)) [ inl e ↦ rw e refl | inr e ↦ rw e refl ]

pub an_option : (name : List ℕ) → is_option name ≡ true → IsArg name
an_option name is = record {
  rule = opt name;
  found = id_known name is;
  once = once_opt name;
  empty = λ rows. refl;
  uses = λ text rows. refl;
}

pub the_word : IsArg the_command
the_word = record {
  rule = word_rule;
  found = refl;
  once = once_word;
  empty = λ rows. refl;
  uses = λ text rows. refl;
}

-- ---- rows

pub has_row_is : (name : List ℕ) (said : List NamedText) → has_row name (map row said) ≡ has name said
has_row_is name said = sym (list_any-map (λ (r : Row). bytes_eq r.id name) row said)

at_missing : (name : List ℕ) (change : Row → List Row) (missing : List Row) (said : List NamedText) → has name said ≡ false → at_row name change missing (map row said) ≡ map row said ++ missing
at_missing name change missing [] none = refl
at_missing name change missing (s ∷ said) none =
    let both = or_parts (bytes_eq s.0 name) (has name said) none in
    rw both.0 (ap (λ (rest : List Row). row s ∷ rest) (at_missing name change missing said both.1))

pub one_row_more : (said : List NamedText) (s : NamedText) → has s.0 said ≡ false → with_values s.0 how CommandLine (s.1 ∷ []) (without s.0 (map row said)) ≡ map row (said ++ s ∷ [])
one_row_more said s none =
    ap (λ (rows : List Row). with_values s.0 how CommandLine (s.1 ∷ []) rows) (at_missing s.0 (λ _. []) [] said none ∙ append-nil (map row said))
    ∙ at_missing s.0 (more_values CommandLine (s.1 ∷ [])) (row s ∷ []) said none ∙ sym (map-append row said (s ∷ []))

-- ---- defaults: there are none

no_default : (rows : List Row) (name : List ℕ) → default_fault rows (opt name) ≡ []
no_default rows name = elim (either_way (has_row name rows)) [ inl e ↦ rw e refl | inr e ↦ rw e refl ]

no_word_default : (rows : List Row) → default_fault rows word_rule ≡ []
no_word_default rows = elim (either_way (has_row the_command rows)) [ inl e ↦ rw e refl | inr e ↦ rw e refl ]

same_rows : (rows : List Row) (name : List ℕ) → with_default rows (opt name) ≡ rows
same_rows rows name = elim (either_way (has_row name rows)) [ inl e ↦ rw e refl | inr e ↦ rw e refl ]

same_word_rows : (rows : List Row) → with_default rows word_rule ≡ rows
same_word_rows rows = elim (either_way (has_row the_command rows)) [ inl e ↦ rw e refl | inr e ↦ rw e refl ]

faults_in : (names : List (List ℕ)) (rest : List Rule) (rows : List Row) → defaults_fault rows (map opt names ++ rest) ≡ defaults_fault rows rest
unfolding defaults_fault
faults_in [] rest rows = refl
faults_in (o ∷ os) rest rows =
    ap (λ (k : Kinds). or_else k (defaults_fault (with_default rows (opt o)) (map opt os ++ rest))) (no_default rows o)
    ∙ ap (λ (r : List Row). defaults_fault r (map opt os ++ rest)) (same_rows rows o) ∙ faults_in os rest rows

rows_in : (names : List (List ℕ)) (rest : List Rule) (rows : List Row) → fold with_default rows (map opt names ++ rest) ≡ fold with_default rows rest
rows_in [] rest rows = refl
rows_in (o ∷ os) rest rows = ap (λ (r : List Row). fold with_default r (map opt os ++ rest)) (same_rows rows o) ∙ rows_in os rest rows

pub no_default_faults : (rows : List Row) → defaults_fault rows rules ≡ []
unfolding defaults_fault
no_default_faults rows = faults_in options (word_rule ∷ []) rows ∙ ap (λ (k : Kinds). or_else k []) (no_word_default rows)

pub no_default_rows : (rows : List Row) → fold with_default rows rules ≡ rows
no_default_rows rows = rows_in options (word_rule ∷ []) rows ∙ same_word_rows rows
