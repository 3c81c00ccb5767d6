-- One word in clap's walk.
use Rattle.std.proofs.Common.{◌≡◌, ℕ, Bool, true, false, List, [], ◌∷◌, fold, Option, Some, None, refl, sym, ap, subst, ◌∙◌}
use Rattle.std.proofs.Common.{inl, inr, ◌==◌}
use Rattle.std.proofs.Math.Bool.{or-false}
use Rattle.std.proofs.lemmas.Bool.{eqb-true}
use Rattle.std.specs.Prelude.{bytes_eq, unwrap_or}
use Rattle.std.specs.Char.{encode_utf8}
use Rattle.std.specs.Str.{IsUtf8, chars, encode_utf8_all, is_utf8}
use Rattle.std.proofs.lemmas.Str.{IsUtf8-from_is_utf8, IsUtf8-past_char, encodes-chars}
use Rattle.clap.specs.Faults.{bundle_fault, check_fault, defaults_fault, flags_fault, settle_fault, step_fault, turn_fault, use_fault, walk_fault}
use Rattle.clap.specs.Kinds.{Kinds, or_else}
use Rattle.clap.specs.Lexer.{long_of, short_of, short_of_rest}
use Rattle.clap.specs.Walk.{Held, Row, Waiting, Walk, arg_by_index, finished, idle, is_pending, option, positional, settled, settled_rows, to_positional, used, value, walked, with_default}
use Rattle.clap.specs.declared.error.kind.ErrorKind.{ErrorKind}
use Rattle.clap.specs.declared.error.kind.ErrorKind.TheVariants as kind
use Rattle.run_args.specs.Words.{is_option}
use Rattle.run_args.proofs.Loose.{dashes}
use Rattle.run_args.proofs.Rules.{rules, shape, opt, the_command, word_rule, long_known, long_unknown, id_known, no_default_faults, no_default_rows, text_itself, either_way}

abbrev Text : Type 0
Text = List ℕ

abbrev Long : Type 0
Long = Option (Text × Option Text)

abbrev pub Pending : Type 0
Pending = Option (Text × List Text)

abbrev pub holding : List Row → Pending → Held
holding rows p = record { rows = rows; pending = p; skip = 0 }

abbrev pub standing : List Row → Pending → Waiting → ℕ → Bool → Walk
standing rows p waiting position is_trailing = record { held = holding rows p; waiting = waiting; position = position; is_trailing = is_trailing; stopped = None }

-- ---- a word, by whether it is `--`, and by what the lexer makes of it

abbrev pub IsDashes : Text → Type 0
IsDashes word = bytes_eq word dashes ≡ true

abbrev pub IsLong : Text → Text → Option Text → Type 0
IsLong word name text = (bytes_eq word dashes ≡ false) × (long_of word ≡ Some (name, text))

abbrev pub IsShort : Text → Text → Type 0
IsShort word flags = (bytes_eq word dashes ≡ false) × (long_of word ≡ None) × (short_of word ≡ Some flags)

abbrev pub IsPlain : Text → Type 0
IsPlain word = (bytes_eq word dashes ≡ false) × (long_of word ≡ None) × (short_of word ≡ None)

module _ (rows : List Row) (p : Pending) (position : ℕ) (word : Text) where
  abbrev here : Waiting → Walk
  here waiting = standing rows p waiting position false

  pub dashes_pass : (waiting : Waiting) → IsDashes word → turn_fault shape [] (here waiting) word ≡ []
  dashes_pass idle is = rw is refl
  dashes_pass (option name) is = rw is refl
  dashes_pass positional is = rw is refl

  pub dashes_end : (waiting : Waiting) → IsDashes word → walked rules [] (here waiting) word ≡ standing rows p waiting position true
  unfolding walked
  dashes_end idle is = rw is refl
  dashes_end (option name) is = rw is refl
  dashes_end positional is = rw is refl

  pub unknown_fails : (name : Text) (text : Option Text) → IsLong word name text → is_option name ≡ false → turn_fault shape [] (here idle) word ≡ kind.UnknownArgument ∷ []
  unknown_fails name text is unknown = rw (is.0, is.1, long_unknown name unknown) refl

  pub option_turn : (name : Text) → IsLong word name None → is_option name ≡ true → turn_fault shape [] (here idle) word ≡ or_else (settle_fault rules false (holding rows p)) []
  option_turn name is known = rw (is.0, is.1, long_known name known) refl

  pub option_waits : (name : Text) → IsLong word name None → is_option name ≡ true → walked rules [] (here idle) word ≡ standing (settled_rows rules p rows) (Some (name, [])) (option name) position false
  unfolding walked
  option_waits name is known = rw (is.0, is.1, long_known name known) refl

  pub text_turn : (name text : Text) → IsLong word name (Some text) → is_option name ≡ true → turn_fault shape [] (here idle) word
      ≡ or_else (or_else (settle_fault rules false (holding rows p)) (use_fault false (opt name) (text ∷ []) (settled_rows rules p rows))) []
  text_turn name text is known = rw (is.0, is.1, long_known name known) refl

  pub text_is_used : (name text : Text) → IsLong word name (Some text) → is_option name ≡ true → walked rules [] (here idle) word ≡ standing (used (opt name) (text ∷ []) (settled_rows rules p rows)) None idle position false
  unfolding walked
  text_is_used name text is known = rw (is.0, is.1, long_known name known) refl

  pub plain_turn : IsPlain word → turn_fault shape [] (here idle) word ≡ step_fault shape position (holding rows p) value
  plain_turn is = rw (is.0, is.1, is.2) refl

  pub plain_walked : IsPlain word → walked rules [] (here idle) word ≡ to_positional rules (arg_by_index rules position) word (here idle) (holding rows p)
  unfolding walked
  plain_walked is = rw (is.0, is.1, is.2) refl

-- ---- a short flag, which the command has not

abbrev IsNil : List ℕ → Type 0
IsNil [] = Unit {0}
IsNil (x ∷ xs) = ⊥

-- the characters of a text that is not empty
some_chars : (x : ℕ) (xs : List ℕ) → IsUtf8 (x ∷ xs) → (c : ℕ) × (cs : List ℕ) × (chars (x ∷ xs) ≡ c ∷ cs)
some_chars x xs u = go (chars (x ∷ xs)) refl
  where
    go : (cs : List ℕ) → chars (x ∷ xs) ≡ cs → (c : ℕ) × (cs : List ℕ) × (chars (x ∷ xs) ≡ c ∷ cs)
    go [] e = absurd (subst IsNil (ap encode_utf8_all (sym e) ∙ encodes-chars (x ∷ xs) u) tt)
    go (c ∷ cs) e = (c, cs, e)

bundle_fails : (x : ℕ) (xs : List ℕ) (c : ℕ) (cs : List ℕ) (h : Held) → chars (x ∷ xs) ≡ c ∷ cs → h.skip ≡ 0 → bundle_fault rules false (x ∷ xs) h ≡ kind.UnknownArgument ∷ []
unfolding flags_fault
bundle_fails x xs c cs h is none = rw (is, none) refl

abbrev IsNone : Option (List ℕ) → Type 0
IsNone None = Unit {0}
IsNone (Some text) = ⊥

rest_text : (rest flags : List ℕ) → short_of_rest rest ≡ Some flags → (x : ℕ) × (xs : List ℕ) × (flags ≡ x ∷ xs) × (rest ≡ flags)
rest_text [] flags is = absurd (subst IsNone is tt)
rest_text (x ∷ xs) flags is = elim (either_way (x == 45)) [
  | inl e ↦ absurd (subst IsNone (rw e at is) tt)
  | inr e ↦ (x, xs, sym (ap (λ (o : Option (List ℕ)). unwrap_or o []) (rw e at is)), ap (λ (o : Option (List ℕ)). unwrap_or o []) (rw e at is))
]

-- what is behind the hyphen of a short flag
short_text : (word flags : List ℕ) → short_of word ≡ Some flags → (x : ℕ) × (xs : List ℕ) × (flags ≡ x ∷ xs) × (word ≡ 45 ∷ flags)
short_text [] flags is = absurd (subst IsNone is tt)
short_text (b ∷ rest) flags is = elim (either_way (b == 45)) [
  | inl e ↦
      let more = rest_text rest flags (rw e at is) in
      (more.0, more.1, more.2, ap (λ (c : ℕ). c ∷ rest) (eqb-true b 45 e) ∙ ap (λ (l : List ℕ). 45 ∷ l) more.3)
  | inr e ↦ absurd (subst IsNone (rw e at is) tt)
]

short_bundle : (word flags : List ℕ) (h : Held) → is_utf8 word ≡ true → short_of word ≡ Some flags → h.skip ≡ 0 → bundle_fault rules false flags h ≡ kind.UnknownArgument ∷ []
unfolding encode_utf8
short_bundle word flags h utf8 is none =
    let (x, xs, same, whole) = short_text word flags is in
    let later = IsUtf8-past_char word (x ∷ xs) 45 (IsUtf8-from_is_utf8 word utf8) (whole ∙ ap (λ (l : List ℕ). 45 ∷ l) same) in
    let (c, cs, first) = some_chars x xs later in
    subst (λ (f : List ℕ). bundle_fault rules false f h ≡ kind.UnknownArgument ∷ []) (sym same) (bundle_fails x xs c cs h first none)

pub short_fails : (rows : List Row) (p : Pending) (position : ℕ) (word flags : Text) → is_utf8 word ≡ true → IsShort word flags → turn_fault shape [] (standing rows p idle position false) word ≡ kind.UnknownArgument ∷ []
short_fails rows p position word flags utf8 is =
    let bundle = short_bundle word flags (holding rows p) utf8 is.2 refl in
    rw (is.0, is.1, is.2, bundle) refl

-- ---- a word where an option waits for its text

pub late_short_fails : (rows : List Row) (p : Pending) (name : Text) (position : ℕ) (word flags : Text) → is_utf8 word ≡ true → IsShort word flags
    → turn_fault shape [] (standing rows p (option name) position false) word ≡ kind.UnknownArgument ∷ []
late_short_fails rows p name position word flags utf8 is =
    let bundle = short_bundle word flags (holding rows p) utf8 is.2 refl in
    rw (is.0, is.1, is.2, bundle) refl

module _ (rows : List Row) (waits : Text) (position : ℕ) (word : Text) where
  abbrev there : Walk
  there = standing rows (Some (waits, [])) (option waits) position false

  abbrev NoText : Type 0
  NoText = settle_fault rules false (holding rows (Some (waits, []))) ≡ kind.InvalidValue ∷ []

  pub late_unknown_fails : (name : Text) (text : Option Text) → IsLong word name text → is_option name ≡ false → turn_fault shape [] there word ≡ kind.UnknownArgument ∷ []
  late_unknown_fails name text is unknown = rw (is.0, is.1, long_unknown name unknown) refl

  late_option_turn : (name : Text) → IsLong word name None → is_option name ≡ true → turn_fault shape [] there word ≡ or_else (settle_fault rules false (holding rows (Some (waits, [])))) []
  late_option_turn name is known = rw (is.0, is.1, long_known name known) refl

  late_text_turn : (name text : Text) → IsLong word name (Some text) → is_option name ≡ true → turn_fault shape [] there word
      ≡ or_else (or_else (settle_fault rules false (holding rows (Some (waits, [])))) (use_fault false (opt name) (text ∷ []) (settled_rows rules (Some (waits, [])) rows))) []
  late_text_turn name text is known = rw (is.0, is.1, long_known name known) refl

  pub late_known_fails : (name : Text) (text : Option Text) → NoText → IsLong word name text → is_option name ≡ true → turn_fault shape [] there word ≡ kind.InvalidValue ∷ []
  late_known_fails name None none is known = late_option_turn name is known ∙ ap (λ (k : Kinds). or_else k []) none
  late_known_fails name (Some text) none is known =
      late_text_turn name text is known ∙ ap (λ (k : Kinds). or_else (or_else k (use_fault false (opt name) (text ∷ []) (settled_rows rules (Some (waits, [])) rows))) []) none

  pub text_pass : IsPlain word → turn_fault shape [] there word ≡ []
  text_pass is = rw (is.0, is.1, is.2) refl

  pub text_taken : IsPlain word → is_option waits ≡ true → walked rules [] there word ≡ standing rows (Some (waits, word ∷ [])) idle position false
  unfolding walked
  text_taken is known = rw (is.0, is.1, is.2, id_known waits known, text_itself waits) refl

-- ---- a word behind `--`, and a word that is the command

module _ (rows : List Row) (p : Pending) (word : Text) where
  pub trailing_turn : (waiting : Waiting) (position : ℕ) → turn_fault shape [] (standing rows p waiting position true) word ≡ step_fault shape position (holding rows p) value
  trailing_turn waiting position = refl

  pub trailing_walked : (waiting : Waiting) (position : ℕ) → walked rules [] (standing rows p waiting position true) word ≡ to_positional rules (arg_by_index rules position) word (standing rows p waiting position true) (holding rows p)
  unfolding walked
  trailing_walked waiting position = refl

  pub first_turn : step_fault shape 1 (holding rows p) value ≡ settle_fault rules false (holding rows p)
  first_turn = elim (either_way (is_pending word_rule p)) [ inl e ↦ rw e refl | inr e ↦ rw e refl ]

  pub first_walked : (waiting : Waiting) (is_trailing : Bool) → to_positional rules (arg_by_index rules 1) word (standing rows p waiting 1 is_trailing) (holding rows p) ≡ standing (settled_rows rules p rows) (Some (the_command, word ∷ [])) idle 2 is_trailing
  first_walked waiting is_trailing = elim (either_way (is_pending word_rule p)) [ inl e ↦ rw (e, or-false is_trailing) refl | inr e ↦ rw (e, or-false is_trailing) refl ]

  pub second_fails : step_fault shape 2 (holding rows p) value ≡ kind.UnknownArgument ∷ []
  second_fails = refl

-- ---- the end of the walk, and the walk over what is left

abbrev pub end_fault : Held → Kinds
end_fault h = or_else (settle_fault rules false h) (or_else (defaults_fault (settled rules h).rows rules) (check_fault shape (finished rules h) false))

abbrev pub clean : {A : Type 0} → Kinds → A → Option A
clean [] a = Some a
clean (k ∷ ks) a = None

-- the rows at the end, where no word and nothing behind the words is a fault
abbrev pub outcome : Walk → List Text → Option (List Row)
outcome w words =
    clean (or_else (walk_fault shape [] w words) (end_fault (fold (walked rules []) w words).held)) (finished rules (fold (walked rules []) w words).held)

pub goes_on : (w next : Walk) (word : Text) (words : List Text) → turn_fault shape [] w word ≡ [] → walked rules [] w word ≡ next → outcome w (word ∷ words) ≡ outcome next words
unfolding walk_fault
goes_on w next word words good is =
    ap (λ (k : Kinds). clean (or_else (or_else k (walk_fault shape [] (walked rules [] w word) words)) (end_fault (fold (walked rules []) (walked rules [] w word) words).held)) (finished rules (fold (walked rules []) (walked rules [] w word) words).held)) good
    ∙ ap (λ (x : Walk). outcome x words) is

pub fails : (w : Walk) (word : Text) (words : List Text) (k : ErrorKind) (ks : Kinds) → turn_fault shape [] w word ≡ k ∷ ks → outcome w (word ∷ words) ≡ None
unfolding walk_fault
fails w word words k ks bad =
    ap (λ (k : Kinds). clean (or_else (or_else k (walk_fault shape [] (walked rules [] w word) words)) (end_fault (fold (walked rules []) (walked rules [] w word) words).held)) (finished rules (fold (walked rules []) (walked rules [] w word) words).held)) bad

-- ---- no word is left

clean_first : (k : Kinds) (rows : List Row) → clean (or_else k []) rows ≡ clean k rows
clean_first [] rows = refl
clean_first (k ∷ ks) rows = refl

pub end_of : (rows : List Row) (p : Pending) (waiting : Waiting) (position : ℕ) (is_trailing : Bool)
    → outcome (standing rows p waiting position is_trailing) [] ≡ clean (settle_fault rules false (holding rows p)) (settled_rows rules p rows)
unfolding walk_fault
end_of rows p waiting position is_trailing =
    ap (λ (k : Kinds). clean (or_else (settle_fault rules false (holding rows p)) (or_else k [])) (fold with_default (settled_rows rules p rows) rules)) (no_default_faults (settled_rows rules p rows))
    ∙ ap (λ (r : List Row). clean (or_else (settle_fault rules false (holding rows p)) []) r) (no_default_rows (settled_rows rules p rows))
    ∙ clean_first (settle_fault rules false (holding rows p)) (settled_rows rules p rows)
