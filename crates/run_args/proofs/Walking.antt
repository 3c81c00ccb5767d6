-- Clap's walk over the words gives what they say, and fails exactly where they say nothing or one thing twice.
use Rattle.std.proofs.Common.{◌≡◌, ◌⊎◌, inl, inr, ℕ, Bool, true, false, not, ◌||◌, List, [], ◌∷◌, ◌++◌, map, Option, Some, None, refl, sym, ap, subst, ◌∙◌}
use Rattle.std.specs.Prelude.{if◌then◌else◌, bytes_eq}
use Rattle.std.specs.List.{list_all}
use Rattle.std.specs.Str.{is_utf8}
use Rattle.std.proofs.Math.Bool.{and-false, or-false, or-true}
use Rattle.std.proofs.lemmas.Bool.{and_parts, or_parts, not-true, false≢true}
use Rattle.std.proofs.lemmas.Slice.Eq.{bytes_eq-Decides}
use Rattle.std.proofs.lemmas.List.{append-nil, append_assoc}
use Rattle.std.proofs.lemmas.List.Folds.{list_any-append}
use Rattle.clap.specs.Faults.{settle_fault, step_fault, turn_fault, use_fault}
use Rattle.clap.specs.Kinds.{Kinds, or_else}
use Rattle.clap.specs.Lexer.{long_of, short_of}
use Rattle.clap.specs.Walk.{Row, Waiting, arg_by_index, idle, option, settled_rows, to_positional, used, value, walked}
use Rattle.clap.specs.declared.error.kind.ErrorKind.TheVariants as kind
use Rattle.run_args.specs.Words.{NamedText, is_option, has, are_distinct}
use Rattle.run_args.proofs.Loose.{dashes, loose, ready, waits, ended, and_said, by_value, ready_by, waits_by}
use Rattle.run_args.proofs.Rules.{IsArg, rules, shape, row, once_opt, opt, twice, the_command, the_word, an_option, has_row_is, one_row_more, either_way}
use Rattle.run_args.proofs.Turns.{Pending, holding, standing, outcome, clean, goes_on, fails, end_of, trailing_turn, trailing_walked, first_turn, first_walked, second_fails, dashes_pass, dashes_end, unknown_fails, option_turn, option_waits, text_turn, text_is_used, plain_turn, plain_walked, short_fails, late_short_fails, late_known_fails, late_unknown_fails, text_pass, text_taken}

-- ---- what was said last may not be settled yet

abbrev pub pending : Option NamedText → Pending
pending None = None
pending (Some s) = Some (s.0, s.1 ∷ [])

abbrev pub last : Option NamedText → List NamedText
last None = []
last (Some s) = s ∷ []

abbrev IsKnown : Option NamedText → Type 0
IsKnown None = Unit {0}
IsKnown (Some s) = IsArg s.0

abbrev clashes : List NamedText → Option NamedText → Bool
clashes said None = false
clashes said (Some s) = has s.0 said

settles_with : (said : List NamedText) (p : Option NamedText) → IsKnown p → settle_fault rules false (holding (map row said) (pending p)) ≡ twice (clashes said p)
settles_with said None known = refl
settles_with said (Some s) known = rw known.found (known.once s.1 (map row said) ∙ ap twice (has_row_is s.0 said))

settles_to : (said : List NamedText) (p : Option NamedText) → IsKnown p → clashes said p ≡ false → settled_rows rules (pending p) (map row said) ≡ map row (said ++ last p)
settles_to said None known none = ap (map row) (sym (append-nil said))
settles_to said (Some s) known none = rw known.found (known.uses s.1 (map row said) ∙ one_row_more said s none)

settles_empty : (said : List NamedText) (name : List ℕ) → IsArg name → settle_fault rules false (holding (map row said) (Some (name, []))) ≡ kind.InvalidValue ∷ []
settles_empty said name known = rw known.found (known.empty (map row said))

-- ---- what is said in all

abbrev pub once : List NamedText → Option (List Row)
once said = if are_distinct said then Some (map row said) else None

abbrev pub result : List NamedText → Option NamedText → Option (List NamedText) → Option (List Row)
result said p None = None
result said p (Some more) = once (said ++ (last p ++ more))

settled_first : (said : List NamedText) (p : Option NamedText) (more : Option (List NamedText)) → result (said ++ last p) None more ≡ result said p more
settled_first said p None = refl
settled_first said p (Some more) = ap once (append_assoc said (last p) more)

said_next : (said : List NamedText) (s : NamedText) (more : Option (List NamedText)) → result said (Some s) more ≡ result said None (and_said s more)
said_next said s None = refl
said_next said s (Some more) = refl

-- a name stands twice
has_later : (front : List NamedText) (s : NamedText) (rest : List NamedText) (name : List ℕ) → bytes_eq s.0 name ≡ true → has name (front ++ s ∷ rest) ≡ true
has_later [] s rest name is = rw is refl
has_later (f ∷ front) s rest name is = rw (has_later front s rest name is) (or-true (bytes_eq f.0 name))

same_way : (a b : List ℕ) → bytes_eq a b ≡ true → bytes_eq b a ≡ true
same_way a b is = let e = (bytes_eq-Decides a b).0 is in (bytes_eq-Decides b a).1 (sym e)

not_distinct : (said : List NamedText) (s : NamedText) (rest : List NamedText) → has s.0 said ≡ true → are_distinct (said ++ s ∷ rest) ≡ false
not_distinct [] s rest is = absurd (false≢true is)
not_distinct (f ∷ said) s rest is = elim (either_way (bytes_eq f.0 s.0)) [
  | inl e ↦ rw (has_later said s rest f.0 (same_way f.0 s.0 e)) refl
  | inr e ↦ rw (not_distinct said s rest (rw e at is)) (and-false (not (has f.0 (said ++ s ∷ rest))))
]

twice_fails : (said : List NamedText) (s : NamedText) (more : Option (List NamedText)) → has s.0 said ≡ true → result said None (and_said s more) ≡ None
twice_fails said s None is = refl
twice_fails said s (Some more) is = rw (not_distinct said s more is) refl

clash_fails : (said : List NamedText) (p : Option NamedText) (more : Option (List NamedText)) → clashes said p ≡ true → result said p more ≡ None
clash_fails said None more is = absurd (false≢true is)
clash_fails said (Some s) more is = said_next said s more ∙ twice_fails said s more is

other_way : (a b : List ℕ) → bytes_eq a b ≡ false → bytes_eq b a ≡ false
other_way a b is = elim (either_way (bytes_eq b a)) [ inl e ↦ absurd (false≢true (sym is ∙ same_way b a e)) | inr e ↦ e ]

has_append : (name : List ℕ) (front back : List NamedText) → has name (front ++ back) ≡ (has name front || has name back)
has_append name front back = list_any-append (λ (s : NamedText). bytes_eq s.0 name) front back

distinct_more : (said : List NamedText) (s : NamedText) → are_distinct said ≡ true → has s.0 said ≡ false → are_distinct (said ++ s ∷ []) ≡ true
distinct_more [] s are none = refl
distinct_more (f ∷ said) s are none =
    let both = and_parts (not (has f.0 said)) (are_distinct said) are in
    let neither = or_parts (bytes_eq f.0 s.0) (has s.0 said) none in
    rw (has_append f.0 said (s ∷ []), not-true (has f.0 said) both.0, other_way f.0 s.0 neither.0, distinct_more said s both.1 neither.1) refl

-- the same of what was said last
distinct_last : (said : List NamedText) (p : Option NamedText) → are_distinct said ≡ true → clashes said p ≡ false → are_distinct (said ++ last p) ≡ true
distinct_last said None are none = rw (append-nil said) are
distinct_last said (Some s) are none = distinct_more said s are none

-- ---- where the walk stands

abbrev place_of : List NamedText → ℕ
place_of said = if has the_command said then 2 else 1

place_behind_command : (said : List NamedText) (word : List ℕ) → place_of (said ++ (the_command, word) ∷ []) ≡ 2
place_behind_command said word = rw (has_later said (the_command, word) [] the_command refl) refl

no_command : (name : List ℕ) → is_option name ≡ true → bytes_eq name the_command ≡ false
no_command name is = elim (either_way (bytes_eq name the_command)) [
  | inl e ↦ absurd (false≢true (subst (λ (n : List ℕ). is_option n ≡ true) ((bytes_eq-Decides name the_command).0 e) is))
  | inr e ↦ e
]

place_behind_option : (said : List NamedText) (name text : List ℕ) → is_option name ≡ true → place_of (said ++ (name, text) ∷ []) ≡ place_of said
place_behind_option said name text is = rw (has_append the_command said ((name, text) ∷ []), no_command name is, or-false (has the_command said)) refl

-- ---- the end

end_says : (said : List NamedText) (p : Option NamedText) (waiting : Waiting) (position : ℕ) (is_trailing : Bool) → IsKnown p → are_distinct said ≡ true
    → outcome (standing (map row said) (pending p) waiting position is_trailing) [] ≡ result said p (Some [])
end_says said p waiting position is_trailing known are =
    end_of (map row said) (pending p) waiting position is_trailing ∙ elim (either_way (clashes said p)) [
      | inl e ↦ ap (λ (k : Kinds). clean k (settled_rows rules (pending p) (map row said))) (settles_with said p known ∙ ap twice e) ∙ sym (clash_fails said p (Some []) e)
      | inr e ↦
          ap (λ (k : Kinds). clean k (settled_rows rules (pending p) (map row said))) (settles_with said p known ∙ ap twice e)
          ∙ ap Some (settles_to said p known e) ∙ sym (rw (append-nil (last p), distinct_last said p are e) refl)
    ]

-- ---- a word that is the command

abbrev Says : List (List ℕ) → Bool → Option (List NamedText) → Type 0
Says ws is_trailing more = (said : List NamedText) (p : Option NamedText) (position : ℕ) → IsKnown p → are_distinct said ≡ true → position ≡ place_of (said ++ last p)
    → outcome (standing (map row said) (pending p) idle position is_trailing) ws ≡ result said p more

command_says : (w : List ℕ) (ws : List (List ℕ)) (is_trailing : Bool) (more : Option (List NamedText)) → Says ws is_trailing more
    → (said : List NamedText) (p : Option NamedText) (waiting : Waiting) (position : ℕ) → IsKnown p → are_distinct said ≡ true → position ≡ place_of (said ++ last p)
    → turn_fault shape [] (standing (map row said) (pending p) waiting position is_trailing) w ≡ step_fault shape position (holding (map row said) (pending p)) value
    → walked rules [] (standing (map row said) (pending p) waiting position is_trailing) w
    ≡ to_positional rules (arg_by_index rules position) w (standing (map row said) (pending p) waiting position is_trailing) (holding (map row said) (pending p))
    → outcome (standing (map row said) (pending p) waiting position is_trailing) (w ∷ ws) ≡ result said p (and_said (the_command, w) more)
command_says w ws is_trailing more later said p waiting position known are place turn walk = elim (either_way (has the_command (said ++ last p))) [
  | inl e ↦ second e (place ∙ ap (λ (b : Bool). if b then 2 else 1) e)
  | inr e ↦ first e (place ∙ ap (λ (b : Bool). if b then 2 else 1) e)
]
  where
    second : has the_command (said ++ last p) ≡ true → position ≡ 2 → outcome (standing (map row said) (pending p) waiting position is_trailing) (w ∷ ws) ≡ result said p (and_said (the_command, w) more)
    second e at =
        fails _ w ws kind.UnknownArgument [] (turn ∙ ap (λ (n : ℕ). step_fault shape n (holding (map row said) (pending p)) value) at ∙ second_fails (map row said) (pending p) w)
        ∙ sym (sym (settled_first said p (and_said (the_command, w) more)) ∙ twice_fails (said ++ last p) (the_command, w) more e)

    settled_turn : position ≡ 1 → turn_fault shape [] (standing (map row said) (pending p) waiting position is_trailing) w ≡ twice (clashes said p)
    settled_turn at = turn ∙ ap (λ (n : ℕ). step_fault shape n (holding (map row said) (pending p)) value) at ∙ first_turn (map row said) (pending p) w ∙ settles_with said p known

    next_walk : position ≡ 1 → clashes said p ≡ false → walked rules [] (standing (map row said) (pending p) waiting position is_trailing) w ≡ standing (map row (said ++ last p)) (pending (Some (the_command, w))) idle 2 is_trailing
    next_walk at e =
        walk ∙ ap (λ (n : ℕ). to_positional rules (arg_by_index rules n) w (standing (map row said) (pending p) waiting n is_trailing) (holding (map row said) (pending p))) at
        ∙ first_walked (map row said) (pending p) w waiting is_trailing
        ∙ ap (λ (r : List Row). standing r (Some (the_command, w ∷ [])) idle 2 is_trailing) (settles_to said p known e)

    first : has the_command (said ++ last p) ≡ false → position ≡ 1 → outcome (standing (map row said) (pending p) waiting position is_trailing) (w ∷ ws) ≡ result said p (and_said (the_command, w) more)
    first none at = elim (either_way (clashes said p)) [
      | inl e ↦ fails _ w ws kind.ArgumentConflict [] (settled_turn at ∙ ap twice e) ∙ sym (clash_fails said p (and_said (the_command, w) more) e)
      | inr e ↦
          goes_on _ _ w ws (settled_turn at ∙ ap twice e) (next_walk at e)
          ∙ later (said ++ last p) (Some (the_command, w)) 2 the_word (distinct_last said p are e) (sym (place_behind_command (said ++ last p) w))
          ∙ said_next (said ++ last p) (the_command, w) more ∙ settled_first said p (and_said (the_command, w) more)
    ]

-- ---- behind `--`

ended_says : (ws : List (List ℕ)) (waiting : Waiting) (said : List NamedText) (p : Option NamedText) (position : ℕ) → IsKnown p → are_distinct said ≡ true → position ≡ place_of (said ++ last p)
    → outcome (standing (map row said) (pending p) waiting position true) ws ≡ result said p (loose ws ended)
ended_says [] waiting said p position known are place = end_says said p waiting position true known are
ended_says (w ∷ ws) waiting said p position known are place =
    command_says w ws true (loose ws ended) (λ s q at k a e. ended_says ws idle s q at k a e) said p waiting position known are place
    (trailing_turn (map row said) (pending p) w waiting position) (trailing_walked (map row said) (pending p) w waiting position)

-- an option without a text stays without one
late_ended : (ws : List (List ℕ)) (waiting : Waiting) (said : List NamedText) (name : List ℕ) (position : ℕ) → IsArg name → position ≡ place_of said
    → outcome (standing (map row said) (Some (name, [])) waiting position true) ws ≡ None
late_ended [] waiting said name position known place =
    end_of (map row said) (Some (name, [])) waiting position true
    ∙ ap (λ (k : Kinds). clean k (settled_rows rules (Some (name, [])) (map row said))) (settles_empty said name known)
late_ended (w ∷ ws) waiting said name position known place = elim (either_way (has the_command said)) [
  | inl e ↦ fails _ w ws kind.UnknownArgument [] (trailing_turn (map row said) (Some (name, [])) w waiting position ∙ ap (λ (n : ℕ). step_fault shape n (holding (map row said) (Some (name, []))) value) (place ∙ ap (λ (b : Bool). if b then 2 else 1) e) ∙ second_fails (map row said) (Some (name, [])) w)
  | inr e ↦ fails _ w ws kind.InvalidValue [] (trailing_turn (map row said) (Some (name, [])) w waiting position ∙ ap (λ (n : ℕ). step_fault shape n (holding (map row said) (Some (name, []))) value) (place ∙ ap (λ (b : Bool). if b then 2 else 1) e) ∙ first_turn (map row said) (Some (name, [])) w ∙ settles_empty said name known)
]

-- ---- where an option waits for its text

abbrev Waits : List (List ℕ) → Type 0
Waits ws = (said : List NamedText) (name : List ℕ) (position : ℕ) → is_option name ≡ true → are_distinct said ≡ true → position ≡ place_of said
    → outcome (standing (map row said) (Some (name, [])) (option name) position false) ws ≡ result said None (loose ws (waits name))

no_words_wait : Waits []
no_words_wait said name position is are place =
    end_of (map row said) (Some (name, [])) (option name) position false
    ∙ ap (λ (k : Kinds). clean k (settled_rows rules (Some (name, [])) (map row said))) (settles_empty said name (an_option name is))

word_waits : (w : List ℕ) (ws : List (List ℕ)) → is_utf8 w ≡ true → Says ws false (loose ws ready) → Waits (w ∷ ws)
word_waits w ws utf8 later said name position is are place = go (bytes_eq w dashes) (long_of w) (short_of w) refl refl refl
  where
    go : (dashed : Bool) (long : Option (List ℕ × Option (List ℕ))) (short : Option (List ℕ)) → bytes_eq w dashes ≡ dashed → long_of w ≡ long → short_of w ≡ short
        → outcome (standing (map row said) (Some (name, [])) (option name) position false) (w ∷ ws) ≡ result said None (waits_by dashed long short name w (loose ws))
    go true long short eb el es =
        goes_on _ _ w ws (dashes_pass (map row said) (Some (name, [])) position w (option name) eb) (dashes_end (map row said) (Some (name, [])) position w (option name) eb)
        ∙ late_ended ws (option name) said name position (an_option name is) place
    go false (Some (other, text)) short eb el es = elim (either_way (is_option other)) [
      | inl e ↦ fails _ w ws kind.InvalidValue [] (late_known_fails (map row said) name position w other text (settles_empty said name (an_option name is)) (eb, el) e)
      | inr e ↦ fails _ w ws kind.UnknownArgument [] (late_unknown_fails (map row said) name position w other text (eb, el) e)
    ]
    go false None (Some flags) eb el es = fails _ w ws kind.UnknownArgument [] (late_short_fails (map row said) (Some (name, [])) name position w flags utf8 (eb, el, es))
    go false None None eb el es =
        goes_on _ _ w ws (text_pass (map row said) name position w (eb, el, es)) (text_taken (map row said) name position w (eb, el, es) is)
        ∙ later said (Some (name, w)) position (an_option name is) are (place ∙ sym (place_behind_option said name w is))
        ∙ said_next said (name, w) (loose ws ready)

-- ---- where nothing waits

no_words_say : Says [] false (Some [])
no_words_say said p position known are place = end_says said p idle position false known are

word_says : (w : List ℕ) (ws : List (List ℕ)) → is_utf8 w ≡ true → Says ws false (loose ws ready) → Waits ws → Says (w ∷ ws) false (loose (w ∷ ws) ready)
word_says w ws utf8 later waiting said p position known are place = go (bytes_eq w dashes) (long_of w) (short_of w) refl refl refl
  where
    clash : (more : Option (List NamedText)) → clashes said p ≡ true → turn_fault shape [] (standing (map row said) (pending p) idle position false) w ≡ kind.ArgumentConflict ∷ []
        → outcome (standing (map row said) (pending p) idle position false) (w ∷ ws) ≡ result said p more
    clash more e turn = fails _ w ws kind.ArgumentConflict [] turn ∙ sym (clash_fails said p more e)

    given_turn : (name text : List ℕ) → bytes_eq w dashes ≡ false → long_of w ≡ Some (name, Some text) → is_option name ≡ true → clashes said p ≡ false
        → turn_fault shape [] (standing (map row said) (pending p) idle position false) w ≡ or_else (twice (has name (said ++ last p))) []
    given_turn name text eb el is e =
        text_turn (map row said) (pending p) position w name text (eb, el) is
        ∙ ap (λ (k : Kinds). or_else (or_else k (use_fault false (opt name) (text ∷ []) (settled_rows rules (pending p) (map row said)))) []) (settles_with said p known ∙ ap twice e)
        ∙ ap (λ (r : List Row). or_else (use_fault false (opt name) (text ∷ []) r) []) (settles_to said p known e)
        ∙ ap (λ (k : Kinds). or_else k []) (once_opt name text (map row (said ++ last p)) ∙ ap twice (has_row_is name (said ++ last p)))

    given : (name text : List ℕ) → bytes_eq w dashes ≡ false → long_of w ≡ Some (name, Some text) → is_option name ≡ true → clashes said p ≡ false → (has name (said ++ last p) ≡ true) ⊎ (has name (said ++ last p) ≡ false)
        → outcome (standing (map row said) (pending p) idle position false) (w ∷ ws) ≡ result said p (and_said (name, text) (loose ws ready))
    given name text eb el is e (inl d) =
        fails _ w ws kind.ArgumentConflict [] (given_turn name text eb el is e ∙ ap (λ (b : Bool). or_else (twice b) []) d)
        ∙ sym (sym (settled_first said p (and_said (name, text) (loose ws ready))) ∙ twice_fails (said ++ last p) (name, text) (loose ws ready) d)
    given name text eb el is e (inr d) =
        goes_on _ _ w ws (given_turn name text eb el is e ∙ ap (λ (b : Bool). or_else (twice b) []) d)
        (text_is_used (map row said) (pending p) position w name text (eb, el) is
        ∙ ap (λ (r : List Row). standing (used (opt name) (text ∷ []) r) None idle position false) (settles_to said p known e)
        ∙ ap (λ (r : List Row). standing r None idle position false) (one_row_more (said ++ last p) (name, text) d))
        ∙ later ((said ++ last p) ++ (name, text) ∷ []) None position tt (distinct_more (said ++ last p) (name, text) (distinct_last said p are e) d)
        (place ∙ sym (place_behind_option (said ++ last p) name text is) ∙ ap place_of (sym (append-nil ((said ++ last p) ++ (name, text) ∷ []))))
        ∙ settled_first (said ++ last p) (Some (name, text)) (loose ws ready) ∙ said_next (said ++ last p) (name, text) (loose ws ready)
        ∙ settled_first said p (and_said (name, text) (loose ws ready))

    named : (name : List ℕ) (text : Option (List ℕ)) → bytes_eq w dashes ≡ false → long_of w ≡ Some (name, text) → is_option name ≡ true
        → outcome (standing (map row said) (pending p) idle position false) (w ∷ ws) ≡ result said p (by_value name text (loose ws))
    named name None eb el is =
        let turn = option_turn (map row said) (pending p) position w name (eb, el) is in
        elim (either_way (clashes said p)) [
          | inl e ↦ clash (loose ws (waits name)) e (turn ∙ ap (λ (k : Kinds). or_else k []) (settles_with said p known ∙ ap twice e))
          | inr e ↦
              goes_on _ _ w ws (turn ∙ ap (λ (k : Kinds). or_else k []) (settles_with said p known ∙ ap twice e))
              (option_waits (map row said) (pending p) position w name (eb, el) is ∙ ap (λ (r : List Row). standing r (Some (name, [])) (option name) position false) (settles_to said p known e))
              ∙ waiting (said ++ last p) name position is (distinct_last said p are e) place
              ∙ settled_first said p (loose ws (waits name))
        ]
    named name (Some text) eb el is = elim (either_way (clashes said p)) [
      | inl e ↦ clash (and_said (name, text) (loose ws ready)) e
          (text_turn (map row said) (pending p) position w name text (eb, el) is
          ∙ ap (λ (k : Kinds). or_else (or_else k (use_fault false (opt name) (text ∷ []) (settled_rows rules (pending p) (map row said)))) []) (settles_with said p known ∙ ap twice e))
      | inr e ↦ given name text eb el is e (either_way (has name (said ++ last p)))
    ]

    go : (dashed : Bool) (long : Option (List ℕ × Option (List ℕ))) (short : Option (List ℕ)) → bytes_eq w dashes ≡ dashed → long_of w ≡ long → short_of w ≡ short
        → outcome (standing (map row said) (pending p) idle position false) (w ∷ ws) ≡ result said p (ready_by dashed long short w (loose ws))
    go true long short eb el es =
        goes_on _ _ w ws (dashes_pass (map row said) (pending p) position w idle eb) (dashes_end (map row said) (pending p) position w idle eb)
        ∙ ended_says ws idle said p position known are place
    go false (Some (name, text)) short eb el es = elim (either_way (is_option name)) [
      | inl e ↦ named name text eb el e ∙ sym (rw e refl)
      | inr e ↦ fails _ w ws kind.UnknownArgument [] (unknown_fails (map row said) (pending p) position w name text (eb, el) e) ∙ sym (rw e refl)
    ]
    go false None (Some flags) eb el es = fails _ w ws kind.UnknownArgument [] (short_fails (map row said) (pending p) position w flags utf8 (eb, el, es))
    go false None None eb el es =
        command_says w ws false (loose ws ready) later said p idle position known are place
        (plain_turn (map row said) (pending p) position w (eb, el, es)) (plain_walked (map row said) (pending p) position w (eb, el, es))

-- ---- all words

walk_says : (ws : List (List ℕ)) → list_all is_utf8 ws ≡ true → Says ws false (loose ws ready) × Waits ws
walk_says [] utf8 = (no_words_say, no_words_wait)
walk_says (w ∷ ws) utf8 =
    let both = and_parts (is_utf8 w) (list_all is_utf8 ws) utf8 in
    let later = walk_says ws both.1 in
    (word_says w ws both.0 later.0 later.1, word_waits w ws both.0 later.0)

pub words_say : (ws : List (List ℕ)) → list_all is_utf8 ws ≡ true → outcome (standing [] None idle 1 false) ws ≡ result [] None (loose ws ready)
words_say ws utf8 = (walk_says ws utf8).0 [] None 1 tt refl refl
