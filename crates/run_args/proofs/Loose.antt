-- What words say with no look at the forms of their texts, as clap reads them.
use Rattle.std.proofs.Common.{ℕ, Bool, true, false, List, [], ◌∷◌, Option, Some, None}
use Rattle.std.specs.Prelude.{if◌then◌else◌, bytes_eq}
use Rattle.clap.specs.Lexer.{long_of, short_of}
use Rattle.run_args.specs.Words.{NamedText, is_option}
use Rattle.run_args.proofs.Rules.{the_command}

-- an option waits for its text, or `--` has ended the options
pub data Mode : Type 0 where
  ready : Mode
  waits : List ℕ → Mode
  ended : Mode

abbrev pub dashes : List ℕ
dashes = 45 ∷ 45 ∷ []

abbrev pub and_said : NamedText → Option (List NamedText) → Option (List NamedText)
and_said s None = None
and_said s (Some said) = Some (s ∷ said)

abbrev pub by_value : List ℕ → Option (List ℕ) → (Mode → Option (List NamedText)) → Option (List NamedText)
by_value name None next = next (waits name)
by_value name (Some text) next = and_said (name, text) (next ready)

-- a word, by whether it is `--`, and by what clap's lexer makes of it
abbrev pub ready_by : Bool → Option (List ℕ × Option (List ℕ)) → Option (List ℕ) → List ℕ → (Mode → Option (List NamedText)) → Option (List NamedText)
ready_by true long short word next = next ended
ready_by false (Some p) short word next = if is_option p.0 then by_value p.0 p.1 next else None
ready_by false None (Some flags) word next = None
ready_by false None None word next = and_said (the_command, word) (next ready)

abbrev pub waits_by : Bool → Option (List ℕ × Option (List ℕ)) → Option (List ℕ) → List ℕ → List ℕ → (Mode → Option (List NamedText)) → Option (List NamedText)
waits_by true long short name word next = None
waits_by false (Some p) short name word next = None
waits_by false None (Some flags) name word next = None
waits_by false None None name word next = and_said (name, word) (next ready)

abbrev pub loose : List (List ℕ) → Mode → Option (List NamedText)
loose [] ready = Some []
loose [] (waits name) = None
loose [] ended = Some []
loose (w ∷ ws) ready = ready_by (bytes_eq w dashes) (long_of w) (short_of w) w (loose ws)
loose (w ∷ ws) (waits name) = waits_by (bytes_eq w dashes) (long_of w) (short_of w) name w (loose ws)
loose (w ∷ ws) ended = and_said (the_command, w) (loose ws ended)
