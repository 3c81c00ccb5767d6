-- Which words are a command, and what they say.
use Rattle.std.specs.Prelude.{◌≡◌, ℕ, Bool, true, not, ◌&&◌, ◌||◌, ◌==◌, nat_le, if◌then◌else◌, List, [], ◌∷◌, length, find, codes, bytes_eq, Option, Some, None, is_some, unwrap_or, option_map, Result, Ok, Err}
use Rattle.std.specs.Char.{is_ascii_digit}
use Rattle.std.specs.List.{list_all, list_any, before_first, after_first}
use Rattle.std.specs.Result.{result_ok}
use Rattle.std.specs.Str.{is_utf8}
use Rattle.hex.specs.Hex.{decode_of}
use Rattle.dl_base.specs.Name.{name_test}
use Rattle.dl_base.specs.declared.step.Settings.{Settings}
use Rattle.dl_base.specs.Digits.{number_in}
use Rattle.dl_base.specs.Steps.{◌>>=◌}
use Rattle.run_args.specs.declared.fault.WordsFault.{WordsFault}
use Rattle.run_args.specs.declared.fault.WordsFault.TheVariants.{Usage, Memory}

-- ---- values

abbrev pub is_lower : ℕ → Bool
is_lower b = nat_le 97 b && nat_le b 122

abbrev pub is_server_byte : ℕ → Bool
is_server_byte b = is_lower b || is_ascii_digit b

-- a server: a name of lower-case letters and digits alone, so a letter and at most 63 more of them
unfoldable pub is_server : List ℕ → Bool
is_server text = name_test text && list_all is_server_byte text

abbrev pub server_in : List ℕ → Option (List ℕ)
server_in text = if is_server text then Some text else None

-- a key: 64 hexadecimal digits
unfoldable pub key_in : List ℕ → Option (List ℕ)
key_in text = if length text == 64 then result_ok (decode_of text) else None

-- ---- the words, each with its text

-- The five options by name, and `command`, under which the command itself stands among them. What is said is a name with its
-- text: `--now 5` and `--now=5` say that `now` is `5`, and `run` that the command is `run`.
abbrev pub NamedText : Type 0
NamedText = List ℕ × List ℕ

abbrev pub options : List (List ℕ)
options = codes "server" ∷ codes "key" ∷ codes "now" ∷ codes "life" ∷ codes "area" ∷ []

abbrev pub is_option : List ℕ → Bool
is_option name = list_any (λ o. bytes_eq o name) options

-- the last moment that may be given, the longest life of a token, both in seconds, and the most bytes of an area
abbrev pub most_moment : ℕ
most_moment = 9007199254740992

abbrev pub most_life : ℕ
most_life = 1000000000

abbrev pub most_area_bytes : ℕ
most_area_bytes = 1099511627776

-- the text is in the form of what has this name; no other name is said
abbrev pub is_form : List ℕ → List ℕ → Bool
is_form name text =
    if bytes_eq (codes "server") name then is_server text
    else (if bytes_eq (codes "key") name then is_some (key_in text)
    else (if bytes_eq (codes "now") name then is_some (number_in 20 0 most_moment text)
    else (if bytes_eq (codes "life") name then is_some (number_in 20 1 most_life text)
    else (if bytes_eq (codes "area") name then is_some (number_in 20 1 most_area_bytes text)
    else (if bytes_eq (codes "command") name then bytes_eq text (codes "run")
    else true)))))

-- what follows a first byte
abbrev pub behind : ℕ → List ℕ → Option (List ℕ)
behind b [] = None
behind b (x ∷ xs) = if x == b then Some xs else None

abbrev pub nonempty : List ℕ → Option (List ℕ)
nonempty [] = None
nonempty (x ∷ xs) = Some (x ∷ xs)

-- what follows two hyphens (45), if that is anything
abbrev pub behind_hyphens : List ℕ → Option (List ℕ)
behind_hyphens word = do
  rest ← behind 45 word
  more ← behind 45 rest
  nonempty more

-- what stands before the first `=` (61), and what stands behind it if there is one
abbrev pub name_of : List ℕ → List ℕ
name_of text = before_first (λ b. b == 61) text

abbrev pub text_of : List ℕ → Option (List ℕ)
text_of text = if list_any (λ b. b == 61) text then Some (after_first (λ b. b == 61) text) else None

-- one thing more is said, where it and all behind it are in their forms
abbrev pub with : List ℕ → List ℕ → Option (List NamedText) → Option (List NamedText)
with name text more = if is_form name text then (do
  said ← more
  Some ((name, text) ∷ said)) else None

-- behind a lone `--` each word is the command
abbrev pub commands : List (List ℕ) → Option (List NamedText)
commands [] = Some []
commands (w ∷ ws) = with (codes "command") w (commands ws)

-- a word that is an option: with its text, or before it. `next` is what the words behind it say, an option waiting or none.
abbrev pub by_text : List ℕ → Option (List ℕ) → (Option (List ℕ) → Option (List NamedText)) → Option (List NamedText)
by_text name None next = next (Some name)
by_text name (Some text) next = with name text (next None)

abbrev pub by_name : Option (List ℕ) → (Option (List ℕ) → Option (List NamedText)) → Option (List NamedText)
by_name None next = None
by_name (Some rest) next = if is_option (name_of rest) then by_text (name_of rest) (text_of rest) next else None

-- What words say, in order, where an option before them may wait for its text. None where a word is in no form: it is neither
-- `run`, nor an option, nor the text of one, nor the lone `--` that ends the options.
abbrev pub said_in : List (List ℕ) → Option (List ℕ) → Option (List NamedText)
said_in [] None = Some []
said_in [] (Some name) = None
said_in (w ∷ ws) (Some name) = with name w (said_in ws None)
said_in (w ∷ ws) None =
    if bytes_eq w (codes "run") then with (codes "command") w (said_in ws None)
    else (if bytes_eq w (codes "--") then commands ws
    else by_name (behind_hyphens w) (λ waiting. said_in ws waiting))

-- nothing is said twice
abbrev pub has : List ℕ → List NamedText → Bool
has name said = list_any (λ s. bytes_eq s.0 name) said

abbrev pub are_distinct : List NamedText → Bool
are_distinct [] = true
are_distinct (s ∷ said) = not (has s.0 said) && are_distinct said

-- ---- the command

-- the text that was said of a name, if one was
abbrev pub text_in : List NamedText → List ℕ → Option (List ℕ)
text_in said name = option_map (λ s. s.1) (find (λ s. bytes_eq s.0 name) said)

abbrev pub no_key : List ℕ
no_key = codes "0000000000000000000000000000000000000000000000000000000000000000"

-- `run` with its options, each by its text or by what stands for it where it is not given
abbrev pub settings_of : (List ℕ → Option (List ℕ)) → Option Settings
settings_of text = if bytes_eq (unwrap_or (text (codes "command")) []) (codes "run") then (do
  server ← server_in (unwrap_or (text (codes "server")) (codes "fs1"))
  key ← key_in (unwrap_or (text (codes "key")) no_key)
  now ← number_in 20 0 most_moment (unwrap_or (text (codes "now")) (codes "0"))
  life ← number_in 20 1 most_life (unwrap_or (text (codes "life")) (codes "60"))
  limit ← number_in 20 1 most_area_bytes (unwrap_or (text (codes "area")) (codes "1099511627776"))
  Some (record { server = server; key = key; now = now; life = life; limit = limit })) else None

abbrev pub settled : List NamedText → Option Settings
settled said = if are_distinct said then settings_of (text_in said) else None

-- the command stands among the words
abbrev pub names_run : List (List ℕ) → Bool
names_run words = list_any (λ w. bytes_eq w (codes "run")) words

-- The settings that the words say: they are UTF-8, each in a form, none said twice, and `run` is among them. None where they are no
-- command.
unfoldable pub settings : List (List ℕ) → Option Settings
settings words = if list_all is_utf8 words then (do
  said ← said_in words None
  settled said) else None

-- the answer is that of the definition, unless memory ran out
abbrev pub AnswersAs : {A : Type 0} → Result A WordsFault → Option A → Type 0
AnswersAs (Ok a) want = want ≡ Some a
AnswersAs (Err Usage) want = want ≡ None
AnswersAs (Err Memory) want = Unit {0}
