-- The grammar of file commands as a table, and the first word that it has no place for.
use Rattle.std.specs.Prelude.{ℕ, Bool, true, false, ◌&&◌, ◌||◌, ◌==◌, if◌then◌else◌, List, [], ◌∷◌, codes, is_some, Option, Some, None, Result, Ok, Err}
use Rattle.std.specs.List.{list_any, flat_map}
use Rattle.dl_base.specs.Path.{path_test}
use Rattle.dl_token.specs.Tokens.{read_token}
use Rattle.fs_command.specs.Words.{Word}
use Rattle.fs_command.specs.Commands.{is, is_command_path, is_session}

-- what each word of a command has to be, and whether anything may follow
abbrev pub Form : Type 0
Form = List (List ℕ → Bool) × Bool

abbrev pub is_flag : List ℕ → Bool
is_flag bytes = is (codes "on") bytes || is (codes "off") bytes

abbrev pub names_session : List ℕ → Bool
names_session [] = false
names_session (b ∷ name) = b == 36 && is_session name

abbrev pub is_source : List ℕ → Bool
is_source bytes = names_session bytes || is_some (read_token bytes) || path_test bytes

abbrev pub forms : List Form
forms =
    (is (codes "create") ∷ is_command_path ∷ [], true)
    ∷ (is (codes "write") ∷ is_command_path ∷ [], true)
    ∷ (is (codes "delete") ∷ is_command_path ∷ [], false)
    ∷ (is (codes "rename") ∷ is_command_path ∷ is_command_path ∷ [], false)
    ∷ (is (codes "chmod") ∷ is_command_path ∷ is_flag ∷ [], false)
    ∷ (is (codes "read") ∷ is_source ∷ [], false)
    ∷ (is (codes "list") ∷ [], false)
    ∷ []

-- what may follow a word in a form: at most one form
abbrev pub behind_word : List ℕ → Form → List Form
behind_word bytes ([], true) = ([], true) ∷ []
behind_word bytes ([], false) = []
behind_word bytes (fits ∷ more, free) = if fits bytes then (more, free) ∷ [] else []

abbrev pub is_whole : Form → Bool
is_whole ([], free) = true
is_whole (fits ∷ more, free) = false

-- a word behind which some form goes on
abbrev pub step : List Form → Word → (List Form → Option ℕ) → Option ℕ
step [] w next = Some w.place
step (form ∷ more) w next = next (form ∷ more)

-- The place of the first word that no form has behind the words before it, or the end's where none of the forms that are
-- left is whole there; None where the words are a command.
abbrev pub bad_place : ℕ → List Form → List Word → Option ℕ
bad_place end left [] = if list_any is_whole left then None else Some end
bad_place end left (w ∷ ws) = step (flat_map (behind_word w.bytes) left) w (λ next. bad_place end next ws)

-- the place that a reading is refused at
abbrev pub refused_at : {A : Type 0} → Result A ℕ → Option ℕ
refused_at (Ok value) = None
refused_at (Err place) = Some place
