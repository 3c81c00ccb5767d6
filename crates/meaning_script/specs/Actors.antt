-- Who acts in a script: sessions, by `NAME:`, and users, by `@USER`.
use Rattle.std.specs.Prelude.{ℕ, map, fold, ◌+◌, Bool, false, ◌&&◌, ◌||◌, ◌==◌, not, nat_lt, nat_le, if◌then◌else◌, List, [], ◌∷◌, ◌++◌, length, take, bytes_eq, Option, Some, None}
use Rattle.std.specs.List.{list_any, position}
use Rattle.dl_base.specs.Limits.{most_actors, most_line_bytes}
use Rattle.fs_command.specs.Commands.{is_session}
use Rattle.meaning_script.specs.Lines.{is_quiet, is_user}
use Rattle.meaning_script.specs.Outlines.{word_len}

-- The actor of a line, as it stands at the line's front: `NAME`, or `@USER`. A line names one also where the rest of it is bad.
abbrev pub user_in : List ℕ → Option (List ℕ)
user_in text = if is_user (take (word_len text) text) then Some (64 ∷ take (word_len text) text) else None

abbrev pub session_in : List ℕ → Option ℕ → Option (List ℕ)
session_in line None = None
session_in line (Some k) = if is_session (take k line) then Some (take k line) else None

abbrev pub actor_in : List ℕ → Option (List ℕ)
actor_in [] = None
actor_in (b ∷ text) = if b == 64 then user_in text else session_in (b ∷ text) (position (λ c. c == 58) (b ∷ text))

unfoldable pub actor_of : List ℕ → Option (List ℕ)
actor_of line = if is_quiet line || nat_lt most_line_bytes (length line) then None else actor_in line

abbrev pub is_known : List (List ℕ) → List ℕ → Bool
is_known actors a = list_any (bytes_eq a) actors

-- the line's actor is one more than a script may have
abbrev pub is_extra : List (List ℕ) → Option (List ℕ) → Bool
is_extra actors None = false
is_extra actors (Some a) = not (is_known actors a) && nat_le most_actors (length actors)

-- the actors so far, with that of one more line
abbrev pub with_actor : List (List ℕ) → Option (List ℕ) → List (List ℕ)
with_actor actors None = actors
with_actor actors (Some a) = if is_known actors a || nat_le most_actors (length actors) then actors else actors ++ a ∷ []

-- the actors of lines, in order of first appearance
abbrev pub actors : List (List ℕ) → List (List ℕ)
actors lines = fold with_actor [] (map actor_of lines)

-- ---- sessions

abbrev pub is_user_mark : List ℕ → Bool
is_user_mark [] = false
is_user_mark (b ∷ name) = b == 64

-- the sessions among actors; their numbers count from 1 in this order
abbrev pub sessions : List (List ℕ) → List (List ℕ)
sessions [] = []
sessions (a ∷ more) = if is_user_mark a then sessions more else a ∷ sessions more

-- the number, from a number on, that a name has among sessions
abbrev pub number_from : ℕ → List ℕ → List (List ℕ) → Option ℕ
number_from k name [] = None
number_from k name (s ∷ more) = if bytes_eq name s then Some k else number_from (k + 1) name more

-- the number of a session, from 1
abbrev pub session_number : List (List ℕ) → List ℕ → Option ℕ
session_number known name = number_from 1 name (sessions known)
