-- What the words of a file command ask, or the place of the first word that fits no command behind those before it.
use Rattle.std.specs.Prelude.{◌≡◌, ◌<◌, ◌≤◌, ℕ, ◌+◌, Bool, true, false, ◌&&◌, not, ◌==◌, nat_le, if◌then◌else◌, List, [], ◌∷◌, length, drop, codes, bytes_eq, Option, Some, None, Result, Ok, Err}
use Rattle.dl_base.specs.Limits.{most_actor_name_bytes}
use Rattle.dl_base.specs.Name.{name_test}
use Rattle.dl_base.specs.Path.{path_test}
use Rattle.dl_base.specs.declared.file.FileWhat.{FileWhat}
use Rattle.dl_base.specs.declared.file.FileWhat.TheVariants as whats
use Rattle.dl_base.specs.declared.file.Token.{Token}
use Rattle.dl_token.specs.Tokens.{has_token_form, read_token}
use Rattle.fs_command.specs.declared.line.FileLine.{FileLine}
use Rattle.fs_command.specs.declared.line.FileLine.TheVariants as lines
use Rattle.fs_command.specs.declared.line.BadPlace.{BadPlace}
use Rattle.fs_command.specs.declared.line.CommandFault.{CommandFault}
use Rattle.fs_command.specs.declared.line.CommandFault.TheVariants as faults
use Rattle.fs_command.specs.Words.{Word, words}

-- What is read of the words that are left, and the words behind it; or the place of the first word that does not fit.
-- The number is the place behind the text's last byte, where a word is missing.
abbrev pub Part : Type 0 → Type 0
Part A = ℕ → List Word → Result (A × List Word) ℕ

-- what the words that are left ask as a whole
abbrev pub Ending : Type 0 → Type 0
Ending A = ℕ → List Word → Result A ℕ

abbrev pub fitted : {A : Type 0} → Option A → ℕ → List Word → Result (A × List Word) ℕ
fitted None place ws = Err place
fitted (Some a) place ws = Ok (a, ws)

-- one word
abbrev pub word : {A : Type 0} → (Word → Option A) → Part A
word what end [] = Err end
word what end (w ∷ ws) = fitted (what w) w.place ws

-- no word more
abbrev pub nothing : {A : Type 0} → A → Ending A
nothing value end [] = Ok value
nothing value end (w ∷ ws) = Err w.place

-- anything
abbrev pub anything : FileLine → Ending FileLine
anything line end ws = Ok line

-- a part, and then an ending
abbrev pub followed : {A B : Type 0} → Result (A × List Word) ℕ → (A → Ending B) → ℕ → Result B ℕ
followed (Err place) next end = Err place
followed (Ok read) next end = next read.0 end read.1

infixl 10 ◌>>=◌
abbrev pub ◌>>=◌ : {A B : Type 0} → Part A → (A → Ending B) → Ending B
(part >>= next) end ws = followed (part end ws) next end

abbrev pub is : List ℕ → List ℕ → Bool
is text bytes = bytes_eq bytes text

-- PATH: its last name is not of the token form
unfoldable pub is_command_path : List ℕ → Bool
is_command_path bytes = path_test bytes && not (has_token_form bytes)

abbrev pub path_of : Word → Option Word
path_of w = if is_command_path w.bytes then Some w else None

abbrev pub path : Part Word
path = word path_of

-- on or off
abbrev pub flag_of : Word → Option Bool
flag_of w = if is (codes "on") w.bytes then Some true else (if is (codes "off") w.bytes then Some false else None)

abbrev pub flag : Part Bool
flag = word flag_of

-- NAME of `$NAME`: a name that is not too long
unfoldable pub is_session : List ℕ → Bool
is_session name = name_test name && nat_le (length name) most_actor_name_bytes

abbrev pub read_of_session : List ℕ → List ℕ → Option FileLine
read_of_session user [] = None
read_of_session user (b ∷ name) = if b == 36 && is_session name then Some (lines.ReadOf user name) else None

abbrev pub asked : List ℕ → FileWhat → FileLine
asked user what = lines.Command (record { user = user; what = what })

-- READPATH: a path with a token, or a path
abbrev pub read_of_path : List ℕ → List ℕ → Option (List ℕ × Token) → Option FileLine
read_of_path user bytes (Some both) = Some (asked user (whats.Read both.0 (Some both.1)))
read_of_path user bytes None = if path_test bytes then Some (asked user (whats.Read bytes None)) else None

-- `$NAME` or READPATH
abbrev pub either : Option FileLine → Option FileLine → Option FileLine
either (Some line) other = Some line
either None other = other

abbrev pub source_in : List ℕ → List ℕ → Option FileLine
source_in user bytes = either (read_of_session user bytes) (read_of_path user bytes (read_token bytes))

abbrev pub source_of : List ℕ → Word → Option FileLine
source_of user w = source_in user w.bytes

-- all that follows the one byte behind a word
abbrev pub behind : List ℕ → Word → List ℕ
behind text w = drop (w.place + length w.bytes) text

-- create PATH [" " bytes], and write
unfoldable pub create : List ℕ → List ℕ → Ending FileLine
create user text = do
  p ← path
  anything (asked user (whats.Create p.bytes (behind text p)))

unfoldable pub write : List ℕ → List ℕ → Ending FileLine
write user text = do
  p ← path
  anything (asked user (whats.Write p.bytes (behind text p)))

-- delete PATH
unfoldable pub delete : List ℕ → Ending FileLine
delete user = do
  p ← path
  nothing (asked user (whats.Delete p.bytes))

-- rename PATH PATH
unfoldable pub rename : List ℕ → Ending FileLine
rename user = do
  p ← path
  q ← path
  nothing (asked user (whats.Rename p.bytes q.bytes))

-- chmod PATH (on|off)
unfoldable pub chmod : List ℕ → Ending FileLine
chmod user = do
  p ← path
  on ← flag
  nothing (asked user (whats.Chmod p.bytes on))

-- read (READPATH | "$" NAME)
unfoldable pub read : List ℕ → Ending FileLine
read user = do
  line ← word (source_of user)
  nothing line

-- list
unfoldable pub list : List ℕ → Ending FileLine
list user = nothing (asked user whats.List)

-- what follows the first word
abbrev pub verb_then : List ℕ → List ℕ → Word → Ending FileLine
verb_then user text verb =
    if is (codes "create") verb.bytes then create user text
    else (if is (codes "write") verb.bytes then write user text
    else (if is (codes "delete") verb.bytes then delete user
    else (if is (codes "rename") verb.bytes then rename user
    else (if is (codes "chmod") verb.bytes then chmod user
    else (if is (codes "read") verb.bytes then read user
    else (if is (codes "list") verb.bytes then list user
    else (λ end ws. Err verb.place)))))))

abbrev pub first : Word → Option Word
first w = Some w

abbrev pub command_words : List ℕ → List ℕ → Ending FileLine
command_words user text = do
  verb ← word first
  verb_then user text verb

-- what a user's text asks, or the bad place, from 1
unfoldable pub command : List ℕ → List ℕ → Result FileLine ℕ
command user text = command_words user text (length text + 1) (words 1 text)

-- where a fault names a place, P holds of it; want of memory is free
abbrev pub IfBad : CommandFault → (ℕ → Type 0) → Type 0
IfBad (faults.BadCommand place) P = P place
IfBad faults.Memory P = Unit {0}

-- the answer is that line or that place, unless memory ran out
abbrev pub GivesLine : Result FileLine CommandFault → Result FileLine ℕ → Type 0
GivesLine (Ok line) r = r ≡ Ok line
GivesLine (Err fault) r = IfBad fault (λ place. r ≡ Err place)

-- the answer is that value or that place
abbrev pub IsReading : {A : Type 0} → Result A BadPlace → Result A ℕ → Type 0
IsReading (Ok value) r = r ≡ Ok value
IsReading (Err bad) r = r ≡ Err bad.place

-- the place of a byte of a text, from 1, or one past its end
abbrev pub IsPlaceOf : List ℕ → ℕ → Type 0
IsPlaceOf text place = (0 < place) × (place ≤ length text + 1)

-- a place that a fault names is one of the text
abbrev pub IsPlaceIn : List ℕ → CommandFault → Type 0
IsPlaceIn text fault = IfBad fault (λ place. IsPlaceOf text place)
