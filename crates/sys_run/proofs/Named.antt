-- A line of a session has the session's name as its actor.
use Rattle.std.proofs.Common.{◌≡◌, ℕ, zero, suc, ◌+◌, ◌<◌, ◌≤◌, ◌||◌, ◌&&◌, ◌==◌, Bool, true, false, not, cond, List, [], ◌∷◌, ◌++◌, length, take, drop, nat_lt, nat_le, bytes_eq, Option, Some, None, Result, Ok, Err, is_some, unwrap_or, refl, sym, ap, ◌∙◌, subst, arith}
use Rattle.std.specs.List.{position}
use Rattle.dl_base.specs.Limits.{most_actors, most_line_bytes}
use Rattle.dl_base.specs.declared.statement.Stmt.{Stmt}
use Rattle.fs_command.specs.Commands.{command, is_session}
use Rattle.fs_command.specs.Words.{Word, words}
use Rattle.fs_command.specs.declared.line.FileLine.{FileLine}
use Rattle.meaning_run.proofs.Acting.{known-last}
use Rattle.meaning_run.specs.Running.{Run, met}
use Rattle.meaning_script.specs.Actors.{actor_in, actor_of, is_extra, is_known, is_user_mark, number_from, session_in, session_number, sessions, user_in, with_actor}
use Rattle.meaning_script.specs.Lines.{is_quiet, is_user}
use Rattle.meaning_script.specs.Orders.{order}
use Rattle.meaning_script.specs.Outlines.{bad_at, by_colon, by_mark, by_step, by_words, file_line, outline, sentence, session_line, step_in, system_line, user_line, word_len}
use Rattle.meaning_script.specs.declared.kind.Line.{Line}
use Rattle.meaning_script.specs.declared.kind.Line.TheVariants as lines
use Rattle.meaning_script.specs.declared.kind.Order.{Order}
use Rattle.meaning_script.specs.declared.kind.Outline.{Outline}
use Rattle.meaning_script.specs.declared.kind.Outline.TheVariants as outlines
use Rattle.meaning_script.specs.declared.kind.Sentence.{Sentence}
use Rattle.run_lines.specs.Reading.{IsFilled, Reads, Shows}
use Rattle.sql_syntax.specs.declared.parser.ParseFault.{ParseFault}
use Rattle.sql_syntax.specs.declared.parser.ParseFault.TheVariants as parse_faults
use Rattle.sys_run.proofs.Meeting.{numbered, some_same, true_false}
use Rattle.sys_run.specs.Sessions.{IsSession}
use Rattle.sys_run.specs.Turning.{IsNamed}

-- a session's line is its actor's
abbrev pub IsActor : Option (List ℕ) → List ℕ → Type 0
IsActor o name = (o ≡ Some name) × (is_user_mark name ≡ false)

abbrev pub Names : Option (List ℕ) → Line → Type 0
Names o (lines.Session name s) = IsActor o name
Names o _ = Unit {0}

abbrev pub OutlineNames : Option (List ℕ) → Outline → Type 0
OutlineNames o (outlines.Plain l) = Names o l
OutlineNames o (outlines.Statement name before) = IsActor o name

names-system : (o : Option (List ℕ)) (r : Result Order ℕ) → Names o (system_line r)
names-system o (Ok order) = tt
names-system o (Err place) = tt

names-file : (o : Option (List ℕ)) (before : ℕ) (r : Result FileLine ℕ) → Names o (file_line before r)
names-file o before (Ok l) = tt
names-file o before (Err place) = tt

names-user : (o : Option (List ℕ)) (text : List ℕ) → Names o (user_line text)
unfolding user_line
names-user o text = by (is_user (take (word_len text) text))
  where
    by : (b : Bool) → Names o (cond b (file_line (word_len text + 1) (command (take (word_len text) text) (drop (word_len text) text))) (bad_at 1))
    by true = names-file o (word_len text + 1) (command (take (word_len text) text) (drop (word_len text) text))
    by false = tt

names-step : (o : Option (List ℕ)) (name : List ℕ) (before : ℕ) (s : Option Sentence) (ws : List Word) → IsActor o name → OutlineNames o (by_step name before s ws)
names-step o name before None ws is = is
names-step o name before (Some s) [] is = is
names-step o name before (Some s) (w ∷ ws) is = tt

names-words : (o : Option (List ℕ)) (name : List ℕ) (before : ℕ) (ws : List Word) → IsActor o name → OutlineNames o (by_words name before ws)
names-words o name before [] is = is
names-words o name before (w ∷ ws) is = names-step o name before (step_in w.bytes) ws is

first-mark : (b : ℕ) (text : List ℕ) (k : ℕ) → (b == 64) ≡ false → is_user_mark (take k (b ∷ text)) ≡ false
first-mark b text zero other = refl
first-mark b text (suc k) other = other

names-sentence : (o : Option (List ℕ)) (name : List ℕ) (before : ℕ) (text : List ℕ) → IsActor o name → OutlineNames o (sentence name before text)
unfolding sentence
names-sentence o name before text is = names-words o name before (words 1 text) is

names-colon : (b : ℕ) (text : List ℕ) → (b == 64) ≡ false → (k : Option ℕ) → OutlineNames (session_in (b ∷ text) k) (by_colon (b ∷ text) k)
names-colon b text other None = tt
names-colon b text other (Some k) = by (is_session (take k (b ∷ text)))
  where
    by : (t : Bool) → OutlineNames (cond t (Some (take k (b ∷ text))) None) (cond t (sentence (take k (b ∷ text)) (k + 1) (drop (k + 1) (b ∷ text))) (outlines.Plain (bad_at 1)))
    by true = names-sentence (Some (take k (b ∷ text))) (take k (b ∷ text)) (k + 1) (drop (k + 1) (b ∷ text)) (refl, first-mark b text k other)
    by false = tt

names-session : (b : ℕ) (text : List ℕ) → (b == 64) ≡ false → OutlineNames (session_in (b ∷ text) (position (λ c. c == 58) (b ∷ text))) (session_line (b ∷ text))
unfolding session_line
names-session b text other = names-colon b text other (position (λ c. c == 58) (b ∷ text))

names-mark : (line : List ℕ) → OutlineNames (actor_in line) (by_mark line)
names-mark [] = tt
names-mark (b ∷ text) = by (b == 33) (b == 64) refl
  where
    by : (t u : Bool) → (b == 64) ≡ u → OutlineNames (cond u (user_in text) (session_in (b ∷ text) (position (λ c. c == 58) (b ∷ text))))
        (cond t (outlines.Plain (system_line (order text))) (cond u (outlines.Plain (user_line text)) (session_line (b ∷ text))))
    by true true is = names-system (user_in text) (order text)
    by true false is = names-system (session_in (b ∷ text) (position (λ c. c == 58) (b ∷ text))) (order text)
    by false true is = names-user (user_in text) text
    by false false is = names-session b text is

names-outline : (line : List ℕ) → OutlineNames (actor_of line) (outline line)
unfolding outline actor_of
names-outline line = by (is_quiet line) (nat_lt most_line_bytes (length line))
  where
    by : (q t : Bool) → OutlineNames (cond (q || t) None (actor_in line)) (cond q (outlines.Plain lines.Nothing) (cond t (outlines.Plain (bad_at (most_line_bytes + 1))) (by_mark line)))
    by true t = tt
    by false true = tt
    by false false = names-mark line

names-shown : (o : Option (List ℕ)) (name : List ℕ) (before : ℕ) (r : Result Stmt ParseFault) (l : Line) → IsActor o name → Shows name before r l → Names o l
names-shown o name before (Ok s) l is shows = subst (Names o) (sym shows) is
names-shown o name before (Err (parse_faults.BadChar k)) l is shows = subst (Names o) (sym shows) tt
names-shown o name before (Err (parse_faults.Syntax k)) l is shows = subst (Names o) (sym shows) tt
names-shown o name before (Err parse_faults.Memory) l is shows = absurd shows

names-filled : (bytes : List ℕ) (out : Outline) (o : Option (List ℕ)) (l : Line) → OutlineNames o out → IsFilled bytes out l → Names o l
names-filled bytes (outlines.Plain m) o l is filled = subst (Names o) (sym filled) is
names-filled bytes (outlines.Statement name before) o l is (r, parses, shows) = names-shown o name before r l is shows

-- WHAT IS READ AS A SESSION'S LINE has its name for an actor
pub names-read : (bytes : List ℕ) (l : Line) → Reads bytes l → Names (actor_of bytes) l
names-read bytes l reads = names-filled bytes (outline bytes) (actor_of bytes) l (names-outline bytes) reads

-- ---- its number

number-within : (k n : ℕ) (name : List ℕ) (names : List (List ℕ)) → number_from k name names ≡ Some n → (k ≤ n) × (n < k + length names)
number-within k n name [] is = absurd cc
number-within k n name (s ∷ more) is = by (bytes_eq name s) (number-within (k + 1) n name more) is
  where
    by : (b : Bool) → (number_from (k + 1) name more ≡ Some n → (k + 1 ≤ n) × (n < (k + 1) + length more)) → cond b (Some k) (number_from (k + 1) name more) ≡ Some n → (k ≤ n) × (n < k + length (s ∷ more))
    by true f is = let same = some_same k n is in (omega (arith, same), omega (arith, same))
    by false f is = let within = f is in (omega (arith, within.0), omega (arith, within.1))

some-number : (count : ℕ) (o : Option ℕ) → is_some o ≡ true → ((n : ℕ) → o ≡ Some n → IsSession count n) → IsSession count (unwrap_or o 0)
some-number count None is f = absurd cc
some-number count (Some n) is f = f n refl

known-number : (actors : List (List ℕ)) (name : List ℕ) → is_user_mark name ≡ false → is_known actors name ≡ true → IsSession (length (sessions actors)) (unwrap_or (session_number actors name) 0)
known-number actors name none known = some-number (length (sessions actors)) (session_number actors name) (numbered actors name none ∙ known)
    (λ n is. let within = number-within 1 n name (sessions actors) is in (within.0, omega (arith, within.1)))

-- one that is not too many is known then
known-then : (actors : List (List ℕ)) (a : List ℕ) → is_extra actors (Some a) ≡ false → is_known (with_actor actors (Some a)) a ≡ true
known-then actors a extra = by (is_known actors a) (nat_le most_actors (length actors)) refl extra
  where
    by : (known full : Bool) → is_known actors a ≡ known → (not known && full) ≡ false → is_known (cond (known || full) actors (actors ++ a ∷ [])) a ≡ true
    by true full is extra = is
    by false true is extra = absurd (true_false extra)
    by false false is extra = known-last actors a

-- and none too many
pub no-extra : (actors : List (List ℕ)) (o : Option (List ℕ)) → is_extra actors o ≡ false → is_extra (with_actor actors o) o ≡ false
no-extra actors None extra = refl
no-extra actors (Some a) extra = ap (λ b. not b && nat_le most_actors (length (with_actor actors (Some a)))) (known-then actors a extra)

pub line-named : (r : Run) (o : Option (List ℕ)) (l : Line) → is_extra r.actors o ≡ false → Names o l → IsNamed (met r o) l
line-named r o lines.Nothing extra names = tt
line-named r o (lines.Bad why) extra names = tt
line-named r o (lines.System order) extra names = tt
line-named r o (lines.File l) extra names = tt
line-named r o (lines.Session name s) extra (is, none) =
    subst (λ (a : Option (List ℕ)). IsSession (length (sessions (with_actor r.actors a))) (unwrap_or (session_number (with_actor r.actors a) name) 0)) (sym is)
    (known-number (with_actor r.actors (Some name)) name none (known-then r.actors name (subst (λ (a : Option (List ℕ)). is_extra r.actors a ≡ false) is extra)))
