-- Lines of a script: where each ends, who acts in it, and what it is as far as it is no statement.
use Rattle.std.proofs.Common.{◌≡◌, ℕ, true, false, Bool, not, List, [], ◌∷◌, ◌++◌, map, flat_map, take, length, replicate, codes, Option, Some, None, refl}
use Rattle.std.specs.Str.Lines as script
use Rattle.dl_base.specs.Digits.{is_number, number_in}
use Rattle.dl_base.specs.Name.{name_test}
use Rattle.dl_base.specs.Path.{path_test}
use Rattle.dl_base.specs.declared.file.FileWhat.{FileWhat}
use Rattle.dl_base.specs.declared.file.FileWhat.TheVariants as whats
use Rattle.dl_base.specs.declared.step.Target.TheVariants as targets
use Rattle.dl_token.specs.Tokens.{begins_with_token, read_token}
use Rattle.fs_command.specs.Commands.{command, create, rename, read, list, is_command_path, is_session}
use Rattle.fs_command.specs.declared.line.FileLine.TheVariants as asked
use Rattle.meaning_script.specs.Actors.{actor_of, actors, is_extra, with_actor, session_number}
use Rattle.meaning_script.specs.Lines.{is_quiet, is_user}
use Rattle.meaning_script.specs.Orders.{order, tick, restore, crash}
use Rattle.meaning_script.specs.Outlines.{outline, session_line, sentence, user_line, bad_at}
use Rattle.meaning_script.specs.declared.kind.Line.TheVariants as lines
use Rattle.meaning_script.specs.declared.kind.Order.{Order}
use Rattle.meaning_script.specs.declared.kind.Order.TheVariants as orders
use Rattle.meaning_script.specs.declared.kind.Outline.{Outline}
use Rattle.meaning_script.specs.declared.kind.Outline.TheVariants as outlines
use Rattle.meaning_script.specs.declared.kind.Sentence.{Sentence}
use Rattle.meaning_script.specs.declared.kind.Sentence.TheVariants as sentences

-- ---- the lines of a script: without a newline and a carriage return before it; the last one has none

lines_of_a_script : script.lines (codes "one" ++ 13 ∷ 10 ∷ 10 ∷ codes "two") ≡ codes "one" ∷ [] ∷ codes "two" ∷ []
lines_of_a_script = refl

quiet_lines : map is_quiet ((32 ∷ 9 ∷ []) ∷ codes "--" ∷ codes "- -" ∷ []) ≡ true ∷ true ∷ false ∷ []
unfolding is_quiet
quiet_lines = refl

-- ---- who acts

abbrev actors_of : List (List ℕ) → List (Option (List ℕ))
actors_of texts = map actor_of texts

-- a session up to its colon, and a user up to a space, whatever stands behind
sessions_and_users : actors_of (codes "A: COMMIT" ∷ codes "A:" ∷ codes "A:x" ∷ codes "ann: SELEC" ∷ codes "@ann list" ∷ codes "@ann" ∷ codes "@ann creat /a" ∷ codes "@ann read $B" ∷ codes "A: @ann list" ∷ [])
    ≡ Some (codes "A") ∷ Some (codes "A") ∷ Some (codes "A") ∷ Some (codes "ann") ∷ Some (codes "@ann") ∷ Some (codes "@ann") ∷ Some (codes "@ann") ∷ Some (codes "@ann") ∷ Some (codes "A") ∷ []
unfolding actor_of is_quiet is_user is_session name_test
sessions_and_users = refl

-- quiet lines, lines of the system, and lines whose first word names nobody
nobody : actors_of ([] ∷ codes "-- A:" ∷ codes "  " ∷ codes "A COMMIT" ∷ codes "! tick 1" ∷ codes "@dlfm list" ∷ codes "@" ∷ codes "@a-b list" ∷ codes ": x" ∷ codes "1: x" ∷ codes "A : x" ∷ codes " A: x" ∷ []) ≡ replicate 12 None
unfolding actor_of is_quiet is_user is_session name_test
nobody = refl

-- 32 names of two letters: aa, ab and so on to bf
abbrev names : List (List ℕ)
names = take 32 (flat_map (λ a. map (λ b. a ∷ b ∷ []) (codes "abcdefghijklmnopqrstuvwxyz")) (codes "ab"))

-- users and sessions of these names, in turn
abbrev full : List (List ℕ)
full = flat_map (λ n. (64 ∷ n) ∷ n ∷ []) names

many_actors : length full ≡ 64
many_actors = refl

-- lines of all of them, and each once more
all_actors : actors (flat_map (λ n. (64 ∷ n ++ codes " list") ∷ (n ++ codes ": SELEC") ∷ (64 ∷ n) ∷ (n ++ codes ":") ∷ []) names) ≡ full
unfolding actor_of is_quiet is_user is_session name_test
all_actors = refl

-- may the actor of a line act behind them
abbrev may_act : List ℕ → Bool
may_act text = not (is_extra full (actor_of text))

-- a 65th actor may not, be it a session or a user; one of the 64 may, and so may nobody
later_actors : map may_act (codes "B: COMMIT" ∷ codes "B:" ∷ codes "@bob list" ∷ codes "! tick 1" ∷ codes "bad line" ∷ codes "aa: COMMIT" ∷ codes "@bf list" ∷ []) ≡ false ∷ false ∷ false ∷ true ∷ true ∷ true ∷ true ∷ []
unfolding actor_of is_quiet is_user is_session name_test
later_actors = refl

-- and it is not counted
not_counted : with_actor full (actor_of (codes "B: COMMIT")) ≡ full
unfolding actor_of is_quiet is_session name_test
not_counted = refl

-- sessions count from 1, users aside
numbers_of_sessions : map (session_number full) (codes "aa" ∷ codes "bf" ∷ codes "B" ∷ codes "@aa" ∷ []) ≡ Some 1 ∷ Some 32 ∷ None ∷ None ∷ []
numbers_of_sessions = refl

-- ---- what a line is

abbrev outlines_of : List (List ℕ) → List Outline
outlines_of texts = map outline texts

-- the statement of a session begins behind its colon
statements : outlines_of (codes "A: COMMIT" ∷ codes "A:COMMIT" ∷ (codes "A:" ++ 9 ∷ codes "DROP TABLE t;  ") ∷ codes "Session_10: begin" ∷ codes "abcdefghijklmnop: BEGIN" ∷ (codes "A: COMMIT" ++ 13 ∷ []) ∷ [])
    ≡ outlines.Statement (codes "A") 2
    ∷ outlines.Statement (codes "A") 2
    ∷ outlines.Statement (codes "A") 2
    ∷ outlines.Statement (codes "Session_10") 11
    ∷ outlines.Statement (codes "abcdefghijklmnop") 17
    ∷ outlines.Statement (codes "A") 2
    ∷ []
unfolding outline is_quiet session_line sentence is_session name_test
statements = refl

abbrev says : List ℕ → Sentence → Outline
says name sentence = outlines.Plain (lines.Session name sentence)

steps : outlines_of (codes "A: !prepare" ∷ codes "A:   !decide  " ∷ codes "bob:!finish" ∷ []) ≡ says (codes "A") sentences.Prepare ∷ says (codes "A") sentences.Decide ∷ says (codes "bob") sentences.Finish ∷ []
unfolding outline is_quiet session_line sentence is_session name_test
steps = refl

abbrev commands : List ℕ → FileWhat → Outline
commands user what = outlines.Plain (lines.File (asked.Command (record { user = user; what = what })))

-- a user has at most 16 bytes, and case counts: DLFM is a user
of_users : outlines_of (codes "@ann create /a one two " ∷ codes "@Bob_2  rename /a /b" ∷ codes "@abcdefghijklmnop list" ∷ codes "@DLFM list" ∷ codes "@ann read /a" ∷ codes "@ann read $nobody" ∷ [])
    ≡ commands (codes "ann") (whats.Create (codes "/a") (codes "one two "))
    ∷ commands (codes "Bob_2") (whats.Rename (codes "/a") (codes "/b"))
    ∷ commands (codes "abcdefghijklmnop") whats.List
    ∷ commands (codes "DLFM") whats.List
    ∷ commands (codes "ann") (whats.Read (codes "/a") None)
    ∷ outlines.Plain (lines.File (asked.ReadOf (codes "ann") (codes "nobody")))
    ∷ []
unfolding outline is_quiet user_line is_user command create rename read list is_command_path is_session name_test path_test read_token begins_with_token
of_users = refl

-- a command's bad word is placed in the whole line
bad_commands : outlines_of (codes "@ann creat /a" ∷ codes "@ann create" ∷ codes "@ann" ∷ []) ≡ outlines.Plain (bad_at 6) ∷ outlines.Plain (bad_at 12) ∷ outlines.Plain (bad_at 5) ∷ []
unfolding outline is_quiet user_line is_user command create name_test
bad_commands = refl

abbrev is_order : Order → Outline
is_order order = outlines.Plain (lines.System order)

-- spaces behind the mark and between words; a number may have zeros in front
ticks : outlines_of (codes "! tick 60" ∷ codes "!  tick  060 " ∷ codes "!tick 1000000000" ∷ []) ≡ is_order (orders.Tick 60) ∷ is_order (orders.Tick 60) ∷ is_order (orders.Tick 1000000000) ∷ []
unfolding outline is_quiet order tick number_in is_number
ticks = refl

of_the_system : outlines_of (codes "! archive" ∷ codes "! backup" ∷ codes "! restore backup 1" ∷ codes "! restore commit 9999999999" ∷ codes "! crash manager" ∷ codes "! crash database" ∷ codes "! crash both" ∷ codes "! resolve" ∷ [])
    ≡ is_order orders.Archive
    ∷ is_order orders.Backup
    ∷ is_order (orders.Restore (targets.Backup 1))
    ∷ is_order (orders.Restore (targets.Commit 9999999999))
    ∷ is_order orders.CrashManager
    ∷ is_order orders.CrashDatabase
    ∷ is_order orders.CrashBoth
    ∷ is_order orders.Resolve
    ∷ []
unfolding outline is_quiet order restore crash number_in is_number
of_the_system = refl

quiet : outlines_of ([] ∷ (32 ∷ 9 ∷ 32 ∷ []) ∷ codes "-- A: COMMIT" ∷ []) ≡ replicate 3 (outlines.Plain lines.Nothing)
unfolding outline is_quiet
quiet = refl

-- ---- a line of 65,536 bytes is the longest; blanks and comments have no bound

longest : outline (codes "@ann create /a " ++ replicate 65521 120) ≡ commands (codes "ann") (whats.Create (codes "/a") (replicate 65521 120))
unfolding outline is_quiet user_line is_user command create is_command_path name_test path_test begins_with_token
longest = refl

a_byte_too_long : outline (codes "@ann create /a " ++ replicate 65522 120) ≡ outlines.Plain (bad_at 65537)
unfolding outline is_quiet
a_byte_too_long = refl

no_word_too_long : outline (replicate 65537 120) ≡ outlines.Plain (bad_at 65537)
unfolding outline is_quiet
no_word_too_long = refl

-- lines of a session of that length: a statement with blanks behind it, and blanks alone, which are to be one
longest_of_a_session : outline (codes "A: COMMIT" ++ replicate 65527 32) ≡ outlines.Statement (codes "A") 2
unfolding outline is_quiet session_line sentence is_session name_test
longest_of_a_session = refl

longest_without_a_statement : outline (codes "A: " ++ replicate 65533 32) ≡ outlines.Statement (codes "A") 2
unfolding outline is_quiet session_line sentence is_session name_test
longest_without_a_statement = refl

long_blanks : outline (replicate 70000 32) ≡ outlines.Plain lines.Nothing
unfolding outline is_quiet
long_blanks = refl

long_comment : outline (codes "--" ++ replicate 69998 120) ≡ outlines.Plain lines.Nothing
unfolding outline is_quiet
long_comment = refl
