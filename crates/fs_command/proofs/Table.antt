-- The places at which commands are refused are those of the table.
use Rattle.std.proofs.Common.{◌≡◌, ℕ, ◌+◌, ◌==◌, Bool, true, false, ◌&&◌, ◌||◌, cond, List, [], ◌∷◌, length, refl, sym, ap, ◌∙◌, Option, Some, None, is_some, codes}
use Rattle.std.proofs.lemmas.Slice.Eq.{bytes_eq-Decides}
use Rattle.dl_base.specs.Path.{path_test}
use Rattle.dl_base.specs.declared.file.Token.{Token}
use Rattle.dl_token.specs.Tokens.{read_token}
use Rattle.fs_command.specs.declared.line.FileLine.{FileLine}
use Rattle.fs_command.specs.Words.{Word, words}
use Rattle.dl_base.specs.declared.file.FileWhat.TheVariants as whats
use Rattle.fs_command.specs.declared.line.FileLine.TheVariants as lines
use Rattle.fs_command.specs.Commands.{◌>>=◌, Ending, asked, word, is, is_command_path, is_session, path_of, flag_of, source_of, read_of_session, read_of_path, either, nothing, verb_then, command_words, command, create, write, delete, rename, chmod, read, list}
use Rattle.fs_command.specs.Grammar.{forms, is_flag, is_source, names_session, bad_place, refused_at}

said : (text bytes : List ℕ) → is text bytes ≡ true → bytes ≡ text
said text bytes e = (bytes_eq-Decides bytes text).0 e

-- anything may follow, or nothing
anything_behind : (end : ℕ) (ws : List Word) → bad_place end (([], true) ∷ []) ws ≡ None
anything_behind end [] = refl
anything_behind end (w ∷ ws) = anything_behind end ws

nothing_behind : (line : FileLine) (end : ℕ) (ws : List Word) → refused_at (nothing line end ws) ≡ bad_place end (([], false) ∷ []) ws
nothing_behind line end [] = refl
nothing_behind line end (w ∷ ws) = refl

-- one word, and then what follows it
module _ {A : Type 0} (what : Word → Option A) (fits : List ℕ → Bool) (same : (w : Word) → is_some (what w) ≡ fits w.bytes) where
  word_behind : (next : A → Ending FileLine) (more : List (List ℕ → Bool)) (free : Bool) (end : ℕ) → ((a : A) (ws : List Word) → refused_at (next a end ws) ≡ bad_place end ((more, free) ∷ []) ws) → (ws : List Word) → refused_at ((word what >>= next) end ws) ≡ bad_place end ((fits ∷ more, free) ∷ []) ws
  word_behind next more free end h [] = refl
  word_behind next more free end h (w ∷ ws) = by_what (what w) refl
    where
      by_what : (o : Option A) → what w ≡ o → refused_at ((word what >>= next) end (w ∷ ws)) ≡ bad_place end ((fits ∷ more, free) ∷ []) (w ∷ ws)
      by_what (Some a) e = let f : fits w.bytes ≡ true = sym (same w) ∙ ap is_some e in rw (e, f) (h a ws)
      by_what None e = let f : fits w.bytes ≡ false = sym (same w) ∙ ap is_some e in rw (e, f) refl

path_fits : (w : Word) → is_some (path_of w) ≡ is_command_path w.bytes
path_fits w = by_test (is_command_path w.bytes)
  where
    by_test : (t : Bool) → is_some (cond t (Some w) None) ≡ t
    by_test true = refl
    by_test false = refl

flag_fits : (w : Word) → is_some (flag_of w) ≡ is_flag w.bytes
flag_fits w = by_tests (is (codes "on") w.bytes) (is (codes "off") w.bytes)
  where
    by_tests : (on off : Bool) → is_some (cond on (Some true) (cond off (Some false) None)) ≡ (on || off)
    by_tests true off = refl
    by_tests false true = refl
    by_tests false false = refl

session_fits : (user bytes : List ℕ) → is_some (read_of_session user bytes) ≡ names_session bytes
session_fits user [] = refl
session_fits user (b ∷ name) = by_test (b == 36 && is_session name)
  where
    by_test : (t : Bool) → is_some (cond t (Some (lines.ReadOf user name)) None) ≡ t
    by_test true = refl
    by_test false = refl

path_read_fits : (user bytes : List ℕ) (both : Option (List ℕ × Token)) → is_some (read_of_path user bytes both) ≡ (is_some both || path_test bytes)
path_read_fits user bytes (Some both) = refl
path_read_fits user bytes None = by_test (path_test bytes)
  where
    by_test : (t : Bool) → is_some (cond t (Some (asked user (whats.Read bytes None))) None) ≡ t
    by_test true = refl
    by_test false = refl

source_fits : (user : List ℕ) (w : Word) → is_some (source_of user w) ≡ is_source w.bytes
source_fits user w =
    either_fits (read_of_session user w.bytes) (read_of_path user w.bytes (read_token w.bytes))
    ∙ ap (λ (t : Bool). t || is_some (read_of_path user w.bytes (read_token w.bytes))) (session_fits user w.bytes)
    ∙ ap (λ (t : Bool). names_session w.bytes || t) (path_read_fits user w.bytes (read_token w.bytes))
    ∙ sym (or_assoc (names_session w.bytes) (is_some (read_token w.bytes)) (path_test w.bytes))
  where
    either_fits : (a b : Option FileLine) → is_some (either a b) ≡ (is_some a || is_some b)
    either_fits (Some a) b = refl
    either_fits None b = refl

    or_assoc : (a b c : Bool) → ((a || b) || c) ≡ (a || (b || c))
    or_assoc true b c = refl
    or_assoc false b c = refl

-- each command, behind its first word
module _ (user text : List ℕ) (end : ℕ) where
  create_at : (ws : List Word) → refused_at (create user text end ws) ≡ bad_place end ((is_command_path ∷ [], true) ∷ []) ws
  unfolding create
  create_at = word_behind path_of is_command_path path_fits _ [] true end (λ p ws. sym (anything_behind end ws))

  write_at : (ws : List Word) → refused_at (write user text end ws) ≡ bad_place end ((is_command_path ∷ [], true) ∷ []) ws
  unfolding write
  write_at = word_behind path_of is_command_path path_fits _ [] true end (λ p ws. sym (anything_behind end ws))

  delete_at : (ws : List Word) → refused_at (delete user end ws) ≡ bad_place end ((is_command_path ∷ [], false) ∷ []) ws
  unfolding delete
  delete_at = word_behind path_of is_command_path path_fits _ [] false end (λ p. nothing_behind _ end)

  rename_at : (ws : List Word) → refused_at (rename user end ws) ≡ bad_place end ((is_command_path ∷ is_command_path ∷ [], false) ∷ []) ws
  unfolding rename
  rename_at = word_behind path_of is_command_path path_fits _ (is_command_path ∷ []) false end (λ p. word_behind path_of is_command_path path_fits _ [] false end (λ q. nothing_behind _ end))

  chmod_at : (ws : List Word) → refused_at (chmod user end ws) ≡ bad_place end ((is_command_path ∷ is_flag ∷ [], false) ∷ []) ws
  unfolding chmod
  chmod_at = word_behind path_of is_command_path path_fits _ (is_flag ∷ []) false end (λ p. word_behind flag_of is_flag flag_fits _ [] false end (λ on. nothing_behind _ end))

  read_at : (ws : List Word) → refused_at (read user end ws) ≡ bad_place end ((is_source ∷ [], false) ∷ []) ws
  unfolding read
  read_at = word_behind (source_of user) is_source (source_fits user) _ [] false end (λ line. nothing_behind line end)

  list_at : (ws : List Word) → refused_at (list user end ws) ≡ bad_place end (([], false) ∷ []) ws
  unfolding list
  list_at = nothing_behind _ end

  -- the first word
  verb_at : (v : Word) (ws : List Word) → refused_at (verb_then user text v end ws) ≡ bad_place end forms (v ∷ ws)
  verb_at v ws = by_create (is (codes "create") v.bytes) refl
    where
      by_list : is (codes "create") v.bytes ≡ false → is (codes "write") v.bytes ≡ false → is (codes "delete") v.bytes ≡ false → is (codes "rename") v.bytes ≡ false → is (codes "chmod") v.bytes ≡ false → is (codes "read") v.bytes ≡ false → (t : Bool) → is (codes "list") v.bytes ≡ t → refused_at (verb_then user text v end ws) ≡ bad_place end forms (v ∷ ws)
      by_list no0 no1 no2 no3 no4 no5 true e = let b = said (codes "list") v.bytes e in rw b (list_at ws)
      by_list no0 no1 no2 no3 no4 no5 false e = rw (no0, no1, no2, no3, no4, no5, e) refl

      by_read : is (codes "create") v.bytes ≡ false → is (codes "write") v.bytes ≡ false → is (codes "delete") v.bytes ≡ false → is (codes "rename") v.bytes ≡ false → is (codes "chmod") v.bytes ≡ false → (t : Bool) → is (codes "read") v.bytes ≡ t → refused_at (verb_then user text v end ws) ≡ bad_place end forms (v ∷ ws)
      by_read no0 no1 no2 no3 no4 true e = let b = said (codes "read") v.bytes e in rw b (read_at ws)
      by_read no0 no1 no2 no3 no4 false e = by_list no0 no1 no2 no3 no4 e (is (codes "list") v.bytes) refl

      by_chmod : is (codes "create") v.bytes ≡ false → is (codes "write") v.bytes ≡ false → is (codes "delete") v.bytes ≡ false → is (codes "rename") v.bytes ≡ false → (t : Bool) → is (codes "chmod") v.bytes ≡ t → refused_at (verb_then user text v end ws) ≡ bad_place end forms (v ∷ ws)
      by_chmod no0 no1 no2 no3 true e = let b = said (codes "chmod") v.bytes e in rw b (chmod_at ws)
      by_chmod no0 no1 no2 no3 false e = by_read no0 no1 no2 no3 e (is (codes "read") v.bytes) refl

      by_rename : is (codes "create") v.bytes ≡ false → is (codes "write") v.bytes ≡ false → is (codes "delete") v.bytes ≡ false → (t : Bool) → is (codes "rename") v.bytes ≡ t → refused_at (verb_then user text v end ws) ≡ bad_place end forms (v ∷ ws)
      by_rename no0 no1 no2 true e = let b = said (codes "rename") v.bytes e in rw b (rename_at ws)
      by_rename no0 no1 no2 false e = by_chmod no0 no1 no2 e (is (codes "chmod") v.bytes) refl

      by_delete : is (codes "create") v.bytes ≡ false → is (codes "write") v.bytes ≡ false → (t : Bool) → is (codes "delete") v.bytes ≡ t → refused_at (verb_then user text v end ws) ≡ bad_place end forms (v ∷ ws)
      by_delete no0 no1 true e = let b = said (codes "delete") v.bytes e in rw b (delete_at ws)
      by_delete no0 no1 false e = by_rename no0 no1 e (is (codes "rename") v.bytes) refl

      by_write : is (codes "create") v.bytes ≡ false → (t : Bool) → is (codes "write") v.bytes ≡ t → refused_at (verb_then user text v end ws) ≡ bad_place end forms (v ∷ ws)
      by_write no0 true e = let b = said (codes "write") v.bytes e in rw b (write_at ws)
      by_write no0 false e = by_delete no0 e (is (codes "delete") v.bytes) refl

      by_create : (t : Bool) → is (codes "create") v.bytes ≡ t → refused_at (verb_then user text v end ws) ≡ bad_place end forms (v ∷ ws)
      by_create true e = let b = said (codes "create") v.bytes e in rw b (create_at ws)
      by_create false e = by_write e (is (codes "write") v.bytes) refl

pub places : (user text : List ℕ) → refused_at (command user text) ≡ bad_place (length text + 1) forms (words 1 text)
unfolding command
places user text = by_words (words 1 text)
  where
    by_words : (ws : List Word) → refused_at (command_words user text (length text + 1) ws) ≡ bad_place (length text + 1) forms ws
    by_words [] = refl
    by_words (v ∷ ws) = verb_at user text (length text + 1) v ws
