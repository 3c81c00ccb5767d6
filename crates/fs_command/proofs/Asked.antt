-- What a text asks by its first word, and what a read asks by its word.
use Rattle.std.proofs.Common.{◌≡◌, ℕ, ◌+◌, ◌<◌, ◌≤◌, Bool, true, false, if◌then◌else◌, List, [], ◌∷◌, length, codes, Option, Some, None, Result, Ok, Err, IfErr, IsErr, IsErrAnd, bytes_eq, refl, sym, ap, ◌∙◌, subst, arith}
use Rattle.dl_base.specs.Path.{path_test}
use Rattle.dl_base.specs.declared.file.FileWhat.TheVariants as whats
use Rattle.dl_base.specs.declared.file.Token.{Token}
use Rattle.dl_token.specs.Tokens.{read_token}
use Rattle.fs_command.specs.declared.line.CommandFault.{CommandFault}
use Rattle.fs_command.specs.declared.line.CommandFault.TheVariants as faults
use Rattle.fs_command.specs.declared.line.FileLine.{FileLine}
use Rattle.fs_command.specs.declared.line.FileLine.TheVariants as lines
use Rattle.fs_command.specs.Commands.{GivesLine, IfBad, IsPlaceIn, IsPlaceOf, asked, chmod, command, command_words, create, delete, either, is, is_session, list, read, read_of_path, read_of_session, rename, source_in, verb_then, write}
use Rattle.fs_command.specs.Grammar.{names_session}
use Rattle.fs_command.specs.Words.{Word, words}

-- `$NAME`
pub asks-session : (user word u n name : List ℕ) → u ≡ user → n ≡ name → (is_session name ≡ true) × (word ≡ 36 ∷ name) → Some (lines.ReadOf u n) ≡ source_in user word
asks-session user word u n name by of (fits, same) =
    let fitting : (if is_session name then Some (lines.ReadOf user name) else None) ≡ Some (lines.ReadOf user name) = ap (λ (t : Bool). if t then Some (lines.ReadOf user name) else None) fits in
    ap (λ (x : List ℕ). Some (lines.ReadOf x n)) by ∙ ap (λ (x : List ℕ). Some (lines.ReadOf user x)) of
    ∙ sym (ap (source_in user) same ∙ ap (λ (o : Option FileLine). either o (read_of_path user (36 ∷ name) (read_token (36 ∷ name)))) fitting)

no_session : (user word : List ℕ) → names_session word ≡ false → read_of_session user word ≡ None
no_session user [] e = refl
no_session user (b ∷ name) e = ap (λ (t : Bool). if t then Some (lines.ReadOf user name) else None) e

-- a path with a token
pub asks-token : (user word path : List ℕ) (token : Token) (line : FileLine) → names_session word ≡ false → Some (path, token) ≡ read_token word → line ≡ asked user (whats.Read path (Some token)) → Some line ≡ source_in user word
asks-token user word path token line other both same =
    ap (λ (l : FileLine). Some l) same
    ∙ ap (read_of_path user word) both
    ∙ sym (ap (λ (o : Option FileLine). either o (read_of_path user word (read_token word))) (no_session user word other))

-- neither, but a path or not
by_path : (user word : List ℕ) (t : Bool) → names_session word ≡ false → None ≡ read_token word → path_test word ≡ t → source_in user word ≡ (if t then Some (asked user (whats.Read word None)) else None)
by_path user word t other none e =
    ap (λ (o : Option FileLine). either o (read_of_path user word (read_token word))) (no_session user word other)
    ∙ ap (read_of_path user word) (sym none)
    ∙ ap (λ (t : Bool). if t then Some (asked user (whats.Read word None)) else None) e

pub asks-path : (user word path : List ℕ) (line : FileLine) → names_session word ≡ false → None ≡ read_token word → path_test word ≡ true → path ≡ word → line ≡ asked user (whats.Read path None) → Some line ≡ source_in user word
asks-path user word path line other none e of same =
    ap (λ (l : FileLine). Some l) (same ∙ ap (λ (p : List ℕ). asked user (whats.Read p None)) of) ∙ sym (by_path user word true other none e)

pub asks-nothing : (user word : List ℕ) → names_session word ≡ false → None ≡ read_token word → path_test word ≡ false → None ≡ source_in user word
asks-nothing user word other none e = sym (by_path user word false other none e)

-- a fault that is handed on, and one that is told
pub handed-on : (result : Result FileLine CommandFault) (r : Result FileLine ℕ) (place : ℕ) → IsErr result × IsErrAnd result (λ e. e ≡ faults.BadCommand place) → r ≡ Err place → GivesLine result r
handed-on (Ok line) r place (fails, same) h = absurd same
handed-on (Err fault) r place (fails, same) h = subst (λ (f : CommandFault). IfBad f (λ p. r ≡ Err p)) (sym same) h

pub handed-place : (text : List ℕ) (result : Result FileLine CommandFault) (place : ℕ) → IsErr result × IsErrAnd result (λ e. e ≡ faults.BadCommand place) → IsPlaceOf text place → IfErr result (λ e. IsPlaceIn text e)
handed-place text (Ok line) place (fails, same) h = tt
handed-place text (Err fault) place (fails, same) h = subst (IsPlaceIn text) (sym same) h

pub told-in : (text : List ℕ) (fault : CommandFault) (place begin end : ℕ) → fault ≡ faults.BadCommand place → place ≡ begin + 1 → begin < end → end ≤ length text → IsPlaceIn text fault
told-in text fault place begin end same at some within =
    let in_text : IsPlaceOf text place = (omega (arith, at), omega (arith, at, some, within)) in
    subst (IsPlaceIn text) (sym same) in_text

-- a test of the word against a text
pub tested : {t : Bool} (bytes slice text : List ℕ) → t ≡ bytes_eq bytes slice → slice ≡ text → t ≡ is text bytes
tested bytes slice text e same = e ∙ ap (bytes_eq bytes) same

-- by the first word, whether it is each of the verbs
module _ (user text : List ℕ) (v : Word) (ws : List Word) (is_first : words 1 text ≡ v ∷ ws) where
  by_verb : command user text ≡ verb_then user text v (length text + 1) ws
  unfolding command
  by_verb = ap (λ (all : List Word). command_words user text (length text + 1) all) is_first

  gives : (result : Result FileLine CommandFault) (r : Result FileLine ℕ) → verb_then user text v (length text + 1) ws ≡ r → GivesLine result r → GivesLine result (command user text)
  gives result r same h = subst (GivesLine result) (sym (by_verb ∙ same)) h

  pub asks-create : (result : Result FileLine CommandFault) → true ≡ is (codes "create") v.bytes → GivesLine result (create user text (length text + 1) ws) → GivesLine result (command user text)
  asks-create result e h = gives result (create user text (length text + 1) ws) (rw (← e) refl) h

  pub asks-write : (result : Result FileLine CommandFault) → false ≡ is (codes "create") v.bytes → true ≡ is (codes "write") v.bytes → GivesLine result (write user text (length text + 1) ws) → GivesLine result (command user text)
  asks-write result n0 e h = gives result (write user text (length text + 1) ws) (rw (← n0, ← e) refl) h

  pub asks-delete : (result : Result FileLine CommandFault) → false ≡ is (codes "create") v.bytes → false ≡ is (codes "write") v.bytes → true ≡ is (codes "delete") v.bytes → GivesLine result (delete user (length text + 1) ws) → GivesLine result (command user text)
  asks-delete result n0 n1 e h = gives result (delete user (length text + 1) ws) (rw (← n0, ← n1, ← e) refl) h

  pub asks-rename : (result : Result FileLine CommandFault) → false ≡ is (codes "create") v.bytes → false ≡ is (codes "write") v.bytes → false ≡ is (codes "delete") v.bytes → true ≡ is (codes "rename") v.bytes → GivesLine result (rename user (length text + 1) ws) → GivesLine result (command user text)
  asks-rename result n0 n1 n2 e h = gives result (rename user (length text + 1) ws) (rw (← n0, ← n1, ← n2, ← e) refl) h

  pub asks-chmod : (result : Result FileLine CommandFault) → false ≡ is (codes "create") v.bytes → false ≡ is (codes "write") v.bytes → false ≡ is (codes "delete") v.bytes → false ≡ is (codes "rename") v.bytes → true ≡ is (codes "chmod") v.bytes → GivesLine result (chmod user (length text + 1) ws) → GivesLine result (command user text)
  asks-chmod result n0 n1 n2 n3 e h = gives result (chmod user (length text + 1) ws) (rw (← n0, ← n1, ← n2, ← n3, ← e) refl) h

  pub asks-read : (result : Result FileLine CommandFault) → false ≡ is (codes "create") v.bytes → false ≡ is (codes "write") v.bytes → false ≡ is (codes "delete") v.bytes → false ≡ is (codes "rename") v.bytes → false ≡ is (codes "chmod") v.bytes → true ≡ is (codes "read") v.bytes → GivesLine result (read user (length text + 1) ws) → GivesLine result (command user text)
  asks-read result n0 n1 n2 n3 n4 e h = gives result (read user (length text + 1) ws) (rw (← n0, ← n1, ← n2, ← n3, ← n4, ← e) refl) h

  pub asks-list : (result : Result FileLine CommandFault) → false ≡ is (codes "create") v.bytes → false ≡ is (codes "write") v.bytes → false ≡ is (codes "delete") v.bytes → false ≡ is (codes "rename") v.bytes → false ≡ is (codes "chmod") v.bytes → false ≡ is (codes "read") v.bytes → true ≡ is (codes "list") v.bytes → GivesLine result (list user (length text + 1) ws) → GivesLine result (command user text)
  asks-list result n0 n1 n2 n3 n4 n5 e h = gives result (list user (length text + 1) ws) (rw (← n0, ← n1, ← n2, ← n3, ← n4, ← n5, ← e) refl) h

  pub asks-none : (fault : CommandFault) (place : ℕ) → false ≡ is (codes "create") v.bytes → false ≡ is (codes "write") v.bytes → false ≡ is (codes "delete") v.bytes → false ≡ is (codes "rename") v.bytes → false ≡ is (codes "chmod") v.bytes → false ≡ is (codes "read") v.bytes → false ≡ is (codes "list") v.bytes → fault ≡ faults.BadCommand place → place ≡ v.place → GivesLine (Err fault) (command user text)
  asks-none fault place n0 n1 n2 n3 n4 n5 n6 same at =
      let refused : command user text ≡ Err v.place = by_verb ∙ rw (← n0, ← n1, ← n2, ← n3, ← n4, ← n5, ← n6) refl in
      subst (λ (f : CommandFault). GivesLine (Err f) (command user text)) (sym same) (refused ∙ ap (λ (p : ℕ). Err p) (sym at))
