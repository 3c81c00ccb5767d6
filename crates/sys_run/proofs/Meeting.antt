-- Who acts, and the sessions among them.
use Rattle.std.proofs.Common.{◌≡◌, ℕ, zero, suc, ◌+◌, ◌≤◌, ◌<◌, ◌||◌, ◌&&◌, ◌==◌, Bool, true, false, not, cond, List, [], ◌∷◌, ◌++◌, length, take, nat_lt, nat_le, bytes_eq, Option, Some, None, is_some, refl, sym, ap, ◌∙◌, subst, arith, slice_get, length-append}
use Rattle.std.proofs.lemmas.Bool.{and_parts}
use Rattle.std.proofs.lemmas.Bool.Decides.{nat_tests}
use Rattle.std.proofs.lemmas.Slice.Eq.{bytes_eq-Decides}
use Rattle.std.specs.List.{list_any, position}
use Rattle.std.specs.Option.{unwrap_or}
use Rattle.db_txn.specs.Transaction.{Transaction, vacant}
use Rattle.dl_base.specs.Limits.{most_actor_name_bytes, most_actors, most_line_bytes}
use Rattle.dl_base.specs.Name.{IsName, name_test}
use Rattle.fs_command.specs.Commands.{is_session}
use Rattle.meaning_run.specs.Running.{Run, met}
use Rattle.meaning_script.specs.Actors.{actor_in, actor_of, is_extra, is_known, is_user_mark, number_from, session_in, session_number, sessions, user_in, with_actor}
use Rattle.meaning_script.specs.Lines.{is_quiet, is_user}
use Rattle.meaning_script.specs.Outlines.{word_len}
use Rattle.meaning_system.specs.State.{State}
use Rattle.sys_core.specs.Seated.{HasTxn}
use Rattle.sys_run.specs.Running.{AreOf}
use Rattle.sys_run.specs.Sessions.{AreShown, is_seated, txn_at}
use Rattle.sys_run.specs.declared.sessions.Sessions.{Sessions}

pub some_same : {A : Type 0} (x y : A) → Some x ≡ Some y → x ≡ y
some_same x y e = cc

pub true_false : true ≡ false → ⊥
true_false e = cc

-- ---- lists of actors

-- one actor more
pub sessions-more : (actors : List (List ℕ)) (a : List ℕ) → sessions (actors ++ a ∷ []) ≡ sessions actors ++ cond (is_user_mark a) [] (a ∷ [])
sessions-more [] a = refl
sessions-more (b ∷ actors) a = by (is_user_mark b) (sessions-more actors a)
  where
    by : (t : Bool) → sessions (actors ++ a ∷ []) ≡ sessions actors ++ cond (is_user_mark a) [] (a ∷ [])
        → cond t (sessions (actors ++ a ∷ [])) (b ∷ sessions (actors ++ a ∷ [])) ≡ cond t (sessions actors) (b ∷ sessions actors) ++ cond (is_user_mark a) [] (a ∷ [])
    by true is = is
    by false is = ap (λ (l : List (List ℕ)). b ∷ l) is

-- a session's name that is among the actors is among the sessions, and has a number
known-numbered : (k : ℕ) (a : List ℕ) (names : List (List ℕ)) → is_some (number_from k a names) ≡ list_any (bytes_eq a) names
known-numbered k a [] = refl
known-numbered k a (s ∷ more) = by (bytes_eq a s) (known-numbered (k + 1) a more)
  where
    by : (b : Bool) → is_some (number_from (k + 1) a more) ≡ list_any (bytes_eq a) more → is_some (cond b (Some k) (number_from (k + 1) a more)) ≡ (b || list_any (bytes_eq a) more)
    by true is = refl
    by false is = is

same-mark : (a b : List ℕ) → bytes_eq a b ≡ true → is_user_mark b ≡ is_user_mark a
same-mark a b is = ap is_user_mark (sym ((bytes_eq-Decides a b).0 is))

known-session : (actors : List (List ℕ)) (a : List ℕ) → is_user_mark a ≡ false → list_any (bytes_eq a) (sessions actors) ≡ is_known actors a
known-session [] a none = refl
known-session (b ∷ actors) a none = by (is_user_mark b) (bytes_eq a b) refl refl (known-session actors a none)
  where
    by : (t s : Bool) → is_user_mark b ≡ t → bytes_eq a b ≡ s → list_any (bytes_eq a) (sessions actors) ≡ is_known actors a
        → list_any (bytes_eq a) (cond t (sessions actors) (b ∷ sessions actors)) ≡ (s || is_known actors a)
    by true true mark same is = absurd (true_false (sym mark ∙ same-mark a b same ∙ none))
    by true false mark same is = is
    by false s mark same is = (λ i. same i || is i)

pub numbered : (actors : List (List ℕ)) (a : List ℕ) → is_user_mark a ≡ false → is_some (session_number actors a) ≡ is_known actors a
numbered actors a none = known-numbered 1 a (sessions actors) ∙ known-session actors a none

-- ---- an actor more

-- one that has its place, and one too many, leave the sessions as they are
pub same-sessions : (actors : List (List ℕ)) (o : Option (List ℕ)) → (is_seated actors o || is_extra actors o) ≡ true → sessions (with_actor actors o) ≡ sessions actors
same-sessions actors None is = refl
same-sessions actors (Some a) is = by (is_user_mark a) refl (is_known actors a) (nat_le most_actors (length actors)) (λ none. numbered actors a none) is
  where
    user : is_user_mark a ≡ true → sessions (actors ++ a ∷ []) ≡ sessions actors
    user mark = sessions-more actors a ∙ ap (λ b. sessions actors ++ cond b [] (a ∷ [])) mark ∙ nothing (sessions actors)
      where
        nothing : (l : List (List ℕ)) → l ++ [] ≡ l
        nothing [] = refl
        nothing (x ∷ xs) = ap (λ (m : List (List ℕ)). x ∷ m) (nothing xs)

    by : (mark : Bool) → is_user_mark a ≡ mark → (known full : Bool) → (is_user_mark a ≡ false → is_some (session_number actors a) ≡ known)
        → ((mark || is_some (session_number actors a)) || (not known && full)) ≡ true → sessions (cond (known || full) actors (actors ++ a ∷ [])) ≡ sessions actors
    by mark m true full f is = refl
    by mark m false true f is = refl
    by true m false false f is = user m
    by false m false false f is = absurd (no (is_some (session_number actors a)) (f m) is)
      where
        no : (b : Bool) → b ≡ false → ((false || b) || (true && false)) ≡ true → ⊥
        no true e is = cc
        no false e is = cc

-- a new session comes behind the others
pub one-session : (actors : List (List ℕ)) (a : List ℕ) → is_seated actors (Some a) ≡ false → is_extra actors (Some a) ≡ false → sessions (with_actor actors (Some a)) ≡ sessions actors ++ a ∷ []
one-session actors a seated extra = by (is_user_mark a) refl (is_known actors a) (nat_le most_actors (length actors)) (λ none. numbered actors a none) seated extra
  where
    by : (mark : Bool) → is_user_mark a ≡ mark → (known full : Bool) → (is_user_mark a ≡ false → is_some (session_number actors a) ≡ known)
        → (mark || is_some (session_number actors a)) ≡ false → (not known && full) ≡ false → sessions (cond (known || full) actors (actors ++ a ∷ [])) ≡ sessions actors ++ a ∷ []
    by true m known full f seated extra = absurd (true_false seated)
    by false m true full f seated extra = absurd (true_false (sym (f m) ∙ seated))
    by false m false true f seated extra = absurd (true_false extra)
    by false m false false f seated extra = sessions-more actors a ∙ ap (λ b. sessions actors ++ cond b [] (a ∷ [])) m

-- there are no more sessions than actors
sessions-few : (actors : List (List ℕ)) → length (sessions actors) ≤ length actors
sessions-few [] = omega (arith)
sessions-few (a ∷ more) = by (is_user_mark a) (sessions-few more)
  where
    by : (t : Bool) → length (sessions more) ≤ length more → length (cond t (sessions more) (a ∷ sessions more)) ≤ suc (length more)
    by true is = omega (arith, is)
    by false is = omega (arith, is)

-- a new session that is counted is at most the last that a script may have
pub room-for-one : (actors : List (List ℕ)) (a : List ℕ) → is_seated actors (Some a) ≡ false → is_extra actors (Some a) ≡ false → length (sessions actors) < most_actors
room-for-one actors a seated extra = by (is_user_mark a) refl (is_known actors a) (nat_le most_actors (length actors)) refl (λ none. numbered actors a none) seated extra
  where
    under : nat_le most_actors (length actors) ≡ false → length actors < most_actors
    under is = grind (arith, nat_tests)

    by : (mark : Bool) → is_user_mark a ≡ mark → (known full : Bool) → nat_le most_actors (length actors) ≡ full → (is_user_mark a ≡ false → is_some (session_number actors a) ≡ known)
        → (mark || is_some (session_number actors a)) ≡ false → (not known && full) ≡ false → length (sessions actors) < most_actors
    by true m known full e f seated extra = absurd (true_false seated)
    by false m true full e f seated extra = absurd (true_false (sym (f m) ∙ seated))
    by false m false true e f seated extra = absurd (true_false extra)
    by false m false false e f seated extra =
        let few : length (sessions actors) ≤ length actors = sessions-few actors in
        let room : length actors < most_actors = under e in
        omega (arith, few, room)

-- ---- what is kept of them

-- what one more item is among others
data Pushed (txns : List Transaction) (w : Transaction) (m : ℕ) : Type 0 where
  last : m ≡ length txns → slice_get (txns ++ w ∷ []) m ≡ Some w → slice_get txns m ≡ None → Pushed txns w m
  other : slice_get (txns ++ w ∷ []) m ≡ slice_get txns m → Pushed txns w m

pushed : (txns : List Transaction) (w : Transaction) (m : ℕ) → Pushed txns w m
pushed [] w zero = last refl refl refl
pushed [] w (suc m) = other refl
pushed (x ∷ xs) w zero = other refl
pushed (x ∷ xs) w (suc m) = by (pushed xs w m)
  where
    by : Pushed xs w m → Pushed (x ∷ xs) w (suc m)
    by (last e at none) = last (ap (λ (n : ℕ). suc n) e) at none
    by (other same) = other same

-- a session that has no transaction is seen as before
txn-more : (txns : List Transaction) (n : ℕ) → txn_at (txns ++ vacant (length txns + 1) ∷ []) n ≡ txn_at txns n
txn-more txns zero = refl
txn-more txns (suc m) = by (pushed txns (vacant (length txns + 1)) m)
  where
    up : (n : ℕ) → m ≡ n → n + 1 ≡ suc m
    up n e = omega (arith, e)

    by : Pushed txns (vacant (length txns + 1)) m → txn_at (txns ++ vacant (length txns + 1) ∷ []) (suc m) ≡ txn_at txns (suc m)
    by (last e at none) =
        ap (λ (o : Option Transaction). unwrap_or o (vacant (suc m))) at ∙ ap vacant (up (length txns) e)
        ∙ sym (ap (λ (o : Option Transaction). unwrap_or o (vacant (suc m))) none)
    by (other same) = ap (λ (o : Option Transaction). unwrap_or o (vacant (suc m))) same

pub shown-more : (s : State) (txns : List Transaction) → AreShown s txns → AreShown s (txns ++ vacant (length txns + 1) ∷ [])
shown-more s txns shown = record {
  separate = shown.separate;
  shown = λ n. subst (HasTxn s) (sym (txn-more txns n)) (shown.shown n);
  numbered = λ n. ap (λ (t : Transaction). t.session) (txn-more txns n) ∙ shown.numbered n;
}

-- the sessions are those that there were
pub met-same : (r : Run) (o : Option (List ℕ)) (v w : Sessions) → AreOf r v → (is_seated v.actors o || is_extra v.actors o) ≡ true
    → w.txns ≡ v.txns → w.names ≡ v.names → w.actors ≡ with_actor v.actors o → w.grids ≡ v.grids → AreOf (met r o) w
met-same r o v w of same txns names actors grids =
    let now : with_actor v.actors o ≡ with_actor r.actors o = ap (λ (a : List (List ℕ)). with_actor a o) of.actors in
    let kept : sessions (with_actor r.actors o) ≡ sessions r.actors = subst (λ (a : List (List ℕ)). sessions (with_actor a o) ≡ sessions a) of.actors (same-sessions v.actors o same) in
    record {
      shown = subst (AreShown r.state) (sym txns) of.shown;
      actors = actors ∙ now;
      names = names ∙ of.names ∙ sym kept;
      count = ap length txns ∙ of.count ∙ ap length (sym names);
      grids = grids ∙ of.grids;
    }

-- one session more
pub met-more : (r : Run) (a : List ℕ) (v w : Sessions) → AreOf r v → is_seated v.actors (Some a) ≡ false → is_extra v.actors (Some a) ≡ false
    → w.txns ≡ v.txns ++ vacant (length v.names + 1) ∷ [] → w.names ≡ v.names ++ a ∷ [] → w.actors ≡ with_actor v.actors (Some a) → w.grids ≡ v.grids → AreOf (met r (Some a)) w
met-more r a v w of seated extra txns names actors grids =
    let now : with_actor v.actors (Some a) ≡ with_actor r.actors (Some a) = ap (λ (l : List (List ℕ)). with_actor l (Some a)) of.actors in
    let kept : sessions (with_actor r.actors (Some a)) ≡ sessions r.actors ++ a ∷ [] = subst (λ (l : List (List ℕ)). sessions (with_actor l (Some a)) ≡ sessions l ++ a ∷ []) of.actors (one-session v.actors a seated extra) in
    let these : w.txns ≡ v.txns ++ vacant (length v.txns + 1) ∷ [] = txns ∙ ap (λ (n : ℕ). v.txns ++ vacant (n + 1) ∷ []) (sym of.count) in
    let long : length w.txns ≡ length w.names =
    ap length txns ∙ length-append v.txns (vacant (length v.names + 1) ∷ []) ∙ ap (λ (n : ℕ). n + 1) of.count ∙ sym (length-append v.names (a ∷ [])) ∙ ap length (sym names) in
    record {
      shown = subst (AreShown r.state) (sym these) (shown-more r.state v.txns of.shown);
      actors = actors ∙ now;
      names = names ∙ ap (λ (l : List (List ℕ)). l ++ a ∷ []) of.names ∙ sym kept;
      count = long;
      grids = grids ∙ of.grids;
    }

-- ---- the name of a session

session-name : (name : List ℕ) → is_session name ≡ true → IsName name
unfolding is_session
session-name name test = (and_parts (name_test name) (nat_le (length name) most_actor_name_bytes) test).0

-- an actor that is no user is a session's name
pub session-named : (line a : List ℕ) → actor_of line ≡ Some a → is_user_mark a ≡ false → IsName a
unfolding actor_of
session-named line a is none = by (is_quiet line || nat_lt most_line_bytes (length line)) is
  where
    named : (b : Bool) (name : List ℕ) → is_session name ≡ b → cond b (Some name) None ≡ Some a → IsName a
    named false name test is = absurd cc
    named true name test is = subst IsName (some_same name a is) (session-name name test)

    colon : (l : List ℕ) (k : Option ℕ) → session_in l k ≡ Some a → IsName a
    colon l None is = absurd cc
    colon l (Some k) is = named (is_session (take k l)) (take k l) refl is

    user : (b : Bool) (word : List ℕ) → cond b (Some (64 ∷ word)) None ≡ Some a → IsName a
    user false word is = absurd cc
    user true word is = absurd (true_false (ap is_user_mark (some_same (64 ∷ word) a is) ∙ none))

    marked : (b : Bool) (x : ℕ) (text : List ℕ) → cond b (user_in text) (session_in (x ∷ text) (position (λ c. c == 58) (x ∷ text))) ≡ Some a → IsName a
    marked true x text is = user (is_user (take (word_len text) text)) (take (word_len text) text) is
    marked false x text is = colon (x ∷ text) (position (λ c. c == 58) (x ∷ text)) is

    some : (l : List ℕ) → actor_in l ≡ Some a → IsName a
    some [] is = absurd cc
    some (x ∷ text) is = marked (x == 64) x text is

    by : (b : Bool) → cond b None (actor_in line) ≡ Some a → IsName a
    by true is = absurd cc
    by false is = some line is

-- one without its place is no user
pub no-mark : (actors : List (List ℕ)) (a : List ℕ) → is_seated actors (Some a) ≡ false → is_user_mark a ≡ false
no-mark actors a seated = by (is_user_mark a) seated
  where
    by : (b : Bool) → (b || is_some (session_number actors a)) ≡ false → b ≡ false
    by true is = absurd (true_false is)
    by false is = refl
