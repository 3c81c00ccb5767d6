-- Commits as they are kept, and what they stand for.
use Rattle.std.proofs.Common.{◌≡◌, ℕ, zero, suc, ◌+◌, ◌-◌, ◌<◌, ◌≤◌, Bool, true, false, not, cond, List, [], ◌∷◌, ◌++◌, length, drop, Option, Some, None, IfSome, is_none, is_some, nat_eq, add-one, refl, sym, ap, subst, ◌∙◌, arith}
use Rattle.std.proofs.lemmas.Cmp.{nat_eq_equiv}
use Rattle.std.specs.List.{slice_get}
use Rattle.std.specs.Map.{lookup}
use Rattle.std.specs.Option.{option_map, unwrap_or}
use Rattle.meaning_areas.specs.Commits.{Commit, commit_of, commit_to, tables_after, with_table_changes}
use Rattle.meaning_areas.specs.Stands.{past}
use Rattle.meaning_tables.specs.Tables.{Tables}
use Rattle.db_changes.specs.Made.{changes_in}
use Rattle.db_store.specs.Log.{commit_between, commit_numbered, commits_from, first_changes, has_branch, redone}
use Rattle.db_store.specs.declared.log.Entry.{Entry}

pub none_there : {A : Type 0} (o : Option A) → is_none o ≡ true → o ≡ None
none_there None e = refl
none_there (Some x) e = cc e

pub of_some : {A : Type 0} (P : A → Type 0) (o : Option A) (x : A) → o ≡ Some x → IfSome o P → P x
of_some {A = A} P o x is holds = subst (λ (p : Option A). IfSome p P) is holds

-- the tables after an entry, as the commit of a number
abbrev pub entered : ℕ → Tables → Entry → Tables
entered number before e = redone number before (changes_in e.body)

-- one more commit

pub commits-push : (number : ℕ) (before : Tables) (es : List (ℕ × Entry)) (e : ℕ × Entry) → commits_from number before (es ++ e ∷ [])
    ≡ commits_from number before es ++ commit_between (tables_after before (commits_from number before es)) e.0 e.1.branch (entered (number + length es) (tables_after before (commits_from number before es)) e.1) ∷ []
commits-push number before [] e =
    let same : number ≡ number + 0 = omega arith in
    ap (λ (k : ℕ). commit_between before e.0 e.1.branch (entered k before e.1) ∷ []) same
commits-push number before (d ∷ ds) e =
    let after = entered number before d.1 in
    let last = tables_after after (commits_from (number + 1) after ds) in
    let same : number + 1 + length ds ≡ number + suc (length ds) = omega arith in
    ap (λ (cs : List Commit). commit_between before d.0 d.1.branch after ∷ cs) (
    commits-push (number + 1) after ds e
    ∙ ap (λ (k : ℕ). commits_from (number + 1) after ds ++ commit_between last e.0 e.1.branch (entered k last e.1) ∷ []) same)

pub after-push : (before : Tables) (cs : List Commit) (c : Commit) → tables_after before (cs ++ c ∷ []) ≡ c.tables
after-push before [] c = refl
after-push before (d ∷ ds) c = after-push d.tables ds c

-- a commit whose changes lead from the tables before it to others
module _ (es : List (ℕ × Entry)) (e : ℕ × Entry) (was later : Tables) (at : was ≡ tables_after [] (commits_from 1 [] es)) (leads : with_table_changes (length es + 1) was (changes_in e.1.body) ≡ Some later) where
  now : entered (1 + length es) (tables_after [] (commits_from 1 [] es)) e.1 ≡ later
  now =
      let same : 1 + length es ≡ length es + 1 = omega arith in
      ap (λ (k : ℕ). entered k (tables_after [] (commits_from 1 [] es)) e.1) same
      ∙ ap (λ (ts : Tables). entered (length es + 1) ts e.1) (sym at)
      ∙ ap (λ (o : Option Tables). unwrap_or o was) leads

  pub one-committed : commits_from 1 [] (es ++ e ∷ []) ≡ commits_from 1 [] es ++ commit_to (commits_from 1 [] es) e.0 e.1.branch later ∷ []
  one-committed = commits-push 1 [] es e ∙ ap (λ (ts : Tables). commits_from 1 [] es ++ commit_to (commits_from 1 [] es) e.0 e.1.branch ts ∷ []) now

  pub one-after : later ≡ tables_after [] (commits_from 1 [] (es ++ e ∷ []))
  one-after = sym (
      ap (λ (cs : List Commit). tables_after [] cs) one-committed
      ∙ after-push [] (commits_from 1 [] es) (commit_to (commits_from 1 [] es) e.0 e.1.branch later))

pub all_committed : (es all : List (ℕ × Entry)) (tx : ℕ) (entry : Entry) (was later : Tables) → all ≡ es ++ (tx, entry) ∷ [] → was ≡ tables_after [] (commits_from 1 [] es)
    → with_table_changes (length es + 1) was (changes_in entry.body) ≡ Some later → commits_from 1 [] all ≡ commits_from 1 [] es ++ commit_to (commits_from 1 [] es) tx entry.branch later ∷ []
all_committed es all tx entry was later grown at leads = ap (λ (l : List (ℕ × Entry)). commits_from 1 [] l) grown ∙ one-committed es (tx, entry) was later at leads

-- how many, which, and whose

pub length-commits : (number : ℕ) (before : Tables) (es : List (ℕ × Entry)) → length (commits_from number before es) ≡ length es
length-commits number before [] = refl
length-commits number before (e ∷ es) = ap suc (length-commits (number + 1) (entered number before e.1) es)

pub entry_at : (number : ℕ) (before : Tables) (es : List (ℕ × Entry)) (i : ℕ) → option_map {U = ℕ × Bool} (λ c. (c.tx, c.branch)) (slice_get (commits_from number before es) i) ≡ option_map {U = ℕ × Bool} (λ e. (e.0, e.1.branch)) (slice_get es i)
entry_at number before [] i = refl
entry_at number before (e ∷ es) zero = refl
entry_at number before (e ∷ es) (suc i) = entry_at (number + 1) (entered number before e.1) es i

pub entry_of : (tx number : ℕ) (before : Tables) (es : List (ℕ × Entry)) → option_map (λ c. c.branch) (commit_of tx (commits_from number before es)) ≡ option_map (λ e. e.branch) (lookup (λ k. nat_eq tx k) es)
entry_of tx number before [] = refl
entry_of tx number before (e ∷ es) = by (nat_eq e.0 tx) (nat_eq tx e.0) (nat_eq_equiv.symm e.0 tx) (entry_of tx (number + 1) after es)
  where
    after : Tables
    after = entered number before e.1

    by : (b d : Bool) → b ≡ d → option_map (λ c. c.branch) (commit_of tx (commits_from (number + 1) after es)) ≡ option_map (λ e. e.branch) (lookup (λ k. nat_eq tx k) es)
        → option_map (λ c. c.branch) (cond b (Some (commit_between before e.0 e.1.branch after)) (commit_of tx (commits_from (number + 1) after es)))
        ≡ option_map (λ e. e.branch) (cond d (Some e.1) (lookup (λ k. nat_eq tx k) es))
    by true true same go = refl
    by true false same go = cc same
    by false true same go = cc same
    by false false same go = go

mapped-branch : (o : Option Commit) → has_branch o ≡ unwrap_or (option_map (λ c. c.branch) o) false
mapped-branch None = refl
mapped-branch (Some c) = refl

-- by what is known of the transaction's branch
pub branch_back : (tx : ℕ) (es : List (ℕ × Entry)) (o : Option Bool) → o ≡ option_map (λ e. e.branch) (lookup (λ k. nat_eq tx k) es) → unwrap_or o false ≡ has_branch (commit_of tx (commits_from 1 [] es))
branch_back tx es o is = ap (λ (p : Option Bool). unwrap_or p false) (is ∙ sym (entry_of tx 1 [] es)) ∙ sym (mapped-branch (commit_of tx (commits_from 1 [] es)))

pub some-mapped : {A B : Type 0} (f : A → B) (o : Option A) → is_some (option_map f o) ≡ is_some o
some-mapped f (Some x) = refl
some-mapped f None = refl

none-mapped : {A B : Type 0} (f : A → B) (o : Option A) → is_none (option_map f o) ≡ is_none o
none-mapped f (Some x) = refl
none-mapped f None = refl

pub has_entry : (tx : ℕ) (es : List (ℕ × Entry)) → is_some (commit_of tx (commits_from 1 [] es)) ≡ is_some (lookup (λ k. nat_eq tx k) es)
has_entry tx es =
    sym (some-mapped (λ c. c.branch) (commit_of tx (commits_from 1 [] es))) ∙ ap is_some (entry_of tx 1 [] es) ∙ some-mapped (λ e. e.branch) (lookup (λ k. nat_eq tx k) es)

pub has_none : (tx : ℕ) (es : List (ℕ × Entry)) → is_none (commit_of tx (commits_from 1 [] es)) ≡ is_none (lookup (λ k. nat_eq tx k) es)
has_none tx es =
    sym (none-mapped (λ c. c.branch) (commit_of tx (commits_from 1 [] es))) ∙ ap is_none (entry_of tx 1 [] es) ∙ none-mapped (λ e. e.branch) (lookup (λ k. nat_eq tx k) es)

pub at_back : (es : List (ℕ × Entry)) (commit : ℕ) (o : Option (ℕ × Bool)) → 0 < commit → o ≡ option_map {U = ℕ × Bool} (λ e. (e.0, e.1.branch)) (slice_get es (commit - 1))
    → o ≡ option_map {U = ℕ × Bool} (λ c. (c.tx, c.branch)) (commit_numbered (commits_from 1 [] es) commit)
at_back es zero o lt is = absurd (omega (arith, lt))
at_back es (suc n) o lt is =
    let same : suc n - 1 ≡ n = omega arith in
    is ∙ ap (λ (i : ℕ). option_map {U = ℕ × Bool} (λ e. (e.0, e.1.branch)) (slice_get es i)) same ∙ sym (entry_at 1 [] es n)

not_some : {A : Type 0} (o : Option A) → not (is_some o) ≡ is_none o
not_some None = refl
not_some (Some x) = refl

pub lacking : {A : Type 0} (b : Bool) (o : Option A) → b ≡ is_some o → not b ≡ is_none o
lacking b o is = ap not is ∙ not_some o

-- the next commit is of a transaction that has none
pub none_yet : (tx : ℕ) (es : List (ℕ × Entry)) → is_none (commit_of tx (commits_from 1 [] es)) ≡ true → lookup (λ k. nat_eq tx k) es ≡ None
none_yet tx es e = none_there (lookup (λ k. nat_eq tx k) es) (sym (has_none tx es) ∙ e)

-- the tables after some of the commits, one entry after another
pub past-none : (number : ℕ) (before : Tables) (es : List (ℕ × Entry)) (n : ℕ) → length es < n → past before (commits_from number before es) n ≡ None
past-none number before [] zero past = absurd (omega (arith, past))
past-none number before [] (suc n) past = refl
past-none number before (e ∷ es) zero past = absurd (omega (arith, past))
past-none number before (e ∷ es) (suc n) past = past-none (number + 1) (entered number before e.1) es n (omega (arith, past))

-- the tables after the first of those that are left
abbrev after : ℕ → Tables → List (ℕ × Entry) → Tables
after number before es = redone number before (first_changes es)

pub past-step : (number : ℕ) (ts : Tables) (es : List (ℕ × Entry)) (i n : ℕ) → i < length es
    → past ts (commits_from number ts (drop i es)) (suc n) ≡ past (after number ts (drop i es)) (commits_from (number + 1) (after number ts (drop i es)) (drop (suc i) es)) n
past-step number ts [] i n lt = absurd (omega (arith, lt))
past-step number ts (e ∷ es) zero n lt = refl
past-step number ts (e ∷ es) (suc i) n lt = past-step number ts es i n (omega (arith, lt))

-- a turn of the loop over commits
pub past-turn : (ts later : Tables) (es : List (ℕ × Entry)) (i count : ℕ) → i < count → count ≤ length es → later ≡ after (i + 1) ts (drop i es)
    → past later (commits_from (i + 1 + 1) later (drop (i + 1) es)) (count - (i + 1)) ≡ past ts (commits_from (i + 1) ts (drop i es)) (count - i)
past-turn ts later es i count lt le is =
    let n = count - (i + 1) in
    let more : count - i ≡ suc n = omega (arith, lt) in
    ap (λ (us : Tables). past us (commits_from (i + 1 + 1) us (drop (i + 1) es)) n) is
    ∙ ap (λ (k : ℕ). past (after (i + 1) ts (drop i es)) (commits_from (i + 1 + 1) (after (i + 1) ts (drop i es)) (drop k es)) n) (add-one i)
    ∙ sym (past-step (i + 1) ts es i n (omega (arith, lt, le)))
    ∙ ap (λ (k : ℕ). past ts (commits_from (i + 1) ts (drop i es)) k) (sym more)

-- the loop's end
pub past_done : (ts : Tables) (cs ds : List Commit) (i count : ℕ) → count ≤ i → past ts cs (count - i) ≡ past [] ds count → past [] ds count ≡ Some ts
past_done ts cs ds i count le is =
    let none : count - i ≡ 0 = omega (arith, le) in
    sym is ∙ ap (λ (n : ℕ). past ts cs n) none

pub past_none : (es : List (ℕ × Entry)) (n : ℕ) → length es < n → None ≡ past [] (commits_from 1 [] es) n
past_none es n lt = sym (past-none 1 [] es n lt)

-- one commit more, from the tables before it

some-tables : (t u : Tables) → Some t ≡ Some u → t ≡ u
some-tables t u e = cc

pub next-past : (number : ℕ) (before ts : Tables) (es : List (ℕ × Entry)) (n : ℕ) → n < length es → past before (commits_from number before es) n ≡ Some ts
    → Some (after (number + n) ts (drop n es)) ≡ past before (commits_from number before es) (suc n)
next-past number before ts [] n lt is = absurd (omega (arith, lt))
next-past number before ts (e ∷ es) zero lt is =
    let same : number + 0 ≡ number = omega arith in
    ap (λ (us : Tables). Some (entered (number + 0) us e.1)) (sym (some-tables before ts is)) ∙ ap (λ (k : ℕ). Some (entered k before e.1)) same
next-past number before ts (e ∷ es) (suc n) lt is =
    let same : number + suc n ≡ number + 1 + n = omega arith in
    ap (λ (k : ℕ). Some (after k ts (drop n es))) same ∙ next-past (number + 1) (entered number before e.1) ts es n (omega (arith, lt)) is

-- the same by the commit's number, from 1
pub next_past : (ts later : Tables) (es : List (ℕ × Entry)) (commit : ℕ) → 1 ≤ commit → commit ≤ length es → past [] (commits_from 1 [] es) (commit - 1) ≡ Some ts
    → later ≡ after (commit - 1 + 1) ts (drop (commit - 1) es) → Some later ≡ past [] (commits_from 1 [] es) commit
next_past ts later es commit first last is made =
    let within : commit - 1 < length es = omega (arith, first, last) in
    let number : suc (commit - 1) ≡ commit = omega (arith, first) in
    let same : commit - 1 + 1 ≡ 1 + (commit - 1) = omega arith in
    ap (λ (us : Tables). Some us) made ∙ ap (λ (k : ℕ). Some (after k ts (drop (commit - 1) es))) same
    ∙ next-past 1 [] ts es (commit - 1) within is ∙ ap (λ (n : ℕ). past [] (commits_from 1 [] es) n) number
