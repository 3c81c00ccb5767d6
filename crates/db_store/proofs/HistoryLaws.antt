-- What the fold makes of a record, by what is asked of it.
use Rattle.std.proofs.Common.{◌≡◌, ℕ, ◌+◌, ◌/◌, ◌^◌, ◌==◌, ◌&&◌, Bool, true, false, not, cond, List, [], ◌∷◌, ◌++◌, length, Option, Some, None, is_none, nat_eq, refl, sym, ap, ◌∙◌, arith}
use Rattle.std.proofs.lemmas.Bool.{eq-eqb, ne_eqb}
use Rattle.std.proofs.lemmas.Bool.Decides.{nat_tests}
use Rattle.std.specs.Option.{option_map}
use Rattle.dl_codec.specs.declared.rows.TableChange.{TableChange}
use Rattle.meaning_areas.specs.Commits.{Commit, Commits, commit_of, commit_to, commits_on, ends_on, fitting, has_number, opens_on, tables_after, with_commit, with_ended, with_table_changes}
use Rattle.meaning_tables.specs.Fits.{fits}
use Rattle.meaning_tables.specs.Tables.{Tables}
use Rattle.db_replay.specs.Replaying.{fitted}
use Rattle.std.specs.Map.{lookup}
use Rattle.db_changes.specs.Made.{changes_in}
use Rattle.db_store.proofs.LogLaws.{length-commits, none_yet, one-after, one-committed}
use Rattle.db_store.proofs.Versions.{fitted-some}
use Rattle.db_store.specs.Log.{commits_from, has_branch}
use Rattle.db_store.specs.declared.log.Entry.{Entry}

-- an opening

module _ (r : Commits) (opening number : ℕ) (cs : List Commit) (ended : List ℕ) (is : record { opening = opening; commits = cs; ended = ended } ≡ r) where
  pub opens_next : number ≡ opening + 1 → opens_on r number ≡ Some (record { opening = number; commits = cs; ended = ended })
  opens_next e =
      ap (λ (x : Commits). opens_on x number) (sym is)
      ∙ ap (λ b. cond b (Some (record { opening = number; commits = cs; ended = ended })) None) (eq-eqb number (opening + 1) e)

  pub opens_none : (number ≡ opening + 1 → ⊥) → opens_on r number ≡ None
  opens_none e =
      ap (λ (x : Commits). opens_on x number) (sym is)
      ∙ ap (λ b. cond b (Some (record { opening = number; commits = cs; ended = ended })) None) (ne_eqb number (opening + 1) e)

-- an end of a branch

module _ (r : Commits) (tx : ℕ) where
  pub ends-by : (o : Option Commit) → ends_on r tx o ≡ cond (has_branch o && not (has_number tx r.ended)) (Some (with_ended r tx)) None
  ends-by None = refl
  ends-by (Some c) = refl

  pub ends_no : (has_branch (commit_of tx r.commits) && not (has_number tx r.ended)) ≡ false → ends_on r tx (commit_of tx r.commits) ≡ None
  ends_no e = ends-by (commit_of tx r.commits) ∙ ap (λ b. cond b (Some (with_ended r tx)) None) e

  pub ends_yes : (opening : ℕ) (cs : List Commit) (ended more : List ℕ) → record { opening = opening; commits = cs; ended = ended } ≡ r
      → (has_branch (commit_of tx r.commits) && not (has_number tx r.ended)) ≡ true → more ≡ ended ++ tx ∷ []
      → ends_on r tx (commit_of tx r.commits) ≡ Some (record { opening = opening; commits = cs; ended = more })
  ends_yes opening cs ended more is e grown =
      ends-by (commit_of tx r.commits) ∙ ap (λ b. cond b (Some (with_ended r tx)) None) e
      ∙ ap (λ (x : Commits). Some (with_ended x tx)) (sym is)
      ∙ ap (λ (l : List ℕ). Some (record { opening = opening; commits = cs; ended = l })) (sym grown)

-- a commit

module _ (r : Commits) (tx number : ℕ) (branch : Bool) (made : List TableChange) where
  abbrev is_next : Bool
  is_next = (number == length r.commits + 1) && is_none (commit_of tx r.commits) && (tx / 2 ^ 32 == r.opening)

  pub commits_none : is_next ≡ false → commits_on r tx number branch made ≡ None
  commits_none e = ap (λ b. cond b (fitting r tx branch (with_table_changes number (tables_after [] r.commits) made)) None) e

  abbrev after : Option Tables → Option Commits
  after o = option_map (λ t. with_commit r (commit_to r.commits tx branch t)) o

  fitting-by : (o : Option Tables) → fitting r tx branch o ≡ after (fitted o)
  fitting-by None = refl
  fitting-by (Some t) = by (fits t)
    where
      by : (b : Bool) → cond b (Some (with_commit r (commit_to r.commits tx branch t))) None ≡ after (cond b (Some t) None)
      by true = refl
      by false = refl

  pub commits_next : (was : Tables) (found : Option Tables) → is_next ≡ true → was ≡ tables_after [] r.commits → found ≡ fitted (with_table_changes number was made) → commits_on r tx number branch made ≡ after found
  commits_next was found e at is =
      ap (λ b. cond b (fitting r tx branch (with_table_changes number (tables_after [] r.commits) made)) None) e
      ∙ fitting-by (with_table_changes number (tables_after [] r.commits) made)
      ∙ ap (λ (ts : Tables). after (fitted (with_table_changes number ts made))) (sym at)
      ∙ ap after (sym is)

-- the next commit's number
pub next_number : (r : Commits) (tx number : ℕ) → ((number == length r.commits + 1) && is_none (commit_of tx r.commits) && (tx / 2 ^ 32 == r.opening)) ≡ true → number ≡ length r.commits + 1
next_number r tx number e = is (first (number == length r.commits + 1) (is_none (commit_of tx r.commits)) (tx / 2 ^ 32 == r.opening) e)
  where
    first : (a b d : Bool) → (a && b && d) ≡ true → a ≡ true
    first true b d e = refl
    first false b d e = cc e

    is : (number == length r.commits + 1) ≡ true → number ≡ length r.commits + 1
    is same = grind (arith, nat_tests)

-- a commit, by what is open of the fold
module _ (r : Commits) (tx number : ℕ) (branch : Bool) (made : List TableChange) (opening : ℕ) (es : List (ℕ × Entry)) (ended : List ℕ)
    (is : record { opening = opening; commits = commits_from 1 [] es; ended = ended } ≡ r) (was : Tables) (at : was ≡ tables_after [] (commits_from 1 [] es)) where
  last : was ≡ tables_after [] r.commits
  last = at ∙ ap (λ (x : Commits). tables_after [] x.commits) is

  pub commits_unfit : is_next r tx number branch made ≡ true → None ≡ fitted (with_table_changes number was made) → commits_on r tx number branch made ≡ None
  commits_unfit e none = commits_next r tx number branch made was None e last none

  -- the record of the commit leads to the tables after it
  pub record_leads : (later : Tables) (body : List ℕ) → is_next r tx number branch made ≡ true → Some later ≡ fitted (with_table_changes number was made) → changes_in body ≡ made
      → with_table_changes (length es + 1) was (changes_in body) ≡ Some later
  record_leads later body e fit same =
      ap (λ (n : ℕ). with_table_changes n was (changes_in body)) numbered
      ∙ ap (λ (cs : List TableChange). with_table_changes number was cs) same
      ∙ fitted-some (with_table_changes number was made) later fit
    where
      numbered : length es + 1 ≡ number
      numbered = omega (arith, next_number r tx number e, ap (λ (x : Commits). length x.commits) is, length-commits 1 [] es)

  pub commits_fit : (later : Tables) (body : List ℕ) (all : List (ℕ × Entry)) → is_next r tx number branch made ≡ true → Some later ≡ fitted (with_table_changes number was made)
      → changes_in body ≡ made → all ≡ es ++ (tx, record { branch = branch; body = body }) ∷ []
      → commits_on r tx number branch made ≡ Some (record { opening = opening; commits = commits_from 1 [] all; ended = ended })
  commits_fit later body all e fit same grown =
      commits_next r tx number branch made was (Some later) e last fit
      ∙ ap (λ (x : Commits). Some (with_commit x (commit_to x.commits tx branch later))) (sym is)
      ∙ ap (λ (cs : List Commit). Some (record { opening = opening; commits = cs; ended = ended }))
      (sym (ap (λ (l : List (ℕ × Entry)). commits_from 1 [] l) grown ∙ one-committed es (tx, record { branch = branch; body = body }) was later at (record_leads later body e fit same)))

pub none_open : (r : Commits) (tx number opening : ℕ) (es : List (ℕ × Entry)) (ended : List ℕ) → record { opening = opening; commits = commits_from 1 [] es; ended = ended } ≡ r
    → ((number == length r.commits + 1) && is_none (commit_of tx r.commits) && (tx / 2 ^ 32 == r.opening)) ≡ true → lookup (λ k. nat_eq tx k) es ≡ None
none_open r tx number opening es ended is e =
    none_yet tx es (ap (λ (x : Commits). is_none (commit_of tx x.commits)) is ∙ middle (number == length r.commits + 1) (is_none (commit_of tx r.commits)) (tx / 2 ^ 32 == r.opening) e)
  where
    middle : (a b d : Bool) → (a && b && d) ≡ true → b ≡ true
    middle true true d e = refl
    middle true false d e = cc e
    middle false b d e = cc e

pub after_all : (es all : List (ℕ × Entry)) (tx : ℕ) (entry : Entry) (was later : Tables) → all ≡ es ++ (tx, entry) ∷ [] → was ≡ tables_after [] (commits_from 1 [] es)
    → with_table_changes (length es + 1) was (changes_in entry.body) ≡ Some later → later ≡ tables_after [] (commits_from 1 [] all)
after_all es all tx entry was later grown at leads = one-after es (tx, entry) was later at leads ∙ ap (λ (l : List (ℕ × Entry)). tables_after [] (commits_from 1 [] l)) (sym grown)
