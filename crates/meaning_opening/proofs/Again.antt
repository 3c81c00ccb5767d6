-- AN OPENING THAT WAS STOPPED leaves a past, and a stored part that differs in its opening numbers alone.
use Rattle.std.proofs.Common.{◌≡◌, ℕ, ◌+◌, ◌*◌, ◌^◌, ◌≤◌, List, [], ◌∷◌, Bool, true, false, ◌||◌, nat_lt, is_some, refl, arith}
use Rattle.std.proofs.lemmas.Bool.Decides.{nat_tests}
use Rattle.dl_base.specs.declared.value.LinkRow.{LinkRow}
use Rattle.meaning_areas.specs.Commits.{Commit, commit_of}
use Rattle.meaning_areas.specs.Lists.{Written}
use Rattle.meaning_areas.specs.Stands.{Stored}
use Rattle.meaning_merge.specs.History.{IsHistory, is_used}
use Rattle.meaning_merge.specs.Touching.{EachLink}
use Rattle.meaning_tables.specs.Links.{links}
use Rattle.meaning_history.specs.Reached.{HasPast, first_of}
use Rattle.meaning_opening.specs.Fronts.{next_links, next_rows, opened_by, without_openings}
use Rattle.meaning_opening.proofs.Plain.{or-left, or-right}

-- a number that is used stays so where more are drawn

below-more : (tx first more : ℕ) → first ≤ more → nat_lt tx first ≡ true → nat_lt tx more ≡ true
below-more tx first more le lt = grind (arith, nat_tests)

used-more : (first more : ℕ) (cs : List Commit) (tx : ℕ) → first ≤ more → is_used first cs tx ≡ true → is_used more cs tx ≡ true
used-more first more cs tx le used = by (nat_lt tx first) refl used
  where
    by : (b : Bool) → nat_lt tx first ≡ b → (b || is_some (commit_of tx cs)) ≡ true → (nat_lt tx more || is_some (commit_of tx cs)) ≡ true
    by true lt e = or-left (nat_lt tx more) (is_some (commit_of tx cs)) (below-more tx first more le lt)
    by false lt e = or-right (nat_lt tx more) (is_some (commit_of tx cs)) e

each-more : (first more : ℕ) (cs : List Commit) (ls : List LinkRow) → first ≤ more → EachLink ls (λ l. is_used first cs l.link.tx ≡ true) → EachLink ls (λ l. is_used more cs l.link.tx ≡ true)
each-more first more cs [] le each = tt
each-more first more cs (l ∷ ls) le each = (used-more first more cs l.link.tx le each.0, each-more first more cs ls le each.1)

history-more : (first more : ℕ) (cs : List Commit) → first ≤ more → IsHistory first cs → IsHistory more cs
history-more first more cs le h = record {
  versions = h.versions;
  same = h.same;
  ordered = h.ordered;
  columns = h.columns;
  fit = h.fit;
  drawn = λ n ts is. each-more first more cs (links ts) le (h.drawn n ts is);
}

next-more : (r : ℕ) → (r + 1) * 2 ^ 32 ≤ (r + 1 + 1) * 2 ^ 32
next-more r = omega arith

at-least : (a b c : ℕ) → a ≤ b → b ≤ c → a ≤ c
at-least a b c x y = omega arith

past-rows : (x : Stored) → HasPast x → HasPast (next_rows x)
past-rows x past = record {
  history = history-more (first_of x) (first_of (next_rows x)) x.commits (next-more x.rows_opening) past.history;
  numbers = λ tx le. past.numbers tx (at-least (first_of x) (first_of (next_rows x)) tx (next-more x.rows_opening) le);
  backups = past.backups;
}

past-links : (x : Stored) → HasPast x → HasPast (next_links x)
past-links x past = record { history = past.history; numbers = past.numbers; backups = past.backups }

pub opened-past : (x : Stored) (front : List Written) → HasPast x → HasPast (opened_by x front)
opened-past x [] past = past
opened-past x (rows ∷ []) past = past-rows x past
opened-past x (rows ∷ links ∷ more) past = past-links (next_rows x) (past-rows x past)

pub opened-same : (x : Stored) (front : List Written) → without_openings (opened_by x front) ≡ without_openings x
opened-same x [] = refl
opened-same x (rows ∷ []) = refl
opened-same x (rows ∷ links ∷ more) = refl
