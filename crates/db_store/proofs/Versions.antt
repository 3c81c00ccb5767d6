-- No table after a commit was just made: each has the number of the commit that last changed it.
use Rattle.std.proofs.Common.{◌≡◌, ℕ, ◌<◌, ◌==◌, Bool, true, false, not, cond, bytes_eq, List, [], ◌∷◌, ◌++◌, length, zero, suc, ◌+◌, Option, Some, None, Result, Ok, Err, IfOk, IfSome, refl, sym, ap, subst, ◌∙◌, arith}
use Rattle.std.specs.List.{list_all}
use Rattle.std.specs.Option.{option_and_then, unwrap_or}
use Rattle.std.proofs.lemmas.Bool.{and_from, and_parts}
use Rattle.std.proofs.lemmas.Bool.Decides.{nat_tests}
use Rattle.dl_base.specs.declared.column.Column.{Column}
use Rattle.dl_base.specs.declared.value.Row.{Row}
use Rattle.dl_codec.specs.declared.rows.RowChange.{RowChange}
use Rattle.dl_codec.specs.declared.rows.TableChange.{TableChange}
use Rattle.dl_codec.specs.declared.rows.TableChange.TheVariants as changes
use Rattle.meaning_areas.specs.Commits.{Commit, add_table, changed_rows, columns_stand, commit_to, drop_table, kept_table, new_table, put_table, tables_after, with_row_changes, with_table_change, with_table_changes}
use Rattle.meaning_areas.specs.Stands.{past}
use Rattle.meaning_tables.specs.Fits.{fits}
use Rattle.meaning_tables.specs.Tables.{Rows, Tables, table_of, with_table, without_table}
use Rattle.db_changes.specs.Made.{changes_in}
use Rattle.db_changes.proofs.Covering.{covers-itself}
use Rattle.db_changes.specs.Touched.{AreCommitted, Covers, Touched, are_committed}
use Rattle.db_replay.specs.Replaying.{fitted}
use Rattle.db_store.proofs.LogLaws.{one-committed}
use Rattle.db_store.specs.Log.{AllCommitted, commits_from, redone}
use Rattle.db_store.specs.declared.log.Entry.{Entry}

some-none : {A : Type 0} (t : A) → None ≡ Some t → ⊥
some-none t e = cc

some-same : {A : Type 0} (t u : A) → Some t ≡ Some u → t ≡ u
some-same t u e = cc

above : (n : ℕ) → 0 < n → not (n == 0) ≡ true
above n lt = grind (arith, nat_tests)

-- one change

with-committed : (ts : Tables) (name : List ℕ) (x : Rows) → 0 < x.version → AreCommitted ts → AreCommitted (with_table ts name x)
with-committed [] name x lt all = refl
with-committed (t ∷ ts) name x lt all =
    let two = and_parts (not (t.1.version == 0)) (are_committed ts) all in
    by (bytes_eq name t.0) two.0 two.1 (with-committed ts name x lt two.1)
  where
    by : (b : Bool) → not (t.1.version == 0) ≡ true → are_committed ts ≡ true → are_committed (with_table ts name x) ≡ true → are_committed (cond b ((t.0, x) ∷ ts) (t ∷ with_table ts name x)) ≡ true
    by true one rest go = and_from (not (x.version == 0)) (are_committed ts) (above x.version lt) rest
    by false one rest go = and_from (not (t.1.version == 0)) (are_committed (with_table ts name x)) one go

without-committed : (ts : Tables) (name : List ℕ) → AreCommitted ts → AreCommitted (without_table ts name)
without-committed [] name all = refl
without-committed (t ∷ ts) name all =
    let two = and_parts (not (t.1.version == 0)) (are_committed ts) all in
    by (bytes_eq name t.0) two.0 two.1 (without-committed ts name two.1)
  where
    by : (b : Bool) → not (t.1.version == 0) ≡ true → are_committed ts ≡ true → are_committed (without_table ts name) ≡ true → are_committed (cond b ts (t ∷ without_table ts name)) ≡ true
    by true one rest go = rest
    by false one rest go = and_from (not (t.1.version == 0)) (are_committed (without_table ts name)) one go

more-committed : (ts : Tables) (name : List ℕ) (x : Rows) → 0 < x.version → AreCommitted ts → AreCommitted (ts ++ (name, x) ∷ [])
more-committed [] name x lt all = and_from (not (x.version == 0)) true (above x.version lt) refl
more-committed (t ∷ ts) name x lt all =
    let two = and_parts (not (t.1.version == 0)) (are_committed ts) all in
    and_from (not (t.1.version == 0)) (are_committed (ts ++ (name, x) ∷ [])) two.0 (more-committed ts name x lt two.1)

-- the table of a change has its version

changed-version : (t u : Rows) (made : List RowChange) → changed_rows t made ≡ Some u → u.version ≡ t.version
changed-version t u made e = by (with_row_changes t.rows made) _ e
  where
    by : (rows : List (ℕ × Row)) (b : Bool) → cond b (Some (record t { rows = rows })) None ≡ Some u → u.version ≡ t.version
    by rows true is = ap (λ (x : Rows). x.version) (sym (some-same (record t { rows = rows }) u is))
    by rows false is = absurd (some-none u is)

kept-version : (version next : ℕ) (made : List RowChange) (o : Option Rows) (u : Rows) → kept_table version next made o ≡ Some u → u.version ≡ version
kept-version version next made None u e = absurd (some-none u e)
kept-version version next made (Some t) u e = changed-version (record { version = version; columns = t.columns; next = next; rows = t.rows }) u made e

new-version : (version next : ℕ) (columns : List Column) (made : List RowChange) (o : Option Rows) (u : Rows) → new_table version columns next made o ≡ Some u → u.version ≡ version
new-version version next columns made (Some t) u e = absurd (some-none u e)
new-version version next columns made None u e = by (columns_stand columns) e
  where
    by : (b : Bool) → cond b (changed_rows (record { version = version; columns = columns; next = next; rows = [] }) made) None ≡ Some u → u.version ≡ version
    by true is = changed-version (record { version = version; columns = columns; next = next; rows = [] }) u made is
    by false is = absurd (some-none u is)

module _ (version : ℕ) (lt : 0 < version) where
  at-least : (u : Rows) → u.version ≡ version → 0 < u.version
  at-least u is = subst (λ n. 0 < n) (sym is) lt

  put-committed : (ts later : Tables) (name : List ℕ) (o : Option Rows) → AreCommitted ts → ((u : Rows) → o ≡ Some u → u.version ≡ version) → put_table ts name o ≡ Some later → AreCommitted later
  put-committed ts later name None all of is = absurd (some-none later is)
  put-committed ts later name (Some t) all of is = subst (λ (us : Tables). AreCommitted us) (some-same (with_table ts name t) later is) (with-committed ts name t (at-least t (of t refl)) all)

  drop-committed : (ts later : Tables) (name : List ℕ) (o : Option Rows) → AreCommitted ts → drop_table ts name o ≡ Some later → AreCommitted later
  drop-committed ts later name None all is = absurd (some-none later is)
  drop-committed ts later name (Some t) all is = subst (λ (us : Tables). AreCommitted us) (some-same (without_table ts name) later is) (without-committed ts name all)

  add-committed : (ts later : Tables) (name : List ℕ) (o : Option Rows) → AreCommitted ts → ((u : Rows) → o ≡ Some u → u.version ≡ version) → add_table ts name o ≡ Some later → AreCommitted later
  add-committed ts later name None all of is = absurd (some-none later is)
  add-committed ts later name (Some t) all of is = subst (λ (us : Tables). AreCommitted us) (some-same (ts ++ (name, t) ∷ []) later is) (more-committed ts name t (at-least t (of t refl)) all)

  change-committed : (ts later : Tables) (c : TableChange) → AreCommitted ts → with_table_change version ts c ≡ Some later → AreCommitted later
  change-committed ts later (changes.Dropped name) all is = drop-committed ts later name (table_of ts name) all is
  change-committed ts later (changes.Kept name next made) all is = put-committed ts later name (kept_table version next made (table_of ts name)) all (kept-version version next made (table_of ts name)) is
  change-committed ts later (changes.New name columns next made) all is = add-committed ts later name (new_table version columns next made (table_of ts name)) all (new-version version next columns made (table_of ts name)) is

  pub changes-committed : (cs : List TableChange) (ts later : Tables) → AreCommitted ts → with_table_changes version ts cs ≡ Some later → AreCommitted later
  changes-committed [] ts later all is = subst (λ (us : Tables). AreCommitted us) (some-same ts later is) all
  changes-committed (c ∷ cs) ts later all is = by (with_table_change version ts c) refl is (λ us e. changes-committed cs us later e)
    where
      by : (o : Option Tables) → with_table_change version ts c ≡ o → option_and_then (λ us. with_table_changes version us cs) o ≡ Some later → ((us : Tables) → AreCommitted us → with_table_changes version us cs ≡ Some later → AreCommitted later) → AreCommitted later
      by None at e go = absurd (some-none later e)
      by (Some us) at e go = go us (change-committed ts us c all at) e

-- commits

pub after-committed : (before : Tables) (cs : List Commit) → AreCommitted before → AllCommitted cs → AreCommitted (tables_after before cs)
after-committed before [] all each = all
after-committed before (c ∷ cs) all each = let two = and_parts (are_committed c.tables) (list_all (λ d. are_committed d.tables) cs) each in after-committed c.tables cs two.0 two.1

past-committed : (before : Tables) (cs : List Commit) (n : ℕ) (ts : Tables) → AreCommitted before → AllCommitted cs → past before cs n ≡ Some ts → AreCommitted ts
past-committed before cs zero ts all each is = subst (λ (us : Tables). AreCommitted us) (some-same before ts is) all
past-committed before [] (suc n) ts all each is = absurd (some-none ts is)
past-committed before (c ∷ cs) (suc n) ts all each is = let two = and_parts (are_committed c.tables) (list_all (λ d. are_committed d.tables) cs) each in past-committed c.tables cs n ts two.0 two.1 is

past-all : (cs : List Commit) (n : ℕ) (o : Option Tables) → AllCommitted cs → o ≡ past [] cs n → IfSome o AreCommitted
past-all cs n None each is = tt
past-all cs n (Some ts) each is = past-committed [] cs n ts refl each (sym is)

pub past_result : {E : Type 0} (r : Result (Option Tables) E) (cs : List Commit) (n : ℕ) → AllCommitted cs → IfOk r (λ o. o ≡ past [] cs n) → IfOk r (λ o. IfSome o AreCommitted)
past_result (Ok o) cs n each is = past-all cs n o each is
past_result (Err e) cs n each is = tt

pub past_committed : (cs : List Commit) (n : ℕ) (ts : Tables) → AllCommitted cs → Some ts ≡ past [] cs n → AreCommitted ts
past_committed cs n ts each is = past-committed [] cs n ts refl each (sym is)

pub push-committed : (cs : List Commit) (c : Commit) → AllCommitted cs → AreCommitted c.tables → AllCommitted (cs ++ c ∷ [])
push-committed [] c each one = and_from (are_committed c.tables) true one refl
push-committed (d ∷ ds) c each one =
    let two = and_parts (are_committed d.tables) (list_all (λ x. are_committed x.tables) ds) each in
    and_from (are_committed d.tables) (list_all (λ x. are_committed x.tables) (ds ++ c ∷ [])) two.0 (push-committed ds c two.1 one)

-- the rows that changes name, beside which tables made again have the rows of those before

pub covers_redone : (number : ℕ) (touched : Touched) (before tables : Tables) (cs : List TableChange)
    → ((version : ℕ) (after : Tables) → with_table_changes version before cs ≡ Some after → Covers touched before after) → tables ≡ redone number before cs → Covers touched before tables
covers_redone number touched before tables cs of is = subst (λ (ts : Tables). Covers touched before ts) (sym is) (by (with_table_changes number before cs) refl)
  where
    by : (o : Option Tables) → with_table_changes number before cs ≡ o → Covers touched before (unwrap_or o before)
    by None e = covers-itself touched before
    by (Some after) e = of number after e

-- a replayed commit

pub fitted-some : (o : Option Tables) (later : Tables) → Some later ≡ fitted o → o ≡ Some later
fitted-some None later e = absurd (some-none later (sym e))
fitted-some (Some ts) later e = by (fits ts) e
  where
    by : (b : Bool) → Some later ≡ cond b (Some ts) None → Some ts ≡ Some later
    by true is = sym is
    by false is = absurd (some-none later (sym is))

pub replay_committed : (es all : List (ℕ × Entry)) (tx : ℕ) (entry : Entry) (was later : Tables) → all ≡ es ++ (tx, entry) ∷ []
    → was ≡ tables_after [] (commits_from 1 [] es) → AllCommitted (commits_from 1 [] es) → with_table_changes (length es + 1) was (changes_in entry.body) ≡ Some later → AllCommitted (commits_from 1 [] all)
replay_committed es all tx entry was later grown at each leads =
    let before : AreCommitted was = subst (λ (ts : Tables). AreCommitted ts) (sym at) (after-committed [] (commits_from 1 [] es) refl each) in
    subst (λ (cs : List Commit). AllCommitted cs)
    (sym (ap (λ (l : List (ℕ × Entry)). commits_from 1 [] l) grown ∙ one-committed es (tx, entry) was later at leads))
    (push-committed (commits_from 1 [] es) (commit_to (commits_from 1 [] es) tx entry.branch later) each (changes-committed (length es + 1) (omega arith) (changes_in entry.body) was later before leads))
