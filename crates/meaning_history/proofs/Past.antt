-- What areas stand for has a history: each record of Rows that is taken goes on with it.
use Rattle.std.proofs.Common.{◌≡◌, ◌⊎◌, inl, inr, ⊎_elim, ℕ, ◌+◌, ◌*◌, ◌/◌, ◌^◌, ◌==◌, ◌<◌, ◌≤◌, List, [], ◌∷◌, ◌++◌, length, map, Bool, true, false, not, cond, ◌&&◌, ◌||◌, bytes_eq, nat_le, nat_lt, Option, Some, None, is_none, is_some, Result, Ok, Err, refl, sym, ◌∙◌, ap, subst, arith}
use Rattle.std.proofs.lemmas.Bool.Decides.{nat_tests}
use Rattle.std.proofs.lemmas.List.Elements.{recursion_from_All}
use Rattle.std.specs.List.{All, AllByRecursion, list_all}
use Rattle.std.specs.Option.{ok_or, option_and_then}
use Rattle.dl_base.specs.declared.value.LinkRow.{LinkRow}
use Rattle.dl_base.specs.declared.value.Row.{Row}
use Rattle.dl_base.specs.declared.value.Value.{Value}
use Rattle.dl_codec.specs.Layout.{whole}
use Rattle.dl_codec.specs.Rows.{rows_record}
use Rattle.dl_codec.specs.declared.rows.RowChange.{RowChange}
use Rattle.dl_codec.specs.declared.rows.RowsRecord.{RowsRecord}
use Rattle.dl_codec.specs.declared.rows.RowsRecord.TheVariants as records
use Rattle.dl_codec.specs.declared.rows.TableChange.{TableChange}
use Rattle.dl_codec.specs.declared.rows.TableChange.TheVariants as changes
use Rattle.meaning_areas.specs.Areas.{rows_body, rows_of}
use Rattle.meaning_areas.specs.Commits.{Commit, Commits, add_table, by_values, changed_rows, columns_stand, commit_of, commit_to, drop_table, ends_on, fitting, has_number, kept_table, new_table, no_commits, put_row, put_table, rising, rows_step, tables_after, with_commit, with_ended, with_row_changes, with_table_change, with_table_changes}
use Rattle.meaning_areas.specs.Folds.{folded}
use Rattle.meaning_areas.specs.Lists.{Folds}
use Rattle.meaning_areas.specs.Stands.{AreDrawn, IsCommit, IsStand, Stored, past, stored_of}
use Rattle.meaning_areas.proofs.FoldLaws.{folded-err}
use Rattle.meaning_areas.proofs.Tables.{some_same}
use Rattle.meaning_merge.specs.History.{EachTable, IsHistory, Subsequence, ends, is_used, keeps, leaves, older}
use Rattle.meaning_merge.specs.Merging.{AreNamed}
use Rattle.meaning_merge.specs.Touching.{EachLink}
use Rattle.meaning_merge.proofs.Committed.{Follows, append-named, each-append, goes-on, no-commits, sub-self, sub-trans}
use Rattle.meaning_merge.proofs.Histories.{beyond, named-ordered, ordered-named, ordered-numbered, past-last}
use Rattle.meaning_merge.proofs.Keeping.{each-map, found-each, name-same}
use Rattle.meaning_merge.proofs.Numbers.{each-in, in-each}
use Rattle.meaning_tables.specs.Fits.{Fits, fits}
use Rattle.meaning_tables.specs.Links.{links}
use Rattle.meaning_tables.specs.Tables.{IsNumbered, Rise, Rows, Tables, table_of, with_table, without_row, without_table}
use Rattle.meaning_history.specs.Reached.{HasPast, first_of}

none_some : {A : Type 0} (x : A) → None ≡ Some x → ⊥
none_some x e = cc

false_true : false ≡ true → ⊥
false_true e = cc

both : (a b : Bool) → (a && b) ≡ true → (a ≡ true) × (b ≡ true)
both true b e = (refl, e)
both false b e = absurd (false_true e)

same-number : (a b : ℕ) → (a == b) ≡ true → a ≡ b
same-number a b e = grind (arith, nat_tests)

behind : (a b : ℕ) → (a == b) ≡ false → nat_lt a b ≡ false → b + 1 ≤ a
behind a b e f = grind (arith, nat_tests)

before : (a b : ℕ) → nat_lt a b ≡ true → a + 1 ≤ b
before a b e = grind (arith, nat_tests)

below : (a b : ℕ) → nat_lt a b ≡ true → a < b
below a b e = grind (arith, nat_tests)

test-below : (a b : ℕ) → a < b → nat_lt a b ≡ true
test-below a b lt = grind (arith, nat_tests)

-- rows whose numbers rise

abbrev Up : ℕ → List (ℕ × Row) → Type 0
Up first [] = Unit {0}
Up first (r ∷ rs) = (first ≤ r.0) × Up (r.0 + 1) rs

up-less : (a b : ℕ) (rows : List (ℕ × Row)) → a ≤ b → Up b rows → Up a rows
up-less a b [] le up = tt
up-less a b (r ∷ rs) le up = ((let one = up.0 in omega (arith, le, one)), up.1)

up-put : (first : ℕ) (rows : List (ℕ × Row)) (n : ℕ) (row : Row) → first ≤ n → Up first rows → Up first (put_row rows n row)
up-put first [] n row le up = (le, tt)
up-put first (r ∷ rs) n row le up = by (n == r.0) (nat_lt n r.0) refl refl (λ more. up-put (r.0 + 1) rs n row more up.1)
  where
    by : (b l : Bool) → (n == r.0) ≡ b → nat_lt n r.0 ≡ l → (r.0 + 1 ≤ n → Up (r.0 + 1) (put_row rs n row)) → Up first (cond b ((n, row) ∷ rs) (cond l ((n, row) ∷ r ∷ rs) (r ∷ put_row rs n row)))
    by true l e f rest = (le, subst (λ m. Up (m + 1) rs) (sym (same-number n r.0 e)) up.1)
    by false true e f rest = (le, (before n r.0 f, up.1))
    by false false e f rest = (up.0, rest (behind n r.0 e f))

up-without : (first : ℕ) (rows : List (ℕ × Row)) (n : ℕ) → Up first rows → Up first (without_row rows n)
up-without first [] n up = tt
up-without first (r ∷ rs) n up = by (n == r.0) (up-without (r.0 + 1) rs n up.1)
  where
    by : (b : Bool) → Up (r.0 + 1) (without_row rs n) → Up first (cond b rs (r ∷ without_row rs n))
    by true rest = up-less first (r.0 + 1) rs (let one = up.0 in omega (arith, one)) up.1
    by false rest = (up.0, rest)

up-by : (rows : List (ℕ × Row)) (n : ℕ) (vs : Option (List Value)) → Up 0 rows → Up 0 (by_values rows n vs)
up-by rows n None up = up-without 0 rows n up
up-by rows n (Some vs) up = up-put 0 rows n (record { values = vs }) (omega arith) up

up-changes : (rows : List (ℕ × Row)) (made : List RowChange) → Up 0 rows → Up 0 (with_row_changes rows made)
up-changes rows [] up = up
up-changes rows (c ∷ cs) up = up-changes (by_values rows c.number c.values) cs (up-by rows c.number c.values up)

up-rise : (first next : ℕ) (rows : List (ℕ × Row)) → Up first rows → list_all (λ r. nat_lt r.0 next) rows ≡ true → Rise first next rows
up-rise first next [] up all = tt
up-rise first next (r ∷ rs) up all = let two = both (nat_lt r.0 next) (list_all (λ r. nat_lt r.0 next) rs) all in (up.0, below r.0 next two.0, up-rise (r.0 + 1) next rs up.1 two.1)

rise-up : (first next : ℕ) (rows : List (ℕ × Row)) → Rise first next rows → Up first rows
rise-up first next [] rise = tt
rise-up first next (r ∷ rs) rise = (rise.0, rise-up (r.0 + 1) next rs rise.2)

-- A TABLE after changes of its rows
record Changes (t later : Rows) : Type 0 where
  version : later.version ≡ t.version
  columns : later.columns ≡ t.columns
  numbered : IsNumbered later

changed-so : (t later : Rows) (made : List RowChange) → Up 0 t.rows → changed_rows t made ≡ Some later → Changes t later
changed-so t later made up e = by (rising 0 (map (λ c. c.number) made)) (list_all (λ r. nat_lt r.0 t.next) (with_row_changes t.rows made)) refl e
  where
    by : (a b : Bool) → list_all (λ r. nat_lt r.0 t.next) (with_row_changes t.rows made) ≡ b → cond (a && b) (Some (record t { rows = with_row_changes t.rows made })) None ≡ Some later → Changes t later
    by true true all is = subst (Changes t) (some_same (record t { rows = with_row_changes t.rows made }) later is)
        (record { version = refl; columns = refl; numbered = up-rise 0 t.next (with_row_changes t.rows made) (up-changes t.rows made up) all })
    by true false all is = absurd (none_some later is)
    by false b all is = absurd (none_some later is)

-- tables without one, with one in the place of another, and with one more

module _ (Q : Rows → Type 0) where
  each-out : (ts : Tables) (name : List ℕ) → EachTable ts (λ t. Q t.1) → EachTable (without_table ts name) (λ t. Q t.1)
  each-out [] name each = tt
  each-out (t ∷ ts) name each = by (bytes_eq name t.0) (each-out ts name each.1)
    where
      by : (b : Bool) → EachTable (without_table ts name) (λ t. Q t.1) → EachTable (cond b ts (t ∷ without_table ts name)) (λ t. Q t.1)
      by true rest = each.1
      by false rest = (each.0, rest)

  each-put : (ts : Tables) (name : List ℕ) (u : Rows) → EachTable ts (λ t. Q t.1) → Q u → EachTable (with_table ts name u) (λ t. Q t.1)
  each-put [] name u each new = tt
  each-put (t ∷ ts) name u each new = by (bytes_eq name t.0) (each-put ts name u each.1 new)
    where
      by : (b : Bool) → EachTable (with_table ts name u) (λ t. Q t.1) → EachTable (cond b ((t.0, u) ∷ ts) (t ∷ with_table ts name u)) (λ t. Q t.1)
      by true rest = (new, each.1)
      by false rest = (each.0, rest)

  each-add : (ts : Tables) (name : List ℕ) (u : Rows) → EachTable ts (λ t. Q t.1) → Q u → EachTable (ts ++ (name, u) ∷ []) (λ t. Q t.1)
  each-add ts name u each new = each-append (λ t. Q t.1) ts ((name, u) ∷ []) each (new, tt)

head-none : (c : Bool) (u : Rows) (o : Option Rows) → cond c (Some u) o ≡ None → (c ≡ false) × (o ≡ None)
head-none true u o e = absurd (none_some u (sym e))
head-none false u o e = (refl, e)

out-none : (ts : Tables) (name q : List ℕ) → table_of ts q ≡ None → table_of (without_table ts name) q ≡ None
out-none [] name q none = refl
out-none (t ∷ ts) name q none = let two = head-none (bytes_eq q t.0) t.1 (table_of ts q) none in by two (bytes_eq name t.0) (out-none ts name q two.1)
  where
    by : (bytes_eq q t.0 ≡ false) × (table_of ts q ≡ None) → (b : Bool) → table_of (without_table ts name) q ≡ None → table_of (cond b ts (t ∷ without_table ts name)) q ≡ None
    by two true rest = two.1
    by two false rest = ap (λ c. cond c (Some t.1) (table_of (without_table ts name) q)) two.0 ∙ rest

put-none : (ts : Tables) (name q : List ℕ) (u : Rows) → table_of ts q ≡ None → table_of (with_table ts name u) q ≡ None
put-none [] name q u none = refl
put-none (t ∷ ts) name q u none = let two = head-none (bytes_eq q t.0) t.1 (table_of ts q) none in by two (bytes_eq name t.0) (put-none ts name q u two.1)
  where
    by : (bytes_eq q t.0 ≡ false) × (table_of ts q ≡ None) → (b : Bool) → table_of (with_table ts name u) q ≡ None → table_of (cond b ((t.0, u) ∷ ts) (t ∷ with_table ts name u)) q ≡ None
    by two true rest = ap (λ c. cond c (Some u) (table_of ts q)) two.0 ∙ two.1
    by two false rest = ap (λ c. cond c (Some t.1) (table_of (with_table ts name u) q)) two.0 ∙ rest

named-out : (ts : Tables) (name : List ℕ) → AreNamed ts → AreNamed (without_table ts name)
named-out [] name named = tt
named-out (t ∷ ts) name named = by (bytes_eq name t.0) (named-out ts name named.1)
  where
    by : (b : Bool) → AreNamed (without_table ts name) → AreNamed (cond b ts (t ∷ without_table ts name))
    by true rest = named.1
    by false rest = (out-none ts name t.0 named.0, rest)

named-put : (ts : Tables) (name : List ℕ) (u : Rows) → AreNamed ts → AreNamed (with_table ts name u)
named-put [] name u named = tt
named-put (t ∷ ts) name u named = by (bytes_eq name t.0) (named-put ts name u named.1)
  where
    by : (b : Bool) → AreNamed (with_table ts name u) → AreNamed (cond b ((t.0, u) ∷ ts) (t ∷ with_table ts name u))
    by true rest = (named.0, named.1)
    by false rest = (put-none ts name t.0 u named.0, rest)

named-add : (ts : Tables) (name : List ℕ) (u : Rows) → AreNamed ts → table_of ts name ≡ None → AreNamed (ts ++ (name, u) ∷ [])
named-add ts name u named none = append-named ts ((name, u) ∷ []) named (refl, tt) (λ q. by q (bytes_eq q name) refl)
  where
    by : (q : List ℕ) (b : Bool) → bytes_eq q name ≡ b → (table_of ts q ≡ None) ⊎ (cond b (Some u) None ≡ None)
    by q true e = inl (ap (table_of ts) (name-same q name e) ∙ none)
    by q false e = inr refl

-- what no later commit has changed

part-older : (o : Tables) (t : List ℕ × Rows) (v : Bool) → Subsequence (cond v (t ∷ o) o) o
part-older o t true = leaves t (sub-self o)
part-older o t false = sub-self o

both-older : (o p : Tables) (t : List ℕ × Rows) (v : Bool) → Subsequence o p → Subsequence (cond v (t ∷ o) o) (cond v (t ∷ p) p)
both-older o p t true sub = keeps t sub
both-older o p t false sub = sub

older-out : (i : ℕ) (ts : Tables) (name : List ℕ) → Subsequence (older i ts) (older i (without_table ts name))
older-out i [] name = ends
older-out i (t ∷ ts) name = by (bytes_eq name t.0) (older-out i ts name)
  where
    by : (b : Bool) → Subsequence (older i ts) (older i (without_table ts name)) → Subsequence (older i (t ∷ ts)) (older i (cond b ts (t ∷ without_table ts name)))
    by true sub = part-older (older i ts) t (nat_le t.1.version i)
    by false sub = both-older (older i ts) (older i (without_table ts name)) t (nat_le t.1.version i) sub

older-put : (i : ℕ) (ts : Tables) (name : List ℕ) (u : Rows) → nat_le u.version i ≡ false → Subsequence (older i ts) (older i (with_table ts name u))
older-put i [] name u later = ends
older-put i (t ∷ ts) name u later = by (bytes_eq name t.0) (older-put i ts name u later)
  where
    by : (b : Bool) → Subsequence (older i ts) (older i (with_table ts name u)) → Subsequence (older i (t ∷ ts)) (older i (cond b ((t.0, u) ∷ ts) (t ∷ with_table ts name u)))
    by true sub = subst (λ v. Subsequence (older i (t ∷ ts)) (cond v ((t.0, u) ∷ older i ts) (older i ts))) (sym later) (part-older (older i ts) t (nat_le t.1.version i))
    by false sub = both-older (older i ts) (older i (with_table ts name u)) t (nat_le t.1.version i) sub

older-add : (i : ℕ) (ts : Tables) (name : List ℕ) (u : Rows) → nat_le u.version i ≡ false → Subsequence (older i ts) (older i (ts ++ (name, u) ∷ []))
older-add i [] name u later = subst (λ v. Subsequence [] (cond v ((name, u) ∷ []) [])) (sym later) ends
older-add i (t ∷ ts) name u later = both-older (older i ts) (older i (ts ++ (name, u) ∷ [])) t (nat_le t.1.version i) (older-add i ts name u later)

-- TABLES BEHIND SOME CHANGES of a commit
record Grown (version : ℕ) (committed ts : Tables) : Type 0 where
  versions : EachTable ts (λ t. (0 < t.1.version) × (t.1.version ≤ version))
  same : (i : ℕ) → i < version → Subsequence (older i committed) (older i ts)
  named : AreNamed ts
  numbered : EachTable ts (λ t. IsNumbered t.1)
  columns : EachTable ts (λ t. columns_stand t.1.columns ≡ true)

module _ (version : ℕ) (committed : Tables) (rises : 0 < version) where
  -- the version of what is changed
  own : (u : Rows) → u.version ≡ version → (0 < u.version) × (u.version ≤ version)
  own u is = (omega (arith, is, rises), omega (arith, is))

  not-older : (u : Rows) → u.version ≡ version → (i : ℕ) → i < version → nat_le u.version i ≡ false
  not-older u is i lt = beyond u.version i (omega (arith, is, lt))

  grown-out : (ts : Tables) (name : List ℕ) → Grown version committed ts → Grown version committed (without_table ts name)
  grown-out ts name grown = record {
    versions = each-out (λ u. (0 < u.version) × (u.version ≤ version)) ts name grown.versions;
    same = λ i lt. sub-trans (grown.same i lt) (older-out i ts name);
    named = named-out ts name grown.named;
    numbered = each-out IsNumbered ts name grown.numbered;
    columns = each-out (λ u. columns_stand u.columns ≡ true) ts name grown.columns;
  }

  grown-put : (ts : Tables) (name : List ℕ) (u : Rows) → u.version ≡ version → columns_stand u.columns ≡ true → IsNumbered u → Grown version committed ts → Grown version committed (with_table ts name u)
  grown-put ts name u is stand numbered grown = record {
    versions = each-put (λ u. (0 < u.version) × (u.version ≤ version)) ts name u grown.versions (own u is);
    same = λ i lt. sub-trans (grown.same i lt) (older-put i ts name u (not-older u is i lt));
    named = named-put ts name u grown.named;
    numbered = each-put IsNumbered ts name u grown.numbered numbered;
    columns = each-put (λ u. columns_stand u.columns ≡ true) ts name u grown.columns stand;
  }

  grown-add : (ts : Tables) (name : List ℕ) (u : Rows) → table_of ts name ≡ None → u.version ≡ version → columns_stand u.columns ≡ true → IsNumbered u → Grown version committed ts → Grown version committed (ts ++ (name, u) ∷ [])
  grown-add ts name u none is stand numbered grown = record {
    versions = each-add (λ u. (0 < u.version) × (u.version ≤ version)) ts name u grown.versions (own u is);
    same = λ i lt. sub-trans (grown.same i lt) (older-add i ts name u (not-older u is i lt));
    named = named-add ts name u grown.named none;
    numbered = each-add IsNumbered ts name u grown.numbered numbered;
    columns = each-add (λ u. columns_stand u.columns ≡ true) ts name u grown.columns stand;
  }

  the-tables : (ts us : Tables) → Some ts ≡ Some us → Grown version committed ts → Grown version committed us
  the-tables ts us e grown = subst (Grown version committed) (some_same ts us e) grown

  -- one change
  grown-one : (ts later : Tables) (c : TableChange) → with_table_change version ts c ≡ Some later → Grown version committed ts → Grown version committed later
  grown-one ts later (changes.Dropped name) e grown = by (table_of ts name) e
    where
      by : (o : Option Rows) → drop_table ts name o ≡ Some later → Grown version committed later
      by None is = absurd (none_some later is)
      by (Some t) is = the-tables (without_table ts name) later is (grown-out ts name grown)
  grown-one ts later (changes.New name columns next made) e grown = by (table_of ts name) refl e
    where
      made_of : table_of ts name ≡ None → columns_stand columns ≡ true → (o : Option Rows) → changed_rows (record { version = version; columns = columns; next = next; rows = [] }) made ≡ o → add_table ts name o ≡ Some later → Grown version committed later
      made_of none stand None at is = absurd (none_some later is)
      made_of none stand (Some u) at is =
          let so = changed-so (record { version = version; columns = columns; next = next; rows = [] }) u made tt at in
          the-tables (ts ++ (name, u) ∷ []) later is (grown-add ts name u none so.version (ap columns_stand so.columns ∙ stand) so.numbered grown)

      stands : table_of ts name ≡ None → (b : Bool) → columns_stand columns ≡ b → add_table ts name (cond b (changed_rows (record { version = version; columns = columns; next = next; rows = [] }) made) None) ≡ Some later → Grown version committed later
      stands none true stand is = made_of none stand (changed_rows (record { version = version; columns = columns; next = next; rows = [] }) made) refl is
      stands none false stand is = absurd (none_some later is)

      by : (o : Option Rows) → table_of ts name ≡ o → add_table ts name (new_table version columns next made o) ≡ Some later → Grown version committed later
      by (Some t) at is = absurd (none_some later is)
      by None at is = stands at (columns_stand columns) refl is
  grown-one ts later (changes.Kept name next made) e grown = by (table_of ts name) refl e
    where
      made_of : (t : Rows) → table_of ts name ≡ Some t → (o : Option Rows) → changed_rows (record { version = version; columns = t.columns; next = next; rows = t.rows }) made ≡ o → put_table ts name o ≡ Some later → Grown version committed later
      made_of t there None at is = absurd (none_some later is)
      made_of t there (Some u) at is =
          let up : Up 0 t.rows = rise-up 0 t.next t.rows (found-each IsNumbered ts name t grown.numbered there) in
          let so = changed-so (record { version = version; columns = t.columns; next = next; rows = t.rows }) u made up at in
          the-tables (with_table ts name u) later is (grown-put ts name u so.version (ap columns_stand so.columns ∙ found-each (λ u. columns_stand u.columns ≡ true) ts name t grown.columns there) so.numbered grown)

      by : (o : Option Rows) → table_of ts name ≡ o → put_table ts name (kept_table version next made o) ≡ Some later → Grown version committed later
      by None at is = absurd (none_some later is)
      by (Some t) at is = made_of t at (changed_rows (record { version = version; columns = t.columns; next = next; rows = t.rows }) made) refl is

  -- all of them
  grown-all : (cs : List TableChange) (ts later : Tables) → with_table_changes version ts cs ≡ Some later → Grown version committed ts → Grown version committed later
  grown-all [] ts later e grown = the-tables ts later e grown
  grown-all (c ∷ cs) ts later e grown = by (with_table_change version ts c) refl (λ us is grown_too. grown-all cs us later is grown_too) e
    where
      by : (o : Option Tables) → with_table_change version ts c ≡ o → ((us : Tables) → with_table_changes version us cs ≡ Some later → Grown version committed us → Grown version committed later)
          → option_and_then (λ us. with_table_changes version us cs) o ≡ Some later → Grown version committed later
      by None at rest is = absurd (none_some later is)
      by (Some us) at rest is = rest us is (grown-one ts us c at grown)

-- A COMMIT that is taken goes on with a history, where its links are of earlier openings

committed-grown : (first : ℕ) (cs : List Commit) → IsHistory first cs → Grown (length cs + 1) (tables_after [] cs) (tables_after [] cs)
committed-grown first cs history =
    let last = past-last [] cs in
    record {
      versions = each-map (λ t. (0 < t.1.version) × (t.1.version ≤ length cs)) (λ t. (0 < t.1.version) × (t.1.version ≤ length cs + 1)) (tables_after [] cs) (λ t v. (let le = v.1 in (v.0, omega (arith, le)))) (history.versions (length cs) (tables_after [] cs) last);
      same = λ i lt. sub-self (older i (tables_after [] cs));
      named = ordered-named (tables_after [] cs) (history.ordered (length cs) (tables_after [] cs) last);
      numbered = ordered-numbered (tables_after [] cs) (history.ordered (length cs) (tables_after [] cs) last);
      columns = history.columns (length cs) (tables_after [] cs) last;
    }

-- the links of each commit have numbers below one
abbrev AreBelow : ℕ → List Commit → Type 0
AreBelow first cs = (c : Commit) → IsCommit c cs → EachLink (links c.tables) (λ l. l.link.tx < first)

used-below : (first : ℕ) (cs : List Commit) (q : ℕ) → q < first → is_used first cs q ≡ true
used-below first cs q lt = ap (λ b. b || is_some (commit_of q cs)) (test-below q first lt)

taken-follows : (first : ℕ) (cs : List Commit) (made : List TableChange) (d : Commit) → IsHistory first cs → with_table_changes (length cs + 1) (tables_after [] cs) made ≡ Some d.tables → Fits d.tables
    → EachLink (links d.tables) (λ l. l.link.tx < first) → Follows first cs d
taken-follows first cs made d history lead fit under =
    let grown = grown-all (length cs + 1) (tables_after [] cs) (omega arith) made (tables_after [] cs) d.tables lead (committed-grown first cs history) in
    record {
      versions = grown.versions;
      same = λ i es le at. sub-trans (history.same i (length cs) es (tables_after [] cs) le at (past-last [] cs)) (grown.same i (omega (arith, le)));
      ordered = named-ordered d.tables grown.named grown.numbered;
      columns = grown.columns;
      fit = fit;
      drawn = in-each (λ l. is_used first (cs ++ d ∷ []) l.link.tx ≡ true) (links d.tables) (λ l is. used-below first (cs ++ d ∷ []) l.link.tx (each-in (λ x. x.link.tx < first) (links d.tables) l under is));
    }

-- EACH RECORD

abbrev Past : ℕ → List Commit → Type 0
Past first cs = AreBelow first cs → IsHistory first cs

in-more : (c d : Commit) (cs : List Commit) → IsCommit c cs → IsCommit c (cs ++ d ∷ [])
in-more c d [] is = absurd is
in-more c d (x ∷ xs) is = ⊎_elim (λ (e : c ≡ x). inl e) (λ (later : IsCommit c xs). inr (in-more c d xs later)) is

in-last : (d : Commit) (cs : List Commit) → IsCommit d (cs ++ d ∷ [])
in-last d [] = inl refl
in-last d (x ∷ xs) = inr (in-last d xs)

past-push : (first : ℕ) (cs : List Commit) (d : Commit) (made : List TableChange) → with_table_changes (length cs + 1) (tables_after [] cs) made ≡ Some d.tables → Fits d.tables → Past first cs → Past first (cs ++ d ∷ [])
past-push first cs d made lead fit before under =
    let history = before (λ c is. under c (in-more c d cs is)) in
    goes-on first cs d history (taken-follows first cs made d history lead fit (under d (in-last d cs)))

past-same : (first : ℕ) (r later : Commits) → Some r ≡ Some later → Past first r.commits → Past first later.commits
past-same first r later e past = subst (Past first) (ap (λ (x : Commits). x.commits) (some_same r later e)) past

fitting-past : (first : ℕ) (r later : Commits) (tx : ℕ) (branch : Bool) (made : List TableChange) (o : Option Tables) → with_table_changes (length r.commits + 1) (tables_after [] r.commits) made ≡ o → fitting r tx branch o ≡ Some later → Past first r.commits → Past first later.commits
fitting-past first r later tx branch made None lead e past = absurd (none_some later e)
fitting-past first r later tx branch made (Some tables) lead e past = by (fits tables) refl e
  where
    by : (b : Bool) → fits tables ≡ b → cond b (Some (with_commit r (commit_to r.commits tx branch tables))) None ≡ Some later → Past first later.commits
    by true fit is = past-same first (with_commit r (commit_to r.commits tx branch tables)) later is (past-push first r.commits (commit_to r.commits tx branch tables) made lead fit past)
    by false fit is = absurd (none_some later is)

step-past : (first : ℕ) (r later : Commits) (x : RowsRecord) → rows_step r x ≡ Some later → Past first r.commits → Past first later.commits
step-past first r later (records.Opening number) e past = by (number == r.opening + 1) e
  where
    by : (b : Bool) → cond b (Some (record { opening = number; commits = r.commits; ended = r.ended })) None ≡ Some later → Past first later.commits
    by true is = past-same first (record { opening = number; commits = r.commits; ended = r.ended }) later is past
    by false is = absurd (none_some later is)
step-past first r later (records.Commit tx number branch made) e past = by ((number == length r.commits + 1) && is_none (commit_of tx r.commits) && (tx / 2 ^ 32 == r.opening)) refl e
  where
    at-number : (n : ℕ) → n ≡ length r.commits + 1 → fitting r tx branch (with_table_changes n (tables_after [] r.commits) made) ≡ Some later → Past first later.commits
    at-number n same is = fitting-past first r later tx branch made (with_table_changes (length r.commits + 1) (tables_after [] r.commits) made) refl (ap (λ m. fitting r tx branch (with_table_changes m (tables_after [] r.commits) made)) (sym same) ∙ is) past

    by : (b : Bool) → ((number == length r.commits + 1) && is_none (commit_of tx r.commits) && (tx / 2 ^ 32 == r.opening)) ≡ b
        → cond b (fitting r tx branch (with_table_changes number (tables_after [] r.commits) made)) None ≡ Some later → Past first later.commits
    by true tests is =
        let one = both ((number == length r.commits + 1) && is_none (commit_of tx r.commits)) (tx / 2 ^ 32 == r.opening) tests in
        let two = both (number == length r.commits + 1) (is_none (commit_of tx r.commits)) one.0 in
        at-number number (same-number number (length r.commits + 1) two.0) is
    by false tests is = absurd (none_some later is)
step-past first r later (records.Ended tx) e past = of (commit_of tx r.commits) e
  where
    by : (b : Bool) → cond b (Some (with_ended r tx)) None ≡ Some later → Past first later.commits
    by true is = past-same first (with_ended r tx) later is past
    by false is = absurd (none_some later is)

    of : (o : Option Commit) → ends_on r tx o ≡ Some later → Past first later.commits
    of None is = absurd (none_some later is)
    of (Some c) is = by (c.branch && not (has_number tx r.ended)) is

body-past : (first : ℕ) (r later : Commits) (body : List ℕ) → rows_body r body ≡ Some later → Past first r.commits → Past first later.commits
body-past first r later body e past = by (whole rows_record body) e
  where
    by : (o : Option RowsRecord) → option_and_then (rows_step r) o ≡ Some later → Past first later.commits
    by None is = absurd (none_some later is)
    by (Some x) is = step-past first r later x is past

folded-past : (first : ℕ) (bodies : List (List ℕ)) (place : ℕ) (so_far r : Commits) → folded rows_body place (Ok so_far) bodies ≡ Ok r → Past first so_far.commits → Past first r.commits
folded-past first [] place so_far r e past = subst (Past first) (ap (λ (x : Commits). x.commits) (inside e)) past
  where
    inside : ◌≡◌ {A = Result Commits ℕ} (Ok so_far) (Ok r) → so_far ≡ r
    inside is = cc
folded-past first (x ∷ xs) place so_far r e past = by (λ later step past_too is. folded-past first xs (place + 9 + length x) later r is past_too) (rows_body so_far x) refl e
  where
    never : ◌≡◌ {A = Result Commits ℕ} (Err place) (Ok r) → ⊥
    never is = cc

    by : ((later : Commits) → rows_body so_far x ≡ Some later → Past first later.commits → folded rows_body (place + 9 + length x) (Ok later) xs ≡ Ok r → Past first r.commits)
        → (o : Option Commits) → rows_body so_far x ≡ o → folded rows_body (place + 9 + length x) (ok_or o place) xs ≡ Ok r → Past first r.commits
    by rest None at is = absurd (never (sym (folded-err rows_body (place + 9 + length x) place xs) ∙ is))
    by rest (Some later) at is = rest later at (body-past first so_far later x at past) is

-- WHAT LISTS STAND FOR HAS A PAST

drawn-below : (opening : ℕ) (ls : List LinkRow) → AreDrawn opening ls → EachLink ls (λ l. l.link.tx < (opening + 1) * 2 ^ 32)
drawn-below opening ls drawn = by ls (recursion_from_All (λ (l : LinkRow). l.link.tx / 2 ^ 32 ≤ opening) ls drawn)
  where
    under : (o q : ℕ) → q / 2 ^ 32 ≤ o → q < (o + 1) * 2 ^ 32
    under o q le = omega (arith, le)

    by : (ls : List LinkRow) → AllByRecursion (λ (l : LinkRow). l.link.tx / 2 ^ 32 ≤ opening) ls → EachLink ls (λ l. l.link.tx < (opening + 1) * 2 ^ 32)
    by [] each = tt
    by (l ∷ ls) each = (under opening l.link.tx each.0, by ls each.1)

later-opening : (o q : ℕ) → (o + 1) * 2 ^ 32 ≤ q → o < q / 2 ^ 32
later-opening o q le = omega (arith, le)

pub lists-past : (bodies : List (List ℕ)) (f : Folds) (s : Stored) → rows_of bodies ≡ Ok f.rows → IsStand f s → HasPast s
lists-past bodies f s rows stand = subst HasPast (sym stand.is) (record {
  history = folded-past (first_of (stored_of f)) bodies 0 no_commits f.rows rows (λ under. no-commits (first_of (stored_of f))) (λ c is. drawn-below f.rows.opening (links c.tables) (stand.compares.drawn_commits c is));
  numbers = λ tx le. (stand.compares.numbers tx (later-opening f.rows.opening tx le)).0;
  backups = subst (λ (x : Stored). All (λ b. past [] x.commits b.commit ≡ Some b.tables) x.backups) stand.is stand.whole.backups;
})
