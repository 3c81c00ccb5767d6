-- The tables after a commit, without the rows that it names, have no other rows than those before.
use Rattle.std.proofs.Common.{◌≡◌, ℕ, ◌==◌, ◌&&◌, ◌||◌, Bool, true, false, not, cond, bytes_eq, nat_lt, List, [], ◌∷◌, ◌++◌, map, Option, Some, None, refl, sym, ap, ◌∙◌, subst}
use Rattle.std.specs.List.{filter, list_all, list_any}
use Rattle.std.specs.Option.{option_and_then}
use Rattle.std.proofs.lemmas.Bool.{and_from, eq-eqb, eqb-true, or_right}
use Rattle.std.proofs.lemmas.Slice.Eq.{bytes_eq-Decides}
use Rattle.dl_base.specs.declared.value.Row.{Row}
use Rattle.dl_base.specs.declared.value.Value.{Value}
use Rattle.dl_codec.specs.declared.rows.RowChange.{RowChange}
use Rattle.dl_codec.specs.declared.rows.TableChange.{TableChange}
use Rattle.dl_codec.specs.declared.rows.TableChange.TheVariants as changes
use Rattle.meaning_areas.specs.Commits.{add_table, by_values, changed_rows, columns_stand, drop_table, kept_table, put_row, put_table, rising, with_row_changes, with_table_change, with_table_changes}
use Rattle.meaning_areas.specs.Commits as commits
use Rattle.meaning_tables.specs.Fits.{fits}
use Rattle.meaning_tables.specs.Tables.{Rows, Tables, table_of, with_table, without_row, without_table}
use Rattle.db_replay.specs.Standing.{is_row, stripped, without_all, without_changed, without_rows}
use Rattle.db_replay.proofs.Bools.{or_false}
use Rattle.db_replay.proofs.Fewer.{Fewer, empty, goes, comes, stays, Part, part_filter, fewer_fit}

clash : {A : Type 0} → true ≡ false → A
clash e = cc e

name-self : (n : List ℕ) → bytes_eq n n ≡ true
name-self n = (bytes_eq-Decides n n).1 refl

-- rows that changes name

abbrev pub Test : Type 0
Test = List ℕ → ℕ → Bool

abbrev has_change : List RowChange → ℕ → Bool
has_change made k = list_any (λ c. c.number == k) made

abbrev named_by : List ℕ → List RowChange → Test
named_by name made n k = bytes_eq name n && has_change made k

abbrev pub named : TableChange → Test
named (changes.Dropped name) n k = false
named (changes.New name columns next made) n k = named_by name made n k
named (changes.Kept name next made) n k = named_by name made n k

abbrev pub named_in : List TableChange → Test
named_in [] n k = false
named_in (c ∷ cs) n k = named c n k || named_in cs n k

-- tables without rows

filter-same : {A : Type 0} (p q : A → Bool) → ((a : A) → p a ≡ q a) → (xs : List A) → filter p xs ≡ filter q xs
filter-same p q same [] = refl
filter-same p q same (x ∷ xs) = ap (λ b. cond b (x ∷ filter p xs) (filter p xs)) (same x) ∙ ap (λ ys. cond (q x) (x ∷ ys) ys) (filter-same p q same xs)

filter-twice : {A : Type 0} (p q : A → Bool) (xs : List A) → filter (λ a. not (p a)) (filter (λ a. not (q a)) xs) ≡ filter (λ a. not (q a || p a)) xs
filter-twice p q [] = refl
filter-twice p q (x ∷ xs) = by (q x) (p x) refl (filter-twice p q xs)
  where
    by : (b c : Bool) → p x ≡ c → filter (λ a. not (p a)) (filter (λ a. not (q a)) xs) ≡ filter (λ a. not (q a || p a)) xs
        → filter (λ a. not (p a)) (cond (not b) (x ∷ filter (λ a. not (q a)) xs) (filter (λ a. not (q a)) xs)) ≡ cond (not (b || c)) (x ∷ filter (λ a. not (q a || p a)) xs) (filter (λ a. not (q a || p a)) xs)
    by true c e go = go
    by false true e go = ap (λ d. cond (not d) (x ∷ filter (λ a. not (p a)) (filter (λ a. not (q a)) xs)) (filter (λ a. not (p a)) (filter (λ a. not (q a)) xs))) e ∙ go
    by false false e go = ap (λ d. cond (not d) (x ∷ filter (λ a. not (p a)) (filter (λ a. not (q a)) xs)) (filter (λ a. not (p a)) (filter (λ a. not (q a)) xs))) e ∙ ap (λ ys. x ∷ ys) go

filter-all : {A : Type 0} (xs : List A) → filter (λ a. true) xs ≡ xs
filter-all [] = refl
filter-all (x ∷ xs) = ap (λ ys. x ∷ ys) (filter-all xs)

abbrev strip : Test → List ℕ × Rows → List ℕ × Rows
strip p t = (t.0, record t.1 { rows = filter (λ r. not (p t.0 r.0)) t.1.rows })

stripped-same : (p q : Test) → ((n : List ℕ) (k : ℕ) → p n k ≡ q n k) → (ts : Tables) → stripped p ts ≡ stripped q ts
stripped-same p q same [] = refl
stripped-same p q same (t ∷ ts) =
    ap (λ (rs : List (ℕ × Row)). (t.0, record t.1 { rows = rs }) ∷ stripped p ts) (filter-same (λ (r : ℕ × Row). not (p t.0 r.0)) (λ r. not (q t.0 r.0)) (λ r. ap (λ b. not b) (same t.0 r.0)) t.1.rows)
    ∙ ap (λ (us : Tables). strip q t ∷ us) (stripped-same p q same ts)

stripped-twice : (p q : Test) (ts : Tables) → stripped p (stripped q ts) ≡ stripped (λ n k. q n k || p n k) ts
stripped-twice p q [] = refl
stripped-twice p q (t ∷ ts) =
    ap (λ (rs : List (ℕ × Row)). (t.0, record t.1 { rows = rs }) ∷ stripped p (stripped q ts)) (filter-twice (λ (r : ℕ × Row). p t.0 r.0) (λ r. q t.0 r.0) t.1.rows)
    ∙ ap (λ (us : Tables). strip (λ n k. q n k || p n k) t ∷ us) (stripped-twice p q ts)

stripped-none : (ts : Tables) → stripped (λ n k. false) ts ≡ ts
stripped-none [] = refl
stripped-none (t ∷ ts) =
    ap (λ (rs : List (ℕ × Row)). (t.0, record t.1 { rows = rs }) ∷ stripped (λ n k. false) ts) (filter-all t.1.rows)
    ∙ ap (λ (us : Tables). t ∷ us) (stripped-none ts)

rows-named : (ts : Tables) (name : List ℕ) (made : List RowChange) → without_rows ts name made ≡ stripped (named_by name made) ts
rows-named ts name [] = sym (stripped-none ts) ∙ stripped-same (λ n k. false) (named_by name []) (λ n k. never (bytes_eq name n)) ts
  where
    never : (b : Bool) → false ≡ (b && false)
    never true = refl
    never false = refl
rows-named ts name (c ∷ cs) =
    rows-named (stripped (is_row name c.number) ts) name cs
    ∙ stripped-twice (named_by name cs) (is_row name c.number) ts
    ∙ stripped-same (λ n k. is_row name c.number n k || named_by name cs n k) (named_by name (c ∷ cs)) (λ n k. shared (bytes_eq name n) (c.number == k) (has_change cs k)) ts
  where
    shared : (b x y : Bool) → ((b && x) || (b && y)) ≡ (b && (x || y))
    shared true x y = refl
    shared false x y = refl

pub change-named : (ts : Tables) (c : TableChange) → without_changed ts c ≡ stripped (named c) ts
change-named ts (changes.Dropped name) = sym (stripped-none ts)
change-named ts (changes.New name columns next made) = rows-named ts name made
change-named ts (changes.Kept name next made) = rows-named ts name made

all-named : (ts : Tables) (cs : List TableChange) → without_all ts cs ≡ stripped (named_in cs) ts
all-named ts [] = sym (stripped-none ts)
all-named ts (c ∷ cs) = all-named (without_changed ts c) cs ∙ ap (λ (us : Tables). stripped (named_in cs) us) (change-named ts c) ∙ stripped-twice (named_in cs) (named c) ts

-- rows of other numbers stay

module _ (q : ℕ → Bool) where
  abbrev kept : List (ℕ × Row) → List (ℕ × Row)
  kept rows = filter (λ r. q r.0) rows

  kept-put : (rows : List (ℕ × Row)) (n : ℕ) (row : Row) → q n ≡ false → kept (put_row rows n row) ≡ kept rows
  kept-put [] n row out = rw out refl
  kept-put (r ∷ rs) n row out = by (n == r.0) refl (nat_lt n r.0) (kept-put rs n row out)
    where
      by : (b : Bool) → (n == r.0) ≡ b → (l : Bool) → kept (put_row rs n row) ≡ kept rs → kept (cond b ((n, row) ∷ rs) (cond l ((n, row) ∷ r ∷ rs) (r ∷ put_row rs n row))) ≡ cond (q r.0) (r ∷ kept rs) (kept rs)
      by true e l go = ap (λ b. cond b ((n, row) ∷ kept rs) (kept rs)) out ∙ ap (λ b. cond b (r ∷ kept rs) (kept rs)) (sym (ap q (sym (eqb-true n r.0 e)) ∙ out))
      by false e true go = ap (λ b. cond b ((n, row) ∷ kept (r ∷ rs)) (kept (r ∷ rs))) out
      by false e false go = ap (λ (xs : List (ℕ × Row)). cond (q r.0) (r ∷ xs) xs) go

  kept-without : (rows : List (ℕ × Row)) (n : ℕ) → q n ≡ false → kept (without_row rows n) ≡ kept rows
  kept-without [] n out = refl
  kept-without (r ∷ rs) n out = by (n == r.0) refl (kept-without rs n out)
    where
      by : (b : Bool) → (n == r.0) ≡ b → kept (without_row rs n) ≡ kept rs → kept (cond b rs (r ∷ without_row rs n)) ≡ cond (q r.0) (r ∷ kept rs) (kept rs)
      by true e go = ap (λ b. cond b (r ∷ kept rs) (kept rs)) (sym (ap q (sym (eqb-true n r.0 e)) ∙ out))
      by false e go = ap (λ (xs : List (ℕ × Row)). cond (q r.0) (r ∷ xs) xs) go

  kept-by : (rows : List (ℕ × Row)) (n : ℕ) (vs : Option (List Value)) → q n ≡ false → kept (by_values rows n vs) ≡ kept rows
  kept-by rows n None out = kept-without rows n out
  kept-by rows n (Some vs) out = kept-put rows n (record { values = vs }) out

  kept-changed : (rows : List (ℕ × Row)) (made : List RowChange) → ((k : ℕ) → has_change made k ≡ true → q k ≡ false) → kept (with_row_changes rows made) ≡ kept rows
  kept-changed rows [] out = refl
  kept-changed rows (c ∷ cs) out =
      kept-changed (by_values rows c.number c.values) cs (λ k there. out k (or_right (c.number == k) (has_change cs k) there))
      ∙ kept-by rows c.number c.values (out c.number (ap (λ b. b || has_change cs c.number) (eq-eqb c.number c.number refl)))

-- what a change makes of a table

pub record Changed (t later : Rows) (made : List RowChange) : Type 0 where
  pub columns : later.columns ≡ t.columns
  pub rows : later.rows ≡ with_row_changes t.rows made

pub changed : (t later : Rows) (made : List RowChange) → changed_rows t made ≡ Some later → Changed t later made
changed t later made is = by (rising 0 (map (λ c. c.number) made) && list_all (λ r. nat_lt r.0 t.next) (with_row_changes t.rows made)) is
  where
    same : (a b : Rows) → Some a ≡ Some b → a ≡ b
    same a b e = cc e

    by : (b : Bool) → cond b (Some (record t { rows = with_row_changes t.rows made })) None ≡ Some later → Changed t later made
    by true e =
        let s = sym (same (record t { rows = with_row_changes t.rows made }) later e) in
        record { columns = ap (λ (x : Rows). x.columns) s; rows = ap (λ (x : Rows). x.rows) s }
    by false e = cc e

-- one change

module _ (p : Test) where
  more : (q : Test) → ((n : List ℕ) (k : ℕ) → p n k ≡ true → q n k ≡ true) → (n : List ℕ) (rows : List (ℕ × Row)) → Part (filter (λ r. not (q n r.0)) rows) (filter (λ r. not (p n r.0)) rows)
  more q of n rows = part_filter (λ (r : ℕ × Row). not (q n r.0)) (λ r. not (p n r.0)) (λ r e. by (p n r.0) (q n r.0) (of n r.0) e) rows
    where
      by : (a b : Bool) → (a ≡ true → b ≡ true) → not b ≡ true → not a ≡ true
      by false b of e = refl
      by true true of e = e
      by true false of e = clash (sym (of refl))

  fewer-more : (q : Test) → ((n : List ℕ) (k : ℕ) → p n k ≡ true → q n k ≡ true) → (ts : Tables) → Fewer (stripped q ts) (stripped p ts)
  fewer-more q of [] = empty
  fewer-more q of (t ∷ ts) = stays (strip q t) (strip p t) refl (more q of t.0 t.1.rows) (fewer-more q of ts)

  module _ (name : List ℕ) where
    fewer-dropped : (q : Test) → ((n : List ℕ) (k : ℕ) → p n k ≡ true → q n k ≡ true) → (ts : Tables) → Fewer (stripped q (without_table ts name)) (stripped p ts)
    fewer-dropped q of [] = empty
    fewer-dropped q of (t ∷ ts) = by (bytes_eq name t.0) (fewer-dropped q of ts)
      where
        by : (b : Bool) → Fewer (stripped q (without_table ts name)) (stripped p ts) → Fewer (stripped q (cond b ts (t ∷ without_table ts name))) (strip p t ∷ stripped p ts)
        by true go = goes (strip p t) (fewer-more q of ts)
        by false go = stays (strip q t) (strip p t) refl (more q of t.0 t.1.rows) go

    module _ (made : List RowChange) where
      abbrev q : Test
      q n k = p n k || named_by name made n k

      of : (n : List ℕ) (k : ℕ) → p n k ≡ true → q n k ≡ true
      of n k e = ap (λ b. b || named_by name made n k) e

      out : (n : List ℕ) → bytes_eq name n ≡ true → (k : ℕ) → has_change made k ≡ true → not (q n k) ≡ false
      out n here k there = ap (λ b. not (p n k || b)) (and_from (bytes_eq name n) (has_change made k) here there) ∙ ends_true (p n k)
        where
          ends_true : (a : Bool) → not (a || true) ≡ false
          ends_true true = refl
          ends_true false = refl

      fewer-kept : (ts : Tables) (t later : Rows) → table_of ts name ≡ Some t → later.columns ≡ t.columns → later.rows ≡ with_row_changes t.rows made → Fewer (stripped q (with_table ts name later)) (stripped p ts)
      fewer-kept [] t later at columns rows = cc at
      fewer-kept (x ∷ xs) t later at columns rows = by (bytes_eq name x.0) refl at (λ e. fewer-kept xs t later e columns rows)
        where
          same : (a b : Rows) → Some a ≡ Some b → a ≡ b
          same a b e = cc e

          by : (b : Bool) → bytes_eq name x.0 ≡ b → cond b (Some x.1) (table_of xs name) ≡ Some t → (table_of xs name ≡ Some t → Fewer (stripped q (with_table xs name later)) (stripped p xs))
              → Fewer (stripped q (cond b ((x.0, later) ∷ xs) (x ∷ with_table xs name later))) (strip p x ∷ stripped p xs)
          by true here e go =
              let is : x.1 ≡ t = same x.1 t e in
              let rows_are : filter (λ r. not (q x.0 r.0)) x.1.rows ≡ filter (λ r. not (q x.0 r.0)) later.rows =
              ap (λ (y : Rows). filter (λ r. not (q x.0 r.0)) y.rows) is
              ∙ sym (kept-changed (λ k. not (q x.0 k)) t.rows made (out x.0 here))
              ∙ ap (λ (rs : List (ℕ × Row)). filter (λ r. not (q x.0 r.0)) rs) (sym rows) in
              stays (strip q (x.0, later)) (strip p x) (columns ∙ ap (λ (y : Rows). y.columns) (sym is))
              (subst (λ (rs : List (ℕ × Row)). Part rs (filter (λ r. not (p x.0 r.0)) x.1.rows)) rows_are (more q of x.0 x.1.rows))
              (fewer-more q of xs)
          by false here e go = stays (strip q x) (strip p x) refl (more q of x.0 x.1.rows) (go e)

      fewer-new : (ts : Tables) (later : Rows) → later.rows ≡ with_row_changes [] made → Fewer (stripped q (ts ++ (name, later) ∷ [])) (stripped p ts)
      fewer-new [] later rows =
          comes (strip q (name, later))
          (ap (λ (rs : List (ℕ × Row)). filter (λ r. not (q name r.0)) rs) rows ∙ kept-changed (λ k. not (q name k)) [] made (out name (name-self name)))
          empty
      fewer-new (x ∷ xs) later rows = stays (strip q x) (strip p x) refl (more q of x.0 x.1.rows) (fewer-new xs later rows)

  one-change : (version : ℕ) (ts later : Tables) (c : TableChange) → with_table_change version ts c ≡ Some later → Fewer (stripped (λ n k. p n k || named c n k) later) (stripped p ts)
  one-change version ts later (changes.Dropped name) is = by (table_of ts name) is
    where
      same : (a b : Tables) → Some a ≡ Some b → a ≡ b
      same a b e = cc e

      by : (o : Option Rows) → drop_table ts name o ≡ Some later → Fewer (stripped (λ n k. p n k || false) later) (stripped p ts)
      by None e = cc e
      by (Some t) e = subst (λ (us : Tables). Fewer (stripped (λ n k. p n k || false) us) (stripped p ts)) (same (without_table ts name) later e) (fewer-dropped name (λ n k. p n k || false) (λ n k h. ap (λ b. b || false) h) ts)
  one-change version ts later (changes.New name columns next made) is = by (table_of ts name) is
    where
      same : (a b : Tables) → Some a ≡ Some b → a ≡ b
      same a b e = cc e

      made_by : (o : Option Rows) → changed_rows (record { version = version; columns = columns; next = next; rows = [] }) made ≡ o → add_table ts name o ≡ Some later → Fewer (stripped (q name made) later) (stripped p ts)
      made_by None w e = cc e
      made_by (Some t) w e = subst (λ (us : Tables). Fewer (stripped (q name made) us) (stripped p ts)) (same (ts ++ (name, t) ∷ []) later e) (fewer-new name made ts t (changed (record { version = version; columns = columns; next = next; rows = [] }) t made w).rows)

      stand_by : (b : Bool) → add_table ts name (cond b (changed_rows (record { version = version; columns = columns; next = next; rows = [] }) made) None) ≡ Some later → Fewer (stripped (q name made) later) (stripped p ts)
      stand_by true e = made_by (changed_rows (record { version = version; columns = columns; next = next; rows = [] }) made) refl e
      stand_by false e = cc e

      by : (o : Option Rows) → add_table ts name (commits.new_table version columns next made o) ≡ Some later → Fewer (stripped (q name made) later) (stripped p ts)
      by (Some t) e = cc e
      by None e = stand_by (columns_stand columns) e
  one-change version ts later (changes.Kept name next made) is = by (table_of ts name) refl is
    where
      same : (a b : Tables) → Some a ≡ Some b → a ≡ b
      same a b e = cc e

      made_by : (t : Rows) → table_of ts name ≡ Some t → (o : Option Rows) → changed_rows (record { version = version; columns = t.columns; next = next; rows = t.rows }) made ≡ o → put_table ts name o ≡ Some later → Fewer (stripped (q name made) later) (stripped p ts)
      made_by t at None w e = cc e
      made_by t at (Some u) w e =
          let was = changed (record { version = version; columns = t.columns; next = next; rows = t.rows }) u made w in
          subst (λ (us : Tables). Fewer (stripped (q name made) us) (stripped p ts)) (same (with_table ts name u) later e) (fewer-kept name made ts t u at was.columns was.rows)

      by : (o : Option Rows) → table_of ts name ≡ o → put_table ts name (kept_table version next made o) ≡ Some later → Fewer (stripped (q name made) later) (stripped p ts)
      by None at e = cc e
      by (Some t) at e = made_by t at (changed_rows (record { version = version; columns = t.columns; next = next; rows = t.rows }) made) refl e

-- all changes

rest-by : (version : ℕ) (p : Test) (ts later : Tables) (cs : List TableChange) → with_table_changes version ts cs ≡ Some later → fits (stripped p ts) ≡ true → fits (stripped (λ n k. p n k || named_in cs n k) later) ≡ true
rest-by version p ts later [] is fit = subst (λ (us : Tables). fits us ≡ true) (stripped-same p (λ n k. p n k || false) (λ n k. sym (or_false (p n k))) ts ∙ ap (λ (us : Tables). stripped (λ n k. p n k || false) us) (same ts later is)) fit
  where
    same : (a b : Tables) → Some a ≡ Some b → a ≡ b
    same a b e = cc e
rest-by version p ts later (c ∷ cs) is fit = by (with_table_change version ts c) refl is (λ mid w e. rest-by version (λ n k. p n k || named c n k) mid later cs e (fewer_fit (one-change p version ts mid c w) fit))
  where
    turn : (a b d : Bool) → ((a || b) || d) ≡ (a || (b || d))
    turn true b d = refl
    turn false b d = refl

    by : (o : Option Tables) → with_table_change version ts c ≡ o → option_and_then (λ us. with_table_changes version us cs) o ≡ Some later
        → ((mid : Tables) → with_table_change version ts c ≡ Some mid → with_table_changes version mid cs ≡ Some later → fits (stripped (λ n k. (p n k || named c n k) || named_in cs n k) later) ≡ true)
        → fits (stripped (λ n k. p n k || (named c n k || named_in cs n k)) later) ≡ true
    by None w e go = cc e
    by (Some mid) w e go =
        ap (λ (us : Tables). fits us) (sym (stripped-same (λ n k. (p n k || named c n k) || named_in cs n k) (λ n k. p n k || (named c n k || named_in cs n k)) (λ n k. turn (p n k) (named c n k) (named_in cs n k)) later))
        ∙ go mid w e

-- WHAT IS LEFT FITS
pub rest_fits : (version : ℕ) (ts later : Tables) (cs : List TableChange) → with_table_changes version ts cs ≡ Some later → fits ts ≡ true → fits (without_all later cs) ≡ true
rest_fits version ts later cs is fit =
    ap (λ (us : Tables). fits us) (all-named later cs)
    ∙ rest-by version (λ n k. false) ts later cs is (ap (λ (us : Tables). fits us) (stripped-none ts) ∙ fit)
