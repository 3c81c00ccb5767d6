-- The work of a transaction stays such over each statement.
use Rattle.std.proofs.Common.{◌≡◌, ◌≤◌, ◌<◌, ◌==◌, ℕ, suc, List, [], ◌∷◌, ◌++◌, Bool, true, false, not, cond, bytes_eq, filter, length, map, Some, Result, Ok, Err, nat_lt, refl, sym, ◌∙◌, ap, subst, arith, length-append}
use Rattle.std.specs.Cmp.Lexicographic.{pointwise}
use Rattle.std.specs.List.{IsDistinct, list_all}
use Rattle.std.proofs.lemmas.Bool.{not-true}
use Rattle.std.proofs.lemmas.Bool.Decides.{nat_tests}
use Rattle.dl_base.specs.Limits.{link_numbers, most_tables}
use Rattle.dl_base.specs.declared.sql_fault.SqlFault.{SqlFault}
use Rattle.dl_base.specs.declared.statement.Stmt.{Stmt}
use Rattle.dl_base.specs.declared.statement.Stmt.TheVariants as statements
use Rattle.db_changes.specs.Touched.{AreCommitted, Covers, Touched}
use Rattle.db_changes.proofs.Covering.{covers-change, covers-itself, covers-more}
use Rattle.meaning_merge.proofs.Numbers.{both}
use Rattle.meaning_sql.specs.declared.Context.{Context}
use Rattle.meaning_statements.specs.Changing.{Changed, change}
use Rattle.meaning_tables.specs.Fits.{RowsFit}
use Rattle.meaning_tables.specs.Tables.{Rows, Tables, new_table, table_of, with_table, without_table}
use Rattle.sql_rows.specs.Beside.{AgreeBeside}
use Rattle.sql_run.specs.Outcomes.{Evaluation, after_change, counted, done, evaluated}
use Rattle.sql_run.specs.declared.evaluating.Outcome.{Outcome}
use Rattle.db_txn.specs.Working.{AddsRows, AddsTo, IsWork, IsWorkOn, count_made}
use Rattle.db_txn.specs.declared.work.Work.{Work}
use Rattle.db_txn.proofs.Effects.{Effect, EffectOf, effect_of, gone, made, put}
use Rattle.db_txn.proofs.Leaving.{leaves}

-- HOW MANY tables are just made

abbrev many : Bool → ℕ → ℕ
many b n = cond b (suc n) n

count : (b : Bool) (x : List ℕ × Rows) (xs : Tables) → length (cond b (x ∷ xs) xs) ≡ many b (length xs)
count true x xs = refl
count false x xs = refl

-- one more table
counts : (x : List ℕ × Rows) (xs : Tables) → count_made (x ∷ xs) ≡ many (x.1.version == 0) (count_made xs)
counts x xs = count (x.1.version == 0) x (filter (λ w. w.1.version == 0) xs)

not-less : (b : Bool) (n : ℕ) → n ≤ many b n
not-less true n = omega arith
not-less false n = omega arith

as-many : (b : Bool) (m n : ℕ) → m ≤ n → many b m ≤ many b n
as-many true m n le = omega (arith, le)
as-many false m n le = le

one-more : (b : Bool) (m n : ℕ) → m ≤ n → many b m ≤ suc n
one-more true m n le = omega (arith, le)
one-more false m n le = omega (arith, le)

made-all : (ts : Tables) → count_made ts ≤ length ts
made-all [] = omega arith
made-all (t ∷ ts) = subst (λ n. n ≤ suc (length ts)) (sym (counts t ts)) (one-more (t.1.version == 0) (count_made ts) (length ts) (made-all ts))

made-gone : (name : List ℕ) (ts : Tables) → count_made (without_table ts name) ≤ count_made ts
made-gone name [] = omega arith
made-gone name (t ∷ ts) = by (bytes_eq name t.0) (made-gone name ts)
  where
    by : (b : Bool) → count_made (without_table ts name) ≤ count_made ts → count_made (cond b ts (t ∷ without_table ts name)) ≤ count_made (t ∷ ts)
    by true le = subst (λ n. count_made ts ≤ n) (sym (counts t ts)) (not-less (t.1.version == 0) (count_made ts))
    by false le =
        subst (λ n. n ≤ count_made (t ∷ ts)) (sym (counts t (without_table ts name)))
        (subst (λ n. many (t.1.version == 0) (count_made (without_table ts name)) ≤ n) (sym (counts t ts)) (as-many (t.1.version == 0) (count_made (without_table ts name)) (count_made ts) le))

some_same : (x y : Rows) → Some x ≡ Some y → x ≡ y
some_same x y e = cc

made-put : (name : List ℕ) (ts : Tables) (t later : Rows) → table_of ts name ≡ Some t → later.version ≡ t.version → count_made (with_table ts name later) ≡ count_made ts
made-put name [] t later there same = refl
made-put name (u ∷ us) t later there same = by (bytes_eq name u.0) there (λ behind. made-put name us t later behind same)
  where
    by : (b : Bool) → cond b (Some u.1) (table_of us name) ≡ Some t → (table_of us name ≡ Some t → count_made (with_table us name later) ≡ count_made us)
        → count_made (cond b ((u.0, later) ∷ us) (u ∷ with_table us name later)) ≡ count_made (u ∷ us)
    by true is go = counts (u.0, later) us ∙ ap (λ n. many (n == 0) (count_made us)) (same ∙ ap (λ (x : Rows). x.version) (sym (some_same u.1 t is))) ∙ sym (counts u us)
    by false is go = counts u (with_table us name later) ∙ ap (λ n. many (u.1.version == 0) n) (go is) ∙ sym (counts u us)

made-last : (ts : Tables) (x : List ℕ × Rows) → nat_lt (length ts) most_tables ≡ true → count_made (ts ++ x ∷ []) ≤ most_tables
made-last ts x room =
    let all = made-all (ts ++ x ∷ []) in
    let long = length-append ts (x ∷ []) in
    let less : length ts < most_tables = grind (arith, nat_tests) in
    omega (arith, all, long, less)

made-after : (name : List ℕ) (before after : Tables) → Effect name before after → count_made before ≤ most_tables → count_made after ≤ most_tables
made-after name before after (made columns room is) le = subst (λ (ts : Tables). count_made ts ≤ most_tables) is (made-last before (name, new_table columns) room)
made-after name before after (gone is) le = subst (λ (ts : Tables). count_made ts ≤ most_tables) is (let less = made-gone name before in omega (arith, less, le))
made-after name before after (put t later there same is) le = subst (λ (ts : Tables). count_made ts ≤ most_tables) is (subst (λ n. n ≤ most_tables) (sym (made-put name before t later there same)) le)

-- THE WORK

module _ (base before after : Tables) (k next : ℕ) (touched more : Touched) (numbers : List ℕ) where
  abbrev Was : Type 0
  Was = IsWork base before k touched

  abbrev Is : Type 0
  Is = IsWork base after next more

  stays : (names : List (List ℕ)) → before ≡ after → AddsTo names numbers touched more → RowsFit after → next ≤ link_numbers → Was → Is
  stays [] is adds rows le was = record {
    rows = rows;
    numbers = le;
    covers = subst (λ (ms : Touched). Covers ms base after) (sym adds) (subst (λ (ts : Tables). Covers touched base ts) is was.covers);
    few = subst (λ (ts : Tables). count_made ts ≤ most_tables) is was.few;
  }
  stays (name ∷ names) is adds rows le was = record {
    rows = rows;
    numbers = le;
    covers = subst (λ (ts : Tables). Covers more base ts) is (covers-more touched more name numbers base before was.covers adds);
    few = subst (λ (ts : Tables). count_made ts ≤ most_tables) is was.few;
  }

  changes : (names : List (List ℕ)) → EffectOf names before after → AddsTo names numbers touched more → IsDistinct (pointwise ◌==◌) (map (λ t. t.0) before) → AgreeBeside numbers before after → RowsFit after → next ≤ link_numbers → Was → Is
  changes [] effect adds distinct beside rows le was = stays [] effect adds rows le was
  changes (name ∷ names) effect adds distinct beside rows le was = record {
    rows = rows;
    numbers = le;
    covers = covers-change touched more name numbers base before after was.covers (leaves name numbers before after distinct effect beside) adds;
    few = made-after name before after effect was.few;
  }

  -- where a change was made, or refused
  by-change : (names : List (List ℕ)) (tell : Result ℕ SqlFault → Outcome) (outcome : Outcome) (r : Result Changed SqlFault) → ((c : Changed) → r ≡ Ok c → EffectOf names before c.tables)
      → after_change before k tell r ≡ record { outcome = outcome; tables = after; next = next }
      → AddsTo names numbers touched more → IsDistinct (pointwise ◌==◌) (map (λ t. t.0) before) → AgreeBeside numbers before after → RowsFit after → next ≤ link_numbers → Was → Is
  by-change names tell outcome (Ok c) effect is adds distinct beside rows le was =
      changes names (subst (λ (ts : Tables). EffectOf names before ts) (ap (λ (e : Evaluation). e.tables) is) (effect c refl)) adds distinct beside rows le was
  by-change names tell outcome (Err fault) effect is adds distinct beside rows le was = stays names (ap (λ (e : Evaluation). e.tables) is) adds rows le was

  pub works : (stmt : Stmt) (context : Context) (outcome : Outcome) → evaluated before stmt context k ≡ record { outcome = outcome; tables = after; next = next }
      → AddsRows stmt numbers touched more → IsDistinct (pointwise ◌==◌) (map (λ t. t.0) before) → AgreeBeside numbers before after → RowsFit after → next ≤ link_numbers → Was → Is
  works (statements.CreateTable name columns) context outcome is adds = by-change (name ∷ []) done outcome (change before (statements.CreateTable name columns) context k) (λ c e. effect_of before (statements.CreateTable name columns) context k c e) is adds
  works (statements.DropTable name) context outcome is adds = by-change (name ∷ []) done outcome (change before (statements.DropTable name) context k) (λ c e. effect_of before (statements.DropTable name) context k c e) is adds
  works (statements.Insert name names tuples) context outcome is adds = by-change (name ∷ []) counted outcome (change before (statements.Insert name names tuples) context k) (λ c e. effect_of before (statements.Insert name names tuples) context k c e) is adds
  works (statements.Update name sets filter) context outcome is adds = by-change (name ∷ []) counted outcome (change before (statements.Update name sets filter) context k) (λ c e. effect_of before (statements.Update name sets filter) context k c e) is adds
  works (statements.Delete name filter) context outcome is adds = by-change (name ∷ []) counted outcome (change before (statements.Delete name filter) context k) (λ c e. effect_of before (statements.Delete name filter) context k c e) is adds
  works (statements.Select query) context outcome is adds = λ distinct beside rows le was. stays [] (ap (λ (e : Evaluation). e.tables) is) adds rows le was
  works statements.Begin context outcome is adds = λ distinct beside rows le was. stays [] (ap (λ (e : Evaluation). e.tables) is) adds rows le was
  works statements.Commit context outcome is adds = λ distinct beside rows le was. stays [] (ap (λ (e : Evaluation). e.tables) is) adds rows le was
  works statements.Rollback context outcome is adds = λ distinct beside rows le was. stays [] (ap (λ (e : Evaluation). e.tables) is) adds rows le was

-- THE BEGIN

none-made : (ts : Tables) → AreCommitted ts → count_made ts ≡ 0
none-made [] all = refl
none-made (t ∷ ts) all =
    let two = both (not (t.1.version == 0)) (list_all (λ u. not (u.1.version == 0)) ts) all in
    counts t ts ∙ ap (λ b. many b (count_made ts)) (not-true (t.1.version == 0) two.0) ∙ none-made ts two.1

fresh : (ts : Tables) → RowsFit ts → AreCommitted ts → IsWork ts ts 1 []
fresh ts rows all = record {
  rows = rows;
  numbers = omega arith;
  covers = covers-itself [] ts;
  few = subst (λ n. n ≤ most_tables) (sym (none-made ts all)) (omega arith);
}

-- the work on two copies of committed tables
pub begun-work : (ts base copy : Tables) (w : Work) → base ≡ ts → copy ≡ ts → w ≡ record { copy = copy; named = []; next = 1; touched = [] } → RowsFit ts → AreCommitted ts → AreCommitted base × IsWorkOn base w
begun-work ts base copy w is_base is_copy is rows all = (
  subst (λ (us : Tables). AreCommitted us) (sym is_base) all,
  subst (λ (x : Work). IsWorkOn base x) (sym is) (subst (λ (us : Tables). IsWork base us 1 []) (sym is_copy) (subst (λ (us : Tables). IsWork us ts 1 []) (sym is_base) (fresh ts rows all))),
)
