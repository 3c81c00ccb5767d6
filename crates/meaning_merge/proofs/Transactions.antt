-- A transaction of a history stays one: at its begin, at each statement, and where others commit.
use Rattle.std.proofs.Common.{◌≡◌, ◌≢◌, ◌⊎◌, inl, inr, ℕ, ◌==◌, ◌≤◌, ◌&&◌, ◌||◌, List, [], ◌∷◌, ◌++◌, Bool, true, false, cond, bytes_eq, length, nat_le, nat_lt, Option, Some, None, is_some, Ok, refl, sym, ◌∙◌, ap, subst, arith}
use Rattle.std.specs.List.{AllByRecursion, list_any}
use Rattle.std.specs.Option.{option_or}
use Rattle.std.proofs.lemmas.Bool.Decides.{nat_tests}
use Rattle.dl_base.specs.declared.column.Column.{Column}
use Rattle.dl_base.specs.declared.statement.Stmt.{Stmt}
use Rattle.dl_base.specs.declared.value.LinkRow.{LinkRow}
use Rattle.meaning_areas.specs.Commits.{Commit, commit_of, columns_stand, tables_after}
use Rattle.meaning_areas.proofs.Tables.{commit_of-there}
use Rattle.meaning_sql.specs.declared.Context.{Context}
use Rattle.meaning_statements.specs.Changing.{Changed, change}
use Rattle.meaning_tables.specs.Fits.{Fits}
use Rattle.meaning_tables.specs.Links.{links}
use Rattle.meaning_tables.specs.Tables.{Rows, Tables, new_table, table_of, with_table, without_table}
use Rattle.sql_invariants.specs.Free.{IsFree, is_ahead}
use Rattle.sql_invariants.proofs.Changes.{change_made}
use Rattle.sql_invariants.proofs.Ordered.{kept_ordered}
use Rattle.sql_invariants.proofs.Walks.{origin}
use Rattle.meaning_merge.specs.History.{AreMade, CopyOf, makes, drops, has, is_among, changed_by, IsHistory, IsTransaction, is_used}
use Rattle.meaning_merge.specs.Touching.{In, EachLink}
use Rattle.meaning_merge.proofs.Histories.{past-last, past-more}
use Rattle.meaning_merge.proofs.Keeping.{name-same}
use Rattle.meaning_merge.proofs.Numbers.{in-each, each-in, never, not_it}
use Rattle.meaning_merge.proofs.OneTable.{Effect, EffectOf, made, gone, put, effect_of}
use Rattle.meaning_merge.proofs.TableByTable.{table_of-append}
use Rattle.meaning_merge.proofs.Used.{not-used}

some_same : (x y : Rows) → Some x ≡ Some y → x ≡ y
some_same x y e = cc

-- a copy whose statement made, dropped or changed a table

all-made : (ts : Tables) (name : List ℕ) (columns : List Column) → columns_stand columns ≡ true → AreMade ts → AreMade (ts ++ (name, new_table columns) ∷ [])
all-made [] name columns stand each = ((refl, stand), tt)
all-made (t ∷ ts) name columns stand each = (each.0, all-made ts name columns stand each.1)

copy-made : {base copy : Tables} (name : List ℕ) (columns : List Column) → columns_stand columns ≡ true → CopyOf base copy → CopyOf base (copy ++ (name, new_table columns) ∷ [])
copy-made {copy = copy} name columns stand (makes each) = makes (all-made copy name columns stand each)
copy-made name columns stand (drops t of) = drops t (copy-made name columns stand of)
copy-made name columns stand (has t later version same of) = has t later version same (copy-made name columns stand of)

all-less : (ts : Tables) (name : List ℕ) → AreMade ts → AreMade (without_table ts name)
all-less [] name each = tt
all-less (t ∷ ts) name each = by (bytes_eq name t.0) (all-less ts name each.1)
  where
    by : (b : Bool) → AreMade (without_table ts name) → AreMade (cond b ts (t ∷ without_table ts name))
    by true go = each.1
    by false go = (each.0, go)

copy-less : {base copy : Tables} (name : List ℕ) → CopyOf base copy → CopyOf base (without_table copy name)
copy-less {copy = copy} name (makes each) = makes (all-less copy name each)
copy-less name (drops t of) = drops t (copy-less name of)
copy-less name (has {base = base} {copy = copy} t later version same of) = by (bytes_eq name t.0) (copy-less name of)
  where
    by : (b : Bool) → CopyOf base (without_table copy name) → CopyOf (t ∷ base) (cond b copy ((t.0, later) ∷ without_table copy name))
    by true go = drops t of
    by false go = has t later version same go

all-put : (ts : Tables) (name : List ℕ) (t new : Rows) → table_of ts name ≡ Some t → new.version ≡ t.version → new.columns ≡ t.columns → AreMade ts → AreMade (with_table ts name new)
all-put [] name t new is version columns each = tt
all-put (u ∷ us) name t new is version columns each = by (bytes_eq name u.0) is (λ later. all-put us name t new later version columns each.1)
  where
    by : (b : Bool) → cond b (Some u.1) (table_of us name) ≡ Some t → (table_of us name ≡ Some t → AreMade (with_table us name new)) → AreMade (cond b ((u.0, new) ∷ us) (u ∷ with_table us name new))
    by true e go =
        let same : u.1 ≡ t = some_same u.1 t e in
        ((version ∙ ap (λ (x : Rows). x.version) (sym same) ∙ each.0.0, ap columns_stand (columns ∙ ap (λ (x : Rows). x.columns) (sym same)) ∙ each.0.1), each.1)
    by false e go = (each.0, go e)

copy-put : {base copy : Tables} (name : List ℕ) (t new : Rows) → table_of copy name ≡ Some t → new.version ≡ t.version → new.columns ≡ t.columns → CopyOf base copy → CopyOf base (with_table copy name new)
copy-put {copy = copy} name t new is version columns (makes each) = makes (all-put copy name t new is version columns each)
copy-put name t new is version columns (drops u of) = drops u (copy-put name t new is version columns of)
copy-put name t new is version columns (has {base = base} {copy = copy} u later same_version same_columns of) = by (bytes_eq name u.0) is (λ rest. copy-put name t new rest version columns of)
  where
    by : (b : Bool) → cond b (Some later) (table_of copy name) ≡ Some t → (table_of copy name ≡ Some t → CopyOf base (with_table copy name new)) → CopyOf (u ∷ base) (cond b ((u.0, new) ∷ copy) ((u.0, later) ∷ with_table copy name new))
    by true e go =
        let same : later ≡ t = some_same later t e in
        has u new (version ∙ ap (λ (x : Rows). x.version) (sym same) ∙ same_version) (columns ∙ ap (λ (x : Rows). x.columns) (sym same) ∙ same_columns) of
    by false e go = has u later same_version same_columns (go e)

copy-effect : {base : Tables} (name : List ℕ) (copy after : Tables) → Effect name copy after → CopyOf base copy → CopyOf base after
copy-effect {base} name copy after (made columns stand is) of = subst (λ (ts : Tables). CopyOf base ts) is (copy-made name columns stand of)
copy-effect {base} name copy after (gone is) of = subst (λ (ts : Tables). CopyOf base ts) is (copy-less name of)
copy-effect {base} name copy after (put t later there version columns is) of = subst (λ (ts : Tables). CopyOf base ts) is (copy-put name t later there version columns of)

-- other tables

other-less : (ts : Tables) (name other : List ℕ) → bytes_eq other name ≡ false → table_of (without_table ts name) other ≡ table_of ts other
other-less [] name other apart = refl
other-less (t ∷ ts) name other apart = by (bytes_eq name t.0) refl (other-less ts name other apart)
  where
    by : (b : Bool) → bytes_eq name t.0 ≡ b → table_of (without_table ts name) other ≡ table_of ts other → table_of (cond b ts (t ∷ without_table ts name)) other ≡ cond (bytes_eq other t.0) (Some t.1) (table_of ts other)
    by true e go = sym (ap (λ x. cond x (Some t.1) (table_of ts other)) (ap (bytes_eq other) (sym (name-same name t.0 e)) ∙ apart))
    by false e go = ap (λ (o : Option Rows). cond (bytes_eq other t.0) (Some t.1) o) go

other-put : (ts : Tables) (name other : List ℕ) (new : Rows) → bytes_eq other name ≡ false → table_of (with_table ts name new) other ≡ table_of ts other
other-put [] name other new apart = refl
other-put (t ∷ ts) name other new apart = by (bytes_eq name t.0) refl (other-put ts name other new apart)
  where
    by : (b : Bool) → bytes_eq name t.0 ≡ b → table_of (with_table ts name new) other ≡ table_of ts other → table_of (cond b ((t.0, new) ∷ ts) (t ∷ with_table ts name new)) other ≡ cond (bytes_eq other t.0) (Some t.1) (table_of ts other)
    by true e go =
        let lacks : bytes_eq other t.0 ≡ false = ap (bytes_eq other) (sym (name-same name t.0 e)) ∙ apart in
        ap (λ x. cond x (Some new) (table_of ts other)) lacks ∙ sym (ap (λ x. cond x (Some t.1) (table_of ts other)) lacks)
    by false e go = ap (λ (o : Option Rows). cond (bytes_eq other t.0) (Some t.1) o) go

or_none : (o : Option Rows) → option_or o None ≡ o
or_none None = refl
or_none (Some t) = refl

other-effect : (name other : List ℕ) (copy after : Tables) → Effect name copy after → bytes_eq other name ≡ false → table_of after other ≡ table_of copy other
other-effect name other copy after (made columns stand is) apart =
    ap (λ (ts : Tables). table_of ts other) (sym is) ∙ table_of-append copy ((name, new_table columns) ∷ []) other
    ∙ ap (λ b. option_or (table_of copy other) (cond b (Some (new_table columns)) None)) apart ∙ or_none (table_of copy other)
other-effect name other copy after (gone is) apart = ap (λ (ts : Tables). table_of ts other) (sym is) ∙ other-less copy name other apart
other-effect name other copy after (put t later there version columns is) apart = ap (λ (ts : Tables). table_of ts other) (sym is) ∙ other-put copy name other later apart

copy-after : (base copy after : Tables) (by : List (List ℕ)) → EffectOf by copy after → CopyOf base copy → CopyOf base after
copy-after base copy after [] is of = subst (λ (ts : Tables). CopyOf base ts) is of
copy-after base copy after (name ∷ names) is of = copy-effect name copy after is of

other-after : (copy after : Tables) (by : List (List ℕ)) (other : List ℕ) → EffectOf by copy after → is_among by other ≡ false → table_of after other ≡ table_of copy other
other-after copy after [] other is lacks = ap (λ (ts : Tables). table_of ts other) (sym is)
other-after copy after (name ∷ names) other is lacks = other-effect name other copy after is (first (bytes_eq other name) (is_among names other) lacks)
  where
    first : (a b : Bool) → (a || b) ≡ false → a ≡ false
    first true b e = e
    first false b e = refl

-- links

each-recursion : (P : LinkRow → Type 0) (xs : List LinkRow) → EachLink xs P → AllByRecursion P xs
each-recursion P [] each = tt
each-recursion P (x ∷ xs) each = (each.0, each-recursion P xs each.1)

recursion-each : (P : LinkRow → Type 0) (xs : List LinkRow) → AllByRecursion P xs → EachLink xs P
recursion-each P [] each = tt
recursion-each P (x ∷ xs) each = (each.0, recursion-each P xs each.1)

-- A STATEMENT. That rows still fit is the law of every change
abbrev pub KeepsFitting : Type 0
KeepsFitting = (tables : Tables) (stmt : Stmt) (context : Context) (k : ℕ) (after : Changed) → Fits tables → IsFree tables context.tx k → change tables stmt context k ≡ Ok after → Fits after.tables × (k ≤ after.next) × IsFree after.tables context.tx after.next

pub stated : KeepsFitting → (first : ℕ) (cs : List Commit) (base copy : Tables) (names more : List (List ℕ)) (next : ℕ) (stmt : Stmt) (context : Context) (after : Changed) → IsTransaction first cs context.tx base copy names next
    → change copy stmt context next ≡ Ok after → ((name : List ℕ) → is_among more name ≡ false → (is_among names name ≡ false) × (is_among (changed_by stmt) name ≡ false))
    → IsTransaction first cs context.tx base after.tables more after.next
stated law first cs base copy names more next stmt context after txn is among =
    let effect = effect_of copy stmt context next after is in
    let fitting = law copy stmt context next after txn.fit txn.free is in
    let P : LinkRow → Type 0 = λ l. In l (links base) ⊎ (l.link.tx ≡ context.tx) in
    record {
      begun = txn.begun;
      unused = txn.unused;
      copy_of = copy-after base copy after.tables (changed_by stmt) effect txn.copy_of;
      named = λ name lacks. other-after copy after.tables (changed_by stmt) name effect (among name lacks).1 ∙ txn.named name (among name lacks).0;
      ordered = kept_ordered copy stmt context next after txn.ordered is;
      fit = fitting.0;
      free = fitting.2;
      drawn = recursion-each P (links after.tables) (origin P (change_made copy stmt context next after is).walk (each-recursion P (links copy) txn.drawn) (λ l drawn. inr drawn.own));
    }

-- THE BEGIN

copy-self : (ts : Tables) → CopyOf ts ts
copy-self [] = makes tt
copy-self (t ∷ ts) = has t t.1 refl refl (copy-self ts)

none-ahead : (tx k : ℕ) (ls : List LinkRow) → EachLink ls (λ l. (l.link.tx == tx) ≡ false) → list_any (λ (l : LinkRow). is_ahead tx k l.link) ls ≡ false
none-ahead tx k [] each = refl
none-ahead tx k (l ∷ ls) each = ap (λ b. (b && nat_le k l.link.k) || list_any (λ (x : LinkRow). is_ahead tx k x.link) ls) each.0 ∙ none-ahead tx k ls each.1

pub begun : (first : ℕ) (cs : List Commit) (tx : ℕ) → IsHistory first cs → is_used first cs tx ≡ false → IsTransaction first cs tx (tables_after [] cs) (tables_after [] cs) [] 1
begun first cs tx history new =
    let last = tables_after [] cs in
    record {
      begun = (length cs, past-last [] cs);
      unused = new;
      copy_of = copy-self last;
      named = λ name lacks. refl;
      ordered = history.ordered (length cs) last (past-last [] cs);
      fit = history.fit (length cs) last (past-last [] cs);
      free = not_it (list_any (λ (l : LinkRow). is_ahead tx 1 l.link) (links last)) (none-ahead tx 1 (links last) (in-each (λ l. (l.link.tx == tx) ≡ false) (links last) (λ l is. never (l.link.tx == tx) (λ own. not_drawn l is (same_tx l.link.tx own)))));
      drawn = in-each (λ l. In l (links last) ⊎ (l.link.tx ≡ tx)) (links last) (λ l is. inl is);
    }
  where
    same_tx : (a : ℕ) → (a == tx) ≡ true → a ≡ tx
    same_tx a e = grind (arith, nat_tests)

    not_drawn : (l : LinkRow) → In l (links (tables_after [] cs)) → l.link.tx ≡ tx → ⊥
    not_drawn l is own = not-used first cs l.link.tx tx (each-in (λ x. is_used first cs x.link.tx ≡ true) (links (tables_after [] cs)) l (history.drawn (length cs) (tables_after [] cs) (past-last [] cs)) is) own new

-- ANOTHER COMMITS
pub others : (first : ℕ) (cs : List Commit) (d : Commit) (tx : ℕ) (base copy : Tables) (names : List (List ℕ)) (next : ℕ) → IsTransaction first cs tx base copy names next → commit_of d.tx cs ≡ None → tx ≢ d.tx
    → IsTransaction first (cs ++ d ∷ []) tx base copy names next
others first cs d tx base copy names next txn new apart = record {
  begun = (txn.begun.0, past-more [] d cs txn.begun.0 base txn.begun.1);
  unused = ap (λ (o : Option Commit). nat_lt tx first || is_some o) (commit_of-there d tx cs new apart) ∙ txn.unused;
  copy_of = txn.copy_of;
  named = txn.named;
  ordered = txn.ordered;
  fit = txn.fit;
  free = txn.free;
  drawn = txn.drawn;
}

-- MORE NAMES, as of a statement that was refused
pub more-named : (first : ℕ) (cs : List Commit) (tx : ℕ) (base copy : Tables) (names more : List (List ℕ)) (next : ℕ) → IsTransaction first cs tx base copy names next → ((name : List ℕ) → is_among more name ≡ false → is_among names name ≡ false)
    → IsTransaction first cs tx base copy more next
more-named first cs tx base copy names more next txn among = record {
  begun = txn.begun;
  unused = txn.unused;
  copy_of = txn.copy_of;
  named = λ name lacks. txn.named name (among name lacks);
  ordered = txn.ordered;
  fit = txn.fit;
  free = txn.free;
  drawn = txn.drawn;
}
