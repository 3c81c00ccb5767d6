-- One table of a list of tables is made, changed or removed.
use Rattle.std.proofs.Common.{◌≡◌, ◌++◌, ◌==◌, ℕ, Bool, true, false, cond, List, [], ◌∷◌, Option, Some, None, is_none, if◌then◌else◌, refl, subst}
use Rattle.std.specs.Cmp.Lexicographic.{pointwise}
use Rattle.std.specs.List.{list_any, list_all}
use Rattle.std.proofs.lemmas.Bool.{and_parts, and_from}
use Rattle.dl_base.specs.declared.column.Column.{Column}
use Rattle.meaning_tables.specs.Fits.{table_fits, is_key, repeated}
use Rattle.meaning_tables.specs.Links.{links, table_links}
use Rattle.meaning_tables.specs.Tables.{Rows, Tables, new_table, table_of, with_table, without_table}
use Rattle.sql_invariants.proofs.Made.{ValuesAreTyped}
use Rattle.sql_invariants.proofs.Walks.{Walk, ends, after, all_kept, all_dropped}

abbrev pub all_fit : Tables → Bool
all_fit tables = list_all (λ t. table_fits t.1) tables

-- the rows of each table still fit, and links are dropped, kept or drawn
pub record TablesMade (tx k next : ℕ) (olds news : Tables) : Type 0 where
  pub fit : ValuesAreTyped → all_fit olds ≡ true → all_fit news ≡ true
  pub walk : Walk tx k next (links olds) (links news)

-- the same of one table
pub record TableMade (tx k next : ℕ) (old new : Rows) : Type 0 where
  pub fits : ValuesAreTyped → table_fits old ≡ true → table_fits new ≡ true
  pub walk : Walk tx k next (table_links old) (table_links new)

-- the first table stays
stays : (tx k next : ℕ) (e : List ℕ × Rows) (es rest : Tables) → TablesMade tx k next es rest → TablesMade tx k next (e ∷ es) (e ∷ rest)
stays tx k next e es rest more = record {
  fit = λ law fit. let both = and_parts (table_fits e.1) (all_fit es) fit in and_from (table_fits e.1) (all_fit rest) both.0 (more.fit law both.1);
  walk = after (all_kept tx k (table_links e.1)) more.walk;
}

put_by : (tx k next : ℕ) (b : Bool) (e : List ℕ × Rows) (es rest : Tables) (t new : Rows) (later : Option Rows) → cond b (Some e.1) later ≡ Some t
    → TableMade tx k next t new → (later ≡ Some t → TablesMade tx k next es rest) → TablesMade tx k next (e ∷ es) (cond b ((e.0, new) ∷ es) (e ∷ rest))
put_by tx k next true e es rest t new later is made others =
    let same : t ≡ e.1 = cc in
    let here = subst (λ (x : Rows). TableMade tx k next x new) same made in
    record {
      fit = λ law fit. let both = and_parts (table_fits e.1) (all_fit es) fit in and_from (table_fits new) (all_fit es) (here.fits law both.0) both.1;
      walk = after here.walk (all_kept tx next (links es));
    }
put_by tx k next false e es rest t new later is made others = stays tx k next e es rest (others is)

-- another table in the place of that of a name
pub put : (tx k next : ℕ) (tables : Tables) (name : List ℕ) (t new : Rows) → table_of tables name ≡ Some t → TableMade tx k next t new → TablesMade tx k next tables (with_table tables name new)
put tx k next [] name t new is made = absurd (cc)
put tx k next (e ∷ es) name t new is made =
    put_by tx k next (pointwise ◌==◌ name e.0) e es (with_table es name new) t new (table_of es name) is made (λ later. put tx k next es name t new later made)

removed_by : (tx k : ℕ) (b : Bool) (e : List ℕ × Rows) (es rest : Tables) → TablesMade tx k k es rest → TablesMade tx k k (e ∷ es) (cond b es (e ∷ rest))
removed_by tx k true e es rest more = record {
  fit = λ law fit. (and_parts (table_fits e.1) (all_fit es) fit).1;
  walk = after (all_dropped tx k (table_links e.1)) (all_kept tx k (links es));
}
removed_by tx k false e es rest more = stays tx k k e es rest more

-- without the table of a name
pub removed : (tx k : ℕ) (tables : Tables) (name : List ℕ) → TablesMade tx k k tables (without_table tables name)
removed tx k [] name = record { fit = λ law fit. refl; walk = ends }
removed tx k (e ∷ es) name = removed_by tx k (pointwise ◌==◌ name e.0) e es (without_table es name) (removed tx k es name)

new_differ : (columns : List Column) (keyed : Bool) → is_none (if keyed then repeated columns [] [] else None) ≡ true
new_differ columns true = refl
new_differ columns false = refl

new_fits : (columns : List Column) → table_fits (new_table columns) ≡ true
new_fits columns = new_differ columns (list_any (λ c. is_key c.rule) columns)

-- one more table, without rows
pub added : (tx k : ℕ) (tables : Tables) (name : List ℕ) (columns : List Column) → TablesMade tx k k tables (tables ++ (name, new_table columns) ∷ [])
added tx k [] name columns = record { fit = λ law fit. and_from (table_fits (new_table columns)) true (new_fits columns) refl; walk = ends }
added tx k (e ∷ es) name columns = stays tx k k e es (es ++ (name, new_table columns) ∷ []) (added tx k es name columns)
