-- The links of tables without lost cells, and of restored tables: each is a link of the target.
use Rattle.std.proofs.Common.{◌≡◌, ⊎_elim, ℕ, List, [], ◌∷◌, ◌++◌, Bool, true, false, cond, bytes_eq, map, Some, None, refl, sym, ◌∙◌, ap, subst}
use Rattle.std.specs.List.{flat_map, list_any}
use Rattle.dl_base.specs.declared.column.Column.{Column}
use Rattle.dl_base.specs.declared.column.Kind.{Kind}
use Rattle.dl_base.specs.declared.column.Kind.TheVariants as kinds
use Rattle.dl_base.specs.declared.value.LinkRow.{LinkRow}
use Rattle.dl_base.specs.declared.value.Row.{Row}
use Rattle.dl_base.specs.declared.value.Value.{Value}
use Rattle.dl_base.specs.declared.value.Value.TheVariants as values
use Rattle.meaning_merge.specs.History.{EachTable}
use Rattle.meaning_merge.specs.Merging.{AreNamed}
use Rattle.meaning_merge.specs.Restoring.{loses, restored_tables, without_cells, without_lost}
use Rattle.meaning_merge.specs.Touching.{In}
use Rattle.meaning_merge.proofs.Numbers.{in-append, in-left, in-right}
use Rattle.meaning_merge.proofs.Restored.{each-restored}
use Rattle.meaning_settling.proofs.KeyedLaws.{none-or}
use Rattle.meaning_tables.specs.Links.{cell_links, links, row_links, table_links}
use Rattle.meaning_tables.specs.Tables.{Rows, Tables, table_of}

none_some : {A : Type 0} (x : A) → None ≡ Some x → ⊥
none_some x e = cc

some_same : (x y : Rows) → Some x ≡ Some y → x ≡ y
some_same x y e = cc

-- WITHOUT LOST CELLS
module _ (lost : LinkRow → Bool) where
  abbrev IsLeft : LinkRow → List LinkRow → Type 0
  IsLeft l ls = In l ls × (lost l ≡ false)

  passes : (ls : List LinkRow) (l : LinkRow) → list_any lost ls ≡ false → In l ls → lost l ≡ false
  passes [] l e is = absurd is
  passes (x ∷ xs) l e is = let two = none-or (lost x) (list_any lost xs) e in ⊎_elim (λ (here : l ≡ x). ap lost here ∙ two.0) (λ (later : In l xs). passes xs l two.1 later) is

  no-links : (k : Kind) (l : LinkRow) → In l (cell_links k values.Null) → ⊥
  no-links kinds.Int l is = is
  no-links (kinds.Text n) l is = is
  no-links kinds.Free l is = is
  no-links (kinds.Linked o) l is = is

  cell-in : (c : Column) (v : Value) (l : LinkRow) → In l (cell_links c.kind (cond (loses lost c v) values.Null v)) → IsLeft l (cell_links c.kind v)
  cell-in c v l is = by (loses lost c v) refl is
    where
      by : (b : Bool) → loses lost c v ≡ b → In l (cell_links c.kind (cond b values.Null v)) → IsLeft l (cell_links c.kind v)
      by true e there = absurd (no-links c.kind l there)
      by false e there = (there, passes (cell_links c.kind v) l e there)

  row-in : (cs : List Column) (vs : List Value) (l : LinkRow) → In l (row_links cs (without_cells lost cs vs)) → IsLeft l (row_links cs vs)
  row-in [] vs l is = absurd is
  row-in (c ∷ cs) [] l is = absurd is
  row-in (c ∷ cs) (v ∷ vs) l is = ⊎_elim
      (λ (here : In l (cell_links c.kind (cond (loses lost c v) values.Null v))). (let a = cell-in c v l here in (in-left (cell_links c.kind v) (row_links cs vs) l a.0, a.1)))
      (λ (later : In l (row_links cs (without_cells lost cs vs))). (let b = row-in cs vs l later in (in-right (cell_links c.kind v) (row_links cs vs) l b.0, b.1)))
      (in-append (cell_links c.kind (cond (loses lost c v) values.Null v)) (row_links cs (without_cells lost cs vs)) l is)

  abbrev rows_without : List Column → List (ℕ × Row) → List (ℕ × Row)
  rows_without cs rows = map (λ r. (r.0, record { values = without_cells lost cs r.1.values })) rows

  rows-in : (cs : List Column) (rows : List (ℕ × Row)) (l : LinkRow) → In l (flat_map (λ r. row_links cs r.1.values) (rows_without cs rows)) → IsLeft l (flat_map (λ r. row_links cs r.1.values) rows)
  rows-in cs [] l is = absurd is
  rows-in cs (r ∷ rs) l is = ⊎_elim
      (λ (here : In l (row_links cs (without_cells lost cs r.1.values))). (let a = row-in cs r.1.values l here in (in-left (row_links cs r.1.values) (flat_map (λ x. row_links cs x.1.values) rs) l a.0, a.1)))
      (λ (later : In l (flat_map (λ x. row_links cs x.1.values) (rows_without cs rs))). (let b = rows-in cs rs l later in (in-right (row_links cs r.1.values) (flat_map (λ x. row_links cs x.1.values) rs) l b.0, b.1)))
      (in-append (row_links cs (without_cells lost cs r.1.values)) (flat_map (λ x. row_links cs x.1.values) (rows_without cs rs)) l is)

  pub bare-in : (ts : Tables) (l : LinkRow) → In l (links (without_lost lost ts)) → In l (links ts) × (lost l ≡ false)
  bare-in [] l is = absurd is
  bare-in (t ∷ ts) l is = ⊎_elim
      (λ (here : In l (flat_map (λ r. row_links t.1.columns r.1.values) (rows_without t.1.columns t.1.rows))). (let a = rows-in t.1.columns t.1.rows l here in (in-left (table_links t.1) (links ts) l a.0, a.1)))
      (λ (later : In l (links (without_lost lost ts))). (let b = bare-in ts l later in (in-right (table_links t.1) (links ts) l b.0, b.1)))
      (in-append (flat_map (λ r. row_links t.1.columns r.1.values) (rows_without t.1.columns t.1.rows)) (links (without_lost lost ts)) l is)

-- RESTORED TABLES

found-in : (us : Tables) (n : List ℕ) (u : Rows) (l : LinkRow) → table_of us n ≡ Some u → In l (table_links u) → In l (links us)
found-in [] n u l e is = absurd (none_some u e)
found-in (x ∷ xs) n u l e is = by (bytes_eq n x.0) e (λ later. found-in xs n u l later is)
  where
    by : (b : Bool) → cond b (Some x.1) (table_of xs n) ≡ Some u → (table_of xs n ≡ Some u → In l (links xs)) → In l (table_links x.1 ++ links xs)
    by true e go = in-left (table_links x.1) (links xs) l (subst (λ (r : Rows). In l (table_links r)) (sym (some_same x.1 u e)) is)
    by false e go = in-right (table_links x.1) (links xs) l (go e)

of-tables : (us ts : Tables) → EachTable ts (λ t. (l : LinkRow) → In l (table_links t.1) → In l (links us)) → (l : LinkRow) → In l (links ts) → In l (links us)
of-tables us [] each l is = absurd is
of-tables us (t ∷ ts) each l is = ⊎_elim (λ (here : In l (table_links t.1)). each.0 l here) (λ (later : In l (links ts)). of-tables us ts each.1 l later) (in-append (table_links t.1) (links ts) l is)

pub restored-in : (committed target : Tables) (c : ℕ) → AreNamed committed → AreNamed target → (l : LinkRow) → In l (links (restored_tables committed target c)) → In l (links target)
restored-in committed target c named target_named l is = of-tables target (restored_tables committed target c)
    (each-restored committed target c named target_named (λ t. (x : LinkRow) → In x (table_links t.1) → In x (links target)) (λ name t at x there. found-in target name t x at there)) l is
