-- A link that is not lost is left in tables without their lost cells.
use Rattle.std.proofs.Common.{◌≡◌, ⊎_elim, ℕ, List, [], ◌∷◌, ◌||◌, Bool, true, false, cond, map, Option, Some, None, refl, sym, ◌∙◌, ap, subst}
use Rattle.std.specs.List.{flat_map, list_any}
use Rattle.dl_base.specs.declared.column.Column.{Column}
use Rattle.dl_base.specs.declared.column.Kind.{Kind}
use Rattle.dl_base.specs.declared.column.Kind.TheVariants as kinds
use Rattle.dl_base.specs.declared.value.LinkNo.{LinkNo}
use Rattle.dl_base.specs.declared.value.LinkRow.{LinkRow}
use Rattle.dl_base.specs.declared.value.Row.{Row}
use Rattle.dl_base.specs.declared.value.Value.{Value}
use Rattle.dl_base.specs.declared.value.Value.TheVariants as values
use Rattle.meaning_merge.specs.Restoring.{loses, without_cells, without_lost}
use Rattle.meaning_merge.specs.Touching.{In}
use Rattle.meaning_merge.proofs.Numbers.{in-append, in-left, in-right}
use Rattle.meaning_tables.specs.Links.{cell_links, link_row, links, row_links, table_links}
use Rattle.meaning_tables.specs.Tables.{Tables}

module _ (lost : LinkRow → Bool) (l : LinkRow) (left : lost l ≡ false) where
  or-false : (b : Bool) → (b || false) ≡ b
  or-false true = refl
  or-false false = refl

  -- a cell has one link at most
  single : (k : Kind) (v : Value) → In l (cell_links k v) → list_any lost (cell_links k v) ≡ lost l
  single kinds.Int v is = absurd is
  single (kinds.Text n) v is = absurd is
  single kinds.Free v is = absurd is
  single (kinds.Linked o) values.Null is = absurd is
  single (kinds.Linked o) (values.Int z) is = absurd is
  single (kinds.Linked o) (values.Text t) is = absurd is
  single (kinds.Linked o) (values.Link d) is = by d.link is
    where
      by : (x : Option LinkNo) → In l (link_row o d.path x) → list_any lost (link_row o d.path x) ≡ lost l
      by None there = absurd there
      by (Some n) there = ⊎_elim
          (λ (e : l ≡ record { link = n; path = d.path; options = o }). or-false (lost (record { link = n; path = d.path; options = o })) ∙ ap lost (sym e))
          (λ none. absurd none) there

  cell-out : (c : Column) (v : Value) → In l (cell_links c.kind v) → In l (cell_links c.kind (cond (loses lost c v) values.Null v))
  cell-out c v is = subst (λ (b : Bool). In l (cell_links c.kind (cond b values.Null v))) (sym (single c.kind v is ∙ left)) is

  row-out : (cs : List Column) (vs : List Value) → In l (row_links cs vs) → In l (row_links cs (without_cells lost cs vs))
  row-out [] vs is = absurd is
  row-out (c ∷ cs) [] is = absurd is
  row-out (c ∷ cs) (v ∷ vs) is = ⊎_elim
      (λ (here : In l (cell_links c.kind v)). in-left (cell_links c.kind (cond (loses lost c v) values.Null v)) (row_links cs (without_cells lost cs vs)) l (cell-out c v here))
      (λ (later : In l (row_links cs vs)). in-right (cell_links c.kind (cond (loses lost c v) values.Null v)) (row_links cs (without_cells lost cs vs)) l (row-out cs vs later))
      (in-append (cell_links c.kind v) (row_links cs vs) l is)

  abbrev rows_without : List Column → List (ℕ × Row) → List (ℕ × Row)
  rows_without cs rows = map (λ r. (r.0, record { values = without_cells lost cs r.1.values })) rows

  rows-out : (cs : List Column) (rows : List (ℕ × Row)) → In l (flat_map (λ r. row_links cs r.1.values) rows) → In l (flat_map (λ r. row_links cs r.1.values) (rows_without cs rows))
  rows-out cs [] is = absurd is
  rows-out cs (r ∷ rs) is = ⊎_elim
      (λ (here : In l (row_links cs r.1.values)). in-left (row_links cs (without_cells lost cs r.1.values)) (flat_map (λ x. row_links cs x.1.values) (rows_without cs rs)) l (row-out cs r.1.values here))
      (λ (later : In l (flat_map (λ x. row_links cs x.1.values) rs)). in-right (row_links cs (without_cells lost cs r.1.values)) (flat_map (λ x. row_links cs x.1.values) (rows_without cs rs)) l (rows-out cs rs later))
      (in-append (row_links cs r.1.values) (flat_map (λ x. row_links cs x.1.values) rs) l is)

  pub left-in : (ts : Tables) → In l (links ts) → In l (links (without_lost lost ts))
  left-in [] is = absurd is
  left-in (t ∷ ts) is = ⊎_elim
      (λ (here : In l (table_links t.1)). in-left (flat_map (λ r. row_links t.1.columns r.1.values) (rows_without t.1.columns t.1.rows)) (links (without_lost lost ts)) l (rows-out t.1.columns t.1.rows here))
      (λ (later : In l (links ts)). in-right (flat_map (λ r. row_links t.1.columns r.1.values) (rows_without t.1.columns t.1.rows)) (links (without_lost lost ts)) l (left-in ts later))
      (in-append (table_links t.1) (links ts) l is)
