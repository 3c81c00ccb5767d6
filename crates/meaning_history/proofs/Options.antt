-- Links of columns that CREATE TABLE could have made have options of the seven rows.
use Rattle.std.proofs.Common.{◌≡◌, ◌⊎◌, inl, inr, ⊎_elim, ℕ, List, [], ◌∷◌, ◌++◌, length, map, Bool, true, false, not, ◌&&◌, ◌||◌, bytes_eq, nat_le, nat_lt, Option, Some, None, Result, Ok, Err, refl, ◌∙◌, ap}
use Rattle.std.specs.List.{flat_map, list_any}
use Rattle.dl_base.specs.declared.column.Column.{Column}
use Rattle.dl_base.specs.declared.column.Kind.{Kind}
use Rattle.dl_base.specs.declared.column.Kind.TheVariants as kinds
use Rattle.dl_base.specs.declared.sql_fault.SqlFault.{SqlFault}
use Rattle.dl_base.specs.declared.sql_fault.SqlFault.TheVariants as faults
use Rattle.dl_base.specs.declared.value.LinkNo.{LinkNo}
use Rattle.dl_base.specs.declared.value.LinkRow.{LinkRow}
use Rattle.dl_base.specs.declared.value.Row.{Row}
use Rattle.dl_base.specs.declared.value.Value.{Value}
use Rattle.dl_base.specs.declared.value.Value.TheVariants as values
use Rattle.meaning_areas.specs.Commits.{columns_stand, defined_kind, definition_of, is_made, keys}
use Rattle.meaning_merge.specs.History.{EachTable}
use Rattle.meaning_merge.specs.Touching.{In}
use Rattle.meaning_sql.specs.Faults.{ensure}
use Rattle.meaning_statements.specs.Creating.{columns_made, kind_made, rules_fit}
use Rattle.meaning_tables.specs.Links.{cell_links, link_row, links, row_links, table_links}
use Rattle.meaning_tables.specs.OptionRows.{is_option_row}
use Rattle.meaning_tables.specs.Tables.{Tables}
use Rattle.sql_invariants.proofs.Steps.{go_on, held}

false_true : false ≡ true → ⊥
false_true e = cc

both : (a b : Bool) → (a && b) ≡ true → (a ≡ true) × (b ≡ true)
both true b e = (refl, e)
both false b e = absurd (false_true e)

abbrev IsRow : LinkRow → Type 0
IsRow l = is_option_row l.options ≡ true

-- the options of a column under link control
abbrev HasRow : Kind → Type 0
HasRow kinds.Int = Unit {0}
HasRow (kinds.Text n) = Unit {0}
HasRow kinds.Free = Unit {0}
HasRow (kinds.Linked o) = is_option_row o ≡ true

abbrev HaveRow : List Column → Type 0
HaveRow [] = Unit {0}
HaveRow (c ∷ cs) = HasRow c.kind × HaveRow cs

kind-row : (name : List ℕ) (k kind : Kind) → kind_made name (defined_kind k) ≡ Ok kind → HasRow k
kind-row name kinds.Int kind e = tt
kind-row name (kinds.Text n) kind e = tt
kind-row name kinds.Free kind e = tt
kind-row name (kinds.Linked o) kind e = (both true (is_option_row o) (held (true && is_option_row o) (kinds.Linked o) kind faults.BadOptions e).test).1

made-rows : (seen : List (List ℕ)) (keyed : Bool) (cs made : List Column) → columns_made seen keyed (map definition_of cs) ≡ Ok made → HaveRow cs
made-rows seen keyed [] made is = tt
made-rows seen keyed (c ∷ cs) made is =
    go_on (ensure (not (list_any (bytes_eq c.name) seen)) (faults.Ambiguous c.name)) is λ u new is.
    go_on (kind_made c.name (defined_kind c.kind)) is λ kind is_kind is.
    go_on (ensure (rules_fit keyed (definition_of c) kind) faults.BadOptions) is λ v fit is.
    go_on (columns_made (c.name ∷ seen) (keyed || nat_lt 0 (keys c.rule)) (map definition_of cs)) is λ rest later is.
    (kind-row c.name c.kind kind is_kind, made-rows (c.name ∷ seen) (keyed || nat_lt 0 (keys c.rule)) cs rest later)

stand-rows : (cs : List Column) → columns_stand cs ≡ true → HaveRow cs
stand-rows cs e = by (columns_made [] false (map definition_of cs)) refl (both (nat_le (length cs) 64) (is_made (columns_made [] false (map definition_of cs))) e).1
  where
    by : (m : Result (List Column) SqlFault) → columns_made [] false (map definition_of cs) ≡ m → is_made m ≡ true → HaveRow cs
    by (Ok made) is e = made-rows [] false cs made is
    by (Err fault) is e = absurd (false_true e)

-- links of a row, of rows, of tables

split : (xs ys : List LinkRow) (l : LinkRow) → In l (xs ++ ys) → In l xs ⊎ In l ys
split [] ys l is = inr is
split (x ∷ xs) ys l is = ⊎_elim
    (λ (e : l ≡ x). inl (inl e))
    (λ (later : In l (xs ++ ys)). ⊎_elim (λ (a : In l xs). inl (inr a)) (λ (b : In l ys). inr b) (split xs ys l later))
    is

cell-row : (k : Kind) (v : Value) (l : LinkRow) → HasRow k → In l (cell_links k v) → IsRow l
cell-row kinds.Int v l row is = absurd is
cell-row (kinds.Text n) v l row is = absurd is
cell-row kinds.Free v l row is = absurd is
cell-row (kinds.Linked o) values.Null l row is = absurd is
cell-row (kinds.Linked o) (values.Int z) l row is = absurd is
cell-row (kinds.Linked o) (values.Text t) l row is = absurd is
cell-row (kinds.Linked o) (values.Link d) l row is = by d.link is
  where
    by : (n : Option LinkNo) → In l (link_row o d.path n) → IsRow l
    by None is = absurd is
    by (Some n) is = ⊎_elim (λ (e : l ≡ record { link = n; path = d.path; options = o }). ap (λ (x : LinkRow). is_option_row x.options) e ∙ row) (λ (none : ⊥). absurd none) is

row-row : (cs : List Column) (vs : List Value) (l : LinkRow) → HaveRow cs → In l (row_links cs vs) → IsRow l
row-row [] vs l rows is = absurd is
row-row (c ∷ cs) [] l rows is = absurd is
row-row (c ∷ cs) (v ∷ vs) l rows is = ⊎_elim (λ (a : In l (cell_links c.kind v)). cell-row c.kind v l rows.0 a) (λ (b : In l (row_links cs vs)). row-row cs vs l rows.1 b) (split (cell_links c.kind v) (row_links cs vs) l is)

rows-row : (cs : List Column) (rs : List (ℕ × Row)) (l : LinkRow) → HaveRow cs → In l (flat_map (λ r. row_links cs r.1.values) rs) → IsRow l
rows-row cs [] l rows is = absurd is
rows-row cs (r ∷ rs) l rows is = ⊎_elim (λ (a : In l (row_links cs r.1.values)). row-row cs r.1.values l rows a) (λ (b : In l (flat_map (λ x. row_links cs x.1.values) rs)). rows-row cs rs l rows b) (split (row_links cs r.1.values) (flat_map (λ x. row_links cs x.1.values) rs) l is)

pub link-rows : (ts : Tables) → EachTable ts (λ t. columns_stand t.1.columns ≡ true) → (l : LinkRow) → In l (links ts) → is_option_row l.options ≡ true
link-rows [] each l is = absurd is
link-rows (t ∷ ts) each l is = ⊎_elim (λ (a : In l (table_links t.1)). rows-row t.1.columns t.1.rows l (stand-rows t.1.columns each.0) a) (λ (b : In l (links ts)). link-rows ts each.1 l b) (split (table_links t.1) (links ts) l is)

pub in-parts : (xs ys : List LinkRow) (l : LinkRow) → In l (xs ++ ys) → In l xs ⊎ In l ys
in-parts = split
