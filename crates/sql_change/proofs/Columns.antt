-- One column more of a CREATE TABLE.
use Rattle.std.proofs.Common.{◌≡◌, ◌||◌, ◌++◌, ℕ, Bool, true, false, List, [], ◌∷◌, map, reverse, bytes_eq, Result, Ok, Err, refl, sym, ap, ◌∙◌, append_assoc, drop, length, get_or, ◌<◌, ◌+◌}
use Rattle.std.specs.Prelude.{nat_lt}
use Rattle.std.specs.List.{list_any}
use Rattle.std.proofs.lemmas.List.{reverse-append, map_push, drop_more}
use Rattle.dl_base.specs.declared.column.Column.{Column}
use Rattle.dl_base.specs.declared.column.Kind.{Kind}
use Rattle.dl_base.specs.declared.sql_fault.SqlFault.{SqlFault}
use Rattle.dl_base.specs.declared.sql_fault.SqlFault.TheVariants as faults
use Rattle.dl_base.specs.declared.statement.ColumnDef.{ColumnDef}
use Rattle.meaning_sql.specs.Faults.{◌>>=◌, and_then}
use Rattle.meaning_statements.specs.Creating.{columns_made, kind_made, rules_fit, rule_made}
use Rattle.sql_change.proofs.Reversed.{any_named}

-- the columns so far, and what later definitions make behind them
abbrev pub made_of : List Column → Bool → List ColumnDef → Result (List Column) SqlFault
made_of made keyed defs = and_then (columns_made (reverse (map (λ c. c.name) made)) keyed defs) (λ cs. Ok (made ++ cs))

pub name_again : (made : List Column) (keyed : Bool) (d : ColumnDef) (ds : List ColumnDef)
    → list_any (λ c. bytes_eq d.name c.name) made ≡ true → made_of made keyed (d ∷ ds) ≡ Err (faults.Ambiguous d.name)
name_again made keyed d ds stood = rw (any_named (bytes_eq d.name) (λ (c : Column). c.name) made, stood) refl

pub bad_kind : (made : List Column) (keyed : Bool) (d : ColumnDef) (ds : List ColumnDef) (e : SqlFault)
    → list_any (λ c. bytes_eq d.name c.name) made ≡ false → kind_made d.name d.kind ≡ Err e → made_of made keyed (d ∷ ds) ≡ Err e
bad_kind made keyed d ds e new kind = rw (any_named (bytes_eq d.name) (λ (c : Column). c.name) made, new, kind) refl

pub bad_rules : (made : List Column) (keyed : Bool) (d : ColumnDef) (ds : List ColumnDef) (kind : Kind)
    → list_any (λ c. bytes_eq d.name c.name) made ≡ false → kind_made d.name d.kind ≡ Ok kind → rules_fit keyed d kind ≡ false → made_of made keyed (d ∷ ds) ≡ Err faults.BadOptions
bad_rules made keyed d ds kind new is fit = rw (any_named (bytes_eq d.name) (λ (c : Column). c.name) made, new, is, fit) refl

behind : (made : List Column) (c : Column) (later : Result (List Column) SqlFault) → (later >>= (λ cs. Ok (c ∷ cs)) >>= λ cs. Ok (made ++ cs)) ≡ (later >>= λ cs. Ok ((made ++ c ∷ []) ++ cs))
behind made c (Ok cs) = ap (λ (xs : List Column). Ok xs) (sym (append_assoc made (c ∷ []) cs))
behind made c (Err e) = refl

names_after : (made : List Column) (c : Column) → reverse (map (λ c. c.name) (made ++ c ∷ [])) ≡ c.name ∷ reverse (map (λ c. c.name) made)
names_after made c = ap (λ (ns : List (List ℕ)). reverse ns) (map_push (λ (c : Column). c.name) made c) ∙ reverse-append (map (λ (c : Column). c.name) made) (c.name ∷ [])

pub one_column : (made : List Column) (keyed : Bool) (d : ColumnDef) (ds : List ColumnDef) (kind : Kind) (c : Column)
    → list_any (λ c. bytes_eq d.name c.name) made ≡ false → kind_made d.name d.kind ≡ Ok kind → rules_fit keyed d kind ≡ true
    → c ≡ record { name = d.name; kind = kind; rule = rule_made d }
    → made_of (made ++ c ∷ []) (keyed || nat_lt 0 d.key) ds ≡ made_of made keyed (d ∷ ds)
one_column made keyed d ds kind c new is fit made_is =
    rw (any_named (bytes_eq d.name) (λ (c : Column). c.name) made, new, is, fit, names_after made c, made_is)
    (sym (behind made (record { name = d.name; kind = kind; rule = rule_made d }) (columns_made (d.name ∷ reverse (map (λ (c : Column). c.name) made)) (keyed || nat_lt 0 d.key) ds)))

-- the definition that is looked at, and the later ones
pub left : {A : Type 0} (items all : List A) (i : ℕ) (d : A) → items ≡ all → i < length items → d ≡ get_or items i d → drop i all ≡ d ∷ drop (i + 1) all
left items all i d same within is = rw (sym same) (drop_more items i d within ∙ ap (λ x. x ∷ drop (i + 1) items) (sym is))
