-- Columns that CREATE TABLE made could be made again.
use Rattle.std.proofs.Common.{◌≡◌, ◌+◌, ◌&&◌, ◌||◌, ℕ, suc, pos, negsuc, Bool, true, false, not, cond, List, [], ◌∷◌, map, length, bytes_eq, nat_le, nat_lt, Result, Ok, Err, refl, ap, ◌∙◌, subst, arith}
use Rattle.std.specs.List.{list_any}
use Rattle.std.proofs.lemmas.Bool.Decides.{nat_tests}
use Rattle.dl_base.specs.declared.column.Column.{Column}
use Rattle.dl_base.specs.declared.column.ColumnRule.{ColumnRule}
use Rattle.dl_base.specs.declared.column.ColumnRule.TheVariants as rules
use Rattle.dl_base.specs.declared.column.Kind.{Kind}
use Rattle.dl_base.specs.declared.column.Kind.TheVariants as kinds
use Rattle.dl_base.specs.declared.column.Options.{Options}
use Rattle.dl_base.specs.declared.sql_fault.SqlFault.{SqlFault}
use Rattle.dl_base.specs.declared.sql_fault.SqlFault.TheVariants as faults
use Rattle.dl_base.specs.declared.statement.ColumnDef.{ColumnDef}
use Rattle.dl_base.specs.declared.statement.KindDef.{KindDef}
use Rattle.dl_base.specs.declared.statement.KindDef.TheVariants as defs
use Rattle.meaning_areas.specs.Commits.{defined_kind, not_nulls, keys, definition_of, is_made, columns_stand}
use Rattle.meaning_sql.specs.Faults.{◌>>=◌, ensure}
use Rattle.meaning_statements.specs.Creating.{is_all, kind_made, is_datalink, rules_fit, rule_made, columns_made}
use Rattle.meaning_tables.specs.OptionRows.{is_option_row}
use Rattle.sql_invariants.proofs.Steps.{go_on, given, held, ok}

false_true : false ≡ true → ⊥
false_true e = cc

both : (a b : Bool) → (a && b) ≡ true → (a ≡ true) × (b ≡ true)
both true b e = (refl, e)
both false b e = absurd (false_true e)

two : (a b : Bool) → a ≡ true → b ≡ true → (a && b) ≡ true
two true b e f = f
two false b e f = absurd (false_true e)

-- kinds

again_options : (name : List ℕ) (a : Bool) (o : Options) (kind : Kind) → (a && is_option_row o) ≡ true → kinds.Linked o ≡ kind → kind_made name (defined_kind kind) ≡ Ok kind
again_options name a o kind e is = subst (λ k. kind_made name (defined_kind k) ≡ Ok k) is (ap (λ b. cond b (ok (kinds.Linked o)) (Err faults.BadOptions)) (both a (is_option_row o) e).1)

again_text : (name : List ℕ) (n : ℕ) (kind : Kind) → (nat_lt 0 n && nat_le n 4000) ≡ true → kinds.Text n ≡ kind → kind_made name (defined_kind kind) ≡ Ok kind
again_text name n kind e is = subst (λ k. kind_made name (defined_kind k) ≡ Ok k) is (ap (λ b. cond b (ok (kinds.Text n)) (Err (faults.TooLong name))) e)

kind-again : (name : List ℕ) (k : KindDef) (kind : Kind) → kind_made name k ≡ Ok kind → kind_made name (defined_kind kind) ≡ Ok kind
kind-again name defs.Integer kind is = subst (λ k. kind_made name (defined_kind k) ≡ Ok k) (given kinds.Int kind is) refl
kind-again name (defs.Varchar (pos n)) kind is =
    let one = held (nat_lt 0 n && nat_le n 4000) (kinds.Text n) kind (faults.TooLong name) is in
    again_text name n kind one.test one.same
kind-again name (defs.Varchar (negsuc n)) kind is = absurd (cc)
kind-again name defs.Free kind is = subst (λ k. kind_made name (defined_kind k) ≡ Ok k) (given kinds.Free kind is) refl
kind-again name defs.Db2 kind is = subst (λ k. kind_made name (defined_kind k) ≡ Ok k) (given _ kind is) refl
kind-again name (defs.Chosen kept r w recovery u) kind is =
    let o : Options = record { read = r; write = w; recovery = recovery; unlink = u } in
    let one = held (is_all kept && is_option_row o) (kinds.Linked o) kind faults.BadOptions is in
    again_options name (is_all kept) o kind one.test one.same

-- rules: how often each is written

abbrev fit : Bool → ℕ → ℕ → Bool → Bool
fit keyed n k datalink = nat_le n 1 && nat_le k 1 && not (datalink && nat_lt 0 (n + k)) && not (keyed && nat_lt 0 k)

abbrev made : ℕ → ℕ → ColumnRule
made n k = cond (nat_lt 0 k) rules.Key (cond (nat_lt 0 n) rules.NotNull rules.Plain)

key-again : (n k : ℕ) → nat_lt 0 (keys (made n k)) ≡ nat_lt 0 k
key-again n k = by (nat_lt 0 k) (nat_lt 0 n)
  where
    by : (a b : Bool) → nat_lt 0 (keys (cond a rules.Key (cond b rules.NotNull rules.Plain))) ≡ a
    by true b = refl
    by false true = refl
    by false false = refl

sum-again : (n k : ℕ) → nat_lt 0 (not_nulls (made n k) + keys (made n k)) ≡ nat_lt 0 (n + k)
sum-again n k = by (nat_lt 0 k) (nat_lt 0 n) refl refl
  where
    some_key : nat_lt 0 k ≡ true → true ≡ nat_lt 0 (n + k)
    some_key e = grind (arith, nat_tests)

    some_null : nat_lt 0 n ≡ true → true ≡ nat_lt 0 (n + k)
    some_null e = grind (arith, nat_tests)

    no_rule : nat_lt 0 k ≡ false → nat_lt 0 n ≡ false → false ≡ nat_lt 0 (n + k)
    no_rule e f = grind (arith, nat_tests)

    by : (a b : Bool) → nat_lt 0 k ≡ a → nat_lt 0 n ≡ b → nat_lt 0 (not_nulls (cond a rules.Key (cond b rules.NotNull rules.Plain)) + keys (cond a rules.Key (cond b rules.NotNull rules.Plain))) ≡ nat_lt 0 (n + k)
    by true b e f = some_key e
    by false true e f = some_null f
    by false false e f = no_rule e f

rule-again : (n k : ℕ) → made (not_nulls (made n k)) (keys (made n k)) ≡ made n k
rule-again n k = by (nat_lt 0 k) (nat_lt 0 n)
  where
    by : (a b : Bool) → made (not_nulls (cond a rules.Key (cond b rules.NotNull rules.Plain))) (keys (cond a rules.Key (cond b rules.NotNull rules.Plain))) ≡ cond a rules.Key (cond b rules.NotNull rules.Plain)
    by true b = refl
    by false true = refl
    by false false = refl

few-nulls : (r : ColumnRule) → nat_le (not_nulls r) 1 ≡ true
few-nulls rules.Plain = refl
few-nulls rules.NotNull = refl
few-nulls rules.Key = refl

few-keys : (r : ColumnRule) → nat_le (keys r) 1 ≡ true
few-keys rules.Plain = refl
few-keys rules.NotNull = refl
few-keys rules.Key = refl

fit-again : (keyed : Bool) (n k : ℕ) (datalink : Bool) → fit keyed n k datalink ≡ true → fit keyed (not_nulls (made n k)) (keys (made n k)) datalink ≡ true
fit-again keyed n k datalink e =
    let one = both (nat_le n 1 && nat_le k 1 && not (datalink && nat_lt 0 (n + k))) (not (keyed && nat_lt 0 k)) e in
    let more = both (nat_le n 1 && nat_le k 1) (not (datalink && nat_lt 0 (n + k))) one.0 in
    two (nat_le (not_nulls (made n k)) 1 && nat_le (keys (made n k)) 1 && not (datalink && nat_lt 0 (not_nulls (made n k) + keys (made n k)))) (not (keyed && nat_lt 0 (keys (made n k))))
    (two (nat_le (not_nulls (made n k)) 1 && nat_le (keys (made n k)) 1) (not (datalink && nat_lt 0 (not_nulls (made n k) + keys (made n k))))
    (two (nat_le (not_nulls (made n k)) 1) (nat_le (keys (made n k)) 1) (few-nulls (made n k)) (few-keys (made n k)))
    (ap (λ b. not (datalink && b)) (sum-again n k) ∙ more.1))
    (ap (λ b. not (keyed && b)) (key-again n k) ∙ one.1)

-- columns

record Again (seen : List (List ℕ)) (keyed : Bool) (ds : List ColumnDef) (cs : List Column) : Type 0 where
  made_so : columns_made seen keyed (map definition_of cs) ≡ Ok cs
  as_many : length cs ≡ length ds

ensured : (b : Bool) (fault : SqlFault) → b ≡ true → ensure b fault ≡ Ok true
ensured b fault e = ap (λ x. cond x (ok true) (Err fault)) e

steps : {A B : Type 0} (m : Result A SqlFault) (x : A) (f : A → Result B SqlFault) (y : B) → m ≡ Ok x → f x ≡ Ok y → (m >>= f) ≡ Ok y
steps m x f y e g = ap (λ o. o >>= f) e ∙ g

columns-again : (seen : List (List ℕ)) (keyed : Bool) (ds : List ColumnDef) (cs : List Column) → columns_made seen keyed ds ≡ Ok cs → Again seen keyed ds cs
columns-again seen keyed [] cs is = subst (λ (xs : List Column). Again seen keyed [] xs) (given _ cs is) (record { made_so = refl; as_many = refl })
columns-again seen keyed (d ∷ ds) cs is =
    go_on (ensure (not (list_any (bytes_eq d.name) seen)) (faults.Ambiguous d.name)) is λ u new is.
    go_on (kind_made d.name d.kind) is λ kind is_kind is.
    go_on (ensure (rules_fit keyed d kind) faults.BadOptions) is λ v fits is.
    go_on (columns_made (d.name ∷ seen) (keyed || nat_lt 0 d.key) ds) is λ rest later is.
    let more = columns-again (d.name ∷ seen) (keyed || nat_lt 0 d.key) ds rest later in
    let c : Column = record { name = d.name; kind = kind; rule = rule_made d } in
    subst (λ (xs : List Column). Again seen keyed (d ∷ ds) xs) (given _ cs is) (record {
      made_so =
          steps (ensure (not (list_any (bytes_eq d.name) seen)) (faults.Ambiguous d.name)) true _ (c ∷ rest) (ensured (not (list_any (bytes_eq d.name) seen)) (faults.Ambiguous d.name) (held (not (list_any (bytes_eq d.name) seen)) true u (faults.Ambiguous d.name) new).test)
          (steps (kind_made d.name (defined_kind kind)) kind _ (c ∷ rest) (kind-again d.name d.kind kind is_kind)
          (steps (ensure (rules_fit keyed (definition_of c) kind) faults.BadOptions) true _ (c ∷ rest) (ensured (rules_fit keyed (definition_of c) kind) faults.BadOptions (fit-again keyed d.not_null d.key (is_datalink kind) (held (rules_fit keyed d kind) true v faults.BadOptions fits).test))
          (steps (columns_made (d.name ∷ seen) (keyed || nat_lt 0 (keys (rule_made d))) (map definition_of rest)) rest _ (c ∷ rest)
          (ap (λ b. columns_made (d.name ∷ seen) (keyed || b) (map definition_of rest)) (key-again d.not_null d.key) ∙ more.made_so)
          (ap (λ r. ok (record { name = d.name; kind = kind; rule = r } ∷ rest)) (rule-again d.not_null d.key)))));
      as_many = ap (λ n. suc n) more.as_many;
    })

pub columns-stand : (ds : List ColumnDef) (cs : List Column) → nat_le (length ds) 64 ≡ true → columns_made [] false ds ≡ Ok cs → columns_stand cs ≡ true
columns-stand ds cs few is =
    let again = columns-again [] false ds cs is in
    two (nat_le (length cs) 64) (is_made (columns_made [] false (map definition_of cs))) (ap (λ n. nat_le n 64) again.as_many ∙ few) (ap is_made again.made_so)
