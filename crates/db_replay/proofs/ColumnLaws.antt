-- What CREATE TABLE makes of the definitions that columns have, and the one key among them.
use Rattle.std.proofs.Common.{◌≡◌, ℕ, ◌+◌, ◌&&◌, ◌||◌, Bool, true, false, not, cond, List, [], ◌∷◌, length, map, bytes_eq, nat_le, nat_lt, Result, Ok, Err, refl, sym, ap, ◌∙◌}
use Rattle.std.specs.Cmp.Lexicographic.{nat_list_eq_equiv}
use Rattle.std.specs.List.{list_any}
use Rattle.std.proofs.lemmas.Bool.{and_parts}
use Rattle.dl_base.specs.declared.column.Column.{Column}
use Rattle.dl_base.specs.declared.column.ColumnRule.{ColumnRule}
use Rattle.dl_base.specs.declared.column.ColumnRule.TheVariants as rules
use Rattle.dl_base.specs.declared.column.Kind.{Kind}
use Rattle.dl_base.specs.declared.column.Kind.TheVariants as kinds
use Rattle.dl_base.specs.declared.sql_fault.SqlFault.{SqlFault}
use Rattle.dl_base.specs.declared.sql_fault.SqlFault.TheVariants as faults
use Rattle.dl_base.specs.declared.statement.ColumnDef.{ColumnDef}
use Rattle.meaning_areas.specs.Commits.{columns_stand, defined_kind, definition_of, is_made, keys, not_nulls}
use Rattle.meaning_sql.specs.Faults.{◌>>=◌, ensure}
use Rattle.meaning_statements.specs.Creating.{columns_made, is_datalink, kind_made, rule_made, rules_fit}
use Rattle.meaning_tables.specs.Fits.{differ, is_key}
use Rattle.meaning_tables.specs.OptionRows.{is_option_row}
use Rattle.meaning_statements.specs.Assigning.{is_plain}
use Rattle.db_replay.specs.Columns.{kind_stands, rule_stands, rules_stand}
use Rattle.db_replay.proofs.Bools.{joined}
use Rattle.db_replay.proofs.Differ.{fresh, fresh_all}

flags : (d keyed : Bool) (rule : ColumnRule)
    → (nat_le (not_nulls rule) 1 && nat_le (keys rule) 1 && not (d && nat_lt 0 (not_nulls rule + keys rule)) && not (keyed && nat_lt 0 (keys rule))) ≡ (not (d && not (is_plain rule)) && not (keyed && is_key rule))
flags true true rules.Plain = refl
flags true true rules.NotNull = refl
flags true true rules.Key = refl
flags true false rules.Plain = refl
flags true false rules.NotNull = refl
flags true false rules.Key = refl
flags false true rules.Plain = refl
flags false true rules.NotNull = refl
flags false true rules.Key = refl
flags false false rules.Plain = refl
flags false false rules.NotNull = refl
flags false false rules.Key = refl

rest-made : (rest : Result (List Column) SqlFault) (c : Column) → is_made (rest >>= λ cs. Ok (c ∷ cs)) ≡ is_made rest
rest-made (Ok cs) c = refl
rest-made (Err e) c = refl

key-after : (rule : ColumnRule) → nat_lt 0 (keys rule) ≡ is_key rule
key-after rules.Plain = refl
key-after rules.NotNull = refl
key-after rules.Key = refl

module _ (name : List ℕ) (keyed : Bool) (rule : ColumnRule) (rest : Result (List Column) SqlFault) where
  abbrev of : Kind → ColumnDef
  of kind = record { name = name; kind = defined_kind kind; not_null = not_nulls rule; key = keys rule }

  abbrev column : Kind → Kind → Column
  column kind k = record { name = name; kind = k; rule = rule_made (of kind) }

  abbrev behind_kind : Kind → Kind → Result (List Column) SqlFault
  behind_kind kind k = ensure (rules_fit keyed (of kind) k) faults.BadOptions >>= λ v. rest >>= λ cs. Ok (column kind k ∷ cs)

  behind : (kind k : Kind) → is_made (behind_kind kind k) ≡ ((not (is_datalink k && not (is_plain rule)) && not (keyed && is_key rule)) && is_made rest)
  behind kind k = ap (λ b. is_made (ensure b faults.BadOptions >>= λ v. rest >>= λ cs. Ok (column kind k ∷ cs))) (flags (is_datalink k) keyed rule) ∙ by (not (is_datalink k && not (is_plain rule)) && not (keyed && is_key rule))
    where
      by : (b : Bool) → is_made (ensure b faults.BadOptions >>= λ v. rest >>= λ cs. Ok (column kind k ∷ cs)) ≡ (b && is_made rest)
      by true = rest-made rest (column kind k)
      by false = refl

  with_kind : (kind : Kind) → is_made (kind_made name (defined_kind kind) >>= λ k. behind_kind kind k) ≡ (kind_stands kind && ((not (is_datalink kind && not (is_plain rule)) && not (keyed && is_key rule)) && is_made rest))
  with_kind kinds.Int = behind kinds.Int kinds.Int
  with_kind kinds.Free = behind kinds.Free kinds.Free
  with_kind (kinds.Text most) = by (nat_lt 0 most && nat_le most 4000)
    where
      by : (b : Bool) → is_made (cond b (Ok (kinds.Text most)) (Err (faults.TooLong name)) >>= λ k. behind_kind (kinds.Text most) k) ≡ (b && ((not (is_datalink (kinds.Text most) && not (is_plain rule)) && not (keyed && is_key rule)) && is_made rest))
      by true = behind (kinds.Text most) (kinds.Text most)
      by false = refl
  with_kind (kinds.Linked options) = by (is_option_row options)
    where
      by : (b : Bool) → is_made (cond b (Ok (kinds.Linked options)) (Err faults.BadOptions) >>= λ k. behind_kind (kinds.Linked options) k) ≡ (b && ((not (is_datalink (kinds.Linked options) && not (is_plain rule)) && not (keyed && is_key rule)) && is_made rest))
      by true = behind (kinds.Linked options) (kinds.Linked options)
      by false = refl

abbrev behind_it : List (List ℕ) → Bool → Column → List Column → Result (List Column) SqlFault
behind_it seen keyed c cs = columns_made (c.name ∷ seen) (keyed || nat_lt 0 (keys c.rule)) (map definition_of cs)

made-is : (seen : List (List ℕ)) (keyed : Bool) (cs : List Column) → is_made (columns_made seen keyed (map definition_of cs)) ≡ (fresh bytes_eq seen (map (λ c. c.name) cs) && rules_stand keyed cs)
made-is seen keyed [] = refl
made-is seen keyed (c ∷ cs) =
    by (not (list_any (bytes_eq c.name) seen))
    ∙ ap (λ b. not (list_any (bytes_eq c.name) seen) && (kind_stands c.kind && (rule_stands keyed c && b))) (ap (λ k. is_made (columns_made (c.name ∷ seen) (keyed || k) (map definition_of cs))) (key-after c.rule) ∙ made-is (c.name ∷ seen) (keyed || is_key c.rule) cs)
    ∙ order (not (list_any (bytes_eq c.name) seen)) (kind_stands c.kind) (rule_stands keyed c) (fresh bytes_eq (c.name ∷ seen) (map (λ c. c.name) cs)) (rules_stand (keyed || is_key c.rule) cs)
  where
    by : (b : Bool) → is_made (ensure b (faults.Ambiguous c.name) >>= λ u. kind_made c.name (defined_kind c.kind) >>= λ k. behind_kind c.name keyed c.rule (behind_it seen keyed c cs) c.kind k) ≡ (b && (kind_stands c.kind && (rule_stands keyed c && is_made (behind_it seen keyed c cs))))
    by true = with_kind c.name keyed c.rule (behind_it seen keyed c cs) c.kind
    by false = refl

    order : (a k r f s : Bool) → (a && (k && (r && (f && s)))) ≡ ((a && f) && ((k && r) && s))
    order false k r f s = refl
    order true true r true s = refl
    order true false r true s = refl
    order true true true false s = refl
    order true true false false s = refl
    order true false r false s = refl

pub columns_stand_is : (cs : List Column) → ((nat_le (length cs) 64 && differ bytes_eq (map (λ c. c.name) cs)) && rules_stand false cs) ≡ columns_stand cs
columns_stand_is cs =
    sym (joined (nat_le (length cs) 64) (differ bytes_eq (map (λ c. c.name) cs)) (rules_stand false cs))
    ∙ ap (λ b. nat_le (length cs) 64 && (b && rules_stand false cs)) (sym (fresh_all bytes_eq nat_list_eq_equiv.symm (map (λ c. c.name) cs)))
    ∙ ap (λ b. nat_le (length cs) 64 && b) (sym (made-is [] false cs))

-- what columns that stand say of rules
pub rules_of : (cs : List Column) → columns_stand cs ≡ true → rules_stand false cs ≡ true
rules_of cs stand = (and_parts (nat_le (length cs) 64 && differ bytes_eq (map (λ c. c.name) cs)) (rules_stand false cs) (columns_stand_is cs ∙ stand)).1
