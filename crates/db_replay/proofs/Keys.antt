-- The key of a row in columns with one key at most.
use Rattle.std.proofs.Common.{◌≡◌, ℕ, ◌&&◌, ◌||◌, Bool, true, false, not, cond, List, [], ◌∷◌, map, Some, is_none, refl, sym, ap, ◌∙◌}
use Rattle.std.specs.Cmp.Lexicographic.{pointwise}
use Rattle.std.specs.List.{list_all, list_any}
use Rattle.std.proofs.lemmas.Bool.{and_parts}
use Rattle.dl_base.specs.declared.column.Column.{Column}
use Rattle.dl_base.specs.declared.value.Row.{Row}
use Rattle.dl_base.specs.declared.value.Value.{Value}
use Rattle.meaning_tables.specs.First.{first_number, has_key}
use Rattle.meaning_tables.specs.Fits.{fits_columns, fits_kind, fits_rule, is_key, key_of, same_key}
use Rattle.meaning_statements.specs.Creating.{is_datalink}
use Rattle.meaning_statements.specs.Assigning.{is_plain}
use Rattle.db_replay.specs.Columns.{kind_stands, rule_stands, rules_stand}
use Rattle.db_replay.specs.Standing.{key_is_new}
use Rattle.db_replay.proofs.Bools.{and_true, or_false}

later : (keyed : Bool) (c : Column) (cs : List Column) → rules_stand keyed (c ∷ cs) ≡ true → (rule_stands keyed c ≡ true) × (rules_stand (keyed || is_key c.rule) cs ≡ true)
later keyed c cs stand =
    let parts = and_parts (kind_stands c.kind && rule_stands keyed c) (rules_stand (keyed || is_key c.rule) cs) stand in
    ((and_parts (kind_stands c.kind) (rule_stands keyed c) parts.0).1, parts.1)

-- behind a key column there is no key
none-behind : (cs : List Column) (vs : List Value) → rules_stand true cs ≡ true → key_of cs vs ≡ []
none-behind [] vs stand = refl
none-behind (c ∷ cs) [] stand = refl
none-behind (c ∷ cs) (v ∷ vs) stand =
    let parts = later true c cs stand in
    by (is_key c.rule) (and_parts (not (is_datalink c.kind && not (is_plain c.rule))) (not (is_key c.rule)) parts.0).1 (none-behind cs vs parts.1)
  where
    by : (k : Bool) → not k ≡ true → key_of cs vs ≡ [] → cond k (v ∷ key_of cs vs) (key_of cs vs) ≡ []
    by true e none = cc e
    by false e none = none

pub no_key : (cs : List Column) (vs : List Value) → list_any (λ c. is_key c.rule) cs ≡ false → key_of cs vs ≡ []
no_key [] vs none = refl
no_key (c ∷ cs) [] none = refl
no_key (c ∷ cs) (v ∷ vs) none = by (is_key c.rule) none (λ e. no_key cs vs e)
  where
    by : (k : Bool) → (k || list_any (λ c. is_key c.rule) cs) ≡ false → (list_any (λ c. is_key c.rule) cs ≡ false → key_of cs vs ≡ []) → cond k (v ∷ key_of cs vs) (key_of cs vs) ≡ []
    by true e go = cc e
    by false e go = go e

pub one_key : (cs : List Column) (vs : List Value) → rules_stand false cs ≡ true → list_any (λ c. is_key c.rule) cs ≡ true → fits_columns cs vs ≡ true → (v : Value) × (key_of cs vs ≡ v ∷ [])
one_key [] vs stand has fit = cc has
one_key (c ∷ cs) [] stand has fit = cc fit
one_key (c ∷ cs) (v ∷ vs) stand has fit = by (is_key c.rule) has (later false c cs stand).1 (λ s h. one_key cs vs s h (and_parts (fits_kind c.kind v && fits_rule c.rule v) (fits_columns cs vs) fit).1)
  where
    by : (k : Bool) → (k || list_any (λ c. is_key c.rule) cs) ≡ true → rules_stand k cs ≡ true → (rules_stand false cs ≡ true → list_any (λ c. is_key c.rule) cs ≡ true → (w : Value) × (key_of cs vs ≡ w ∷ []))
        → (w : Value) × (cond k (v ∷ key_of cs vs) (key_of cs vs) ≡ w ∷ [])
    by true h s go = (v, ap (λ (ks : List Value). v ∷ ks) (none-behind cs vs s))
    by false h s go = go s h

pub none_first : (test : Row → Bool) (rows : List (ℕ × Row)) → is_none (first_number test rows) ≡ not (list_any (λ r. test r.1) rows)
none_first test [] = refl
none_first test (r ∷ rs) = by (test r.1) (none_first test rs)
  where
    by : (b : Bool) → is_none (first_number test rs) ≡ not (list_any (λ r. test r.1) rs) → is_none (cond b (Some r.0) (first_number test rs)) ≡ not (b || list_any (λ r. test r.1) rs)
    by true e = refl
    by false e = e

one-same : (v w : Value) (ks : List Value) → ks ≡ w ∷ [] → list_any (same_key v) ks ≡ pointwise same_key (v ∷ []) ks
one-same v w ks is = rw is (or_false (same_key v w) ∙ sym (and_true (same_key v w)))

module _ (cs : List Column) (stand : rules_stand false cs ≡ true) (has : list_any (λ c. is_key c.rule) cs ≡ true) where
  among-rows : (v : Value) (rows : List (ℕ × Row)) → list_all (λ r. fits_columns cs r.1.values) rows ≡ true → list_any (λ r. has_key cs v r.1) rows ≡ list_any (pointwise same_key (v ∷ [])) (map (λ r. key_of cs r.1.values) rows)
  among-rows v [] fit = refl
  among-rows v (r ∷ rs) fit =
      let parts = and_parts (fits_columns cs r.1.values) (list_all (λ r. fits_columns cs r.1.values) rs) fit in
      let key = one_key cs r.1.values stand has parts.0 in
      ap (λ b. b || list_any (λ r. has_key cs v r.1) rs) (one-same v key.0 (key_of cs r.1.values) key.1)
      ∙ ap (λ b. pointwise same_key (v ∷ []) (key_of cs r.1.values) || b) (among-rows v rs parts.1)

  -- among rows that fit, a key is new where no row has the same
  pub new_key : (vs : List Value) (rows : List (ℕ × Row)) → fits_columns cs vs ≡ true → list_all (λ r. fits_columns cs r.1.values) rows ≡ true
      → key_is_new cs rows vs ≡ not (list_any (pointwise same_key (key_of cs vs)) (map (λ r. key_of cs r.1.values) rows))
  new_key vs rows fit all =
      let key = one_key cs vs stand has fit in
      ap (λ (ks : List Value). list_all (λ v. is_none (first_number (has_key cs v) rows)) ks) key.1
      ∙ and_true (is_none (first_number (has_key cs key.0) rows))
      ∙ none_first (has_key cs key.0) rows
      ∙ ap (λ b. not b) (among-rows key.0 rows all)
      ∙ ap (λ (ks : List Value). not (list_any (pointwise same_key ks) (map (λ r. key_of cs r.1.values) rows))) (sym key.1)
