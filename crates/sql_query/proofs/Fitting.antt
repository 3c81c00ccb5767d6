-- Where the rows of tables fit, those of the sources do.
use Rattle.std.proofs.Common.{◌≡◌, ◌==◌, ℕ, Bool, true, false, cond, List, [], ◌∷◌, length, Option, Some, None, Result, Ok, Err, refl, subst}
use Rattle.std.specs.Prelude.{map, nat_le}
use Rattle.std.specs.Cmp.Lexicographic.{pointwise}
use Rattle.std.proofs.lemmas.Bool.{and_parts}
use Rattle.dl_base.specs.Limits.{most_sources}
use Rattle.dl_base.specs.declared.answer.Limit.TheVariants as limits
use Rattle.dl_base.specs.declared.sql_fault.SqlFault.{SqlFault}
use Rattle.dl_base.specs.declared.sql_fault.SqlFault.TheVariants as faults
use Rattle.dl_base.specs.declared.statement.TableRef.{TableRef}
use Rattle.meaning_sql.specs.Faults.{◌>>=◌, ensure}
use Rattle.meaning_statements.specs.Sources.{Source, present, source_name, apart, sources_of}
use Rattle.meaning_tables.specs.Fits.{RowsFit, rows_fit, table_fits}
use Rattle.meaning_tables.specs.Tables.{Rows, Tables, table_of}
use Rattle.sql_join.specs.Sources.{sources_found}
use Rattle.sql_join.specs.Walking.{AllFit}

-- the table of a name
found_fits : (tables : Tables) (name : List ℕ) (t : Rows) → RowsFit tables → table_of tables name ≡ Some t → table_fits t ≡ true
found_fits [] name t fit is = absurd (cc is)
found_fits (e ∷ es) name t fit is = by (pointwise ◌==◌ name e.0) is (and_parts (table_fits e.1) (rows_fit es) fit) (found_fits es name t)
  where
    by : (b : Bool) → cond b (Some e.1) (table_of es name) ≡ Some t → (table_fits e.1 ≡ true) × (rows_fit es ≡ true) → (RowsFit es → table_of es name ≡ Some t → table_fits t ≡ true) → table_fits t ≡ true
    by true is both later = subst (λ (x : Rows). table_fits x ≡ true) (one e.1 t is) both.0
      where
        one : (a b : Rows) → Some a ≡ Some b → a ≡ b
        one a b e = cc e
    by false is both later = later both.1 is

abbrev ok : List Source → Result (List Source) SqlFault
ok sources = Ok sources

one : (a b : List Source) → ok a ≡ ok b → a ≡ b
one a b e = cc e

module _ (tables : Tables) (fit : RowsFit tables) where
  abbrev kept : TableRef → Rows → Source
  kept r t = record { name = source_name r; table = t }

  -- a source and those after it
  more_fit : (r : TableRef) (found : Option Rows) (rest : Result (List Source) SqlFault) (sources : List Source) → ((t : Rows) → found ≡ Some t → table_fits t ≡ true) → ((others : List Source) → rest ≡ Ok others → AllFit others)
      → ((present r.table found >>= λ t. Ok (kept r t)) >>= λ s. rest >>= λ others. Ok (s ∷ others)) ≡ Ok sources → AllFit sources
  more_fit r None rest sources h k is = absurd (cc is)
  more_fit r (Some t) (Err e) sources h k is = absurd (cc is)
  more_fit r (Some t) (Ok others) sources h k is = subst AllFit (one (kept r t ∷ others) sources is) (h t refl, k others refl)

  all_fit : (from : List TableRef) (sources : List Source) → sources_found tables from ≡ Ok sources → AllFit sources
  all_fit [] sources is = subst AllFit (one [] sources is) tt
  all_fit (r ∷ rs) sources is = more_fit r (table_of tables r.table) (sources_found tables rs) sources (λ t e. found_fits tables r.table t fit e) (all_fit rs) is

  then_same : (m : Result (List Source) SqlFault) (few different : Result Bool SqlFault) (sources : List Source) → (m >>= λ s. few >>= λ a. different >>= λ b. Ok s) ≡ Ok sources → m ≡ Ok sources
  then_same (Err e) few different sources is = absurd (cc is)
  then_same (Ok s) (Err e) different sources is = absurd (cc is)
  then_same (Ok s) (Ok a) (Err e) sources is = absurd (cc is)
  then_same (Ok s) (Ok a) (Ok b) sources is = is

  pub sources_fit : (from : List TableRef) (sources : List Source) → sources_of tables from ≡ Ok sources → AllFit sources
  sources_fit from sources is = all_fit from sources (then_same (sources_found tables from) (ensure (nat_le (length from) most_sources) (faults.Limit limits.From)) (apart [] (map (λ r. source_name r) from)) sources is)
