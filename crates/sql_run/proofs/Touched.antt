-- Which rows a statement touched, from what a change tells.
use Rattle.std.proofs.Common.{◌≡◌, ◌≢◌, ℕ, Bool, false, List, [], length, Some, Result, Ok, Err, IfOk, IfErr, OnErr, refl, subst, sym, ap, ◌∙◌}
use Rattle.dl_base.specs.declared.sql_fault.SqlFault.{SqlFault}
use Rattle.dl_base.specs.declared.sql_fault.SqlFault.TheVariants as faults
use Rattle.dl_base.specs.declared.statement.Stmt.{Stmt}
use Rattle.meaning_sql.specs.declared.Context.{Context}
use Rattle.meaning_statements.specs.Changing.{change}
use Rattle.meaning_tables.specs.Tables.{Rows, Tables, row_of, table_of}
use Rattle.sql_change.specs.declared.changing.Changed.{Changed as Told}
use Rattle.sql_rows.specs.Beside.{AgreeBeside}
use Rattle.sql_run.specs.declared.evaluating.Evaluation.{Evaluation}
use Rattle.sql_run.specs.declared.evaluating.Outcome.{Outcome}
use Rattle.sql_run.specs.declared.evaluating.Outcome.TheVariants as outcomes
use Rattle.sql_run.specs.Outcomes.{after_change, count_of, counted, done, rows_changed, touched_of}

some_same : (x y : Rows) → Some x ≡ Some y → x ≡ y
some_same x y same = cc same

pub none_beside : (numbers : List ℕ) (tables after : Tables) → after ≡ tables → AgreeBeside numbers tables after
none_beside numbers tables after same = λ name before now was is n none.
    ap (λ (t : Rows). row_of t.rows n) (some_same now before (sym is ∙ ap (λ (ts : Tables). table_of ts name) same ∙ was))

pub unchanged_beside : {M : Type 0} (tables : Tables) (e : Result Evaluation M) → IfOk e (λ m. AgreeBeside m.touched tables tables)
unchanged_beside tables (Ok m) = none_beside m.touched tables tables refl
unchanged_beside tables (Err w) = tt

moved : (numbers told : List ℕ) (tables after : Tables) → told ≡ numbers → AgreeBeside numbers tables after → AgreeBeside told tables after
moved numbers told tables after same beside = subst (λ (ns : List ℕ). AgreeBeside ns tables after) (sym same) beside

module _ (tables after : Tables) (k next : ℕ) (r : Result Told SqlFault) where
  abbrev Stays : Type 0
  Stays = (after ≡ tables) × (next ≡ k)

  told_beside : (touched : List ℕ) → IfOk r (λ m. AgreeBeside m.touched tables after) → OnErr r Stays → touched ≡ touched_of r → AgreeBeside touched tables after
  told_beside touched beside same is = by r beside same is
    where
      by : (r : Result Told SqlFault) → IfOk r (λ m. AgreeBeside m.touched tables after) → OnErr r Stays → touched ≡ touched_of r → AgreeBeside touched tables after
      by (Ok m) beside same is = moved m.touched touched tables after is beside
      by (Err e) beside same is = none_beside touched tables after same.0

  pub beside_of : {M : Type 0} (e : Result Evaluation M) → IfOk r (λ m. AgreeBeside m.touched tables after) → OnErr r Stays → IfOk e (λ m. m.touched ≡ touched_of r) → IfOk e (λ m. AgreeBeside m.touched tables after)
  beside_of (Ok m) beside same is = told_beside m.touched beside same is
  beside_of (Err w) beside same is = tt

  pub stays : {M : Type 0} (e : Result Evaluation M) → OnErr r Stays → OnErr e (r ≡ Err faults.Memory) → OnErr e Stays
  stays (Ok m) same memory = tt
  stays (Err w) same memory = subst (λ (x : Result Told SqlFault). OnErr x Stays) memory same

  pub exact_of : {M : Type 0} (stmt : Stmt) (context : Context) (tell : Result ℕ SqlFault → Outcome) (e : Result Evaluation M)
      → IfOk r (λ m. change tables stmt context k ≡ Ok (record { tables = after; next = next; count = m.count })) → IfErr r (λ f. f ≢ faults.Memory → change tables stmt context k ≡ Err f) → OnErr r Stays
      → IfOk e (λ m. m.outcome ≡ tell (count_of r)) → IfOk e (λ m. r ≢ Err faults.Memory) → IfOk e (λ m. after_change tables k tell (change tables stmt context k) ≡ record { outcome = m.outcome; tables = after; next = next })
  exact_of stmt context tell (Err w) ok refused same told other = tt
  exact_of stmt context tell (Ok m) ok refused same told other = by r ok refused same told other
    where
      by : (r : Result Told SqlFault) → IfOk r (λ m. change tables stmt context k ≡ Ok (record { tables = after; next = next; count = m.count })) → IfErr r (λ f. f ≢ faults.Memory → change tables stmt context k ≡ Err f) → OnErr r Stays
          → m.outcome ≡ tell (count_of r) → r ≢ Err faults.Memory → after_change tables k tell (change tables stmt context k) ≡ record { outcome = m.outcome; tables = after; next = next }
      by (Ok made) ok refused same told other = rw (ok, told) refl
      by (Err f) ok refused same told other = rw (refused (λ is. other (ap (λ (x : SqlFault). Err x) is)), told, same.0, same.1) refl

never_by : (r : Result Told SqlFault) → r ≢ Err faults.Memory → (counted (count_of r) ≢ outcomes.Refused faults.Memory) × (done (count_of r) ≢ outcomes.Refused faults.Memory)
never_by (Ok m) other = (λ is. cc is, λ is. cc is)
never_by (Err f) other = (λ is. other (cc is), λ is. other (cc is))

pub never_counted : {M : Type 0} (r : Result Told SqlFault) (e : Result Evaluation M) → IfOk e (λ m. m.outcome ≡ counted (count_of r)) → IfOk e (λ m. r ≢ Err faults.Memory) → IfOk e (λ m. m.outcome ≢ outcomes.Refused faults.Memory)
never_counted r (Ok m) told other = λ is. (never_by r other).0 (sym told ∙ is)
never_counted r (Err w) told other = tt

pub never_done : {M : Type 0} (r : Result Told SqlFault) (e : Result Evaluation M) → IfOk e (λ m. m.outcome ≡ done (count_of r)) → IfOk e (λ m. r ≢ Err faults.Memory) → IfOk e (λ m. m.outcome ≢ outcomes.Refused faults.Memory)
never_done r (Ok m) told other = λ is. (never_by r other).1 (sym told ∙ is)
never_done r (Err w) told other = tt

count_told : (r : Result Told SqlFault) → IfOk r (λ m. length m.touched ≡ m.count) → length (touched_of r) ≡ rows_changed (counted (count_of r))
count_told (Ok m) told = told
count_told (Err f) told = refl

none_told : (r : Result Told SqlFault) → IfOk r (λ m. m.touched ≡ []) → length (touched_of r) ≡ rows_changed (done (count_of r))
none_told (Ok m) none = ap (λ (ns : List ℕ). length ns) none
none_told (Err f) none = refl

pub counted_told : {M : Type 0} (r : Result Told SqlFault) (e : Result Evaluation M) → IfOk r (λ m. length m.touched ≡ m.count) → IfOk e (λ m. m.outcome ≡ counted (count_of r)) → IfOk e (λ m. m.touched ≡ touched_of r) → IfOk e (λ m. length m.touched ≡ rows_changed m.outcome)
counted_told r (Ok m) told outcome touched = ap (λ (ns : List ℕ). length ns) touched ∙ count_told r told ∙ ap (λ (o : Outcome). rows_changed o) (sym outcome)
counted_told r (Err w) told outcome touched = tt

pub done_told : {M : Type 0} (r : Result Told SqlFault) (e : Result Evaluation M) → IfOk r (λ m. m.touched ≡ []) → IfOk e (λ m. m.outcome ≡ done (count_of r)) → IfOk e (λ m. m.touched ≡ touched_of r) → IfOk e (λ m. length m.touched ≡ rows_changed m.outcome)
done_told r (Ok m) none outcome touched = ap (λ (ns : List ℕ). length ns) touched ∙ none_told r none ∙ ap (λ (o : Outcome). rows_changed o) (sym outcome)
done_told r (Err w) none outcome touched = tt

pub none_of : (b : Bool) (r : Result Told SqlFault) → b ≡ false → IfOk r (λ m. b ≡ false → m.touched ≡ []) → IfOk r (λ m. m.touched ≡ [])
none_of b (Ok m) is none = none is
none_of b (Err f) is none = tt
