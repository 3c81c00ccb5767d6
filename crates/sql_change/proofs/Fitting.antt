-- Rows that fit before a statement fit after it.
use Rattle.std.proofs.Common.{◌≡◌, ◌==◌, ℕ, Bool, true, false, cond, List, [], ◌∷◌, Some, Result, Ok, Err, IfOk, OnErr, subst, sym}
use Rattle.std.specs.Cmp.Lexicographic.{pointwise}
use Rattle.std.proofs.lemmas.Bool.{and_parts}
use Rattle.dl_base.specs.declared.sql_fault.SqlFault.{SqlFault}
use Rattle.dl_base.specs.declared.statement.Stmt.{Stmt}
use Rattle.meaning_sql.specs.declared.Context.{Context}
use Rattle.meaning_statements.specs.Changing.{Changed, change}
use Rattle.meaning_tables.specs.Fits.{RowsFit, rows_fit, table_fits}
use Rattle.meaning_tables.specs.Tables.{Rows, Tables, table_of}
use Rattle.sql_change.specs.declared.changing.Changed.{Changed as Told}

-- by the law of what statements make, and by what a refusal leaves
pub rows_kept : ((tables : Tables) (stmt : Stmt) (context : Context) (k : ℕ) (after : Changed) → RowsFit tables → change tables stmt context k ≡ Ok after → RowsFit after.tables)
    → (olds news : Tables) (stmt : Stmt) (context : Context) (k next : ℕ) (r : Result Told SqlFault) → RowsFit olds
    → IfOk r (λ made. change olds stmt context k ≡ Ok (record { tables = news; next = next; count = made.count })) → OnErr r ((news ≡ olds) × (next ≡ k)) → RowsFit news
rows_kept law olds news stmt context k next (Ok made) fit ok err = law olds stmt context k (record { tables = news; next = next; count = made.count }) fit ok
rows_kept law olds news stmt context k next (Err e) fit ok err = subst (λ (tables : Tables). RowsFit tables) (sym err.0) fit

-- the table of a name, where the rows of each fit
pub found_fits : (tables : Tables) (name : List ℕ) (t : Rows) → RowsFit tables → table_of tables name ≡ Some t → table_fits t ≡ true
found_fits [] name t fit is = absurd (cc is)
found_fits (e ∷ es) name t fit is = by (pointwise ◌==◌ name e.0) is (and_parts (table_fits e.1) (rows_fit es) fit) (found_fits es name t)
  where
    by : (b : Bool) → cond b (Some e.1) (table_of es name) ≡ Some t → (table_fits e.1 ≡ true) × (rows_fit es ≡ true) → (RowsFit es → table_of es name ≡ Some t → table_fits t ≡ true) → table_fits t ≡ true
    by true is both later = subst (λ (x : Rows). table_fits x ≡ true) (one e.1 t is) both.0
      where
        one : (a b : Rows) → Some a ≡ Some b → a ≡ b
        one a b e = cc e
    by false is both later = later both.1 is
