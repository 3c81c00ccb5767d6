-- Tables none of which has its name among others.
use Rattle.std.proofs.Common.{◌≡◌, ℕ, true, cond, List, [], ◌∷◌, ◌++◌, Option, Some, None, is_none, refl, ◌∙◌, ap}
use Rattle.std.specs.Option.{option_or}
use Rattle.meaning_merge.specs.History.{EachTable}
use Rattle.meaning_merge.proofs.Keeping.{name-self, past-head}
use Rattle.meaning_merge.proofs.TableByTable.{table_of-append}
use Rattle.meaning_tables.specs.Tables.{Rows, Tables, table_of, without_table}
use Rattle.bk_losing.proofs.Named.{absent, other_way}

abbrev pub AreOut : Tables → Tables → Type 0
AreOut done ts = EachTable ts (λ t. table_of done t.0 ≡ None)

pub out-none : (ts : Tables) → AreOut [] ts
out-none [] = tt
out-none (t ∷ ts) = (refl, out-none ts)

pub out-more : (done ts : Tables) (t : List ℕ × Rows) (x : Rows) → AreOut done ts → table_of ts t.0 ≡ None → AreOut (done ++ (t.0, x) ∷ []) ts
out-more done [] t x out none = tt
out-more done (u ∷ us) t x out none =
    let two = absent u us t.0 none in
    (table_of-append done ((t.0, x) ∷ []) u.0 ∙ (λ i. option_or (out.0 i) (past-head (t.0, x) [] u.0 (other_way t.0 u.0 two.0) i)), out-more done us t x out.1 two.1)

-- the table in the middle, left out
pub without-middle : (done ts : Tables) (t : List ℕ × Rows) → table_of done t.0 ≡ None → without_table (done ++ t ∷ ts) t.0 ≡ done ++ ts
without-middle [] ts t none = ap (λ b. cond b ts (t ∷ without_table ts t.0)) (name-self t.0)
without-middle (d ∷ ds) ts t none =
    let two = absent d ds t.0 none in
    ap (λ b. cond b (ds ++ t ∷ ts) (d ∷ without_table (ds ++ t ∷ ts) t.0)) two.0 ∙ ap (λ (us : Tables). d ∷ us) (without-middle ds ts t two.1)

pub none_there : {A : Type 0} (o : Option A) → is_none o ≡ true → o ≡ None
none_there None e = refl
none_there (Some x) e = cc e
