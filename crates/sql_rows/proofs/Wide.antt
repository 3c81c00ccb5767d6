-- Rows with so many values.
use Rattle.std.proofs.Common.{◌≡◌, ℕ, List, [], ◌∷◌, ◌++◌, All, length}
use Rattle.std.proofs.lemmas.List.Elements.{All-push}
use Rattle.dl_base.specs.declared.value.Row.{Row}

-- one row more
pub wide_pushed : (n : ℕ) (rows : List Row) (row : Row) → All (λ r. length r.values ≡ n) rows → length row.values ≡ n → All (λ r. length r.values ≡ n) (rows ++ row ∷ [])
wide_pushed n rows row all one = All-push (λ (r : Row). length r.values ≡ n) rows row all one
