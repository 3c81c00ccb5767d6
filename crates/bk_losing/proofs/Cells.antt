-- The lost cells of a row.
use Rattle.std.proofs.Common.{◌≡◌, ℕ, Bool, List, [], ◌∷◌, refl}
use Rattle.dl_base.specs.declared.column.Column.{Column}
use Rattle.dl_base.specs.declared.value.LinkRow.{LinkRow}
use Rattle.meaning_merge.specs.Restoring.{lost_in}

pub none_past_the_end : (lost : LinkRow → Bool) (table : List ℕ) (row : ℕ) (cs : List Column) → lost_in lost table row cs [] ≡ []
none_past_the_end lost table row [] = refl
none_past_the_end lost table row (c ∷ cs) = refl
