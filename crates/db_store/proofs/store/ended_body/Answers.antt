use Rattle.std.proofs.Common.{◌∷◌, [], ℕ, List, slice_index_or, ap}
use Rattle.dl_codec.specs.Layout.{u64}
use Rattle.dl_codec.specs.Rows.{rows_record}
use Rattle.db_store.proofs.store.ended_body.Goals as goal

pub returns : goal.returns
unfolding rows_record u64
returns c =
    ap (λ (b : List ℕ). 3 ∷ slice_index_or b 0 0 ∷ slice_index_or b 1 0 ∷ slice_index_or b 2 0 ∷ slice_index_or b 3 0 ∷ slice_index_or b 4 0 ∷ slice_index_or b 5 0 ∷ slice_index_or b 6 0 ∷ slice_index_or b 7 0 ∷ [])
    c.to_be_bytes-bytes.ensures
