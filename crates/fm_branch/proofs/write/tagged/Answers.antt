use Rattle.std.proofs.Common.{◌∷◌, [], ℕ, List, slice_index_or, ap}
use Rattle.dl_codec.specs.Layout.{u64}
use Rattle.fm_branch.proofs.write.tagged.Goals as goal

pub returns : goal.returns
unfolding u64
returns c =
    ap (λ (b : List ℕ).
    c.args.tag ∷ slice_index_or b 0 0 ∷ slice_index_or b 1 0 ∷ slice_index_or b 2 0 ∷ slice_index_or b 3 0 ∷ slice_index_or b 4 0 ∷ slice_index_or b 5 0 ∷ slice_index_or b 6 0 ∷ slice_index_or b 7 0 ∷ []) c.to_be_bytes-b.ensures
