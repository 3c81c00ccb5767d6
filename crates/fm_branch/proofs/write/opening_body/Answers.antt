use Rattle.std.proofs.Common.{◌∷◌, [], ℕ, List, slice_index_or, ap}
use Rattle.dl_codec.specs.Layout.{u32}
use Rattle.dl_codec.specs.Links.{links_record}
use Rattle.fm_branch.proofs.write.opening_body.Goals as goal

pub returns : goal.returns
unfolding links_record u32
returns c = ap (λ (b : List ℕ). 1 ∷ slice_index_or b 0 0 ∷ slice_index_or b 1 0 ∷ slice_index_or b 2 0 ∷ slice_index_or b 3 0 ∷ []) c.to_be_bytes-bytes.ensures
