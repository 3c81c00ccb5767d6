-- RECORDS THAT HAVE SPELLINGS.
use Rattle.std.proofs.Common.{◌≡◌, List, sym, subst}
use Rattle.fm_manager.specs.Managed.{AreSpelled}
use Rattle.meaning_areas.specs.Lists.{Written}

-- the same records
pub as-spelled : (xs ys : List Written) → xs ≡ ys → AreSpelled ys → AreSpelled xs
as-spelled xs ys are spelled = subst (λ (l : List Written). AreSpelled l) (sym are) spelled
