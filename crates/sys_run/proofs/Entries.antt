-- What `$NAME` stands for, by the entries.
use Rattle.std.proofs.Common.{◌≡◌, ℕ, List}
use Rattle.std.specs.BTreeMap.{is_at}
use Rattle.std.specs.Cmp.{nat_cmp_total}
use Rattle.std.specs.FinMap as maps
use Rattle.std.specs.Map.{lookup}
use Rattle.std.specs.Ordering.{nat_cmp}
use Rattle.fm_branch.proofs.Maps.{get-of}

pub grid-at : (es : List (ℕ × List ℕ)) (q : ℕ) → maps.get (maps.from_entries {R = nat_cmp} es) q ≡ lookup (is_at (nat_cmp q)) es
grid-at es q = get-of nat_cmp_total es q
