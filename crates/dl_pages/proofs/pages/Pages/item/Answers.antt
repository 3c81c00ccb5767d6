use Rattle.std.proofs.Common.{arith}
use Rattle.dl_pages.proofs.Places.{none_within}
use Rattle.dl_pages.proofs.pages.Pages.item.Goals as goal

pub returns : goal.returns
returns g c = grind (arith, none_within)
