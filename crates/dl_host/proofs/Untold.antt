-- Calls of a host that tells no content, and counts its faults.
use Rattle.std.proofs.Common.{ℕ, ◌≤◌, List}
use Rattle.dl_base.specs.declared.area.Area.{Area}
use Rattle.dl_base.specs.Outside.{ChangesOnly, Says}
use Rattle.dl_base.proofs.Moments.{touches_none}
use Rattle.dl_host.specs.Hosts.{with_faults}
use Rattle.dl_host.specs.Blind.{blind}
use Rattle.dl_host.proofs.Loops.{says_none}
use Rattle.dl_host.proofs.Counted.{touches_counted, says_counted}

pub touches_untold : (area : Area) (Q : List ℕ → Type 0) (f g : ℕ) → f ≤ g → ChangesOnly area Q (with_faults f blind) (with_faults g blind)
touches_untold area Q f g le = touches_counted area Q blind blind f g le (touches_none area Q blind (λ c left. absurd left))

pub says_untold : (bytes : List ℕ) (f g : ℕ) → f ≤ g → Says bytes (with_faults f blind) (with_faults g blind)
says_untold bytes f g le = says_counted bytes blind blind f g le (says_none bytes blind)
