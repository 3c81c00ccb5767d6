-- The claim on a path, found by a search through all transactions, and who is in the way there.
use Rattle.std.specs.Prelude.{◌≡◌, ℕ, ◌==◌, ◌&&◌, Bool, not, if◌then◌else◌, List, Option, Some, None}
use Rattle.std.specs.FinMap as maps
use Rattle.std.specs.List.{find}
use Rattle.dl_base.specs.declared.answer.ClaimRefusal.TheVariants as claims
use Rattle.dl_base.specs.declared.answer.Refusal.{Refusal}
use Rattle.dl_base.specs.declared.answer.Refusal.TheVariants as reasons
use Rattle.meaning_settling.specs.Apart.{has_path}
use Rattle.meaning_settling.specs.Keyed.{Keyed}
use Rattle.meaning_system.specs.State.{State, Txn, is_doomed, moved_of}
use Rattle.fm_links.specs.Claims.{PathClaim, claim_by}

-- a transaction that is not doomed gives or takes a link on the path
abbrev pub has_claim : State → List ℕ → ℕ × Txn → Bool
has_claim s path e = not (is_doomed s e.1) && has_path (moved_of e.1) path

abbrev pub claim_of : List ℕ → Option (ℕ × Txn) → Option PathClaim
claim_of path None = None
claim_of path (Some e) = Some (claim_by e.0 (moved_of e.1) path)

abbrev pub claim_at : State → List ℕ → Option PathClaim
claim_at s path = claim_of path (find (has_claim s path) (maps.entries s.txs))

-- THE CLAIMS OF A STATE: on each path that of the transaction which has one there
abbrev pub AreClaims : Keyed PathClaim → State → Type 0
AreClaims claims s = (path : List ℕ) → maps.get claims path ≡ claim_at s path

-- why a transaction may not claim a path: another has
abbrev pub busy_by : ℕ → List ℕ → Option PathClaim → Option Refusal
busy_by tx path None = None
busy_by tx path (Some c) = if c.tx == tx then None else Some (reasons.Claim (claims.Busy path c.tx))
