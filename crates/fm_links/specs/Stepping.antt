-- What becomes of claims behind steps.
use Rattle.std.specs.Prelude.{◌≡◌, ℕ, ◌==◌, Bool, true, false, not, ◌&&◌, if◌then◌else◌, List, [], ◌∷◌, Option, Some, None}
use Rattle.std.specs.FinMap as maps
use Rattle.std.specs.List.{list_any}
use Rattle.meaning_settling.specs.Keyed.{Keyed}
use Rattle.meaning_settling.specs.Settling.{Moved}
use Rattle.meaning_system.specs.CoreOf.{claimed_by}
use Rattle.meaning_system.specs.Machine.{is_bound}
use Rattle.meaning_system.specs.State.{State, Txn, is_active, is_doomed, is_left, moved_of}
use Rattle.fm_links.specs.Claims.{PathClaim, with_claim, without_claim}

-- what a transaction claims: nothing where it is doomed
abbrev pub claimed_in : State → Txn → Moved
claimed_in s t = claimed_by (is_doomed s t) (moved_of t)

-- the claims with that of a transaction in the place of the one that it had
abbrev pub replaced : ℕ → Moved → Moved → Keyed PathClaim → Keyed PathClaim
replaced tx before after claims = with_claim tx after (without_claim before claims)

-- the claims without that of a transaction, unless it stays
abbrev pub unless : Bool → Moved → Keyed PathClaim → Keyed PathClaim
unless true m claims = claims
unless false m claims = without_claim m claims

-- a claim of a transaction that a test lets stay
abbrev pub staying : (ℕ → Bool) → Option PathClaim → Option PathClaim
staying stays None = None
staying stays (Some c) = if stays c.tx then Some c else None

-- THE CLAIMS OF THOSE THAT STAY
abbrev pub is_staying : (ℕ → Bool) → Option PathClaim → Bool
is_staying stays None = false
is_staying stays (Some c) = stays c.tx

unfoldable pub claims_of : (ℕ → Bool) → Keyed PathClaim → Keyed PathClaim
claims_of stays claims = maps.retain_keys claims (λ path. is_staying stays (maps.get claims path))

-- a stop of either side leaves prepared and decided transactions
abbrev pub stays_bound : State → ℕ → Bool
stays_bound s tx = is_bound (maps.get s.txs tx)

-- Resolve leaves those of sessions, and active ones
abbrev pub stays_resolved : State → ℕ → Bool
stays_resolved s tx = not (is_left s tx && stays_bound s tx)

-- THE ACTIVE TRANSACTIONS of a state: these are such, and there are no others
abbrev pub AreActive : State → List (ℕ × Txn) → Type 0
AreActive s [] = Unit {0}
AreActive s (e ∷ es) = (maps.get s.txs e.0 ≡ Some e.1) × (is_active e.1.phase ≡ true) × AreActive s es

abbrev pub is_named : List (ℕ × Txn) → ℕ → Bool
is_named es tx = list_any (λ e. e.0 == tx) es

abbrev pub AreAllActive : State → List (ℕ × Txn) → Type 0
AreAllActive s es = (tx : ℕ) (t : Txn) → maps.get s.txs tx ≡ Some t → is_active t.phase ≡ true → is_named es tx ≡ true

-- the claims without those of some transactions, one after the other
abbrev pub without_all : State → List (ℕ × Txn) → Keyed PathClaim → Keyed PathClaim
without_all s [] claims = claims
without_all s (e ∷ es) claims = without_all s es (without_claim (claimed_in s e.1) claims)
