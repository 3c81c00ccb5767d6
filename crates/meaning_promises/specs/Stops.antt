-- What moves the clock, and what stops of one side and Resolve leave.
use Rattle.std.specs.Prelude.{◌≡◌, ◌≢◌, ℕ, Bool, true, false, List, length, Some}
use Rattle.std.specs.FinMap as maps
use Rattle.dl_base.specs.declared.step.Step.{Step}
use Rattle.dl_base.specs.declared.step.Step.TheVariants as steps
use Rattle.meaning_settling.specs.Settled.{AreDistinct, IsIn}
use Rattle.meaning_system.specs.State.{State, Txn, is_active, is_decided}

abbrev pub is_tick : Step → Bool
is_tick (steps.Tick n) = true
is_tick _ = false

-- WHAT THE DATABASE HAS is as it was: what Rows and Backups keep, the numbers that it draws, sessions and transactions
pub record HasSameDatabase (s later : State) : Type 0 where
  pub commits : later.commits ≡ s.commits
  pub backups : later.backups ≡ s.backups
  pub opening : later.rows_opening ≡ s.rows_opening
  pub drawn : later.drawn ≡ s.drawn
  pub sessions : (session : ℕ) → maps.get later.sessions session ≡ maps.get s.sessions session
  pub transactions : (tx : ℕ) → maps.get later.txs tx ≡ maps.get s.txs tx

-- WHAT THE FILE MANAGER HAS is as it was: what Files and Archive keep, and of Links the opening and the transactions that have voted
pub record HasSameManager (s later : State) : Type 0 where
  pub files : later.files ≡ s.files
  pub copies : later.copies ≡ s.copies
  pub opening : later.links_opening ≡ s.links_opening
  pub voted : (tx : ℕ) (t : Txn) → maps.get s.txs tx ≡ Some t → is_active t.phase ≡ false → maps.get later.txs tx ≡ Some t

-- A TRANSACTION WITHOUT A SESSION, decided or not
pub record IsAlone (s : State) (decided : Bool) (tx : ℕ) : Type 0 where
  pub txn : Txn
  pub there : maps.get s.txs tx ≡ Some txn
  pub phase : is_decided txn.phase ≡ decided
  pub alone : (session : ℕ) → maps.get s.sessions session ≢ Some tx

-- SO MANY NUMBERS have it: a list has each of them once, and no others
pub record AreSoMany (n : ℕ) (Has : ℕ → Type 0) : Type 0 where
  pub numbers : List ℕ
  pub once : AreDistinct numbers
  pub exact : (tx : ℕ) → IsIn tx numbers → Has tx
  pub all : (tx : ℕ) → Has tx → IsIn tx numbers
  pub many : length numbers ≡ n
