-- What holds of each state that a run reaches, beside what its lists stand for.
use Rattle.std.specs.Prelude.{◌≡◌, ℕ, ◌+◌, ◌*◌, ◌^◌, ◌<◌, ◌≤◌, false, [], Some, None}
use Rattle.std.specs.FinMap as maps
use Rattle.std.specs.List.{All}
use Rattle.meaning_areas.specs.Commits.{commit_of}
use Rattle.meaning_areas.specs.Stands.{Stored, past}
use Rattle.meaning_merge.specs.History.{IsHistory, IsTransaction}
use Rattle.meaning_system.specs.State.{State, Txn, is_decided, number_of}

-- THE HISTORY OF A STATE whose transactions are drawn from `first` on.
pub record HasHistory (first : ℕ) (s : State) : Type 0 where
  -- that number was drawn, or is the one before the first that is; and no number behind the last one has been used
  pub drawn : first ≤ number_of s
  pub commits : (tx : ℕ) → number_of s < tx → commit_of tx s.commits ≡ None
  pub numbers : (tx : ℕ) (t : Txn) → maps.get s.txs tx ≡ Some t → tx ≤ number_of s
  pub history : IsHistory first s.commits
  -- each transaction begins on the tables after some commit, and is one of the history until it is decided
  pub bases : (tx : ℕ) (t : Txn) → maps.get s.txs tx ≡ Some t → (n : ℕ) × (past [] s.commits n ≡ Some t.base)
  pub transactions : (tx : ℕ) (t : Txn) → maps.get s.txs tx ≡ Some t → is_decided t.phase ≡ false → IsTransaction first s.commits tx t.base t.copy t.named t.next
  -- each backup is the tables after some commit
  pub backups : All (λ x. past [] s.commits x.commit ≡ Some x.tables) s.backups

-- the number from which the transactions of a run are drawn that begins over areas which stand for this
abbrev pub first_of : Stored → ℕ
first_of x = (x.rows_opening + 1) * 2 ^ 32

-- THE HISTORY OF WHAT AREAS STAND FOR
pub record HasPast (x : Stored) : Type 0 where
  pub history : IsHistory (first_of x) x.commits
  pub numbers : (tx : ℕ) → first_of x ≤ tx → commit_of tx x.commits ≡ None
  pub backups : All (λ b. past [] x.commits b.commit ≡ Some b.tables) x.backups
