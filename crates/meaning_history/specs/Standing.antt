-- The claims of transactions, from the statement that is accepted up to the decision.
use Rattle.std.specs.Prelude.{◌≡◌, ℕ, false, Some}
use Rattle.std.specs.FinMap as maps
use Rattle.dl_base.specs.declared.value.LinkRow.{LinkRow}
use Rattle.meaning_merge.specs.Touching.{In, OnePath, is_in}
use Rattle.meaning_settling.specs.Keyed.{is_at}
use Rattle.meaning_tables.specs.Links.{links}
use Rattle.meaning_system.specs.State.{State, Txn, is_decided, is_doomed, moved_of, tables_of}

-- A CLAIM STANDS: what the transaction gives is committed; what it takes is on paths of its own, and on none of a committed link that
-- it does not give.
pub record ClaimStands (s : State) (t : Txn) : Type 0 where
  pub given : (g : LinkRow) → In g (moved_of t).gives → In g (links (tables_of s))
  pub apart : OnePath (moved_of t).takes
  pub free : (x l : LinkRow) → In x (moved_of t).takes → In l (links (tables_of s)) → is_in (moved_of t).gives l ≡ false → is_at l.path x.path ≡ false

-- the claims of all that are not decided, and not doomed
abbrev pub ClaimsStand : State → Type 0
ClaimsStand s = (tx : ℕ) (t : Txn) → maps.get s.txs tx ≡ Some t → is_decided t.phase ≡ false → is_doomed s t ≡ false → ClaimStands s t
