-- Link numbers that a transaction may still draw, and those that it drew.
use Rattle.std.specs.Prelude.{◌≡◌, ℕ, ◌==◌, ◌&&◌, ◌<◌, ◌≤◌, Bool, not, IsTrue, nat_le}
use Rattle.std.specs.List.{list_any}
use Rattle.dl_base.specs.declared.value.LinkNo.{LinkNo}
use Rattle.meaning_tables.specs.Links.{links}
use Rattle.meaning_tables.specs.Tables.{Tables}

-- a link number of this transaction, with a count from k on
abbrev pub is_ahead : ℕ → ℕ → LinkNo → Bool
is_ahead tx k link = (link.tx == tx) && nat_le k link.k

-- no cell has one
abbrev pub is_free : Tables → ℕ → ℕ → Bool
is_free tables tx k = not (list_any (λ l. is_ahead tx k l.link) (links tables))

abbrev pub IsFree : Tables → ℕ → ℕ → Type 0
IsFree tables tx k = IsTrue (is_free tables tx k)

-- a number that the transaction drew, its counts going from k to below the next one
pub record IsDrawn (tx k next : ℕ) (link : LinkNo) : Type 0 where
  pub own : link.tx ≡ tx
  pub from : k ≤ link.k
  pub below : link.k < next
