-- How the links of cells become those after a change: each is dropped or kept, and new ones have the next numbers.
use Rattle.std.proofs.Common.{◌≡◌, ◌++◌, ◌≤◌, ℕ, suc, List, [], ◌∷◌, ap, arith}
use Rattle.std.specs.List.{AllByRecursion}
use Rattle.dl_base.specs.declared.value.LinkNo.{LinkNo}
use Rattle.dl_base.specs.declared.value.LinkRow.{LinkRow}
use Rattle.sql_invariants.specs.Free.{IsDrawn}

-- from the count k on to the next one of a transaction
pub data Walk (tx : ℕ) : ℕ → ℕ → List LinkRow → List LinkRow → Type 0 where
  ends : {k : ℕ} → Walk tx k k [] []
  drops : {k next : ℕ} {olds news : List LinkRow} (old : LinkRow) → Walk tx k next olds news → Walk tx k next (old ∷ olds) news
  keeps : {k next : ℕ} {olds news : List LinkRow} (old : LinkRow) → Walk tx k next olds news → Walk tx k next (old ∷ olds) (old ∷ news)
  draws : {k next : ℕ} {olds news : List LinkRow} (new : LinkRow) → new.link ≡ record { tx = tx; k = k } → Walk tx (suc k) next olds news → Walk tx k next olds (new ∷ news)

-- one walk after another
pub after : {tx k middle next : ℕ} {olds news others more : List LinkRow} → Walk tx k middle olds news → Walk tx middle next others more → Walk tx k next (olds ++ others) (news ++ more)
after ends second = second
after (drops old first) second = drops old (after first second)
after (keeps old first) second = keeps old (after first second)
after (draws new is first) second = draws new is (after first second)

-- nothing changes
pub all_kept : (tx k : ℕ) (links : List LinkRow) → Walk tx k k links links
all_kept tx k [] = ends
all_kept tx k (l ∷ ls) = keeps l (all_kept tx k ls)

-- nothing is left
pub all_dropped : (tx k : ℕ) (links : List LinkRow) → Walk tx k k links []
all_dropped tx k [] = ends
all_dropped tx k (l ∷ ls) = drops l (all_dropped tx k ls)

-- counts rise
pub rises : {tx k next : ℕ} {olds news : List LinkRow} → Walk tx k next olds news → k ≤ next
rises ends = omega arith
rises (drops old walk) = rises walk
rises (keeps old walk) = rises walk
rises (draws new is walk) = let h = rises walk in omega (arith, h)

-- each new link is an old one, or has a number that was drawn
pub origin : {tx k next : ℕ} {olds news : List LinkRow} (P : LinkRow → Type 0) → Walk tx k next olds news → AllByRecursion P olds → ((l : LinkRow) → IsDrawn tx k next l.link → P l) → AllByRecursion P news
origin P ends all drawn = tt
origin P (drops old walk) all drawn = origin P walk all.1 drawn
origin P (keeps old walk) all drawn = (all.0, origin P walk all.1 drawn)
origin {tx} {k} {next} P (draws new is walk) all drawn =
    let past : suc k ≤ next = rises walk in (
      drawn new (record { own = ap (λ (n : LinkNo). n.tx) is; from = rw (ap (λ (n : LinkNo). n.k) is) (omega arith); below = rw (ap (λ (n : LinkNo). n.k) is) past }),
      origin P walk all (λ l d. let f = d.from in drawn l (record { own = d.own; from = omega (arith, f); below = d.below })),
    )
