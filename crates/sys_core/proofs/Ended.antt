-- WHAT THE END OF A TRANSACTION LEAVES: an engine in the state without it.
use Rattle.std.proofs.Common.{◌≡◌, ◌≢◌, ℕ, ◌+◌, ◌^◌, ◌<◌, ◌≤◌, Option, None, sym, ◌∙◌, ap, subst, arith}
use Rattle.std.specs.FinMap as maps
use Rattle.std.specs.Ordering.{nat_cmp}
use Rattle.fm_links.specs.Searching.{AreClaims}
use Rattle.meaning_areas.proofs.Tables.{get-here}
use Rattle.meaning_history.specs.Sound.{AreSound}
use Rattle.meaning_system.specs.State.{State, Txn, ended}
use Rattle.sys_core.proofs.Seating.{ArePiecesKept, less-here, less-there, seated-but}
use Rattle.sys_core.specs.Seated.{IsSeat}
use Rattle.sys_core.specs.Standing.{HasRoom, IsOf}
use Rattle.sys_core.specs.declared.engine.Engine.{Engine}
use Rattle.sys_owners.specs.Owned.{folds_in}
use Rattle.sys_seats.specs.Seats.{Seated, all_of, count_at, gives_of, votes_of}
use Rattle.sys_seats.specs.declared.seat.Seat.{Seat}

-- a state with one transaction less; of the others the pieces are kept
pub record Forgets (s later : State) (tx : ℕ) : Type 0 where
  pub drawn : later.drawn ≡ s.drawn
  pub moment : later.moment ≡ s.moment
  pub settings : later.settings ≡ s.settings
  pub gone : maps.get later.txs tx ≡ None
  pub others : (u : ℕ) → u ≢ tx → maps.get later.txs u ≡ maps.get s.txs u
  pub pieces : ArePiecesKept tx s later

-- that of a session has ended in a state with the same transactions
pub ended-less : (s k : State) (session tx : ℕ) → k.txs ≡ s.txs → (u : ℕ) → u ≢ tx → maps.get (ended k session tx).txs u ≡ maps.get s.txs u
ended-less s k session tx txs u other = less-there k.txs tx u other ∙ ap (λ (m : maps.FinMap nat_cmp Txn). maps.get m u) txs

pub forgets : (s k : State) (session tx : ℕ) → k.drawn ≡ s.drawn → k.moment ≡ s.moment → k.settings ≡ s.settings → k.txs ≡ s.txs → ArePiecesKept tx s (ended k session tx) → Forgets s (ended k session tx) tx
forgets s k session tx drawn moment settings txs pieces = record {
  drawn = drawn;
  moment = moment;
  settings = settings;
  gone = less-here k.txs tx;
  others = ended-less s k session tx txs;
  pieces = pieces;
}

-- an engine with one seat less
pub record Loses (w v : Engine) (tx : ℕ) : Type 0 where
  pub drawn : v.owners.store.drawn ≡ w.owners.store.drawn
  pub moment : v.moment ≡ w.moment
  pub settings : v.settings ≡ w.settings
  pub gone : maps.get v.seats tx ≡ None
  pub others : (u : ℕ) → u ≢ tx → maps.get v.seats u ≡ maps.get w.seats u

-- the end of a transaction leaves that, of an engine whose other seats are the same
pub loses : (w m v : Engine) (tx : ℕ) → m.owners.store.drawn ≡ w.owners.store.drawn → m.moment ≡ w.moment → m.settings ≡ w.settings → ((u : ℕ) → u ≢ tx → maps.get m.seats u ≡ maps.get w.seats u)
    → v ≡ record m { claims = v.claims; seats = maps.remove m.seats tx } → Loses w v tx
loses w m v tx drawn moment settings others is = record {
  drawn = ap (λ (e : Engine). e.owners.store.drawn) is ∙ drawn;
  moment = ap (λ (e : Engine). e.moment) is ∙ moment;
  settings = ap (λ (e : Engine). e.settings) is ∙ settings;
  gone = ap (λ (e : Engine). maps.get e.seats tx) is ∙ less-here m.seats tx;
  others = λ u other. ap (λ (e : Engine). maps.get e.seats u) is ∙ less-there m.seats tx u other ∙ others u other;
}

-- THE ENGINE IS IN THE STATE WITHOUT IT
pub ended-is : (first : ℕ) (w v : Engine) (s later : State) (tx : ℕ) → IsOf first w s → Loses w v tx → Forgets s later tx → AreSound first (folds_in v.owners) later → AreClaims v.claims.claims later → HasRoom v → IsOf first v later
ended-is first w v s later tx is loses forgets sound claims room = record {
  sound = sound;
  drawn = loses.drawn ∙ is.drawn ∙ sym forgets.drawn;
  few = subst (λ (n : ℕ). n + 1 < 2 ^ 32) (sym forgets.drawn) is.few;
  moment = loses.moment ∙ is.moment ∙ sym forgets.moment;
  settings = loses.settings ∙ is.settings ∙ sym forgets.settings;
  claims = claims;
  seats = seated-but s later w.seats v.seats is.seats tx forgets.others forgets.pieces loses.others
      (subst (λ (o : Option Txn). IsSeat later tx o (maps.get v.seats tx)) (sym forgets.gone) (subst (λ (o : Option Seat). IsSeat later tx None o) (sym loses.gone) tt));
  room = room;
}

-- THE ROOM that is left

-- what seats count, once one is taken and once one is put
abbrev pub SeatsTaken : Type 0
SeatsTaken = (count : Seat → ℕ) (seats : Seated) (tx : ℕ) → all_of count (maps.remove seats tx) + count_at count (maps.get seats tx) ≡ all_of count seats

abbrev pub SeatsPut : Type 0
SeatsPut = (count : Seat → ℕ) (seats : Seated) (tx : ℕ) (seat : Seat) → all_of count (maps.insert seats tx seat) + count_at count (maps.get seats tx) ≡ all_of count seats + count seat

-- some seats are those with one less, by their counts
abbrev pub CountLess : Seated → ℕ → Seated → Type 0
CountLess seats tx later = (count : Seat → ℕ) → all_of count later + count_at count (maps.get seats tx) ≡ all_of count seats

-- one is taken
pub count-taken : SeatsTaken → (seats : Seated) (tx : ℕ) (later : Seated) → later ≡ maps.remove seats tx → CountLess seats tx later
count-taken taken seats tx later is count = ap (λ (x : Seated). all_of count x + count_at count (maps.get seats tx)) is ∙ taken count seats tx

-- one is put in its place, and then that is taken
pub count-put-taken : SeatsTaken → SeatsPut → (seats : Seated) (tx : ℕ) (seat : Seat) (later : Seated) → later ≡ maps.remove (maps.insert seats tx seat) tx → CountLess seats tx later
count-put-taken taken put seats tx seat later is count =
    ap (λ (x : Seated). all_of count x + count_at count (maps.get seats tx)) is
    ∙ cancel (all_of count (maps.remove (maps.insert seats tx seat) tx)) (count_at count (maps.get seats tx)) (all_of count seats) (count seat) (all_of count (maps.insert seats tx seat))
    (ap (λ (o : Option Seat). all_of count (maps.remove (maps.insert seats tx seat) tx) + count_at count o) (sym (get-here seats tx seat)) ∙ taken count (maps.insert seats tx seat) tx)
    (put count seats tx seat)
  where
    cancel : (x c a y i : ℕ) → x + y ≡ i → i + c ≡ a + y → x + c ≡ a
    cancel x c a y i e f = omega (arith, e, f)

-- it may make one commit less, and copy as many files less as it gives
pub room-less : (w v : Engine) (tx : ℕ) → HasRoom w → CountLess w.seats tx v.seats
    → w.owners.store.spare ≤ v.owners.store.spare + count_at votes_of (maps.get w.seats tx)
    → w.owners.manager.archive.spare ≤ v.owners.manager.archive.spare + count_at gives_of (maps.get w.seats tx) → HasRoom v
room-less w v tx room less commits copies = record {
  commits = within (all_of votes_of w.seats) (all_of votes_of v.seats) (count_at votes_of (maps.get w.seats tx)) w.owners.store.spare v.owners.store.spare (less votes_of) room.commits commits;
  copies = within (all_of gives_of w.seats) (all_of gives_of v.seats) (count_at gives_of (maps.get w.seats tx)) w.owners.manager.archive.spare v.owners.manager.archive.spare (less gives_of) room.copies copies;
}
  where
    within : (a b c spare more : ℕ) → b + c ≡ a → a ≤ spare → spare ≤ more + c → b ≤ more
    within a b c spare more e f g = omega (arith, e, f, g)

-- with as much room as there was
pub spare-same : (a b c : ℕ) → a ≡ b → b ≤ a + c
spare-same a b c e = omega (arith, e)
