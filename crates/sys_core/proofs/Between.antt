-- IN THE MIDDLE OF A STEP: how an engine comes there, and the state that it is in behind the step.
use Rattle.std.proofs.Common.{◌≡◌, ◌≢◌, ⊎_elim, ℕ, ◌+◌, ◌≤◌, length, Option, Some, None, refl, sym, ◌∙◌, ap, subst, arith}
use Rattle.std.proofs.lemmas.Bool.{cases_eq}
use Rattle.std.specs.FinMap as maps
use Rattle.db_store.specs.Store.{Database}
use Rattle.dl_base.specs.declared.step.Phase.{Phase}
use Rattle.dl_base.specs.declared.step.Phase.TheVariants as phases
use Rattle.fm_links.specs.Claims.{without_claim}
use Rattle.fm_links.specs.Searching.{AreClaims}
use Rattle.fm_manager.specs.Pieces.{Pieces}
use Rattle.fm_pieces.specs.Keeping.{HasPieces}
use Rattle.meaning_areas.proofs.Tables.{get-here, get-there}
use Rattle.meaning_files.specs.Files.{Files}
use Rattle.meaning_history.specs.Sound.{AreSound}
use Rattle.meaning_settling.specs.Settling.{Copies}
use Rattle.meaning_system.specs.Machine.{committed, with_phase}
use Rattle.meaning_system.specs.State.{State, Txn, ended, moved_of, txn_of}
use Rattle.sys_core.proofs.Ended.{SeatsPut, SeatsTaken}
use Rattle.sys_core.proofs.Seating.{ArePiecesKept, is-seat-kept, less-here, less-there, let-go-bound, pieces-kept, pieces-same}
use Rattle.sys_core.specs.Between.{IsBetween, votes_in}
use Rattle.sys_core.specs.Seated.{AreSeated, IsSeat, IsSeatOf, let_go}
use Rattle.sys_core.specs.Standing.{IsOf}
use Rattle.sys_core.specs.declared.engine.Engine.{Engine}
use Rattle.sys_owners.proofs.Placing.{with_store}
use Rattle.sys_owners.specs.Owned.{Owned, folds_in}
use Rattle.sys_seats.specs.Seats.{Seated, all_of, count_at, gives_of, votes_of, with_stage}
use Rattle.sys_seats.specs.declared.seat.Seat.{Seat}
use Rattle.sys_seats.specs.declared.seat.Stage.TheVariants as stages

-- the seats around the one of a transaction, behind a step of it
seated-around : (s t : State) (seats later : Seated) (tx : ℕ) → ((u : ℕ) → u ≢ tx → IsSeat s u (maps.get s.txs u) (maps.get seats u)) → ((u : ℕ) → u ≢ tx → maps.get t.txs u ≡ maps.get s.txs u) → ArePiecesKept tx s t
    → ((u : ℕ) → u ≢ tx → maps.get later u ≡ maps.get seats u) → IsSeat t tx (maps.get t.txs tx) (maps.get later tx) → AreSeated t later
seated-around s t seats later tx others same pieces kept own u = ⊎_elim
    (λ (e : u ≡ tx). subst (λ (q : ℕ). IsSeat t q (maps.get t.txs q) (maps.get later q)) (sym e) own)
    (λ (other : u ≢ tx).
    subst (λ (o : Option Txn). IsSeat t u o (maps.get later u)) (sym (same u other))
    (subst (λ (x : Option Seat). IsSeat t u (maps.get s.txs u) x) (sym (kept u other)) (is-seat-kept s t u (maps.get s.txs u) (maps.get seats u) (λ v p at rests has. pieces u v p other at rests has) (others u other))))
    (cases_eq u tx)

-- IT IS THERE once what was kept of the stage is taken out
module _ (put : SeatsPut) (first : ℕ) (w : Engine) (s : State) (of : IsOf first w s) (session tx : ℕ) (t : Txn) (is : txn_of s session ≡ Some (tx, t)) (x : Seat) (at : maps.get w.seats tx ≡ Some x) (seat : IsSeatOf s tx t x)
    (phase : Phase) (in_phase : t.phase ≡ phase) (pieces : Option Pieces) (has : HasPieces s tx t pieces) (votes : votes_of x ≡ votes_in phase) (given : gives_of x ≡ length x.claim.gives) where
  abbrev empty : Seat
  empty = record { claim = x.claim; stage = stages.Decided None }

  counted : (count : Seat → ℕ) → all_of count (maps.insert w.seats tx empty) + count x ≡ all_of count w.seats + count empty
  counted count = ap (λ (o : Option Seat). all_of count (maps.insert w.seats tx empty) + count_at count o) (sym at) ∙ put count w.seats tx empty

  pub between : (seats : Seated) → seats ≡ with_stage w.seats tx (stages.Decided None) (maps.get w.seats tx) → IsBetween first (record w { seats = seats }) s session tx t phase pieces
  between seats changed = record {
    is = is;
    in_phase = in_phase;
    has = has;
    claim = x.claim;
    at = ap (λ (m : Seated). maps.get m tx) placed ∙ get-here w.seats tx empty;
    gives = seat.gives;
    takes = seat.takes;
    seen = seat.seen;
    others = λ u other. subst (λ (o : Option Seat). IsSeat s u (maps.get s.txs u) o) (sym (ap (λ (m : Seated). maps.get m u) placed ∙ get-there w.seats tx empty u other)) (of.seats u);
    sound = of.sound;
    drawn = of.drawn;
    few = of.few;
    moment = of.moment;
    settings = of.settings;
    claims = of.claims;
    commits = less (all_of votes_of seats) (all_of votes_of (maps.insert w.seats tx empty)) (votes_of x) (all_of votes_of w.seats) (votes_in phase) w.owners.store.spare (ap (all_of votes_of) placed) (counted votes_of) votes of.room.commits;
    copies = same (all_of gives_of seats) (all_of gives_of (maps.insert w.seats tx empty)) (gives_of x) (all_of gives_of w.seats) (length x.claim.gives) w.owners.manager.archive.spare (ap (all_of gives_of) placed) (counted gives_of) given of.room.copies;
  }
    where
      placed : seats ≡ maps.insert w.seats tx empty
      placed = changed ∙ ap (with_stage w.seats tx (stages.Decided None)) at

      less : (a i c b n r : ℕ) → a ≡ i → i + c ≡ b + 0 → c ≡ n → b ≤ r → a + n ≤ r
      less a i c b n r e f g h = omega (arith, e, f, g, h)

      same : (a i c b n r : ℕ) → a ≡ i → i + c ≡ b + n → c ≡ n → b ≤ r → a ≤ r
      same a i c b n r e f g h = omega (arith, e, f, g, h)

-- BEHIND A COMMIT it is in the state that has it
module _ (put : SeatsPut) (first : ℕ) (w : Engine) (s : State) (session tx : ℕ) (t : Txn) (pieces : Option Pieces) (b : IsBetween first w s session tx t phases.Prepared pieces) where
  abbrev decided-seat : Seat
  decided-seat = record { claim = b.claim; stage = stages.Decided pieces }

  abbrev decided-txn : Txn
  decided-txn = with_phase t phases.Decided

  recounted : (count : Seat → ℕ) → all_of count (maps.insert w.seats tx decided-seat) + count (record { claim = b.claim; stage = stages.Decided None }) ≡ all_of count w.seats + count decided-seat
  recounted count = ap (λ (o : Option Seat). all_of count (maps.insert w.seats tx decided-seat) + count_at count o) (sym b.at) ∙ put count w.seats tx decided-seat

  pub committed-of : (d : Database) (seats : Seated) → AreSound first (folds_in (with_store w.owners d)) (committed s tx t) → AreClaims w.claims.claims (committed s tx t) → d.drawn ≡ w.owners.store.drawn → w.owners.store.spare ≤ d.spare + 1
      → seats ≡ with_stage w.seats tx (stages.Decided pieces) (maps.get w.seats tx) → IsOf first (record w { owners = with_store w.owners d; seats = seats }) (committed s tx t)
  committed-of d seats sound claims drawn spare changed = record {
    sound = sound;
    drawn = drawn ∙ b.drawn;
    few = b.few;
    moment = b.moment;
    settings = b.settings;
    claims = claims;
    seats = seated-around s (committed s tx t) w.seats seats tx b.others (get-there s.txs tx decided-txn) (pieces-kept tx s (committed s tx t) refl refl)
        (λ u other. ap (λ (m : Seated). maps.get m u) placed ∙ get-there w.seats tx decided-seat u other) own;
    room = record {
      commits = less (all_of votes_of seats) (all_of votes_of (maps.insert w.seats tx decided-seat)) (all_of votes_of w.seats) w.owners.store.spare d.spare (ap (all_of votes_of) placed) (recounted votes_of) b.commits spare;
      copies = same (all_of gives_of seats) (all_of gives_of (maps.insert w.seats tx decided-seat)) (all_of gives_of w.seats) (length b.claim.gives) w.owners.manager.archive.spare (ap (all_of gives_of) placed) (recounted gives_of) b.copies;
    };
  }
    where
      placed : seats ≡ maps.insert w.seats tx decided-seat
      placed = changed ∙ ap (with_stage w.seats tx (stages.Decided pieces)) b.at

      own-seat : IsSeatOf (committed s tx t) tx decided-txn decided-seat
      own-seat = record { seen = b.seen; gives = b.gives; takes = b.takes; stage = (refl, pieces-same s (committed s tx t) tx t pieces refl refl b.has) }

      own : IsSeat (committed s tx t) tx (maps.get (committed s tx t).txs tx) (maps.get seats tx)
      own =
          subst (λ (o : Option Txn). IsSeat (committed s tx t) tx o (maps.get seats tx)) (sym (get-here s.txs tx decided-txn))
          (subst (λ (x : Option Seat). IsSeat (committed s tx t) tx (Some decided-txn) x) (sym (ap (λ (m : Seated). maps.get m tx) placed ∙ get-here w.seats tx decided-seat)) own-seat)

      less : (a i c r q : ℕ) → a ≡ i → i + 0 ≡ c + 0 → c + 1 ≤ r → r ≤ q + 1 → a ≤ q
      less a i c r q e f g h = omega (arith, e, f, g, h)

      same : (a i c n r : ℕ) → a ≡ i → i + n ≡ c + n → c ≤ r → a ≤ r
      same a i c n r e f g = omega (arith, e, f, g)

-- BEHIND THE END of its transaction it is in the state without
module _ (taken : SeatsTaken) (first : ℕ) (w : Engine) (s : State) (session tx : ℕ) (t : Txn) (phase : Phase) (pieces : Option Pieces) (b : IsBetween first w s session tx t phase pieces) where
  abbrev put-back : Seat
  put-back = record { claim = b.claim; stage = stages.Decided None }

  -- the claims, where its own are let go
  pub let-go-own : (opening : ℕ) → let_go opening (maps.get w.seats tx) w.claims.claims ≡ without_claim (moved_of t) w.claims.claims
  let-go-own opening = let-go-bound t (maps.get w.seats tx) put-back opening w.claims.claims b.at refl b.gives b.takes

  counted-less : (count : Seat → ℕ) → all_of count (maps.remove w.seats tx) + count put-back ≡ all_of count w.seats
  counted-less count = ap (λ (o : Option Seat). all_of count (maps.remove w.seats tx) + count_at count o) (sym b.at) ∙ taken count w.seats tx

  -- there is room for the copies of what it gives
  pub gives-fit : length (moved_of t).gives ≤ w.owners.manager.archive.spare
  gives-fit = by (all_of gives_of (maps.remove w.seats tx)) (length b.claim.gives) (all_of gives_of w.seats) (length (moved_of t).gives) w.owners.manager.archive.spare (counted-less gives_of) (ap length b.gives) b.copies
    where
      by : (a n c m r : ℕ) → a + n ≡ c → n ≡ m → c ≤ r → m ≤ r
      by a n c m r e f g = omega (arith, e, f, g)

  module _ (files : Files) (copies : Copies) where
    abbrev later : State
    later = ended (record s { files = files; copies = copies }) session tx

    module _ (k v : Engine) (owners : k ≡ record w { owners = k.owners }) (end : v ≡ record k { claims = v.claims; seats = maps.remove k.seats tx }) (pieces_kept : ArePiecesKept tx s later)
        (sound : AreSound first (folds_in k.owners) later) (claims : AreClaims v.claims.claims later) (drawn : k.owners.store.drawn ≡ w.owners.store.drawn) (spare : w.owners.store.spare ≤ k.owners.store.spare)
        (room : w.owners.manager.archive.spare ≤ k.owners.manager.archive.spare + length (moved_of t).gives) where
      same-owners : v.owners ≡ k.owners
      same-owners = ap (λ (e : Engine). e.owners) end

      less-seats : v.seats ≡ maps.remove w.seats tx
      less-seats = ap (λ (e : Engine). e.seats) end ∙ ap (λ (e : Engine). maps.remove e.seats tx) owners

      own-gone : IsSeat later tx (maps.get later.txs tx) (maps.get v.seats tx)
      own-gone =
          subst (λ (o : Option Txn). IsSeat later tx o (maps.get v.seats tx)) (sym (less-here s.txs tx))
          (subst (λ (x : Option Seat). IsSeat later tx None x) (sym (ap (λ (m : Seated). maps.get m tx) less-seats ∙ less-here w.seats tx)) tt)

      pub ended-of : IsOf first v later
      ended-of = record {
        sound = subst (λ (o : Owned). AreSound first (folds_in o) later) (sym same-owners) sound;
        drawn = ap (λ (o : Owned). o.store.drawn) same-owners ∙ drawn ∙ b.drawn;
        few = b.few;
        moment = ap (λ (e : Engine). e.moment) end ∙ ap (λ (e : Engine). e.moment) owners ∙ b.moment;
        settings = ap (λ (e : Engine). e.settings) end ∙ ap (λ (e : Engine). e.settings) owners ∙ b.settings;
        claims = claims;
        seats = seated-around s later w.seats v.seats tx b.others (less-there s.txs tx) pieces_kept (λ u other. ap (λ (m : Seated). maps.get m u) less-seats ∙ less-there w.seats tx u other) own-gone;
        room = record {
          commits = fewer (all_of votes_of v.seats) (all_of votes_of (maps.remove w.seats tx)) (votes_of put-back) (all_of votes_of w.seats) (votes_in phase) w.owners.store.spare k.owners.store.spare v.owners.store.spare
              (ap (all_of votes_of) less-seats) (counted-less votes_of) b.commits spare (ap (λ (o : Owned). o.store.spare) same-owners);
          copies = without (all_of gives_of v.seats) (all_of gives_of (maps.remove w.seats tx)) (length b.claim.gives) (all_of gives_of w.seats) (length (moved_of t).gives) w.owners.manager.archive.spare k.owners.manager.archive.spare v.owners.manager.archive.spare
              (ap (all_of gives_of) less-seats) (counted-less gives_of) (ap length b.gives) b.copies room (ap (λ (o : Owned). o.manager.archive.spare) same-owners);
        };
      }
        where
          fewer : (a i c d n r q p : ℕ) → a ≡ i → i + c ≡ d → d + n ≤ r → r ≤ q → p ≡ q → a ≤ p
          fewer a i c d n r q p e f g h j = omega (arith, e, f, g, h, j)

          without : (a i c d n r q p : ℕ) → a ≡ i → i + c ≡ d → c ≡ n → d ≤ r → r ≤ q + n → p ≡ q → a ≤ p
          without a i c d n r q p e f g h j l = omega (arith, e, f, g, h, j, l)
