-- THE SEATS OF A STATE behind a step of one transaction, and the pieces of the others.
use Rattle.std.proofs.Common.{◌≡◌, ◌≢◌, ⊎_elim, ℕ, Bool, true, false, cond, ◌==◌, ◌&&◌, Option, Some, None, refl, sym, ◌∙◌, ap, subst}
use Rattle.std.proofs.lemmas.Bool.{cases_eq}
use Rattle.std.specs.Cmp.{nat_cmp_total, unsigned_tied}
use Rattle.std.specs.FinMap as maps
use Rattle.std.specs.FinMap.{get-remove}
use Rattle.std.specs.Ordering.{nat_cmp}
use Rattle.dl_base.specs.declared.step.Step.{Step}
use Rattle.fm_links.specs.Claims.{PathClaim, without_claim}
use Rattle.fm_links.specs.Stepping.{claimed_in}
use Rattle.fm_manager.specs.Pieces.{AreOf, Pieces}
use Rattle.fm_pieces.specs.Keeping.{AreThere, HasPieces, left_of}
use Rattle.meaning_areas.proofs.Tables.{test-other, test-same}
use Rattle.meaning_areas.specs.Core.{no_moved}
use Rattle.meaning_areas.specs.Lists.{Folds}
use Rattle.meaning_files.specs.Files.{Files}
use Rattle.meaning_history.specs.Sound.{AreSound}
use Rattle.meaning_settling.specs.Keyed.{Keyed}
use Rattle.meaning_settling.specs.Settling.{Copies, Moved}
use Rattle.meaning_system.specs.CoreOf.{claimed_by}
use Rattle.meaning_system.specs.Machine.{step}
use Rattle.meaning_system.specs.State.{State, Txn, differs, is_active, is_doomed, moved_of}
use Rattle.sys_core.specs.Seated.{AreSeated, IsAtStage, IsSeat, IsSeatOf, is_doomed_at, let_go, phase_at}
use Rattle.sys_seats.specs.Seats.{Seated, phase_of}
use Rattle.sys_seats.specs.declared.seat.Seat.{Seat}
use Rattle.sys_seats.specs.declared.seat.Stage.{Stage}
use Rattle.sys_seats.specs.declared.seat.Stage.TheVariants as stages

-- one entry less

module _ {X : Type 0} (m : maps.FinMap nat_cmp X) (k : ℕ) where
  pub less-at : (q : ℕ) → maps.get (maps.remove m k) q ≡ cond (q == k) None (maps.get m q)
  less-at q = get-remove nat_cmp_total m k q ∙ ap (λ b. cond b None (maps.get m q)) (unsigned_tied q k)

  pub less-here : maps.get (maps.remove m k) k ≡ None
  less-here = less-at k ∙ ap (λ b. cond b None (maps.get m k)) (test-same k k refl)

  pub less-there : (q : ℕ) → q ≢ k → maps.get (maps.remove m k) q ≡ maps.get m q
  less-there q other = less-at q ∙ ap (λ b. cond b None (maps.get m q)) (test-other q k other)

-- PIECES

abbrev AreOfBoth : Files → Copies → Txn → Pieces → Type 0
AreOfBoth files copies v p = AreOf (left_of copies p) (moved_of v) (record { files = files; copies = copies; held = maps.empty })

-- where files and copies are the same
pub pieces-same : (s t : State) (u : ℕ) (v : Txn) (p : Option Pieces) → s.files ≡ t.files → s.copies ≡ t.copies → HasPieces s u v p → HasPieces t u v p
pieces-same s t u v None files copies has = has
pieces-same s t u v (Some p) files copies has =
    (has.0, has.1, subst (λ (f : Files). AreOfBoth f t.copies v p) files (subst (λ (c : Copies). AreOfBoth s.files c v p) copies has.2), subst (λ (f : Files). AreThere f (moved_of v)) files has.3)

-- those of all transactions but one are kept
abbrev pub ArePiecesKept : ℕ → State → State → Type 0
ArePiecesKept tx s t = (u : ℕ) (v : Txn) (p : Option Pieces) → u ≢ tx → maps.get s.txs u ≡ Some v → is_active v.phase ≡ false → HasPieces s u v p → HasPieces t u v p

pub pieces-kept : (tx : ℕ) (s t : State) → s.files ≡ t.files → s.copies ≡ t.copies → ArePiecesKept tx s t
pieces-kept tx s t files copies = λ u v p other at rests has. pieces-same s t u v p files copies has

-- the law that they stay what they are
abbrev pub PiecesStay : Type 0
PiecesStay =
    (first : ℕ) (f : Folds) (s : State) (x : Step) (tx : ℕ) (t : Txn) (p : Option Pieces) → AreSound first f s → maps.get s.txs tx ≡ Some t → is_active t.phase ≡ false
    → maps.get (step s x).1.txs tx ≡ Some t → HasPieces s tx t p → HasPieces (step s x).1 tx t p

pub pieces-stay : PiecesStay → (first : ℕ) (f : Folds) (s : State) (x : Step) (tx : ℕ) (later : State) → AreSound first f s → (step s x).1 ≡ later → ((u : ℕ) → u ≢ tx → maps.get later.txs u ≡ maps.get s.txs u) → ArePiecesKept tx s later
pieces-stay law first f s x tx later sound is same = λ u v p other at rests has.
    subst (λ (t : State). HasPieces t u v p) is (law first f s x u v p sound at rests (ap (λ (t : State). maps.get t.txs u) is ∙ same u other ∙ at) has)

-- A TRANSACTION'S STAGE where its pieces are kept

stage-kept : (s t : State) (u : ℕ) (v : Txn) (x : Stage) → ((p : Option Pieces) → is_active v.phase ≡ false → HasPieces s u v p → HasPieces t u v p) → IsAtStage s u v x → IsAtStage t u v x
stage-kept s t u v stages.Active kept at = at
stage-kept s t u v (stages.Prepared vote) kept at = (at.0, record { made = at.1.made; names = at.1.names; pieces = kept vote.pieces (ap is_active at.0) at.1.pieces })
stage-kept s t u v (stages.Decided p) kept at = (at.0, kept p (ap is_active at.0) at.1)

pub seat-kept : (s t : State) (u : ℕ) (v : Txn) (x : Seat) → ((p : Option Pieces) → is_active v.phase ≡ false → HasPieces s u v p → HasPieces t u v p) → IsSeatOf s u v x → IsSeatOf t u v x
seat-kept s t u v x kept is = record { seen = is.seen; gives = is.gives; takes = is.takes; stage = stage-kept s t u v x.stage kept is.stage }

pub is-seat-kept : (s t : State) (u : ℕ) (o : Option Txn) (x : Option Seat) → ((v : Txn) (p : Option Pieces) → o ≡ Some v → is_active v.phase ≡ false → HasPieces s u v p → HasPieces t u v p) → IsSeat s u o x → IsSeat t u o x
is-seat-kept s t u None None kept is = tt
is-seat-kept s t u None (Some x) kept is = absurd is
is-seat-kept s t u (Some v) None kept is = absurd is
is-seat-kept s t u (Some v) (Some x) kept is = seat-kept s t u v x (λ p rests has. kept v p refl rests has) is

-- THE SEATS behind a change of one transaction
module _ (s t : State) (seats later : Seated) (are : AreSeated s seats) where
  -- a transaction that is the same, as is its seat
  seated-as : (u : ℕ) → maps.get t.txs u ≡ maps.get s.txs u → maps.get later u ≡ maps.get seats u → ((v : Txn) (p : Option Pieces) → maps.get s.txs u ≡ Some v → is_active v.phase ≡ false → HasPieces s u v p → HasPieces t u v p)
      → IsSeat t u (maps.get t.txs u) (maps.get later u)
  seated-as u same kept pieces =
      subst (λ (o : Option Txn). IsSeat t u o (maps.get later u)) (sym same)
      (subst (λ (x : Option Seat). IsSeat t u (maps.get s.txs u) x) (sym kept) (is-seat-kept s t u (maps.get s.txs u) (maps.get seats u) pieces (are u)))

  pub seated-but : (tx : ℕ) → ((u : ℕ) → u ≢ tx → maps.get t.txs u ≡ maps.get s.txs u) → ArePiecesKept tx s t → ((u : ℕ) → u ≢ tx → maps.get later u ≡ maps.get seats u)
      → IsSeat t tx (maps.get t.txs tx) (maps.get later tx) → AreSeated t later
  seated-but tx same pieces kept own u = ⊎_elim
      (λ (e : u ≡ tx). subst (λ (q : ℕ). IsSeat t q (maps.get t.txs q) (maps.get later q)) (sym e) own)
      (λ (other : u ≢ tx). seated-as u (same u other) (kept u other) (λ v p at rests has. pieces u v p other at rests has))
      (cases_eq u tx)

  -- none is changed
  pub seated-all : ((u : ℕ) → maps.get t.txs u ≡ maps.get s.txs u) → ((u : ℕ) (v : Txn) (p : Option Pieces) → maps.get s.txs u ≡ Some v → is_active v.phase ≡ false → HasPieces s u v p → HasPieces t u v p)
      → ((u : ℕ) → maps.get later u ≡ maps.get seats u) → AreSeated t later
  seated-all same pieces kept u = seated-as u (same u) (kept u) (pieces u)

-- THE SEAT OF A TRANSACTION, and of none

pub seat-of : (s : State) (seats : Seated) (tx : ℕ) (t : Txn) → AreSeated s seats → maps.get s.txs tx ≡ Some t → (x : Seat) × (maps.get seats tx ≡ Some x) × IsSeatOf s tx t x
seat-of s seats tx t are at = by (maps.get seats tx) refl (subst (λ (o : Option Txn). IsSeat s tx o (maps.get seats tx)) at (are tx))
  where
    by : (o : Option Seat) → maps.get seats tx ≡ o → IsSeat s tx (Some t) o → (x : Seat) × (maps.get seats tx ≡ Some x) × IsSeatOf s tx t x
    by None e is = absurd is
    by (Some x) e is = (x, e, is)

-- of a seat that is known
pub seat-is : (s : State) (seats : Seated) (tx : ℕ) (t : Txn) (x : Seat) → AreSeated s seats → maps.get s.txs tx ≡ Some t → maps.get seats tx ≡ Some x → IsSeatOf s tx t x
seat-is s seats tx t x are at is =
    subst (λ (o : Option Seat). IsSeat s tx (Some t) o) is (subst (λ (o : Option Txn). IsSeat s tx o (maps.get seats tx)) at (are tx))

pub no-seat : (s : State) (seats : Seated) (tx : ℕ) → AreSeated s seats → maps.get s.txs tx ≡ None → maps.get seats tx ≡ None
no-seat s seats tx are at = by (maps.get seats tx) (subst (λ (o : Option Txn). IsSeat s tx o (maps.get seats tx)) at (are tx))
  where
    by : (o : Option Seat) → IsSeat s tx None o → o ≡ None
    by None is = refl
    by (Some x) is = absurd is

-- HOW FAR a transaction is

pub stage-phase : (s : State) (tx : ℕ) (t : Txn) (x : Stage) → IsAtStage s tx t x → phase_of x ≡ t.phase
stage-phase s tx t stages.Active at = sym at
stage-phase s tx t (stages.Prepared vote) at = sym at.0
stage-phase s tx t (stages.Decided p) at = sym at.0

pub seat-phase : (s : State) (seats : Seated) (tx : ℕ) (t : Txn) → AreSeated s seats → maps.get s.txs tx ≡ Some t → phase_at (maps.get seats tx) ≡ t.phase
seat-phase s seats tx t are at =
    let x = seat-of s seats tx t are at in
    ap phase_at x.1 ∙ stage-phase s tx t x.0.stage x.2.stage

-- WHAT IT CLAIMS

pub seat-moved : (s : State) (tx : ℕ) (t : Txn) (x : Seat) → IsSeatOf s tx t x → ◌≡◌ {A = Moved} (record { gives = x.claim.gives; takes = x.claim.takes; fill = false }) (moved_of t)
seat-moved s tx t x is = λ i. record { gives = is.gives i; takes = is.takes i; fill = false }

pub seat-doomed : (s : State) (tx : ℕ) (t : Txn) (x : Seat) (opening : ℕ) → IsSeatOf s tx t x → opening ≡ s.links_opening → is_doomed_at opening x ≡ is_doomed s t
seat-doomed s tx t x opening is same =
    let phase : phase_of x.stage ≡ t.phase = stage-phase s tx t x.stage is.stage in
    λ i. is_active (phase i) && differs (is.seen i) (same i)

-- the claims once it lets its own go
pub let-go : (s : State) (tx : ℕ) (t : Txn) (o : Option Seat) (x : Seat) (opening : ℕ) (claims : Keyed PathClaim) → o ≡ Some x → IsSeatOf s tx t x → opening ≡ s.links_opening
    → let_go opening o claims ≡ without_claim (claimed_in s t) claims
let-go s tx t o x opening claims at is same =
    let doomed : is_doomed_at opening x ≡ is_doomed s t = seat-doomed s tx t x opening is same in
    let moves : ◌≡◌ {A = Moved} (record { gives = x.claim.gives; takes = x.claim.takes; fill = false }) (moved_of t) = seat-moved s tx t x is in
    ap (λ (y : Option Seat). let_go opening y claims) at ∙ (λ i. without_claim (claimed_by (doomed i) (moves i)) claims)

-- a doomed one has none that it could let go

without-nothing : (claims : Keyed PathClaim) → without_claim no_moved claims ≡ claims
unfolding without_claim
without-nothing claims = refl

pub let-go-none : (o : Option Seat) (x : Seat) (opening : ℕ) (claims : Keyed PathClaim) → o ≡ Some x → is_doomed_at opening x ≡ true → claims ≡ let_go opening o claims
let-go-none o x opening claims at doomed = sym
    (ap (λ (y : Option Seat). let_go opening y claims) at
    ∙ ap (λ (b : Bool). without_claim (claimed_by b (record { gives = x.claim.gives; takes = x.claim.takes; fill = false })) claims) doomed
    ∙ without-nothing claims)

-- those of one that is not active, whatever stands in its stage
pub let-go-bound : (t : Txn) (o : Option Seat) (x : Seat) (opening : ℕ) (claims : Keyed PathClaim) → o ≡ Some x → is_active (phase_of x.stage) ≡ false → x.claim.gives ≡ (moved_of t).gives → x.claim.takes ≡ (moved_of t).takes
    → let_go opening o claims ≡ without_claim (moved_of t) claims
let-go-bound t o x opening claims at rests gives takes =
    let doomed : is_doomed_at opening x ≡ false = ap (λ (b : Bool). b && differs x.claim.seen opening) rests in
    ap (λ (y : Option Seat). let_go opening y claims) at
    ∙ (λ i. without_claim (claimed_by (doomed i) (record { gives = gives i; takes = takes i; fill = false })) claims)
