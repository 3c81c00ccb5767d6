-- A TRANSACTION BEGINS.
use Rattle.std.proofs.Common.{◌≡◌, ℕ, ◌+◌, ◌-◌, ◌*◌, ◌^◌, ◌<◌, ◌≤◌, List, [], ◌++◌, Bool, true, false, cond, ◌&&◌, map, nat_lt, Option, Some, None, Result, Ok, Err, refl, sym, ◌∙◌, ap, subst, arith}
use Rattle.std.proofs.lemmas.Bool.Decides.{nat_tests}
use Rattle.std.specs.FinMap as maps
use Rattle.std.specs.Option.{option_map}
use Rattle.db_store.specs.Store.{drawn_next}
use Rattle.db_txn.specs.Transaction.{Transaction}
use Rattle.db_txn.specs.Transaction as working
use Rattle.dl_base.specs.Faults.{step_fault}
use Rattle.dl_base.specs.Limits.{most_numbers}
use Rattle.dl_base.specs.declared.answer.Answer.{Answer}
use Rattle.dl_base.specs.declared.answer.Answer.TheVariants as answers
use Rattle.dl_base.specs.declared.answer.Refusal.TheVariants as reasons
use Rattle.dl_base.specs.declared.fault.AppendFault.{AppendFault}
use Rattle.dl_base.specs.declared.fault.AppendFault.TheVariants as appends
use Rattle.dl_base.specs.declared.fault.Full.{Full}
use Rattle.dl_base.specs.declared.fault.Full.TheVariants as fulls
use Rattle.dl_base.specs.declared.fault.StepFault.{StepFault}
use Rattle.dl_base.specs.declared.fault.StepFault.TheVariants as faults
use Rattle.dl_base.specs.declared.step.Step.TheVariants as steps
use Rattle.dl_base.specs.declared.value.LinkRow.{LinkRow}
use Rattle.fm_links.specs.Claims.{PathClaim}
use Rattle.fm_links.specs.Searching.{AreClaims}
use Rattle.meaning_areas.proofs.Tables.{get-here, get-there, some_same}
use Rattle.meaning_areas.specs.Commits.{Commit, tables_after}
use Rattle.meaning_areas.specs.Lists.{Folds, folds_on}
use Rattle.meaning_history.proofs.Steps.{have-fits}
use Rattle.meaning_history.specs.Sound.{AreSound}
use Rattle.meaning_settling.specs.Keyed.{Keyed}
use Rattle.meaning_settling.specs.Settling.{Moved}
use Rattle.meaning_system.proofs.Stepping.{begun-moved}
use Rattle.meaning_areas.specs.Full.{draw_full}
use Rattle.meaning_system.specs.Machine.{begin, begun, drawing, new_txn, step}
use Rattle.meaning_system.specs.State.{State, Txn, number_of, numbered_txn, tables_of, txn_at, txn_of}
use Rattle.meaning_system.specs.Writes.{writes}
use Rattle.meaning_tables.specs.Fits.{RowsFit, differ, rows_fit}
use Rattle.meaning_tables.specs.Links.{links, same_number}
use Rattle.sys_core.proofs.Behind.{EachLeads, behind-sound, no-begin}
use Rattle.sys_core.proofs.Ended.{SeatsPut}
use Rattle.sys_core.proofs.Refused.{Leaves}
use Rattle.sys_core.proofs.Seating.{pieces-kept, seated-but}
use Rattle.sys_core.specs.Seated.{IsSeat, IsSeatOf, shown_by}
use Rattle.sys_core.specs.Standing.{IsOf}
use Rattle.sys_core.specs.Steps.{Shows, StepsInMemory, draws_by, records_of, undrawn}
use Rattle.sys_core.specs.declared.engine.Engine.{Engine}
use Rattle.sys_owners.proofs.InARow.{append-nil}
use Rattle.sys_owners.specs.Owned.{folds_in, journals_of}
use Rattle.sys_seats.specs.Seats.{all_of, count_at, gives_of, votes_of}
use Rattle.sys_seats.specs.declared.seat.Seat.{Seat}
use Rattle.sys_seats.specs.declared.seat.Stage.TheVariants as stages

-- WHAT THE MACHINE DOES

pub in-transaction : (s : State) (session tx : ℕ) (t : Txn) → txn_of s session ≡ Some (tx, t) → Leaves s (steps.Begin session) (answers.Refused (reasons.InTransaction tx))
unfolding step writes
in-transaction s session tx t of = record { is = ap (begin s session) of; records = ap (λ (o : Option (ℕ × Txn)). draws_by o (s.drawn + 1) ++ []) of }

pub begun-step : (s : State) (session : ℕ) → txn_of s session ≡ None → step s (steps.Begin session) ≡ begun s session
unfolding step
begun-step s session none = ap (begin s session) none

begun-writes : (s : State) (session : ℕ) → writes s (steps.Begin session) ≡ []
unfolding writes
begun-writes s session = refl

pub begun-records : (s : State) (session : ℕ) → txn_of s session ≡ None → records_of s (steps.Begin session) ≡ undrawn (draw_full (s.drawn + 1))
unfolding writes
begun-records s session none = ap (λ (o : Option (ℕ × Txn)). draws_by o (s.drawn + 1) ++ []) none ∙ append-nil (undrawn (draw_full (s.drawn + 1)))

-- NUMBERS THAT ARE LEFT

none_some : {A : Type 0} (x : A) → None ≡ Some x → ⊥
none_some x e = cc

ok_err : {T E : Type 0} (x : T) (e : E) → ◌≡◌ {A = Result T E} (Ok x) (Err e) → ⊥
ok_err x e is = cc

err_same : {T E : Type 0} (x y : E) → ◌≡◌ {A = Result T E} (Err x) (Err y) → x ≡ y
err_same x y e = cc

pub draw-left : (n : ℕ) → draw_full n ≡ None → n + 1 < 2 ^ 32
draw-left n none = by (nat_lt most_numbers n) refl none
  where
    least : (a b : ℕ) → nat_lt a b ≡ false → b ≤ a
    least a b e = grind (arith, nat_tests)

    by : (b : Bool) → nat_lt most_numbers n ≡ b → cond b (Some (fulls.Transactions (n - 1))) None ≡ None → n + 1 < 2 ^ 32
    by true e some = absurd (none_some (fulls.Transactions (n - 1)) (sym some))
    by false e some = let le : n ≤ 4294967294 = least 4294967294 n e in omega (arith, le)

-- that one is left is told by a number that comes
pub left-is : (o : Option Full) → None ≡ option_map (λ f. appends.Full f) o → o ≡ None
left-is None e = refl
left-is (Some f) e = absurd (none_some (appends.Full f) e)

-- the number that comes is the machine's
pub next-is : (first : ℕ) (w : Engine) (s : State) → IsOf first w s → drawn_next w.owners.store ≡ number_of (drawing s)
next-is first w s is = same w.owners.store.rows.opening s.rows_opening w.owners.store.drawn s.drawn is.sound.follows.joint.rows_opening is.drawn
  where
    same : (a b c d : ℕ) → a ≡ b → c ≡ d → a * 2 ^ 32 + c + 1 ≡ b * 2 ^ 32 + (d + 1)
    same a b c d e f = omega (arith, e, f)

-- the committed tables fit
pub rows-fit : (first : ℕ) (w : Engine) (s : State) → IsOf first w s → RowsFit (tables_after [] w.owners.store.rows.commits)
rows-fit first w s is =
    subst (λ (cs : List Commit). RowsFit (tables_after [] cs)) (sym is.sound.follows.joint.commits)
    (first-of (rows_fit (tables_of s)) (differ same_number (map (λ (l : LinkRow). l.link) (links (tables_of s)))) (have-fits first s is.sound.history).committed)
  where
    first-of : (a b : Bool) → (a && b) ≡ true → a ≡ true
    first-of true b e = refl
    first-of false b e = absurd cc

-- IT HAS BEGUN

abbrev pub fresh : Seat
fresh = record { claim = record { seen = None; gives = []; takes = [] }; stage = stages.Active }

abbrev pub begun-engine : Engine → ℕ → Engine
begun-engine w tx = record w {
  owners = record w.owners { store = record w.owners.store { drawn = w.owners.store.drawn + 1 } };
  seats = maps.insert w.seats tx fresh;
}

abbrev pub ClaimsBegin : Type 0
ClaimsBegin = (first : ℕ) (f : Folds) (s : State) (claims : Keyed PathClaim) (session : ℕ) → AreSound first f s → AreClaims claims s → AreClaims claims (step s (steps.Begin session)).1

module _ (law : EachLeads) (claims : ClaimsBegin) (put : SeatsPut) (first : ℕ) (w : Engine) (s : State) (session : ℕ) (is : IsOf first w s) (none : txn_of s session ≡ None) (left : draw_full (w.owners.store.drawn + 1) ≡ None) where
  abbrev tx : ℕ
  tx = number_of (drawing s)

  abbrev later : State
  later = (begun s session).1

  state : (step s (steps.Begin session)).1 ≡ later
  state = ap (λ (e : Answer × State). e.1) (begun-step s session none)

  own-seat : IsSeatOf later tx (new_txn (tables_of s)) fresh
  own-seat = record {
    seen = refl;
    gives = ap (λ (m : Moved). m.gives) (sym (begun-moved (tables_of s)));
    takes = ap (λ (m : Moved). m.takes) (sym (begun-moved (tables_of s)));
    stage = refl;
  }

  own : IsSeat later tx (maps.get later.txs tx) (maps.get (maps.insert w.seats tx fresh) tx)
  own =
      subst (λ (o : Option Txn). IsSeat later tx o (maps.get (maps.insert w.seats tx fresh) tx)) (sym (get-here s.txs tx (new_txn (tables_of s))))
      (subst (λ (x : Option Seat). IsSeat later tx (Some (new_txn (tables_of s))) x) (sym (get-here w.seats tx fresh)) own-seat)

  no-more : (count : Seat → ℕ) (spare : ℕ) → count fresh ≡ 0 → all_of count w.seats ≤ spare → all_of count (maps.insert w.seats tx fresh) ≤ spare
  no-more count spare nothing le = by (all_of count (maps.insert w.seats tx fresh)) (count_at count (maps.get w.seats tx)) (all_of count w.seats) (count fresh) (put count w.seats tx fresh) nothing le
    where
      by : (i c a f : ℕ) → i + c ≡ a + f → f ≡ 0 → a ≤ spare → i ≤ spare
      by i c a f e z le = omega (arith, e, z, le)

  begun-sound : AreSound first (folds_in w.owners) later
  begun-sound = behind-sound law first (folds_in w.owners) s (steps.Begin session) is.sound is.few (no-begin session) (folds_in w.owners) later (nothing-leads (folds_in w.owners) s session) state
    where
      nothing-leads : (f : Folds) (s : State) (session : ℕ) → folds_on (Some f) (writes s (steps.Begin session)) ≡ Some f
      nothing-leads f s session = ap (folds_on (Some f)) (begun-writes s session)

  begun-of : IsOf first (begun-engine w tx) later
  begun-of = record {
    sound = begun-sound;
    drawn = ap (λ (n : ℕ). n + 1) is.drawn;
    few = draw-left (s.drawn + 1) (subst (λ (n : ℕ). draw_full (n + 1) ≡ None) is.drawn left);
    moment = is.moment;
    settings = is.settings;
    claims = subst (λ (t : State). AreClaims w.claims.claims t) state (claims first (folds_in w.owners) s w.claims.claims session is.sound is.claims);
    seats = seated-but s later w.seats (maps.insert w.seats tx fresh) is.seats tx (get-there s.txs tx (new_txn (tables_of s))) (pieces-kept tx s later refl refl) (get-there w.seats tx fresh) own;
    room = record { commits = no-more votes_of w.owners.store.spare refl is.room.commits; copies = no-more gives_of w.owners.manager.archive.spare refl is.room.copies };
  }

  module _ (v : Engine) (n : ℕ) (number : n ≡ drawn_next w.owners.store) (becomes : v ≡ begun-engine w n) where
    number-is : n ≡ tx
    number-is = number ∙ next-is first w s is

    engine-is : v ≡ begun-engine w tx
    engine-is = becomes ∙ ap (begun-engine w) number-is

    pub begins : StepsInMemory first (steps.Begin session) s w v (Ok (answers.Begun n))
    begins = record {
      answers = record {
        answer = ap (λ (q : ℕ). answers.Begun q) number-is ∙ sym (ap (λ (e : Answer × State). e.0) (begun-step s session none));
        state = subst (λ (t : State). IsOf first v t) (sym state) (subst (λ (e : Engine). IsOf first e later) (sym engine-is) begun-of);
      };
      memory = λ e. absurd (ok_err (answers.Begun n) _ e);
      journals = ap (λ (e : Engine). journals_of e.owners) engine-is;
      fits = begun-records s session none ∙ ap undrawn (subst (λ (d : ℕ). draw_full (d + 1) ≡ None) is.drawn left);
      full = λ f e. absurd (ok_err (answers.Begun n) _ e);
      no_device = λ e. ok_err (answers.Begun n) _ e;
    }

    -- and the session's object has it
    begun-txn : txn_of later session ≡ Some (tx, new_txn (tables_of s))
    begun-txn = ap (txn_at later) (get-here s.sessions session tx) ∙ ap (numbered_txn tx) (get-here s.txs tx (new_txn (tables_of s)))

    pub begins-shown : (a b : Transaction) → a.session ≡ session → b ≡ working.begun a.session n (tables_after [] w.owners.store.rows.commits) → Shows (steps.Begin session) s a b (Ok (answers.Begun n))
    begins-shown a b of is_now = record {
      shown =
          is_now ∙ (λ i. working.begun a.session (number-is i) (tables_after [] (is.sound.follows.joint.commits i)))
          ∙ ap (shown_by a.session) (sym begun-txn) ∙ ap (λ (q : ℕ). shown_by a.session (txn_of later q)) (sym of) ∙ ap (λ (t : State). shown_by a.session (txn_of t a.session)) (sym state);
      memory = λ e. absurd (ok_err (answers.Begun n) _ e);
    }

-- IT DOES NOT BEGIN
module _ (first : ℕ) (w : Engine) (s : State) (session : ℕ) (is : IsOf first w s) (none : txn_of s session ≡ None) where
  -- for want of a number
  module _ (a : AppendFault) (e : StepFault) (why : Some a ≡ option_map (λ f. appends.Full f) (draw_full (w.owners.store.drawn + 1))) (gives : e ≡ step_fault a) where
    full-of : (o : Option Full) → Some a ≡ option_map (λ f. appends.Full f) o → (g : Full) × (o ≡ Some g) × (a ≡ appends.Full g)
    full-of None at = absurd (none_some a (sym at))
    full-of (Some g) at = (g, refl, some_same a (appends.Full g) at)

    found : (g : Full) × (draw_full (w.owners.store.drawn + 1) ≡ Some g) × (a ≡ appends.Full g)
    found = full-of (draw_full (w.owners.store.drawn + 1)) why

    fault-is : e ≡ faults.Full found.0
    fault-is = gives ∙ ap step_fault found.2

    same-full : (f : Full) → faults.Full f ≡ faults.Full found.0 → found.0 ≡ f
    same-full f at = cc

    not-device : faults.Device ≡ faults.Full found.0 → ⊥
    not-device at = cc

    pub begin-full : StepsInMemory first (steps.Begin session) s w w (Err e)
    begin-full = record {
      answers = tt;
      memory = λ m. is;
      journals = refl;
      fits = tt;
      full = λ f at.
          begun-records s session none
          ∙ ap (λ (d : ℕ). undrawn (draw_full (d + 1))) (sym is.drawn)
          ∙ ap undrawn (found.1 ∙ ap (λ (g : Full). Some g) (same-full f (sym (err_same {T = Answer} e (faults.Full f) at) ∙ fault-is)));
      no_device = λ at. not-device (sym (err_same {T = Answer} e faults.Device at) ∙ fault-is);
    }

  -- for want of memory
  pub begin-memory : (v : Engine) → v ≡ w → StepsInMemory first (steps.Begin session) s w v (Err faults.Memory)
  begin-memory v same = record {
    answers = tt;
    memory = λ m. subst (λ (e : Engine). IsOf first e s) (sym same) is;
    journals = ap (λ (e : Engine). journals_of e.owners) same;
    fits = tt;
    full = λ f at. absurd (memory_full f (err_same {T = Answer} faults.Memory (faults.Full f) at));
    no_device = λ at. memory_device (err_same {T = Answer} faults.Memory faults.Device at);
  }
    where
      memory_full : (f : Full) → faults.Memory ≡ faults.Full f → ⊥
      memory_full f e = cc

      memory_device : faults.Memory ≡ faults.Device → ⊥
      memory_device e = cc
