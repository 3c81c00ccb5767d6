-- A STATEMENT by what its evaluation and its claim have come to.
use Rattle.std.proofs.Common.{◌≡◌, ◌≢◌, ⊎_elim, ℕ, ◌+◌, ◌≤◌, Bool, true, false, cond, ◌&&◌, ◌||◌, List, [], ◌∷◌, length, Option, Some, None, Result, Ok, Err, refl, sym, ◌∙◌, ap, subst, arith}
use Rattle.std.proofs.lemmas.Bool.{or_parts}
use Rattle.std.specs.Cmp.Lexicographic.{pointwise}
use Rattle.std.specs.FinMap as maps
use Rattle.db_txn.specs.Transaction.{Transaction, after_evaluation, back_to, is_evaluated, is_refused, standing, undone_to}
use Rattle.dl_base.specs.declared.answer.Answer.{Answer}
use Rattle.dl_base.specs.declared.answer.Answer.TheVariants as answers
use Rattle.dl_base.specs.declared.answer.Refusal.{Refusal}
use Rattle.dl_base.specs.declared.answer.Refusal.TheVariants as reasons
use Rattle.dl_base.specs.declared.fault.Full.{Full}
use Rattle.dl_base.specs.declared.fault.StepFault.{StepFault}
use Rattle.dl_base.specs.declared.fault.StepFault.TheVariants as faults
use Rattle.dl_base.specs.declared.sql_fault.SqlFault.{SqlFault}
use Rattle.dl_base.specs.declared.statement.Stmt.{Stmt}
use Rattle.dl_base.specs.declared.statement.Stmt.TheVariants as statements
use Rattle.dl_base.specs.declared.step.Phase.TheVariants as phases
use Rattle.dl_base.specs.declared.step.Step.{Step}
use Rattle.dl_base.specs.declared.step.Step.TheVariants as steps
use Rattle.dl_base.specs.declared.value.LinkRow.{LinkRow}
use Rattle.fm_links.specs.Claims.{ClaimTable, PathClaim, moved}
use Rattle.fm_links.specs.Searching.{AreClaims}
use Rattle.fm_links.specs.Stepping.{claimed_in, replaced}
use Rattle.meaning_areas.proofs.Tables.{get-here, get-there}
use Rattle.meaning_areas.proofs.Votes.{link-self}
use Rattle.meaning_areas.specs.Lists.{Folds, folds_on}
use Rattle.meaning_areas.specs.Same.{same_link}
use Rattle.meaning_history.specs.Sound.{AreSound}
use Rattle.meaning_settling.specs.Keyed.{Keyed}
use Rattle.meaning_settling.specs.Settling.{Moved}
use Rattle.meaning_sql.specs.declared.Context.{Context}
use Rattle.meaning_statements.specs.Changing.{Changed, change}
use Rattle.meaning_system.proofs.Claiming.{or-none}
use Rattle.meaning_system.proofs.Kept.{moved-same}
use Rattle.meaning_system.specs.Claims.{by_evaluated, claim_refusal, claimed, doomed, first_seen, same_moved, seen_or_zero, statement, with_names}
use Rattle.meaning_system.specs.CoreOf.{claimed_by}
use Rattle.meaning_system.specs.Machine.{on_session, on_txn, stated, step}
use Rattle.meaning_system.specs.Sql as machine
use Rattle.meaning_system.specs.Sql.{named_by}
use Rattle.meaning_system.specs.State.{State, Txn, context_of, differs, is_active, is_doomed, moved_of, txn_of, with_txn}
use Rattle.meaning_system.specs.Writes.{writes}
use Rattle.meaning_tables.specs.Links.{gives, takes}
use Rattle.meaning_tables.specs.Tables.{Tables}
use Rattle.sql_run.specs.Outcomes as run
use Rattle.sql_run.specs.Outcomes.{answer_of}
use Rattle.sql_run.specs.declared.evaluating.Outcome.{Outcome}
use Rattle.sql_run.specs.declared.evaluating.Outcome.TheVariants as outcomes
use Rattle.sys_core.proofs.Awaiting.{false_true}
use Rattle.sys_core.proofs.Behind.{EachLeads, IsNoRestore, behind-sound}
use Rattle.sys_core.proofs.Claiming.{BusyIsFound, LinkedIsFound, claim-is}
use Rattle.sys_core.proofs.Ended.{SeatsPut}
use Rattle.sys_core.proofs.Knowing.{Knows, put-txn}
use Rattle.sys_core.proofs.Seating.{pieces-kept, seat-moved, seat-of, seated-but}
use Rattle.sys_core.specs.Claiming.{EndsClaim, HasSameClaims, IsAccepted, IsDenied, IsUnasked, claims_same, claims_with, is_unasked, leaves_tables, opening_in, seat_claim, told_of}
use Rattle.sys_core.specs.Seated.{IsAtStage, IsSeat, IsSeatOf, shown_by}
use Rattle.sys_core.specs.Standing.{IsOf}
use Rattle.sys_core.specs.Steps.{Answers, Shows, StepsInMemory, records_of}
use Rattle.sys_core.specs.declared.engine.Engine.{Engine}
use Rattle.sys_owners.specs.Owned.{folds_in, journals_of}
use Rattle.sys_seats.specs.Seats.{Seated, all_of, count_at, gives_at, gives_of, votes_at, votes_of, with_claim}
use Rattle.sys_seats.specs.declared.seat.Seat.{Seat}
use Rattle.sys_seats.specs.declared.seat.Stage.{Stage}
use Rattle.sys_seats.specs.declared.seat.Stage.TheVariants as stages

-- WHAT THE CRATES BELOW PROMISE

abbrev pub StatementClaims : Type 0
StatementClaims =
    (first : ℕ) (f : Folds) (s : State) (claims : Keyed PathClaim) (session tx : ℕ) (t : Txn) (stmt : Stmt) → AreSound first f s → AreClaims claims s → txn_of s session ≡ Some (tx, t) → t.phase ≡ phases.Active
    → AreClaims (replaced tx (claimed_in s t) (claimed_in s (statement s tx t stmt).1) claims) (step s (steps.Statement session stmt)).1

abbrev pub StatementKeeps : Type 0
StatementKeeps =
    (first : ℕ) (f : Folds) (s : State) (claims : Keyed PathClaim) (session tx : ℕ) (t : Txn) (stmt : Stmt) → AreSound first f s → AreClaims claims s → txn_of s session ≡ Some (tx, t) → t.phase ≡ phases.Active
    → claimed_in s (statement s tx t stmt).1 ≡ claimed_in s t → AreClaims claims (step s (steps.Statement session stmt)).1

abbrev pub ClaimIsAccepted : Type 0
ClaimIsAccepted = (s : State) (tx : ℕ) (after : Txn) → claim_refusal s tx after ≡ None → (claimed_in s after ≡ moved_of after) × (claimed_in s (record after { seen = first_seen after.seen s.links_opening }) ≡ moved_of after)

abbrev pub EvaluationIsMachines : Type 0
EvaluationIsMachines =
    (tables : Tables) (stmt : Stmt) (context : Context) (k : ℕ) → is_evaluated stmt ≡ true
    → machine.evaluated tables stmt context k ≡ record {
      answer = answer_of (run.evaluated tables stmt context k).outcome;
      refused = is_refused (run.evaluated tables stmt context k).outcome;
      tables = (run.evaluated tables stmt context k).tables;
      next = (run.evaluated tables stmt context k).next;
    }

pub record Laws : Type 0 where
  pub leads : EachLeads
  pub busy : BusyIsFound
  pub linked : LinkedIsFound
  pub claims : StatementClaims
  pub keeps : StatementKeeps
  pub accepted : ClaimIsAccepted
  pub evaluation : EvaluationIsMachines
  pub put : SeatsPut

no-statement : (session : ℕ) (stmt : Stmt) → IsNoRestore (steps.Statement session stmt)
no-statement session stmt t e = cc

none_some : {A : Type 0} (x : A) → None ≡ Some x → ⊥
none_some x e = cc

ok_err : {T E : Type 0} (x : T) (e : E) → ◌≡◌ {A = Result T E} (Ok x) (Err e) → ⊥
ok_err x e is = cc

fault_same : {T : Type 0} (x y : StepFault) → ◌≡◌ {A = Result T StepFault} (Err x) (Err y) → x ≡ y
fault_same x y is = cc

-- AN EVALUATION THAT IS REFUSED, and a query's, leaves tables and numbers as they were

counted-same : (tables : Tables) (k : ℕ) (r : Result Changed SqlFault) → leaves_tables (run.after_change tables k run.counted r).outcome ≡ true → ((run.after_change tables k run.counted r).tables ≡ tables) × ((run.after_change tables k run.counted r).next ≡ k)
counted-same tables k (Ok made) e = absurd cc
counted-same tables k (Err fault) e = (refl, refl)

done-same : (tables : Tables) (k : ℕ) (r : Result Changed SqlFault) → leaves_tables (run.after_change tables k run.done r).outcome ≡ true → ((run.after_change tables k run.done r).tables ≡ tables) × ((run.after_change tables k run.done r).next ≡ k)
done-same tables k (Ok made) e = absurd cc
done-same tables k (Err fault) e = (refl, refl)

left-same : (tables : Tables) (stmt : Stmt) (context : Context) (k : ℕ) → leaves_tables (run.evaluated tables stmt context k).outcome ≡ true → ((run.evaluated tables stmt context k).tables ≡ tables) × ((run.evaluated tables stmt context k).next ≡ k)
left-same tables (statements.CreateTable name columns) context k e = done-same tables k (change tables (statements.CreateTable name columns) context k) e
left-same tables (statements.DropTable name) context k e = done-same tables k (change tables (statements.DropTable name) context k) e
left-same tables (statements.Insert name names tuples) context k e = counted-same tables k (change tables (statements.Insert name names tuples) context k) e
left-same tables (statements.Update name sets filter) context k e = counted-same tables k (change tables (statements.Update name sets filter) context k) e
left-same tables (statements.Delete name filter) context k e = counted-same tables k (change tables (statements.Delete name filter) context k) e
left-same tables (statements.Select query) context k e = (refl, refl)
left-same tables statements.Begin context k e = (refl, refl)
left-same tables statements.Commit context k e = (refl, refl)
left-same tables statements.Rollback context k e = (refl, refl)

-- where it changes them it is not refused
unrefused : (o : Outcome) → leaves_tables o ≡ false → is_refused o ≡ false
unrefused (outcomes.Changed count) e = refl
unrefused (outcomes.Rows grid) e = refl
unrefused outcomes.Done e = refl
unrefused (outcomes.Refused fault) e = absurd cc

links-self : (ls : List LinkRow) → pointwise same_link ls ls ≡ true
links-self [] = refl
links-self (l ∷ ls) = rw (link-self l) (links-self ls)

moved-self : (m : Moved) → same_moved m m ≡ true
moved-self m = rw (links-self m.gives) (links-self m.takes)

-- SEATS

-- an active transaction has made nothing yet
active-stage : (s : State) (tx : ℕ) (t : Txn) (x : Stage) → IsAtStage s tx t x → t.phase ≡ phases.Active → x ≡ stages.Active
active-stage s tx t stages.Active at active = refl
active-stage s tx t (stages.Prepared vote) at active = absurd (apart (sym active ∙ at.0))
  where
    apart : phases.Active ≡ phases.Prepared → ⊥
    apart e = cc
active-stage s tx t (stages.Decided pieces) at active = absurd (apart (sym active ∙ at.0))
  where
    apart : phases.Active ≡ phases.Decided → ⊥
    apart e = cc

-- such a seat counts nothing, whatever it claims
same-count : (count : Seat → ℕ) (put : SeatsPut) (seats : Seated) (tx : ℕ) (x y : Seat) → maps.get seats tx ≡ Some x → count x ≡ 0 → count y ≡ 0 → all_of count (maps.insert seats tx y) ≡ all_of count seats
same-count count put seats tx x y at none also =
    by (all_of count (maps.insert seats tx y)) (count_at count (maps.get seats tx)) (all_of count seats) (count y) (put count seats tx y) (ap (count_at count) at ∙ none) also
  where
    by : (i c a n : ℕ) → i + c ≡ a + n → c ≡ 0 → n ≡ 0 → i ≡ a
    by i c a n e z y = omega (arith, e, z, y)

-- THE STATEMENT
module _ (laws : Laws) (first : ℕ) (s : State) (w : Engine) (is : IsOf first w s) (session tx : ℕ) (t : Txn) (of : txn_of s session ≡ Some (tx, t)) (at : maps.get s.txs tx ≡ Some t) (sits : maps.get s.sessions session ≡ Some tx)
    (active : t.phase ≡ phases.Active) (stmt : Stmt) (plain : is_evaluated stmt ≡ true) where
  abbrev pub asked : Step
  asked = steps.Statement session stmt

  abbrev pub e : run.Evaluation
  e = run.evaluated t.copy stmt (context_of s tx) t.next

  abbrev pub answer : Answer
  answer = answer_of e.outcome

  -- the transaction without the evaluation, but for the tables that it named; with it; and what its session has then

  abbrev pub before : Txn
  before = record t { named = with_names t.named (named_by stmt) }

  abbrev pub after : Txn
  after = record before { copy = e.tables; next = e.next }

  abbrev pub v : Transaction
  v = after_evaluation (shown_by session (Some (tx, t))) stmt e

  abbrev pub own : (x : Seat) × (maps.get w.seats tx ≡ Some x) × IsSeatOf s tx t x
  own = seat-of s w.seats tx t is.seats at

  -- WHAT THE MACHINE DOES

  abbrev pub outcome : Bool → Bool → Option Refusal → Answer × Txn
  outcome refused same why = cond refused (answer, before) (cond same (answer, after) (claimed s answer before after why))

  abbrev pub refused : Bool
  refused = is_refused e.outcome

  abbrev pub same : Bool
  same = same_moved (moved_of before) (moved_of after)

  stated-is : statement s tx t stmt ≡ outcome refused same (claim_refusal s tx after)
  stated-is = ap (by_evaluated s tx before) (laws.evaluation t.copy stmt (context_of s tx) t.next plain)

  made-refused : refused ≡ true → statement s tx t stmt ≡ (answer, before)
  made-refused r = stated-is ∙ ap (λ b. outcome b same (claim_refusal s tx after)) r

  made-same : refused ≡ false → same ≡ true → statement s tx t stmt ≡ (answer, after)
  made-same r m = stated-is ∙ ap (λ b. outcome b same (claim_refusal s tx after)) r ∙ ap (λ b. outcome false b (claim_refusal s tx after)) m

  made-by : refused ≡ false → same ≡ false → (why : Option Refusal) → claim_refusal s tx after ≡ why → statement s tx t stmt ≡ claimed s answer before after why
  made-by r m why c = stated-is ∙ ap (λ b. outcome b same (claim_refusal s tx after)) r ∙ ap (λ b. outcome false b (claim_refusal s tx after)) m ∙ ap (outcome false false) c

  step-is : step s asked ≡ stated s tx (statement s tx t stmt)
  unfolding step
  step-is = ap (on_session s asked) of ∙ ap (on_txn s asked tx t) active

  no-writes : writes s asked ≡ []
  unfolding writes
  no-writes = refl

  -- WHAT IT LEADS TO
  module _ (told : Answer) (next : Txn) (made : statement s tx t stmt ≡ (told, next)) where
    abbrev pub n : State
    n = with_txn s tx next

    all : step s asked ≡ (told, n)
    all = step-is ∙ ap (stated s tx) made

    later : (step s asked).1 ≡ n
    later = ap (λ (z : Answer × State). z.1) all

    sound : AreSound first (folds_in w.owners) n
    sound = behind-sound laws.leads first (folds_in w.owners) s asked is.sound is.few (no-statement session stmt) (folds_in w.owners) n (ap (folds_on (Some (folds_in w.owners))) no-writes) later

    -- what the session has
    shows : shown_by session (Some (tx, next)) ≡ shown_by session (txn_of (step s asked).1 session)
    shows = ap (shown_by session) (sym (ap (λ (m : State). txn_of m session) later ∙ put-txn s n session tx next refl refl sits))

    -- an engine that has other claims, and another seat of the transaction that counts as much
    leads-to : (cs : ClaimTable) (se : Seated) → AreClaims cs.claims (step s asked).1 → ((u : ℕ) → u ≢ tx → maps.get se u ≡ maps.get w.seats u) → (y : Seat) → maps.get se tx ≡ Some y → IsSeatOf n tx next y
        → all_of votes_of se ≡ all_of votes_of w.seats → all_of gives_of se ≡ all_of gives_of w.seats → Answers first asked s (record w { claims = cs; seats = se }) told
    leads-to cs se claims others y seat is_seat votes given = record {
      answer = sym (ap (λ (z : Answer × State). z.0) all);
      state = subst (λ (m : State). IsOf first (record w { claims = cs; seats = se }) m) (sym later) (record {
        sound = sound;
        drawn = is.drawn;
        few = is.few;
        moment = is.moment;
        settings = is.settings;
        claims = subst (λ (m : State). AreClaims cs.claims m) later claims;
        seats = seated-but s n w.seats se is.seats tx (λ u other. get-there s.txs tx next u other) (pieces-kept tx s n refl refl) others
            (subst (λ (o : Option Txn). IsSeat n tx o (maps.get se tx)) (sym (get-here s.txs tx next)) (subst (λ (o : Option Seat). IsSeat n tx (Some next) o) (sym seat) is_seat));
        room = record {
          commits = subst (λ (k : ℕ). k ≤ w.owners.store.spare) (sym votes) is.room.commits;
          copies = subst (λ (k : ℕ). k ≤ w.owners.manager.archive.spare) (sym given) is.room.copies;
        };
      });
    }

    -- the same engine, where what it claims is the same
    stays : next.seen ≡ t.seen → next.phase ≡ t.phase → moved_of next ≡ moved_of t → Answers first asked s w told
    stays seen phase moves =
        let x : Seat = own.0 in
        let seat : IsSeatOf s tx t x = own.2 in
        let rests : x.stage ≡ stages.Active = active-stage s tx t x.stage seat.stage active in
        leads-to w.claims w.seats
        (laws.keeps first (folds_in w.owners) s w.claims.claims session tx t stmt is.sound is.claims of active
        (ap (λ (z : Answer × Txn). claimed_in s z.1) made ∙ (λ i. claimed_by (is_active (phase i) && differs (seen i) s.links_opening) (moves i))))
        (λ u other. refl) x own.1
        (record {
          seen = seat.seen ∙ sym seen;
          gives = seat.gives ∙ ap (λ (m : Moved). m.gives) (sym moves);
          takes = seat.takes ∙ ap (λ (m : Moved). m.takes) (sym moves);
          stage = subst (λ (y : Stage). IsAtStage n tx next y) (sym rests) (phase ∙ active);
        })
        refl refl

  -- HOW IT ENDS

  -- where it is not refused, and claims what it had claimed
  claims-alike : claims_same (gives t.base e.tables) (takes t.base e.tables) (maps.get w.seats tx) ≡ same
  claims-alike =
      ap (claims_same (gives t.base e.tables) (takes t.base e.tables)) own.1
      ∙ (λ i. pointwise same_link (own.2.gives i) (gives t.base e.tables) && pointwise same_link (own.2.takes i) (takes t.base e.tables))

  when-unasked : is_unasked w tx v ≡ true → Answers first asked s w answer × (standing v ≡ shown_by session (txn_of (step s asked).1 session))
  when-unasked e1 = by refused refl (leaves_tables e.outcome) refl (claims_same (gives t.base e.tables) (takes t.base e.tables) (maps.get w.seats tx)) refl e1
    where
      alike : refused ≡ false → same ≡ true → Answers first asked s w answer × (standing v ≡ shown_by session (txn_of (step s asked).1 session))
      alike r m = (stays answer after (made-same r m) refl refl (moved-same before after m), shows answer after (made-same r m))

      by : (r : Bool) → refused ≡ r → (l : Bool) → leaves_tables e.outcome ≡ l → (m : Bool) → claims_same (gives t.base e.tables) (takes t.base e.tables) (maps.get w.seats tx) ≡ m → (l || m) ≡ true
          → Answers first asked s w answer × (standing v ≡ shown_by session (txn_of (step s asked).1 session))
      by true r true l m c any =
          let kept = left-same t.copy stmt (context_of s tx) t.next l in
          (stays answer before (made-refused r) refl refl refl, (λ i. shown_by session (Some (tx, record before { copy = kept.0 i; next = kept.1 i }))) ∙ shows answer before (made-refused r))
      by true r false l m c any = absurd (false_true (sym (unrefused e.outcome l) ∙ r))
      by false r true l m c any =
          let kept = left-same t.copy stmt (context_of s tx) t.next l in
          alike r (ap (λ (x : Moved). same_moved (moved_of before) x) (λ i. moved_of (record before { copy = kept.0 i; next = kept.1 i })) ∙ moved-self (moved_of before))
      by false r false l true c any = alike r (sym claims-alike ∙ c)
      by false r false l false c any = absurd cc

  -- where it is
  asks : is_unasked w tx v ≡ false → (refused ≡ false) × (same ≡ false)
  asks e1 =
      let two = or_parts (leaves_tables e.outcome) (claims_same (gives t.base e.tables) (takes t.base e.tables) (maps.get w.seats tx)) e1 in
      (unrefused e.outcome two.0, sym claims-alike ∙ two.1)

  when-denied : (why : Refusal) → IsDenied w w tx v why → Answers first asked s w (answers.Refused why) × (back_to v v.kept ≡ shown_by session (txn_of (step s asked).1 session))
  when-denied why d =
      let two = asks d.asked in
      let made : statement s tx t stmt ≡ (answers.Refused why, before) = made-by two.0 two.1 (Some why) (sym (claim-is laws.busy laws.linked first w s is tx t v at refl) ∙ d.denied) in
      (stays (answers.Refused why) before made refl refl refl, shows (answers.Refused why) before made)

  not-doomed : claim_refusal s tx after ≡ None → is_doomed s t ≡ false
  not-doomed none = by (is_doomed s t) (or-none (doomed s after) _ none).0
    where
      by : (b : Bool) → cond b (Some (reasons.Doomed (seen_or_zero after.seen) s.links_opening)) None ≡ None → b ≡ false
      by true e1 = absurd (none_some (reasons.Doomed (seen_or_zero after.seen) s.links_opening) (sym e1))
      by false e1 = refl

  -- where it is accepted

  abbrev pub given : List LinkRow
  given = gives t.base e.tables

  abbrev pub taken : List LinkRow
  taken = takes t.base e.tables

  abbrev pub claiming : Txn
  claiming = record after { seen = first_seen after.seen s.links_opening }

  abbrev pub sitting : Seat
  sitting = record { claim = seat_claim (opening_in w) given taken (Some own.0); stage = own.0.stage }

  rests : own.0.stage ≡ stages.Active
  rests = active-stage s tx t own.0.stage own.2.stage active

  is-sitting : IsSeatOf (with_txn s tx claiming) tx claiming sitting
  is-sitting = record {
    seen = λ i. first_seen (own.2.seen i) (is.sound.follows.joint.links_opening i);
    gives = refl;
    takes = refl;
    stage = subst (λ (g : Stage). IsAtStage (with_txn s tx claiming) tx claiming g) (sym rests) active;
  }

  module _ (u : Engine) (a : IsAccepted w u tx v) where
    none-refused : claim_refusal s tx after ≡ None
    none-refused = sym (claim-is laws.busy laws.linked first w s is tx t v at refl) ∙ a.accepted

    made-claimed : statement s tx t stmt ≡ (answer, claiming)
    made-claimed = made-by (asks a.asked).0 (asks a.asked).1 None none-refused

    had : claimed_in s t ≡ moved own.0.claim.gives own.0.claim.takes
    had = ap (λ b. claimed_by b (moved_of t)) (not-doomed none-refused) ∙ sym (seat-moved s tx t own.0 own.2)

    has : claimed_in s (statement s tx t stmt).1 ≡ moved given taken
    has = ap (λ (z : Answer × Txn). claimed_in s z.1) made-claimed ∙ (laws.accepted s tx after none-refused).1

    claims-then : AreClaims u.claims.claims (step s asked).1
    claims-then =
        subst (λ (m : Keyed PathClaim). AreClaims m (step s asked).1)
        ((λ i. replaced tx (had i) (has i) w.claims.claims) ∙ sym (a.claims.claims ∙ ap (λ (o : Option Seat). claims_with tx (moved given taken) o w.claims.claims) own.1))
        (laws.claims first (folds_in w.owners) s w.claims.claims session tx t stmt is.sound is.claims of active)

    abbrev pub seats-then : Seated
    seats-then = with_claim w.seats tx (seat_claim (opening_in w) given taken (maps.get w.seats tx)) (maps.get w.seats tx)

    seats-are : seats-then ≡ maps.insert w.seats tx sitting
    seats-are = ap (λ (o : Option Seat). with_claim w.seats tx (seat_claim (opening_in w) given taken o) o) own.1

    counts : (count : Seat → ℕ) → count own.0 ≡ 0 → count sitting ≡ 0 → all_of count seats-then ≡ all_of count w.seats
    counts count p q = ap (all_of count) seats-are ∙ same-count count laws.put w.seats tx own.0 sitting own.1 p q

    when-accepted : Answers first asked s u answer × (standing v ≡ shown_by session (txn_of (step s asked).1 session))
    when-accepted = (
      subst (λ (z : Engine). Answers first asked s z answer) (sym a.claims.same)
          (leads-to answer claiming made-claimed u.claims seats-then claims-then (λ q other. ap (λ (m : Seated). maps.get m q) seats-are ∙ get-there w.seats tx sitting q other)
          sitting (ap (λ (m : Seated). maps.get m tx) seats-are ∙ get-here w.seats tx sitting) is-sitting
          (counts votes_of (ap votes_at rests) (ap votes_at rests))
          (counts gives_of (ap (λ (g : Stage). gives_at g (length own.0.claim.gives)) rests) (ap (λ (g : Stage). gives_at g (length given)) rests))),
      shows answer claiming made-claimed,
    )

  pub ends-none : (u : Engine) → EndsClaim w u tx v None → Answers first asked s u answer × (standing v ≡ shown_by session (txn_of (step s asked).1 session))
  ends-none u = ⊎_elim
      (λ (q : IsUnasked w u tx v). subst (λ (z : Engine). Answers first asked s z answer × (standing v ≡ shown_by session (txn_of (step s asked).1 session))) (sym q.same) (when-unasked q.unasked))
      (λ (q : IsAccepted w u tx v). when-accepted u q)

  pub ends-some : (u : Engine) (why : Refusal) → EndsClaim w u tx v (Some why) → Answers first asked s u (answers.Refused why) × (back_to v v.kept ≡ shown_by session (txn_of (step s asked).1 session))
  ends-some u why d =
      subst (λ (z : Engine). Answers first asked s z (answers.Refused why) × (back_to v v.kept ≡ shown_by session (txn_of (step s asked).1 session))) (sym d.same)
      (when-denied why (record { asked = d.asked; denied = d.denied; same = refl }))

-- THE SAME OF WHAT THE CODE HAS: the session's object before and behind the evaluation, and its context
module _ (first : ℕ) (s : State) (w : Engine) (is : IsOf first w s) (v0 : Transaction) (stmt : Stmt) where
  abbrev pub asked-of : Step
  asked-of = steps.Statement v0.session stmt

  no-records : records_of s (steps.Statement v0.session stmt) ≡ []
  unfolding writes
  no-records = refl

  in-memory : (u : Engine) (told : Answer) → u.owners ≡ w.owners → Answers first asked-of s u told → StepsInMemory first asked-of s w u (Ok told)
  in-memory u told owners answers_so = record {
    answers = answers_so;
    memory = λ e. absurd (ok_err told faults.Memory e);
    journals = ap journals_of owners;
    fits = no-records;
    full = λ f e. absurd (ok_err told (faults.Full f) e);
    no_device = λ e. ok_err told faults.Device e;
  }

  shown-so : (told : Answer) (v2 : Transaction) → v2 ≡ shown_by v0.session (txn_of (step s asked-of).1 v0.session) → Shows asked-of s v0 v2 (Ok told)
  shown-so told v2 e1 = record { shown = e1; memory = λ e. absurd (ok_err told faults.Memory e) }

  -- want of memory leaves all as it was

  pub memory-steps : (u : Engine) (fault : StepFault) → fault ≡ faults.Memory → HasSameClaims w u → StepsInMemory first asked-of s w u (Err fault)
  memory-steps u fault is_memory kept = subst (λ (x : StepFault). StepsInMemory first asked-of s w u (Err x)) (sym is_memory) (record {
    answers = tt;
    memory = λ q. subst (λ (z : Engine). IsOf first z s) (sym kept.same) (record {
      sound = is.sound;
      drawn = is.drawn;
      few = is.few;
      moment = is.moment;
      settings = is.settings;
      claims = subst (λ (m : Keyed PathClaim). AreClaims m s) (sym kept.claims) is.claims;
      seats = is.seats;
      room = record { commits = is.room.commits; copies = is.room.copies };
    });
    journals = ap (λ (z : Engine). journals_of z.owners) kept.same;
    fits = tt;
    full = λ f q. absurd (other-full f (fault_same faults.Memory (faults.Full f) q));
    no_device = λ q. other-device (fault_same faults.Memory faults.Device q);
  })
    where
      other-full : (f : Full) → faults.Memory ≡ faults.Full f → ⊥
      other-full f q = cc

      other-device : faults.Memory ≡ faults.Device → ⊥
      other-device q = cc

  pub memory-shows : (v2 : Transaction) (fault : StepFault) → v2 ≡ v0 → Shows asked-of s v0 v2 (Err fault)
  memory-shows v2 fault so = record { shown = tt; memory = λ q. so }

  module _ (laws : Laws) (tx : ℕ) (t : Txn) (knows : Knows s v0 tx t) (active : t.phase ≡ phases.Active) (plain : is_evaluated stmt ≡ true) (context : Context)
      (context_is : context ≡ record { server = w.settings.server; key = w.settings.key; now = w.moment; life = w.settings.life; tx = tx }) (v1 : Transaction) (made : v1 ≡ after_evaluation v0 stmt (run.evaluated v0.copy stmt context v0.next)) where
    abbrev pub behind : Transaction
    behind = after_evaluation (shown_by v0.session (Some (tx, t))) stmt (run.evaluated t.copy stmt (context_of s tx) t.next)

    behind-is : v1 ≡ behind
    behind-is =
        made
        ∙ ap (λ (c : Context). after_evaluation v0 stmt (run.evaluated v0.copy stmt c v0.next)) context_is
        ∙ (λ i. after_evaluation v0 stmt (run.evaluated v0.copy stmt (record { server = (is.settings i).server; key = (is.settings i).key; now = is.moment i; life = (is.settings i).life; tx = tx }) v0.next))
        ∙ ap (λ (x : Transaction). after_evaluation x stmt (run.evaluated x.copy stmt (context_of s tx) x.next)) knows.is

    owners-none : (u : Engine) → EndsClaim w u tx v1 None → u.owners ≡ w.owners
    owners-none u = ⊎_elim (λ (q : IsUnasked w u tx v1). ap (λ (z : Engine). z.owners) q.same) (λ (q : IsAccepted w u tx v1). ap (λ (z : Engine). z.owners) q.claims.same)

    ends-behind : (u : Engine) → EndsClaim w u tx v1 None → Answers first asked-of s u (answer_of (run.evaluated t.copy stmt (context_of s tx) t.next).outcome) × (standing behind ≡ shown_by v0.session (txn_of (step s asked-of).1 v0.session))
    ends-behind u ends = ends-none laws first s w is v0.session tx t knows.of knows.there knows.session active stmt plain u (subst (λ (x : Transaction). EndsClaim w u tx x None) behind-is ends)

    denied-behind : (u : Engine) (why : Refusal) → EndsClaim w u tx v1 (Some why) → Answers first asked-of s u (answers.Refused why) × (back_to behind behind.kept ≡ shown_by v0.session (txn_of (step s asked-of).1 v0.session))
    denied-behind u why ends = ends-some laws first s w is v0.session tx t knows.of knows.there knows.session active stmt plain u why (subst (λ (x : Transaction). EndsClaim w u tx x (Some why)) behind-is ends)

    -- it is answered
    pub answered-steps : (u : Engine) (told : Answer) → told ≡ told_of v1.kept → EndsClaim w u tx v1 None → StepsInMemory first asked-of s w u (Ok told)
    answered-steps u told so ends = in-memory u told (owners-none u ends)
        (subst (λ (x : Answer). Answers first asked-of s u x) (sym (so ∙ ap (λ (x : Transaction). told_of x.kept) behind-is)) (ends-behind u ends).0)

    pub answered-shows : (u : Engine) (told : Answer) (v2 : Transaction) → v2 ≡ standing v1 → EndsClaim w u tx v1 None → Shows asked-of s v0 v2 (Ok told)
    answered-shows u told v2 so ends = shown-so told v2 (so ∙ ap standing behind-is ∙ (ends-behind u ends).1)

    -- its claim is refused
    pub denied-steps : (u : Engine) (why : Refusal) → EndsClaim w u tx v1 (Some why) → StepsInMemory first asked-of s w u (Ok (answers.Refused why))
    denied-steps u why ends = in-memory u (answers.Refused why) (ap (λ (z : Engine). z.owners) ends.same) (denied-behind u why ends).0

    pub denied-shows : (u : Engine) (why : Refusal) (v2 : Transaction) → v2 ≡ back_to v1 v1.kept → EndsClaim w u tx v1 (Some why) → Shows asked-of s v0 v2 (Ok (answers.Refused why))
    denied-shows u why v2 so ends = shown-so (answers.Refused why) v2 (so ∙ ap (λ (x : Transaction). back_to x x.kept) behind-is ∙ (denied-behind u why ends).1)

    -- there was no memory for its claim
    pub undone : (v2 : Transaction) → v2 ≡ undone_to v1 v1.kept → v2 ≡ v0
    undone v2 so = so ∙ ap (λ (x : Transaction). undone_to x x.kept) behind-is ∙ sym knows.is
