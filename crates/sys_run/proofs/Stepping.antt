-- A step of a run, as the engine takes it.
use Rattle.std.proofs.Common.{◌≡◌, ◌≢◌, ℕ, ◌+◌, ◌<◌, ◌^◌, List, [], ◌∷◌, ◌++◌, length, if◌then◌else◌, Option, Some, None, Result, Ok, Err, refl, sym, ap, ◌∙◌, subst}
use Rattle.db_txn.specs.Transaction.{Transaction}
use Rattle.dl_areas.specs.Lists.{HasLists, Journals, Lists, Write, all_grown, puts}
use Rattle.dl_areas.specs.Writing.{Does, LeavesPrefix, fitting, full_in}
use Rattle.dl_base.proofs.Moments.{moments_more}
use Rattle.dl_base.specs.Outside.{AtEveryMoment, CrashState, Now, Outside}
use Rattle.dl_base.specs.declared.answer.Answer.{Answer}
use Rattle.dl_base.specs.declared.area.Area.{Area}
use Rattle.dl_base.specs.declared.fault.AppendFault.{AppendFault}
use Rattle.dl_base.specs.declared.fault.AppendFault.TheVariants as appends
use Rattle.dl_base.specs.declared.fault.Full.{Full}
use Rattle.dl_base.specs.declared.fault.StepFault.{StepFault}
use Rattle.dl_base.specs.declared.fault.StepFault.TheVariants as faults
use Rattle.dl_base.specs.declared.step.Step.{Step}
use Rattle.dl_base.specs.declared.step.Step.TheVariants as steps
use Rattle.dl_base.specs.declared.step.Target.{Target}
use Rattle.fm_manager.specs.Managed.{AreSpelled, as_writes}
use Rattle.meaning_areas.specs.Lists.{Folds, Written, folds_on}
use Rattle.meaning_history.specs.Sound.{AreSound}
use Rattle.meaning_run.specs.Running.{Read, Run, next_step, step_writes, stepped, turn, written}
use Rattle.meaning_script.specs.declared.kind.Line.{Line}
use Rattle.meaning_script.specs.declared.kind.Line.TheVariants as lines
use Rattle.meaning_system.specs.Following.{AreRestored}
use Rattle.meaning_system.specs.Machine.{step}
use Rattle.meaning_system.specs.Recovering.{Recovers}
use Rattle.meaning_system.specs.State.{State}
use Rattle.meaning_system.specs.Writes.{writes}
use Rattle.sys_core.specs.Steps.{Steps, draws, records_of}
use Rattle.sys_core.specs.declared.engine.Engine.{Engine}
use Rattle.sys_owners.proofs.Placing.{its-area}
use Rattle.sys_owners.specs.Owned.{journals_of}
use Rattle.sys_recovery.specs.Left.{areas_of, has_commit, left_by}
use Rattle.sys_run.specs.Running.{AreOf, HasGrown, IsFullIn, IsInRun, Stands, StandsAfter, resting}
use Rattle.sys_run.specs.Sessions.{AreShown, IsStepOf}
use Rattle.sys_run.specs.Turning.{GoesOn, IsInLine, IsNamed, LeavesSome}
use Rattle.sys_run.specs.declared.sessions.Sessions.{Sessions}
use Rattle.sys_run.proofs.Fine.{step-atomic}
use Rattle.sys_run.proofs.Images.{Drawn, Laws, all-written, drawn, draws-is, exhausted, exhausted-fits, full-stops, leaves-some, nil, no-draws, no-prefix, none-fitting, none-full, partly, stays, wholly}
use Rattle.sys_run.proofs.Turns.{moment-before, moment-behind, written-one}

abbrev pub Leads : Type 0
Leads = (first : ℕ) (f : Folds) (s : State) (x : Step) → AreSound first f s → s.drawn + 1 < 2 ^ 32 → ((t : Target) → x ≡ steps.Restore t → AreRestored s t)
    → (later : Folds) × (folds_on (Some f) (writes s x) ≡ Some later) × AreSound first later (step s x).1

-- what a restore owes is owed by none
abbrev pub Owes : Type 0
Owes = (first : ℕ) (f : Folds) (s : State) → AreSound first f s → (t : Target) → AreRestored s t

-- the sessions behind a step
pub stepped-of : (r : Run) (x : Step) (v : Sessions) (txns : List Transaction) → AreOf r v → AreShown (step r.state x).1 txns → length txns ≡ length v.txns → AreOf (stepped r x) (record v { txns = txns })
stepped-of r x v txns of shown count = record {
  shown = shown;
  actors = of.actors;
  names = of.names;
  count = count ∙ of.count;
  grids = of.grids;
}

module _ (laws : Laws) (first : ℕ) (lists : Lists) (before : Option (List ℕ)) (r : Run) (w v : Engine) (was : Sessions) (o n : Outside) (stands : Stands first lists before r w was o)
    (count : ℕ) (x : Step) (of : IsStepOf count x) (next : next_step r ≡ Some x) (is : turn r ≡ stepped r x) where
  abbrev pub js : Journals
  js = journals_of w.owners

  abbrev pub ks : Journals
  ks = journals_of v.owners

  writes-are : writes r.state x ≡ written 1 r
  writes-are = sym (written-one r (Some x) next)

  -- what is left of the step is left of the turn
  rests : (front : List Written) → left_by r.state x front ≡ resting r front
  rests front = ap (λ (q : Run). if has_commit front then q.state else r.state) (sym is)

  moment : (p : CrashState) → AreSpelled (writes r.state x) → LeavesSome js lists (writes r.state x) o p → IsInRun js lists r before p
  moment p spelled m = by m.rest m.parts
    where
      by : (rest : List Written) → m.front ++ rest ≡ writes r.state x → IsInRun js lists r before p
      by [] parts =
          let all : m.front ≡ writes r.state x = sym (nil m.front) ∙ parts in
          moment-behind js lists r x before o p is stands.told m.told (wholly laws first lists stands.folds r.state stands.folded stands.sound x stands.is.few (step-atomic count x of) spelled p m.front all m.has)
          m.front (all ∙ writes-are) m.has m.fits
      by (w ∷ rest) parts =
          moment-before js lists r before o p stands.told m.told m.front (w ∷ rest) (parts ∙ sym (ap (step_writes r.state) next))
          (subst (Recovers (areas_of p)) (rests m.front) (partly laws first lists stands.folds r.state stands.folded stands.sound x stands.is.few (step-atomic count x of) spelled p m.front rest w parts m.has)) m.has m.fits

  -- the areas are as they were
  still : (ws : List Write) → ws ≡ [] → (p : CrashState) → LeavesPrefix lists ws o p → IsInRun js lists r before p
  still ws none p m =
      let has = subst (λ (ws : List Write). HasLists (puts ws lists) p) (no-prefix m.prefix m.rest (m.parts ∙ none)) m.has in
      moment-before js lists r before o p stands.told m.told [] (step_writes r.state (next_step r)) refl (stays laws first lists stands.folds r.state stands.folded stands.sound p has) has (none-full js)

  some-moments : (fault : Option AppendFault) → Does js ks (records_of r.state x) fault o n → (draws r.state x ≡ [] → AreSpelled (writes r.state x)) → AtEveryMoment (IsInRun js lists r before) o n
  some-moments fault d spelled = by (draws-is r.state x)
    where
      by : Drawn (draws r.state x) → AtEveryMoment (IsInRun js lists r before) o n
      by (drawn none) = moments_more (LeavesSome js lists (writes r.state x) o) (IsInRun js lists r before) o n (λ p. moment p (spelled none)) (leaves-some lists js ks r.state x o n stands.kept none fault d)
      by (exhausted w f is_drawn full) = moments_more (LeavesPrefix lists (fitting js (records_of r.state x)) o) (IsInRun js lists r before) o n
          (still (fitting js (records_of r.state x)) (exhausted-fits js r.state x w f is_drawn full)) (d.images lists stands.kept)

  none-moments : Does js ks [] None o n → AtEveryMoment (IsInRun js lists r before) o n
  none-moments d = moments_more (LeavesPrefix lists (fitting js []) o) (IsInRun js lists r before) o n (still (fitting js []) (none-fitting js)) (d.images lists stands.kept)

  -- each moment of a step is one of the run
  pub step-moments : (result : Result Answer StepFault) → Steps first x r.state w v result o n → (result ≢ Err faults.Memory → draws r.state x ≡ [] → AreSpelled (writes r.state x)) → AtEveryMoment (IsInRun js lists r before) o n
  step-moments (Ok a) s spelled = some-moments None s.ends (spelled (λ e. absurd cc))
  step-moments (Err faults.Device) s spelled = some-moments (Some appends.Device) s.ends (spelled (λ e. absurd cc))
  step-moments (Err (faults.Full f)) s spelled = some-moments (Some (appends.Full f)) s.ends (spelled (λ e. absurd cc))
  step-moments (Err faults.Memory) s spelled = none-moments s.ends

  -- what a step that is done leaves
  pub step-stands : Leads → Owes → (a : Answer) → Steps first x r.state w v (Ok a) o n → (draws r.state x ≡ [] → AreSpelled (writes r.state x)) → (now : Sessions) → AreOf (stepped r x) now → StandsAfter 1 first lists before r v now n
  step-stands leads owes a s spelled now sessions =
      let d = all-written lists js ks r.state x o n stands.kept s.ends in
      let none = no-draws lists js ks r.state x o n stands.kept s.ends in
      let (later, folds, sound) = leads first stands.folds r.state x stands.sound stands.is.few (λ t e. owes first stands.folds r.state stands.sound t) in
      let here : Stands first (puts (as_writes (writes r.state x)) lists) before (stepped r x) v now n = record {
        is = s.answers.state;
        sessions = sessions;
        ready = d.ready refl stands.ready;
        kept = d.done refl lists stands.kept;
        folds = later;
        folded = laws.folded lists stands.folds later (writes r.state x) stands.folded folds (spelled none);
        sound = sound;
        told = d.told ∙ stands.told;
      } in
      subst (λ (q : Run). Stands first (puts (as_writes (written 1 r)) lists) before q v now n) (sym is)
      (subst (λ (xs : List Written). Stands first (puts (as_writes xs) lists) before (stepped r x) v now n) writes-are here)

  pub step-grown : (a : Answer) → Steps first x r.state w v (Ok a) o n → HasGrown 1 r js v
  step-grown a s =
      let d = all-written lists js ks r.state x o n stands.kept s.ends in
      record {
        grew = d.grew refl ∙ ap (λ (xs : List Written). all_grown (as_writes xs) js) writes-are;
        fits = ap (λ (xs : List Written). full_in js (as_writes xs)) (sym writes-are) ∙ d.fits refl;
      }

  -- where something is full
  fit-there : (f : Full) → Does js ks (records_of r.state x) (Some (appends.Full f)) o n → (p : CrashState) → Now n p → HasLists (puts (fitting js (records_of r.state x)) lists) p
  fit-there f d p now a = (d.before f refl lists stands.kept a).images (p.areas a) (let I : Area → Type 0 = λ b. n.image b (p.areas a) in subst I (sym (its-area v.owners a)) (now.areas a))

  pub step-full : (f : Full) → Steps first x r.state w v (Err (faults.Full f)) o n → (draws r.state x ≡ [] → AreSpelled (writes r.state x)) → IsFullIn js lists r before f n
  step-full f s spelled =
      let stops = full-stops laws first lists stands.folds r.state stands.folded stands.sound x stands.is.few (step-atomic count x of) js ks o n f spelled s.ends in
      let has = λ (p : CrashState) (now : Now n p). subst (λ (ws : List Write). HasLists (puts ws lists) p) (sym stops.front_is) (fit-there f s.ends p now) in
      record {
        count = 0;
        step = x;
        next = next;
        fits = none-full js;
        full_is = s.ends.full f refl;
        told = s.ends.told ∙ stands.told;
        front = stops.front;
        rest = stops.rest;
        parts = stops.parts;
        front_is = stops.front_is;
        has = has;
        recovers = λ p now. subst (Recovers (areas_of p)) (rests stops.front) (stops.recovers p (has p now));
      }

-- the line behind a step
named-stepped : (r : Run) (x : Step) (line : Line) → IsNamed r line → IsNamed (stepped r x) line
named-stepped r x lines.Nothing named = tt
named-stepped r x (lines.Bad why) named = tt
named-stepped r x (lines.System order) named = tt
named-stepped r x (lines.File l) named = tt
named-stepped r x (lines.Session name s) named = named

pub step-goes : (number : ℕ) (line : Line) (done now : List Answer) (r : Run) (l : Read) (more : List Read) (x : Step) (a : Answer) → IsInLine number line done r l more → next_step r ≡ Some x → turn r ≡ stepped r x
    → a ≡ (step r.state x).0 → now ≡ done ++ a ∷ [] → GoesOn number line now r l more
step-goes number line done now r l more x a in_line next is answer put =
    let here : IsInLine number line now (stepped r x) l more = record {
      lines = in_line.lines;
      line_is = in_line.line_is;
      number_is = in_line.number_is;
      answers = (λ i. in_line.answers i ++ sym answer i ∷ []) ∙ sym put;
      acted = in_line.acted;
      right = in_line.right;
      built = in_line.built;
      named = named-stepped r x line in_line.named;
    } in
    record { is = subst (λ (q : Run). IsInLine number line now q l more) (sym is) here; step = x; next = next }
