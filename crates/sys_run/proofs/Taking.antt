-- A turn of a line that is built, as it is taken.
use Rattle.std.proofs.Common.{◌≡◌, ◌≢◌, ℕ, ◌+◌, true, false, List, [], ◌∷◌, ◌++◌, length, slice_get, Option, Some, None, Result, Ok, Err, IfOk, IsErr, IsErrAnd, OnOk, refl, sym, ap, ◌∙◌, subst}
use Rattle.db_txn.specs.Transaction.{Transaction}
use Rattle.dl_areas.specs.Lists.{AreKept, AreReady, Lists}
use Rattle.dl_areas.specs.Writing.{IsTelling}
use Rattle.dl_base.proofs.Moments.{moments_more}
use Rattle.dl_base.specs.Outside.{AtEveryMoment, FaultCounted, Outside, extended}
use Rattle.dl_base.specs.declared.answer.Answer.{Answer}
use Rattle.dl_base.specs.declared.fault.Full.{Full}
use Rattle.dl_base.specs.declared.fault.StepFault.{StepFault}
use Rattle.dl_base.specs.declared.fault.StepFault.TheVariants as faults
use Rattle.dl_base.specs.declared.step.Step.{Step}
use Rattle.dl_base.specs.declared.value.LinkNo.{LinkNo}
use Rattle.fm_manager.specs.Managed.{AreSpelled}
use Rattle.meaning_run.specs.Running.{Read, Run, actor_state, grids_behind, next_step, pending_links, step_in, stepped, text_of, told_by, turn, turned}
use Rattle.meaning_script.specs.Actors.{sessions}
use Rattle.meaning_script.specs.Expansion.{Then, does, given, expansion}
use Rattle.meaning_script.specs.Printed.{line_text}
use Rattle.meaning_script.specs.declared.kind.Line.{Line}
use Rattle.meaning_system.specs.Machine.{step}
use Rattle.meaning_system.specs.State.{State}
use Rattle.meaning_system.specs.Writes.{writes}
use Rattle.sys_core.specs.Steps.{Steps, draws}
use Rattle.sys_core.specs.declared.engine.Engine.{Engine}
use Rattle.sys_owners.specs.Owned.{journals_of}
use Rattle.sys_run.proofs.Fine.{Fine, fine-line}
use Rattle.sys_run.proofs.Images.{Laws, assoc, stays}
use Rattle.sys_run.proofs.Lines.{told-grown, told-past, told-stands}
use Rattle.sys_run.proofs.Stepping.{Leads, Owes, step-full, step-goes, step-grown, step-moments, step-stands, stepped-of}
use Rattle.sys_run.proofs.Turns.{moment-between, moment-telling, next-is, turn-is}
use Rattle.sys_run.specs.Running.{AreOf, HasGrown, IsFullIn, IsInRun, Stands, StandsAfter}
use Rattle.sys_run.specs.Sessions.{AreShown, IsStepOf}
use Rattle.sys_run.specs.Turning.{Goes, IsBetween, IsInLine, Sees}
use Rattle.sys_run.specs.declared.sessions.Sessions.{Sessions}

-- a result that is no want of memory
not-memory : (result : Result Answer StepFault) (a : Answer) → result ≡ Ok a → result ≢ Err faults.Memory
not-memory result a is e = absurd cc

full-no-memory : (result : Result Answer StepFault) (f : Full) → result ≡ Err (faults.Full f) → result ≢ Err faults.Memory
full-no-memory result f is e = absurd cc

-- one fault in two results
pub same-fault : {A : Type 0} {X : Type 0} (result : Result A StepFault) (now : Result X StepFault) (g f : StepFault) → result ≡ Err g → now ≡ Err g → now ≡ Err f → result ≡ Err f
same-fault result now g f was is full = cc

-- a fault that is handed on
pub handed : {A : Type 0} (result : Result A StepFault) (f : StepFault) → IsErr result × IsErrAnd result (λ e. e ≡ f) → result ≡ Err f
handed (Ok a) f (fails, same) = absurd same
handed (Err e) f (fails, same) = ap (λ (x : StepFault). Err x) same

-- what a fault says of an answer
pub on-err : {A E : Type 0} (result : Result A E) (e : E) (P : A → Type 0) → result ≡ Err e → IfOk result P
on-err (Ok a) e P is = absurd cc
on-err (Err f) e P is = tt

-- want of memory is no other fault, and an answer is none
pub no-device : {A : Type 0} {X : Type 0} (result : Result A StepFault) → result ≡ Err faults.Memory → result ≡ Err faults.Device → X
no-device result is e = absurd cc

pub no-full : {A : Type 0} {X : Type 0} (result : Result A StepFault) (f : Full) → result ≡ Err faults.Memory → result ≡ Err (faults.Full f) → X
no-full result f is e = absurd cc

pub no-fault : {A : Type 0} {X : Type 0} (a : A) (f : StepFault) → Ok a ≡ Err f → X
no-fault a f e = absurd cc

-- a step that the device failed counted a fault
pub steps-device : (first : ℕ) (x : Step) (s : State) (w v : Engine) (result : Result Answer StepFault) (o n : Outside) → result ≡ Err faults.Device → Steps first x s w v result o n → FaultCounted o n
steps-device first x s w v (Ok b) o n is t = absurd cc
steps-device first x s w v (Err faults.Device) o n is t = t.ends.device refl
steps-device first x s w v (Err faults.Memory) o n is t = absurd cc
steps-device first x s w v (Err (faults.Full f)) o n is t = absurd cc

-- a step that is answered counted no fault
pub steps-clean : (first : ℕ) (x : Step) (s : State) (w v : Engine) (result : Result Answer StepFault) (a : Answer) (o n : Outside) → result ≡ Ok a → Steps first x s w v result o n → n.faults ≡ o.faults
steps-clean first x s w v (Ok b) a o n is t = t.ends.clean refl
steps-clean first x s w v (Err fault) a o n is t = absurd cc

module _ (number : ℕ) (line : Line) (done : List Answer) (first : ℕ) (lists : Lists) (before : Option (List ℕ)) (r : Run) (l : Read) (more : List Read) (w : Engine) (was : Sessions) (o : Outside)
    (stands : Stands first lists before r w was o) (is : IsInLine number line done r l more) (waiting : List LinkNo) (sees : Sees r line done waiting) where
  -- it takes a step
  module _ (x : Step) (m : Then) (meant_is : m ≡ expansion line (actor_state r line) done waiting) (step_is : m ≡ does x) where
    comes : expansion line (actor_state r line) done (pending_links r.state) ≡ does x
    comes = sym (meant_is ∙ sees) ∙ step_is

    pub its-step : IsStepOf (length was.txns) x
    its-step = subst (λ (n : ℕ). IsStepOf n x) (sym (stands.sessions.count ∙ ap length stands.sessions.names)) (subst (Fine (length (sessions r.actors))) comes (fine-line r line done (pending_links r.state) is.built is.named))

    to : turn r ≡ stepped r x
    to = turn-is number line done r l more is (does x) comes

    next : next_step r ≡ Some x
    next = next-is number line done r l more is (does x) comes

    pub step-history : Laws → (v : Engine) (n : Outside) (result : Result Answer StepFault) → Steps first x r.state w v result o n → (result ≢ Err faults.Memory → draws r.state x ≡ [] → AreSpelled (writes r.state x)) → AtEveryMoment (IsInRun (journals_of w.owners) lists r before) o n
    step-history laws v n result s spelled = step-moments laws first lists before r w v was o n stands (length was.txns) x its-step next to result s spelled

    pub step-turned : Laws → Leads → Owes → (v : Engine) (n : Outside) (result : Result Answer StepFault) (a : Answer) → result ≡ Ok a → Steps first x r.state w v result o n → (result ≢ Err faults.Memory → draws r.state x ≡ [] → AreSpelled (writes r.state x))
        → (txns : List Transaction) → OnOk result (AreShown (step r.state x).1 txns) → length txns ≡ length was.txns → (later : List Answer) → later ≡ done ++ a ∷ []
        → StandsAfter 1 first lists before r v (record was { txns = txns }) n × HasGrown 1 r (journals_of w.owners) v × Goes false number line later r l more
    step-turned laws leads owes v n result a is_ok s spelled txns shown count later put =
        let here = subst (λ (q : Result Answer StepFault). Steps first x r.state w v q o n) is_ok s in
        let shows = subst (λ (q : Result Answer StepFault). OnOk q (AreShown (step r.state x).1 txns)) is_ok shown in (
          step-stands laws first lists before r w v was o n stands (length was.txns) x its-step next to leads owes a here (spelled (not-memory result a is_ok)) (record was { txns = txns }) (stepped-of r x was txns stands.sessions shows count),
          step-grown laws first lists before r w v was o n stands (length was.txns) x its-step next to a here,
          step-goes number line done later r l more x a is next to here.answers.answer put,
        )

    pub step-filled : Laws → (v : Engine) (n : Outside) (result : Result Answer StepFault) (f : Full) → result ≡ Err (faults.Full f) → Steps first x r.state w v result o n → (result ≢ Err faults.Memory → draws r.state x ≡ [] → AreSpelled (writes r.state x))
        → IsFullIn (journals_of w.owners) lists r before f n
    step-filled laws v n result f is_full s spelled = step-full laws first lists before r w v was o n stands (length was.txns) x its-step next to f
        (subst (λ (q : Result Answer StepFault). Steps first x r.state w v q o n) is_full s) (spelled (full-no-memory result f is_full))

  -- it is told
  module _ (t m : Then) (meant_is : m ≡ expansion line (actor_state r line) done waiting) (then_is : m ≡ t) (none : step_in t ≡ None) (a : Option Answer) (tells : turned r l more t ≡ told_by r l more a) where
    comes-to : expansion line (actor_state r line) done (pending_links r.state) ≡ t
    comes-to = sym (meant_is ∙ sees) ∙ then_is

    told-to : turn r ≡ told_by r l more a
    told-to = turn-is number line done r l more is t comes-to ∙ tells

    quiet : next_step r ≡ None
    quiet = next-is number line done r l more is t comes-to ∙ none

    pub tell-turned : (now : Sessions) (n : Outside) (done_now : List Answer) → Stands first lists before (told_by r l more a) w now n → StandsAfter 1 first lists before r w now n × HasGrown 1 r (journals_of w.owners) w × Goes true number line done_now r l more
    tell-turned now n done_now s = (
      told-stands r (told_by r l more a) told-to quiet first lists before w now n s,
      told-grown r (told_by r l more a) told-to quiet w,
      told-past r (told_by r l more a) told-to quiet number more refl (ap (λ (k : ℕ). k + 1) is.number_is) refl,
    )

    pub tell-history : (n : Outside) → AtEveryMoment (IsBetween lists r (told_by r l more a) before) o n → AtEveryMoment (IsInRun (journals_of w.owners) lists r before) o n
    tell-history n m =
        moments_more (IsBetween lists r (told_by r l more a) before) (IsInRun (journals_of w.owners) lists r before) o n (λ p. moment-between (journals_of w.owners) lists r (told_by r l more a) before p told-to) m

-- an answer that was given
pub given-tells : (done : List Answer) (r : Run) (l : Read) (more : List Read) (k : ℕ) (a : Option Answer) → r.answers ≡ done → slice_get done k ≡ a → turned r l more (given k) ≡ told_by r l more a
given-tells done r l more k a answers at = ap (told_by r l more) (ap (λ (d : List Answer). slice_get d k) answers ∙ at)

-- ---- telling

module _ (first : ℕ) (lists : Lists) (before : Option (List ℕ)) (r : Run) (w : Engine) (l : Read) (more : List Read) (line : Line) (number : ℕ) (v : Sessions) (o : Outside) (stands : Stands first lists before r w v o)
    (line_is : l.line ≡ line) (number_is : r.number ≡ number) (a : Answer) (text : List ℕ) (is : text ≡ line_text v.names number a) where
  text-is : text_of r (Some a) ≡ text
  text-is = (λ i. line_text (sym stands.sessions.names i) (number_is i) a) ∙ sym is

  -- behind it
  pub say-stands : (now : Sessions) (n : Outside) → ((r : Run) → AreOf r v → now.grids ≡ grids_behind r line (Some a)) → now.txns ≡ v.txns → now.names ≡ v.names → now.actors ≡ v.actors
      → (AreReady (journals_of w.owners) o → AreReady (journals_of w.owners) n) → ((lists : Lists) → AreKept (journals_of w.owners) lists o → AreKept (journals_of w.owners) lists n) → n.told ≡ extended text o.told
      → Stands first lists before (told_by r l more (Some a)) w now n
  say-stands now n grids txns names actors ready kept told = record {
    is = stands.is;
    sessions = record {
      shown = subst (AreShown r.state) (sym txns) stands.sessions.shown;
      actors = actors ∙ stands.sessions.actors;
      names = names ∙ stands.sessions.names;
      count = ap length txns ∙ stands.sessions.count ∙ ap length (sym names);
      grids = grids r stands.sessions ∙ ap (λ (k : Line). grids_behind r k (Some a)) (sym line_is);
    };
    ready = ready stands.ready;
    kept = kept lists stands.kept;
    folds = stands.folds;
    folded = stands.folded;
    sound = stands.sound;
    told = told ∙ ap (extended text) stands.told ∙ by before ∙ ap (λ (t : List ℕ). extended (r.told ++ t) before) (sym text-is);
  }
    where
      by : (b : Option (List ℕ)) → extended text (extended r.told b) ≡ extended (r.told ++ text) b
      by None = refl
      by (Some b) = ap (λ (t : List ℕ). Some t) (assoc b r.told text)

  -- meanwhile
  pub say-history : Laws → (n : Outside) → AtEveryMoment (IsTelling lists text o) o n → AtEveryMoment (IsBetween lists r (told_by r l more (Some a)) before) o n
  say-history laws n m = moments_more (IsTelling lists text o) (IsBetween lists r (told_by r l more (Some a)) before) o n
      (λ p x. moment-telling r (told_by r l more (Some a)) text before lists o p (ap (λ (t : List ℕ). r.told ++ t) text-is) stands.told x
      (stays laws first lists stands.folds r.state stands.folded stands.sound p x.has)) m
