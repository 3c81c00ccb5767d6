-- What a step leaves of the areas, and over what the engine stands behind it.
use Rattle.std.proofs.Common.{◌≡◌, ◌≢◌, inl, inr, ℕ, Bool, true, false, if◌then◌else◌, List, [], ◌∷◌, ◌++◌, Option, Some, None, Result, Ok, Err, OnOk, refl, sym, ap, ◌∙◌, subst}
use Rattle.dl_areas.specs.Lists.{HasLists, Journals, Lists, Write, puts}
use Rattle.dl_areas.specs.Writing.{Does, LeavesPrefix, fitting}
use Rattle.dl_base.proofs.Moments.{moments_more, since_begin}
use Rattle.dl_base.specs.Outside.{AtEveryMoment, CrashState, IsLawful, Now, Outside}
use Rattle.dl_base.specs.declared.answer.Answer.{Answer}
use Rattle.dl_base.specs.declared.area.Area.{Area}
use Rattle.dl_base.specs.declared.area.Area.TheVariants as areas
use Rattle.dl_base.specs.declared.fault.AppendFault.{AppendFault}
use Rattle.dl_base.specs.declared.fault.AppendFault.TheVariants as appends
use Rattle.dl_base.specs.declared.fault.Full.{Full}
use Rattle.dl_base.specs.declared.fault.StepFault.{StepFault}
use Rattle.dl_base.specs.declared.fault.StepFault.TheVariants as faults
use Rattle.dl_base.specs.declared.step.Step.{Step}
use Rattle.dl_base.specs.declared.step.Step.TheVariants as steps
use Rattle.dl_base.specs.declared.step.Target.{Target}
use Rattle.fm_manager.specs.Managed.{AreSpelled, as_writes}
use Rattle.meaning_areas.specs.Lists.{Folds, Written}
use Rattle.meaning_areas.specs.Stands.{stored_of}
use Rattle.meaning_history.specs.Reached.{first_of}
use Rattle.meaning_system.specs.Machine.{step}
use Rattle.meaning_system.specs.Recovering.{Recovers}
use Rattle.meaning_system.specs.State.{State}
use Rattle.meaning_system.specs.Writes.{opening, writes}
use Rattle.sys_core.specs.Standing.{IsOf}
use Rattle.sys_core.specs.Steps.{Steps, draws, records_of}
use Rattle.sys_core.specs.declared.engine.Engine.{Engine}
use Rattle.sys_owners.proofs.Placing.{its-area}
use Rattle.sys_opening.specs.Begun.{HasBegun}
use Rattle.sys_owners.specs.Owned.{Owned, folds_in, journals_of}
use Rattle.sys_recovery.specs.Left.{IsAtomic, areas_of, has_commit}
use Rattle.sys_run.proofs.Images.{Drawn, Laws, all-written, drawn, draws-is, exhausted, exhausted-fits, leaves-some, nil, no-cons, no-draws, no-prefix, none-fitting, part-of, partly, stays, strict, wholly}
use Rattle.sys_run.proofs.Stepping.{Leads, Owes}
use Rattle.sys_run.specs.Turning.{LeavesSome}
use Rattle.sys_promises.specs.Taken.{AllRecover, EngineStands, IsBeforeOrBehind, RecoverAlike, Throughout, TookStep}

-- what a crash leaves now is an image of the area of each journal
image-of : (w : Owned) (o : Outside) (p : CrashState) → Now o p → (a : Area) → o.image (journals_of w a).area (p.areas a)
image-of w o p now a = let I : Area → Type 0 = λ b. o.image b (p.areas a) in subst I (sym (its-area w a)) (now.areas a)

-- only a restore has records behind its commit
abbrev pub Commits : Type 0
Commits = (s : State) (x : Step) (front rest : List Written) (w : Written) → front ++ w ∷ rest ≡ writes s x → has_commit front ≡ true → (t : Target) × (x ≡ steps.Restore t)

-- ---- behind an opening

pub stands-opened : Laws → (limit : ℕ) (lists : Lists) (f : Folds) (s : State) (w : Engine) (o n : Outside) → HasBegun limit lists f w.owners o n → IsOf (first_of (stored_of f)) w s
    → EngineStands (first_of (stored_of f)) (puts (as_writes (opening f)) lists) s w n
stands-opened laws limit lists f s w o n begun is = record {
  is = is;
  ready = begun.begun.ready;
  kept = begun.kept;
  folds = folds_in w.owners;
  folded = laws.folded lists f (folds_in w.owners) (opening f) begun.folded begun.leads begun.spelled;
  sound = is.sound;
}

-- ---- of a step

module _ (laws : Laws) (first : ℕ) (lists : Lists) (s : State) (w : Engine) (o : Outside) (stands : EngineStands first lists s w o) where
  abbrev js : Journals
  js = journals_of w.owners

  -- the lists as they are
  here : (p : CrashState) → HasLists lists p → Recovers (areas_of p) s
  here p has = stays laws first lists stands.folds s stands.folded stands.sound p has

  pub all-recover : AllRecover s o
  all-recover p now = here p (λ a. (stands.kept a).images (p.areas a) (image-of w.owners o p now a))

  -- what is so at each moment of a call is so whatever a crash leaves of it
  pub throughout : (P : CrashState → Type 0) (n : Outside) → IsLawful o → IsLawful n → ((p : CrashState) → Recovers (areas_of p) s → P p) → AtEveryMoment P o n → Throughout P o n
  throughout P n law later first m =
      let since = λ (p : CrashState) (left : n.since o.moment p). since_begin P o n law m (λ q now. first q (all-recover q now)) p left in
      record { moments = m; since = since; behind = λ p now. since p (later.counts_now o.moment p m.later now) }

  module _ (x : Step) (atomic : IsAtomic x) (v : Engine) (n : Outside) where
    abbrev ks : Journals
    ks = journals_of v.owners

    one-of : (p : CrashState) (b : Bool) → Recovers (areas_of p) (if b then (step s x).1 else s) → IsBeforeOrBehind s x p
    one-of p true is = inr is
    one-of p false is = inl is

    -- some of its records are there
    some-there : AreSpelled (writes s x) → (p : CrashState) → LeavesSome js lists (writes s x) o p → IsBeforeOrBehind s x p
    some-there spelled p m = by m.rest m.parts
      where
        by : (rest : List Written) → m.front ++ rest ≡ writes s x → IsBeforeOrBehind s x p
        by [] parts = inr (wholly laws first lists stands.folds s stands.folded stands.sound x stands.is.few atomic spelled p m.front (sym (nil m.front) ∙ parts) m.has)
        by (y ∷ rest) parts = one-of p (has_commit m.front) (partly laws first lists stands.folds s stands.folded stands.sound x stands.is.few atomic spelled p m.front rest y parts m.has)

    -- none is there
    none-there : (ws : List Write) → ws ≡ [] → (p : CrashState) → LeavesPrefix lists ws o p → Recovers (areas_of p) s
    none-there ws none p m = here p (subst (λ (l : List Write). HasLists (puts l lists) p) (no-prefix m.prefix m.rest (m.parts ∙ none)) m.has)

    some-moments : (fault : Option AppendFault) → Does js ks (records_of s x) fault o n → (draws s x ≡ [] → AreSpelled (writes s x)) → AtEveryMoment (IsBeforeOrBehind s x) o n
    some-moments fault d spelled = by (draws-is s x)
      where
        by : Drawn (draws s x) → AtEveryMoment (IsBeforeOrBehind s x) o n
        by (drawn none) = moments_more (LeavesSome js lists (writes s x) o) (IsBeforeOrBehind s x) o n (some-there (spelled none)) (leaves-some lists js ks s x o n stands.kept none fault d)
        by (exhausted y f is full) = moments_more (LeavesPrefix lists (fitting js (records_of s x)) o) (IsBeforeOrBehind s x) o n
            (λ p m. inl (none-there (fitting js (records_of s x)) (exhausted-fits js s x y f is full) p m)) (d.images lists stands.kept)

    none-moments : Does js ks [] None o n → AtEveryMoment (λ p. Recovers (areas_of p) s) o n
    none-moments d = moments_more (LeavesPrefix lists (fitting js []) o) (λ p. Recovers (areas_of p) s) o n (none-there (fitting js []) (none-fitting js)) (d.images lists stands.kept)

    during-by : (result : Result Answer StepFault) → Steps first x s w v result o n → (result ≢ Err faults.Memory → draws s x ≡ [] → AreSpelled (writes s x)) → AtEveryMoment (IsBeforeOrBehind s x) o n
    during-by (Ok a) t spelled = some-moments None t.ends (spelled (λ e. absurd cc))
    during-by (Err faults.Device) t spelled = some-moments (Some appends.Device) t.ends (spelled (λ e. absurd cc))
    during-by (Err (faults.Full f)) t spelled = some-moments (Some (appends.Full f)) t.ends (spelled (λ e. absurd cc))
    during-by (Err faults.Memory) t spelled = moments_more (λ p. Recovers (areas_of p) s) (IsBeforeOrBehind s x) o n (λ p is. inl is) (none-moments t.ends)

    -- it is answered
    stands-on : Leads → Owes → (a : Answer) → Steps first x s w v (Ok a) o n → AreSpelled (writes s x) → EngineStands first (puts (as_writes (writes s x)) lists) (step s x).1 v n
    stands-on leads owes a t spelled =
        let d = all-written lists js ks s x o n stands.kept t.ends in
        let (later, folds, sound) = leads first stands.folds s x stands.sound stands.is.few (λ t e. owes first stands.folds s stands.sound t) in
        record {
          is = t.answers.state;
          ready = d.ready refl stands.ready;
          kept = d.done refl lists stands.kept;
          folds = later;
          folded = laws.folded lists stands.folds later (writes s x) stands.folded folds spelled;
          sound = sound;
        }

    -- it is full: those of its records are there that fit
    fit-there : (f : Full) → Does js ks (records_of s x) (Some (appends.Full f)) o n → (p : CrashState) → Now n p → HasLists (puts (fitting js (records_of s x)) lists) p
    fit-there f d p now a = (d.before f refl lists stands.kept a).images (p.areas a) (image-of v.owners n p now a)

    full-by : Commits → (f : Full) → Does js ks (records_of s x) (Some (appends.Full f)) o n → (draws s x ≡ [] → AreSpelled (writes s x)) → RecoverAlike s x n
    full-by commits f d spelled = by (draws-is s x)
      where
        back : AreSpelled (writes s x) → (front rest : List Written) (y : Written) → front ++ y ∷ rest ≡ writes s x → ((p : CrashState) → Now n p → HasLists (puts (as_writes front) lists) p) → RecoverAlike s x n
        back spells front rest y parts has = which (has_commit front) refl
            (λ p now. partly laws first lists stands.folds s stands.folded stands.sound x stands.is.few atomic spells p front rest y parts (has p now))
          where
            which : (b : Bool) → has_commit front ≡ b → ((p : CrashState) → Now n p → Recovers (areas_of p) (if b then (step s x).1 else s)) → RecoverAlike s x n
            which true is all = let (t, restores) = commits s x front rest y parts is in inr (t, restores, all)
            which false is all = inl all

        left : AreSpelled (writes s x) → (next : Write) (later : List Write) (front rest : List Written) → front ++ rest ≡ writes s x → as_writes rest ≡ next ∷ later → ((p : CrashState) → Now n p → HasLists (puts (as_writes front) lists) p) → RecoverAlike s x n
        left spells next later front [] parts is has = no-cons next later (sym is)
        left spells next later front (y ∷ rest) parts is has = back spells front rest y parts has

        by : Drawn (draws s x) → RecoverAlike s x n
        by (exhausted y g is full) = inl (λ p now. here p (subst (λ (l : List Write). HasLists (puts l lists) p) (exhausted-fits js s x y g is full) (fit-there f d p now)))
        by (drawn none) =
            let (next, later, parts) = strict (records_of s x) js f (d.full f refl) in
            let plain : records_of s x ≡ as_writes (writes s x) = ap (λ (ds : List Write). ds ++ as_writes (writes s x)) none in
            let part = part-of (writes s x) (fitting js (records_of s x)) (next ∷ later) (parts ∙ plain) in
            left (spelled none) next later part.front part.back part.parts part.is_back
            (λ p now. subst (λ (l : List Write). HasLists (puts l lists) p) (sym part.is_front) (fit-there f d p now))

  module _ (x : Step) (v : Engine) (result : Result Answer StepFault) (n : Outside) (took : TookStep first x s w v result o n) where
    pub during : IsLawful o → IsLawful n → Throughout (IsBeforeOrBehind s x) o n
    during law later = throughout (IsBeforeOrBehind s x) n law later (λ p is. inl is) (during-by x took.atomic v n result took.steps took.spelled)

    pub memory : IsLawful o → IsLawful n → result ≡ Err faults.Memory → Throughout (λ p. Recovers (areas_of p) s) o n × EngineStands first lists s v n
    memory law later is = by result is took.steps
      where
        by : (q : Result Answer StepFault) → q ≡ Err faults.Memory → Steps first x s w v q o n → Throughout (λ p. Recovers (areas_of p) s) o n × EngineStands first lists s v n
        by (Ok a) is t = absurd cc
        by (Err faults.Device) is t = absurd cc
        by (Err (faults.Full f)) is t = absurd cc
        by (Err faults.Memory) is t = (
          throughout (λ p. Recovers (areas_of p) s) n law later (λ p is. is) (none-moments x took.atomic v n t.ends),
          record { is = t.memory refl; ready = t.ends.ready refl stands.ready; kept = t.ends.done refl lists stands.kept; folds = stands.folds; folded = stands.folded; sound = stands.sound },
        )

    pub full : Commits → (f : Full) → result ≡ Err (faults.Full f) → RecoverAlike s x n
    full commits f is =
        let t = subst (λ (q : Result Answer StepFault). Steps first x s w v q o n) is took.steps in
        full-by x took.atomic v n commits f t.ends (took.spelled (λ e. absurd cc))

module _ (laws : Laws) (first : ℕ) (lists : Lists) (s : State) (w : Engine) (o : Outside) (stands : EngineStands first lists s w o) where
  pub answered : Leads → Owes → (x : Step) (v : Engine) (result : Result Answer StepFault) (n : Outside) → TookStep first x s w v result o n → OnOk result (AllRecover (step s x).1 n × EngineStands first (puts (as_writes (writes s x)) lists) (step s x).1 v n)
  answered leads owes x v (Err e) n took = tt
  answered leads owes x v (Ok a) n took =
      let none = no-draws lists (journals_of w.owners) (journals_of v.owners) s x o n stands.kept took.steps.ends in
      let behind = stands-on laws first lists s w o stands x took.atomic v n leads owes a took.steps (took.spelled (λ e. absurd cc) none) in
      (all-recover laws first (puts (as_writes (writes s x)) lists) (step s x).1 v n behind, behind)
