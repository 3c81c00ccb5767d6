-- From an opening and the lines to a whole run.
use Rattle.std.proofs.Common.{◌≡◌, inl, inr, ℕ, List, ◌++◌, refl, sym, ap, subst, ◌∙◌, None}
use Rattle.dl_areas.specs.Lists.{AreKept, AreReady, HasLists, Journals, Lists, Write, all_grown, puts}
use Rattle.dl_areas.specs.Opening.{journals_with}
use Rattle.dl_areas.specs.Writing.{full_in}
use Rattle.dl_base.proofs.Moments.{moments_more, moments_then}
use Rattle.dl_base.specs.Outside.{AtEveryMoment, CrashState, Now, Outside}
use Rattle.dl_base.specs.declared.area.Area.{Area}
use Rattle.dl_base.specs.declared.fault.Full.{Full}
use Rattle.dl_base.specs.declared.fault.StepFault.{StepFault}
use Rattle.dl_base.specs.declared.fault.StepFault.TheVariants as faults
use Rattle.fm_manager.specs.Managed.{as_writes}
use Rattle.meaning_areas.specs.Lists.{Written}
use Rattle.meaning_areas.specs.Stands.{stored_of}
use Rattle.meaning_history.specs.Reached.{first_of}
use Rattle.meaning_run.specs.Running.{after, written}
use Rattle.meaning_system.specs.Writes.{opening}
use Rattle.sys_core.specs.declared.engine.Engine.{Engine}
use Rattle.sys_opening.specs.Begun.{AreFound, IsOfOpening}
use Rattle.sys_opening.specs.declared.fault.OpenFault.{OpenFault}
use Rattle.sys_opening.specs.declared.fault.OpenFault.TheVariants as opens
use Rattle.sys_owners.specs.Owned.{journals_of}
use Rattle.sys_run.proofs.Images.{Laws, stays}
use Rattle.sys_run.proofs.Lines.{as-more}
use Rattle.sys_run.specs.Running.{HasGrown, IsFullIn, IsInRun, StandsAfter}
use Rattle.sys_run.specs.declared.sessions.Sessions.{Sessions}
use Rattle.datalinks.proofs.Opened.{IsOpen}
use Rattle.datalinks.specs.Codes.{IsRunEnd, opening_end, step_end}
use Rattle.datalinks.specs.Complete.{WasOpened}
use Rattle.datalinks.specs.Lines.{IsPastScript}
use Rattle.datalinks.specs.Run.{Begun, IsFullAt, IsInside, IsWholeRun, OpeningFits, journals_behind, lists_behind, run_of}
use Rattle.datalinks.specs.declared.status.Status.TheVariants as status

-- what is kept is what a crash leaves
has-lists : (js : Journals) (lists : Lists) (o : Outside) → AreReady js o → AreKept js lists o → (p : CrashState) → Now o p → HasLists lists p
has-lists js lists o ready kept p now a = (kept a).images (p.areas a) (let I : Area → Type 0 = λ b. o.image b (p.areas a) in subst I (sym (ready.areas a)) (now.areas a))

-- records in parts
pub record Parts : Type 0 where
  pub put : (ws vs : List Write) (lists : Lists) → puts (ws ++ vs) lists ≡ puts vs (puts ws lists)
  pub full : (ws vs : List Write) (js : Journals) → full_in js ws ≡ None → full_in js (ws ++ vs) ≡ full_in (all_grown ws js) vs

module _ (run : Begun) (w : Engine) (o m : Outside) (at : IsOpen run.given run.lists run.folds w o m) (found : AreFound run.lists run.folds o) where
  abbrev pub opened : List Write
  opened = as_writes (opening run.folds)

  -- the journals behind the opening
  pub journals-are : journals_of w.owners ≡ journals_behind run
  journals-are = at.begun.begun.grew run.lists found.read

  opening-fits : OpeningFits run
  opening-fits = at.begun.begun.fits run.lists found.read

  -- WHOLE
  module _ (laws : Laws) (parts : Parts) (count : ℕ) (x : Engine) (v : Sessions) (n : Outside)
      (past : IsPastScript count (run_of run)) (stands : StandsAfter count (first_of (stored_of run.folds)) (puts opened run.lists) o.told (run_of run) x v n) (grown : HasGrown count (run_of run) (journals_of w.owners) x) where
    abbrev rows : List Written
    rows = written count (run_of run)

    lists-are : puts (as_writes rows) (puts opened run.lists) ≡ puts (as_writes (opening run.folds ++ rows)) run.lists
    lists-are = sym (parts.put opened (as_writes rows) run.lists) ∙ ap (λ (ws : List Write). puts ws run.lists) (sym (as-more (opening run.folds) rows))

    has : (p : CrashState) → Now n p → HasLists (puts (as_writes rows) (puts opened run.lists)) p
    has = has-lists (journals_of x.owners) (puts (as_writes rows) (puts opened run.lists)) n stands.ready stands.kept

    all-fit : full_in (journals_with run.given.limit run.lists) (as_writes (opening run.folds ++ rows)) ≡ None
    all-fit =
        ap (full_in (journals_with run.given.limit run.lists)) (as-more (opening run.folds) rows)
        ∙ parts.full opened (as_writes rows) (journals_with run.given.limit run.lists) opening-fits
        ∙ ap (λ (js : Journals). full_in js (as_writes rows)) (sym journals-are)
        ∙ grown.fits

    pub whole-run : IsWholeRun run o n
    whole-run = record {
      count = count;
      ended = past;
      told = stands.told;
      lists = λ p now. subst (λ (ls : Lists). HasLists ls p) lists-are (has p now);
      recovers = λ p now. stays laws (first_of (stored_of run.folds)) (puts (as_writes rows) (puts opened run.lists)) stands.folds (after count (run_of run)).state stands.folded stands.sound p (has p now);
      fits = all-fit;
    }

  -- EACH MOMENT
  pub inside-then : (n : Outside) → AtEveryMoment (IsOfOpening run.lists (opening run.folds) o) o m → AtEveryMoment (IsInRun (journals_of w.owners) (lists_behind run) (run_of run) o.told) m n → AtEveryMoment (IsInside run o) o n
  inside-then n before lines = moments_then (IsInside run o) o m n
      (moments_more (IsOfOpening run.lists (opening run.folds) o) (IsInside run o) o m (λ p was. inl was) before)
      (moments_more (IsInRun (journals_of w.owners) (lists_behind run) (run_of run) o.told) (IsInside run o) m n
      (λ p now. inr (opening-fits, subst (λ (js : Journals). IsInRun js (lists_behind run) (run_of run) o.told p) journals-are now)) lines)

  -- FULL
  pub full-then : (full : Full) (n : Outside) → IsFullIn (journals_of w.owners) (lists_behind run) (run_of run) o.told full n → IsFullAt run full o n
  full-then full n is = inr (opening-fits, subst (λ (js : Journals). IsFullIn js (lists_behind run) (run_of run) o.told full n) journals-are is)

pub inside-opening : (run : Begun) (o m : Outside) → AtEveryMoment (IsOfOpening run.lists (opening run.folds) o) o m → AtEveryMoment (IsInside run o) o m
inside-opening run o m before = moments_more (IsOfOpening run.lists (opening run.folds) o) (IsInside run o) o m (λ p was. inl was) before

-- which fault an end comes of
pub step-full : (fault : StepFault) (full : Full) → step_end fault ≡ status.Full full → fault ≡ faults.Full full
step-full faults.Device full is = cc
step-full (faults.Full f) full is = cc
step-full faults.Memory full is = cc

pub step-device : (fault : StepFault) → step_end fault ≡ status.Device → fault ≡ faults.Device
step-device faults.Device is = refl
step-device (faults.Full f) is = cc
step-device faults.Memory is = cc

-- a step ends a run neither at its end nor before its begin
pub step-ends : (fault : StepFault) → IsRunEnd (step_end fault)
step-ends faults.Device = tt
step-ends (faults.Full f) = tt
step-ends faults.Memory = tt

pub step-never-done : (fault : StepFault) → step_end fault ≡ status.Done → ⊥
step-never-done faults.Device is = cc
step-never-done (faults.Full f) is = cc
step-never-done faults.Memory is = cc

pub step-no-store : (fault : StepFault) (area : Area) (place : ℕ) → step_end fault ≡ status.NotAStore area place → ⊥
step-no-store faults.Device area place is = cc
step-no-store (faults.Full f) area place is = cc
step-no-store faults.Memory area place is = cc

pub opening-full : (fault : OpenFault) (full : Full) → opening_end fault ≡ status.Full full → fault ≡ opens.Full full
opening-full opens.Device full is = cc
opening-full (opens.NotAStore area place) full is = cc
opening-full (opens.Full f) full is = cc
opening-full opens.Memory full is = cc

pub opening-device : (fault : OpenFault) → opening_end fault ≡ status.Device → fault ≡ opens.Device
opening-device opens.Device is = refl
opening-device (opens.NotAStore area place) is = cc
opening-device (opens.Full f) is = cc
opening-device opens.Memory is = cc

pub opening-no-store : (fault : OpenFault) (area : Area) (place : ℕ) → opening_end fault ≡ status.NotAStore area place → fault ≡ opens.NotAStore area place
opening-no-store opens.Device area place is = cc
opening-no-store (opens.NotAStore a n) area place is = cc
opening-no-store (opens.Full f) area place is = cc
opening-no-store opens.Memory area place is = cc

pub opening-opened : (fault : OpenFault) → WasOpened (opening_end fault) → (full : Full) × (fault ≡ opens.Full full)
opening-opened opens.Device was = absurd was
opening-opened (opens.NotAStore area place) was = absurd was
opening-opened (opens.Full f) was = (f, refl)
opening-opened opens.Memory was = absurd was
