-- How a step ends.
use Rattle.std.proofs.Common.{◌≡◌, List, [], ◌∷◌, ◌++◌, refl, sym, ap, subst, Option, Some, None}
use Rattle.std.specs.Option.{option_map}
use Rattle.dl_base.proofs.Moments.{moments_more}
use Rattle.dl_base.specs.Faults.{step_fault}
use Rattle.dl_base.specs.Outside.{Outside, AtEveryMoment}
use Rattle.dl_base.specs.declared.fault.AppendFault.{AppendFault}
use Rattle.dl_base.specs.declared.fault.AppendFault.TheVariants as appends
use Rattle.dl_base.specs.declared.fault.StepFault.{StepFault}
use Rattle.dl_base.specs.declared.fault.StepFault.TheVariants as steps
use Rattle.dl_journal.specs.Extent.{Extent}
use Rattle.dl_areas.specs.Lists.{Lists, Journals, Write, with_journal, AreKept}
use Rattle.dl_areas.specs.Writing.{LeavesPrefix, Does, DoesAlone, Ends, EndsAlone, fitting}
use Rattle.dl_areas.proofs.Doing.{does-none, prefix-more}
use Rattle.dl_areas.proofs.Fitting.{fitting-rest}
use Rattle.dl_areas.proofs.Places.{with-same}

pub ends-written : (js ks : Journals) (ws : List Write) (fault : Option AppendFault) (o n : Outside) → Does js ks ws fault o n → Ends js ks ws (option_map step_fault fault) o n
ends-written js ks ws None o n d = d
ends-written js ks ws (Some appends.Device) o n d = d
ends-written js ks ws (Some (appends.Full f)) o n d = d

-- whatever the end, at each moment a prefix of the records is there
pub ends-images : (js ks : Journals) (ws : List Write) (fault : Option StepFault) (o n : Outside) → Ends js ks ws fault o n → (lists : Lists) → AreKept js lists o → AtEveryMoment (LeavesPrefix lists ws o) o n
ends-images js ks ws fault o n ends lists kept = at fault ends
  where
    nil : (l : List Write) → l ++ [] ≡ l
    nil [] = refl
    nil (x ∷ l) = ap (λ (r : List Write). x ∷ r) (nil l)

    from : (vs rest : List Write) (f : Option AppendFault) → vs ++ rest ≡ ws → Does js ks vs f o n → AtEveryMoment (LeavesPrefix lists ws o) o n
    from vs rest f is d = moments_more (LeavesPrefix lists (fitting js vs) o) (LeavesPrefix lists ws o) o n
        (λ p x. prefix-more lists vs rest ws o p is (prefix-more lists (fitting js vs) (fitting-rest vs js).0 vs o p (fitting-rest vs js).1 x)) (d.images lists kept)

    at : (fault : Option StepFault) → Ends js ks ws fault o n → AtEveryMoment (LeavesPrefix lists ws o) o n
    at None d = from ws [] None (nil ws) d
    at (Some steps.Device) d = from ws [] (Some appends.Device) (nil ws) d
    at (Some (steps.Full f)) d = from ws [] (Some (appends.Full f)) (nil ws) d
    at (Some steps.Memory) d = from [] ws None refl d

pub ends-told : (js ks : Journals) (ws : List Write) (fault : Option StepFault) (o n : Outside) → Ends js ks ws fault o n → n.told ≡ o.told
ends-told js ks ws None o n d = d.told
ends-told js ks ws (Some steps.Device) o n d = d.told
ends-told js ks ws (Some (steps.Full f)) o n d = d.told
ends-told js ks ws (Some steps.Memory) o n d = d.told

-- the same of a step on one journal

pub alone-written : (j k : Extent) (ws : List Write) (fault : Option AppendFault) (o n : Outside) → DoesAlone j k ws fault o n → EndsAlone j k ws (option_map step_fault fault) o n
alone-written j k ws fault o n d = record {
  area = d.area;
  others = d.others;
  gate = λ is. d.gate (none fault is);
  ends = λ js ready at. ends-written js (with_journal k js) ws fault o n (d.does js ready at);
}
  where
    none : (f : Option AppendFault) → option_map step_fault f ≡ None → f ≡ None
    none None is = refl
    none (Some f) is = absurd cc

pub alone-memory : (j : Extent) (ws : List Write) (o : Outside) → EndsAlone j j ws (Some steps.Memory) o o
alone-memory j ws o = record {
  area = refl;
  others = λ a other. refl;
  gate = λ is. absurd cc;
  ends = λ js ready at. subst (λ (ks : Journals). Does js ks [] None o o) (sym (with-same j js at)) (does-none js o);
}
