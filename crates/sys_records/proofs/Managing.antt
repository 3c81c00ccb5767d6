-- Steps of the manager as steps of all five areas.
use Rattle.std.proofs.Common.{◌≡◌, List, Option, Result, Ok, Err, OnErr, refl, subst}
use Rattle.dl_areas.specs.Lists.{AreReady, Journals, Write}
use Rattle.dl_areas.specs.Writing.{Ends}
use Rattle.dl_base.specs.Outside.{Outside}
use Rattle.dl_base.specs.declared.area.Area.{Area}
use Rattle.dl_base.specs.declared.area.Area.TheVariants.{Rows, Links, Files, Archive, Backups}
use Rattle.dl_base.specs.declared.fault.StepFault.{StepFault}
use Rattle.fm_manager.specs.Managed.{Managed, ManagesStep, with_managed}
use Rattle.sys_owners.proofs.Placing.{with_manager}
use Rattle.sys_owners.specs.Owned.{Owned, journals_of}

manager-in : (w : Owned) (m : Managed) → with_managed m (journals_of w) ≡ journals_of (with_manager w m)
manager-in w m = λ i a. each a i
  where
    each : (a : Area) → with_managed m (journals_of w) a ≡ journals_of (with_manager w m) a
    each Rows = refl
    each Links = refl
    each Files = refl
    each Archive = refl
    each Backups = refl

-- beside `manager-does` of sys_owners, which is of calls that take no memory
pub manager-ends : (w : Owned) (ws : List Write) (fault : Option StepFault) (o n : Outside) → AreReady (journals_of w) o
    → (m : Managed) → ManagesStep w.manager m ws fault o n → Ends (journals_of w) (journals_of (with_manager w m)) ws fault o n
manager-ends w ws fault o n ready m call = subst (λ (ks : Journals). Ends (journals_of w) ks ws fault o n) (manager-in w m) (call.ends (journals_of w) ready (manager-in w w.manager))

-- beside `on-ok` of sys_owners
pub on-err : {T E P Q : Type 0} (r : Result T E) → OnErr r P → (P → Q) → OnErr r Q
on-err (Ok x) p f = p
on-err (Err e) p f = f p
