-- PARTS OF AN OPENING AS ALL OF IT: what was written before, a part that may halt, and what is left.
use Rattle.std.proofs.Common.{◌≡◌, List, [], ◌++◌, Option, Some, None, refl, sym, ◌∙◌, ap, subst, append_assoc}
use Rattle.dl_areas.specs.Lists.{Journals, Write}
use Rattle.dl_areas.specs.Writing.{Does}
use Rattle.dl_base.specs.Outside.{Outside}
use Rattle.dl_base.specs.declared.fault.AppendFault.{AppendFault}
use Rattle.dl_base.specs.declared.fault.AppendFault.TheVariants as appends
use Rattle.fm_manager.specs.Managed.{as_writes}
use Rattle.meaning_areas.specs.Lists.{Written}
use Rattle.sys_opening.proofs.Halts.{halts-then}
use Rattle.sys_opening.specs.Halting.{Halts}
use Rattle.sys_opening.specs.declared.fault.OpenFault.{OpenFault}
use Rattle.sys_opening.specs.declared.fault.OpenFault.TheVariants as faults
use Rattle.sys_owners.proofs.InARow.{writes-append}

-- want of memory before the first record
pub halts-before : (js ks : Journals) (ws : List Write) (o n : Outside) → Does js ks [] None o n → Halts js ks ws (Some faults.Memory) o n
halts-before js ks ws o n none = record { prefix = []; rest = ws; parts = refl; does = none }

-- others are left
module _ (js ls : Journals) (o e : Outside) (stop : (ws vs : List Write) (fault : AppendFault) → Does js ls ws (Some fault) o e → Does js ls (ws ++ vs) (Some fault) o e) where
  halts-more : (ws vs : List Write) (fault : OpenFault) → Halts js ls ws (Some fault) o e → Halts js ls (ws ++ vs) (Some fault) o e
  halts-more ws vs faults.Device d = stop ws vs appends.Device d
  halts-more ws vs (faults.Full full) d = stop ws vs (appends.Full full) d
  halts-more ws vs faults.Memory d = record {
    prefix = d.prefix;
    rest = d.rest ++ vs;
    parts = sym (append_assoc d.prefix d.rest vs) ∙ ap (λ (xs : List Write). xs ++ vs) d.parts;
    does = d.does;
  }
  halts-more ws vs (faults.NotAStore area place) d = absurd d

  pub halts-before-others : (xs ys : List Written) (fault : OpenFault) → Halts js ls (as_writes xs) (Some fault) o e → Halts js ls (as_writes (xs ++ ys)) (Some fault) o e
  halts-before-others xs ys fault d = subst (λ (ws : List Write). Halts js ls ws (Some fault) o e) (sym (writes-append xs ys)) (halts-more (as_writes xs) (as_writes ys) fault d)

module _ (js ks ls : Journals) (o p e : Outside) (then : (ws vs : List Write) (fault : Option AppendFault) → Does js ks ws None o p → Does ks ls vs fault p e → Does js ls (ws ++ vs) fault o e) where
  -- what was written before, and then these records, are all
  pub halts-behind : (done xs all : List Written) → all ≡ done ++ xs → (fault : Option OpenFault) → Does js ks (as_writes done) None o p → Halts ks ls (as_writes xs) fault p e → Halts js ls (as_writes all) fault o e
  halts-behind done xs all parts fault first second =
      subst (λ (ws : List Write). Halts js ls ws fault o e) (sym (ap as_writes parts ∙ writes-append done xs))
      (halts-then js ks ls (as_writes done) (as_writes xs) o p e (λ us f d. then (as_writes done) us f first d) fault second)

  -- what was written before, and then these records, and others that are left, are all
  pub halts-among : ((ws vs : List Write) (fault : AppendFault) → Does js ls ws (Some fault) o e → Does js ls (ws ++ vs) (Some fault) o e)
      → (done xs rest all : List Written) → all ≡ (done ++ xs) ++ rest → (fault : OpenFault) → Does js ks (as_writes done) None o p → Halts ks ls (as_writes xs) (Some fault) p e → Halts js ls (as_writes all) (Some fault) o e
  halts-among stop done xs rest all parts fault first second =
      subst (λ (zs : List Written). Halts js ls (as_writes zs) (Some fault) o e) (sym parts)
      (halts-before-others js ls o e stop (done ++ xs) rest fault (halts-behind done xs (done ++ xs) refl (Some fault) first second))
