-- Telling leaves areas and journals as they are.
use Rattle.std.proofs.Common.{ℕ, List, sym, ◌∙◌, subst}
use Rattle.dl_base.proofs.Moments.{moments_say}
use Rattle.dl_base.specs.Outside.{Outside, AtEveryMoment, Says}
use Rattle.dl_base.specs.declared.area.Area.{Area}
use Rattle.dl_areas.specs.Lists.{Lists, Journals, AreReady, AreKept}
use Rattle.dl_areas.specs.Writing.{IsTelling}

module _ (js : Journals) (bytes : List ℕ) (o n : Outside) (says : Says bytes o n) where
  pub told-ready : AreReady js o → AreReady js n
  told-ready ready = record { areas = ready.areas; gates = λ a told is. ready.gates a told (sym (says.reads (js a).area) ∙ is) }

  pub told-kept : (lists : Lists) → AreKept js lists o → AreKept js lists n
  told-kept lists kept = λ a. record { length = (kept a).length; fits = (kept a).fits; images = λ c left. (kept a).images c (says.images (js a).area c left) }

  pub told-moments : (lists : Lists) → AreReady js o → AreKept js lists o → AtEveryMoment (IsTelling lists bytes o) o n
  told-moments lists ready kept = moments_say bytes (IsTelling lists bytes o) o n
      (λ p told images. record {
        told = told;
        has = λ a. (kept a).images (p.areas a) (let I : Area → Type 0 = λ b. o.image b (p.areas a) in subst I (sym (ready.areas a)) (images a));
      })
      says
