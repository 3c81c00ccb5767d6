-- An opening of five areas that then writes records.
use Rattle.std.proofs.Common.{◌≡◌, inl, inr, ℕ, List, refl, sym, ◌∙◌, ap, subst, Option, Some, None}
use Rattle.dl_base.proofs.Moments.{moments_then, moments_more}
use Rattle.dl_base.specs.Outside.{Outside, AtEveryMoment}
use Rattle.dl_base.specs.declared.fault.AppendFault.{AppendFault}
use Rattle.dl_base.specs.declared.fault.AppendFault.TheVariants as appends
use Rattle.dl_base.specs.declared.fault.Full.{Full}
use Rattle.dl_areas.specs.Lists.{Lists, Journals, Write, all_grown, AreKept}
use Rattle.dl_areas.specs.Opening.{AreOpened, AreRead, IsInOpening, IsInBegin, IsBegun, journals_with}
use Rattle.dl_areas.specs.Writing.{LeavesPrefix, Does, fitting, full_in}
use Rattle.dl_areas.proofs.Opens.{opened-ready, opened-kept, opened-journals, opened-lists}

module _ (limit : ℕ) (js ks : Journals) (lists : Lists) (ws : List Write) (o m n : Outside) (all : AreOpened 5 limit js lists o m) where
  module _ (read : Lists) (is : AreRead read o) where
    same-journals : js ≡ journals_with limit read
    same-journals = opened-journals limit js lists o m all ∙ ap (λ (l : Lists). journals_with limit l) (opened-lists limit js lists o m all read is)

    kept-read : AreKept js read m
    kept-read = subst (λ (l : Lists). AreKept js l m) (opened-lists limit js lists o m all read is) (opened-kept limit js lists o m all)

    same-full : full_in js ws ≡ full_in (journals_with limit read) ws
    same-full = ap (λ (j : Journals). full_in j ws) same-journals

    pub begin-images : (fault : Option AppendFault) → Does js ks ws fault m n → AtEveryMoment (IsInBegin limit read ws o) o n
    begin-images fault does = moments_then (IsInBegin limit read ws o) o m n
        (moments_more (IsInOpening o) (IsInBegin limit read ws o) o m (λ p x. inl x) all.opens.moments)
        (moments_more (LeavesPrefix read (fitting js ws) m) (IsInBegin limit read ws o) m n
        (λ p f. inr (record {
          told = sym all.opens.told ∙ f.told;
          prefix = f.prefix;
          rest = f.rest;
          parts = f.parts ∙ ap (λ (j : Journals). fitting j ws) same-journals;
          has = f.has;
        }))
        (does.images read kept-read))

    pub begin-full : (f : Full) → Does js ks ws (Some (appends.Full f)) m n → full_in (journals_with limit read) ws ≡ Some f
    begin-full f does = sym same-full ∙ does.full f refl

  pub begin-begun : Does js ks ws None m n → IsBegun limit ks ws o n
  begin-begun does = record {
    told = does.told ∙ all.opens.told;
    ready = does.ready refl (opened-ready limit js lists o m all);
    fits = λ read is. sym (same-full read is) ∙ does.fits refl;
    grew = λ read is. does.grew refl ∙ ap (λ (j : Journals). all_grown ws j) (same-journals read is);
    keeps = λ read is. does.done refl read (kept-read read is);
    clean = does.clean refl ∙ all.clean;
  }
