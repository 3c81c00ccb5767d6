-- WHAT PARTS OF AN OPENING TRY, one behind another, and what is there at each moment of it.
use Rattle.std.proofs.Common.{◌≡◌, inl, inr, ⊎_elim, List, [], ◌++◌, ℕ, Option, Some, None, refl, sym, ◌∙◌, ap, subst, append_assoc}
use Rattle.dl_areas.specs.Lists.{HasLists, Journals, Lists, Write, puts}
use Rattle.dl_areas.specs.Opening.{IsInBegin, IsInOpening, journals_with}
use Rattle.dl_areas.specs.Writing.{Does, LeavesPrefix, fitting}
use Rattle.dl_base.proofs.Moments.{moments_more}
use Rattle.dl_base.specs.Outside.{AtEveryMoment, CrashState, Outside}
use Rattle.dl_base.specs.declared.fault.AppendFault.{AppendFault}
use Rattle.fm_manager.specs.Managed.{as_writes}
use Rattle.meaning_areas.specs.Lists.{Written}
use Rattle.meaning_opening.proofs.Plain.{none_some}
use Rattle.sys_opening.proofs.Spelling.{Front, fitting-front, have-append}
use Rattle.sys_opening.specs.Begun.{IsOfOpening, LeavesSpelled}
use Rattle.sys_opening.specs.Halting.{HaveSpellings, Tries}
use Rattle.sys_opening.specs.declared.fault.OpenFault.{OpenFault}
use Rattle.sys_owners.proofs.InARow.{append-nil, writes-append}

module _ (js ks : Journals) (o n : Outside) where
  -- all of them
  pub tries-all : (xs : List Written) (fault : Option OpenFault) (ending : Option AppendFault) → HaveSpellings xs → Does js ks (as_writes xs) ending o n → Tries js ks xs fault o n
  tries-all xs fault ending have does = record { tried = xs; rest = []; parts = append-nil xs; spelled = have; ending = ending; does = does; whole = λ is. refl }

  -- none of them
  pub tries-none : (xs : List Written) (fault : OpenFault) → Does js ks [] None o n → Tries js ks xs (Some fault) o n
  tries-none xs fault none = record { tried = []; rest = xs; parts = refl; spelled = tt; ending = None; does = none; whole = λ is. absurd (none_some fault (sym is)) }

  -- others are left
  pub tries-more : (xs ys : List Written) (fault : OpenFault) → Tries js ks xs (Some fault) o n → Tries js ks (xs ++ ys) (Some fault) o n
  tries-more xs ys fault t = record {
    tried = t.tried;
    rest = t.rest ++ ys;
    parts = sym (append_assoc t.tried t.rest ys) ∙ ap (λ (zs : List Written). zs ++ ys) t.parts;
    spelled = t.spelled;
    ending = t.ending;
    does = t.does;
    whole = λ is. absurd (none_some fault (sym is));
  }

  -- where no fault was met, all have spellings
  pub tries-whole : (xs : List Written) → Tries js ks xs None o n → HaveSpellings xs
  tries-whole xs t = subst (λ (zs : List Written). HaveSpellings zs) (sym (append-nil t.tried) ∙ ap (λ (zs : List Written). t.tried ++ zs) (sym (t.whole refl)) ∙ t.parts) t.spelled

module _ (js ks ls : Journals) (o m n : Outside) (then : (ws vs : List Write) (fault : Option AppendFault) → Does js ks ws None o m → Does ks ls vs fault m n → Does js ls (ws ++ vs) fault o n) where
  -- behind what was written before
  pub tries-behind : (done xs all : List Written) → all ≡ done ++ xs → (fault : Option OpenFault) → HaveSpellings done → Does js ks (as_writes done) None o m → Tries ks ls xs fault m n → Tries js ls all fault o n
  tries-behind done xs all is fault have first t = record {
    tried = done ++ t.tried;
    rest = t.rest;
    parts = append_assoc done t.tried t.rest ∙ ap (λ (zs : List Written). done ++ zs) t.parts ∙ sym is;
    spelled = have-append done t.tried have t.spelled;
    ending = t.ending;
    does = subst (λ (ws : List Write). Does js ls ws t.ending o n) (sym (writes-append done t.tried)) (then (as_writes done) (as_writes t.tried) t.ending first t.does);
    whole = t.whole;
  }

  -- and others are left
  pub tries-among : (done xs rest all : List Written) → all ≡ (done ++ xs) ++ rest → (fault : OpenFault) → HaveSpellings done → Does js ks (as_writes done) None o m → Tries ks ls xs (Some fault) m n → Tries js ls all (Some fault) o n
  tries-among done xs rest all is fault have first t =
      subst (λ (zs : List Written). Tries js ls zs (Some fault) o n) (sym is)
      (tries-more js ls o n (done ++ xs) rest fault (tries-behind done xs (done ++ xs) refl (Some fault) have first t))

-- AT EACH MOMENT the first of them are there, with spellings
module _ (limit : ℕ) (read : Lists) (js ks : Journals) (xs : List Written) (fault : Option OpenFault) (o m n : Outside) (t : Tries js ks xs fault m n) where
  leaves : (p : CrashState) → LeavesPrefix read (fitting (journals_with limit read) (as_writes t.tried)) o p → LeavesSpelled read xs o p
  leaves p left =
      let first : Front t.tried left.prefix = fitting-front t.tried (journals_with limit read) t.spelled left.prefix left.rest left.parts in
      record {
        told = left.told;
        front = first.front;
        rest = first.rest ++ t.rest;
        parts = sym (append_assoc first.front first.rest t.rest) ∙ ap (λ (zs : List Written). zs ++ t.rest) first.parts ∙ t.parts;
        spelled = first.spelled;
        has = subst (λ (ws : List Write). HasLists (puts ws read) p) (sym first.same) left.has;
      }

  pub tries-fronts : ((us : List Write) (ending : Option AppendFault) → Does js ks us ending m n → AtEveryMoment (IsInBegin limit read us o) o n) → AtEveryMoment (IsOfOpening read xs o) o n
  tries-fronts images = moments_more (IsInBegin limit read (as_writes t.tried) o) (IsOfOpening read xs o) o n wider (images (as_writes t.tried) t.ending t.does)
    where
      wider : (p : CrashState) → IsInBegin limit read (as_writes t.tried) o p → IsOfOpening read xs o p
      wider p is = ⊎_elim
          (λ (before : IsInOpening o p). inl before)
          (λ (left : LeavesPrefix read (fitting (journals_with limit read) (as_writes t.tried)) o p). inr (leaves p left))
          is
