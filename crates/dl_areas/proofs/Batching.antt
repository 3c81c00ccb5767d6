-- A loop of calls on one journal, and a call on a second one behind it.
use Rattle.std.proofs.Common.{◌≡◌, ◌≢◌, ◌+◌, ◌<◌, ◌≤◌, ℕ, List, [], ◌∷◌, ◌++◌, length, drop, get_or, refl, sym, ◌∙◌, ap, subst, Option, Some, None}
use Rattle.std.proofs.lemmas.List.{drop_more, drop_all}
use Rattle.dl_base.specs.Outside.{Outside}
use Rattle.dl_base.specs.declared.area.Area.{Area}
use Rattle.dl_base.specs.declared.fault.AppendFault.{AppendFault}
use Rattle.dl_base.specs.declared.fault.StepFault.TheVariants as steps
use Rattle.dl_journal.specs.Extent.{Extent}
use Rattle.dl_journal.specs.Open.{IsOpen}
use Rattle.dl_areas.specs.Batch.{writes_in}
use Rattle.dl_areas.specs.Lists.{Journals, Write, write_of, with_journal, AreReady}
use Rattle.dl_areas.specs.Writing.{Does, DoesAlone, Doing, Ends}
use Rattle.dl_areas.proofs.Doing.{does-none, does-then, does-stop, doing-first, doing-more, doing-end, doing-fault}
use Rattle.dl_areas.proofs.Places.{with-here, with-other, with-same, with-over}

-- what a loop on one journal has done
pub record DoingAlone (j k : Extent) (all left : List Write) (o n : Outside) : Type 0 where
  pub area : k.area ≡ j.area
  pub others : (a : Area) → a ≢ j.area → n.reads a ≡ o.reads a
  pub gate : IsOpen k n
  pub doing : (js : Journals) → AreReady js o → js j.area ≡ j → Doing js (with_journal k js) all left o n

pub alone-first : (j : Extent) (all : List Write) (o : Outside) → IsOpen j o → DoingAlone j j all all o o
alone-first j all o gate = record {
  area = refl;
  others = λ a other. refl;
  gate = gate;
  doing = λ js ready at. subst (λ (ks : Journals). Doing js ks all all o o) (sym (with-same j js at)) (doing-first js all o);
}

module _ (j k : Extent) (all left : List Write) (o m : Outside) (d : DoingAlone j k all left o m) where
  pub alone-more : (l : Extent) (ws later : List Write) (n : Outside) → left ≡ ws ++ later → DoesAlone k l ws None m n → DoingAlone j l all later o n
  alone-more l ws later n is does = record {
    area = does.area ∙ d.area;
    others = λ a other. does.others a (λ e. other (e ∙ d.area)) ∙ d.others a other;
    gate = does.gate refl d.gate;
    doing = λ js ready at.
        let so_far = d.doing js ready at in
        subst (λ (ls : Journals). Doing js ls all later o n) (with-over k l js does.area)
        (doing-more js (with_journal k js) (with_journal l (with_journal k js)) all left o m n so_far ws later is
        (does.does (with_journal k js) (so_far.does.ready refl ready) (with-here k js)));
  }

  pub alone-end : left ≡ [] → DoesAlone j k all None o m
  alone-end is = record {
    area = d.area;
    others = d.others;
    gate = λ e was. d.gate;
    does = λ js ready at. doing-end js (with_journal k js) (with_journal k js) all left o m m (d.doing js ready at) is (does-none (with_journal k js) m);
  }

  pub alone-fault : (l : Extent) (ws later : List Write) (fault : AppendFault) (n : Outside) → left ≡ ws ++ later → DoesAlone k l ws (Some fault) m n → DoesAlone j l all (Some fault) o n
  alone-fault l ws later fault n is does = record {
    area = does.area ∙ d.area;
    others = λ a other. does.others a (λ e. other (e ∙ d.area)) ∙ d.others a other;
    gate = λ e. absurd cc;
    does = λ js ready at.
        let so_far = d.doing js ready at in
        subst (λ (ls : Journals). Does js ls all (Some fault) o n) (with-over k l js does.area)
        (doing-fault js (with_journal k js) (with_journal l (with_journal k js)) all left o m n so_far ws later fault is
        (does.does (with_journal k js) (so_far.does.ready refl ready) (with-here k js)));
  }

-- the records that are left of a loop over bodies

pub left-next : (a b : Area) (items : List (List ℕ)) (i : ℕ) (x y : List ℕ) → i < length items → x ≡ get_or items i x → y ≡ x → b ≡ a
    → writes_in a (drop i items) ≡ (write_of b y None ∷ []) ++ writes_in a (drop (i + 1) items)
left-next a b items i x y lt is same at =
    ap (writes_in a) (drop_more items i x lt) ∙ ap (λ (z : List ℕ). write_of a z None ∷ writes_in a (drop (i + 1) items)) (sym is ∙ sym same)
    ∙ ap (λ (c : Area). write_of c y None ∷ writes_in a (drop (i + 1) items)) (sym at)

pub left-end : (a : Area) (items : List (List ℕ)) (i : ℕ) → length items ≤ i → writes_in a (drop i items) ≡ []
left-end a items i le = ap (writes_in a) (drop_all i items le)

-- a call on one journal, and one on another behind it

module _ (f1 f2 s1 s2 : Extent) (apart : s1.area ≢ f1.area) (ws vs : List Write) (o m n : Outside) (js : Journals) (ready : AreReady js o) (first_at : js f1.area ≡ f1) (second_at : js s1.area ≡ s1) where
  still : f2.area ≡ f1.area → with_journal f2 js s1.area ≡ s1
  still same = with-other f2 js s1.area (λ e. apart (e ∙ same)) ∙ second_at

  pub two-journals : (fault : Option AppendFault) → DoesAlone f1 f2 ws None o m → DoesAlone s1 s2 vs fault m n → Does js (with_journal s2 (with_journal f2 js)) (ws ++ vs) fault o n
  two-journals fault first second =
      let one = first.does js ready first_at in
      does-then js (with_journal f2 js) (with_journal s2 (with_journal f2 js)) ws vs fault o m n one (second.does (with_journal f2 js) (one.ready refl ready) (still first.area))

  pub first-fault : (fault : AppendFault) → DoesAlone f1 f2 ws (Some fault) o m → Does js (with_journal s1 (with_journal f2 js)) (ws ++ vs) (Some fault) o m
  first-fault fault first = subst (λ (ks : Journals). Does js ks (ws ++ vs) (Some fault) o m) (sym (with-same s1 (with_journal f2 js) (still first.area)))
      (does-stop js (with_journal f2 js) ws vs fault o m (first.does js ready first_at))

  pub no-memory : (all : List Write) → Ends js (with_journal s1 (with_journal f1 js)) all (Some steps.Memory) o o
  no-memory all =
      let first : with_journal f1 js ≡ js = with-same f1 js first_at in
      subst (λ (ks : Journals). Does js ks [] None o o) (sym (ap (λ (ls : Journals). with_journal s1 ls) first ∙ with-same s1 js second_at)) (does-none js o)
