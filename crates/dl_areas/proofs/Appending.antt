-- One append among five, whichever area it is, and calls on one journal.
use Rattle.std.proofs.Common.{◌≡◌, ◌≢◌, ◌↔◌, ⊎_elim, ◌+◌, ◌-◌, ◌<◌, ◌≤◌, ◌^◌, ℕ, min, List, [], ◌∷◌, ◌++◌, length, cond, Bool, true, false, nat_lt, refl, sym, ◌∙◌, ap, subst, arith, Option, Some, None, Result, Ok, Err, OnOk, OnErr, IfErr}
use Rattle.std.proofs.lemmas.Bool.Decides.{nat_tests}
use Rattle.std.specs.Option.{option_or}
use Rattle.std.specs.Result.{result_err}
use Rattle.dl_base.proofs.Moments.{moments_none, moments_touch}
use Rattle.dl_base.specs.Outside.{Outside, CrashState, During, ChangesOnly, AtEveryMoment, FaultCounted}
use Rattle.dl_base.specs.declared.area.Area.{Area}
use Rattle.dl_base.specs.declared.fault.AppendFault.{AppendFault}
use Rattle.dl_base.specs.declared.fault.AppendFault.TheVariants as appends
use Rattle.dl_base.specs.declared.fault.Full.{Full}
use Rattle.dl_base.specs.declared.fault.Full.TheVariants as fulls
use Rattle.dl_journal.specs.Extent.{Extent}
use Rattle.dl_journal.specs.Open.{IsOpen, Keeps, AddsOne, grown}
use Rattle.dl_journal.specs.Records.{IsAtRest}
use Rattle.dl_areas.specs.Lists.{Lists, Journals, Write, write_of, put, puts, grown_by, with_journal, AreReady, AreKept}
use Rattle.dl_areas.specs.Writing.{full_in, fitting, past_limit, unless_full, LeavesPrefix, Does, DoesAlone}
use Rattle.dl_areas.proofs.Doing.{does-none, does-then, does-stop}
use Rattle.dl_areas.proofs.Places.{each, here, there, with-here, with-other, with-same, with-over}

-- what is full where an append to this journal passes its limit
abbrev pub full_now : Extent → List ℕ → Full
full_now j body = fulls.Area j.area (min (j.length + 9 + length body) (2 ^ 64 - 1))

-- ONE APPEND: five journals, among them the one that a record with this body is appended to, and that journal behind it
module _ (js : Journals) (j k : Extent) (body : List ℕ) (o n : Outside) (ready : AreReady js o) (at : js j.area ≡ j) (same : k.area ≡ j.area) where
  abbrev pub w : Write
  w = write_of j.area body None

  now-here : with_journal k js j.area ≡ k
  now-here = ap (λ (c : Area). with_journal k js c) (sym same) ∙ with-here k js

  now-other : (b : Area) → b ≢ j.area → with_journal k js b ≡ js b
  now-other b other = with-other k js b (λ e. other (e ∙ same))

  apart : (b : Area) → b ≢ j.area → (js b).area ≢ j.area
  apart b other e = other (sym (ready.areas b) ∙ e)

  put-here : (lists : Lists) → put w lists j.area ≡ lists j.area ++ body ∷ []
  put-here lists = here j.area (lists j.area ++ body ∷ []) (lists j.area)

  put-other : (lists : Lists) (b : Area) → b ≢ j.area → put w lists b ≡ lists b
  put-other lists b other = there j.area b other (lists b ++ body ∷ []) (lists b)

  kept-here : (lists : Lists) → AreKept js lists o → Keeps j (lists j.area) o
  kept-here lists kept = subst (λ (e : Extent). Keeps e (lists j.area) o) at (kept j.area)

  grown-here : grown_by w js j.area ≡ grown j (length body)
  grown-here = here j.area (grown (js j.area) (length body)) (js j.area) ∙ ap (λ (e : Extent). grown e (length body)) at

  grown-all : k ≡ grown j (length body) → with_journal k js ≡ grown_by w js
  grown-all is = λ i b. each (λ c. with_journal k js c ≡ grown_by w js c) j.area (now-here ∙ is ∙ sym grown-here)
      (λ c other. now-other c other ∙ sym (there j.area c other (grown (js c) (length body)) (js c))) b i

  module _ (adds : ChangesOnly j.area (AddsOne j body o) o n) where
    -- the moments of it
    one-moments : (lists : Lists) → AreKept js lists o → AtEveryMoment (LeavesPrefix lists (w ∷ []) o) o n
    one-moments lists kept = moments_touch j.area (AddsOne j body o) (LeavesPrefix lists (w ∷ []) o) o n during adds
      where
        during : (p : CrashState) → During j.area (AddsOne j body o) o p → LeavesPrefix lists (w ∷ []) o p
        during p d =
            let old : (b : Area) → b ≢ j.area → IsAtRest (lists b) (p.areas b) =
            λ b other. (kept b).images (p.areas b) (let I : Area → Type 0 = λ c. o.image (js b).area (p.areas c) in subst I (ready.areas b) (d.others (js b).area (apart b other))) in
            ⊎_elim
            (λ (was : IsAtRest (lists j.area) (p.areas j.area)). record { told = d.told; prefix = []; rest = w ∷ []; parts = refl; has = each (λ b. IsAtRest (lists b) (p.areas b)) j.area was old })
            (λ (is : IsAtRest (lists j.area ++ body ∷ []) (p.areas j.area)). record {
              told = d.told;
              prefix = w ∷ [];
              rest = [];
              parts = refl;
              has = each (λ b. IsAtRest (put w lists b) (p.areas b)) j.area
                  (subst (λ (xs : List (List ℕ)). IsAtRest xs (p.areas j.area)) (sym (put-here lists)) is)
                  (λ b other. subst (λ (xs : List (List ℕ)). IsAtRest xs (p.areas b)) (sym (put-other lists b other)) (old b other));
            })
            (d.here (lists j.area) (kept-here lists kept))

    -- what is kept behind it
    one-after : ((bodies : List (List ℕ)) → Keeps j bodies o → Keeps k (bodies ++ body ∷ []) n) → (lists : Lists) → AreKept js lists o → AreKept (with_journal k js) (put w lists) n
    one-after more lists kept = each (λ b. Keeps (with_journal k js b) (put w lists b) n) j.area
        (subst (λ (e : Extent). Keeps e (put w lists j.area) n) (sym now-here) (subst (λ (xs : List (List ℕ)). Keeps k xs n) (sym (put-here lists)) (more (lists j.area) (kept-here lists kept))))
        (λ b other. subst (λ (e : Extent). Keeps e (put w lists b) n) (sym (now-other b other)) (subst (λ (xs : List (List ℕ)). Keeps (js b) xs n) (sym (put-other lists b other))
        (record { length = (kept b).length; fits = (kept b).fits; images = λ c left. (kept b).images c (adds.others (js b).area (apart b other) c left) })))

    one-ready : IsOpen k n → AreReady (with_journal k js) n
    one-ready gate = record {
      areas = each (λ b. (with_journal k js b).area ≡ b) j.area (ap (λ (e : Extent). e.area) now-here ∙ same) (λ b other. ap (λ (e : Extent). e.area) (now-other b other) ∙ ready.areas b);
      gates = each (λ b. IsOpen (with_journal k js b) n) j.area
          (let P : Extent → Type 0 = λ e. IsOpen e n in subst P (sym now-here) gate)
          (λ b other. let P : Extent → Type 0 = λ e. IsOpen e n in subst P (sym (now-other b other)) (λ told is. ready.gates b told (sym (adds.others_read (js b).area (apart b other)) ∙ is)));
    }

  -- which of the one record fit

  past : (b : Bool) → nat_lt j.limit (j.length + 9 + length body) ≡ b → past_limit js w ≡ cond b (Some (full_now j body)) None
  past b is = ap (λ (e : Extent). cond (nat_lt e.limit (e.length + 9 + length body)) (Some (fulls.Area j.area (min (e.length + 9 + length body) (2 ^ 64 - 1)))) None) at
      ∙ ap (λ (v : Bool). cond v (Some (full_now j body)) None) is

  full-one : full_in js (w ∷ []) ≡ past_limit js w
  unfolding full_in
  full-one = last (past_limit js w)
    where
      last : (x : Option Full) → option_or x None ≡ x
      last (Some f) = refl
      last None = refl

  fitting-one : fitting js (w ∷ []) ≡ unless_full (past_limit js w) (w ∷ [])
  unfolding fitting
  fitting-one = refl

  -- it fits

  one-fits : nat_lt j.limit (j.length + 9 + length body) ≡ false → full_in js (w ∷ []) ≡ None
  one-fits is = full-one ∙ past false is

  one-fitting : nat_lt j.limit (j.length + 9 + length body) ≡ false → fitting js (w ∷ []) ≡ w ∷ []
  one-fitting is = fitting-one ∙ ap (λ (x : Option Full). unless_full x (w ∷ [])) (past false is)

  fitting-moments : nat_lt j.limit (j.length + 9 + length body) ≡ false → ChangesOnly j.area (AddsOne j body o) o n → (lists : Lists) → AreKept js lists o → AtEveryMoment (LeavesPrefix lists (fitting js (w ∷ [])) o) o n
  fitting-moments is adds lists kept = subst (λ (ws : List Write). AtEveryMoment (LeavesPrefix lists ws o) o n) (sym (one-fitting is)) (one-moments adds lists kept)

  does-fits : (result : Result Unit AppendFault) → nat_lt j.limit (j.length + 9 + length body) ≡ false
      → OnOk result ((bodies : List (List ℕ)) → Keeps j bodies o → Keeps k (bodies ++ body ∷ []) n)
      → ChangesOnly j.area (AddsOne j body o) o n
      → OnOk result (IsOpen k n)
      → OnOk result (k ≡ grown j (length body))
      → IfErr result (λ fault. fault ≡ appends.Device)
      → (result ≡ Err appends.Device → FaultCounted o n)
      → OnOk result (n.faults ≡ o.faults)
      → Does js (with_journal k js) (w ∷ []) (result_err result) o n
  does-fits (Ok x) is more adds gate grew room device clean = record {
    told = adds.told;
    faults = adds.faults;
    images = fitting-moments is adds;
    fits = λ e. one-fits is;
    grew = λ e. grown-all grew;
    done = λ e. one-after adds more;
    ready = λ e was. one-ready adds gate;
    full = λ f e. absurd cc;
    before = λ f e. absurd cc;
    device = λ e. absurd cc;
    clean = λ e. clean;
  }
  does-fits (Err fault) is more adds gate grew room device clean = record {
    told = adds.told;
    faults = adds.faults;
    images = fitting-moments is adds;
    fits = λ e. absurd cc;
    grew = λ e. absurd cc;
    done = λ e. absurd cc;
    ready = λ e. absurd cc;
    full = λ f e. absurd cc;
    before = λ f e. absurd cc;
    device = λ e. device (ap Err room);
    clean = λ e. absurd cc;
  }

  -- it does not

  does-full : (result : Result Unit AppendFault) → nat_lt j.limit (j.length + 9 + length body) ≡ true → n ≡ o
      → ChangesOnly j.area (AddsOne j body o) o n
      → OnErr result (k ≡ j)
      → result ≡ Err (appends.Full (full_now j body))
      → Does js (with_journal k js) (w ∷ []) (result_err result) o n
  does-full (Ok x) is still adds kept e = absurd cc
  does-full (Err fault) is still adds kept e =
      let full : Some (full_now j body) ≡ full_in js (w ∷ []) = sym (full-one ∙ past true is) in
      let none : fitting js (w ∷ []) ≡ [] = fitting-one ∙ ap (λ (x : Option Full). unless_full x (w ∷ [])) (past true is) in
      let unmoved : with_journal k js ≡ js = ap (λ (e : Extent). with_journal e js) kept ∙ with-same j js at in
      record {
        told = adds.told;
        faults = adds.faults;
        images = λ lists all. subst (λ (m : Outside). AtEveryMoment (LeavesPrefix lists (fitting js (w ∷ [])) o) o m) (sym still) (moments_none (LeavesPrefix lists (fitting js (w ∷ [])) o) o);
        fits = λ f. absurd cc;
        grew = λ f. absurd cc;
        done = λ f. absurd cc;
        ready = λ f. absurd cc;
        full = λ f g. sym full ∙ same_full fault f (full_now j body) e g;
        before = λ f g lists all. subst (λ (ws : List Write). AreKept (with_journal k js) (puts ws lists) n) (sym none)
            (subst (λ (m : Outside). AreKept (with_journal k js) lists m) (sym still) (subst (λ (l : Journals). AreKept l lists o) (sym unmoved) all));
        device = λ f. absurd cc;
        clean = λ f. absurd cc;
      }
    where
      same_full : (fault : AppendFault) (f g : Full) → ◌≡◌ {A = Result Unit AppendFault} (Err fault) (Err (appends.Full g)) → Some fault ≡ Some (appends.Full f) → Some g ≡ Some f
      same_full fault f g e h = cc

  pub does-one : (result : Result Unit AppendFault)
      → OnOk result ((bodies : List (List ℕ)) → Keeps j bodies o → Keeps k (bodies ++ body ∷ []) n)
      → ChangesOnly j.area (AddsOne j body o) o n
      → OnOk result (IsOpen k n)
      → OnOk result (k ≡ grown j (length body))
      → OnErr result (k ≡ j)
      → ((j.limit < j.length + 9 + length body) ↔ (result ≡ Err (appends.Full (full_now j body))))
      → (j.length + 9 + length body ≤ j.limit → IfErr result (λ fault. fault ≡ appends.Device))
      → (j.limit < j.length + 9 + length body → n ≡ o)
      → (result ≡ Err appends.Device → FaultCounted o n)
      → OnOk result (n.faults ≡ o.faults)
      → Does js (with_journal k js) (w ∷ []) (result_err result) o n
  does-one result more adds gate grew kept full room unwritten device clean = pick (nat_lt j.limit (j.length + 9 + length body)) refl
    where
      pick : (b : Bool) → nat_lt j.limit (j.length + 9 + length body) ≡ b → Does js (with_journal k js) (w ∷ []) (result_err result) o n
      pick true is = let lt : j.limit < j.length + 9 + length body = grind (arith, nat_tests) in does-full result is (unwritten lt) adds kept (full.0 lt)
      pick false is = let le : j.length + 9 + length body ≤ j.limit = grind (arith, nat_tests) in does-fits result is more adds gate grew (room le) device clean

-- the same, whatever the other journals are
pub alone-one : (j k : Extent) (body : List ℕ) (result : Result Unit AppendFault) (o n : Outside)
    → OnOk result ((bodies : List (List ℕ)) → Keeps j bodies o → Keeps k (bodies ++ body ∷ []) n)
    → ChangesOnly j.area (AddsOne j body o) o n
    → OnOk result (IsOpen k n)
    → OnOk result (k ≡ grown j (length body))
    → OnErr result (k ≡ j)
    → ((j.limit < j.length + 9 + length body) ↔ (result ≡ Err (appends.Full (full_now j body))))
    → (j.length + 9 + length body ≤ j.limit → IfErr result (λ fault. fault ≡ appends.Device))
    → (j.limit < j.length + 9 + length body → n ≡ o)
    → (result ≡ Err appends.Device → FaultCounted o n)
    → OnOk result (n.faults ≡ o.faults)
    → DoesAlone j k (write_of j.area body None ∷ []) (result_err result) o n
alone-one j k body result o n more adds gate grew kept full room unwritten device clean = record {
  area = stays result grew kept;
  others = adds.others_read;
  gate = opened result gate;
  does = λ js ready at. does-one js j k body o n ready at (stays result grew kept) result more adds gate grew kept full room unwritten device clean;
}
  where
    stays : (r : Result Unit AppendFault) → OnOk r (k ≡ grown j (length body)) → OnErr r (k ≡ j) → k.area ≡ j.area
    stays (Ok x) grew kept = ap (λ (e : Extent). e.area) grew
    stays (Err fault) grew kept = ap (λ (e : Extent). e.area) kept

    opened : (r : Result Unit AppendFault) → OnOk r (IsOpen k n) → result_err r ≡ None → IsOpen j o → IsOpen k n
    opened (Ok x) gate is was = gate
    opened (Err fault) gate is was = absurd cc

-- a number is exhausted

exhausted-full : (js : Journals) (w : Write) (f : Full) → w.exhausted ≡ Some f → full_in js (w ∷ []) ≡ Some f
unfolding full_in
exhausted-full js w f is = rw is refl

exhausted-none : (js : Journals) (w : Write) (f : Full) → w.exhausted ≡ Some f → fitting js (w ∷ []) ≡ []
unfolding fitting
exhausted-none js w f is = rw is refl

pub does-exhausted : (js : Journals) (w : Write) (f : Full) (o : Outside) → w.exhausted ≡ Some f → Does js js (w ∷ []) (Some (appends.Full f)) o o
does-exhausted js w f o is = record {
  told = refl;
  faults = omega arith;
  images = λ lists kept. moments_none (LeavesPrefix lists (fitting js (w ∷ [])) o) o;
  fits = λ e. absurd cc;
  grew = λ e. absurd cc;
  done = λ e. absurd cc;
  ready = λ e. absurd cc;
  full = λ g e. exhausted-full js w f is ∙ same f g e;
  before = λ g e lists kept. subst (λ (ws : List Write). AreKept js (puts ws lists) o) (sym (exhausted-none js w f is)) kept;
  device = λ e. absurd cc;
  clean = λ e. absurd cc;
}
  where
    same : (f g : Full) → Some (appends.Full f) ≡ Some (appends.Full g) → Some f ≡ Some g
    same f g e = cc

pub alone-exhausted : (j : Extent) (w : Write) (f : Full) (o : Outside) → w.exhausted ≡ Some f → DoesAlone j j (w ∷ []) (Some (appends.Full f)) o o
alone-exhausted j w f o is = record {
  area = refl;
  others = λ a other. refl;
  gate = λ e. absurd cc;
  does = λ js ready at. subst (λ (ks : Journals). Does js ks (w ∷ []) (Some (appends.Full f)) o o) (sym (with-same j js at)) (does-exhausted js w f o is);
}

-- calls on one journal

pub alone-none : (j : Extent) (o : Outside) → DoesAlone j j [] None o o
alone-none j o = record {
  area = refl;
  others = λ a other. refl;
  gate = λ e was. was;
  does = λ js ready at. subst (λ (ks : Journals). Does js ks [] None o o) (sym (with-same j js at)) (does-none js o);
}

pub alone-then : (j k l : Extent) (ws vs : List Write) (fault : Option AppendFault) (o m n : Outside) → DoesAlone j k ws None o m → DoesAlone k l vs fault m n → DoesAlone j l (ws ++ vs) fault o n
alone-then j k l ws vs fault o m n first second = record {
  area = second.area ∙ first.area;
  others = λ a other. second.others a (λ e. other (e ∙ first.area)) ∙ first.others a other;
  gate = λ e was. second.gate e (first.gate refl was);
  does = λ js ready at.
      let one = first.does js ready at in
      subst (λ (ks : Journals). Does js ks (ws ++ vs) fault o n) (with-over k l js second.area)
      (does-then js (with_journal k js) (with_journal l (with_journal k js)) ws vs fault o m n one (second.does (with_journal k js) (one.ready refl ready) (with-here k js)));
}

pub alone-stop : (j k : Extent) (ws vs : List Write) (fault : AppendFault) (o n : Outside) → DoesAlone j k ws (Some fault) o n → DoesAlone j k (ws ++ vs) (Some fault) o n
alone-stop j k ws vs fault o n d = record {
  area = d.area;
  others = d.others;
  gate = λ e. absurd cc;
  does = λ js ready at. does-stop js (with_journal k js) ws vs fault o n (d.does js ready at);
}

-- the same records and the same fault under other names
pub alone-as : (j k : Extent) (ws vs : List Write) (f e : Option AppendFault) (o n : Outside) → ws ≡ vs → f ≡ e → DoesAlone j k ws f o n → DoesAlone j k vs e o n
alone-as j k ws vs f e o n same is d = subst (λ (x : Option AppendFault). DoesAlone j k vs x o n) is (subst (λ (x : List Write). DoesAlone j k x f o n) same d)
