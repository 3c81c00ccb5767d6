-- How calls that write follow one another.
use Rattle.std.proofs.Common.{◌≡◌, inl, inr, ⊎_elim, ◌≤◌, List, [], ◌++◌, refl, sym, ◌∙◌, ap, subst, arith, Option, Some, None}
use Rattle.std.proofs.lemmas.List.{append_assoc}
use Rattle.dl_base.proofs.Moments.{moments_none, moments_then, moments_more}
use Rattle.dl_base.specs.Outside.{Outside, CrashState, FaultCounted}
use Rattle.dl_base.specs.declared.fault.AppendFault.{AppendFault}
use Rattle.dl_areas.specs.Lists.{Lists, Journals, Write, puts, all_grown, AreKept, HasLists}
use Rattle.dl_areas.specs.Writing.{full_in, fitting, LeavesPrefix, Does, Doing}
use Rattle.dl_areas.proofs.Fitting.{puts-then, grown-then, full-then, fitting-then, full-stop, fitting-stop, fitting-front}

-- a prefix of the first is one of the whole
pub prefix-more : (lists : Lists) (ws rest all : List Write) (o : Outside) (p : CrashState) → ws ++ rest ≡ all → LeavesPrefix lists ws o p → LeavesPrefix lists all o p
prefix-more lists ws rest all o p is f = record {
  told = f.told;
  prefix = f.prefix;
  rest = f.rest ++ rest;
  parts = sym (append_assoc f.prefix f.rest rest) ∙ ap (λ (l : List Write). l ++ rest) f.parts ∙ is;
  has = f.has;
}

-- the first, and a prefix of the others
pub prefix-behind : (lists : Lists) (ws vs : List Write) (o m : Outside) (p : CrashState) → m.told ≡ o.told → LeavesPrefix (puts ws lists) vs m p → LeavesPrefix lists (ws ++ vs) o p
prefix-behind lists ws vs o m p told f = record {
  told = sym told ∙ f.told;
  prefix = ws ++ f.prefix;
  rest = f.rest;
  parts = append_assoc ws f.prefix f.rest ∙ ap (λ (l : List Write). ws ++ l) f.parts;
  has = subst (λ (l : Lists). HasLists l p) (sym (puts-then ws f.prefix lists)) f.has;
}

none-full : (js : Journals) → full_in js [] ≡ None
unfolding full_in
none-full js = refl

-- no record
pub does-none : (js : Journals) (o : Outside) → Does js js [] None o o
does-none js o = record {
  told = refl;
  faults = omega arith;
  images = λ lists kept. moments_none (LeavesPrefix lists (fitting js []) o) o;
  fits = λ is. none-full js;
  grew = λ is. refl;
  done = λ is lists kept. kept;
  ready = λ is ready. ready;
  full = λ f is. absurd cc;
  before = λ f is. absurd cc;
  device = λ is. absurd cc;
  clean = λ is. refl;
}

-- some records, and then others
pub does-then : (js ks ls : Journals) (ws vs : List Write) (fault : Option AppendFault) (o m n : Outside) → Does js ks ws None o m → Does ks ls vs fault m n → Does js ls (ws ++ vs) fault o n
does-then js ks ls ws vs fault o m n first second =
    let fit = first.fits refl in
    let grew : ks ≡ all_grown ws js = first.grew refl in
    let parts : ws ++ fitting ks vs ≡ fitting js (ws ++ vs) = ap (λ (k : Journals). ws ++ fitting k vs) grew ∙ sym (fitting-then ws vs js fit) in
    let full : full_in js (ws ++ vs) ≡ full_in ks vs = full-then ws vs js fit ∙ ap (λ (k : Journals). full_in k vs) (sym grew) in
    record {
      told = second.told ∙ first.told;
      faults = omega (arith, first.faults, second.faults);
      images = λ lists kept. moments_then (LeavesPrefix lists (fitting js (ws ++ vs)) o) o m n
          (moments_more (LeavesPrefix lists (fitting js ws) o) (LeavesPrefix lists (fitting js (ws ++ vs)) o) o m
          (λ p f. prefix-more lists (fitting js ws) (fitting-front ws vs js).0 (fitting js (ws ++ vs)) o p (fitting-front ws vs js).1 f) (first.images lists kept))
          (moments_more (LeavesPrefix (puts ws lists) (fitting ks vs) m) (LeavesPrefix lists (fitting js (ws ++ vs)) o) m n
          (λ p f. subst (λ (l : List Write). LeavesPrefix lists l o p) parts (prefix-behind lists ws (fitting ks vs) o m p first.told f)) (second.images (puts ws lists) (first.done refl lists kept)));
      fits = λ is. full ∙ second.fits is;
      grew = λ is. second.grew is ∙ ap (λ (k : Journals). all_grown vs k) grew ∙ sym (grown-then ws vs js);
      done = λ is lists kept. subst (λ (l : Lists). AreKept ls l n) (sym (puts-then ws vs lists)) (second.done is (puts ws lists) (first.done refl lists kept));
      ready = λ is ready. second.ready is (first.ready refl ready);
      full = λ f is. full ∙ second.full f is;
      before = λ f is lists kept. subst (λ (l : Lists). AreKept ls l n) (sym (puts-then ws (fitting ks vs) lists) ∙ ap (λ (l : List Write). puts l lists) parts) (second.before f is (puts ws lists) (first.done refl lists kept));
      device = λ is. risen o m n first.faults (second.device is);
      clean = λ is. second.clean is ∙ first.clean refl;
    }
  where
    risen : (o m n : Outside) → o.faults ≤ m.faults → FaultCounted m n → FaultCounted o n
    risen o m n le r = ⊎_elim (λ lt. inl (omega (arith, le, lt))) (λ last. inr last) r

-- the first of some records met a fault: so did all
pub does-stop : (js ks : Journals) (ws vs : List Write) (fault : AppendFault) (o n : Outside) → Does js ks ws (Some fault) o n → Does js ks (ws ++ vs) (Some fault) o n
does-stop js ks ws vs fault o n d = record {
  told = d.told;
  faults = d.faults;
  images = λ lists kept. moments_more (LeavesPrefix lists (fitting js ws) o) (LeavesPrefix lists (fitting js (ws ++ vs)) o) o n
      (λ p f. prefix-more lists (fitting js ws) (fitting-front ws vs js).0 (fitting js (ws ++ vs)) o p (fitting-front ws vs js).1 f) (d.images lists kept);
  fits = λ is. absurd cc;
  grew = λ is. absurd cc;
  done = λ is. absurd cc;
  ready = λ is. absurd cc;
  full = λ f is. full-stop ws vs js f (d.full f is);
  before = λ f is lists kept. subst (λ (l : List Write). AreKept ks (puts l lists) n) (sym (fitting-stop ws vs js f (d.full f is))) (d.before f is lists kept);
  device = d.device;
  clean = λ is. absurd cc;
}

-- the same records and the same fault under other names
pub does-as : (js ks : Journals) (ws vs : List Write) (f e : Option AppendFault) (o n : Outside) → ws ≡ vs → f ≡ e → Does js ks ws f o n → Does js ks vs e o n
does-as js ks ws vs f e o n same is d = subst (λ (x : Option AppendFault). Does js ks vs x o n) is (subst (λ (x : List Write). Does js ks x f o n) same d)

-- before the first turn of a loop
pub doing-first : (js : Journals) (all : List Write) (o : Outside) → Doing js js all all o o
doing-first js all o = record { done = []; parts = refl; does = does-none js o }

module _ (js ks ls : Journals) (all left : List Write) (o m n : Outside) (d : Doing js ks all left o m) where
  -- one more turn
  pub doing-more : (ws later : List Write) → left ≡ ws ++ later → Does ks ls ws None m n → Doing js ls all later o n
  doing-more ws later is does = record {
    done = d.done ++ ws;
    parts = append_assoc d.done ws later ∙ ap (λ (l : List Write). d.done ++ l) (sym is) ∙ d.parts;
    does = does-then js ks ls d.done ws None o m n d.does does;
  }

  -- the last turn, which writes none
  pub doing-end : left ≡ [] → Does ks ls [] None m n → Does js ls all None o n
  doing-end is does = does-as js ls (d.done ++ []) all None None o n (ap (λ (l : List Write). d.done ++ l) (sym is) ∙ d.parts) refl (does-then js ks ls d.done [] None o m n d.does does)

  -- a turn that meets a fault
  pub doing-fault : (ws later : List Write) (fault : AppendFault) → left ≡ ws ++ later → Does ks ls ws (Some fault) m n → Does js ls all (Some fault) o n
  doing-fault ws later fault is does = does-as js ls (d.done ++ (ws ++ later)) all (Some fault) (Some fault) o n
      (ap (λ (l : List Write). d.done ++ l) (sym is) ∙ d.parts) refl
      (does-then js ks ls d.done (ws ++ later) (Some fault) o m n d.does (does-stop ks ls ws later fault m n does))
