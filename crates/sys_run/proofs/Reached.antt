-- A line that is in some of its turns.
use Rattle.std.proofs.Common.{◌≡◌, ⊎_elim, inl, inr, ℕ, suc, ◌+◌, ◌-◌, ◌<◌, ◌≤◌, false, List, [], ◌∷◌, drop, length, Option, Some, refl, sym, ap, ◌∙◌, subst, arith, length-append}
use Rattle.dl_areas.specs.Lists.{Journals, Lists, puts}
use Rattle.dl_base.proofs.Moments.{moments_more, moments_none, moments_then}
use Rattle.dl_base.specs.Outside.{AtEveryMoment, FaultCounted, Outside}
use Rattle.dl_base.specs.declared.answer.Answer.{Answer}
use Rattle.dl_base.specs.declared.fault.Full.{Full}
use Rattle.dl_base.specs.declared.step.Step.{Step}
use Rattle.dl_base.specs.declared.value.LinkNo.{LinkNo}
use Rattle.fm_manager.specs.Managed.{as_writes}
use Rattle.meaning_run.specs.Running.{Read, Run, StoresNone, after, comes_to, met, next_step, step_in, step_on, stores_copies, turn, turn_on, turned, written}
use Rattle.meaning_script.specs.Expansion.{Then, does, given, answered, silent}
use Rattle.meaning_script.specs.declared.kind.Line.{Line}
use Rattle.meaning_system.specs.Machine.{step}
use Rattle.sys_core.specs.declared.engine.Engine.{Engine}
use Rattle.sys_owners.specs.Owned.{folds_in, journals_of}
use Rattle.sys_run.proofs.Images.{none-full}
use Rattle.sys_run.proofs.Lines.{Follow, later-full, later-grown, later-past, later-stands, moment-later}
use Rattle.sys_run.proofs.Pacing.{Pace, StoresEach, pace-bound, pace-next, pace-sees}
use Rattle.sys_run.specs.Running.{HasGrown, IsFullIn, IsInRun, IsPastLine, Stands, StandsAfter}
use Rattle.sys_run.specs.Turning.{GoesOn, IsInLine, Sees}
use Rattle.sys_run.specs.declared.sessions.Sessions.{Sessions}

-- some of its turns are taken, and it is not told yet
pub record Reached (number : ℕ) (line : Line) (waiting : List LinkNo) (done : List Answer) (first : ℕ) (lists : Lists) (before : Option (List ℕ)) (r : Run) (l : Read) (more : List Read) (js : Journals) (w : Engine) (v : Sessions) (o m : Outside) : Type 0 where
  pub count : ℕ
  pub stands : StandsAfter count first lists before r w v m
  pub grown : HasGrown count r js w
  pub is : IsInLine number line done (after count r) l more
  pub same : (after count r).lines ≡ r.lines
  pub pace : Pace line waiting done (after count r).state
  pub moments : AtEveryMoment (IsInRun js lists r before) o m
  pub clean : m.faults ≡ o.faults

pub reached-first : (number : ℕ) (line : Line) (waiting : List LinkNo) (first : ℕ) (lists : Lists) (before : Option (List ℕ)) (r : Run) (l : Read) (more : List Read) (w : Engine) (v : Sessions) (o : Outside) → Stands first lists before r w v o → IsInLine number line [] r l more → Pace line waiting [] r.state
    → Reached number line waiting [] first lists before r l more (journals_of w.owners) w v o o
reached-first number line waiting first lists before r l more w v o s is pace = record { count = 0; stands = s; grown = record { grew = refl; fits = none-full (journals_of w.owners) }; is = is; same = refl; pace = pace; moments = moments_none (IsInRun (journals_of w.owners) lists r before) o; clean = refl }

-- a turn that takes a step
turn-longer : (r : Run) (x : Step) → next_step r ≡ Some x → length (turn r).answers ≡ length r.answers + 1
unfolding turn
turn-longer r x next = by r.lines next
  where
    on : (l : Read) (more : List Read) (t : Then) → step_in t ≡ Some x → length (turned (met r l.actor) l more t).answers ≡ length r.answers + 1
    on l more (does y) next = length-append r.answers ((step r.state y).0 ∷ [])
    on l more (given k) next = absurd cc
    on l more (answered a) next = absurd cc
    on l more silent next = absurd cc

    by : (ls : List Read) → step_on r ls ≡ Some x → length (turn_on r ls).answers ≡ length r.answers + 1
    by [] next = absurd cc
    by (l ∷ more) next = on l more (comes_to r l) next

abbrev pub Few : Type 0
Few = (n : ℕ) (r : Run) (x : Step) → r.answers ≡ [] → StoresNone r.lines → (after n r).lines ≡ r.lines → next_step (after n r) ≡ Some x → length (after n r).answers < 5

module _ {number : ℕ} {line : Line} {waiting : List LinkNo} {done : List Answer} {first : ℕ} {lists : Lists} {before : Option (List ℕ)} {r : Run} {l : Read} {more : List Read} {js : Journals} {w : Engine} {v : Sessions} {o m : Outside}
    (reached : Reached number line waiting done first lists before r l more js w v o m) (follow : Follow) where
  abbrev pub at : Run
  at = after reached.count r

  -- the lists there
  abbrev pub lists-at : Lists
  lists-at = puts (as_writes (written reached.count r)) lists

  pub reached-moments : (n : Outside) → AtEveryMoment (IsInRun (journals_of w.owners) lists-at at before) m n → AtEveryMoment (IsInRun js lists r before) o n
  reached-moments n now = moments_then (IsInRun js lists r before) o m n reached.moments
      (moments_more (IsInRun (journals_of w.owners) lists-at at before) (IsInRun js lists r before) m n (λ p. moment-later follow reached.count r js lists w before p reached.grown) now)

  pub reached-full : (f : Full) (n : Outside) → IsFullIn (journals_of w.owners) lists-at at before f n → IsFullIn js lists r before f n
  reached-full f n full = later-full follow reached.count r js lists w before f n reached.grown full

  -- it sees the links that are left
  pub reached-sees : (left : List LinkNo) (n : ℕ) → left ≡ drop n waiting → n ≡ length done → Sees at line done left
  reached-sees left n is count = subst (λ (ns : List LinkNo). Sees at line done ns) (sym (is ∙ ap (λ (k : ℕ). drop k waiting) count)) (pace-sees line waiting done at reached.pace)

  -- a turn more: it has one more answer; and there are five at most, where it stores no copies
  one-longer : (later : List Answer) → GoesOn number line later at l more → length later ≡ length done + 1
  one-longer later goes =
      let longer = turn-longer at goes.step goes.next in
      let was : length at.answers ≡ length done = ap length reached.is.answers in
      let is : length (after 1 at).answers ≡ length later = ap length goes.is.answers in
      omega (arith, longer, was, is)

  few-more : Few → r.answers ≡ [] → (later : List Answer) → GoesOn number line later at l more → stores_copies line ≡ false → length later ≤ 5
  few-more few none later goes short =
      let here : r.lines ≡ l ∷ more = sym reached.same ∙ reached.is.lines in
      let less = few reached.count r goes.step none (subst StoresNone (sym here) (ap stores_copies reached.is.line_is ∙ short)) reached.same goes.next in
      let was : length at.answers ≡ length done = ap length reached.is.answers in
      let longer = one-longer later goes in
      omega (arith, less, was, longer)

  paced : StoresEach → Few → r.answers ≡ [] → (later : List Answer) → GoesOn number line later at l more → Pace line waiting later (turn at).state
  paced each few none later goes = pace-next each number line waiting done later first (folds_in w.owners) at l more reached.stands.is.sound reached.is goes (few-more few none later goes) reached.pace

  -- so it comes nearer to the most that it takes
  pub one-more : StoresEach → Few → r.answers ≡ [] → (later : List Answer) → GoesOn number line later at l more → (length later ≡ length done + 1) × (length later ≤ length waiting + 5)
  one-more each few none later goes = (one-longer later goes, pace-bound line waiting later (turn at).state (paced each few none later goes))

  -- one more step
  pub reached-next : StoresEach → Few → r.answers ≡ [] → (x : Engine) (now : Sessions) (n : Outside) (later : List Answer) → StandsAfter 1 first lists-at before at x now n → HasGrown 1 at (journals_of w.owners) x → GoesOn number line later at l more
      → AtEveryMoment (IsInRun (journals_of w.owners) lists-at at before) m n → n.faults ≡ m.faults → Reached number line waiting later first lists before r l more js x now o n
  reached-next each few none x now n later s grown goes moments clean = record {
    count = reached.count + 1;
    stands = later-stands follow reached.count 1 r first lists before x now n s;
    grown = later-grown follow reached.count 1 r js w x reached.grown grown;
    is = subst (λ (q : Run). IsInLine number line later q l more) (follow.runs reached.count 1 r) goes.is;
    same = ap (λ (q : Run). q.lines) (sym (follow.runs reached.count 1 r)) ∙ goes.is.lines ∙ sym reached.is.lines ∙ reached.same;
    pace = subst (λ (q : Run). Pace line waiting later q.state) (follow.runs reached.count 1 r) (paced each few none later goes);
    moments = reached-moments n moments;
    clean = clean ∙ reached.clean;
  }

  -- it is told
  pub reached-told : (x : Engine) (now : Sessions) (n : Outside) → StandsAfter 1 first lists-at before at x now n → HasGrown 1 at (journals_of w.owners) x → IsPastLine 1 number at more
      → (count : ℕ) × IsPastLine (suc count) number r more × StandsAfter (suc count) first lists before r x now n × HasGrown (suc count) r js x
  reached-told x now n s grown past =
      let up : reached.count + 1 ≡ suc reached.count = omega arith in (
        reached.count,
        subst (λ (k : ℕ). IsPastLine k number r more) up (later-past follow reached.count 1 r number more past),
        subst (λ (k : ℕ). StandsAfter k first lists before r x now n) up (later-stands follow reached.count 1 r first lists before x now n s),
        subst (λ (k : ℕ). HasGrown k r js x) up (later-grown follow reached.count 1 r js w x reached.grown grown),
      )

-- one answer more is one turn less
pub nearer : (w n m : ℕ) → m ≡ n + 1 → m ≤ w + 5 → (w + 6) - m < (w + 6) - n
nearer w n m longer most = omega (arith, longer, most)

-- a count that rose in a later part rose in the whole
pub rose-later : (o m n : Outside) → o.faults ≤ m.faults → FaultCounted m n → FaultCounted o n
rose-later o m n le rose = ⊎_elim (λ (more : m.faults < n.faults). inl (omega (arith, le, more))) (λ last. inr last) rose
