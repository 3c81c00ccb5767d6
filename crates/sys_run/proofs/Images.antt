-- What a step leaves of the areas at each of its moments.
use Rattle.std.proofs.Common.{◌≡◌, ℕ, ◌+◌, ◌<◌, ◌^◌, List, [], ◌∷◌, ◌++◌, Option, Some, None, refl, sym, ap, ◌∙◌, subst}
use Rattle.std.specs.Option.{option_or}
use Rattle.dl_areas.proofs.Fitting.{fitting-rest, full-stop}
use Rattle.dl_areas.specs.Lists.{AreKept, HasLists, Journals, Lists, Write, grown_by, puts}
use Rattle.dl_areas.specs.Writing.{Does, LeavesPrefix, fitting, full_in, past_limit, refused, unless_full}
use Rattle.dl_base.proofs.Moments.{moments_more}
use Rattle.dl_base.specs.Outside.{AtEveryMoment, CrashState, Outside}
use Rattle.dl_base.specs.declared.answer.Answer.{Answer}
use Rattle.dl_base.specs.declared.answer.Answer.TheVariants as answers
use Rattle.dl_base.specs.declared.fault.AppendFault.{AppendFault}
use Rattle.dl_base.specs.declared.fault.AppendFault.TheVariants as appends
use Rattle.dl_base.specs.declared.fault.Full.{Full}
use Rattle.dl_base.specs.declared.step.Step.{Step}
use Rattle.dl_base.specs.declared.step.Step.TheVariants as steps
use Rattle.fm_manager.specs.Managed.{AreSpelled, as_write, as_writes}
use Rattle.meaning_areas.specs.Areas.{AreasStand}
use Rattle.meaning_areas.specs.Lists.{Folds, Written, folds_on}
use Rattle.meaning_areas.specs.Stands.{IsStand, Stored}
use Rattle.meaning_history.specs.Sound.{AreSound}
use Rattle.meaning_areas.specs.Full.{draw_full}
use Rattle.meaning_system.specs.Machine.{step}
use Rattle.meaning_system.specs.Recovering.{Recovers}
use Rattle.meaning_system.specs.State.{State, Txn, stored, txn_of}
use Rattle.meaning_system.specs.Writes.{writes}
use Rattle.sys_core.specs.Steps.{draws, draws_by, draws_for, records_of, undrawn}
use Rattle.sys_owners.specs.Owned.{AreFolded}
use Rattle.sys_recovery.specs.Left.{IsAtomic, areas_of, left_by}
use Rattle.sys_run.specs.Turning.{LeavesSome}

-- ---- lists of records

pub nil : {A : Type 0} (l : List A) → l ++ [] ≡ l
nil [] = refl
nil (x ∷ l) = ap (λ (r : List _). x ∷ r) (nil l)

pub assoc : {A : Type 0} (a b c : List A) → (a ++ b) ++ c ≡ a ++ (b ++ c)
assoc [] b c = refl
assoc (x ∷ a) b c = ap (λ (r : List _). x ∷ r) (assoc a b c)

-- a first part of records as they are written is one of the records
pub record IsPart (xs : List Written) (prefix rest : List Write) : Type 0 where
  pub front : List Written
  pub back : List Written
  pub parts : front ++ back ≡ xs
  pub is_front : as_writes front ≡ prefix
  pub is_back : as_writes back ≡ rest

heads : {A : Type 0} (x y : A) (xs ys : List A) → x ∷ xs ≡ y ∷ ys → x ≡ y
heads x y xs ys is = cc

tails : {A : Type 0} (x y : A) (xs ys : List A) → x ∷ xs ≡ y ∷ ys → xs ≡ ys
tails x y xs ys is = cc

pub no-cons : {A : Type 0} {X : Type 0} (x : A) (xs : List A) → x ∷ xs ≡ [] → X
no-cons x xs is = absurd cc

pub part-of : (xs : List Written) (prefix rest : List Write) → prefix ++ rest ≡ as_writes xs → IsPart xs prefix rest
part-of xs [] rest is = record { front = []; back = xs; parts = refl; is_front = refl; is_back = sym is }
part-of [] (w ∷ ws) rest is = no-cons w (ws ++ rest) is
part-of (x ∷ xs) (w ∷ ws) rest is =
    let p = part-of xs ws rest (tails w (as_write x) (ws ++ rest) (as_writes xs) is) in
    let same = heads w (as_write x) (ws ++ rest) (as_writes xs) is in
    record {
      front = x ∷ p.front;
      back = p.back;
      parts = ap (λ (l : List Written). x ∷ l) p.parts;
      is_front = (λ i. sym same i ∷ p.is_front i);
      is_back = p.is_back;
    }

-- ---- a number that is not left

-- a step draws no number, or one that is exhausted comes before its records
pub data Drawn (ds : List Write) : Type 0 where
  drawn : ds ≡ [] → Drawn ds
  exhausted : (w : Write) (f : Full) → ds ≡ w ∷ [] → w.exhausted ≡ Some f → Drawn ds

undrawn-is : (o : Option Full) → Drawn (undrawn o)
undrawn-is None = drawn refl
undrawn-is (Some f) = exhausted _ f refl refl

pub draws-is : (s : State) (x : Step) → Drawn (draws s x)
draws-is s (steps.Begin n) = by (txn_of s n)
  where
    by : (o : Option (ℕ × Txn)) → Drawn (draws_by o (s.drawn + 1))
    by None = undrawn-is (draw_full (s.drawn + 1))
    by (Some e) = drawn refl
draws-is s (steps.Statement n stmt) = drawn refl
draws-is s (steps.Prepare n) = drawn refl
draws-is s (steps.Decide n) = drawn refl
draws-is s (steps.Finish n) = drawn refl
draws-is s (steps.Rollback n) = drawn refl
draws-is s (steps.File cmd) = drawn refl
draws-is s (steps.Archive n) = drawn refl
draws-is s steps.Backup = drawn refl
draws-is s (steps.Restore t) = by (step s (steps.Restore t)).0
  where
    by : (a : Answer) → Drawn (draws_for a (s.drawn + 1))
    by answers.Done = drawn refl
    by (answers.Begun tx) = drawn refl
    by (answers.Changed n) = drawn refl
    by (answers.Rows grid) = drawn refl
    by (answers.Committed c) = drawn refl
    by (answers.Bytes bytes) = drawn refl
    by (answers.Files files) = drawn refl
    by (answers.Archived n) = drawn refl
    by (answers.BackedUp n) = drawn refl
    by (answers.Restored c lost) = undrawn-is (draw_full (s.drawn + 1))
    by (answers.Resolved c d) = drawn refl
    by (answers.Refused why) = drawn refl
draws-is s (steps.Tick n) = drawn refl
draws-is s steps.CrashManager = drawn refl
draws-is s steps.CrashDatabase = drawn refl
draws-is s steps.Resolve = drawn refl

-- the records of a step that draws none are those that it writes
plain : (s : State) (x : Step) (ds : List Write) → draws s x ≡ ds → records_of s x ≡ ds ++ as_writes (writes s x)
plain s x ds is = ap (λ (es : List Write). es ++ as_writes (writes s x)) is

-- nothing fits behind it
none-fits : (js : Journals) (w : Write) (ws : List Write) (f : Full) → w.exhausted ≡ Some f → fitting js (w ∷ ws) ≡ []
unfolding fitting
none-fits js w ws f is = ap (λ (o : Option Full). unless_full (option_or o (past_limit js w)) (w ∷ fitting (grown_by w js) ws)) is

not-full : (js : Journals) (w : Write) (ws : List Write) (f : Full) → w.exhausted ≡ Some f → full_in js (w ∷ ws) ≡ Some f
unfolding full_in
not-full js w ws f is = ap (λ (o : Option Full). option_or (option_or o (past_limit js w)) (full_in (grown_by w js) ws)) is

pub exhausted-fits : (js : Journals) (s : State) (x : Step) (w : Write) (f : Full) → draws s x ≡ w ∷ [] → w.exhausted ≡ Some f → fitting js (records_of s x) ≡ []
exhausted-fits js s x w f is full = ap (fitting js) (plain s x (w ∷ []) is) ∙ none-fits js w (as_writes (writes s x)) f full

none_some : {A : Type 0} {X : Type 0} (x : A) → None ≡ Some x → X
none_some x e = absurd cc

-- where something is full, a record is left
abbrev pub IsStrict : List Write → List Write → Type 0
IsStrict fit ws = (next : Write) × (later : List Write) × (fit ++ next ∷ later ≡ ws)

cut-at : (o b : Option Full) (w : Write) (fit ws : List Write) (f : Full) → option_or o b ≡ Some f → (b ≡ Some f → IsStrict fit ws) → IsStrict (unless_full o (w ∷ fit)) (w ∷ ws)
cut-at (Some g) b w fit ws f is rest = (w, ws, refl)
cut-at None b w fit ws f is rest = let (next, later, parts) = rest is in (next, later, ap (λ (l : List Write). w ∷ l) parts)

pub strict : (ws : List Write) (js : Journals) (f : Full) → full_in js ws ≡ Some f → IsStrict (fitting js ws) ws
unfolding full_in fitting
strict [] js f is = none_some f is
strict (w ∷ ws) js f is = cut-at (refused js w) (full_in (grown_by w js) ws) w (fitting (grown_by w js) ws) ws f is (strict ws (grown_by w js) f)

-- ---- those that fit

-- without a record nothing is full
pub none-full : (js : Journals) → full_in js [] ≡ None
unfolding full_in
none-full js = refl

pub none-fitting : (js : Journals) → fitting js [] ≡ []
unfolding fitting
none-fitting js = refl

fit-at : (o : Option Full) (w : Write) (ws : List Write) (js : Journals) → refused js w ≡ o → full_in (grown_by w js) ws ≡ None → full_in js (unless_full o (w ∷ ws)) ≡ None
unfolding full_in
fit-at (Some f) w ws js is fit = refl
fit-at None w ws js is fit = ap (λ (o : Option Full). option_or o (full_in (grown_by w js) ws)) is ∙ fit

fit-all : (ws : List Write) (js : Journals) → full_in js (fitting js ws) ≡ None
unfolding full_in fitting
fit-all [] js = refl
fit-all (w ∷ ws) js = fit-at (refused js w) w (fitting (grown_by w js) ws) js refl (fit-all ws (grown_by w js))

-- and so does their front
front-fits : (ws vs : List Write) (js : Journals) → full_in js (ws ++ vs) ≡ None → full_in js ws ≡ None
front-fits ws vs js fit = by (full_in js ws) refl
  where
    by : (o : Option Full) → full_in js ws ≡ o → full_in js ws ≡ None
    by None is = is
    by (Some f) is = none_some f (sym fit ∙ full-stop ws vs js f is)

-- ---- the moments of a step

-- a prefix of nothing is nothing
pub no-prefix : (prefix rest : List Write) → prefix ++ rest ≡ [] → prefix ≡ []
no-prefix [] rest is = refl
no-prefix (w ∷ ws) rest is = no-cons w (ws ++ rest) is

-- the first of its records that fit, and nothing else
some-of : (js : Journals) (lists : Lists) (xs : List Written) (ws : List Write) (o : Outside) (p : CrashState) → ws ≡ as_writes xs → LeavesPrefix lists (fitting js ws) o p → LeavesSome js lists xs o p
some-of js lists xs ws o p is m =
    let (later, all) = fitting-rest ws js in
    let part = part-of xs m.prefix (m.rest ++ later) (sym (assoc m.prefix m.rest later) ∙ ap (λ (l : List Write). l ++ later) m.parts ∙ all ∙ is) in
    record {
      told = m.told;
      front = part.front;
      rest = part.back;
      parts = part.parts;
      fits = ap (full_in js) part.is_front ∙ front-fits m.prefix m.rest js (ap (full_in js) m.parts ∙ fit-all ws js);
      has = subst (λ (l : List Write). HasLists (puts l lists) p) (sym part.is_front) m.has;
    }

module _ (lists : Lists) (js ks : Journals) (s : State) (x : Step) (o n : Outside) (kept : AreKept js lists o) where
  -- at each moment some of its records are there, in order
  pub leaves-some : draws s x ≡ [] → (fault : Option AppendFault) → Does js ks (records_of s x) fault o n → AtEveryMoment (LeavesSome js lists (writes s x) o) o n
  leaves-some none fault d =
      moments_more (LeavesPrefix lists (fitting js (records_of s x)) o) (LeavesSome js lists (writes s x) o) o n (λ p m. some-of js lists (writes s x) (records_of s x) o p (plain s x [] none) m) (d.images lists kept)

  -- without a fault no number was exhausted, and all are there
  pub no-draws : Does js ks (records_of s x) None o n → draws s x ≡ []
  no-draws d = by (draws-is s x)
    where
      by : Drawn (draws s x) → draws s x ≡ []
      by (drawn none) = none
      by (exhausted w f is full) = none_some f (sym (d.fits refl) ∙ ap (full_in js) (plain s x (w ∷ []) is) ∙ not-full js w (as_writes (writes s x)) f full)

  pub all-written : Does js ks (records_of s x) None o n → Does js ks (as_writes (writes s x)) None o n
  all-written d = subst (λ (ws : List Write). Does js ks ws None o n) (plain s x [] (no-draws d)) d

-- ---- what is left recovers

pub record Laws : Type 0 where
  pub folded : (lists : Lists) (f later : Folds) (xs : List Written) → AreFolded lists f → folds_on (Some f) xs ≡ Some later → AreSpelled xs → AreFolded (puts (as_writes xs) lists) later
  pub stand : (lists : Lists) (f : Folds) (x : Stored) (p : CrashState) → AreFolded lists f → IsStand f x → HasLists lists p → AreasStand (areas_of p) x
  pub before : (first : ℕ) (f : Folds) (s : State) → AreSound first f s → IsStand f (stored s)
  pub stopped : (first : ℕ) (f : Folds) (s : State) (x : Step) → AreSound first f s → s.drawn + 1 < 2 ^ 32 → IsAtomic x → (front rest : List Written) (w : Written) → front ++ w ∷ rest ≡ writes s x
      → (later : Folds) × (folds_on (Some f) front ≡ Some later) × IsStand later (stored (left_by s x front))
  pub whole : (first : ℕ) (f : Folds) (s : State) (x : Step) → AreSound first f s → s.drawn + 1 < 2 ^ 32 → IsAtomic x
      → (later : Folds) × (folds_on (Some f) (writes s x) ≡ Some later) × IsStand later (stored (step s x).1)

spelled-front : (front back : List Written) → AreSpelled (front ++ back) → AreSpelled front
spelled-front [] back are = tt
spelled-front (x ∷ front) back are = (are.0, spelled-front front back are.1)

-- the first records of a step that is stopped: all that fit, and to what they recover
pub record Stops (js : Journals) (lists : Lists) (s : State) (x : Step) : Type 0 where
  pub front : List Written
  pub rest : List Written
  pub parts : front ++ rest ≡ writes s x
  pub front_is : as_writes front ≡ fitting js (records_of s x)
  pub recovers : (p : CrashState) → HasLists (puts (as_writes front) lists) p → Recovers (areas_of p) (left_by s x front)

module _ (laws : Laws) (first : ℕ) (lists : Lists) (f : Folds) (s : State) (folded : AreFolded lists f) (sound : AreSound first f s) where
  -- the lists as they were recover to the state
  pub stays : (p : CrashState) → HasLists lists p → Recovers (areas_of p) s
  stays p has = laws.stand lists f (stored s) p folded (laws.before first f s sound) has

  module _ (x : Step) (few : s.drawn + 1 < 2 ^ 32) (atomic : IsAtomic x) where
    -- as long as a record is left, they recover to the state before, or, once its commit is there, to that behind
    pub partly : AreSpelled (writes s x) → (p : CrashState) (front rest : List Written) (w : Written) → front ++ w ∷ rest ≡ writes s x → HasLists (puts (as_writes front) lists) p → Recovers (areas_of p) (left_by s x front)
    partly spelled p front rest w parts has =
        let (later, folds, stand) = laws.stopped first f s x sound few atomic front rest w parts in
        laws.stand (puts (as_writes front) lists) later (stored (left_by s x front)) p
        (laws.folded lists f later front folded folds (spelled-front front (w ∷ rest) (subst AreSpelled (sym parts) spelled))) stand has

    -- and once none is, to that behind
    pub wholly : AreSpelled (writes s x) → (p : CrashState) (front : List Written) → front ≡ writes s x → HasLists (puts (as_writes front) lists) p → Recovers (areas_of p) (step s x).1
    wholly spelled p front is has =
        let (later, folds, stand) = laws.whole first f s x sound few atomic in
        laws.stand (puts (as_writes (writes s x)) lists) later (stored (step s x).1) p (laws.folded lists f later (writes s x) folded folds spelled) stand
        (subst (λ (l : List Written). HasLists (puts (as_writes l) lists) p) is has)

    -- where something is full, those are left that fit
    pub full-stops : (js ks : Journals) (o n : Outside) (g : Full) → (draws s x ≡ [] → AreSpelled (writes s x)) → Does js ks (records_of s x) (Some (appends.Full g)) o n → Stops js lists s x
    full-stops js ks o n g spelled d = by (draws-is s x)
      where
        by : Drawn (draws s x) → Stops js lists s x
        by (exhausted w h is full) = record { front = []; rest = writes s x; parts = refl; front_is = sym (exhausted-fits js s x w h is full); recovers = stays }
        by (drawn none) =
            let (next, later, parts) = strict (records_of s x) js g (d.full g refl) in
            let part = part-of (writes s x) (fitting js (records_of s x)) (next ∷ later) (parts ∙ plain s x [] none) in
            record { front = part.front; rest = part.back; parts = part.parts; front_is = part.is_front; recovers = back next later part.front part.back part.parts part.is_back }
          where
            back : (w : Write) (l : List Write) (front rest : List Written) → front ++ rest ≡ writes s x → as_writes rest ≡ w ∷ l → (p : CrashState) → HasLists (puts (as_writes front) lists) p → Recovers (areas_of p) (left_by s x front)
            back w l front [] parts is p has = no-cons w l (sym is)
            back w l front (y ∷ rest) parts is p has = partly (spelled none) p front rest y parts has
