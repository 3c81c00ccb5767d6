-- A line of a run, turn by turn.
use Rattle.std.proofs.Common.{◌≡◌, ℕ, zero, suc, ◌+◌, Bool, true, false, not, if◌then◌else◌, List, [], ◌∷◌, ◌++◌, Option, Some, None, refl, sym, ap, ◌∙◌, subst, arith}
use Rattle.dl_areas.specs.Lists.{HasLists, Journals, Lists, Write, all_grown, puts}
use Rattle.dl_areas.specs.Writing.{fitting, full_in}
use Rattle.dl_base.proofs.Moments.{moments_more}
use Rattle.dl_base.specs.Outside.{AtEveryMoment, CrashState, Outside, extended}
use Rattle.dl_base.specs.declared.answer.Answer.{Answer}
use Rattle.dl_base.specs.declared.answer.Answer.TheVariants as answers
use Rattle.dl_base.specs.declared.answer.Limit.TheVariants as limits
use Rattle.dl_base.specs.declared.answer.Refusal.TheVariants as reasons
use Rattle.dl_base.specs.declared.fault.Full.{Full}
use Rattle.fm_manager.specs.Managed.{as_write, as_writes}
use Rattle.meaning_areas.specs.Lists.{Written}
use Rattle.meaning_run.proofs.Acting.{acted}
use Rattle.meaning_run.specs.Built.{is_built}
use Rattle.meaning_run.specs.Running.{Read, Run, after, by_kind, by_right, comes_to, grids_behind, met, next_step, step_writes, told_by, turn, turned, written}
use Rattle.meaning_script.specs.Actors.{actor_of, is_extra}
use Rattle.meaning_script.specs.Expansion.{answered}
use Rattle.meaning_script.specs.declared.kind.Line.{Line}
use Rattle.meaning_script.specs.declared.kind.Line.TheVariants as kinds
use Rattle.meaning_system.specs.Recovering.{Recovers}
use Rattle.meaning_system.specs.State.{State}
use Rattle.meaning_system.specs.Writes.{writes}
use Rattle.run_lines.specs.Reading.{Reads}
use Rattle.sys_core.specs.Steps.{records_of}
use Rattle.sys_core.specs.declared.engine.Engine.{Engine}
use Rattle.sys_owners.specs.Owned.{journals_of}
use Rattle.sys_recovery.specs.Left.{areas_of, has_commit}
use Rattle.sys_run.proofs.Images.{assoc, nil, none-full}
use Rattle.sys_run.proofs.Named.{Names, line-named, names-read, no-extra}
use Rattle.sys_run.proofs.Turns.{met-later, moment-between, next-on, turn-on, written-one}
use Rattle.sys_run.specs.Running.{AreOf, HasGrown, IsAtLine, IsFullIn, IsInRun, IsPastLine, IsPrefix, Stands, StandsAfter, resting}
use Rattle.sys_run.specs.Turning.{IsAtRead, IsBetween, IsInLine, IsNamed}
use Rattle.sys_run.specs.declared.sessions.Sessions.{Sessions}

-- ---- its begin

-- the same, once its actor is met
pub stands-met : (first : ℕ) (lists : Lists) (before : Option (List ℕ)) (r : Run) (o : Option (List ℕ)) (w : Engine) (v now : Sessions) (e : Outside) → Stands first lists before r w v e → AreOf (met r o) now → Stands first lists before (met r o) w now e
stands-met first lists before r o w v now e s of = record {
  is = s.is;
  sessions = of;
  ready = s.ready;
  kept = s.kept;
  folds = s.folds;
  folded = s.folded;
  sound = s.sound;
  told = s.told;
}

pub at-read : (number : ℕ) (bytes : List ℕ) (r : Run) (l : Read) (more : List Read) (line : Line) (counted : Bool) → IsAtLine number bytes r l more → ((m : Line) → Reads bytes m → line ≡ m) → counted ≡ not (is_extra r.actors (actor_of bytes)) → IsAtRead number line counted r l more
at-read number bytes r l more line counted at only is = record {
  lines = at.lines;
  bytes = bytes;
  is = at.is;
  line_is = sym (only l.line at.is.line);
  number_is = at.number_is;
  answers = at.answers;
  counted_is = is ∙ ap (λ (o : Option (List ℕ)). not (is_extra r.actors o)) (sym at.is.actor);
}

pub not-false : (b : Bool) → true ≡ not b → b ≡ false
not-false true is = absurd cc
not-false false is = refl

not-true : (b : Bool) → false ≡ not b → b ≡ true
not-true true is = refl
not-true false is = absurd cc

pub in-line : (number : ℕ) (line : Line) (r : Run) (l : Read) (more : List Read) → IsAtRead number line true r l more → is_built line ≡ true → IsInLine number line [] (met r l.actor) l more
in-line number line r l more at built =
    let extra = not-false (is_extra r.actors l.actor) at.counted_is in
    record {
      lines = at.lines;
      line_is = at.line_is;
      number_is = at.number_is;
      answers = at.answers;
      acted = acted r.actors l.actor;
      right = no-extra r.actors l.actor extra;
      built = built;
      named = subst (IsNamed (met r l.actor)) at.line_is (line-named r l.actor l.line extra (subst (λ (o : Option (List ℕ)). Names o l.line) (sym at.is.actor) (names-read at.bytes l.line at.is.line)));
    }

-- the turns of a run are those of the same with the first actor met
module _ (r : Run) (l : Read) (more : List Read) (lines : r.lines ≡ l ∷ more) (extra : is_extra r.actors l.actor ≡ false) where
  again : met (met r l.actor) l.actor ≡ met r l.actor
  again = ap (λ (actors : List (List ℕ)). record r { actors = actors }) (acted r.actors l.actor)

  same-comes : comes_to (met r l.actor) l ≡ comes_to r l
  unfolding comes_to
  same-comes =
      ap (λ (q : Run). by_right q l.line (is_extra (met r l.actor).actors l.actor)) again
      ∙ ap (by_right (met r l.actor) l.line) (no-extra r.actors l.actor extra ∙ sym extra)

  pub same-turn : turn (met r l.actor) ≡ turn r
  same-turn =
      turn-on (met r l.actor) l more lines (comes_to r l) same-comes
      ∙ ap (λ (q : Run). turned q l more (comes_to r l)) again
      ∙ sym (turn-on r l more lines (comes_to r l) refl)

  pub same-next : next_step (met r l.actor) ≡ next_step r
  same-next = next-on (met r l.actor) l more lines (comes_to r l) same-comes ∙ sym (next-on r l more lines (comes_to r l) refl)

module _ (r q : Run) (same : turn q ≡ turn r) (next : next_step q ≡ next_step r) (state : q.state ≡ r.state) where
  pub same-after : (n : ℕ) → after (suc n) q ≡ after (suc n) r
  same-after n = ap (after n) same

  pub same-written : (n : ℕ) → written (suc n) q ≡ written (suc n) r
  same-written n = (λ i. step_writes (state i) (next i) ++ written n (same i))

  pub met-past : (n number : ℕ) (more : List Read) → IsPastLine (suc n) number q more → IsPastLine (suc n) number r more
  met-past n number more p = record {
    lines = ap (λ (z : Run). z.lines) (sym (same-after n)) ∙ p.lines;
    number_is = ap (λ (z : Run). z.number) (sym (same-after n)) ∙ p.number_is;
    answers = ap (λ (z : Run). z.answers) (sym (same-after n)) ∙ p.answers;
  }

  pub met-stands : (n first : ℕ) (lists : Lists) (before : Option (List ℕ)) (w : Engine) (v : Sessions) (o : Outside) → StandsAfter (suc n) first lists before q w v o → StandsAfter (suc n) first lists before r w v o
  met-stands n first lists before w v o s =
      subst (λ (z : Run). Stands first (puts (as_writes (written (suc n) r)) lists) before z w v o) (same-after n)
      (subst (λ (xs : List Written). Stands first (puts (as_writes xs) lists) before (after (suc n) q) w v o) (same-written n) s)

  pub met-grown : (n : ℕ) (js : Journals) (w : Engine) → HasGrown (suc n) q js w → HasGrown (suc n) r js w
  met-grown n js w grown = record {
    grew = grown.grew ∙ ap (λ (xs : List Written). all_grown (as_writes xs) js) (same-written n);
    fits = ap (λ (xs : List Written). full_in js (as_writes xs)) (sym (same-written n)) ∙ grown.fits;
  }

  pub met-full : (js : Journals) (lists : Lists) (before : Option (List ℕ)) (f : Full) (o : Outside) → q.told ≡ r.told → IsFullIn js lists q before f o → IsFullIn js lists r before f o
  met-full js lists before f o told m = record {
    count = m.count;
    step = m.step;
    next = next-at m.count ∙ m.next;
    fits = ap (λ (xs : List Written). full_in js (as_writes xs)) (sym (written-at m.count)) ∙ m.fits;
    full_is = full-at m.count m.full_is;
    told = m.told ∙ ap (λ (t : List ℕ). extended t before) (told-at m.count);
    front = m.front;
    rest = m.rest;
    parts = m.parts ∙ ap (λ (s : State). writes s m.step) (state-at m.count);
    front_is = m.front_is ∙ (λ i. fitting (all_grown (as_writes (written-at m.count i)) js) (records_of (state-at m.count i) m.step));
    has = λ p now. subst (λ (xs : List Written). HasLists (puts (as_writes m.front) (puts (as_writes xs) lists)) p) (written-at m.count) (m.has p now);
    recovers = λ p now. subst (Recovers (areas_of p)) (rest-at m.count) (m.recovers p now);
  }
    where
      next-at : (n : ℕ) → next_step (after n r) ≡ next_step (after n q)
      next-at zero = sym next
      next-at (suc n) = ap next_step (sym (same-after n))

      state-at : (n : ℕ) → (after n q).state ≡ (after n r).state
      state-at zero = state
      state-at (suc n) = ap (λ (z : Run). z.state) (same-after n)

      rest-at : (n : ℕ) → resting (after n q) m.front ≡ resting (after n r) m.front
      rest-at zero = λ i. if has_commit m.front then (same i).state else state i
      rest-at (suc n) = ap (λ (z : Run). resting z m.front) (same-after n)

      told-at : (n : ℕ) → (after n q).told ≡ (after n r).told
      told-at zero = told
      told-at (suc n) = ap (λ (z : Run). z.told) (same-after n)

      written-at : (n : ℕ) → written n q ≡ written n r
      written-at zero = refl
      written-at (suc n) = same-written n

      full-at : (n : ℕ) → full_in (all_grown (as_writes (written n q)) js) (records_of (after n q).state m.step) ≡ Some f → full_in (all_grown (as_writes (written n r)) js) (records_of (after n r).state m.step) ≡ Some f
      full-at n is = (λ i. full_in (all_grown (as_writes (sym (written-at n) i)) js) (records_of (sym (state-at n) i) m.step)) ∙ is

-- ---- a line that is told

module _ (r next : Run) (turned_to : turn r ≡ next) (none : next_step r ≡ None) where
  no-records : written 1 r ≡ []
  no-records = written-one r None none

  pub told-stands : (first : ℕ) (lists : Lists) (before : Option (List ℕ)) (w : Engine) (v : Sessions) (o : Outside) → Stands first lists before next w v o → StandsAfter 1 first lists before r w v o
  told-stands first lists before w v o s =
      subst (λ (z : Run). Stands first (puts (as_writes (written 1 r)) lists) before z w v o) (sym turned_to)
      (subst (λ (xs : List Written). Stands first (puts (as_writes xs) lists) before next w v o) (sym no-records) s)

  pub told-grown : (w : Engine) → HasGrown 1 r (journals_of w.owners) w
  told-grown w = record {
    grew = sym (ap (λ (xs : List Written). all_grown (as_writes xs) (journals_of w.owners)) no-records);
    fits = ap (λ (xs : List Written). full_in (journals_of w.owners) (as_writes xs)) no-records ∙ none-full (journals_of w.owners);
  }

  pub told-past : (number : ℕ) (more : List Read) → next.lines ≡ more → next.number ≡ number + 1 → next.answers ≡ [] → IsPastLine 1 number r more
  told-past number more lines number_is answers_are = record {
    lines = ap (λ (z : Run). z.lines) turned_to ∙ lines;
    number_is = ap (λ (z : Run). z.number) turned_to ∙ number_is;
    answers = ap (λ (z : Run). z.answers) turned_to ∙ answers_are;
  }

-- an actor too many
pub extra-comes : (r : Run) (l : Read) → false ≡ not (is_extra r.actors l.actor) → comes_to r l ≡ answered (answers.Refused (reasons.Limit limits.Actors))
unfolding comes_to
extra-comes r l extra = ap (by_right (met r l.actor) l.line) (not-true (is_extra r.actors l.actor) extra)

-- what is not built
pub unbuilt-comes : (r : Run) (l : Read) → true ≡ not (is_extra r.actors l.actor) → is_built l.line ≡ false → comes_to r l ≡ answered (answers.Refused reasons.NotBuilt)
unfolding comes_to
unbuilt-comes r l extra built = ap (by_right (met r l.actor) l.line) (not-false (is_extra r.actors l.actor) extra) ∙ ap (by_kind (met r l.actor) l.line) built

-- nothing is told
pub silent-stands : (first : ℕ) (lists : Lists) (before : Option (List ℕ)) (r : Run) (l : Read) (more : List Read) (w : Engine) (v : Sessions) (o : Outside) → Stands first lists before r w v o → Stands first lists before (told_by r l more None) w v o
silent-stands first lists before r l more w v o s =
    let quiet : told_by r l more None ≡ record r { lines = more; number = r.number + 1; answers = [] } = grids-same l.line in
    subst (λ (z : Run). Stands first lists before z w v o) (sym quiet)
    record {
      is = s.is;
      sessions = record { shown = s.sessions.shown; actors = s.sessions.actors; names = s.sessions.names; count = s.sessions.count; grids = s.sessions.grids };
      ready = s.ready;
      kept = s.kept;
      folds = s.folds;
      folded = s.folded;
      sound = s.sound;
      told = s.told;
    }
  where
    still : record { lines = more; number = r.number + 1; answers = []; actors = r.actors; grids = r.grids; state = r.state; told = r.told ++ [] } ≡ record r { lines = more; number = r.number + 1; answers = [] }
    still = ap (λ (t : List ℕ). record r { lines = more; number = r.number + 1; answers = []; told = t }) (nil r.told)

    grids-same : (line : Line) → record { lines = more; number = r.number + 1; answers = []; actors = r.actors; grids = grids_behind r line None; state = r.state; told = r.told ++ [] } ≡ record r { lines = more; number = r.number + 1; answers = [] }
    grids-same kinds.Nothing = still
    grids-same (kinds.Bad why) = still
    grids-same (kinds.System order) = still
    grids-same (kinds.File f) = still
    grids-same (kinds.Session name sentence) = still

-- ---- several turns

pub as-more : (xs ys : List Written) → as_writes (xs ++ ys) ≡ as_writes xs ++ as_writes ys
as-more [] ys = refl
as-more (x ∷ xs) ys = ap (λ (ws : List Write). as_write x ∷ ws) (as-more xs ys)

pub record Follow : Type 0 where
  pub runs : (m n : ℕ) (r : Run) → after n (after m r) ≡ after (m + n) r
  pub records : (m n : ℕ) (r : Run) → written m r ++ written n (after m r) ≡ written (m + n) r
  pub put : (ws vs : List Write) (lists : Lists) → puts (ws ++ vs) lists ≡ puts vs (puts ws lists)
  pub grown : (ws vs : List Write) (js : Journals) → all_grown (ws ++ vs) js ≡ all_grown vs (all_grown ws js)
  pub full : (ws vs : List Write) (js : Journals) → full_in js ws ≡ None → full_in js (ws ++ vs) ≡ full_in (all_grown ws js) vs

module _ (follow : Follow) (count n : ℕ) (r : Run) where
  all-records : as_writes (written count r) ++ as_writes (written n (after count r)) ≡ as_writes (written (count + n) r)
  all-records = sym (as-more (written count r) (written n (after count r))) ∙ ap as_writes (follow.records count n r)

  lists-later : (lists : Lists) → puts (as_writes (written n (after count r))) (puts (as_writes (written count r)) lists) ≡ puts (as_writes (written (count + n) r)) lists
  lists-later lists = sym (follow.put (as_writes (written count r)) (as_writes (written n (after count r))) lists) ∙ ap (λ (ws : List Write). puts ws lists) all-records

  journals-later : (js : Journals) → all_grown (as_writes (written n (after count r))) (all_grown (as_writes (written count r)) js) ≡ all_grown (as_writes (written (count + n) r)) js
  journals-later js = sym (follow.grown (as_writes (written count r)) (as_writes (written n (after count r))) js) ∙ ap (λ (ws : List Write). all_grown ws js) all-records

  pub later-stands : (first : ℕ) (lists : Lists) (before : Option (List ℕ)) (w : Engine) (v : Sessions) (o : Outside) → StandsAfter n first (puts (as_writes (written count r)) lists) before (after count r) w v o → StandsAfter (count + n) first lists before r w v o
  later-stands first lists before w v o s =
      subst (λ (z : Run). Stands first (puts (as_writes (written (count + n) r)) lists) before z w v o) (follow.runs count n r)
      (subst (λ (ls : Lists). Stands first ls before (after n (after count r)) w v o) (lists-later lists) s)

  pub later-grown : (js : Journals) (w v : Engine) → HasGrown count r js w → HasGrown n (after count r) (journals_of w.owners) v → HasGrown (count + n) r js v
  later-grown js w v was now = record {
    grew = now.grew ∙ ap (all_grown (as_writes (written n (after count r)))) was.grew ∙ journals-later js;
    fits =
        ap (full_in js) (sym all-records)
        ∙ follow.full (as_writes (written count r)) (as_writes (written n (after count r))) js was.fits
        ∙ ap (λ (ks : Journals). full_in ks (as_writes (written n (after count r)))) (sym was.grew)
        ∙ now.fits;
  }

  pub later-past : (number : ℕ) (more : List Read) → IsPastLine n number (after count r) more → IsPastLine (count + n) number r more
  later-past number more p = record {
    lines = ap (λ (z : Run). z.lines) (sym (follow.runs count n r)) ∙ p.lines;
    number_is = ap (λ (z : Run). z.number) (sym (follow.runs count n r)) ∙ p.number_is;
    answers = ap (λ (z : Run). z.answers) (sym (follow.runs count n r)) ∙ p.answers;
  }

pub later-full : Follow → (count : ℕ) (r : Run) (js : Journals) (lists : Lists) (w : Engine) (before : Option (List ℕ)) (f : Full) (o : Outside) → HasGrown count r js w → IsFullIn (journals_of w.owners) (puts (as_writes (written count r)) lists) (after count r) before f o
    → IsFullIn js lists r before f o
later-full follow count r js lists w before f o grown m = record {
  count = count + m.count;
  step = m.step;
  next = ap next_step (sym (follow.runs count m.count r)) ∙ m.next;
  fits =
      ap (full_in js) (sym (all-records follow count m.count r))
      ∙ follow.full (as_writes (written count r)) (as_writes (written m.count (after count r))) js grown.fits
      ∙ ap (λ (ks : Journals). full_in ks (as_writes (written m.count (after count r)))) (sym grown.grew)
      ∙ m.fits;
  full_is =
      (λ i. full_in (sym (journals-later follow count m.count r js) i) (records_of (sym (follow.runs count m.count r) i).state m.step))
      ∙ sym (ap (λ (ks : Journals). full_in (all_grown (as_writes (written m.count (after count r))) ks) (records_of (after m.count (after count r)).state m.step)) grown.grew)
      ∙ m.full_is;
  told = m.told ∙ ap (λ (z : Run). extended z.told before) (follow.runs count m.count r);
  front = m.front;
  rest = m.rest;
  parts = m.parts ∙ ap (λ (z : Run). writes z.state m.step) (follow.runs count m.count r);
  front_is =
      m.front_is
      ∙ ap (λ (ks : Journals). fitting (all_grown (as_writes (written m.count (after count r))) ks) (records_of (after m.count (after count r)).state m.step)) grown.grew
      ∙ (λ i. fitting (journals-later follow count m.count r js i) (records_of (follow.runs count m.count r i).state m.step));
  has = λ p now. subst (λ (ls : Lists). HasLists (puts (as_writes m.front) ls) p) (lists-later follow count m.count r lists) (m.has p now);
  recovers = λ p now. subst (λ (z : Run). Recovers (areas_of p) (resting z m.front)) (follow.runs count m.count r) (m.recovers p now);
}

-- a moment of a later part of a run is one of the run
pub moment-later : Follow → (n : ℕ) (r : Run) (js : Journals) (lists : Lists) (w : Engine) (before : Option (List ℕ)) (p : CrashState) → HasGrown n r js w → IsInRun (journals_of w.owners) (puts (as_writes (written n r)) lists) (after n r) before p
    → IsInRun js lists r before p
moment-later follow n r js lists w before p grown m = record {
  count = n + m.count;
  recovers = subst (λ (q : Run). Recovers (areas_of p) (resting q m.front)) (follow.runs n m.count r) m.recovers;
  front = m.front;
  rest = m.rest;
  parts = m.parts ∙ ap (λ (q : Run). step_writes q.state (next_step q)) (follow.runs n m.count r);
  has = subst (λ (ls : Lists). HasLists ls p) (sym (follow.put ones others lists) ∙ ap (λ (ws : List Write). puts ws lists) all) m.has;
  fits = ap (full_in js) (sym all) ∙ follow.full ones others js grown.fits ∙ ap (λ (ks : Journals). full_in ks others) (sym grown.grew) ∙ m.fits;
  said = m.said;
  told = m.told;
  not_behind = subst (λ (q : Run). IsPrefix q.told m.said) (follow.runs n m.count r) m.not_behind;
  not_ahead = subst (λ (q : Run). IsPrefix m.said q.told) (follow.runs n (suc m.count) r ∙ ap (λ (k : ℕ). after k r) (up n m.count)) m.not_ahead;
}
  where
    up : (n k : ℕ) → n + suc k ≡ suc (n + k)
    up n k = omega arith

    ones : List Write
    ones = as_writes (written n r)

    others : List Write
    others = as_writes (written m.count (after n r) ++ m.front)

    all : ones ++ others ≡ as_writes (written (n + m.count) r ++ m.front)
    all =
        sym (as-more (written n r) (written m.count (after n r) ++ m.front))
        ∙ ap as_writes (sym (assoc (written n r) (written m.count (after n r)) m.front) ∙ ap (λ (xs : List Written). xs ++ m.front) (follow.records n m.count r))

-- ---- a line as it is read

-- THE LINE IS DONE: it is told behind some turns, whose records the areas have
abbrev pub IsDone : ℕ → ℕ → Lists → Option (List ℕ) → Run → List Read → Journals → Engine → Sessions → Outside → Type 0
IsDone number first lists before r more js w v o = (count : ℕ) × IsPastLine count number r more × StandsAfter count first lists before r w v o × HasGrown count r js w

-- it is answered without a step
module _ (number : ℕ) (line : Line) (counted : Bool) (r : Run) (l : Read) (more : List Read) (at : IsAtRead number line counted r l more) (a : Answer) (comes : comes_to r l ≡ answered a) where
  abbrev told : Run
  told = told_by (met r l.actor) l more (Some a)

  told-turn : turn r ≡ told
  told-turn = turn-on r l more at.lines (answered a) comes

  no-step : next_step r ≡ None
  no-step = next-on r l more at.lines (answered a) comes

  pub told-line : (first : ℕ) (lists : Lists) (before : Option (List ℕ)) (w : Engine) (v : Sessions) (o : Outside) → Stands first lists before told w v o → IsDone number first lists before r more (journals_of w.owners) w v o
  told-line first lists before w v o s = (
    1,
    told-past r told told-turn no-step number more refl (ap (λ (n : ℕ). n + 1) at.number_is) refl,
    told-stands r told told-turn no-step first lists before w v o s,
    told-grown r told told-turn no-step w,
  )

  pub told-moments : (js : Journals) (lists : Lists) (before : Option (List ℕ)) (o n : Outside) → AtEveryMoment (IsBetween lists (met r l.actor) told before) o n → AtEveryMoment (IsInRun js lists r before) o n
  told-moments js lists before o n m =
      moments_more (IsBetween lists (met r l.actor) told before) (IsInRun js lists r before) o n (λ p between. moment-between js lists r told before p told-turn record {
        has = between.has;
        recovers = between.recovers;
        said = between.said;
        told = between.told;
        not_behind = between.not_behind;
        not_ahead = between.not_ahead;
      }) m

-- it takes its turns, which are those of the run in which its actor is met
module _ (number : ℕ) (line : Line) (r : Run) (l : Read) (more : List Read) (at : IsAtRead number line true r l more) where
  abbrev here : Run
  here = met r l.actor

  here-turn : turn here ≡ turn r
  here-turn = same-turn r l more at.lines (not-false (is_extra r.actors l.actor) at.counted_is)

  here-next : next_step here ≡ next_step r
  here-next = same-next r l more at.lines (not-false (is_extra r.actors l.actor) at.counted_is)

  pub met-done : (first : ℕ) (lists : Lists) (before : Option (List ℕ)) (js : Journals) (w : Engine) (v : Sessions) (o : Outside)
      → (count : ℕ) × IsPastLine (suc count) number here more × StandsAfter (suc count) first lists before here w v o × HasGrown (suc count) here js w → IsDone number first lists before r more js w v o
  met-done first lists before js w v o done =
      let (n, past, stands, grown) = done in (
        suc n,
        met-past r here here-turn here-next refl n number more past,
        met-stands r here here-turn here-next refl n first lists before w v o stands,
        met-grown r here here-turn here-next refl n js w grown,
      )

  pub met-moments : (js : Journals) (lists : Lists) (before : Option (List ℕ)) (o n : Outside) → AtEveryMoment (IsInRun js lists here before) o n → AtEveryMoment (IsInRun js lists r before) o n
  met-moments js lists before o n m = moments_more (IsInRun js lists here before) (IsInRun js lists r before) o n (λ p. met-later js lists r here before p here-turn here-next refl refl) m

  pub met-is-full : (js : Journals) (lists : Lists) (before : Option (List ℕ)) (f : Full) (o : Outside) → IsFullIn js lists here before f o → IsFullIn js lists r before f o
  met-is-full js lists before f o full = met-full r here here-turn here-next refl js lists before f o refl full

-- the run in which the actor of a line is met, and the line as it is read
module _ (number : ℕ) (bytes : List ℕ) (r : Run) (l : Read) (more : List Read) (at : IsAtLine number bytes r l more) where
  pub meets : (first : ℕ) (lists : Lists) (before : Option (List ℕ)) (w : Engine) (v now : Sessions) (o : Outside) → Stands first lists before r w v o → AreOf (met r (actor_of bytes)) now → Stands first lists before (met r l.actor) w now o
  meets first lists before w v now o s of = stands-met first lists before r l.actor w v now o s (subst (λ (a : Option (List ℕ)). AreOf (met r a) now) (sym at.is.actor) of)

  pub reads : (v : Sessions) (line : Line) (counted : Bool) → AreOf r v → ((m : Line) → Reads bytes m → line ≡ m) → counted ≡ not (is_extra v.actors (actor_of bytes)) → IsAtRead number line counted r l more
  reads v line counted of only is = at-read number bytes r l more line counted at only (is ∙ ap (λ (actors : List (List ℕ)). not (is_extra actors (actor_of bytes))) of.actors)
