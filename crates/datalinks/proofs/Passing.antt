-- The lines of a script, one after another.
use Rattle.std.proofs.Common.{◌≡◌, ℕ, ◌+◌, ◌==◌, true, false, List, [], ◌∷◌, length, Option, refl, sym, ap, ◌∙◌, subst, arith}
use Rattle.std.proofs.lemmas.Bool.Decides.{nat_tests}
use Rattle.std.specs.Str.Lines.{lines}
use Rattle.dl_areas.specs.Lists.{Journals, Lists, puts}
use Rattle.dl_base.proofs.Moments.{moments_more, moments_none, moments_then}
use Rattle.dl_base.specs.Outside.{AtEveryMoment, Outside}
use Rattle.dl_base.specs.declared.fault.Full.{Full}
use Rattle.fm_manager.specs.Managed.{as_writes}
use Rattle.meaning_run.specs.Running.{AreRead, IsRead, Read, Run, after, written}
use Rattle.sys_core.specs.declared.engine.Engine.{Engine}
use Rattle.sys_owners.specs.Owned.{journals_of}
use Rattle.sys_run.proofs.Images.{none-full}
use Rattle.sys_run.proofs.Lines.{Follow, later-full, later-grown, later-stands, moment-later}
use Rattle.sys_run.specs.Running.{HasGrown, IsAtLine, IsFullIn, IsInRun, IsPastLine, Stands, StandsAfter}
use Rattle.sys_run.specs.declared.sessions.Sessions.{Sessions}
use Rattle.datalinks.specs.Lines.{IsAtScript, IsPastScript}

-- some lines are told, and these bytes are left
pub record Passed (first : ℕ) (lists : Lists) (before : Option (List ℕ)) (r : Run) (js : Journals) (rest : List ℕ) (number : ℕ) (w : Engine) (v : Sessions) (o m : Outside) : Type 0 where
  pub count : ℕ
  pub stands : StandsAfter count first lists before r w v m
  pub grown : HasGrown count r js w
  pub are : AreRead (lines rest) (after count r).lines
  pub number_is : (after count r).number ≡ number
  pub answers : (after count r).answers ≡ []
  pub moments : AtEveryMoment (IsInRun js lists r before) o m

pub passed-first : (script : List ℕ) (first : ℕ) (lists : Lists) (before : Option (List ℕ)) (r : Run) (w : Engine) (v : Sessions) (o : Outside) → Stands first lists before r w v o → IsAtScript script r
    → Passed first lists before r (journals_of w.owners) script 1 w v o o
passed-first script first lists before r w v o s at = record {
  count = 0;
  stands = s;
  grown = record { grew = refl; fits = none-full (journals_of w.owners) };
  are = at.are;
  number_is = at.number_is;
  answers = at.answers;
  moments = moments_none (IsInRun (journals_of w.owners) lists r before) o;
}

-- what lines are read as, the first apart
pub record Apart (line : List ℕ) (behind : List (List ℕ)) (read : List Read) : Type 0 where
  pub l : Read
  pub more : List Read
  pub is : read ≡ l ∷ more
  pub first : IsRead line l
  pub others : AreRead behind more

apart : (line : List ℕ) (behind : List (List ℕ)) (read : List Read) → AreRead (line ∷ behind) read → Apart line behind read
apart line behind [] are = absurd are
apart line behind (l ∷ more) are = record { l = l; more = more; is = refl; first = are.0; others = are.1 }

-- AT THE NEXT LINE: the run there, and what its turns are in the whole run
pub record Onward (first : ℕ) (lists : Lists) (before : Option (List ℕ)) (r : Run) (js : Journals) (line : List ℕ) (behind : List (List ℕ)) (number : ℕ) (w : Engine) (v : Sessions) (o m : Outside) : Type 1 where
  pub run : Run
  pub lists_there : Lists
  pub l : Read
  pub more : List Read
  pub stands : Stands first lists_there before run w v m
  pub at : IsAtLine number line run l more
  pub moments : (n : Outside) → AtEveryMoment (IsInRun (journals_of w.owners) lists_there run before) m n → AtEveryMoment (IsInRun js lists r before) o n
  pub full : (f : Full) (n : Outside) → IsFullIn (journals_of w.owners) lists_there run before f n → IsFullIn js lists r before f n
  pub passed : (next : List ℕ) (x : Engine) (now : Sessions) (n : Outside) → lines next ≡ behind
      → (count : ℕ) × IsPastLine count number run more × StandsAfter count first lists_there before run x now n × HasGrown count run (journals_of w.owners) x
      → AtEveryMoment (IsInRun (journals_of w.owners) lists_there run before) m n → Passed first lists before r js next (number + 1) x now o n

module _ (follow : Follow) (first : ℕ) (lists : Lists) (before : Option (List ℕ)) (r : Run) (js : Journals) (rest : List ℕ) (number : ℕ) (w : Engine) (v : Sessions) (o m : Outside)
    (p : Passed first lists before r js rest number w v o m) (line : List ℕ) (behind : List (List ℕ)) (is : lines rest ≡ line ∷ behind) where
  abbrev run-here : Run
  run-here = after p.count r

  abbrev lists-here : Lists
  lists-here = puts (as_writes (written p.count r)) lists

  here : Apart line behind run-here.lines
  here = apart line behind run-here.lines (subst (λ (ls : List (List ℕ)). AreRead ls run-here.lines) is p.are)

  at-line : IsAtLine number line run-here here.l here.more
  at-line = record { lines = here.is; is = here.first; number_is = p.number_is; answers = p.answers }

  moments-on : (n : Outside) → AtEveryMoment (IsInRun (journals_of w.owners) lists-here run-here before) m n → AtEveryMoment (IsInRun js lists r before) o n
  moments-on n now = moments_then (IsInRun js lists r before) o m n p.moments
      (moments_more (IsInRun (journals_of w.owners) lists-here run-here before) (IsInRun js lists r before) m n (λ q. moment-later follow p.count r js lists w before q p.grown) now)

  full-on : (f : Full) (n : Outside) → IsFullIn (journals_of w.owners) lists-here run-here before f n → IsFullIn js lists r before f n
  full-on f n full = later-full follow p.count r js lists w before f n p.grown full

  -- one line more
  passed-next : (next : List ℕ) (x : Engine) (now : Sessions) (n : Outside) → lines next ≡ behind
      → (count : ℕ) × IsPastLine count number run-here here.more × StandsAfter count first lists-here before run-here x now n × HasGrown count run-here (journals_of w.owners) x
      → AtEveryMoment (IsInRun (journals_of w.owners) lists-here run-here before) m n → Passed first lists before r js next (number + 1) x now o n
  passed-next next x now n left done moments =
      let (count, past, stands, grown) = done in
      let same : after count run-here ≡ after (p.count + count) r = follow.runs p.count count r in
      record {
        count = p.count + count;
        stands = later-stands follow p.count count r first lists before x now n stands;
        grown = later-grown follow p.count count r js w x p.grown grown;
        are = subst (λ (ls : List (List ℕ)). AreRead ls (after (p.count + count) r).lines) (sym left)
            (subst (λ (q : Run). AreRead behind q.lines) same (subst (λ (ls : List Read). AreRead behind ls) (sym past.lines) here.others));
        number_is = ap (λ (q : Run). q.number) (sym same) ∙ past.number_is;
        answers = ap (λ (q : Run). q.answers) (sym same) ∙ past.answers;
        moments = moments-on n moments;
      }

  pub onward : Onward first lists before r js line behind number w v o m
  onward = record { run = run-here; lists_there = lists-here; l = here.l; more = here.more; stands = p.stands; at = at-line; moments = moments-on; full = full-on; passed = passed-next }

-- the last line is told
none-read : (read : List Read) → AreRead [] read → read ≡ []
none-read [] are = refl
none-read (l ∷ more) are = absurd are

pub empty-is : (l : List ℕ) → true ≡ (length l == 0) → l ≡ []
empty-is [] t = refl
empty-is (x ∷ xs) t = let no : (length (x ∷ xs) == 0) ≡ false = grind (arith, nat_tests) in cc (t, no)

pub passed-all : (first : ℕ) (lists : Lists) (before : Option (List ℕ)) (r : Run) (js : Journals) (rest : List ℕ) (number : ℕ) (w : Engine) (v : Sessions) (o m : Outside) → Passed first lists before r js rest number w v o m → rest ≡ []
    → (count : ℕ) × IsPastScript count r × StandsAfter count first lists before r w v m × HasGrown count r js w
passed-all first lists before r js rest number w v o m p none =
    (p.count, none-read (after p.count r).lines (subst (λ (s : List ℕ). AreRead (lines s) (after p.count r).lines) none p.are), p.stands, p.grown)
