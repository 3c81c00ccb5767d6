-- What an opening leaves, as the begin of a run.
use Rattle.std.proofs.Common.{◌≡◌, ℕ, zero, suc, List, [], length, Option, Some, None, refl, sym, ap, ◌∙◌, subst}
use Rattle.std.proofs.lemmas.List.{append-nil}
use Rattle.std.specs.FinMap as maps
use Rattle.std.specs.Ordering.{nat_cmp}
use Rattle.std.specs.Str.Lines.{lines}
use Rattle.db_txn.specs.Transaction.{Transaction, vacant}
use Rattle.dl_areas.specs.Lists.{Lists, puts}
use Rattle.dl_base.specs.Outside.{Outside, extended}
use Rattle.dl_base.specs.declared.step.Settings.{Settings}
use Rattle.fm_manager.specs.Managed.{as_writes}
use Rattle.meaning_areas.proofs.Tables.{some_same}
use Rattle.meaning_areas.specs.Lists.{Folds}
use Rattle.meaning_areas.specs.Stands.{Stored, stored_of}
use Rattle.meaning_history.specs.Reached.{first_of}
use Rattle.meaning_run.specs.Running.{AreRead, Read, first_run}
use Rattle.meaning_system.specs.Machine.{start}
use Rattle.meaning_system.specs.State.{State, txn_at, txn_of}
use Rattle.meaning_system.specs.Writes.{opening}
use Rattle.run_args.specs.Words.{settings}
use Rattle.sys_core.specs.Seated.{HasTxn, shown_by}
use Rattle.sys_core.specs.Sessions.{AreSeparate}
use Rattle.sys_core.specs.Standing.{IsOf}
use Rattle.sys_core.specs.declared.engine.Engine.{Engine}
use Rattle.sys_opening.proofs.Records.{same-folds}
use Rattle.sys_opening.specs.Begun.{HasBegun}
use Rattle.sys_owners.specs.Owned.{folds_in}
use Rattle.sys_run.proofs.Images.{Laws}
use Rattle.sys_run.specs.Running.{AreOf, Stands}
use Rattle.sys_run.specs.Sessions as showing
use Rattle.sys_run.specs.declared.sessions.Sessions.{Sessions}
use Rattle.datalinks.specs.Lines.{IsAtScript}
use Rattle.datalinks.specs.Run.{Begins, Begun, BeginsWith, run_of}

-- the engine is opened over these lists, in the state with which the machine begins
pub record IsOpen (given : Settings) (lists : Lists) (f : Folds) (w : Engine) (o m : Outside) : Type 0 where
  pub begun : HasBegun given.limit lists f w.owners o m
  pub is : IsOf (first_of (stored_of f)) w (start given (stored_of f))

-- so it is over those of a run that begins there
pub open-of : (given : Settings) (rest : Option (List ℕ)) (lists : Lists) (f : Folds) (w : Engine) (o m : Outside) → IsOpen given lists f w o m → (run : Begun) → BeginsWith given rest o run → IsOpen run.given run.lists run.folds w o m
open-of given rest lists f w o m opened run begins =
    let same : lists ≡ run.lists = opened.begun.read run.lists begins.areas_have.read in
    let folds : f ≡ run.folds = same-folds lists run.lists f run.folds same opened.begun.folded begins.areas_have.folded in
    subst (λ (s : Settings). IsOpen s run.lists run.folds w o m) (sym begins.given_is)
    (subst (λ (h : Folds). IsOpen given run.lists h w o m) folds (subst (λ (ls : Lists). IsOpen given ls f w o m) same opened))

-- before the first line no session has a transaction
vacant-at : (n : ℕ) → showing.txn_at [] n ≡ vacant n
vacant-at zero = refl
vacant-at (suc n) = refl

none-begun : (given : Settings) (x : Stored) (n : ℕ) → txn_of (start given x) n ≡ None
none-begun given x n = ap (txn_at (start given x)) (maps.get-empty nat_cmp n)

vacant-shown : (s : State) (n : ℕ) → txn_of s n ≡ None → HasTxn s (vacant n)
vacant-shown s n none = sym (ap (shown_by n) none)

none-shown : (given : Settings) (x : Stored) (txns : List Transaction) → AreSeparate (start given x) → txns ≡ [] → showing.AreShown (start given x) txns
none-shown given x txns separate none = subst (λ (ts : List Transaction). showing.AreShown (start given x) ts) (sym none) (record {
  separate = separate;
  shown = λ n. subst (HasTxn (start given x)) (sym (vacant-at n)) (vacant-shown (start given x) n (none-begun given x n));
  numbered = λ n. ap (λ (t : Transaction). t.session) (vacant-at n);
})

none-told : (before : Option (List ℕ)) → before ≡ extended [] before
none-told None = refl
none-told (Some b) = ap (λ (t : List ℕ). Some t) (sym (append-nil b))

-- THE RUN BEGINS
pub new-sessions : (read : List Read) (given : Settings) (x : Stored) (v : Sessions) → AreSeparate (start given x) → v.txns ≡ [] → v.names ≡ [] → v.actors ≡ [] → v.grids ≡ maps.empty → AreOf (first_run read (start given x)) v
new-sessions read given x v separate txns names actors grids = record {
  shown = none-shown given x v.txns separate txns;
  actors = actors;
  names = names;
  count = ap length txns ∙ ap length (sym names);
  grids = grids;
}

pub stands-begun : Laws → (read : List Read) (given : Settings) (lists : Lists) (f : Folds) (w : Engine) (v : Sessions) (o m : Outside) → IsOpen given lists f w o m → AreOf (first_run read (start given (stored_of f))) v
    → Stands (first_of (stored_of f)) (puts (as_writes (opening f)) lists) o.told (first_run read (start given (stored_of f))) w v m
stands-begun laws read given lists f w v o m opened sessions = record {
  is = opened.is;
  sessions = sessions;
  ready = opened.begun.begun.ready;
  kept = opened.begun.kept;
  folds = folds_in w.owners;
  folded = laws.folded lists f (folds_in w.owners) (opening f) opened.begun.folded opened.begun.leads opened.begun.spelled;
  sound = opened.is.sound;
  told = opened.begun.begun.told ∙ none-told o.told;
}

pub at-script : (script : List ℕ) (read : List Read) (s : State) → AreRead (lines script) read → IsAtScript script (first_run read s)
at-script script read s are = record { are = are; number_is = refl; answers = refl }

-- the script of a run
pub script-is : (given : Settings) (script : List ℕ) (o : Outside) (run : Begun) → BeginsWith given (Some script) o run → AreRead (lines script) run.read
script-is given script o run begins = subst (λ (s : List ℕ). AreRead (lines s) run.read) (sym (some_same script run.script begins.source_has)) begins.lines_are

-- a script that was read whole is that of the run
pub begins-read : (given : Settings) (rest : Option (List ℕ)) (script : List ℕ) (o : Outside) (run : Begun) → BeginsWith given rest o run → script ≡ run.script → BeginsWith given (Some script) o run
begins-read given rest script o run begins read = record {
  given_is = begins.given_is;
  source_has = ap (λ (s : List ℕ). Some s) read;
  lines_are = begins.lines_are;
  areas_have = begins.areas_have;
}

-- the words tell the settings
pub begins-with : (words : List (List ℕ)) (given : Settings) (rest : Option (List ℕ)) (o : Outside) (run : Begun) → Begins words rest o run → settings words ≡ Some given → BeginsWith given rest o run
begins-with words given rest o run begins is = record {
  given_is = some_same run.given given (sym begins.words_tell ∙ is);
  source_has = begins.source_has;
  lines_are = begins.lines_are;
  areas_have = begins.areas_have;
}

-- A RUN AT ITS BEGIN, behind the opening of its areas
pub record IsReady (script : List ℕ) (run : Begun) (w : Engine) (v : Sessions) (o m : Outside) : Type 0 where
  pub opened : IsOpen run.given run.lists run.folds w o m
  pub stands : Stands (first_of (stored_of run.folds)) (puts (as_writes (opening run.folds)) run.lists) o.told (run_of run) w v m
  pub at : IsAtScript script (run_of run)

pub ready-of : Laws → ((given : Settings) (x : Stored) → AreSeparate (start given x)) → (given : Settings) (script : List ℕ) (lists : Lists) (f : Folds) (w : Engine) (v : Sessions) (o m : Outside) → IsOpen given lists f w o m
    → v.txns ≡ [] → v.names ≡ [] → v.actors ≡ [] → v.grids ≡ maps.empty → (run : Begun) → BeginsWith given (Some script) o run → IsReady script run w v o m
ready-of laws separate given script lists f w v o m opened txns names actors grids run begins =
    let x = stored_of run.folds in
    let here = open-of given (Some script) lists f w o m opened run begins in
    record {
      opened = here;
      stands = stands-begun laws run.read run.given run.lists run.folds w v o m here (new-sessions run.read run.given x v (separate run.given x) txns names actors grids);
      at = at-script script run.read (start run.given x) (script-is given script o run begins);
    }
