-- A COMMAND ON FILES: its records, and the engine behind it.
use Rattle.std.proofs.Common.{◌≡◌, ℕ, ◌+◌, ◌^◌, ◌<◌, List, [], ◌∷◌, false, not, Option, Some, None, Result, Ok, Err, refl, sym, ◌∙◌, ap, subst}
use Rattle.std.specs.FinMap as maps
use Rattle.std.specs.Option.{unwrap_or}
use Rattle.dl_areas.specs.Batch.{writes_in}
use Rattle.dl_areas.specs.Lists.{AreReady, Write}
use Rattle.dl_areas.specs.Writing.{Does, Ends}
use Rattle.dl_base.specs.Outside.{Outside}
use Rattle.dl_base.specs.declared.answer.Answer.{Answer}
use Rattle.dl_base.specs.declared.answer.Answer.TheVariants as answers
use Rattle.dl_base.specs.declared.answer.FileRefusal.{FileRefusal}
use Rattle.dl_base.specs.declared.answer.Refusal.TheVariants as reasons
use Rattle.dl_base.specs.declared.answer.Why.{Why}
use Rattle.dl_base.specs.declared.area.Area.TheVariants as areas
use Rattle.dl_base.specs.declared.fault.StepFault.{StepFault}
use Rattle.dl_base.specs.declared.fault.StepFault.TheVariants as faults
use Rattle.dl_base.specs.declared.file.File.{File}
use Rattle.dl_base.specs.declared.file.FileChange.{FileChange}
use Rattle.dl_base.specs.declared.file.FileCmd.{FileCmd}
use Rattle.dl_base.specs.declared.file.FileWhat.{FileWhat}
use Rattle.dl_base.specs.declared.file.FileWhat.TheVariants as whats
use Rattle.dl_base.specs.declared.step.Step.{Step}
use Rattle.dl_base.specs.declared.step.Step.TheVariants as steps
use Rattle.dl_base.specs.declared.step.Target.{Target}
use Rattle.dl_base.specs.declared.value.LinkNo.{LinkNo}
use Rattle.dl_codec.specs.declared.files.FilesRecord.TheVariants as files_records
use Rattle.fm_links.specs.Searching.{AreClaims}
use Rattle.fm_links.specs.Claims.{PathClaim}
use Rattle.fm_manager.specs.Managed.{Managed, ManagesStep, as_writes, command_writes}
use Rattle.fm_manager.specs.Pieces.{Pieces}
use Rattle.fm_pieces.specs.Keeping.{HasPieces}
use Rattle.fs_files.specs.Store.{Catalog, IsWriting}
use Rattle.meaning_areas.proofs.Tables.{some_same}
use Rattle.meaning_areas.specs.FilesArea.{accepted_writes, user_records, writes as bodies_of}
use Rattle.meaning_areas.specs.Lists.{Folds, folds_on, in_files, with_files}
use Rattle.meaning_files.specs.Commands.{bytes_of, changed, command_answer, command_changes, if_exists, if_forbidden, needs_file, not_owner, read_only, refusal, refusal_of}
use Rattle.meaning_files.specs.Files.{Files, with_changes}
use Rattle.meaning_history.specs.Sound.{AreSound}
use Rattle.meaning_settling.specs.Keyed.{Keyed}
use Rattle.meaning_system.specs.Commands.{command_refusal, forbids}
use Rattle.meaning_system.specs.Following.{AreRestored}
use Rattle.meaning_system.specs.Machine.{by_refusal, step}
use Rattle.meaning_system.specs.State.{State, Txn, is_active}
use Rattle.dl_base.specs.Answers.{is_refused}
use Rattle.meaning_system.specs.Writes.{file_writes, when, writes}
use Rattle.sys_core.specs.Guarded.{looked}
use Rattle.sys_core.specs.Seated.{AreSeated, IsAtStage, IsSeat}
use Rattle.sys_core.specs.Standing.{IsOf}
use Rattle.sys_core.specs.Steps.{Steps, records_of}
use Rattle.sys_core.specs.declared.engine.Engine.{Engine}
use Rattle.sys_owners.proofs.Placing.{with_manager}
use Rattle.sys_owners.specs.Owned.{folds_in, journals_of}
use Rattle.sys_records.proofs.Managing.{manager-ends}
use Rattle.sys_seats.specs.Seats.{Seated}
use Rattle.sys_seats.specs.declared.seat.Seat.{Seat}
use Rattle.sys_seats.specs.declared.seat.Stage.{Stage}
use Rattle.sys_seats.specs.declared.seat.Stage.TheVariants as stages

-- WHAT THE CRATES BELOW PROMISE
pub record Laws : Type 0 where
  pub leads : (first : ℕ) (f : Folds) (s : State) (x : Step) → AreSound first f s → s.drawn + 1 < 2 ^ 32 → ((t : Target) → x ≡ steps.Restore t → AreRestored s t)
      → (later : Folds) × (folds_on (Some f) (writes s x) ≡ Some later) × AreSound first later (step s x).1
  pub taken : (s : State) (cmd : FileCmd) → command_refusal s cmd.user cmd.what ≡ None → with_changes s.files (command_changes s.files cmd.user cmd.what) ≡ Some (by_refusal s cmd None).1.files
  pub claims : (claims : Keyed PathClaim) (s : State) (cmd : FileCmd) → AreClaims claims s → AreClaims claims (step s (steps.File cmd)).1
  pub pieces : (first : ℕ) (f : Folds) (s : State) (x : Step) (tx : ℕ) (t : Txn) (p : Option Pieces) → AreSound first f s → maps.get s.txs tx ≡ Some t → is_active t.phase ≡ false
      → maps.get (step s x).1.txs tx ≡ Some t → HasPieces s tx t p → HasPieces (step s x).1 tx t p

-- WHY A COMMAND IS REFUSED

-- what passes with a link passes without
pub unforbidden : (files : Files) (o : Option (LinkNo × Why)) (user : List ℕ) (what : FileWhat) → refusal_of files o user what ≡ None → refusal_of files None user what ≡ None
unforbidden files None user what e = e
unforbidden files (Some f) user what e = by what e
  where
    never : (path : List ℕ) (o : Option File) (later : File → Option FileRefusal) → needs_file path o (λ file. if_forbidden path (Some f) (later file)) ≡ None → ⊥
    never path None later e = cc
    never path (Some x) later e = cc

    by : (w : FileWhat) → refusal_of files (Some f) user w ≡ None → refusal_of files None user w ≡ None
    by (whats.Create path bytes) e = e
    by (whats.Write path bytes) e = absurd (never path (maps.get files path) (λ file. not_owner user path file (read_only path file)) e)
    by (whats.Delete path) e = absurd (never path (maps.get files path) (λ file. not_owner user path file None) e)
    by (whats.Rename path to) e = absurd (never path (maps.get files path) (λ file. not_owner user path file (if_exists to (maps.get files to) None)) e)
    by (whats.Chmod path on) e = absurd (never path (maps.get files path) (λ file. not_owner user path file None) e)
    by (whats.Read path token) e = absurd (never path (maps.get files path) (λ file. None) e)
    by whats.List e = e

-- WHAT A COMMAND THAT WRITES NOTHING IS, and one that writes

pub looked-answer : (files : Files) (what : FileWhat) (a : Answer) → looked files what ≡ Some a → command_answer files what ≡ a
looked-answer files (whats.Create path bytes) a e = absurd cc
looked-answer files (whats.Write path bytes) a e = absurd cc
looked-answer files (whats.Delete path) a e = absurd cc
looked-answer files (whats.Rename path to) a e = absurd cc
looked-answer files (whats.Chmod path on) a e = absurd cc
looked-answer files (whats.Read path token) a e = some_same (bytes_of (maps.get files path)) a e
looked-answer files whats.List a e = some_same (command_answer files whats.List) a e

pub looked-changes : (files more : Files) (user : List ℕ) (what : FileWhat) (a : Answer) → looked files what ≡ Some a → command_changes more user what ≡ []
looked-changes files more user (whats.Create path bytes) a e = absurd cc
looked-changes files more user (whats.Write path bytes) a e = absurd cc
looked-changes files more user (whats.Delete path) a e = absurd cc
looked-changes files more user (whats.Rename path to) a e = absurd cc
looked-changes files more user (whats.Chmod path on) a e = absurd cc
looked-changes files more user (whats.Read path token) a e = refl
looked-changes files more user whats.List a e = refl

pub writing : (files : Files) (what : FileWhat) → looked files what ≡ None → IsWriting what
writing files (whats.Create path bytes) e = tt
writing files (whats.Write path bytes) e = tt
writing files (whats.Delete path) e = tt
writing files (whats.Rename path to) e = tt
writing files (whats.Chmod path on) e = tt
writing files (whats.Read path token) e = cc
writing files whats.List e = cc

writing-answer : (files more : Files) (what : FileWhat) → looked files what ≡ None → command_answer more what ≡ answers.Done
writing-answer files more (whats.Create path bytes) e = refl
writing-answer files more (whats.Write path bytes) e = refl
writing-answer files more (whats.Delete path) e = refl
writing-answer files more (whats.Rename path to) e = refl
writing-answer files more (whats.Chmod path on) e = refl
writing-answer files more (whats.Read path token) e = absurd cc
writing-answer files more whats.List e = absurd cc

not-refused : (files : Files) (what : FileWhat) → is_refused (command_answer files what) ≡ false
not-refused files (whats.Create path bytes) = refl
not-refused files (whats.Write path bytes) = refl
not-refused files (whats.Delete path) = refl
not-refused files (whats.Rename path to) = refl
not-refused files (whats.Chmod path on) = refl
not-refused files (whats.Read path token) = by (maps.get files path)
  where
    by : (o : Option File) → is_refused (bytes_of o) ≡ false
    by None = refl
    by (Some x) = refl
not-refused files whats.List = refl

-- ITS RECORD

refused-records : (s : State) (cmd : FileCmd) (why : FileRefusal) (cs : List FileChange) → file_writes s cmd (answers.Refused (reasons.File why)) cs ≡ []
refused-records s cmd why [] = refl
refused-records s cmd why (c ∷ cs) = refl

accepted-records : (s : State) (cmd : FileCmd) (answer : Answer) → is_refused answer ≡ false → (cs : List FileChange) → as_writes (file_writes s cmd answer cs) ≡ writes_in areas.Files (user_records cs)
accepted-records s cmd answer accepted [] = refl
accepted-records s cmd answer accepted (c ∷ cs) = ap (λ b. as_writes (when (not b) (in_files (files_records.Batch 0 (c ∷ cs)) ∷ []))) accepted

accepted-folds : (f : Folds) (s : State) (cmd : FileCmd) (answer : Answer) → is_refused answer ≡ false → (cs : List FileChange) (files : Files) → with_changes f.files cs ≡ Some files
    → folds_on (Some f) (file_writes s cmd answer cs) ≡ Some (record f { files = files })
accepted-folds f s cmd answer accepted [] files taken = ap (λ (x : Files). Some (record f { files = x })) (some_same f.files files taken)
accepted-folds f s cmd answer accepted (c ∷ cs) files taken = ap (λ b. folds_on (Some f) (when (not b) (in_files (files_records.Batch 0 (c ∷ cs)) ∷ []))) accepted ∙ ap (with_files f) taken

-- THE SEATS of the same transactions, whose pieces are kept
pub seated-same : (s t : State) (seats : Seated) → t.txs ≡ s.txs → ((tx : ℕ) (v : Txn) (p : Option Pieces) → maps.get s.txs tx ≡ Some v → is_active v.phase ≡ false → HasPieces s tx v p → HasPieces t tx v p) → AreSeated s seats → AreSeated t seats
seated-same s t seats same keeps are tx = subst (λ (o : Option Txn). IsSeat t tx o (maps.get seats tx)) (λ i. maps.get (sym same i) tx) (by (maps.get s.txs tx) refl (maps.get seats tx) (are tx))
  where
    at : (v : Txn) → maps.get s.txs tx ≡ Some v → (x : Stage) → IsAtStage s tx v x → IsAtStage t tx v x
    at v e stages.Active is = is
    at v e (stages.Prepared vote) is = (is.0, record { made = is.1.made; names = is.1.names; pieces = keeps tx v vote.pieces e (ap is_active is.0) is.1.pieces })
    at v e (stages.Decided pieces) is = (is.0, keeps tx v pieces e (ap is_active is.0) is.1)

    by : (o : Option Txn) → maps.get s.txs tx ≡ o → (x : Option Seat) → IsSeat s tx o x → IsSeat t tx o x
    by None e None is = is
    by (Some v) e (Some x) is = record { seen = is.seen; gives = is.gives; takes = is.takes; stage = at v e x.stage is.stage }
    by None e (Some x) is = is
    by (Some v) e None is = is

-- NOTHING IS WRITTEN: the engine stays in the state, and the step is answered

-- want of memory
pub failed : (first : ℕ) (w : Engine) (s : State) (x : Step) (o : Outside) → IsOf first w s → Does (journals_of w.owners) (journals_of w.owners) [] None o o → (r : Result Answer StepFault) → r ≡ Err faults.Memory → Steps first x s w w r o o
failed first w s x o is does r e = subst (λ (q : Result Answer StepFault). Steps first x s w w q o o) (sym e) (record { answers = tt; memory = λ e. is; ends = does })

quiet : (first : ℕ) (w : Engine) (s : State) (x : Step) (o : Outside) → IsOf first w s → Does (journals_of w.owners) (journals_of w.owners) [] None o o
    → (answer : Answer) → answer ≡ (step s x).0 → (step s x).1 ≡ s → records_of s x ≡ [] → Steps first x s w w (Ok answer) o o
quiet first w s x o is does answer told back none = record {
  answers = record { answer = told; state = subst (λ (t : State). IsOf first w t) (sym back) is };
  memory = λ e. absurd cc;
  ends = subst (λ (ws : List Write). Does (journals_of w.owners) (journals_of w.owners) ws None o o) (sym none) does;
}

module _ (s : State) (cmd : FileCmd) (o : Option FileRefusal) (e : command_refusal s cmd.user cmd.what ≡ o) where
  pub stepped : step s (steps.File cmd) ≡ by_refusal s cmd o
  unfolding step
  stepped = ap (by_refusal s cmd) e

  written : records_of s (steps.File cmd) ≡ as_writes (file_writes s cmd (by_refusal s cmd o).0 (command_changes s.files cmd.user cmd.what))
  unfolding writes
  written = ap (λ (r : Answer × State). as_writes (file_writes s cmd r.0 (command_changes s.files cmd.user cmd.what))) stepped

  folded : (f : Folds) → folds_on (Some f) (writes s (steps.File cmd)) ≡ folds_on (Some f) (file_writes s cmd (by_refusal s cmd o).0 (command_changes s.files cmd.user cmd.what))
  unfolding writes
  folded f = ap (λ (r : Answer × State). folds_on (Some f) (file_writes s cmd r.0 (command_changes s.files cmd.user cmd.what))) stepped

module _ (first : ℕ) (w : Engine) (s : State) (is : IsOf first w s) (cmd : FileCmd) where
  abbrev pub asked : Step
  asked = steps.File cmd

  same-files : w.owners.manager.files.files ≡ s.files
  same-files = is.sound.follows.joint.files

  -- the refusal that was found
  pub refusal-found : (o : Option (LinkNo × Why)) (r : Option FileRefusal) → o ≡ forbids s cmd.what → r ≡ refusal_of w.owners.manager.files.files o cmd.user cmd.what → command_refusal s cmd.user cmd.what ≡ r
  refusal-found o r found told = sym (told ∙ (λ i. refusal_of (same-files i) (found i) cmd.user cmd.what))

  pub refused : (o : Outside) → Does (journals_of w.owners) (journals_of w.owners) [] None o o → (why : FileRefusal) → command_refusal s cmd.user cmd.what ≡ Some why → Steps first asked s w w (Ok (answers.Refused (reasons.File why))) o o
  refused o does why e =
      let is_so = stepped s cmd (Some why) e in
      quiet first w s asked o is does (answers.Refused (reasons.File why)) (ap (λ (r : Answer × State). r.0) (sym is_so)) (ap (λ (r : Answer × State). r.1) is_so)
      (written s cmd (Some why) e ∙ ap as_writes (refused-records s cmd why (command_changes s.files cmd.user cmd.what)))

  module _ (e : command_refusal s cmd.user cmd.what ≡ None) where
    accepts : refusal s.files cmd ≡ None
    accepts = unforbidden s.files (forbids s cmd.what) cmd.user cmd.what e

    pub manager-accepts : refusal w.owners.manager.files.files cmd ≡ None
    manager-accepts = ap (λ (x : Files). refusal x cmd) same-files ∙ accepts

    -- one that reads
    pub read : (o : Outside) → Does (journals_of w.owners) (journals_of w.owners) [] None o o → (answer : Answer) → looked w.owners.manager.files.files cmd.what ≡ Some answer → Steps first asked s w w (Ok answer) o o
    read o does answer told =
        let is_so = stepped s cmd None e in
        let none = looked-changes w.owners.manager.files.files s.files cmd.user cmd.what answer told in
        let a = looked-answer s.files cmd.what answer (ap (λ (x : Files). looked x cmd.what) (sym same-files) ∙ told) in
        quiet first w s asked o is does answer (sym (ap (λ (r : Answer × State). r.0) is_so ∙ a))
        (ap (λ (r : Answer × State). r.1) is_so ∙ (λ i. record s { files = unwrap_or (with_changes s.files (none i)) s.files }))
        (written s cmd None e ∙ ap (λ (cs : List FileChange). as_writes (file_writes s cmd (command_answer s.files cmd.what) cs)) none)

    -- one that writes

    changes : List FileChange
    changes = command_changes s.files cmd.user cmd.what

    pub wrote-records : records_of s asked ≡ command_writes w.owners.manager cmd
    wrote-records =
        written s cmd None e
        ∙ accepted-records s cmd (command_answer s.files cmd.what) (not-refused s.files cmd.what) (command_changes s.files cmd.user cmd.what)
        ∙ sym (
        ap (λ (x : Files). writes_in areas.Files (bodies_of x cmd)) same-files
        ∙ ap (λ (o : Option FileRefusal). writes_in areas.Files (accepted_writes o (user_records (command_changes s.files cmd.user cmd.what)))) accepts
        )

    pub wrote-ends : (m : Managed) (fault : Option StepFault) (o n : Outside) → AreReady (journals_of w.owners) o → ManagesStep w.owners.manager m (command_writes w.owners.manager cmd) fault o n
        → Ends (journals_of w.owners) (journals_of (with_manager w.owners m)) (records_of s asked) fault o n
    wrote-ends m fault o n ready call =
        subst (λ (ws : List Write). Ends (journals_of w.owners) (journals_of (with_manager w.owners m)) ws fault o n) (sym wrote-records)
        (manager-ends w.owners (command_writes w.owners.manager cmd) fault o n ready m call)

    module _ (laws : Laws) (c : Catalog) (is_c : c.files ≡ changed w.owners.manager.files.files cmd) where
      abbrev pub later : Engine
      later = record w { owners = with_manager w.owners (record w.owners.manager { files = c }) }

      abbrev pub behind : State
      behind = record s { files = changed s.files cmd }

      is-behind : (step s asked).1 ≡ behind
      is-behind = ap (λ (r : Answer × State). r.1) (stepped s cmd None e)

      abbrev pub f : Folds
      f = folds_in w.owners

      leads-to : folds_on (Some f) (writes s asked) ≡ Some (record f { files = changed s.files cmd })
      leads-to =
          folded s cmd None e f
          ∙ accepted-folds f s cmd (command_answer s.files cmd.what) (not-refused s.files cmd.what) (command_changes s.files cmd.user cmd.what) (changed s.files cmd)
          (ap (λ (x : Files). with_changes x (command_changes s.files cmd.user cmd.what)) same-files ∙ laws.taken s cmd e)

      sound-behind : AreSound first (folds_in later.owners) behind
      sound-behind =
          let next = laws.leads first f s asked is.sound is.few (λ t x. absurd cc) in
          let same : next.0 ≡ folds_in later.owners =
          some_same next.0 (record f { files = changed s.files cmd }) (sym next.1 ∙ leads-to)
          ∙ ap (λ (x : Files). record f { files = x }) (ap (λ (x : Files). changed x cmd) (sym same-files) ∙ sym is_c) in
          subst (λ (g : Folds). AreSound first g behind) same (subst (λ (t : State). AreSound first next.0 t) is-behind next.2)

      keeps : (tx : ℕ) (v : Txn) (p : Option Pieces) → maps.get s.txs tx ≡ Some v → is_active v.phase ≡ false → HasPieces s tx v p → HasPieces behind tx v p
      keeps tx v p at bound has =
          subst (λ (t : State). HasPieces t tx v p) is-behind
          (laws.pieces first f s asked tx v p is.sound at bound (ap (λ (t : State). maps.get t.txs tx) is-behind ∙ at) has)

      pub wrote : IsOf first later (step s asked).1
      wrote = subst (λ (t : State). IsOf first later t) (sym is-behind) (record {
        sound = sound-behind;
        drawn = is.drawn;
        few = is.few;
        moment = is.moment;
        settings = is.settings;
        claims = subst (λ (t : State). AreClaims w.claims.claims t) is-behind (laws.claims w.claims.claims s cmd is.claims);
        seats = seated-same s behind w.seats refl keeps is.seats;
        room = record { commits = is.room.commits; copies = is.room.copies };
      })

      pub wrote-answer : looked w.owners.manager.files.files cmd.what ≡ None → answers.Done ≡ (step s asked).0
      wrote-answer none = sym (ap (λ (r : Answer × State). r.0) (stepped s cmd None e) ∙ writing-answer w.owners.manager.files.files s.files cmd.what none)

-- a call that failed may have made room for files
pub spared : (first : ℕ) (w : Engine) (s : State) → IsOf first w s → (n : ℕ)
    → IsOf first (record w { owners = with_manager w.owners (record w.owners.manager { files = record w.owners.manager.files { spare = n } }) }) s
spared first w s is n = record {
  sound = is.sound;
  drawn = is.drawn;
  few = is.few;
  moment = is.moment;
  settings = is.settings;
  claims = is.claims;
  seats = is.seats;
  room = record { commits = is.room.commits; copies = is.room.copies };
}

-- A COMMAND THAT WRITES, as it ends
module _ (first : ℕ) (w : Engine) (s : State) (is : IsOf first w s) (cmd : FileCmd) (e : command_refusal s cmd.user cmd.what ≡ None) (m : Managed) (o n : Outside) (ready : AreReady (journals_of w.owners) o) where
  abbrev pub behind_call : Engine
  behind_call = record w { owners = with_manager w.owners m }

  pub done : Laws → looked w.owners.manager.files.files cmd.what ≡ None → m.files.files ≡ changed w.owners.manager.files.files cmd → m ≡ record w.owners.manager { files = m.files }
      → ManagesStep w.owners.manager m (command_writes w.owners.manager cmd) None o n → Steps first (steps.File cmd) s w behind_call (Ok answers.Done) o n
  done laws none files same call = record {
    answers = record {
      answer = wrote-answer first w s is cmd e laws m.files files none;
      state = subst (λ (k : Managed). IsOf first (record w { owners = with_manager w.owners k }) (step s (steps.File cmd)).1) (sym same) (wrote first w s is cmd e laws m.files files);
    };
    memory = λ x. absurd cc;
    ends = wrote-ends first w s is cmd e m None o n ready call;
  }

  pub stopped : (fault : StepFault) → m ≡ record w.owners.manager { files = record w.owners.manager.files { spare = m.files.spare } }
      → ManagesStep w.owners.manager m (command_writes w.owners.manager cmd) (Some fault) o n → Steps first (steps.File cmd) s w behind_call (Err fault) o n
  stopped fault same call = record {
    answers = tt;
    memory = λ x. subst (λ (k : Managed). IsOf first (record w { owners = with_manager w.owners k }) s) (sym same) (spared first w s is m.files.spare);
    ends = wrote-ends first w s is cmd e m (Some fault) o n ready call;
  }
