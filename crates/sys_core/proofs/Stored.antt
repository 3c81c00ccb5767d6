-- A FILE IS ARCHIVED: what the machine does and writes, and the engine behind it.
use Rattle.std.proofs.Common.{◌≡◌, ℕ, ◌+◌, ◌≤◌, List, [], ◌∷◌, ◌++◌, Bool, true, false, cond, map, Option, Some, None, Ok, Err, is_some, refl, sym, ◌∙◌, ap, subst, arith}
use Rattle.std.specs.FinMap as maps
use Rattle.std.specs.List.{cons_option}
use Rattle.std.specs.Option.{option_map, option_to_list}
use Rattle.dl_areas.specs.Lists.{AreReady, Journals}
use Rattle.dl_areas.specs.Writing.{Does}
use Rattle.dl_base.specs.Faults.{step_fault}
use Rattle.dl_base.specs.Outside.{Outside}
use Rattle.dl_base.specs.declared.answer.Answer.{Answer}
use Rattle.dl_base.specs.declared.answer.Answer.TheVariants as answers
use Rattle.dl_base.specs.declared.answer.Refusal.TheVariants as reasons
use Rattle.dl_base.specs.declared.fault.AppendFault.{AppendFault}
use Rattle.dl_base.specs.declared.fault.StepFault.TheVariants as faults
use Rattle.dl_base.specs.declared.file.File.{File}
use Rattle.dl_base.specs.declared.step.Step.{Step}
use Rattle.dl_base.specs.declared.step.Step.TheVariants as steps
use Rattle.dl_base.specs.declared.value.LinkNo.{LinkNo}
use Rattle.dl_base.specs.declared.value.LinkRow.{LinkRow}
use Rattle.dl_codec.specs.Archive.{archive_record}
use Rattle.dl_codec.specs.declared.archive.ArchiveRecord.TheVariants as archive_records
use Rattle.dl_codec.specs.declared.archive.FileCopy.{FileCopy}
use Rattle.fm_effects.specs.Copying.{copy_for}
use Rattle.fm_links.specs.Claims.{PathClaim}
use Rattle.fm_links.specs.Searching.{AreClaims}
use Rattle.fm_manager.specs.Managed.{AreSpelled, FoldsTo, IsTakenBy, Managed, Manages, as_writes}
use Rattle.fm_manager.specs.Pieces.{Pieces}
use Rattle.fm_pieces.specs.Keeping.{HasPieces}
use Rattle.meaning_areas.proofs.Tables.{some_same}
use Rattle.meaning_areas.specs.Finishing.{copy_by, file_copy}
use Rattle.meaning_areas.specs.Lists.{Written, folds_on, in_archive}
use Rattle.meaning_history.specs.Sound.{AreSound}
use Rattle.meaning_settling.specs.Keyed.{Keyed}
use Rattle.meaning_settling.specs.Settling.{Copy}
use Rattle.meaning_system.specs.Machine.{archive_file, archive_on, step, with_copy}
use Rattle.meaning_system.specs.State.{State, Txn, is_active}
use Rattle.meaning_system.specs.Writes.{archive_list, archive_writes, copy_list, writes}
use Rattle.sys_core.proofs.Behind.{EachLeads, IsNoRestore, behind-sound, behind-taken}
use Rattle.sys_core.proofs.Commanding.{seated-same}
use Rattle.sys_core.proofs.Refused.{IsRefused}
use Rattle.sys_core.proofs.Roomy.{room-state}
use Rattle.sys_core.proofs.Seating.{PiecesStay}
use Rattle.sys_core.proofs.Stepped.{steps-done, steps-fault}
use Rattle.sys_core.specs.Archiving.{CanStore, awaited, copy_at, pending_link}
use Rattle.sys_core.specs.Standing.{IsOf}
use Rattle.sys_core.specs.Steps.{Steps, records_of}
use Rattle.sys_core.specs.declared.engine.Engine.{Engine}
use Rattle.sys_owners.proofs.Placing.{manager-does, with_manager}
use Rattle.sys_owners.proofs.Taking.{taken-anywhere}
use Rattle.sys_owners.specs.Owned.{Owned, folds_in, journals_of}
use Rattle.sys_records.proofs.Roomy.{room-journals}
use Rattle.sys_records.proofs.Spelled.{as-spelled}
use Rattle.sys_records.specs.Room.{HaveMoreRoom}
use Rattle.sys_seats.specs.Seats.{all_of, gives_of}

none_some : {A : Type 0} (x : A) → None ≡ Some x → ⊥
none_some x e = cc

cons_nil : {A : Type 0} (x : A) (xs : List A) → x ∷ xs ≡ [] → ⊥
cons_nil x xs e = cc

-- THE ONE COPY that is made for a link

copied-same : (c d : FileCopy) → in_archive (archive_records.Copy c) ≡ in_archive (archive_records.Copy d) → c ≡ d
copied-same c d e = cc

abbrev records : List FileCopy → List Written
records cs = map (λ (c : FileCopy). in_archive (archive_records.Copy c)) cs

none-made : (cs : List FileCopy) → records cs ≡ [] → cs ≡ []
none-made [] e = refl
none-made (c ∷ cs) e = absurd cc

one-made : (cs : List FileCopy) (c : FileCopy) → records cs ≡ in_archive (archive_records.Copy c) ∷ [] → cs ≡ c ∷ []
one-made [] c e = absurd cc
one-made (x ∷ []) c e = ap (λ (y : FileCopy). y ∷ []) (copied-same x c (first (in_archive (archive_records.Copy x)) (in_archive (archive_records.Copy c)) [] [] e))
  where
    first : (a b : Written) (xs ys : List Written) → a ∷ xs ≡ b ∷ ys → a ≡ b
    first a b xs ys e = cc
one-made (x ∷ y ∷ cs) c e = absurd cc

-- the last of a list of none, and of one

none-last : {A : Type 0} (cs rest : List A) (o : Option A) → cs ≡ [] → cs ≡ rest ++ option_to_list o → o ≡ None
none-last cs [] None is e = refl
none-last cs [] (Some x) is e = absurd (cons_nil x [] (sym e ∙ is))
none-last cs (y ∷ ys) o is e = absurd (cons_nil y (ys ++ option_to_list o) (sym e ∙ is))

one-last : {A : Type 0} (cs rest : List A) (o : Option A) (x : A) → cs ≡ x ∷ [] → cs ≡ rest ++ option_to_list o → (o ≡ None → cs ≡ []) → o ≡ Some x
one-last cs rest None x is e none = absurd (cons_nil x [] (sym is ∙ none refl))
one-last cs [] (Some y) x is e none = ap (λ z. Some z) (head y x [] [] (sym e ∙ is))
  where
    head : {A : Type 0} (a b : A) (xs ys : List A) → a ∷ xs ≡ b ∷ ys → a ≡ b
    head a b xs ys e = cc
one-last cs (z ∷ zs) (Some y) x is e none = absurd (two zs y (tail z x (zs ++ y ∷ []) [] (sym e ∙ is)))
  where
    tail : {A : Type 0} (a b : A) (xs ys : List A) → a ∷ xs ≡ b ∷ ys → xs ≡ ys
    tail a b xs ys e = cc

    two : {A : Type 0} (zs : List A) (y : A) → zs ++ y ∷ [] ≡ [] → ⊥
    two [] y e = cons_nil y [] e
    two (z ∷ zs) y e = cons_nil z (zs ++ y ∷ []) e

pub one-copy : (l : LinkRow) (c : Option Copy) (f : Option File) (cs rest : List FileCopy) (o : Option FileCopy) → records cs ≡ cons_option (copy_by l c f) [] → cs ≡ rest ++ option_to_list o → (o ≡ None → cs ≡ []) → o ≡ copy_for l c f
one-copy l (Some c) f cs rest o made e none = none-last cs rest o (none-made cs made) e
one-copy l None None cs rest o made e none = none-last cs rest o (none-made cs made) e
one-copy l None (Some f) cs rest o made e none = by l.options.recovery made
  where
    by : (b : Bool) → records cs ≡ cons_option (cond b (Some (in_archive (archive_records.Copy (file_copy l f)))) None) [] → o ≡ cond b (Some (file_copy l f)) None
    by true made = one-last cs rest o (file_copy l f) (one-made cs (file_copy l f) made) e none
    by false made = none-last cs rest o (none-made cs made) e

-- WHAT THE MACHINE DOES

-- it stores the copy
pub record Archived (s : State) (n : LinkNo) (c : FileCopy) : Type 0 where
  pub file : File
  pub is : step s (steps.Archive n) ≡ (answers.Archived 1, with_copy s n file)
  pub writes_it : writes s (steps.Archive n) ≡ in_archive (archive_records.Copy c) ∷ []

module _ (s : State) (n : LinkNo) where
  -- no copy is waited for
  not-step : awaited s n ≡ None → step s (steps.Archive n) ≡ (answers.Refused (reasons.NotPending n), s)
  unfolding step
  not-step none = by (pending_link s n) none
    where
      file : (l : LinkRow) (f : Option File) → option_map (file_copy l) f ≡ None → archive_file s n f ≡ (answers.Refused (reasons.NotPending n), s)
      file l None none = refl
      file l (Some x) none = absurd (none_some (file_copy l x) (sym none))

      by : (o : Option LinkRow) → copy_at s o ≡ None → archive_on s n o ≡ (answers.Refused (reasons.NotPending n), s)
      by None none = refl
      by (Some l) none = file l (maps.get s.files l.path) none

  pub not-awaited : awaited s n ≡ None → IsRefused s (steps.Archive n) (reasons.NotPending n)
  unfolding writes
  not-awaited none = record { is = not-step none; records = ap (λ (r : Answer × State). as_writes (archive_writes s n r.0)) (not-step none) }

  -- one is: it is stored
  pub archived : (c : FileCopy) → awaited s n ≡ Some c → Archived s n c
  unfolding step writes
  archived c some = by (pending_link s n) refl some
    where
      file : (l : LinkRow) → pending_link s n ≡ Some l → (f : Option File) → maps.get s.files l.path ≡ f → option_map (file_copy l) f ≡ Some c → Archived s n c
      file l at None there e = absurd (none_some c e)
      file l at (Some f) there e =
          let is : step s (steps.Archive n) ≡ (answers.Archived 1, with_copy s n f) = ap (archive_on s n) at ∙ ap (archive_file s n) there in
          record {
            file = f;
            is = is;
            writes_it =
                ap (λ (r : Answer × State). archive_writes s n r.0) is ∙ ap (archive_list s) at ∙ ap (copy_list l) there
                ∙ ap (λ (d : FileCopy). in_archive (archive_records.Copy d) ∷ []) (some_same (file_copy l f) c e);
          }

      by : (o : Option LinkRow) → pending_link s n ≡ o → copy_at s o ≡ Some c → Archived s n c
      by None at e = absurd (none_some c e)
      by (Some l) at e = file l at (maps.get s.files l.path) refl e

  archive-records : (ws : List Written) → writes s (steps.Archive n) ≡ ws → records_of s (steps.Archive n) ≡ as_writes ws
  archive-records ws are = ap as_writes are

no-archive : (n : LinkNo) → IsNoRestore (steps.Archive n)
no-archive n t e = cc

-- THE ENGINE BEHIND IT

abbrev pub ClaimsArchive : Type 0
ClaimsArchive = (claims : Keyed PathClaim) (s : State) (n : LinkNo) → AreClaims claims s → AreClaims claims (step s (steps.Archive n)).1

pub record Laws : Type 0 where
  pub leads : EachLeads
  pub claims : ClaimsArchive
  pub pieces : PiecesStay

module _ (laws : Laws) (first : ℕ) (w : Engine) (s : State) (n : LinkNo) (c : FileCopy) (can : CanStore first w s n c) where
  abbrev pub asked : Step
  asked = steps.Archive n

  abbrev pub record_list : List Written
  record_list = in_archive (archive_records.Copy c) ∷ []

  it : Archived s n c
  it = archived s n c can.waits

  -- the folds take its record
  pub copy-taken : IsTakenBy w.owners.manager record_list
  copy-taken =
      taken-anywhere w.owners.manager w.owners.store.rows w.owners.backups.backups record_list (tt, tt)
      (subst (λ (xs : List Written). is_some (folds_on (Some (folds_in w.owners)) xs) ≡ true) it.writes_it
      (behind-taken laws.leads first (folds_in w.owners) s asked can.state.sound can.state.few (no-archive n)))

  pub copy-room : 1 ≤ w.owners.manager.archive.spare
  copy-room = omega (arith, can.room)

  module _ (m : Managed) (o e : Outside) (ready : AreReady (journals_of w.owners) o) where
    abbrev pub later : Engine
    later = record w { owners = with_manager w.owners m }

    module _ (folds : FoldsTo w.owners.manager m record_list) (spare : w.owners.manager.archive.spare ≤ m.archive.spare + 1) where
      abbrev behind : State
      behind = with_copy s n it.file

      is-behind : (step s asked).1 ≡ behind
      is-behind = ap (λ (r : Answer × State). r.1) it.is

      sound : AreSound first (folds_in later.owners) behind
      sound =
          behind-sound laws.leads first (folds_in w.owners) s asked can.state.sound can.state.few (no-archive n) (folds_in later.owners) behind
          (ap (folds_on (Some (folds_in w.owners))) it.writes_it ∙ folds w.owners.store.rows w.owners.backups.backups) is-behind

      keeps : (tx : ℕ) (v : Txn) (p : Option Pieces) → maps.get s.txs tx ≡ Some v → is_active v.phase ≡ false → HasPieces s tx v p → HasPieces behind tx v p
      keeps tx v p at rests has =
          subst (λ (t : State). HasPieces t tx v p) is-behind
          (laws.pieces first (folds_in w.owners) s asked tx v p can.state.sound at rests (ap (λ (t : State). maps.get t.txs tx) is-behind ∙ at) has)

      archived-state : IsOf first later behind
      archived-state = record {
        sound = sound;
        drawn = can.state.drawn;
        few = can.state.few;
        moment = can.state.moment;
        settings = can.state.settings;
        claims = subst (λ (t : State). AreClaims w.claims.claims t) is-behind (laws.claims w.claims.claims s n can.state.claims);
        seats = seated-same s behind w.seats refl keeps can.state.seats;
        room = record { commits = can.state.room.commits; copies = omega (arith, can.room, spare) };
      }

      pub stored : Manages w.owners.manager m (as_writes record_list) None o e → Steps first asked s w later (Ok (answers.Archived 1)) o e
      stored call =
          steps-done first asked s w later o e (as_writes record_list) (archive-records s n record_list it.writes_it) (answers.Archived 1) behind it.is archived-state
          (manager-does w.owners (as_writes record_list) None o e ready m call)

    pub not-stored : (fault : AppendFault) → Manages w.owners.manager m (as_writes record_list) (Some fault) o e → Steps first asked s w later (Err (step_fault fault)) o e
    not-stored fault call =
        steps-fault first asked s w later o e (as_writes record_list) (archive-records s n record_list it.writes_it) fault
        (manager-does w.owners (as_writes record_list) (Some fault) o e ready m call)

  pub copy-spelled : archive_record.fits (archive_records.Copy c) → AreSpelled (writes s asked)
  copy-spelled fits = as-spelled (writes s asked) record_list it.writes_it (fits, tt)

-- no copy is waited for: it is refused, and nothing is written
pub refused-spelled : (s : State) (n : LinkNo) → awaited s n ≡ None → AreSpelled (writes s (steps.Archive n))
unfolding writes
refused-spelled s n none = subst (λ (r : Answer × State). AreSpelled (archive_writes s n r.0)) (sym (not-step s n none)) tt

-- WITH MORE ROOM

pub can-store : (first : ℕ) (w : Engine) (s : State) (n : LinkNo) (c : FileCopy) (v : Engine) → IsOf first w s → awaited s n ≡ Some c → v ≡ record w { owners = v.owners } → HaveMoreRoom w.owners v.owners
    → all_of gives_of w.seats + 1 ≤ v.owners.manager.archive.spare → CanStore first v s n c
can-store first w s n c v is waits same more room =
    subst (λ (k : Engine). CanStore first k s n c) (sym same) (record { state = room-state first w s v.owners more is; waits = waits; room = room })

pub room-ready : (w v : Owned) (o : Outside) → HaveMoreRoom w v → AreReady (journals_of w) o → AreReady (journals_of v) o
room-ready w v o more ready = subst (λ (js : Journals). AreReady js o) (sym (room-journals w v more)) ready

-- there is none
pub no-room : (first : ℕ) (w v : Engine) (s : State) (x : Step) (o : Outside) → IsOf first w s → v ≡ record w { owners = v.owners } → HaveMoreRoom w.owners v.owners → Does (journals_of w.owners) (journals_of w.owners) [] None o o
    → Steps first x s w v (Err faults.Memory) o o
no-room first w v s x o is same more none = record {
  answers = tt;
  memory = λ e. subst (λ (k : Engine). IsOf first k s) (sym same) (room-state first w s v.owners more is);
  ends = subst (λ (ks : Journals). Does (journals_of w.owners) ks [] None o o) (sym (room-journals w.owners v.owners more)) none;
}
