-- A CALL OF THE MANAGER: what a crash leaves at each moment, and what is there once it is done.
use Rattle.std.proofs.Common.{◌≡◌, ◌≢◌, ℕ, ◌<◌, ◌^◌, List, [], ◌∷◌, ◌++◌, Option, Some, None, is_some, true, refl, sym, ap, subst}
use Rattle.dl_areas.proofs.Found.{prefix-first}
use Rattle.dl_areas.specs.Lists.{HasLists, Journals, Lists, Write, puts}
use Rattle.dl_areas.specs.Writing.{Does, Ends, LeavesPrefix, fitting}
use Rattle.dl_base.proofs.Moments.{moments_more, since_begin}
use Rattle.dl_base.specs.Outside.{AtEveryMoment, CrashState, IsLawful, Now, Outside}
use Rattle.dl_base.specs.declared.area.Area.{Area}
use Rattle.dl_base.specs.declared.area.Area.TheVariants as areas
use Rattle.dl_base.specs.declared.fault.AppendFault.{AppendFault}
use Rattle.dl_base.specs.declared.fault.AppendFault.TheVariants as appends
use Rattle.dl_base.specs.declared.fault.Full.{Full}
use Rattle.dl_base.specs.declared.fault.StepFault.{StepFault}
use Rattle.dl_base.specs.declared.fault.StepFault.TheVariants as steps
use Rattle.dl_base.specs.declared.file.FileChange.{FileChange}
use Rattle.dl_codec.specs.Layout.{u64}
use Rattle.dl_codec.specs.Links.{links_record}
use Rattle.dl_codec.specs.declared.links.BranchPhase.{BranchPhase}
use Rattle.dl_codec.specs.declared.links.BranchPhase.TheVariants as phases
use Rattle.dl_codec.specs.declared.links.LinksRecord.TheVariants as links_records
use Rattle.fm_manager.specs.Managed.{AreSpelled, FoldsTo, Managed, as_writes, folds_with, with_managed}
use Rattle.fm_manager.specs.Pieces.{AreOf, Pieces, copies_written, manager_part, settling_part}
use Rattle.meaning_areas.specs.Commits.{Commits}
use Rattle.meaning_areas.specs.Copies.{Backup}
use Rattle.meaning_areas.specs.Finishing.{batch_changes, batch_of, committed_record, copy_records}
use Rattle.meaning_areas.specs.Lists.{Folds, Written, folds_on, in_links}
use Rattle.meaning_opening.proofs.Plain.{the_some}
use Rattle.meaning_settling.specs.Settling.{Kept, Moved}
use Rattle.sys_opening.proofs.Spelling.{all-spelled, fitting-front, spelled-have}
use Rattle.sys_opening.specs.Halting.{HaveSpellings}
use Rattle.sys_owners.proofs.InARow.{taken-first}
use Rattle.sys_owners.specs.Owned.{AreFolded}
use Rattle.sys_reopening.proofs.Finding.{left-told}
use Rattle.sys_reopening.specs.Managing.{LeadsOn, LeavesLed, StandsOver}

-- records that have a spelling are read again, as it is promised
abbrev pub MoreFolded : Type 0
MoreFolded = (lists : Lists) (f later : Folds) (xs : List Written) → AreFolded lists f → folds_on (Some f) xs ≡ Some later → AreSpelled xs → AreFolded (puts (as_writes xs) lists) later

-- its own journals in their places
own-places : (n : Managed) (js : Journals) (a : Area) → with_managed n (with_managed n js) a ≡ with_managed n js a
own-places n js areas.Rows = refl
own-places n js areas.Links = refl
own-places n js areas.Files = refl
own-places n js areas.Archive = refl
own-places n js areas.Backups = refl

no-front : (front rest : List Written) → front ++ rest ≡ [] → front ≡ []
no-front [] rest is = refl
no-front (x ∷ front) rest is = absurd (nothing x (front ++ rest) is)
  where
    nothing : (y : Written) (ys : List Written) → y ∷ ys ≡ [] → ⊥
    nothing y ys e = cc

-- THE FIRST OF THE RECORDS
module _ (more : MoreFolded) (lists : Lists) (f : Folds) (xs : List Written) (js : Journals) (o : Outside) (folded : AreFolded lists f) where
  pub front-of : is_some (folds_on (Some f) xs) ≡ true → HaveSpellings xs → (p : CrashState) → LeavesPrefix lists (fitting js (as_writes xs)) o p → LeavesLed lists f xs o p
  front-of taken have p left =
      let first = fitting-front xs js have left.prefix left.rest left.parts in
      let later = the_some (folds_on (Some f) first.front) (taken-first f first.front first.rest (subst (λ (ys : List Written). is_some (folds_on (Some f) ys) ≡ true) (sym first.parts) taken)) in
      let has = subst (λ (ws : List Write). HasLists (puts ws lists) p) (sym first.same) left.has in
      let are = more lists f later.0 first.front folded later.1 first.spelled in
      record {
        told = left.told;
        front = first.front;
        rest = first.rest;
        parts = first.parts;
        has = has;
        later = later.0;
        leads = later.1;
        folded = are;
        reads = left-told (puts (as_writes first.front) lists) later.0 p are has;
      }

-- none of them is one of their fronts
pub front-none : (lists : Lists) (f : Folds) (xs : List Written) (o : Outside) (p : CrashState) → LeavesLed lists f [] o p → LeavesLed lists f xs o p
front-none lists f xs o p i = record {
  told = i.told;
  front = i.front;
  rest = xs;
  parts = ap (λ (ys : List Written). ys ++ xs) (no-front i.front i.rest i.parts);
  has = i.has;
  later = i.later;
  leads = i.leads;
  folded = i.folded;
  reads = i.reads;
}

-- faults of steps

some-fault : (fault : StepFault) → ◌≡◌ {A = Option StepFault} (Some fault) None → ⊥
some-fault fault e = cc

no-memory : ◌≡◌ {A = Option StepFault} None (Some steps.Memory) → ⊥
no-memory e = cc

device-memory : ◌≡◌ {A = Option StepFault} (Some steps.Device) (Some steps.Memory) → ⊥
device-memory e = cc

full-memory : (full : Full) → ◌≡◌ {A = Option StepFault} (Some (steps.Full full)) (Some steps.Memory) → ⊥
full-memory full e = cc

-- A CALL
module _ (more : MoreFolded) (lists : Lists) (rows : Commits) (backups : List Backup) (js : Journals) (m : Managed) (o e : Outside) (over : StandsOver lists rows backups js m o) where
  abbrev f : Folds
  f = folds_with rows backups m

  module _ (n : Managed) (xs : List Written) (taken : is_some (folds_on (Some (folds_with rows backups m)) xs) ≡ true) where
    pub does-moments : (fault : Option AppendFault) → HaveSpellings xs → Does js (with_managed n js) (as_writes xs) fault o e → AtEveryMoment (LeavesLed lists (folds_with rows backups m) xs o) o e
    does-moments fault have does =
        moments_more (LeavesPrefix lists (fitting js (as_writes xs)) o) (LeavesLed lists f xs o) o e (front-of more lists f xs js o over.folded taken have) (does.images lists over.kept)

    pub does-done : HaveSpellings xs → FoldsTo m n xs → Does js (with_managed n js) (as_writes xs) None o e → StandsOver (puts (as_writes xs) lists) rows backups (with_managed n js) n e
    does-done have folds does = record {
      folded = more lists f (folds_with rows backups n) xs over.folded (folds rows backups) (all-spelled xs js (does.fits refl) have);
      its = λ i. λ a. own-places n js a i;
      ready = does.ready refl over.ready;
      kept = does.done refl lists over.kept;
    }

    pub does-lead : (fault : Option AppendFault) → HaveSpellings xs → (fault ≡ None → FoldsTo m n xs) → Does js (with_managed n js) (as_writes xs) fault o e → LeadsOn lists rows backups js m n xs (fault ≡ None) o e
    does-lead fault have folds does = record {
      moments = does-moments fault have does;
      done = λ none. does-done have (folds none) (subst (λ (g : Option AppendFault). Does js (with_managed n js) (as_writes xs) g o e) none does);
    }

    -- one that took no memory wrote none
    memory-moments : Does js (with_managed n js) [] None o e → AtEveryMoment (LeavesLed lists (folds_with rows backups m) xs o) o e
    memory-moments does =
        moments_more (LeavesPrefix lists (fitting js []) o) (LeavesLed lists f xs o) o e (λ p left. front-none lists f xs o p (front-of more lists f [] js o over.folded refl tt p left)) (does.images lists over.kept)

    pub ends-lead : (fault : Option StepFault) → (fault ≢ Some steps.Memory → HaveSpellings xs) → (fault ≡ None → FoldsTo m n xs) → Ends js (with_managed n js) (as_writes xs) fault o e → LeadsOn lists rows backups js m n xs (fault ≡ None) o e
    ends-lead None have folds does = record { moments = does-moments None (have no-memory) does; done = λ none. does-done (have no-memory) (folds none) does }
    ends-lead (Some steps.Device) have folds does = record { moments = does-moments (Some appends.Device) (have device-memory) does; done = λ none. absurd (some-fault steps.Device none) }
    ends-lead (Some (steps.Full full)) have folds does = record { moments = does-moments (Some (appends.Full full)) (have (full-memory full)) does; done = λ none. absurd (some-fault (steps.Full full) none) }
    ends-lead (Some steps.Memory) have folds does = record { moments = memory-moments does; done = λ none. absurd (some-fault steps.Memory none) }

  -- WHATEVER A CRASH LEAVES since its begin
  pub front-since : (xs : List Written) → IsLawful o → AtEveryMoment (LeavesLed lists (folds_with rows backups m) xs o) o e → (p : CrashState) → e.since o.moment p → LeavesLed lists (folds_with rows backups m) xs o p
  front-since xs lawful moments p left = since_begin (LeavesLed lists f xs o) o e lawful moments first p left
    where
      first : (q : CrashState) → Now o q → LeavesLed lists f xs o q
      first q now = front-none lists f xs o q (front-of more lists f [] js o over.folded refl tt q (prefix-first js lists (fitting js []) o over.ready over.kept q now))

-- WHAT HAS A SPELLING

pub aborted-have : (tx : ℕ) → tx < 2 ^ 64 → HaveSpellings (in_links (links_records.Aborted tx) ∷ [])
unfolding links_record u64
aborted-have tx less = (λ fits. less, tt)

both : (xs ys : List Written) → AreSpelled xs → AreSpelled ys → AreSpelled (xs ++ ys)
both [] ys first second = second
both (x ∷ xs) ys first second = (first.0, both xs ys first.1 second)

behind : (xs ys : List Written) → AreSpelled (xs ++ ys) → AreSpelled ys
behind [] ys all = all
behind (x ∷ xs) ys all = behind xs ys all.1

mark-fits : (tx : ℕ) → links_record.fits (links_records.Done tx) → links_record.fits (links_records.Committed tx)
unfolding links_record
mark-fits tx fits = fits

mark-spelled : (tx : ℕ) (p : BranchPhase) → links_record.fits (links_records.Done tx) → AreSpelled (committed_record tx p)
mark-spelled tx phases.Prepared fits = (mark-fits tx fits, tt)
mark-spelled tx phases.Committed fits = tt
mark-spelled tx phases.Done fits = tt
mark-spelled tx phases.Aborted fits = tt

-- the records of a Finish in the three areas
pub finish-have : (q : Pieces) (moved : Moved) (p : BranchPhase) (k : Kept) → AreOf q moved k → AreSpelled (settling_part q.tx q.copies q.changes) → HaveSpellings (manager_part q.tx p moved k)
finish-have q moved p k of all =
    let done : List Written = in_links (links_records.Done q.tx) ∷ [] in
    let fits : links_record.fits (links_records.Done q.tx) = (behind (batch_of q.tx q.changes) done (behind (copies_written q.copies) (batch_of q.tx q.changes ++ done) all)).0 in
    let settling : AreSpelled (copy_records moved k ++ (batch_of q.tx (batch_changes moved k) ++ done)) =
    subst (λ (cs : List FileChange). AreSpelled (copy_records moved k ++ (batch_of q.tx cs ++ done))) of.changes
    (subst (λ (xs : List Written). AreSpelled (xs ++ (batch_of q.tx q.changes ++ done))) of.copies all) in
    spelled-have (manager_part q.tx p moved k) (both (committed_record q.tx p) (copy_records moved k ++ (batch_of q.tx (batch_changes moved k) ++ done)) (mark-spelled q.tx p fits) settling)
