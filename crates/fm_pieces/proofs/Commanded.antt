-- A file command changes nothing of what a Finish makes of the paths of its transaction.
use Rattle.std.proofs.Common.{◌≡◌, ℕ, Bool, true, false, cond, ◌&&◌, ◌||◌, List, bytes_eq, Option, Some, None, is_some, refl, sym, ap, subst, ◌∙◌}
use Rattle.std.proofs.lemmas.Bool.{and_from}
use Rattle.std.proofs.lemmas.Slice.Eq.{bytes_eq-Decides}
use Rattle.std.specs.Cmp.Lexicographic.{nat_list_cmp_total}
use Rattle.std.specs.FinMap as maps
use Rattle.std.specs.FinMap.{get-insert, get-remove}
use Rattle.dl_base.specs.declared.answer.FileRefusal.{FileRefusal}
use Rattle.dl_base.specs.declared.answer.FileRefusal.TheVariants as refusals
use Rattle.dl_base.specs.declared.answer.Why.{Why}
use Rattle.dl_base.specs.declared.column.OnUnlink.{OnUnlink}
use Rattle.dl_base.specs.declared.column.OnUnlink.TheVariants as unlink
use Rattle.dl_base.specs.declared.column.ReadBy.{ReadBy}
use Rattle.dl_base.specs.declared.column.ReadBy.TheVariants as read
use Rattle.dl_base.specs.declared.column.WriteBy.{WriteBy}
use Rattle.dl_base.specs.declared.column.WriteBy.TheVariants as write
use Rattle.dl_base.specs.declared.file.File.{File}
use Rattle.dl_base.specs.declared.file.FileChange.{FileChange}
use Rattle.dl_base.specs.declared.file.FileChange.TheVariants as changes
use Rattle.dl_base.specs.declared.file.FileCmd.{FileCmd}
use Rattle.dl_base.specs.declared.file.FileWhat.{FileWhat}
use Rattle.dl_base.specs.declared.file.FileWhat.TheVariants as whats
use Rattle.dl_base.specs.declared.file.Owner.{Owner}
use Rattle.dl_base.specs.declared.value.LinkNo.{LinkNo}
use Rattle.dl_base.specs.declared.value.LinkRow.{LinkRow}
use Rattle.fm_effects.proofs.SortedSites.{path-on}
use Rattle.fm_pieces.specs.Keeping.{AreThere}
use Rattle.fm_pieces.proofs.Carrying.{change_on}
use Rattle.fm_pieces.proofs.Guarded.{give-guards, take-guards}
use Rattle.meaning_areas.specs.Finishing.{change_to}
use Rattle.meaning_areas.specs.Lists.{Folds}
use Rattle.meaning_areas.specs.Same.{same_before, same_file, same_owner, same_truth}
use Rattle.meaning_areas.proofs.FilesLaws.{file-deleted, file-owned, file-renamed, file-there, file-written}
use Rattle.meaning_areas.proofs.Tables.{not_none, some_same, the_some}
use Rattle.meaning_files.specs.Commands.{command_changes, if_exists, if_forbidden, needs_file, new_file, not_owner}
use Rattle.meaning_files.specs.Files.{Files, with_changes}
use Rattle.meaning_history.specs.Sound.{AreSound}
use Rattle.meaning_history.proofs.Claims.{gives-has, on-in}
use Rattle.meaning_history.proofs.Premises.{have-rows}
use Rattle.meaning_merge.specs.Touching.{In}
use Rattle.meaning_settling.specs.Apart.{has_path}
use Rattle.meaning_settling.specs.Keyed.{is_at}
use Rattle.meaning_settling.specs.Settling.{by_links, copies_after, given_back, on, original_of, restored, taken_over}
use Rattle.meaning_settling.proofs.KeyedLaws.{is_at-same, is_at-self}
use Rattle.meaning_tables.specs.OptionRows.{is_blocked, is_row}
use Rattle.meaning_system.specs.Commands.{command_refusal, forbidding, forbids}
use Rattle.meaning_system.specs.Machine.{by_refusal}
use Rattle.meaning_system.specs.State.{State, Txn, has_links, is_active, kept_in, moved_of}
use Rattle.meaning_system.proofs.Commanding.{command-unharmed}
use Rattle.meaning_system.proofs.Records.{command-taken}

false_true : false ≡ true → ⊥
false_true e = cc

-- OPTIONS OF THE SEVEN ROWS

no-admin : (r : ReadBy) (b : Bool) (u : OnUnlink) → is_row r write.Admin b u ≡ true → ⊥
no-admin read.Fs false unlink.Nothing e = false_true e
no-admin read.Fs false unlink.Restore e = false_true e
no-admin read.Fs false unlink.Delete e = false_true e
no-admin read.Fs true unlink.Nothing e = false_true e
no-admin read.Fs true unlink.Restore e = false_true e
no-admin read.Fs true unlink.Delete e = false_true e
no-admin read.Db false unlink.Nothing e = false_true e
no-admin read.Db false unlink.Restore e = false_true e
no-admin read.Db false unlink.Delete e = false_true e
no-admin read.Db true unlink.Nothing e = false_true e
no-admin read.Db true unlink.Restore e = false_true e
no-admin read.Db true unlink.Delete e = false_true e

-- who may write under a link has no RECOVERY, and nothing comes of the file when it is given
free-row : (r : ReadBy) (b : Bool) (u : OnUnlink) → is_row r write.Fs b u ≡ true → (b ≡ false) × (u ≡ unlink.Nothing)
free-row read.Fs false unlink.Nothing e = (refl, refl)
free-row read.Fs false unlink.Restore e = absurd (false_true e)
free-row read.Fs false unlink.Delete e = absurd (false_true e)
free-row read.Fs true unlink.Nothing e = absurd (false_true e)
free-row read.Fs true unlink.Restore e = absurd (false_true e)
free-row read.Fs true unlink.Delete e = absurd (false_true e)
free-row read.Db false unlink.Nothing e = absurd (false_true e)
free-row read.Db false unlink.Restore e = absurd (false_true e)
free-row read.Db false unlink.Delete e = absurd (false_true e)
free-row read.Db true unlink.Nothing e = absurd (false_true e)
free-row read.Db true unlink.Restore e = absurd (false_true e)
free-row read.Db true unlink.Delete e = absurd (false_true e)

recovery-blocks : (r : ReadBy) (w : WriteBy) (b : Bool) (u : OnUnlink) → is_row r w b u ≡ true → b ≡ true → is_blocked w ≡ true
recovery-blocks r write.Fs b u row recovers = absurd (false_true (sym (free-row r b u row).0 ∙ recovers))
recovery-blocks r write.Blocked b u row recovers = refl
recovery-blocks r write.Admin b u row recovers = absurd (no-admin r b u row)

-- WHAT A FINISH CHANGES of a file that was there

truth-self : (b : Bool) → same_truth b b ≡ true
truth-self true = refl
truth-self false = refl

bytes-self : (bs : List ℕ) → bytes_eq bs bs ≡ true
bytes-self bs = (bytes_eq-Decides bs bs).1 refl

owner-self : (o : Owner) → same_owner o o ≡ true
owner-self o = and_from (bytes_eq o.name o.name) (same_truth o.writable o.writable) (bytes-self o.name) (truth-self o.writable)

before-self : (o : Option Owner) → same_before o o ≡ true
before-self None = refl
before-self (Some o) = owner-self o

and-false : (b : Bool) → (b && false) ≡ false
and-false true = refl
and-false false = refl

unchanged : (p : List ℕ) (f : File) → change_to p (Some f) (Some f) ≡ None
unchanged p f = ap (λ b. cond b None (cond (bytes_eq f.bytes f.bytes) (Some (changes.Kept p f.owner f.before)) (Some (changes.Put (record { path = p; file = f })))))
    (and_from (same_owner f.owner f.owner && bytes_eq f.bytes f.bytes) (same_before f.before f.before)
    (and_from (same_owner f.owner f.owner) (bytes_eq f.bytes f.bytes) (owner-self f.owner) (bytes-self f.bytes)) (before-self f.before))

-- a file that had an owner before has it again
abbrev given_owner : List ℕ → Option Owner → Option FileChange
given_owner p None = None
given_owner p (Some o) = Some (changes.Kept p o None)

restored-change : (p : List ℕ) (f : File) → change_to p (Some f) (restored (Some f)) ≡ given_owner p f.before
restored-change p f = by f.before refl
  where
    by : (o : Option Owner) → f.before ≡ o
        → cond (same_file f (record { owner = original_of o f.owner; bytes = f.bytes; before = None })) None (cond (bytes_eq f.bytes f.bytes) (Some (changes.Kept p (original_of o f.owner) None)) (Some (changes.Put (record { path = p; file = record { owner = original_of o f.owner; bytes = f.bytes; before = None } }))))
        ≡ given_owner p o
    by None is = ap (λ b. cond b None (cond (bytes_eq f.bytes f.bytes) (Some (changes.Kept p f.owner None)) (Some (changes.Put (record { path = p; file = record { owner = f.owner; bytes = f.bytes; before = None } })))))
        (and_from (same_owner f.owner f.owner && bytes_eq f.bytes f.bytes) (same_before f.before None)
        (and_from (same_owner f.owner f.owner) (bytes_eq f.bytes f.bytes) (owner-self f.owner) (bytes-self f.bytes)) (ap (λ (x : Option Owner). same_before x None) is))
    by (Some o) is =
        ap (λ b. cond b None (cond (bytes_eq f.bytes f.bytes) (Some (changes.Kept p o None)) (Some (changes.Put (record { path = p; file = record { owner = o; bytes = f.bytes; before = None } })))))
        (ap (λ (x : Option Owner). same_owner f.owner o && bytes_eq f.bytes f.bytes && same_before x None) is ∙ and-false (same_owner f.owner o && bytes_eq f.bytes f.bytes))
        ∙ ap (λ b. cond b (Some (changes.Kept p o None)) (Some (changes.Put (record { path = p; file = record { owner = o; bytes = f.bytes; before = None } })))) (bytes-self f.bytes)

-- of two files with the same owner before it changes the same, where who may write is not asked for more
module _ (p : List ℕ) (x y : File) (before : y.before ≡ x.before) where
  take-same : (r : ReadBy) (w : WriteBy) (b : Bool) (u : OnUnlink) → is_row r w b u ≡ true → (is_blocked w ≡ true → y ≡ x) → change_to p (Some x) (taken_over w r (Some x)) ≡ change_to p (Some y) (taken_over w r (Some y))
  take-same r write.Fs b u row same = restored-change p x ∙ ap (given_owner p) (sym before) ∙ sym (restored-change p y)
  take-same r write.Blocked b u row same = ap (λ (z : File). change_to p (Some z) (taken_over write.Blocked r (Some z))) (sym (same refl))
  take-same r write.Admin b u row same = absurd (no-admin r b u row)

  give-same : (r : ReadBy) (w : WriteBy) (b : Bool) (u : OnUnlink) → is_row r w b u ≡ true → (is_blocked w ≡ true → y ≡ x) → change_to p (Some x) (given_back u (Some x)) ≡ change_to p (Some y) (given_back u (Some y))
  give-same r write.Fs b u row same =
      let is : u ≡ unlink.Nothing = (free-row r b u row).1 in
      ap (λ (v : OnUnlink). change_to p (Some x) (given_back v (Some x))) is ∙ unchanged p x ∙ sym (unchanged p y) ∙ sym (ap (λ (v : OnUnlink). change_to p (Some y) (given_back v (Some y))) is)
  give-same r write.Blocked b u row same = ap (λ (z : File). change_to p (Some z) (given_back u (Some z))) (sym (same refl))
  give-same r write.Admin b u row same = absurd (no-admin r b u row)

-- AN ACCEPTED COMMAND leaves the owner that a file had before

abbrev KeepBefore : Files → Files → Type 0
KeepBefore files later = (p : List ℕ) (x y : File) → maps.get files p ≡ Some x → maps.get later p ≡ Some y → y.before ≡ x.before

same-keep : (files : Files) → KeepBefore files files
same-keep files p x y at now = ap (λ (f : File). f.before) (some_same y x (sym now ∙ at))

module _ (files : Files) (path : List ℕ) where
  put-keep : (f after : File) → maps.get files path ≡ Some f → after.before ≡ f.before → KeepBefore files (maps.insert files path after)
  put-keep f after there same p x y at now = by (is_at p path) refl (sym (get-insert nat_list_cmp_total files path after p) ∙ now)
    where
      by : (b : Bool) → is_at p path ≡ b → cond b (Some after) (maps.get files p) ≡ Some y → y.before ≡ x.before
      by true here is =
          ap (λ (g : File). g.before) (sym (some_same after y is)) ∙ same
          ∙ ap (λ (g : File). g.before) (some_same f x (sym there ∙ ap (maps.get files) (sym (is_at-same p path here)) ∙ at))
      by false other is = same-keep files p x y at is

  made-keep : (after : File) → maps.get files path ≡ None → KeepBefore files (maps.insert files path after)
  made-keep after none p x y at now = by (is_at p path) refl (sym (get-insert nat_list_cmp_total files path after p) ∙ now)
    where
      by : (b : Bool) → is_at p path ≡ b → cond b (Some after) (maps.get files p) ≡ Some y → y.before ≡ x.before
      by true here is = absurd (not_none x (maps.get files p) at (ap (maps.get files) (is_at-same p path here) ∙ none))
      by false other is = same-keep files p x y at is

  gone-keep : KeepBefore files (maps.remove files path)
  gone-keep p x y at now = by (is_at p path) (sym (get-remove nat_list_cmp_total files path p) ∙ now)
    where
      by : (b : Bool) → cond b None (maps.get files p) ≡ Some y → y.before ≡ x.before
      by true is = absurd cc
      by false is = same-keep files p x y at is

  moved-keep : (to : List ℕ) (f : File) → maps.get files to ≡ None → KeepBefore files (maps.insert (maps.remove files path) to f)
  moved-keep to f none p x y at now = by (is_at p to) refl (sym (get-insert nat_list_cmp_total (maps.remove files path) to f p) ∙ now)
    where
      by : (b : Bool) → is_at p to ≡ b → cond b (Some f) (maps.get (maps.remove files path) p) ≡ Some y → y.before ≡ x.before
      by true here is = absurd (not_none x (maps.get files p) at (ap (maps.get files) (is_at-same p to here) ∙ none))
      by false other is = gone-keep p x y at is

-- what it passed

needs-later : (path : List ℕ) (o : Option File) (later : File → Option FileRefusal) (f : File) → o ≡ Some f → needs_file path o later ≡ None → later f ≡ None
needs-later path o later f at e = sym (ap (λ (x : Option File). needs_file path x later) at) ∙ e

forbidden-later : (path : List ℕ) (o : Option (LinkNo × Why)) (later : Option FileRefusal) → if_forbidden path o later ≡ None → later ≡ None
forbidden-later path None later e = e
forbidden-later path (Some l) later e = absurd cc

owner-later : (user path : List ℕ) (f : File) (later : Option FileRefusal) → not_owner user path f later ≡ None → later ≡ None
owner-later user path f later e = by (bytes_eq f.owner.name user) e
  where
    by : (b : Bool) → cond b later (Some (refusals.NotOwner path f.owner.name)) ≡ None → later ≡ None
    by true is = is
    by false is = absurd cc

not-there : (path : List ℕ) (o : Option File) (later : Option FileRefusal) → if_exists path o later ≡ None → o ≡ None
not-there path None later e = refl
not-there path (Some f) later e = absurd cc

command-keep : (s : State) (user : List ℕ) (what : FileWhat) (files : Files) → command_refusal s user what ≡ None → with_changes s.files (command_changes s.files user what) ≡ Some files → KeepBefore s.files files
command-keep s user (whats.Create path bytes) files e is = subst (KeepBefore s.files) (some_same _ files is) (made-keep s.files path (new_file user bytes) (not-there path (maps.get s.files path) _ e))
command-keep s user (whats.Write path bytes) files e is =
    let f = file-there path (maps.get s.files path) _ e in
    subst (KeepBefore s.files) (some_same _ files (sym (file-written s.files user path f.0 f.1 bytes) ∙ is)) (put-keep s.files path f.0 (record { owner = f.0.owner; bytes = bytes; before = f.0.before }) f.1 refl)
command-keep s user (whats.Delete path) files e is =
    let f = file-there path (maps.get s.files path) _ e in
    subst (KeepBefore s.files) (some_same _ files (sym (file-deleted s.files user path f.0 f.1) ∙ is)) (gone-keep s.files path)
command-keep s user (whats.Rename path to) files e is =
    let f = file-there path (maps.get s.files path) _ e in
    let free = not-there to (maps.get s.files to) None (owner-later user path f.0 _ (forbidden-later path (forbids s (whats.Rename path to)) _ (needs-later path (maps.get s.files path) _ f.0 f.1 e))) in
    subst (KeepBefore s.files) (some_same _ files (sym (file-renamed s.files user path f.0 f.1 to) ∙ is)) (moved-keep s.files path to f.0 free)
command-keep s user (whats.Chmod path on) files e is =
    let f = file-there path (maps.get s.files path) _ e in
    subst (KeepBefore s.files) (some_same _ files (sym (file-owned s.files user path f.0 f.1 on) ∙ is)) (put-keep s.files path f.0 (record { owner = record { name = f.0.owner.name; writable = on }; bytes = f.0.bytes; before = f.0.before }) f.1 refl)
command-keep s user (whats.Read path token) files e is = subst (KeepBefore s.files) (some_same s.files files is) (same-keep s.files)
command-keep s user whats.List files e is = subst (KeepBefore s.files) (some_same s.files files is) (same-keep s.files)

-- BEHIND IT a path of a prepared or decided transaction has a file, which is the same where one of its links there forbids writing

record IsBehind (s : State) (files : Files) (p : List ℕ) (w : WriteBy) : Type 0 where
  file : File
  later : File
  was : maps.get s.files p ≡ Some file
  now : maps.get files p ≡ Some later
  before : later.before ≡ file.before
  same : is_blocked w ≡ true → later ≡ file

module _ (first : ℕ) (f : Folds) (s : State) (sound : AreSound first f s) (tx : ℕ) (t : Txn) (at : maps.get s.txs tx ≡ Some t) (rests : is_active t.phase ≡ false) (has : has_links (moved_of t) ≡ true)
    (there : AreThere s.files (moved_of t)) (cmd : FileCmd) (accepted : command_refusal s cmd.user cmd.what ≡ None) where
  file-behind : (p : List ℕ) → has_path (moved_of t) p ≡ true → (l : LinkRow) → In l (forbidding s p) → IsBehind s (by_refusal s cmd None).1.files p l.options.write
  file-behind p mine l among =
      let x = the_some (maps.get s.files p) (there p mine) in
      let two = command-unharmed s cmd.user cmd.what (by_refusal s cmd None).1.files accepted (command-taken s cmd accepted) p l among x.0 x.1 in
      let y = the_some (maps.get (by_refusal s cmd None).1.files p) two.0 in
      record {
        file = x.0;
        later = y.0;
        was = x.1;
        now = y.1;
        before = command-keep s cmd.user cmd.what (by_refusal s cmd None).1.files accepted (command-taken s cmd accepted) p x.0 y.0 x.1 y.1;
        same = λ blocks. some_same y.0 x.0 (sym y.1 ∙ two.1 blocks);
      }

  take-behind : (p : List ℕ) → has_path (moved_of t) p ≡ true → (l : LinkRow) → on (moved_of t).takes p ≡ Some l
      → (is_some (maps.get (by_refusal s cmd None).1.files p) ≡ true) × (change_on t (kept_in s) p ≡ change_on t (kept_in (by_refusal s cmd None).1) p)
  take-behind p mine l at_p =
      let among = take-guards first f s sound tx t at rests has p l at_p in
      let it = file-behind p mine l among in (
        ap is_some it.now,
        (λ i. change_to p (it.was i) (by_links false (copies_after (moved_of t) (kept_in s)) (on (moved_of t).gives p) (at_p i) (it.was i)))
            ∙ take-same p it.file it.later it.before l.options.read l.options.write l.options.recovery l.options.unlink (have-rows first s sound.history p l among) it.same
            ∙ sym (λ i. change_to p (it.now i) (by_links false (copies_after (moved_of t) (kept_in (by_refusal s cmd None).1)) (on (moved_of t).gives p) (at_p i) (it.now i))),
      )

  give-behind : (p : List ℕ) → has_path (moved_of t) p ≡ true → (g : LinkRow) → on (moved_of t).gives p ≡ Some g → on (moved_of t).takes p ≡ None
      → (is_some (maps.get (by_refusal s cmd None).1.files p) ≡ true) × (change_on t (kept_in s) p ≡ change_on t (kept_in (by_refusal s cmd None).1) p)
  give-behind p mine g at_p none_p =
      let is = on-in (moved_of t).gives p g at_p in
      let among = give-guards first f s sound tx t at rests has p g is.0 (ap (λ (q : List ℕ). is_at q g.path) is.1 ∙ is_at-self g.path) in
      let it = file-behind p mine g among in (
        ap is_some it.now,
        (λ i. change_to p (it.was i) (by_links false (copies_after (moved_of t) (kept_in s)) (at_p i) (none_p i) (it.was i)))
            ∙ give-same p it.file it.later it.before g.options.read g.options.write g.options.recovery g.options.unlink (have-rows first s sound.history p g among) it.same
            ∙ sym (λ i. change_to p (it.now i) (by_links false (copies_after (moved_of t) (kept_in (by_refusal s cmd None).1)) (at_p i) (none_p i) (it.now i))),
      )

  path-behind : (p : List ℕ) → has_path (moved_of t) p ≡ true
      → (is_some (maps.get (by_refusal s cmd None).1.files p) ≡ true) × (change_on t (kept_in s) p ≡ change_on t (kept_in (by_refusal s cmd None).1) p)
  path-behind p mine = by (on (moved_of t).gives p) (on (moved_of t).takes p) refl refl
    where
      by : (g x : Option LinkRow) → on (moved_of t).gives p ≡ g → on (moved_of t).takes p ≡ x
          → (is_some (maps.get (by_refusal s cmd None).1.files p) ≡ true) × (change_on t (kept_in s) p ≡ change_on t (kept_in (by_refusal s cmd None).1) p)
      by g (Some x) is_g is_x = take-behind p mine x is_x
      by (Some g) None is_g is_x = give-behind p mine g is_g is_x
      by None None is_g is_x = absurd (false_true (sym (λ i. is_some (is_g i) || is_some (is_x i)) ∙ sym (path-on (moved_of t) p) ∙ mine))

  pub files-there : AreThere (by_refusal s cmd None).1.files (moved_of t)
  files-there p mine = (path-behind p mine).0

  pub changes-same : (p : List ℕ) → has_path (moved_of t) p ≡ true → change_on t (kept_in s) p ≡ change_on t (kept_in (by_refusal s cmd None).1) p
  changes-same p mine = (path-behind p mine).1

  -- a link with RECOVERY YES has its file
  pub recovered-same : (g : LinkRow) → In g (moved_of t).gives → g.options.recovery ≡ true → maps.get (by_refusal s cmd None).1.files g.path ≡ maps.get s.files g.path
  recovered-same g is recovers =
      let among = give-guards first f s sound tx t at rests has g.path g is (is_at-self g.path) in
      let it = file-behind g.path (gives-has (moved_of t) g is) g among in
      it.now ∙ ap (λ (x : File). Some x) (it.same (recovery-blocks g.options.read g.options.write g.options.recovery g.options.unlink (have-rows first s sound.history g.path g among) recovers)) ∙ sym it.was
