-- The record of a file command leads to the lists of the state behind it: no command harms a file that a link forbids to harm.
use Rattle.std.proofs.Common.{◌≡◌, ◌⊎◌, inl, inr, ⊎_elim, ℕ, List, [], ◌∷◌, ◌++◌, Bool, true, false, not, cond, ◌==◌, ◌&&◌, bytes_eq, filter, map, Option, Some, None, is_some, refl, sym, ◌∙◌, ap, subst}
use Rattle.std.specs.Cmp.{unsigned_tied}
use Rattle.std.specs.Cmp.Lexicographic.{nat_list_cmp_total}
use Rattle.std.specs.FinMap as maps
use Rattle.std.specs.FinMap.{find as find_key, get-entries, get-insert, get-remove}
use Rattle.std.specs.List.{find, flat_map}
use Rattle.std.specs.Option.{option_map}
use Rattle.std.specs.Ordering.{nat_cmp}
use Rattle.dl_base.specs.declared.answer.Answer.{Answer}
use Rattle.dl_base.specs.declared.answer.FileRefusal.{FileRefusal}
use Rattle.dl_base.specs.declared.answer.FileRefusal.TheVariants as refusals
use Rattle.dl_base.specs.declared.answer.Why.{Why}
use Rattle.dl_base.specs.declared.answer.Why.TheVariants as whys
use Rattle.dl_base.specs.declared.column.OnUnlink.{OnUnlink}
use Rattle.dl_base.specs.declared.column.OnUnlink.TheVariants as unlink
use Rattle.dl_base.specs.declared.column.Options.{Options}
use Rattle.dl_base.specs.declared.column.ReadBy.{ReadBy}
use Rattle.dl_base.specs.declared.column.ReadBy.TheVariants as read
use Rattle.dl_base.specs.declared.column.WriteBy.{WriteBy}
use Rattle.dl_base.specs.declared.column.WriteBy.TheVariants as write
use Rattle.dl_base.specs.declared.file.File.{File}
use Rattle.dl_base.specs.declared.file.FileChange.{FileChange}
use Rattle.dl_base.specs.declared.file.FileCmd.{FileCmd}
use Rattle.dl_base.specs.declared.file.FileWhat.{FileWhat}
use Rattle.dl_base.specs.declared.file.FileWhat.TheVariants as whats
use Rattle.dl_base.specs.declared.step.Step.TheVariants as steps
use Rattle.dl_base.specs.declared.value.LinkRow.{LinkRow}
use Rattle.dl_codec.specs.declared.files.FilesRecord.TheVariants as files_records
use Rattle.meaning_areas.specs.Core.{core_stored}
use Rattle.meaning_areas.specs.Joint.{Joint}
use Rattle.meaning_areas.specs.Lists.{Folds, in_files, with_files}
use Rattle.meaning_areas.specs.Moving.{core_kept_as, with_kept}
use Rattle.meaning_areas.proofs.Equal.{number-same}
use Rattle.meaning_areas.proofs.FilesLaws.{file-deleted, file-owned, file-renamed, file-there, file-written}
use Rattle.meaning_areas.proofs.Refiled.{joint-filed}
use Rattle.meaning_areas.proofs.Tables.{not_none, some_same}
use Rattle.meaning_files.specs.Commands.{bytes_of, command_answer, command_changes, if_exists, if_forbidden, needs_file, new_file, not_owner}
use Rattle.meaning_files.specs.Files.{Files, with_changes}
use Rattle.meaning_merge.specs.Touching.{In}
use Rattle.meaning_settling.specs.Keyed.{is_at}
use Rattle.meaning_settling.specs.Settling.{Copy, Moved, link_key, numbered, on}
use Rattle.meaning_settling.proofs.KeyedLaws.{is_at-same, is_at-self}
use Rattle.meaning_tables.specs.Fits.{differ, fits, rows_fit}
use Rattle.meaning_tables.specs.Links.{links, same_number}
use Rattle.meaning_tables.specs.OptionRows.{forbids_kind, is_blocked, is_option_row, is_row}
use Rattle.meaning_tables.specs.Tables.{Tables}
use Rattle.meaning_tables.specs.declared.option_rows.CommandKind.{CommandKind}
use Rattle.meaning_tables.specs.declared.option_rows.CommandKind.TheVariants as kinds
use Rattle.meaning_system.specs.Commands.{command_refusal, decided_gives, forbidden, forbidding, prepared_takes}
use Rattle.meaning_system.specs.CoreOf.{core_of}
use Rattle.meaning_system.specs.Following.{Follows, HaveRows, Leads}
use Rattle.meaning_system.specs.Machine.{by_refusal, step}
use Rattle.meaning_system.specs.State.{State, Txn, is_decided, moved_of, tables_of}
use Rattle.dl_base.specs.Answers.{is_refused}
use Rattle.meaning_system.specs.Writes.{file_writes, when, writes}
use Rattle.meaning_system.proofs.Archiving.{committed-last, decided-txn, found, one-only, some-found}
use Rattle.meaning_system.proofs.Leading.{stays}
use Rattle.meaning_system.proofs.Records.{command-taken}
use Rattle.meaning_system.proofs.Stepping.{same-self}

false_true : false ≡ true → ⊥
false_true e = cc

-- links of lists

pub in-left : (x : LinkRow) (xs ys : List LinkRow) → In x xs → In x (xs ++ ys)
in-left x [] ys is = absurd is
in-left x (z ∷ zs) ys is = ⊎_elim (λ (e : x ≡ z). inl e) (λ (later : In x zs). inr (in-left x zs ys later)) is

pub in-right : (x : LinkRow) (xs ys : List LinkRow) → In x ys → In x (xs ++ ys)
in-right x [] ys is = is
in-right x (z ∷ zs) ys is = inr (in-right x zs ys is)

pub passes : (test : LinkRow → Bool) (x : LinkRow) (xs : List LinkRow) → In x xs → test x ≡ true → In x (filter test xs)
passes test x [] is e = absurd is
passes test x (z ∷ zs) is e = by (λ later. passes test x zs later e) (test z) refl is
  where
    by : (In x zs → In x (filter test zs)) → (b : Bool) → test z ≡ b → (x ≡ z) ⊎ In x zs → In x (cond b (z ∷ filter test zs) (filter test zs))
    by rest true at here = ⊎_elim (λ (same : x ≡ z). inl same) (λ (later : In x zs). inr (rest later)) here
    by rest false at here = ⊎_elim (λ (same : x ≡ z). absurd (false_true (sym at ∙ ap test (sym same) ∙ e))) (λ (later : In x zs). rest later) here

pub in-entries : (x : LinkRow) (h : ℕ × Txn → List LinkRow) (u : ℕ) (v : Txn) → ((n : ℕ) → h (n, v) ≡ h (u, v)) → (es : List (ℕ × Txn)) → find_key nat_cmp u es ≡ Some v → In x (h (u, v)) → In x (flat_map h es)
in-entries x h u v same [] at is = absurd cc
in-entries x h u v same (e ∷ es) at is = by (λ later. in-entries x h u v same es later is) (u == e.0) (ap (λ b. cond b (Some e.1) (find_key nat_cmp u es)) (sym (unsigned_tied u e.0)) ∙ at)
  where
    by : (find_key nat_cmp u es ≡ Some v → In x (flat_map h es)) → (b : Bool) → cond b (Some e.1) (find_key nat_cmp u es) ≡ Some v → In x (h e ++ flat_map h es)
    by rest true here =
        let it : h e ≡ h (u, v) = ap (λ (t : Txn). h (e.0, t)) (some_same e.1 v here) ∙ same e.0 in
        in-left x (h e) (flat_map h es) (subst (λ (ls : List LinkRow). In x ls) (sym it) is)
    by rest false here = in-right x (h e) (flat_map h es) (rest here)

no-other : (test : LinkRow → Bool) (ls : List LinkRow) (l : LinkRow) → find test ls ≡ None → In l ls → test l ≡ false
no-other test ls l none is = by (test l) refl
  where
    by : (b : Bool) → test l ≡ b → test l ≡ false
    by true e = let it = some-found test ls l is e in absurd (not_none it.0 (find test ls) it.1 none)
    by false e = e

-- the links that forbid

committed-forbids : (s : State) (p : List ℕ) (l : LinkRow) → on (links (tables_of s)) p ≡ Some l → In l (forbidding s p)
committed-forbids s p l at =
    let it = found (λ (x : LinkRow). is_at p x.path) (links (tables_of s)) l at in
    passes (λ (x : LinkRow). is_at p x.path) l (links (tables_of s) ++ flat_map prepared_takes (maps.entries s.txs) ++ flat_map decided_gives (maps.entries s.txs))
    (in-left l (links (tables_of s) ++ flat_map prepared_takes (maps.entries s.txs)) (flat_map decided_gives (maps.entries s.txs)) (in-left l (links (tables_of s)) (flat_map prepared_takes (maps.entries s.txs)) it.1)) it.0

given-forbids : (s : State) (q : ℕ) (t : Txn) (g : LinkRow) → maps.get s.txs q ≡ Some t → is_decided t.phase ≡ true → In g (moved_of t).gives → In g (forbidding s g.path)
given-forbids s q t g at is among =
    let here : In g (decided_gives (q, t)) = subst (λ (b : Bool). In g (cond b (moved_of t).gives [])) (sym is) among in
    passes (λ (x : LinkRow). is_at g.path x.path) g (links (tables_of s) ++ flat_map prepared_takes (maps.entries s.txs) ++ flat_map decided_gives (maps.entries s.txs))
    (in-right g (links (tables_of s) ++ flat_map prepared_takes (maps.entries s.txs)) (flat_map decided_gives (maps.entries s.txs))
    (in-entries g decided_gives q t (λ n. refl) (maps.entries s.txs) (sym (get-entries s.txs q) ∙ at) here)) (is_at-self g.path)

-- of the seven rows those with RECOVERY YES have WRITE BLOCKED

rows-block : (r : ReadBy) (w : WriteBy) (u : OnUnlink) → is_row r w true u ≡ true → is_blocked w ≡ true
rows-block r write.Blocked u e = refl
rows-block read.Fs write.Fs unlink.Nothing e = absurd (false_true e)
rows-block read.Fs write.Fs unlink.Restore e = absurd (false_true e)
rows-block read.Fs write.Fs unlink.Delete e = absurd (false_true e)
rows-block read.Db write.Fs unlink.Nothing e = absurd (false_true e)
rows-block read.Db write.Fs unlink.Restore e = absurd (false_true e)
rows-block read.Db write.Fs unlink.Delete e = absurd (false_true e)
rows-block read.Fs write.Admin unlink.Nothing e = absurd (false_true e)
rows-block read.Fs write.Admin unlink.Restore e = absurd (false_true e)
rows-block read.Fs write.Admin unlink.Delete e = absurd (false_true e)
rows-block read.Db write.Admin unlink.Nothing e = absurd (false_true e)
rows-block read.Db write.Admin unlink.Restore e = absurd (false_true e)
rows-block read.Db write.Admin unlink.Delete e = absurd (false_true e)

recovery-blocks : (o : Options) → is_option_row o ≡ true → o.recovery ≡ true → is_blocked o.write ≡ true
recovery-blocks o row r = rows-block o.read o.write o.unlink (ap (λ b. is_row o.read o.write b o.unlink) (sym r) ∙ row)

-- what an accepted command passed

forbids-none : (s : State) (path : List ℕ) (kind : CommandKind) (why : Why) (later : Option FileRefusal) → if_forbidden path (forbidden s path kind why) later ≡ None → (find (λ l. forbids_kind l.options kind) (forbidding s path) ≡ None) × (later ≡ None)
forbids-none s path kind why later e = by (find (λ (l : LinkRow). forbids_kind l.options kind) (forbidding s path)) refl e
  where
    by : (o : Option LinkRow) → find (λ (l : LinkRow). forbids_kind l.options kind) (forbidding s path) ≡ o → if_forbidden path (option_map (λ (l : LinkRow). (l.link, why)) o) later ≡ None
        → (find (λ (l : LinkRow). forbids_kind l.options kind) (forbidding s path) ≡ None) × (later ≡ None)
    by None at is = (at, is)
    by (Some l) at is = absurd cc

needs-later : (path : List ℕ) (o : Option File) (later : File → Option FileRefusal) (f : File) → o ≡ Some f → needs_file path o later ≡ None → later f ≡ None
needs-later path o later f at e = sym (ap (λ (x : Option File). needs_file path x later) at) ∙ e

owner-later : (user path : List ℕ) (f : File) (later : Option FileRefusal) → not_owner user path f later ≡ None → later ≡ None
owner-later user path f later e = by (bytes_eq f.owner.name user) e
  where
    by : (b : Bool) → cond b later (Some (refusals.NotOwner path f.owner.name)) ≡ None → later ≡ None
    by true is = is
    by false is = absurd cc

not-there : (path : List ℕ) (o : Option File) (later : Option FileRefusal) → if_exists path o later ≡ None → o ≡ None
not-there path None later e = refl
not-there path (Some f) later e = absurd cc

-- NO FILE IS HARMED under a link: it is there still, and where the link forbids writing it is the same
abbrev Unharmed : State → Files → Type 0
Unharmed s files = (p : List ℕ) (l : LinkRow) → In l (forbidding s p) → (x : File) → maps.get s.files p ≡ Some x → (is_some (maps.get files p) ≡ true) × (is_blocked l.options.write ≡ true → maps.get files p ≡ Some x)

module _ (s : State) (user path : List ℕ) where
  -- a file put where a link does not forbid writing
  put-unharmed : (after : File) → ((l : LinkRow) → In l (forbidding s path) → is_blocked l.options.write ≡ false) → Unharmed s (maps.insert s.files path after)
  put-unharmed after free p l is x at = by (is_at p path) refl
    where
      got : maps.get (maps.insert s.files path after) p ≡ cond (is_at p path) (Some after) (maps.get s.files p)
      got = get-insert nat_list_cmp_total s.files path after p

      by : (b : Bool) → is_at p path ≡ b → (is_some (maps.get (maps.insert s.files path after) p) ≡ true) × (is_blocked l.options.write ≡ true → maps.get (maps.insert s.files path after) p ≡ Some x)
      by true here = (
        ap is_some (got ∙ ap (λ b. cond b (Some after) (maps.get s.files p)) here),
        λ blocks. absurd (false_true (sym (free l (subst (λ (q : List ℕ). In l (forbidding s q)) (is_at-same p path here) is)) ∙ blocks)),
      )
      by false there = let same = got ∙ ap (λ b. cond b (Some after) (maps.get s.files p)) there ∙ at in (ap is_some same, λ blocks. same)

  -- a file put where there was none
  made-unharmed : (after : File) → maps.get s.files path ≡ None → Unharmed s (maps.insert s.files path after)
  made-unharmed after none p l is x at = by (is_at p path) refl
    where
      got : maps.get (maps.insert s.files path after) p ≡ cond (is_at p path) (Some after) (maps.get s.files p)
      got = get-insert nat_list_cmp_total s.files path after p

      by : (b : Bool) → is_at p path ≡ b → (is_some (maps.get (maps.insert s.files path after) p) ≡ true) × (is_blocked l.options.write ≡ true → maps.get (maps.insert s.files path after) p ≡ Some x)
      by true here = absurd (not_none x (maps.get s.files p) at (ap (maps.get s.files) (is_at-same p path here) ∙ none))
      by false there = let same = got ∙ ap (λ b. cond b (Some after) (maps.get s.files p)) there ∙ at in (ap is_some same, λ blocks. same)

  -- a file removed where no link stands
  removed-unharmed : ((l : LinkRow) → In l (forbidding s path) → ⊥) → Unharmed s (maps.remove s.files path)
  removed-unharmed free p l is x at = by (is_at p path) refl
    where
      got : maps.get (maps.remove s.files path) p ≡ cond (is_at p path) None (maps.get s.files p)
      got = get-remove nat_list_cmp_total s.files path p

      by : (b : Bool) → is_at p path ≡ b → (is_some (maps.get (maps.remove s.files path) p) ≡ true) × (is_blocked l.options.write ≡ true → maps.get (maps.remove s.files path) p ≡ Some x)
      by true here = absurd (free l (subst (λ (q : List ℕ). In l (forbidding s q)) (is_at-same p path here) is))
      by false there = let same = got ∙ ap (λ b. cond b None (maps.get s.files p)) there ∙ at in (ap is_some same, λ blocks. same)

  -- and put elsewhere, where there was none
  renamed-unharmed : (to : List ℕ) (f : File) → ((l : LinkRow) → In l (forbidding s path) → ⊥) → maps.get s.files to ≡ None → Unharmed s (maps.insert (maps.remove s.files path) to f)
  renamed-unharmed to f free none p l is x at = by (is_at p to) refl
    where
      got : maps.get (maps.insert (maps.remove s.files path) to f) p ≡ cond (is_at p to) (Some f) (maps.get (maps.remove s.files path) p)
      got = get-insert nat_list_cmp_total (maps.remove s.files path) to f p

      by : (b : Bool) → is_at p to ≡ b → (is_some (maps.get (maps.insert (maps.remove s.files path) to f) p) ≡ true) × (is_blocked l.options.write ≡ true → maps.get (maps.insert (maps.remove s.files path) to f) p ≡ Some x)
      by true here = absurd (not_none x (maps.get s.files p) at (ap (maps.get s.files) (is_at-same p to here) ∙ none))
      by false there =
          let was = removed-unharmed free p l is x at in
          let same = got ∙ ap (λ b. cond b (Some f) (maps.get (maps.remove s.files path) p)) there in
          (ap is_some same ∙ was.0, λ blocks. same ∙ was.1 blocks)

same-unharmed : (s : State) → Unharmed s s.files
same-unharmed s p l is x at = (ap is_some at, λ blocks. at)

-- AN ACCEPTED COMMAND harms none
pub command-unharmed : (s : State) (user : List ℕ) (what : FileWhat) (files : Files) → command_refusal s user what ≡ None → with_changes s.files (command_changes s.files user what) ≡ Some files → Unharmed s files
command-unharmed s user (whats.Create path bytes) files e is = subst (Unharmed s) (some_same _ files is) (made-unharmed s user path (new_file user bytes) (not-there path (maps.get s.files path) _ e))
command-unharmed s user (whats.Write path bytes) files e is =
    let f = file-there path (maps.get s.files path) _ e in
    let none = forbids-none s path kinds.Write whys.Write _ (needs-later path (maps.get s.files path) _ f.0 f.1 e) in
    subst (Unharmed s) (some_same _ files (sym (file-written s.files user path f.0 f.1 bytes) ∙ is)) (put-unharmed s user path (record { owner = f.0.owner; bytes = bytes; before = f.0.before }) (λ l among. no-other (λ (x : LinkRow). forbids_kind x.options kinds.Write) (forbidding s path) l none.0 among))
command-unharmed s user (whats.Delete path) files e is =
    let f = file-there path (maps.get s.files path) _ e in
    let none = forbids-none s path kinds.Delete whys.Delete _ (needs-later path (maps.get s.files path) _ f.0 f.1 e) in
    subst (Unharmed s) (some_same _ files (sym (file-deleted s.files user path f.0 f.1) ∙ is))
    (removed-unharmed s user path (λ l among. false_true (sym (no-other (λ (x : LinkRow). forbids_kind x.options kinds.Delete) (forbidding s path) l none.0 among))))
command-unharmed s user (whats.Rename path to) files e is =
    let f = file-there path (maps.get s.files path) _ e in
    let none = forbids-none s path kinds.Rename whys.Rename _ (needs-later path (maps.get s.files path) _ f.0 f.1 e) in
    subst (Unharmed s) (some_same _ files (sym (file-renamed s.files user path f.0 f.1 to) ∙ is))
    (renamed-unharmed s user path to f.0 (λ l among. false_true (sym (no-other (λ (x : LinkRow). forbids_kind x.options kinds.Rename) (forbidding s path) l none.0 among))) (not-there to (maps.get s.files to) None (owner-later user path f.0 _ none.1)))
command-unharmed s user (whats.Chmod path on) files e is =
    let f = file-there path (maps.get s.files path) _ e in
    let none = forbids-none s path kinds.Chmod whys.Chmod _ (needs-later path (maps.get s.files path) _ f.0 f.1 e) in
    subst (Unharmed s) (some_same _ files (sym (file-owned s.files user path f.0 f.1 on) ∙ is)) (put-unharmed s user path (record { owner = record { name = f.0.owner.name; writable = on }; bytes = f.0.bytes; before = f.0.before }) (λ l among. no-other (λ (x : LinkRow). forbids_kind x.options kinds.Chmod) (forbidding s path) l none.0 among))
command-unharmed s user (whats.Read path token) files e is = subst (Unharmed s) (some_same s.files files is) (same-unharmed s)
command-unharmed s user whats.List files e is = subst (Unharmed s) (some_same s.files files is) (same-unharmed s)

-- FILE COMMANDS
module _ (f : Folds) (s : State) (follows : Follows f s) (fit : fits (tables_of s) ≡ true) (rows : HaveRows s) (files : Files) (unharmed : (p : List ℕ) (l : LinkRow) → In l (forbidding s p) → (x : File) → maps.get s.files p ≡ Some x → (is_some (maps.get files p) ≡ true) × (is_blocked l.options.write ≡ true → maps.get files p ≡ Some x)) where
  kept-whole : (p : List ℕ) (l : LinkRow) → In l (forbidding s p) → l.options.recovery ≡ true → (x : File) → maps.get s.files p ≡ Some x → maps.get files p ≡ Some x
  kept-whole p l among r x at = (unharmed p l among x at).1 (recovery-blocks l.options (rows p l among) r)

  -- a committed link that has a copy is one with RECOVERY YES
  recovers : (p : List ℕ) (l : LinkRow) (k : Copy) → on (links (tables_of s)) p ≡ Some l → maps.get (core_stored (core_of s)).copies (link_key l.link) ≡ Some k → l.options.recovery ≡ true
  recovers p l k at copy =
      let among = (found (λ (x : LinkRow). is_at p x.path) (links (tables_of s)) l at).1 in
      let last = committed-last s.commits l among in
      let of = follows.joint.whole.copies (link_key l.link) (ap is_some copy) in
      let same = follows.joint.whole.one_path of.0 last.0 (link_key l.link) of.1 l of.2 last.1 of.3 (ap (λ (t : Tables). numbered (links t) (link_key l.link)) last.2 ∙ by-number among) in
      ap (λ (x : LinkRow). x.options.recovery) (sym same) ∙ of.4
    where
      differ_by : differ same_number (map (λ (x : LinkRow). x.link) (links (tables_of s))) ≡ true
      differ_by = both (rows_fit (tables_of s)) (differ same_number (map (λ (x : LinkRow). x.link) (links (tables_of s)))) fit
        where
          both : (a b : Bool) → (a && b) ≡ true → b ≡ true
          both true b e = e
          both false b e = absurd (false_true e)

      by-number : In l (links (tables_of s)) → numbered (links (tables_of s)) (link_key l.link) ≡ Some l
      by-number among =
          let some = some-found (λ (x : LinkRow). is_at (link_key l.link) (link_key x.link)) (links (tables_of s)) l among (is_at-self (link_key l.link)) in
          let it = found (λ (x : LinkRow). is_at (link_key l.link) (link_key x.link)) (links (tables_of s)) some.0 some.1 in
          some.1 ∙ ap (λ (x : LinkRow). Some x) (one-only (λ (y : LinkRow). y.link) same_number same-self (links (tables_of s)) differ_by some.0 l it.1 among
          (number-same some.0.link l.link (sym (is_at-same (link_key l.link) (link_key some.0.link) it.0))))

  filed : Joint (with_kept f files s.copies) (core_kept_as (core_of s) files s.copies)
  filed = joint-filed f (core_of s) follows.joint files
      (λ q m e. let t = decided-txn s q m e in ap (λ (x : Moved). x.fill) (sym t.3))
      (λ q m e n g at r x there.
      let t = decided-txn s q m e in
      let among = (found (λ (y : LinkRow). is_at n (link_key y.link)) (moved_of t.0).gives g (ap (λ (y : Moved). numbered y.gives n) t.3 ∙ at)).1 in
      kept-whole g.path g (given-forbids s q t.0 g t.1 t.2 among) r x there)
      (λ p l at x there. (unharmed p l (committed-forbids s p l at) x there).0)
      (λ p l k at copy x there. kept-whole p l (committed-forbids s p l at) (recovers p l k at copy) x there)

  files-lead : (changes : List FileChange) → with_changes s.files changes ≡ Some files → (answer : Answer) → is_refused answer ≡ false
      → (cmd : FileCmd) → Leads f (file_writes s cmd answer changes) (record s { files = files })
  files-lead [] taken answer accepted cmd =
      let same : s.files ≡ files = some_same s.files files taken in
      record { later = f; taken = refl; follows = record { joint = subst (λ (x : Files). Joint f (core_of (record s { files = x }))) same follows.joint; uncut = follows.uncut } }
  files-lead (c ∷ cs) taken answer accepted cmd =
      let P : Bool → Type 0 = λ b. Leads f (when (not b) (in_files (files_records.Batch 0 (c ∷ cs)) ∷ [])) (record s { files = files }) in
      subst P (sym accepted) (record {
        later = with_kept f files s.copies;
        taken = ap (λ (x : Files). with_files f (with_changes x (c ∷ cs))) follows.joint.files ∙ ap (with_files f) taken ∙ (λ i. Some (with_kept f files (follows.joint.copies i)));
        follows = record { joint = filed; uncut = follows.uncut };
      })

pub leads-file : (f : Folds) (s : State) (cmd : FileCmd) → Follows f s → fits (tables_of s) ≡ true → HaveRows s → Leads f (writes s (steps.File cmd)) (step s (steps.File cmd)).1
unfolding step writes
leads-file f s cmd follows fit rows = by (command_refusal s cmd.user cmd.what) refl
  where
    refused : (why : FileRefusal) (changes : List FileChange) → Leads f (file_writes s cmd (by_refusal s cmd (Some why)).0 changes) s
    refused why [] = stays f s follows
    refused why (c ∷ cs) = stays f s follows

    accepted : (what : FileWhat) → is_refused (command_answer s.files what) ≡ false
    accepted (whats.Create path bytes) = refl
    accepted (whats.Write path bytes) = refl
    accepted (whats.Delete path) = refl
    accepted (whats.Rename path to) = refl
    accepted (whats.Chmod path on) = refl
    accepted (whats.Read path token) = by_file (maps.get s.files path)
      where
        by_file : (o : Option File) → is_refused (bytes_of o) ≡ false
        by_file None = refl
        by_file (Some x) = refl
    accepted whats.List = refl

    by : (o : Option FileRefusal) → command_refusal s cmd.user cmd.what ≡ o → Leads f (file_writes s cmd (by_refusal s cmd o).0 (command_changes s.files cmd.user cmd.what)) (by_refusal s cmd o).1
    by (Some why) e = refused why (command_changes s.files cmd.user cmd.what)
    by None e = files-lead f s follows fit rows (by_refusal s cmd None).1.files (command-unharmed s cmd.user cmd.what (by_refusal s cmd None).1.files e (command-taken s cmd e)) (command_changes s.files cmd.user cmd.what) (command-taken s cmd e) (by_refusal s cmd None).0 (accepted cmd.what) cmd
