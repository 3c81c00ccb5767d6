-- How the links of a restore come from those before, and what becomes of their files and copies.
use Rattle.std.proofs.Common.{◌≡◌, ◌⊎◌, inl, inr, ⊎_elim, ℕ, List, [], ◌∷◌, Bool, true, false, not, cond, ◌&&◌, length, Option, Some, None, is_none, is_some, refl, sym, ◌∙◌, ap, subst}
use Rattle.std.specs.FinMap as maps
use Rattle.std.specs.List.{list_any}
use Rattle.dl_base.specs.declared.column.ReadBy.{ReadBy}
use Rattle.dl_base.specs.declared.column.WriteBy.{WriteBy}
use Rattle.dl_base.specs.declared.column.WriteBy.TheVariants as write
use Rattle.dl_base.specs.declared.file.File.{File}
use Rattle.dl_base.specs.declared.value.LinkRow.{LinkRow}
use Rattle.meaning_areas.specs.Commits.{Commit}
use Rattle.meaning_areas.specs.Merges.{Merges}
use Rattle.meaning_areas.specs.Stands.{IsCommit}
use Rattle.meaning_merge.specs.Touching.{In, is_in}
use Rattle.meaning_merge.proofs.MovedLaws.{in-lacking, in-number, moved-paths, none-in, on-in}
use Rattle.meaning_merge.proofs.Numbers.{distinct-same, is_in-number, number-same}
use Rattle.meaning_merge.proofs.Paths.{in-numbered, key-same, none-numbered, numbered-in, one-differ}
use Rattle.meaning_settling.specs.Keyed.{is_at}
use Rattle.meaning_settling.specs.Settling.{Copy, Moved, by_give, by_links, copies_after, filled, held_by, link_key, numbered, on, settle_one, taken_over}
use Rattle.meaning_settling.proofs.KeyedLaws.{false_true, is_at-self, or-left, or-right}
use Rattle.meaning_settling.proofs.PartLaws.{get-copies, get-copies-after, get-files}
use Rattle.meaning_tables.specs.Links.{links, takes}
use Rattle.meaning_tables.specs.Tables.{Tables}
use Rattle.meaning_system.specs.Machine.{lost_to, restore_moved, restore_to}
use Rattle.meaning_system.specs.State.{State, kept_in, tables_of}
use Rattle.meaning_restore.proofs.Let.{IsLet, commit-past, given, given-distinct, given-link, last-at, last-distinct, last-paths, later-distinct, later-in, later-one, later-paths, past-commit, past-distinct, past-one, taken, taken-link}

-- a file that is taken over is there, with its bytes

taken-there : (w : WriteBy) (r : ReadBy) (f : Option File) → is_some f ≡ true → is_some (taken_over w r f) ≡ true
taken-there w r None e = absurd (false_true e)
taken-there write.Fs r (Some f) e = refl
taken-there write.Blocked r (Some f) e = refl
taken-there write.Admin r (Some f) e = refl

filled-there : (c : Option Copy) (f : Option File) → is_some c ≡ true → is_some (filled c f) ≡ true
filled-there None f e = absurd (false_true e)
filled-there (Some c) None e = refl
filled-there (Some c) (Some f) e = refl

file-same : (f g : File) → Some f ≡ Some g → f.bytes ≡ g.bytes
file-same f g e = ap (λ (x : File). x.bytes) (let is : f ≡ g = cc in is)

over-bytes : (w : WriteBy) (r : ReadBy) (f g : File) → taken_over w r (Some f) ≡ Some g → f.bytes ≡ g.bytes
over-bytes write.Fs r f g e = file-same _ g e
over-bytes write.Blocked r f g e = file-same _ g e
over-bytes write.Admin r f g e = file-same _ g e

filled-bytes : (w : WriteBy) (r : ReadBy) (c : Copy) (f : Option File) (g : File) → taken_over w r (filled (Some c) f) ≡ Some g → g.bytes ≡ c.bytes
filled-bytes w r c None g e = sym (over-bytes w r _ g e)
filled-bytes w r c (Some f) g e = sym (over-bytes w r _ g e)

any-recovery : (ls : List LinkRow) (t : LinkRow) → In t ls → t.options.recovery ≡ true → list_any (λ (l : LinkRow). l.options.recovery) ls ≡ true
any-recovery [] t is e = absurd is
any-recovery (x ∷ xs) t is e = ⊎_elim
    (λ (here : t ≡ x). or-left x.options.recovery (list_any (λ (l : LinkRow). l.options.recovery) xs) (ap (λ (l : LinkRow). l.options.recovery) (sym here) ∙ e))
    (λ (later : In t xs). or-right x.options.recovery (list_any (λ (l : LinkRow). l.options.recovery) xs) (any-recovery xs t later e)) is

any-key : (ls : List LinkRow) (t : LinkRow) → In t ls → list_any (λ (u : LinkRow). is_at (link_key u.link) (link_key t.link)) ls ≡ true
any-key [] t is = absurd is
any-key (x ∷ xs) t is = ⊎_elim
    (λ (here : t ≡ x). or-left (is_at (link_key x.link) (link_key t.link)) (list_any (λ (u : LinkRow). is_at (link_key u.link) (link_key t.link)) xs) (ap (λ (u : LinkRow). is_at (link_key u.link) (link_key t.link)) (sym here) ∙ is_at-self (link_key t.link)))
    (λ (later : In t xs). or-right (is_at (link_key x.link) (link_key t.link)) (list_any (λ (u : LinkRow). is_at (link_key u.link) (link_key t.link)) xs) (any-key xs t later)) is

not-lost-file : (taken recovery : Bool) (o : Option File) → taken ≡ true → recovery ≡ false → (taken && not recovery && is_none o) ≡ false → is_some o ≡ true
not-lost-file true false (Some f) a b e = refl
not-lost-file true false None a b e = absurd (false_true (sym e))
not-lost-file true true o a b e = absurd (false_true (sym b))
not-lost-file false recovery o a b e = absurd (false_true a)

module _ (first : ℕ) (s : State) (target : Tables) (has : IsLet first s target) where
  abbrev committed : Tables
  committed = tables_of s

  abbrev restored : Tables
  restored = restore_to s target

  abbrev gone : List LinkRow
  gone = given first s target has

  abbrev new : List LinkRow
  new = taken first s target has

  abbrev m : Moved
  m = restore_moved s (restore_to s target)

  -- PATHS

  moved-at : (p : List ℕ) → on (links restored) p ≡ held_by (on gone p) (on new p) (on (links committed) p)
  moved-at p = moved-paths (links committed) (links restored) (last-paths first s target has) (later-paths first s target has)
      (λ x y in_x in_y e. later-one first s target has (length s.commits) committed x y (last-at first s target has) in_x in_y (number-same x.link y.link e))
      (λ x y in_x in_y e. later-one first s target has (length s.commits) committed x y (last-at first s target has) in_x in_y (sym (number-same y.link x.link e))) p

  -- NUMBERS

  of-commit : (n : List ℕ) (g : LinkRow) → numbered gone n ≡ Some g → (x : Commit) × IsCommit x s.commits × (numbered (links x.tables) n ≡ Some g)
  of-commit n g e =
      let is = numbered-in gone n g e in
      let old = (given-link first s target has g is.0).0 in
      ⊎_elim
      (λ (none : [] ≡ committed). absurd (subst (λ (ts : Tables). In g (links ts)) (sym none) old))
      (λ (c : (x : Commit) × IsCommit x s.commits × (x.tables ≡ committed)).
      (c.0, c.1, ap (λ (ts : Tables). numbered (links ts) n) c.2 ∙ ap (numbered (links committed)) is.1 ∙ in-numbered (links committed) g (last-distinct first s target has) old))
      (past-commit [] s.commits (length s.commits) committed (last-at first s target has))

  one-of : (x : Commit) (n : List ℕ) (a b : LinkRow) → IsCommit x s.commits → numbered (links x.tables) n ≡ Some a → numbered (links restored) n ≡ Some b → a ≡ b
  one-of x n a b is at_a at_b =
      let m = commit-past [] s.commits x is in
      let in_a = numbered-in (links x.tables) n a at_a in
      let in_b = numbered-in (links restored) n b at_b in
      later-one first s target has m.0 x.tables a b m.1 in_a.0 in_b.0 (key-same a.link b.link (sym in_a.1 ∙ in_b.1))

  gone-of : (x : Commit) (n : List ℕ) (l : LinkRow) → IsCommit x s.commits → numbered (links x.tables) n ≡ Some l → numbered (links restored) n ≡ None → (numbered (links committed) n ≡ None) ⊎ (numbered gone n ≡ Some l)
  gone-of x n l is at_l none = by (numbered (links committed) n) refl
    where
      by : (o : Option LinkRow) → numbered (links committed) n ≡ o → (numbered (links committed) n ≡ None) ⊎ (numbered gone n ≡ Some l)
      by None e = inl e
      by (Some y) e =
          let m = commit-past [] s.commits x is in
          let in_l = numbered-in (links x.tables) n l at_l in
          let in_y = numbered-in (links committed) n y e in
          let same : l ≡ y = past-one first s target has m.0 (length s.commits) x.tables committed l y m.1 (last-at first s target has) in_l.0 in_y.0 (key-same l.link y.link (sym in_l.1 ∙ in_y.1)) in
          let lacks : is_in (links restored) y ≡ false = none-numbered (links restored) y (later-distinct first s target has) (ap (numbered (links restored)) (sym in_y.1) ∙ none) in
          inr (ap (numbered gone) in_y.1 ∙ in-numbered gone y (given-distinct first s target has) (in-lacking (links committed) (links restored) y in_y.0 lacks) ∙ ap (λ (z : LinkRow). Some z) (sym same))

  stays-of : (p : List ℕ) (l : LinkRow) → on new p ≡ None → on gone p ≡ None → on (links committed) p ≡ Some l → numbered gone (link_key l.link) ≡ None
  stays-of p l free still at = by (numbered gone (link_key l.link)) refl
    where
      in_l : In l (links committed) × (l.path ≡ p)
      in_l = on-in (links committed) p l at

      by : (o : Option LinkRow) → numbered gone (link_key l.link) ≡ o → numbered gone (link_key l.link) ≡ None
      by None e = e
      by (Some g) e =
          let in_g = numbered-in gone (link_key l.link) g e in
          let same : g ≡ l = distinct-same (links committed) g l (last-distinct first s target has) (given-link first s target has g in_g.0).0 in_l.0 (sym (key-same l.link g.link in_g.1)) in
          absurd (none-in gone l (ap (on gone) in_l.1 ∙ still) (subst (λ (z : LinkRow). In z gone) same in_g.0))

  -- A LINK THAT IS TAKEN

  module _ (t : LinkRow) (is : In t new) where
    there : In t (links restored) × (is_in (links committed) t ≡ false)
    there = taken-link first s target has t is

    of_target : In t (links target) × (lost_to s target t ≡ false)
    of_target = later-in first s target has t there.0

    -- its number is not given, so its copy is as it was
    not-given : numbered gone (link_key t.link) ≡ None
    not-given = by (numbered gone (link_key t.link)) refl
      where
        by : (o : Option LinkRow) → numbered gone (link_key t.link) ≡ o → numbered gone (link_key t.link) ≡ None
        by None e = e
        by (Some g) e =
            let in_g = numbered-in gone (link_key t.link) g e in
            absurd (false_true (sym there.1 ∙ is_in-number (links committed) t g (key-same t.link g.link in_g.1) ∙ in-number (links committed) g (given-link first s target has g in_g.0).0))

    same-copy : maps.get (copies_after m (kept_in s)) (link_key t.link) ≡ maps.get s.copies (link_key t.link)
    same-copy = get-copies-after m (kept_in s) (link_key t.link) ∙ ap (λ (o : Option LinkRow). by_give s.files o (maps.get s.copies (link_key t.link))) not-given

    not-committed : numbered (links committed) (link_key t.link) ≡ None
    not-committed = by (numbered (links committed) (link_key t.link)) refl
      where
        by : (o : Option LinkRow) → numbered (links committed) (link_key t.link) ≡ o → numbered (links committed) (link_key t.link) ≡ None
        by None e = e
        by (Some g) e =
            let in_g = numbered-in (links committed) (link_key t.link) g e in
            absurd (false_true (sym there.1 ∙ is_in-number (links committed) t g (key-same t.link g.link in_g.1) ∙ in-number (links committed) g in_g.0))

    -- with RECOVERY YES it has a copy, and with RECOVERY NO a file
    archived : t.options.recovery ≡ true → is_some (maps.get s.copies (link_key t.link)) ≡ true
    archived recovery = ⊎_elim
        (λ (e : [] ≡ target). absurd (subst (λ (ts : Tables). In t (links ts)) (sym e) of_target.0))
        (λ (c : (x : Commit) × IsCommit x s.commits × (x.tables ≡ target)).
        has.whole.archived c.0 (link_key t.link) t c.1
        (ap (λ (ts : Tables). numbered (links ts) (link_key t.link)) c.2 ∙ in-numbered (links target) t (past-distinct first s target has has.number target has.at) of_target.0)
        recovery not-committed)
        (past-commit [] s.commits has.number target has.at)

    backed : t.options.recovery ≡ false → is_some (maps.get s.files t.path) ≡ true
    backed plain = not-lost-file (list_any (λ (u : LinkRow). is_at (link_key u.link) (link_key t.link)) (takes committed target)) t.options.recovery (maps.get s.files t.path)
        (any-key (takes committed target) t (in-lacking (links target) (links committed) t of_target.0 there.1)) plain of_target.1

  module _ (p : List ℕ) (t : LinkRow) (e : on new p ≡ Some t) where
    is_new : In t new × (t.path ≡ p)
    is_new = on-in new p t e

    abbrev copy_now : Option Copy
    copy_now = maps.get (copies_after m (kept_in s)) (link_key t.link)

    abbrev file_before : Option File
    file_before = maps.get s.files p

    file_now : maps.get (settle_one m (kept_in s)).files p ≡ taken_over t.options.write t.options.read (cond (m.fill && t.options.recovery) (filled copy_now file_before) file_before)
    file_now = get-files m (kept_in s) p ∙ ap (λ (o : Option LinkRow). by_links m.fill (copies_after m (kept_in s)) (on gone p) o (maps.get s.files p)) e

    fills : t.options.recovery ≡ true → (m.fill && t.options.recovery) ≡ true
    fills on_copy = ap (λ b. b && t.options.recovery) (any-recovery new t is_new.0 on_copy) ∙ on_copy

    fills-not : t.options.recovery ≡ false → (m.fill && t.options.recovery) ≡ false
    fills-not plain = by m.fill plain
      where
        by : (b : Bool) → t.options.recovery ≡ false → (b && t.options.recovery) ≡ false
        by true plain = plain
        by false plain = refl

    there-of : is_some (maps.get (settle_one m (kept_in s)).files p) ≡ true
    there-of = ap is_some file_now ∙ by t.options.recovery refl
      where
        by : (b : Bool) → t.options.recovery ≡ b → is_some (taken_over t.options.write t.options.read (cond (m.fill && t.options.recovery) (filled copy_now file_before) file_before)) ≡ true
        by true on_copy =
            ap (λ b. is_some (taken_over t.options.write t.options.read (cond b (filled copy_now file_before) file_before))) (fills on_copy)
            ∙ taken-there t.options.write t.options.read (filled copy_now file_before) (filled-there copy_now file_before (ap is_some (same-copy t is_new.0) ∙ archived t is_new.0 on_copy))
        by false plain =
            ap (λ b. is_some (taken_over t.options.write t.options.read (cond b (filled copy_now file_before) file_before))) (fills-not plain)
            ∙ taken-there t.options.write t.options.read file_before (ap (λ q. is_some (maps.get s.files q)) (sym is_new.1) ∙ backed t is_new.0 plain)

    -- a copy is of a link with RECOVERY YES, so the file is filled from it
    taken-of : (c : Copy) (f : File) → maps.get (settle_one m (kept_in s)).copies (link_key t.link) ≡ Some c → maps.get (settle_one m (kept_in s)).files p ≡ Some f → f.bytes ≡ c.bytes
    taken-of c f at_c at_f =
        let copied : copy_now ≡ Some c = get-copies-after m (kept_in s) (link_key t.link) ∙ sym (get-copies m (kept_in s) (link_key t.link)) ∙ at_c in
        let stored : maps.get s.copies (link_key t.link) ≡ Some c = sym (same-copy t is_new.0) ∙ copied in
        let old = has.whole.copies (link_key t.link) (ap is_some stored) in
        let n = commit-past [] s.commits old.0 old.2 in
        let in_old = numbered-in (links old.0.tables) (link_key t.link) old.1 old.3 in
        let same : old.1 ≡ t = past-one first s target has n.0 has.number old.0.tables target old.1 t n.1 has.at in_old.0 (of_target t is_new.0).0 (sym (key-same t.link old.1.link in_old.1)) in
        let on_copy : t.options.recovery ≡ true = ap (λ (l : LinkRow). l.options.recovery) (sym same) ∙ old.4 in
        filled-bytes t.options.write t.options.read c file_before f
        (ap (λ (o : Option Copy). taken_over t.options.write t.options.read (filled o file_before)) (sym copied)
        ∙ ap (λ b. taken_over t.options.write t.options.read (cond b (filled copy_now file_before) file_before)) (sym (fills on_copy))
        ∙ sym file_now ∙ at_f)

  pub restore-merges : Merges s.commits (kept_in s) (restore_moved s (restore_to s target)) (restore_to s target)
  restore-merges = record {
    moved = moved-at;
    paths = one-differ (links restored) (later-paths first s target has);
    one_path = one-of;
    given = of-commit;
    gone = gone-of;
    stays = stays-of;
    there = λ p t e. there-of p t e;
    taken = λ p t c f e at_c at_f. taken-of p t e c f at_c at_f;
  }
