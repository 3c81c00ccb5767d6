-- A FILE COMMAND: other files are settled to the same copies, where what open transactions archive first is as it was.
use Rattle.std.proofs.Common.{◌≡◌, ◌≢◌, inl, inr, ⊎_elim, ℕ, List, [], ◌∷◌, Bool, true, false, cond, ◌&&◌, Option, Some, None, is_some, refl, sym, ◌∙◌, ap, subst}
use Rattle.std.specs.FinMap as maps
use Rattle.dl_base.specs.declared.column.OnUnlink.{OnUnlink}
use Rattle.dl_base.specs.declared.column.OnUnlink.TheVariants as unlink
use Rattle.dl_base.specs.declared.column.ReadBy.{ReadBy}
use Rattle.dl_base.specs.declared.column.WriteBy.{WriteBy}
use Rattle.dl_base.specs.declared.column.WriteBy.TheVariants as write
use Rattle.dl_base.specs.declared.file.File.{File}
use Rattle.dl_base.specs.declared.value.LinkRow.{LinkRow}
use Rattle.meaning_files.specs.Files.{Files}
use Rattle.meaning_settling.specs.Apart.{Apart, has_key, has_path}
use Rattle.meaning_settling.specs.Settled.{AreDistinct, IsIn, IsNot, settle_open, settled}
use Rattle.meaning_settling.specs.Settling.{Copies, Copy, Kept, Moved, blocked, by_give, by_links, copies_after, copy_after, file_after, filled, first_copy, given_back, link_key, numbered, on, restored, settle_one, taken_over}
use Rattle.meaning_settling.proofs.KeyedLaws.{same_keyed}
use Rattle.meaning_settling.proofs.PartLaws.{get-copies, get-copies-after, get-files, gives-has}
use Rattle.meaning_settling.proofs.SettledLaws.{in-not}
use Rattle.meaning_settling.proofs.SettlingLaws.{copy-off, file-off}
use Rattle.meaning_tables.specs.Links.{links}
use Rattle.meaning_areas.specs.Commits.{Commit, tables_after}
use Rattle.meaning_areas.specs.Core.{Core, core_kept, core_stored, decided_in}
use Rattle.meaning_areas.specs.Joint.{Joint}
use Rattle.meaning_areas.specs.Lists.{Folds}
use Rattle.meaning_areas.specs.Moving.{core_kept_as, with_kept}
use Rattle.meaning_areas.specs.Stands.{IsWhole, txs_of}
use Rattle.meaning_areas.proofs.Deciding.{joint-kept}
use Rattle.meaning_areas.proofs.OwnNumbers.{decided-apart}
use Rattle.meaning_areas.proofs.Whole.{whole-files}

false_true : false ≡ true → ⊥
false_true e = cc

-- where there was a file, there is one

restored-some : (f : Option File) → is_some (restored f) ≡ is_some f
restored-some None = refl
restored-some (Some f) = refl

blocked-some : (r : ReadBy) (f : Option File) → is_some (blocked r f) ≡ is_some f
blocked-some r None = refl
blocked-some r (Some f) = refl

taken-some : (w : WriteBy) (r : ReadBy) (f : Option File) → is_some (taken_over w r f) ≡ is_some f
taken-some write.Fs r f = restored-some f
taken-some write.Blocked r f = blocked-some r f
taken-some write.Admin r f = blocked-some r f

filled-more : (c : Option Copy) (f g : Option File) → (is_some f ≡ true → is_some g ≡ true) → is_some (filled c f) ≡ true → is_some (filled c g) ≡ true
filled-more None f g more e = more e
filled-more (Some c) f None more e = refl
filled-more (Some c) f (Some x) more e = refl

given-more : (u : OnUnlink) (f g : Option File) → (is_some f ≡ true → is_some g ≡ true) → is_some (given_back u f) ≡ true → is_some (given_back u g) ≡ true
given-more unlink.Nothing f g more e = more e
given-more unlink.Restore f g more e = restored-some g ∙ more (sym (restored-some f) ∙ e)
given-more unlink.Delete f g more e = e

links-more : (fill : Bool) (copies : Copies) (give take : Option LinkRow) (f g : Option File) → (is_some f ≡ true → is_some g ≡ true) → is_some (by_links fill copies give take f) ≡ true → is_some (by_links fill copies give take g) ≡ true
links-more fill copies give (Some t) f g more e = taken-some t.options.write t.options.read _ ∙ by (fill && t.options.recovery) (sym (taken-some t.options.write t.options.read _) ∙ e)
  where
    by : (b : Bool) → is_some (cond b (filled (maps.get copies (link_key t.link)) f) f) ≡ true → is_some (cond b (filled (maps.get copies (link_key t.link)) g) g) ≡ true
    by true is = filled-more (maps.get copies (link_key t.link)) f g more is
    by false is = more is
links-more fill copies (Some x) None f g more e = given-more x.options.unlink f g more e
links-more fill copies None None f g more e = more e

-- without fills nothing comes from nothing
links-none : (copies : Copies) (give take : Option LinkRow) → by_links false copies give take None ≡ None
links-none copies give (Some t) = by t.options.write
  where
    by : (w : WriteBy) → taken_over w t.options.read None ≡ None
    by write.Fs = refl
    by write.Blocked = refl
    by write.Admin = refl
links-none copies (Some x) None = by x.options.unlink
  where
    by : (u : OnUnlink) → given_back u None ≡ None
    by unlink.Nothing = refl
    by unlink.Restore = refl
    by unlink.Delete = refl
links-none copies None None = refl

-- OTHER FILES beside the same copies, with the same to be archived first
module _ (a : Moved) (k h : Kept) (same : h.copies ≡ k.copies)
    (reads : (n : List ℕ) (g : LinkRow) → numbered a.gives n ≡ Some g → g.options.recovery ≡ true → first_copy (maps.get k.copies n) (maps.get h.files g.path) ≡ first_copy (maps.get k.copies n) (maps.get k.files g.path)) where
  copies-same : copies_after a h ≡ copies_after a k
  copies-same = same_keyed (copies_after a h) (copies_after a k) (λ n.
      get-copies-after a h n ∙ ap (λ (c : Copies). copy_after a h.files n (maps.get c n)) same ∙ by n (numbered a.gives n) refl ∙ sym (get-copies-after a k n))
    where
      of : (n : List ℕ) (g : LinkRow) → numbered a.gives n ≡ Some g → (b : Bool) → g.options.recovery ≡ b
          → cond b (first_copy (maps.get k.copies n) (maps.get h.files g.path)) (maps.get k.copies n) ≡ cond b (first_copy (maps.get k.copies n) (maps.get k.files g.path)) (maps.get k.copies n)
      of n g at true r = reads n g at r
      of n g at false r = refl

      by : (n : List ℕ) (o : Option LinkRow) → numbered a.gives n ≡ o → by_give h.files o (maps.get k.copies n) ≡ by_give k.files o (maps.get k.copies n)
      by n None at = refl
      by n (Some g) at = of n g at g.options.recovery refl

  settled-copies-same : (settle_one a h).copies ≡ (settle_one a k).copies
  unfolding settle_one
  settled-copies-same = copies-same

  file-of : (p : List ℕ) → maps.get (settle_one a h).files p ≡ file_after a (copies_after a k) p (maps.get h.files p)
  file-of p = get-files a h p ∙ ap (λ (c : Copies). file_after a c p (maps.get h.files p)) copies-same

record Refiled (open_at : ℕ → Option Moved) (ts : List ℕ) (k h : Kept) : Type 0 where
  copies : h.copies ≡ k.copies
  reads : (t : ℕ) (m : Moved) → IsIn t ts → open_at t ≡ Some m → (n : List ℕ) (g : LinkRow) → numbered m.gives n ≡ Some g → g.options.recovery ≡ true → first_copy (maps.get k.copies n) (maps.get h.files g.path) ≡ first_copy (maps.get k.copies n) (maps.get k.files g.path)

module _ (open_at : ℕ → Option Moved) (apart : (t u : ℕ) → t ≢ u → (a b : Moved) → open_at t ≡ Some a → open_at u ≡ Some b → Apart a b) where
  next : (t : ℕ) (ts : List ℕ) (k h : Kept) → AreDistinct (t ∷ ts) → Refiled open_at (t ∷ ts) k h → Refiled open_at ts (settle_open (open_at t) k) (settle_open (open_at t) h)
  next t ts k h once is = by (open_at t) refl
    where
      by : (o : Option Moved) → open_at t ≡ o → Refiled open_at ts (settle_open o k) (settle_open o h)
      by None e = record { copies = is.copies; reads = λ u m among at. is.reads u m (inr among) at }
      by (Some a) e = record {
        copies = settled-copies-same a k h is.copies (is.reads t a (inl refl) e);
        reads = λ u m among at n g has r.
            let two = apart t u (λ (same : t ≡ u). in-not u ts among (subst (λ (x : ℕ). IsNot x ts) same once.0)) a m e at in
            let its = gives-has m n g has in
            let no_key : has_key a n ≡ false = ⊎_elim (λ (lacks : has_key a n ≡ false). lacks) (λ (lacks : has_key m n ≡ false). absurd (false_true (sym lacks ∙ its.0))) (two.keys n) in
            let no_path : has_path a g.path ≡ false = ⊎_elim (λ (lacks : has_path a g.path ≡ false). lacks) (λ (lacks : has_path m g.path ≡ false). absurd (false_true (sym lacks ∙ its.1))) (two.paths g.path) in
            let copy : maps.get (settle_one a k).copies n ≡ maps.get k.copies n = get-copies a k n ∙ copy-off a k.files n (maps.get k.copies n) no_key in
            let file_h : maps.get (settle_one a h).files g.path ≡ maps.get h.files g.path = get-files a h g.path ∙ file-off a (copies_after a h) g.path (maps.get h.files g.path) no_path in
            let file_k : maps.get (settle_one a k).files g.path ≡ maps.get k.files g.path = get-files a k g.path ∙ file-off a (copies_after a k) g.path (maps.get k.files g.path) no_path in
            (λ i. first_copy (copy i) (file_h i)) ∙ is.reads u m (inr among) at n g has r ∙ (λ i. first_copy (sym copy i) (sym file_k i));
      }

  copies-end : (ts : List ℕ) (k h : Kept) → AreDistinct ts → Refiled open_at ts k h → (settled open_at ts h).copies ≡ (settled open_at ts k).copies
  copies-end [] k h once is = is.copies
  copies-end (t ∷ ts) k h once is = copies-end ts (settle_open (open_at t) k) (settle_open (open_at t) h) once.1 (next t ts k h once is)

  some-end : (ts : List ℕ) (k h : Kept) → AreDistinct ts → Refiled open_at ts k h → (p : List ℕ) → (is_some (maps.get k.files p) ≡ true → is_some (maps.get h.files p) ≡ true)
      → is_some (maps.get (settled open_at ts k).files p) ≡ true → is_some (maps.get (settled open_at ts h).files p) ≡ true
  some-end [] k h once is p more = more
  some-end (t ∷ ts) k h once is p more = some-end ts (settle_open (open_at t) k) (settle_open (open_at t) h) once.1 (next t ts k h once is) p (by (open_at t) refl)
    where
      by : (o : Option Moved) → open_at t ≡ o → is_some (maps.get (settle_open o k).files p) ≡ true → is_some (maps.get (settle_open o h).files p) ≡ true
      by None e some = more some
      by (Some a) e some =
          ap is_some (file-of a k h is.copies (is.reads t a (inl refl) e) p)
          ∙ links-more a.fill (copies_after a k) (on a.gives p) (on a.takes p) (maps.get k.files p) (maps.get h.files p) more (sym (ap is_some (get-files a k p)) ∙ some)

  same-end : (ts : List ℕ) (k h : Kept) → AreDistinct ts → Refiled open_at ts k h → (p : List ℕ) → maps.get h.files p ≡ maps.get k.files p → maps.get (settled open_at ts h).files p ≡ maps.get (settled open_at ts k).files p
  same-end [] k h once is p same = same
  same-end (t ∷ ts) k h once is p same = same-end ts (settle_open (open_at t) k) (settle_open (open_at t) h) once.1 (next t ts k h once is) p (by (open_at t) refl)
    where
      by : (o : Option Moved) → open_at t ≡ o → maps.get (settle_open o h).files p ≡ maps.get (settle_open o k).files p
      by None e = same
      by (Some a) e = file-of a k h is.copies (is.reads t a (inl refl) e) p ∙ ap (file_after a (copies_after a k) p) same ∙ sym (get-files a k p)

none-end : (open_at : ℕ → Option Moved) (ts : List ℕ) (k : Kept) (p : List ℕ) → ((t : ℕ) (m : Moved) → open_at t ≡ Some m → m.fill ≡ false) → maps.get k.files p ≡ None → maps.get (settled open_at ts k).files p ≡ None
none-end open_at [] k p fills none = none
none-end open_at (t ∷ ts) k p fills none = none-end open_at ts (settle_open (open_at t) k) p fills (by (open_at t) refl)
  where
    by : (o : Option Moved) → open_at t ≡ o → maps.get (settle_open o k).files p ≡ None
    by None e = none
    by (Some a) e = get-files a k p ∙ ap (file_after a (copies_after a k) p) none ∙ ap (λ b. by_links b (copies_after a k) (on a.gives p) (on a.takes p) None) (fills t a e) ∙ links-none (copies_after a k) (on a.gives p) (on a.takes p)

-- OTHER FILES go with the core that has them: each committed link has its file still, and where it has a copy, the same one; and what
-- decided transactions are to archive first is as it was
module _ (f : Folds) (c : Core) (joint : Joint f c) (files : Files)
    (fills : (t : ℕ) (m : Moved) → decided_in c t ≡ Some m → m.fill ≡ false)
    (given : (t : ℕ) (m : Moved) → decided_in c t ≡ Some m → (n : List ℕ) (g : LinkRow) → numbered m.gives n ≡ Some g → g.options.recovery ≡ true → (x : File) → maps.get c.files g.path ≡ Some x → maps.get files g.path ≡ Some x)
    (linked : (p : List ℕ) (l : LinkRow) → on (links (tables_after [] c.commits)) p ≡ Some l → (x : File) → maps.get c.files p ≡ Some x → is_some (maps.get files p) ≡ true)
    (archived : (p : List ℕ) (l : LinkRow) (k : Copy) → on (links (tables_after [] c.commits)) p ≡ Some l → maps.get (core_stored c).copies (link_key l.link) ≡ Some k → (x : File) → maps.get c.files p ≡ Some x → maps.get files p ≡ Some x) where
  abbrev later : Core
  later = core_kept_as c files c.copies

  -- a copy or a file was there
  ready : (t : ℕ) (m : Moved) → decided_in c t ≡ Some m → (n : List ℕ) (g : LinkRow) → numbered m.gives n ≡ Some g → g.options.recovery ≡ true → is_some (first_copy (maps.get c.copies n) (maps.get c.files g.path)) ≡ true
  ready t m e n g at r =
      ap (λ (fs : Files). is_some (first_copy (maps.get c.copies n) (maps.get fs g.path))) (sym joint.files)
      ∙ ap (λ (cs : Copies). is_some (first_copy (maps.get cs n) (maps.get f.files g.path))) (sym joint.copies)
      ∙ joint.ready t m e n g at r

  firsts : (t : ℕ) (m : Moved) → decided_in c t ≡ Some m → (n : List ℕ) (g : LinkRow) → numbered m.gives n ≡ Some g → g.options.recovery ≡ true → first_copy (maps.get c.copies n) (maps.get files g.path) ≡ first_copy (maps.get c.copies n) (maps.get c.files g.path)
  firsts t m e n g at r = by (maps.get c.copies n) (maps.get c.files g.path) refl (ready t m e n g at r)
    where
      by : (o : Option Copy) (x : Option File) → maps.get c.files g.path ≡ x → is_some (first_copy o x) ≡ true → first_copy o (maps.get files g.path) ≡ first_copy o x
      by (Some k) x there some = refl
      by None (Some x) there some = ap (first_copy None) (given t m e n g at r x there)
      by None None there some = absurd (false_true some)

  is : Refiled (decided_in c) (txs_of c.commits) (core_kept c) (core_kept later)
  is = record { copies = refl; reads = λ t m among e. firsts t m e }

  once : AreDistinct (txs_of c.commits)
  once = subst (λ (cs : List Commit). AreDistinct (txs_of cs)) joint.commits joint.distinct

  same-copies : (core_stored later).copies ≡ (core_stored c).copies
  same-copies = copies-end (decided_in c) (decided-apart f c joint) (txs_of c.commits) (core_kept c) (core_kept later) once is

  -- a committed link has a file, before settling too
  file-before : (p : List ℕ) (l : LinkRow) → on (links (tables_after [] c.commits)) p ≡ Some l → (x : File) × (maps.get c.files p ≡ Some x)
  file-before p l at = by (maps.get c.files p) refl
    where
      by : (o : Option File) → maps.get c.files p ≡ o → (x : File) × (maps.get c.files p ≡ Some x)
      by (Some x) there = (x, there)
      by None none = absurd (false_true (sym (ap is_some (none-end (decided_in c) (txs_of c.commits) (core_kept c) p fills none)) ∙ joint.whole.files p l at))

  whole-there : (p : List ℕ) (l : LinkRow) → on (links (tables_after [] c.commits)) p ≡ Some l → is_some (maps.get (core_stored later).files p) ≡ true
  whole-there p l at =
      let was = file-before p l at in
      some-end (decided_in c) (decided-apart f c joint) (txs_of c.commits) (core_kept c) (core_kept later) once is p (λ some. linked p l at was.0 was.1) (joint.whole.files p l at)

  whole-bytes : (p : List ℕ) (l : LinkRow) (k : Copy) (x : File) → on (links (tables_after [] c.commits)) p ≡ Some l → maps.get (core_stored c).copies (link_key l.link) ≡ Some k → maps.get (core_stored later).files p ≡ Some x → x.bytes ≡ k.bytes
  whole-bytes p l k x at copy there =
      let was = file-before p l at in
      let same : maps.get files p ≡ maps.get c.files p = archived p l k at copy was.0 was.1 ∙ sym was.1 in
      joint.whole.bytes p l k x at copy (sym (same-end (decided_in c) (decided-apart f c joint) (txs_of c.commits) (core_kept c) (core_kept later) once is p same) ∙ there)

  pub joint-filed : Joint (with_kept f files c.copies) (core_kept_as c files c.copies)
  joint-filed =
      let whole = whole-files (core_stored c) (core_stored later).files joint.whole whole-there whole-bytes in
      let same : core_stored later ≡ record { commits = c.commits; files = (core_stored later).files; copies = (core_stored c).copies; backups = c.backups; rows_opening = c.rows_opening; links_opening = c.links_opening } =
      λ i. record { commits = c.commits; files = (core_stored later).files; copies = same-copies i; backups = c.backups; rows_opening = c.rows_opening; links_opening = c.links_opening } in
      joint-kept f c joint files c.copies (λ t m e n g at r. ap is_some (firsts t m e n g at r) ∙ ready t m e n g at r) (subst IsWhole (sym same) whole)
